use Rattle.std.proofs.Common.{◌≡◌, ℕ, ◌+◌, ◌≤◌, subst}
use Rattle.std.specs.Prelude.{List, length, OnOk}
use Rattle.mq_calls.specs.Words.{record_size}
use Rattle.mq_calls.specs.declared.records.LogRecord.{LogRecord}
use Rattle.mq_log.specs.State.{LogState, Appended}
use Rattle.mq_sides.specs.from_record.Records.{record_bytes}
use Rattle.mq_core.specs.Writes.{FitsRecord}
use Rattle.mq_core.specs.Views.{PartsValue}
use Rattle.mq_core.specs.Forced.{IsForced}
use Rattle.mq_core.proofs.ForceLaws.{forced_body}
use Rattle.mq_core.proofs.parts.Parts.force_body.Goals as goal

pub returns : goal.returns
returns g c =
    let new : LogState = c.append_forced.new.self in
    let e = c.append_forced.ensures in
    let bytes = c.as_slice.ensures in
    let y : PartsValue = record {
      number = c.self.inside.number;
      name = c.self.inside.name;
      mode = c.self.inside.mode;
      defs = c.self.inside.defs;
      queues = c.self.inside.queues;
      desk = c.self.inside.live;
      ends = c.self.inside.ends;
      moment = c.self.inside.moment;
      incarnation = c.self.inside.incarnation;
      idents = c.self.inside.idents;
      log = new;
      body = c.self.inside.body;
    } in
    subst (λ (x : PartsValue). (r : LogRecord) → x.body.bytes ≡ record_bytes r → FitsRecord r → length (record_bytes r) ≡ record_size r → IsForced r x c.append_forced.result y) c.self.view_is
    (λ r is fits size. forced_body r (record y { log = c.self.inside.log }) new c.append_forced.result is fits size
    (subst (λ (b : List ℕ). Appended c.self.inside.log b c.append_forced.result new) bytes e.appended) e.ends
    (subst (λ (b : List ℕ). OnOk c.append_forced.result (c.self.inside.log.room ≤ new.room + (5 + length b))) bytes e.room) e.later e.disk)
