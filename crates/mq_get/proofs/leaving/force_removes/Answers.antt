use Rattle.std.proofs.Common.{◌≡◌, ℕ, ◌+◌, ◌<◌, ◌≤◌, ◌∙◌, ap, subst, arith}
use Rattle.std.specs.Prelude.{List, [], length, OnOk}
use Rattle.std.specs.List.{flat_map}
use Rattle.std.proofs.lemmas.List.{length-append}
use Rattle.mq_base.specs.Outside.{Rose}
use Rattle.mq_calls.specs.Words.{need}
use Rattle.mq_calls.specs.declared.records.LogRecord.{LogRecord}
use Rattle.mq_calls.specs.declared.records.LogRecord.TheVariants as records
use Rattle.mq_log.specs.State.{LogState, Appended}
use Rattle.mq_log.specs.Force.{Stops}
use Rattle.mq_unit.specs.from_record.Records.{record_bytes, unit_front, remove_bytes}
use Rattle.mq_unit.specs.from_record.Room.{Buffered}
use Rattle.mq_unit.proofs.from_record.SizeLaws.{record_whole}
use Rattle.mq_core.specs.Views.{PartsValue}
use Rattle.mq_core.proofs.RoomLaws.{with_parts}
use Rattle.mq_get.proofs.LoopLaws.{record_pieces, record_are, removes_record}
use Rattle.mq_get.proofs.leaving.force_removes.Goals as goal

pub overflow_cast-removes : goal.overflow_cast-removes
overflow_cast-removes g c = omega (arith, c.requires.small)

pub put_removes-requires : goal.put_removes-requires
put_removes-requires g c =
    let taken = ap (λ (x : PartsValue). x.body.room + length x.body.bytes) c.parts.view_is in
    let cleared = ap (λ (b : Buffered). b.room) c.clear.ensures in
    let first = ap (λ (b : Buffered). b.room) c.put.ensures in
    let nine : length c.unit_front.result ≡ 9 = ap (λ (f : List ℕ). length f) c.unit_front.ensures in
    omega (arith, taken, cleared, first, nine, c.requires.body)

pub append_forced-requires-clause-small : goal.append_forced-requires-clause-small
append_forced-requires-clause-small g c =
    let rs = c.args.removes.now in
    let few : length rs < 4294967296 = omega (arith, c.requires.small) in
    let front : c.unit_front.result ≡ unit_front 0 (length rs) = c.unit_front.ensures in
    let bytes = c.as_slice.ensures ∙ record_are rs c.unit_front.result c.clear.new.self c.put.new.self c.put_removes.new.body (ap (λ (b : Buffered). b.bytes) c.clear.ensures) front c.put.ensures c.put_removes.ensures.bytes in
    let size = ap length bytes ∙ record_whole (records.Unit [] rs) (removes_record rs few c.put_removes.ensures.removes) in
    omega (arith, size, c.requires.small)

pub append_forced-requires-clause-room : goal.append_forced-requires-clause-room
append_forced-requires-clause-room g c =
    let rs = c.args.removes.now in
    let few : length rs < 4294967296 = omega (arith, c.requires.small) in
    let front : c.unit_front.result ≡ unit_front 0 (length rs) = c.unit_front.ensures in
    let bytes = c.as_slice.ensures ∙ record_are rs c.unit_front.result c.clear.new.self c.put.new.self c.put_removes.new.body (ap (λ (b : Buffered). b.bytes) c.clear.ensures) front c.put.ensures c.put_removes.ensures.bytes in
    let size = ap length bytes ∙ record_whole (records.Unit [] rs) (removes_record rs few c.put_removes.ensures.removes) in
    let room = ap (λ (x : PartsValue). x.log.room) c.parts.view_is in
    omega (arith, size, room, c.requires.room)

pub returns : goal.returns
unfolding with_parts
returns g c =
    let rs = c.args.removes.now in
    let few : length rs < 4294967296 = omega (arith, c.requires.small) in
    let front : c.unit_front.result ≡ unit_front 0 (length rs) = c.unit_front.ensures in
    let old : PartsValue = c.args.parts.now in
    let r : LogRecord = records.Unit [] rs in
    let none = ap (λ (b : Buffered). b.bytes) c.clear.ensures in
    let bytes = c.as_slice.ensures ∙ record_are rs c.unit_front.result c.clear.new.self c.put.new.self c.put_removes.new.body none front c.put.ensures c.put_removes.ensures.bytes in
    let fits = removes_record rs few c.put_removes.ensures.removes in
    let whole = record_whole r fits in
    let size = ap length bytes ∙ whole in
    let log = ap (λ (x : PartsValue). x.log) c.parts.view_is in
    let e = c.append_forced.ensures in
    let new : LogState = c.append_forced.new.self in
    let needs : 5 + length c.as_slice.result.now ≡ need r = omega (arith, size) in
    record {
      same = ap (with_parts c.parts.inside.queues new c.put_removes.new.body) c.parts.view_is ∙ (λ i. with_parts (c.parts.view_is i).queues new c.put_removes.new.body old);
      log = subst (λ (l : LogState). Appended l (record_bytes r) c.append_forced.result new) log (subst (λ (b : List ℕ). Appended c.parts.inside.log b c.append_forced.result new) bytes e.appended);
      fits = λ named. fits;
      size = whole;
      ends = subst (λ (n : ℕ). Stops n c.append_forced.result new.armed) (ap (λ (l : LogState). l.armed) log) e.ends;
      room = subst (λ (n : ℕ). OnOk c.append_forced.result (n ≤ new.room + need r)) (ap (λ (l : LogState). l.room) log) (subst (λ (n : ℕ). OnOk c.append_forced.result (c.parts.inside.log.room ≤ new.room + n)) needs e.room);
      body =
          let taken = ap (λ (x : PartsValue). x.body.room + length x.body.bytes) c.parts.view_is in
          let cleared = ap (λ (b : Buffered). b.room) c.clear.ensures in
          let first = ap (λ (b : Buffered). b.room) c.put.ensures in
          let second = ap (λ (b : Buffered). b.room) c.put_removes.ensures.bytes in
          let sum = ap length (record_pieces rs c.unit_front.result c.clear.new.self c.put.new.self c.put_removes.new.body none c.put.ensures c.put_removes.ensures.bytes) ∙ length-append c.unit_front.result (flat_map remove_bytes rs) in
          omega (arith, taken, cleared, first, second, sum, size, ap length c.as_slice.ensures, c.requires.body);
      later = let f = ap (λ (l : LogState). l.faults) log in omega (arith, f, e.later);
      disk = λ d. subst (λ (n : ℕ). Rose n new.faults) (ap (λ (l : LogState). l.faults) log) (e.disk d);
    }
