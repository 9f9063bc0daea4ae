use Rattle.std.proofs.Common.{◌≡◌, ℕ, ◌+◌, ◌≤◌, ◌∙◌, ap, subst, arith}
use Rattle.std.specs.Prelude.{List, length, OnOk}
use Rattle.std.proofs.lemmas.List.{length-append}
use Rattle.mq_base.specs.Outside.{Rose}
use Rattle.mq_calls.specs.Words.{need}
use Rattle.mq_log.specs.State.{LogState, Appended}
use Rattle.mq_log.specs.Force.{Stops}
use Rattle.mq_sides.specs.from_record.Records.{record_bytes, add_bytes}
use Rattle.mq_sides.specs.from_record.Room.{Buffered}
use Rattle.mq_sides.proofs.from_record.SizeLaws.{record_whole}
use Rattle.mq_core.specs.Views.{PartsValue}
use Rattle.mq_core.specs.Writes.{added}
use Rattle.mq_core.proofs.RoomLaws.{with_parts, put_bytes_are, put_pieces, put_is_record}
use Rattle.mq_core.proofs.parts.Parts.force_put.Goals as goal

pub append_forced-requires-clause-small : goal.append_forced-requires-clause-small
append_forced-requires-clause-small g c =
    let r = added c.args.queue.now c.args.message.now in
    let bytes = c.as_slice.ensures ∙ put_bytes_are c.args.queue.now c.args.message.now c.unit_front.result c.clear.new.self c.put.new.self c.put_add.new.self (ap (λ (b : Buffered). b.bytes) c.clear.ensures) c.unit_front.ensures c.put.ensures c.put_add.ensures.bytes in
    let size = ap length bytes ∙ record_whole r (put_is_record c.args.queue.now c.args.message.now (c.put_add.ensures.add c.requires.kept)) in
    omega (arith, size, c.requires.small)

pub append_forced-requires-clause-room : goal.append_forced-requires-clause-room
append_forced-requires-clause-room g c =
    let r = added c.args.queue.now c.args.message.now in
    let bytes = c.as_slice.ensures ∙ put_bytes_are c.args.queue.now c.args.message.now c.unit_front.result c.clear.new.self c.put.new.self c.put_add.new.self (ap (λ (b : Buffered). b.bytes) c.clear.ensures) c.unit_front.ensures c.put.ensures c.put_add.ensures.bytes in
    let size = ap length bytes ∙ record_whole r (put_is_record c.args.queue.now c.args.message.now (c.put_add.ensures.add c.requires.kept)) in
    let room = ap (λ (x : PartsValue). x.log.room) c.self.view_is in
    omega (arith, size, room, c.requires.room)

pub returns : goal.returns
unfolding with_parts
returns g c =
    let old : PartsValue = c.args.self.now in
    let r = added c.args.queue.now c.args.message.now in
    let bytes = c.as_slice.ensures ∙ put_bytes_are c.args.queue.now c.args.message.now c.unit_front.result c.clear.new.self c.put.new.self c.put_add.new.self (ap (λ (b : Buffered). b.bytes) c.clear.ensures) c.unit_front.ensures c.put.ensures c.put_add.ensures.bytes in
    let fits = put_is_record c.args.queue.now c.args.message.now (c.put_add.ensures.add c.requires.kept) in
    let whole = record_whole r fits in
    let size = ap length bytes ∙ whole in
    let log = ap (λ (x : PartsValue). x.log) c.self.view_is in
    let e = c.append_forced.ensures in
    let new : LogState = c.append_forced.new.self in
    let needs : 5 + length c.as_slice.result.now ≡ need r = omega (arith, size) in
    record {
      same = ap (with_parts c.self.inside.queues new c.put_add.new.self) c.self.view_is ∙ (λ i. with_parts (c.self.view_is i).queues new c.put_add.new.self old);
      log = subst (λ (l : LogState). Appended l (record_bytes r) c.append_forced.result new) log (subst (λ (b : List ℕ). Appended c.self.inside.log b c.append_forced.result new) bytes e.appended);
      fits = λ named. fits;
      size = whole;
      ends = subst (λ (n : ℕ). Stops n c.append_forced.result new.armed) (ap (λ (l : LogState). l.armed) log) e.ends;
      room = subst (λ (n : ℕ). OnOk c.append_forced.result (n ≤ new.room + need r)) (ap (λ (l : LogState). l.room) log) (subst (λ (n : ℕ). OnOk c.append_forced.result (c.self.inside.log.room ≤ new.room + n)) needs e.room);
      body =
          let taken = ap (λ (x : PartsValue). x.body.room + length x.body.bytes) c.self.view_is in
          let cleared = ap (λ (b : Buffered). b.room) c.clear.ensures in
          let first = ap (λ (b : Buffered). b.room) c.put.ensures in
          let second = ap (λ (b : Buffered). b.room) c.put_add.ensures.bytes in
          let sum = ap length (put_pieces c.args.queue.now c.args.message.now c.unit_front.result c.clear.new.self c.put.new.self c.put_add.new.self (ap (λ (b : Buffered). b.bytes) c.clear.ensures) c.put.ensures c.put_add.ensures.bytes) ∙ length-append c.unit_front.result (add_bytes (record { queue = c.args.queue.now; message = c.args.message.now })) in
          omega (arith, taken, cleared, first, second, sum, size, ap length c.as_slice.ensures, c.requires.body);
      later = let f = ap (λ (l : LogState). l.faults) log in omega (arith, f, e.later);
      disk = λ d. subst (λ (n : ℕ). Rose n new.faults) (ap (λ (l : LogState). l.faults) log) (e.disk d);
    }
