use Rattle.std.proofs.Common.{ℕ, ◌+◌, ◌∙◌, ap, arith}
use Rattle.std.specs.Prelude.{length}
use Rattle.mq_log.specs.State.{LogState}
use Rattle.mq_sides.specs.from_record.Room.{Buffered}
use Rattle.mq_core.specs.Views.{PartsValue}
use Rattle.mq_core.proofs.PutLaws.{more_room}
use Rattle.mq_core.proofs.RoomLaws.{with_parts, given_up_queues}
use Rattle.mq_core.proofs.parts.Parts.expect_put.Goals as goal

roomier : LogState → ℕ → LogState
roomier log n = record log { room = n }

pub returns-in-Err-reserve-clause-err : goal.returns-in-Err-reserve-clause-err
unfolding with_parts roomier
returns-in-Err-reserve-clause-err g c =
    let old : PartsValue = c.args.self.now in
    let log = c.room.ensures.same ∙ ap (λ (x : PartsValue). roomier x.log c.room.new.self.room) c.self.view_is in
    let had = ap (λ (x : PartsValue). x.log.room) c.self.view_is in
    let taken = ap (λ (x : PartsValue). x.body.room + length x.body.bytes) c.self.view_is in
    let queues = given_up_queues c.args.queue.now c.self.inside.queues c.expect.new.self c.unpend.new.self c.in-Ok-expect.ensures.ok c.unpend.ensures ∙ ap (λ (x : PartsValue). x.queues) c.self.view_is in
    let same = c.in-Err-reserve.ensures.err ∙ c.clear.ensures in
    let room = ap (λ (b : Buffered). b.room + length b.bytes) same in
    let more = c.room.ensures.room in
    more_room old _ (ap (with_parts c.unpend.new.self c.room.new.self c.reserve.new.self) c.self.view_is ∙ (λ i. with_parts (queues i) (log i) c.reserve.new.self old))
    (omega (arith, more, had)) (omega (arith, room, taken))
