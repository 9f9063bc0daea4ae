use Rattle.std.proofs.Common.{◌∙◌, sym, ap, subst}
use Rattle.mq_trigger.specs.from_handles.Desks.{Desk}
use Rattle.mq_place.specs.States.{QueueStates}
use Rattle.mq_core.specs.Views.{PartsValue}
use Rattle.mq_core.specs.Forced.{HasMoreRoom, returned}
use Rattle.mq_core.proofs.RoomLaws.{given_up_queues, returned_room}
use Rattle.mq_core.proofs.parts.Parts.pend_put.Goals as goal

with_two : QueueStates → Desk → PartsValue → PartsValue
with_two queues desk x = record x { queues = queues; desk = desk }

pub returns-in-Err-pend-clause-err : goal.returns-in-Err-pend-clause-err
unfolding with_two
returns-in-Err-pend-clause-err g c =
    let r : PartsValue = c.reserve_record.new.self in
    let queues = given_up_queues c.args.queue.now c.self.inside.queues c.expect.new.self c.unpend.new.self c.in-Ok-expect.ensures.ok c.unpend.ensures ∙ ap (λ (x : PartsValue). x.queues) c.self.view_is in
    let desk = c.in-Err-pend.ensures.err ∙ ap (λ (x : PartsValue). x.desk) c.self.view_is in
    let same = ap (with_two c.unpend.new.self c.pend.new.self) c.self.view_is ∙ (λ i. with_two (queues i) (desk i) r) in
    subst (HasMoreRoom c.args.self.now) (sym (c.return_record-in-Err-pend.ensures ∙ ap (λ (x : PartsValue). returned c.args.need x) same)) (returned_room c.args.need c.args.self.now r c.in-Ok.ensures.ok)
