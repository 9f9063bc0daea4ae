use Rattle.std.proofs.Common.{◌<◌, ◌+◌, ◌++◌, true, false, ◌∙◌, arith}
use Rattle.mq_split.specs.Opening.{whole}
use Rattle.mq_split.specs.Parting.{back_queue, named_at, out_queue}
use Rattle.mq_split.proofs.PartLaws.{begins, room_at, rows_far, rows_near}
use Rattle.mq_split.proofs.parting.part_cable.Goals as goal

pub add_end-requires-clause-room : goal.add_end-requires-clause-room
add_end-requires-clause-room g c =
    let some : 0 < g.p.room + 2 = omega arith in room_at g.p.begun g.p.names (g.p.room + 2) c.args.ends.now c.args.line.now.receiver some c.requires.1.1.1.1.1.1.1

pub add_end-requires-2-clause-room : goal.add_end-requires-2-clause-room
add_end-requires-2-clause-room g c =
    let some : 0 < g.p.room + 1 = omega arith in
    let l = c.args.line.now in
    let far = c.end_over-far.result in
    let o = c.requires.1.0 in
    let is = c.end_over-far.ensures.is in
    let end = begins g.p.begun c.args.number l false (back_queue c.args.pipes.now) (out_queue c.args.pipes.now) (whole c.args.passes c.args.cable.now).back far c.requires.1.1.1.0 c.requires.1.1.1.1.0.1 c.requires.1.1.1.1.0.0 c.requires.1.1.1.1.1.0.back is.0 is.1
    (is.2 ∙ c.take_offers-out.ensures.back.0) (c.end_over-far.ensures.queues.0 ∙ o.back.0.0) (c.end_over-far.ensures.queues.1 ∙ o.out.1.0) c.end_over-far.ensures.items.0 (c.end_over-far.ensures.items.1 ∙ o.none.0) in
    room_at g.p.begun (λ m. g.p.names m ++ named_at l.receiver m c.args.number false) (g.p.room + 1) c.add_end.new.ends l.sender some
    (rows_far g.p.begun g.p.names g.p.room c.args.number l.receiver l.sender far c.end_over-near.result c.args.ends.now c.add_end.new.ends c.add_end.new.ends c.requires.1.1.1.1.1.1.1 end c.end_over-far.ensures.items.2 is.0 is.1 c.add_end.ensures.added)

pub returns-clause-rows : goal.returns-clause-rows
returns-clause-rows g c =
    let l = c.args.line.now in
    let b = g.p.begun in
    let k = c.args.number in
    let far = c.end_over-far.result in
    let near = c.end_over-near.result in
    let o = c.requires.1.0 in
    let t = out_queue c.args.pipes.now in
    let u = back_queue c.args.pipes.now in
    let w = whole c.args.passes c.args.cable.now in
    let is = c.end_over-far.ensures.is in
    let at = c.end_over-near.ensures.is in
    let far_end = begins b k l false u t w.back far c.requires.1.1.1.0 c.requires.1.1.1.1.0.1 c.requires.1.1.1.1.0.0 c.requires.1.1.1.1.1.0.back is.0 is.1
    (is.2 ∙ c.take_offers-out.ensures.back.0) (c.end_over-far.ensures.queues.0 ∙ o.back.0.0) (c.end_over-far.ensures.queues.1 ∙ o.out.1.0) c.end_over-far.ensures.items.0 (c.end_over-far.ensures.items.1 ∙ o.none.0) in
    let near_end = begins b k l true t u w.out near c.requires.1.1.1.0 c.requires.1.1.1.1.0.0 c.requires.1.1.1.1.0.1 c.requires.1.1.1.1.1.0.out at.0 at.1
    (at.2 ∙ c.take_offers-out.ensures.out.0) (c.end_over-near.ensures.queues.0 ∙ o.out.0.0) (c.end_over-near.ensures.queues.1 ∙ o.back.1.0) c.end_over-near.ensures.items.0 (c.end_over-near.ensures.items.1 ∙ o.none.1) in
    rows_near b g.p.names g.p.room k l.receiver l.sender far near c.args.ends.now c.add_end.new.ends c.add_end-2.new.ends
    (rows_far b g.p.names g.p.room k l.receiver l.sender far near c.args.ends.now c.add_end.new.ends c.add_end-2.new.ends c.requires.1.1.1.1.1.1.1 far_end c.end_over-far.ensures.items.2 is.0 is.1 c.add_end.ensures.added)
    near_end c.end_over-near.ensures.items.2 at.0 at.1 c.add_end-2.ensures.added
