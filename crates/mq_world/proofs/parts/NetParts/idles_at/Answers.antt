use Rattle.std.specs.Prelude.{length, slice_get}
use Rattle.std.proofs.Common.{ap, arith, sym, ◌∙◌}
use Rattle.mq_world.specs.Worlds.{NetState, course_in}
use Rattle.mq_world.proofs.IdleLaws.{asked_of, cable_there, line_there, receiver_there, sender_there, sight_at}
use Rattle.mq_world.proofs.parts.NetParts.idles_at.Goals as goal

pub line_at-line-requires : goal.line_at-line-requires
line_at-line-requires g c =
    let lt = line_there c.args.self.now c.args.cable c.requires.kept c.requires.there in
    record { there = omega (arith, lt, ap (λ (w : NetState). length w.lines) c.self.view_is) }

pub node_of-sender-requires : goal.node_of-sender-requires
node_of-sender-requires g c =
    let lt = sender_there c.args.self.now c.args.cable c.line_at-line.result.now c.requires.kept (ap (λ (w : NetState). slice_get w.lines c.args.cable) (sym c.self.view_is) ∙ c.line_at-line.ensures) in
    record { there = omega (arith, lt, ap (λ (w : NetState). length w.nodes) c.self.view_is) }

pub node_of-receiver-requires : goal.node_of-receiver-requires
node_of-receiver-requires g c =
    let lt = receiver_there c.args.self.now c.args.cable c.line_at-line.result.now c.requires.kept (ap (λ (w : NetState). slice_get w.lines c.args.cable) (sym c.self.view_is) ∙ c.line_at-line.ensures) in
    record { there = omega (arith, lt, ap (λ (w : NetState). length w.nodes) c.self.view_is) }

pub cable_at-requires : goal.cable_at-requires
cable_at-requires g c =
    let lt = cable_there c.args.self.now c.args.cable c.requires.kept c.requires.there in
    record { there = omega (arith, lt, ap (λ (w : NetState). length w.cables) c.self.view_is) }

pub returns : goal.returns
returns g c =
    let w : NetState = c.args.self.now in
    let k = c.args.cable in
    let l = c.line_at-line.result.now in
    let line = ap (λ (x : NetState). slice_get x.lines k) (sym c.self.view_is) ∙ c.line_at-line.ensures in
    let sender = ap (λ (x : NetState). slice_get x.nodes l.sender) (sym c.self.view_is) ∙ c.node_of-sender.ensures in
    let receiver = ap (λ (x : NetState). slice_get x.nodes l.receiver) (sym c.self.view_is) ∙ c.node_of-receiver.ensures in
    let cable = ap (λ (x : NetState). slice_get x.cables k) (sym c.self.view_is) ∙ c.cable_at.ensures in
    asked_of w k l c.cable_idle.result c.requires.kept line
    (c.cable_idle.ensures (course_in w).net (sight_at w k l c.node_of-sender.result.now c.node_of-receiver.result.now c.cable_at.result.now c.requires.kept line sender receiver cable))
