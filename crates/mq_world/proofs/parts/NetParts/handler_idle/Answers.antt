use Rattle.std.specs.Prelude.{length, slice_get}
use Rattle.std.proofs.Common.{ap, arith, sym, ◌∙◌}
use Rattle.mq_world.specs.Worlds.{NetState}
use Rattle.mq_world.proofs.TurnLaws.{handles_none, handles_some, rules_there}
use Rattle.mq_world.proofs.parts.NetParts.handler_idle.Goals as goal

pub manager_of-manager-requires : goal.manager_of-manager-requires
manager_of-manager-requires g c =
    let lt = rules_there c.args.self.now c.args.rules c.requires.kept c.requires.there in
    record { there = omega (arith, lt, ap (λ (w : NetState). length w.handlers) c.self.view_is) }

pub returns-in-None : goal.returns-in-None
returns-in-None g c = handles_none c.args.self.now c.from.result c.manager_of-manager.result c.args.rules c.requires.kept (ap (λ (w : NetState). slice_get w.handlers c.args.rules) (sym c.self.view_is) ∙ c.manager_of-manager.ensures) c.from.ensures (ap (λ (w : NetState). slice_get w.nodes c.from.result) (sym c.self.view_is) ∙ sym c.in-None.ensures)

pub returns-in-Some : goal.returns-in-Some
returns-in-Some g c = c.handler_idle.ensures ∙ handles_some c.args.self.now c.from.result c.manager_of-manager.result c.args.rules c.in-Some.node.now c.requires.kept (ap (λ (w : NetState). slice_get w.handlers c.args.rules) (sym c.self.view_is) ∙ c.manager_of-manager.ensures) c.from.ensures (ap (λ (w : NetState). slice_get w.nodes c.from.result) (sym c.self.view_is) ∙ sym c.in-Some.ensures)
