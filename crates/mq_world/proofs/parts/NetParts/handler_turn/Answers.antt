use Rattle.std.specs.Prelude.{length, slice_get}
use Rattle.std.proofs.Common.{ap, arith, sym, ◌∙◌}
use Rattle.mq_world.specs.Worlds.{NetState, with_node}
use Rattle.mq_world.proofs.LiftLaws.{asked, asked_ready}
use Rattle.mq_world.proofs.TurnLaws.{handler_kept, handler_told, rules_low, rules_there}
use Rattle.mq_world.proofs.OwnLaws.{handler_own}
use Rattle.mq_world.proofs.parts.NetParts.handler_turn.Goals as goal

pub manager_of-manager-requires : goal.manager_of-manager-requires
manager_of-manager-requires g c =
    let lt = rules_there c.args.self.now c.args.rules c.requires.kept c.requires.there in
    record { there = omega (arith, lt, ap (λ (w : NetState). length w.handlers) c.self.view_is) }

pub at_mut-requires : goal.at_mut-requires
at_mut-requires g c =
    let low = rules_low c.args.self.now c.args.rules c.manager_of-manager.result c.requires.kept (ap (λ (w : NetState). slice_get w.handlers c.args.rules) (sym c.self.view_is) ∙ c.manager_of-manager.ensures) in
    omega (arith, c.requires.kept.all, low, c.from.ensures, ap (λ (w : NetState). length w.nodes) c.self.view_is)

pub handler_on-requires-clause-served : goal.handler_on-requires-clause-served
handler_on-requires-clause-served g c = (asked_ready c.args.self.now c.from.result c.manager_of-manager.result c.at_mut.result.now (asked c.self.view_is c.requires.kept c.requires.ready c.from.ensures c.at_mut.ensures.value)).served

pub handler_on-requires-clause-may : goal.handler_on-requires-clause-may
handler_on-requires-clause-may g c = (asked_ready c.args.self.now c.from.result c.manager_of-manager.result c.at_mut.result.now (asked c.self.view_is c.requires.kept c.requires.ready c.from.ensures c.at_mut.ensures.value)).may

pub returns-clause-kept : goal.returns-clause-kept
returns-clause-kept g c = handler_kept c.args.self.now _ c.from.result c.manager_of-manager.result c.args.rules c.handler_on.result c.at_mut.result.now c.handler_on.new.node (asked c.self.view_is c.requires.kept c.requires.ready c.from.ensures c.at_mut.ensures.value) (ap (with_node c.from.result c.handler_on.new.node) c.self.view_is) c.handler_on.ensures

pub returns-clause-told : goal.returns-clause-told
returns-clause-told g c = handler_told c.args.self.now _ c.from.result c.manager_of-manager.result c.args.rules c.handler_on.result c.at_mut.result.now c.handler_on.new.node (asked c.self.view_is c.requires.kept c.requires.ready c.from.ensures c.at_mut.ensures.value) (ap (with_node c.from.result c.handler_on.new.node) c.self.view_is) (ap (λ (w : NetState). slice_get w.handlers c.args.rules) (sym c.self.view_is) ∙ c.manager_of-manager.ensures) c.handler_on.ensures

pub returns-clause-own : goal.returns-clause-own
returns-clause-own g c = λ is. handler_own c.args.self.now _ c.args.rules c.handler_on.result (returns-clause-kept g c) c.requires.there (returns-clause-told g c)
