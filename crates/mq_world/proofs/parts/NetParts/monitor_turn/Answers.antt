use Rattle.std.specs.Prelude.{length, slice_get}
use Rattle.std.proofs.Common.{ap, arith, sym, ◌∙◌}
use Rattle.mq_world.specs.Worlds.{NetState, with_node}
use Rattle.mq_world.proofs.LiftLaws.{asked, asked_ready}
use Rattle.mq_world.proofs.TurnLaws.{line_low, lines_there, monitor_kept, monitor_told}
use Rattle.mq_world.proofs.OwnLaws.{monitor_own}
use Rattle.mq_world.proofs.parts.NetParts.monitor_turn.Goals as goal

pub line_of-line-requires : goal.line_of-line-requires
line_of-line-requires g c =
    let lt = lines_there c.args.self.now c.args.monitor c.requires.kept c.requires.there in
    record { there = omega (arith, lt, ap (λ (w : NetState). length w.monitors) c.self.view_is) }

pub at_mut-requires : goal.at_mut-requires
at_mut-requires g c =
    let low = line_low c.args.self.now c.args.monitor c.line_of-line.result c.requires.kept (ap (λ (w : NetState). slice_get w.monitors c.args.monitor) (sym c.self.view_is) ∙ c.line_of-line.ensures) in
    omega (arith, c.requires.kept.all, low, c.from.ensures, ap (λ (w : NetState). length w.nodes) c.self.view_is)

pub monitor_on-requires-clause-served : goal.monitor_on-requires-clause-served
monitor_on-requires-clause-served g c = (asked_ready c.args.self.now c.from.result c.line_of-line.result.manager c.at_mut.result.now (asked c.self.view_is c.requires.kept c.requires.ready c.from.ensures c.at_mut.ensures.value)).served

pub monitor_on-requires-clause-may : goal.monitor_on-requires-clause-may
monitor_on-requires-clause-may g c = (asked_ready c.args.self.now c.from.result c.line_of-line.result.manager c.at_mut.result.now (asked c.self.view_is c.requires.kept c.requires.ready c.from.ensures c.at_mut.ensures.value)).may

pub returns-clause-kept : goal.returns-clause-kept
returns-clause-kept g c = monitor_kept c.args.self.now _ c.from.result c.line_of-line.result.manager c.args.monitor c.monitor_on.result c.at_mut.result.now c.monitor_on.new.node (asked c.self.view_is c.requires.kept c.requires.ready c.from.ensures c.at_mut.ensures.value) (ap (with_node c.from.result c.monitor_on.new.node) c.self.view_is) c.monitor_on.ensures

pub returns-clause-told : goal.returns-clause-told
returns-clause-told g c = monitor_told c.args.self.now _ c.from.result c.args.monitor c.line_of-line.result c.monitor_on.result c.at_mut.result.now c.monitor_on.new.node (asked c.self.view_is c.requires.kept c.requires.ready c.from.ensures c.at_mut.ensures.value) (ap (with_node c.from.result c.monitor_on.new.node) c.self.view_is) (ap (λ (w : NetState). slice_get w.monitors c.args.monitor) (sym c.self.view_is) ∙ c.line_of-line.ensures) c.monitor_on.ensures

pub returns-clause-own : goal.returns-clause-own
returns-clause-own g c = λ is. monitor_own c.args.self.now _ c.args.monitor c.monitor_on.result (returns-clause-kept g c) c.requires.there (returns-clause-told g c)
