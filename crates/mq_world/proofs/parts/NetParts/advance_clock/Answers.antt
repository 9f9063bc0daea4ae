use Rattle.std.specs.Prelude.{length}
use Rattle.std.proofs.Common.{ap, arith}
use Rattle.mq_history.specs.declared.acts.Act.TheVariants as acts
use Rattle.mq_history.specs.declared.calls.Actor.TheVariants as actors
use Rattle.mq_history.specs.declared.calls.Call.TheVariants as calls
use Rattle.mq_spec_network.specs.Steps.{Is}
use Rattle.mq_world.specs.Settling.{IsOf}
use Rattle.mq_world.specs.Worlds.{NetState, with_node}
use Rattle.mq_world.proofs.LiftLaws.{asked, asked_kept, asked_ready, clock_fits, does_kept, does_told, moment_told, of_clock}
use Rattle.mq_world.proofs.OwnLaws.{does_own}
use Rattle.mq_world.proofs.parts.NetParts.advance_clock.Goals as goal

pub at_mut-requires : goal.at_mut-requires
at_mut-requires g c = omega (arith, c.requires.kept.all, c.requires.there, c.from.ensures, ap (λ (w : NetState). length w.nodes) c.self.view_is)

pub clock_on-requires-clause-kept : goal.clock_on-requires-clause-kept
clock_on-requires-clause-kept g c = asked_kept c.args.self.now c.from.result c.args.manager c.at_mut.result.now (asked c.self.view_is c.requires.kept c.requires.ready c.from.ensures c.at_mut.ensures.value)

pub clock_on-requires-clause-served : goal.clock_on-requires-clause-served
clock_on-requires-clause-served g c = (asked_ready c.args.self.now c.from.result c.args.manager c.at_mut.result.now (asked c.self.view_is c.requires.kept c.requires.ready c.from.ensures c.at_mut.ensures.value)).served

pub clock_on-requires-clause-may : goal.clock_on-requires-clause-may
clock_on-requires-clause-may g c = (asked_ready c.args.self.now c.from.result c.args.manager c.at_mut.result.now (asked c.self.view_is c.requires.kept c.requires.ready c.from.ensures c.at_mut.ensures.value)).may

pub returns-clause-kept : goal.returns-clause-kept
returns-clause-kept g c =
    does_kept c.args.self.now _ c.from.result c.args.manager (IsOf actors.Clock (calls.Act (acts.Clock c.args.ms))) c.clock_on.result c.at_mut.result.now c.clock_on.new.node (asked c.self.view_is c.requires.kept c.requires.ready c.from.ensures c.at_mut.ensures.value) (ap (with_node c.from.result c.clock_on.new.node) c.self.view_is) (of_clock (calls.Act (acts.Clock c.args.ms))) c.clock_on.ensures.told

pub returns-clause-told : goal.returns-clause-told
returns-clause-told g c =
    does_told c.args.self.now _ c.from.result c.args.manager (IsOf actors.Clock (calls.Act (acts.Clock c.args.ms))) (Is c.args.manager actors.Clock (calls.Act (acts.Clock c.args.ms))) c.clock_on.result c.at_mut.result.now c.clock_on.new.node (asked c.self.view_is c.requires.kept c.requires.ready c.from.ensures c.at_mut.ensures.value) (ap (with_node c.from.result c.clock_on.new.node) c.self.view_is) (of_clock (calls.Act (acts.Clock c.args.ms))) (clock_fits c.args.manager (calls.Act (acts.Clock c.args.ms))) c.clock_on.ensures.told

pub returns-clause-moment : goal.returns-clause-moment
returns-clause-moment g c =
    moment_told c.args.self.now _ c.from.result c.args.manager c.at_mut.result.now c.clock_on.new.node c.clock_on.result c.args.ms (asked c.self.view_is c.requires.kept c.requires.ready c.from.ensures c.at_mut.ensures.value) (ap (with_node c.from.result c.clock_on.new.node) c.self.view_is)
    (does_kept c.args.self.now _ c.from.result c.args.manager (IsOf actors.Clock (calls.Act (acts.Clock c.args.ms))) c.clock_on.result c.at_mut.result.now c.clock_on.new.node (asked c.self.view_is c.requires.kept c.requires.ready c.from.ensures c.at_mut.ensures.value) (ap (with_node c.from.result c.clock_on.new.node) c.self.view_is) (of_clock (calls.Act (acts.Clock c.args.ms))) c.clock_on.ensures.told)
    c.clock_on.ensures.moment

pub returns-clause-own : goal.returns-clause-own
returns-clause-own g c = λ is. does_own c.args.self.now _ c.args.manager actors.Clock (calls.Act (acts.Clock c.args.ms)) c.clock_on.result (returns-clause-kept g c) tt (returns-clause-told g c)
