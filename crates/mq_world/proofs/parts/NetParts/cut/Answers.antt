use Rattle.std.specs.Prelude.{length}
use Rattle.std.proofs.Common.{ap, arith}
use Rattle.mq_history.specs.declared.acts.Act.TheVariants as acts
use Rattle.mq_history.specs.declared.calls.Actor.TheVariants as actors
use Rattle.mq_history.specs.declared.calls.Call.TheVariants as calls
use Rattle.mq_spec_network.specs.Steps.{Is}
use Rattle.mq_world.specs.Settling.{IsOf}
use Rattle.mq_world.specs.Worlds.{NetState, with_node}
use Rattle.mq_world.proofs.LiftLaws.{asked, asked_ready, does_kept, does_told, of_operator, operator_fits}
use Rattle.mq_world.proofs.OwnLaws.{does_own}
use Rattle.mq_world.proofs.parts.NetParts.cut.Goals as goal

pub at_mut-requires : goal.at_mut-requires
at_mut-requires g c = omega (arith, c.requires.kept.all, c.requires.there, c.from.ensures, ap (λ (w : NetState). length w.nodes) c.self.view_is)

pub act_on-requires-clause-served : goal.act_on-requires-clause-served
act_on-requires-clause-served g c = (asked_ready c.args.self.now c.from.result c.args.manager c.at_mut.result.now (asked c.self.view_is c.requires.kept c.requires.ready c.from.ensures c.at_mut.ensures.value)).served

pub act_on-requires-clause-may : goal.act_on-requires-clause-may
act_on-requires-clause-may g c = (asked_ready c.args.self.now c.from.result c.args.manager c.at_mut.result.now (asked c.self.view_is c.requires.kept c.requires.ready c.from.ensures c.at_mut.ensures.value)).may

pub returns-clause-kept : goal.returns-clause-kept
returns-clause-kept g c =
    does_kept c.args.self.now _ c.from.result c.args.manager (IsOf actors.Operator (calls.Act (acts.Cut c.args.device_calls))) c.act_on.result c.at_mut.result.now c.act_on.new.node (asked c.self.view_is c.requires.kept c.requires.ready c.from.ensures c.at_mut.ensures.value) (ap (with_node c.from.result c.act_on.new.node) c.self.view_is) (of_operator (calls.Act (acts.Cut c.args.device_calls))) c.act_on.ensures

pub returns-clause-told : goal.returns-clause-told
returns-clause-told g c =
    does_told c.args.self.now _ c.from.result c.args.manager (IsOf actors.Operator (calls.Act (acts.Cut c.args.device_calls))) (Is c.args.manager actors.Operator (calls.Act (acts.Cut c.args.device_calls))) c.act_on.result c.at_mut.result.now c.act_on.new.node (asked c.self.view_is c.requires.kept c.requires.ready c.from.ensures c.at_mut.ensures.value) (ap (with_node c.from.result c.act_on.new.node) c.self.view_is) (of_operator (calls.Act (acts.Cut c.args.device_calls))) (operator_fits c.args.manager (calls.Act (acts.Cut c.args.device_calls))) c.act_on.ensures

pub returns-clause-own : goal.returns-clause-own
returns-clause-own g c = λ is. does_own c.args.self.now _ c.args.manager actors.Operator (calls.Act (acts.Cut c.args.device_calls)) c.act_on.result (returns-clause-kept g c) tt (returns-clause-told g c)
