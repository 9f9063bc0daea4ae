use Rattle.std.specs.Prelude.{length}
use Rattle.std.proofs.Common.{Bool, ap, arith, ◌≡◌}
use Rattle.mq_history.specs.declared.acts.Act.TheVariants as acts
use Rattle.mq_history.specs.declared.calls.Actor.TheVariants as actors
use Rattle.mq_history.specs.declared.calls.Call.TheVariants as calls
use Rattle.mq_spec_node.specs.Terms.{Entry}
use Rattle.mq_spec_network.specs.Steps.{Is, is_cut}
use Rattle.mq_world.specs.Settling.{IsOf}
use Rattle.mq_world.specs.Worlds.{NetState, with_node}
use Rattle.mq_world.proofs.LiftLaws.{asked, asked_ready, of_operator, operator_fits, says_kept, says_told}
use Rattle.mq_world.proofs.OwnLaws.{node_own}
use Rattle.mq_world.proofs.parts.NetParts.restart.Goals as goal

pub at_mut-requires : goal.at_mut-requires
at_mut-requires g c = omega (arith, c.requires.kept.all, c.requires.there, c.from.ensures, ap (λ (w : NetState). length w.nodes) c.self.view_is)

pub restart_on-requires-clause-served : goal.restart_on-requires-clause-served
restart_on-requires-clause-served g c = (asked_ready c.args.self.now c.from.result c.args.manager c.at_mut.result.now (asked c.self.view_is c.requires.kept c.requires.ready c.from.ensures c.at_mut.ensures.value)).served

pub restart_on-requires-clause-may : goal.restart_on-requires-clause-may
restart_on-requires-clause-may g c = (asked_ready c.args.self.now c.from.result c.args.manager c.at_mut.result.now (asked c.self.view_is c.requires.kept c.requires.ready c.from.ensures c.at_mut.ensures.value)).may

pub returns-clause-kept : goal.returns-clause-kept
returns-clause-kept g c =
    says_kept c.args.self.now _ c.from.result c.args.manager (IsOf actors.Operator (calls.Act acts.Restart)) (λ (cut : Bool) (e : Entry). is_cut e.reply ≡ cut) c.restart_on.result c.at_mut.result.now c.restart_on.new.node (asked c.self.view_is c.requires.kept c.requires.ready c.from.ensures c.at_mut.ensures.value) (ap (with_node c.from.result c.restart_on.new.node) c.self.view_is) (of_operator (calls.Act acts.Restart)) c.restart_on.ensures.told

pub returns-clause-told : goal.returns-clause-told
returns-clause-told g c =
    says_told c.args.self.now _ c.from.result c.args.manager (IsOf actors.Operator (calls.Act acts.Restart)) (λ (cut : Bool) (e : Entry). is_cut e.reply ≡ cut) (Is c.args.manager actors.Operator (calls.Act acts.Restart)) c.restart_on.result c.at_mut.result.now c.restart_on.new.node (asked c.self.view_is c.requires.kept c.requires.ready c.from.ensures c.at_mut.ensures.value) (ap (with_node c.from.result c.restart_on.new.node) c.self.view_is) (of_operator (calls.Act acts.Restart)) (operator_fits c.args.manager (calls.Act acts.Restart)) c.restart_on.ensures.told

pub returns-clause-own : goal.returns-clause-own
returns-clause-own g c = λ is. node_own c.args.self.now _ c.from.result c.args.manager c.at_mut.result.now c.restart_on.new.node (asked c.self.view_is c.requires.kept c.requires.ready c.from.ensures c.at_mut.ensures.value) (ap (with_node c.from.result c.restart_on.new.node) c.self.view_is) (c.restart_on.ensures.own is)
