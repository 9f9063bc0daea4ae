use Rattle.std.specs.Prelude.{length, ◌≡◌, Bool, []}
use Rattle.std.proofs.Common.{ap, arith}
use Rattle.mq_history.specs.declared.calls.Actor.TheVariants as actors
use Rattle.mq_history.specs.declared.calls.Call.TheVariants as calls
use Rattle.mq_spec_node.specs.Terms.{Entry}
use Rattle.mq_spec_node.specs.Words.{is_opened, shared}
use Rattle.mq_spec_network.specs.Steps.{Is}
use Rattle.mq_world.specs.Settling.{IsOf}
use Rattle.mq_world.specs.Worlds.{NetState, with_node}
use Rattle.mq_world.proofs.LiftLaws.{asked, asked_ready, monitor_fits, of_monitor, says_kept, says_told}
use Rattle.mq_world.proofs.OwnLaws.{says_own}
use Rattle.mq_world.proofs.parts.NetParts.open.Goals as goal

pub at_mut-requires : goal.at_mut-requires
at_mut-requires g c = omega (arith, c.requires.kept.all, c.requires.there, c.from.ensures, ap (λ (w : NetState). length w.nodes) c.self.view_is)

pub open_on-requires-clause-served : goal.open_on-requires-clause-served
open_on-requires-clause-served g c = (asked_ready c.args.self.now c.from.result c.args.line.now.manager c.at_mut.result.now (asked c.self.view_is c.requires.kept c.requires.ready c.from.ensures c.at_mut.ensures.value)).served

pub open_on-requires-clause-may : goal.open_on-requires-clause-may
open_on-requires-clause-may g c = (asked_ready c.args.self.now c.from.result c.args.line.now.manager c.at_mut.result.now (asked c.self.view_is c.requires.kept c.requires.ready c.from.ensures c.at_mut.ensures.value)).may

pub returns-clause-kept : goal.returns-clause-kept
returns-clause-kept g c =
    says_kept c.args.self.now _ c.from.result c.args.line.now.manager (IsOf (actors.Monitor c.args.monitor) (calls.Mqopen c.args.connection c.args.line.now.queue [] shared)) (λ (opened : Bool) (e : Entry). opened ≡ is_opened e.reply) c.open_on.result c.at_mut.result.now c.open_on.new.node (asked c.self.view_is c.requires.kept c.requires.ready c.from.ensures c.at_mut.ensures.value) (ap (with_node c.from.result c.open_on.new.node) c.self.view_is) (of_monitor c.args.monitor (calls.Mqopen c.args.connection c.args.line.now.queue [] shared)) c.open_on.ensures

pub returns-clause-told : goal.returns-clause-told
returns-clause-told g c =
    says_told c.args.self.now _ c.from.result c.args.line.now.manager (IsOf (actors.Monitor c.args.monitor) (calls.Mqopen c.args.connection c.args.line.now.queue [] shared)) (λ (opened : Bool) (e : Entry). opened ≡ is_opened e.reply) (Is c.args.line.now.manager (actors.Monitor c.args.monitor) (calls.Mqopen c.args.connection c.args.line.now.queue [] shared)) c.open_on.result c.at_mut.result.now c.open_on.new.node (asked c.self.view_is c.requires.kept c.requires.ready c.from.ensures c.at_mut.ensures.value) (ap (with_node c.from.result c.open_on.new.node) c.self.view_is) (of_monitor c.args.monitor (calls.Mqopen c.args.connection c.args.line.now.queue [] shared)) (monitor_fits c.args.line.now.manager c.args.monitor (calls.Mqopen c.args.connection c.args.line.now.queue [] shared)) c.open_on.ensures

pub returns-clause-own : goal.returns-clause-own
returns-clause-own g c = λ is. says_own c.args.self.now _ c.args.line.now.manager (actors.Monitor c.args.monitor) (calls.Mqopen c.args.connection c.args.line.now.queue [] shared) (λ (opened : Bool) (e : Entry). opened ≡ is_opened e.reply) c.open_on.result (returns-clause-kept g c) tt (returns-clause-told g c)
