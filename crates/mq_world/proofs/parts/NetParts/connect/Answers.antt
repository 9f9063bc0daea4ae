use Rattle.std.specs.Prelude.{length, ◌≡◌, Option, []}
use Rattle.std.proofs.Common.{ap, arith}
use Rattle.mq_history.specs.declared.calls.Actor.TheVariants as actors
use Rattle.mq_history.specs.declared.calls.Call.TheVariants as calls
use Rattle.mq_spec_node.specs.Terms.{Entry, Hconn}
use Rattle.mq_spec_node.specs.Words.{script_appl}
use Rattle.mq_spec_network.specs.Steps.{Is}
use Rattle.mq_watch.specs.Turns.{connection_of}
use Rattle.mq_world.specs.Settling.{IsOf}
use Rattle.mq_world.specs.Worlds.{NetState, with_node}
use Rattle.mq_world.proofs.LiftLaws.{asked, asked_ready, monitor_fits, of_monitor, says_kept, says_told}
use Rattle.mq_world.proofs.OwnLaws.{says_own}
use Rattle.mq_world.proofs.parts.NetParts.connect.Goals as goal

pub at_mut-requires : goal.at_mut-requires
at_mut-requires g c = omega (arith, c.requires.kept.all, c.requires.there, c.from.ensures, ap (λ (w : NetState). length w.nodes) c.self.view_is)

pub connect_on-requires-clause-served : goal.connect_on-requires-clause-served
connect_on-requires-clause-served g c = (asked_ready c.args.self.now c.from.result c.args.line.now.manager c.at_mut.result.now (asked c.self.view_is c.requires.kept c.requires.ready c.from.ensures c.at_mut.ensures.value)).served

pub connect_on-requires-clause-may : goal.connect_on-requires-clause-may
connect_on-requires-clause-may g c = (asked_ready c.args.self.now c.from.result c.args.line.now.manager c.at_mut.result.now (asked c.self.view_is c.requires.kept c.requires.ready c.from.ensures c.at_mut.ensures.value)).may

pub returns-clause-kept : goal.returns-clause-kept
returns-clause-kept g c =
    says_kept c.args.self.now _ c.from.result c.args.line.now.manager (IsOf (actors.Monitor c.args.monitor) (calls.Mqconn [] (script_appl c.args.line.now.label))) (λ (given : Option Hconn) (e : Entry). given ≡ connection_of e.reply) c.connect_on.result c.at_mut.result.now c.connect_on.new.node (asked c.self.view_is c.requires.kept c.requires.ready c.from.ensures c.at_mut.ensures.value) (ap (with_node c.from.result c.connect_on.new.node) c.self.view_is) (of_monitor c.args.monitor (calls.Mqconn [] (script_appl c.args.line.now.label))) c.connect_on.ensures

pub returns-clause-told : goal.returns-clause-told
returns-clause-told g c =
    says_told c.args.self.now _ c.from.result c.args.line.now.manager (IsOf (actors.Monitor c.args.monitor) (calls.Mqconn [] (script_appl c.args.line.now.label))) (λ (given : Option Hconn) (e : Entry). given ≡ connection_of e.reply) (Is c.args.line.now.manager (actors.Monitor c.args.monitor) (calls.Mqconn [] (script_appl c.args.line.now.label))) c.connect_on.result c.at_mut.result.now c.connect_on.new.node (asked c.self.view_is c.requires.kept c.requires.ready c.from.ensures c.at_mut.ensures.value) (ap (with_node c.from.result c.connect_on.new.node) c.self.view_is) (of_monitor c.args.monitor (calls.Mqconn [] (script_appl c.args.line.now.label))) (monitor_fits c.args.line.now.manager c.args.monitor (calls.Mqconn [] (script_appl c.args.line.now.label))) c.connect_on.ensures

pub returns-clause-own : goal.returns-clause-own
returns-clause-own g c = λ is. says_own c.args.self.now _ c.args.line.now.manager (actors.Monitor c.args.monitor) (calls.Mqconn [] (script_appl c.args.line.now.label)) (λ (given : Option Hconn) (e : Entry). given ≡ connection_of e.reply) c.connect_on.result (returns-clause-kept g c) tt (returns-clause-told g c)
