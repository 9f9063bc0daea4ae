use Rattle.std.specs.Prelude.{Bool, Ok, Err, Result, None, slice_get}
use Rattle.std.proofs.Common.{subst, sym, ◌∙◌}
use Rattle.mq_history.specs.declared.scenario.Scenario.{Scenario}
use Rattle.mq_spec_network.specs.Tasks.{run_script}
use Rattle.mq_nodes.specs.declared.nodes.Monitored.{Monitored}
use Rattle.mq_nodes.specs.declared.nodes.Stop.{Stop}
use Rattle.mq_nodes.specs.Told.{Part, TurnTold}
use Rattle.mq_steps.specs.Served.{ServedTold}
use Rattle.mq_steps.proofs.PartLaws.{err_is}
use Rattle.mq_steps.proofs.ServedLaws.{began_ready, began_rests, got_none, got_one, ran_one, script_breaks, turn_breaks}
use Rattle.mq_steps.proofs.turns.serve_once.Goals as goal

pub returns-in_err-monitor_turn : goal.returns-in_err-monitor_turn
returns-in_err-monitor_turn g c =
    let old = g.N.Nodes.course c.args.nodes.now in
    let new = g.N.Nodes.course c.monitor_turn.new.self in
    subst (λ (r : Result Bool Stop). ServedTold c.args.monitor r old new) (sym (err_is _ _ c.from_residual.ensures.1)) (turn_breaks c.args.monitor old new _ c.requires.ready c.requires.there c.in_err-monitor_turn.ensures)

pub returns-in-Idle : goal.returns-in-Idle
returns-in-Idle g c =
    let old = g.N.Nodes.course c.args.nodes.now in
    let new = g.N.Nodes.course c.monitor_turn.new.self in
    got_none c.args.monitor old new (subst (λ (x : Monitored). TurnTold c.args.monitor (Ok x) old new) c.in-Idle.is c.in_ok-monitor_turn.ensures)

pub returns-in-Got : goal.returns-in-Got
returns-in-Got g c =
    let old = g.N.Nodes.course c.args.nodes.now in
    let new = g.N.Nodes.course c.monitor_turn.new.self in
    got_one c.args.monitor old new c.requires.ready c.requires.there (subst (λ (x : Monitored). TurnTold c.args.monitor (Ok x) old new) c.in-Got.is c.in_ok-monitor_turn.ensures)

pub run-requires-clause-ready : goal.run-requires-clause-ready
run-requires-clause-ready g c =
    let old = g.N.Nodes.course c.args.nodes.now in
    let new = g.N.Nodes.course c.monitor_turn.new.self in
    (began_ready c.args.monitor c.in-Started.script old new c.requires.ready c.requires.there (subst (λ (x : Monitored). TurnTold c.args.monitor (Ok x) old new) c.in-Started.is c.in_ok-monitor_turn.ensures)).0

pub run-requires-clause-rests : goal.run-requires-clause-rests
run-requires-clause-rests g c =
    let old = g.N.Nodes.course c.args.nodes.now in
    let new = g.N.Nodes.course c.monitor_turn.new.self in
    began_rests c.args.monitor c.in-Started.script old new c.requires.ready c.requires.there c.requires.rests (subst (λ (x : Monitored). TurnTold c.args.monitor (Ok x) old new) c.in-Started.is c.in_ok-monitor_turn.ensures)

pub run-requires-clause-same : goal.run-requires-clause-same
run-requires-clause-same g c =
    let old = g.N.Nodes.course c.args.nodes.now in
    let new = g.N.Nodes.course c.monitor_turn.new.self in
    (began_ready c.args.monitor c.in-Started.script old new c.requires.ready c.requires.there (subst (λ (x : Monitored). TurnTold c.args.monitor (Ok x) old new) c.in-Started.is c.in_ok-monitor_turn.ensures)).1 ∙ c.requires.same

pub returns-in_err-run-in-Started : goal.returns-in_err-run-in-Started
returns-in_err-run-in-Started g c =
    let old = g.N.Nodes.course c.args.nodes.now in
    let mid = g.N.Nodes.course c.monitor_turn.new.self in
    let new = g.N.Nodes.course c.run.new.nodes in
    let part = subst (λ (s : Scenario). Part {T = Unit {0}} (run_script c.in-Started.script None (slice_get s.scripts c.in-Started.script)) (Err c.in_err-run-in-Started.field-0.0) mid new) (sym c.requires.same) c.in_err-run-in-Started.ensures in
    subst (λ (r : Result Bool Stop). ServedTold c.args.monitor r old new) (sym (err_is _ _ c.from_residual-in_err-run-in-Started.ensures.1))
    (script_breaks c.args.monitor c.in-Started.script old mid new _ c.requires.ready c.requires.there (subst (λ (x : Monitored). TurnTold c.args.monitor (Ok x) old mid) c.in-Started.is c.in_ok-monitor_turn.ensures) part)

pub returns-in_ok-run-in-Started : goal.returns-in_ok-run-in-Started
returns-in_ok-run-in-Started g c =
    let old = g.N.Nodes.course c.args.nodes.now in
    let mid = g.N.Nodes.course c.monitor_turn.new.self in
    let new = g.N.Nodes.course c.run.new.nodes in
    let part = subst (λ (s : Scenario). Part {T = Unit {0}} (run_script c.in-Started.script None (slice_get s.scripts c.in-Started.script)) (Ok tt) mid new) (sym c.requires.same) c.in_ok-run-in-Started.ensures in
    ran_one c.args.monitor c.in-Started.script old mid new tt c.requires.ready c.requires.there (subst (λ (x : Monitored). TurnTold c.args.monitor (Ok x) old mid) c.in-Started.is c.in_ok-monitor_turn.ensures) part
