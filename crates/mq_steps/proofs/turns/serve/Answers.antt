use Rattle.std.specs.Prelude.{◌<◌, ◌≤◌, Ok, length, slice_get}
use Rattle.std.proofs.Common.{ap, arith, subst, sym, ◌∙◌}
use Rattle.std.proofs.lemmas.Option.{slice_get_past}
use Rattle.mq_history.specs.declared.scenario.Scenario.{Scenario}
use Rattle.mq_spec_network.specs.Tasks.{serve_by}
use Rattle.mq_nodes.specs.Told.{Part}
use Rattle.mq_nodes.proofs.TurnLaws.{serving_begins}
use Rattle.mq_steps.proofs.PartLaws.{nothing_asked, part_breaks}
use Rattle.mq_steps.proofs.ServedLaws.{served_breaks, served_none, served_on, served_over, serving_same, serving_there}
use Rattle.mq_steps.proofs.turns.serve.Goals as goal

pub returns-then-from-len : goal.returns-then-from-len
returns-then-from-len g c =
    let past : length c.args.scenario.now.monitors ≤ c.args.monitor = omega (arith, c.if-from-len.true, c.len.ensures, c.from.ensures) in
    nothing_asked _ (g.N.Nodes.course c.args.nodes.now) tt c.requires.ready (ap (serve_by c.args.monitor c.args.turns) (slice_get_past c.args.scenario.now.monitors c.args.monitor past))

pub loop-init : goal.loop-init
loop-init g c =
    let old = g.N.Nodes.course c.args.nodes.now in
    let there : c.args.monitor < length c.args.scenario.now.monitors = omega (arith, c.if-from-len.false, c.len.ensures, c.from.ensures) in
    serving_begins c.args.monitor c.args.turns old c.requires.ready (subst (λ (s : Scenario). c.args.monitor < length s.monitors) (sym c.requires.same) there)

pub serve_once-requires-clause-there : goal.serve_once-requires-clause-there
serve_once-requires-clause-there g c = serving_there _ _ _ _ _ c.loop.invariant

pub serve_once-requires-clause-same : goal.serve_once-requires-clause-same
serve_once-requires-clause-same g c = serving_same _ _ _ _ _ c.loop.invariant ∙ c.requires.same

pub returns-in_err-serve_once : goal.returns-in_err-serve_once
returns-in_err-serve_once g c =
    let old = g.N.Nodes.course c.args.nodes.now in
    let now = g.N.Nodes.course c.loop.nodes in
    let new = g.N.Nodes.course c.serve_once.new.nodes in
    subst (λ (s : Scenario). Part {T = Unit {0}} (serve_by c.args.monitor c.args.turns (slice_get s.monitors c.args.monitor)) c.from_residual.result old new) c.requires.same
    (part_breaks _ _ _ old new c.from_residual.ensures.1 (served_breaks c.args.monitor c.args.turns c.loop.counter old now new _ c.loop-test.true c.loop.invariant c.in_err-serve_once.ensures))

pub returns-then-not-branch : goal.returns-then-not-branch
returns-then-not-branch g c =
    let old = g.N.Nodes.course c.args.nodes.now in
    let now = g.N.Nodes.course c.loop.nodes in
    let new = g.N.Nodes.course c.serve_once.new.nodes in
    subst (λ (s : Scenario). Part {T = Unit {0}} (serve_by c.args.monitor c.args.turns (slice_get s.monitors c.args.monitor)) (Ok tt) old new) c.requires.same
    (served_none c.args.monitor c.args.turns c.loop.counter old now new _ c.loop-test.true c.if-not-branch.true c.loop.invariant c.in_ok-serve_once.ensures)

pub loop-preserved : goal.loop-preserved
loop-preserved g c =
    let old = g.N.Nodes.course c.args.nodes.now in
    let now = g.N.Nodes.course c.loop.nodes in
    let new = g.N.Nodes.course c.serve_once.new.nodes in
    served_on c.args.monitor c.args.turns c.loop.counter old now new _ c.loop-test.true c.if-not-branch.false c.loop.invariant c.in_ok-serve_once.ensures

pub returns : goal.returns
returns g c =
    let old = g.N.Nodes.course c.args.nodes.now in
    let now = g.N.Nodes.course c.loop.nodes in
    subst (λ (s : Scenario). Part {T = Unit {0}} (serve_by c.args.monitor c.args.turns (slice_get s.monitors c.args.monitor)) (Ok tt) old now) c.requires.same
    (served_over c.args.monitor c.args.turns c.loop.counter old now c.loop-test.false c.loop.invariant)
