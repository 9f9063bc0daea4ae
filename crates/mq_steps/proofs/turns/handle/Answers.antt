use Rattle.std.specs.Prelude.{◌≤◌, ◌≡◌, ◌<◌, Bool, Ok, Err, Option, length, slice_get, true, false}
use Rattle.std.proofs.Common.{ap, arith, subst, sym, ◌∙◌}
use Rattle.std.proofs.lemmas.Option.{slice_get_past}
use Rattle.mq_history.specs.declared.scenario.RulesPart.{RulesPart}
use Rattle.mq_history.specs.declared.scenario.Scenario.{Scenario}
use Rattle.mq_spec_network.specs.Lawful.{handles_idle}
use Rattle.mq_spec_network.specs.Tasks.{handle_with}
use Rattle.mq_nodes.specs.Told.{Part}
use Rattle.mq_nodes.proofs.TurnLaws.{handled, handled_all, handler_breaks, handler_rests, handling_begins, rules_stay}
use Rattle.mq_steps.proofs.PartLaws.{nothing_asked, part_breaks}
use Rattle.mq_steps.proofs.DoingLaws.{handling_there}
use Rattle.mq_steps.proofs.turns.handle.Goals as goal

pub returns-in_err-handler_turn-clause-told : goal.returns-in_err-handler_turn-clause-told
returns-in_err-handler_turn-clause-told g c =
    let old = g.N.Nodes.course c.args.nodes.now in
    let new = g.N.Nodes.course c.handler_turn.new.self in
    part_breaks _ _ _ old new c.from_residual.ensures.1
    (subst (λ (s : Scenario). Part {T = Bool} (handle_with c.args.rules c.args.turns (slice_get s.rules c.args.rules)) (Err c.in_err-handler_turn.field-0.0) old new) c.requires.same
    (handler_breaks c.args.rules c.args.turns c.loop.counter old (g.N.Nodes.course c.loop.nodes) new _ c.loop-test.true c.loop.invariant c.in_err-handler_turn.ensures))

pub returns-then-not-branch-clause-told : goal.returns-then-not-branch-clause-told
returns-then-not-branch-clause-told g c =
    let old = g.N.Nodes.course c.args.nodes.now in
    let new = g.N.Nodes.course c.handler_turn.new.self in
    subst (λ (s : Scenario). Part {T = Bool} (handle_with c.args.rules c.args.turns (slice_get s.rules c.args.rules)) (Ok true) old new) c.requires.same
    (handler_rests c.args.rules c.args.turns c.loop.counter old (g.N.Nodes.course c.loop.nodes) new _ c.loop-test.true c.if-not-branch.true c.loop.invariant c.in_ok-handler_turn.ensures).0

pub returns-then-not-branch-clause-idle : goal.returns-then-not-branch-clause-idle
returns-then-not-branch-clause-idle g c =
    let old = g.N.Nodes.course c.args.nodes.now in
    let new = g.N.Nodes.course c.handler_turn.new.self in
    subst (λ (s : Scenario). true ≡ handles_idle c.args.rules (slice_get s.rules c.args.rules) new.net) c.requires.same
    (handler_rests c.args.rules c.args.turns c.loop.counter old (g.N.Nodes.course c.loop.nodes) new _ c.loop-test.true c.if-not-branch.true c.loop.invariant c.in_ok-handler_turn.ensures).1

pub loop-preserved : goal.loop-preserved
loop-preserved g c =
    handled c.args.rules c.args.turns c.loop.counter (g.N.Nodes.course c.args.nodes.now) (g.N.Nodes.course c.loop.nodes) (g.N.Nodes.course c.handler_turn.new.self) _ c.loop-test.true c.if-not-branch.false c.loop.invariant c.in_ok-handler_turn.ensures

pub returns-clause-told : goal.returns-clause-told
returns-clause-told g c =
    let old = g.N.Nodes.course c.args.nodes.now in
    let new = g.N.Nodes.course c.loop.nodes in
    subst (λ (s : Scenario). Part {T = Bool} (handle_with c.args.rules c.args.turns (slice_get s.rules c.args.rules)) (Ok c.handler_idle.result) old new) c.requires.same
    (handled_all c.args.rules c.args.turns c.loop.counter old new _ c.loop-test.false c.loop.invariant)

pub returns-clause-idle : goal.returns-clause-idle
returns-clause-idle g c =
    let old = g.N.Nodes.course c.args.nodes.now in
    let new = g.N.Nodes.course c.loop.nodes in
    c.handler_idle.ensures ∙ ap (λ (r : Option RulesPart). handles_idle c.args.rules r new.net) (rules_stay _ _ _ old new c.loop.invariant ∙ ap (λ (s : Scenario). slice_get s.rules c.args.rules) c.requires.same)

pub returns-then-from-len-clause-told : goal.returns-then-from-len-clause-told
returns-then-from-len-clause-told g c =
    let past : length c.args.scenario.now.rules ≤ c.args.rules = omega (arith, c.if-from-len.true, c.len.ensures, c.from.ensures) in
    nothing_asked _ (g.N.Nodes.course c.args.nodes.now) false c.requires.ready (ap (handle_with c.args.rules c.args.turns) (slice_get_past c.args.scenario.now.rules c.args.rules past))

pub returns-then-from-len-clause-idle : goal.returns-then-from-len-clause-idle
returns-then-from-len-clause-idle g c =
    let past : length c.args.scenario.now.rules ≤ c.args.rules = omega (arith, c.if-from-len.true, c.len.ensures, c.from.ensures) in
    sym (ap (λ (r : Option RulesPart). handles_idle c.args.rules r (g.N.Nodes.course c.args.nodes.now).net) (slice_get_past c.args.scenario.now.rules c.args.rules past))

pub loop-init : goal.loop-init
loop-init g c =
    let old = g.N.Nodes.course c.args.nodes.now in
    let there : c.args.rules < length c.args.scenario.now.rules = omega (arith, c.if-from-len.false, c.len.ensures, c.from.ensures) in
    handling_begins c.args.rules c.args.turns 0 old c.requires.ready (subst (λ (s : Scenario). c.args.rules < length s.rules) (sym c.requires.same) there)

pub handler_turn-requires-clause-there : goal.handler_turn-requires-clause-there
handler_turn-requires-clause-there g c = handling_there _ _ _ _ _ c.loop.invariant

pub handler_idle-requires : goal.handler_idle-requires
handler_idle-requires g c = record { there = handling_there _ _ _ _ _ c.loop.invariant }
