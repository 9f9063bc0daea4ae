use Rattle.std.specs.Prelude.{◌<◌, ◌≡◌, Some, length, slice_get, refl, List}
use Rattle.std.proofs.Common.{ap, subst, sym, ◌∙◌}
use Rattle.std.proofs.lemmas.Option.{slice_get_read}
use Rattle.mq_history.specs.declared.scenario.Scenario.{Scenario}
use Rattle.mq_history.specs.declared.scenario.Step.{Step}
use Rattle.mq_nodes.specs.Carried.{IsCarriedSoFar}
use Rattle.mq_nodes.proofs.CarriedLaws.{carried_begins, carried_grows, carried_noted}
use Rattle.mq_nodes.proofs.StepLaws.{room, step_breaks, steps_begin, steps_go_on}
use Rattle.mq_steps.proofs.DoingLaws.{steps_broke}
use Rattle.mq_steps.proofs.PartLaws.{scenario_stays}
use Rattle.mq_steps.proofs.steps.do_steps.Goals as goal

pub loop-step-init : goal.loop-step-init
loop-step-init g c =
    let old = g.N.Nodes.course c.args.nodes.now in
    (steps_begin old c.requires.ready c.requires.rests c.requires.unmarked, carried_begins old c.requires.unmarked)

pub returns-in_err-idle-clause-told : goal.returns-in_err-idle-clause-told
returns-in_err-idle-clause-told g c =
    let old = g.N.Nodes.course c.args.nodes.now in
    let now = g.N.Nodes.course c.loop-step.nodes in
    let new = g.N.Nodes.course c.do_step.new.nodes in
    let read = slice_get_read _ _ _ _ refl c.loop-step-test.true c.step-item.is in
    let known = subst (λ (xs : List Step). slice_get xs c.loop-step.step-index ≡ Some c.step-item.result) (c.as_slice-step-items.ensures ∙ sym (ap (λ (s : Scenario). s.steps) c.requires.same)) read in
    steps_broke _ _ old new c.from_residual.ensures.1 (step_breaks c.loop-step.step-index old now new c.step-item.result _ known c.loop-step.invariant.0 c.in_err-idle.ensures.told)

pub returns-in_err-idle-clause-carried : goal.returns-in_err-idle-clause-carried
returns-in_err-idle-clause-carried g c =
    let now = g.N.Nodes.course c.loop-step.nodes in
    let new = g.N.Nodes.course c.do_step.new.nodes in
    let part = c.in_err-idle.ensures.told in
    carried_grows now new _ part.left part.goes part.marks c.loop-step.invariant.1

pub mark-requires : goal.mark-requires
mark-requires g c =
    let old = g.N.Nodes.course c.args.nodes.now in
    let now = g.N.Nodes.course c.loop-step.nodes in
    let new = g.N.Nodes.course c.do_step.new.nodes in
    let lt = subst (λ (xs : List Step). c.loop-step.step-index < length xs) (c.as_slice-step-items.ensures ∙ sym (ap (λ (s : Scenario). s.steps) c.requires.same)) c.loop-step-test.true in
    record { room = room c.loop-step.step-index old now new c.step-item.result _ _ lt c.loop-step.invariant.0 c.in_ok-idle.ensures.told (scenario_stays _ _ now new c.in_ok-idle.ensures.told) }

pub loop-step-preserved : goal.loop-step-preserved
loop-step-preserved g c =
    let old = g.N.Nodes.course c.args.nodes.now in
    let now = g.N.Nodes.course c.loop-step.nodes in
    let done = g.N.Nodes.course c.do_step.new.nodes in
    let new = g.N.Nodes.course c.mark.new.self in
    let read = slice_get_read _ _ _ _ refl c.loop-step-test.true c.step-item.is in
    let known = subst (λ (xs : List Step). slice_get xs c.loop-step.step-index ≡ Some c.step-item.result) (c.as_slice-step-items.ensures ∙ sym (ap (λ (s : Scenario). s.steps) c.requires.same)) read in
    let part = c.in_ok-idle.ensures.told in (
      steps_go_on c.loop-step.step-index old now done new c.step-item.result c.in_ok-idle.idle known c.loop-step.invariant.0 part c.in_ok-idle.ensures.idle c.mark.ensures.noted,
      subst IsCarriedSoFar (sym c.mark.ensures.noted) (carried_noted done c.in_ok-idle.idle c.mark.ensures.carried (carried_grows now done _ part.left part.goes part.marks c.loop-step.invariant.1)),
    )
