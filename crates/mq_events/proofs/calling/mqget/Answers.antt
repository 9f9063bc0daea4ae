use Rattle.std.proofs.Common.{◌≡◌, true, false, sym, subst, ◌∙◌}
use Rattle.mq_spec_manager.specs.Get.{is_waiting}
use Rattle.mq_events.specs.Outcomes.{is_wanting, Ends}
use Rattle.mq_history.specs.declared.calls.Call.TheVariants as calls
use Rattle.std.specs.Prelude.{Option, Ok}
use Rattle.mq_events.specs.declared.outcome.Outcome.{Outcome}
use Rattle.mq_events.proofs.CallLaws.{get_ends, get_wants, true_false}
use Rattle.mq_events.proofs.calling.mqget.Goals as goal
use Rattle.mq_events.proofs.calling.mqget.Goals.{else-waits-via-then-waits+else-is_wanting, else-waits-via-else-waits}

pub returns-then-is_wanting : goal.returns-then-is_wanting
returns-then-is_wanting g c =
    get_wants c.args.hc c.args.ho c.args.get.now c.args.until c.args.manager.now c.mqget-ended.new.self _ c.mqget-ended.result c.mqget-ended.ensures.meets (sym c.is_wanting.ensures ∙ c.if-is_wanting.true)

pub returns : goal.returns
returns g c =
    let waits : is_wanting c.mqget-ended.result ≡ true → is_waiting c.args.until c.args.manager.now.plain ≡ false = λ h.
    elim c.else-waits.branch as (λ x. is_waiting c.args.until c.args.manager.now.plain ≡ false) [
      | else-waits-via-then-waits+else-is_wanting w ↦ absurd (true_false (sym h ∙ sym w.is_wanting.ensures ∙ w.if-is_wanting.false))
      | else-waits-via-else-waits w ↦ sym c.is_waiting-waits.ensures ∙ w.if-waits.false
    ] in
    let E : Option Outcome → Type 0 = λ o. Ends (calls.Mqget c.args.hc c.args.ho c.args.get.now c.args.until) c.args.manager.now (Ok o) c.told-choice.new.manager in
    subst E (sym c.outcome_of.ensures)
    (get_ends c.args.hc c.args.ho c.args.get.now c.args.until c.args.manager.now c.mqget-ended.new.self c.told-choice.new.manager c.mqget-ended.result c.told-choice.result.choice c.told-choice.result.delta
    c.mqget-ended.ensures.meets waits c.told-choice.ensures.choice c.told-choice.ensures.delta c.told-choice.ensures.after)
