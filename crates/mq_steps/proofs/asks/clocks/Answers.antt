use Rattle.std.specs.Prelude.{◌<◌, ℕ, length}
use Rattle.std.proofs.Common.{ap, subst, sym, ◌∙◌}
use Rattle.mq_history.specs.declared.scenario.Scenario.{Scenario}
use Rattle.mq_nodes.proofs.Onward.{same}
use Rattle.mq_nodes.proofs.ClockLaws.{keeps}
use Rattle.mq_steps.proofs.asks.clocks.Goals as goal

pub advance_clock-requires-clause-there : goal.advance_clock-requires-clause-there
advance_clock-requires-clause-there g c =
    subst (λ (n : ℕ). c.loop-manager.manager < n) (c.loop-manager.invariant.upto ∙ sym (ap (λ (s : Scenario). length s.managers) (same _ _ _ _ c.loop-manager.invariant.on))) c.loop-manager-test.true

pub loop-manager-preserved : goal.loop-manager-preserved
loop-manager-preserved g c = keeps _ _ _ _ _ _ _ c.loop-manager-test.true c.loop-manager.invariant c.in_ok-advance_clock.ensures.told c.in_ok-advance_clock.ensures.moment
