use Rattle.std.proofs.Common.{ap, sym, subst}
use Rattle.mq_core.specs.Views.{PartsValue}
use Rattle.mq_core.specs.Ties.{Tied}
use Rattle.mq_agents.proofs.EndLaws.{seized, seized_tied}
use Rattle.mq_agents.proofs.seizing.seize.Goals as goal

pub invariant_of-core : goal.invariant_of-core
unfolding seized
invariant_of-core g c =
    let seen = c.core-inside.view_is in
    subst (λ (p : PartsValue). Tied (seized c.set_side.new.items p)) (sym (ap (λ k. k.parts) seen)) (seized_tied c.set_side.new.items c.core-2.inside.parts c.core-2.invariant)
