use Rattle.mq_shared.proofs.OwnKept.{time_own}
use Rattle.mq_shared.proofs.TurnKept.{time_kept}
use Rattle.mq_shared.proofs.locked.Locked.time_out.Goals as goal

pub invariant_of-self : goal.invariant_of-self
invariant_of-self g c = (
  time_kept _ _ _ c.self.invariant.0 c.facts.ensures.kept c.facts-2.ensures.kept c.if-not-may_go.ensures.0 c.args.cable c.try_timeout-turn.result c.try_timeout-turn.ensures.served c.try_timeout-turn.ensures.tried,
  λ is none. time_own c.args.cable _ _ c.try_timeout-turn.result c.facts-2.ensures.kept c.try_timeout-turn.ensures.tried (c.self.invariant.1 is none),
)
