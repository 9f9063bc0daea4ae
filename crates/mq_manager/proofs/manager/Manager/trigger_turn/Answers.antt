use Rattle.mq_steer.specs.Turns.{halted}
use Rattle.mq_manager.proofs.CallLaws.{kept_turn}
use Rattle.mq_manager.proofs.manager.Manager.trigger_turn.Goals as goal

pub invariant_of-self : goal.invariant_of-self
invariant_of-self g c = kept_turn g.D.Disk.tells c.self.inside.read c.self.inside.core c.trigger_turn.new.core c.self.invariant (halted c.trigger_turn.result) c.trigger_turn.ensures.meets c.trigger_turn.ensures.told
