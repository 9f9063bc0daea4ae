use Rattle.mq_manager.proofs.BatchLaws.{sound_held}
use Rattle.mq_manager.proofs.AsideLaws.{kept_stop}
use Rattle.mq_manager.proofs.manager.Manager.stop.Goals as goal

pub stop-requires : goal.stop-requires
stop-requires g c = record { held = λ u. sound_held c.self.inside.core.plain (c.self.invariant.well.up u) c.self.invariant.well.batches }

pub invariant_of-self : goal.invariant_of-self
invariant_of-self g c = kept_stop g.D.Disk.tells c.self.inside.read c.self.inside.core c.stop.new.core c.stop.ensures.becomes c.self.invariant
