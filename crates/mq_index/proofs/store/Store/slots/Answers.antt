use Rattle.mq_index.specs.Slots.{home_in}
use Rattle.mq_index.proofs.SlotLaws.{sound_of}
use Rattle.mq_index.proofs.store.Store.slots.Goals as goal

pub returns-clause-sound : goal.returns-clause-sound
returns-clause-sound c = rw (← c.self.view_is) (sound_of c.self.inside.marks.items c.self.inside.slots.items c.self.inside.arrivals (home_in c.self.inside.homes) c.self.invariant.0 c.self.invariant.2)
