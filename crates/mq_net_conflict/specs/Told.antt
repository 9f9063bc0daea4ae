-- A story's deeds as they are read: delta by delta, entry by entry.
use Rattle.std.specs.Prelude.{ℕ, Bool, List, [], ◌∷◌, Option, None}
use Rattle.std.specs.Option.{option_or as or_else}
use Rattle.mq_calls.specs.declared.agents.Note.{Note}
use Rattle.mq_calls.specs.declared.deltas.Did.{Did}
use Rattle.mq_calls.specs.declared.deltas.Did.TheVariants as did
use Rattle.mq_history.specs.declared.history.History.{History}
use Rattle.mq_history.specs.declared.scenario.Scenario.{Scenario}
use Rattle.mq_history.specs.declared.story.Conflict.{Conflict}
use Rattle.mq_sync.specs.declared.unit.Unit.{Unit as Luw}
use Rattle.mq_calls.specs.State.{Plain}
use Rattle.mq_spec_network.specs.Conflict.{Told, Deed, told_by, told_after, committed_in, deeds, conflict_did, first_conflict}
use Rattle.mq_spec_network.specs.Standing.{opening_managers}
use Rattle.mq_story.specs.declared.merging.Spot.{Spot}
use Rattle.mq_story.specs.Spots.{line_at}
use Rattle.mq_net_conflict.specs.declared.told.ReceiverTold.{ReceiverTold}

abbrev pub as_told : ReceiverTold → Told
as_told t = record { session = t.session; closed = t.closed }

-- what one record tells of a receiver
abbrev pub told_noted : List ℕ → List ℕ → Note → Told → Told
told_noted channel other note t = told_by channel (did.Hardened other note) t

abbrev pub told_dids : List ℕ → List Did → Told → Told
told_dids channel [] t = t
told_dids channel (d ∷ ds) t = told_dids channel ds (told_by channel d t)

-- what the entries at spots tell
abbrev pub told_spots : List History → List ℕ → List Spot → Told → Told
told_spots hs channel [] t = t
told_spots hs channel (s ∷ ss) t = told_spots hs channel ss (told_after channel (deeds (line_at hs s)) t)

abbrev pub committed_at : List History → List ℕ → Luw → Spot → Bool
committed_at hs channel u spot = committed_in channel u (deeds (line_at hs spot))

abbrev pub conflict_noted : Scenario → List Plain → List Deed → ℕ → List ℕ → Note → Option Conflict
conflict_noted s ps whole m channel note = conflict_did s ps whole m (did.Hardened channel note)

abbrev pub first_in : Scenario → List Plain → List Deed → ℕ → List Did → Option Conflict
first_in s ps whole m [] = None
first_in s ps whole m (d ∷ ds) = or_else (conflict_did s ps whole m d) (first_in s ps whole m ds)

abbrev pub first_of : Scenario → List History → List Deed → List Spot → Option Conflict
first_of s hs whole [] = None
first_of s hs whole (x ∷ xs) = or_else (first_conflict s (opening_managers s hs) whole (deeds (line_at hs x))) (first_of s hs whole xs)
