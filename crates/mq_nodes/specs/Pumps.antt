-- A pump's rounds: how many turns are left behind each.
use Rattle.std.specs.Prelude.{◌≡◌, ◌≤◌, ◌<◌, ◌⊎◌, ℕ, zero, suc, nat_lt, Bool, false, List, [], ◌∷◌, Some, Result, Ok, Err, length, slice_get}
use Rattle.mq_history.specs.declared.scenario.CableLine.{CableLine}
use Rattle.mq_spec_network.specs.Turns.{Network, changes}
use Rattle.mq_spec_network.specs.Tasks.{Task, Slot}
use Rattle.mq_spec_network.specs.Tasks.Task.{Pump}
use Rattle.mq_spec_network.specs.Tasks.Slot.{Sends, Receives, TimesOut}
use Rattle.mq_spec_network.specs.Steps.{TakesTurn, turn_in, next_round}
use Rattle.mq_nodes.specs.declared.nodes.Stop.{Stop}
use Rattle.mq_nodes.specs.Course.{Course, Did, Ready}
use Rattle.mq_nodes.specs.Told.{Broke, DoesOrNot, Onward, Part}

-- a turn at a cable would change nothing
abbrev pub IsStill : Network → Slot → ℕ → CableLine → Type 0
IsStill w slot cable l = changes (turn_in w slot cable l).way (turn_in w slot cable l).deed ≡ false

-- the turn is taken where it changes something, and else nothing is done
abbrev pub TurnIn : Slot → ℕ → Result Bool Stop → Course → Course → Type 0
TurnIn slot cable r c d = (l : CableLine) → slice_get c.net.scenario.cables cable ≡ Some l → DoesOrNot (TakesTurn (turn_in c.net slot cable l)) (IsStill c.net slot cable l) r c d

-- No turn and no timeout would change a thing: of the first cables, of all.
abbrev pub StillAt : Network → Slot → ℕ → Type 0
StillAt w slot n = (m : ℕ) (l : CableLine) → m < n → slice_get w.scenario.cables m ≡ Some l → IsStill w slot m l

abbrev pub AllStill : Network → Type 0
AllStill w = (slot : Slot) → StillAt w slot (length w.scenario.cables)

-- One turn, where any is left: so many are left then.
abbrev pub TurnsOf : Slot → ℕ → CableLine → ℕ → Result ℕ Stop → Course → Course → Type 0
TurnsOf slot cable l left (Ok rest) c d =
    ((left ≡ suc rest) × Did (TakesTurn (turn_in c.net slot cable l)) c d × Ready d.net)
    ⊎ ((rest ≡ left) × (d ≡ c) × (0 < left → IsStill c.net slot cable l))
TurnsOf slot cable l left (Err stop) c d = (0 < left) × Broke (TakesTurn (turn_in c.net slot cable l)) stop c d

abbrev pub TurnsIn : Slot → ℕ → ℕ → Result ℕ Stop → Course → Course → Type 0
TurnsIn slot cable left r c d = (l : CableLine) → slice_get c.net.scenario.cables cable ≡ Some l → TurnsOf slot cable l left r c d

-- where a pump stands, if any turn is left
abbrev pub pumping : ℕ → Slot → ℕ → Bool → List Task
pumping zero slot cable any = []
pumping (suc left) slot cable any = Pump (suc left) slot cable any ∷ []

abbrev pub round_then : ℕ → Bool → List Task
round_then zero any = []
round_then (suc left) any = next_round (suc left) Sends any

-- A round of turns, of timeouts, and of both: where none was taken, nothing was done, and none would change a thing.
pub record RoundOf (from : List Task) (next : ℕ → Bool → List Task) (Still : Network → Type 0) (most rest : ℕ) (c d : Course) : Type 0 where
  pub few : rest ≤ most
  pub on : Onward from (next rest (nat_lt rest most)) c d
  pub still : rest ≡ most → 0 < most → (d ≡ c) × Still c.net

abbrev pub RoundTold : (from : List Task) (next : ℕ → Bool → List Task) (Still : Network → Type 0) (most : ℕ) → Result ℕ Stop → Course → Course → Type 0
RoundTold from next Still most (Ok rest) c d = RoundOf from next Still most rest c d
RoundTold from next Still most (Err stop) c d = Part {T = ℕ} from (Err stop) c d

abbrev pub TurnsStill : Network → Type 0
TurnsStill w = StillAt w Sends (length w.scenario.cables) × StillAt w Receives (length w.scenario.cables)

abbrev pub TimeoutsStill : Network → Type 0
TimeoutsStill w = StillAt w TimesOut (length w.scenario.cables)

abbrev pub from_start : ℕ → Bool → List Task
from_start rest any = pumping rest Sends 0 false
