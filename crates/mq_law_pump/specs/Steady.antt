-- What is asked of a network so that a PUMP of it moves the lanes of the measure, one at each turn that counts.
use Rattle.std.specs.Prelude.{◌≡◌, ◌⊎◌, ℕ, suc, Bool, false, List, [], ◌∷◌, Some, slice_get}
use Rattle.mq_history.specs.declared.calls.Call.{Call}
use Rattle.mq_history.specs.declared.calls.Call.TheVariants as calls
use Rattle.mq_history.specs.declared.calls.Entry.{Entry}
use Rattle.mq_history.specs.declared.scenario.CableLine.{CableLine}
use Rattle.mq_spec_network.specs.Turns.{Network, changes, does, node_at}
use Rattle.mq_spec_network.specs.Tasks.{Slot, Task}
use Rattle.mq_spec_network.specs.Tasks.Task.{Pump}
use Rattle.mq_spec_network.specs.Tasks.Slot.{Sends, Receives, TimesOut}
use Rattle.mq_spec_network.specs.Steps.{TakesTurn, none_due, turn_in}
use Rattle.mq_law_idle.specs.Roads.{Quiet}
use Rattle.mq_law_idle.specs.Lanes.{Lane, Moves}

-- all cables of a network, from this number on, each as a lane
abbrev pub SeesAll : (Network → ℕ → CableLine → Lane → Type 0) → Network → ℕ → List CableLine → List Lane → Type 0
SeesAll Sees w k [] [] = Unit {0}
SeesAll Sees w k (c ∷ cs) (l ∷ ls) = Sees w k c l × SeesAll Sees w (suc k) cs ls
SeesAll Sees w k _ _ = ⊥

-- an entry of a PUMP: a turn of an end of this cable, or a timeout, by this manager
abbrev pub IsOf : Network → ℕ → CableLine → ℕ → Entry → Type 0
IsOf w k c m e = (slot : Slot) × TakesTurn (turn_in w slot k c) m e

abbrev pub IsStill : Network → Slot → ℕ → CableLine → Type 0
IsStill w slot k c = changes (turn_in w slot k c).way (turn_in w slot k c).deed ≡ false

-- A timeout comes to a lane that is quiet.
abbrev pub TimeoutFits : Slot → Lane → Type 0
TimeoutFits Sends l = Unit {0}
TimeoutFits Receives l = Unit {0}
TimeoutFits TimesOut l = Quiet l.road

-- the lane that a turn makes of one
pub record Moved (Sees : Network → ℕ → CableLine → Lane → Type 0) (w : Network) (k : ℕ) (c : CableLine) (l : Lane) : Type 0 where
  pub lane : Lane
  pub moves : Moves l lane
  pub sees : Sees w k c lane

-- the calls of a PUMP
abbrev pub IsPumped : Call → Type 0
IsPumped call = (call ≡ calls.Turn) ⊎ ((call ≡ calls.Timeout) ⊎ (call ≡ calls.Trigger))

-- what a PUMP asks is its own tasks
abbrev pub ArePumps : List Task → Type 0
ArePumps ts = (ts ≡ []) ⊎ ((left : ℕ) × (slot : Slot) × (cable : ℕ) × (any : Bool) × (ts ≡ Pump left slot cable any ∷ []))

-- `Good` is what is known of a network from what follows, `Sees` how a lane shows a cable. A turn moves its cable's lane and leaves
-- the others as they are; a trigger turn leaves all; where both ends of a cable have nothing to do, its lane is quiet.
pub record IsSteady (Good : Network → Type 0) (Sees : Network → ℕ → CableLine → Lane → Type 0) : Type 0 where
  pub earlier : (w : Network) (m : ℕ) (e : Entry) → IsPumped e.call → Good (does m (e ∷ []) w) → Good w
  pub due : (w : Network) (m : ℕ) (e : Entry) → Good (does m (e ∷ []) w) → e.call ≡ calls.Trigger → none_due (node_at w m) ≡ false
  pub own : (w : Network) (slot : Slot) (k : ℕ) (c : CableLine) (m : ℕ) (e : Entry) (l : Lane) → Good (does m (e ∷ []) w) → slice_get w.scenario.cables k ≡ Some c → Sees w k c l → TimeoutFits slot l
      → TakesTurn (turn_in w slot k c) m e → Moved Sees (does m (e ∷ []) w) k c l
  pub other : (w : Network) (k : ℕ) (c : CableLine) (m : ℕ) (e : Entry) (j : ℕ) (d : CableLine) (l moving : Lane) → Good (does m (e ∷ []) w) → slice_get w.scenario.cables k ≡ Some c → slice_get w.scenario.cables j ≡ Some d → Sees w j d l
      → Sees w k c moving → IsOf w k c m e → (j ≡ k → ⊥) → Sees (does m (e ∷ []) w) j d l
  pub aside : (w : Network) (m : ℕ) (e : Entry) (j : ℕ) (d : CableLine) (l : Lane) → Good (does m (e ∷ []) w) → slice_get w.scenario.cables j ≡ Some d → Sees w j d l → e.call ≡ calls.Trigger → Sees (does m (e ∷ []) w) j d l
  pub quiet : (w : Network) (k : ℕ) (c : CableLine) (l : Lane) → Good w → slice_get w.scenario.cables k ≡ Some c → Sees w k c l → IsStill w Sends k c → IsStill w Receives k c → Quiet l.road
