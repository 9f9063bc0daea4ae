-- The course of a run: what its nodes did, which gets wait, and what was noted at the ends of steps.
use Rattle.std.specs.Prelude.{◌≡◌, ◌^◌, ◌==◌, ℕ, nat_le, Bool, true, false, ◌||◌, List, [], ◌∷◌, ◌++◌, if◌then◌else◌, Option, None, length}
use Rattle.mq_history.specs.declared.calls.Entry.{Entry}
use Rattle.mq_history.specs.declared.history.Mark.{Mark}
use Rattle.mq_spec_network.specs.Turns.{Network, does}
use Rattle.mq_spec_network.specs.Steps.{Served, AreTriggers}

-- the deadline of each script's get that waits, and each manager's marks
pub record Course : Type 0 where
  pub net : Network
  pub waits : ℕ → Option ℕ
  pub marks : ℕ → List Mark

-- no get waits
abbrev pub Rests : Course → Type 0
Rests c = (k : ℕ) → c.waits k ≡ None

-- the deadline that a script's get keeps from now on
abbrev pub waits_then : ℕ → Option ℕ → (ℕ → Option ℕ) → ℕ → Option ℕ
waits_then k until waits n = if n == k then until else waits n

abbrev pub waiting : ℕ → Option ℕ → Course → Course
waiting k until c = record c { waits = waits_then k until c.waits }

-- A node makes at most 2^48 events; one that has an event with a stamp of 2^60 or more counts as one that made so many.
abbrev pub has_high : List Entry → Bool
has_high [] = false
has_high (e ∷ es) = nat_le (2 ^ 60) e.stamp || has_high es

abbrev pub is_spent : List Entry → Bool
is_spent es = nat_le (2 ^ 48) (length es) || has_high es

abbrev pub IsSpent : ℕ → Network → Type 0
IsSpent m w = is_spent (w.done m) ≡ true

-- between two events: no trigger is due, and no node is spent
pub record Ready (w : Network) : Type 0 where
  pub served : Served w
  pub unspent : (m : ℕ) → is_spent (w.done m) ≡ false

-- one event more, of which P holds, with trigger turns behind it
pub record Did (P : ℕ → Entry → Type 0) (c d : Course) : Type 0 where
  pub at : ℕ
  pub entry : Entry
  pub behind : List Entry
  pub fits : P at entry
  pub triggers : AreTriggers behind
  pub is : d ≡ record c { net = does at (entry ∷ behind) c.net }

-- each manager notes how much it did, and whether the step ended idle
abbrev pub mark_at : Network → Bool → ℕ → Mark
mark_at w idle m = record { entries = length (w.done m); idle = idle }

abbrev pub noted : Bool → Course → Course
noted idle c = record c { marks = λ m. c.marks m ++ mark_at c.net idle m ∷ [] }
