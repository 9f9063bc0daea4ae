-- Which queues may have a trigger due: what is noted of their names, and what that says of the queues.
use Rattle.std.specs.Prelude.{◌≡◌, ℕ, ◌||◌, Bool, true, false, List, nat_lt}
use Rattle.std.specs.List.{AllByRecursion, list_any}
use Rattle.std.specs.Str.{bytes_eq}
use Rattle.mq_calls.specs.Reads.{queue_in}
use Rattle.mq_place.specs.declared.due.DueAt.{DueAt}
use Rattle.mq_place.specs.declared.due.DueAt.TheVariants as due_at
use Rattle.mq_place.specs.States.{QueueState, queues_of, has_due}

-- the names that were noted; any name counts as noted where one found no room
pub record DueSet : Type 0 where
  pub names : List (List ℕ)
  pub all : Bool

abbrev pub is_noted : DueSet → List ℕ → Bool
is_noted d name = d.all || list_any (bytes_eq name) d.names

-- a queue with a trigger due is noted
abbrev pub IsListed : (List ℕ → Bool) → QueueState → Type 0
IsListed noted s = has_due s ≡ true → noted s.queue.name ≡ true

abbrev pub AreListed : (List ℕ → Bool) → List QueueState → Type 0
AreListed noted states = AllByRecursion (IsListed noted) states

-- which names are noted: none, this one alone, or several
abbrev pub AreAt : DueAt → (List ℕ → Bool) → Type 0
AreAt due_at.Nowhere noted = (name : List ℕ) → noted name ≡ false
AreAt (due_at.One queue) noted = (name : List ℕ) → noted name ≡ true → name ≡ queue
AreAt due_at.Several noted = Unit {0}

-- where a trigger is due, it is there
abbrev pub IsDueAt : DueAt → List QueueState → Type 0
IsDueAt due_at.Nowhere states = (name : List ℕ) → nat_lt 0 (queue_in name (queues_of states)).due ≡ false
IsDueAt (due_at.One queue) states = (name : List ℕ) → nat_lt 0 (queue_in name (queues_of states)).due ≡ true → name ≡ queue
IsDueAt due_at.Several states = Unit {0}
