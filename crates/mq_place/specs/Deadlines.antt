-- The soonest deadline that the rows of a queue may have.
use Rattle.std.specs.Prelude.{◌≡◌, ℕ, Bool, true, false, List, Option, Some, None, nat_le, min}
use Rattle.std.specs.List.{AllByRecursion}
use Rattle.mq_queue.specs.declared.row.Row.{Row}
use Rattle.mq_calls.specs.Reads.{is_past}

-- a deadline is no sooner than the soonest; none is where no message has one
abbrev pub is_later : Option ℕ → Option ℕ → Bool
is_later soonest None = true
is_later None (Some deadline) = false
is_later (Some soonest) (Some deadline) = nat_le soonest deadline

-- the deadlines of all rows
abbrev pub AreLater : Option ℕ → List Row → Type 0
AreLater soonest rows = AllByRecursion (λ (row : Row). is_later soonest row.message.deadline ≡ true) rows

-- the soonest, with one deadline more
abbrev pub sooner : Option ℕ → Option ℕ → Option ℕ
sooner soonest None = soonest
sooner None (Some deadline) = Some deadline
sooner (Some soonest) (Some deadline) = Some (min soonest deadline)

-- no row has expired at a moment
abbrev pub NonePast : ℕ → List Row → Type 0
NonePast moment rows = AllByRecursion (λ (row : Row). is_past moment row.message.deadline ≡ false) rows
