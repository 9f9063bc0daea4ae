-- What is kept of the items that were offered: the number of them, and those that are still to be pushed.
use Rattle.std.specs.Prelude.{◌≡◌, ℕ, suc, ◌^◌, ◌≤◌, ◌==◌, nat_lt, not, Bool, List, [], ◌∷◌, ◌++◌, if◌then◌else◌, Option, None, Some, length, map, filter}
use Rattle.mq_cable.specs.declared.item.Item.{Item}
use Rattle.mq_cable.specs.declared.fault.Fault.{Fault}
use Rattle.mq_cable.specs.declared.push.Kept.{Kept}
use Rattle.mq_cable.specs.Faults.{fault_of, comes_after}

-- the faults, the items held back or still to be copied, in the order in which they were offered, and the number offered
pub record Offering : Type 0 where
  pub faults : List Fault
  pub kept : List Kept
  pub number : ℕ

-- an item is kept after the n-th where it is to come after a later one
abbrev pub kept_if : ℕ → Option ℕ → Item → List Kept
kept_if n None x = []
kept_if n (Some j) x = if nat_lt n j then record { after = j; item = x } ∷ [] else []

abbrev pub kept_from : List Fault → (n k : ℕ) → List Item → List Kept
kept_from fs n k [] = []
kept_from fs n k (x ∷ xs) = kept_if n (comes_after (fault_of k fs)) x ++ kept_from fs n (suc k) xs

-- these items were offered, and no others
pub record HasTaken (o : Offering) (offered : List Item) : Type 0 where
  pub number : o.number ≡ length offered
  pub kept : o.kept ≡ kept_from o.faults (length offered) 1 offered

-- its stamp is not above 2^60
abbrev pub IsLow : Kept → Type 0
IsLow e = e.item.stamp ≤ 2 ^ 60

-- the item is to come after the n-th
abbrev pub is_due : ℕ → Kept → Bool
is_due n e = e.after == n

abbrev pub is_left : ℕ → Kept → Bool
is_left n e = not (e.after == n)

abbrev pub item_of : Kept → Item
item_of e = e.item

-- the extra items that are due after the n-th
abbrev pub due_of : ℕ → List Kept → List Item
due_of n kept = map item_of (filter (is_due n) kept)

-- the fault on the item that is offered next
abbrev pub next_fault : Offering → Option Fault
next_fault o = fault_of (suc o.number) o.faults

-- what is kept when one more item is offered, before the extra items are pushed
abbrev pub with_next : Offering → Item → List Kept
with_next o x = o.kept ++ kept_if o.number (comes_after (next_fault o)) x

-- what is kept when the extra items after the next have been pushed or lost
abbrev pub counted : Offering → List Kept → Offering
counted o kept = record { faults = o.faults; kept = filter (is_left (suc o.number)) kept; number = suc o.number }
