-- What the scripted faults of one direction make of the items that are offered on it, counted from 1. An item is
-- whatever lies there: bytes with a stamp, or what a reader sees of them; `spoil` says what becomes of a spoiled one.
use Rattle.std.specs.Prelude.{◌≡◌, ◌⊎◌, ℕ, suc, ◌≤◌, ◌==◌, Bool, List, [], ◌∷◌, ◌++◌, if◌then◌else◌, Option, None, Some, length, take}
use Rattle.std.specs.List.{find}
use Rattle.mq_cable.specs.declared.item.Item.{Item}
use Rattle.mq_cable.specs.declared.fault.Fault.{Fault}
use Rattle.mq_cable.specs.declared.fault.Fault.TheVariants as faults

-- the fault is on the k-th item
abbrev pub names : ℕ → Fault → Bool
names k (faults.Drop on) = on == k
names k (faults.Late on j) = on == k
names k (faults.Copy on j) = on == k
names k (faults.Spoil on) = on == k

-- the fault on the k-th item: the first that the list has
abbrev pub fault_of : ℕ → List Fault → Option Fault
fault_of k fs = find (names k) fs

-- what is pushed of an item when it is offered: it, unless it is dropped or late; a spoiled one is told as such
abbrev pub now_of : {A : Type 0} → (spoil : A → A) → Option Fault → A → List A
now_of spoil None x = x ∷ []
now_of spoil (Some (faults.Drop on)) x = []
now_of spoil (Some (faults.Late on j)) x = []
now_of spoil (Some (faults.Copy on j)) x = x ∷ []
now_of spoil (Some (faults.Spoil on)) x = spoil x ∷ []

-- the number of the item after which it is pushed as an extra item
abbrev pub comes_after : Option Fault → Option ℕ
comes_after None = None
comes_after (Some (faults.Drop on)) = None
comes_after (Some (faults.Late on j)) = Some j
comes_after (Some (faults.Copy on j)) = Some j
comes_after (Some (faults.Spoil on)) = None

-- an item as an extra item, where it comes after the n-th
abbrev pub due_if : {A : Type 0} → ℕ → Option ℕ → A → List A
due_if n None x = []
due_if n (Some j) x = if j == n then x ∷ [] else []

-- the extra items that are due after the n-th, of those that were offered, which are numbered from k on
abbrev pub due_from : {A : Type 0} → List Fault → (n k : ℕ) → List A → List A
due_from fs n k [] = []
due_from fs n k (x ∷ xs) = due_if n (comes_after (fault_of k fs)) x ++ due_from fs n (suc k) xs

-- the extra items that are due after the last of those offered
abbrev pub due_after : {A : Type 0} → List Fault → List A → List A
due_after fs offered = due_from fs (length offered) 1 offered

-- what is pushed of one more item, with so many of the extra items that are due after it
abbrev pub pushed_by : {A : Type 0} → (spoil : A → A) → List Fault → (before : List A) → A → ℕ → List A
pushed_by spoil fs before x extras = now_of spoil (fault_of (suc (length before)) fs) x ++ take extras (due_after fs (before ++ x ∷ []))

-- an item that was offered, and how many extra items were pushed after it; the others that were due are lost
pub record Offer (A : Type 0) : Type 0 where
  pub item : A
  pub extras : ℕ

-- what the faults make of the items that are offered after others
abbrev pub made_after : {A : Type 0} → (spoil : A → A) → List Fault → (before : List A) → List (Offer A) → List A
made_after spoil fs before [] = []
made_after spoil fs before (o ∷ os) = pushed_by spoil fs before o.item o.extras ++ made_after spoil fs (before ++ o.item ∷ []) os

-- what they make of all that was offered
abbrev pub made_of : {A : Type 0} → (spoil : A → A) → List Fault → List (Offer A) → List A
made_of spoil fs os = made_after spoil fs [] os

-- the items that were offered, in order
abbrev pub offered_of : {A : Type 0} → List (Offer A) → List A
offered_of [] = []
offered_of (o ∷ os) = o.item ∷ offered_of os

-- no more extra items were pushed than are due
abbrev pub Within : {A : Type 0} → List Fault → (before : List A) → List (Offer A) → Type 0
Within fs before [] = Unit {0}
Within fs before (o ∷ os) = (o.extras ≤ length (due_after fs (before ++ o.item ∷ []))) × Within fs (before ++ o.item ∷ []) os

-- Items of bytes. A spoiled one has ff as its first byte.
abbrev pub spoil : List ℕ → List ℕ
spoil [] = []
spoil (b ∷ bs) = 255 ∷ bs

abbrev pub spoiled : Item → Item
spoiled x = record { stamp = x.stamp; bytes = spoil x.bytes }

abbrev pub pushed_now : Option Fault → Item → List Item
pushed_now f x = now_of spoiled f x

abbrev pub pushed_of : List Fault → (before : List Item) → Item → ℕ → List Item
pushed_of fs before x extras = pushed_by spoiled fs before x extras

abbrev pub Offered : Type 0
Offered = Offer Item

-- what the faults make of them
abbrev pub made_from : List Fault → (before : List Item) → List Offered → List Item
made_from fs before os = made_after spoiled fs before os

abbrev pub made : List Fault → List Offered → List Item
made fs os = made_of spoiled fs os

-- the item is one of these, as it was or spoiled
pub record IsMadeOf (items : List Item) (x : Item) : Type 0 where
  pub front : List Item
  pub one : Item
  pub back : List Item
  pub among : items ≡ front ++ one ∷ back
  pub same : (x ≡ one) ⊎ (x ≡ spoiled one)
