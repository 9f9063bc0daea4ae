-- What lies on a cable is items, frames or spoiled ones.
use Rattle.std.proofs.Common.{◌≡◌, ℕ, zero, suc, Bool, true, false, List, [], ◌∷◌, ◌++◌, length, take, drop, refl}
use Rattle.std.specs.Prelude.{◌==◌, if◌then◌else◌, Option, Some, None}
use Rattle.mq_cable.specs.declared.fault.Fault.{Fault}
use Rattle.mq_cable.specs.declared.fault.Fault.TheVariants as faults
use Rattle.mq_cable.specs.Faults.{Offer, comes_after, due_after, due_from, due_if, fault_of, made_after, now_of, pushed_by}
use Rattle.mq_frame.specs.declared.frame.Frame.{Frame}
use Rattle.mq_frame.specs.Sight.{waits}
use Rattle.mq_history.specs.declared.calls.Entry.{Entry}
use Rattle.mq_spec_network.specs.Cables.{Lying, lying, offered_by, offered_if, pops_of, spoiled}

abbrev pub AreItems : List Lying → Type 0
AreItems [] = Unit {0}
AreItems (y ∷ ys) = (waits y.seen ≡ true) × AreItems ys

items_append : (xs ys : List Lying) → AreItems xs → AreItems ys → AreItems (xs ++ ys)
items_append [] ys h k = k
items_append (x ∷ xs) ys h k = (h.0, items_append xs ys h.1 k)

items_take : (n : ℕ) (xs : List Lying) → AreItems xs → AreItems (take n xs)
items_take zero xs h = tt
items_take (suc n) [] h = tt
items_take (suc n) (x ∷ xs) h = (h.0, items_take n xs h.1)

items_drop : (n : ℕ) (xs : List Lying) → AreItems xs → AreItems (drop n xs)
items_drop zero xs h = h
items_drop (suc n) [] h = tt
items_drop (suc n) (x ∷ xs) h = items_drop n xs h.1

items_now : (o : Option Fault) (y : Lying) → waits y.seen ≡ true → AreItems (now_of spoiled o y)
items_now None y h = (h, tt)
items_now (Some (faults.Drop on)) y h = tt
items_now (Some (faults.Late on j)) y h = tt
items_now (Some (faults.Copy on j)) y h = (h, tt)
items_now (Some (faults.Spoil on)) y h = (refl, tt)

items_due_if : (n : ℕ) (o : Option ℕ) (y : Lying) → waits y.seen ≡ true → AreItems (due_if n o y)
items_due_if n None y h = tt
items_due_if n (Some j) y h = one (j == n)
  where
    one : (b : Bool) → AreItems (if b then y ∷ [] else [])
    one true = (h, tt)
    one false = tt

items_due : (fs : List Fault) (n k : ℕ) (xs : List Lying) → AreItems xs → AreItems (due_from fs n k xs)
items_due fs n k [] h = tt
items_due fs n k (x ∷ xs) h = items_append (due_if n (comes_after (fault_of k fs)) x) (due_from fs n (suc k) xs) (items_due_if n (comes_after (fault_of k fs)) x h.0) (items_due fs n (suc k) xs h.1)

abbrev AreOffered : List (Offer Lying) → Type 0
AreOffered [] = Unit {0}
AreOffered (o ∷ os) = (waits o.item.seen ≡ true) × AreOffered os

items_made : (fs : List Fault) (before : List Lying) (os : List (Offer Lying)) → AreItems before → AreOffered os → AreItems (made_after spoiled fs before os)
items_made fs before [] h k = tt
items_made fs before (o ∷ os) h k =
    let more : AreItems (before ++ o.item ∷ []) = items_append before (o.item ∷ []) h (k.0, tt) in
    items_append (pushed_by spoiled fs before o.item o.extras) (made_after spoiled fs (before ++ o.item ∷ []) os)
    (items_append (now_of spoiled (fault_of (suc (length before)) fs) o.item) (take o.extras (due_after fs (before ++ o.item ∷ []))) (items_now (fault_of (suc (length before)) fs) o.item k.0)
    (items_take o.extras (due_after fs (before ++ o.item ∷ [])) (items_due fs (length (before ++ o.item ∷ [])) 1 (before ++ o.item ∷ []) more)))
    (items_made fs (before ++ o.item ∷ []) os more k.1)

all_offered : (es : List Entry) → AreOffered (offered_by es)
all_offered [] = tt
all_offered (e ∷ es) = one e.effect.pushed (all_offered es)
  where
    one : (o : Option Frame) → AreOffered (offered_by es) → AreOffered (offered_if o e.effect.extras ++ offered_by es)
    one None h = h
    one (Some f) h = (refl, h)

pub items_lie : (fs : List Fault) (pushes_ pops : List Entry) → AreItems (lying fs pushes_ pops)
items_lie fs pushes_ pops = items_drop (length (pops_of pops)) (made_after spoiled fs [] (offered_by pushes_)) (items_made fs [] (offered_by pushes_) tt (all_offered pushes_))
