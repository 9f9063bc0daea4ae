-- What is kept of offered items, and what is due of them.
use Rattle.std.proofs.Common.{◌≡◌, ℕ, suc, ◌+◌, ◌<◌, Bool, true, false, cond, List, [], ◌∷◌, ◌++◌, length, refl, sym, ap, ◌∙◌, arith, append_assoc, append-nil}
use Rattle.std.specs.Prelude.{nat_lt, ◌==◌, not, Option, Some, None, map, filter}
use Rattle.std.proofs.lemmas.Bool.Decides.{nat_tests}
use Rattle.std.proofs.lemmas.List.Elements.{filter-append}
use Rattle.std.proofs.lemmas.List.{length-append, map-append}
use Rattle.mq_cable.specs.declared.item.Item.{Item}
use Rattle.mq_cable.specs.declared.fault.Fault.{Fault}
use Rattle.mq_cable.specs.declared.push.Kept.{Kept}
use Rattle.mq_cable.specs.Faults.{fault_of, comes_after, due_if, due_from, due_after}
use Rattle.mq_cable.specs.Offers.{Offering, kept_if, kept_from, HasTaken, is_due, is_left, item_of, due_of, next_fault, with_next, counted}

-- ---- one item

absurd_due : (n m j : ℕ) → m < n → nat_lt m j ≡ false → (j == n) ≡ true → ⊥
absurd_due n m j lt e f = grind (arith, nat_tests)

due_some : (n m : ℕ) → m < n → (j : ℕ) (x : Item) (t : Bool) → nat_lt m j ≡ t → (u : Bool) → (j == n) ≡ u → map item_of (filter (is_due n) (kept_if m (Some j) x)) ≡ due_if n (Some j) x
due_some n m lt j x true e true f = rw (e, f) refl
due_some n m lt j x true e false f = rw (e, f) refl
due_some n m lt j x false e true f = absurd (absurd_due n m j lt e f)
due_some n m lt j x false e false f = rw (e, f) refl

due_one : (n m : ℕ) → m < n → (j : Option ℕ) (x : Item) → map item_of (filter (is_due n) (kept_if m j x)) ≡ due_if n j x
due_one n m lt None x = refl
due_one n m lt (Some j) x = due_some n m lt j x (nat_lt m j) refl (j == n) refl

later_than : (m j : ℕ) (t u : Bool) → nat_lt m j ≡ t → (j == suc m) ≡ u → nat_lt (suc m) j ≡ cond t (not u) false
later_than m j true true e f = grind (arith, nat_tests)
later_than m j true false e f = grind (arith, nat_tests)
later_than m j false u e f = grind (arith, nat_tests)

next_some : (m j : ℕ) (x : Item) (t : Bool) → nat_lt m j ≡ t → (u : Bool) → (j == suc m) ≡ u → kept_if (suc m) (Some j) x ≡ filter (is_left (suc m)) (kept_if m (Some j) x)
next_some m j x true e true f = rw (e, f, later_than m j true true e f) refl
next_some m j x true e false f = rw (e, f, later_than m j true false e f) refl
next_some m j x false e u f = rw (e, later_than m j false u e f) refl

next_one : (m : ℕ) (j : Option ℕ) (x : Item) → kept_if (suc m) j x ≡ filter (is_left (suc m)) (kept_if m j x)
next_one m None x = refl
next_one m (Some j) x = next_some m j x (nat_lt m j) refl (j == suc m) refl

-- ---- all items

pub due_all : (fs : List Fault) (n m k : ℕ) → m < n → (xs : List Item) → due_of n (kept_from fs m k xs) ≡ due_from fs n k xs
due_all fs n m k lt [] = refl
due_all fs n m k lt (x ∷ xs) =
    let one = kept_if m (comes_after (fault_of k fs)) x in
    let rest = kept_from fs m (suc k) xs in
    ap (map item_of) (filter-append (is_due n) one rest)
    ∙ map-append item_of (filter (is_due n) one) (filter (is_due n) rest)
    ∙ ap (λ (l : List Item). l ++ due_of n rest) (due_one n m lt (comes_after (fault_of k fs)) x)
    ∙ ap (λ (l : List Item). due_if n (comes_after (fault_of k fs)) x ++ l) (due_all fs n m (suc k) lt xs)

pub next_all : (fs : List Fault) (m k : ℕ) (xs : List Item) → kept_from fs (suc m) k xs ≡ filter (is_left (suc m)) (kept_from fs m k xs)
next_all fs m k [] = refl
next_all fs m k (x ∷ xs) =
    let j = comes_after (fault_of k fs) in
    ap (λ (l : List Kept). l ++ kept_from fs (suc m) (suc k) xs) (next_one m j x)
    ∙ ap (λ (l : List Kept). filter (is_left (suc m)) (kept_if m j x) ++ l) (next_all fs m (suc k) xs)
    ∙ sym (filter-append (is_left (suc m)) (kept_if m j x) (kept_from fs m (suc k) xs))

pub kept_push : (fs : List Fault) (m k : ℕ) (xs : List Item) (x : Item) → kept_from fs m k (xs ++ x ∷ []) ≡ kept_from fs m k xs ++ kept_if m (comes_after (fault_of (k + length xs) fs)) x
kept_push fs m k [] x =
    let same : k ≡ k + 0 = omega arith in
    append-nil (kept_if m (comes_after (fault_of k fs)) x) ∙ ap (λ (i : ℕ). kept_if m (comes_after (fault_of i fs)) x) same
kept_push fs m k (y ∷ xs) x =
    let same : suc k + length xs ≡ k + suc (length xs) = omega arith in
    let one = kept_if m (comes_after (fault_of k fs)) y in
    ap (λ (l : List Kept). one ++ l) (kept_push fs m (suc k) xs x)
    ∙ sym (append_assoc one (kept_from fs m (suc k) xs) (kept_if m (comes_after (fault_of (suc k + length xs) fs)) x))
    ∙ ap (λ (i : ℕ). (one ++ kept_from fs m (suc k) xs) ++ kept_if m (comes_after (fault_of i fs)) x) same

-- ---- what stands for the items offered

pub with_is : (o : Offering) (offered : List Item) (x : Item) → HasTaken o offered → with_next o x ≡ kept_from o.faults (length offered) 1 (offered ++ x ∷ [])
with_is o offered x h =
    let at : 1 + length offered ≡ suc o.number = omega (arith, h.number) in
    ap (λ (l : List Kept). l ++ kept_if o.number (comes_after (next_fault o)) x) h.kept
    ∙ ap (λ (m : ℕ). kept_from o.faults (length offered) 1 offered ++ kept_if m (comes_after (next_fault o)) x) h.number
    ∙ ap (λ (i : ℕ). kept_from o.faults (length offered) 1 offered ++ kept_if (length offered) (comes_after (fault_of i o.faults)) x) (sym at)
    ∙ sym (kept_push o.faults (length offered) 1 offered x)

one_longer : (offered : List Item) (x : Item) → length (offered ++ x ∷ []) ≡ suc (length offered)
one_longer offered x = omega (arith, length-append offered (x ∷ []))

pub taken_next : (o : Offering) (offered : List Item) (x : Item) → HasTaken o offered → HasTaken (counted o (with_next o x)) (offered ++ x ∷ [])
taken_next o offered x h = record {
  number = ap suc h.number ∙ sym (one_longer offered x);
  kept = ap (filter (is_left (suc o.number))) (with_is o offered x h)
      ∙ ap (λ (n : ℕ). filter (is_left (suc n)) (kept_from o.faults (length offered) 1 (offered ++ x ∷ []))) h.number
      ∙ sym (next_all o.faults (length offered) 1 (offered ++ x ∷ []))
      ∙ ap (λ (n : ℕ). kept_from o.faults n 1 (offered ++ x ∷ [])) (sym (one_longer offered x));
}

pub due_next : (o : Offering) (offered : List Item) (x : Item) → HasTaken o offered → due_of (suc o.number) (with_next o x) ≡ due_after o.faults (offered ++ x ∷ [])
due_next o offered x h =
    ap (due_of (suc o.number)) (with_is o offered x h)
    ∙ ap (λ (n : ℕ). due_of (suc n) (kept_from o.faults (length offered) 1 (offered ++ x ∷ []))) h.number
    ∙ due_all o.faults (suc (length offered)) (length offered) 1 (omega arith) (offered ++ x ∷ [])
    ∙ ap (λ (n : ℕ). due_from o.faults n 1 (offered ++ x ∷ [])) (sym (one_longer offered x))
