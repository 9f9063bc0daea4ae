-- What the faults make of what is offered.
use Rattle.std.proofs.Common.{◌≡◌, inl, inr, ℕ, zero, suc, Bool, true, false, List, [], ◌∷◌, ◌++◌, length, refl, sym, ap, subst, ◌∙◌, append_assoc, append-nil}
use Rattle.std.specs.Prelude.{Option, None, Some, take, ◌==◌}
use Rattle.std.specs.List.{AllByRecursion}
use Rattle.mq_cable.specs.declared.item.Item.{Item}
use Rattle.mq_cable.specs.declared.fault.Fault.{Fault}
use Rattle.mq_cable.specs.declared.fault.Fault.TheVariants as faults
use Rattle.mq_cable.specs.Faults.{fault_of, pushed_now, comes_after, due_if, due_from, due_after, pushed_of, pushed_by, Offer, Offered, made_from, made, made_after, made_of, offered_of, IsMadeOf}

-- ---- no faults

none_due : (n k : ℕ) (xs : List Item) → due_from [] n k xs ≡ []
none_due n k [] = refl
none_due n k (x ∷ xs) = none_due n (suc k) xs

take_nil : (n : ℕ) → take {A = Item} n [] ≡ []
take_nil zero = refl
take_nil (suc n) = refl

take_none : (n : ℕ) (xs : List Item) → xs ≡ [] → take n xs ≡ []
take_none n [] e = take_nil n
take_none n (x ∷ xs) e = absurd cc

all_from : (before : List Item) (os : List Offered) → made_from [] before os ≡ offered_of os
all_from before [] = refl
all_from before (o ∷ os) =
    let none = take_none o.extras (due_after [] (before ++ o.item ∷ [])) (none_due (length (before ++ o.item ∷ [])) 1 (before ++ o.item ∷ [])) in
    ap (λ (l : List Item). (o.item ∷ l) ++ made_from [] (before ++ o.item ∷ []) os) none
    ∙ ap (λ (l : List Item). o.item ∷ l) (all_from (before ++ o.item ∷ []) os)

pub all_pushed : (os : List Offered) → made [] os ≡ offered_of os
all_pushed os = all_from [] os

-- ---- one more, of any items

more_from : {A : Type 0} (spoil : A → A) (fs : List Fault) (before : List A) (os : List (Offer A)) (o : Offer A) → made_after spoil fs before (os ++ o ∷ []) ≡ made_after spoil fs before os ++ pushed_by spoil fs (before ++ offered_of os) o.item o.extras
more_from {A} spoil fs before [] o =
    append-nil (pushed_by spoil fs before o.item o.extras) ∙ ap (λ (b : List A). pushed_by spoil fs b o.item o.extras) (sym (append-nil before))
more_from {A} spoil fs before (p ∷ os) o =
    let first = pushed_by spoil fs before p.item p.extras in
    let next = before ++ p.item ∷ [] in
    ap (λ (l : List A). first ++ l) (more_from spoil fs next os o)
    ∙ sym (append_assoc first (made_after spoil fs next os) (pushed_by spoil fs (next ++ offered_of os) o.item o.extras))
    ∙ ap (λ (b : List A). (first ++ made_after spoil fs next os) ++ pushed_by spoil fs b o.item o.extras) (append_assoc before (p.item ∷ []) (offered_of os))

pub one_more : {A : Type 0} (spoil : A → A) (fs : List Fault) (os : List (Offer A)) (o : Offer A) → made_of spoil fs (os ++ o ∷ []) ≡ made_of spoil fs os ++ pushed_by spoil fs (offered_of os) o.item o.extras
one_more spoil fs os o = more_from spoil fs [] os o

-- ---- each was offered

abbrev AreMade : List Item → List Item → Type 0
AreMade items xs = AllByRecursion (IsMadeOf items) xs

join : (items xs ys : List Item) → AreMade items xs → AreMade items ys → AreMade items (xs ++ ys)
join items [] ys p q = q
join items (x ∷ xs) ys p q = (p.0, join items xs ys p.1 q)

first_ones : (items : List Item) (n : ℕ) (xs : List Item) → AreMade items xs → AreMade items (take n xs)
first_ones items zero xs p = tt
first_ones items (suc n) [] p = tt
first_ones items (suc n) (x ∷ xs) p = (p.0, first_ones items n xs p.1)

wider : (items more : List Item) (x : Item) → IsMadeOf items x → IsMadeOf (items ++ more) x
wider items more x h = record {
  front = h.front;
  one = h.one;
  back = h.back ++ more;
  among = ap (λ (l : List Item). l ++ more) h.among ∙ append_assoc h.front (h.one ∷ h.back) more;
  same = h.same;
}

all_wider : (items more xs : List Item) → AreMade items xs → AreMade (items ++ more) xs
all_wider items more [] p = tt
all_wider items more (x ∷ xs) p = (wider items more x p.0, all_wider items more xs p.1)

as_it_was : (items front : List Item) (x : Item) (back : List Item) → items ≡ front ++ x ∷ back → IsMadeOf items x
as_it_was items front x back e = record { front = front; one = x; back = back; among = e; same = inl refl }

now_made : (items front : List Item) (x : Item) (back : List Item) (f : Option Fault) → items ≡ front ++ x ∷ back → AreMade items (pushed_now f x)
now_made items front x back None e = (as_it_was items front x back e, tt)
now_made items front x back (Some (faults.Drop on)) e = tt
now_made items front x back (Some (faults.Late on j)) e = tt
now_made items front x back (Some (faults.Copy on j)) e = (as_it_was items front x back e, tt)
now_made items front x back (Some (faults.Spoil on)) e = (record { front = front; one = x; back = back; among = e; same = inr refl }, tt)

due_some : (items : List Item) (n j : ℕ) (x : Item) (t : Bool) → (j == n) ≡ t → IsMadeOf items x → AreMade items (due_if n (Some j) x)
due_some items n j x true e h = rw e (h, tt)
due_some items n j x false e h = rw e tt

due_one : (items : List Item) (n : ℕ) (j : Option ℕ) (x : Item) → IsMadeOf items x → AreMade items (due_if n j x)
due_one items n None x h = tt
due_one items n (Some j) x h = due_some items n j x (j == n) refl h

due_made : (fs : List Fault) (items : List Item) (n k : ℕ) (front xs : List Item) → items ≡ front ++ xs → AreMade items (due_from fs n k xs)
due_made fs items n k front [] e = tt
due_made fs items n k front (x ∷ xs) e =
    join items (due_if n (comes_after (fault_of k fs)) x) (due_from fs n (suc k) xs)
    (due_one items n (comes_after (fault_of k fs)) x (as_it_was items front x xs e))
    (due_made fs items n (suc k) (front ++ x ∷ []) xs (e ∙ sym (append_assoc front (x ∷ []) xs)))

from_made : (fs : List Fault) (before : List Item) (os : List Offered) → AreMade (before ++ offered_of os) (made_from fs before os)
from_made fs before [] = tt
from_made fs before (o ∷ os) =
    let next = before ++ o.item ∷ [] in
    let items = before ++ o.item ∷ offered_of os in
    let same : next ++ offered_of os ≡ items = append_assoc before (o.item ∷ []) (offered_of os) in
    let due : AreMade next (due_after fs next) = due_made fs next (length next) 1 [] next refl in
    let later : AreMade items (take o.extras (due_after fs next)) = first_ones items o.extras (due_after fs next) (subst (λ (l : List Item). AreMade l (due_after fs next)) same (all_wider next (offered_of os) (due_after fs next) due)) in
    let rest : AreMade items (made_from fs next os) = subst (λ (l : List Item). AreMade l (made_from fs next os)) same (from_made fs next os) in
    join items (pushed_of fs before o.item o.extras) (made_from fs next os)
    (join items (pushed_now (fault_of (suc (length before)) fs) o.item) (take o.extras (due_after fs next)) (now_made items before o.item (offered_of os) (fault_of (suc (length before)) fs) refl) later)
    rest

pub each_made : (fs : List Fault) (os : List Offered) → AreMade (offered_of os) (made fs os)
each_made fs os = from_made fs [] os
