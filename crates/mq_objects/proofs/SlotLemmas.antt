-- Slots with one more object, one object changed or one gone, and what is found in them.
use Rattle.std.proofs.Common.{◌≡◌, ℕ, zero, suc, ◌+◌, ◌<◌, Bool, true, false, cond, List, [], ◌∷◌, ◌++◌, refl, sym, ap, subst, ◌∙◌, Some, None, Option, length, take, get_or, slice_set, filter, is_some, option_map, option_to_list, arith}
use Rattle.std.proofs.lemmas.List.{take_more}
use Rattle.mq_objects.specs.declared.object.Object.{Object}
use Rattle.mq_objects.specs.declared.key.ObjectKey.{ObjectKey}
use Rattle.mq_objects.specs.Names.{is_object}
use Rattle.mq_objects.specs.Keys.{key_of, key_space, key_name, same_key}
use Rattle.mq_objects.specs.Keyed.{object_by}
use Rattle.mq_objects.specs.Changed.{set_in, delete_in}
use Rattle.mq_objects.specs.Slots.{present, holds, place_of, AreDistinct}
use Rattle.mq_objects.proofs.KeyLemmas.{same_key-is, same_key-self, same_key-swap, same_key-is_object, same_key-named}

-- the first slot with the object of a key is at that place
abbrev pub At : ObjectKey → List (Option Object) → ℕ → Type 0
At key [] i = ⊥
At key (slot ∷ slots) zero = holds key slot ≡ true
At key (slot ∷ slots) (suc i) = (holds key slot ≡ false) × At key slots i

-- no slot has it
abbrev pub NotIn : ObjectKey → List (Option Object) → Type 0
NotIn key [] = Unit {0}
NotIn key (slot ∷ slots) = (holds key slot ≡ false) × NotIn key slots

-- by what is found
abbrev pub Found : ObjectKey → List (Option Object) → Option ℕ → Type 0
Found key slots None = NotIn key slots
Found key slots (Some i) = At key slots i

found_next : (key : ObjectKey) (slot : Option Object) (slots : List (Option Object)) (r : Option ℕ) → holds key slot ≡ false → Found key slots r → Found key (slot ∷ slots) (option_map suc r)
found_next key slot slots None ne found = (ne, found)
found_next key slot slots (Some i) ne found = (ne, found)

pub found : (key : ObjectKey) (slots : List (Option Object)) → Found key slots (place_of key slots)
found key [] = tt
found key (slot ∷ slots) = by (holds key slot) refl (found key slots)
  where
    by : (b : Bool) → holds key slot ≡ b → Found key slots (place_of key slots) → Found key (slot ∷ slots) (cond b (Some 0) (option_map suc (place_of key slots)))
    by true e rest = e
    by false e rest = found_next key slot slots (place_of key slots) e rest

pub not_found : (key : ObjectKey) (slots : List (Option Object)) → NotIn key slots → place_of key slots ≡ None
not_found key [] ne = refl
not_found key (slot ∷ slots) (ne, rest) = let e = not_found key slots rest in λ i. cond (ne i) (Some 0) (option_map suc (e i))

pub at_within : (key : ObjectKey) (slots : List (Option Object)) (i : ℕ) → At key slots i → i < length slots
at_within key [] i at = absurd at
at_within key (slot ∷ slots) zero at = omega arith
at_within key (slot ∷ slots) (suc i) (ne, at) = omega (arith, at_within key slots i at)

-- the object of a key is the one in the slot that is found
pub object_at : (key : ObjectKey) (slots : List (Option Object)) (i : ℕ) (d : Option Object) → At key slots i → object_by key (present slots) ≡ get_or slots i d
object_at key [] i d at = absurd at
object_at key (None ∷ slots) zero d at = absurd (cc at)
object_at key (Some o ∷ slots) zero d at = let e = sym (same_key-is_object key o) ∙ at in λ i. cond (e i) (Some o) (object_by key (present slots))
object_at key (None ∷ slots) (suc n) d (ne, at) = object_at key slots n d at
object_at key (Some o ∷ slots) (suc n) d (ne, at) =
    let e = sym (same_key-is_object key o) ∙ ne in
    let rest = object_at key slots n d at in
    λ i. cond (e i) (Some o) (rest i)

pub object_not_in : (key : ObjectKey) (slots : List (Option Object)) → NotIn key slots → object_by key (present slots) ≡ None
object_not_in key [] ne = refl
object_not_in key (None ∷ slots) (ne, rest) = object_not_in key slots rest
object_not_in key (Some o ∷ slots) (ne, rest) =
    let e = sym (same_key-is_object key o) ∙ ne in
    let r = object_not_in key slots rest in
    λ i. cond (e i) (Some o) (r i)

-- an object takes the place of the one that has its name
module _ (new : Object) where
  pub place-set : (slots : List (Option Object)) (i : ℕ) → At (key_of new) slots i → (k : ObjectKey) → place_of k (slice_set slots i (Some new)) ≡ place_of k slots
  place-set [] i at k = absurd at
  place-set (None ∷ slots) zero at k = absurd (cc at)
  place-set (Some o ∷ slots) zero at k =
      let same = same_key-is (key_of new) (key_of o) at in
      λ i. cond (same_key k (same i)) (Some 0) (option_map suc (place_of k slots))
  place-set (slot ∷ slots) (suc n) (ne, at) k = let rest = place-set slots n at k in λ i. cond (holds k slot) (Some 0) (option_map suc (rest i))

  pub present-set : (slots : List (Option Object)) (i : ℕ) → At (key_of new) slots i → present (slice_set slots i (Some new)) ≡ set_in new (present slots)
  present-set [] i at = absurd at
  present-set (None ∷ slots) zero at = absurd (cc at)
  present-set (Some o ∷ slots) zero at = let e = sym (sym (same_key-named new o) ∙ at) in λ i. cond (e i) (new ∷ present slots) (o ∷ set_in new (present slots))
  present-set (None ∷ slots) (suc n) (ne, at) = present-set slots n at
  present-set (Some o ∷ slots) (suc n) (ne, at) =
      let e = sym (sym (same_key-named new o) ∙ ne) in
      let rest = present-set slots n at in
      λ i. cond (e i) (new ∷ present slots) (o ∷ rest i)

  pub distinct-set : (slots : List (Option Object)) (i : ℕ) → AreDistinct slots → At (key_of new) slots i → AreDistinct (slice_set slots i (Some new))
  distinct-set [] i apart at = absurd at
  distinct-set (None ∷ slots) zero apart at = absurd (cc at)
  distinct-set (Some o ∷ slots) zero (once, apart) at = (ap (λ (k : ObjectKey). place_of k slots) (same_key-is (key_of new) (key_of o) at) ∙ once, apart)
  distinct-set (None ∷ slots) (suc n) apart (ne, at) = distinct-set slots n apart at
  distinct-set (Some o ∷ slots) (suc n) (once, apart) (ne, at) = (place-set slots n at (key_of o) ∙ once, distinct-set slots n apart at)

  pub count-set : (slots : List (Option Object)) (i : ℕ) → At (key_of new) slots i → length (present (slice_set slots i (Some new))) ≡ length (present slots)
  count-set [] i at = absurd at
  count-set (None ∷ slots) zero at = absurd (cc at)
  count-set (Some o ∷ slots) zero at = refl
  count-set (None ∷ slots) (suc n) (ne, at) = count-set slots n at
  count-set (Some o ∷ slots) (suc n) (ne, at) = omega (arith, count-set slots n at)

-- an object with a new name stands last
module _ (new : Object) where
  pub place-push : (slots : List (Option Object)) → NotIn (key_of new) slots → (k : ObjectKey) → place_of k (slots ++ Some new ∷ []) ≡ cond (same_key (key_of new) k) (Some (length slots)) (place_of k slots)
  place-push [] ne k = let e = same_key-swap k (key_of new) in λ i. cond (e i) (Some 0) None
  place-push (slot ∷ slots) (ne, rest) k = ap (λ (r : Option ℕ). cond (holds k slot) (Some 0) (option_map suc r)) (place-push slots rest k) ∙ by (same_key (key_of new) k) refl (holds k slot) refl
    where
      by : (b : Bool) → same_key (key_of new) k ≡ b → (h : Bool) → holds k slot ≡ h
          → cond h (Some 0) (option_map suc (cond b (Some (length slots)) (place_of k slots))) ≡ cond b (Some (suc (length slots))) (cond h (Some 0) (option_map suc (place_of k slots)))
      by true e true f = absurd (cc (ne, ap (λ (x : ObjectKey). holds x slot) (same_key-is (key_of new) k e), f))
      by true e false f = refl
      by false e h f = refl

  pub present-push : (slots : List (Option Object)) → NotIn (key_of new) slots → present (slots ++ Some new ∷ []) ≡ set_in new (present slots)
  present-push [] ne = refl
  present-push (None ∷ slots) (ne, rest) = present-push slots rest
  present-push (Some o ∷ slots) (ne, rest) =
      let e = sym (sym (same_key-named new o) ∙ ne) in
      let r = present-push slots rest in
      λ i. cond (e i) (new ∷ present slots) (o ∷ r i)

  pub distinct-push : (slots : List (Option Object)) → AreDistinct slots → NotIn (key_of new) slots → AreDistinct (slots ++ Some new ∷ [])
  distinct-push [] apart ne = (refl, tt)
  distinct-push (None ∷ slots) apart (ne, rest) = distinct-push slots apart rest
  distinct-push (Some o ∷ slots) (once, apart) (ne, rest) = (place-push slots rest (key_of o) ∙ (λ i. cond (ne i) (Some (length slots)) (once i)), distinct-push slots apart rest)

  pub count-push : (slots : List (Option Object)) → length (present (slots ++ Some new ∷ [])) ≡ length (present slots) + 1
  count-push [] = refl
  count-push (None ∷ slots) = count-push slots
  count-push (Some o ∷ slots) = omega (arith, count-push slots)

-- an object goes
module _ (key : ObjectKey) where
  pub place-clear : (slots : List (Option Object)) (i : ℕ) → AreDistinct slots → At key slots i → (k : ObjectKey) → place_of k (slice_set slots i None) ≡ cond (same_key key k) None (place_of k slots)
  place-clear [] i apart at k = absurd at
  place-clear (None ∷ slots) zero apart at k = absurd (cc at)
  place-clear (Some o ∷ slots) zero (once, apart) at k = by (same_key key k) refl (same_key k (key_of o)) refl
    where
      same : key ≡ key_of o
      same = same_key-is key (key_of o) at

      by : (b : Bool) → same_key key k ≡ b → (h : Bool) → same_key k (key_of o) ≡ h → option_map suc (place_of k slots) ≡ cond b None (cond h (Some 0) (option_map suc (place_of k slots)))
      by true e h f = ap (λ (x : ObjectKey). option_map suc (place_of x slots)) (sym (same_key-is key k e) ∙ same) ∙ ap (option_map suc) once
      by false e true f = absurd (cc (e, same_key-self key, same, same_key-is k (key_of o) f))
      by false e false f = refl
  place-clear (slot ∷ slots) (suc n) apart (ne, at) k = ap (λ (r : Option ℕ). cond (holds k slot) (Some 0) (option_map suc r)) (place-clear slots n (rest slot slots apart) at k) ∙ by (same_key key k) refl (holds k slot) refl
    where
      rest : (slot : Option Object) (slots : List (Option Object)) → AreDistinct (slot ∷ slots) → AreDistinct slots
      rest None slots apart = apart
      rest (Some o) slots apart = apart.1

      by : (b : Bool) → same_key key k ≡ b → (h : Bool) → holds k slot ≡ h
          → cond h (Some 0) (option_map suc (cond b None (place_of k slots))) ≡ cond b None (cond h (Some 0) (option_map suc (place_of k slots)))
      by true e true f = absurd (cc (ne, ap (λ (x : ObjectKey). holds x slot) (same_key-is key k e), f))
      by true e false f = refl
      by false e h f = refl

  pub present-clear : (slots : List (Option Object)) (i : ℕ) → At key slots i → present (slice_set slots i None) ≡ delete_in (key_space key) (key_name key) (present slots)
  present-clear [] i at = absurd at
  present-clear (None ∷ slots) zero at = absurd (cc at)
  present-clear (Some o ∷ slots) zero at = let e = sym (sym (same_key-is_object key o) ∙ at) in λ i. cond (e i) (present slots) (o ∷ delete_in (key_space key) (key_name key) (present slots))
  present-clear (None ∷ slots) (suc n) (ne, at) = present-clear slots n at
  present-clear (Some o ∷ slots) (suc n) (ne, at) =
      let e = sym (sym (same_key-is_object key o) ∙ ne) in
      let rest = present-clear slots n at in
      λ i. cond (e i) (present slots) (o ∷ rest i)

  -- and nothing goes where it isn't there
  pub present-not_in : (slots : List (Option Object)) → NotIn key slots → present slots ≡ delete_in (key_space key) (key_name key) (present slots)
  present-not_in [] ne = refl
  present-not_in (None ∷ slots) (ne, rest) = present-not_in slots rest
  present-not_in (Some o ∷ slots) (ne, rest) =
      let e = sym (sym (same_key-is_object key o) ∙ ne) in
      let r = present-not_in slots rest in
      λ i. cond (e i) (present slots) (o ∷ r i)

  pub distinct-clear : (slots : List (Option Object)) (i : ℕ) → AreDistinct slots → At key slots i → AreDistinct (slice_set slots i None)
  distinct-clear [] i apart at = absurd at
  distinct-clear (None ∷ slots) zero apart at = absurd (cc at)
  distinct-clear (Some o ∷ slots) zero (once, apart) at = apart
  distinct-clear (None ∷ slots) (suc n) apart (ne, at) = distinct-clear slots n apart at
  distinct-clear (Some o ∷ slots) (suc n) (once, apart) (ne, at) = (place-clear slots n apart at (key_of o) ∙ none (same_key key (key_of o)) (place_of (key_of o) slots) once, distinct-clear slots n apart at)
    where
      none : (b : Bool) (r : Option ℕ) → r ≡ None → cond b None r ≡ None
      none true r e = refl
      none false r e = e

  pub count-clear : (slots : List (Option Object)) (i : ℕ) → At key slots i → length (present (slice_set slots i None)) + 1 ≡ length (present slots)
  count-clear [] i at = absurd at
  count-clear (None ∷ slots) zero at = absurd (cc at)
  count-clear (Some o ∷ slots) zero at = omega arith
  count-clear (None ∷ slots) (suc n) (ne, at) = count-clear slots n at
  count-clear (Some o ∷ slots) (suc n) (ne, at) = omega (arith, count-clear slots n at)

-- the slots that aren't empty
abbrev pub full : List (Option Object) → List (Option Object)
full slots = filter is_some slots

pub present-full : (slots : List (Option Object)) → present (full slots) ≡ present slots
present-full [] = refl
present-full (None ∷ slots) = present-full slots
present-full (Some o ∷ slots) = ap (λ (os : List Object). o ∷ os) (present-full slots)

pub count-full : (slots : List (Option Object)) → length (full slots) ≡ length (present slots)
count-full [] = refl
count-full (None ∷ slots) = count-full slots
count-full (Some o ∷ slots) = omega (arith, count-full slots)

not_in-full : (key : ObjectKey) (slots : List (Option Object)) → NotIn key slots → NotIn key (full slots)
not_in-full key [] ne = tt
not_in-full key (None ∷ slots) (ne, rest) = not_in-full key slots rest
not_in-full key (Some o ∷ slots) (ne, rest) = (ne, not_in-full key slots rest)

-- no two have one key, where none is found behind the first
not_in_of : (key : ObjectKey) (slots : List (Option Object)) → place_of key slots ≡ None → NotIn key slots
not_in_of key slots none = subst (Found key slots) none (found key slots)

pub distinct-full : (slots : List (Option Object)) → AreDistinct slots → AreDistinct (full slots)
distinct-full [] apart = tt
distinct-full (None ∷ slots) apart = distinct-full slots apart
distinct-full (Some o ∷ slots) (once, apart) = (not_found (key_of o) (full slots) (not_in-full (key_of o) slots (not_in_of (key_of o) slots once)), distinct-full slots apart)

-- a key that no slot has isn't at any place
not_there : (slots : List (Option Object)) (i : ℕ) (d : Option Object) (o : Object) → i < length slots → get_or slots i d ≡ Some o → NotIn (key_of o) slots → ⊥
not_there [] i d o inside at ne = absurd (omega (arith, inside))
not_there (slot ∷ slots) zero d o inside at (ne, rest) = absurd (cc (ne, at, same_key-self (key_of o)))
not_there (slot ∷ slots) (suc i) d o inside at (ne, rest) = not_there slots i d o (omega (arith, inside)) at rest

-- none of those in front of an object has its key
pub not_in_front : (slots : List (Option Object)) (i : ℕ) (d : Option Object) (o : Object) → AreDistinct slots → i < length slots → get_or slots i d ≡ Some o → NotIn (key_of o) (take i slots)
not_in_front [] i d o apart inside at = absurd (omega (arith, inside))
not_in_front (slot ∷ slots) zero d o apart inside at = tt
not_in_front (None ∷ slots) (suc n) d o apart inside at = (refl, not_in_front slots n d o apart (omega (arith, inside)) at)
not_in_front (Some p ∷ slots) (suc n) d o (once, apart) inside at = (other (same_key (key_of o) (key_of p)) refl, not_in_front slots n d o apart (omega (arith, inside)) at)
  where
    other : (b : Bool) → same_key (key_of o) (key_of p) ≡ b → b ≡ false
    other false e = refl
    other true e = absurd (not_there slots n d o (omega (arith, inside)) at (subst (λ (k : ObjectKey). NotIn k slots) (sym (same_key-is (key_of o) (key_of p) e)) (not_in_of (key_of p) slots once)))

-- a slot that isn't empty holds an object
pub full-holds : (slots : List (Option Object)) (i : ℕ) (d : Option Object) → i < length (full slots) → get_or (full slots) i d ≡ None → ⊥
full-holds [] i d inside at = absurd (omega (arith, inside))
full-holds (None ∷ slots) i d inside at = full-holds slots i d inside at
full-holds (Some o ∷ slots) zero d inside at = absurd (cc at)
full-holds (Some o ∷ slots) (suc i) d inside at = full-holds slots i d (omega (arith, inside)) at

-- one slot further
pub take-next : (slots : List (Option Object)) (i : ℕ) (d slot : Option Object) → i < length slots → get_or slots i d ≡ slot → take (i + 1) slots ≡ take i slots ++ slot ∷ []
take-next slots i d slot inside at = take_more slots i d inside ∙ ap (λ (s : Option Object). take i slots ++ s ∷ []) at

-- the objects of a key are the one that is found
pub alone : (key : ObjectKey) (slots : List (Option Object)) → AreDistinct slots → filter (is_object (key_space key) (key_name key)) (present slots) ≡ option_to_list (object_by key (present slots))
alone key [] apart = refl
alone key (None ∷ slots) apart = alone key slots apart
alone key (Some o ∷ slots) (once, apart) = by (is_object (key_space key) (key_name key) o) refl (alone key slots apart)
  where
    none : (slots : List (Option Object)) → NotIn key slots → filter (is_object (key_space key) (key_name key)) (present slots) ≡ []
    none [] ne = refl
    none (None ∷ slots) (ne, rest) = none slots rest
    none (Some p ∷ slots) (ne, rest) =
        let e = sym (same_key-is_object key p) ∙ ne in
        let r = none slots rest in
        λ i. cond (e i) (p ∷ filter (is_object (key_space key) (key_name key)) (present slots)) (r i)

    by : (b : Bool) → is_object (key_space key) (key_name key) o ≡ b → filter (is_object (key_space key) (key_name key)) (present slots) ≡ option_to_list (object_by key (present slots))
        → cond b (o ∷ filter (is_object (key_space key) (key_name key)) (present slots)) (filter (is_object (key_space key) (key_name key)) (present slots)) ≡ option_to_list (cond b (Some o) (object_by key (present slots)))
    by true e rest =
        let same = same_key-is key (key_of o) (same_key-is_object key o ∙ e) in
        ap (λ (os : List Object). o ∷ os) (none slots (subst (λ (k : ObjectKey). NotIn k slots) (sym same) (not_in_of (key_of o) slots once)))
    by false e rest = rest
