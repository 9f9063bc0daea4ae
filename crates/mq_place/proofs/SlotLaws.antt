-- Slots with one more queue, one queue changed or one gone, and what is found in them.
use Rattle.std.proofs.Common.{◌≡◌, ℕ, zero, suc, ◌+◌, ◌<◌, Bool, true, false, cond, List, [], ◌∷◌, ◌++◌, refl, sym, ap, subst, ◌∙◌, Some, None, Option, length, take, get_or, slice_set, filter, is_some, option_map, arith}
use Rattle.std.proofs.lemmas.List.{take_more}
use Rattle.std.specs.Prelude.{not, map}
use Rattle.std.specs.Str.{bytes_eq}
use Rattle.mq_place.specs.States.{QueueState, has_name, state_in, change_state, without_state}
use Rattle.mq_place.specs.Slots.{present, holds, place_of, AreNamed, slot_at, slot_changed, slots_changed}
use Rattle.mq_place.proofs.NameLaws.{name_is, name_self, name_swap}

-- the first slot with the queue of a name is at that place
abbrev pub At : List ℕ → List (Option QueueState) → ℕ → Type 0
At name [] i = ⊥
At name (slot ∷ slots) zero = holds name slot ≡ true
At name (slot ∷ slots) (suc i) = (holds name slot ≡ false) × At name slots i

-- no slot has it
abbrev pub NotIn : List ℕ → List (Option QueueState) → Type 0
NotIn name [] = Unit {0}
NotIn name (slot ∷ slots) = (holds name slot ≡ false) × NotIn name slots

-- by what is found
abbrev pub Found : List ℕ → List (Option QueueState) → Option ℕ → Type 0
Found name slots None = NotIn name slots
Found name slots (Some i) = At name slots i

found_next : (name : List ℕ) (slot : Option QueueState) (slots : List (Option QueueState)) (r : Option ℕ) → holds name slot ≡ false → Found name slots r → Found name (slot ∷ slots) (option_map suc r)
found_next name slot slots None ne found = (ne, found)
found_next name slot slots (Some i) ne found = (ne, found)

pub found : (name : List ℕ) (slots : List (Option QueueState)) → Found name slots (place_of name slots)
found name [] = tt
found name (slot ∷ slots) = by (holds name slot) refl (found name slots)
  where
    by : (b : Bool) → holds name slot ≡ b → Found name slots (place_of name slots) → Found name (slot ∷ slots) (cond b (Some 0) (option_map suc (place_of name slots)))
    by true e rest = e
    by false e rest = found_next name slot slots (place_of name slots) e rest

pub not_found : (name : List ℕ) (slots : List (Option QueueState)) → NotIn name slots → place_of name slots ≡ None
not_found name [] ne = refl
not_found name (slot ∷ slots) (ne, rest) = let e = not_found name slots rest in λ i. cond (ne i) (Some 0) (option_map suc (e i))

pub at_within : (name : List ℕ) (slots : List (Option QueueState)) (i : ℕ) → At name slots i → i < length slots
at_within name [] i at = absurd at
at_within name (slot ∷ slots) zero at = omega arith
at_within name (slot ∷ slots) (suc i) (ne, at) = omega (arith, at_within name slots i at)

-- no slot has a name for which no place is found
pub not_in_of : (name : List ℕ) (slots : List (Option QueueState)) → place_of name slots ≡ None → NotIn name slots
not_in_of name slots none = subst (Found name slots) none (found name slots)

-- the queue of a name is the one in the slot that is found
pub state_at_or : (name : List ℕ) (slots : List (Option QueueState)) (i : ℕ) (d : Option QueueState) → At name slots i → state_in name (present slots) ≡ get_or slots i d
state_at_or name [] i d at = absurd at
state_at_or name (None ∷ slots) zero d at = absurd (cc at)
state_at_or name (Some o ∷ slots) zero d at = λ i. cond (at i) (Some o) (state_in name (present slots))
state_at_or name (None ∷ slots) (suc n) d (ne, at) = state_at_or name slots n d at
state_at_or name (Some o ∷ slots) (suc n) d (ne, at) =
    let rest = state_at_or name slots n d at in
    λ i. cond (ne i) (Some o) (rest i)

pub state_at : (name : List ℕ) (slots : List (Option QueueState)) (i : ℕ) → At name slots i → state_in name (present slots) ≡ slot_at slots i
state_at name slots i at = state_at_or name slots i None at

there : (b : Bool) (s : QueueState) (r : Option QueueState) → b ≡ true → cond b (Some s) r ≡ None → ⊥
there true s r at e = absurd cc
there false s r at e = absurd cc

-- where a slot has the name there is a queue
pub state_there : (name : List ℕ) (slots : List (Option QueueState)) (i : ℕ) → At name slots i → state_in name (present slots) ≡ None → ⊥
state_there name [] i at e = absurd at
state_there name (None ∷ slots) zero at e = absurd (cc at)
state_there name (Some s ∷ slots) zero at e = there (has_name name s) s (state_in name (present slots)) at e
state_there name (None ∷ slots) (suc n) (ne, at) e = state_there name slots n at e
state_there name (Some s ∷ slots) (suc n) (ne, at) e = state_there name slots n at (sym (λ i. cond (ne i) (Some s) (state_in name (present slots))) ∙ e)

pub state_not_in : (name : List ℕ) (slots : List (Option QueueState)) → NotIn name slots → state_in name (present slots) ≡ None
state_not_in name [] ne = refl
state_not_in name (None ∷ slots) (ne, rest) = state_not_in name slots rest
state_not_in name (Some o ∷ slots) (ne, rest) =
    let r = state_not_in name slots rest in
    λ i. cond (ne i) (Some o) (r i)

-- A queue is changed, and keeps its name.
abbrev pub KeepsName : (QueueState → QueueState) → Type 0
KeepsName f = (s : QueueState) → (f s).queue.name ≡ s.queue.name

module _ (f : QueueState → QueueState) (keeps : KeepsName f) where
  holds-change : (k : List ℕ) (slot : Option QueueState) → holds k (option_map f slot) ≡ holds k slot
  holds-change k None = refl
  holds-change k (Some s) = ap (bytes_eq k) (keeps s)

  pub place-change : (slots : List (Option QueueState)) (i : ℕ) (k : List ℕ) → place_of k (slot_changed f slots i) ≡ place_of k slots
  place-change [] i k = refl
  place-change (slot ∷ slots) zero k = ap (λ (b : Bool). cond b (Some 0) (option_map suc (place_of k slots))) (holds-change k slot)
  place-change (slot ∷ slots) (suc n) k = ap (λ (r : Option ℕ). cond (holds k slot) (Some 0) (option_map suc r)) (place-change slots n k)

  pub distinct-change : (slots : List (Option QueueState)) (i : ℕ) → AreNamed slots → AreNamed (slot_changed f slots i)
  distinct-change [] i apart = tt
  distinct-change (None ∷ slots) zero apart = apart
  distinct-change (Some o ∷ slots) zero (once, apart) = (ap (λ (k : List ℕ). place_of k slots) (keeps o) ∙ once, apart)
  distinct-change (None ∷ slots) (suc n) apart = distinct-change slots n apart
  distinct-change (Some o ∷ slots) (suc n) (once, apart) = (place-change slots n o.queue.name ∙ once, distinct-change slots n apart)

  pub count-change : (slots : List (Option QueueState)) (i : ℕ) → length (present (slot_changed f slots i)) ≡ length (present slots)
  count-change [] i = refl
  count-change (None ∷ slots) zero = refl
  count-change (Some o ∷ slots) zero = refl
  count-change (None ∷ slots) (suc n) = count-change slots n
  count-change (Some o ∷ slots) (suc n) = ap (λ (n : ℕ). suc n) (count-change slots n)

  pub present-change : (name : List ℕ) (slots : List (Option QueueState)) (i : ℕ) → At name slots i → present (slot_changed f slots i) ≡ change_state name f (present slots)
  present-change name [] i at = absurd at
  present-change name (None ∷ slots) zero at = absurd (cc at)
  present-change name (Some o ∷ slots) zero at = sym (λ i. cond (at i) (f o ∷ present slots) (o ∷ change_state name f (present slots)))
  present-change name (None ∷ slots) (suc n) (ne, at) = present-change name slots n at
  present-change name (Some o ∷ slots) (suc n) (ne, at) =
      let rest = present-change name slots n at in
      ap (λ (ss : List QueueState). o ∷ ss) rest ∙ sym (λ i. cond (ne i) (f o ∷ present slots) (o ∷ change_state name f (present slots)))

  -- where none has the name nothing is changed
  pub present-same : (name : List ℕ) (slots : List (Option QueueState)) → NotIn name slots → present slots ≡ change_state name f (present slots)
  present-same name [] ne = refl
  present-same name (None ∷ slots) (ne, rest) = present-same name slots rest
  present-same name (Some o ∷ slots) (ne, rest) =
      let r = present-same name slots rest in
      ap (λ (ss : List QueueState). o ∷ ss) r ∙ sym (λ i. cond (ne i) (f o ∷ present slots) (o ∷ change_state name f (present slots)))

  -- all are changed
  pub place-changes : (slots : List (Option QueueState)) (k : List ℕ) → place_of k (slots_changed f slots) ≡ place_of k slots
  place-changes [] k = refl
  place-changes (slot ∷ slots) k =
      let e = holds-change k slot in
      let rest = place-changes slots k in
      λ i. cond (e i) (Some 0) (option_map suc (rest i))

  pub distinct-changes : (slots : List (Option QueueState)) → AreNamed slots → AreNamed (slots_changed f slots)
  distinct-changes [] apart = tt
  distinct-changes (None ∷ slots) apart = distinct-changes slots apart
  distinct-changes (Some o ∷ slots) (once, apart) = (ap (λ (k : List ℕ). place_of k (slots_changed f slots)) (keeps o) ∙ place-changes slots o.queue.name ∙ once, distinct-changes slots apart)

  pub present-changes : (slots : List (Option QueueState)) → present (slots_changed f slots) ≡ map f (present slots)
  present-changes [] = refl
  present-changes (None ∷ slots) = present-changes slots
  present-changes (Some o ∷ slots) = ap (λ (ss : List QueueState). f o ∷ ss) (present-changes slots)

  pub count-changes : (slots : List (Option QueueState)) → length (present (slots_changed f slots)) ≡ length (present slots)
  count-changes [] = refl
  count-changes (None ∷ slots) = count-changes slots
  count-changes (Some o ∷ slots) = ap (λ (n : ℕ). suc n) (count-changes slots)

-- a queue with a new name stands last
module _ (new : QueueState) where
  pub place-push : (slots : List (Option QueueState)) → NotIn new.queue.name slots → (k : List ℕ) → place_of k (slots ++ Some new ∷ []) ≡ cond (bytes_eq new.queue.name k) (Some (length slots)) (place_of k slots)
  place-push [] ne k = let e = name_swap k new.queue.name in λ i. cond (e i) (Some 0) None
  place-push (slot ∷ slots) (ne, rest) k = ap (λ (r : Option ℕ). cond (holds k slot) (Some 0) (option_map suc r)) (place-push slots rest k) ∙ by (bytes_eq new.queue.name k) refl (holds k slot) refl
    where
      by : (b : Bool) → bytes_eq new.queue.name k ≡ b → (h : Bool) → holds k slot ≡ h
          → cond h (Some 0) (option_map suc (cond b (Some (length slots)) (place_of k slots))) ≡ cond b (Some (suc (length slots))) (cond h (Some 0) (option_map suc (place_of k slots)))
      by true e true f = absurd (cc (ne, ap (λ (x : List ℕ). holds x slot) (name_is new.queue.name k e), f))
      by true e false f = refl
      by false e h f = refl

  pub present-push : (slots : List (Option QueueState)) → present (slots ++ Some new ∷ []) ≡ present slots ++ new ∷ []
  present-push [] = refl
  present-push (None ∷ slots) = present-push slots
  present-push (Some o ∷ slots) = ap (λ (ss : List QueueState). o ∷ ss) (present-push slots)

  pub distinct-push : (slots : List (Option QueueState)) → AreNamed slots → NotIn new.queue.name slots → AreNamed (slots ++ Some new ∷ [])
  distinct-push [] apart ne = (refl, tt)
  distinct-push (None ∷ slots) apart (ne, rest) = distinct-push slots apart rest
  distinct-push (Some o ∷ slots) (once, apart) (ne, rest) = (place-push slots rest o.queue.name ∙ (λ i. cond (ne i) (Some (length slots)) (once i)), distinct-push slots apart rest)

  pub count-push : (slots : List (Option QueueState)) → length (present (slots ++ Some new ∷ [])) ≡ length (present slots) + 1
  count-push [] = refl
  count-push (None ∷ slots) = count-push slots
  count-push (Some o ∷ slots) = omega (arith, count-push slots)

-- a queue goes
module _ (name : List ℕ) where
  pub place-clear : (slots : List (Option QueueState)) (i : ℕ) → AreNamed slots → At name slots i → (k : List ℕ) → place_of k (slice_set slots i None) ≡ cond (bytes_eq name k) None (place_of k slots)
  place-clear [] i apart at k = absurd at
  place-clear (None ∷ slots) zero apart at k = absurd (cc at)
  place-clear (Some o ∷ slots) zero (once, apart) at k = by (bytes_eq name k) refl (bytes_eq k o.queue.name) refl
    where
      same : name ≡ o.queue.name
      same = name_is name o.queue.name at

      by : (b : Bool) → bytes_eq name k ≡ b → (h : Bool) → bytes_eq k o.queue.name ≡ h → option_map suc (place_of k slots) ≡ cond b None (cond h (Some 0) (option_map suc (place_of k slots)))
      by true e h f = ap (λ (x : List ℕ). option_map suc (place_of x slots)) (sym (name_is name k e) ∙ same) ∙ ap (option_map suc) once
      by false e true f = absurd (cc (e, name_self name, same, name_is k o.queue.name f))
      by false e false f = refl
  place-clear (slot ∷ slots) (suc n) apart (ne, at) k = ap (λ (r : Option ℕ). cond (holds k slot) (Some 0) (option_map suc r)) (place-clear slots n (rest slot slots apart) at k) ∙ by (bytes_eq name k) refl (holds k slot) refl
    where
      rest : (slot : Option QueueState) (slots : List (Option QueueState)) → AreNamed (slot ∷ slots) → AreNamed slots
      rest None slots apart = apart
      rest (Some o) slots apart = apart.1

      by : (b : Bool) → bytes_eq name k ≡ b → (h : Bool) → holds k slot ≡ h
          → cond h (Some 0) (option_map suc (cond b None (place_of k slots))) ≡ cond b None (cond h (Some 0) (option_map suc (place_of k slots)))
      by true e true f = absurd (cc (ne, ap (λ (x : List ℕ). holds x slot) (name_is name k e), f))
      by true e false f = refl
      by false e h f = refl

  -- nothing goes where it isn't there
  pub present-not_in : (slots : List (Option QueueState)) → NotIn name slots → present slots ≡ without_state name (present slots)
  present-not_in [] ne = refl
  present-not_in (None ∷ slots) (ne, rest) = present-not_in slots rest
  present-not_in (Some o ∷ slots) (ne, rest) =
      let r = present-not_in slots rest in
      ap (λ (ss : List QueueState). o ∷ ss) r ∙ sym (λ i. cond (not (ne i)) (o ∷ without_state name (present slots)) (without_state name (present slots)))

  pub present-clear : (slots : List (Option QueueState)) (i : ℕ) → AreNamed slots → At name slots i → present (slice_set slots i None) ≡ without_state name (present slots)
  present-clear [] i apart at = absurd at
  present-clear (None ∷ slots) zero apart at = absurd (cc at)
  present-clear (Some o ∷ slots) zero (once, apart) at =
      present-not_in slots (subst (λ (k : List ℕ). NotIn k slots) (sym (name_is name o.queue.name at)) (not_in_of o.queue.name slots once))
      ∙ sym (λ i. cond (not (at i)) (o ∷ without_state name (present slots)) (without_state name (present slots)))
  present-clear (None ∷ slots) (suc n) apart (ne, at) = present-clear slots n apart at
  present-clear (Some o ∷ slots) (suc n) (once, apart) (ne, at) =
      let rest = present-clear slots n apart at in
      ap (λ (ss : List QueueState). o ∷ ss) rest ∙ sym (λ i. cond (not (ne i)) (o ∷ without_state name (present slots)) (without_state name (present slots)))

  pub distinct-clear : (slots : List (Option QueueState)) (i : ℕ) → AreNamed slots → At name slots i → AreNamed (slice_set slots i None)
  distinct-clear [] i apart at = absurd at
  distinct-clear (None ∷ slots) zero apart at = absurd (cc at)
  distinct-clear (Some o ∷ slots) zero (once, apart) at = apart
  distinct-clear (None ∷ slots) (suc n) apart (ne, at) = distinct-clear slots n apart at
  distinct-clear (Some o ∷ slots) (suc n) (once, apart) (ne, at) = (place-clear slots n apart at o.queue.name ∙ none (bytes_eq name o.queue.name) (place_of o.queue.name slots) once, distinct-clear slots n apart at)
    where
      none : (b : Bool) (r : Option ℕ) → r ≡ None → cond b None r ≡ None
      none true r e = refl
      none false r e = e

  pub count-clear : (slots : List (Option QueueState)) (i : ℕ) → At name slots i → length (present (slice_set slots i None)) + 1 ≡ length (present slots)
  count-clear [] i at = absurd at
  count-clear (None ∷ slots) zero at = absurd (cc at)
  count-clear (Some o ∷ slots) zero at = omega arith
  count-clear (None ∷ slots) (suc n) (ne, at) = count-clear slots n at
  count-clear (Some o ∷ slots) (suc n) (ne, at) = omega (arith, count-clear slots n at)

-- the slots that aren't empty
abbrev pub full : List (Option QueueState) → List (Option QueueState)
full slots = filter is_some slots

pub present-full : (slots : List (Option QueueState)) → present (full slots) ≡ present slots
present-full [] = refl
present-full (None ∷ slots) = present-full slots
present-full (Some o ∷ slots) = ap (λ (os : List QueueState). o ∷ os) (present-full slots)

pub count-full : (slots : List (Option QueueState)) → length (full slots) ≡ length (present slots)
count-full [] = refl
count-full (None ∷ slots) = count-full slots
count-full (Some o ∷ slots) = omega (arith, count-full slots)

not_in-full : (name : List ℕ) (slots : List (Option QueueState)) → NotIn name slots → NotIn name (full slots)
not_in-full name [] ne = tt
not_in-full name (None ∷ slots) (ne, rest) = not_in-full name slots rest
not_in-full name (Some o ∷ slots) (ne, rest) = (ne, not_in-full name slots rest)

pub distinct-full : (slots : List (Option QueueState)) → AreNamed slots → AreNamed (full slots)
distinct-full [] apart = tt
distinct-full (None ∷ slots) apart = distinct-full slots apart
distinct-full (Some o ∷ slots) (once, apart) = (not_found o.queue.name (full slots) (not_in-full o.queue.name slots (not_in_of o.queue.name slots once)), distinct-full slots apart)

-- a name that no slot has isn't at any place
not_there : (slots : List (Option QueueState)) (i : ℕ) (d : Option QueueState) (o : QueueState) → i < length slots → get_or slots i d ≡ Some o → NotIn o.queue.name slots → ⊥
not_there [] i d o inside at ne = absurd (omega (arith, inside))
not_there (slot ∷ slots) zero d o inside at (ne, rest) = absurd (cc (ne, at, name_self o.queue.name))
not_there (slot ∷ slots) (suc i) d o inside at (ne, rest) = not_there slots i d o (omega (arith, inside)) at rest

-- none of those in front of a queue has its name
pub not_in_front : (slots : List (Option QueueState)) (i : ℕ) (d : Option QueueState) (o : QueueState) → AreNamed slots → i < length slots → get_or slots i d ≡ Some o → NotIn o.queue.name (take i slots)
not_in_front [] i d o apart inside at = absurd (omega (arith, inside))
not_in_front (slot ∷ slots) zero d o apart inside at = tt
not_in_front (None ∷ slots) (suc n) d o apart inside at = (refl, not_in_front slots n d o apart (omega (arith, inside)) at)
not_in_front (Some p ∷ slots) (suc n) d o (once, apart) inside at = (other (bytes_eq o.queue.name p.queue.name) refl, not_in_front slots n d o apart (omega (arith, inside)) at)
  where
    other : (b : Bool) → bytes_eq o.queue.name p.queue.name ≡ b → b ≡ false
    other false e = refl
    other true e = absurd (not_there slots n d o (omega (arith, inside)) at (subst (λ (k : List ℕ). NotIn k slots) (sym (name_is o.queue.name p.queue.name e)) (not_in_of p.queue.name slots once)))

-- a slot that isn't empty holds a queue
pub full-holds : (slots : List (Option QueueState)) (i : ℕ) (d : Option QueueState) → i < length (full slots) → get_or (full slots) i d ≡ None → ⊥
full-holds [] i d inside at = absurd (omega (arith, inside))
full-holds (None ∷ slots) i d inside at = full-holds slots i d inside at
full-holds (Some o ∷ slots) zero d inside at = absurd (cc at)
full-holds (Some o ∷ slots) (suc i) d inside at = full-holds slots i d (omega (arith, inside)) at

-- one slot further
pub take-next : (slots : List (Option QueueState)) (i : ℕ) (d slot : Option QueueState) → i < length slots → get_or slots i d ≡ slot → take (i + 1) slots ≡ take i slots ++ slot ∷ []
take-next slots i d slot inside at = take_more slots i d inside ∙ ap (λ (s : Option QueueState). take i slots ++ s ∷ []) at
