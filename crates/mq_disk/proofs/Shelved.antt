-- The first disk of a name and side, and what stands where one is taken.
use Rattle.std.proofs.Common.{◌≡◌, inl, inr, ℕ, zero, suc, ◌+◌, ◌<◌, ◌≤◌, List, [], ◌∷◌, ◌++◌, length, drop, get_or, sym, ◌∙◌, ap, subst, arith}
use Rattle.std.proofs.lemmas.List.{drop_more}
use Rattle.std.specs.List.{remove}
use Rattle.mq_disk.specs.declared.shelf.Side.{Side}
use Rattle.mq_disk.specs.declared.mem_shelf.Slot.{Slot}
use Rattle.mq_disk.specs.Shelves.{IsOf, FirstAt, Stands, AllFresh}

module _ {D : Type 0} where
  pub later : (slots : List (Slot D)) (k : ℕ) (slot : Slot D) (name : List ℕ) (side : Side) → k < length slots → get_or slots k slot ≡ slot → (IsOf slot name side → ⊥)
      → ((j : ℕ) → FirstAt (drop k slots) name side j → FirstAt slots name side (k + j)) → (j : ℕ) → FirstAt (drop (k + 1) slots) name side j → FirstAt slots name side (k + 1 + j)
  later slots k slot name side inside is other so_far j first =
      let split : drop k slots ≡ slot ∷ drop (k + 1) slots = drop_more slots k slot inside ∙ ap (λ (s : Slot D). s ∷ drop (k + 1) slots) is in
      let here : FirstAt (slot ∷ drop (k + 1) slots) name side (suc j) = (other, first) in
      let there : FirstAt slots name side (k + suc j) = so_far (suc j) (subst (λ (l : List (Slot D)). FirstAt l name side (suc j)) (sym split) here) in
      let next : k + suc j ≡ k + 1 + j = omega arith in
      subst (λ (n : ℕ). FirstAt slots name side n) next there

  pub here : (slots : List (Slot D)) (k : ℕ) (slot : Slot D) (name : List ℕ) (side : Side) → k < length slots → get_or slots k slot ≡ slot → IsOf slot name side
      → ((j : ℕ) → FirstAt (drop k slots) name side j → FirstAt slots name side (k + j)) → FirstAt slots name side k
  here slots k slot name side inside is of so_far =
      let split : drop k slots ≡ slot ∷ drop (k + 1) slots = drop_more slots k slot inside ∙ ap (λ (s : Slot D). s ∷ drop (k + 1) slots) is in
      let first : FirstAt (slot ∷ drop (k + 1) slots) name side zero = of in
      let there : FirstAt slots name side (k + 0) = so_far 0 (subst (λ (l : List (Slot D)). FirstAt l name side 0) (sym split) first) in
      let same : k + 0 ≡ k = omega arith in
      subst (λ (n : ℕ). FirstAt slots name side n) same there

  pub inside : (slots : List (Slot D)) (name : List ℕ) (side : Side) (place : ℕ) → FirstAt slots name side place → place < length slots
  inside [] name side place first = absurd first
  inside (slot ∷ slots) name side zero first = omega arith
  inside (slot ∷ slots) name side (suc place) first = omega (arith, inside slots name side place first.1)

  -- the disk at that place is of that name and side
  pub is_at : (slots : List (Slot D)) (name : List ℕ) (side : Side) (place : ℕ) (slot : Slot D) → FirstAt slots name side place → IsOf (get_or slots place slot) name side
  is_at [] name side place slot first = absurd first
  is_at (s ∷ slots) name side zero slot first = first
  is_at (s ∷ slots) name side (suc place) slot first = is_at slots name side place slot first.1

  -- where the disk in front isn't of that name and side, the first of them stands behind it
  pub behind : (slots : List (Slot D)) (k : ℕ) (slot : Slot D) (name : List ℕ) (side : Side) → get_or slots k slot ≡ slot → (IsOf slot name side → ⊥)
      → ((j : ℕ) → FirstAt slots name side j → k ≤ j) → (j : ℕ) → FirstAt slots name side j → k + 1 ≤ j
  behind slots k slot name side is other passed j first =
      let not_here : j ≡ k → ⊥ = λ e. other (subst (λ (s : Slot D). IsOf s name side) is (is_at slots name side k slot (subst (λ (n : ℕ). FirstAt slots name side n) e first))) in
      omega (arith, passed j first, not_here)

  -- a disk that stands there is the first somewhere
  pub somewhere : (seen : D → List ℕ) (slots : List (Slot D)) (name : List ℕ) (side : Side) (bytes : List ℕ) → Stands seen slots name side bytes → (place : ℕ) × FirstAt slots name side place
  somewhere seen [] name side bytes stands = absurd stands
  somewhere seen (s ∷ slots) name side bytes (inl stands) = (zero, stands.0)
  somewhere seen (s ∷ slots) name side bytes (inr stands) =
      let rest = somewhere seen slots name side bytes stands.1 in
      (suc rest.0, (stands.0, rest.1))

  -- what the disk at that place has
  pub taken : (seen : D → List ℕ) (slots : List (Slot D)) (name : List ℕ) (side : Side) (place : ℕ) (slot : Slot D) → FirstAt slots name side place
      → (bytes : List ℕ) → Stands seen slots name side bytes → seen (get_or slots place slot).disk ≡ bytes
  taken seen [] name side place slot first bytes stands = absurd first
  taken seen (s ∷ slots) name side zero slot first bytes (inl stands) = stands.1
  taken seen (s ∷ slots) name side zero slot first bytes (inr stands) = absurd (stands.0 first)
  taken seen (s ∷ slots) name side (suc place) slot first bytes (inl stands) = absurd (first.0 stands.0)
  taken seen (s ∷ slots) name side (suc place) slot first bytes (inr stands) = taken seen slots name side place slot first.1 bytes stands.1

  same_place : (slot : Slot D) (name name' : List ℕ) (side side' : Side) → IsOf slot name side → IsOf slot name' side' → (name' ≡ name) × (side' ≡ side)
  same_place slot name name' side side' of of' = (sym of'.0 ∙ of.0, sym of'.1 ∙ of.1)

  -- the others stand where they stood
  pub others : (seen : D → List ℕ) (slots : List (Slot D)) (name : List ℕ) (side : Side) (place : ℕ) → FirstAt slots name side place
      → (name' : List ℕ) (side' : Side) (bytes : List ℕ) → ((name' ≡ name) × (side' ≡ side) → ⊥) → Stands seen slots name' side' bytes → Stands seen (remove slots place) name' side' bytes
  others seen [] name side place first name' side' bytes other stands = absurd first
  others seen (s ∷ slots) name side zero first name' side' bytes other (inl stands) = absurd (other (same_place s name name' side side' first stands.0))
  others seen (s ∷ slots) name side zero first name' side' bytes other (inr stands) = stands.1
  others seen (s ∷ slots) name side (suc place) first name' side' bytes other (inl stands) = inl stands
  others seen (s ∷ slots) name side (suc place) first name' side' bytes other (inr stands) = inr (stands.0, others seen slots name side place first.1 name' side' bytes other stands.1)

  pub fresh_push : (faults : D → ℕ) (slots : List (Slot D)) (slot : Slot D) → AllFresh faults slots → faults slot.disk ≡ 0 → AllFresh faults (slots ++ slot ∷ [])
  fresh_push faults [] slot all fresh = (fresh, tt)
  fresh_push faults (s ∷ slots) slot all fresh = (all.0, fresh_push faults slots slot all.1 fresh)

  pub fresh_taken : (faults : D → ℕ) (slots : List (Slot D)) (name : List ℕ) (side : Side) (place : ℕ) (slot : Slot D) → FirstAt slots name side place → AllFresh faults slots → faults (get_or slots place slot).disk ≡ 0
  fresh_taken faults [] name side place slot first all = absurd first
  fresh_taken faults (s ∷ slots) name side zero slot first all = all.0
  fresh_taken faults (s ∷ slots) name side (suc place) slot first all = fresh_taken faults slots name side place slot first.1 all.1

  pub fresh_remove : (faults : D → ℕ) (slots : List (Slot D)) (name : List ℕ) (side : Side) (place : ℕ) → FirstAt slots name side place → AllFresh faults slots → AllFresh faults (remove slots place)
  fresh_remove faults [] name side place first all = absurd first
  fresh_remove faults (s ∷ slots) name side zero first all = all.1
  fresh_remove faults (s ∷ slots) name side (suc place) first all = (all.0, fresh_remove faults slots name side place first.1 all.1)
