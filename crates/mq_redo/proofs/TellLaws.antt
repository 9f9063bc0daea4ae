-- What is told of one value after another.
use Rattle.std.proofs.Common.{◌≡◌, ℕ, suc, ◌+◌, ◌<◌, ◌≤◌, List, ◌∷◌, ◌++◌, length, get_or, drop, ap, sym, ◌∙◌, append_assoc, add-one, drop-cons, arith}
use Rattle.std.specs.List.{flat_map}
use Rattle.mq_calls.specs.declared.deltas.Did.{Did}
use Rattle.mq_core.specs.from_unit.Told.{Telling}

module _ {A : Type 0} (f : A → List Did) where
  -- what is left to tell, and what room is left
  pub record TellsOn (items : List A) (i : ℕ) (start t : Telling) : Type 0 where
    pub dids : t.dids ++ flat_map f (drop i items) ≡ start.dids ++ flat_map f items
    pub room : start.room ≤ t.room + i

  pub tell_fits : (items : List A) (i : ℕ) (start t : Telling) → i < length items → length items ≤ start.room → TellsOn items i start t → 0 < t.room
  tell_fits items i start t lt fits s = omega (arith, lt, fits, s.room)

  left_at : (items : List A) (i : ℕ) (item : A) → i < length items → item ≡ get_or items i item → drop i items ≡ item ∷ drop (i + 1) items
  left_at items i item lt is = drop-cons items i item lt ∙ ap (λ (x : A). x ∷ drop (suc i) items) (sym is) ∙ ap (λ (n : ℕ). item ∷ drop n items) (sym (add-one i))

  pub tell_next : (items : List A) (i : ℕ) (start t u : Telling) (item : A) → i < length items → item ≡ get_or items i item → u.dids ≡ t.dids ++ f item → t.room ≤ u.room + 1 → TellsOn items i start t → TellsOn items (i + 1) start u
  tell_next items i start t u item lt is e less s = record {
    dids =
        ap (λ (ds : List Did). ds ++ flat_map f (drop (i + 1) items)) e
        ∙ append_assoc t.dids (f item) (flat_map f (drop (i + 1) items))
        ∙ ap (λ (xs : List A). t.dids ++ flat_map f xs) (sym (left_at items i item lt is))
        ∙ s.dids;
    room = omega (arith, less, lt, s.room);
  }

  -- where two are told of each
  pub record TellsTwice (items : List A) (i : ℕ) (start t : Telling) : Type 0 where
    pub dids : t.dids ++ flat_map f (drop i items) ≡ start.dids ++ flat_map f items
    pub room : start.room ≤ t.room + (i + i)

  pub twice_fits : (items : List A) (i : ℕ) (start t : Telling) → i < length items → length items + length items ≤ start.room → TellsTwice items i start t → 1 < t.room
  twice_fits items i start t lt fits s = omega (arith, lt, fits, s.room)

  pub twice_next : (items : List A) (i : ℕ) (start t u : Telling) (item : A) → i < length items → item ≡ get_or items i item → u.dids ≡ t.dids ++ f item → t.room ≤ u.room + 2 → TellsTwice items i start t → TellsTwice items (i + 1) start u
  twice_next items i start t u item lt is e less s = record {
    dids =
        ap (λ (ds : List Did). ds ++ flat_map f (drop (i + 1) items)) e
        ∙ append_assoc t.dids (f item) (flat_map f (drop (i + 1) items))
        ∙ ap (λ (xs : List A). t.dids ++ flat_map f xs) (sym (left_at items i item lt is))
        ∙ s.dids;
    room = omega (arith, less, lt, s.room);
  }
