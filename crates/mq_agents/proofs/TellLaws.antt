-- What calls tell of one value after another.
use Rattle.std.proofs.Common.{◌≡◌, ℕ, suc, ◌+◌, ◌-◌, ◌<◌, ◌≤◌, List, [], ◌∷◌, ◌++◌, length, get_or, drop, map, ap, sym, ◌∙◌, append_assoc, add-one, drop-cons, arith}
use Rattle.mq_calls.specs.declared.deltas.Did.{Did}
use Rattle.mq_get.specs.from_unit.Told.{Telling, told, told_all}

module _ {A : Type 0} (f : A → Did) where
  -- what is left to tell, and room for it
  pub record TellsLeft (items : List A) (i : ℕ) (start t : Telling) : Type 0 where
    pub dids : told_all (map f (drop i items)) t ≡ told_all (map f items) start
    pub room : length items ≤ t.room + i

  pub tell_fits : (items : List A) (i : ℕ) (start t : Telling) → i < length items → TellsLeft items i start t → 0 < t.room
  tell_fits items i start t lt s = omega (arith, lt, s.room)

  left_at : (items : List A) (i : ℕ) (item : A) → i < length items → item ≡ get_or items i item → drop i items ≡ item ∷ drop (i + 1) items
  left_at items i item lt is = drop-cons items i item lt ∙ ap (λ (x : A). x ∷ drop (suc i) items) (sym is) ∙ ap (λ (n : ℕ). item ∷ drop n items) (sym (add-one i))

  told_one : (d : Did) (ds : List Did) (t : Telling) → told_all ds (told d t) ≡ told_all (d ∷ ds) t
  told_one d ds t =
      let dids : (t.dids ++ d ∷ []) ++ ds ≡ t.dids ++ d ∷ ds = append_assoc t.dids (d ∷ []) ds in
      let room : t.room - 1 - length ds ≡ t.room - length (d ∷ ds) = omega arith in
      λ i. record { dids = dids i; room = room i }

  pub tell_next : (items : List A) (i : ℕ) (start t u : Telling) (item : A) → i < length items → item ≡ get_or items i item → u ≡ told (f item) t → TellsLeft items i start t → TellsLeft items (i + 1) start u
  tell_next items i start t u item lt is e s =
      let left = left_at items i item lt is in
      let less = ap (λ (z : Telling). z.room) e in
      record {
        dids = ap (told_all (map f (drop (i + 1) items))) e ∙ told_one (f item) (map f (drop (i + 1) items)) t ∙ ap (λ (xs : List A). told_all (map f xs) t) (sym left) ∙ s.dids;
        room = omega (arith, less, lt, s.room);
      }
