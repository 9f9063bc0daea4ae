-- The row that an ident was noted for, among all rows.
use Rattle.std.proofs.Common.{◌≡◌, ℕ, Bool, true, false, cond, List, [], ◌∷◌, Option, Some, None, refl, sym, ap, subst, ◌∙◌}
use Rattle.std.specs.Prelude.{◌||◌, ◌&&◌}
use Rattle.std.specs.Ordering.{eq_by_cmp}
use Rattle.std.specs.List.{AllByRecursion, IsDistinct, list_any}
use Rattle.std.specs.Map.{keys_of, lookup}
use Rattle.std.specs.BTreeMap.{is_at}
use Rattle.std.specs.Str.{bytes_eq}
use Rattle.std.proofs.lemmas.Map.Keys.{IsDistinct-head, IsDistinct-tail}
use Rattle.mq_message.specs.declared.message.Ident.{Ident}
use Rattle.mq_queue.specs.declared.row.Row.{Row}
use Rattle.mq_queue.specs.Rows.{has_ident}
use Rattle.mq_spec_log.specs.Shelves.{shelf_in}
use Rattle.mq_shelves.specs.declared.rack.Stand.{Stand}
use Rattle.mq_shelves.specs.declared.spots.Spot.{Spot}
use Rattle.mq_shelves.specs.Racks.{stand_cmp, rows_of, shelf_of, shelves_of, row_in, row_at, any_row, Stands, IsRack}
use Rattle.mq_shelves.proofs.StandLaws.{or_none, and_none, name_is, name_same, place_is, place_same, none_there, noted_there}

-- a row with the ident that passes, on the queue of that name
abbrev pub passes_at : (List ℕ → Row → Bool) → Ident → List ℕ → Option Row → Bool
passes_at test ident name None = false
passes_at test ident name (Some row) = test name row && has_ident ident row

abbrev pub passes_in : (List ℕ → Row → Bool) → Ident → List (List ℕ × List (Stand × Row)) → Option Spot → Bool
passes_in test ident rs None = false
passes_in test ident rs (Some sp) = passes_at test ident sp.queue (row_at rs sp)

-- the same of one queue
abbrev pub passes_here : (List ℕ → Row → Bool) → Ident → List ℕ → List (Stand × Row) → Option Spot → Bool
passes_here test ident name es None = false
passes_here test ident name es (Some sp) = bytes_eq sp.queue name && passes_at test ident name (lookup (is_at (stand_cmp sp.stand)) es)

without : (p b c : Bool) → b ≡ false → ((p && b) || c) ≡ c
without true b c e = ap (λ (x : Bool). x || c) e
without false b c e = refl

with_it : (p b : Bool) → b ≡ true → (p && b) ≡ p
with_it true b e = e
with_it false b e = refl

spot_at : List ℕ → Stand → Spot
spot_at q st = record { queue = q; stand = st }

module _ (spot : Ident → Option Spot) (next : ℕ) (ident : Ident) where
  module _ (test : List ℕ → Row → Bool) (name : List ℕ) where
    -- the first row has the ident
    first_has : (e : Stand × Row) (es : List (Stand × Row)) → IsDistinct (eq_by_cmp stand_cmp) (keys_of (e ∷ es)) → has_ident ident e.1 ≡ true
        → ((test name e.1 && has_ident ident e.1) || passes_here test ident name es (Some (record { queue = name; stand = e.0 }))) ≡ passes_here test ident name (e ∷ es) (Some (record { queue = name; stand = e.0 }))
    first_has e es apart h =
        let gone : lookup (is_at (stand_cmp e.0)) es ≡ None = none_there (is_at (stand_cmp e.0)) es (IsDistinct-head (eq_by_cmp stand_cmp) e.0 (keys_of es) apart) in
        let rest : passes_here test ident name es (Some (record { queue = name; stand = e.0 })) ≡ false =
        ap (λ (o : Option Row). bytes_eq name name && passes_at test ident name o) gone ∙ and_none (bytes_eq name name) in
        let here : passes_here test ident name (e ∷ es) (Some (record { queue = name; stand = e.0 })) ≡ (test name e.1 && has_ident ident e.1) =
        ap (λ (b : Bool). b && passes_at test ident name (lookup (is_at (stand_cmp e.0)) (e ∷ es))) (name_same name)
        ∙ ap (λ (b : Bool). passes_at test ident name (cond b (Some e.1) (lookup (is_at (stand_cmp e.0)) es))) (place_same e.0) in
        ap (λ (b : Bool). (test name e.1 && has_ident ident e.1) || b) rest ∙ or_none (test name e.1 && has_ident ident e.1) ∙ sym here

    -- it hasn't
    first_lacks : (e : Stand × Row) (es : List (Stand × Row)) → IsDistinct (eq_by_cmp stand_cmp) (keys_of (e ∷ es)) → has_ident ident e.1 ≡ false
        → (o : Option Spot) → passes_here test ident name es o ≡ passes_here test ident name (e ∷ es) o
    first_lacks e es apart h None = refl
    first_lacks e es apart h (Some sp) = by (is_at (stand_cmp sp.stand) e.0) refl
      where
        by : (b : Bool) → is_at (stand_cmp sp.stand) e.0 ≡ b → passes_here test ident name es (Some sp) ≡ passes_here test ident name (e ∷ es) (Some sp)
        by false f = λ j. bytes_eq sp.queue name && passes_at test ident name (cond (sym f j) (Some e.1) (lookup (is_at (stand_cmp sp.stand)) es))
        by true f =
            let gone : lookup (is_at (stand_cmp sp.stand)) es ≡ None =
            subst (λ (st : Stand). lookup (is_at (stand_cmp st)) es ≡ None) (sym (place_is sp.stand e.0 f)) (none_there (is_at (stand_cmp e.0)) es (IsDistinct-head (eq_by_cmp stand_cmp) e.0 (keys_of es) apart)) in
            let lacks : passes_at test ident name (Some e.1) ≡ false = ap (λ (b : Bool). test name e.1 && b) h ∙ and_none (test name e.1) in
            ap (λ (o : Option Row). bytes_eq sp.queue name && passes_at test ident name o) gone
            ∙ ap (λ (b : Bool). bytes_eq sp.queue name && b) (sym lacks)
            ∙ (λ j. bytes_eq sp.queue name && passes_at test ident name (cond (sym f j) (Some e.1) (lookup (is_at (stand_cmp sp.stand)) es)))

    -- the rows of one queue
    pub found_here : (es : List (Stand × Row)) → AllByRecursion (Stands spot next name) es → IsDistinct (eq_by_cmp stand_cmp) (keys_of es)
        → list_any (λ (row : Row). test name row && has_ident ident row) (rows_of es) ≡ passes_here test ident name es (spot ident)
    found_here [] all apart = nothing (spot ident)
      where
        nothing : (o : Option Spot) → false ≡ passes_here test ident name [] o
        nothing None = refl
        nothing (Some sp) = sym (and_none (bytes_eq sp.queue name))
    found_here (e ∷ es) all apart = by (found_here es all.1 (IsDistinct-tail (eq_by_cmp stand_cmp) e.0 (keys_of es) apart)) (has_ident ident e.1) refl
      where
        by : list_any (λ (row : Row). test name row && has_ident ident row) (rows_of es) ≡ passes_here test ident name es (spot ident) → (b : Bool) → has_ident ident e.1 ≡ b → ((test name e.1 && has_ident ident e.1) || list_any (λ (row : Row). test name row && has_ident ident row) (rows_of es)) ≡ passes_here test ident name (e ∷ es) (spot ident)
        by rest true h =
            let is = noted_there spot next ident name e all.0 h in
            ap (λ (b : Bool). (test name e.1 && has_ident ident e.1) || b) (rest ∙ ap (passes_here test ident name es) is)
            ∙ first_has e es apart h ∙ sym (ap (passes_here test ident name (e ∷ es)) is)
        by rest false h = without (test name e.1) (has_ident ident e.1) _ h ∙ rest ∙ first_lacks e es apart h (spot ident)

  -- the rows of all queues
  module _ (test : List ℕ → Row → Bool) where
    joined : (r : List ℕ × List (Stand × Row)) (rs : List (List ℕ × List (Stand × Row))) → IsDistinct bytes_eq (keys_of (r ∷ rs))
        → (o : Option Spot) → (passes_here test ident r.0 r.1 o || passes_in test ident rs o) ≡ passes_in test ident (r ∷ rs) o
    joined r rs named None = refl
    joined r rs named (Some sp) = by (bytes_eq sp.queue r.0) refl
      where
        by : (b : Bool) → bytes_eq sp.queue r.0 ≡ b → (passes_here test ident r.0 r.1 (Some sp) || passes_in test ident rs (Some sp)) ≡ passes_in test ident (r ∷ rs) (Some sp)
        by false f = rw f refl
        by true f =
            let gone : lookup (bytes_eq sp.queue) rs ≡ None =
            subst (λ (q : List ℕ). lookup (bytes_eq q) rs ≡ None) (sym (name_is sp.queue r.0 f)) (none_there (bytes_eq r.0) rs (IsDistinct-head bytes_eq r.0 (keys_of rs) named)) in
            rw f (ap (λ (o : Option (List (Stand × Row))). passes_at test ident r.0 (lookup (is_at (stand_cmp sp.stand)) r.1) || passes_at test ident sp.queue (row_in sp.stand o)) gone
            ∙ or_none (passes_at test ident r.0 (lookup (is_at (stand_cmp sp.stand)) r.1))
            ∙ ap (λ (n : List ℕ). passes_at test ident n (lookup (is_at (stand_cmp sp.stand)) r.1)) (sym (name_is sp.queue r.0 f)))

    pub found_all : (rs : List (List ℕ × List (Stand × Row))) → AllByRecursion (IsRack spot next) rs → IsDistinct bytes_eq (keys_of rs)
        → any_row test ident (shelves_of rs) ≡ passes_in test ident rs (spot ident)
    found_all [] each named = nothing (spot ident)
      where
        nothing : (o : Option Spot) → false ≡ passes_in test ident [] o
        nothing None = refl
        nothing (Some sp) = refl
    found_all (r ∷ rs) each named =
        ap (λ (b : Bool). b || any_row test ident (shelves_of rs)) (found_here test r.0 r.1 each.0.stand each.0.apart)
        ∙ ap (λ (b : Bool). passes_here test ident r.0 r.1 (spot ident) || b) (found_all rs each.1 (IsDistinct-tail bytes_eq r.0 (keys_of rs) named))
        ∙ joined r rs named (spot ident)

  -- the rows of the queue of one name
  module _ (test : Row → Bool) (name : List ℕ) where
    off : (q : List ℕ) → bytes_eq q name ≡ false → (o : Option Row) → passes_at (λ n row. bytes_eq n name && test row) ident q o ≡ false
    off q e None = refl
    off q e (Some row) = ap (λ (b : Bool). (b && test row) && has_ident ident row) e

    on : (q : List ℕ) → bytes_eq q name ≡ true → (o : Option Row) → passes_at (λ n row. test row) ident name o ≡ passes_at (λ n row. bytes_eq n name && test row) ident q o
    on q e None = refl
    on q e (Some row) = sym (ap (λ (b : Bool). (b && test row) && has_ident ident row) e)

    here_on : (es : List (Stand × Row)) (rs : List (List ℕ × List (Stand × Row))) (o : Option Spot)
        → passes_here (λ n row. test row) ident name es o ≡ passes_in (λ n row. bytes_eq n name && test row) ident ((name, es) ∷ rs) o
    here_on es rs None = refl
    here_on es rs (Some sp) = by (bytes_eq sp.queue name) refl
      where
        by : (b : Bool) → bytes_eq sp.queue name ≡ b → passes_here (λ n row. test row) ident name es (Some sp) ≡ passes_in (λ n row. bytes_eq n name && test row) ident ((name, es) ∷ rs) (Some sp)
        by true f = ap (λ (b : Bool). b && passes_at (λ n row. test row) ident name (lookup (is_at (stand_cmp sp.stand)) es)) f
            ∙ on sp.queue f (lookup (is_at (stand_cmp sp.stand)) es)
            ∙ (λ j. passes_at (λ n row. bytes_eq n name && test row) ident sp.queue (row_in sp.stand (cond (sym f j) (Some es) (lookup (bytes_eq sp.queue) rs))))
        by false f = ap (λ (b : Bool). b && passes_at (λ n row. test row) ident name (lookup (is_at (stand_cmp sp.stand)) es)) f
            ∙ sym (off sp.queue f (row_in sp.stand (lookup (bytes_eq sp.queue) ((name, es) ∷ rs))))

    there_on : (n : List ℕ) (es : List (Stand × Row)) (rs : List (List ℕ × List (Stand × Row))) → bytes_eq name n ≡ false → (o : Option Spot)
        → passes_in (λ n row. bytes_eq n name && test row) ident rs o ≡ passes_in (λ n row. bytes_eq n name && test row) ident ((n, es) ∷ rs) o
    there_on n es rs other None = refl
    there_on n es rs other (Some sp) = by (bytes_eq sp.queue n) refl
      where
        by : (b : Bool) → bytes_eq sp.queue n ≡ b → passes_in (λ n row. bytes_eq n name && test row) ident rs (Some sp) ≡ passes_in (λ n row. bytes_eq n name && test row) ident ((n, es) ∷ rs) (Some sp)
        by false f = λ j. passes_at (λ n row. bytes_eq n name && test row) ident sp.queue (row_in sp.stand (cond (sym f j) (Some es) (lookup (bytes_eq sp.queue) rs)))
        by true f =
            let elsewhere : bytes_eq sp.queue name ≡ false = not_it (bytes_eq sp.queue name) refl in
            off sp.queue elsewhere (row_in sp.stand (lookup (bytes_eq sp.queue) rs)) ∙ sym (off sp.queue elsewhere (row_in sp.stand (lookup (bytes_eq sp.queue) ((n, es) ∷ rs))))
          where
            not_it : (b : Bool) → bytes_eq sp.queue name ≡ b → b ≡ false
            not_it false g = refl
            not_it true g = absurd (cc (sym (subst (λ (x : List ℕ). bytes_eq name x ≡ true) (sym (name_is sp.queue name g) ∙ name_is sp.queue n f) (name_same name)) ∙ other))

    pub found_on : (rs : List (List ℕ × List (Stand × Row))) → AllByRecursion (IsRack spot next) rs
        → list_any (λ (row : Row). test row && has_ident ident row) (shelf_in name (shelves_of rs)).rows ≡ passes_in (λ n row. bytes_eq n name && test row) ident rs (spot ident)
    found_on [] each = nothing (spot ident)
      where
        nothing : (o : Option Spot) → false ≡ passes_in (λ n row. bytes_eq n name && test row) ident [] o
        nothing None = refl
        nothing (Some sp) = refl
    found_on (r ∷ rs) each = by (found_on rs each.1) (bytes_eq name r.0) refl
      where
        by : list_any (λ (row : Row). test row && has_ident ident row) (shelf_in name (shelves_of rs)).rows ≡ passes_in (λ n row. bytes_eq n name && test row) ident rs (spot ident)
            → (b : Bool) → bytes_eq name r.0 ≡ b → list_any (λ (row : Row). test row && has_ident ident row) (shelf_in name (shelves_of (r ∷ rs))).rows ≡ passes_in (λ n row. bytes_eq n name && test row) ident (r ∷ rs) (spot ident)
        by rest true f =
            (λ j. list_any (λ (row : Row). test row && has_ident ident row) (cond (f j) (shelf_of r) (shelf_in name (shelves_of rs))).rows)
            ∙ found_here (λ n row. test row) r.0 r.1 each.0.stand each.0.apart
            ∙ subst (λ (n : List ℕ). passes_here (λ n row. test row) ident n r.1 (spot ident) ≡ passes_in (λ n row. bytes_eq n name && test row) ident ((n, r.1) ∷ rs) (spot ident)) (name_is name r.0 f) (here_on r.1 rs (spot ident))
        by rest false f =
            (λ j. list_any (λ (row : Row). test row && has_ident ident row) (cond (f j) (shelf_of r) (shelf_in name (shelves_of rs))).rows)
            ∙ rest
            ∙ there_on r.0 r.1 rs f (spot ident)
