-- What becomes of all rows where one goes, is held or comes.
use Rattle.std.proofs.Common.{◌≡◌, ℕ, Bool, true, false, cond, List, [], ◌∷◌, Option, Some, None, refl, sym, ap, subst, ◌∙◌}
use Rattle.std.proofs.Common.{Ordering}
use Rattle.std.specs.Prelude.{not, nat_le, if◌then◌else◌}
use Rattle.std.specs.Ordering.{match_ordering, eq_by_cmp}
use Rattle.std.specs.List.{AllByRecursion, IsDistinct}
use Rattle.std.specs.Map.{keys_of, lookup, remove_entry, set_value}
use Rattle.std.specs.BTreeMap.{is_at, insert_entry}
use Rattle.std.specs.Str.{bytes_eq}
use Rattle.indexmap.specs.IndexMap.{insert_entry as named_entry}
use Rattle.std.proofs.lemmas.Map.Keys.{IsDistinct-head, IsDistinct-tail}
use Rattle.mq_message.specs.declared.message.Ident.{Ident}
use Rattle.mq_message.specs.declared.place.Holder.{Holder}
use Rattle.mq_queue.specs.declared.row.Row.{Row}
use Rattle.mq_queue.specs.Rows.{has_ident, keep, retag, insert_row}
use Rattle.mq_calls.specs.declared.image.Shelf.{Shelf}
use Rattle.mq_spec_log.specs.Shelves.{shelf_in, set_shelf, on_all, without_ident}
use Rattle.mq_shelves.specs.declared.rack.Stand.{Stand}
use Rattle.mq_shelves.specs.declared.spots.Spot.{Spot}
use Rattle.mq_shelves.specs.Racks.{stand_cmp, rows_of, shelf_of, shelves_of, or_nothing, tagged, Stands, IsRack}
use Rattle.mq_shelves.proofs.StandLaws.{name_is, name_same, place_is, place_same, lane_behind, came_earlier, all_each, not_there}

abbrev rows_shelf : List ℕ → List Row → Shelf
rows_shelf name rows = record { name = name; rows = rows }

abbrev held_row : Option Holder → Row → Row
held_row by row = record row { by = by }

abbrev row_or : Row → Option Row → Row
row_or r None = r
row_or r (Some row) = row

-- ---- the rows of one queue

module _ (spot : Ident → Option Spot) (next : ℕ) (ident : Ident) where
  none_kept : (es : List (Stand × Row)) → AllByRecursion (λ (e : Stand × Row). has_ident ident e.1 ≡ false) es → keep (λ (row : Row). not (has_ident ident row)) (rows_of es) ≡ rows_of es
  none_kept [] h = refl
  none_kept (e ∷ es) h =
      ap (λ (b : Bool). if not b then e.1 ∷ keep (λ (row : Row). not (has_ident ident row)) (rows_of es) else keep (λ (row : Row). not (has_ident ident row)) (rows_of es)) h.0
      ∙ ap (λ (rs : List Row). e.1 ∷ rs) (none_kept es h.1)

  none_held : (by : Option Holder) (es : List (Stand × Row)) → AllByRecursion (λ (e : Stand × Row). has_ident ident e.1 ≡ false) es → retag (λ (row : Row). if has_ident ident row then record row { by = by } else row) (rows_of es) ≡ rows_of es
  none_held by [] h = refl
  none_held by (e ∷ es) h =
      ap (λ (b : Bool). (if b then held_row by e.1 else e.1) ∷ retag (λ (row : Row). if has_ident ident row then record row { by = by } else row) (rows_of es)) h.0
      ∙ ap (λ (rs : List Row). e.1 ∷ rs) (none_held by es h.1)

  module _ (sp : Spot) (is : spot ident ≡ Some sp) where
    lacks_name : (name : List ℕ) (e : Stand × Row) → Stands spot next name e → bytes_eq sp.queue name ≡ false → has_ident ident e.1 ≡ false
    lacks_name name e s other = by (has_ident ident e.1) refl
      where
        by : (b : Bool) → has_ident ident e.1 ≡ b → b ≡ false
        by false h = refl
        by true h =
            let there = not_there spot next ident sp is name e s true h refl in
            absurd (cc (sym (subst (λ (n : List ℕ). bytes_eq sp.queue n ≡ true) there.0 (name_same sp.queue)) ∙ other))

    lacks_place : (name : List ℕ) (e : Stand × Row) → Stands spot next name e → is_at (stand_cmp sp.stand) e.0 ≡ false → has_ident ident e.1 ≡ false
    lacks_place name e s other = by (has_ident ident e.1) refl
      where
        by : (b : Bool) → has_ident ident e.1 ≡ b → b ≡ false
        by false h = refl
        by true h =
            let there = not_there spot next ident sp is name e s true h refl in
            absurd (cc (sym (subst (λ (st : Stand). is_at (stand_cmp sp.stand) st ≡ true) there.1 (place_same sp.stand)) ∙ other))

    elsewhere : (name : List ℕ) (es : List (Stand × Row)) → AllByRecursion (Stands spot next name) es → bytes_eq sp.queue name ≡ false → AllByRecursion (λ (e : Stand × Row). has_ident ident e.1 ≡ false) es
    elsewhere name es all other = all_each (λ e s. lacks_name name e s other) es all

    behind : (name : List ℕ) (es : List (Stand × Row)) → AllByRecursion (Stands spot next name) es → AllByRecursion (λ (k : Stand). is_at (stand_cmp sp.stand) k ≡ false) (keys_of es) → AllByRecursion (λ (e : Stand × Row). has_ident ident e.1 ≡ false) es
    behind name [] all h = tt
    behind name (e ∷ es) all h = (lacks_place name e all.0 h.0, behind name es all.1 h.1)

    behind_first : (name : List ℕ) (e : Stand × Row) (es : List (Stand × Row)) → AllByRecursion (Stands spot next name) (e ∷ es) → IsDistinct (eq_by_cmp stand_cmp) (keys_of (e ∷ es)) → is_at (stand_cmp sp.stand) e.0 ≡ true → AllByRecursion (λ (e : Stand × Row). has_ident ident e.1 ≡ false) es
    behind_first name e es all apart f = behind name es all.1
        (subst (λ (st : Stand). AllByRecursion (λ (k : Stand). is_at (stand_cmp st) k ≡ false) (keys_of es)) (sym (place_is sp.stand e.0 f)) (IsDistinct-head (eq_by_cmp stand_cmp) e.0 (keys_of es) apart))

    module _ (r : Row) (has : has_ident ident r ≡ true) (name : List ℕ) where
      -- the row goes
      row_gone : (es : List (Stand × Row)) → AllByRecursion (Stands spot next name) es → IsDistinct (eq_by_cmp stand_cmp) (keys_of es) → lookup (is_at (stand_cmp sp.stand)) es ≡ Some r
          → keep (λ (row : Row). not (has_ident ident row)) (rows_of es) ≡ rows_of (remove_entry (is_at (stand_cmp sp.stand)) es)
      row_gone [] all apart found = refl
      row_gone (e ∷ es) all apart found = by (row_gone es all.1 (IsDistinct-tail (eq_by_cmp stand_cmp) e.0 (keys_of es) apart)) (is_at (stand_cmp sp.stand) e.0) refl
        where
          first : Bool → Row → List Row
          first b row = if not b then row ∷ keep (λ (row : Row). not (has_ident ident row)) (rows_of es) else keep (λ (row : Row). not (has_ident ident row)) (rows_of es)

          by : (lookup (is_at (stand_cmp sp.stand)) es ≡ Some r → keep (λ (row : Row). not (has_ident ident row)) (rows_of es) ≡ rows_of (remove_entry (is_at (stand_cmp sp.stand)) es)) → (b : Bool) → is_at (stand_cmp sp.stand) e.0 ≡ b → keep (λ (row : Row). not (has_ident ident row)) (rows_of (e ∷ es)) ≡ rows_of (remove_entry (is_at (stand_cmp sp.stand)) (e ∷ es))
          by rest true f =
              let here : e.1 ≡ r = ap (row_or r) ((λ j. cond (sym f j) (Some e.1) (lookup (is_at (stand_cmp sp.stand)) es)) ∙ found) in
              ap (λ (b : Bool). first b e.1) (ap (has_ident ident) here ∙ has)
              ∙ none_kept es (behind_first name e es all apart f)
              ∙ (λ j. rows_of (cond (sym f j) es (e ∷ remove_entry (is_at (stand_cmp sp.stand)) es)))
          by rest false f =
              ap (λ (b : Bool). first b e.1) (lacks_place name e all.0 f)
              ∙ ap (λ (rs : List Row). e.1 ∷ rs) (rest ((λ j. cond (sym f j) (Some e.1) (lookup (is_at (stand_cmp sp.stand)) es)) ∙ found))
              ∙ (λ j. rows_of (cond (sym f j) es (e ∷ remove_entry (is_at (stand_cmp sp.stand)) es)))

      -- it is held
      row_held : (by : Option Holder) (es : List (Stand × Row)) → AllByRecursion (Stands spot next name) es → IsDistinct (eq_by_cmp stand_cmp) (keys_of es) → lookup (is_at (stand_cmp sp.stand)) es ≡ Some r
          → retag (λ (row : Row). if has_ident ident row then record row { by = by } else row) (rows_of es) ≡ rows_of (set_value (is_at (stand_cmp sp.stand)) es (record r { by = by }))
      row_held h [] all apart found = refl
      row_held h (e ∷ es) all apart found = by (row_held h es all.1 (IsDistinct-tail (eq_by_cmp stand_cmp) e.0 (keys_of es) apart)) (is_at (stand_cmp sp.stand) e.0) refl
        where
          others : List Row
          others = retag (λ (row : Row). if has_ident ident row then record row { by = h } else row) (rows_of es)

          by : (lookup (is_at (stand_cmp sp.stand)) es ≡ Some r → retag (λ (row : Row). if has_ident ident row then record row { by = h } else row) (rows_of es) ≡ rows_of (set_value (is_at (stand_cmp sp.stand)) es (record r { by = h }))) → (b : Bool) → is_at (stand_cmp sp.stand) e.0 ≡ b → retag (λ (row : Row). if has_ident ident row then record row { by = h } else row) (rows_of (e ∷ es)) ≡ rows_of (set_value (is_at (stand_cmp sp.stand)) (e ∷ es) (record r { by = h }))
          by rest true f =
              let here : e.1 ≡ r = ap (row_or r) ((λ j. cond (sym f j) (Some e.1) (lookup (is_at (stand_cmp sp.stand)) es)) ∙ found) in
              ap (λ (b : Bool). (if b then held_row h e.1 else e.1) ∷ others) (ap (has_ident ident) here ∙ has)
              ∙ ap (λ (rs : List Row). held_row h e.1 ∷ rs) (none_held h es (behind_first name e es all apart f))
              ∙ ap (λ (x : Row). held_row h x ∷ rows_of es) here
              ∙ (λ j. rows_of (cond (sym f j) ((e.0, held_row h r) ∷ es) (e ∷ set_value (is_at (stand_cmp sp.stand)) es (held_row h r))))
          by rest false f =
              ap (λ (b : Bool). (if b then held_row h e.1 else e.1) ∷ others) (lacks_place name e all.0 f)
              ∙ ap (λ (rs : List Row). e.1 ∷ rs) (rest ((λ j. cond (sym f j) (Some e.1) (lookup (is_at (stand_cmp sp.stand)) es)) ∙ found))
              ∙ (λ j. rows_of (cond (sym f j) ((e.0, held_row h r) ∷ es) (e ∷ set_value (is_at (stand_cmp sp.stand)) es (held_row h r))))

-- a row comes in as the last of its lane
pub row_come : (spot : Ident → Option Spot) (next lane : ℕ) (name : List ℕ) (row : Row) → row.place.lane ≡ lane → (es : List (Stand × Row)) → AllByRecursion (Stands spot next name) es
    → insert_row row (rows_of es) ≡ rows_of (insert_entry stand_cmp es (record { lane = lane; arrival = next }) row)
row_come spot next lane name row is [] all = refl
row_come spot next lane name row is (e ∷ es) all = by (row_come spot next lane name row is es all.1) (nat_le e.0.lane lane) refl
  where
    here : Ordering → List (Stand × Row)
    here o = match_ordering o ((record { lane = lane; arrival = next }, row) ∷ e ∷ es) ((e.0, row) ∷ es) (e ∷ insert_entry stand_cmp es (record { lane = lane; arrival = next }) row)

    seen : nat_le e.1.place.lane row.place.lane ≡ nat_le e.0.lane lane
    seen = ap (λ (n : ℕ). nat_le n row.place.lane) (sym all.0.lane) ∙ ap (nat_le e.0.lane) is

    front : Bool → List Row
    front b = if b then e.1 ∷ insert_row row (rows_of es) else row ∷ e.1 ∷ rows_of es

    by : insert_row row (rows_of es) ≡ rows_of (insert_entry stand_cmp es (record { lane = lane; arrival = next }) row) → (b : Bool) → nat_le e.0.lane lane ≡ b → insert_row row (rows_of (e ∷ es)) ≡ rows_of (insert_entry stand_cmp (e ∷ es) (record { lane = lane; arrival = next }) row)
    by rest true f =
        ap front (seen ∙ f) ∙ ap (λ (rs : List Row). e.1 ∷ rs) rest
        ∙ ap (λ (o : Ordering). rows_of (here o)) (sym (came_earlier lane next e.0 f all.0.came))
    by rest false f = ap front (seen ∙ f) ∙ ap (λ (o : Ordering). rows_of (here o)) (sym (lane_behind lane next e.0 f))

-- ---- the rows of all queues

abbrev found_or : List (Stand × Row) → Option (List (Stand × Row)) → List (Stand × Row)
found_or es None = es
found_or es (Some x) = x

module _ (q : List ℕ) (es : List (Stand × Row)) (new : List (Stand × Row)) where
  -- the queue that is found takes other rows
  pub all_set : (P : List ℕ × List (Stand × Row) → Type 0) → ((n : List ℕ) → bytes_eq q n ≡ true → P (n, es) → P (n, new))
      → (rs : List (List ℕ × List (Stand × Row))) → lookup (bytes_eq q) rs ≡ Some es → AllByRecursion P rs → AllByRecursion P (set_value (bytes_eq q) rs new)
  all_set P turn [] found all = tt
  all_set P turn (r ∷ rs) found all = by (λ there. all_set P turn rs there all.1) (bytes_eq q r.0) refl
    where
      by : (lookup (bytes_eq q) rs ≡ Some es → AllByRecursion P (set_value (bytes_eq q) rs new)) → (b : Bool) → bytes_eq q r.0 ≡ b → AllByRecursion P (cond b ((r.0, new) ∷ rs) (r ∷ set_value (bytes_eq q) rs new))
      by rest true f =
          let here : r.1 ≡ es = ap (found_or es) ((λ j. cond (sym f j) (Some r.1) (lookup (bytes_eq q) rs)) ∙ found) in
          (turn r.0 f (subst (λ (x : List (Stand × Row)). P (r.0, x)) here all.0), all.1)
      by rest false f = (all.0, rest ((λ j. cond (sym f j) (Some r.1) (lookup (bytes_eq q) rs)) ∙ found))

  module _ (F : Shelf → Shelf) (P : List ℕ × List (Stand × Row) → Type 0) where
    rest_same : ((r : List ℕ × List (Stand × Row)) → P r → bytes_eq q r.0 ≡ false → F (shelf_of r) ≡ shelf_of r)
        → (rs : List (List ℕ × List (Stand × Row))) → AllByRecursion P rs → AllByRecursion (λ (n : List ℕ). bytes_eq q n ≡ false) (keys_of rs) → shelves_of rs ≡ on_all F (shelves_of rs)
    rest_same same [] all others = refl
    rest_same same (r ∷ rs) all others =
        ap (λ (s : Shelf). s ∷ shelves_of rs) (sym (same r all.0 others.0)) ∙ ap (λ (ss : List Shelf). F (shelf_of r) ∷ ss) (rest_same same rs all.1 others.1)

    pub one_changed : ((r : List ℕ × List (Stand × Row)) → P r → bytes_eq q r.0 ≡ false → F (shelf_of r) ≡ shelf_of r)
        → ((n : List ℕ) → P (n, es) → F (shelf_of (n, es)) ≡ shelf_of (n, new))
        → (rs : List (List ℕ × List (Stand × Row))) → IsDistinct bytes_eq (keys_of rs) → AllByRecursion P rs → lookup (bytes_eq q) rs ≡ Some es → shelves_of (set_value (bytes_eq q) rs new) ≡ on_all F (shelves_of rs)
    one_changed same turn [] named all found = refl
    one_changed same turn (r ∷ rs) named all found = by (one_changed same turn rs (IsDistinct-tail bytes_eq r.0 (keys_of rs) named) all.1) (bytes_eq q r.0) refl
      where
        by : (lookup (bytes_eq q) rs ≡ Some es → shelves_of (set_value (bytes_eq q) rs new) ≡ on_all F (shelves_of rs)) → (b : Bool) → bytes_eq q r.0 ≡ b → shelves_of (set_value (bytes_eq q) (r ∷ rs) new) ≡ on_all F (shelves_of (r ∷ rs))
        by rest true f =
            let here : r.1 ≡ es = ap (found_or es) ((λ j. cond (sym f j) (Some r.1) (lookup (bytes_eq q) rs)) ∙ found) in
            let others : AllByRecursion (λ (n : List ℕ). bytes_eq q n ≡ false) (keys_of rs) =
            subst (λ (x : List ℕ). AllByRecursion (λ (n : List ℕ). bytes_eq x n ≡ false) (keys_of rs)) (sym (name_is q r.0 f)) (IsDistinct-head bytes_eq r.0 (keys_of rs) named) in
            (λ j. shelves_of (cond (f j) ((r.0, new) ∷ rs) (r ∷ set_value (bytes_eq q) rs new)))
            ∙ ap (λ (s : Shelf). s ∷ shelves_of rs) (sym (turn r.0 (subst (λ (x : List (Stand × Row)). P (r.0, x)) here all.0)))
            ∙ ap (λ (x : List (Stand × Row)). F (shelf_of (r.0, x)) ∷ shelves_of rs) (sym here)
            ∙ ap (λ (ss : List Shelf). F (shelf_of r) ∷ ss) (rest_same same rs all.1 others)
        by rest false f =
            (λ j. shelves_of (cond (f j) ((r.0, new) ∷ rs) (r ∷ set_value (bytes_eq q) rs new)))
            ∙ ap (λ (s : Shelf). s ∷ shelves_of (set_value (bytes_eq q) rs new)) (sym (same r all.0 f))
            ∙ ap (λ (ss : List Shelf). F (shelf_of r) ∷ ss) (rest ((λ j. cond (sym f j) (Some r.1) (lookup (bytes_eq q) rs)) ∙ found))

module _ (spot : Ident → Option Spot) (next : ℕ) (ident : Ident) (sp : Spot) (is : spot ident ≡ Some sp) (r : Row) (has : has_ident ident r ≡ true) (es : List (Stand × Row)) (there : lookup (is_at (stand_cmp sp.stand)) es ≡ Some r)
    (rs : List (List ℕ × List (Stand × Row))) (named : IsDistinct bytes_eq (keys_of rs)) (each : AllByRecursion (IsRack spot next) rs) (found : lookup (bytes_eq sp.queue) rs ≡ Some es) where
  -- the row goes
  pub gone : shelves_of (set_value (bytes_eq sp.queue) rs (remove_entry (is_at (stand_cmp sp.stand)) es)) ≡ on_all (without_ident ident) (shelves_of rs)
  gone = one_changed sp.queue es (remove_entry (is_at (stand_cmp sp.stand)) es) (without_ident ident) (IsRack spot next)
      (λ x k other. ap (rows_shelf x.0) (none_kept spot next ident x.1 (elsewhere spot next ident sp is x.0 x.1 k.stand other)))
      (λ n k. ap (rows_shelf n) (row_gone spot next ident sp is r has n es k.stand k.apart there)) rs named each found

  -- it is held
  pub held : (by : Option Holder) → shelves_of (set_value (bytes_eq sp.queue) rs (set_value (is_at (stand_cmp sp.stand)) es (record r { by = by }))) ≡ on_all (tagged ident by) (shelves_of rs)
  held by = one_changed sp.queue es (set_value (is_at (stand_cmp sp.stand)) es (record r { by = by })) (tagged ident by) (IsRack spot next)
      (λ x k other. ap (rows_shelf x.0) (none_held spot next ident by x.1 (elsewhere spot next ident sp is x.0 x.1 k.stand other)))
      (λ n k. ap (rows_shelf n) (row_held spot next ident sp is r has n by es k.stand k.apart there)) rs named each found

-- the rows of a queue that is there or not
pub shelf_there : (q : List ℕ) (rs : List (List ℕ × List (Stand × Row))) → shelf_in q (shelves_of rs) ≡ shelf_of (q, or_nothing (lookup (bytes_eq q) rs))
shelf_there q [] = refl
shelf_there q (r ∷ rs) = by (shelf_there q rs) (bytes_eq q r.0) refl
  where
    by : shelf_in q (shelves_of rs) ≡ shelf_of (q, or_nothing (lookup (bytes_eq q) rs)) → (b : Bool) → bytes_eq q r.0 ≡ b → shelf_in q (shelves_of (r ∷ rs)) ≡ shelf_of (q, or_nothing (lookup (bytes_eq q) (r ∷ rs)))
    by rest true f = (λ j. cond (f j) (shelf_of r) (shelf_in q (shelves_of rs))) ∙ ap (λ (n : List ℕ). shelf_of (n, r.1)) (sym (name_is q r.0 f)) ∙ (λ j. shelf_of (q, or_nothing (cond (sym f j) (Some r.1) (lookup (bytes_eq q) rs))))
    by rest false f = (λ j. cond (f j) (shelf_of r) (shelf_in q (shelves_of rs))) ∙ rest ∙ (λ j. shelf_of (q, or_nothing (cond (sym f j) (Some r.1) (lookup (bytes_eq q) rs))))

-- a queue takes the place of the one of its name, or stands last
pub queue_set : (q : List ℕ) (es : List (Stand × Row)) (rs : List (List ℕ × List (Stand × Row))) → shelves_of (named_entry bytes_eq rs q es) ≡ set_shelf (shelf_of (q, es)) (shelves_of rs)
queue_set q es [] = refl
queue_set q es (r ∷ rs) = by (queue_set q es rs) (bytes_eq q r.0) refl
  where
    by : shelves_of (named_entry bytes_eq rs q es) ≡ set_shelf (shelf_of (q, es)) (shelves_of rs) → (b : Bool) → bytes_eq q r.0 ≡ b → shelves_of (named_entry bytes_eq (r ∷ rs) q es) ≡ set_shelf (shelf_of (q, es)) (shelves_of (r ∷ rs))
    by rest true f = (λ j. shelves_of (if f j then (r.0, es) ∷ rs else r ∷ named_entry bytes_eq rs q es)) ∙ ap (λ (n : List ℕ). shelf_of (n, es) ∷ shelves_of rs) (sym (name_is q r.0 f))
        ∙ (λ j. if sym f j then shelf_of (q, es) ∷ shelves_of rs else shelf_of r ∷ set_shelf (shelf_of (q, es)) (shelves_of rs))
    by rest false f = (λ j. shelves_of (if f j then (r.0, es) ∷ rs else r ∷ named_entry bytes_eq rs q es)) ∙ ap (λ (ss : List Shelf). shelf_of r ∷ ss) rest
        ∙ (λ j. if sym f j then shelf_of (q, es) ∷ shelves_of rs else shelf_of r ∷ set_shelf (shelf_of (q, es)) (shelves_of rs))

pub named_set : (q : List ℕ) (old new : List (Stand × Row)) (rs : List (List ℕ × List (Stand × Row))) → lookup (bytes_eq q) rs ≡ Some old → set_value (bytes_eq q) rs new ≡ named_entry bytes_eq rs q new
named_set q old new [] found = absurd (cc found)
named_set q old new (r ∷ rs) found = by (named_set q old new rs) (bytes_eq q r.0) refl
  where
    by : (lookup (bytes_eq q) rs ≡ Some old → set_value (bytes_eq q) rs new ≡ named_entry bytes_eq rs q new) → (b : Bool) → bytes_eq q r.0 ≡ b → set_value (bytes_eq q) (r ∷ rs) new ≡ named_entry bytes_eq (r ∷ rs) q new
    by rest true f = (λ j. cond (f j) ((r.0, new) ∷ rs) (r ∷ set_value (bytes_eq q) rs new)) ∙ (λ j. if sym f j then (r.0, new) ∷ rs else r ∷ named_entry bytes_eq rs q new)
    by rest false f =
        (λ j. cond (f j) ((r.0, new) ∷ rs) (r ∷ set_value (bytes_eq q) rs new))
        ∙ ap (λ (x : List (List ℕ × List (Stand × Row))). r ∷ x) (rest ((λ j. cond (sym f j) (Some r.1) (lookup (bytes_eq q) rs)) ∙ found))
        ∙ (λ j. if sym f j then (r.0, new) ∷ rs else r ∷ named_entry bytes_eq rs q new)
