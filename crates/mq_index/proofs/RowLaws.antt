-- What is done to the row with an ident, and to all rows at a stop.
use Rattle.std.proofs.Common.{◌≡◌, ℕ, zero, suc, ◌+◌, ◌<◌, Bool, true, false, List, [], ◌∷◌, ◌++◌, length, refl, sym, ap, ◌∙◌, arith}
use Rattle.std.specs.Prelude.{◌==◌, ◌&&◌, not, if◌then◌else◌, Option, None, Some, find, slice_get, slice_set}
use Rattle.std.specs.List.{list_any}
use Rattle.std.proofs.lemmas.Bool.Decides.{nat_tests}
use Rattle.mq_message.specs.declared.message.Ident.{Ident}
use Rattle.mq_message.specs.declared.place.Holder.{Holder}
use Rattle.mq_message.specs.declared.place.Place.{Place}
use Rattle.mq_queue.specs.declared.row.Row.{Row}
use Rattle.mq_queue.specs.Rows.{has_ident, insert_row, is_by_unit, is_free, is_persistent, keep, retag}
use Rattle.mq_queue.specs.Queues.{Lacks, freed, has_other_ident, hold_row, is_free_one, is_held_one, is_lasting, release_row, unit_freed}
use Rattle.mq_queue.proofs.QueueLaws.{hold_keeps, release_keeps, unit_keeps}
use Rattle.mq_index.specs.Lanes.{in_order}
use Rattle.mq_index.specs.Slots.{AreLow, IsOnly, NoRow, freed_slot, freed_so, held_so, in_unit, kept_slot, passes, total}
use Rattle.mq_index.specs.Walks.{stored}
use Rattle.mq_index.proofs.LaneLaws.{order_insert, order_keep, order_retag}
use Rattle.mq_index.proofs.ListLaws.{some_is}
use Rattle.mq_index.proofs.OrderLaws.{any_none, any_one, found_none, found_one, order_changed, order_fixed, order_gone, order_same, or_not, stored_more, sum, sum_order}

both : (a b : Bool) → (a && b) ≡ true → a ≡ true
both true b e = refl
both false b e = absurd cc

differ : {P : Type 0} (i j : ℕ) → (i == j) ≡ false → i ≡ j → P
differ i j e f = absurd (let no : true ≡ false = sym (same i j f) ∙ e in cc)
  where
    same : (a b : ℕ) → a ≡ b → (a == b) ≡ true
    same a b g = grind (arith, nat_tests)

-- THE ROW WITH AN IDENT
module _ (ident : Ident) (slots : List (Option Row)) (low : AreLow slots) where
  pub none_found : NoRow ident slots → find (has_ident ident) (in_order (stored slots)) ≡ None
  none_found none = found_none (has_ident ident) slots none

  pub one_found : (at : ℕ) (o : IsOnly ident at slots) → find (has_ident ident) (in_order (stored slots)) ≡ Some o.row
  one_found at o = found_one (has_ident ident) slots at o.row (low at o.row o.there) o.there o.is o.only

  -- those at other slots have other idents
  other_ident : (at : ℕ) (o : IsOnly ident at slots) (j : ℕ) (r : Row) → (j == at) ≡ false → slice_get slots j ≡ Some (Some r) → has_ident ident r ≡ false
  other_ident at o j r apart there = or_not (has_ident ident r) (λ e. differ j at apart (o.only j r there e))

  -- a hold
  pub none_held : NoRow ident slots → list_any (is_free_one ident) (in_order (stored slots)) ≡ false
  none_held none = any_none (is_free_one ident) (has_ident ident) slots (λ r e. both (has_ident ident r) (is_free r) e) none

  pub one_held : (at : ℕ) (o : IsOnly ident at slots) → list_any (is_free_one ident) (in_order (stored slots)) ≡ is_free o.row
  one_held at o =
      any_one (is_free_one ident) (has_ident ident) slots at o.row (λ r e. both (has_ident ident r) (is_free r) e) (low at o.row o.there) o.there o.is o.only
      ∙ ap (λ (b : Bool). b && is_free o.row) o.is

  hold_lanes : (by : Holder) (row : Row) → (hold_row ident by row).place.lane ≡ row.place.lane
  hold_lanes by row = ap (λ (p : Place). p.lane) (hold_keeps ident by row).0

  unheld : (by : Holder) (r : Row) → has_ident ident r ≡ false → hold_row ident by r ≡ r
  unheld by r e = ap (λ (b : Bool). if b && is_free r then record r { by = Some by } else r) e

  pub none_changed : (by : Holder) → NoRow ident slots → in_order (stored slots) ≡ retag (hold_row ident by) (in_order (stored slots))
  none_changed by none = order_fixed (hold_row ident by) slots (hold_lanes by) (λ j r there. unheld by r (none j r there))

  pub one_changed : (by : Holder) (at : ℕ) (o : IsOnly ident at slots) → in_order (stored (slice_set slots at (Some (held_so by o.row)))) ≡ retag (hold_row ident by) (in_order (stored slots))
  one_changed by at o =
      ap (λ (b : Bool). in_order (stored (slice_set slots at (Some (if b && is_free o.row then record o.row { by = Some by } else o.row))))) (sym o.is)
      ∙ order_changed (hold_row ident by) slots at o.row (hold_lanes by) o.there (λ j r apart there. unheld by r (other_ident at o j r apart there))

  -- a release
  pub none_released : NoRow ident slots → list_any (is_held_one ident) (in_order (stored slots)) ≡ false
  none_released none = any_none (is_held_one ident) (has_ident ident) slots (λ r e. both (has_ident ident r) (not (is_free r)) e) none

  pub one_released : (at : ℕ) (o : IsOnly ident at slots) → list_any (is_held_one ident) (in_order (stored slots)) ≡ not (is_free o.row)
  one_released at o =
      any_one (is_held_one ident) (has_ident ident) slots at o.row (λ r e. both (has_ident ident r) (not (is_free r)) e) (low at o.row o.there) o.there o.is o.only
      ∙ ap (λ (b : Bool). b && not (is_free o.row)) o.is

  release_lanes : (backed_out : Bool) (row : Row) → (release_row ident backed_out row).place.lane ≡ row.place.lane
  release_lanes backed_out row = ap (λ (p : Place). p.lane) (release_keeps ident backed_out row).0

  unreleased : (backed_out : Bool) (r : Row) → has_ident ident r ≡ false → release_row ident backed_out r ≡ r
  unreleased backed_out r e = ap (λ (b : Bool). if b && not (is_free r) then freed backed_out r else r) e

  pub none_freed : (backed_out : Bool) → NoRow ident slots → in_order (stored slots) ≡ retag (release_row ident backed_out) (in_order (stored slots))
  none_freed backed_out none = order_fixed (release_row ident backed_out) slots (release_lanes backed_out) (λ j r there. unreleased backed_out r (none j r there))

  so_freed : (backed_out : Bool) (r : Row) → has_ident ident r ≡ true → freed_so backed_out r ≡ release_row ident backed_out r
  so_freed backed_out r e = by (is_free r) ∙ sym (ap (λ (b : Bool). if b && not (is_free r) then freed backed_out r else r) e)
    where
      by : (f : Bool) → (if f then r else freed backed_out r) ≡ (if not f then freed backed_out r else r)
      by true = refl
      by false = refl

  pub one_freed : (backed_out : Bool) (at : ℕ) (o : IsOnly ident at slots) → in_order (stored (slice_set slots at (Some (freed_so backed_out o.row)))) ≡ retag (release_row ident backed_out) (in_order (stored slots))
  one_freed backed_out at o =
      ap (λ (r : Row). in_order (stored (slice_set slots at (Some r)))) (so_freed backed_out o.row o.is)
      ∙ order_changed (release_row ident backed_out) slots at o.row (release_lanes backed_out) o.there (λ j r apart there. unreleased backed_out r (other_ident at o j r apart there))

  -- a take
  pub none_goes : NoRow ident slots → in_order (stored slots) ≡ keep (has_other_ident ident) (in_order (stored slots))
  none_goes none = order_same (has_other_ident ident) slots (λ j r there. ap not (none j r there))

  pub one_goes : (at : ℕ) (o : IsOnly ident at slots) → in_order (stored (slice_set slots at None)) ≡ keep (has_other_ident ident) (in_order (stored slots))
  one_goes at o = order_gone (has_other_ident ident) slots at o.row o.there (ap not o.is) (λ j r apart there. ap not (other_ident at o j r apart there))

-- A ROW COMES
abbrev one_if : Bool → ℕ
one_if b = if b then 1 else 0

abbrev with_ident : Ident → Row → ℕ
with_ident ident row = one_if (has_ident ident row)

none_of : (ident : Ident) (xs : List Row) → Lacks ident xs → sum (with_ident ident) xs ≡ 0
none_of ident [] lacks = refl
none_of ident (x ∷ xs) lacks = let h = none_of ident xs lacks.1 in let z : with_ident ident x ≡ 0 = ap one_if lacks.0 in omega (arith, h, z)

none_in : (w : Row → ℕ) (slots : List (Option Row)) (j : ℕ) (r : Row) → total w slots ≡ 0 → slice_get slots j ≡ Some (Some r) → w r ≡ 0
none_in w [] zero r z e = absurd cc
none_in w [] (suc j) r z e = absurd cc
none_in w (None ∷ slots) zero r z e = absurd cc
none_in w (None ∷ slots) (suc j) r z e = none_in w slots j r z e
none_in w (Some x ∷ slots) zero r z e = let same : w r ≡ w x = ap w (sym (some_is x r (some_is (Some x) (Some r) e))) in omega (arith, z, same)
none_in w (Some x ∷ slots) (suc j) r z e = none_in w slots j r (omega (arith, z)) e

-- where the queue lacks an ident no slot has it
pub lacks_row : (ident : Ident) (slots : List (Option Row)) → AreLow slots → Lacks ident (in_order (stored slots)) → NoRow ident slots
lacks_row ident slots low lacks j r there =
    by (has_ident ident r) (none_in (with_ident ident) slots j r (sym (sum_order (with_ident ident) slots low) ∙ none_of ident (in_order (stored slots)) lacks) there)
  where
    by : (b : Bool) → one_if b ≡ 0 → b ≡ false
    by true e = absurd (one_zero e)
      where
        one_zero : one_if true ≡ 0 → ⊥
        one_zero f = omega (arith, f)
    by false e = refl

pub order_more : (slots more : List (Option Row)) (row : Row) → row.place.lane < 10 → more ≡ slots ++ Some row ∷ [] → in_order (stored more) ≡ insert_row row (in_order (stored slots))
order_more slots more row low e = ap (λ (ss : List (Option Row)). in_order (stored ss)) e ∙ ap in_order (stored_more slots row) ∙ order_insert row (stored slots) low

-- A STOP
-- the first so many slots are changed
abbrev pub map_first : (Option Row → Option Row) → ℕ → List (Option Row) → List (Option Row)
map_first f n [] = []
map_first f zero (s ∷ ss) = s ∷ ss
map_first f (suc n) (s ∷ ss) = f s ∷ map_first f n ss

pub map_none : (f : Option Row → Option Row) (slots : List (Option Row)) → slots ≡ map_first f 0 slots
map_none f [] = refl
map_none f (s ∷ ss) = refl

pub map_long : (f : Option Row → Option Row) (n : ℕ) (slots : List (Option Row)) → length (map_first f n slots) ≡ length slots
map_long f n [] = refl
map_long f zero (s ∷ ss) = refl
map_long f (suc n) (s ∷ ss) = ap suc (map_long f n ss)

reads : (f : Option Row → Option Row) (n : ℕ) (slots : List (Option Row)) → slice_get (map_first f n slots) n ≡ slice_get slots n
reads f n [] = refl
reads f zero (s ∷ ss) = refl
reads f (suc n) (s ∷ ss) = reads f n ss

step : (f : Option Row → Option Row) (n : ℕ) (slots : List (Option Row)) (s : Option Row) → slice_get slots n ≡ Some s → slice_set (map_first f n slots) n (f s) ≡ map_first f (suc n) slots
step f zero [] s e = absurd cc
step f (suc n) [] s e = absurd cc
step f zero (x ∷ ss) s e = ap (λ (y : Option Row). f y ∷ ss) (sym (some_is x s e)) ∙ ap (λ (zs : List (Option Row)). f x ∷ zs) (map_none f ss)
step f (suc n) (x ∷ ss) s e = ap (λ (zs : List (Option Row)). f x ∷ zs) (step f n ss s e)

some_there : (slots : List (Option Row)) (n : ℕ) → n < length slots → (s : Option Row) × (slice_get slots n ≡ Some s)
some_there [] n lt = absurd (omega (arith, lt))
some_there (s ∷ ss) zero lt = (s, refl)
some_there (s ∷ ss) (suc n) lt = some_there ss n (omega (arith, lt))

pub map_next : (f : Option Row → Option Row) (n : ℕ) (first now more : List (Option Row)) → n < length first → now ≡ map_first f n first → ((s : Option Row) → slice_get now n ≡ Some s → more ≡ slice_set now n (f s)) → more ≡ map_first f (n + 1) first
map_next f n first now more lt is changed =
    let s = some_there first n lt in
    let next : suc n ≡ n + 1 = omega arith in
    changed s.0 (ap (λ (ss : List (Option Row)). slice_get ss n) is ∙ reads f n first ∙ s.1)
    ∙ ap (λ (ss : List (Option Row)). slice_set ss n (f s.0)) is ∙ step f n first s.0 s.1 ∙ ap (λ (k : ℕ). map_first f k first) next

kept_all : (slots : List (Option Row)) → stored (map_first kept_slot (length slots) slots) ≡ keep is_lasting (stored slots)
kept_all [] = refl
kept_all (None ∷ ss) = kept_all ss
kept_all (Some r ∷ ss) = by (is_persistent r.message) (kept_all ss)
  where
    by : (b : Bool) → stored (map_first kept_slot (length ss) ss) ≡ keep is_lasting (stored ss) → stored ((if not b then None else Some r) ∷ map_first kept_slot (length ss) ss) ≡ (if b then r ∷ keep is_lasting (stored ss) else keep is_lasting (stored ss))
    by true h = ap (λ (rs : List Row). r ∷ rs) h
    by false h = h

freed_all : (slots : List (Option Row)) → stored (map_first freed_slot (length slots) slots) ≡ retag unit_freed (stored slots)
freed_all [] = refl
freed_all (None ∷ ss) = freed_all ss
freed_all (Some r ∷ ss) = ap (λ (rs : List Row). unit_freed r ∷ rs) (freed_all ss)

pub kept_end : (n : ℕ) (first now : List (Option Row)) → n ≡ length first → now ≡ map_first kept_slot n first → in_order (stored now) ≡ keep is_lasting (in_order (stored first))
kept_end n first now end is = ap (λ (ss : List (Option Row)). in_order (stored ss)) (is ∙ ap (λ (k : ℕ). map_first kept_slot k first) end) ∙ ap in_order (kept_all first) ∙ order_keep is_lasting (stored first)

pub freed_end : (n : ℕ) (first now : List (Option Row)) → n ≡ length first → now ≡ map_first freed_slot n first → in_order (stored now) ≡ retag unit_freed (in_order (stored first))
freed_end n first now end is =
    ap (λ (ss : List (Option Row)). in_order (stored ss)) (is ∙ ap (λ (k : ℕ). map_first freed_slot k first) end) ∙ ap in_order (freed_all first) ∙ order_retag unit_freed (stored first) (λ row. ap (λ (p : Place). p.lane) (unit_keeps row).0)

-- ONE SLOT AT A STOP
slot_same : (slots : List (Option Row)) (at : ℕ) (slot : Option Row) → slice_get slots at ≡ Some slot → slots ≡ slice_set slots at slot
slot_same [] zero slot e = absurd cc
slot_same [] (suc at) slot e = absurd cc
slot_same (s ∷ ss) zero slot e = ap (λ (x : Option Row). x ∷ ss) (some_is s slot e)
slot_same (s ∷ ss) (suc at) slot e = ap (λ (xs : List (Option Row)). s ∷ xs) (slot_same ss at slot e)

pub not_kept : (slots : List (Option Row)) (at : ℕ) (slot : Option Row) → slice_get slots at ≡ Some slot → passes slot ≡ false → slots ≡ slice_set slots at (kept_slot slot)
not_kept slots at slot there e = slot_same slots at slot there ∙ ap (λ (b : Bool). slice_set slots at (if b then None else slot)) (sym e)

pub goes_now : (slots more : List (Option Row)) (at : ℕ) (slot : Option Row) → passes slot ≡ true → more ≡ slice_set slots at None → more ≡ slice_set slots at (kept_slot slot)
goes_now slots more at slot e is = is ∙ ap (λ (b : Bool). slice_set slots at (if b then None else slot)) (sym e)

held_by_unit : (o : Option Holder) → is_by_unit o ≡ true → (elim o as (λ h. Bool) [ None ↦ true | Some h ↦ false ]) ≡ false
held_by_unit None e = absurd cc
held_by_unit (Some h) e = refl

pub unit_slot : (slots more : List (Option Row)) (at : ℕ) (slot : Option Row) (free : Row → Type 0) → slice_get slots at ≡ Some slot → in_unit slot ≡ true → ((row : Row) → slice_get slots at ≡ Some (Some row) → free row × (more ≡ slice_set slots at (Some (freed_so true row)))) → more ≡ slice_set slots at (freed_slot slot)
unit_slot slots more at None free there e h = absurd cc
unit_slot slots more at (Some row) free there e h =
    (h row there).1
    ∙ ap (λ (b : Bool). slice_set slots at (Some (if b then row else freed true row))) (held_by_unit row.by e)
    ∙ ap (λ (b : Bool). slice_set slots at (Some (if b then freed true row else row))) (sym e)

pub not_freed : (slots : List (Option Row)) (at : ℕ) (slot : Option Row) → slice_get slots at ≡ Some slot → in_unit slot ≡ false → slots ≡ slice_set slots at (freed_slot slot)
not_freed slots at None there e = slot_same slots at None there
not_freed slots at (Some row) there e = slot_same slots at (Some row) there ∙ ap (λ (b : Bool). slice_set slots at (Some (if b then freed true row else row))) (sym e)
