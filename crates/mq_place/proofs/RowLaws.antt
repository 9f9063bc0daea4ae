-- Rows that are held, freed or taken out one after another are those that the changes of a manager mean.
use Rattle.std.proofs.Common.{◌≡◌, ℕ, Bool, true, false, cond, List, [], ◌∷◌, refl, sym, ap, ◌∙◌, arith}
use Rattle.std.specs.Prelude.{Option, Some, None, not, ◌&&◌, ◌||◌}
use Rattle.std.specs.List.{list_any}
use Rattle.std.specs.Str.{bytes_eq}
use Rattle.mq_message.specs.declared.message.Ident.{Ident}
use Rattle.mq_message.specs.declared.place.Holder.{Holder}
use Rattle.mq_message.specs.declared.place.Holder.TheVariants as holders
use Rattle.mq_queue.specs.declared.row.Row.{Row}
use Rattle.mq_queue.specs.Rows.{same_ident, is_free, is_persistent, keep, retag}
use Rattle.mq_queue.specs.Queues.{hold_row, release_row, freed, has_other_ident, is_lasting, unit_freed}
use Rattle.mq_queue.proofs.QueueLaws.{keep_same, retag_same}
use Rattle.mq_calls.specs.State.Which.{Among, HeldByUnits, Nonpersistent}
use Rattle.mq_calls.specs.Changes.{selects, retag_if, release_if}
use Rattle.mq_place.specs.States.{hold_each, release_each, remove_each}
use Rattle.mq_place.proofs.NameLaws.{name_self}

retag_twice : (f g h : Row → Row) → ((row : Row) → g (f row) ≡ h row) → (rows : List Row) → retag g (retag f rows) ≡ retag h rows
retag_twice f g h e [] = refl
retag_twice f g h e (row ∷ rows) = let first = e row in let rest = retag_twice f g h e rows in λ i. first i ∷ rest i

keep_next : (g : Row → Bool) (row : Row) (rows kept : List Row) (a b : Bool) → g row ≡ b → keep g rows ≡ kept → keep g (cond a (row ∷ rows) rows) ≡ cond (a && b) (row ∷ kept) kept
keep_next g row rows kept true b e k = λ i. cond (e i) (row ∷ k i) (k i)
keep_next g row rows kept false b e k = k

pub keep_twice : (f g h : Row → Bool) → ((row : Row) → (f row && g row) ≡ h row) → (rows : List Row) → keep g (keep f rows) ≡ keep h rows
keep_twice f g h e [] = refl
keep_twice f g h e (row ∷ rows) =
    keep_next g row (keep f rows) (keep h rows) (f row) (g row) refl (keep_twice f g h e rows) ∙ (λ i. cond (e row i) (row ∷ keep h rows) (keep h rows))

-- the row has one of the idents
abbrev pub is_among : List Ident → Row → Bool
is_among idents row = list_any (same_ident row.message.ident) idents

-- Holding.

abbrev pub hold_any : List Ident → Holder → Row → Row
hold_any idents by row = retag_if (is_among idents row && is_free row) (Some by) row

hold_none : (by : Holder) (rows : List Row) → rows ≡ retag (hold_any [] by) rows
hold_none by [] = refl
hold_none by (row ∷ rows) = ap (λ (rs : List Row). row ∷ rs) (hold_none by rows)

hold_next : (ident : Ident) (idents : List Ident) (by : Holder) (row : Row) → hold_any idents by (hold_row ident by row) ≡ hold_any (ident ∷ idents) by row
hold_next ident idents by row = at (same_ident row.message.ident ident) (is_free row) refl
  where
    other : (a f : Bool) → (a && f) ≡ false → (b : Bool) → retag_if (b && f) (Some by) row ≡ retag_if ((a || b) && f) (Some by) row
    other true true e b = absurd cc
    other true false e true = refl
    other true false e false = refl
    other false f e b = refl

    none : (b : Bool) → retag_if (b && false) (Some by) (record row { by = Some by }) ≡ record row { by = Some by }
    none true = refl
    none false = refl

    at : (a f : Bool) → is_free row ≡ f → hold_any idents by (cond (a && f) (record row { by = Some by }) row) ≡ retag_if ((a || is_among idents row) && f) (Some by) row
    at true true e = none (is_among idents row)
    at true false e = (λ i. retag_if (is_among idents row && e i) (Some by) row) ∙ other true false refl (is_among idents row)
    at false true e = (λ i. retag_if (is_among idents row && e i) (Some by) row)
    at false false e = (λ i. retag_if (is_among idents row && e i) (Some by) row)

pub held_each : (idents : List Ident) (by : Holder) (rows : List Row) → hold_each idents by rows ≡ retag (hold_any idents by) rows
held_each [] by rows = hold_none by rows
held_each (ident ∷ idents) by rows =
    held_each idents by (retag (hold_row ident by) rows) ∙ retag_twice (hold_row ident by) (hold_any idents by) (hold_any (ident ∷ idents) by) (hold_next ident idents by) rows

-- on the queue of that name
pub held_among : (name : List ℕ) (idents : List Ident) (by : Holder) (rows : List Row)
    → hold_each idents by rows ≡ retag (λ (row : Row). retag_if (selects (Among name idents) name row && is_free row) (Some by) row) rows
held_among name idents by rows =
    held_each idents by rows
    ∙ retag_same _ _ (λ (row : Row). ap (λ (b : Bool). retag_if ((b && is_among idents row) && is_free row) (Some by) row) (sym (name_self name))) rows

-- Releasing.

abbrev pub release_any : List Ident → Bool → Row → Row
release_any idents counted row = release_if (is_among idents row && not (is_free row)) counted row

release_none : (counted : Bool) (rows : List Row) → rows ≡ retag (release_any [] counted) rows
release_none counted [] = refl
release_none counted (row ∷ rows) = ap (λ (rs : List Row). row ∷ rs) (release_none counted rows)

release_next : (ident : Ident) (idents : List Ident) (counted : Bool) (row : Row) → release_any idents counted (release_row ident counted row) ≡ release_any (ident ∷ idents) counted row
release_next ident idents counted row = at (same_ident row.message.ident ident) (is_free row) refl
  where
    none : (b : Bool) → release_if (b && false) counted (freed counted row) ≡ freed counted row
    none true = refl
    none false = refl

    at : (a f : Bool) → is_free row ≡ f → release_any idents counted (cond (a && not f) (freed counted row) row) ≡ release_if ((a || is_among idents row) && not f) counted row
    at true true e = (λ i. release_if (is_among idents row && not (e i)) counted row) ∙ both (is_among idents row)
      where
        both : (b : Bool) → release_if (b && false) counted row ≡ release_if false counted row
        both true = refl
        both false = refl
    at true false e = none (is_among idents (freed counted row))
    at false true e = (λ i. release_if (is_among idents row && not (e i)) counted row)
    at false false e = (λ i. release_if (is_among idents row && not (e i)) counted row)

pub released_each : (idents : List Ident) (counted : Bool) (rows : List Row) → release_each idents counted rows ≡ retag (release_any idents counted) rows
released_each [] counted rows = release_none counted rows
released_each (ident ∷ idents) counted rows =
    released_each idents counted (retag (release_row ident counted) rows)
    ∙ retag_twice (release_row ident counted) (release_any idents counted) (release_any (ident ∷ idents) counted) (release_next ident idents counted) rows

pub released_among : (name : List ℕ) (idents : List Ident) (counted : Bool) (rows : List Row)
    → release_each idents counted rows ≡ retag (λ (row : Row). release_if (selects (Among name idents) name row && not (is_free row)) counted row) rows
released_among name idents counted rows =
    released_each idents counted rows
    ∙ retag_same _ _ (λ (row : Row). ap (λ (b : Bool). release_if ((b && is_among idents row) && not (is_free row)) counted row) (sym (name_self name))) rows

-- Taking out.

keep_all : (rows : List Row) → rows ≡ keep (λ (row : Row). not (is_among [] row)) rows
keep_all [] = refl
keep_all (row ∷ rows) = ap (λ (rs : List Row). row ∷ rs) (keep_all rows)

neither : (a b : Bool) → (not a && not b) ≡ not (a || b)
neither true b = refl
neither false b = refl

pub removed_each : (idents : List Ident) (rows : List Row) → remove_each idents rows ≡ keep (λ (row : Row). not (is_among idents row)) rows
removed_each [] rows = keep_all rows
removed_each (ident ∷ idents) rows =
    removed_each idents (keep (has_other_ident ident) rows)
    ∙ keep_twice (has_other_ident ident) (λ (row : Row). not (is_among idents row)) (λ (row : Row). not (is_among (ident ∷ idents) row))
    (λ (row : Row). neither (same_ident row.message.ident ident) (is_among idents row)) rows

pub removed_among : (name : List ℕ) (idents : List Ident) (rows : List Row) → remove_each idents rows ≡ keep (λ (row : Row). not (selects (Among name idents) name row)) rows
removed_among name idents rows =
    removed_each idents rows ∙ keep_same _ _ (λ (row : Row). ap (λ (b : Bool). not (b && is_among idents row)) (sym (name_self name))) rows

-- The rows of a queue of another name stay as they are.

pub retag_same_rows : (f : Row → Row) → ((row : Row) → f row ≡ row) → (rows : List Row) → retag f rows ≡ rows
retag_same_rows f e [] = refl
retag_same_rows f e (row ∷ rows) = let first = e row in let rest = retag_same_rows f e rows in λ i. first i ∷ rest i

pub keep_same_rows : (f : Row → Bool) → ((row : Row) → f row ≡ true) → (rows : List Row) → keep f rows ≡ rows
keep_same_rows f e [] = refl
keep_same_rows f e (row ∷ rows) = let first = e row in let rest = keep_same_rows f e rows in λ i. cond (first i) (row ∷ rest i) (rest i)

pub held_other : (queue name : List ℕ) (idents : List Ident) (by : Holder) → bytes_eq name queue ≡ false → (rows : List Row)
    → retag (λ (row : Row). retag_if (selects (Among queue idents) name row && is_free row) (Some by) row) rows ≡ rows
held_other queue name idents by e rows = retag_same_rows _ (λ (row : Row). ap (λ (b : Bool). retag_if ((b && is_among idents row) && is_free row) (Some by) row) e) rows

pub released_other : (queue name : List ℕ) (idents : List Ident) (counted : Bool) → bytes_eq name queue ≡ false → (rows : List Row)
    → retag (λ (row : Row). release_if (selects (Among queue idents) name row && not (is_free row)) counted row) rows ≡ rows
released_other queue name idents counted e rows =
    retag_same_rows _ (λ (row : Row). ap (λ (b : Bool). release_if ((b && is_among idents row) && not (is_free row)) counted row) e) rows

pub kept_other : (queue name : List ℕ) (idents : List Ident) → bytes_eq name queue ≡ false → (rows : List Row)
    → keep (λ (row : Row). not (selects (Among queue idents) name row)) rows ≡ rows
kept_other queue name idents e rows = keep_same_rows _ (λ (row : Row). ap (λ (b : Bool). not (b && is_among idents row)) e) rows

-- What a stop does.

twice_not : (b : Bool) → b ≡ not (not b)
twice_not true = refl
twice_not false = refl

pub lasting_kept : (name : List ℕ) (rows : List Row) → keep is_lasting rows ≡ keep (λ (row : Row). not (selects Nonpersistent name row)) rows
lasting_kept name rows = keep_same _ _ (λ (row : Row). twice_not (is_persistent row.message)) rows

unit_row : (row : Row) → unit_freed row ≡ release_if (selects HeldByUnits [] row && not (is_free row)) true row
unit_row row = at row.by refl
  where
    at : (o : Option Holder) → row.by ≡ o → unit_freed row ≡ release_if (selects HeldByUnits [] row && not (is_free row)) true row
    at None e = grind (arith, e)
    at (Some (holders.Unit n)) e = grind (arith, e)
    at (Some (holders.Batch c)) e = grind (arith, e)

pub units_freed : (name : List ℕ) (rows : List Row) → retag unit_freed rows ≡ retag (λ (row : Row). release_if (selects HeldByUnits name row && not (is_free row)) true row) rows
units_freed name rows = retag_same _ _ unit_row rows
