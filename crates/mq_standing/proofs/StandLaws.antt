-- Rows that are gone through one by one, and objects of which the local queues are told.
use Rattle.std.proofs.Common.{◌≡◌, ℕ, ◌+◌, ◌≤◌, List, [], ◌∷◌, ◌++◌, length, refl, sym, ap, ◌∙◌, arith, append_assoc, append-nil}
use Rattle.std.specs.Prelude.{Option, Some, None, find}
use Rattle.mq_message.specs.declared.place.Place.{Place}
use Rattle.mq_queue.specs.declared.row.Row.{Row}
use Rattle.mq_queue.specs.Rows.{is_after}
use Rattle.mq_queue.specs.Queues.{AreInOrder}
use Rattle.mq_objects.specs.declared.object.Object.{Object}
use Rattle.mq_objects.specs.declared.object.Object.TheVariants as objects
use Rattle.mq_objects.specs.Names.{locals_in}
use Rattle.mq_place.specs.States.{rows_after}
use Rattle.mq_place.proofs.AfterLaws.{any_row, first_any, next_after, no_row, row_end, row_here, row_none}

pub all_after : (rows : List Row) → rows_after None rows ≡ rows
all_after [] = refl
all_after (row ∷ rows) = ap (λ (rs : List Row). row ∷ rs) (all_after rows)

walked : (after : Option Place) (rows : List Row) (row : Row) → AreInOrder rows → Some row ≡ find (is_after after) rows → rows_after after rows ≡ row ∷ rows_after (Some row.place) rows
walked after rows row order e =
    let here = row_here any_row after rows row order e refl in
    first_any (rows_after after rows) row here ∙ ap (λ (rs : List Row). row ∷ rs) (sym (next_after any_row after rows row order here))

pub few_after : (rows : List Row) → length (rows_after None rows) + 0 ≤ length rows
few_after rows = let same = ap length (all_after rows) in omega (arith, same)

-- one more, and none is left
pub put_next : (out : List Row) (after : Option Place) (rows : List Row) (row : Row) → AreInOrder rows → Some row ≡ find (is_after after) rows → (out ++ row ∷ []) ++ rows_after (Some row.place) rows ≡ out ++ rows_after after rows
put_next out after rows row order e = append_assoc out (row ∷ []) (rows_after (Some row.place) rows) ∙ ap (λ (rs : List Row). out ++ rs) (sym (walked after rows row order e))

pub put_none : (out : List Row) (after : Option Place) (rows : List Row) → None ≡ find (is_after after) rows → out ≡ out ++ rows_after after rows
put_none out after rows e = sym (ap (λ (rs : List Row). out ++ rs) (no_row (rows_after after rows) (row_none any_row after rows e)) ∙ append-nil out)

pub put_end : (out : List Row) (after : Option Place) (rows : List Row) (n : ℕ) → length (rows_after after rows) + n ≤ length rows → length rows ≤ n → out ≡ out ++ rows_after after rows
put_end out after rows n few all = sym (ap (λ (rs : List Row). out ++ rs) (no_row (rows_after after rows) (row_end any_row after rows n few all)) ∙ append-nil out)

-- the local queues of an object and of those behind it
pub local_next : (object : Object) (rest : List Object) → locals_in (object ∷ rest) ≡ locals_in (object ∷ []) ++ locals_in rest
local_next (objects.Local q) rest = refl
local_next (objects.Alias q) rest = refl
local_next (objects.Remote q) rest = refl
local_next (objects.Channel c) rest = refl
local_next (objects.Process p) rest = refl
