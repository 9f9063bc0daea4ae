-- Whether a row of an ident stands.
use Rattle.std.proofs.Common.{◌≡◌, Bool, true, false, List, [], ◌∷◌, ◌++◌, Option, Some, None, refl, ap, ◌∙◌}
use Rattle.std.specs.Prelude.{find, map, is_some, ◌||◌, if◌then◌else◌}
use Rattle.std.specs.List.{list_any, flat_map}
use Rattle.mq_queue.specs.declared.row.Row.{Row}
use Rattle.mq_message.specs.declared.message.Ident.{Ident}
use Rattle.mq_calls.specs.declared.image.Shelf.{Shelf}
use Rattle.mq_queue.specs.Rows.{same_ident, has_ident}
use Rattle.mq_queue.proofs.Edits.{same_turned}
use Rattle.mq_spec_network.specs.Ledger.{row_in}

-- Whether there is one.
found_here : (row : Row) (rows : List Row) (t : Bool) (o : Option Row) (later here : Bool) → (is_some o || later) ≡ here → (is_some (if t then Some row else o) || later) ≡ (t || here)
found_here row rows true o later here e = refl
found_here row rows false o later here e = e

found_in : (ident : Ident) (rows : List Row) (later : List Ident) → (is_some (find (has_ident ident) rows) || list_any (same_ident ident) later) ≡ list_any (same_ident ident) (map (λ (r : Row). r.message.ident) rows ++ later)
found_in ident [] later = refl
found_in ident (row ∷ rows) later =
    found_here row rows (has_ident ident row) (find (has_ident ident) rows) (list_any (same_ident ident) later) (list_any (same_ident ident) (map (λ (r : Row). r.message.ident) rows ++ later)) (found_in ident rows later)
    ∙ ap (λ (t : Bool). t || list_any (same_ident ident) (map (λ (r : Row). r.message.ident) rows ++ later)) (same_turned row.message.ident ident)

either : (ident : Ident) (ss : List Shelf) (o : Option Row) → is_some (elim o as (λ r. Option Row) [ None ↦ row_in ident ss | Some row ↦ Some row ]) ≡ (is_some o || is_some (row_in ident ss))
either ident ss None = refl
either ident ss (Some row) = refl

pub placed : (ident : Ident) (ss : List Shelf) → is_some (row_in ident ss) ≡ list_any (same_ident ident) (flat_map (λ (s : Shelf). map (λ (r : Row). r.message.ident) s.rows) ss)
placed ident [] = refl
placed ident (s ∷ ss) =
    either ident ss (find (has_ident ident) s.rows)
    ∙ ap (λ (b : Bool). is_some (find (has_ident ident) s.rows) || b) (placed ident ss)
    ∙ found_in ident s.rows (flat_map (λ (s : Shelf). map (λ (r : Row). r.message.ident) s.rows) ss)
