-- What a search by an ident answers.
use Rattle.std.proofs.Common.{◌≡◌, ℕ, Bool, true, false, List, [], ◌∷◌, Option, Some, None, refl, sym, ap, ◌∙◌}
use Rattle.std.specs.Prelude.{not, ◌&&◌}
use Rattle.std.specs.Str.{bytes_eq}
use Rattle.std.specs.Map.{lookup}
use Rattle.mq_message.specs.declared.message.Ident.{Ident}
use Rattle.mq_message.specs.declared.place.Holder.{Holder}
use Rattle.mq_queue.specs.declared.row.Row.{Row}
use Rattle.mq_queue.specs.Rows.{has_ident}
use Rattle.mq_calls.specs.declared.image.Shelf.{Shelf}
use Rattle.mq_spec_log.specs.Applies.{has_rows_on}
use Rattle.mq_spec_log.specs.Shelves.{on_all, without_ident}
use Rattle.mq_shelves.specs.declared.rack.Stand.{Stand}
use Rattle.mq_shelves.specs.declared.spots.Spot.{Spot}
use Rattle.mq_shelves.specs.declared.rows.Found.{Found}
use Rattle.mq_shelves.specs.Racks.{shelves_of, row_at, standing, any_row, tagged, rows_of, has_none, or_nothing, AreRacks}
use Rattle.mq_shelves.specs.Found.{passes, IsFound}
use Rattle.mq_shelves.proofs.StandLaws.{and_none}
use Rattle.mq_shelves.proofs.FindLaws.{passes_at, passes_in, found_all, found_on}
use Rattle.mq_shelves.proofs.ChangeLaws.{shelf_there}
use Rattle.mq_shelves.proofs.RackLaws.{not_stood}
use Rattle.mq_shelves.proofs.ViewLaws.{none_gone, none_tagged}

and_all : (b : Bool) → (b && true) ≡ b
and_all true = refl
and_all false = refl

module _ (spot : Ident → Option Spot) (next : ℕ) (ident : Ident) (rs : List (List ℕ × List (Stand × Row))) (racks : AreRacks spot next rs) where
  is_found : (o : Option Found) → ((test : List ℕ → Row → Bool) → passes_in test ident rs (spot ident) ≡ passes test o) → IsFound ident (shelves_of rs) o
  is_found o same = record {
    any = λ test. found_all spot next ident test rs racks.each racks.named ∙ same test;
    on = λ test name. found_on spot next ident test name rs racks.each ∙ same (λ n row. bytes_eq n name && test row);
  }

  pub not_noted : spot ident ≡ None → IsFound ident (shelves_of rs) None
  not_noted e = is_found None (λ test. ap (passes_in test ident rs) e)

  module _ (sp : Spot) (e : spot ident ≡ Some sp) where
    pub not_there : row_at rs sp ≡ None → IsFound ident (shelves_of rs) None
    not_there f = is_found None (λ test. ap (passes_in test ident rs) e ∙ ap (passes_at test ident sp.queue) f)

    pub another : (row : Row) → row_at rs sp ≡ Some row → has_ident ident row ≡ false → IsFound ident (shelves_of rs) None
    another row f h = is_found None (λ test. ap (passes_in test ident rs) e ∙ ap (passes_at test ident sp.queue) f ∙ ap (λ (b : Bool). test sp.queue row && b) h ∙ and_none (test sp.queue row))

    pub its_row : (row : Row) (found : Found) → found.queue ≡ sp.queue → found.row.now ≡ row → row_at rs sp ≡ Some row → has_ident ident row ≡ true → IsFound ident (shelves_of rs) (Some found)
    its_row row found q r f h = is_found (Some found) (λ test. ap (passes_in test ident rs) e ∙ ap (passes_at test ident sp.queue) f ∙ ap (λ (b : Bool). test sp.queue row && b) h ∙ and_all (test sp.queue row)
        ∙ ap (λ (n : List ℕ). test n row) (sym q) ∙ ap (test found.queue) (sym r))

  -- no row has the ident where none stands
  pub none_stands : standing rs ident (spot ident) ≡ None → any_row (λ n row. true) ident (shelves_of rs) ≡ false
  none_stands e = found_all spot next ident (λ n row. true) rs racks.each racks.named ∙ not_stood rs ident (λ n row. true) (spot ident) e

  pub nothing_gone : standing rs ident (spot ident) ≡ None → shelves_of rs ≡ on_all (without_ident ident) (shelves_of rs)
  nothing_gone e = sym (none_gone ident (shelves_of rs) (none_stands e))

  pub nothing_tagged : (by : Option Holder) → standing rs ident (spot ident) ≡ None → shelves_of rs ≡ on_all (tagged ident by) (shelves_of rs)
  nothing_tagged by e = sym (none_tagged ident (shelves_of rs) by (none_stands e))

-- whether a queue that may not be there has a row
abbrev pub fills : Option (List (Stand × Row)) → Bool
fills None = false
fills (Some es) = not (has_none es)

abbrev some_row : List Row → Bool
some_row rows = elim rows as (λ r. Bool) [ [] ↦ false | row ∷ rows ↦ true ]

pub rows_on : (name : List ℕ) (rs : List (List ℕ × List (Stand × Row))) (o : Option (List (Stand × Row))) → o ≡ lookup (bytes_eq name) rs → fills o ≡ has_rows_on name (shelves_of rs)
rows_on name rs o e = by o ∙ ap (λ (x : Option (List (Stand × Row))). some_row (rows_of (or_nothing x))) e ∙ sym (ap (λ (s : Shelf). some_row s.rows) (shelf_there name rs))
  where
    by : (o : Option (List (Stand × Row))) → fills o ≡ some_row (rows_of (or_nothing o))
    by None = refl
    by (Some []) = refl
    by (Some (e ∷ es)) = refl
