-- The first settlement of a story that is not borne out, entry by entry.
use Rattle.std.proofs.Common.{ℕ, zero, suc, ◌≡◌, ◌≤◌, List, [], ◌∷◌, ◌++◌, Option, None, Some, refl, ap, sym, ◌∙◌, arith, length}
use Rattle.std.specs.Prelude.{slice_get}
use Rattle.std.specs.Option.{option_or as or_else}
use Rattle.mq_calls.specs.declared.deltas.Did.{Did}
use Rattle.mq_history.specs.declared.calls.Entry.{Entry}
use Rattle.mq_history.specs.declared.history.History.{History}
use Rattle.mq_history.specs.declared.scenario.Scenario.{Scenario}
use Rattle.mq_history.specs.declared.story.Conflict.{Conflict}
use Rattle.mq_calls.specs.State.{Plain}
use Rattle.mq_spec_network.specs.Standing.{opening_managers}
use Rattle.mq_spec_network.specs.Conflict.{Deed, deeds_in, deeds, conflict_did, conflict_in, first_conflict}
use Rattle.mq_story.specs.declared.merging.Spot.{Spot}
use Rattle.mq_story.specs.Spots.{entry_in, entry_of, line_if, line_at, lines_of}
use Rattle.mq_net_conflict.specs.Told.{first_in, first_of}
use Rattle.mq_net_conflict.proofs.ToldLaws.{deeds_entry, deeds_append}

first_deeds : (s : Scenario) (ps : List Plain) (whole : List Deed) (m : ℕ) (ds : List Did) → first_conflict s ps whole (deeds_in m ds) ≡ first_in s ps whole m ds
first_deeds s ps whole m [] = refl
first_deeds s ps whole m (d ∷ ds) = ap (λ (c : Option Conflict). or_else (conflict_did s ps whole m d) c) (first_deeds s ps whole m ds)

pub first_none : (s : Scenario) (ps : List Plain) (whole : List Deed) (hs : List History) (spot : Spot) → entry_of hs spot ≡ None → first_conflict s ps whole (deeds (line_at hs spot)) ≡ None
first_none s ps whole hs spot none = ap (λ (o : Option Entry). first_conflict s ps whole (deeds (line_if spot.manager o))) none

pub first_entry : (s : Scenario) (ps : List Plain) (whole : List Deed) (hs : List History) (spot : Spot) (e : Entry) → entry_of hs spot ≡ Some e → first_conflict s ps whole (deeds (line_at hs spot)) ≡ first_in s ps whole spot.manager e.effect.delta
first_entry s ps whole hs spot e some =
    ap (λ (o : Option Entry). first_conflict s ps whole (deeds (line_if spot.manager o))) some
    ∙ ap (first_conflict s ps whole) (deeds_entry spot.manager e)
    ∙ first_deeds s ps whole spot.manager e.effect.delta

far : (hs : List History) (m : ℕ) → length hs ≤ m → slice_get hs m ≡ None
far [] zero l = refl
far [] (suc m) l = refl
far (h ∷ hs) zero l = absurd (omega arith)
far (h ∷ hs) (suc m) l = far hs m (omega arith)

-- no history stands so far
pub first_far : (s : Scenario) (ps : List Plain) (whole : List Deed) (hs : List History) (spot : Spot) → length hs ≤ spot.manager → first_conflict s ps whole (deeds (line_at hs spot)) ≡ None
first_far s ps whole hs spot l = first_none s ps whole hs spot (ap (λ (o : Option History). entry_in o spot.at) (far hs spot.manager l))

or_append : (s : Scenario) (ps : List Plain) (whole : List Deed) (d : Option Conflict) (a b : Option Conflict) → or_else d (or_else a b) ≡ or_else (or_else d a) b
or_append s ps whole None a b = refl
or_append s ps whole (Some c) a b = refl

first_append : (s : Scenario) (ps : List Plain) (whole xs ys : List Deed) → first_conflict s ps whole (xs ++ ys) ≡ or_else (first_conflict s ps whole xs) (first_conflict s ps whole ys)
first_append s ps whole [] ys = refl
first_append s ps whole (x ∷ xs) ys =
    ap (λ (c : Option Conflict). or_else (conflict_in s ps whole x) c) (first_append s ps whole xs ys)
    ∙ or_append s ps whole (conflict_in s ps whole x) (first_conflict s ps whole xs) (first_conflict s ps whole ys)

pub first_lines : (s : Scenario) (hs : List History) (whole : List Deed) (spots : List Spot) → first_of s hs whole spots ≡ first_conflict s (opening_managers s hs) whole (deeds (lines_of hs spots))
first_lines s hs whole [] = refl
first_lines s hs whole (x ∷ xs) =
    ap (λ (c : Option Conflict). or_else (first_conflict s (opening_managers s hs) whole (deeds (line_at hs x))) c) (first_lines s hs whole xs)
    ∙ sym (first_append s (opening_managers s hs) whole (deeds (line_at hs x)) (deeds (lines_of hs xs)))
    ∙ ap (first_conflict s (opening_managers s hs) whole) (sym (deeds_append (line_at hs x) (lines_of hs xs)))
