-- Where idents were noted to stand.
use Rattle.std.specs.Prelude.{◌&&◌, not, Bool, true, List, [], ◌∷◌, Option, is_some}
use Rattle.std.specs.List.{list_any}
use Rattle.indexmap.specs.IndexMap.{IndexMap, get}
use Rattle.mq_message.specs.declared.message.Ident.{Ident}
use Rattle.mq_queue.specs.Rows.{same_ident}
use Rattle.mq_shelves.specs.declared.spots.Spot.{Spot}

-- where an ident was noted to stand
abbrev pub spot_of : {S : Type 0} → IndexMap Ident Spot S → Ident → Option Spot
spot_of spots ident = get same_ident spots ident

-- whether an ident was noted at all
abbrev pub is_met : {S : Type 0} → IndexMap Ident Bool S → Ident → Bool
is_met met ident = is_some (get same_ident met ident)

-- no ident is met, and none stands twice
abbrev pub are_new : (Ident → Bool) → List Ident → Bool
are_new met [] = true
are_new met (ident ∷ idents) = (not (met ident) && not (list_any (same_ident ident) idents)) && are_new met idents
