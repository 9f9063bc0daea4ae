-- Rows that are held, by the idents of which they are told.
use Rattle.std.specs.Prelude.{◌≡◌, ℕ, true, List, [], ◌∷◌, Option, Some, None}
use Rattle.std.specs.List.{AllByRecursion, list_any}
use Rattle.std.specs.Str.{bytes_eq}
use Rattle.indexmap.specs.IndexMap.{IndexMap, get}
use Rattle.mq_message.specs.declared.message.Ident.{Ident}
use Rattle.mq_message.specs.declared.place.Holder.{Holder}
use Rattle.mq_message.specs.declared.place.Holder.TheVariants as holders
use Rattle.mq_queue.specs.declared.row.Row.{Row}
use Rattle.mq_queue.specs.Rows.{same_ident, held_by}
use Rattle.mq_calls.specs.declared.image.Shelf.{Shelf}
use Rattle.mq_calls.specs.State.Which.{Among}
use Rattle.mq_spec_log.specs.Shelves.{on_all, held_rows}
use Rattle.mq_shelves.specs.Racks.{less_held, freed_held}

-- ident after ident
abbrev pub held_each : List ℕ → Holder → List Ident → List Shelf → List Shelf
held_each queue by [] ss = ss
held_each queue by (ident ∷ idents) ss = held_each queue by idents (on_all (held_rows (Among queue (ident ∷ [])) by) ss)

abbrev pub removed_each : Holder → List Ident → List Shelf → List Shelf
removed_each by [] ss = ss
removed_each by (ident ∷ idents) ss = removed_each by idents (on_all (less_held by ident) ss)

abbrev pub freed_each : Holder → List Ident → List Shelf → List Shelf
freed_each by [] ss = ss
freed_each by (ident ∷ idents) ss = freed_each by idents (on_all (freed_held by ident) ss)

-- the idents that are noted for a channel
abbrev pub or_no_idents : Option (List Ident) → List Ident
or_no_idents None = []
or_no_idents (Some idents) = idents

abbrev pub noted_for : {S : Type 0} → IndexMap (List ℕ) (List Ident) S → List ℕ → List Ident
noted_for holds channel = or_no_idents (get bytes_eq holds channel)

-- a row that the batch of a channel holds is noted for it
abbrev pub IsNoted : (List ℕ → List Ident) → Row → Type 0
IsNoted noted row = (channel : List ℕ) → held_by (holders.Batch channel) row.by ≡ true → list_any (same_ident row.message.ident) (noted channel) ≡ true

abbrev pub AreNoted : (List ℕ → List Ident) → List Shelf → Type 0
AreNoted noted ss = AllByRecursion (λ (s : Shelf). AllByRecursion (IsNoted noted) s.rows) ss
