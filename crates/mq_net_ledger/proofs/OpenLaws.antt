-- The ledger begins with the rows of the logs that count where they stand.
use Rattle.std.proofs.Common.{ℕ, suc, ◌≡◌, ◌+◌, ◌≤◌, Bool, true, false, List, [], ◌∷◌, ◌++◌, None, refl, ap, sym, ◌∙◌, arith}
use Rattle.std.specs.Prelude.{AllPairs, map, not, if◌then◌else◌}
use Rattle.std.specs.List.{list_any, AllByRecursion}
use Rattle.std.proofs.lemmas.List.Elements.{recursion_from_All}
use Rattle.mq_message.specs.declared.place.Holder.TheVariants as holders
use Rattle.mq_queue.specs.declared.row.Row.{Row}
use Rattle.mq_objects.specs.declared.object.Object.{Object}
use Rattle.mq_objects.specs.Names.{is_object, space_of, name_of}
use Rattle.mq_calls.specs.declared.image.Shelf.{Shelf}
use Rattle.mq_history.specs.declared.history.History.{History}
use Rattle.mq_history.specs.declared.scenario.Scenario.{Scenario}
use Rattle.mq_history.specs.declared.story.ManagerPlaces.{ManagerPlaces}
use Rattle.mq_calls.specs.State.{Plain}
use Rattle.mq_calls.specs.Recovery.{IsShelf}
use Rattle.mq_calls.specs.Images.{numbered, queue_on}
use Rattle.mq_spec_network.specs.Ledger.{Ledger, Users}
use Rattle.mq_spec_network.specs.Standing.{node_after, managers_from, opening_managers, is_held_there, standing_in, stored_standing, places_of, opening_ledger}
use Rattle.mq_net_apart.specs.Opened.{opened_held}
use Rattle.mq_net_apart.specs.from_net_rows.Stored.{AreFrom, AreInLanes, AreSorted}
use Rattle.mq_net_books.specs.Openings.{AreNewFrom}
use Rattle.mq_net_ledger.specs.Opened.{row_if, opened_rows, opened_shelf, opened_place, opened_places, opened_user, IsOpened}
use Rattle.mq_rebuild.proofs.FrontLaws.{Fronts, fronts}
use Rattle.mq_rebuild.proofs.ObjectLaws.{Differ, other_way}
use Rattle.mq_net_apart.proofs.RowLaws.{held_is}

-- Objects of an image: no one has the name of one before it.
none_before : (x : Object) (before : List Object) → AllByRecursion (λ (a : Object). Differ a x) before → list_any (is_object (space_of x) (name_of x)) before ≡ false
none_before x [] h = refl
none_before x (a ∷ before) h = rw (other_way a x h.0) (none_before x before h.1)

new_from : (before xs : List Object) → Fronts Differ before xs → AreNewFrom before xs
new_from before [] h = tt
new_from before (x ∷ xs) h = (none_before x before h.0, new_from (before ++ x ∷ []) xs h.1)

pub are_new : (h : History) → IsOpened h → AreNewFrom [] h.opening.definitions.objects
are_new h o = new_from [] h.opening.definitions.objects (fronts Differ h.opening.definitions.objects o.image.once)

-- They stand in order of their lanes.
abbrev LaneOrder : Row → Row → Type 0
LaneOrder x y = x.place.lane ≤ y.place.lane

from_rows : (s : Scenario) (ps : List Plain) (m : ℕ) (h : History) (lane n : ℕ) (rows : List Row) → AllByRecursion (λ (y : Row). lane ≤ y.place.lane) rows → AreFrom lane (opened_rows s ps m h n rows)
from_rows s ps m h lane n [] a = tt
from_rows s ps m h lane n (row ∷ rows) a = by (opened_held s ps m h row.by) (from_rows s ps m h lane (n + 1) rows a.1)
  where
    by : (held : Bool) → AreFrom lane (opened_rows s ps m h (n + 1) rows) → AreFrom lane (row_if held n row ++ opened_rows s ps m h (n + 1) rows)
    by true rest = rest
    by false rest = (a.0, rest)

sorted_rows : (s : Scenario) (ps : List Plain) (m : ℕ) (h : History) (n : ℕ) (rows : List Row) → AllPairs LaneOrder rows → AreInLanes (opened_rows s ps m h n rows)
sorted_rows s ps m h n [] a = tt
sorted_rows s ps m h n (row ∷ rows) a = by (opened_held s ps m h row.by) (sorted_rows s ps m h (n + 1) rows (λ i j d lt within. a (suc i) (suc j) d (omega (arith, lt)) (omega (arith, within))))
  where
    behind : AllByRecursion (λ (y : Row). row.place.lane ≤ y.place.lane) rows
    behind = recursion_from_All (LaneOrder row) rows (λ k d lt. a 0 (suc k) d (omega arith) (omega (arith, lt)))

    by : (held : Bool) → AreInLanes (opened_rows s ps m h (n + 1) rows) → AreInLanes (row_if held n row ++ opened_rows s ps m h (n + 1) rows)
    by true rest = rest
    by false rest = (from_rows s ps m h row.place.lane (n + 1) rows behind, rest)

sorted_shelves : (s : Scenario) (ps : List Plain) (m : ℕ) (h : History) (shelves : List Shelf) → AllByRecursion (IsShelf h.opening) shelves → AreSorted (map (opened_shelf s ps m h) shelves)
sorted_shelves s ps m h [] a = tt
sorted_shelves s ps m h (x ∷ xs) a = (sorted_rows s ps m h 0 x.rows a.0.sorted, sorted_shelves s ps m h xs a.1)

pub are_sorted : (s : Scenario) (ps : List Plain) (m : ℕ) (h : History) → IsOpened h → AreSorted (map (opened_shelf s ps m h) h.opening.shelves)
are_sorted s ps m h o = sorted_shelves s ps m h h.opening.shelves (recursion_from_All (IsShelf h.opening) h.opening.shelves o.image.rows)

-- The rows of a queue that count.
abbrev plain_at : Scenario → ℕ → History → Plain
plain_at s m h = (node_after s m [] h).manager

kept_if : (held : Bool) (n : ℕ) (row : Row) (kept rows : List Row) → kept ≡ rows → (if not held then record row { place = record row.place { arrival = n + 1 } } ∷ kept else kept) ≡ row_if held n row ++ rows
kept_if true n row kept rows e = e
kept_if false n row kept rows e = ap (λ (l : List Row). record row { place = record row.place { arrival = n + 1 } } ∷ l) e

rows_opened : (s : Scenario) (ps : List Plain) (m : ℕ) (h : History) (n : ℕ) (rows : List Row) → standing_in s ps (plain_at s m h) (numbered n rows) ≡ opened_rows s ps (m + 1) h n rows
rows_opened s ps m h n [] = refl
rows_opened s ps m h n (row ∷ rows) =
    kept_if (is_held_there s ps (plain_at s m h) row.by) n row (standing_in s ps (plain_at s m h) (numbered (n + 1) rows)) (opened_rows s ps (m + 1) h (n + 1) rows) (rows_opened s ps m h (n + 1) rows)
    ∙ ap (λ (held : Bool). row_if held n row ++ opened_rows s ps (m + 1) h (n + 1) rows) (held_is s ps m h row.by)

shelves_opened : (s : Scenario) (ps : List Plain) (m : ℕ) (h : History) (shelves : List Shelf) → map (stored_standing s ps (plain_at s m h)) (map queue_on shelves) ≡ map (opened_shelf s ps (m + 1) h) shelves
shelves_opened s ps m h [] = refl
shelves_opened s ps m h (x ∷ xs) =
    ap (λ (rows : List Row). let shelf : Shelf = record { name = x.name; rows = rows } in shelf ∷ map (stored_standing s ps (plain_at s m h)) (map queue_on xs)) (rows_opened s ps m h 0 x.rows)
    ∙ ap (λ (l : List Shelf). opened_shelf s ps (m + 1) h x ∷ l) (shelves_opened s ps m h xs)

place_opened : (s : Scenario) (ps : List Plain) (m : ℕ) (h : History) → places_of s ps (plain_at s m h) ≡ opened_place s ps m h
place_opened s ps m h = ap (λ (l : List Shelf). let p : ManagerPlaces = record { name = (opened_place s ps m h).name; definitions = h.opening.definitions; queues = l } in p) (shelves_opened s ps m h h.opening.shelves)

one_more : (m : ℕ) → suc m ≡ m + 1
one_more m = omega arith

places_opened : (s : Scenario) (ps : List Plain) (m : ℕ) (hs : List History) → map (places_of s ps) (managers_from s m [] hs) ≡ opened_places s ps m hs
places_opened s ps m [] = refl
places_opened s ps m (h ∷ hs) =
    ap (λ (p : ManagerPlaces). p ∷ map (places_of s ps) (managers_from s (suc m) [] hs)) (place_opened s ps m h)
    ∙ ap (λ (l : List ManagerPlaces). opened_place s ps m h ∷ l) (places_opened s ps (suc m) hs ∙ ap (λ (n : ℕ). opened_places s ps n hs) (one_more m))

users_opened : (s : Scenario) (m : ℕ) (hs : List History) → map (λ (p : Plain). let u : Users = record { moment = p.moment; connections = []; cut = None } in u) (managers_from s m [] hs) ≡ map opened_user hs
users_opened s m [] = refl
users_opened s m (h ∷ hs) = ap (λ (l : List Users). opened_user h ∷ l) (users_opened s (suc m) hs)

abbrev with_lists : List ManagerPlaces → List Users → Ledger
with_lists places users = record { places = places; users = users; gone = []; got = [] }

pub opened_is : (s : Scenario) (hs : List History) → with_lists (opened_places s (opening_managers s hs) 0 hs) (map opened_user hs) ≡ opening_ledger s hs
opened_is s hs =
    ap (λ (l : List ManagerPlaces). with_lists l (map opened_user hs)) (sym (places_opened s (opening_managers s hs) 0 hs))
    ∙ ap (λ (l : List Users). with_lists (map (places_of s (opening_managers s hs)) (opening_managers s hs)) l) (sym (users_opened s 0 hs))
