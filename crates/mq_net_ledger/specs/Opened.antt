-- How the ledger of a story begins: the rows of the logs that count where they stand.
use Rattle.std.specs.Prelude.{ℕ, ◌+◌, ◌≤◌, Bool, true, false, List, [], ◌∷◌, ◌++◌, None, All, map}
use Rattle.mq_queue.specs.declared.row.Row.{Row}
use Rattle.mq_calls.specs.declared.image.Shelf.{Shelf}
use Rattle.mq_history.specs.declared.history.History.{History}
use Rattle.mq_history.specs.declared.scenario.Scenario.{Scenario}
use Rattle.mq_history.specs.declared.story.ManagerPlaces.{ManagerPlaces}
use Rattle.mq_calls.specs.State.{Plain}
use Rattle.mq_calls.specs.Recovery.{IsImage}
use Rattle.mq_spec_manager.specs.Stops.{last_moment}
use Rattle.mq_spec_network.specs.Given.{name_at}
use Rattle.mq_spec_network.specs.Ledger.{Users}
use Rattle.mq_net_apart.specs.Opened.{opened_held}

-- a row of a log, numbered by its place on its queue, if it counts here
abbrev pub row_if : Bool → ℕ → Row → List Row
row_if true n row = []
row_if false n row = record row { place = record row.place { arrival = n + 1 } } ∷ []

abbrev pub opened_rows : Scenario → List Plain → ℕ → History → ℕ → List Row → List Row
opened_rows s ps number h n [] = []
opened_rows s ps number h n (row ∷ rows) = row_if (opened_held s ps number h row.by) n row ++ opened_rows s ps number h (n + 1) rows

abbrev pub opened_shelf : Scenario → List Plain → ℕ → History → Shelf → Shelf
opened_shelf s ps number h shelf = record { name = shelf.name; rows = opened_rows s ps number h 0 shelf.rows }

-- the manager at a place
abbrev pub opened_place : Scenario → List Plain → ℕ → History → ManagerPlaces
opened_place s ps m h = record {
  name = name_at s m;
  definitions = h.opening.definitions;
  queues = map (opened_shelf s ps (m + 1) h) h.opening.shelves;
}

abbrev pub opened_places : Scenario → List Plain → ℕ → List History → List ManagerPlaces
opened_places s ps m [] = []
opened_places s ps m (h ∷ hs) = opened_place s ps m h ∷ opened_places s ps (m + 1) hs

abbrev pub opened_user : History → Users
opened_user h = record { moment = h.moment; connections = []; cut = None }

-- What this asks of the histories: each opening is an image of a log, and began at a moment that a clock shows.
pub record IsOpened (h : History) : Type 0 where
  pub image : IsImage h.opening
  pub moment : h.moment ≤ last_moment

abbrev pub AreOpened : List History → Type 0
AreOpened hs = All IsOpened hs
