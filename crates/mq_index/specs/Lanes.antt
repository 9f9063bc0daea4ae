-- Rows that are kept in order of arrival, as a queue has them: lane by lane.
use Rattle.std.specs.Prelude.{ℕ, suc, zero, ◌==◌, Bool, List, [], ◌++◌, Option, None, Some, find}
use Rattle.mq_queue.specs.declared.row.Row.{Row}
use Rattle.mq_queue.specs.Rows.{keep}

abbrev pub in_lane : ℕ → Row → Bool
in_lane lane row = row.place.lane == lane

-- those of so many lanes, from one on
abbrev pub lanes_from : (left lane : ℕ) → List Row → List Row
lanes_from zero lane rows = []
lanes_from (suc left) lane rows = keep (in_lane lane) rows ++ lanes_from left (suc lane) rows

-- all ten
abbrev pub in_order : List Row → List Row
in_order rows = lanes_from 10 0 rows

abbrev pub or_later : Option Row → Option Row → Option Row
or_later None later = later
or_later (Some row) later = Some row

-- the first that passes a test, lane by lane
abbrev pub found_from : (Row → Bool) → (left lane : ℕ) → List Row → Option Row
found_from test zero lane rows = None
found_from test (suc left) lane rows = or_later (find test (keep (in_lane lane) rows)) (found_from test left (suc lane) rows)
