-- The managers of a network, and a ledger, as the laws see them.
use Rattle.std.specs.Prelude.{ℕ, Bool, false, List, [], Option, Some, None, is_some, slice_get}
use Rattle.mq_message.specs.declared.message.Ident.{Ident}
use Rattle.mq_queue.specs.declared.row.Row.{Row}
use Rattle.mq_sync.specs.declared.unit.Unit.{Unit as Luw}
use Rattle.mq_sync.specs.declared.data.InDoubt.{InDoubt}
use Rattle.mq_sync.specs.Units.{no_unit}
use Rattle.mq_calls.specs.declared.state.Item.{Item}
use Rattle.mq_calls.specs.declared.state.Batch.{Batch}
use Rattle.mq_law_rows.specs.from_history.{Scenario}
use Rattle.mq_calls.specs.State.{Plain}
use Rattle.mq_calls.specs.Reads.{stored, connection_at, sender_data, in_doubt_of, batch_of}
use Rattle.mq_law_rows.specs.from_spec_network.Ledger.{Ledger, ledger_rows, users_at, unit_of}
use Rattle.mq_law_rows.specs.from_spec_network.Standing.{last_unit, cable_from}
use Rattle.mq_law_rows.specs.World.{World, Book}

abbrev pub rows_of : List ℕ → Option Plain → List Row
rows_of q None = []
rows_of q (Some p) = (stored q p).rows

abbrev pub units_of : ℕ → Option Plain → List Item
units_of k None = []
units_of k (Some p) = unit_of (connection_at k p.connections)

-- the unit that a sender holds: the one in doubt, or the batch that is not prepared
abbrev pub held_unit : Option InDoubt → Option Batch → Option Luw
held_unit (Some d) b = Some d.unit
held_unit None (Some b) = Some b.unit
held_unit None None = None

abbrev pub holds_of : List ℕ → Option Plain → Option Luw
holds_of c None = None
holds_of c (Some p) = held_unit (in_doubt_of (sender_data c p)) (batch_of c p.channels.batches)

abbrev pub doubt_of : List ℕ → Option Plain → Bool
doubt_of c None = false
doubt_of c (Some p) = is_some (in_doubt_of (sender_data c p))

abbrev pub last_of : Scenario → List Plain → List ℕ → Option Plain → Luw
last_of s ps c None = no_unit
last_of s ps c (Some p) = last_unit ps c (cable_from p.given.number c s.cables)

abbrev pub world_of : Scenario → (Ident → Bool) → List Plain → World
world_of s given ps = record {
  rows = λ m q. rows_of q (slice_get ps m);
  units = λ m k. units_of k (slice_get ps m);
  given = given;
  holds = λ m c. holds_of c (slice_get ps m);
  doubt = λ m c. doubt_of c (slice_get ps m);
  last = λ m c. last_of s ps c (slice_get ps m);
}

abbrev pub book_of : Ledger → Book
book_of l = record {
  rows = λ m q. ledger_rows m q l;
  units = λ m k. unit_of (connection_at k (users_at m l).connections);
  gone = l.gone;
  got = l.got;
}
