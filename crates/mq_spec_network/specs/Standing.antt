-- The standing rows of a network: the committed rows of each queue, less those of a batch whose receiver has them.
use Rattle.std.specs.Prelude.{ℕ, ◌+◌, ◌==◌, ◌&&◌, pos, Bool, false, not, List, [], ◌∷◌, if◌then◌else◌, Option, Some, None, map, slice_get, suc}
use Rattle.std.specs.Str.{bytes_eq}
use Rattle.mq_spec_network.specs.Terms.{Holder, Row, keep, Luw, InDoubt, ReceiverData, no_unit, same_unit, CableLine, Scenario, History, Shelf, ManagerPlaces, Plain, Queue, stored, sender_data, receiver_data, in_doubt_of, Node, after, opening_node}
use Rattle.mq_spec_node.specs.from_message.HolderVariants as holders
use Rattle.mq_spec_network.specs.Story.{Line, part}
use Rattle.mq_spec_network.specs.Given.{surroundings}
use Rattle.mq_spec_network.specs.Ledger.{Ledger}

abbrev pub cable_named : List ℕ → List CableLine → Option CableLine
cable_named channel [] = None
cable_named channel (c ∷ cs) = if bytes_eq channel c.channel then Some c else cable_named channel cs

-- the cable of that channel on which the manager of a number sends; one that was turned round since doesn't count
abbrev pub cable_from : ℕ → List ℕ → List CableLine → Option CableLine
cable_from number channel [] = None
cable_from number channel (c ∷ cs) = if bytes_eq channel c.channel && (c.sender + 1 == number) then Some c else cable_from number channel cs

-- The managers of a network at some moment, by place.
abbrev pub last_unit_of : Option ReceiverData → Luw
last_unit_of None = no_unit
last_unit_of (Some d) = d.unit

abbrev pub last_unit_at : List ℕ → Option Plain → Luw
last_unit_at channel None = no_unit
last_unit_at channel (Some p) = last_unit_of (receiver_data channel p)

abbrev pub last_unit : List Plain → List ℕ → Option CableLine → Luw
last_unit ps channel None = no_unit
last_unit ps channel (Some c) = last_unit_at channel (slice_get ps c.receiver)

-- the unit in doubt is its receiver's last unit: it counts there
abbrev pub is_doubted : Option InDoubt → Luw → Bool
is_doubted None last = false
is_doubted (Some d) last = same_unit d.unit last

abbrev pub counts_there : Scenario → List Plain → Plain → List ℕ → Bool
counts_there s ps p channel = is_doubted (in_doubt_of (sender_data channel p)) (last_unit ps channel (cable_from p.given.number channel s.cables))

abbrev pub is_held_there : Scenario → List Plain → Plain → Option Holder → Bool
is_held_there s ps p None = false
is_held_there s ps p (Some (holders.Unit n)) = false
is_held_there s ps p (Some (holders.Batch channel)) = counts_there s ps p channel

abbrev pub standing_in : Scenario → List Plain → Plain → List Row → List Row
standing_in s ps p rows = keep (λ (row : Row). not (is_held_there s ps p row.by)) rows

abbrev pub standing_of : Scenario → List Plain → List ℕ → Option Plain → List Row
standing_of s ps name None = []
standing_of s ps name (Some p) = standing_in s ps p (stored name p).rows

-- by place
abbrev pub standing : Scenario → List Plain → ℕ → List ℕ → List Row
standing s ps m name = standing_of s ps name (slice_get ps m)

-- Two rows are equal where all agree but the backout count, the arrival and the holder.
abbrev pub row_told : Row → Row
row_told row = record row {
  place = record row.place { arrival = 0 };
  message = record row.message { md = record row.message.md { backout_count = pos 0 } };
  by = None;
}

abbrev pub rows_told : List Row → List Row
rows_told rows = map row_told rows

-- The managers to which the parts of a prefix replay, and those of the first starts.
abbrev pub node_after : Scenario → ℕ → List Line → History → Node
node_after s m p h = after (opening_node (surroundings s m) h) (part m p)

abbrev pub managers_from : Scenario → ℕ → List Line → List History → List Plain
managers_from s m p [] = []
managers_from s m p (h ∷ hs) = (node_after s m p h).manager ∷ managers_from s (suc m) p hs

abbrev pub managers_at : Scenario → List Line → List History → List Plain
managers_at s p hs = managers_from s 0 p hs

abbrev pub opening_managers : Scenario → List History → List Plain
opening_managers s hs = managers_at s [] hs

-- The ledger begins with the standing rows of the first starts.
abbrev pub stored_standing : Scenario → List Plain → Plain → Queue → Shelf
stored_standing s ps p q = record { name = q.name; rows = standing_in s ps p q.rows }

abbrev pub places_of : Scenario → List Plain → Plain → ManagerPlaces
places_of s ps p = record { name = p.given.name; definitions = p.definitions; queues = map (stored_standing s ps p) p.queues }

abbrev pub opening_ledger_of : Scenario → List Plain → Ledger
opening_ledger_of s ps = record {
  places = map (places_of s ps) ps;
  users = map (λ (p : Plain). record { moment = p.moment; connections = []; cut = None }) ps;
  gone = [];
  got = [];
}

abbrev pub opening_ledger : Scenario → List History → Ledger
opening_ledger s hs = opening_ledger_of s (opening_managers s hs)
