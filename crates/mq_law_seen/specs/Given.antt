-- Which idents were given, and what the openings of a network are for the laws.
use Rattle.std.specs.Prelude.{ℕ, suc, ◌≡◌, ◌∷◌, ◌++◌, ◌==◌, ◌&&◌, ◌||◌, nat_lt, nat_le, Bool, true, List, [], map, Option, Some, None, slice_get}
use Rattle.mq_message.specs.declared.message.Ident.{Ident}
use Rattle.mq_sync.specs.declared.unit.Unit.{Unit as Luw}
use Rattle.mq_sync.specs.declared.data.InDoubt.{InDoubt}
use Rattle.mq_calls.specs.State.{Plain}
use Rattle.mq_calls.specs.Reads.{sender_data, in_doubt_of}
use Rattle.mq_law_rows.specs.from_spec_network.Apart.{maker}
use Rattle.mq_objects.specs.declared.object.LocalQueue.{LocalQueue}
use Rattle.mq_objects.specs.Names.{locals_of}
use Rattle.mq_message.specs.declared.place.Holder.TheVariants as holders
use Rattle.mq_queue.specs.declared.row.Row.{Row}
use Rattle.mq_queue.specs.Rows.{keep, held_by}
use Rattle.mq_law_rows.specs.World.{Tag, tag_of}
use Rattle.mq_law_seen.specs.Seen.{rows_of}
use Rattle.mq_law_rows.specs.Beginning.{Spot}
use Rattle.mq_law_seen.specs.Opening.{IsOpening}

-- of an earlier incarnation of its manager, or of this one up to the last number; of no manager here, always
abbrev pub given_by : Option Plain → Ident → Bool
given_by None i = true
given_by (Some p) i = nat_lt i.incarnation p.numbers.incarnation || (i.incarnation == p.numbers.incarnation && nat_le i.number p.numbers.idents)

abbrev pub is_given : List Plain → Ident → Bool
is_given ps i = given_by (maker ps i.manager) i

-- the queue that the unit in doubt was taken from
abbrev pub doubt_queue : Option InDoubt → List ℕ
doubt_queue None = []
doubt_queue (Some d) = d.queue

abbrev pub source_by : List ℕ → Option Plain → List ℕ
source_by c None = []
source_by c (Some p) = doubt_queue (in_doubt_of (sender_data c p))

abbrev pub source_at : List Plain → ℕ → List ℕ → List ℕ
source_at ps m c = source_by c (slice_get ps m)

-- What a unit in doubt has: the rows that it holds. It may list idents without a row, of messages that went with a stop.
abbrev pub held_tags : List ℕ → List Row → List Tag
held_tags c rows = map (λ (row : Row). tag_of row.message) (keep (λ (row : Row). held_by (holders.Batch c) row.by) rows)

abbrev pub sent_at : List Plain → ℕ → List ℕ → Luw → List Tag
sent_at ps m c u = held_tags c (rows_of (source_at ps m c) (slice_get ps m))

-- the queues that are defined
abbrev pub spots_of : ℕ → List Plain → List Spot
spots_of k [] = []
spots_of k (p ∷ ps) = map (λ (l : LocalQueue). record { manager = k; queue = l.name }) (locals_of p.definitions) ++ spots_of (suc k) ps

-- what the managers have at their first starts, one by one
pub record AreOpenings (ps : List Plain) : Type 0 where
  pub each : (m : ℕ) (p : Plain) → slice_get ps m ≡ Some p → IsOpening p
  pub idle : (m : ℕ) (p : Plain) → slice_get ps m ≡ Some p → p.connections ≡ []
