-- Where a message lands, by how many messages each queue has: with the ones of its batch that were placed before it.
use Rattle.std.specs.Prelude.{◌≡◌, ℕ, ◌+◌, nat_lt, nat_le, Bool, false, not, ◌&&◌, List, Option, Some, None, Result, Ok, Err, length, count_by}
use Rattle.std.specs.Str.{bytes_eq}
use Rattle.mq_resolve.specs.Resolved.{resolve}
use Rattle.mq_calls.specs.Words.{Reason, Message, LocalQueue, Plain, Route, depth, refusal, local_of, channel_of, is_transmission}
use Rattle.mq_spec_manager.specs.Words.{queue_at}
use Rattle.mq_spec_manager.specs.Agents.{Landing, landing, dead_or, uses_dead, names_of}
use Rattle.mq_core.specs.declared.parts.Arrival.{Arrival}
use Rattle.mq_moves.specs.Landed.{tests_at}

-- how many messages were placed on a queue
abbrev pub is_on : List ℕ → Arrival → Bool
is_on queue a = bytes_eq queue a.queue

abbrev pub times_on : List ℕ → List Arrival → ℕ
times_on queue landed = count_by (is_on queue) landed

-- how many messages a queue then has
abbrev pub depth_ahead : List Arrival → Plain → List ℕ → ℕ
depth_ahead landed p queue = depth queue p + times_on queue landed

-- the dead-letter queue takes it
abbrev pub can_take_at : Option LocalQueue → ℕ → Plain → (List ℕ → ℕ) → Bool
can_take_at None bytes p depths = false
can_take_at (Some q) bytes p depths =
    not (is_transmission q.usage) && q.put_enabled && nat_lt (depths q.name) q.max_depth && nat_le (bytes + 172) q.max_message_length
    && nat_le (bytes + 172) p.definitions.manager.max_message_length

abbrev pub may_be_dead : List ℕ → ℕ → Plain → (List ℕ → ℕ) → Bool
may_be_dead channel bytes p depths =
    uses_dead (channel_of channel p.definitions) && can_take_at (local_of p.definitions.manager.dead_letter_queue p.definitions) bytes p depths

abbrev pub dead_at : List ℕ → Reason → Message → Plain → (List ℕ → ℕ) → Result Landing Reason
dead_at channel reason m p depths = dead_or (may_be_dead channel (length m.body) p depths) channel reason m p

-- by its route, or as a dead letter
abbrev pub tested_at : Option Reason → Route → List ℕ → Message → Plain → (List ℕ → ℕ) → Result Landing Reason
tested_at None route channel m p depths = Ok (landing route m)
tested_at (Some reason) route channel m p depths = dead_at channel reason m p depths

abbrev pub resolved_at : Result Route Reason → List ℕ → Message → Plain → (List ℕ → ℕ) → Result Landing Reason
resolved_at (Err reason) channel m p depths = dead_at channel reason m p depths
resolved_at (Ok route) channel m p depths = tested_at (refusal (tests_at route (length m.body) p (depths (queue_at route.end)))) route channel m p depths

abbrev pub land_at : List ℕ → Message → Plain → (List ℕ → ℕ) → Result Landing Reason
land_at channel m p depths = resolved_at (resolve p.definitions p.given.name (names_of m.route).queue (names_of m.route).qmgr) channel m p depths

-- another state differs in rows and in what channels have alone
abbrev pub IsBeside : Plain → Plain → Type 0
IsBeside x p = p ≡ record x { queues = p.queues; channels = p.channels }

-- the messages that landed stand on their queues
pub record IsAhead (landed : List Arrival) (x p : Plain) : Type 0 where
  pub beside : IsBeside x p
  pub depths : (name : List ℕ) → depth name p ≡ depth_ahead landed x name
