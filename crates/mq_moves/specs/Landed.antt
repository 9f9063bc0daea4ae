-- A message that a rule's target takes: its queue, and how it stands there.
use Rattle.std.specs.Prelude.{◌≡◌, ℕ, Bool, List, [], ◌∷◌, Option, Some, None, Result, Ok, Err, IsSome, ◌++◌, nat_le}
use Rattle.mq_calls.specs.declared.agents.PlaceFault.TheVariants as place_faults
use Rattle.mq_calls.specs.declared.agents.AgentStop.TheVariants as agent_stops
use Rattle.mq_calls.specs.Words.{Dest, Ident, Message, Plain, Reason, Route, PathStep, Refuse, Test, when, local_of}
use Rattle.mq_calls.specs.declared.agents.PlaceFault.{PlaceFault}
use Rattle.mq_codes.specs.declared.reason.Reason.TheVariants as reasons
use Rattle.mq_resolve.specs.declared.route.RouteEnd.{RouteEnd}
use Rattle.mq_spec_manager.specs.Words.{dest_at, inhibited_tests, is_unfit, length_tests, max_depth, output_only, queue_at}
use Rattle.mq_spec_manager.specs.Agents.{bare_if, move_row}
use Rattle.mq_moves.specs.declared.rules.Moving.{Moving}
use Rattle.mq_moves.specs.Moving.{moved_step}

-- a route by its end and its path
abbrev pub route_by : RouteEnd → List PathStep → Route
route_by end path = record { end = end; path = path }

-- what refuses a message of so many bytes there, where its queue has so many messages
abbrev pub tests_at : Route → ℕ → Plain → ℕ → List (Test Reason)
tests_at route bytes p depth =
    when (is_unfit output_only route.end p) reasons.OptionNotValidForType
    ∷ inhibited_tests route.path p ++ length_tests (queue_at route.end) bytes p ++ when (nat_le (max_depth (local_of (queue_at route.end) p.definitions)) depth) reasons.QueueFull
    ∷ []

-- a message at the end of a route
abbrev pub at_end : RouteEnd → Message → Message
at_end end m = record m { route = dest_at end }

-- without its header where that goes
abbrev pub message_moved : Bool → RouteEnd → Option Message → Option Message
message_moved bare end None = None
message_moved bare end (Some m) = Some (at_end end (bare_if bare m))

-- no refusal applies to the move of a row: it takes place by this message
pub record CanGo (from : List ℕ) (ident : Ident) (to : Dest) (bare : Bool) (p : Plain) (m : Moving) : Type 0 where
  pub is : move_row from ident to bare p ≡ moved_step from to bare m.queue m.message
  pub there : IsSome (local_of m.queue p.definitions)
  pub same : m.message.ident ≡ ident

abbrev pub Moves : List ℕ → Ident → Dest → Bool → Plain → Result Moving PlaceFault → Type 0
Moves from ident to bare p (Ok m) = CanGo from ident to bare p m
Moves from ident to bare p (Err (place_faults.Refused reason)) = move_row from ident to bare p ≡ Refuse reason
Moves from ident to bare p (Err (place_faults.Stop stop)) = stop ≡ agent_stops.NoMemory
