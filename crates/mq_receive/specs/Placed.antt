-- A batch whose messages are placed: the manager's parts, message by message.
use Rattle.std.specs.Prelude.{◌≡◌, ℕ, ◌+◌, ◌≤◌, Bool, true, false, List, [], ◌∷◌, Option, Some, None, length}
use Rattle.mq_calls.specs.Words.{Ident, is_persistent, off_lists}
use Rattle.mq_calls.specs.declared.state.Item.{Item}
use Rattle.mq_calls.specs.declared.state.Item.TheVariants.{Put}
use Rattle.mq_core.specs.from_place.States.{QueueState, QueueStates, change_state, expecting, unpended}
use Rattle.mq_moves.specs.from_agents.Removing.{removed_one}
use Rattle.mq_core.specs.declared.parts.Arrival.{Arrival}
use Rattle.mq_core.specs.Views.{PartsValue}
use Rattle.mq_core.specs.Ties.{TiedWith, IsReady}
use Rattle.mq_core.specs.Placing.{with_states, put_in_place}

-- the row of a unit in doubt goes; the ident of a message that lasts goes off all lists; the message takes its place
abbrev pub dropped_at : Option (List ℕ) → Ident → PartsValue → PartsValue
dropped_at None ident x = x
dropped_at (Some queue) ident x = removed_one queue ident x

abbrev pub undoubted_at : Bool → Ident → PartsValue → PartsValue
undoubted_at true ident x = record x { ends = record x.ends { senders = off_lists ident x.ends.senders } }
undoubted_at false ident x = x

abbrev pub cleared_for : Arrival → PartsValue → PartsValue
cleared_for a x = undoubted_at (is_persistent a.message) a.message.ident (dropped_at a.dropped a.message.ident x)

abbrev pub landed_at : Arrival → PartsValue → PartsValue
landed_at a x = put_in_place a.queue a.message (cleared_for a x)

-- all of them, in order, each where it can
abbrev pub landed_all : List Arrival → PartsValue → PartsValue
landed_all [] x = x
landed_all (a ∷ landed) x = landed_all landed (landed_at a x)

abbrev pub AreLanding : List Arrival → PartsValue → Type 0
AreLanding [] x = Unit {0}
AreLanding (a ∷ landed) x = IsReady a.queue a.message (cleared_for a x) × AreLanding landed (landed_at a x)

-- they wait for their places, or no more
abbrev pub expected_all : List Arrival → List QueueState → List QueueState
expected_all [] states = states
expected_all (a ∷ landed) states = expected_all landed (change_state a.queue expecting states)

abbrev pub unexpected_all : List Arrival → List QueueState → List QueueState
unexpected_all [] states = states
unexpected_all (a ∷ landed) states = unexpected_all landed (change_state a.queue unpended states)

abbrev pub unexpected_in : List Arrival → QueueStates → QueueStates
unexpected_in [] v = v
unexpected_in (a ∷ landed) v = unexpected_in landed (record v { states = change_state a.queue unpended v.states })

-- What ties the parts while these messages are on their way: they wait for their queues, and their idents stand as before.
abbrev pub puts_of : List Arrival → List Item
puts_of [] = []
puts_of (a ∷ landed) = Put a.queue a.message ∷ puts_of landed

abbrev pub TiedOnWay : List Arrival → PartsValue → Type 0
TiedOnWay landed x = TiedWith (puts_of landed) [] x

-- There is room for these rows, which wait from now on, and for a record of so many bytes.
pub record IsAwaited (landed : List Arrival) (need : ℕ) (x y : PartsValue) : Type 0 where
  pub same : y ≡ record (with_states (expected_all landed x.queues.states) x) { log = record x.log { room = y.log.room }; body = y.body }
  pub more : x.log.room ≤ y.log.room
  pub log : x.log.reserved + need ≤ y.log.room
  pub body : x.body.room + length x.body.bytes + need ≤ y.body.room + length y.body.bytes
