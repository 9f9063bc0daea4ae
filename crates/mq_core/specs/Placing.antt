-- Rows that are placed: the parts are changed as the plain manager is.
use Rattle.std.specs.Prelude.{ℕ, ℤ, Bool, true, false, List, [], ◌∷◌}
use Rattle.mq_calls.specs.Words.{Ident, Message, Among, local_of, depth_type, made_due, kept_in, condition}
use Rattle.mq_calls.specs.declared.state.Item.{Item}
use Rattle.mq_calls.specs.declared.state.Item.TheVariants.{Put, Take}
use Rattle.mq_place.specs.States.{QueueState, change_state, arrived, on_queue, on_queues}
use Rattle.mq_core.specs.Views.{PartsValue, plain_of}

abbrev pub with_states : List QueueState → PartsValue → PartsValue
with_states states x = record x { queues = record x.queues { states = states } }

-- a put that waited takes the last place of its lane
abbrev pub arrived_at : List ℕ → Message → PartsValue → PartsValue
arrived_at queue m x = with_states (change_state queue (arrived m) x.queues.states) x

-- a trigger becomes due, or not
abbrev pub due_if : Bool → List ℕ → PartsValue → PartsValue
due_if true queue x = with_states (change_state queue (on_queue (made_due (depth_type (local_of queue x.defs.definitions)) x.moment)) x.queues.states) x
due_if false queue x = x

abbrev pub tried_at : List ℕ → ℤ → PartsValue → PartsValue
tried_at queue priority x = due_if (condition (local_of queue x.defs.definitions) priority (plain_of x)) queue x

-- the row is placed, and the trigger's condition is tried for it
abbrev pub put_in_place : List ℕ → Message → PartsValue → PartsValue
put_in_place queue m x = tried_at queue m.md.priority (arrived_at queue m x)

-- the puts of a unit, in order; the rows that it held
abbrev pub put_each : List Item → PartsValue → PartsValue
put_each [] x = x
put_each (Put queue m ∷ items) x = put_each items (put_in_place queue m x)
put_each (Take queue ident persistent ∷ items) x = put_each items x

abbrev pub removed_from : List ℕ → Ident → PartsValue → PartsValue
removed_from queue ident x = with_states (on_queues (kept_in (Among queue (ident ∷ []))) x.queues.states) x

abbrev pub take_each : List Item → PartsValue → PartsValue
take_each [] x = x
take_each (Put queue m ∷ items) x = take_each items x
take_each (Take queue ident persistent ∷ items) x = take_each items (removed_from queue ident x)
