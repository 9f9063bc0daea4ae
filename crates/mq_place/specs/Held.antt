-- The rows that one holder has, while they are gone through.
use Rattle.std.specs.Prelude.{ℕ, List, [], Option, Some, None, map, filter, drop}
use Rattle.mq_message.specs.declared.place.Place.{Place}
use Rattle.mq_message.specs.declared.place.Holder.{Holder}
use Rattle.mq_calls.specs.declared.records.Remove.{Remove}
use Rattle.mq_calls.specs.State.{Queue}
use Rattle.mq_place.specs.States.{QueueState, holds, held_on, held_rows, named_row, rows_after}
use Rattle.mq_place.specs.Slots.{present}

-- those that stand behind a place
abbrev pub held_left : Holder → Option Place → Queue → List Remove
held_left by after q = map (named_row q.name) (filter (holds by) (rows_after after q.rows))

-- those of one slot
abbrev pub held_at_slot : Holder → Option QueueState → List Remove
held_at_slot by None = []
held_at_slot by (Some s) = held_on by s.queue

-- those of the slots from one on
abbrev pub held_from : Holder → ℕ → List (Option QueueState) → List Remove
held_from by at slots = held_rows by (present (drop at slots))
