-- The condition of a trigger, tried once for a row that a commit has placed.
use Rattle.std.specs.Prelude.{ℕ, ℤ, ◌+◌, ◌==◌, nat_le, Bool, true, false, not, ◌&&◌, ◌||◌, Option, Some, None, is_some}
use Rattle.mq_queue.specs.Queues.{count_waiting}
use Rattle.mq_calls.specs.Terms.{LocalQueue, TriggerType, local_of, process_of, is_transmission}
use Rattle.mq_resolve.specs.from_objects.TriggerTypeVariants as triggers
use Rattle.mq_calls.specs.State.{Plain}
use Rattle.mq_calls.specs.Reads.{stored, has_priority, is_open_for_input, read_by_handle}

-- free rows of priority at least TRIGMPRI; uncommitted messages are not counted
abbrev pub waiting : LocalQueue → Plain → ℕ
waiting q p = count_waiting q.trigger_priority (stored q.name p).rows

-- a trigger of this queue became due since the start, and so long ago
abbrev pub is_long_ago : ℕ → ℕ → Option ℕ → Bool
is_long_ago interval moment None = false
is_long_ago interval moment (Some last) = nat_le (last + interval) moment

abbrev pub by_type : TriggerType → LocalQueue → Plain → Bool
by_type triggers.First q p =
    (waiting q p == 1 || is_long_ago p.definitions.manager.trigger_interval p.moment (stored q.name p).last_due) && not (is_open_for_input q.name p)
by_type triggers.Every q p = true
by_type triggers.Depth q p = nat_le q.trigger_depth (waiting q p) && not (is_open_for_input q.name p)
by_type triggers.Never q p = false

-- the initiation queue is an ordinary local queue that may be read, and some handle reads it
abbrev pub is_served : Option LocalQueue → Plain → Bool
is_served None p = false
is_served (Some i) p = not (is_transmission i.usage) && i.get_enabled && read_by_handle i.name p

abbrev pub is_triggered : LocalQueue → ℤ → Plain → Bool
is_triggered q priority p =
    q.trigger && not (stored q.name p).switched_off && has_priority q.trigger_priority priority && by_type q.trigger_type q p
    && is_served (local_of q.initiation_queue p.definitions) p && is_some (process_of q.process p.definitions)

abbrev pub condition : Option LocalQueue → ℤ → Plain → Bool
condition None priority p = false
condition (Some q) priority p = is_triggered q priority p

abbrev pub is_depth : TriggerType → Bool
is_depth triggers.Depth = true
is_depth triggers.First = false
is_depth triggers.Every = false
is_depth triggers.Never = false
