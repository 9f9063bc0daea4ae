-- The condition reads of a manager what is seen of it.
use Rattle.std.proofs.Common.{◌≡◌, List, refl, sym, ◌∙◌}
use Rattle.std.specs.Prelude.{Option, Some, None, not, ◌&&◌, is_some}
use Rattle.mq_handles.specs.from_objects.TriggerTypeVariants as triggers
use Rattle.mq_handles.specs.from_calls.Words.{Definitions, LocalQueue, TriggerType, Plain, stored, waiting, has_priority, by_type, is_served, is_triggered, local_of, process_of}
use Rattle.mq_handles.specs.from_calls.{Connection, Seizure}
use Rattle.mq_trigger.specs.declared.condition.Tried.{Tried}
use Rattle.mq_trigger.specs.Seen.{IsSeen, due_by_type, served_in, is_due}

-- what a manager has to show
tried_at : LocalQueue → Tried → Plain → Tried
tried_at q t p = record { priority = t.priority; waiting = waiting q p; last_due = (stored q.name p).last_due; switched_off = (stored q.name p).switched_off; moment = p.moment }

by_parts : (k : TriggerType) (q : LocalQueue) (t : Tried) (p : Plain) → due_by_type k p.definitions p.connections p.channels.seizures q (tried_at q t p) ≡ by_type k q p
unfolding tried_at
by_parts triggers.First q t p = refl
by_parts triggers.Every q t p = refl
by_parts triggers.Depth q t p = refl
by_parts triggers.Never q t p = refl

served_same : (i : Option LocalQueue) (p : Plain) → served_in i p.connections ≡ is_served i p
served_same None p = refl
served_same (Some i) p = refl

whole : (q : LocalQueue) (t : Tried) (p : Plain) → is_due p.definitions p.connections p.channels.seizures q (tried_at q t p) ≡ is_triggered q t.priority p
unfolding tried_at
whole q t p =
    let kind = by_parts q.trigger_type q t p in
    let served = served_same (local_of q.initiation_queue p.definitions) p in
    λ i. q.trigger && not (stored q.name p).switched_off && has_priority q.trigger_priority t.priority && kind i && served i && is_some (process_of q.process p.definitions)

pub seen : (d : Definitions) (cs : List Connection) (ss : List Seizure) (q : LocalQueue) (t : Tried) (p : Plain) → IsSeen d cs ss q t p → is_due d cs ss q t ≡ is_triggered q t.priority p
unfolding tried_at
seen d cs ss q t p s =
    let from : is_due p.definitions p.connections p.channels.seizures q (tried_at q t p) ≡ is_due d cs ss q t =
    λ i. is_due (s.definitions i) (s.connections i) (s.seizures i) q
    (record { priority = t.priority; waiting = s.waiting i; last_due = s.last_due i; switched_off = s.switched_off i; moment = s.moment i }) in
    sym from ∙ whole q t p
