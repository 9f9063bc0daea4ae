-- What the condition of a trigger reads of a manager, and the condition of that alone.
use Rattle.std.specs.Prelude.{◌≡◌, ◌==◌, nat_le, Bool, true, false, not, ◌&&◌, ◌||◌, ℕ, List, Option, Some, None, is_some}
use Rattle.std.specs.List.{list_any}
use Rattle.std.specs.Str.{bytes_eq}
use Rattle.mq_handles.specs.from_objects.TriggerTypeVariants as triggers
use Rattle.mq_handles.specs.from_calls.Words.{Definitions, LocalQueue, TriggerType, Plain, stored, waiting, has_priority, is_long_ago, any_handle, local_of, process_of, is_transmission}
use Rattle.mq_handles.specs.from_calls.{Connection, Seizure}
use Rattle.mq_handles.specs.Users.{reads_from}
use Rattle.mq_trigger.specs.declared.condition.Tried.{Tried}

-- a manager has these definitions, connections and open queues, and the local queue what is said of it
pub record IsSeen (d : Definitions) (cs : List Connection) (ss : List Seizure) (q : LocalQueue) (tried : Tried) (p : Plain) : Type 0 where
  pub definitions : p.definitions ≡ d
  pub connections : p.connections ≡ cs
  pub seizures : p.channels.seizures ≡ ss
  pub moment : p.moment ≡ tried.moment
  pub waiting : waiting q p ≡ tried.waiting
  pub last_due : (stored q.name p).last_due ≡ tried.last_due
  pub switched_off : (stored q.name p).switched_off ≡ tried.switched_off

-- a running sender, or anybody, has a queue open for input
abbrev pub is_sent_from : List ℕ → List Seizure → Bool
is_sent_from name ss = list_any (λ (s : Seizure). bytes_eq name s.queue) ss

abbrev pub is_open : List ℕ → List Connection → List Seizure → Bool
is_open name cs ss = any_handle (reads_from name) cs || is_sent_from name ss

-- the parts of the condition
abbrev pub due_by_type : TriggerType → Definitions → List Connection → List Seizure → LocalQueue → Tried → Bool
due_by_type triggers.First d cs ss q t = (t.waiting == 1 || is_long_ago d.manager.trigger_interval t.moment t.last_due) && not (is_open q.name cs ss)
due_by_type triggers.Every d cs ss q t = true
due_by_type triggers.Depth d cs ss q t = nat_le q.trigger_depth t.waiting && not (is_open q.name cs ss)
due_by_type triggers.Never d cs ss q t = false

abbrev pub served_in : Option LocalQueue → List Connection → Bool
served_in None cs = false
served_in (Some i) cs = not (is_transmission i.usage) && i.get_enabled && any_handle (reads_from i.name) cs

-- the condition
abbrev pub is_due : Definitions → List Connection → List Seizure → LocalQueue → Tried → Bool
is_due d cs ss q t =
    q.trigger && not t.switched_off && has_priority q.trigger_priority t.priority && due_by_type q.trigger_type d cs ss q t
    && served_in (local_of q.initiation_queue d) cs && is_some (process_of q.process d)
