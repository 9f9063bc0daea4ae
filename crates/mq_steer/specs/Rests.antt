-- What a stop does to a manager's parts.
use Rattle.std.specs.Prelude.{◌≡◌, ℕ, ◌-◌, true, false, List, [], ◌∷◌, None}
use Rattle.std.specs.List.{AllByRecursion}
use Rattle.std.specs.Str.{bytes_eq}
use Rattle.mq_message.specs.declared.place.Holder.TheVariants as holders
use Rattle.mq_objects.specs.declared.object.Object.{Object}
use Rattle.mq_objects.specs.declared.object.Object.TheVariants as objects
use Rattle.mq_calls.specs.Words.{Row, Queue, Plain, Among, HeldByUnits, Nonpersistent, held_by, selects, kept_in, released_in, forgotten}
use Rattle.mq_calls.specs.declared.state.Batch.{Batch}
use Rattle.mq_place.specs.States.{QueueState, change_state, on_queues}
use Rattle.mq_core.specs.declared.parts.Mode.TheVariants as modes
use Rattle.mq_core.specs.Views.{PartsValue}

-- the rows that the channel's batch holds are just those that it lists
abbrev pub HoldsJust : Batch → Queue → Type 0
HoldsJust b q = AllByRecursion (λ (row : Row). held_by (holders.Batch b.channel) row.by ≡ selects (Among b.queue b.idents) q.name row) q.rows

-- no channel has two batches, and each holds just what it lists
abbrev pub AreHeldIn : List Queue → List Batch → Type 0
AreHeldIn qs [] = Unit {0}
AreHeldIn qs (b ∷ bs) = AllByRecursion (HoldsJust b) qs × AllByRecursion (λ (d : Batch). bytes_eq b.channel d.channel ≡ false) bs × AreHeldIn qs bs

abbrev pub AreHeld : Plain → Type 0
AreHeld p = AreHeldIn p.queues p.channels.batches

-- the rows of these batches are free again, one batch after another
abbrev pub batches_released : List Batch → List QueueState → List QueueState
batches_released [] states = states
batches_released (b ∷ bs) states = batches_released bs (on_queues (released_in (Among b.queue b.idents) false) states)

-- fewer puts wait; none does
abbrev pub lessened : ℕ → QueueState → QueueState
lessened n s = record s { pending = s.pending - n }

abbrev pub unawaited : QueueState → QueueState
unawaited s = record s { pending = 0 }

-- for none of the local queues among these objects
abbrev pub object_unawaited : Object → List QueueState → List QueueState
object_unawaited (objects.Local q) states = change_state q.name unawaited states
object_unawaited _ states = states

abbrev pub objects_unawaited : List Object → List QueueState → List QueueState
objects_unawaited [] states = states
objects_unawaited (o ∷ os) states = objects_unawaited os (object_unawaited o states)

-- what a stop does to the queues, beside that no put waits any more
abbrev pub rested : List Batch → List QueueState → List QueueState
rested batches states = on_queues forgotten (on_queues (kept_in Nonpersistent) (batches_released batches (on_queues (released_in HeldByUnits true) states)))

-- the parts at rest
abbrev pub states_rested : PartsValue → List QueueState
states_rested x = rested x.ends.batches (objects_unawaited x.defs.definitions.objects x.queues.states)

abbrev pub parts_rested : PartsValue → PartsValue
parts_rested x = record x {
  mode = modes.Down None 0 None;
  queues = record x.queues { states = states_rested x };
  desk = record { live = []; last = x.desk.last };
  ends = record x.ends { seizures = []; batches = []; bound = record x.ends.bound { bound = [] } };
  log = record x.log { reserved = 0 };
}
