-- A change of objects: what it does to a manager's parts, and what it keeps to.
use Rattle.std.specs.Prelude.{◌≡◌, ℕ, ◌+◌, ◌≤◌, ◌<◌, ◌&&◌, Bool, true, false, List, [], ◌∷◌, ◌++◌, map, Option, Some, None, is_some, Result, Ok, Err}
use Rattle.mq_objects.specs.declared.object.LocalQueue.{LocalQueue}
use Rattle.mq_objects.specs.declared.object.Object.{Object}
use Rattle.mq_objects.specs.declared.object.Object.TheVariants as objects
use Rattle.mq_objects.specs.declared.object.Definitions.{Definitions}
use Rattle.mq_objects.specs.declared.command.Subject.{Subject}
use Rattle.mq_objects.specs.declared.command.Subject.TheVariants as subjects
use Rattle.mq_objects.specs.declared.change.ObjectChange.{ObjectChange}
use Rattle.mq_objects.specs.declared.change.ObjectChange.TheVariants as changes
use Rattle.mq_objects.specs.Names.{name_of, space_of, object_in, named, is_kind, local_of, is_by_priority}
use Rattle.mq_objects.specs.Changed.{changed}
use Rattle.mq_objects.specs.declared.command.Command.{Command}
use Rattle.mq_calls.specs.declared.commands.Shown.{Shown}
use Rattle.mq_calls.specs.declared.commands.ScRefusal.{ScRefusal}
use Rattle.mq_calls.specs.declared.commands.ScRefusal.TheVariants as refusals
use Rattle.mq_calls.specs.declared.commands.Halt.TheVariants as halts
use Rattle.mq_sc_apply.specs.declared.answers.Planned.{Planned}
use Rattle.mq_sc_apply.specs.declared.answers.Plan.{Plan}
use Rattle.mq_sc_apply.specs.declared.answers.Plan.TheVariants as plans
use Rattle.mq_sc_apply.specs.Planned.{changes_rows, is_filled, same_delivery}
use Rattle.mq_calls.specs.Words.{PathStep, Plain, Step, Refuse, Do, say, made_stale}
use Rattle.mq_calls.specs.declared.commands.Halt.{Halt}
use Rattle.mq_resolve.specs.declared.route.PathStep.TheVariants as steps
use Rattle.mq_spec_manager.specs.Commands.{uses_of, command, object_part}
use Rattle.mq_law_manager.specs.Facts.{is_local}
use Rattle.mq_core.specs.from_handles.Desks.{Desk}
use Rattle.mq_place.specs.States.{QueueState, change_state, on_queue, switched_on, with_lanes, fresh_state, without_state, rows_in}
use Rattle.mq_core.specs.Views.{PartsValue}

-- What a plan keeps to. An object that is set finds none of its name, or one of its kind, whose rows keep their form; only a
-- local queue that is there counts as TRIGGER again, and only queues lead elsewhere.
pub record IsOver (old new : Object) (p : Plain) : Type 0 where
  pub kind : is_local new ≡ is_local old
  pub filled : (changes_rows old new && is_filled old (uses_of p)) ≡ false

abbrev pub IsMarked : Object → (reroutes on : Bool) → Plain → Type 0
IsMarked (objects.Local q) reroutes on p = on ≡ true → is_some (local_of q.name p.definitions) ≡ true
IsMarked (objects.Alias q) reroutes on p = on ≡ false
IsMarked (objects.Remote q) reroutes on p = on ≡ false
IsMarked (objects.Channel c) reroutes on p = (reroutes ≡ false) × (on ≡ false)
IsMarked (objects.Process c) reroutes on p = (reroutes ≡ false) × (on ≡ false)

pub record CanSet (new : Object) (reroutes on : Bool) (p : Plain) : Type 0 where
  pub over : (old : Object) → object_in (space_of new) (name_of new) p.definitions.objects ≡ Some old → IsOver old new p
  pub marked : IsMarked new reroutes on p

-- one that is deleted is of the kind that the command names, and has no rows
pub record CanDelete (s : Subject) (p : Plain) : Type 0 where
  pub old : Object
  pub found : named s p.definitions ≡ Some old
  pub kind : is_kind s old ≡ true
  pub filled : is_filled old (uses_of p) ≡ false

abbrev pub CanChange : ObjectChange → (reroutes on : Bool) → Plain → Type 0
CanChange (changes.Set new) reroutes on p = CanSet new reroutes on p
CanChange (changes.SetManager m) reroutes on p = Unit {0}
CanChange (changes.Delete s) reroutes on p = CanDelete s p

-- Room was taken: for an object, for a queue, for the record of a text that is so long.
abbrev pub with_rooms : (defs queues log : ℕ) → PartsValue → PartsValue
with_rooms defs queues log x = record x { defs = record x.defs { room = defs }; queues = record x.queues { room = queues }; log = record x.log { room = log } }

pub record HasRooms (x y : PartsValue) : Type 0 where
  pub same : y ≡ with_rooms y.defs.room y.queues.room y.log.room x
  pub more : x.log.room ≤ y.log.room

pub record IsRoomy (long : ℕ) (x y : PartsValue) : Type 0 where
  pub rooms : HasRooms x y
  pub small : 6 + long < 4294967296
  pub log : x.log.reserved + (11 + long) ≤ y.log.room
  pub defs : 0 < y.defs.room
  pub queues : 0 < y.queues.room

-- What a change does to the queues: one is new and stands last, or has other lanes; one goes.
abbrev pub renewed_states : Option LocalQueue → LocalQueue → List QueueState → List QueueState
renewed_states None q states = states ++ fresh_state q.name (is_by_priority q.delivery) ∷ []
renewed_states (Some old) q states = change_state q.name (with_lanes (is_by_priority q.delivery)) states

abbrev pub switched_states : Bool → List ℕ → List QueueState → List QueueState
switched_states true name states = change_state name (on_queue switched_on) states
switched_states false name states = states

-- handles over what leads elsewhere are stale
abbrev pub stale_desk : Bool → PathStep → Desk → Desk
stale_desk true step d = record { live = map (made_stale step) d.live; last = d.last }
stale_desk false step d = d

abbrev pub states_after : ObjectChange → Bool → Definitions → List QueueState → List QueueState
states_after (changes.Set (objects.Local q)) on d states = switched_states on q.name (renewed_states (local_of q.name d) q states)
states_after (changes.Set _) on d states = states
states_after (changes.SetManager m) on d states = states
states_after (changes.Delete (subjects.Local name)) on d states = without_state name states
states_after (changes.Delete _) on d states = states

abbrev pub desk_after : ObjectChange → Bool → Desk → Desk
desk_after (changes.Set new) reroutes desk = stale_desk reroutes (steps.Queue (name_of new)) desk
desk_after (changes.SetManager m) reroutes desk = stale_desk reroutes steps.DefXmitq desk
desk_after (changes.Delete s) reroutes desk = desk

-- the parts behind a change, with these rooms
abbrev pub altered : Planned → (defs queues : ℕ) → PartsValue → PartsValue
altered planned defs queues x = record x {
  defs = record { definitions = changed planned.change x.defs.definitions; room = defs };
  queues = record { states = states_after planned.change planned.switches_on x.defs.definitions x.queues.states; room = queues };
  desk = desk_after planned.change planned.reroutes x.desk;
}

-- a queue that takes other lanes has no rows
abbrev pub MayLane : LocalQueue → PartsValue → Type 0
MayLane q x = (old : LocalQueue) → local_of q.name x.defs.definitions ≡ Some old → same_delivery old.delivery q.delivery ≡ false → rows_in q.name x.queues.states ≡ []

-- want of memory is no refusal
abbrev pub halt_of : ScRefusal → Halt ScRefusal
halt_of refusals.NoMemory = halts.NoMemory
halt_of refusals.Down = halts.Refused refusals.Down
halt_of refusals.Exists = halts.Refused refusals.Exists
halt_of refusals.Missing = halts.Refused refusals.Missing
halt_of (refusals.BadValue keyword) = halts.Refused (refusals.BadValue keyword)
halt_of refusals.InUse = halts.Refused refusals.InUse
halt_of refusals.NotEmpty = halts.Refused refusals.NotEmpty
halt_of refusals.Disk = halts.Refused refusals.Disk
halt_of refusals.Cut = halts.Refused refusals.Cut

-- a change that a command makes
abbrev pub change_step : Planned → Definitions → Step ScRefusal Shown
change_step planned d = Do (record { lines = [] }) (object_part planned d ∷ [])

-- what a command comes to at a manager that is up
abbrev pub PlansErr : Command → Plain → Halt ScRefusal → Type 0
PlansErr c p (halts.Refused reason) = command c p ≡ Refuse reason
PlansErr c p halts.NoMemory = Unit {0}
PlansErr c p (halts.Stopped by) = ⊥

abbrev pub Plans : Command → Plain → Result Plan (Halt ScRefusal) → Type 0
Plans c p (Ok (plans.Change planned)) = (command c p ≡ change_step planned p.definitions) × CanChange planned.change planned.reroutes planned.switches_on p
Plans c p (Ok (plans.Show shown)) = command c p ≡ say shown
Plans c p (Err halt) = PlansErr c p halt
