-- Commands on objects at a plain manager: their answers and changes are those that are planned from the definitions and
-- from what the manager says of the use of its objects.
use Rattle.std.specs.Prelude.{ℕ, Bool, true, false, not, List, [], ◌∷◌, ◌++◌, Option, Some, None, Result, Ok, Err}
use Rattle.mq_sc_apply.specs.from_calls.Words.{LocalQueue, Object, Definitions, Subject, Command, ObjectChange, PathStep, Plain, Change, stored, is_up, depth, has_rows, read_by_sender, on_path, channel_busy, Step, Part, when, tested, say, Refuse, Do, local_of}
use Rattle.mq_sc_apply.specs.from_calls.{ScRefusal, Shown}
use Rattle.mq_sc_apply.specs.from_objects.ObjectVariants as objects
use Rattle.mq_sc_apply.specs.from_objects.SubjectVariants as subjects
use Rattle.mq_sc_apply.specs.from_objects.ObjectChangeVariants as changes
use Rattle.mq_sc_apply.specs.from_objects.Names.{name_of}
use Rattle.mq_sc_apply.specs.from_resolve.PathStepVariants as steps
use Rattle.mq_sc_apply.specs.from_calls.ScRefusalVariants as refusals
use Rattle.mq_sc_apply.specs.from_calls.LogRecordVariants as records
use Rattle.mq_sc_apply.specs.declared.answers.Planned.{Planned}
use Rattle.mq_sc_apply.specs.declared.answers.Plan.{Plan}
use Rattle.mq_sc_apply.specs.declared.answers.Plan.TheVariants as plans
use Rattle.mq_sc_apply.specs.Uses.{Uses, nothing_used}
use Rattle.mq_sc_apply.specs.Commands.{plan, after}
use Rattle.mq_sc_apply.specs.from_calls.State.Change.{ChangeObjects, Renew, DropQueue, SwitchOn, MakeStale}
pub use Rattle.mq_sc_apply.specs.Planned.{defined_object}

-- what a plain manager says of the use of its objects
abbrev pub uses_of : Plain → Uses
uses_of p = record {
  on_path = λ name. on_path (steps.Queue name) p;
  defxmitq_on_path = on_path steps.DefXmitq p;
  sending = λ name. read_by_sender name p;
  channel_busy = λ name. channel_busy name p;
  has_rows = λ name. has_rows name p;
  depth = λ name. depth name p;
  trigger_off = λ name. (stored name p).switched_off;
}

-- What a change of objects does beside: handles over what leads elsewhere are stale from now on; a local queue that is new
-- begins without rows, one that is deleted goes; one to which TRIGGER was given counts as TRIGGER again.
abbrev pub stale_if : Bool → PathStep → List Change
stale_if true step = MakeStale step ∷ []
stale_if false step = []

abbrev pub switched_if : Bool → List ℕ → List Change
switched_if true name = SwitchOn name ∷ []
switched_if false name = []

abbrev pub renewed_if : Option LocalQueue → List ℕ → List Change
renewed_if None name = Renew name ∷ []
renewed_if (Some q) name = []

abbrev pub renewed : Object → Definitions → List Change
renewed (objects.Local q) d = renewed_if (local_of q.name d) q.name
renewed _ d = []

abbrev pub dropped : Subject → List Change
dropped (subjects.Local name) = DropQueue name ∷ []
dropped _ = []

-- what a change of objects does beside
abbrev pub follows : ObjectChange → Planned → Definitions → List Change
follows (changes.Set new) planned d =
    renewed new d ++ stale_if planned.reroutes (steps.Queue (name_of new)) ++ switched_if planned.switches_on (name_of new)
follows (changes.SetManager m) planned d = stale_if planned.reroutes steps.DefXmitq
follows (changes.Delete subject) planned d = dropped subject

-- each accepted change of objects is forced
abbrev pub object_part : Planned → Definitions → Part
object_part planned d = record { forced = Some (records.Objects planned.change); changes = ChangeObjects planned.change ∷ follows planned.change planned d; delta = [] }

abbrev pub planned_step : Result Plan ScRefusal → Definitions → Step ScRefusal Shown
planned_step (Ok (plans.Change planned)) d = Do (record { lines = [] }) (object_part planned d ∷ [])
planned_step (Ok (plans.Show shown)) d = say shown
planned_step (Err refusal) d = Refuse refusal

abbrev pub command : Command → Plain → Step ScRefusal Shown
command c p = tested (when (not (is_up p.running)) refusals.Down ∷ []) (planned_step (plan c p.given.name p.definitions (uses_of p)) p.definitions)

-- The definitions after a command that was accepted: those that it makes where nothing is in use.
abbrev pub definitions_after : Command → Definitions → Definitions
definitions_after c d = after (plan c [] d nothing_used) d
