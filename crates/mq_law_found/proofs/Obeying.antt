-- Commands on objects, whose write was stopped and is found.
use Rattle.std.proofs.Common.{ℕ, ◌≡◌, Bool, true, false, List, [], ◌∷◌, refl, ap, sym, subst, ◌∙◌, inl}
use Rattle.std.specs.Prelude.{ℤ, Option, Some, None, Result, Ok, Err, not, ◌&&◌, is_some}
use Rattle.mq_queue.specs.declared.row.Row.{Row}
use Rattle.mq_objects.specs.declared.change.ObjectChange.{ObjectChange}
use Rattle.mq_objects.specs.declared.change.ObjectChange.TheVariants as changes
use Rattle.mq_objects.specs.declared.command.Command.{Command}
use Rattle.mq_objects.specs.declared.command.Subject.TheVariants as subjects
use Rattle.mq_objects.specs.declared.object.LocalQueue.{LocalQueue}
use Rattle.mq_objects.specs.declared.object.TriggerType.{TriggerType}
use Rattle.mq_objects.specs.declared.object.TriggerType.TheVariants as triggers
use Rattle.mq_objects.specs.Names.{local_of, process_of}
use Rattle.mq_sc_apply.specs.declared.answers.Plan.{Plan}
use Rattle.mq_sc_apply.specs.declared.answers.Plan.TheVariants as plans
use Rattle.mq_sc_apply.specs.declared.answers.Planned.{Planned}
use Rattle.mq_sc_apply.specs.Commands.{plan}
use Rattle.mq_sc_parse.specs.declared.command.Command.TheVariants as lines
use Rattle.mq_calls.specs.declared.commands.ScRefusal.{ScRefusal}
use Rattle.mq_calls.specs.declared.commands.ScRefusal.TheVariants as refusals
use Rattle.mq_calls.specs.declared.commands.Shown.{Shown}
use Rattle.mq_calls.specs.declared.records.LogRecord.{LogRecord}
use Rattle.mq_calls.specs.declared.records.LogRecord.TheVariants as records
use Rattle.mq_history.specs.declared.acts.Act.TheVariants as acts
use Rattle.mq_history.specs.declared.calls.Call.TheVariants as calls
use Rattle.mq_calls.specs.State.{Plain, Change, Running, LogState, Noted}
use Rattle.mq_calls.specs.State.Change.{Try, SetBound}
use Rattle.mq_calls.specs.State.Running.{Down}
use Rattle.mq_calls.specs.Condition.{by_type, condition, is_served}
use Rattle.mq_calls.specs.Reads.{has_priority, is_up, stored}
use Rattle.mq_calls.specs.Changes.{apply, apply_all, try_if}
use Rattle.mq_calls.specs.Images.{begun, lasting, raised}
use Rattle.mq_calls.specs.Steps.{Step, Part, when, freeze, note_of, volatile_gone, stands_in}
use Rattle.mq_spec_manager.specs.Commands.{command, planned_step, object_part, uses_of}
use Rattle.mq_spec_manager.specs.Stops.{redone, restarted, grown}
use Rattle.mq_spec_network.specs.Ledger as ledgers
use Rattle.mq_spec_network.specs.Ledger.{Ledger, at_moment}
use Rattle.mq_spec_network.specs.Story.{Mem}
use Rattle.mq_law_manager.specs.Facts.{IsSound, AreDefined}
use Rattle.mq_law_manager.specs.Kept.{StepKeeps}
use Rattle.mq_law_manager.proofs.Commanding.{IsEmptied, command_keeps}
use Rattle.mq_law_manager.proofs.Ending.{joined}
use Rattle.mq_law_manager.proofs.StockCommands.{command_stocked}
use Rattle.mq_law_log.specs.Restarts.{StepHarmless}
use Rattle.mq_law_log.proofs.Commanded.{command_harmless}
use Rattle.mq_law_log.proofs.Founds.{found_sound}
use Rattle.mq_law_events.proofs.Calling.{objects_follow_by, planned_empties}
use Rattle.mq_law_found.specs.Finds.{since, IsNoted, stopped_call, PartNotes, StepNotes}
use Rattle.mq_law_events.proofs.Events.{from_log}
use Rattle.mq_law_found.proofs.Finding.{tested_with, none_noted, one_noted, told_since, told_then, in_moment}
use Rattle.mq_law_found.proofs.Going.{left_row}

-- A change does the same to a manager that is up and to one that is down

type_aside : (t : TriggerType) (q : LocalQueue) (r : Running) (p : Plain) → by_type t q (record p { running = r }) ≡ by_type t q p
type_aside triggers.First q r p = refl
type_aside triggers.Every q r p = refl
type_aside triggers.Depth q r p = refl
type_aside triggers.Never q r p = refl

served_aside : (o : Option LocalQueue) (r : Running) (p : Plain) → is_served o (record p { running = r }) ≡ is_served o p
served_aside None r p = refl
served_aside (Some q) r p = refl

condition_aside : (o : Option LocalQueue) (priority : ℤ) (r : Running) (p : Plain) → condition o priority (record p { running = r }) ≡ condition o priority p
condition_aside None priority r p = refl
condition_aside (Some q) priority r p =
    ap (λ (b : Bool). q.trigger && not (stored q.name p).switched_off && has_priority q.trigger_priority priority && b && is_served (local_of q.initiation_queue p.definitions) (record p { running = r }) && is_some (process_of q.process p.definitions)) (type_aside q.trigger_type q r p)
    ∙ ap (λ (b : Bool). q.trigger && not (stored q.name p).switched_off && has_priority q.trigger_priority priority && by_type q.trigger_type q p && b && is_some (process_of q.process p.definitions)) (served_aside (local_of q.initiation_queue p.definitions) r p)

tried_aside : (t : Bool) (name : List ℕ) (r : Running) (p : Plain) → try_if t name (record p { running = r }) ≡ record (try_if t name p) { running = r }
tried_aside true name r p = refl
tried_aside false name r p = refl

one_aside : (c : Change) (r : Running) (p : Plain) → apply c (record p { running = r }) ≡ record (apply c p) { running = r }
one_aside (Try name priority) r p = ap (λ (b : Bool). try_if b name (record p { running = r })) (condition_aside (local_of name p.definitions) priority r p) ∙ tried_aside (condition (local_of name p.definitions) priority p) name r p
one_aside (SetBound channel true) r p = refl
one_aside (SetBound channel false) r p = refl
one_aside c r p = refl

all_aside : (cs : List Change) (r : Running) (p : Plain) → apply_all cs (record p { running = r }) ≡ record (apply_all cs p) { running = r }
all_aside [] r p = refl
all_aside (c ∷ cs) r p = ap (apply_all cs) (one_aside c r p) ∙ all_aside cs r (apply c p)

-- so a restart of it has the same manager
restart_aside : (n : Noted) (started : ℕ) (r s : Running) (p : Plain) → restarted true started (Some n) (record p { running = s }) ≡ restarted true started (Some n) (record p { running = r })
restart_aside n started r s p =
    let q : Plain = record p { log = stands_in n.written p.log } in
    let end : Plain → Plain = λ x. begun p.given (raised started (lasting x)) (grown started x) p.moment in
    ap end (all_aside n.changes s q) ∙ sym (ap end (all_aside n.changes r q))

-- Rows of what is left are of it

none_left : (p : Plain) (name : List ℕ) → (stored name p).rows ≡ [] → (stored name (volatile_gone p)).rows ≡ []
none_left p name e = go (stored name (volatile_gone p)).rows (λ x n. subst (λ (rows : List Row). Mem x rows) e (left_row p name x n))
  where
    go : (xs : List Row) → ((x : Row) → Mem x xs → ⊥) → xs ≡ []
    go [] f = refl
    go (x ∷ xs) f = absurd (f x (inl refl))

emptied_left : (change : ObjectChange) (p : Plain) → IsEmptied change p → IsEmptied change (volatile_gone p)
emptied_left (changes.Set new) p e = tt
emptied_left (changes.SetManager x) p e = tt
emptied_left (changes.Delete (subjects.Local name)) p e = none_left p name e
emptied_left (changes.Delete (subjects.Alias name)) p e = tt
emptied_left (changes.Delete (subjects.Remote name)) p e = tt
emptied_left (changes.Delete (subjects.Channel name)) p e = tt
emptied_left (changes.Delete (subjects.Process name)) p e = tt

emptied_since : (change : ObjectChange) (p : Plain) (running : Running) (moment : ℕ) (log : LogState) → IsEmptied change p → IsEmptied change (since p running moment log)
emptied_since (changes.Set new) p running moment log e = tt
emptied_since (changes.SetManager x) p running moment log e = tt
emptied_since (changes.Delete (subjects.Local name)) p running moment log e = e
emptied_since (changes.Delete (subjects.Alias name)) p running moment log e = tt
emptied_since (changes.Delete (subjects.Remote name)) p running moment log e = tt
emptied_since (changes.Delete (subjects.Channel name)) p running moment log e = tt
emptied_since (changes.Delete (subjects.Process name)) p running moment log e = tt

defined_left : (p : Plain) → AreDefined p → AreDefined (volatile_gone p)
defined_left p d q x n = d q x (left_row p q x n)

-- A sound manager is so at any moment, wherever its log stands.
abbrev later : Plain → ℕ → LogState → Plain
later p moment log = record p { moment = moment; log = log }

sound_later : (p : Plain) (moment : ℕ) (log : LogState) → IsSound p → IsSound (later p moment log)
sound_later p moment log h = record { facts = h.facts; named = h.named; stocked = record { once = h.stocked.once; placed = h.stocked.placed; rows = h.stocked.rows; puts = h.stocked.puts; routed = h.stocked.routed } }

abbrev KeepsLater : Step ScRefusal Shown → Plain → Type 0
KeepsLater step p = (moment : ℕ) (log : LogState) → StepKeeps IsSound step (later p moment log) × StepHarmless step (later p moment log)

obeyed_noted : (m : ℕ) (p : Plain) (c : Command) (planned : Planned) → IsSound p → plan c p.given.name p.definitions (uses_of p) ≡ Ok (plans.Change planned)
    → ((moment : ℕ) (log : LogState) (started left : ℕ) → IsSound (restarted true started (note_of (object_part planned p.definitions) (object_part planned p.definitions).forced) (freeze (note_of (object_part planned p.definitions) (object_part planned p.definitions).forced) left (later p moment log))))
    → PartNotes m (calls.Act (acts.Obey (lines.Objects c))) p.moment p (object_part planned p.definitions)
obeyed_noted m p c planned h is sound r e chance by_ ds forced =
    let part : Part = object_part planned p.definitions in
    let note : Noted = record { written = records.Objects planned.change; changes = part.changes; delta = [] } in
    subst (λ (w : LogRecord). IsNoted m (stopped_call e (calls.Act (acts.Obey (lines.Objects c))) chance by_ ds p.moment) (record { written = w; changes = part.changes; delta = [] }) (volatile_gone p)) (some_record forced)
    (record {
      followed = λ given running now log l fresh told.
          let down : Plain = since (volatile_gone p) running now log in
          let down2 : Plain = since (volatile_gone p) running now (stands_in (records.Objects planned.change) log) in
          let at_obey : Ledger = at_moment m p.moment l in
          in_moment m p.moment given down (redone note down) l (ledgers.obey m (lines.Objects c) at_obey) told
          (from_log m given down (redone note down) (stands_in (records.Objects planned.change) log) at_obey (ledgers.obey m (lines.Objects c) at_obey)
          (objects_follow_by m given down2 at_obey c planned (uses_of p) fresh (told_then m p.moment down2 l (told_since m down running now (stands_in (records.Objects planned.change) log) l told)) (defined_left p h.stocked.rows)
          (emptied_since planned.change (volatile_gone p) running now (stands_in (records.Objects planned.change) log) (emptied_left planned.change p (planned_empties p c planned is))) is));
      sound = λ started running now log. subst IsSound (restart_aside note started running (Down (Some note) 0) (since (volatile_gone p) running now log)) (sound now log started log.armed);
      quiet = refl;
    })
  where
    some_record : {r s : LogRecord} → Some s ≡ Some r → s ≡ r
    some_record e = cc

step_noted : (m : ℕ) (p : Plain) (c : Command) → IsSound p → (r : Result Plan ScRefusal) → plan c p.given.name p.definitions (uses_of p) ≡ r → KeepsLater (planned_step r p.definitions) p
    → StepNotes m (calls.Act (acts.Obey (lines.Objects c))) p (planned_step r p.definitions)
step_noted m p c h (Ok (plans.Change planned)) is k =
    let part : Part = object_part planned p.definitions in
    let reply : Shown = record { lines = [] } in
    one_noted ScRefusal m (calls.Act (acts.Obey (lines.Objects c))) p reply part
    (obeyed_noted m p c planned h is (λ moment log started left. let z = k moment log in found_sound part (records.Objects planned.change) left started (later p moment log) refl z.1.0 z.0.0))
step_noted m p c h (Ok (plans.Show shown)) is k = none_noted ScRefusal m (calls.Act (acts.Obey (lines.Objects c))) p shown
step_noted m p c h (Err refusal) is k = tt

pub commands_noted : (m : ℕ) (p : Plain) (c : Command) → IsSound p → StepNotes m (calls.Act (acts.Obey (lines.Objects c))) p (command c p)
commands_noted m p c h =
    tested_with (λ step. KeepsLater step p → StepNotes m (calls.Act (acts.Obey (lines.Objects c))) p step) (λ r k. tt) (when (not (is_up p.running)) refusals.Down ∷ []) (planned_step (plan c p.given.name p.definitions (uses_of p)) p.definitions)
    (λ e k. step_noted m p c h (plan c p.given.name p.definitions (uses_of p)) refl k)
    (λ moment log. let q : Plain = later p moment log in let s = sound_later p moment log h in (joined (command c q) q s (command_keeps c q s.stocked.rows s.facts) (command_stocked c q s.stocked), command_harmless c q s))
