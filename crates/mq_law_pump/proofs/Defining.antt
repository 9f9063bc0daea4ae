-- No turn of an end, no timeout and no trigger turn defines anything.
use Rattle.std.proofs.Common.{ℕ, ◌≡◌, Bool, true, false, List, [], ◌∷◌, ◌++◌, refl, ◌∙◌}
use Rattle.std.specs.Prelude.{if◌then◌else◌, Option, Some, None}
use Rattle.mq_calls.specs.declared.agents.Note.TheVariants as notes
use Rattle.mq_calls.specs.declared.agents.PrepareFault.{PrepareFault}
use Rattle.mq_calls.specs.declared.agents.PrepareFault.TheVariants as prepare_faults
use Rattle.mq_calls.specs.declared.deltas.Did.TheVariants as did
use Rattle.mq_calls.specs.declared.records.LogRecord.{LogRecord}
use Rattle.mq_calls.specs.declared.state.Batch.{Batch}
use Rattle.mq_codes.specs.declared.reason.Reason.{Reason}
use Rattle.mq_frame.specs.declared.frame.Frame.{Frame}
use Rattle.mq_frame.specs.declared.frame.Seen.{Seen}
use Rattle.mq_objects.specs.Names.{local_of, locals_of}
use Rattle.mq_objects.specs.declared.object.LocalQueue.{LocalQueue}
use Rattle.mq_queue.specs.declared.row.Row.{Row}
use Rattle.mq_receiver.specs.After.{last_by}
use Rattle.mq_receiver.specs.Table.{receiver_next}
use Rattle.mq_receiver.specs.declared.turns.ReceiverDoes.{ReceiverDoes}
use Rattle.mq_receiver.specs.declared.turns.ReceiverDoes.TheVariants as takes
use Rattle.mq_sender.specs.After.{number_sent, sender_after}
use Rattle.mq_sender.specs.Frames.{bind_frame, end_frame}
use Rattle.mq_sender.specs.States.{awaits, is_running, timed_out}
use Rattle.mq_sender.specs.Table.{sender_next}
use Rattle.mq_sender.specs.declared.state.SenderState.{SenderState}
use Rattle.mq_sender.specs.declared.turns.SenderDoes.{SenderDoes}
use Rattle.mq_sender.specs.declared.turns.SenderDoes.TheVariants as does_
use Rattle.mq_sender.specs.declared.turns.SenderOut.TheVariants as outs
use Rattle.mq_sync.specs.Settlement.{sender_or}
use Rattle.mq_sync.specs.Units.{unit_named}
use Rattle.mq_sync.specs.declared.unit.Settle.{Settle}
use Rattle.mq_sync.specs.declared.unit.Settle.TheVariants as settles
use Rattle.mq_sync.specs.declared.unit.Unit.{Unit as Luw}
use Rattle.mq_calls.specs.Changes.{apply, try_if}
use Rattle.mq_calls.specs.Condition.{condition}
use Rattle.mq_calls.specs.Reads.{batch_of, is_full, is_up, sender_data}
use Rattle.mq_calls.specs.Sizes.{need}
use Rattle.mq_calls.specs.State.{Change, Plain, Running}
use Rattle.mq_calls.specs.State.Change.{ChangeObjects, SetBound, Try}
use Rattle.mq_calls.specs.State.Running.{Down, Up}
use Rattle.mq_calls.specs.Steps.{Part, Step, do_all, logged, when}
use Rattle.mq_calls.specs.Steps.Step.{Do, Refuse}
use Rattle.mq_spec_manager.specs.Agents.{expired_rows, harden, hold_batch, leave, prepare, prepare_of, prepared_changes, prepared_record, queue_of_sender, receive, release_of, stock}
use Rattle.mq_spec_manager.specs.Get.{expired_parts}
use Rattle.mq_spec_manager.specs.Triggers.{first_due, trigger_turn}
use Rattle.mq_spec_node.specs.Calls.{trigger_deed, trigger_deed_of, where_up}
use Rattle.mq_spec_node.specs.Deeds.{Deed, parts_of}
use Rattle.mq_spec_node.specs.Node.{Node, ReceiverEnd, SenderEnd}
use Rattle.mq_spec_node.specs.Receivers.{is_receiver_defined, place_deed, receiver_deed, receiver_deed_by}
use Rattle.mq_spec_node.specs.Senders.{after_timeout, leave_if_stopped, prepare_deed, sender_deed, sender_deed_by, sent, settle_parts_if, timeout_deed}
use Rattle.mq_calls.specs.declared.deltas.Why.TheVariants as whys
use Rattle.mq_law_seized.specs.Each.{is_common, is_written, step_of_all}
use Rattle.mq_law_seized.proofs.CommonCalls.{removal_common, trigger_common}
use Rattle.mq_law_seized.proofs.Each.{kept_behind, parts_behind, parts_keep, parts_weaker, step_weaker}
use Rattle.mq_law_manager.proofs.ShortSteps.{tested_all}
use Rattle.mq_law_seized.proofs.Written.{receive_written}
use Rattle.mq_law_node.proofs.Quiet.{step_parts}
use Rattle.mq_law_node.proofs.Named.{bool_case}
use Rattle.mq_law_pump.specs.Away.{IsAsBegun}
use Rattle.mq_law_pump.specs.Leaves.{EachDefinesNone, defines_none, parts_define_none}

-- WHAT DEFINES NOTHING LEAVES THE DEFINITIONS
pub as_begun_self : (p : Plain) → IsAsBegun p p
as_begun_self p = record { definitions = refl; given = refl }

pub as_begun_behind : (p q r : Plain) → IsAsBegun q p → IsAsBegun r q → IsAsBegun r p
as_begun_behind p q r g h = record { definitions = h.definitions ∙ g.definitions; given = h.given ∙ g.given }

tries_same : (b : Bool) (name : List ℕ) (p : Plain) → IsAsBegun (try_if b name p) p
tries_same true name p = record { definitions = refl; given = refl }
tries_same false name p = record { definitions = refl; given = refl }

change_same : (c : Change) (p : Plain) → defines_none c ≡ true → IsAsBegun (apply c p) p
change_same (Try name priority) p h = tries_same (condition (local_of name p.definitions) priority p) name p
change_same (SetBound other true) p h = record { definitions = refl; given = refl }
change_same (SetBound other false) p h = record { definitions = refl; given = refl }
change_same (ChangeObjects change) p h = absurd cc
change_same c p h = record { definitions = refl; given = refl }

logged_same : (o : Option LogRecord) (p : Plain) → IsAsBegun (logged o p) p
logged_same None p = record { definitions = refl; given = refl }
logged_same (Some r) p = record { definitions = refl; given = refl }

pub parts_same : (parts : List Part) (p : Plain) → parts_define_none parts ≡ true → IsAsBegun (do_all parts p) p
parts_same parts p h = kept_behind (λ v. IsAsBegun v p) parts p (as_begun_self p) (parts_keep defines_none (λ v. IsAsBegun v p) (λ c v z g. as_begun_behind p v (apply c v) g (change_same c v z))
    (λ o v g. as_begun_behind p v (logged o v) g (logged_same o v)) parts p h (as_begun_self p))

-- what is common or written defines nothing
common_defines : (c : Change) → is_common c ≡ true → defines_none c ≡ true
common_defines (ChangeObjects change) e = absurd cc
common_defines c e = refl

written_defines : (c : Change) → is_written c ≡ true → defines_none c ≡ true
written_defines (ChangeObjects change) e = absurd cc
written_defines c e = refl

abbrev StepDefinesNone : {F T : Type 0} → Step F T → Type 0
StepDefinesNone s = step_of_all defines_none s ≡ true

-- SENDERS
leaving : (ch : List ℕ) (st : SenderState) (p : Plain) → parts_define_none (leave_if_stopped ch st p) ≡ true
leaving ch st p = bool_case (is_running st) (λ b. parts_define_none (if b then [] else parts_of (leave ch p)) ≡ true) (λ e. refl) (λ e. refl)

expiring : (queue : List ℕ) (rows : List Row) → parts_define_none (expired_parts queue rows) ≡ true
expiring queue rows = parts_weaker is_common defines_none common_defines (expired_parts queue rows) (removal_common whys.Expired queue rows)

settling : (e : SenderEnd) (o : Option Settle) (p : Plain) → parts_define_none (settle_parts_if e o p) ≡ true
settling e None p = refl
settling e (Some settles.Commit) p = refl
settling e (Some settles.Backout) p = refl

releasing : (ch : List ℕ) (o : Option Batch) (p : Plain) → parts_define_none (parts_of (release_of ch o) ++ parts_of (leave ch p)) ≡ true
releasing ch None p = refl
releasing ch (Some b) p = refl

preparing : (ch : List ℕ) (last : ℕ) (o : Option Batch) (p : Plain) → StepDefinesNone (prepare_of ch last o p)
preparing ch last None p = refl
preparing ch last (Some b) p = tested_all StepDefinesNone (λ r. refl) (when (is_full (need (prepared_record ch last b)) p) prepare_faults.NoRoom ∷ []) (Do tt (record {
  forced = Some (prepared_record ch last b);
  changes = prepared_changes ch last b (sender_or (sender_data ch p));
  delta = did.Prepared ch b.unit ∷ [];
} ∷ [])) refl

sent_none : (e : SenderEnd) (x : SenderDoes) (parts : List Part) (pushed : Option Frame) (n : Node) → parts_define_none parts ≡ true → EachDefinesNone (Some (sent e x parts pushed n))
sent_none e x parts pushed n h = parts_behind defines_none parts (leave_if_stopped e.channel (sender_after e.machine x outs.Done).state n.manager) h (leaving e.channel (sender_after e.machine x outs.Done).state n.manager)

prepared : (e : SenderEnd) (s : Step PrepareFault (Unit {0})) (n : Node) → StepDefinesNone s → EachDefinesNone (Some (prepare_deed e s n))
prepared e (Refuse fault) n h = releasing e.channel (batch_of e.channel n.manager.channels.batches) n.manager
prepared e (Do reply parts) n h = sent_none e does_.Prepare parts None n h

senders_by : (stamp : ℕ) (e : SenderEnd) (x : SenderDoes) (n : Node) → EachDefinesNone (sender_deed_by stamp e x n)
senders_by stamp e does_.Still n = tt
senders_by stamp e does_.Ignore n = refl
senders_by stamp e (does_.HardenSession session) n = sent_none e (does_.HardenSession session) (parts_of (harden e.channel (notes.Session e.partner session) n.manager)) None n refl
senders_by stamp e does_.PushBind n = sent_none e does_.PushBind [] (Some (bind_frame stamp e.machine)) n refl
senders_by stamp e does_.Expire n =
    sent_none e does_.Expire (expired_parts (queue_of_sender e.channel n.manager) (expired_rows (queue_of_sender e.channel n.manager) n.manager)) None n
    (expiring (queue_of_sender e.channel n.manager) (expired_rows (queue_of_sender e.channel n.manager) n.manager))
senders_by stamp e (does_.Begin k count) n = sent_none e (does_.Begin k count) (parts_of (hold_batch e.channel (unit_named e.machine.kept.session k) count n.manager)) None n refl
senders_by stamp e (does_.PushMsg index) n = sent_none e (does_.PushMsg index) [] None n refl
senders_by stamp e does_.Prepare n =
    prepared e (prepare e.channel (number_sent e.machine.state e.machine.kept.last) n.manager) n (preparing e.channel (number_sent e.machine.state e.machine.kept.last) (batch_of e.channel n.manager.channels.batches) n.manager)
senders_by stamp e does_.PushEnd n = sent_none e does_.PushEnd [] (Some (end_frame stamp e.machine)) n refl
senders_by stamp e (does_.Bound settle partner) n = sent_none e (does_.Bound settle partner) (settle_parts_if e settle n.manager) None n (settling e settle n.manager)
senders_by stamp e does_.Commit n = sent_none e does_.Commit (settle_parts_if e (Some settles.Commit) n.manager) None n (settling e (Some settles.Commit) n.manager)
senders_by stamp e (does_.Backout reason) n = sent_none e (does_.Backout reason) (settle_parts_if e (Some settles.Backout) n.manager) None n (settling e (Some settles.Backout) n.manager)

pub senders_define_none : (stamp : ℕ) (e : SenderEnd) (seen : Seen) (n : Node) → EachDefinesNone (sender_deed stamp e seen n)
senders_define_none stamp e seen n = senders_by stamp e (sender_next e.machine seen (stock e.channel n.manager)) n

pub timeouts_define_none : (e : SenderEnd) (n : Node) → EachDefinesNone (timeout_deed e n)
timeouts_define_none e n = bool_case (awaits e.machine.state) (λ b. EachDefinesNone (if b then Some (after_timeout e (timed_out e.machine) n) else None)) (λ x. leaving e.channel (timed_out e.machine).state n.manager) (λ x. tt)

-- RECEIVERS
place_none : (e : ReceiverEnd) (unit : Luw) (seen : Seen) (s : Step Reason (Unit {0})) (n : Node) → StepDefinesNone s → EachDefinesNone (Some (place_deed e unit seen s n))
place_none e unit seen (Refuse reason) n h = refl
place_none e unit seen (Do reply parts) n h = h

receivers_by : (stamp : ℕ) (e : ReceiverEnd) (seen : Seen) (x : ReceiverDoes) (n : Node) → EachDefinesNone (receiver_deed_by stamp e seen x n)
receivers_by stamp e seen takes.Still n = tt
receivers_by stamp e seen takes.Ignore n = refl
receivers_by stamp e seen takes.PushOwed n = refl
receivers_by stamp e seen takes.Bind n = refl
receivers_by stamp e seen takes.Keep n = refl
receivers_by stamp e seen (takes.Place unit) n = place_none e unit seen (receive e.channel unit (last_by seen e.machine.last) e.kept n.manager) n
    (step_weaker is_written defines_none written_defines (receive e.channel unit (last_by seen e.machine.last) e.kept n.manager) (receive_written e.channel unit (last_by seen e.machine.last) e.kept n.manager))
receivers_by stamp e seen takes.Again n = refl
receivers_by stamp e seen takes.Close n = refl

pub receivers_define_none : (stamp : ℕ) (e : ReceiverEnd) (seen : Seen) (n : Node) → EachDefinesNone (receiver_deed stamp e seen n)
receivers_define_none stamp e seen n = receivers_by stamp e seen (receiver_next e.machine seen (is_receiver_defined e.channel n.manager.definitions)) n

-- TRIGGER TURNS
of_none : (o : Option LocalQueue) (n : Node) → EachDefinesNone (trigger_deed_of o n)
of_none None n = tt
of_none (Some l) n = step_parts defines_none (trigger_turn n.manager) (step_weaker is_common defines_none common_defines (trigger_turn n.manager) (trigger_common (is_up n.manager.running) n.manager))

up_none : (r : Running) (o : Option Deed) → EachDefinesNone o → EachDefinesNone (where_up r o)
up_none Up o h = h
up_none (Down noted starts) o h = tt

pub triggers_define_none : (n : Node) → EachDefinesNone (trigger_deed n)
triggers_define_none n = up_none n.manager.running (trigger_deed_of (first_due (locals_of n.manager.definitions) n.manager) n) (of_none (first_due (locals_of n.manager.definitions) n.manager) n)
