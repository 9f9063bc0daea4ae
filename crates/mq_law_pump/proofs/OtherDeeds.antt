-- Which deeds of a manager add no row to a queue that one of its senders has open: turns and timeouts of other senders, turns of receivers
-- whose messages go elsewhere, and trigger turns.
use Rattle.std.proofs.Common.{ℕ, ◌≡◌, Bool, true, false, List, [], ◌∷◌, ◌++◌, refl, ap}
use Rattle.std.specs.Prelude.{if◌then◌else◌, Option, Some, None, ◌&&◌, not}
use Rattle.std.specs.Str.{bytes_eq}
use Rattle.mq_calls.specs.declared.agents.Note.TheVariants as notes
use Rattle.mq_calls.specs.declared.agents.PrepareFault.{PrepareFault}
use Rattle.mq_calls.specs.declared.agents.PrepareFault.TheVariants as prepare_faults
use Rattle.mq_calls.specs.declared.deltas.Did.TheVariants as did
use Rattle.mq_frame.specs.declared.frame.Frame.{Frame}
use Rattle.mq_frame.specs.declared.frame.Seen.{Seen}
use Rattle.mq_queue.specs.declared.row.Row.{Row}
use Rattle.mq_sync.specs.Settlement.{sender_or}
use Rattle.mq_sync.specs.declared.unit.Settle.{Settle}
use Rattle.mq_sync.specs.declared.unit.Settle.TheVariants as settles
use Rattle.mq_sender.specs.declared.state.SenderState.{SenderState}
use Rattle.mq_sender.specs.declared.turns.SenderDoes.{SenderDoes}
use Rattle.mq_sender.specs.declared.turns.SenderDoes.TheVariants as does
use Rattle.mq_sender.specs.declared.turns.SenderOut.TheVariants as outs
use Rattle.mq_sender.specs.After.{number_sent, sender_after}
use Rattle.mq_sender.specs.States.{awaits, is_running, timed_out}
use Rattle.mq_sender.specs.Table.{sender_next}
use Rattle.mq_calls.specs.State.{Plain}
use Rattle.mq_calls.specs.declared.state.Batch.{Batch}
use Rattle.mq_calls.specs.Reads.{batch_of, is_full, sender_data}
use Rattle.mq_calls.specs.Sizes.{need}
use Rattle.mq_calls.specs.Steps.{Part, Step, refused_or}
use Rattle.mq_calls.specs.Steps.Step.{Do, Refuse}
use Rattle.mq_spec_manager.specs.Get.{expired_parts}
use Rattle.mq_spec_manager.specs.Agents.{expired_rows, leave, prepare, prepare_of, prepared_changes, prepared_record, queue_of_sender, release_of, stock, harden, hold_batch}
use Rattle.mq_spec_node.specs.Node.{Node, SenderEnd}
use Rattle.mq_spec_node.specs.Deeds.{parts_of}
use Rattle.mq_spec_node.specs.Senders.{after_timeout, leave_if_stopped, prepare_deed, sender_deed, sender_deed_by, sent, settle_parts_if, timeout_deed}
use Rattle.mq_law_seized.proofs.Each.{parts_behind}
use Rattle.mq_law_node.proofs.Named.{bool_case}
use Rattle.mq_sender.specs.Frames.{bind_frame, end_frame}
use Rattle.mq_sync.specs.Units.{unit_named}
use Rattle.mq_law_pump.specs.Others.{EachAddsNone, adds_none, parts_add_none}

-- TURNS OF OTHER SENDERS
leaving : (channel q ch : List ℕ) (st : SenderState) (p : Plain) → bytes_eq channel ch ≡ false → parts_add_none channel q (leave_if_stopped ch st p) ≡ true
leaving channel q ch st p apart = bool_case (is_running st) (λ b. parts_add_none channel q (if b then [] else parts_of (leave ch p)) ≡ true) (λ e. refl) (λ e. ap (λ (b : Bool). (not b && true) && true) apart)

expiring : (channel q queue : List ℕ) (rows : List Row) → parts_add_none channel q (expired_parts queue rows) ≡ true
expiring channel q queue [] = refl
expiring channel q queue (r ∷ rs) = refl

settling : (channel q : List ℕ) (e : SenderEnd) (o : Option Settle) (p : Plain) → bytes_eq channel e.channel ≡ false → parts_add_none channel q (settle_parts_if e o p) ≡ true
settling channel q e None p apart = refl
settling channel q e (Some settles.Commit) p apart = refl
settling channel q e (Some settles.Backout) p apart = ap (λ (b : Bool). (not b && true) && true) apart

releasing : (channel q ch : List ℕ) (o : Option Batch) (p : Plain) → bytes_eq channel ch ≡ false → parts_add_none channel q (parts_of (release_of ch o) ++ parts_of (leave ch p)) ≡ true
releasing channel q ch None p apart = ap (λ (x : Bool). (not x && true) && true) apart
releasing channel q ch (Some b) p apart = ap (λ (x : Bool). (not x && true) && ((not x && true) && true)) apart

abbrev pub StepAddsNone : {F T : Type 0} → List ℕ → List ℕ → Step F T → Type 0
StepAddsNone channel q (Refuse fault) = Unit {0}
StepAddsNone channel q (Do reply parts) = parts_add_none channel q parts ≡ true

pub refused_none : {F T : Type 0} (channel q : List ℕ) (o : Option F) (s : Step F T) → StepAddsNone channel q s → StepAddsNone channel q (refused_or o s)
refused_none channel q None s h = h
refused_none channel q (Some fault) s h = tt

preparing : (channel q ch : List ℕ) (last : ℕ) (o : Option Batch) (p : Plain) → StepAddsNone channel q (prepare_of ch last o p)
preparing channel q ch last None p = refl
preparing channel q ch last (Some b) p = refused_none channel q (if is_full (need (prepared_record ch last b)) p then Some prepare_faults.NoRoom else None) (Do tt (record {
  forced = Some (prepared_record ch last b);
  changes = prepared_changes ch last b (sender_or (sender_data ch p));
  delta = did.Prepared ch b.unit ∷ [];
} ∷ [])) refl

sent_none : (channel q : List ℕ) (e : SenderEnd) (x : SenderDoes) (parts : List Part) (pushed : Option Frame) (n : Node) → bytes_eq channel e.channel ≡ false → parts_add_none channel q parts ≡ true → EachAddsNone channel q (Some (sent e x parts pushed n))
sent_none channel q e x parts pushed n apart h =
    parts_behind (adds_none channel q) parts (leave_if_stopped e.channel (sender_after e.machine x outs.Done).state n.manager) h (leaving channel q e.channel (sender_after e.machine x outs.Done).state n.manager apart)

prepared : (channel q : List ℕ) (e : SenderEnd) (s : Step PrepareFault (Unit {0})) (n : Node) → bytes_eq channel e.channel ≡ false → StepAddsNone channel q s → EachAddsNone channel q (Some (prepare_deed e s n))
prepared channel q e (Refuse fault) n apart h = releasing channel q e.channel (batch_of e.channel n.manager.channels.batches) n.manager apart
prepared channel q e (Do reply parts) n apart h = sent_none channel q e does.Prepare parts None n apart h

senders_by : (channel q : List ℕ) (stamp : ℕ) (e : SenderEnd) (x : SenderDoes) (n : Node) → bytes_eq channel e.channel ≡ false → bytes_eq q (queue_of_sender e.channel n.manager) ≡ false → EachAddsNone channel q (sender_deed_by stamp e x n)
senders_by channel q stamp e does.Still n apart other = tt
senders_by channel q stamp e does.Ignore n apart other = refl
senders_by channel q stamp e (does.HardenSession session) n apart other = sent_none channel q e (does.HardenSession session) (parts_of (harden e.channel (notes.Session e.partner session) n.manager)) None n apart refl
senders_by channel q stamp e does.PushBind n apart other = sent_none channel q e does.PushBind [] (Some (bind_frame stamp e.machine)) n apart refl
senders_by channel q stamp e does.Expire n apart other =
    sent_none channel q e does.Expire (expired_parts (queue_of_sender e.channel n.manager) (expired_rows (queue_of_sender e.channel n.manager) n.manager)) None n apart
    (expiring channel q (queue_of_sender e.channel n.manager) (expired_rows (queue_of_sender e.channel n.manager) n.manager))
senders_by channel q stamp e (does.Begin k count) n apart other =
    sent_none channel q e (does.Begin k count) (parts_of (hold_batch e.channel (unit_named e.machine.kept.session k) count n.manager)) None n apart (ap (λ (b : Bool). (not b && true) && true) other)
senders_by channel q stamp e (does.PushMsg index) n apart other = sent_none channel q e (does.PushMsg index) [] None n apart refl
senders_by channel q stamp e does.Prepare n apart other =
    prepared channel q e (prepare e.channel (number_sent e.machine.state e.machine.kept.last) n.manager) n apart (preparing channel q e.channel (number_sent e.machine.state e.machine.kept.last) (batch_of e.channel n.manager.channels.batches) n.manager)
senders_by channel q stamp e does.PushEnd n apart other = sent_none channel q e does.PushEnd [] (Some (end_frame stamp e.machine)) n apart refl
senders_by channel q stamp e (does.Bound settle partner) n apart other = sent_none channel q e (does.Bound settle partner) (settle_parts_if e settle n.manager) None n apart (settling channel q e settle n.manager apart)
senders_by channel q stamp e does.Commit n apart other = sent_none channel q e does.Commit (settle_parts_if e (Some settles.Commit) n.manager) None n apart (settling channel q e (Some settles.Commit) n.manager apart)
senders_by channel q stamp e (does.Backout reason) n apart other = sent_none channel q e (does.Backout reason) (settle_parts_if e (Some settles.Backout) n.manager) None n apart (settling channel q e (Some settles.Backout) n.manager apart)

pub senders_add_none : (channel q : List ℕ) (stamp : ℕ) (e : SenderEnd) (seen : Seen) (n : Node) → bytes_eq channel e.channel ≡ false → bytes_eq q (queue_of_sender e.channel n.manager) ≡ false → EachAddsNone channel q (sender_deed stamp e seen n)
senders_add_none channel q stamp e seen n apart other = senders_by channel q stamp e (sender_next e.machine seen (stock e.channel n.manager)) n apart other

-- a timeout of another sender
pub timeouts_add_none : (channel q : List ℕ) (e : SenderEnd) (n : Node) → bytes_eq channel e.channel ≡ false → EachAddsNone channel q (timeout_deed e n)
timeouts_add_none channel q e n apart = bool_case (awaits e.machine.state) (λ b. EachAddsNone channel q (if b then Some (after_timeout e (timed_out e.machine) n) else None)) (λ x. leaving channel q e.channel (timed_out e.machine).state n.manager apart) (λ x. tt)
