-- A sender that runs has its queue open, behind each event of a node: START opens it, and each turn, timeout and command that ends the run
-- leaves it.
use Rattle.std.proofs.Common.{ℕ, ◌≡◌, true, false, List, [], ◌∷◌, ◌++◌, refl, ap, sym, ◌∙◌}
use Rattle.std.proofs.lemmas.Bool.{true≢false}
use Rattle.std.specs.Prelude.{Option, Some, None, ◌||◌, ◌&&◌, if◌then◌else◌, not}
use Rattle.std.specs.Str.{bytes_eq}
use Rattle.mq_base.specs.Members.{Mem}
use Rattle.mq_frame.specs.declared.frame.Seen.{Seen}
use Rattle.mq_objects.specs.Names.{channel_of, local_of}
use Rattle.mq_sync.specs.declared.unit.Settle.{Settle}
use Rattle.mq_sync.specs.Units.{unit_named}
use Rattle.mq_sender.specs.declared.state.Sender.{Sender}
use Rattle.mq_sender.specs.declared.state.SenderState.{SenderState}
use Rattle.mq_sender.specs.declared.turns.SenderDoes.{SenderDoes}
use Rattle.mq_sender.specs.declared.turns.SenderDoes.TheVariants as does
use Rattle.mq_sender.specs.declared.turns.SenderOut.TheVariants as outs
use Rattle.mq_sender.specs.After.{number_sent, sender_after}
use Rattle.mq_sender.specs.States as senders
use Rattle.mq_sender.specs.Table.{sender_next}
use Rattle.mq_calls.specs.declared.agents.Note.TheVariants as notes
use Rattle.mq_calls.specs.declared.agents.PrepareFault.{PrepareFault}
use Rattle.mq_calls.specs.declared.agents.SeizeFault.{SeizeFault}
use Rattle.mq_calls.specs.declared.agents.SeizeFault.TheVariants as seize_faults
use Rattle.mq_calls.specs.declared.deltas.Why.TheVariants as whys
use Rattle.mq_calls.specs.declared.state.Batch.{Batch}
use Rattle.mq_sc_parse.specs.declared.command.Op.{Op}
use Rattle.mq_sc_parse.specs.declared.command.Op.TheVariants as ops
use Rattle.mq_history.specs.declared.acts.OpRefusal.TheVariants as reasons
use Rattle.mq_calls.specs.State.{Plain, Change}
use Rattle.mq_calls.specs.declared.state.Seizure.{Seizure}
use Rattle.mq_calls.specs.State.Change.{Seize, ForgetAll, Unseize}
use Rattle.mq_calls.specs.Reads.{batch_of, has_held_by_other, is_open_for_input, is_up, sender_data}
use Rattle.mq_calls.specs.Steps.{Part, Step, do_all, refusal, refused_or as step_or, silent, when}
use Rattle.mq_calls.specs.Steps.Step.{Do, Refuse}
use Rattle.mq_spec_manager.specs.Get.{expired_parts}
use Rattle.mq_spec_manager.specs.Handles.{is_transmission_queue}
use Rattle.mq_spec_manager.specs.Agents.{HasSeized, channel_queue, expired_rows, harden, hold_batch, leave, prepare, queue_of_sender, release_of, seize, stock}
use Rattle.mq_spec_node.specs.Node.{ChannelEnd, Node, SenderEnd, sender_named, with_end}
use Rattle.mq_spec_node.specs.Node.ChannelEnd.{Receives, Sends}
use Rattle.mq_spec_node.specs.Deeds.{Deed, parts_of}
use Rattle.mq_spec_node.specs.Operators as operators
use Rattle.mq_spec_node.specs.Operators.{limits_here, operate_up, start_end, start_seized, stop_end}
use Rattle.mq_spec_node.specs.Senders.{after_timeout, leave_if_stopped, prepare_deed, sender_deed, sender_deed_by, settle_parts, settle_parts_if, timeout_deed}
use Rattle.mq_law_manager.proofs.Lists.{bool_case}
use Rattle.mq_law_keys.specs.Keys.{IsKeyed}
use Rattle.mq_law_seized.proofs.Seizing.{prepare_bare, release_bare}
use Rattle.mq_law_unshared.specs.Unshared.{AreOpen, parts_still, parts_still_for, is_still, is_still_for}
use Rattle.mq_law_unshared.proofs.Stills.{bare_parts, for_behind, for_parts, parts_have, set_there, for_one}
use Rattle.mq_sync.specs.declared.unit.Settle.TheVariants as settles
use Rattle.mq_law_seized.specs.Each.{is_common, is_written}
use Rattle.mq_law_keys.specs.from_law_node.Deeds.{HoldsBehind}
use Rattle.mq_law_keys.proofs.Keeping.{EachThere, end_there}
use Rattle.mq_law_unshared.specs.Senders.{AreEach, IsLeftBy, IsOpen}
use Rattle.mq_law_unshared.proofs.Senders.{awaits_runs, receiver_starts, receiver_stops, refused_each, removed, resets_each, resolves_each, set_each, settled, turn_has}

-- behind a deed
abbrev pub EachOpen : Node → Option Deed → Type 0
EachOpen n o = HoldsBehind (AreEach IsOpen) n o

-- that it has its queue open, changes leave as they are still
common_still : (c : Change) → is_common c ≡ true → is_still c ≡ true
common_still (Unseize channel) e = absurd cc
common_still ForgetAll e = absurd cc
common_still c e = refl

written_still : (c : Change) → is_written c ≡ true → is_still c ≡ true
written_still (Unseize channel) e = absurd cc
written_still ForgetAll e = absurd cc
written_still c e = refl

pub open_left : IsLeftBy IsOpen is_still is_still_for
open_left = record { wider = for_one; kept = λ e parts p w h on. parts_have e.channel parts p w (h on); common = common_still; written = written_still }

set_open : (n : Node) (e : SenderEnd) (m : Sender) (parts : List Part) → IsKeyed n → Mem (Sends e) n.own.ends → AreOpen n.own.ends n.manager → ((c : List ℕ) → bytes_eq c e.channel ≡ false → parts_still_for c parts ≡ true)
    → (senders.is_running m.state ≡ true → HasSeized e.channel (do_all parts n.manager)) → AreOpen (with_end (Sends (record e { machine = m })) n.own).ends (do_all parts n.manager)
set_open n e m parts h there open_ others mine = set_each IsOpen is_still is_still_for open_left n e m parts h there open_ others mine

-- LEAVING
leave_for : (c e : List ℕ) (p : Plain) → bytes_eq c e ≡ false → parts_still_for c (parts_of (leave e p)) ≡ true
leave_for c e p apart = ap (λ b. (not b && true) && true) apart

leaving_for : (c e : List ℕ) (st : SenderState) (p : Plain) → bytes_eq c e ≡ false → parts_still_for c (leave_if_stopped e st p) ≡ true
leaving_for c e st p apart = bool_case (senders.is_running st) (λ b. parts_still_for c (if b then [] else parts_of (leave e p)) ≡ true) (λ z. refl) (λ z. leave_for c e p apart)

-- A SENDER'S TURN, where it runs
sent_open : (n : Node) (e : SenderEnd) (d : SenderDoes) (parts : List Part) → IsKeyed n → Mem (Sends e) n.own.ends → AreOpen n.own.ends n.manager → senders.is_running e.machine.state ≡ true → parts_still parts ≡ true
    → AreOpen (with_end (Sends (record e { machine = sender_after e.machine d outs.Done })) n.own).ends (do_all (parts ++ leave_if_stopped e.channel (sender_after e.machine d outs.Done).state n.manager) n.manager)
sent_open n e d parts h there open_ runs still =
    let st : SenderState = (sender_after e.machine d outs.Done).state in
    set_open n e (sender_after e.machine d outs.Done) (parts ++ leave_if_stopped e.channel st n.manager) h there open_
    (λ c apart. for_behind c parts (leave_if_stopped e.channel st n.manager) (for_parts c parts still) (leaving_for c e.channel st n.manager apart))
    (λ on. parts_have e.channel (parts ++ leave_if_stopped e.channel st n.manager) n.manager
    (for_behind e.channel parts (leave_if_stopped e.channel st n.manager) (for_parts e.channel parts still) (ap (λ b. parts_still_for e.channel (if b then [] else parts_of (leave e.channel n.manager))) on)) (open_ e there runs))

let_go : (n : Node) (e : SenderEnd) (m : Sender) (o : Option Batch) → IsKeyed n → Mem (Sends e) n.own.ends → AreOpen n.own.ends n.manager → senders.is_running m.state ≡ false
    → AreOpen (with_end (Sends (record e { machine = m })) n.own).ends (do_all (parts_of (release_of e.channel o) ++ parts_of (leave e.channel n.manager)) n.manager)
let_go n e m o h there open_ off = set_open n e m (parts_of (release_of e.channel o) ++ parts_of (leave e.channel n.manager)) h there open_
    (λ c apart. for_behind c (parts_of (release_of e.channel o)) (parts_of (leave e.channel n.manager)) (for_parts c (parts_of (release_of e.channel o)) (bare_parts (release_of e.channel o) (release_bare e.channel o))) (leave_for c e.channel n.manager apart))
    (λ on. absurd (true≢false (sym on ∙ off)))

prepares_open : (n : Node) (e : SenderEnd) (s : Step PrepareFault (Unit {0})) → IsKeyed n → Mem (Sends e) n.own.ends → AreOpen n.own.ends n.manager → senders.is_running e.machine.state ≡ true → parts_still (parts_of s) ≡ true → EachOpen n (Some (prepare_deed e s n))
prepares_open n e (Refuse fault) h there open_ runs still = let_go n e (sender_after e.machine does.Prepare outs.NoRoom) (batch_of e.channel n.manager.channels.batches) h there open_ refl
prepares_open n e (Do reply parts) h there open_ runs still = sent_open n e does.Prepare parts h there open_ runs still

settle_still : (e : SenderEnd) (o : Option Settle) (p : Plain) → parts_still (settle_parts_if e o p) ≡ true
settle_still e o p = settled IsOpen is_still is_still_for open_left e o p

running_by : (stamp : ℕ) (n : Node) (e : SenderEnd) (d : SenderDoes) → IsKeyed n → Mem (Sends e) n.own.ends → AreOpen n.own.ends n.manager → senders.is_running e.machine.state ≡ true → EachOpen n (sender_deed_by stamp e d n)
running_by stamp n e does.Still h there open_ runs = tt
running_by stamp n e does.Ignore h there open_ runs = open_
running_by stamp n e (does.HardenSession session) h there open_ runs = sent_open n e (does.HardenSession session) (parts_of (harden e.channel (notes.Session e.partner session) n.manager)) h there open_ runs refl
running_by stamp n e does.PushBind h there open_ runs = sent_open n e does.PushBind [] h there open_ runs refl
running_by stamp n e does.Expire h there open_ runs = sent_open n e does.Expire (expired_parts (queue_of_sender e.channel n.manager) (expired_rows (queue_of_sender e.channel n.manager) n.manager)) h there open_ runs (removed IsOpen is_still is_still_for open_left whys.Expired (queue_of_sender e.channel n.manager) (expired_rows (queue_of_sender e.channel n.manager) n.manager))
running_by stamp n e (does.Begin k count) h there open_ runs = sent_open n e (does.Begin k count) (parts_of (hold_batch e.channel (unit_named e.machine.kept.session k) count n.manager)) h there open_ runs refl
running_by stamp n e (does.PushMsg index) h there open_ runs = sent_open n e (does.PushMsg index) [] h there open_ runs refl
running_by stamp n e does.Prepare h there open_ runs =
    let s : Step PrepareFault (Unit {0}) = prepare e.channel (number_sent e.machine.state e.machine.kept.last) n.manager in
    prepares_open n e s h there open_ runs (bare_parts s (prepare_bare e.channel (number_sent e.machine.state e.machine.kept.last) (batch_of e.channel n.manager.channels.batches) n.manager))
running_by stamp n e does.PushEnd h there open_ runs = sent_open n e does.PushEnd [] h there open_ runs refl
running_by stamp n e (does.Bound settle partner) h there open_ runs = sent_open n e (does.Bound settle partner) (settle_parts_if e settle n.manager) h there open_ runs (settle_still e settle n.manager)
running_by stamp n e does.Commit h there open_ runs = sent_open n e does.Commit (settle_parts e true n.manager) h there open_ runs (settle_still e (Some settles.Commit) n.manager)
running_by stamp n e (does.Backout reason) h there open_ runs = sent_open n e (does.Backout reason) (settle_parts e false n.manager) h there open_ runs (settle_still e (Some settles.Backout) n.manager)

pub sender_opens : (stamp : ℕ) (n : Node) (e : SenderEnd) (seen : Seen) → IsKeyed n → Mem (Sends e) n.own.ends → AreOpen n.own.ends n.manager → EachOpen n (sender_deed stamp e seen n)
sender_opens stamp n e seen h there open_ = turn_has (EachOpen n) stamp e seen n tt open_ (λ on. running_by stamp n e (sender_next e.machine seen (stock e.channel n.manager)) h there open_ on)

-- A TIMEOUT
pub timeout_opens : (n : Node) (e : SenderEnd) → IsKeyed n → Mem (Sends e) n.own.ends → AreOpen n.own.ends n.manager → EachOpen n (timeout_deed e n)
timeout_opens n e h there open_ = bool_case (senders.awaits e.machine.state) (λ b. senders.awaits e.machine.state ≡ b → EachOpen n (if b then Some (after_timeout e (senders.timed_out e.machine) n) else None))
    (λ z w.
    let m : Sender = senders.timed_out e.machine in
    set_open n e m (leave_if_stopped e.channel m.state n.manager) h there open_ (λ c apart. leaving_for c e.channel m.state n.manager apart)
    (λ on. parts_have e.channel (leave_if_stopped e.channel m.state n.manager) n.manager (ap (λ b. parts_still_for e.channel (if b then [] else parts_of (leave e.channel n.manager))) on) (open_ e there (awaits_runs e.machine.state w))))
    (λ z w. tt) refl

-- START
abbrev Opens : SenderEnd → Plain → Step SeizeFault (Unit {0}) → Type 0
Opens e p (Refuse fault) = Unit {0}
Opens e p (Do reply parts) = ((c : List ℕ) → parts_still_for c parts ≡ true) × HasSeized e.channel (do_all parts p)

refused_opens : (e : SenderEnd) (p : Plain) (o : Option SeizeFault) (s : Step SeizeFault (Unit {0})) → Opens e p s → Opens e p (step_or o s)
refused_opens e p None s k = k
refused_opens e p (Some fault) s k = tt

seize_opens : (e : SenderEnd) (p : Plain) → Opens e p (seize e.channel p)
seize_opens e p =
    let queue : List ℕ = channel_queue (channel_of e.channel p.definitions) in
    let new : Seizure = record { channel = e.channel; queue = queue } in
    refused_opens e p (refusal (when (not (is_transmission_queue (local_of queue p.definitions))) seize_faults.BadQueue
    ∷ when (is_open_for_input queue p || has_held_by_other e.channel queue p) seize_faults.QueueInUse
    ∷ [])) (Do tt (silent (Seize new ∷ []) ∷ [])) ((λ c. refl), set_there new p.channels.seizures)

seized_open : (n : Node) (e : SenderEnd) (s : Step SeizeFault (Unit {0})) → IsKeyed n → Mem (Sends e) n.own.ends → AreOpen n.own.ends n.manager → Opens e n.manager s → EachOpen n (Some (start_seized e s n))
seized_open n e (Refuse fault) h there open_ k = open_
seized_open n e (Do reply parts) h there open_ k = set_open n e (senders.started (senders.kept_of (sender_data e.channel n.manager)) (limits_here e.channel n)) parts h there open_ (λ c apart. k.0 c) (λ on. k.1)

starts : (n : Node) (o : Option ChannelEnd) → IsKeyed n → EachThere n o → AreOpen n.own.ends n.manager → EachOpen n (Some (start_end o n))
starts n None h there open_ = open_
starts n (Some (Sends e)) h there open_ = refused_each IsOpen is_still is_still_for open_left n (refusal (when (senders.is_running e.machine.state) reasons.Running ∷ [])) (start_seized e (seize e.channel n.manager) n) open_ (seized_open n e (seize e.channel n.manager) h there open_ (seize_opens e n.manager))
starts n (Some (Receives e)) h there open_ = receiver_starts IsOpen is_still is_still_for open_left n e open_

stops : (n : Node) (o : Option ChannelEnd) → IsKeyed n → EachThere n o → AreOpen n.own.ends n.manager → EachOpen n (Some (stop_end o n))
stops n None h there open_ = open_
stops n (Some (Sends e)) h there open_ = let_go n e (senders.stopped e.machine) (batch_of e.channel n.manager.channels.batches) h there open_ refl
stops n (Some (Receives e)) h there open_ = receiver_stops IsOpen is_still is_still_for open_left n e open_

up_opens : (op : Op) (n : Node) → IsKeyed n → AreOpen n.own.ends n.manager → EachOpen n (Some (operate_up op n))
up_opens (ops.Start channel) n h open_ = starts n (operators.end_here channel n) h (end_there channel n) open_
up_opens (ops.Stop channel) n h open_ = stops n (operators.end_here channel n) h (end_there channel n) open_
up_opens (ops.Reset channel seqnum) n h open_ = resets_each IsOpen is_still is_still_for open_left seqnum n (operators.end_here channel n) open_
up_opens (ops.Resolve channel settle) n h open_ = resolves_each IsOpen is_still is_still_for open_left settle n (sender_named channel n.own.ends) open_

pub operate_opens : (op : Op) (n : Node) → IsKeyed n → AreOpen n.own.ends n.manager → EachOpen n (Some (operators.operate op n))
operate_opens op n h open_ = refused_each IsOpen is_still is_still_for open_left n (refusal (when (not (is_up n.manager.running)) reasons.Down ∷ [])) (operate_up op n) open_ (up_opens op n h open_)
