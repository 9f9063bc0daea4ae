-- Turns of ends, timeouts and commands on ends leave seized queues their senders'.
use Rattle.std.proofs.Common.{ℕ, ◌≡◌, ◌-◌, Bool, true, false, List, [], ◌∷◌, ◌++◌, refl}
use Rattle.std.specs.Prelude.{Option, Some, None, if◌then◌else◌, not}
use Rattle.mq_codes.specs.declared.reason.Reason.{Reason}
use Rattle.mq_frame.specs.declared.frame.Seen.{Seen}
use Rattle.mq_sync.specs.declared.data.End.TheVariants as end_kinds
use Rattle.mq_sync.specs.declared.data.InDoubt.{InDoubt}
use Rattle.mq_sync.specs.declared.unit.Settle.{Settle}
use Rattle.mq_sync.specs.declared.unit.Unit.{Unit as Luw}
use Rattle.mq_sync.specs.Settlement.{is_commit, receiver_or}
use Rattle.mq_sync.specs.Units.{unit_named}
use Rattle.mq_sender.specs.declared.state.SenderState.{SenderState}
use Rattle.mq_sender.specs.declared.turns.SenderDoes.{SenderDoes}
use Rattle.mq_sender.specs.declared.turns.SenderDoes.TheVariants as does
use Rattle.mq_sender.specs.declared.turns.SenderOut.TheVariants as outs
use Rattle.mq_sender.specs.After.{number_sent, sender_after}
use Rattle.mq_sender.specs.States as senders
use Rattle.mq_sender.specs.Table.{sender_next}
use Rattle.mq_receiver.specs.declared.turns.ReceiverDoes.{ReceiverDoes}
use Rattle.mq_receiver.specs.declared.turns.ReceiverDoes.TheVariants as takes
use Rattle.mq_receiver.specs.After.{bound_by, last_by}
use Rattle.mq_receiver.specs.States as receivers
use Rattle.mq_receiver.specs.Table.{receiver_next}
use Rattle.mq_calls.specs.declared.agents.Note.TheVariants as notes
use Rattle.mq_calls.specs.declared.agents.PrepareFault.{PrepareFault}
use Rattle.mq_calls.specs.declared.agents.SeizeFault.{SeizeFault}
use Rattle.mq_calls.specs.declared.deltas.Why.TheVariants as whys
use Rattle.mq_calls.specs.declared.state.Batch.{Batch}
use Rattle.mq_sc_parse.specs.declared.command.Op.{Op}
use Rattle.mq_sc_parse.specs.declared.command.Op.TheVariants as ops
use Rattle.mq_history.specs.declared.acts.OpRefusal.{OpRefusal}
use Rattle.mq_history.specs.declared.acts.OpRefusal.TheVariants as reasons
use Rattle.mq_calls.specs.State.{Plain}
use Rattle.mq_calls.specs.Reads.{batch_of, in_doubt_of, is_up, receiver_data, sender_data}
use Rattle.mq_calls.specs.Steps.{Part, Step, do_all, do_part, refusal, when}
use Rattle.mq_calls.specs.Steps.Step.{Refuse, Do}
use Rattle.mq_spec_manager.specs.Get.{expired_parts}
use Rattle.mq_spec_manager.specs.Agents.{HasSeized, expired_rows, harden, hold_batch, leave, prepare, queue_of_sender, receive, release_of, seize, set_bound, stock}
use Rattle.mq_spec_node.specs.Node.{ChannelEnd, Node, ReceiverEnd, SenderEnd, sender_named, with_end}
use Rattle.mq_spec_node.specs.Node.ChannelEnd.{Receives, Sends}
use Rattle.mq_spec_node.specs.Deeds.{Deed, parts_of}
use Rattle.mq_spec_node.specs.Operators.{close_open, end_here, is_bad_number, is_in_doubt, is_open, limits_here, operate, operate_up, operated, refused_or, reset_end, resolve_doubt, resolve_end, start_end, start_seized, stop_end}
use Rattle.mq_spec_node.specs.Receivers.{bind_parts, close_parts, is_receiver_defined, place_deed, receiver_deed, receiver_deed_by}
use Rattle.mq_spec_node.specs.Senders.{after_timeout, doubted, leave_if_stopped, prepare_deed, sender_deed, sender_deed_by, timeout_deed}
use Rattle.mq_law_manager.specs.Kept.{AllKeep, StepKeeps}
use Rattle.mq_law_manager.proofs.Lists.{bool_case}
use Rattle.mq_law_seized.proofs.Each.{kept_behind, parts_behind}
use Rattle.mq_law_seized.specs.Seized.{AreSeized, is_plain, parts_plain}
use Rattle.mq_law_seized.proofs.Changing.{parts_leave}
use Rattle.mq_law_seized.proofs.Bare.{parts_bare_plain, removal_bare}
use Rattle.mq_law_seized.proofs.Seizing.{hardens, holds_seized, prepares, receives, seizes}
use Rattle.mq_law_unshared.specs.Unshared.{EachLeaves}

-- PARTS BEHIND PARTS
pub behind : (parts : List Part) (p : Plain) → AreSeized p → AllKeep AreSeized parts p → AreSeized (do_all parts p)
behind parts p h k = kept_behind AreSeized parts p h k

all_then : (xs ys : List Part) (p : Plain) → AllKeep AreSeized xs p → AllKeep AreSeized ys (do_all xs p) → AllKeep AreSeized (xs ++ ys) p
all_then [] ys p k l = l
all_then (x ∷ xs) ys p k l = (k.0, all_then xs ys (do_part x p) k.1 l)

leaving_plain : (c : List ℕ) (st : SenderState) (p : Plain) → parts_plain (leave_if_stopped c st p) ≡ true
leaving_plain c st p = bool_case (senders.is_running st) (λ t. parts_plain (if t then [] else parts_of (leave c p)) ≡ true) (λ e. refl) (λ e. refl)

leaving : (c : List ℕ) (st : SenderState) (p q : Plain) → AreSeized q → AllKeep AreSeized (leave_if_stopped c st p) q
leaving c st p q h = parts_leave (leave_if_stopped c st p) q (leaving_plain c st p) h

-- the parts of a step, and then the end may leave its queue
step_then : {F T : Type 0} (s : Step F T) (c : List ℕ) (st : SenderState) (p : Plain) → AreSeized p → StepKeeps AreSeized s p → AllKeep AreSeized (parts_of s ++ leave_if_stopped c st p) p
step_then (Refuse reason) c st p h k = leaving c st p p h
step_then (Do reply parts) c st p h k = all_then parts (leave_if_stopped c st p) p k (leaving c st p (do_all parts p) (behind parts p h k))

release_plain : (c : List ℕ) (o : Option Batch) (p : Plain) → parts_plain (parts_of (release_of c o) ++ parts_of (leave c p)) ≡ true
release_plain c None p = refl
release_plain c (Some b) p = refl

-- A SENDER'S TURN: where it begins a batch, it has seized its queue
prepared : (e : SenderEnd) (s : Step PrepareFault (Unit {0})) (n : Node) → AreSeized n.manager → StepKeeps AreSeized s n.manager → EachLeaves n.manager (Some (prepare_deed e s n))
prepared e (Refuse fault) n h k = parts_leave _ n.manager (release_plain e.channel (batch_of e.channel n.manager.channels.batches) n.manager) h
prepared e (Do reply parts) n h k = all_then parts (leave_if_stopped e.channel (sender_after e.machine does.Prepare outs.Done).state n.manager) n.manager k
    (leaving e.channel (sender_after e.machine does.Prepare outs.Done).state n.manager (do_all parts n.manager) (behind parts n.manager h k))

settled : (e : SenderEnd) (commit : Bool) (st : SenderState) (n : Node) → AreSeized n.manager → AllKeep AreSeized (parts_of (harden e.channel (notes.Resolved (doubted e.machine.kept.doubt) commit false) n.manager) ++ leave_if_stopped e.channel st n.manager) n.manager
settled e commit st n h = step_then (harden e.channel (notes.Resolved (doubted e.machine.kept.doubt) commit false) n.manager) e.channel st n.manager h (hardens e.channel (notes.Resolved (doubted e.machine.kept.doubt) commit false) n.manager h)

sender_by : (stamp : ℕ) (e : SenderEnd) (d : SenderDoes) (n : Node) → HasSeized e.channel n.manager → AreSeized n.manager → EachLeaves n.manager (sender_deed_by stamp e d n)
sender_by stamp e does.Still n g h = tt
sender_by stamp e does.Ignore n g h = tt
sender_by stamp e (does.HardenSession session) n g h = step_then (harden e.channel (notes.Session e.partner session) n.manager) e.channel (sender_after e.machine (does.HardenSession session) outs.Done).state n.manager h (hardens e.channel (notes.Session e.partner session) n.manager h)
sender_by stamp e does.PushBind n g h = leaving e.channel (sender_after e.machine does.PushBind outs.Done).state n.manager n.manager h
sender_by stamp e does.Expire n g h =
    let q : List ℕ = queue_of_sender e.channel n.manager in
    parts_leave (expired_parts q (expired_rows q n.manager) ++ leave_if_stopped e.channel (sender_after e.machine does.Expire outs.Done).state n.manager) n.manager
    (parts_behind is_plain (expired_parts q (expired_rows q n.manager)) (leave_if_stopped e.channel (sender_after e.machine does.Expire outs.Done).state n.manager) (parts_bare_plain (expired_parts q (expired_rows q n.manager)) (removal_bare whys.Expired q (expired_rows q n.manager))) (leaving_plain e.channel (sender_after e.machine does.Expire outs.Done).state n.manager)) h
sender_by stamp e (does.Begin i count) n g h = step_then (hold_batch e.channel (unit_named e.machine.kept.session i) count n.manager) e.channel (sender_after e.machine (does.Begin i count) outs.Done).state n.manager h (holds_seized e.channel (unit_named e.machine.kept.session i) count n.manager g h)
sender_by stamp e (does.PushMsg index) n g h = leaving e.channel (sender_after e.machine (does.PushMsg index) outs.Done).state n.manager n.manager h
sender_by stamp e does.Prepare n g h = prepared e (prepare e.channel (number_sent e.machine.state e.machine.kept.last) n.manager) n h (prepares e.channel (number_sent e.machine.state e.machine.kept.last) n.manager h)
sender_by stamp e does.PushEnd n g h = leaving e.channel (sender_after e.machine does.PushEnd outs.Done).state n.manager n.manager h
sender_by stamp e (does.Bound None partner) n g h = leaving e.channel (sender_after e.machine (does.Bound None partner) outs.Done).state n.manager n.manager h
sender_by stamp e (does.Bound (Some settle) partner) n g h = settled e (is_commit settle) (sender_after e.machine (does.Bound (Some settle) partner) outs.Done).state n h
sender_by stamp e does.Commit n g h = settled e true (sender_after e.machine does.Commit outs.Done).state n h
sender_by stamp e (does.Backout reason) n g h = settled e false (sender_after e.machine (does.Backout reason) outs.Done).state n h

pub sender_leaves : (stamp : ℕ) (e : SenderEnd) (seen : Seen) (n : Node) → HasSeized e.channel n.manager → AreSeized n.manager → EachLeaves n.manager (sender_deed stamp e seen n)
sender_leaves stamp e seen n g h = sender_by stamp e (sender_next e.machine seen (stock e.channel n.manager)) n g h

pub timeout_leaves : (e : SenderEnd) (n : Node) → AreSeized n.manager → EachLeaves n.manager (timeout_deed e n)
timeout_leaves e n h = bool_case (senders.awaits e.machine.state) (λ b. EachLeaves n.manager (if b then Some (after_timeout e (senders.timed_out e.machine) n) else None))
    (λ z. leaving e.channel (senders.timed_out e.machine).state n.manager n.manager h) (λ z. tt)

-- A RECEIVER'S TURN
places : (e : ReceiverEnd) (unit : Luw) (seen : Seen) (s : Step Reason (Unit {0})) (n : Node) → AreSeized n.manager → StepKeeps AreSeized s n.manager → EachLeaves n.manager (Some (place_deed e unit seen s n))
places e unit seen (Refuse reason) n h k = parts_leave (close_parts e n.manager) n.manager refl h
places e unit seen (Do reply parts) n h k = k

receiver_by : (stamp : ℕ) (e : ReceiverEnd) (seen : Seen) (d : ReceiverDoes) (n : Node) → AreSeized n.manager → EachLeaves n.manager (receiver_deed_by stamp e seen d n)
receiver_by stamp e seen takes.Still n h = tt
receiver_by stamp e seen takes.Ignore n h = tt
receiver_by stamp e seen takes.PushOwed n h = tt
receiver_by stamp e seen takes.Bind n h = parts_leave (bind_parts e (bound_by seen e.machine) n.manager) n.manager refl h
receiver_by stamp e seen takes.Keep n h = tt
receiver_by stamp e seen (takes.Place unit) n h = places e unit seen (receive e.channel unit (last_by seen e.machine.last) e.kept n.manager) n h (receives e.channel unit (last_by seen e.machine.last) e.kept n.manager h)
receiver_by stamp e seen takes.Again n h = tt
receiver_by stamp e seen takes.Close n h = parts_leave (close_parts e n.manager) n.manager refl h

pub receiver_leaves : (stamp : ℕ) (e : ReceiverEnd) (seen : Seen) (n : Node) → AreSeized n.manager → EachLeaves n.manager (receiver_deed stamp e seen n)
receiver_leaves stamp e seen n h = receiver_by stamp e seen (receiver_next e.machine seen (is_receiver_defined e.channel n.manager.definitions)) n h

-- COMMANDS
refused_leaves : (o : Option OpRefusal) (n : Node) (d : Deed) → AllKeep AreSeized d.parts n.manager → EachLeaves n.manager (Some (refused_or o n.own d))
refused_leaves None n d k = k
refused_leaves (Some reason) n d k = tt

seized_leaves : (e : SenderEnd) (s : Step SeizeFault (Unit {0})) (n : Node) → StepKeeps AreSeized s n.manager → AllKeep AreSeized (start_seized e s n).parts n.manager
seized_leaves e (Refuse fault) n k = tt
seized_leaves e (Do reply parts) n k = k

starts : (o : Option ChannelEnd) (n : Node) → AreSeized n.manager → EachLeaves n.manager (Some (start_end o n))
starts None n h = tt
starts (Some (Sends e)) n h = refused_leaves (refusal (when (senders.is_running e.machine.state) reasons.Running ∷ [])) n (start_seized e (seize e.channel n.manager) n) (seized_leaves e (seize e.channel n.manager) n (seizes e.channel n.manager h))
starts (Some (Receives e)) n h = refused_leaves (refusal (when (receivers.is_bound e.machine.state) reasons.Running ∷ [])) n (operated [] (with_end (Receives (record e { machine = receivers.started e.machine })) n.own)) tt

close_plain : (e : ReceiverEnd) (p : Plain) → parts_plain (close_open e p) ≡ true
close_plain e p = bool_case (is_open (receiver_data e.channel p))
    (λ t. parts_plain (if t then parts_of (harden e.channel (notes.Closed (receiver_or (receiver_data e.channel p)).session) p) ++ parts_of (set_bound e.channel false p) else parts_of (set_bound e.channel false p)) ≡ true)
    (λ z. refl) (λ z. refl)

stops : (o : Option ChannelEnd) (n : Node) → AreSeized n.manager → EachLeaves n.manager (Some (stop_end o n))
stops None n h = tt
stops (Some (Sends e)) n h = parts_leave _ n.manager (release_plain e.channel (batch_of e.channel n.manager.channels.batches) n.manager) h
stops (Some (Receives e)) n h = parts_leave (close_open e n.manager) n.manager (close_plain e n.manager) h

resets : (seqnum : ℕ) (o : Option ChannelEnd) (n : Node) → AreSeized n.manager → EachLeaves n.manager (Some (reset_end seqnum o n))
resets seqnum None n h = tt
resets seqnum (Some (Sends e)) n h = refused_leaves (refusal (
    when (is_in_doubt e.channel n) reasons.InDoubt
    ∷ when (senders.is_running e.machine.state) reasons.Running
    ∷ when (is_bad_number seqnum (limits_here e.channel n)) reasons.BadNumber
    ∷ [])) n (operated (parts_of (harden e.channel (notes.SeqSet end_kinds.Sender (seqnum - 1)) n.manager)) n.own)
    (hardens e.channel (notes.SeqSet end_kinds.Sender (seqnum - 1)) n.manager h)
resets seqnum (Some (Receives e)) n h = refused_leaves (refusal (
    when (receivers.is_bound e.machine.state) reasons.Running
    ∷ when (is_bad_number seqnum (limits_here e.channel n)) reasons.BadNumber
    ∷ [])) n (operated (parts_of (harden e.channel (notes.SeqSet end_kinds.Receiver (seqnum - 1)) n.manager)) (with_end (Receives (record e { machine = receivers.numbered (seqnum - 1) e.machine })) n.own))
    (hardens e.channel (notes.SeqSet end_kinds.Receiver (seqnum - 1)) n.manager h)

doubt_leaves : (e : SenderEnd) (settle : Settle) (o : Option InDoubt) (n : Node) → AreSeized n.manager → EachLeaves n.manager (Some (resolve_doubt e settle o n))
doubt_leaves e settle None n h = tt
doubt_leaves e settle (Some d) n h = refused_leaves (refusal (when (senders.is_running e.machine.state) reasons.Running ∷ [])) n
    (operated (parts_of (harden e.channel (notes.Resolved d.unit (is_commit settle) true) n.manager)) n.own)
    (hardens e.channel (notes.Resolved d.unit (is_commit settle) true) n.manager h)

resolves : (settle : Settle) (o : Option SenderEnd) (n : Node) → AreSeized n.manager → EachLeaves n.manager (Some (resolve_end settle o n))
resolves settle None n h = tt
resolves settle (Some e) n h = doubt_leaves e settle (in_doubt_of (sender_data e.channel n.manager)) n h

up_leaves : (op : Op) (n : Node) → AreSeized n.manager → EachLeaves n.manager (Some (operate_up op n))
up_leaves (ops.Start channel) n h = starts (end_here channel n) n h
up_leaves (ops.Stop channel) n h = stops (end_here channel n) n h
up_leaves (ops.Reset channel seqnum) n h = resets seqnum (end_here channel n) n h
up_leaves (ops.Resolve channel settle) n h = resolves settle (sender_named channel n.own.ends) n h

pub operates : (op : Op) (n : Node) → AreSeized n.manager → EachLeaves n.manager (Some (operate op n))
operates op n h = refused_leaves (refusal (when (not (is_up n.manager.running)) reasons.Down ∷ [])) n (operate_up op n) (up_leaves op n h)
