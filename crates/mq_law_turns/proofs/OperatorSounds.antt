-- What holds of a manager holds behind each command of an operator on an end of its.
use Rattle.std.proofs.Common.{ℕ, ◌≡◌, ◌-◌, true, false, not, List, [], ◌∷◌, ◌++◌, refl, ap}
use Rattle.std.specs.Prelude.{Option, Some, None, if◌then◌else◌}
use Rattle.std.specs.Option.{option_map}
use Rattle.mq_sync.specs.declared.unit.Settle.{Settle}
use Rattle.mq_sync.specs.declared.data.End.TheVariants as end_kinds
use Rattle.mq_sync.specs.declared.data.InDoubt.{InDoubt}
use Rattle.mq_sync.specs.Settlement.{is_commit, receiver_or}
use Rattle.mq_sender.specs.States as senders
use Rattle.mq_receiver.specs.States as receivers
use Rattle.mq_sc_parse.specs.declared.command.Op.{Op}
use Rattle.mq_sc_parse.specs.declared.command.Op.TheVariants as ops
use Rattle.mq_history.specs.declared.acts.OpRefusal.{OpRefusal}
use Rattle.mq_history.specs.declared.acts.OpRefusal.TheVariants as reasons
use Rattle.mq_calls.specs.declared.agents.Note.TheVariants as notes
use Rattle.mq_calls.specs.declared.agents.SeizeFault.{SeizeFault}
use Rattle.mq_calls.specs.declared.state.Batch.{Batch}
use Rattle.mq_calls.specs.State.{Plain}
use Rattle.mq_calls.specs.Reads.{batch_of, in_doubt_of, is_up, receiver_data, sender_data}
use Rattle.mq_calls.specs.Steps.{Step, do_all, refusal, when}
use Rattle.mq_calls.specs.Steps.Step.{Refuse, Do}
use Rattle.mq_spec_manager.specs.Conditions.{unit_of}
use Rattle.mq_spec_manager.specs.Agents.{harden, leave, release_batch, seize, set_bound}
use Rattle.mq_spec_node.specs.Node.{ChannelEnd, Node, ReceiverEnd, SenderEnd, sender_named, with_end}
use Rattle.mq_spec_node.specs.Node.ChannelEnd.{Receives, Sends}
use Rattle.mq_spec_node.specs.Deeds.{Deed, parts_of}
use Rattle.mq_spec_node.specs.Operators.{close_open, end_here, is_bad_number, is_in_doubt, is_open, limits_here, operate, operate_up, operated, refused_or, reset_end, resolve_doubt, resolve_end, start_end, start_seized, stop_end}
use Rattle.mq_law_story.proofs.from_law_rows.Lists.{bool_case}
use Rattle.mq_law_manager.specs.Facts.{IsSound}
use Rattle.mq_law_manager.specs.Kept.{AllKeep, StepKeeps}
use Rattle.mq_law_manager.proofs.Batches.{harden_keeps}
use Rattle.mq_law_manager.proofs.Ending.{done, joined}
use Rattle.mq_law_manager.proofs.Handling.{seize_keeps, set_bound_keeps}
use Rattle.mq_law_manager.proofs.Stocks.{bound_stocked, seize_stocked}
use Rattle.mq_law_turns.specs.Turns.{EachSound}
use Rattle.mq_law_turns.proofs.Parts.{not_doubted}
use Rattle.mq_law_turns.proofs.Sounds.{all_then, hardens_sound, leave_sound, releases_sound, words_sound}

-- a refusal does nothing
refused_sound : (o : Option OpRefusal) (n : Node) (d : Deed) → AllKeep IsSound d.parts n.manager → EachSound n.manager (Some (refused_or o n.own d))
refused_sound None n d k = k
refused_sound (Some reason) n d k = tt

-- START
seized_sound : (e : SenderEnd) (s : Step SeizeFault (Unit {0})) (n : Node) → StepKeeps IsSound s n.manager → AllKeep IsSound (start_seized e s n).parts n.manager
seized_sound e (Refuse fault) n k = tt
seized_sound e (Do reply parts) n k = k

starts_sound : (o : Option ChannelEnd) (n : Node) → IsSound n.manager → EachSound n.manager (Some (start_end o n))
starts_sound None n h = tt
starts_sound (Some (Sends e)) n h = refused_sound (refusal (when (senders.is_running e.machine.state) reasons.Running ∷ [])) n (start_seized e (seize e.channel n.manager) n)
    (seized_sound e (seize e.channel n.manager) n (joined (seize e.channel n.manager) n.manager h (seize_keeps e.channel n.manager h.facts) (seize_stocked e.channel n.manager h.stocked)))
starts_sound (Some (Receives e)) n h = refused_sound (refusal (when (receivers.is_bound e.machine.state) reasons.Running ∷ [])) n (operated [] (with_end (Receives (record e { machine = receivers.started e.machine })) n.own)) tt

-- STOP
released_sound : {F T : Type 0} (s : Step F T) (c : List ℕ) (p : Plain) → IsSound p → StepKeeps IsSound s p → AllKeep IsSound (parts_of s ++ parts_of (leave c p)) p
released_sound (Refuse reason) c p h k = leave_sound c p h
released_sound (Do reply parts) c p h k = all_then parts (parts_of (leave c p)) p k (leave_sound c (do_all parts p) (done parts p h k))

closes_sound : (e : ReceiverEnd) (p : Plain) → IsSound p → AllKeep IsSound (close_open e p) p
closes_sound e p h = bool_case (is_open (receiver_data e.channel p))
    (λ t. AllKeep IsSound (if t then parts_of (harden e.channel (notes.Closed (receiver_or (receiver_data e.channel p)).session) p) ++ parts_of (set_bound e.channel false p) else parts_of (set_bound e.channel false p)) p)
    (λ z. words_sound e.channel (notes.Closed (receiver_or (receiver_data e.channel p)).session) false p h (hardens_sound e.channel (notes.Closed (receiver_or (receiver_data e.channel p)).session) p h (h.facts, tt)))
    (λ z. joined (set_bound e.channel false p) p h (set_bound_keeps e.channel false p h.facts) (bound_stocked e.channel false p h.stocked))

stops_sound : (o : Option ChannelEnd) (n : Node) → IsSound n.manager → EachSound n.manager (Some (stop_end o n))
stops_sound None n h = tt
stops_sound (Some (Sends e)) n h = released_sound (release_batch e.channel n.manager) e.channel n.manager h (releases_sound e.channel n.manager h)
stops_sound (Some (Receives e)) n h = closes_sound e n.manager h

-- RESET
resets_sound : (seqnum : ℕ) (o : Option ChannelEnd) (n : Node) → IsSound n.manager → EachSound n.manager (Some (reset_end seqnum o n))
resets_sound seqnum None n h = tt
resets_sound seqnum (Some (Sends e)) n h = bool_case (is_in_doubt e.channel n)
    (λ t. is_in_doubt e.channel n ≡ t → EachSound n.manager (Some (refused_or (if t then Some reasons.InDoubt else refusal (when (senders.is_running e.machine.state) reasons.Running ∷ when (is_bad_number seqnum (limits_here e.channel n)) reasons.BadNumber ∷ [])) n.own
    (operated (parts_of (harden e.channel (notes.SeqSet end_kinds.Sender (seqnum - 1)) n.manager)) n.own))))
    (λ z f. tt)
    (λ z f. refused_sound (refusal (when (senders.is_running e.machine.state) reasons.Running ∷ when (is_bad_number seqnum (limits_here e.channel n)) reasons.BadNumber ∷ [])) n
    (operated (parts_of (harden e.channel (notes.SeqSet end_kinds.Sender (seqnum - 1)) n.manager)) n.own)
    (hardens_sound e.channel (notes.SeqSet end_kinds.Sender (seqnum - 1)) n.manager h
    (harden_keeps e.channel (notes.SeqSet end_kinds.Sender (seqnum - 1)) n.manager (not_doubted (in_doubt_of (sender_data e.channel n.manager)) f) h.facts))) refl
resets_sound seqnum (Some (Receives e)) n h = refused_sound (refusal (when (receivers.is_bound e.machine.state) reasons.Running ∷ when (is_bad_number seqnum (limits_here e.channel n)) reasons.BadNumber ∷ [])) n
    (operated (parts_of (harden e.channel (notes.SeqSet end_kinds.Receiver (seqnum - 1)) n.manager)) (with_end (Receives (record e { machine = receivers.numbered (seqnum - 1) e.machine })) n.own))
    (hardens_sound e.channel (notes.SeqSet end_kinds.Receiver (seqnum - 1)) n.manager h (h.facts, tt))

-- RESOLVE: beside a unit in doubt no batch is held
no_batch : (o : Option Batch) → ((b : Batch) → o ≡ Some b → ⊥) → o ≡ None
no_batch None f = refl
no_batch (Some b) f = absurd (f b refl)

some_none : (d : InDoubt) (o : Option InDoubt) → o ≡ Some d → o ≡ None → ⊥
some_none d o e f = cc

resolves_sound : (e : SenderEnd) (settle : Settle) (o : Option InDoubt) (n : Node) → IsSound n.manager → in_doubt_of (sender_data e.channel n.manager) ≡ o → EachSound n.manager (Some (resolve_doubt e settle o n))
resolves_sound e settle None n h is = tt
resolves_sound e settle (Some d) n h is =
    let free : batch_of e.channel n.manager.channels.batches ≡ None = no_batch (batch_of e.channel n.manager.channels.batches) (λ b f. some_none d (in_doubt_of (sender_data e.channel n.manager)) is (h.facts.batched.one e.channel b f)) in
    refused_sound (refusal (when (senders.is_running e.machine.state) reasons.Running ∷ [])) n
    (operated (parts_of (harden e.channel (notes.Resolved d.unit (is_commit settle) true) n.manager)) n.own)
    (hardens_sound e.channel (notes.Resolved d.unit (is_commit settle) true) n.manager h
    (harden_keeps e.channel (notes.Resolved d.unit (is_commit settle) true) n.manager (ap (option_map unit_of) is, free) h.facts))

resolve_sound : (settle : Settle) (o : Option SenderEnd) (n : Node) → IsSound n.manager → EachSound n.manager (Some (resolve_end settle o n))
resolve_sound settle None n h = tt
resolve_sound settle (Some e) n h = resolves_sound e settle (in_doubt_of (sender_data e.channel n.manager)) n h refl

operates_up : (op : Op) (n : Node) → IsSound n.manager → EachSound n.manager (Some (operate_up op n))
operates_up (ops.Start channel) n h = starts_sound (end_here channel n) n h
operates_up (ops.Stop channel) n h = stops_sound (end_here channel n) n h
operates_up (ops.Reset channel seqnum) n h = resets_sound seqnum (end_here channel n) n h
operates_up (ops.Resolve channel settle) n h = resolve_sound settle (sender_named channel n.own.ends) n h

pub operates : (op : Op) (n : Node) → IsSound n.manager → EachSound n.manager (Some (operate op n))
operates op n h = refused_sound (refusal (when (not (is_up n.manager.running)) reasons.Down ∷ [])) n (operate_up op n) (operates_up op n h)
