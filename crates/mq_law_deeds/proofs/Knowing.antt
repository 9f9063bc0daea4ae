-- Each deed that is no turn or timeout of a sender's end is an operator's command on it, or leaves it alone.
use Rattle.std.proofs.Common.{◌∙◌, ℕ, ◌≡◌, ◌⊎◌, Bool, true, false, List, [], ◌∷◌, ◌++◌, refl, sym, subst, inl, inr}
use Rattle.std.specs.Prelude.{Option, Some, None, if◌then◌else◌, not, ◌==◌, ◌||◌}
use Rattle.std.specs.Str.{bytes_eq}
use Rattle.mq_frame.specs.declared.frame.Seen.{Seen}
use Rattle.mq_objects.specs.Names.{channel_of}
use Rattle.mq_sync.specs.declared.unit.Settle.{Settle}
use Rattle.mq_sync.specs.declared.unit.Settle.TheVariants as settles
use Rattle.mq_sync.specs.declared.data.InDoubt.{InDoubt}
use Rattle.mq_sync.specs.Settlement.{receiver_or}
use Rattle.mq_calls.specs.declared.agents.Note.TheVariants as notes
use Rattle.mq_calls.specs.declared.agents.SeizeFault.{SeizeFault}
use Rattle.mq_calls.specs.declared.agents.SeizeFault.TheVariants as seize_faults
use Rattle.mq_sc_parse.specs.declared.command.Op.{Op}
use Rattle.mq_sc_parse.specs.declared.command.Op.TheVariants as ops
use Rattle.mq_history.specs.declared.acts.OpRefusal.{OpRefusal}
use Rattle.mq_history.specs.declared.acts.OpRefusal.TheVariants as reasons
use Rattle.mq_history.specs.declared.calls.Actor.{Actor}
use Rattle.mq_history.specs.declared.calls.Call.{Call}
use Rattle.mq_sender.specs.States as senders
use Rattle.mq_sender.specs.Table.{sender_next}
use Rattle.mq_receiver.specs.States as receivers
use Rattle.mq_receiver.specs.Table.{receiver_next}
use Rattle.mq_calls.specs.State.Change.{Seize}
use Rattle.mq_calls.specs.Reads.{batch_of, in_doubt_of, is_up, receiver_data, sender_data}
use Rattle.mq_calls.specs.Steps.{Step, refusal, silent, refused_or as steps_refused_or}
use Rattle.mq_calls.specs.Steps.Step.{Refuse, Do}
use Rattle.mq_spec_manager.specs.Agents.{channel_queue, harden, leave, release_of, seize, set_bound, stock}
use Rattle.mq_spec_node.specs.Node.{Node, ReceiverEnd, SenderEnd, receiver_end, sender_end, sender_named}
use Rattle.mq_spec_node.specs.Node.ChannelEnd.{Sends, Receives}
use Rattle.mq_spec_node.specs.Deeds.{Deed, parts_of}
use Rattle.mq_spec_node.specs.Senders.{after_timeout, sender_deed, timeout_deed}
use Rattle.mq_spec_node.specs.Receivers.{is_receiver_defined, receiver_deed}
use Rattle.mq_spec_node.specs.Operators.{close_open, end_here, is_bad_number, is_in_doubt, is_open, limits_here, operate, operate_up, refused_or, reset_end, resolve_doubt, resolve_end, start_end, start_seized, stop_end}
use Rattle.mq_spec_node.specs.Happens.{deed_of, receiver_turn, sender_turn, timeout_of}
use Rattle.mq_sender.specs.States.{awaits, timed_out}
use Rattle.mq_law_channel.specs.Channel.{Channel}
use Rattle.mq_law_node.specs.Beside.{DoesNear, EachDoes, KeyedNear, is_ours}
use Rattle.mq_law_node.specs.Ends.{SendsAs, Where}
use Rattle.mq_law_node.specs.Quiet.{IsOrdinary}
use Rattle.mq_law_node.proofs.Deeds.{deed_has}
use Rattle.mq_law_node.proofs.Named.{bool_case}
use Rattle.mq_law_node.proofs.NearDoes.{here_case, named_case, near_does_all, option_case, reset_apart, reset_moves, reset_taking, resolve_apart, resolve_moves, start_apart, start_moves, start_taking, stop_apart, stop_moves, stop_taking, seize_tests}
use Rattle.mq_law_node.proofs.Aside.{EachApart, timeouts_apart, turns_apart}
use Rattle.mq_law_node.proofs.Ordinary.{ordinary_is_quiet}
use Rattle.mq_law_turns.specs.Turns.{EachForOthers, parts_for_others}
use Rattle.mq_law_turns.proofs.Reading.{leaving_others, parts_behind, receivers_others, released_others, senders_others, stays}
use Rattle.mq_law_deeds.specs.Deeds.{EachKnown}
use Rattle.mq_law_deeds.proofs.Resting.{EachRests, apart_rests, quiet_rests, takes_rests}

-- it rests on the channel, or is of its end
abbrev EachStill : Where → Node → Channel → Option Deed → Type 0
EachStill w n c None = Unit {0}
EachStill w n c (Some d) = (EachRests w n (Some d)) ⊎ (DoesNear w n d c)

rests : (w : Where) (n : Node) (c : Channel) (o : Option Deed) → EachRests w n o → EachStill w n c o
rests w n c None r = tt
rests w n c (Some d) r = inl r

-- OPERATORS ON OTHER ENDS
refused_others : (c : List ℕ) (n : Node) (o : Option OpRefusal) (d : Deed) → EachForOthers c (Some d) → EachForOthers c (Some (refused_or o n.own d))
refused_others c n None d f = f
refused_others c n (Some reason) d f = refl

abbrev StepForOthers : List ℕ → Step SeizeFault (Unit {0}) → Type 0
StepForOthers c (Refuse fault) = Unit {0}
StepForOthers c (Do reply parts) = parts_for_others c parts ≡ true

seize_refused : (c : List ℕ) (o : Option SeizeFault) (s : Step SeizeFault (Unit {0})) → StepForOthers c s → StepForOthers c (steps_refused_or o s)
seize_refused c None s h = h
seize_refused c (Some fault) s h = tt

seize_others : (c channel : List ℕ) (n : Node) → StepForOthers c (seize channel n.manager)
seize_others c channel n = seize_refused c (refusal (seize_tests channel (channel_queue (channel_of channel n.manager.definitions)) n.manager))
    (Do tt (silent (Seize (record { channel = channel; queue = channel_queue (channel_of channel n.manager.definitions) }) ∷ []) ∷ [])) refl

seized_others : (c : List ℕ) (e : SenderEnd) (s : Step SeizeFault (Unit {0})) (n : Node) → StepForOthers c s → EachForOthers c (Some (start_seized e s n))
seized_others c e (Refuse fault) n h = refl
seized_others c e (Do reply parts) n h = h

start_others : (c : List ℕ) (e : SenderEnd) (n : Node) → EachForOthers c (Some (start_end (Some (Sends e)) n))
start_others c e n = refused_others c n (if senders.is_running e.machine.state then Some reasons.Running else None) (start_seized e (seize e.channel n.manager) n) (seized_others c e (seize e.channel n.manager) n (seize_others c e.channel n))

stop_others : (c : List ℕ) (e : SenderEnd) (n : Node) → EachForOthers c (Some (stop_end (Some (Sends e)) n))
stop_others c e n = parts_behind c (parts_of (release_of e.channel (batch_of e.channel n.manager.channels.batches))) (parts_of (leave e.channel n.manager)) (released_others c e.channel (batch_of e.channel n.manager.channels.batches)) refl

reset_others : (c : List ℕ) (e : SenderEnd) (seqnum : ℕ) (n : Node) → EachForOthers c (Some (reset_end seqnum (Some (Sends e)) n))
reset_others c e seqnum n = refused_others c n
    (if is_in_doubt e.channel n then Some reasons.InDoubt else (if senders.is_running e.machine.state then Some reasons.Running else (if is_bad_number seqnum (limits_here e.channel n) then Some reasons.BadNumber else None))) _ refl

resolve_others : (c : List ℕ) (e : SenderEnd) (settle : Settle) (o : Option InDoubt) (n : Node) → EachForOthers c (Some (resolve_doubt e settle o n))
resolve_others c e settle None n = refl
resolve_others c e settles.Commit (Some d) n = refused_others c n (if senders.is_running e.machine.state then Some reasons.Running else None) _ refl
resolve_others c e settles.Backout (Some d) n = refused_others c n (if senders.is_running e.machine.state then Some reasons.Running else None) _ refl

start_taking_others : (c : List ℕ) (e : ReceiverEnd) (n : Node) → EachForOthers c (Some (start_end (Some (Receives e)) n))
start_taking_others c e n = refused_others c n (if receivers.is_bound e.machine.state then Some reasons.Running else None) _ refl

close_others : (c : List ℕ) (e : ReceiverEnd) (n : Node) → parts_for_others c (close_open e n.manager) ≡ true
close_others c e n = bool_case (is_open (receiver_data e.channel n.manager))
    (λ b. parts_for_others c (if b then parts_of (harden e.channel (notes.Closed (receiver_or (receiver_data e.channel n.manager)).session) n.manager) ++ parts_of (set_bound e.channel false n.manager) else parts_of (set_bound e.channel false n.manager)) ≡ true)
    (λ z. refl) (λ z. refl)

reset_taking_others : (c : List ℕ) (e : ReceiverEnd) (seqnum : ℕ) (n : Node) → EachForOthers c (Some (reset_end seqnum (Some (Receives e)) n))
reset_taking_others c e seqnum n = refused_others c n (if receivers.is_bound e.machine.state then Some reasons.Running else (if is_bad_number seqnum (limits_here e.channel n) then Some reasons.BadNumber else None)) _ refl

-- BY NAME
abbrev Still : Where → Node → Channel → Deed → Type 0
Still w n c d = EachStill w n c (Some d)

apart : (w : Where) (n : Node) (c : Channel) (d : Deed) → EachApart w n (Some d) → EachForOthers w.channel (Some d) → Still w n c d
apart w n c d a f = rests w n c (Some d) (apart_rests w n (Some d) a f)

start_known : (w : Where) (n : Node) (c : Channel) (name : List ℕ) → KeyedNear w n → SendsAs w n c → is_up n.manager.running ≡ true → Still w n c (start_end (end_here name n) n)
start_known w n c name k h up = here_case name (channel_of name n.manager.definitions) n.own.ends (λ o. Still w n c (start_end o n))
    (inl (refl, refl))
    (λ e is. named_case w n c name e (λ x. Still w n c (start_end (Some (Sends x)) n)) k h is (inr (start_moves w n c h up)) (λ cable other. apart w n c (start_end (Some (Sends e)) n) (start_apart w e n cable) (start_others w.channel e n)))
    (λ e is. apart w n c (start_end (Some (Receives e)) n) (start_taking w e n (k.receivers name e is)) (start_taking_others w.channel e n))

stop_known : (w : Where) (n : Node) (c : Channel) (name : List ℕ) → KeyedNear w n → SendsAs w n c → is_up n.manager.running ≡ true → Still w n c (stop_end (end_here name n) n)
stop_known w n c name k h up = here_case name (channel_of name n.manager.definitions) n.own.ends (λ o. Still w n c (stop_end o n))
    (inl (refl, refl))
    (λ e is. named_case w n c name e (λ x. Still w n c (stop_end (Some (Sends x)) n)) k h is (inr (stop_moves w n c h up)) (λ cable other. apart w n c (stop_end (Some (Sends e)) n) (stop_apart w e n cable other) (stop_others w.channel e n)))
    (λ e is. apart w n c (stop_end (Some (Receives e)) n) (stop_taking w e n (k.receivers name e is)) (close_others w.channel e n))

reset_known : (w : Where) (n : Node) (c : Channel) (name : List ℕ) (seqnum : ℕ) → KeyedNear w n → SendsAs w n c → is_up n.manager.running ≡ true → Still w n c (reset_end seqnum (end_here name n) n)
reset_known w n c name seqnum k h up = here_case name (channel_of name n.manager.definitions) n.own.ends (λ o. Still w n c (reset_end seqnum o n))
    (inl (refl, refl))
    (λ e is. named_case w n c name e (λ x. Still w n c (reset_end seqnum (Some (Sends x)) n)) k h is (inr (reset_moves w n c seqnum h up)) (λ cable other. apart w n c (reset_end seqnum (Some (Sends e)) n) (reset_apart w e seqnum n other) (reset_others w.channel e seqnum n)))
    (λ e is. apart w n c (reset_end seqnum (Some (Receives e)) n) (reset_taking w e seqnum n (k.receivers name e is)) (reset_taking_others w.channel e seqnum n))

resolve_known : (w : Where) (n : Node) (c : Channel) (name : List ℕ) (settle : Settle) → KeyedNear w n → SendsAs w n c → is_up n.manager.running ≡ true → Still w n c (resolve_end settle (sender_named name n.own.ends) n)
resolve_known w n c name settle k h up = option_case (sender_named name n.own.ends) (λ o. Still w n c (resolve_end settle o n))
    (λ is. inl (refl, refl))
    (λ e is. named_case w n c name e (λ x. Still w n c (resolve_end settle (Some x) n)) k h is
    (inr (resolve_moves w n c settle (in_doubt_of (sender_data w.channel n.manager)) h up refl))
    (λ cable other. apart w n c (resolve_doubt e settle (in_doubt_of (sender_data e.channel n.manager)) n) (resolve_apart w e settle (in_doubt_of (sender_data e.channel n.manager)) n other) (resolve_others w.channel e settle (in_doubt_of (sender_data e.channel n.manager)) n)))

operates_up : (w : Where) (n : Node) (c : Channel) (op : Op) → KeyedNear w n → SendsAs w n c → is_up n.manager.running ≡ true → Still w n c (operate_up op n)
operates_up w n c (ops.Start name) k h up = start_known w n c name k h up
operates_up w n c (ops.Stop name) k h up = stop_known w n c name k h up
operates_up w n c (ops.Reset name seqnum) k h up = reset_known w n c name seqnum k h up
operates_up w n c (ops.Resolve name settle) k h up = resolve_known w n c name settle k h up

operates : (w : Where) (n : Node) (c : Channel) (op : Op) → KeyedNear w n → SendsAs w n c → is_up n.manager.running ≡ true → Still w n c (operate op n)
operates w n c op k h up = subst (λ (b : Bool). Still w n c (refused_or (if not b then Some reasons.Down else None) n.own (operate_up op n))) (sym up) (operates_up w n c op k h up)

-- TURNS OF OTHER ENDS
other_turn : (w : Where) (stamp : ℕ) (seen : Seen) (n : Node) (c : Channel) (o : Option SenderEnd) → ((e : SenderEnd) → o ≡ Some e → ((e.cable == w.cable) ≡ false) × (bytes_eq w.channel e.channel ≡ false)) → EachStill w n c (sender_turn stamp o seen n)
other_turn w stamp seen n c None k = tt
other_turn w stamp seen n c (Some e) k = rests w n c (sender_deed stamp e seen n) (apart_rests w n (sender_deed stamp e seen n) (turns_apart w stamp e seen n (k e refl).0 (k e refl).1)
    (senders_others w.channel stamp e (sender_next e.machine seen (stock e.channel n.manager)) n (k e refl).1))

timeout_others : (c : List ℕ) (e : SenderEnd) (n : Node) → EachForOthers c (timeout_deed e n)
timeout_others c e n = bool_case (awaits e.machine.state) (λ b. EachForOthers c (if b then Some (after_timeout e (timed_out e.machine) n) else None)) (λ z. leaving_others c e.channel (timed_out e.machine).state n.manager) (λ z. tt)

other_timeout : (w : Where) (n : Node) (c : Channel) (o : Option SenderEnd) → ((e : SenderEnd) → o ≡ Some e → (e.cable == w.cable) ≡ false) → EachStill w n c (timeout_of o n)
other_timeout w n c None k = tt
other_timeout w n c (Some e) k = rests w n c (timeout_deed e n) (apart_rests w n (timeout_deed e n) (timeouts_apart w e n (k e refl)) (timeout_others w.channel e n))

other_taking : (w : Where) (stamp : ℕ) (seen : Seen) (n : Node) (c : Channel) (o : Option ReceiverEnd) → EachStill w n c (receiver_turn stamp o seen n)
other_taking w stamp seen n c None = tt
other_taking w stamp seen n c (Some e) =
    let d = receiver_next e.machine seen (is_receiver_defined e.channel n.manager.definitions) in
    rests w n c (receiver_deed stamp e seen n) (takes_rests w stamp e seen d n (receivers_others w.channel stamp e seen d n))

ordinary : (w : Where) (stamp : ℕ) (actor : Actor) (call : Call) (seen : Seen) (n : Node) (c : Channel) → IsOrdinary actor call → EachStill w n c (deed_of stamp actor call seen n)
ordinary w stamp actor call seen n c o = rests w n c (deed_of stamp actor call seen n) (quiet_rests w n (deed_of stamp actor call seen n) (ordinary_is_quiet stamp actor call seen n o))

-- ALL DEEDS
still_all : (w : Where) (stamp : ℕ) (actor : Actor) (call : Call) (seen : Seen) (n : Node) (c : Channel) → KeyedNear w n → SendsAs w n c → is_up n.manager.running ≡ true → is_ours w.cable actor call ≡ false
    → EachStill w n c (deed_of stamp actor call seen n)
still_all w stamp actor call seen n c k h up other = deed_has (EachStill w n c) stamp actor call seen n (record {
  none = tt;
  ordinary = λ o. ordinary w stamp actor call seen n c o;
  sends = λ cable f g. other_turn w stamp seen n c (sender_end cable n.own) (λ e is. k.turns cable e is ((λ i. is_ours w.cable (sym f i) (sym g i)) ∙ other));
  takes = λ cable f g. other_taking w stamp seen n c (receiver_end cable n.own);
  times = λ cable f g. other_timeout w n c (sender_end cable n.own) (λ e is. (k.turns cable e is ((λ i. is_ours w.cable (sym f i) (sym g i)) ∙ other)).0);
  operates = λ op f. operates w n c op k h up;
})

known : (w : Where) (n : Node) (c : Channel) (o : Option Deed) → EachDoes w n c o → EachStill w n c o → EachKnown w n c o
known w n c None does still = tt
known w n c (Some d) does (inl r) = λ before after. does (stays w.channel n.manager d.parts before after r.1 r.0)
known w n c (Some d) does (inr m) = λ before after. m

pub known_all : (w : Where) (stamp : ℕ) (actor : Actor) (call : Call) (seen : Seen) (n : Node) (c : Channel) → KeyedNear w n → SendsAs w n c → is_up n.manager.running ≡ true → is_ours w.cable actor call ≡ false
    → EachKnown w n c (deed_of stamp actor call seen n)
known_all w stamp actor call seen n c k h up other = known w n c (deed_of stamp actor call seen n) (near_does_all w stamp actor call seen n c k h up other) (still_all w stamp actor call seen n c k h up other)
