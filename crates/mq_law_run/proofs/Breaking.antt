-- The stopped write of a command on an end, as a move of the network.
use Rattle.std.proofs.Common.{ℕ, ◌≡◌, ◌⊎◌, ◌-◌, Bool, true, false, List, [], ◌∷◌, ◌++◌, refl, ap, sym, subst, ◌∙◌, inl, inr}
use Rattle.std.specs.Prelude.{Option, Some, None, ◌==◌, ◌&&◌, ◌||◌, if◌then◌else◌, map, not}
use Rattle.std.specs.Option.{option_map}
use Rattle.std.specs.Str.{bytes_eq}
use Rattle.mq_disk.specs.declared.cutter.Stop.{Stop}
use Rattle.mq_message.specs.declared.place.Holder.TheVariants as holders
use Rattle.mq_objects.specs.Names.{channel_of, local_of}
use Rattle.mq_sync.specs.declared.data.End.TheVariants as end_kinds
use Rattle.mq_sync.specs.declared.data.InDoubt.{InDoubt}
use Rattle.mq_sync.specs.declared.data.ReceiverData.{ReceiverData}
use Rattle.mq_sync.specs.declared.unit.Settle.{Settle}
use Rattle.mq_sync.specs.declared.unit.Settle.TheVariants as settles
use Rattle.mq_sync.specs.declared.unit.Unit.{Unit as Luw}
use Rattle.mq_sync.specs.Settlement.{is_commit, receiver_or}
use Rattle.mq_sender.specs.declared.state.Kept.{Kept}
use Rattle.mq_sender.specs.States as senders
use Rattle.mq_receiver.specs.States as receivers
use Rattle.mq_calls.specs.declared.agents.Note.TheVariants as notes
use Rattle.mq_calls.specs.declared.agents.SeizeFault.{SeizeFault}
use Rattle.mq_calls.specs.declared.agents.SeizeFault.TheVariants as seize_faults
use Rattle.mq_calls.specs.declared.choices.Choice.TheVariants.{NoMemory, Runs, Stopped}
use Rattle.mq_calls.specs.declared.deltas.Did.{Did}
use Rattle.mq_calls.specs.declared.deltas.Did.TheVariants as did
use Rattle.mq_sc_parse.specs.declared.command.Command.TheVariants as lines
use Rattle.mq_sc_parse.specs.declared.command.Op.{Op}
use Rattle.mq_sc_parse.specs.declared.command.Op.TheVariants as ops
use Rattle.mq_history.specs.declared.acts.Act.TheVariants as acts
use Rattle.mq_history.specs.declared.acts.OpRefusal.{OpRefusal}
use Rattle.mq_history.specs.declared.acts.OpRefusal.TheVariants as reasons
use Rattle.mq_history.specs.declared.calls.Call.{Call}
use Rattle.mq_history.specs.declared.calls.Call.TheVariants as calls
use Rattle.mq_history.specs.declared.calls.Chance.{Chance}
use Rattle.mq_history.specs.declared.calls.Chance.TheVariants as chances
use Rattle.mq_history.specs.declared.history.History.{History}
use Rattle.mq_history.specs.declared.scenario.CableLine.{CableLine}
use Rattle.mq_history.specs.declared.scenario.Scenario.{Scenario}
use Rattle.mq_history.specs.Scenarios.{IsScenario}
use Rattle.mq_calls.specs.State.{Plain, Running}
use Rattle.mq_calls.specs.declared.state.Batch.{Batch}
use Rattle.mq_calls.specs.declared.state.Seizure.{Seizure}
use Rattle.mq_calls.specs.State.Change.{Seize}
use Rattle.mq_calls.specs.State.Running.{Down, Up}
use Rattle.mq_calls.specs.Reads.{batch_of, has_held_by_other, in_doubt_of, is_open_for_input, is_up, receiver_data, sender_data}
use Rattle.mq_calls.specs.Steps.{IsWrite, Part, refusal, refused_or as step_or, silent, when}
use Rattle.mq_calls.specs.Steps.Step.{Do}
use Rattle.mq_spec_manager.specs.Handles.{is_transmission_queue}
use Rattle.mq_spec_manager.specs.Agents.{channel_queue, harden, held_rows, leave, release_of, seize, set_bound, settle_did, unit_of}
use Rattle.mq_spec_network.specs.Conflict.{Deed as ToldDeed, NoConflict, deeds}
use Rattle.mq_spec_network.specs.Promised.{Premises}
use Rattle.mq_spec_network.specs.Standing.{node_after}
use Rattle.mq_spec_network.specs.Order.{sent_idents}
use Rattle.mq_spec_network.specs.Story.{Line, Mem}
use Rattle.mq_spec_node.specs.Node.{ChannelEnd, Node, Own, ReceiverEnd, SenderEnd, sender_named, with_end}
use Rattle.mq_spec_node.specs.Node.ChannelEnd.{Receives, Sends}
use Rattle.mq_spec_node.specs.Deeds.{CanCome, Deed, done, parts_of}
use Rattle.mq_spec_node.specs.Happens.{IsEvent, event}
use Rattle.mq_spec_node.specs.Operators.{close_open, end_here, is_bad_number, is_in_doubt, is_open, limits_here, operate, operate_up, operated, refused, refused_or, reset_end, resolve_doubt, resolve_end, start_end, start_seized, stop_end}
use Rattle.mq_spec_node.specs.Replays.{done_by}
use Rattle.mq_law_channel.specs.Channel.{Channel}
use Rattle.mq_law_channel.specs.Turns as channels
use Rattle.mq_law_channel.specs.Turns.{ReceiverTurn, data_settled}
use Rattle.mq_law_channel.proofs.Told.{Doubted, doubt_is}
use Rattle.mq_law_manager.specs.Facts.{IsSound}
use Rattle.mq_law_manager.specs.Kept.{AllKeep}
use Rattle.mq_law_manager.proofs.Lists.{mem_behind}
use Rattle.mq_law_node.specs.Data.{receives_at, sends_at}
use Rattle.mq_law_node.specs.Ends.{SendsAs, Sent, Taken as Took, TakesAs, Where, receiver_of, sender_of, told_receives}
use Rattle.mq_law_node.specs.Moves.{FarStep, NearMay, NearStep, far_does, near_does}
use Rattle.mq_law_node.specs.Nodes.{FarMayLater, Single, unforced}
use Rattle.mq_law_node.proofs.Aside.{EachApart, asides}
use Rattle.mq_law_node.proofs.AsideTakings.{set_receiving}
use Rattle.mq_law_node.proofs.FarAside.{EachFarApart, far_asides, set_taking}
use Rattle.mq_law_node.proofs.Named.{bool_case}
use Rattle.mq_law_node.proofs.NearDoes.{close_apart, here_case}
use Rattle.mq_law_node.proofs.Operators.{closed_at, closed_is_told, doubt_there, open_there, reset_deed, resolve_deed, resolves_batch, resolves_data, resting_apart}
use Rattle.mq_law_node.proofs.ReceiverTurns.{arrives, end_taken, found_receiver}
use Rattle.mq_law_node.proofs.SenderTurns.{found_data, leaves}
use Rattle.mq_law_deeds.proofs.from_law_keys.Telling.{receiver_mem, sender_mem}
use Rattle.mq_law_stopped.specs.from_law_turns.Turns.{parts_for_others}
use Rattle.mq_law_stopped.proofs.from_law_turns.FarOperating.{closed_unit}
use Rattle.mq_law_stopped.proofs.from_law_turns.OperatorSounds.{operates}
use Rattle.mq_law_stopped.proofs.from_law_turns.Reading.{stays}
use Rattle.mq_law_deeds.proofs.Resting.{apart_batch}
use Rattle.mq_law_deeds.proofs.Sounding.{behind}
use Rattle.mq_law_stopped.specs.Noted.{EachFirst, IsOfEnd, SaysSender}
use Rattle.mq_law_stopped.specs.Noted.SenderKind.{Numbers, Resolves}
use Rattle.mq_law_stopped.proofs.Leaving.{hardened_calm, settled_lasts, word_lasts}
use Rattle.mq_law_one.proofs.Running.{Told_}
use Rattle.mq_law_run.specs.Run.{Moves, Stand, far_at, is_stopped_call, near_at}
use Rattle.mq_law_run.proofs.Commanding.{up_so}
use Rattle.mq_law_run.proofs.Cutting.{SaysFar, SaysNear, SaysWord, each_first, far_cut, near_cut, none_written}
use Rattle.mq_law_stopped.proofs.from_law_found.Going.{left_row}
use Rattle.mq_law_run.proofs.Lining.{else_channel, else_index}
use Rattle.mq_law_run.proofs.Listing.{batch_told}
use Rattle.mq_law_run.proofs.Obeying.{obey_acts, of_receiver, of_sender, remembers, slice_at}
use Rattle.mq_law_run.proofs.Receiving.{channel_else}
use Rattle.mq_law_run.proofs.Running.{sends_here, sound_at, takes_here}
use Rattle.mq_law_run.proofs.Serving as serving
use Rattle.mq_law_run.proofs.Serving.{close_far, close_others, closed_told}

-- WHAT THE STOP OF SUCH A WRITE ASKS FOR, on a sender's end and on a receiver's
record BreaksNear (w : Where) (n : Node) (c : Channel) (left : ℕ) (d : Deed) : Type 0 where
  step : NearStep
  may : NearMay step c
  sent : Sent w n d c.out (near_does step c)
  single : Single d.parts d.pushed
  says : EachFirst (SaysSender w.channel left n.manager c step) d.parts
  near : (v : Where) → (w.cable == v.cable) ≡ false → bytes_eq v.channel w.channel ≡ false → EachApart v n (Some d)
  others : (v : Where) → parts_for_others v.channel d.parts ≡ true
  far : (v : Where) → (w.cable == v.cable) ≡ false → EachFarApart v n (Some d)

record BreaksFar (w : Where) (n : Node) (c : Channel) (d : Deed) : Type 0 where
  step : FarStep
  may : FarMayLater step c
  plain : (o : ReceiverTurn) → step ≡ FarStep.Turn o → ⊥
  took : Took w n d c.back (far_does step c)
  single : Single d.parts d.pushed
  says : EachFirst (SaysWord w.channel n.manager c step) d.parts
  near : (v : Where) → (w.cable == v.cable) ≡ false → EachApart v n (Some d)
  others : (v : Where) → parts_for_others v.channel d.parts ≡ true
  far : (v : Where) → (w.cable == v.cable) ≡ false → bytes_eq v.channel w.channel ≡ false → EachFarApart v n (Some d)

-- what writes nothing is not stopped
abbrev Breaks : Where → Node → Channel → ℕ → Deed → Type 0
Breaks w n c left d = (unforced d.parts ≡ true) ⊎ BreaksNear w n c left d

abbrev BreaksTaking : Where → Node → Channel → Deed → Type 0
BreaksTaking w n c d = (unforced d.parts ≡ true) ⊎ BreaksFar w n c d

-- WHAT WRITES NOTHING
refused_unforced : (o : Option OpRefusal) (own : Own) (d : Deed) → unforced d.parts ≡ true → unforced (refused_or o own d).parts ≡ true
refused_unforced None own d h = h
refused_unforced (Some reason) own d h = refl

seized_unforced : (e : SenderEnd) (v : Seizure) (o : Option SeizeFault) (n : Node) → unforced (start_seized e (step_or o (Do tt (silent (Seize v ∷ []) ∷ []))) n).parts ≡ true
seized_unforced e v None n = refl
seized_unforced e v (Some fault) n = refl

start_unforced : (o : Option ChannelEnd) (n : Node) → unforced (start_end o n).parts ≡ true
start_unforced None n = refl
start_unforced (Some (Sends e)) n =
    let queue : List ℕ = channel_queue (channel_of e.channel n.manager.definitions) in
    refused_unforced (refusal (when (senders.is_running e.machine.state) reasons.Running ∷ [])) n.own (start_seized e (seize e.channel n.manager) n)
    (seized_unforced e (record { channel = e.channel; queue = queue }) (refusal (
    when (not (is_transmission_queue (local_of queue n.manager.definitions))) seize_faults.BadQueue
    ∷ when (is_open_for_input queue n.manager || has_held_by_other e.channel queue n.manager) seize_faults.QueueInUse
    ∷ [])) n)
start_unforced (Some (Receives e)) n = refused_unforced (refusal (when (receivers.is_bound e.machine.state) reasons.Running ∷ [])) n.own (operated [] (with_end (Receives (record e { machine = receivers.started e.machine })) n.own)) refl

release_unforced : (c : List ℕ) (o : Option Batch) (p : Plain) → unforced (parts_of (release_of c o) ++ parts_of (leave c p)) ≡ true
release_unforced c None p = refl
release_unforced c (Some b) p = refl

-- RESET of a sender's end
numbers_broken : (w : Where) (n : Node) (c : Channel) (left seqnum : ℕ) → SendsAs w n c → is_up n.manager.running ≡ true → Breaks w n c left (reset_end seqnum (Some (Sends (sender_of w c.sender))) n)
numbers_broken w n c left seqnum h up = bool_case (is_in_doubt w.channel n)
    (λ b. Breaks w n c left (refused_or (if b then Some reasons.InDoubt else (if senders.is_running c.sender.state then Some reasons.Running else (if is_bad_number seqnum (limits_here w.channel n) then Some reasons.BadNumber else None))) n.own (reset_deed w seqnum n)))
    (λ e. inl refl)
    (λ e. bool_case (senders.is_running c.sender.state)
    (λ b. senders.is_running c.sender.state ≡ b → Breaks w n c left (refused_or (if b then Some reasons.Running else (if is_bad_number seqnum (limits_here w.channel n) then Some reasons.BadNumber else None)) n.own (reset_deed w seqnum n)))
    (λ f z. inl refl)
    (λ f off. bool_case (is_bad_number seqnum (limits_here w.channel n))
    (λ b. Breaks w n c left (refused_or (if b then Some reasons.BadNumber else None) n.own (reset_deed w seqnum n)))
    (λ g. inl refl)
    (λ g. inr (record {
      step = NearStep.Number (seqnum - 1);
      may = off;
      sent = leaves w n (reset_deed w seqnum n) c (record c.sends { last = seqnum - 1; force = true }) c.sender c.batch c.out up h.here
          (ap (λ (k : Kept). record k { last = seqnum - 1; force = true }) h.data_ ∙ found_data w.channel (record (sends_at w.channel n.manager) { last = seqnum - 1; force = true }) (sender_data w.channel n.manager))
          (λ z. absurd (cc (z, resting_apart c.sender.state off)))
          (λ z. h.unbatched z)
          refl;
      single = (refl, refl, λ z. refl);
      says = λ r f. (Numbers (seqnum - 1) refl refl, word_lasts w.channel (notes.SeqSet end_kinds.Sender (seqnum - 1)) n.manager tt, refl);
      near = λ v z f. (refl, ap (λ (b : Bool). (not b && true) && true) f);
      others = λ v. refl;
      far = λ v z. (refl, refl);
    }))) refl)

-- RESOLVE
resolve_apart : (settle : Settle) (w v : Where) (d : InDoubt) (n : Node) → bytes_eq v.channel w.channel ≡ false → EachApart v n (Some (resolve_deed w settle d n))
resolve_apart settles.Backout w v d n f = (refl, ap (λ (b : Bool). (not b && true) && true) f)
resolve_apart settles.Commit w v d n f = (refl, ap (λ (b : Bool). (not b && true) && true) f)

resolve_others : (settle : Settle) (w v : Where) (d : InDoubt) (n : Node) → parts_for_others v.channel (resolve_deed w settle d n).parts ≡ true
resolve_others settles.Backout w v d n = refl
resolve_others settles.Commit w v d n = refl

resolve_far : (settle : Settle) (w v : Where) (d : InDoubt) (n : Node) → EachFarApart v n (Some (resolve_deed w settle d n))
resolve_far settles.Backout w v d n = (refl, refl)
resolve_far settles.Commit w v d n = (refl, refl)

resolves_broken : (w : Where) (n : Node) (c : Channel) (left : ℕ) (settle : Settle) (o : Option InDoubt) → SendsAs w n c → is_up n.manager.running ≡ true → in_doubt_of (sender_data w.channel n.manager) ≡ o → Breaks w n c left (resolve_doubt (sender_of w c.sender) settle o n)
resolves_broken w n c left settle None h up so = inl refl
resolves_broken w n c left settle (Some d) h up so =
    let there : senders.doubt_of c.sends.in_doubt ≡ Some (record { unit = d.unit; last = d.last }) =
    ap (λ (k : Kept). k.doubt) h.data_ ∙ ap senders.doubt_of (sym (doubt_there (sender_data w.channel n.manager)) ∙ so) in
    let own : Doubted c.sends.in_doubt (record { unit = d.unit; last = d.last }) = doubt_is c.sends.in_doubt (record { unit = d.unit; last = d.last }) there in
    let commit : Bool = is_commit settle in
    let told : List Did = map (settle_did commit) (held_rows (holders.Batch w.channel) n.manager) in
    bool_case (senders.is_running c.sender.state)
    (λ b. senders.is_running c.sender.state ≡ b → Breaks w n c left (refused_or (if b then Some reasons.Running else None) n.own (resolve_deed w settle d n)))
    (λ f z. inl refl)
    (λ f off. inr (record {
      step = NearStep.Resolve settle own.data_;
      may = (off, own.is);
      sent = leaves w n (resolve_deed w settle d n) c (data_settled (Some settle) c.sends) c.sender c.batch c.out up h.here
          (resolves_data w settle d n.manager c.sends h.data_)
          (λ z. absurd (cc (z, resting_apart c.sender.state off)))
          (λ z. resolves_batch w settle d n.manager _ ∙ h.unbatched z)
          refl;
      single = (refl, refl, λ z. refl);
      says = λ r g. (
        Resolves settle own.data_ refl (h.unbatched (resting_apart c.sender.state off)) refl
            (subst (λ (u : Luw). Mem (did.Hardened w.channel (notes.Resolved u commit true)) (told ++ did.Hardened w.channel (notes.Resolved d.unit commit true) ∷ [])) (sym own.unit)
            (mem_behind (did.Hardened w.channel (notes.Resolved d.unit commit true)) told (did.Hardened w.channel (notes.Resolved d.unit commit true) ∷ []) (inl refl)))
            (λ f q x k e. subst (λ (t : Bool). Mem x.message.ident (sent_idents (map (settle_did t) (held_rows (holders.Batch w.channel) n.manager) ++ did.Hardened w.channel (notes.Resolved d.unit t true) ∷ []))) (sym f)
            (batch_told w.channel n.manager (did.Hardened w.channel (notes.Resolved d.unit true true) ∷ []) q x (left_row n.manager q x k) e)),
        settled_lasts w.channel d.unit commit true n.manager (ap (option_map unit_of) so) (h.unbatched (resting_apart c.sender.state off)),
        hardened_calm w.channel (notes.Resolved d.unit commit true) n.manager,
      );
      near = λ v z e. resolve_apart settle w v d n e;
      others = λ v. resolve_others settle w v d n;
      far = λ v z. resolve_far settle w v d n;
    })) refl

-- STOP of a receiver's end
stop_plain : (o : ReceiverTurn) → FarStep.Stop ≡ FarStep.Turn o → ⊥
stop_plain o e = cc

number_plain : (last : ℕ) (o : ReceiverTurn) → FarStep.Number last ≡ FarStep.Turn o → ⊥
number_plain last o e = cc

abbrev closing : ReceiverEnd → Plain → Bool → List Part
closing e p b = if b then parts_of (harden e.channel (notes.Closed (receiver_or (receiver_data e.channel p)).session) p) ++ parts_of (set_bound e.channel false p) else parts_of (set_bound e.channel false p)

close_single : (e : ReceiverEnd) (p : Plain) → Single (close_open e p) None
close_single e p = bool_case (is_open (receiver_data e.channel p)) (λ b. Single (closing e p b) None) (λ z. (refl, refl, λ y. refl)) (λ z. (refl, refl, λ y. refl))

close_says : (w : Where) (n : Node) (c : Channel) → EachFirst (SaysWord w.channel n.manager c FarStep.Stop) (close_open (receiver_of w c.receiver c.kept) n.manager)
close_says w n c = bool_case (is_open (receiver_data w.channel n.manager)) (λ b. EachFirst (SaysWord w.channel n.manager c FarStep.Stop) (closing (receiver_of w c.receiver c.kept) n.manager b))
    (λ z r f. ((notes.Closed (receiver_or (receiver_data w.channel n.manager)).session, tt, refl), closed_unit (channels.is_open c.receives) c.receives, λ t u e g i. stop_plain t e))
    (λ z r f. absurd cc)

stops_broken : (w : Where) (n : Node) (c : Channel) → TakesAs w n c → is_up n.manager.running ≡ true → BreaksTaking w n c (stop_end (Some (Receives (receiver_of w c.receiver c.kept))) n)
stops_broken w n c h up = inr (record {
  step = FarStep.Stop;
  may = tt;
  plain = stop_plain;
  took = arrives w n (stop_end (Some (Receives (receiver_of w c.receiver c.kept))) n) c (if channels.is_open c.receives then record c.receives { closed = true } else c.receives) (receivers.stopped c.receiver) [] c.back up
      (end_taken w n _ c.receiver [] c.kept h.here)
      (closed_is_told (channels.is_open c.receives) c.receives ∙ ap closed_told h.data_
      ∙ sym (closed_is_told (channels.is_open (receives_at w.channel n.manager)) (receives_at w.channel n.manager))
      ∙ ap (λ (b : Bool). told_receives (if b then record (receives_at w.channel n.manager) { closed = true } else receives_at w.channel n.manager)) (sym (open_there (receiver_data w.channel n.manager)))
      ∙ closed_at w c.receiver c.kept n.manager (is_open (receiver_data w.channel n.manager)))
      refl;
  single = close_single (receiver_of w c.receiver c.kept) n.manager;
  says = close_says w n c;
  near = λ v e. (set_receiving v (receiver_of w (receivers.stopped c.receiver) []) n e, close_apart v (receiver_of w c.receiver c.kept) n);
  others = λ v. close_others v.channel (receiver_of w c.receiver c.kept) n.manager;
  far = λ v e f. (set_taking v (receiver_of w (receivers.stopped c.receiver) []) n e, close_far v.channel (receiver_of w c.receiver c.kept) n.manager f);
})

-- RESET of one
taking_numbers : (w : Where) (n : Node) (c : Channel) (seqnum : ℕ) → TakesAs w n c → is_up n.manager.running ≡ true → BreaksTaking w n c (reset_end seqnum (Some (Receives (receiver_of w c.receiver c.kept))) n)
taking_numbers w n c seqnum h up = bool_case (receivers.is_bound c.receiver.state)
    (λ b. BreaksTaking w n c (refused_or (if b then Some reasons.Running else (if is_bad_number seqnum (limits_here w.channel n) then Some reasons.BadNumber else None)) n.own (serving.reset_deed w seqnum n c)))
    (λ e. inl refl)
    (λ e. bool_case (is_bad_number seqnum (limits_here w.channel n))
    (λ b. BreaksTaking w n c (refused_or (if b then Some reasons.BadNumber else None) n.own (serving.reset_deed w seqnum n c)))
    (λ g. inl refl)
    (λ g. inr (record {
      step = FarStep.Number (seqnum - 1);
      may = tt;
      plain = number_plain (seqnum - 1);
      took = arrives w n (serving.reset_deed w seqnum n c) c (record c.receives { last = seqnum - 1 }) (receivers.numbered (seqnum - 1) c.receiver) c.kept c.back up
          (end_taken w n _ c.receiver c.kept c.kept h.here)
          (ap (λ (d : ReceiverData). record d { last = seqnum - 1 }) h.data_ ∙ found_receiver w.channel (record (receives_at w.channel n.manager) { last = seqnum - 1 }) (receiver_data w.channel n.manager))
          refl;
      single = (refl, refl, λ z. refl);
      says = λ r f. ((notes.SeqSet end_kinds.Receiver (seqnum - 1), tt, refl), refl, λ t u a b i. number_plain (seqnum - 1) t a);
      near = λ v a. (set_receiving v (receiver_of w (receivers.numbered (seqnum - 1) c.receiver) c.kept) n a, refl);
      others = λ v. refl;
      far = λ v a f. (set_taking v (receiver_of w (receivers.numbered (seqnum - 1) c.receiver) c.kept) n a, ap (λ (b : Bool). (not b && true) && true) f);
    })))

-- AS MOVES
record IsBroken (s : Scenario) (p : List Line) (x : Line) (h : History) (op : Op) (by_ : Stop) (n_ left : ℕ) : Type 0 where
  up : (node_after s x.manager p h).manager.running ≡ Up
  call : x.entry.call ≡ calls.Act (acts.Obey (lines.Operate op))
  is : done_by x.entry (node_after s x.manager p h) ≡ done (operate op (node_after s x.manager p h)) (Stopped by_ n_ left) (node_after s x.manager p h)
  can : CanCome (operate op (node_after s x.manager p h)) (Stopped by_ n_ left) (node_after s x.manager p h)

near_broken : (s : Scenario) (hs : List History) (p : List Line) (x : Line) (z : Stand s hs p) (t : Told_ s hs p x) (i : ℕ) (k : CableLine) (op : Op) (by_ : Stop) (n_ left : ℕ) → IsScenario s → slice_at s i k → k.sender ≡ x.manager → IsBroken s p x t.h op by_ n_ left
    → Breaks (near_at s i k) (node_after s x.manager p t.h) (z.xs k.sender k.channel) left (operate op (node_after s x.manager p t.h)) → Moves s hs p x t.h z
near_broken s hs p x z t i k op by_ n_ left scenario e q o (inl u) = absurd (none_written n_ (operate op (node_after s x.manager p t.h)).parts u o.can.0)
near_broken s hs p x z t i k op by_ n_ left scenario e q o (inr v) =
    let n : Node = node_after s x.manager p t.h in
    let d : Deed = operate op n in
    let c : Channel = z.xs k.sender k.channel in
    let sound : IsSound n.manager = sound_at s hs p x z t o.up in
    let keeps : AllKeep IsSound d.parts n.manager = operates op n sound in
    let after = behind d.parts n.manager sound keeps in
    near_cut s hs p x z t i k d by_ n_ left v.step scenario e q o.up o.is o.can (subst IsOfEnd (sym o.call) tt) sound keeps v.single v.may v.sent
    (each_first (SaysSender k.channel left n.manager c v.step) (SaysNear x.manager x.entry k.channel left n.manager c v.step) d.parts (λ part r h. inl h) v.says)
    (λ j h f out a.
    let u : Where = near_at s j h in
    let g : EachApart u n (Some d) = v.near u (else_index s i j k h e f out) (else_channel k h (a ∙ sym q) out) in
    asides u n d g.0 g.1 (stays u.channel n.manager d.parts sound after (apart_batch u n d g.1) (v.others u)))
    (λ j h f out a.
    let u : Where = far_at s j h in
    let g : EachFarApart u n (Some d) = v.far u (else_index s i j k h e f out) in
    far_asides u n d g.0 g.1)

far_broken : (s : Scenario) (hs : List History) (p : List Line) (x : Line) (z : Stand s hs p) (t : Told_ s hs p x) (i : ℕ) (k : CableLine) (op : Op) (by_ : Stop) (n_ left : ℕ) → IsScenario s → slice_at s i k → k.receiver ≡ x.manager → IsBroken s p x t.h op by_ n_ left
    → BreaksTaking (far_at s i k) (node_after s x.manager p t.h) (z.xs k.sender k.channel) (operate op (node_after s x.manager p t.h)) → Moves s hs p x t.h z
far_broken s hs p x z t i k op by_ n_ left scenario e q o (inl u) = absurd (none_written n_ (operate op (node_after s x.manager p t.h)).parts u o.can.0)
far_broken s hs p x z t i k op by_ n_ left scenario e q o (inr v) =
    let n : Node = node_after s x.manager p t.h in
    let d : Deed = operate op n in
    let sound : IsSound n.manager = sound_at s hs p x z t o.up in
    let keeps : AllKeep IsSound d.parts n.manager = operates op n sound in
    let after = behind d.parts n.manager sound keeps in
    far_cut s hs p x z t i k d by_ n_ left v.step scenario e q o.up o.is o.can (subst IsOfEnd (sym o.call) tt) (inl v.plain) sound keeps v.single v.may v.took
    (λ a u at out place. absurd (v.plain a at))
    (each_first (SaysWord k.channel n.manager (z.xs k.sender k.channel) v.step) (SaysFar (deeds p) k.sender d.received k.channel n.manager (z.xs k.sender k.channel) v.step) d.parts (λ part r h. inl h) v.says)
    (λ j h f out a.
    let u : Where = near_at s j h in
    let g : EachApart u n (Some d) = v.near u (else_index s i j k h e f out) in
    asides u n d g.0 g.1 (stays u.channel n.manager d.parts sound after (apart_batch u n d g.1) (v.others u)))
    (λ j h f out a.
    let u : Where = far_at s j h in
    let ne = else_index s i j k h e f out in
    let g : EachFarApart u n (Some d) = v.far u ne (channel_else s i j k h scenario e f ne) in
    far_asides u n d g.0 g.1)

pub obey_breaks : (s : Scenario) (hs : List History) (p : List Line) (x : Line) (z : Stand s hs p) (t : Told_ s hs p x) (op : Op) (by_ : Stop) (n_ left : ℕ) → IsScenario s → x.entry.call ≡ calls.Act (acts.Obey (lines.Operate op)) → x.entry.chance ≡ chances.Call (Stopped by_ n_ left) → Moves s hs p x t.h z
obey_breaks s hs p x z t op by_ n_ left scenario call chance = by_running (node_after s x.manager p t.h).manager.running refl
  where
    can : CanCome (operate op (node_after s x.manager p t.h)) (Stopped by_ n_ left) (node_after s x.manager p t.h)
    can = subst (λ (c : Chance). IsEvent x.entry.stamp x.entry.actor (calls.Act (acts.Obey (lines.Operate op))) c x.entry.effect.popped (node_after s x.manager p t.h)) chance
        (subst (λ (c : Call). IsEvent x.entry.stamp x.entry.actor c x.entry.chance x.entry.effect.popped (node_after s x.manager p t.h)) call t.tells.event)

    is : done_by x.entry (node_after s x.manager p t.h) ≡ done (operate op (node_after s x.manager p t.h)) (Stopped by_ n_ left) (node_after s x.manager p t.h)
    is = (λ i. event x.entry.stamp x.entry.actor (call i) (chance i) x.entry.effect.popped (node_after s x.manager p t.h)) ∙ remembers x.entry.actor op (done (operate op (node_after s x.manager p t.h)) (Stopped by_ n_ left) (node_after s x.manager p t.h)) (λ m. refl)

    nothing : (d : Deed) → operate op (node_after s x.manager p t.h) ≡ d → unforced d.parts ≡ true → Moves s hs p x t.h z
    nothing d e u = absurd (none_written n_ d.parts u (subst (λ (o : Deed). IsWrite n_ o.parts) e can.0))

    broken : (node_after s x.manager p t.h).manager.running ≡ Up → IsBroken s p x t.h op by_ n_ left
    broken up = record { up = up; call = call; is = is; can = can }

    up_is : (node_after s x.manager p t.h).manager.running ≡ Up → (o : Op) → op ≡ o → operate op (node_after s x.manager p t.h) ≡ operate_up o (node_after s x.manager p t.h)
    up_is up o e = sym (up_so op (node_after s x.manager p t.h) (ap is_up up)) ∙ ap (λ (v : Op). operate_up v (node_after s x.manager p t.h)) e

    by_running : (v : Running) → (node_after s x.manager p t.h).manager.running ≡ v → Moves s hs p x t.h z
    by_running (Down noted starts) down = nothing (refused reasons.Down (node_after s x.manager p t.h).own) (ap (λ (v : Running). refused_or (refusal (when (not (is_up v)) reasons.Down ∷ [])) (node_after s x.manager p t.h).own (operate_up op (node_after s x.manager p t.h))) down) refl
    by_running Up up = by_op op refl
      where
        ends : List ChannelEnd
        ends = (node_after s x.manager p t.h).own.ends

        near : (d : Deed) (i : ℕ) (k : CableLine) → slice_at s i k → k.sender ≡ x.manager → operate op (node_after s x.manager p t.h) ≡ d → (SendsAs (near_at s i k) (node_after s x.manager p t.h) (z.xs k.sender k.channel) → Breaks (near_at s i k) (node_after s x.manager p t.h) (z.xs k.sender k.channel) left d) → Moves s hs p x t.h z
        near d i k f q e b = near_broken s hs p x z t i k op by_ n_ left scenario f q (broken up) (subst (λ (o : Deed). Breaks (near_at s i k) (node_after s x.manager p t.h) (z.xs k.sender k.channel) left o) (sym e) (b (sends_here s hs p x z t i k f q up)))

        far : (d : Deed) (i : ℕ) (k : CableLine) → slice_at s i k → k.receiver ≡ x.manager → operate op (node_after s x.manager p t.h) ≡ d → (TakesAs (far_at s i k) (node_after s x.manager p t.h) (z.xs k.sender k.channel) → BreaksTaking (far_at s i k) (node_after s x.manager p t.h) (z.xs k.sender k.channel) d) → Moves s hs p x t.h z
        far d i k f q e b = far_broken s hs p x z t i k op by_ n_ left scenario f q (broken up) (subst (λ (o : Deed). BreaksTaking (far_at s i k) (node_after s x.manager p t.h) (z.xs k.sender k.channel) o) (sym e) (b (takes_here s hs p x z t i k f q up)))

        by_op : (o : Op) → op ≡ o → Moves s hs p x t.h z
        by_op (ops.Start name) so = nothing (start_end (end_here name (node_after s x.manager p t.h)) (node_after s x.manager p t.h)) (up_is up (ops.Start name) so) (start_unforced (end_here name (node_after s x.manager p t.h)) (node_after s x.manager p t.h))
        by_op (ops.Stop name) so = here_case name (channel_of name (node_after s x.manager p t.h).manager.definitions) ends (λ v. end_here name (node_after s x.manager p t.h) ≡ v → Moves s hs p x t.h z)
            (λ e. nothing (stop_end None (node_after s x.manager p t.h)) (up_is up (ops.Stop name) so ∙ ap (λ (v : Option ChannelEnd). stop_end v (node_after s x.manager p t.h)) e) refl)
            (λ y w e. nothing (stop_end (Some (Sends y)) (node_after s x.manager p t.h)) (up_is up (ops.Stop name) so ∙ ap (λ (v : Option ChannelEnd). stop_end v (node_after s x.manager p t.h)) e) (release_unforced y.channel (batch_of y.channel (node_after s x.manager p t.h).manager.channels.batches) (node_after s x.manager p t.h).manager))
            (λ y w e. of_receiver s hs p x z t y scenario up (receiver_mem name ends y w) (λ i k f q g.
            far (stop_end (Some (Receives (receiver_of (far_at s i k) (z.xs k.sender k.channel).receiver (z.xs k.sender k.channel).kept))) (node_after s x.manager p t.h)) i k f q
            (up_is up (ops.Stop name) so ∙ ap (λ (v : Option ChannelEnd). stop_end v (node_after s x.manager p t.h)) (e ∙ ap (λ (v : ReceiverEnd). Some (Receives v)) g))
            (λ h. stops_broken (far_at s i k) (node_after s x.manager p t.h) (z.xs k.sender k.channel) h (ap is_up up)))) refl
        by_op (ops.Reset name seqnum) so = here_case name (channel_of name (node_after s x.manager p t.h).manager.definitions) ends (λ v. end_here name (node_after s x.manager p t.h) ≡ v → Moves s hs p x t.h z)
            (λ e. nothing (reset_end seqnum None (node_after s x.manager p t.h)) (up_is up (ops.Reset name seqnum) so ∙ ap (λ (v : Option ChannelEnd). reset_end seqnum v (node_after s x.manager p t.h)) e) refl)
            (λ y w e. of_sender s hs p x z t y scenario up (sender_mem name ends y w) (λ i k f q g.
            near (reset_end seqnum (Some (Sends (sender_of (near_at s i k) (z.xs k.sender k.channel).sender))) (node_after s x.manager p t.h)) i k f q
            (up_is up (ops.Reset name seqnum) so ∙ ap (λ (v : Option ChannelEnd). reset_end seqnum v (node_after s x.manager p t.h)) (e ∙ ap (λ (v : SenderEnd). Some (Sends v)) g))
            (λ h. numbers_broken (near_at s i k) (node_after s x.manager p t.h) (z.xs k.sender k.channel) left seqnum h (ap is_up up))))
            (λ y w e. of_receiver s hs p x z t y scenario up (receiver_mem name ends y w) (λ i k f q g.
            far (reset_end seqnum (Some (Receives (receiver_of (far_at s i k) (z.xs k.sender k.channel).receiver (z.xs k.sender k.channel).kept))) (node_after s x.manager p t.h)) i k f q
            (up_is up (ops.Reset name seqnum) so ∙ ap (λ (v : Option ChannelEnd). reset_end seqnum v (node_after s x.manager p t.h)) (e ∙ ap (λ (v : ReceiverEnd). Some (Receives v)) g))
            (λ h. taking_numbers (far_at s i k) (node_after s x.manager p t.h) (z.xs k.sender k.channel) seqnum h (ap is_up up)))) refl
        by_op (ops.Resolve name settle) so = by_end (sender_named name ends) refl
          where
            by_end : (v : Option SenderEnd) → sender_named name ends ≡ v → Moves s hs p x t.h z
            by_end None e = nothing (resolve_end settle None (node_after s x.manager p t.h)) (up_is up (ops.Resolve name settle) so ∙ ap (λ (v : Option SenderEnd). resolve_end settle v (node_after s x.manager p t.h)) e) refl
            by_end (Some y) e = of_sender s hs p x z t y scenario up (sender_mem name ends y e) (λ i k f q g.
                near (resolve_end settle (Some (sender_of (near_at s i k) (z.xs k.sender k.channel).sender)) (node_after s x.manager p t.h)) i k f q
                (up_is up (ops.Resolve name settle) so ∙ ap (λ (v : Option SenderEnd). resolve_end settle v (node_after s x.manager p t.h)) (e ∙ ap (λ (v : SenderEnd). Some v) g))
                (λ h. resolves_broken (near_at s i k) (node_after s x.manager p t.h) (z.xs k.sender k.channel) left settle (in_doubt_of (sender_data k.channel (node_after s x.manager p t.h).manager)) h (ap is_up up) refl))

-- whether it is stopped or not
stopped_so : (o : Chance) → is_stopped_call o ≡ true → (by_ : Stop) × (n_ : ℕ) × (left : ℕ) × (o ≡ chances.Call (Stopped by_ n_ left))
stopped_so (chances.Call (Stopped by_ n_ left)) e = (by_, n_, left, refl)
stopped_so (chances.Call Runs) e = absurd cc
stopped_so (chances.Call NoMemory) e = absurd cc
stopped_so (chances.Restart choice) e = absurd cc
stopped_so (chances.Foreign image length left) e = absurd cc

pub obeys_all : (s : Scenario) (hs : List History) (wide p : List Line) (es : List ToldDeed) (x : Line) (z : Stand s hs p) (t : Told_ s hs p x) (op : Op) → Premises s hs → NoConflict s hs wide → deeds wide ≡ deeds (p ++ x ∷ []) ++ es
    → x.entry.call ≡ calls.Act (acts.Obey (lines.Operate op)) → Moves s hs p x t.h z
obeys_all s hs wide p es x z t op premises peace split call = bool_case (is_stopped_call x.entry.chance) (λ b. is_stopped_call x.entry.chance ≡ b → Moves s hs p x t.h z)
    (λ b some. let v = stopped_so x.entry.chance some in obey_breaks s hs p x z t op v.0 v.1 v.2 premises.scenario call v.3)
    (λ b none. obey_acts s hs wide p es x z t op premises peace split call none) refl
