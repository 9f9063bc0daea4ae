-- All deeds of a receiver's manager that are no turn of this end: an operator's command on it, or one that leaves it alone.
use Rattle.std.proofs.Common.{ℕ, ◌≡◌, ◌-◌, Bool, true, false, [], List, ◌++◌, refl, ap, sym, subst, ◌∙◌}
use Rattle.std.specs.Prelude.{Option, Some, None, if◌then◌else◌, not, ◌&&◌, ◌==◌}
use Rattle.std.specs.Str.{bytes_eq}
use Rattle.mq_frame.specs.declared.frame.Seen.{Seen}
use Rattle.mq_objects.specs.Names.{channel_of}
use Rattle.mq_sync.specs.declared.data.End.TheVariants as end_kinds
use Rattle.mq_sync.specs.declared.data.InDoubt.{InDoubt}
use Rattle.mq_sync.specs.declared.data.ReceiverData.{ReceiverData}
use Rattle.mq_sync.specs.declared.unit.Settle.{Settle}
use Rattle.mq_sync.specs.declared.unit.Settle.TheVariants as settles
use Rattle.mq_sync.specs.Settlement.{receiver_or}
use Rattle.mq_calls.specs.declared.agents.Note.TheVariants as notes
use Rattle.mq_calls.specs.declared.agents.SeizeFault.{SeizeFault}
use Rattle.mq_sc_parse.specs.declared.command.Op.{Op}
use Rattle.mq_sc_parse.specs.declared.command.Op.TheVariants as ops
use Rattle.mq_history.specs.declared.acts.OpRefusal.{OpRefusal}
use Rattle.mq_history.specs.declared.acts.OpRefusal.TheVariants as reasons
use Rattle.mq_history.specs.declared.calls.Actor.{Actor}
use Rattle.mq_history.specs.declared.calls.Call.{Call}
use Rattle.mq_sender.specs.States as senders
use Rattle.mq_receiver.specs.States as receivers
use Rattle.mq_calls.specs.Reads.{batch_of, in_doubt_of, is_up, receiver_data, sender_data}
use Rattle.mq_calls.specs.Steps.{Step}
use Rattle.mq_calls.specs.Steps.Step.{Refuse, Do}
use Rattle.mq_spec_manager.specs.Agents.{harden, seize, set_bound}
use Rattle.mq_spec_node.specs.Node.{Node, ReceiverEnd, SenderEnd, receiver_end, receiver_named, sender_end, sender_named, with_end}
use Rattle.mq_spec_node.specs.Node.ChannelEnd.{Receives, Sends}
use Rattle.mq_spec_node.specs.Deeds.{Deed, parts_of}
use Rattle.mq_spec_node.specs.Operators.{close_open, end_here, is_bad_number, is_in_doubt, is_open, limits_here, operate, operate_up, operated, refused, refused_or, reset_end, resolve_doubt, resolve_end, start_end, start_seized, stop_end}
use Rattle.mq_spec_node.specs.Receivers.{receiver_deed}
use Rattle.mq_spec_node.specs.Senders.{sender_deed, timeout_deed}
use Rattle.mq_spec_node.specs.Happens.{deed_of, receiver_turn, sender_turn, timeout_of}
use Rattle.mq_law_node.specs.from_law_channel.Channel.{Channel, Past}
use Rattle.mq_law_node.specs.from_law_channel.Turns as channel
use Rattle.mq_law_node.specs.Data.{receives_at}
use Rattle.mq_law_node.specs.Ends.{TakesAs, Where, receiver_of, told_receives}
use Rattle.mq_law_node.specs.Moves.{FarStep}
use Rattle.mq_law_node.specs.Nodes.{Single}
use Rattle.mq_law_node.specs.Quiet.{EachQuiet, parts_far_apart, step_quiet}
use Rattle.mq_law_node.specs.Beside.{AsideFrom, DoesFar, Gone, is_ours_far}
use Rattle.mq_law_node.proofs.Deeds.{deed_has}
use Rattle.mq_law_node.proofs.FarAside.{EachAsideOf, EachFarApart, far_asides, parts_quiet_far, quiet_far_asides, receivers_far, release_far, senders_far, set_far, set_taking, timeouts_far}
use Rattle.mq_law_node.proofs.Named.{bool_case}
use Rattle.mq_law_node.proofs.NearDoes.{here_case, option_case}
use Rattle.mq_law_node.proofs.Operators.{closed_at, closed_is_told, open_there, seize_is_quiet}
use Rattle.mq_law_node.proofs.Ordinary.{ordinary_is_quiet}
use Rattle.mq_law_node.proofs.ReceiverTurns.{arrives, end_taken, found_receiver}
use Rattle.mq_law_keys.specs.Keys.{EachDoesFar, KeyedFar}

-- What leaves the end alone

quiet_does : (w : Where) (n : Node) (c : Channel) (p : Past) (o : Option Deed) → EachQuiet n.own o → EachDoesFar w n c p o
quiet_does w n c p None q = tt
quiet_does w n c p (Some d) q = AsideFrom (quiet_far_asides w n d q)

apart_does : (w : Where) (n : Node) (c : Channel) (p : Past) (o : Option Deed) → EachFarApart w n o → EachDoesFar w n c p o
apart_does w n c p None a = tt
apart_does w n c p (Some d) a = AsideFrom (far_asides w n d a.0 a.1)

aside_does : (w : Where) (n : Node) (c : Channel) (p : Past) (o : Option Deed) → EachAsideOf w n o → EachDoesFar w n c p o
aside_does w n c p None a = tt
aside_does w n c p (Some d) a = AsideFrom a

refused_does : (w : Where) (n : Node) (c : Channel) (p : Past) (reason : OpRefusal) → DoesFar w n (refused reason n.own) c p
refused_does w n c p reason = AsideFrom (far_asides w n (refused reason n.own) refl refl)

apart_refused : (w : Where) (n : Node) (o : Option OpRefusal) (d : Deed) → EachFarApart w n (Some d) → EachFarApart w n (Some (refused_or o n.own d))
apart_refused w n None d a = a
apart_refused w n (Some reason) d a = (refl, refl)

-- Operators on senders' ends

seized_apart : (w : Where) (e : SenderEnd) (s : Step SeizeFault (Unit {0})) (n : Node) → (e.cable == w.cable) ≡ false → step_quiet s ≡ true → EachFarApart w n (Some (start_seized e s n))
seized_apart w e (Refuse fault) n cable q = (refl, refl)
seized_apart w e (Do reply parts) n cable q = (set_far w _ n cable, parts_quiet_far w.channel parts q)

start_apart : (w : Where) (e : SenderEnd) (n : Node) → (e.cable == w.cable) ≡ false → EachFarApart w n (Some (start_end (Some (Sends e)) n))
start_apart w e n cable = apart_refused w n (if senders.is_running e.machine.state then Some reasons.Running else None) (start_seized e (seize e.channel n.manager) n) (seized_apart w e (seize e.channel n.manager) n cable (seize_is_quiet e.channel n.manager))

stop_apart : (w : Where) (e : SenderEnd) (n : Node) → (e.cable == w.cable) ≡ false → EachFarApart w n (Some (stop_end (Some (Sends e)) n))
stop_apart w e n cable = (set_far w _ n cable, release_far w.channel e.channel (batch_of e.channel n.manager.channels.batches) n.manager)

reset_apart : (w : Where) (e : SenderEnd) (seqnum : ℕ) (n : Node) → EachFarApart w n (Some (reset_end seqnum (Some (Sends e)) n))
reset_apart w e seqnum n = apart_refused w n
    (if is_in_doubt e.channel n then Some reasons.InDoubt else (if senders.is_running e.machine.state then Some reasons.Running else (if is_bad_number seqnum (limits_here e.channel n) then Some reasons.BadNumber else None)))
    _ (refl, refl)

resolve_apart : (w : Where) (e : SenderEnd) (settle : Settle) (o : Option InDoubt) (n : Node) → EachFarApart w n (Some (resolve_doubt e settle o n))
resolve_apart w e settle None n = (refl, refl)
resolve_apart w e settles.Commit (Some d) n = apart_refused w n (if senders.is_running e.machine.state then Some reasons.Running else None) _ (refl, refl)
resolve_apart w e settles.Backout (Some d) n = apart_refused w n (if senders.is_running e.machine.state then Some reasons.Running else None) _ (refl, refl)

-- on other receivers' ends

close_apart : (w : Where) (e : ReceiverEnd) (n : Node) → bytes_eq w.channel e.channel ≡ false → parts_far_apart w.channel (close_open e n.manager) ≡ true
close_apart w e n other = bool_case (is_open (receiver_data e.channel n.manager))
    (λ b. parts_far_apart w.channel (if b then parts_of (harden e.channel (notes.Closed (receiver_or (receiver_data e.channel n.manager)).session) n.manager) ++ parts_of (set_bound e.channel false n.manager) else parts_of (set_bound e.channel false n.manager)) ≡ true)
    (λ z. ap (λ (b : Bool). (not b && true) && true) other) (λ z. refl)

start_taking : (w : Where) (e : ReceiverEnd) (n : Node) → (e.cable == w.cable) ≡ false → EachFarApart w n (Some (start_end (Some (Receives e)) n))
start_taking w e n cable = apart_refused w n (if receivers.is_bound e.machine.state then Some reasons.Running else None) _ (set_taking w (record e { machine = receivers.started e.machine }) n cable, refl)

stop_taking : (w : Where) (e : ReceiverEnd) (n : Node) → (e.cable == w.cable) ≡ false → bytes_eq w.channel e.channel ≡ false → EachFarApart w n (Some (stop_end (Some (Receives e)) n))
stop_taking w e n cable other = (set_taking w (record e { machine = receivers.stopped e.machine; kept = [] }) n cable, close_apart w e n other)

reset_taking : (w : Where) (e : ReceiverEnd) (seqnum : ℕ) (n : Node) → (e.cable == w.cable) ≡ false → bytes_eq w.channel e.channel ≡ false → EachFarApart w n (Some (reset_end seqnum (Some (Receives e)) n))
reset_taking w e seqnum n cable other = apart_refused w n (if receivers.is_bound e.machine.state then Some reasons.Running else (if is_bad_number seqnum (limits_here e.channel n) then Some reasons.BadNumber else None)) _
    (set_taking w (record e { machine = receivers.numbered (seqnum - 1) e.machine }) n cable, ap (λ (b : Bool). (not b && true) && true) other)

-- On this end

start_gone : (w : Where) (n : Node) (c : Channel) (p : Past) → TakesAs w n c → is_up n.manager.running ≡ true → DoesFar w n (start_end (Some (Receives (receiver_of w c.receiver c.kept))) n) c p
start_gone w n c p h up = bool_case (receivers.is_bound c.receiver.state)
    (λ b. receivers.is_bound c.receiver.state ≡ b → DoesFar w n (refused_or (if b then Some reasons.Running else None) n.own (operated [] (with_end (Receives (receiver_of w (receivers.started c.receiver) c.kept)) n.own))) c p)
    (λ e z. refused_does w n c p reasons.Running)
    (λ e off. Gone (record {
      step = FarStep.Start;
      may = off;
      taken = arrives w n _ c c.receives (receivers.started c.receiver) c.kept c.back up (end_taken w n _ c.receiver c.kept c.kept h.here) h.data_ refl;
    }) (λ t z. cc) tt refl) refl

abbrev closed_told : ReceiverData → ReceiverData
closed_told d = if channel.is_open d then record d { closed = true } else d

close_single : (w : Where) (n : Node) (b : Bool) → Single (if b then parts_of (harden w.channel (notes.Closed (receiver_or (receiver_data w.channel n.manager)).session) n.manager) ++ parts_of (set_bound w.channel false n.manager) else parts_of (set_bound w.channel false n.manager)) None
close_single w n true = (refl, refl, λ z. refl)
close_single w n false = (refl, refl, λ z. refl)

stop_gone : (w : Where) (n : Node) (c : Channel) (p : Past) → TakesAs w n c → is_up n.manager.running ≡ true → DoesFar w n (stop_end (Some (Receives (receiver_of w c.receiver c.kept))) n) c p
stop_gone w n c p h up = Gone (record {
  step = FarStep.Stop;
  may = tt;
  taken = arrives w n (stop_end (Some (Receives (receiver_of w c.receiver c.kept))) n) c (if channel.is_open c.receives then record c.receives { closed = true } else c.receives) (receivers.stopped c.receiver) [] c.back up
      (end_taken w n _ c.receiver [] c.kept h.here)
      (closed_is_told (channel.is_open c.receives) c.receives ∙ ap closed_told h.data_
      ∙ sym (closed_is_told (channel.is_open (receives_at w.channel n.manager)) (receives_at w.channel n.manager))
      ∙ ap (λ (b : Bool). told_receives (if b then record (receives_at w.channel n.manager) { closed = true } else receives_at w.channel n.manager)) (sym (open_there (receiver_data w.channel n.manager)))
      ∙ closed_at w c.receiver c.kept n.manager (is_open (receiver_data w.channel n.manager)))
      refl;
}) (λ t z. cc) (close_single w n (is_open (receiver_data w.channel n.manager))) refl

abbrev reset_deed : Where → ℕ → Node → Channel → Deed
reset_deed w seqnum n c = operated (parts_of (harden w.channel (notes.SeqSet end_kinds.Receiver (seqnum - 1)) n.manager)) (with_end (Receives (receiver_of w (receivers.numbered (seqnum - 1) c.receiver) c.kept)) n.own)

reset_gone : (w : Where) (n : Node) (c : Channel) (p : Past) (seqnum : ℕ) → TakesAs w n c → is_up n.manager.running ≡ true → DoesFar w n (reset_end seqnum (Some (Receives (receiver_of w c.receiver c.kept))) n) c p
reset_gone w n c p seqnum h up = bool_case (receivers.is_bound c.receiver.state)
    (λ b. DoesFar w n (refused_or (if b then Some reasons.Running else (if is_bad_number seqnum (limits_here w.channel n) then Some reasons.BadNumber else None)) n.own (reset_deed w seqnum n c)) c p)
    (λ e. refused_does w n c p reasons.Running)
    (λ e. bool_case (is_bad_number seqnum (limits_here w.channel n))
    (λ b. DoesFar w n (refused_or (if b then Some reasons.BadNumber else None) n.own (reset_deed w seqnum n c)) c p)
    (λ g. refused_does w n c p reasons.BadNumber)
    (λ g. Gone (record {
      step = FarStep.Number (seqnum - 1);
      may = tt;
      taken = arrives w n (reset_deed w seqnum n c) c (record c.receives { last = seqnum - 1 }) (receivers.numbered (seqnum - 1) c.receiver) c.kept c.back up
          (end_taken w n _ c.receiver c.kept c.kept h.here)
          (ap (λ (d : ReceiverData). record d { last = seqnum - 1 }) h.data_ ∙ found_receiver w.channel (record (receives_at w.channel n.manager) { last = seqnum - 1 }) (receiver_data w.channel n.manager))
          refl;
    }) (λ t z. cc) (refl, refl, λ z. refl) refl))

-- By name

named_case : (w : Where) (n : Node) (c : Channel) (name : List ℕ) (e : ReceiverEnd) (P : ReceiverEnd → Type 0) → KeyedFar w n → TakesAs w n c → receiver_named name n.own.ends ≡ Some e
    → P (receiver_of w c.receiver c.kept) → ((e.cable == w.cable) ≡ false → bytes_eq w.channel e.channel ≡ false → P e) → P e
named_case w n c name e P k h is own other = bool_case (e.cable == w.cable) (λ b. (e.cable == w.cable) ≡ b → P e)
    (λ z y. let same : receiver_of w c.receiver c.kept ≡ e = cc (h.here, k.named name e is y) in subst P same own)
    (λ z y. other y (k.others name e is y)) refl

abbrev Does : Where → Node → Channel → Past → Deed → Type 0
Does w n c p d = DoesFar w n d c p

start_does : (w : Where) (n : Node) (c : Channel) (p : Past) (name : List ℕ) → KeyedFar w n → TakesAs w n c → is_up n.manager.running ≡ true → Does w n c p (start_end (end_here name n) n)
start_does w n c p name k h up = here_case name (channel_of name n.manager.definitions) n.own.ends (λ o. Does w n c p (start_end o n))
    (refused_does w n c p reasons.NotFound)
    (λ e is. apart_does w n c p (Some (start_end (Some (Sends e)) n)) (start_apart w e n (k.senders name e is)))
    (λ e is. named_case w n c name e (λ x. Does w n c p (start_end (Some (Receives x)) n)) k h is (start_gone w n c p h up) (λ cable other. apart_does w n c p (Some (start_end (Some (Receives e)) n)) (start_taking w e n cable)))

stop_does : (w : Where) (n : Node) (c : Channel) (p : Past) (name : List ℕ) → KeyedFar w n → TakesAs w n c → is_up n.manager.running ≡ true → Does w n c p (stop_end (end_here name n) n)
stop_does w n c p name k h up = here_case name (channel_of name n.manager.definitions) n.own.ends (λ o. Does w n c p (stop_end o n))
    (refused_does w n c p reasons.NotFound)
    (λ e is. apart_does w n c p (Some (stop_end (Some (Sends e)) n)) (stop_apart w e n (k.senders name e is)))
    (λ e is. named_case w n c name e (λ x. Does w n c p (stop_end (Some (Receives x)) n)) k h is (stop_gone w n c p h up) (λ cable other. apart_does w n c p (Some (stop_end (Some (Receives e)) n)) (stop_taking w e n cable other)))

reset_does : (w : Where) (n : Node) (c : Channel) (p : Past) (name : List ℕ) (seqnum : ℕ) → KeyedFar w n → TakesAs w n c → is_up n.manager.running ≡ true → Does w n c p (reset_end seqnum (end_here name n) n)
reset_does w n c p name seqnum k h up = here_case name (channel_of name n.manager.definitions) n.own.ends (λ o. Does w n c p (reset_end seqnum o n))
    (refused_does w n c p reasons.NotFound)
    (λ e is. apart_does w n c p (Some (reset_end seqnum (Some (Sends e)) n)) (reset_apart w e seqnum n))
    (λ e is. named_case w n c name e (λ x. Does w n c p (reset_end seqnum (Some (Receives x)) n)) k h is (reset_gone w n c p seqnum h up) (λ cable other. apart_does w n c p (Some (reset_end seqnum (Some (Receives e)) n)) (reset_taking w e seqnum n cable other)))

resolve_does : (w : Where) (n : Node) (c : Channel) (p : Past) (name : List ℕ) (settle : Settle) → Does w n c p (resolve_end settle (sender_named name n.own.ends) n)
resolve_does w n c p name settle = option_case (sender_named name n.own.ends) (λ o. Does w n c p (resolve_end settle o n))
    (λ is. refused_does w n c p reasons.NotFound)
    (λ e is. apart_does w n c p (Some (resolve_doubt e settle (in_doubt_of (sender_data e.channel n.manager)) n)) (resolve_apart w e settle (in_doubt_of (sender_data e.channel n.manager)) n))

operates_up : (w : Where) (n : Node) (c : Channel) (p : Past) (op : Op) → KeyedFar w n → TakesAs w n c → is_up n.manager.running ≡ true → Does w n c p (operate_up op n)
operates_up w n c p (ops.Start name) k h up = start_does w n c p name k h up
operates_up w n c p (ops.Stop name) k h up = stop_does w n c p name k h up
operates_up w n c p (ops.Reset name seqnum) k h up = reset_does w n c p name seqnum k h up
operates_up w n c p (ops.Resolve name settle) k h up = resolve_does w n c p name settle

operates : (w : Where) (n : Node) (c : Channel) (p : Past) (op : Op) → KeyedFar w n → TakesAs w n c → is_up n.manager.running ≡ true → Does w n c p (operate op n)
operates w n c p op k h up = subst (λ (b : Bool). Does w n c p (refused_or (if not b then Some reasons.Down else None) n.own (operate_up op n))) (sym up) (operates_up w n c p op k h up)

-- Turns of other ends

other_turn : (w : Where) (stamp : ℕ) (seen : Seen) (n : Node) (c : Channel) (p : Past) (o : Option SenderEnd) → ((e : SenderEnd) → o ≡ Some e → (e.cable == w.cable) ≡ false) → EachDoesFar w n c p (sender_turn stamp o seen n)
other_turn w stamp seen n c p None k = tt
other_turn w stamp seen n c p (Some e) k = apart_does w n c p (sender_deed stamp e seen n) (senders_far w stamp e seen n (k e refl))

other_timeout : (w : Where) (n : Node) (c : Channel) (p : Past) (o : Option SenderEnd) → ((e : SenderEnd) → o ≡ Some e → (e.cable == w.cable) ≡ false) → EachDoesFar w n c p (timeout_of o n)
other_timeout w n c p None k = tt
other_timeout w n c p (Some e) k = apart_does w n c p (timeout_deed e n) (timeouts_far w e n (k e refl))

other_taking : (w : Where) (stamp : ℕ) (seen : Seen) (n : Node) (c : Channel) (p : Past) (o : Option ReceiverEnd) → ((e : ReceiverEnd) → o ≡ Some e → ((e.cable == w.cable) ≡ false) × (bytes_eq w.channel e.channel ≡ false)) → EachDoesFar w n c p (receiver_turn stamp o seen n)
other_taking w stamp seen n c p None k = tt
other_taking w stamp seen n c p (Some e) k = aside_does w n c p (receiver_deed stamp e seen n) (receivers_far w stamp e seen n (k e refl).0 (k e refl).1)

-- All deeds
pub far_does_all : (w : Where) (stamp : ℕ) (actor : Actor) (call : Call) (seen : Seen) (n : Node) (c : Channel) (p : Past) → KeyedFar w n → TakesAs w n c → is_up n.manager.running ≡ true → is_ours_far w.cable actor call ≡ false
    → EachDoesFar w n c p (deed_of stamp actor call seen n)
far_does_all w stamp actor call seen n c p k h up other = deed_has (EachDoesFar w n c p) stamp actor call seen n (record {
  none = tt;
  ordinary = λ o. quiet_does w n c p (deed_of stamp actor call seen n) (ordinary_is_quiet stamp actor call seen n o);
  sends = λ cable f g. other_turn w stamp seen n c p (sender_end cable n.own) (λ e is. k.turns cable e is);
  takes = λ cable f g. other_taking w stamp seen n c p (receiver_end cable n.own) (λ e is. k.takings cable e is ((λ i. is_ours_far w.cable (sym f i) (sym g i)) ∙ other));
  times = λ cable f g. other_timeout w n c p (sender_end cable n.own) (λ e is. k.turns cable e is);
  operates = λ op f. operates w n c p op k h up;
})
