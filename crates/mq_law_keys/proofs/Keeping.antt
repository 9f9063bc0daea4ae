-- No event changes the keys of a node's ends, nor which of them send.
use Rattle.std.proofs.Common.{ℕ, ◌≡◌, Bool, true, false, List, [], ◌∷◌, refl, ap, sym, subst, ◌∙◌, map}
use Rattle.std.specs.Prelude.{Option, Some, None, ◌-◌, if◌then◌else◌, not}
use Rattle.mq_base.specs.Members.{Mem}
use Rattle.mq_frame.specs.declared.frame.Seen.{Seen}
use Rattle.mq_message.specs.declared.message.Message.{Message}
use Rattle.mq_objects.specs.declared.object.Channel.{Channel}
use Rattle.mq_objects.specs.declared.object.ChannelKind.{ChannelKind}
use Rattle.mq_objects.specs.declared.object.ChannelKind.TheVariants as kinds
use Rattle.mq_objects.specs.Names.{channel_of}
use Rattle.mq_sync.specs.declared.data.End.TheVariants as end_kinds
use Rattle.mq_calls.specs.declared.agents.Note.TheVariants as notes
use Rattle.mq_calls.specs.declared.choices.Choice.{Choice}
use Rattle.mq_calls.specs.declared.choices.Choice.TheVariants.{Runs, NoMemory, Stopped}
use Rattle.mq_sc_parse.specs.declared.command.Op.TheVariants as ops
use Rattle.mq_history.specs.declared.acts.Act.TheVariants as acts
use Rattle.mq_history.specs.declared.acts.OpRefusal.TheVariants as reasons
use Rattle.mq_history.specs.declared.calls.Actor.{Actor}
use Rattle.mq_history.specs.declared.calls.Call.{Call}
use Rattle.mq_history.specs.declared.calls.Call.TheVariants as calls
use Rattle.mq_history.specs.declared.calls.Chance.{Chance}
use Rattle.mq_history.specs.declared.calls.Chance.TheVariants as chances
use Rattle.mq_history.specs.declared.calls.Entry.{Entry}
use Rattle.mq_sender.specs.declared.turns.SenderDoes.TheVariants as sends
use Rattle.mq_sender.specs.declared.turns.SenderOut.TheVariants as sent_outs
use Rattle.mq_sender.specs.States as sent_states
use Rattle.mq_receiver.specs.declared.turns.ReceiverDoes.TheVariants as takes
use Rattle.mq_receiver.specs.declared.turns.ReceiverOut.TheVariants as taken_outs
use Rattle.mq_receiver.specs.States as taken_states
use Rattle.mq_calls.specs.Steps.Outcome.{Answered, Refused, Wanting, Broken}
use Rattle.mq_spec_manager.specs.Stops.{restart, stop}
use Rattle.mq_spec_node.specs.Terms.{After, awaits, Do, harden, in_doubt_of, InDoubt, is_commit, is_up, Kept, last_by, number, number_sent, Op, OpRefusal, Outcome, Plain, prepare, PrepareFault, Reason, receive, Receiver, receiver_after, receiver_next, ReceiverDoes, ReceiverOut, refusal, Refuse, RestartFault, seize, SeizeFault, Sender, sender_after, sender_data, sender_next, SenderDoes, SenderOut, Settle, Step, stock, Test, timed_out, when, Luw}
use Rattle.mq_spec_node.specs.Node.{ChannelEnd, SenderEnd, ReceiverEnd, Node, receiver_end, receiver_named, sender_end, sender_named, with_end}
use Rattle.mq_spec_node.specs.Node.ChannelEnd.{Sends, Receives}
use Rattle.mq_spec_node.specs.Deeds.{Deed, done, end_at_rest, end_begun, parts_of}
use Rattle.mq_spec_node.specs.Openings.{resumed}
use Rattle.mq_spec_node.specs.Senders as senders
use Rattle.mq_spec_node.specs.Receivers as receivers
use Rattle.mq_spec_node.specs.Operators as operators
use Rattle.mq_spec_node.specs.Happens.{choice_event, deed_of, event, own_crashed, receiver_turn, remembered, restart_event, restarted_as, sender_turn, timeout_of}
use Rattle.mq_spec_node.specs.Replays.{after, done_by}
use Rattle.mq_law_node.specs.Quiet.{EachQuiet}
use Rattle.mq_law_node.proofs.Deeds.{deed_has}
use Rattle.mq_law_node.proofs.NearTotal.{remembered_ends}
use Rattle.mq_law_node.proofs.Ordinary.{ordinary_is_quiet}
use Rattle.mq_law_keys.specs.Keys.{AreKeyed, EachKeeps, IsKeyed, Key, key_of, keys, Tag, tag_of, tags}
use Rattle.mq_law_keys.proofs.Telling.{receiver_end_mem, receiver_mem, sender_end_mem, sender_mem, set_tags}

-- An end changes but for its tag

sender_set : (n : Node) (e : SenderEnd) (m : Sender) → IsKeyed n → Mem (Sends e) n.own.ends → tags (with_end (Sends (record e { machine = m })) n.own).ends ≡ tags n.own.ends
sender_set n e m h k = set_tags (Sends (record e { machine = m })) (Sends e) n.own.ends h k refl refl

receiver_set : (n : Node) (e : ReceiverEnd) (m : Receiver) (kept : List Message) → IsKeyed n → Mem (Receives e) n.own.ends → tags (with_end (Receives (record e { machine = m; kept = kept })) n.own).ends ≡ tags n.own.ends
receiver_set n e m kept h k = set_tags (Receives (record e { machine = m; kept = kept })) (Receives e) n.own.ends h k refl refl

sender_turned : (n : Node) (e : SenderEnd) (d : SenderDoes) (out : SenderOut) → IsKeyed n → Mem (Sends e) n.own.ends → tags (senders.sender_end_after e d out n.own).ends ≡ tags n.own.ends
sender_turned n e d out h k = sender_set n e (sender_after e.machine d out) h k

receiver_turned : (n : Node) (e : ReceiverEnd) (d : ReceiverDoes) (seen : Seen) (out : ReceiverOut) (kept : List Message) → IsKeyed n → Mem (Receives e) n.own.ends → tags (receivers.receiver_end_after e d seen out kept n.own).ends ≡ tags n.own.ends
receiver_turned n e d seen out kept h k = receiver_set n e (receiver_after e.machine d seen out) kept h k

-- Turns of a sender

prepares : (n : Node) (e : SenderEnd) (step : Step PrepareFault (Unit {0})) → IsKeyed n → Mem (Sends e) n.own.ends → tags (senders.prepare_deed e step n).own.ends ≡ tags n.own.ends
prepares n e (Refuse fault) h k = sender_turned n e sends.Prepare sent_outs.NoRoom h k
prepares n e (Do reply parts) h k = sender_turned n e sends.Prepare sent_outs.Done h k

sender_by : (stamp : ℕ) (n : Node) (e : SenderEnd) (d : SenderDoes) → IsKeyed n → Mem (Sends e) n.own.ends → EachKeeps n (senders.sender_deed_by stamp e d n)
sender_by stamp n e sends.Still h k = tt
sender_by stamp n e sends.Ignore h k = refl
sender_by stamp n e (sends.HardenSession session) h k = sender_turned n e (sends.HardenSession session) sent_outs.Done h k
sender_by stamp n e sends.PushBind h k = sender_turned n e sends.PushBind sent_outs.Done h k
sender_by stamp n e sends.Expire h k = sender_turned n e sends.Expire sent_outs.Done h k
sender_by stamp n e (sends.Begin j count) h k = sender_turned n e (sends.Begin j count) sent_outs.Done h k
sender_by stamp n e (sends.PushMsg index) h k = sender_turned n e (sends.PushMsg index) sent_outs.Done h k
sender_by stamp n e sends.Prepare h k = prepares n e (prepare e.channel (number_sent e.machine.state e.machine.kept.last) n.manager) h k
sender_by stamp n e sends.PushEnd h k = sender_turned n e sends.PushEnd sent_outs.Done h k
sender_by stamp n e (sends.Bound settle partner) h k = sender_turned n e (sends.Bound settle partner) sent_outs.Done h k
sender_by stamp n e sends.Commit h k = sender_turned n e sends.Commit sent_outs.Done h k
sender_by stamp n e (sends.Backout reason) h k = sender_turned n e (sends.Backout reason) sent_outs.Done h k

sender_turns : (stamp : ℕ) (n : Node) (j : ℕ) (o : Option SenderEnd) (seen : Seen) → IsKeyed n → sender_end j n.own ≡ o → EachKeeps n (sender_turn stamp o seen n)
sender_turns stamp n j None seen h e = tt
sender_turns stamp n j (Some x) seen h e = sender_by stamp n x (sender_next x.machine seen (stock x.channel n.manager)) h (sender_end_mem j n x e).0

times_out : (n : Node) (j : ℕ) (o : Option SenderEnd) → IsKeyed n → sender_end j n.own ≡ o → EachKeeps n (timeout_of o n)
times_out n j None h e = tt
times_out n j (Some x) h e = go (awaits x.machine.state)
  where
    go : (t : Bool) → EachKeeps n (if t then Some (senders.after_timeout x (timed_out x.machine) n) else None)
    go true = sender_set n x (timed_out x.machine) h (sender_end_mem j n x e).0
    go false = tt

-- Turns of a receiver

places : (n : Node) (e : ReceiverEnd) (unit : Luw) (seen : Seen) (step : Step Reason (Unit {0})) → IsKeyed n → Mem (Receives e) n.own.ends → tags (receivers.place_deed e unit seen step n).own.ends ≡ tags n.own.ends
places n e unit seen (Refuse reason) h k = receiver_turned n e (takes.Place unit) seen (taken_outs.Refused (number reason)) [] h k
places n e unit seen (Do reply parts) h k = receiver_turned n e (takes.Place unit) seen taken_outs.Done [] h k

receiver_by : (stamp : ℕ) (n : Node) (e : ReceiverEnd) (seen : Seen) (d : ReceiverDoes) → IsKeyed n → Mem (Receives e) n.own.ends → EachKeeps n (receivers.receiver_deed_by stamp e seen d n)
receiver_by stamp n e seen takes.Still h k = tt
receiver_by stamp n e seen takes.Ignore h k = refl
receiver_by stamp n e seen takes.PushOwed h k = receiver_turned n e takes.PushOwed seen taken_outs.Done e.kept h k
receiver_by stamp n e seen takes.Bind h k = receiver_turned n e takes.Bind seen taken_outs.Done [] h k
receiver_by stamp n e seen takes.Keep h k = receiver_turned n e takes.Keep seen taken_outs.Done (receivers.kept_seen seen e.kept) h k
receiver_by stamp n e seen (takes.Place unit) h k = places n e unit seen (receive e.channel unit (last_by seen e.machine.last) e.kept n.manager) h k
receiver_by stamp n e seen takes.Again h k = receiver_turned n e takes.Again seen taken_outs.Done e.kept h k
receiver_by stamp n e seen takes.Close h k = receiver_turned n e takes.Close seen taken_outs.Done [] h k

receiver_turns : (stamp : ℕ) (n : Node) (j : ℕ) (o : Option ReceiverEnd) (seen : Seen) → IsKeyed n → receiver_end j n.own ≡ o → EachKeeps n (receiver_turn stamp o seen n)
receiver_turns stamp n j None seen h e = tt
receiver_turns stamp n j (Some x) seen h e = receiver_by stamp n x seen (receiver_next x.machine seen (receivers.is_receiver_defined x.channel n.manager.definitions)) h (receiver_end_mem j n x e).0

-- Operators

abbrev KeepsDeed : Node → Deed → Type 0
KeepsDeed n d = tags d.own.ends ≡ tags n.own.ends

tested : (n : Node) (ts : List (Test OpRefusal)) (d : Deed) → KeepsDeed n d → KeepsDeed n (operators.tested ts n.own d)
tested n ts d k = go (refusal ts)
  where
    go : (o : Option OpRefusal) → KeepsDeed n (operators.refused_or o n.own d)
    go None = k
    go (Some reason) = refl

abbrev pub EachThere : Node → Option ChannelEnd → Type 0
EachThere n None = Unit {0}
EachThere n (Some e) = Mem e n.own.ends

pub end_there : (channel : List ℕ) (n : Node) → EachThere n (operators.end_here channel n)
end_there channel n = at (channel_of channel n.manager.definitions)
  where
    sends_ : (o : Option SenderEnd) → sender_named channel n.own.ends ≡ o → EachThere n (elim o as (λ x. Option ChannelEnd) [ None ↦ None | Some e ↦ Some (Sends e) ])
    sends_ None e = tt
    sends_ (Some x) e = sender_mem channel n.own.ends x e

    takes_ : (o : Option ReceiverEnd) → receiver_named channel n.own.ends ≡ o → EachThere n (elim o as (λ x. Option ChannelEnd) [ None ↦ None | Some e ↦ Some (Receives e) ])
    takes_ None e = tt
    takes_ (Some x) e = receiver_mem channel n.own.ends x e

    kind : (k : ChannelKind) → EachThere n (operators.end_of_kind channel k n.own.ends)
    kind (kinds.Sender batch retry xmitq) = sends_ (sender_named channel n.own.ends) refl
    kind (kinds.Receiver dead) = takes_ (receiver_named channel n.own.ends) refl

    at : (c : Option Channel) → EachThere n (operators.end_defined channel c n.own.ends)
    at None = tt
    at (Some c) = kind c.kind

seized : (n : Node) (e : SenderEnd) (step : Step SeizeFault (Unit {0})) → IsKeyed n → Mem (Sends e) n.own.ends → KeepsDeed n (operators.start_seized e step n)
seized n e (Refuse fault) h k = refl
seized n e (Do reply parts) h k = sender_set n e (sent_states.started (sent_states.kept_of (sender_data e.channel n.manager)) (operators.limits_here e.channel n)) h k

starts : (n : Node) (o : Option ChannelEnd) → IsKeyed n → EachThere n o → KeepsDeed n (operators.start_end o n)
starts n None h k = refl
starts n (Some (Sends e)) h k = tested n (when (sent_states.is_running e.machine.state) reasons.Running ∷ []) (operators.start_seized e (seize e.channel n.manager) n) (seized n e (seize e.channel n.manager) h k)
starts n (Some (Receives e)) h k = tested n (when (taken_states.is_bound e.machine.state) reasons.Running ∷ []) (operators.operated [] (with_end (Receives (record e { machine = taken_states.started e.machine })) n.own)) (receiver_set n e (taken_states.started e.machine) e.kept h k)

stops : (n : Node) (o : Option ChannelEnd) → IsKeyed n → EachThere n o → KeepsDeed n (operators.stop_end o n)
stops n None h k = refl
stops n (Some (Sends e)) h k = sender_set n e (sent_states.stopped e.machine) h k
stops n (Some (Receives e)) h k = receiver_set n e (taken_states.stopped e.machine) [] h k

resets : (seqnum : ℕ) (n : Node) (o : Option ChannelEnd) → IsKeyed n → EachThere n o → KeepsDeed n (operators.reset_end seqnum o n)
resets seqnum n None h k = refl
resets seqnum n (Some (Sends e)) h k = tested n (
    when (operators.is_in_doubt e.channel n) reasons.InDoubt
    ∷ when (sent_states.is_running e.machine.state) reasons.Running
    ∷ when (operators.is_bad_number seqnum (operators.limits_here e.channel n)) reasons.BadNumber
    ∷ []) (operators.operated (parts_of (harden e.channel (notes.SeqSet end_kinds.Sender (seqnum - 1)) n.manager)) n.own) refl
resets seqnum n (Some (Receives e)) h k = tested n (
    when (taken_states.is_bound e.machine.state) reasons.Running
    ∷ when (operators.is_bad_number seqnum (operators.limits_here e.channel n)) reasons.BadNumber
    ∷ []) (operators.operated (parts_of (harden e.channel (notes.SeqSet end_kinds.Receiver (seqnum - 1)) n.manager)) (with_end (Receives (record e { machine = taken_states.numbered (seqnum - 1) e.machine })) n.own))
    (receiver_set n e (taken_states.numbered (seqnum - 1) e.machine) e.kept h k)

resolves : (settle : Settle) (n : Node) (o : Option SenderEnd) → KeepsDeed n (operators.resolve_end settle o n)
resolves settle n None = refl
resolves settle n (Some e) = go (in_doubt_of (sender_data e.channel n.manager))
  where
    go : (d : Option InDoubt) → KeepsDeed n (operators.resolve_doubt e settle d n)
    go None = refl
    go (Some d) = tested n (when (sent_states.is_running e.machine.state) reasons.Running ∷ []) (operators.operated (parts_of (harden e.channel (notes.Resolved d.unit (is_commit settle) true) n.manager)) n.own) refl

operates : (n : Node) (op : Op) → IsKeyed n → KeepsDeed n (operators.operate_up op n)
operates n (ops.Start channel) h = starts n (operators.end_here channel n) h (end_there channel n)
operates n (ops.Stop channel) h = stops n (operators.end_here channel n) h (end_there channel n)
operates n (ops.Reset channel seqnum) h = resets seqnum n (operators.end_here channel n) h (end_there channel n)
operates n (ops.Resolve channel settle) h = resolves settle n (sender_named channel n.own.ends)

-- Each deed

quiet : (n : Node) (o : Option Deed) → EachQuiet n.own o → EachKeeps n o
quiet n None q = tt
quiet n (Some d) q = ap tags q.ends

deeds : (stamp : ℕ) (actor : Actor) (call : Call) (seen : Seen) (n : Node) → IsKeyed n → EachKeeps n (deed_of stamp actor call seen n)
deeds stamp actor call seen n h = deed_has (EachKeeps n) stamp actor call seen n (record {
  none = tt;
  ordinary = λ o. quiet n (deed_of stamp actor call seen n) (ordinary_is_quiet stamp actor call seen n o);
  sends = λ j f g. sender_turns stamp n j (sender_end j n.own) seen h refl;
  takes = λ j f g. receiver_turns stamp n j (receiver_end j n.own) seen h refl;
  times = λ j f g. times_out n j (sender_end j n.own) h refl;
  operates = λ op f. tested n (when (not (is_up n.manager.running)) reasons.Down ∷ []) (operators.operate_up op n) (operates n op h);
})

-- Each event

chosen : (n : Node) (d : Deed) (choice : Choice) → KeepsDeed n d → tags (done d choice n).next.own.ends ≡ tags n.own.ends
chosen n d Runs k = k
chosen n d NoMemory k = refl
chosen n d (Stopped by_ part left) k = refl

happened : (n : Node) (o : Option Deed) (chance : Chance) → EachKeeps n o → tags (choice_event chance o n).next.own.ends ≡ tags n.own.ends
happened n None (chances.Call choice) k = refl
happened n (Some d) (chances.Call choice) k = chosen n d choice k
happened n o (chances.Restart choice) k = refl
happened n o (chances.Foreign image length left) k = refl

rest_tags : (es : List ChannelEnd) → tags (map end_at_rest es) ≡ tags es
rest_tags [] = refl
rest_tags (Sends e ∷ es) = ap (λ (ks : List Tag). tag_of (Sends e) ∷ ks) (rest_tags es)
rest_tags (Receives e ∷ es) = ap (λ (ks : List Tag). tag_of (Receives e) ∷ ks) (rest_tags es)

pub begun_tags : (p : Plain) (es : List ChannelEnd) → tags (map (end_begun p) es) ≡ tags es
begun_tags p [] = refl
begun_tags p (Sends e ∷ es) = ap (λ (ks : List Tag). tag_of (Sends e) ∷ ks) (begun_tags p es)
begun_tags p (Receives e ∷ es) = ap (λ (ks : List Tag). tag_of (Receives e) ∷ ks) (begun_tags p es)

crash_tags : (n : Node) (o : Outcome RestartFault Bool) → tags (own_crashed o n.own).ends ≡ tags n.own.ends
crash_tags n (Answered true) = rest_tags n.own.ends
crash_tags n (Answered false) = refl
crash_tags n (Refused fault) = refl
crash_tags n Wanting = refl
crash_tags n (Broken by_) = refl

restart_tags : (n : Node) (a : After RestartFault Kept) (o : Outcome RestartFault Kept) → tags (restarted_as o a.delta a.next n).next.own.ends ≡ tags n.own.ends
restart_tags n a (Answered kept) = begun_tags a.next n.own.ends
restart_tags n a (Refused fault) = refl
restart_tags n a Wanting = refl
restart_tags n a (Broken by_) = refl

restarts : (n : Node) (chance : Chance) → tags (restart_event chance n).next.own.ends ≡ tags n.own.ends
restarts n (chances.Call choice) = refl
restarts n (chances.Restart choice) = restart_tags n (restart choice n.manager) (restart choice n.manager).outcome
restarts n (chances.Foreign image length left) = begun_tags (resumed image length left n.manager) n.own.ends

deeds_next : (stamp : ℕ) (actor : Actor) (call : Call) (chance : Chance) (seen : Seen) (n : Node) → IsKeyed n
    → tags (remembered actor call (choice_event chance (deed_of stamp actor call seen n) n).reply (choice_event chance (deed_of stamp actor call seen n) n).next.own).ends ≡ tags n.own.ends
deeds_next stamp actor call chance seen n h =
    ap tags (remembered_ends actor call (choice_event chance (deed_of stamp actor call seen n) n).reply (choice_event chance (deed_of stamp actor call seen n) n).next.own)
    ∙ happened n (deed_of stamp actor call seen n) chance (deeds stamp actor call seen n h)

pub tag_events : (stamp : ℕ) (actor : Actor) (call : Call) (chance : Chance) (seen : Seen) (n : Node) → IsKeyed n → tags (event stamp actor call chance seen n).next.own.ends ≡ tags n.own.ends
tag_events stamp actor (calls.Act acts.Crash) chance seen n h = crash_tags n (stop n.manager).outcome
tag_events stamp actor (calls.Act acts.Restart) chance seen n h = restarts n chance
tag_events stamp actor (calls.Act (acts.Cut k)) chance seen n h = refl
tag_events stamp actor (calls.Act (acts.Clock by_)) chance seen n h = refl
tag_events stamp actor call chance seen n h = deeds_next stamp actor call chance seen n h

-- and with the tags the keys
tag_keys : (es : List ChannelEnd) → keys es ≡ map (λ (t : Tag). t.key) (tags es)
tag_keys [] = refl
tag_keys (e ∷ es) = ap (λ (ks : List Key). key_of e ∷ ks) (tag_keys es)

keys_by : (new old : List ChannelEnd) → tags new ≡ tags old → keys new ≡ keys old
keys_by new old e = tag_keys new ∙ ap (λ (ts : List Tag). map (λ (t : Tag). t.key) ts) e ∙ sym (tag_keys old)

pub begun_keys : (p : Plain) (es : List ChannelEnd) → keys (map (end_begun p) es) ≡ keys es
begun_keys p es = keys_by (map (end_begun p) es) es (begun_tags p es)

pub events : (stamp : ℕ) (actor : Actor) (call : Call) (chance : Chance) (seen : Seen) (n : Node) → IsKeyed n → keys (event stamp actor call chance seen n).next.own.ends ≡ keys n.own.ends
events stamp actor call chance seen n h = keys_by (event stamp actor call chance seen n).next.own.ends n.own.ends (tag_events stamp actor call chance seen n h)

-- and all that come
pub tag_histories : (n : Node) (es : List Entry) → IsKeyed n → tags (after n es).own.ends ≡ tags n.own.ends
tag_histories n [] h = refl
tag_histories n (e ∷ es) h =
    let one : tags (done_by e n).next.own.ends ≡ tags n.own.ends = tag_events e.stamp e.actor e.call e.chance e.effect.popped n h in
    tag_histories (done_by e n).next es (subst (λ (ks : List Key). AreKeyed ks) (sym (keys_by (done_by e n).next.own.ends n.own.ends one)) h) ∙ one

pub histories : (n : Node) (es : List Entry) → IsKeyed n → keys (after n es).own.ends ≡ keys n.own.ends
histories n es h = keys_by (after n es).own.ends n.own.ends (tag_histories n es h)
