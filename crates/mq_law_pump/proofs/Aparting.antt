-- What an end of a cable does leaves the ends of other cables at its node, and the rows of a queue that another sender there has open; trigger turns too.
use Rattle.std.proofs.Common.{ℕ, ◌≡◌, true, false, List, [], ◌∷◌, refl, ap, sym, subst, ◌∙◌, inl, inr}
use Rattle.std.specs.Prelude.{if◌then◌else◌, Option, Some, None, ◌==◌, is_some}
use Rattle.std.specs.Str.{bytes_eq}
use Rattle.std.proofs.lemmas.Bool.{true≢false}
use Rattle.mq_calls.specs.declared.agents.PrepareFault.{PrepareFault}
use Rattle.mq_calls.specs.declared.state.Seizure.{Seizure}
use Rattle.mq_codes.specs.declared.reason.Reason.{Reason}
use Rattle.mq_codes.specs.Numbers.{number}
use Rattle.mq_frame.specs.declared.frame.Seen.{Seen}
use Rattle.mq_message.specs.declared.message.Message.{Message}
use Rattle.mq_objects.specs.Names.{local_of, locals_of}
use Rattle.mq_objects.specs.declared.object.Definitions.{Definitions}
use Rattle.mq_objects.specs.declared.object.LocalQueue.{LocalQueue}
use Rattle.mq_receiver.specs.After.{last_by, receiver_after}
use Rattle.mq_receiver.specs.Table.{receiver_next}
use Rattle.mq_receiver.specs.declared.state.Receiver.{Receiver}
use Rattle.mq_receiver.specs.declared.turns.ReceiverDoes.{ReceiverDoes}
use Rattle.mq_receiver.specs.declared.turns.ReceiverDoes.TheVariants as takes
use Rattle.mq_receiver.specs.declared.turns.ReceiverOut.TheVariants as ends
use Rattle.mq_sender.specs.After.{number_sent, sender_after}
use Rattle.mq_sender.specs.States.{awaits, is_running, timed_out}
use Rattle.mq_sender.specs.Table.{sender_next}
use Rattle.mq_sender.specs.declared.state.Sender.{Sender}
use Rattle.mq_sender.specs.declared.turns.SenderDoes.{SenderDoes}
use Rattle.mq_sender.specs.declared.turns.SenderDoes.TheVariants as does_
use Rattle.mq_sender.specs.declared.turns.SenderOut.TheVariants as outs
use Rattle.mq_sync.specs.declared.unit.Unit.{Unit as Luw}
use Rattle.mq_calls.specs.Reads.{has_held_by_other, seizure_of}
use Rattle.mq_calls.specs.State.{Given, Plain, Running}
use Rattle.mq_calls.specs.State.Running.{Down, Up}
use Rattle.mq_calls.specs.Steps.{Step}
use Rattle.mq_calls.specs.Steps.Step.{Do, Refuse}
use Rattle.mq_spec_manager.specs.Agents.{HasSeized, prepare, queue_of_sender, receive, seized_queue, stock}
use Rattle.mq_spec_manager.specs.Handles.{is_transmission_queue}
use Rattle.mq_spec_manager.specs.Triggers.{first_due}
use Rattle.mq_spec_node.specs.Calls.{trigger_deed, trigger_deed_of, where_up}
use Rattle.mq_spec_node.specs.Deeds.{Deed}
use Rattle.mq_spec_node.specs.Node.{Node, ReceiverEnd, SenderEnd, cable_of, end_in, with_end}
use Rattle.mq_spec_node.specs.Node.ChannelEnd.{Receives, Sends}
use Rattle.mq_spec_node.specs.Receivers.{is_receiver_defined, kept_seen, place_deed, receiver_deed, receiver_deed_by}
use Rattle.mq_spec_node.specs.Senders.{after_timeout, prepare_deed, sender_deed, sender_deed_by, timeout_deed}
use Rattle.mq_law_unshared.specs.from_law_keys.Keys.{IsKeyed}
use Rattle.mq_law_unshared.proofs.from_law_keys.Telling.{end_mem, one_channel}
use Rattle.mq_law_manager.specs.Facts.{Mem}
use Rattle.mq_law_node.proofs.Named.{bool_case, end_other, name_is, name_self}
use Rattle.mq_law_seized.specs.Seized.{AreSeized}
use Rattle.mq_law_pump.specs.Apart.{EachEndStays, EachIsSilent}
use Rattle.mq_law_pump.specs.Away.{AllAway, IsAsBegun, RunsOn}
use Rattle.mq_law_pump.specs.Others.{AllGoElsewhere, EachAddsNone, GoesElsewhere}
use Rattle.mq_law_pump.proofs.OtherDeeds.{senders_add_none, timeouts_add_none}
use Rattle.mq_law_pump.proofs.Staying.{Runs, runs_by}

-- ENDS
sender_set : (j : ℕ) (e : SenderEnd) (m : Sender) (n : Node) → (e.cable == j) ≡ false → end_in j (with_end (Sends (record e { machine = m })) n.own).ends ≡ end_in j n.own.ends
sender_set j e m n apart = end_other j (Sends (record e { machine = m })) n.own.ends apart

receiver_set : (j : ℕ) (e : ReceiverEnd) (m : Receiver) (kept : List Message) (n : Node) → (e.cable == j) ≡ false → end_in j (with_end (Receives (record e { machine = m; kept = kept })) n.own).ends ≡ end_in j n.own.ends
receiver_set j e m kept n apart = end_other j (Receives (record e { machine = m; kept = kept })) n.own.ends apart

prepared_ends : (j : ℕ) (e : SenderEnd) (s : Step PrepareFault (Unit {0})) (n : Node) → (e.cable == j) ≡ false → EachEndStays j n (Some (prepare_deed e s n))
prepared_ends j e (Refuse fault) n apart = sender_set j e (sender_after e.machine does_.Prepare outs.NoRoom) n apart
prepared_ends j e (Do reply parts) n apart = sender_set j e (sender_after e.machine does_.Prepare outs.Done) n apart

senders_by : (j stamp : ℕ) (e : SenderEnd) (x : SenderDoes) (n : Node) → (e.cable == j) ≡ false → EachEndStays j n (sender_deed_by stamp e x n)
senders_by j stamp e does_.Still n apart = tt
senders_by j stamp e does_.Ignore n apart = refl
senders_by j stamp e (does_.HardenSession session) n apart = sender_set j e (sender_after e.machine (does_.HardenSession session) outs.Done) n apart
senders_by j stamp e does_.PushBind n apart = sender_set j e (sender_after e.machine does_.PushBind outs.Done) n apart
senders_by j stamp e does_.Expire n apart = sender_set j e (sender_after e.machine does_.Expire outs.Done) n apart
senders_by j stamp e (does_.Begin k count) n apart = sender_set j e (sender_after e.machine (does_.Begin k count) outs.Done) n apart
senders_by j stamp e (does_.PushMsg index) n apart = sender_set j e (sender_after e.machine (does_.PushMsg index) outs.Done) n apart
senders_by j stamp e does_.Prepare n apart = prepared_ends j e (prepare e.channel (number_sent e.machine.state e.machine.kept.last) n.manager) n apart
senders_by j stamp e does_.PushEnd n apart = sender_set j e (sender_after e.machine does_.PushEnd outs.Done) n apart
senders_by j stamp e (does_.Bound settle partner) n apart = sender_set j e (sender_after e.machine (does_.Bound settle partner) outs.Done) n apart
senders_by j stamp e does_.Commit n apart = sender_set j e (sender_after e.machine does_.Commit outs.Done) n apart
senders_by j stamp e (does_.Backout reason) n apart = sender_set j e (sender_after e.machine (does_.Backout reason) outs.Done) n apart

pub senders_end : (j stamp : ℕ) (e : SenderEnd) (seen : Seen) (n : Node) → (e.cable == j) ≡ false → EachEndStays j n (sender_deed stamp e seen n)
senders_end j stamp e seen n apart = senders_by j stamp e (sender_next e.machine seen (stock e.channel n.manager)) n apart

pub timeouts_end : (j : ℕ) (e : SenderEnd) (n : Node) → (e.cable == j) ≡ false → EachEndStays j n (timeout_deed e n)
timeouts_end j e n apart = bool_case (awaits e.machine.state) (λ b. EachEndStays j n (if b then Some (after_timeout e (timed_out e.machine) n) else None)) (λ x. sender_set j e (timed_out e.machine) n apart) (λ x. tt)

placed_ends : (j : ℕ) (e : ReceiverEnd) (unit : Luw) (seen : Seen) (s : Step Reason (Unit {0})) (n : Node) → (e.cable == j) ≡ false → EachEndStays j n (Some (place_deed e unit seen s n))
placed_ends j e unit seen (Refuse reason) n apart = receiver_set j e (receiver_after e.machine (takes.Place unit) seen (ends.Refused (number reason))) [] n apart
placed_ends j e unit seen (Do reply parts) n apart = receiver_set j e (receiver_after e.machine (takes.Place unit) seen ends.Done) [] n apart

receivers_by : (j stamp : ℕ) (e : ReceiverEnd) (seen : Seen) (x : ReceiverDoes) (n : Node) → (e.cable == j) ≡ false → EachEndStays j n (receiver_deed_by stamp e seen x n)
receivers_by j stamp e seen takes.Still n apart = tt
receivers_by j stamp e seen takes.Ignore n apart = refl
receivers_by j stamp e seen takes.PushOwed n apart = receiver_set j e (receiver_after e.machine takes.PushOwed seen ends.Done) e.kept n apart
receivers_by j stamp e seen takes.Bind n apart = receiver_set j e (receiver_after e.machine takes.Bind seen ends.Done) [] n apart
receivers_by j stamp e seen takes.Keep n apart = receiver_set j e (receiver_after e.machine takes.Keep seen ends.Done) (kept_seen seen e.kept) n apart
receivers_by j stamp e seen (takes.Place unit) n apart = placed_ends j e unit seen (receive e.channel unit (last_by seen e.machine.last) e.kept n.manager) n apart
receivers_by j stamp e seen takes.Again n apart = receiver_set j e (receiver_after e.machine takes.Again seen ends.Done) e.kept n apart
receivers_by j stamp e seen takes.Close n apart = receiver_set j e (receiver_after e.machine takes.Close seen ends.Done) [] n apart

pub receivers_end : (j stamp : ℕ) (e : ReceiverEnd) (seen : Seen) (n : Node) → (e.cable == j) ≡ false → EachEndStays j n (receiver_deed stamp e seen n)
receivers_end j stamp e seen n apart = receivers_by j stamp e seen (receiver_next e.machine seen (is_receiver_defined e.channel n.manager.definitions)) n apart

of_ends : (j : ℕ) (o : Option LocalQueue) (n : Node) → EachEndStays j n (trigger_deed_of o n)
of_ends j None n = tt
of_ends j (Some l) n = refl

up_ends : (j : ℕ) (n : Node) (r : Running) (o : Option Deed) → EachEndStays j n o → EachEndStays j n (where_up r o)
up_ends j n Up o h = h
up_ends j n (Down noted starts) o h = tt

pub triggers_end : (j : ℕ) (n : Node) → EachEndStays j n (trigger_deed n)
triggers_end j n = up_ends j n n.manager.running (trigger_deed_of (first_due (locals_of n.manager.definitions) n.manager) n) (of_ends j (first_due (locals_of n.manager.definitions) n.manager) n)

of_silent : (o : Option LocalQueue) (n : Node) → EachIsSilent (trigger_deed_of o n)
of_silent None n = tt
of_silent (Some l) n = refl

up_silent : (r : Running) (o : Option Deed) → EachIsSilent o → EachIsSilent (where_up r o)
up_silent Up o h = h
up_silent (Down noted starts) o h = tt

pub triggers_silent : (n : Node) → EachIsSilent (trigger_deed n)
triggers_silent n = up_silent n.manager.running (trigger_deed_of (first_due (locals_of n.manager.definitions) n.manager) n) (of_silent (first_due (locals_of n.manager.definitions) n.manager) n)

-- QUEUES THAT SENDERS HAVE OPEN
some_seizure : (a b : Seizure) → Some a ≡ Some b → a ≡ b
some_seizure a b z = cc

seizure_there : (channel : List ℕ) (ss : List Seizure) (s : Seizure) → seizure_of channel ss ≡ Some s → Mem s ss × (channel ≡ s.channel)
seizure_there channel [] s is = absurd cc
seizure_there channel (x ∷ xs) s is = bool_case (bytes_eq channel x.channel) (λ b. (if b then Some x else seizure_of channel xs) ≡ Some s → Mem s (x ∷ xs) × (channel ≡ s.channel))
    (λ z h. (inl (sym (some_seizure x s h)), name_is channel x.channel z ∙ ap (λ (t : Seizure). t.channel) (some_seizure x s h)))
    (λ z h. let r = seizure_there channel xs s h in (inr r.0, r.1)) is

has_seizure : (channel : List ℕ) (p : Plain) → HasSeized channel p → (s : Seizure) × (seizure_of channel p.channels.seizures ≡ Some s)
has_seizure channel p h = at (seizure_of channel p.channels.seizures) refl h
  where
    at : (o : Option Seizure) → seizure_of channel p.channels.seizures ≡ o → is_some o ≡ true → (s : Seizure) × (seizure_of channel p.channels.seizures ≡ Some s)
    at None is h = absurd cc
    at (Some s) is h = (s, is)

pub open_alone : (channel : List ℕ) (p : Plain) → HasSeized channel p → AreSeized p → (is_transmission_queue (local_of (queue_of_sender channel p) p.definitions) ≡ true) × (has_held_by_other channel (queue_of_sender channel p) p ≡ false)
open_alone channel p h a =
    let s = has_seizure channel p h in
    let m = seizure_there channel p.channels.seizures s.0 s.1 in
    let q : queue_of_sender channel p ≡ s.0.queue = ap seized_queue s.1 in
    (ap (λ (name : List ℕ). is_transmission_queue (local_of name p.definitions)) q ∙ a.sends s.0 m.0, (λ i. has_held_by_other (m.1 i) (q i) p) ∙ a.held s.0 m.0)

queues_apart : (a b : List ℕ) (p : Plain) → HasSeized a p → HasSeized b p → AreSeized p → bytes_eq a b ≡ false → bytes_eq (queue_of_sender a p) (queue_of_sender b p) ≡ false
queues_apart a b p g h all apart =
    let s = has_seizure a p g in
    let t = has_seizure b p h in
    let m = seizure_there a p.channels.seizures s.0 s.1 in
    let o = seizure_there b p.channels.seizures t.0 t.1 in
    bool_case (bytes_eq (queue_of_sender a p) (queue_of_sender b p)) (λ x. x ≡ false)
    (λ z.
    let one : s.0.queue ≡ t.0.queue = sym (ap seized_queue s.1) ∙ name_is (queue_of_sender a p) (queue_of_sender b p) z ∙ ap seized_queue t.1 in
    absurd (true≢false (sym (name_self b) ∙ ap (λ (x : List ℕ). bytes_eq x b) (sym (m.1 ∙ all.alone s.0 t.0 m.0 o.0 one ∙ sym o.1)) ∙ apart)))
    (λ z. refl)

-- two senders of a node
channels_apart : (n : Node) (j k : ℕ) (e f : SenderEnd) → IsKeyed n → end_in j n.own.ends ≡ Some (Sends e) → end_in k n.own.ends ≡ Some (Sends f) → (j ≡ k → ⊥) → bytes_eq e.channel f.channel ≡ false
channels_apart n j k e f keyed here there apart = bool_case (bytes_eq e.channel f.channel) (λ x. x ≡ false)
    (λ z.
    let a = end_mem j n.own.ends (Sends e) here in
    let b = end_mem k n.own.ends (Sends f) there in
    absurd (apart (sym a.1 ∙ ap cable_of (one_channel n.own.ends (Sends e) (Sends f) keyed a.0 b.0 (name_is e.channel f.channel z)) ∙ b.1)))
    (λ z. refl)

-- WHAT OTHERS DO TO ITS ROWS
idle_none : (channel q : List ℕ) (stamp : ℕ) (f : SenderEnd) (x : SenderDoes) (n : Node) → Runs f.machine x → is_running f.machine.state ≡ false → EachAddsNone channel q (sender_deed_by stamp f x n)
idle_none channel q stamp f does_.Still n runs off = tt
idle_none channel q stamp f does_.Ignore n runs off = refl
idle_none channel q stamp f (does_.HardenSession session) n runs off = absurd (true≢false (sym runs ∙ off))
idle_none channel q stamp f does_.PushBind n runs off = absurd (true≢false (sym runs ∙ off))
idle_none channel q stamp f does_.Expire n runs off = absurd (true≢false (sym runs ∙ off))
idle_none channel q stamp f (does_.Begin k count) n runs off = absurd (true≢false (sym runs ∙ off))
idle_none channel q stamp f (does_.PushMsg index) n runs off = absurd (true≢false (sym runs ∙ off))
idle_none channel q stamp f does_.Prepare n runs off = absurd (true≢false (sym runs ∙ off))
idle_none channel q stamp f does_.PushEnd n runs off = absurd (true≢false (sym runs ∙ off))
idle_none channel q stamp f (does_.Bound settle partner) n runs off = absurd (true≢false (sym runs ∙ off))
idle_none channel q stamp f does_.Commit n runs off = absurd (true≢false (sym runs ∙ off))
idle_none channel q stamp f (does_.Backout reason) n runs off = absurd (true≢false (sym runs ∙ off))

pub other_sender_none : (n : Node) (j k stamp : ℕ) (e f : SenderEnd) (seen : Seen) → IsKeyed n → AreSeized n.manager → end_in j n.own.ends ≡ Some (Sends e) → end_in k n.own.ends ≡ Some (Sends f) → (j ≡ k → ⊥)
    → HasSeized e.channel n.manager → (is_running f.machine.state ≡ true → HasSeized f.channel n.manager) → EachAddsNone e.channel (queue_of_sender e.channel n.manager) (sender_deed stamp f seen n)
other_sender_none n j k stamp e f seen keyed seized here there apart open_ opens =
    let channels : bytes_eq e.channel f.channel ≡ false = channels_apart n j k e f keyed here there apart in
    bool_case (is_running f.machine.state) (λ b. EachAddsNone e.channel (queue_of_sender e.channel n.manager) (sender_deed stamp f seen n))
    (λ runs. senders_add_none e.channel (queue_of_sender e.channel n.manager) stamp f seen n channels (queues_apart e.channel f.channel n.manager open_ (opens runs) seized channels))
    (λ off. idle_none e.channel (queue_of_sender e.channel n.manager) stamp f (sender_next f.machine seen (stock f.channel n.manager)) n (runs_by f.machine seen (stock f.channel n.manager)) off)

pub other_timeout_none : (n : Node) (j k : ℕ) (e f : SenderEnd) → IsKeyed n → end_in j n.own.ends ≡ Some (Sends e) → end_in k n.own.ends ≡ Some (Sends f) → (j ≡ k → ⊥) → EachAddsNone e.channel (queue_of_sender e.channel n.manager) (timeout_deed f n)
other_timeout_none n j k e f keyed here there apart = timeouts_add_none e.channel (queue_of_sender e.channel n.manager) f n (channels_apart n j k e f keyed here there apart)

-- messages that are away go elsewhere
pub all_elsewhere : (base : Node) (p : Plain) (q : List ℕ) (ms : List Message) → IsAsBegun p base.manager → RunsOn base q → AllAway base ms → AllGoElsewhere q p.definitions p.given ms
all_elsewhere base p q [] same runs h = tt
all_elsewhere base p q (m ∷ ms) same runs h = (
  subst (λ (d : Definitions). GoesElsewhere q d p.given m) (sym same.definitions) (subst (λ (g : Given). GoesElsewhere q base.manager.definitions g m) (sym same.given) (h.0 q runs)),
  all_elsewhere base p q ms same runs h.1,
)
