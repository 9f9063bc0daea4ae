-- An end's turn at any stamp: whether there is one, and whether it offers a frame, doesn't depend on the stamp; one that offers a frame writes nothing, and the frame has the stamp.
use Rattle.std.proofs.Common.{◌≡◌, ℕ, zero, suc, true, false, List, [], ◌∷◌, refl, sym, ap, subst, ◌∙◌, inl, inr}
use Rattle.std.specs.Prelude.{◌⊎◌, Option, Some, None, is_some}
use Rattle.std.specs.Option.{option_map}
use Rattle.mq_codes.specs.declared.reason.Reason.{Reason}
use Rattle.mq_calls.specs.declared.agents.PrepareFault.{PrepareFault}
use Rattle.mq_calls.specs.declared.choices.Choice.{Choice}
use Rattle.mq_calls.specs.declared.choices.Choice.TheVariants.{Runs, NoMemory, Stopped}
use Rattle.mq_calls.specs.State.{Running}
use Rattle.mq_calls.specs.State.Running.{Up, Down}
use Rattle.mq_calls.specs.Steps.{IsWrite, Part, Step, do_all, silent}
use Rattle.mq_calls.specs.Steps.Step.{Do, Refuse}
use Rattle.mq_frame.specs.declared.frame.Frame.{Frame}
use Rattle.mq_frame.specs.declared.frame.Seen.{Seen}
use Rattle.mq_history.specs.declared.calls.Actor.TheVariants as actors
use Rattle.mq_history.specs.declared.calls.Call.TheVariants as calls
use Rattle.mq_message.specs.declared.message.Message.{Message}
use Rattle.mq_receiver.specs.declared.state.Owed.{Owed}
use Rattle.mq_receiver.specs.declared.state.Owed.TheVariants as owed
use Rattle.mq_receiver.specs.declared.turns.ReceiverDoes.{ReceiverDoes}
use Rattle.mq_receiver.specs.declared.turns.ReceiverDoes.TheVariants as takes
use Rattle.mq_receiver.specs.declared.turns.ReceiverOut.TheVariants as outs
use Rattle.mq_receiver.specs.After.{last_by}
use Rattle.mq_receiver.specs.States.{owed_frame}
use Rattle.mq_receiver.specs.Table.{receiver_next}
use Rattle.mq_sender.specs.declared.turns.SenderDoes.{SenderDoes}
use Rattle.mq_sender.specs.declared.turns.SenderDoes.TheVariants as does
use Rattle.mq_sender.specs.After.{number_sent}
use Rattle.mq_sender.specs.Frames.{bind_frame, end_frame}
use Rattle.mq_sender.specs.Table.{sender_next}
use Rattle.mq_sync.specs.Units.{unit_named}
use Rattle.mq_spec_manager.specs.Agents.{batch_row, hold_batch, prepare, receive, stock}
use Rattle.mq_spec_node.specs.Words.{Deed, Node, ReceiverEnd, SenderEnd, CanCome, carried, deed_of, receiver_end, sender_end}
use Rattle.mq_spec_node.specs.Deeds.{CanWant, parts_of, turned}
use Rattle.mq_spec_node.specs.Terms.{Actor, Luw}
use Rattle.mq_spec_node.specs.Calls.{receiver_turn, sender_turn, where_up}
use Rattle.mq_spec_node.specs.Receivers.{is_receiver_defined, place_deed, receiver_deed_by, receiver_end_after}
use Rattle.mq_spec_node.specs.Senders.{begin_deed, prepare_deed, sender_deed_by, sent}

-- Two deeds of which both are there or none is, and both offer a frame or none does.
abbrev pub Alike : Option Deed → Option Deed → Type 0
Alike None None = Unit {0}
Alike None (Some b) = ⊥
Alike (Some a) None = ⊥
Alike (Some a) (Some b) = is_some a.pushed ≡ is_some b.pushed

alike_same : (o : Option Deed) → Alike o o
alike_same None = tt
alike_same (Some d) = refl

some_map : {A B : Type 0} (f : A → B) (o : Option A) → is_some (option_map f o) ≡ is_some o
some_map f None = refl
some_map f (Some x) = refl

some_alike : {A B : Type 0} (f g : A → B) (o : Option A) → is_some (option_map f o) ≡ is_some (option_map g o)
some_alike f g o = some_map f o ∙ sym (some_map g o)

sender_alike : (s t : ℕ) (e : SenderEnd) (d : SenderDoes) (n : Node) → Alike (sender_deed_by s e d n) (sender_deed_by t e d n)
sender_alike s t e does.Still n = tt
sender_alike s t e does.Ignore n = refl
sender_alike s t e (does.HardenSession session) n = refl
sender_alike s t e does.PushBind n = refl
sender_alike s t e does.Expire n = refl
sender_alike s t e (does.Begin k count) n = some_alike (carried s e k 1) (carried t e k 1) _
sender_alike s t e (does.PushMsg index) n = some_alike (carried s e e.machine.begun index) (carried t e e.machine.begun index) (batch_row e.channel index n.manager)
sender_alike s t e does.Prepare n = refl
sender_alike s t e does.PushEnd n = refl
sender_alike s t e (does.Bound settle partner) n = refl
sender_alike s t e does.Commit n = refl
sender_alike s t e (does.Backout reason) n = refl

receiver_alike : (s t : ℕ) (e : ReceiverEnd) (seen : Seen) (d : ReceiverDoes) (n : Node) → Alike (receiver_deed_by s e seen d n) (receiver_deed_by t e seen d n)
receiver_alike s t e seen takes.Still n = tt
receiver_alike s t e seen takes.Ignore n = refl
receiver_alike s t e seen takes.PushOwed n = some_alike (owed_frame s) (owed_frame t) e.machine.owes
receiver_alike s t e seen takes.Bind n = refl
receiver_alike s t e seen takes.Keep n = refl
receiver_alike s t e seen (takes.Place unit) n = refl
receiver_alike s t e seen takes.Again n = refl
receiver_alike s t e seen takes.Close n = refl

sends_alike : (s t : ℕ) (o : Option SenderEnd) (seen : Seen) (n : Node) → Alike (sender_turn s o seen n) (sender_turn t o seen n)
sends_alike s t None seen n = tt
sends_alike s t (Some e) seen n = sender_alike s t e (sender_next e.machine seen (stock e.channel n.manager)) n

receives_alike : (s t : ℕ) (o : Option ReceiverEnd) (seen : Seen) (n : Node) → Alike (receiver_turn s o seen n) (receiver_turn t o seen n)
receives_alike s t None seen n = tt
receives_alike s t (Some e) seen n = receiver_alike s t e seen (receiver_next e.machine seen (is_receiver_defined e.channel n.manager.definitions)) n

up_alike : (r : Running) (a b : Option Deed) → Alike a b → Alike (where_up r a) (where_up r b)
up_alike Up a b h = h
up_alike (Down noted starts) a b h = tt

-- WHAT OFFERS A FRAME
-- It runs, and the frame has the stamp.
pub record Pushing (stamp : ℕ) (d : Deed) (n : Node) : Type 0 where
  pub runs : (choice : Choice) → CanCome d choice n → choice ≡ Runs
  pub stamped : (f : Frame) → d.pushed ≡ Some f → f.stamp ≡ stamp

abbrev pub PushesOr : ℕ → Option Deed → Node → Type 0
PushesOr stamp None n = Unit {0}
PushesOr stamp (Some d) n = (d.pushed ≡ None) ⊎ Pushing stamp d n

some_is : {A : Type 0} (a b : A) → Some a ≡ Some b → a ≡ b
some_is a b e = cc

-- no write, and no want of memory
runs_alone : (d : Deed) (n : Node) → d.wanting ≡ None → ((k : ℕ) → IsWrite k d.parts → ⊥) → (choice : Choice) → CanCome d choice n → choice ≡ Runs
runs_alone d n none silent Runs can = refl
runs_alone d n none silent NoMemory can = absurd (subst CanWant none can)
runs_alone d n none silent (Stopped by k left) can = absurd (silent k can.0)

no_parts : (k : ℕ) → IsWrite k [] → ⊥
no_parts zero h = h
no_parts (suc k) h = h

one_quiet : (part : Part) → part.forced ≡ None → (k : ℕ) → IsWrite k (part ∷ []) → ⊥
one_quiet part none zero h = absurd (let e : false ≡ true = sym (ap is_some none) ∙ h in cc)
one_quiet part none (suc k) h = no_parts k h

carried_stamp : (stamp : ℕ) (e : SenderEnd) (k index : ℕ) (o : Option Message) (f : Frame) → option_map (carried stamp e k index) o ≡ Some f → f.stamp ≡ stamp
carried_stamp stamp e k index None f is = absurd cc
carried_stamp stamp e k index (Some m) f is = sym (ap (λ (x : Frame). x.stamp) (some_is (carried stamp e k index m) f is))

owed_stamp : (stamp : ℕ) (o : Owed) → (owed_frame stamp o).stamp ≡ stamp
owed_stamp stamp (owed.Status session unit last) = refl
owed_stamp stamp (owed.Ack unit) = refl
owed_stamp stamp (owed.Err unit reason) = refl

paid_stamp : (stamp : ℕ) (o : Option Owed) (f : Frame) → option_map (owed_frame stamp) o ≡ Some f → f.stamp ≡ stamp
paid_stamp stamp None f is = absurd cc
paid_stamp stamp (Some o) f is = sym (ap (λ (x : Frame). x.stamp) (some_is (owed_frame stamp o) f is)) ∙ owed_stamp stamp o

frame_stamp : (stamp : ℕ) (g f : Frame) → g.stamp ≡ stamp → Some g ≡ Some f → f.stamp ≡ stamp
frame_stamp stamp g f is e = sym (ap (λ (x : Frame). x.stamp) (some_is g f e)) ∙ is

prepared_silent : (e : SenderEnd) (s : Step PrepareFault (Unit {0})) (n : Node) → (prepare_deed e s n).pushed ≡ None
prepared_silent e (Refuse fault) n = refl
prepared_silent e (Do reply parts) n = refl

placed_silent : (e : ReceiverEnd) (unit : Luw) (seen : Seen) (s : Step Reason (Unit {0})) (n : Node) → (place_deed e unit seen s n).pushed ≡ None
placed_silent e unit seen (Refuse reason) n = refl
placed_silent e unit seen (Do reply parts) n = refl

-- one without a write, of which every frame has the stamp
pushing : (s : ℕ) (d : Deed) (n : Node) → d.wanting ≡ None → ((k : ℕ) → IsWrite k d.parts → ⊥) → ((f : Frame) → d.pushed ≡ Some f → f.stamp ≡ s) → PushesOr s (Some d) n
pushing s d n none silent stamped = inr (record { runs = runs_alone d n none silent; stamped = stamped })

abbrev first_part : List Part → Part
first_part [] = silent []
first_part (part ∷ parts) = part

abbrev held_part : List ℕ → Luw → ℕ → Node → Part
held_part channel unit count n = first_part (parts_of (hold_batch channel unit count n.manager))

sender_pushes : (s : ℕ) (e : SenderEnd) (d : SenderDoes) (n : Node) → PushesOr s (sender_deed_by s e d n) n
sender_pushes s e does.Still n = tt
sender_pushes s e does.Ignore n = inl refl
sender_pushes s e (does.HardenSession session) n = inl refl
sender_pushes s e does.PushBind n = pushing s (sent e does.PushBind [] (Some (bind_frame s e.machine)) n) n refl no_parts (λ f h. frame_stamp s (bind_frame s e.machine) f refl h)
sender_pushes s e does.Expire n = inl refl
sender_pushes s e (does.Begin k count) n =
    pushing s (begin_deed s e k count (parts_of (hold_batch e.channel (unit_named e.machine.kept.session k) count n.manager)) n) n refl
    (one_quiet (held_part e.channel (unit_named e.machine.kept.session k) count n) refl) (λ f h. carried_stamp s e k 1 (batch_row e.channel 1 (do_all (parts_of (hold_batch e.channel (unit_named e.machine.kept.session k) count n.manager)) n.manager)) f h)
sender_pushes s e (does.PushMsg index) n =
    pushing s (sent e (does.PushMsg index) [] (option_map (carried s e e.machine.begun index) (batch_row e.channel index n.manager)) n) n refl no_parts
    (λ f h. carried_stamp s e e.machine.begun index (batch_row e.channel index n.manager) f h)
sender_pushes s e does.Prepare n = inl (prepared_silent e (prepare e.channel (number_sent e.machine.state e.machine.kept.last) n.manager) n)
sender_pushes s e does.PushEnd n = pushing s (sent e does.PushEnd [] (Some (end_frame s e.machine)) n) n refl no_parts (λ f h. frame_stamp s (end_frame s e.machine) f refl h)
sender_pushes s e (does.Bound settle partner) n = inl refl
sender_pushes s e does.Commit n = inl refl
sender_pushes s e (does.Backout reason) n = inl refl

receiver_pushes : (s : ℕ) (e : ReceiverEnd) (seen : Seen) (d : ReceiverDoes) (n : Node) → PushesOr s (receiver_deed_by s e seen d n) n
receiver_pushes s e seen takes.Still n = tt
receiver_pushes s e seen takes.Ignore n = inl refl
receiver_pushes s e seen takes.PushOwed n =
    pushing s (turned [] (option_map (owed_frame s) e.machine.owes) (receiver_end_after e takes.PushOwed seen outs.Done e.kept n.own)) n refl no_parts (λ f h. paid_stamp s e.machine.owes f h)
receiver_pushes s e seen takes.Bind n = inl refl
receiver_pushes s e seen takes.Keep n = inl refl
receiver_pushes s e seen (takes.Place unit) n = inl (placed_silent e unit seen (receive e.channel unit (last_by seen e.machine.last) e.kept n.manager) n)
receiver_pushes s e seen takes.Again n = inl refl
receiver_pushes s e seen takes.Close n = inl refl

sends_push : (s : ℕ) (o : Option SenderEnd) (seen : Seen) (n : Node) → PushesOr s (sender_turn s o seen n) n
sends_push s None seen n = tt
sends_push s (Some e) seen n = sender_pushes s e (sender_next e.machine seen (stock e.channel n.manager)) n

receives_push : (s : ℕ) (o : Option ReceiverEnd) (seen : Seen) (n : Node) → PushesOr s (receiver_turn s o seen n) n
receives_push s None seen n = tt
receives_push s (Some e) seen n = receiver_pushes s e seen (receiver_next e.machine seen (is_receiver_defined e.channel n.manager.definitions)) n

up_pushes : (s : ℕ) (r : Running) (o : Option Deed) (n : Node) → PushesOr s o n → PushesOr s (where_up r o) n
up_pushes s Up o n h = h
up_pushes s (Down noted starts) o n h = tt

-- THE TURNS OF AN END
-- what is known of one's turns
pub record IsEnd (who : Actor) : Type 0 where
  pub alike : (s t : ℕ) (seen : Seen) (n : Node) → Alike (deed_of s who calls.Turn seen n) (deed_of t who calls.Turn seen n)
  pub pushes : (s : ℕ) (seen : Seen) (n : Node) → PushesOr s (deed_of s who calls.Turn seen n) n

pub a_sender : (cable : ℕ) → IsEnd (actors.Sender cable)
a_sender cable = record {
  alike = λ s t seen n. up_alike n.manager.running (sender_turn s (sender_end cable n.own) seen n) (sender_turn t (sender_end cable n.own) seen n) (sends_alike s t (sender_end cable n.own) seen n);
  pushes = λ s seen n. up_pushes s n.manager.running (sender_turn s (sender_end cable n.own) seen n) n (sends_push s (sender_end cable n.own) seen n);
}

pub a_receiver : (cable : ℕ) → IsEnd (actors.Receiver cable)
a_receiver cable = record {
  alike = λ s t seen n. up_alike n.manager.running (receiver_turn s (receiver_end cable n.own) seen n) (receiver_turn t (receiver_end cable n.own) seen n) (receives_alike s t (receiver_end cable n.own) seen n);
  pushes = λ s seen n. up_pushes s n.manager.running (receiver_turn s (receiver_end cable n.own) seen n) n (receives_push s (receiver_end cable n.own) seen n);
}
