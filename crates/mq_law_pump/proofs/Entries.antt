-- An entry of a PUMP is its end's deed, which ran.
use Rattle.std.proofs.Common.{ℕ, ◌≡◌, List, [], ◌∷◌, refl, ap, sym, subst, ◌∙◌}
use Rattle.std.specs.Prelude.{Option, Some, None}
use Rattle.mq_frame.specs.declared.frame.Seen.{Seen}
use Rattle.mq_history.specs.declared.calls.Actor.{Actor}
use Rattle.mq_history.specs.declared.calls.Actor.TheVariants as actors
use Rattle.mq_history.specs.declared.calls.Call.{Call}
use Rattle.mq_history.specs.declared.calls.Call.TheVariants as calls
use Rattle.mq_history.specs.declared.calls.Chance.{Chance}
use Rattle.mq_history.specs.declared.calls.Entry.{Entry}
use Rattle.mq_objects.specs.Names.{locals_of}
use Rattle.mq_objects.specs.declared.object.LocalQueue.{LocalQueue}
use Rattle.mq_spec_manager.specs.Triggers.{first_due}
use Rattle.mq_calls.specs.State.{Running}
use Rattle.mq_calls.specs.State.Running.{Down, Up}
use Rattle.mq_spec_node.specs.Node.{ChannelEnd, Node, ReceiverEnd, SenderEnd, as_receiver, as_sender, end_in, sender_end}
use Rattle.mq_spec_node.specs.Node.ChannelEnd.{Receives, Sends}
use Rattle.mq_spec_node.specs.Deeds.{Deed}
use Rattle.mq_spec_node.specs.Calls.{receiver_turn, sender_turn, timeout_of, trigger_deed, trigger_deed_of, turn_up, where_up}
use Rattle.mq_spec_node.specs.Happens.{IsDeed, IsEvent, deed_of}
use Rattle.mq_spec_node.specs.Receivers.{receiver_deed}
use Rattle.mq_spec_node.specs.Replays.{after, done_by}
use Rattle.mq_spec_node.specs.Senders.{sender_deed, timeout_deed}
use Rattle.mq_spec_network.specs.Turns.{Network, does}
use Rattle.mq_law_pump.specs.Deeds.{EachWantsNone}
use Rattle.mq_law_pump.specs.Entries.{RanDeed}
use Rattle.mq_law_pump.specs.Fit.{Good}
use Rattle.mq_law_pump.specs.Steady.{IsPumped}
use Rattle.mq_law_pump.proofs.Histories.{after_more, asked_is, here_done, ran, told_here}

deed_there : (stamp : ℕ) (actor : Actor) (call : Call) (chance : Chance) (seen : Seen) (n : Node) → IsPumped call → IsEvent stamp actor call chance seen n → (d : Deed) × (deed_of stamp actor call seen n ≡ Some d)
deed_there stamp actor call chance seen n p h = at (deed_of stamp actor call seen n) refl (subst (λ (T : Type 0). T) (asked_is stamp actor call chance seen n p) h)
  where
    at : (o : Option Deed) → deed_of stamp actor call seen n ≡ o → IsDeed o chance n → (d : Deed) × (deed_of stamp actor call seen n ≡ Some d)
    at None is x = absurd x
    at (Some d) is x = (d, is)

up_behind : (w : Network) (m : ℕ) (e : Entry) (n : Node) → Good (does m (e ∷ []) w) → w.first m ≡ Some n → (done_by e (after n (w.done m))).next.manager.running ≡ Up
up_behind w m e n g first = ap (λ (x : Node). x.manager.running) (sym (after_more n (w.done m) (e ∷ []))) ∙ ap (λ (xs : List Entry). (after n xs).manager.running) (sym (here_done w m e)) ∙ g.up m n first

pub entry_ran : (w : Network) (m : ℕ) (e : Entry) (n : Node) → Good (does m (e ∷ []) w) → w.first m ≡ Some n → IsPumped e.call → RanDeed e (after n (w.done m))
entry_ran w m e n g first p =
    let t = told_here w m e n g first in
    let d = deed_there e.stamp e.actor e.call e.chance e.effect.popped (after n (w.done m)) p t.1.event in
    record { deed = d.0; is = d.1; ran = λ silent. ran e (after n (w.done m)) d.0 t.0 p d.1 silent t.1 (up_behind w m e n g first) }

-- whose deed it is
pub turn_there : (k stamp : ℕ) (e : SenderEnd) (n : Node) (seen : Seen) → n.manager.running ≡ Up → end_in k n.own.ends ≡ Some (Sends e) → deed_of stamp (actors.Sender k) calls.Turn seen n ≡ sender_deed stamp e seen n
turn_there k stamp e n seen up here = ap (λ (r : Running). where_up r (turn_up stamp (actors.Sender k) seen n)) up ∙ ap (λ (o : Option ChannelEnd). sender_turn stamp (as_sender o) seen n) here

pub taking_there : (k stamp : ℕ) (e : ReceiverEnd) (n : Node) (seen : Seen) → n.manager.running ≡ Up → end_in k n.own.ends ≡ Some (Receives e) → deed_of stamp (actors.Receiver k) calls.Turn seen n ≡ receiver_deed stamp e seen n
taking_there k stamp e n seen up here = ap (λ (r : Running). where_up r (turn_up stamp (actors.Receiver k) seen n)) up ∙ ap (λ (o : Option ChannelEnd). receiver_turn stamp (as_receiver o) seen n) here

pub timeout_there : (k stamp : ℕ) (e : SenderEnd) (n : Node) (seen : Seen) → n.manager.running ≡ Up → end_in k n.own.ends ≡ Some (Sends e) → deed_of stamp (actors.Sender k) calls.Timeout seen n ≡ timeout_deed e n
timeout_there k stamp e n seen up here = ap (λ (r : Running). where_up r (timeout_of (sender_end k n.own) n)) up ∙ ap (λ (o : Option ChannelEnd). timeout_of (as_sender o) n) here

-- a trigger turn takes its memory too
of_wants : (o : Option LocalQueue) (n : Node) → EachWantsNone (trigger_deed_of o n)
of_wants None n = tt
of_wants (Some q) n = refl

up_wants : (r : Running) (o : Option Deed) → EachWantsNone o → EachWantsNone (where_up r o)
up_wants Up o h = h
up_wants (Down noted starts) o h = tt

pub triggers_want : (n : Node) → EachWantsNone (trigger_deed n)
triggers_want n = up_wants n.manager.running (trigger_deed_of (first_due (locals_of n.manager.definitions) n.manager) n) (of_wants (first_due (locals_of n.manager.definitions) n.manager) n)
