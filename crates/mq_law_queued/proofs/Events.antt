-- Whatever happens at a node, each sender's batch is of the queue that it has open and lists each row once, and it has none where it sends none; and where
-- it runs, its limits allow a batch of one message at least.
use Rattle.std.proofs.Common.{ℕ, ◌≡◌, List, [], refl, ap, sym, subst, ◌∙◌, map}
use Rattle.std.specs.Prelude.{Option, Some, None}
use Rattle.mq_frame.specs.declared.frame.Seen.{Seen}
use Rattle.mq_history.specs.declared.calls.Actor.{Actor}
use Rattle.mq_history.specs.declared.calls.Call.{Call}
use Rattle.mq_history.specs.declared.calls.Chance.{Chance}
use Rattle.mq_calls.specs.State.{Plain}
use Rattle.mq_calls.specs.State.Running.{Up}
use Rattle.mq_calls.specs.Steps.{do_all}
use Rattle.mq_spec_manager.specs.Stops.{advance_clock, cut}
use Rattle.mq_spec_node.specs.Node.{ChannelEnd, Node, ReceiverEnd, SenderEnd, receiver_end, sender_end}
use Rattle.mq_spec_node.specs.Deeds.{Deed, end_begun}
use Rattle.mq_spec_node.specs.Replays.{IsOwn, Surroundings, opening_node}
use Rattle.mq_spec_node.specs.Happens.{IsEvent, deed_of, event, receiver_turn, sender_turn, timeout_of}
use Rattle.mq_history.specs.declared.history.History.{History}
use Rattle.mq_law_manager.specs.Facts.{IsSound}
use Rattle.mq_calls.specs.Reads.{batch_of, seizure_of}
use Rattle.mq_spec_manager.specs.Agents.{seized_queue}
use Rattle.mq_law_unshared.specs.from_law_keys.Keys.{IsKeyed}
use Rattle.mq_law_unshared.proofs.from_law_keys.Telling.{sender_end_mem}
use Rattle.mq_law_queued.specs.Queued.{AreQueued, EachCalm, HaveSome, QueuedUp, IsQueued, is_calm, is_calm_for}
use Rattle.mq_law_queued.proofs.CalmDeeds.{ordinary_is_calm}
use Rattle.mq_law_queued.proofs.Ends.{EachQueued, none_queued, operate_queued, sender_queued, timeout_queued, queued_left}
use Rattle.std.proofs.lemmas.Bool.{true≢false}
use Rattle.mq_law_unshared.specs.from_law_node.Deeds.{IsLasting}
use Rattle.mq_law_unshared.proofs.from_law_node.Deeds.{deed_has, lasts}
use Rattle.mq_law_unshared.specs.Senders.{AreEach}
use Rattle.mq_law_unshared.proofs.Events.{off_begun}
use Rattle.mq_law_unshared.proofs.Senders.{left_each, receiver_each}

-- A deed that leaves all ends as they are
calm_is_queued : (n : Node) (o : Option Deed) → EachCalm n.own o → AreQueued n.own.ends n.manager → EachQueued n o
calm_is_queued n None k q = tt
calm_is_queued n (Some d) k q = subst (λ (es : List ChannelEnd). AreQueued es (do_all d.parts n.manager)) (sym k.ends) (left_each IsQueued is_calm is_calm_for queued_left n n.own.ends d.parts k.parts q)

sender_turns : (stamp : ℕ) (n : Node) (j : ℕ) (o : Option SenderEnd) (seen : Seen) → IsKeyed n → IsSound n.manager → AreQueued n.own.ends n.manager → sender_end j n.own ≡ o → EachQueued n (sender_turn stamp o seen n)
sender_turns stamp n j None seen h sound q e = tt
sender_turns stamp n j (Some x) seen h sound q e = sender_queued stamp n x seen h (sender_end_mem j n x e).0 q sound.facts.apart.once

times_out : (n : Node) (j : ℕ) (o : Option SenderEnd) → IsKeyed n → AreQueued n.own.ends n.manager → sender_end j n.own ≡ o → EachQueued n (timeout_of o n)
times_out n j None h q e = tt
times_out n j (Some x) h q e = timeout_queued n x h (sender_end_mem j n x e).0 q

receiver_turns : (stamp : ℕ) (n : Node) (o : Option ReceiverEnd) (seen : Seen) → AreQueued n.own.ends n.manager → EachQueued n (receiver_turn stamp o seen n)
receiver_turns stamp n None seen q = tt
receiver_turns stamp n (Some x) seen q = receiver_each IsQueued is_calm is_calm_for queued_left stamp n x seen q

deeds : (stamp : ℕ) (actor : Actor) (call : Call) (seen : Seen) (n : Node) → IsKeyed n → IsSound n.manager → HaveSome n.manager.definitions → AreQueued n.own.ends n.manager → EachQueued n (deed_of stamp actor call seen n)
deeds stamp actor call seen n h sound have q = deed_has (EachQueued n) stamp actor call seen n (record {
  none = tt;
  ordinary = λ o. calm_is_queued n (deed_of stamp actor call seen n) (ordinary_is_calm stamp actor call seen n o) q;
  sends = λ j f g. sender_turns stamp n j (sender_end j n.own) seen h sound q refl;
  takes = λ j f g. receiver_turns stamp n (receiver_end j n.own) seen q;
  times = λ j f g. times_out n j (sender_end j n.own) h q refl;
  operates = λ op f. operate_queued op n h have q;
})

-- A start: no sender has a batch, and none runs
none_begun : (p q : Plain) (es : List ChannelEnd) → q.channels.batches ≡ [] → AreQueued (map (end_begun p) es) q
none_begun p q es none e m = none_queued e q (ap (batch_of e.channel) none) (λ on. absurd (true≢false (sym on ∙ off_begun p es e m)))

-- neither the log nor the clock bears on it
again : (es : List ChannelEnd) (p r : Plain) → r.channels.batches ≡ p.channels.batches → r.channels.seizures ≡ p.channels.seizures → AreQueued es p → AreQueued es r
again es p r batches seizures q e m = record {
  none = λ z. ap (batch_of e.channel) batches ∙ (q e m).none z;
  of = λ b k. (q e m).of b (sym (ap (batch_of e.channel) batches) ∙ k) ∙ sym (ap (λ ss. seized_queue (seizure_of e.channel ss)) seizures);
  once = λ b k. (q e m).once b (sym (ap (batch_of e.channel) batches) ∙ k);
  some = (q e m).some;
}

queued_last : IsLasting (AreEach IsQueued)
queued_last = record {
  cuts = λ es k p q. again es p (cut k p) refl refl q;
  clocks = λ es by_ p q. again es p (advance_clock by_ p) refl refl q;
  begins = λ es p seizures batches connections. none_begun p p es batches;
}

-- EACH EVENT
pub events : (stamp : ℕ) (actor : Actor) (call : Call) (chance : Chance) (seen : Seen) (n : Node) → QueuedUp n → IsKeyed n → (n.manager.running ≡ Up → IsSound n.manager) → (n.manager.running ≡ Up → HaveSome n.manager.definitions) → IsEvent stamp actor call chance seen n → IsOwn chance
    → QueuedUp (event stamp actor call chance seen n).next
events stamp actor call chance seen n w h sound have can own =
    lasts (AreEach IsQueued) queued_last stamp actor call chance seen n can own (λ on. deeds stamp actor call seen n h (sound on) (have on) (w on)) w

pub begins : (s : Surroundings) (h : History) → AreQueued (opening_node s h).own.ends (opening_node s h).manager
begins s h = none_begun (opening_node s h).manager (opening_node s h).manager s.own.ends refl
