-- Whatever happens at a node, each sender that runs has seized its queue, and that queue is its own.
use Rattle.std.proofs.Common.{ℕ, ◌≡◌, Bool, true, false, List, [], ◌∷◌, refl, ap, sym, subst, ◌∙◌, map, inl, inr}
use Rattle.std.specs.Prelude.{Option, Some, None}
use Rattle.mq_base.specs.Members.{Mem}
use Rattle.mq_frame.specs.declared.frame.Seen.{Seen}
use Rattle.mq_history.specs.declared.calls.Actor.{Actor}
use Rattle.mq_history.specs.declared.calls.Call.{Call}
use Rattle.mq_history.specs.declared.calls.Chance.{Chance}
use Rattle.mq_sender.specs.States as senders
use Rattle.mq_calls.specs.State.{Plain}
use Rattle.mq_calls.specs.State.Running.{Up}
use Rattle.mq_calls.specs.Steps.{do_all}
use Rattle.mq_spec_node.specs.Node.{ChannelEnd, Node, ReceiverEnd, SenderEnd, receiver_end, sender_end}
use Rattle.mq_spec_node.specs.Node.ChannelEnd.{Sends, Receives}
use Rattle.mq_spec_node.specs.Deeds.{Deed, end_begun}
use Rattle.mq_spec_node.specs.Replays.{IsOwn, Surroundings, opening_node}
use Rattle.mq_spec_node.specs.Senders.{sender_deed, timeout_deed}
use Rattle.mq_spec_node.specs.Happens.{IsEvent, deed_of, event, receiver_turn, sender_turn, timeout_of}
use Rattle.mq_history.specs.declared.history.History.{History}
use Rattle.mq_law_manager.specs.Facts.{IsSound}
use Rattle.mq_law_keys.specs.from_law_node.Quiet.{EachQuiet}
use Rattle.mq_law_keys.proofs.from_law_node.Ordinary.{ordinary_is_quiet}
use Rattle.mq_law_seized.proofs.Seizing.{none_seized}
use Rattle.mq_law_keys.specs.Keys.{IsKeyed}
use Rattle.mq_law_keys.proofs.Telling.{sender_end_mem}
use Rattle.mq_law_unshared.specs.Ordinary.{EachHas}
use Rattle.mq_law_unshared.specs.Unshared.{AreOpen, EachLeaves, IsUnshared, WhereUp, parts_still, is_still, is_still_for}
use Rattle.mq_law_unshared.proofs.Deeds.{ordinary_leaves}
use Rattle.mq_law_unshared.proofs.Ends.{behind, operates, receiver_leaves, sender_leaves, timeout_leaves}
use Rattle.mq_law_unshared.proofs.StillDeeds.{ordinary_is_still}
use Rattle.mq_law_unshared.proofs.Opening.{EachOpen, operate_opens, sender_opens, timeout_opens, open_left}
use Rattle.std.proofs.lemmas.Bool.{true≢false}
use Rattle.mq_spec_node.specs.Operators.{operate}
use Rattle.mq_spec_node.specs.Receivers.{receiver_deed}
use Rattle.mq_law_keys.specs.from_law_node.Deeds.{HoldsBehind, IsLasting}
use Rattle.mq_law_keys.proofs.from_law_node.Deeds.{deed_has, lasts}
use Rattle.mq_law_seized.specs.Seized.{AreSeized}
use Rattle.mq_law_unshared.specs.Senders.{AreEach, IsOpen}
use Rattle.mq_law_unshared.proofs.Senders.{left_each, receiver_each, turn_has}

-- The seized queues are their senders' alone, and open
abbrev AreBoth : List ChannelEnd → Plain → Type 0
AreBoth es p = AreSeized p × AreEach IsOpen es p

both : (n : Node) (o : Option Deed) → AreSeized n.manager → EachLeaves n.manager o → EachOpen n o → HoldsBehind AreBoth n o
both n None h leaves opens = tt
both n (Some d) h leaves opens = (behind d.parts n.manager h leaves, opens)

-- a deed that leaves all ends as they are
still_is_open : (n : Node) (o : Option Deed) → EachHas (λ parts. parts_still parts ≡ true) o → EachQuiet n.own o → AreOpen n.own.ends n.manager → EachOpen n o
still_is_open n None still quiet a = tt
still_is_open n (Some d) still quiet a = subst (λ (es : List ChannelEnd). AreOpen es (do_all d.parts n.manager)) (sym quiet.ends) (left_each IsOpen is_still is_still_for open_left n n.own.ends d.parts still a)

-- a sender's turn and timeout, and a receiver's turn
turn_leaves : (stamp : ℕ) (n : Node) (e : SenderEnd) (seen : Seen) → Mem (Sends e) n.own.ends → IsUnshared n → EachLeaves n.manager (sender_deed stamp e seen n)
turn_leaves stamp n e seen there u = turn_has (EachLeaves n.manager) stamp e seen n tt tt (λ on. sender_leaves stamp e seen n (u.open_ e there on) u.seized)

sender_turns : (stamp : ℕ) (n : Node) (j : ℕ) (o : Option SenderEnd) (seen : Seen) → IsKeyed n → IsUnshared n → sender_end j n.own ≡ o → HoldsBehind AreBoth n (sender_turn stamp o seen n)
sender_turns stamp n j None seen h u e = tt
sender_turns stamp n j (Some x) seen h u e = both n (sender_deed stamp x seen n) u.seized (turn_leaves stamp n x seen (sender_end_mem j n x e).0 u) (sender_opens stamp n x seen h (sender_end_mem j n x e).0 u.open_)

times_out : (n : Node) (j : ℕ) (o : Option SenderEnd) → IsKeyed n → IsUnshared n → sender_end j n.own ≡ o → HoldsBehind AreBoth n (timeout_of o n)
times_out n j None h u e = tt
times_out n j (Some x) h u e = both n (timeout_deed x n) u.seized (timeout_leaves x n u.seized) (timeout_opens n x h (sender_end_mem j n x e).0 u.open_)

receiver_turns : (stamp : ℕ) (n : Node) (o : Option ReceiverEnd) (seen : Seen) → IsUnshared n → HoldsBehind AreBoth n (receiver_turn stamp o seen n)
receiver_turns stamp n None seen u = tt
receiver_turns stamp n (Some x) seen u = both n (receiver_deed stamp x seen n) u.seized (receiver_leaves stamp x seen n u.seized) (receiver_each IsOpen is_still is_still_for open_left stamp n x seen u.open_)

deeds : (stamp : ℕ) (actor : Actor) (call : Call) (seen : Seen) (n : Node) → IsKeyed n → IsSound n.manager → IsUnshared n → HoldsBehind AreBoth n (deed_of stamp actor call seen n)
deeds stamp actor call seen n h sound u = deed_has (HoldsBehind AreBoth n) stamp actor call seen n (record {
  none = tt;
  ordinary = λ o. both n (deed_of stamp actor call seen n) u.seized (ordinary_leaves stamp actor call seen n o sound u.seized)
      (still_is_open n (deed_of stamp actor call seen n) (ordinary_is_still stamp actor call seen n o) (ordinary_is_quiet stamp actor call seen n o) u.open_);
  sends = λ j f g. sender_turns stamp n j (sender_end j n.own) seen h u refl;
  takes = λ j f g. receiver_turns stamp n (receiver_end j n.own) seen u;
  times = λ j f g. times_out n j (sender_end j n.own) h u refl;
  operates = λ op f. both n (Some (operate op n)) u.seized (operates op n u.seized) (operate_opens op n h u.open_);
})

-- A start: no sender runs
abbrev runs_at : ChannelEnd → Bool
runs_at (Sends e) = senders.is_running e.machine.state
runs_at (Receives e) = false

begun_off : (p : Plain) (y : ChannelEnd) → runs_at (end_begun p y) ≡ false
begun_off p (Sends e) = refl
begun_off p (Receives e) = refl

pub off_begun : (p : Plain) (es : List ChannelEnd) (e : SenderEnd) → Mem (Sends e) (map (end_begun p) es) → senders.is_running e.machine.state ≡ false
off_begun p [] e m = absurd m
off_begun p (y ∷ es) e (inl k) = ap runs_at k ∙ begun_off p y
off_begun p (y ∷ es) e (inr j) = off_begun p es e j

none_runs : (p q : Plain) (es : List ChannelEnd) → AreOpen (map (end_begun p) es) q
none_runs p q es e m runs = absurd (true≢false (sym runs ∙ off_begun p es e m))

-- neither the log nor the clock bears on it
both_last : IsLasting AreBoth
both_last = record {
  cuts = λ es k p h. let s = h.0 in (record { local = s.local; sends = s.sends; unread = s.unread; alone = s.alone; held = s.held }, h.1);
  clocks = λ es by_ p h. let s = h.0 in (record { local = s.local; sends = s.sends; unread = s.unread; alone = s.alone; held = s.held }, h.1);
  begins = λ es p seizures batches connections. (none_seized p seizures connections, none_runs p p es);
}

-- EACH EVENT
pub events : (stamp : ℕ) (actor : Actor) (call : Call) (chance : Chance) (seen : Seen) (n : Node) → WhereUp n → IsKeyed n → (n.manager.running ≡ Up → IsSound n.manager) → IsEvent stamp actor call chance seen n → IsOwn chance
    → WhereUp (event stamp actor call chance seen n).next
events stamp actor call chance seen n w h sound can own on =
    let r = lasts AreBoth both_last stamp actor call chance seen n can own (λ was. deeds stamp actor call seen n h (sound was) (w was)) (λ was. ((w was).seized, (w was).open_)) on in
    record { seized = r.0; open_ = r.1 }

-- And so it begins
pub begins : (s : Surroundings) (h : History) → IsUnshared (opening_node s h)
begins s h = record { seized = none_seized (opening_node s h).manager refl refl; open_ = none_runs (opening_node s h).manager (opening_node s h).manager s.own.ends }
