-- What is asked of the ends and of what lies on the cable says whether it is idle.
use Rattle.std.proofs.Common.{◌≡◌, ℕ, suc, ◌+◌, Bool, true, false, List, [], ◌∷◌, ◌++◌, length, refl, sym, ap, ◌∙◌, arith}
use Rattle.std.specs.Prelude.{◌&&◌, ◌||◌, ◌==◌, not, nat_le, Option, Some, None, is_some}
use Rattle.std.proofs.lemmas.Bool.Decides.{nat_tests}
use Rattle.mq_cable.specs.declared.fault.Fault.{Fault}
use Rattle.mq_cable.specs.declared.fault.Fault.TheVariants as faults
use Rattle.mq_cable.specs.declared.item.Item.{Item}
use Rattle.mq_cable.specs.Faults.{fault_of, now_of, offered_of}
use Rattle.mq_frame.specs.declared.frame.Frame.{Frame}
use Rattle.mq_history.specs.declared.calls.Actor.TheVariants as actors
use Rattle.mq_history.specs.declared.calls.Call.TheVariants as calls
use Rattle.mq_history.specs.declared.calls.Entry.{Entry}
use Rattle.mq_history.specs.declared.scenario.CableLine.{CableLine}
use Rattle.mq_receiver.specs.declared.state.Owed.{Owed}
use Rattle.mq_calls.specs.Reads.{is_up}
use Rattle.mq_calls.specs.State.{Running}
use Rattle.mq_calls.specs.State.Running.{Up, Down}
use Rattle.mq_spec_manager.specs.Agents.{stock}
use Rattle.mq_spec_node.specs.Words.{Deed, Node, ReceiverEnd, SenderEnd, by, is_receiver, is_sender, item_if, items_of, receiver_end, sender_end}
use Rattle.mq_spec_node.specs.Calls.{receiver_turn, sender_turn, turn_up, where_up}
use Rattle.mq_spec_node.specs.Receivers.{receiver_deed}
use Rattle.mq_spec_node.specs.Senders.{sender_deed}
use Rattle.mq_spec_network.specs.Cables.{Lying, lying, offered_by, offered_if, spoiled, whole}
use Rattle.mq_spec_network.specs.Steps.{pushed_of}
use Rattle.mq_spec_network.specs.Turns.{Direction, Network, back_of, back_way, cable_idle, deed_at, is_empty, is_refused, is_up_at, node_at, out_of, out_way, owes_nothing, push_refused, receiver_idle, rests, sender_idle, sender_rests, waiting}
use Rattle.mq_ways.specs.Ways.{AreSeen, AreShown, CableState, IsWay, WayState}
use Rattle.mq_ways.proofs.SightLaws.{seen_long, way_seen}
use Rattle.mq_idle.specs.Idle.{IsSeenAs, comes_now, looks_idle, none_lies, owing_settles, pushes, receiver_settles, refuses, sender_settles}
use Rattle.mq_idle.proofs.ItemLaws.{AreItems, items_lie}
use Rattle.mq_idle.proofs.PushLaws.{answers, own_turn, pays}

-- A REFUSAL
and_false : (b : Bool) → (b && false) ≡ false
and_false true = refl
and_false false = refl

and_true : (b : Bool) → (b && true) ≡ b
and_true true = refl
and_true false = refl

and_swap : (a b : Bool) → (a && b) ≡ (b && a)
and_swap true b = sym (and_true b)
and_swap false b = sym (and_false b)

pub refused_as : (way : Direction) (refused : Bool) (o : Option Deed) → ((f : Frame) → push_refused way (Some f) ≡ refused) → is_refused way o ≡ (refused && is_some (pushed_of o))
refused_as way refused None h = sym (and_false refused)
refused_as way refused (Some d) h = by_frame d.pushed
  where
    by_frame : (p : Option Frame) → push_refused way p ≡ (refused && is_some p)
    by_frame None = sym (and_false refused)
    by_frame (Some f) = h f ∙ sym (and_true refused)

-- A SENDER
turn_about : (r f q p : Bool) → (r || (not f && q && p)) ≡ (((q && p) && not f) || r)
turn_about true true true true = refl
turn_about true true true false = refl
turn_about true true false p = refl
turn_about true false true true = refl
turn_about true false true false = refl
turn_about true false false p = refl
turn_about false true true true = refl
turn_about false true true false = refl
turn_about false true false p = refl
turn_about false false true true = refl
turn_about false false true false = refl
turn_about false false false p = refl

module _ (k : ℕ) (n : Node) (far refused : Bool) (way : Direction) (h : (f : Frame) → push_refused way (Some f) ≡ refused) where
  sender_same : (o : Option SenderEnd) (back : List Lying) → AreItems back
      → (is_empty back && sender_settles far refused o n.manager) ≡ ((is_refused way (sender_turn 0 o (waiting back) n) && not far) || (is_empty back && sender_rests k o n))
  sender_same None back items = refl
  sender_same (Some e) [] items =
      turn_about (rests e.machine.state (stock e.channel n.manager)) far refused (pushes e n.manager)
      ∙ ap (λ (t : Bool). ((refused && t) && not far) || rests e.machine.state (stock e.channel n.manager)) (sym (own_turn 0 e n).0)
      ∙ ap (λ (t : Bool). (t && not far) || rests e.machine.state (stock e.channel n.manager)) (sym (refused_as way refused (sender_deed 0 e (waiting []) n) h))
  sender_same (Some e) (x ∷ xs) items =
      sym (ap (λ (t : Bool). (t && not far) || false) (refused_as way refused (sender_deed 0 e x.seen n) h ∙ ap (λ (t : Bool). refused && t) (answers 0 e x.seen n items.0).0 ∙ and_false refused))

  sender_runs : (q : Running) (back : List Lying) → AreItems back
      → (not (is_up q) || (is_empty back && sender_settles far refused (sender_end k n.own) n.manager))
      ≡ (not (is_up q) || (is_refused way (where_up q (turn_up 0 (actors.Sender k) (waiting back) n)) && not far) || (is_empty back && sender_rests k (sender_end k n.own) n))
  sender_runs Up back items = sender_same (sender_end k n.own) back items
  sender_runs (Down noted starts) back items = refl

-- A RECEIVER
owes_none : (e f q : Bool) → e ≡ (((q && false) && not f) || (e && true))
owes_none true true true = refl
owes_none true true false = refl
owes_none true false true = refl
owes_none true false false = refl
owes_none false true true = refl
owes_none false true false = refl
owes_none false false true = refl
owes_none false false false = refl

owes_some : (e f q : Bool) → (not f && q) ≡ (((q && true) && not f) || (e && false))
owes_some true true true = refl
owes_some true true false = refl
owes_some true false true = refl
owes_some true false false = refl
owes_some false true true = refl
owes_some false true false = refl
owes_some false false true = refl
owes_some false false false = refl

module _ (k : ℕ) (n : Node) (near refused : Bool) (way : Direction) (h : (f : Frame) → push_refused way (Some f) ≡ refused) where
  owing_same : (empty : Bool) (o : Option Owed) → owing_settles near empty refused o ≡ (((refused && is_some o) && not near) || (empty && not (is_some o)))
  owing_same empty None = owes_none empty near refused
  owing_same empty (Some x) = owes_some empty near refused

  receiver_same : (o : Option ReceiverEnd) (out : List Lying)
      → receiver_settles near (is_empty out) refused o ≡ ((is_refused way (receiver_turn 0 o (waiting out) n) && not near) || (is_empty out && owes_nothing o))
  receiver_same None out = sym (and_true (is_empty out))
  receiver_same (Some e) out =
      owing_same (is_empty out) e.machine.owes
      ∙ ap (λ (t : Bool). ((refused && t) && not near) || (is_empty out && not (is_some e.machine.owes))) (sym (pays 0 e (waiting out) n))
      ∙ ap (λ (t : Bool). (t && not near) || (is_empty out && not (is_some e.machine.owes))) (sym (refused_as way refused (receiver_deed 0 e (waiting out) n) h))

  receiver_runs : (q : Running) (out : List Lying)
      → (not (is_up q) || receiver_settles near (is_empty out) refused (receiver_end k n.own))
      ≡ (not (is_up q) || (is_refused way (where_up q (turn_up 0 (actors.Receiver k) (waiting out) n)) && not near) || (is_empty out && owes_nothing (receiver_end k n.own)))
  receiver_runs Up out = receiver_same (receiver_end k n.own) out
  receiver_runs (Down noted starts) out = refl

-- A DIRECTION, as its bytes show it
items_long : (es : List Entry) → length (offered_of (items_of es)) ≡ length (offered_by es)
items_long [] = refl
items_long (e ∷ es) = one e.effect.pushed (items_long es)
  where
    one : (o : Option Frame) → length (offered_of (items_of es)) ≡ length (offered_by es) → length (offered_of (item_if o e.effect.extras ++ items_of es)) ≡ length (offered_if o e.effect.extras ++ offered_by es)
    one None h = h
    one (Some f) h = ap suc h

empty_as : (xs : List Item) (ys : List Lying) → AreSeen xs ys → none_lies xs ≡ is_empty ys
empty_as [] [] h = refl
empty_as [] (y ∷ ys) h = absurd h
empty_as (x ∷ xs) [] h = absurd h
empty_as (x ∷ xs) (y ∷ ys) h = refl

comes_as : (o : Option Fault) (y : Lying) → not (is_empty (now_of spoiled o y)) ≡ comes_now o
comes_as None y = refl
comes_as (Some (faults.Drop on)) y = refl
comes_as (Some (faults.Late on j)) y = refl
comes_as (Some (faults.Copy on j)) y = refl
comes_as (Some (faults.Spoil on)) y = refl

abbrev way_of : List Fault → (ps qs : List Entry) → Direction
way_of fs ps qs = record { faults = fs; pushes = ps; items = lying fs ps qs }

refuses_as : (fs : List Fault) (ps qs : List Entry) (v : WayState) (f : Frame) → AreShown ps → IsWay fs ps qs v → push_refused (way_of fs ps qs) (Some f) ≡ refuses fs v
refuses_as fs ps qs v f shown is =
    ap (λ (t : Bool). t && nat_le 64 (length (lying fs ps qs))) (comes_as (fault_of (suc (length (offered_by ps))) fs) (whole f))
    ∙ ap (λ (n : ℕ). comes_now (fault_of (suc (length (offered_by ps))) fs) && nat_le 64 n) (sym (seen_long v.items (lying fs ps qs) (way_seen fs ps qs v shown is)))
    ∙ ap (λ (n : ℕ). comes_now (fault_of (suc n) fs) && nat_le 64 (length v.items)) (sym (is.taken.number ∙ items_long ps))
    ∙ and_swap (comes_now (fault_of (suc v.offers.number) fs)) (nat_le 64 (length v.items))

-- THE CABLE
module _ (w : Network) (k : ℕ) (l : CableLine) (s r : Node) (c : CableState) (h : IsSeenAs w k l s r c) where
  abbrev sender_part : Option Node → Option Node → Bool
  sender_part a b = not (is_up s.manager.running) || (is_refused (out_way w k l) (deed_at (actors.Sender k) calls.Turn (waiting (back_of w k l)) a) && not (is_up_at b)) || (is_empty (back_of w k l) && sender_rests k (sender_end k s.own) s)

  abbrev receiver_part : Option Node → Option Node → Bool
  receiver_part a b = not (is_up r.manager.running) || (is_refused (back_way w k l) (deed_at (actors.Receiver k) calls.Turn (waiting (out_of w k l)) b) && not (is_up_at a)) || (is_empty (out_of w k l) && owes_nothing (receiver_end k r.own))

  sender_is : sender_idle w k l (node_at w l.sender) ≡ sender_part (Some s) (Some r)
  sender_is = ap (λ (o : Option Node). sender_idle w k l o) h.sender ∙ ap (λ (a : Option Node). sender_part a (node_at w l.receiver)) h.sender ∙ ap (λ (b : Option Node). sender_part (Some s) b) h.receiver

  receiver_is : receiver_idle w k l (node_at w l.receiver) ≡ receiver_part (Some s) (Some r)
  receiver_is = ap (λ (o : Option Node). receiver_idle w k l o) h.receiver ∙ ap (λ (b : Option Node). receiver_part (node_at w l.sender) b) h.receiver ∙ ap (λ (a : Option Node). receiver_part a (Some r)) h.sender

  out_refuses : (f : Frame) → push_refused (out_way w k l) (Some f) ≡ refuses l.out c.out
  out_refuses f = refuses_as l.out (by (is_sender k) (w.done l.sender)) (by (is_receiver k) (w.done l.receiver)) c.out f h.out h.at.out

  back_refuses : (f : Frame) → push_refused (back_way w k l) (Some f) ≡ refuses l.back c.back
  back_refuses f = refuses_as l.back (by (is_receiver k) (w.done l.receiver)) (by (is_sender k) (w.done l.sender)) c.back f h.back h.at.back

  out_none : none_lies c.out.items ≡ is_empty (out_of w k l)
  out_none = empty_as c.out.items (out_of w k l) (way_seen l.out (by (is_sender k) (w.done l.sender)) (by (is_receiver k) (w.done l.receiver)) c.out h.out h.at.out)

  back_none : none_lies c.back.items ≡ is_empty (back_of w k l)
  back_none = empty_as c.back.items (back_of w k l) (way_seen l.back (by (is_receiver k) (w.done l.receiver)) (by (is_sender k) (w.done l.sender)) c.back h.back h.at.back)

  sender_looks : (not (is_up s.manager.running) || (none_lies c.back.items && sender_settles (is_up r.manager.running) (refuses l.out c.out) (sender_end k s.own) s.manager)) ≡ sender_idle w k l (node_at w l.sender)
  sender_looks =
      ap (λ (t : Bool). not (is_up s.manager.running) || (t && sender_settles (is_up r.manager.running) (refuses l.out c.out) (sender_end k s.own) s.manager)) back_none
      ∙ sender_runs k s (is_up r.manager.running) (refuses l.out c.out) (out_way w k l) out_refuses s.manager.running (back_of w k l) (items_lie l.back (by (is_receiver k) (w.done l.receiver)) (by (is_sender k) (w.done l.sender)))
      ∙ sym sender_is

  receiver_looks : (not (is_up r.manager.running) || receiver_settles (is_up s.manager.running) (none_lies c.out.items) (refuses l.back c.back) (receiver_end k r.own)) ≡ receiver_idle w k l (node_at w l.receiver)
  receiver_looks =
      ap (λ (t : Bool). not (is_up r.manager.running) || receiver_settles (is_up s.manager.running) t (refuses l.back c.back) (receiver_end k r.own)) out_none
      ∙ receiver_runs k r (is_up s.manager.running) (refuses l.back c.back) (back_way w k l) back_refuses r.manager.running (out_of w k l)
      ∙ sym receiver_is

  pub looks_as : looks_idle k l s r c ≡ cable_idle w k l
  looks_as =
      ap (λ (t : Bool). t && (not (is_up r.manager.running) || receiver_settles (is_up s.manager.running) (none_lies c.out.items) (refuses l.back c.back) (receiver_end k r.own))) sender_looks
      ∙ ap (λ (t : Bool). sender_idle w k l (node_at w l.sender) && t) receiver_looks

-- nothing lies there
pub none_long : (xs : List Item) → (length xs == 0) ≡ none_lies xs
none_long [] = refl
none_long (x ∷ xs) = grind (arith, nat_tests)
