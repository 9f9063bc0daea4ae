-- Where no turn and no timeout would change a thing, all is idle.
use Rattle.std.proofs.Common.{◌≡◌, ℕ, suc, ◌+◌, ◌<◌, Bool, true, false, List, [], ◌∷◌, length, refl, ap, subst, ◌∙◌, arith, inl, inr}
use Rattle.std.specs.Prelude.{◌⊎◌, ◌&&◌, ◌||◌, not, if◌then◌else◌, Option, Some, None, is_some, slice_get}
use Rattle.std.proofs.lemmas.Option.{slice_get_within}
use Rattle.mq_frame.specs.declared.frame.Frame.{Frame}
use Rattle.mq_frame.specs.declared.frame.Seen.TheVariants as items
use Rattle.mq_frame.specs.Sight.{waits}
use Rattle.mq_history.specs.declared.calls.Actor.TheVariants as actors
use Rattle.mq_history.specs.declared.calls.Call.TheVariants as calls
use Rattle.mq_history.specs.declared.history.History.{History}
use Rattle.mq_history.specs.declared.scenario.CableLine.{CableLine}
use Rattle.mq_history.specs.Scenarios.{IsScenario}
use Rattle.mq_sender.specs.States.{awaits, timed_out}
use Rattle.mq_calls.specs.Reads.{is_up}
use Rattle.mq_calls.specs.State.{Running}
use Rattle.mq_calls.specs.State.Running.{Up, Down}
use Rattle.mq_spec_manager.specs.Agents.{stock}
use Rattle.mq_spec_node.specs.Words.{Deed, Node, ReceiverEnd, SenderEnd, by, is_receiver, is_sender, receiver_end, sender_end}
use Rattle.mq_spec_node.specs.Calls.{receiver_turn, sender_turn, timeout_by, timeout_of, turn_up, where_up}
use Rattle.mq_spec_node.specs.Receivers.{receiver_deed}
use Rattle.mq_spec_node.specs.Senders.{after_timeout, sender_deed, timeout_deed}
use Rattle.mq_spec_network.specs.Cables.{Lying}
use Rattle.mq_spec_network.specs.Given.{surroundings}
use Rattle.mq_spec_network.specs.Lawful.{node_begun}
use Rattle.mq_spec_network.specs.Steps.{pushed_of}
use Rattle.mq_spec_network.specs.Tasks.Slot.{Sends, Receives, TimesOut}
use Rattle.mq_spec_network.specs.Turns.{Direction, Network, back_of, back_way, cable_idle, changes, deed_at, idle_from, is_empty, is_full, is_idle, is_refused, is_up_at, node_at, out_of, out_way, owes_nothing, push_refused, receiver_idle, rests, sender_idle, sender_rests, waiting}
use Rattle.mq_nodes.specs.Pumps.{AllStill, IsStill}
use Rattle.mq_law_channel.proofs.Told.{bool_case}
use Rattle.mq_idle.specs.Ends.{HasEnds}
use Rattle.mq_idle.proofs.GivenLaws.{ends_there}
use Rattle.mq_idle.proofs.ItemLaws.{AreItems, items_lie}
use Rattle.mq_idle.proofs.PushLaws.{answers, has_none, own_turn}

clash : {P : Type 0} (b : Bool) → b ≡ true → b ≡ false → P
clash b e f = absurd cc

-- A turn that changes nothing: there is none, or its push is refused.
not_false : (b : Bool) → not b ≡ false → b ≡ true
not_false true h = refl
not_false false h = absurd cc

still_or : (way : Direction) (o : Option Deed) → changes way o ≡ false → (is_some o ≡ false) ⊎ (is_refused way o ≡ true)
still_or way None h = inl refl
still_or way (Some d) h = inr (not_false (push_refused way d.pushed) h)

second : (a b : Bool) → (a && b) ≡ true → b ≡ true
second true b h = h
second false b h = absurd cc

-- so it has a frame, and the direction is full
frame_there : (way : Direction) (p : Option Frame) → push_refused way p ≡ true → (is_some p ≡ true) × (is_full way.items ≡ true)
frame_there way None h = absurd cc
frame_there way (Some f) h = (refl, second _ (is_full way.items) h)

refused_full : (way : Direction) (o : Option Deed) → is_refused way o ≡ true → (is_some (pushed_of o) ≡ true) × (is_full way.items ≡ true)
refused_full way None h = absurd cc
refused_full way (Some d) h = frame_there way d.pushed h

full_not_empty : (xs : List Lying) → is_full xs ≡ true → is_empty xs ≡ true → ⊥
full_not_empty [] f e = absurd cc
full_not_empty (x ∷ xs) f e = absurd cc

-- A SENDER
module _ (e : SenderEnd) (n : Node) (way : Direction) where
  abbrev AtRest : List Lying → Type 0
  AtRest back = (is_empty back ≡ true) × ((rests e.machine.state (stock e.channel n.manager) ≡ true) ⊎ (is_refused way (sender_deed 0 e (waiting back) n) ≡ true))

  at_rest : (back : List Lying) → AreItems back → changes way (sender_deed 0 e (waiting back) n) ≡ false → awaits e.machine.state ≡ false → AtRest back
  at_rest [] h still quiet = (refl, by_turn (still_or way (sender_deed 0 e items.Nothing n) still))
    where
      by_turn : (is_some (sender_deed 0 e items.Nothing n) ≡ false) ⊎ (is_refused way (sender_deed 0 e items.Nothing n) ≡ true) → (rests e.machine.state (stock e.channel n.manager) ≡ true) ⊎ (is_refused way (sender_deed 0 e items.Nothing n) ≡ true)
      by_turn (inr refused) = inr refused
      by_turn (inl none) = by_state ((own_turn 0 e n).1 none)
        where
          by_state : (rests e.machine.state (stock e.channel n.manager) ≡ true) ⊎ (awaits e.machine.state ≡ true) → (rests e.machine.state (stock e.channel n.manager) ≡ true) ⊎ (is_refused way (sender_deed 0 e items.Nothing n) ≡ true)
          by_state (inl r) = inl r
          by_state (inr a) = clash (awaits e.machine.state) a quiet
  at_rest (x ∷ xs) h still quiet = by_turn (still_or way (sender_deed 0 e x.seen n) still)
    where
      by_turn : (is_some (sender_deed 0 e x.seen n) ≡ false) ⊎ (is_refused way (sender_deed 0 e x.seen n) ≡ true) → AtRest (x ∷ xs)
      by_turn (inl none) = clash (is_some (sender_deed 0 e x.seen n)) (answers 0 e x.seen n h.0).1 none
      by_turn (inr refused) = clash (is_some (pushed_of (sender_deed 0 e x.seen n))) (refused_full way (sender_deed 0 e x.seen n) refused).0 (answers 0 e x.seen n h.0).0

  no_wait : changes way (timeout_deed e n) ≡ false → awaits e.machine.state ≡ false
  no_wait h = at (awaits e.machine.state) h
    where
      at : (b : Bool) → changes way (if b then Some (after_timeout e (timed_out e.machine) n) else None) ≡ false → b ≡ false
      at true k = absurd (clash true refl k)
      at false k = refl

-- A RECEIVER
none_lies_there : (xs : List Lying) → AreItems xs → waits (waiting xs) ≡ false → is_empty xs ≡ true
none_lies_there [] h e = refl
none_lies_there (x ∷ xs) h e = clash (waits x.seen) h.0 e

module _ (e : ReceiverEnd) (n : Node) (way : Direction) (out : List Lying) (h : AreItems out) (still : changes way (receiver_deed 0 e (waiting out) n) ≡ false) where
  abbrev IsDone : Type 0
  IsDone = (is_empty out ≡ true) × (is_some e.machine.owes ≡ false)

  done_or_refused : IsDone ⊎ (is_refused way (receiver_deed 0 e (waiting out) n) ≡ true)
  done_or_refused = by_turn (still_or way (receiver_deed 0 e (waiting out) n) still)
    where
      by_turn : (is_some (receiver_deed 0 e (waiting out) n) ≡ false) ⊎ (is_refused way (receiver_deed 0 e (waiting out) n) ≡ true) → IsDone ⊎ (is_refused way (receiver_deed 0 e (waiting out) n) ≡ true)
      by_turn (inl none) = let k = has_none 0 e (waiting out) n none in inl (none_lies_there out h k.1, k.0)
      by_turn (inr refused) = inr refused

-- A CABLE
node_up : (o : Option Node) → is_up_at o ≡ true → (n : Node) × (o ≡ Some n) × (n.manager.running ≡ Up)
node_up None h = absurd cc
node_up (Some n) h = (n, refl, by_run n.manager.running refl)
  where
    by_run : (q : Running) → n.manager.running ≡ q → n.manager.running ≡ Up
    by_run Up e = e
    by_run (Down noted starts) e = clash (is_up n.manager.running) h (ap is_up e)

or_right : (a b : Bool) → b ≡ true → (a || b) ≡ true
or_right true b h = refl
or_right false b h = h

or_left : (a b : Bool) → a ≡ true → (a || b) ≡ true
or_left true b h = refl
or_left false b h = absurd cc

both : (a b : Bool) → a ≡ true → b ≡ true → (a && b) ≡ true
both true b e f = f
both false b e f = absurd cc

not_yes : (b : Bool) → b ≡ false → not b ≡ true
not_yes true h = absurd cc
not_yes false h = refl

module _ (w : Network) (k : ℕ) (l : CableLine) (h : HasEnds w k l) (s : IsStill w Sends k l) (r : IsStill w Receives k l) (t : IsStill w TimesOut k l) where
  abbrev out : List Lying
  out = out_of w k l

  abbrev back : List Lying
  back = back_of w k l

  abbrev sender_deed_here : Option Deed
  sender_deed_here = deed_at (actors.Sender k) calls.Turn (waiting back) (node_at w l.sender)

  abbrev receiver_deed_here : Option Deed
  receiver_deed_here = deed_at (actors.Receiver k) calls.Turn (waiting out) (node_at w l.receiver)

  out_items : AreItems out
  out_items = items_lie l.out (by (is_sender k) (w.done l.sender)) (by (is_receiver k) (w.done l.receiver))

  back_items : AreItems back
  back_items = items_lie l.back (by (is_receiver k) (w.done l.receiver)) (by (is_sender k) (w.done l.sender))

  sends_so : (n : Node) (e : SenderEnd) → node_at w l.sender ≡ Some n → n.manager.running ≡ Up → sender_end k n.own ≡ Some e → sender_deed_here ≡ sender_deed 0 e (waiting back) n
  sends_so n e at up there =
      ap (λ (o : Option Node). deed_at (actors.Sender k) calls.Turn (waiting back) o) at
      ∙ ap (λ (q : Running). where_up q (turn_up 0 (actors.Sender k) (waiting back) n)) up
      ∙ ap (λ (o : Option SenderEnd). sender_turn 0 o (waiting back) n) there

  waits_so : (n : Node) (e : SenderEnd) → node_at w l.sender ≡ Some n → n.manager.running ≡ Up → sender_end k n.own ≡ Some e → deed_at (actors.Sender k) calls.Timeout items.Nothing (node_at w l.sender) ≡ timeout_deed e n
  waits_so n e at up there =
      ap (λ (o : Option Node). deed_at (actors.Sender k) calls.Timeout items.Nothing o) at
      ∙ ap (λ (q : Running). where_up q (timeout_by (actors.Sender k) n)) up
      ∙ ap (λ (o : Option SenderEnd). timeout_of o n) there

  takes_so : (n : Node) (e : ReceiverEnd) → node_at w l.receiver ≡ Some n → n.manager.running ≡ Up → receiver_end k n.own ≡ Some e → receiver_deed_here ≡ receiver_deed 0 e (waiting out) n
  takes_so n e at up there =
      ap (λ (o : Option Node). deed_at (actors.Receiver k) calls.Turn (waiting out) o) at
      ∙ ap (λ (q : Running). where_up q (turn_up 0 (actors.Receiver k) (waiting out) n)) up
      ∙ ap (λ (o : Option ReceiverEnd). receiver_turn 0 o (waiting out) n) there

  -- the sender's end, at a manager that is up
  near_rests : (n : Node) (e : SenderEnd) → node_at w l.sender ≡ Some n → n.manager.running ≡ Up → sender_end k n.own ≡ Some e → AtRest e n (out_way w k l) back
  near_rests n e at up there =
      at_rest e n (out_way w k l) back back_items (subst (λ (o : Option Deed). changes (out_way w k l) o ≡ false) (sends_so n e at up there) s)
      (no_wait e n (out_way w k l) (subst (λ (o : Option Deed). changes (out_way w k l) o ≡ false) (waits_so n e at up there) t))

  far_done : (n : Node) (e : ReceiverEnd) → node_at w l.receiver ≡ Some n → n.manager.running ≡ Up → receiver_end k n.own ≡ Some e
      → ((is_empty out ≡ true) × (is_some e.machine.owes ≡ false)) ⊎ (is_refused (back_way w k l) (receiver_deed 0 e (waiting out) n) ≡ true)
  far_done n e at up there = done_or_refused e n (back_way w k l) out out_items (subst (λ (o : Option Deed). changes (back_way w k l) o ≡ false) (takes_so n e at up there) r)

  -- a sender whose push is refused, with nothing to read: its receiver's manager is down
  far_down : is_refused (out_way w k l) sender_deed_here ≡ true → is_empty back ≡ true → is_up_at (node_at w l.receiver) ≡ false
  far_down refused empty = bool_case (is_up_at (node_at w l.receiver)) (λ b. b ≡ false) (λ up. absurd (no_ (node_up (node_at w l.receiver) up))) (λ down. refl)
    where
      full : is_full out ≡ true
      full = (refused_full (out_way w k l) sender_deed_here refused).1

      no_ : (n : Node) × (node_at w l.receiver ≡ Some n) × (n.manager.running ≡ Up) → ⊥
      no_ (n, at, up) =
          let e = h.receiver n at in
          by_turn e.0 (far_done n e.0 at up e.1)
        where
          by_turn : (e : ReceiverEnd) → ((is_empty out ≡ true) × (is_some e.machine.owes ≡ false)) ⊎ (is_refused (back_way w k l) (receiver_deed 0 e (waiting out) n) ≡ true) → ⊥
          by_turn e (inl done) = full_not_empty out full done.0
          by_turn e (inr paid) = full_not_empty back (refused_full (back_way w k l) (receiver_deed 0 e (waiting out) n) paid).1 empty

  -- a receiver whose push is refused: its sender's manager is down
  near_down : is_refused (back_way w k l) receiver_deed_here ≡ true → is_up_at (node_at w l.sender) ≡ false
  near_down refused = bool_case (is_up_at (node_at w l.sender)) (λ b. b ≡ false) (λ up. absurd (no_ (node_up (node_at w l.sender) up))) (λ down. refl)
    where
      no_ : (n : Node) × (node_at w l.sender ≡ Some n) × (n.manager.running ≡ Up) → ⊥
      no_ (n, at, up) = let e = h.sender n at in full_not_empty back (refused_full (back_way w k l) receiver_deed_here refused).1 (near_rests n e.0 at up e.1).0

  abbrev near_blocked : Bool
  near_blocked = is_refused (out_way w k l) sender_deed_here && not (is_up_at (node_at w l.receiver))

  abbrev far_blocked : Bool
  far_blocked = is_refused (back_way w k l) receiver_deed_here && not (is_up_at (node_at w l.sender))

  sender_so : (n : Node) (e : SenderEnd) → node_at w l.sender ≡ Some n → n.manager.running ≡ Up → sender_end k n.own ≡ Some e → (near_blocked || (is_empty back && sender_rests k (sender_end k n.own) n)) ≡ true
  sender_so n e at up there = by_rest (near_rests n e at up there)
    where
      by_rest : AtRest e n (out_way w k l) back → (near_blocked || (is_empty back && sender_rests k (sender_end k n.own) n)) ≡ true
      by_rest (empty, inl rest) =
          or_right near_blocked (is_empty back && sender_rests k (sender_end k n.own) n)
          (both (is_empty back) (sender_rests k (sender_end k n.own) n) empty (ap (λ (o : Option SenderEnd). sender_rests k o n) there ∙ rest))
      by_rest (empty, inr refused) =
          let here : is_refused (out_way w k l) sender_deed_here ≡ true = ap (λ (o : Option Deed). is_refused (out_way w k l) o) (sends_so n e at up there) ∙ refused in
          or_left near_blocked (is_empty back && sender_rests k (sender_end k n.own) n)
          (both (is_refused (out_way w k l) sender_deed_here) (not (is_up_at (node_at w l.receiver))) here (not_yes (is_up_at (node_at w l.receiver)) (far_down here empty)))

  receiver_so : (n : Node) (e : ReceiverEnd) → node_at w l.receiver ≡ Some n → n.manager.running ≡ Up → receiver_end k n.own ≡ Some e → (far_blocked || (is_empty out && owes_nothing (receiver_end k n.own))) ≡ true
  receiver_so n e at up there = by_done (far_done n e at up there)
    where
      by_done : ((is_empty out ≡ true) × (is_some e.machine.owes ≡ false)) ⊎ (is_refused (back_way w k l) (receiver_deed 0 e (waiting out) n) ≡ true) → (far_blocked || (is_empty out && owes_nothing (receiver_end k n.own))) ≡ true
      by_done (inl (empty, none)) =
          or_right far_blocked (is_empty out && owes_nothing (receiver_end k n.own))
          (both (is_empty out) (owes_nothing (receiver_end k n.own)) empty (ap owes_nothing there ∙ not_yes (is_some e.machine.owes) none))
      by_done (inr refused) =
          let here : is_refused (back_way w k l) receiver_deed_here ≡ true = ap (λ (o : Option Deed). is_refused (back_way w k l) o) (takes_so n e at up there) ∙ refused in
          or_left far_blocked (is_empty out && owes_nothing (receiver_end k n.own))
          (both (is_refused (back_way w k l) receiver_deed_here) (not (is_up_at (node_at w l.sender))) here (not_yes (is_up_at (node_at w l.sender)) (near_down here)))

  sender_idles : (o : Option Node) → node_at w l.sender ≡ o → sender_idle w k l o ≡ true
  sender_idles None at = refl
  sender_idles (Some n) at = by_run n.manager.running refl
    where
      by_run : (q : Running) → n.manager.running ≡ q → (not (is_up n.manager.running) || near_blocked || (is_empty back && sender_rests k (sender_end k n.own) n)) ≡ true
      by_run Up up = let e = h.sender n at in ap (λ (q : Running). not (is_up q) || near_blocked || (is_empty back && sender_rests k (sender_end k n.own) n)) up ∙ sender_so n e.0 at up e.1
      by_run (Down noted starts) down = ap (λ (q : Running). not (is_up q) || near_blocked || (is_empty back && sender_rests k (sender_end k n.own) n)) down

  receiver_idles : (o : Option Node) → node_at w l.receiver ≡ o → receiver_idle w k l o ≡ true
  receiver_idles None at = refl
  receiver_idles (Some n) at = by_run n.manager.running refl
    where
      by_run : (q : Running) → n.manager.running ≡ q → (not (is_up n.manager.running) || far_blocked || (is_empty out && owes_nothing (receiver_end k n.own))) ≡ true
      by_run Up up = let e = h.receiver n at in ap (λ (q : Running). not (is_up q) || far_blocked || (is_empty out && owes_nothing (receiver_end k n.own))) up ∙ receiver_so n e.0 at up e.1
      by_run (Down noted starts) down = ap (λ (q : Running). not (is_up q) || far_blocked || (is_empty out && owes_nothing (receiver_end k n.own))) down

  pub cable_idles : cable_idle w k l ≡ true
  cable_idles = both (sender_idle w k l (node_at w l.sender)) (receiver_idle w k l (node_at w l.receiver)) (sender_idles (node_at w l.sender) refl) (receiver_idles (node_at w l.receiver) refl)

-- ALL CABLES
nothing_more : (j : ℕ) → j + 0 ≡ j
nothing_more j = omega arith

one_up : (j i : ℕ) → j + suc i ≡ suc j + i
one_up j i = omega arith

from_zero : (i : ℕ) → i ≡ 0 + i
from_zero i = omega arith

pub all_idle : (w : Network) (cs : List CableLine) (j : ℕ) → ((i : ℕ) (l : CableLine) → slice_get cs i ≡ Some l → cable_idle w (j + i) l ≡ true) → idle_from w j cs ≡ true
all_idle w [] j h = refl
all_idle w (c ∷ cs) j h =
    both (cable_idle w j c) (idle_from w (suc j) cs) (subst (λ (n : ℕ). cable_idle w n c ≡ true) (nothing_more j) (h 0 c refl))
    (all_idle w cs (suc j) (λ i l at. subst (λ (n : ℕ). cable_idle w n l ≡ true) (one_up j i) (h (suc i) l at)))

pub still_is_idle : (w : Network) (hs : ℕ → Option History) → IsScenario w.scenario → ((m : ℕ) → w.first m ≡ node_begun (surroundings w.scenario m) (hs m)) → AllStill w → is_idle w ≡ true
still_is_idle w hs is first still = all_idle w w.scenario.cables 0 (λ i l at.
    let within : i < length w.scenario.cables = slice_get_within w.scenario.cables i l at in
    subst (λ (n : ℕ). cable_idle w n l ≡ true) (from_zero i) (cable_idles w i l (ends_there w hs i l is first at) (still Sends i l within at) (still Receives i l within at) (still TimesOut i l within at)))
