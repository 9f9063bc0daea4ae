-- What a lane sees is steady, so a PUMP of at least the bound comes to rest.
use Rattle.std.proofs.Common.{ℕ, ◌≡◌, ◌≤◌, true, false, List, [], ◌∷◌, ap, sym, subst, ◌∙◌, inr}
use Rattle.std.specs.Prelude.{Option, Some, slice_get}
use Rattle.mq_cable.specs.declared.fault.Fault.{Fault}
use Rattle.mq_frame.specs.declared.frame.Seen.{Seen}
use Rattle.mq_history.specs.declared.calls.Actor.TheVariants as actors
use Rattle.mq_history.specs.declared.calls.Call.TheVariants as calls
use Rattle.mq_history.specs.declared.scenario.CableLine.{CableLine}
use Rattle.mq_spec_node.specs.Deeds.{Deed}
use Rattle.mq_spec_node.specs.Doers.{by, is_receiver, is_sender}
use Rattle.mq_spec_node.specs.Node.{Node, end_in}
use Rattle.mq_spec_node.specs.Node.ChannelEnd.{Receives, Sends}
use Rattle.mq_spec_node.specs.Receivers.{receiver_deed}
use Rattle.mq_spec_node.specs.Replays.{after}
use Rattle.mq_spec_node.specs.Senders.{sender_deed}
use Rattle.mq_spec_network.specs.Cables.{lying}
use Rattle.mq_spec_network.specs.Steps.{Goes}
use Rattle.mq_spec_network.specs.Steps.Goes.{moves, passes, serves, stays}
use Rattle.mq_spec_network.specs.Tasks.{Slot, Task}
use Rattle.mq_spec_network.specs.Tasks.Task.{Pump}
use Rattle.mq_spec_network.specs.Turns.{Network, back_of, changes, deed_at, is_idle, out_of, receiver_turn, sender_turn, waiting as first_lying}
use Rattle.mq_law_idle.specs.Lanes.{Lane, bound}
use Rattle.mq_law_idle.specs.Roads.{Items, Quiet, waiting}
use Rattle.mq_law_pump.specs.Deeds.{IsStillEnd}
use Rattle.mq_law_pump.specs.Fit.{Good}
use Rattle.mq_law_pump.specs.Restful.{Restful, most}
use Rattle.mq_law_pump.specs.Sees.{Sees}
use Rattle.mq_law_pump.specs.Steady.{IsSteady, IsStill}
use Rattle.mq_law_pump.specs.Ways.{seen_of}
use Rattle.mq_law_pump.proofs.Beginning.{begins}
use Rattle.mq_law_pump.proofs.Besides.{others_stay, triggers_stay}
use Rattle.mq_law_pump.proofs.Entries.{taking_there, turn_there}
use Rattle.mq_law_pump.proofs.Histories.{due, earlier}
use Rattle.mq_law_pump.proofs.Moving.{node_there}
use Rattle.mq_law_pump.proofs.Rounds.{are_pumps, moved_call, rests_at_last}
use Rattle.mq_law_pump.proofs.Seeing.{own_moves}
use Rattle.mq_law_pump.proofs.Stillness.{changes_none, items_lie, quiet_lane}
use Rattle.mq_law_pump.proofs.Ways.{waits_as}

-- where neither end changes a thing
stills_quiet : (w0 w : Network) (k : ℕ) (c : CableLine) (l : Lane) → Good w → slice_get w.scenario.cables k ≡ Some c → Sees w0 w k c l → IsStill w Slot.Sends k c → IsStill w Slot.Receives k c → Quiet l.road
stills_quiet w0 w k c l g known h x y =
    let n : Node = after h.near (w.done c.sender) in
    let v : Node = after h.far (w.done c.receiver) in
    let out : l.road.out ≡ seen_of (out_of w k c) = h.shows.out in
    let back : l.road.back ≡ seen_of (back_of w k c) = h.shows.back in
    let here : end_in k n.own.ends ≡ Some (Sends h.sender) = ap (λ (i : ℕ). end_in i n.own.ends) (sym h.shows.cables.0) ∙ h.shows.sends.here in
    let there : end_in k v.own.ends ≡ Some (Receives h.receiver) = ap (λ (i : ℕ). end_in i v.own.ends) (sym h.shows.cables.1) ∙ h.shows.takes.here in
    let a : Option Deed = sender_deed 0 h.sender (waiting l.road.back) n in
    let b : Option Deed = receiver_deed 0 h.receiver (waiting l.road.out) v in
    let sends_ : sender_turn w k c ≡ a = ap (deed_at (actors.Sender k) calls.Turn (first_lying (back_of w k c))) (node_there w c.sender h.near h.shows.near_is)
    ∙ turn_there k 0 h.sender n (first_lying (back_of w k c)) (g.up c.sender h.near h.shows.near_is) here
    ∙ ap (λ (s : Seen). sender_deed 0 h.sender s n) (waits_as (back_of w k c) ∙ ap waiting (sym back)) in
    let takes_ : receiver_turn w k c ≡ b = ap (deed_at (actors.Receiver k) calls.Turn (first_lying (out_of w k c))) (node_there w c.receiver h.far h.shows.far_is)
    ∙ taking_there k 0 h.receiver v (first_lying (out_of w k c)) (g.up c.receiver h.far h.shows.far_is) there
    ∙ ap (λ (s : Seen). receiver_deed 0 h.receiver s v) (waits_as (out_of w k c) ∙ ap waiting (sym out)) in
    let still_out : changes (record { faults = []; pushes = by (is_sender k) (w.done c.sender); items = out_of w k c }) a ≡ false =
    (λ i. changes (record { faults = sym h.shows.faultless.0 i; pushes = by (is_sender k) (w.done c.sender); items = out_of w k c }) (sym sends_ i)) ∙ x in
    let still_back : changes (record { faults = []; pushes = by (is_receiver k) (w.done c.receiver); items = back_of w k c }) b ≡ false =
    (λ i. changes (record { faults = sym h.shows.faultless.1 i; pushes = by (is_receiver k) (w.done c.receiver); items = back_of w k c }) (sym takes_ i)) ∙ y in
    let all_out : Items l.road.out = subst Items (sym (out ∙ ap (λ (fs : List Fault). seen_of (lying fs (by (is_sender k) (w.done c.sender)) (by (is_receiver k) (w.done c.receiver)))) h.shows.faultless.0))
    (items_lie (by (is_sender k) (w.done c.sender)) (by (is_receiver k) (w.done c.receiver))) in
    let all_back : Items l.road.back = subst Items (sym (back ∙ ap (λ (fs : List Fault). seen_of (lying fs (by (is_receiver k) (w.done c.receiver)) (by (is_sender k) (w.done c.sender)))) h.shows.faultless.1))
    (items_lie (by (is_receiver k) (w.done c.receiver)) (by (is_sender k) (w.done c.sender))) in
    quiet_lane 0 h.sender h.receiver n v l.road h.shows.sends h.shows.takes all_out all_back
    (subst (IsStillEnd a) (sym out) (changes_none (by (is_sender k) (w.done c.sender)) (out_of w k c) a still_out))
    (subst (IsStillEnd b) (sym back) (changes_none (by (is_receiver k) (w.done c.receiver)) (back_of w k c) b still_back))

pub is_steady : (w0 : Network) → IsSteady Good (Sees w0)
is_steady w0 = record {
  earlier = λ w m e p g. earlier w m e p g;
  due = λ w m e g call. due w m e g call;
  own = λ w slot k c m e l g known h fits t. own_moves w0 w slot k c m e l g known h fits t;
  other = λ w k c m e j d l moving g known is h there of apart. others_stay w0 w k c m e j d l moving g known is h there of apart;
  aside = λ w m e j d l g known h call. triggers_stay w0 w m e j d l g known h call;
  quiet = λ w k c l g known h x y. stills_quiet w0 w k c l g known h x y;
}

-- what is known at its end was known when it began
goes_good : (w0 : Network) (n : ℕ) {w : Network} {ts : List Task} → Goes w0 (Pump n Slot.Sends 0 false ∷ []) w ts → Good w → Good w0
goes_good w0 n stays g = g
goes_good w0 n (moves w t ts m e go mv) g = goes_good w0 n go (earlier w m e (moved_call w t ts (are_pumps w0 n go) m e mv) g)
goes_good w0 n (serves w ts m e go call) g = goes_good w0 n go (earlier w m e (inr (inr call)) g)
goes_good w0 n (passes w t next ts go served p) g = goes_good w0 n go g

up_to : (a b c : ℕ) → a ≡ b → b ≤ c → a ≤ c
up_to a b c e h = subst (λ (x : ℕ). x ≤ c) (sym e) h

pub comes_to_rest : (w v : Network) (n : ℕ) → Good v → Restful w → Goes w (Pump n Slot.Sends 0 false ∷ []) v [] → most w ≤ n → is_idle v ≡ true
comes_to_rest w v n g rests go enough =
    let b = begins w (goes_good w n go g) rests in
    rests_at_last Good (Sees w) w v b.0 n (is_steady w) b.1 b.2 g go (up_to (bound b.0) (most w) n b.3 enough)
