-- A turn of a cable's end moves its lane, and the lane shows the cable still.
use Rattle.std.proofs.Common.{ℕ, ◌≡◌, ◌⊎◌, true, List, [], ◌∷◌, refl, ap, sym, subst, ◌∙◌, inl, inr}
use Rattle.std.specs.Prelude.{Some, slice_get}
use Rattle.mq_frame.specs.declared.frame.Seen.TheVariants as items
use Rattle.mq_history.specs.declared.calls.Entry.{Entry}
use Rattle.mq_history.specs.declared.scenario.CableLine.{CableLine}
use Rattle.mq_message.specs.declared.message.Message.{Message}
use Rattle.mq_receiver.specs.States.{is_stopped}
use Rattle.mq_receiver.specs.declared.state.Receiver.{Receiver}
use Rattle.mq_sender.specs.States.{awaits, is_running}
use Rattle.mq_sender.specs.declared.state.Sender.{Sender}
use Rattle.mq_sender.specs.declared.state.SenderState.{SenderState}
use Rattle.mq_sender.specs.declared.state.SenderState.TheVariants as states
use Rattle.mq_objects.specs.declared.object.Definitions.{Definitions}
use Rattle.mq_calls.specs.State.{Plain}
use Rattle.mq_calls.specs.Steps.{do_all}
use Rattle.mq_spec_manager.specs.Agents.{queue_of_sender}
use Rattle.mq_spec_node.specs.Deeds.{Deed}
use Rattle.mq_spec_node.specs.Node.{Node, ReceiverEnd, SenderEnd, end_in}
use Rattle.mq_spec_node.specs.Receivers.{is_receiver_defined}
use Rattle.mq_spec_node.specs.Replays.{after}
use Rattle.mq_spec_network.specs.Steps.{TakesTurn, turn_in}
use Rattle.mq_spec_network.specs.Tasks.{Slot}
use Rattle.mq_spec_network.specs.Turns.{Network, does}
use Rattle.mq_law_idle.specs.Lanes.{Lane, lane}
use Rattle.mq_law_idle.specs.Roads.{Quiet, Road, receiver_turn, sender_timed_out, sender_turn, waiting}
use Rattle.mq_law_node.specs.Rows.{rows_at}
use Rattle.mq_law_pump.specs.Away.{AllAway, EachKeepsAway, EachPushesAway, FrameAway, IsAsBegun, RowsAway, RunsOn, SeenAway, WayAway}
use Rattle.mq_law_pump.specs.Fit.{FitsSender, Good, IsFit}
use Rattle.mq_law_pump.specs.Leaves.{EachDefinesNone, EachLeavesOwn, parts_define_none, parts_leave}
use Rattle.mq_law_pump.specs.Rows.{rows_of}
use Rattle.mq_law_pump.specs.Sees.{FarNeeds, IsServed, LaneNeeds, NearNeeds, Sees, Wants}
use Rattle.mq_law_pump.specs.Shown.{ReceiverMoves, SenderMoves, SenderTimesOut, Shows}
use Rattle.mq_law_pump.specs.Steady.{Moved, TimeoutFits}
use Rattle.mq_law_pump.proofs.Below.{sends_below, takes_below, timed_below}
use Rattle.mq_law_pump.proofs.Defining.{as_begun_behind, parts_same, receivers_define_none, senders_define_none, timeouts_define_none}
use Rattle.mq_law_pump.proofs.Histories.{earlier}
use Rattle.mq_law_pump.proofs.Leaving.{parts_away, senders_leave_own, stays_open, timeouts_leave_own}
use Rattle.mq_law_pump.proofs.Moving.{fit_now, receives_move, sends_move, times_out_moves}
use Rattle.mq_law_pump.proofs.Offering.{laid_away, receivers_keep_away, senders_push_away, takes_away, waiting_away}
use Rattle.mq_law_pump.proofs.Staying.{never_stopped, runs_before}

-- THE TWO MANAGERS
pub near_on : (n v near0 far0 : Node) (e : SenderEnd) (m : Sender) (d : Deed) → NearNeeds n near0 far0 e → v.manager ≡ do_all d.parts n.manager → parts_define_none d.parts ≡ true
    → (is_running m.state ≡ true → is_running e.machine.state ≡ true) → (is_running m.state ≡ true → parts_leave e.channel (queue_of_sender e.channel n.manager) d.parts ≡ true)
    → NearNeeds v near0 far0 (record e { machine = m })
near_on n v near0 far0 e m d h is defines ran leave = record {
  same = as_begun_behind near0.manager n.manager v.manager h.same (subst (λ (p : Plain). IsAsBegun p n.manager) (sym is) (parts_same d.parts n.manager defines));
  queue = λ on. subst (RunsOn near0) (sym (opened on)) (h.queue (ran on));
  rows = λ on. subst (RowsAway far0) (sym (moved on)) (parts_away far0 e.channel q d.parts n.manager (leave on) (h.rows (ran on)));
}
  where
    q : List ℕ
    q = queue_of_sender e.channel n.manager

    opened : is_running m.state ≡ true → queue_of_sender e.channel v.manager ≡ queue_of_sender e.channel n.manager
    opened on = ap (queue_of_sender e.channel) is ∙ stays_open e.channel (queue_of_sender e.channel n.manager) d.parts n.manager (leave on)

    moved : is_running m.state ≡ true → rows_of e.channel v.manager ≡ rows_at (queue_of_sender e.channel n.manager) (do_all d.parts n.manager)
    moved on = (λ i. rows_at (opened on i) (is i))

pub far_on : (n v far0 : Node) (r : ReceiverEnd) (m : Receiver) (kept : List Message) (d : Deed) → FarNeeds n far0 r → v.manager ≡ do_all d.parts n.manager → parts_define_none d.parts ≡ true → AllAway far0 kept
    → FarNeeds v far0 (record r { machine = m; kept = kept })
far_on n v far0 r m kept d h is defines away = record {
  same = as_begun_behind far0.manager n.manager v.manager h.same (subst (λ (p : Plain). IsAsBegun p n.manager) (sym is) (parts_same d.parts n.manager defines));
  kept = away;
}

wants_before : (e : SenderEnd) (m : Sender) (l : Lane) (w : Road) → (is_running m.state ≡ true → is_running e.machine.state ≡ true) → Wants (record e { machine = m }) (lane l.fresh w) → Wants e l
wants_before e m l w before (inl fresh) = inl fresh
wants_before e m l w before (inr on) = inr (before on)

-- the same nodes, with these ends
pub sees_on : (w0 w v : Network) (k : ℕ) (c : CableLine) (l l1 : Lane) (h : Sees w0 w k c l) (e : SenderEnd) (r : ReceiverEnd) → Shows v k c h.near h.far e r l1 → NearNeeds (after h.near (v.done c.sender)) h.near0 h.far0 e → FarNeeds (after h.far (v.done c.receiver)) h.far0 r → LaneNeeds h.far0 e r l1
    → Sees w0 v k c l1
sees_on w0 w v k c l l1 h e r shows near_needs far_needs lane_needs = record {
  near = h.near;
  far = h.far;
  near0 = h.near0;
  far0 = h.far0;
  sender = e;
  receiver = r;
  shows = shows;
  near0_is = h.near0_is;
  far0_is = h.far0_is;
  near_needs = near_needs;
  far_needs = far_needs;
  lane_needs = lane_needs;
}

-- A SENDER'S TURN
pub own_sends : (w0 w : Network) (k : ℕ) (c : CableLine) (m : ℕ) (x : Entry) (l : Lane) → Good (does m (x ∷ []) w) → Sees w0 w k c l → TakesTurn (turn_in w Slot.Sends k c) m x → Moved (Sees w0) (does m (x ∷ []) w) k c l
own_sends w0 w k c m x l g h t =
    let s : SenderMoves w k c h.near h.far h.sender h.receiver l m x = sends_move w k c h.near h.far h.sender h.receiver l m x g h.shows t in
    let n : Node = after h.near (w.done c.sender) in
    let v : Network = does m (x ∷ []) w in
    let n1 : Node = after h.near (v.done c.sender) in
    let q : List ℕ = queue_of_sender h.sender.channel n.manager in
    let machine : Sender = (sender_turn s.turn l.road).sender in
    let is : n1.manager ≡ do_all s.deed.parts n.manager = ap (λ (z : Node). z.manager) s.next ∙ s.did.manager in
    let before : is_running machine.state ≡ true → is_running h.sender.machine.state ≡ true = λ on. ap (λ (y : Sender). is_running y.state) (sym h.shows.sends.machine) ∙ runs_before s.turn l.road on in
    let fit : IsFit n = fit_now w c.sender h.near (earlier w m x (inl t.is.2) g) h.shows.near_is in
    let fits : FitsSender h.sender n = fit.senders k h.sender (ap (λ (i : ℕ). end_in i n.own.ends) (sym h.shows.cables.0) ∙ h.shows.sends.here) in
    let pushes : FrameAway h.far0 s.deed.pushed = subst (EachPushesAway h.far0) s.is (senders_push_away h.far0 x.stamp h.sender (waiting l.road.back) n h.near_needs.rows (λ on. fits.queue)) in
    record {
      lane = lane l.fresh (sender_turn s.turn l.road);
      moves = inl (s.turn, s.may, refl);
      sees = sees_on w0 w v k c l (lane l.fresh (sender_turn s.turn l.road)) h (record h.sender { machine = machine }) h.receiver s.shows
          (near_on n n1 h.near0 h.far0 h.sender machine s.deed h.near_needs is (subst EachDefinesNone s.is (senders_define_none x.stamp h.sender (waiting l.road.back) n)) before
          (λ on. (subst (EachLeavesOwn q h.sender) s.is (senders_leave_own q x.stamp h.sender (waiting l.road.back) n h.shows.sends.here)) machine s.ends on))
          (subst (λ (es : List Entry). FarNeeds (after h.far es) h.far0 h.receiver) (sym s.still) h.far_needs) (record {
            served = λ wants. h.lane_needs.served (wants_before h.sender machine l (sender_turn s.turn l.road) before wants);
            below = λ on. sends_below s.turn l.road (h.lane_needs.below (before on));
            way = subst (WayAway h.far0) (sym s.out) (laid_away h.far0 s.deed.pushed l.road.out pushes h.lane_needs.way);
          });
    }

-- A TIMEOUT
awaits_runs : (st : SenderState) → awaits st ≡ true → is_running st ≡ true
awaits_runs states.Binding e = refl
awaits_runs states.Waiting e = refl
awaits_runs st e = absurd cc

pub own_times_out : (w0 w : Network) (k : ℕ) (c : CableLine) (m : ℕ) (x : Entry) (l : Lane) → Good (does m (x ∷ []) w) → Sees w0 w k c l → Quiet l.road → TakesTurn (turn_in w Slot.TimesOut k c) m x → Moved (Sees w0) (does m (x ∷ []) w) k c l
own_times_out w0 w k c m x l g h quiet t =
    let s : SenderTimesOut w k c h.near h.far h.sender h.receiver l m x = times_out_moves w k c h.near h.far h.sender h.receiver l m x g h.shows t in
    let n : Node = after h.near (w.done c.sender) in
    let v : Network = does m (x ∷ []) w in
    let n1 : Node = after h.near (v.done c.sender) in
    let q : List ℕ = queue_of_sender h.sender.channel n.manager in
    let machine : Sender = (sender_timed_out l.road).sender in
    let is : n1.manager ≡ do_all s.deed.parts n.manager = ap (λ (z : Node). z.manager) s.next ∙ s.did.manager in
    let running : is_running h.sender.machine.state ≡ true = ap (λ (y : Sender). is_running y.state) (sym h.shows.sends.machine) ∙ awaits_runs l.road.sender.state s.waits in
    let served : IsServed h.receiver h.far0 = h.lane_needs.served (inr running) in
    record {
      lane = lane true (sender_timed_out l.road);
      moves = inr (inr (s.waits, quiet, ap (λ (y : Receiver). is_stopped y.state) h.shows.takes.machine ∙ served.stopped, (h.lane_needs.below running).known, refl));
      sees = sees_on w0 w v k c l (lane true (sender_timed_out l.road)) h (record h.sender { machine = machine }) h.receiver s.shows
          (near_on n n1 h.near0 h.far0 h.sender machine s.deed h.near_needs is (subst EachDefinesNone s.is (timeouts_define_none h.sender n)) (λ on. running)
          (λ on. (subst (EachLeavesOwn q h.sender) s.is (timeouts_leave_own q h.sender n h.shows.sends.here)) machine s.ends on))
          (subst (λ (es : List Entry). FarNeeds (after h.far es) h.far0 h.receiver) (sym s.still) h.far_needs) (record {
            served = λ wants. served;
            below = λ on. timed_below l.road (h.lane_needs.below running);
            way = h.lane_needs.way;
          });
    }

-- A RECEIVER'S TURN
pub own_receives : (w0 w : Network) (k : ℕ) (c : CableLine) (m : ℕ) (x : Entry) (l : Lane) → Good (does m (x ∷ []) w) → Sees w0 w k c l → TakesTurn (turn_in w Slot.Receives k c) m x → Moved (Sees w0) (does m (x ∷ []) w) k c l
own_receives w0 w k c m x l g h t =
    let s : ReceiverMoves w k c h.near h.far h.sender h.receiver l m x = receives_move w k c h.near h.far h.sender h.receiver l m x g h.shows t in
    let n : Node = after h.far (w.done c.receiver) in
    let v : Network = does m (x ∷ []) w in
    let n1 : Node = after h.far (v.done c.receiver) in
    let machine : Receiver = (receiver_turn s.turn l.road).receiver in
    let is : n1.manager ≡ do_all s.deed.parts n.manager = ap (λ (z : Node). z.manager) s.next ∙ s.did.manager in
    let kept : AllAway h.far0 s.kept =
    (subst (EachKeepsAway h.far0 h.receiver) s.is (receivers_keep_away h.far0 x.stamp h.receiver x.effect.popped n h.shows.takes.here h.far_needs.kept (seen_away s.popped))) (record h.receiver { machine = machine; kept = s.kept }) s.ends in
    record {
      lane = lane l.fresh (receiver_turn s.turn l.road);
      moves = inr (inl (s.turn, (λ fresh. s.defined ∙ ap (λ (z : Definitions). is_receiver_defined h.receiver.channel z) h.far_needs.same.definitions ∙ (h.lane_needs.served (inl fresh)).defined), s.may, refl));
      sees = sees_on w0 w v k c l (lane l.fresh (receiver_turn s.turn l.road)) h h.sender (record h.receiver { machine = machine; kept = s.kept }) s.shows
          (subst (λ (es : List Entry). NearNeeds (after h.near es) h.near0 h.far0 h.sender) (sym s.still) h.near_needs)
          (far_on n n1 h.far0 h.receiver machine s.kept s.deed h.far_needs is (subst EachDefinesNone s.is (receivers_define_none x.stamp h.receiver x.effect.popped n)) kept) (record {
            served = λ wants. record {
              defined = (h.lane_needs.served wants).defined;
              stopped = never_stopped s.turn l.road (ap (λ (y : Receiver). is_stopped y.state) h.shows.takes.machine ∙ (h.lane_needs.served wants).stopped);
            };
            below = λ on. takes_below s.turn l.road (h.lane_needs.below on);
            way = takes_away h.far0 s.turn l.road h.lane_needs.way;
          });
    }
  where
    seen_away : (x.effect.popped ≡ waiting l.road.out) ⊎ (x.effect.popped ≡ items.Nothing) → SeenAway h.far0 x.effect.popped
    seen_away (inl is) = subst (SeenAway h.far0) (sym is) (waiting_away h.far0 l.road.out h.lane_needs.way)
    seen_away (inr is) = subst (SeenAway h.far0) (sym is) tt

pub own_moves : (w0 w : Network) (slot : Slot) (k : ℕ) (c : CableLine) (m : ℕ) (x : Entry) (l : Lane) → Good (does m (x ∷ []) w) → slice_get w.scenario.cables k ≡ Some c → Sees w0 w k c l → TimeoutFits slot l
    → TakesTurn (turn_in w slot k c) m x → Moved (Sees w0) (does m (x ∷ []) w) k c l
own_moves w0 w Slot.Sends k c m x l g there h fits t = own_sends w0 w k c m x l g h t
own_moves w0 w Slot.Receives k c m x l g there h fits t = own_receives w0 w k c m x l g h t
own_moves w0 w Slot.TimesOut k c m x l g there h fits t = own_times_out w0 w k c m x l g h fits t
