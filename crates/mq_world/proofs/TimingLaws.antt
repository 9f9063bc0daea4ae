-- A sender's timeout in the network: an event of its node, which leaves what lies on the cables.
use Rattle.std.proofs.Common.{◌≡◌, ◌+◌, ℕ, Bool, true, false, List, [], ◌∷◌, ◌++◌, refl, sym, ap, subst, ◌∙◌, inl, inr}
use Rattle.std.specs.Prelude.{Option, Some, None, Result, Ok, Err, slice_get}
use Rattle.std.proofs.lemmas.Option.{slice_get_within}
use Rattle.mq_frame.specs.declared.frame.Frame.{Frame}
use Rattle.mq_frame.specs.declared.frame.Seen.TheVariants as items
use Rattle.mq_history.specs.declared.calls.Actor.TheVariants as actors
use Rattle.mq_history.specs.declared.calls.Call.TheVariants as calls
use Rattle.mq_history.specs.declared.history.History.{History}
use Rattle.mq_history.specs.declared.scenario.CableLine.{CableLine}
use Rattle.mq_spec_node.specs.Terms.{Entry}
use Rattle.mq_spec_node.specs.Words.{Deed, Node, Surroundings, is_receiver, is_sender, is_spent, opening_node, stamp_after}
use Rattle.mq_spec_node.specs.Replays.{Follows, Tells, after}
use Rattle.mq_spec_network.specs.Steps.{TakesTurn, popped_by, pushed_of, turn_in}
use Rattle.mq_spec_network.specs.Story.{entries_at}
use Rattle.mq_spec_network.specs.Tasks.Slot.{TimesOut as OutOfTime}
use Rattle.mq_spec_network.specs.Turns.{changes, deed_at, extras_of, node_at, out_way}
use Rattle.mq_watch.specs.from_events.States.{NodeState, IsKept, IsServed, node_in, value_of}
use Rattle.mq_watch.specs.from_events.Events.{Adds, Stays}
use Rattle.mq_nodes.specs.declared.nodes.Stop.{Stop}
use Rattle.mq_nodes.specs.declared.nodes.Stop.TheVariants as stops
use Rattle.mq_nodes.specs.Course.{Ready}
use Rattle.mq_nodes.specs.Pumps.{IsStill, TurnIn}
use Rattle.mq_nodes.specs.Told.{DoesOrNot, NeverWants}
use Rattle.mq_shared.specs.from_turn_parts.TurnVariants as turns
use Rattle.mq_shared.specs.from_turn_parts.Turns.{TimeoutIs, TimesOut}
use Rattle.mq_world.specs.Ends.{TimeoutOn}
use Rattle.mq_world.specs.Settling.{IsOf, NodeDid, ended}
use Rattle.mq_world.specs.Worlds.{IsNetwork, NetState, course_in, histories_in, with_node}
use Rattle.mq_world.proofs.IdleLaws.{cable_line, cable_there}
use Rattle.mq_world.proofs.KeepLaws.{cable_again, did_silent, network_stays, network_turned}
use Rattle.mq_world.proofs.LiftLaws.{Asked, asked_at, did_lifts, ready_set, seen_at, spent_lifts, stays_lifts}
use Rattle.mq_world.proofs.ListLaws.{some_is, there}
use Rattle.mq_world.proofs.NodeLaws.{stays_so}
use Rattle.mq_shared.proofs.QuietLaws.{quiet_behind}
use Rattle.mq_world.proofs.QuietLaws.{joined_quiet}
use Rattle.mq_world.proofs.TimeLaws.{IsTimeout, tells_at, timeout_changes, timeout_here, timeout_pushes, timeout_silent, timeout_still, timeout_told as entry_told}

-- AT ITS NODE
abbrev IsTime : ℕ → Entry → Type 0
IsTime k e = IsOf (actors.Sender k) calls.Timeout e

still_by : (k : ℕ) (d : Option Deed) (old new : NodeState) → TimeoutIs k d old turns.Still new → Stays old new × (d ≡ None)
still_by k None old new h = (h, refl)
still_by k (Some d) old new h = absurd h

pub still_timed : (k m : ℕ) (old new : NodeState) → TimesOut k old turns.Still new → TimeoutOn k m old (Ok false) new
still_timed k m old new h = let s = still_by k _ old new h in (stays_so old new s.0, s.1)

timed_by : (k : ℕ) (d : Option Deed) (old new : NodeState) → TimeoutIs k d old turns.Changed new → (e : Entry) × Adds (actors.Sender k) calls.Timeout e old new
timed_by k None old new h = absurd h
timed_by k (Some d) old new h = h

pub timed_then : (k m : ℕ) (old new : NodeState) (done : Unit {0}) (spent : Bool) (r : Result Bool Stop) → TimesOut k old turns.Changed new → IsServed new → IsKept new → spent ≡ is_spent (value_of new) → r ≡ ended m true (Ok done) spent → TimeoutOn k m old r new
timed_then k m old new done spent r h served keeps is e = subst (λ (x : Result Bool Stop). TimeoutOn k m old x new) (sym e) (by_spent spent is)
  where
    did : NodeDid (IsTime k) old new
    did =
        let d = timed_by k _ old new h in
        record { entry = d.0; behind = []; fits = (d.1.actor, d.1.call); triggers = tt; grows = d.1.grows; marks = d.1.marks; keeps = keeps }

    by_spent : (b : Bool) → b ≡ is_spent (value_of new) → TimeoutOn k m old (ended m true (Ok done) b) new
    by_spent true same = (refl, did, sym same)
    by_spent false same = (did, served, sym same)

pub never_wants : (k m : ℕ) (old new : NodeState) (r : Result Bool Stop) → TimeoutOn k m old r new → NeverWants r
never_wants k m old new (Ok x) h = tt
never_wants k m old new (Err stops.NoMemory) h = h
never_wants k m old new (Err (stops.Spent j)) h = tt

-- WHAT ITS ENTRY TELLS
pub did_tells : (P : Entry → Type 0) (n new : NodeState) → IsKept n → (d : NodeDid P n new) → Tells (node_in n) n.stamp d.entry
did_tells P n new kept d =
    let f : Follows (opening_node new.given new.history) 0 (n.history.entries ++ d.entry ∷ d.behind) =
    subst (λ (es : List Entry). Follows (opening_node new.given new.history) 0 es) (ap (λ (h : History). h.entries) d.grows.history) d.keeps.replays.follows in
    let opens : opening_node new.given new.history ≡ opening_node n.given n.history =
    ap (λ (g : Surroundings). opening_node g new.history) d.grows.given ∙ ap (λ (h : History). opening_node n.given h) d.grows.history in
    subst (λ (x : Node). Tells x n.stamp d.entry) (sym kept.node)
    (subst (λ (s : ℕ). Tells (after (opening_node n.given n.history) n.history.entries) s d.entry) (sym kept.stamp)
    (subst (λ (x : Node). Tells (after x n.history.entries) (stamp_after 0 n.history.entries) d.entry) opens
    (tells_at (opening_node new.given new.history) 0 n.history.entries d.behind d.entry f)))

facts : (k : ℕ) (n new : NodeState) → IsKept n → (d : NodeDid (IsTime k) n new) → IsTimeout k (node_in n) d.entry
facts k n new kept d = entry_told k n.stamp (node_in n) d.entry (did_tells (IsTime k) n new kept d) d.fits.0 d.fits.1

with_facts : (k : ℕ) (n new : NodeState) → IsKept n → NodeDid (IsTime k) n new → NodeDid (IsTimeout k (node_in n)) n new
with_facts k n new kept d = record {
  entry = d.entry;
  behind = d.behind;
  fits = facts k n new kept d;
  triggers = d.triggers;
  grows = d.grows;
  marks = d.marks;
  keeps = d.keeps;
}

-- THE NETWORK THEN
timeout_did : (w : NetState) (m k : ℕ) (l : CableLine) (n new : NodeState) → IsNetwork w → slice_get w.nodes m ≡ Some n → slice_get w.scenario.cables k ≡ Some l → NodeDid (IsTime k) n new → IsNetwork (with_node m new w)
timeout_did w m k l n new h known line d =
    let c = there w.cables k (cable_there w k h (slice_get_within w.scenario.cables k l line)) in
    let e = facts k n new (h.nodes m n known).keeps d in
    subst IsNetwork (cable_again (with_node m new w) k c.0 c.1)
    (network_turned w m k (IsTime k) n new l c.0 c.0 h known d (inl d.fits.0) line c.1
    (joined_quiet k l (entries_at (histories_in w)) m (d.entry ∷ d.behind) c.0
    (quiet_behind (is_sender k) d.entry d.behind (inr (e.pushed, timeout_silent k (node_in n) d.entry e)) (did_silent (IsTime k) n new d))
    (quiet_behind (is_receiver k) d.entry d.behind (inr (e.pushed, timeout_silent k (node_in n) d.entry e)) (did_silent (IsTime k) n new d))
    (h.ways k l c.0 line c.1)))

timeout_keeps : (w : NetState) (m k : ℕ) (l : CableLine) (r : Result Bool Stop) (n new : NodeState) → IsNetwork w → slice_get w.nodes m ≡ Some n → slice_get w.scenario.cables k ≡ Some l → TimeoutOn k m n r new → IsNetwork (with_node m new w)
timeout_keeps w m k l (Ok true) n new h known line (d, served, may) = timeout_did w m k l n new h known line d
timeout_keeps w m k l (Ok false) n new h known line (s, none) = network_stays w m n new h known s
timeout_keeps w m k l (Err stops.NoMemory) n new h known line x = absurd x
timeout_keeps w m k l (Err (stops.Spent j)) n new h known line (is, d, spent) = timeout_did w m k l n new h known line d

-- The entry is that of the turn that its definition takes.
module _ (w : NetState) (m k : ℕ) (l : CableLine) (n : NodeState) (h : IsNetwork w) (known : slice_get w.nodes m ≡ Some n) (here : l.sender ≡ m) where
  deed_is : deed_at (actors.Sender k) calls.Timeout items.Nothing (node_at (course_in w).net l.sender) ≡ timeout_here k (node_in n)
  deed_is = ap (λ (o : Option Node). deed_at (actors.Sender k) calls.Timeout items.Nothing o) (seen_at w m l.sender (Some n) h (sym here) known)

  timeout_fits : (e : Entry) → IsTimeout k (node_in n) e → TakesTurn (turn_in (course_in w).net OutOfTime k l) m e
  timeout_fits e is = record {
    changes = ap (λ (o : Option Deed). changes (out_way (course_in w).net k l) o) deed_is ∙ timeout_changes (out_way (course_in w).net k l) k (node_in n) ∙ is.there;
    is = (sym here, is.actor, is.call);
    popped = is.popped ∙ sym (ap (λ (o : Option Deed). popped_by items.Nothing (pushed_of o)) deed_is ∙ ap (λ (f : Option Frame). popped_by items.Nothing f) (timeout_pushes k (node_in n)));
    extras = is.extras ∙ sym (ap (λ (o : Option Deed). extras_of (out_way (course_in w).net k l) (pushed_of o)) deed_is ∙ ap (λ (f : Option Frame). extras_of (out_way (course_in w).net k l) f) (timeout_pushes k (node_in n)));
  }

  timeout_rests : timeout_here k (node_in n) ≡ None → IsStill (course_in w).net OutOfTime k l
  timeout_rests none = ap (λ (o : Option Deed). changes (out_way (course_in w).net k l) o) deed_is ∙ timeout_still (out_way (course_in w).net k l) k (node_in n) none

  abbrev Lifts : Result Bool Stop → NodeState → Type 0
  Lifts r new = DoesOrNot (TakesTurn (turn_in (course_in w).net OutOfTime k l)) (IsStill (course_in w).net OutOfTime k l) r (course_in w) (course_in (with_node m new w))

  abbrev Takes : ℕ → Entry → Type 0
  Takes j e = TakesTurn (turn_in (course_in w).net OutOfTime k l) j e

  more : (new : NodeState) → NodeDid (IsTime k) n new → NodeDid (IsTimeout k (node_in n)) n new
  more new d = with_facts k n new (h.nodes m n known).keeps d

  timeout_lifts : (r : Result Bool Stop) (new : NodeState) → IsNetwork (with_node m new w) → Ready (course_in w).net → TimeoutOn k m n r new → Lifts r new
  timeout_lifts (Ok true) new after ready (d, served, may) = (
    did_lifts w m (IsTimeout k (node_in n)) Takes n new known timeout_fits (more new d),
    ready_set w.scenario w.nodes m n new h.nodes after.nodes known ready served may,
  )
  timeout_lifts (Ok false) new after ready (s, none) = (stays_lifts w m n new known s, timeout_rests none)
  timeout_lifts (Err stops.NoMemory) new after ready x = absurd x
  timeout_lifts (Err (stops.Spent j)) new after ready (is, d, spent) = (
    did_lifts w m (IsTimeout k (node_in n)) Takes n new known timeout_fits (more new d),
    spent_lifts w.scenario w.nodes m j (IsTime k) n new known d is spent,
  )

-- AS A CALL OF THE NETWORK'S PARTS HAS IT
pub timeout_kept : (w v : NetState) (i k : ℕ) (l : CableLine) (r : Result Bool Stop) (n new : NodeState) → Asked w i l.sender n → v ≡ with_node i new w → slice_get w.lines k ≡ Some l → TimeoutOn k l.sender n r new → IsNetwork v
timeout_kept w v i k l r n new a is found x =
    subst IsNetwork (sym (is ∙ ap (λ (j : ℕ). with_node j new w) a.place)) (timeout_keeps w l.sender k l r n new a.kept (asked_at w i l.sender n a) (cable_line w k l a.kept found) x)

pub timeout_told : (w v : NetState) (i k : ℕ) (l : CableLine) (r : Result Bool Stop) (n new : NodeState) → Asked w i l.sender n → v ≡ with_node i new w → slice_get w.lines k ≡ Some l → TimeoutOn k l.sender n r new → TurnIn OutOfTime k r (course_in w) (course_in v)
timeout_told w v i k l r n new a is found x line at =
    let same : line ≡ l = some_is line l (sym at ∙ cable_line w k l a.kept found) in
    let known : slice_get w.nodes l.sender ≡ Some n = asked_at w i l.sender n a in
    subst (λ (y : NetState). DoesOrNot (TakesTurn (turn_in (course_in w).net OutOfTime k line)) (IsStill (course_in w).net OutOfTime k line) r (course_in w) (course_in y)) (sym (is ∙ ap (λ (j : ℕ). with_node j new w) a.place))
    (subst (λ (z : CableLine). DoesOrNot (TakesTurn (turn_in (course_in w).net OutOfTime k z)) (IsStill (course_in w).net OutOfTime k z) r (course_in w) (course_in (with_node l.sender new w))) (sym same)
    (timeout_lifts w l.sender k l n a.kept known refl r new (timeout_keeps w l.sender k l r n new a.kept known (cable_line w k l a.kept found) x) a.ready x))
