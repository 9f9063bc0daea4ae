-- A turn of a cable's end at its place in the network.
use Rattle.std.proofs.Common.{◌≡◌, ℕ, Bool, true, false, List, [], ◌∷◌, ◌++◌, refl, sym, ap, subst, ◌∙◌, inl, inr}
use Rattle.std.specs.Prelude.{◌⊎◌, ◌==◌, if◌then◌else◌, map, Some, Result, Ok, Err, slice_get, slice_set}
use Rattle.std.specs.List.{AllByRecursion}
use Rattle.std.proofs.lemmas.List.{append_assoc}
use Rattle.mq_cable.specs.declared.fault.Fault.{Fault}
use Rattle.mq_history.specs.declared.calls.Actor.{Actor}
use Rattle.mq_history.specs.declared.calls.Actor.TheVariants as actors
use Rattle.mq_history.specs.declared.calls.Entry.{Entry}
use Rattle.mq_history.specs.declared.history.History.{History}
use Rattle.mq_history.specs.declared.scenario.CableLine.{CableLine}
use Rattle.mq_spec_node.specs.Node.{Node}
use Rattle.mq_spec_node.specs.Replays.{Follows, Tells, after, done_by, opening_node}
use Rattle.mq_spec_node.specs.Words.{is_receiver, is_sender, stamp_after}
use Rattle.mq_spec_network.specs.Steps.{TakesTurn, Turn}
use Rattle.mq_spec_network.specs.Story.{entries_at}
use Rattle.mq_spec_network.specs.Turns.{changes, more_at}
use Rattle.mq_nodes.specs.Course.{Did, Ready}
use Rattle.mq_nodes.specs.Told.{DoesOrNot}
use Rattle.mq_nodes.specs.declared.nodes.Stop.{Stop}
use Rattle.mq_nodes.specs.declared.nodes.Stop.TheVariants as stops
use Rattle.mq_ways.specs.Ways.{CableState, IsQuietEntry}
use Rattle.mq_watch.specs.from_events.States.{NodeState, IsKept, node_in}
use Rattle.mq_world.specs.Ends.{EndOn, Passes, Sides, StaysStill, far_sides, near_sides}
use Rattle.mq_shared.specs.from_split.Facing.{IsJoined}
use Rattle.mq_shared.proofs.QuietLaws.{silent_quiet}
use Rattle.mq_world.specs.Settling.{NodeDid, NodeStays}
use Rattle.mq_world.specs.Worlds.{IsNetwork, NetState, course_in, history_in, with_cable, with_node}
use Rattle.mq_world.proofs.KeepLaws.{cable_again, did_silent, network_stays, network_turned}
use Rattle.mq_world.proofs.LiftLaws.{did_lifts, ready_set, spent_lifts, stays_lifts}
use Rattle.mq_world.proofs.ListLaws.{itself}
use Rattle.mq_world.proofs.PassLaws.{Faced}
use Rattle.mq_world.proofs.QuietLaws.{joined_quiet, joined_same}
use Rattle.mq_world.proofs.SeenLaws.{AreAt}

-- WHAT ITS ENTRY TELLS, at the node as it was
tells_among : (n : Node) (last : ℕ) (xs ys : List Entry) (e : Entry) → Follows n last (xs ++ e ∷ ys) → Tells (after n xs) (stamp_after last xs) e
tells_among n last [] ys e f = f.0
tells_among n last (x ∷ xs) ys e f = tells_among (done_by x n).next x.stamp xs ys e f.1

tells_here : (P : Entry → Type 0) (n new : NodeState) → IsKept n → (d : NodeDid P n new) → Tells (node_in n) n.stamp d.entry
tells_here P n new kept d =
    let first : Node = opening_node n.given n.history in
    let opens : opening_node new.given new.history ≡ first = ap (λ (h : History). opening_node new.given h) d.grows.history ∙ ap (λ g. opening_node g n.history) d.grows.given in
    let f : Follows first 0 (n.history.entries ++ d.entry ∷ d.behind) =
    subst (λ (x : Node). Follows x 0 (n.history.entries ++ d.entry ∷ d.behind)) opens (subst (Follows (opening_node new.given new.history) 0) (ap (λ (h : History). h.entries) d.grows.history) d.keeps.replays.follows) in
    subst (λ (x : Node). Tells x n.stamp d.entry) (sym kept.node)
    (subst (λ (s : ℕ). Tells (after first n.history.entries) s d.entry) (sym kept.stamp) (tells_among first 0 n.history.entries d.behind d.entry f))

told_so : (P : Entry → Type 0) (n new : NodeState) → IsKept n → (d : NodeDid P n new) → NodeDid (λ e. P e × Tells (node_in n) n.stamp e) n new
told_so P n new kept d = record {
  entry = d.entry;
  behind = d.behind;
  fits = (d.fits, tells_here P n new kept d);
  triggers = d.triggers;
  grows = d.grows;
  marks = d.marks;
  keeps = d.keeps;
}

-- WHAT THE COURSE TELLS of it
module _ (w : NetState) (m : ℕ) (n : NodeState) (h : IsNetwork w) (known : slice_get w.nodes m ≡ Some n) (who : Actor) (t : Turn) (a b : Sides)
    (fits : (e : Entry) → Tells (node_in n) n.stamp e → Passes who a b n e → TakesTurn t m e) (still : b ≡ a → StaysStill who a b n → changes t.way t.deed ≡ false) where
  kept : IsKept n
  kept = (h.nodes m n known).keeps

  did : (new : NodeState) → NodeDid (Passes who a b n) n new → Did (TakesTurn t) (course_in w) (course_in (with_node m new w))
  did new d = did_lifts w m (λ e. Passes who a b n e × Tells (node_in n) n.stamp e) (TakesTurn t) n new known (λ e p. fits e p.1 p.0) (told_so (Passes who a b n) n new kept d)

  pub end_lifts : (r : Result Bool Stop) (new : NodeState) → AreAt w.scenario (slice_set w.nodes m new) → Ready (course_in w).net → EndOn who m a b n r new → DoesOrNot (TakesTurn t) (changes t.way t.deed ≡ false) r (course_in w) (course_in (with_node m new w))
  end_lifts (Ok true) new after ready (d, served, may) = (did new d, ready_set w.scenario w.nodes m n new h.nodes after known ready served may)
  end_lifts (Ok false) new after ready (stays, same, s) = (stays_lifts w m n new known stays, still same s)
  end_lifts (Err stops.NoMemory) new after ready (inl (stays, same)) = inl (stays_lifts w m n new known stays)
  end_lifts (Err stops.NoMemory) new after ready (inr d) = inr (did new d)
  end_lifts (Err (stops.Spent k)) new after ready (is, d, spent) = (did new d, spent_lifts w.scenario w.nodes m k (Passes who a b n) n new known d is spent)

-- WHAT THE NETWORK KEEPS
module _ (w : NetState) (m k : ℕ) (n : NodeState) (h : IsNetwork w) (known : slice_get w.nodes m ≡ Some n) (l : CableLine) (c d : CableState) (line : slice_get w.scenario.cables k ≡ Some l) (is : slice_get w.cables k ≡ Some c) (who : Actor) (of_end : (who ≡ actors.Sender k) ⊎ (who ≡ actors.Receiver k)) (a b : Sides) (same : b ≡ a → d ≡ c) where
  abbrev done : ℕ → List Entry
  done = entries_at (map history_in w.nodes)

  abbrev Joins : Type 0
  Joins = (e : Entry) (behind : List Entry) → Tells (node_in n) n.stamp e → Passes who a b n e → AllByRecursion (IsQuietEntry (is_sender k)) behind → AllByRecursion (IsQuietEntry (is_receiver k)) behind → IsJoined k l (more_at m (e ∷ behind) done) d

  ends_so : (e : Entry) → e.actor ≡ who → (e.actor ≡ actors.Sender k) ⊎ (e.actor ≡ actors.Receiver k)
  ends_so e by = by_end of_end
    where
      by_end : (who ≡ actors.Sender k) ⊎ (who ≡ actors.Receiver k) → (e.actor ≡ actors.Sender k) ⊎ (e.actor ≡ actors.Receiver k)
      by_end (inl x) = inl (by ∙ x)
      by_end (inr x) = inr (by ∙ x)

  did_keeps : Joins → (new : NodeState) → NodeDid (Passes who a b n) n new → IsNetwork (with_cable k d (with_node m new w))
  did_keeps joins new x =
      network_turned w m k (Passes who a b n) n new l c d h known x (ends_so x.entry x.fits.is.0) line is
      (joins x.entry x.behind (tells_here (Passes who a b n) n new (h.nodes m n known).keeps x) x.fits (silent_quiet (is_sender k) x.behind (did_silent (Passes who a b n) n new x)) (silent_quiet (is_receiver k) x.behind (did_silent (Passes who a b n) n new x)))

  none_keeps : (new : NodeState) → NodeStays n new → b ≡ a → IsNetwork (with_cable k d (with_node m new w))
  none_keeps new s e =
      subst IsNetwork (sym (ap (λ (x : CableState). with_cable k x (with_node m new w)) (same e) ∙ cable_again (with_node m new w) k c is)) (network_stays w m n new h known s)

  pub end_keeps : Joins → (r : Result Bool Stop) (new : NodeState) → EndOn who m a b n r new → IsNetwork (with_cable k d (with_node m new w))
  end_keeps joins (Ok true) new (x, served, may) = did_keeps joins new x
  end_keeps joins (Ok false) new (stays, e, s) = none_keeps new stays e
  end_keeps joins (Err stops.NoMemory) new (inl (stays, e)) = none_keeps new stays e
  end_keeps joins (Err stops.NoMemory) new (inr x) = did_keeps joins new x
  end_keeps joins (Err (stops.Spent j)) new (at, x, spent) = did_keeps joins new x

-- THE ENDS OF A CABLE
-- entries of one manager, in two pieces
more_twice : (m : ℕ) (e : Entry) (behind : List Entry) (done : ℕ → List Entry) (q : ℕ) → more_at m (e ∷ behind) done q ≡ more_at m behind (more_at m (e ∷ []) done) q
more_twice m e behind done q = by_test (q == m)
  where
    by_test : (b : Bool) → (if b then done q ++ e ∷ behind else done q) ≡ (if b then (if b then done q ++ e ∷ [] else done q) ++ behind else (if b then done q ++ e ∷ [] else done q))
    by_test true = sym (append_assoc (done q) (e ∷ []) behind)
    by_test false = refl

pub joined_behind : (m k : ℕ) (l : CableLine) (done : ℕ → List Entry) (e : Entry) (behind : List Entry) (d : CableState) → AllByRecursion (IsQuietEntry (is_sender k)) behind → AllByRecursion (IsQuietEntry (is_receiver k)) behind → IsJoined k l (more_at m (e ∷ []) done) d → IsJoined k l (more_at m (e ∷ behind) done) d
joined_behind m k l done e behind d p q h =
    joined_same k l (more_at m behind (more_at m (e ∷ []) done)) (more_at m (e ∷ behind) done) d (more_twice m e behind done) (joined_quiet k l (more_at m (e ∷ []) done) m behind d p q h)

-- an end whose manager did one entry more, with the other end at another manager or at the same
pub faced_at : (fr fw : List Fault) (mine theirs : Actor → Bool) (at other m : ℕ) (done : ℕ → List Entry) (e : Entry) (b : Sides) → at ≡ m → Faced fr fw mine theirs (done at ++ e ∷ []) (done other) b → Faced fr fw mine theirs (done at ++ e ∷ []) (done other ++ e ∷ []) b
    → Faced fr fw mine theirs (more_at m (e ∷ []) done at) (more_at m (e ∷ []) done other) b
faced_at fr fw mine theirs at other m done e b here one both =
    subst (λ (t : Bool). Faced fr fw mine theirs (if t then done at ++ e ∷ [] else done at) (more_at m (e ∷ []) done other) b) (sym (ap (λ (x : ℕ). x == m) here ∙ itself m)) (by_other (other == m))
  where
    by_other : (t : Bool) → Faced fr fw mine theirs (done at ++ e ∷ []) (if t then done other ++ e ∷ [] else done other) b
    by_other true = both
    by_other false = one

pub near_faced : (k : ℕ) (l : CableLine) (done : ℕ → List Entry) (c : CableState) → IsJoined k l done c → Faced l.back l.out (is_sender k) (is_receiver k) (done l.sender) (done l.receiver) (near_sides c)
near_faced k l done c h = record { read = h.back; write = h.out }

pub far_faced : (k : ℕ) (l : CableLine) (done : ℕ → List Entry) (c : CableState) → IsJoined k l done c → Faced l.out l.back (is_receiver k) (is_sender k) (done l.receiver) (done l.sender) (far_sides c)
far_faced k l done c h = record { read = h.out; write = h.back }
