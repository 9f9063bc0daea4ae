-- A turn of a cable's sender at its place in the network.
use Rattle.std.proofs.Common.{◌≡◌, ℕ, ◌<◌, ◌^◌, Bool, true, false, List, ◌∷◌, length, refl, sym, ap, subst, ◌∙◌, inl}
use Rattle.std.specs.Prelude.{map, Option, Some, Result, slice_get}
use Rattle.std.specs.List.{AllByRecursion}
use Rattle.mq_history.specs.declared.calls.Actor.{Actor}
use Rattle.mq_history.specs.declared.calls.Actor.TheVariants as actors
use Rattle.mq_history.specs.declared.calls.Call.TheVariants as calls
use Rattle.mq_history.specs.declared.calls.Entry.{Entry}
use Rattle.mq_history.specs.declared.scenario.CableLine.{CableLine}
use Rattle.mq_spec_node.specs.Node.{Node}
use Rattle.mq_spec_node.specs.Replays.{Tells}
use Rattle.mq_spec_node.specs.Words.{is_receiver, is_sender, stamp_after}
use Rattle.mq_spec_network.specs.Steps.{TakesTurn, Turn, turn_in}
use Rattle.mq_spec_network.specs.Story.{entries_at}
use Rattle.mq_spec_network.specs.Tasks.Slot.{Sends}
use Rattle.mq_spec_network.specs.Turns.{back_of, changes, deed_at, more_at, node_at, out_way, waiting}
use Rattle.mq_nodes.specs.Course.{Ready}
use Rattle.mq_nodes.specs.Pumps.{TurnIn}
use Rattle.mq_nodes.specs.Told.{DoesOrNot}
use Rattle.mq_nodes.specs.declared.nodes.Stop.{Stop}
use Rattle.mq_ways.specs.Ways.{CableState, IsQuietEntry}
use Rattle.mq_watch.specs.from_events.States.{NodeState, node_in}
use Rattle.mq_watch.specs.from_events.Events.{MayAct}
use Rattle.mq_world.specs.Ends.{EndOn, Passes, Sides, StaysStill, near_sides}
use Rattle.mq_shared.specs.from_split.Facing.{IsJoined}
use Rattle.mq_world.specs.Worlds.{IsNetwork, NetState, course_in, history_in, with_cable, with_node}
use Rattle.mq_shared.proofs.DeedLaws.{a_sender}
use Rattle.mq_world.proofs.ListLaws.{itself, some_is}
use Rattle.mq_world.proofs.PassLaws.{Faced, faced_both, faced_more, stays_still, takes_turn}
use Rattle.mq_world.proofs.SeenLaws.{done_there, node_there}
use Rattle.mq_cable.specs.Lists.{AllLow}
use Rattle.mq_ways.proofs.WayLaws.{low_items}
use Rattle.mq_world.proofs.LiftLaws.{asked_at, asked_ready}
use Rattle.mq_world.proofs.PlaceLaws.{AskedEnd, cable_at, few_entries, few_offered, line_here, line_there, then_so}
use Rattle.mq_world.proofs.TurnedLaws.{end_keeps, end_lifts, faced_at, joined_behind, near_faced}

module _ (w : NetState) (m k : ℕ) (n : NodeState) (h : IsNetwork w) (known : slice_get w.nodes m ≡ Some n) (may : MayAct n) (l : CableLine) (c d : CableState) (line : slice_get w.scenario.cables k ≡ Some l) (is : slice_get w.cables k ≡ Some c) (here : l.sender ≡ m) where
  abbrev hs : ℕ → List Entry
  hs = entries_at (map history_in w.nodes)

  faced : Faced l.back l.out (is_sender k) (is_receiver k) (hs l.sender) (hs l.receiver) (near_sides c)
  faced = near_faced k l hs c (h.ways k l c line is)

  mine_last : n.stamp ≡ stamp_after 0 (hs l.sender)
  mine_last = (h.nodes m n known).keeps.stamp ∙ ap (stamp_after 0) (sym (ap hs here ∙ done_there w.nodes m n known))

  node_here : node_at (course_in w).net l.sender ≡ Some (node_in n)
  node_here = ap (node_at (course_in w).net) here ∙ node_there w.scenario w.nodes m n known (h.nodes m n known)

  mine_so : (e : Entry) → Passes (actors.Sender k) (near_sides c) (near_sides d) n e → is_sender k e.actor ≡ true
  mine_so e x = ap (is_sender k) x.is.0 ∙ itself k

  theirs_so : (e : Entry) → Passes (actors.Sender k) (near_sides c) (near_sides d) n e → is_receiver k e.actor ≡ false
  theirs_so e x = ap (is_receiver k) x.is.0

  abbrev who : Actor
  who = actors.Sender k

  joins : (e : Entry) (behind : List Entry) → Tells (node_in n) n.stamp e → Passes who (near_sides c) (near_sides d) n e → AllByRecursion (IsQuietEntry (is_sender k)) behind → AllByRecursion (IsQuietEntry (is_receiver k)) behind → IsJoined k l (more_at m (e ∷ behind) hs) d
  joins e behind t x p q =
      let one = faced_more who (a_sender k) l.back l.out (is_sender k) (is_receiver k) (hs l.sender) (hs l.receiver) (near_sides c) (near_sides d) n faced e t x (mine_so e x) (theirs_so e x) may mine_last in
      let both = faced_both who (a_sender k) l.back l.out (is_sender k) (is_receiver k) (hs l.sender) (hs l.receiver) (near_sides c) (near_sides d) n faced e t x (mine_so e x) (theirs_so e x) may mine_last in
      let f = faced_at l.back l.out (is_sender k) (is_receiver k) l.sender l.receiver m hs e (near_sides d) here one both in
      joined_behind m k l hs e behind d p q (record { out = f.write; back = f.read })

  same_cable : near_sides d ≡ near_sides c → d ≡ c
  same_cable e = ap (λ (s : Sides). record { out = s.write; back = s.read }) e

  pub sender_keeps : (r : Result Bool Stop) (new : NodeState) → EndOn who m (near_sides c) (near_sides d) n r new → IsNetwork (with_cable k d (with_node m new w))
  sender_keeps r new x = end_keeps w m k n h known l c d line is who (inl refl) (near_sides c) (near_sides d) same_cable joins r new x

  abbrev by_node : Option Node → Turn
  by_node o = record { manager = l.sender; actor = who; call = calls.Turn; seen = waiting (back_of (course_in w).net k l); way = out_way (course_in w).net k l; deed = deed_at who calls.Turn (waiting (back_of (course_in w).net k l)) o }

  pub sender_lifts : (r : Result Bool Stop) (new : NodeState) → Ready (course_in w).net → EndOn who m (near_sides c) (near_sides d) n r new → TurnIn Sends k r (course_in w) (course_in (with_cable k d (with_node m new w)))
  sender_lifts r new ready x l2 line2 =
      subst (λ (y : CableLine). DoesOrNot (TakesTurn (turn_in (course_in w).net Sends k y)) (changes (turn_in (course_in w).net Sends k y).way (turn_in (course_in w).net Sends k y).deed ≡ false) r (course_in w) (course_in (with_node m new w))) (some_is l l2 (sym line ∙ line2))
      (end_lifts w m n h known who (turn_in (course_in w).net Sends k l) (near_sides c) (near_sides d) fits still r new (sender_keeps r new x).nodes ready x)
    where
      fits : (e : Entry) → Tells (node_in n) n.stamp e → Passes who (near_sides c) (near_sides d) n e → TakesTurn (turn_in (course_in w).net Sends k l) m e
      fits e t y =
          subst (λ (o : Option Node). TakesTurn (by_node o) m e) (sym node_here)
          (subst (λ (q : ℕ). TakesTurn (record (by_node (Some (node_in n))) { manager = q }) m e) (sym here)
          (takes_turn who (a_sender k) l.back l.out (is_sender k) (is_receiver k) (hs l.sender) (hs l.receiver) (near_sides c) (near_sides d) n faced e t y m))

      still : near_sides d ≡ near_sides c → StaysStill who (near_sides c) (near_sides d) n → changes (turn_in (course_in w).net Sends k l).way (turn_in (course_in w).net Sends k l).deed ≡ false
      still e s =
          ap (λ (o : Option Node). changes (out_way (course_in w).net k l) (by_node o).deed) node_here
          ∙ stays_still who (a_sender k) l.back l.out (is_sender k) (is_receiver k) (hs l.sender) (hs l.receiver) (near_sides c) (near_sides d) n faced e s

-- AS A CALL HAS IT
-- what its turn asks of the two directions
pub sender_low_items : (w : NetState) (i j m k : ℕ) (n : NodeState) (c : CableState) → AskedEnd w i j m k n c → AllLow c.back.items
sender_low_items w i j m k n c a =
    let l = line_there w k a.there in
    let way = (a.asked.kept.ways k l.0 c l.1 (cable_at w i j m k n c a)).back.way in
    low_items l.0.back _ _ c.back way

pub sender_few_offered : (w : NetState) (i j m k : ℕ) (n : NodeState) (c : CableState) (l : CableLine) → AskedEnd w i j m k n c → slice_get w.lines k ≡ Some l → l.sender ≡ m → c.out.offers.number < 2 ^ 48
sender_few_offered w i j m k n c l a found here =
    let way = (a.asked.kept.ways k l c (line_here w k l a.asked.kept found) (cable_at w i j m k n c a)).out.way in
    few_offered (is_sender k) (entries_at (map history_in w.nodes) l.sender) c.out.offers way.taken
    (subst (λ (q : ℕ). length (entries_at (map history_in w.nodes) q) < 2 ^ 48) (sym here) (few_entries w m n (asked_at w i m n a.asked) (asked_ready w i m n a.asked).may))

pub sender_kept : (w v : NetState) (i j m k : ℕ) (n new : NodeState) (c d : CableState) (l : CableLine) (r : Result Bool Stop) → AskedEnd w i j m k n c → v ≡ with_cable j d (with_node i new w) → slice_get w.lines k ≡ Some l → l.sender ≡ m → EndOn (actors.Sender k) m (near_sides c) (near_sides d) n r new → IsNetwork v
sender_kept w v i j m k n new c d l r a is found here x =
    subst IsNetwork (sym (then_so w v i j m k n new c d a is))
    (sender_keeps w m k n a.asked.kept (asked_at w i m n a.asked) (asked_ready w i m n a.asked).may l c d (line_here w k l a.asked.kept found) (cable_at w i j m k n c a) here r new x)

pub sender_told : (w v : NetState) (i j m k : ℕ) (n new : NodeState) (c d : CableState) (l : CableLine) (r : Result Bool Stop) → AskedEnd w i j m k n c → v ≡ with_cable j d (with_node i new w) → slice_get w.lines k ≡ Some l → l.sender ≡ m → EndOn (actors.Sender k) m (near_sides c) (near_sides d) n r new → TurnIn Sends k r (course_in w) (course_in v)
sender_told w v i j m k n new c d l r a is found here x =
    subst (λ (y : NetState). TurnIn Sends k r (course_in w) (course_in y)) (sym (then_so w v i j m k n new c d a is))
    (sender_lifts w m k n a.asked.kept (asked_at w i m n a.asked) (asked_ready w i m n a.asked).may l c d (line_here w k l a.asked.kept found) (cable_at w i j m k n c a) here r new a.asked.ready x)
