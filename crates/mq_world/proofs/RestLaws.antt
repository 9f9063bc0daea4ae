-- A network whose nodes rest.
use Rattle.std.proofs.Common.{◌≡◌, ℕ, ◌<◌, List, [], ◌∷◌, ◌++◌, refl, sym, ap, subst, ◌∙◌, append_assoc}
use Rattle.std.specs.Prelude.{map, reverse, Option, Some, None, option_map, slice_get}
use Rattle.std.proofs.lemmas.List.{reverse-append, reverse-reverse}
use Rattle.std.proofs.lemmas.Option.{slice_get_within}
use Rattle.mq_history.specs.declared.history.History.{History}
use Rattle.mq_history.specs.declared.scenario.CableLine.{CableLine}
use Rattle.mq_spec_node.specs.Words.{Own, Replays, Surroundings, TriggersStand, node_of, opening_node, state_of}
use Rattle.mq_spec_network.specs.Lawful.{IsCarried}
use Rattle.mq_spec_network.specs.Story.{entries_at}
use Rattle.mq_core.specs.Values.{CoreValue}
use Rattle.mq_watch.specs.from_events.States.{NodeState}
use Rattle.mq_nodes.specs.Carried.{AllCarried}
use Rattle.mq_world_begin.specs.Rested.{IsRested, IsRestedAt}
use Rattle.mq_world.specs.Resting.{manager_in, own_in, rest_of}
use Rattle.mq_shared.specs.from_split.Facing.{IsJoined}
use Rattle.mq_world.specs.Worlds.{IsNetwork, IsNodeAt, NetState, course_in, histories_in, history_in}
use Rattle.mq_world.proofs.ListLaws.{get_map, long_map, some_is, there}

-- none yet
pub first_moved : {A B : Type 0} (f : A → B) (xs : List B) (left all : List A) → xs ≡ [] → left ≡ reverse all → xs ++ map f (reverse left) ≡ map f all
first_moved f xs left all none is = ap (λ (zs : List _). zs ++ map f (reverse left)) none ∙ ap (λ (zs : List _). map f (reverse zs)) is ∙ ap (map f) (reverse-reverse all)

-- one taken off the end of a list that is reversed, and put behind the others
pub moved_on : {A B : Type 0} (f : A → B) (xs ys : List B) (left rest : List A) (x : A) (y : B) (all : List B) → ys ≡ xs ++ y ∷ [] → y ≡ f x → left ≡ rest ++ x ∷ [] → xs ++ map f (reverse left) ≡ all → ys ++ map f (reverse rest) ≡ all
moved_on f xs ys left rest x y all more is popped before =
    ap (λ (zs : List _). zs ++ map f (reverse rest)) (more ∙ ap (λ (z : _). xs ++ z ∷ []) is)
    ∙ append_assoc xs (f x ∷ []) (map f (reverse rest))
    ∙ sym (ap (λ (zs : List _). xs ++ map f (reverse zs)) popped ∙ ap (λ (zs : List _). xs ++ map f zs) (reverse-append rest (x ∷ [])))
    ∙ before

pub all_moved : {A B : Type 0} (f : A → B) (xs : List B) (left : List A) (all : List B) → left ≡ [] → xs ++ map f (reverse left) ≡ all → xs ≡ all
all_moved f xs left all none before = sym (append_none xs) ∙ sym (ap (λ (zs : List _). xs ++ map f (reverse zs)) none) ∙ before
  where
    append_none : {B : Type 0} (zs : List B) → zs ++ [] ≡ zs
    append_none [] = refl
    append_none (z ∷ zs) = ap (λ (l : List _). z ∷ l) (append_none zs)

-- the node behind what is seen of it
record Behind {B : Type 0} (f : NodeState → B) (ns : List NodeState) (m : ℕ) (y : B) : Type 0 where
  node : NodeState
  known : slice_get ns m ≡ Some node
  is : f node ≡ y

behind : {B : Type 0} (f : NodeState → B) (ns : List NodeState) (m : ℕ) (y : B) → slice_get (map f ns) m ≡ Some y → Behind f ns m y
behind f ns m y e = at_it (slice_get ns m) refl
  where
    at_it : (o : Option NodeState) → slice_get ns m ≡ o → Behind f ns m y
    at_it None k = absurd (no (sym (get_map f ns m ∙ ap (option_map f) k) ∙ e))
      where
        no : None ≡ Some y → ⊥
        no x = cc
    at_it (Some n) k = record { node = n; known = k; is = some_is (f n) y (sym (get_map f ns m ∙ ap (option_map f) k) ∙ e) }

-- Each history leads to its manager.
node_rests : (w : NetState) (m : ℕ) (n : NodeState) → IsNodeAt w.scenario m n → IsRestedAt w.scenario m n.manager n.own n.history
node_rests w m n h = record {
  image = h.image;
  known = h.known;
  replays = subst (λ (g : Surroundings). Replays g n.history) h.given h.keeps.replays;
  triggers = subst (λ (g : Surroundings). TriggersStand None (opening_node g n.history) n.history.entries) h.given h.keeps.triggers;
  node = subst (λ (g : Surroundings). node_of n.manager.plain n.own ≡ state_of g n.history) h.given h.keeps.node;
}

-- Each frame that was popped was offered before.
pub carried_in : (w : NetState) → IsNetwork w → (k : ℕ) (l : CableLine) → slice_get w.scenario.cables k ≡ Some l → IsCarried k l (histories_in w)
carried_in w h k l at =
    let c = there w.cables k (subst (λ (n : ℕ). k < n) (sym h.joined) (slice_get_within w.scenario.cables k l at)) in
    let j : IsJoined k l (entries_at (histories_in w)) c.0 = h.ways k l c.0 at c.1 in
    record { out = j.out.carries; back = j.back.carries }

-- so of the network that its course is of
pub carried_net : (w : NetState) → IsNetwork w → AllCarried (course_in w).net
carried_net w h k l at = let x = carried_in w h k l at in record { out = x.out; back = x.back }

pub network_rests : (w : NetState) → IsNetwork w → IsRested (rest_of w.scenario w.nodes)
network_rests w h = record {
  scenario = h.scenario;
  managers = long_map manager_in w.nodes ∙ h.all;
  owns = long_map own_in w.nodes ∙ h.all;
  histories = long_map history_in w.nodes ∙ h.all;
  each = λ m v own k at_v at_own at_h.
      let a = behind manager_in w.nodes m v at_v in
      let b = behind own_in w.nodes m own at_own in
      let c = behind history_in w.nodes m k at_h in
      let same_own : b.node ≡ a.node = some_is b.node a.node (sym b.known ∙ a.known) in
      let same_history : c.node ≡ a.node = some_is c.node a.node (sym c.known ∙ a.known) in
      subst (λ (x : CoreValue). IsRestedAt w.scenario m x own k) a.is
      (subst (λ (x : Own). IsRestedAt w.scenario m a.node.manager x k) (sym (ap own_in same_own) ∙ b.is)
      (subst (λ (x : History). IsRestedAt w.scenario m a.node.manager a.node.own x) (sym (ap history_in same_history) ∙ c.is)
      (node_rests w m a.node (h.nodes m a.node a.known))));
  carried = carried_in w h;
}
