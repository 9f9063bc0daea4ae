-- Marks, and with what a node begins.
use Rattle.std.proofs.Common.{◌≡◌, sym, ap, subst, ◌∙◌, List, [], Bool}
use Rattle.std.specs.Prelude.{None}
use Rattle.mq_spec_node.specs.Terms.{Entry}
use Rattle.mq_spec_node.specs.Words.{Node, opening_node, Follows, TriggersStand, after, stamp_after}
use Rattle.mq_events.specs.States.{NodeState, node_in, IsKept, marked}

-- the end of a step leaves what the history says
pub mark_kept : (idle : Bool) (s : NodeState) → IsKept s → IsKept (marked idle s)
mark_kept idle s k = record {
  replays = record { number = k.replays.number; name = k.replays.name; follows = k.replays.follows };
  triggers = k.triggers;
  node = k.node;
  stamp = k.stamp;
}

-- a node without entries, which is as its history opens
pub begun_kept : (s : NodeState) → s.history.entries ≡ [] → s.stamp ≡ 0 → s.history.number ≡ s.given.given.number → s.history.name ≡ s.given.given.name → node_in s ≡ opening_node s.given s.history
    → IsKept s
begun_kept s none stamp number name is =
    let n : Node = opening_node s.given s.history in
    let F : List Entry → Type 0 = λ es. Follows n 0 es in
    let T : List Entry → Type 0 = λ es. TriggersStand None n es in
    record {
      replays = record { number = number; name = name; follows = subst F (sym none) tt };
      triggers = subst T (sym none) tt;
      node = is ∙ ap (after n) (sym none);
      stamp = stamp ∙ ap (stamp_after 0) (sym none);
    }
