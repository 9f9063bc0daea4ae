-- One entry more, of any event: the history with it leads to the node behind the event.
use Rattle.std.proofs.Common.{◌≡◌, sym, ap, subst, ◌∙◌}
use Rattle.mq_spec_node.specs.Terms.{Entry}
use Rattle.mq_spec_node.specs.Words.{Node, done_by, IsReplayed, Tells}
use Rattle.mq_events.specs.States.{NodeState, IsKept, IsServed, node_in, value_of}
use Rattle.mq_events.proofs.EventLaws.{served_is}
use Rattle.mq_events.proofs.ReplayLaws.{replayed_more, with_more}

pub entry_kept : (s t : NodeState) (e : Entry) → IsKept s → IsServed s → Tells (node_in s) s.stamp e → value_of t ≡ record (with_more e (value_of s)) { node = node_in t } → node_in t ≡ (done_by e (node_in s)).next → IsKept t
entry_kept s t e k served tells is next =
    let all : value_of t ≡ with_more e (value_of s) = is ∙ ap (λ (n : Node). record (with_more e (value_of s)) { node = n }) next in
    subst IsReplayed (sym all) (replayed_more (value_of s) e k tells (served_is s e served))
