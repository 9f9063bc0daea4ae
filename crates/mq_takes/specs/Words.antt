-- Words that the clauses of this crate name.
pub use Rattle.mq_cable.specs.Offers.{Offering}
pub use Rattle.mq_cabled.specs.Lifted.{with_lifted}
pub use Rattle.mq_core.specs.Values.{CoreValue, WritesLog, manager_of}
pub use Rattle.mq_core.specs.Views.{plain_of}
pub use Rattle.mq_turn_parts.specs.from_events.Counts.{IsNode}
pub use Rattle.mq_turn_parts.specs.from_events.Events.{MayAct}
pub use Rattle.mq_turn_parts.specs.from_events.States.{IsKept, IsLow, IsServed, NodeState}
pub use Rattle.mq_turn_parts.specs.from_manager.Facts.{MayCount}
pub use Rattle.mq_turn_parts.specs.from_receive.Standings.{standing_as}
pub use Rattle.mq_receiver.specs.After.{last_by}
pub use Rattle.mq_receiver.specs.Table.{receiver_next}
pub use Rattle.mq_spec_manager.specs.Agents.{CanHarden, CanReceive, IsReceiverHere, IsUp, harden, is_present, receive, set_bound, standing_at}
pub use Rattle.mq_spec_node.specs.Node.{receiver_end}
pub use Rattle.mq_spec_node.specs.Terms.{Part, Refuse, Step}
pub use Rattle.mq_spec_node.specs.Words.{bind_parts, close_parts, is_receiver_defined, kept_kind, kept_seen, parts_of}
pub use Rattle.mq_calls.specs.Words.{MeetsOrWants, is_up, receiver_data}
pub use Rattle.mq_sync.specs.Settlement.{receiver_or}
pub use Rattle.mq_sync.specs.Units.{Below}
pub use Rattle.mq_takes.specs.Placing.{CommitAs, ReceivedAs}
pub use Rattle.mq_takes.specs.Taken.{TakesAll, has_ident_of, is_among, is_out, taken_behind}
pub use Rattle.mq_takes.specs.Takes.{IsItemLine, IsQuietLine, Leaves, MayTakeTurn, ReceivesTurn, Works, bound_if, emptied, end_after, kept_after, paid, whole}
pub use Rattle.mq_takes.specs.OverWire.{TakesOneOver, TakesOver}
pub use Rattle.mq_turn_parts.specs.OverWire.{HasSeen}
pub use Rattle.mq_turn_parts.specs.Turns.{IsAsWas, IsBehind, MadeOr}
pub use Rattle.mq_turn_parts.specs.Unseen.{EndTurn}
