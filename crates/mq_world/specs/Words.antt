-- What is said of a network before it starts and once it rests.
pub use Rattle.mq_world_begin.specs.Rested.{Began, IsRested, IsRestedAt, OpensWith, RestState}
pub use Rattle.mq_watch.specs.from_events.Texts.{IsTextCommand}
pub use Rattle.mq_shared.specs.from_acts.Advances.{IsTextLine, Keeps}
pub use Rattle.mq_shared.specs.from_acts.Restarts.{StaysOwn}
pub use Rattle.mq_cable.specs.Lists.{AllLow}
pub use Rattle.mq_watch.specs.from_events.Events.{MayAct}
pub use Rattle.mq_watch.specs.from_events.States.{IsKept, IsServed, last_entry, marked}
pub use Rattle.mq_watch.specs.from_events.Texts.{IsTextAct}
pub use Rattle.mq_history.specs.Scenarios.{ArePhased}
pub use Rattle.mq_nodes.specs.Carried.{AllCarried}
pub use Rattle.mq_nodes.specs.Course.{Ready, Rests, noted}
pub use Rattle.mq_nodes.specs.Pumps.{AllStill, TurnIn}
pub use Rattle.mq_nodes.specs.Texts.{AllFit}
pub use Rattle.mq_nodes.specs.Told.{Does, HandlerTold, LineTold, NeverWants, Part, PhaseTold, Says, TurnTold, later}
pub use Rattle.mq_spec_network.specs.Lawful.{AreOwn, handles_idle}
pub use Rattle.mq_spec_network.specs.Steps.{Is, is_cut, is_watching}
pub use Rattle.mq_spec_network.specs.Tasks.{moment_of, watch_by}
pub use Rattle.mq_spec_network.specs.Tasks.Slot.{Receives, Sends, TimesOut}
pub use Rattle.mq_spec_network.specs.Turns.{cable_idle, is_idle, is_up_at, node_at}
pub use Rattle.mq_spec_node.specs.Words.{is_opened, node_of, opening_node, script_appl, shared}
pub use Rattle.mq_watch.specs.Turns.{connection_of}
pub use Rattle.mq_ways.specs.Ways.{AreNew}
pub use Rattle.mq_world.specs.Ends.{EndOn, SideTurn, TimeoutOn, far_sides, near_sides}
pub use Rattle.mq_world.specs.Lines.{LineOn}
pub use Rattle.mq_watch.specs.from_events.Disks.{HasRisen}
pub use Rattle.mq_world.specs.Resting.{AreRisen, IsRisen, counts_in, manager_in, own_in, rest_of}
pub use Rattle.mq_world.specs.Settling.{IsOf, NodeDoes, NodeSays, Settles, cut_or, ended}
pub use Rattle.mq_world.specs.Starting.{IsFresh, IsRoom, Starts, StartsAt, around, begun_script, begun_state, own_begun}
pub use Rattle.mq_world.specs.Turning.{HandlerOn, MonitorOn}
pub use Rattle.mq_world.specs.Worlds.{IsNetwork, NetState, StaysOwnIn, course_in, histories_in, history_in}
pub use Rattle.mq_world_begin.specs.Rested.{as_given}
