-- Definitions of mq_events, passed on to the crates above.
pub use Rattle.mq_events.specs.Events as Events
pub use Rattle.mq_events.specs.States as States
pub use Rattle.mq_events.specs.contracts.node.Node as Node
pub use Rattle.mq_events.specs.contracts.node.Node.TheInside as NodeInside
pub use Rattle.mq_events.specs.contracts.state.NodeParts as NodeParts
pub use Rattle.mq_events.specs.contracts.state.NodeParts.TheInside as NodePartsInside
