-- Definitions of mq_spec_node, passed on to the crates above.
pub use Rattle.mq_spec_node.specs.Calls as Calls
pub use Rattle.mq_spec_node.specs.Doers as Doers
pub use Rattle.mq_spec_node.specs.Lines as Lines
pub use Rattle.mq_spec_node.specs.Monitors as Monitors
pub use Rattle.mq_spec_node.specs.Node as Node
pub use Rattle.mq_spec_node.specs.Replays as Replays
pub use Rattle.mq_spec_node.specs.Scripts as Scripts
pub use Rattle.mq_spec_node.specs.Terms as Terms
pub use Rattle.mq_spec_node.specs.Words as Words
