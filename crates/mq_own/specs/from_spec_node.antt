-- Definitions of mq_spec_node, passed on to the crates above.
pub use Rattle.mq_spec_node.specs.Node as Node
