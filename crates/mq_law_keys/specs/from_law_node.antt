-- Definitions of mq_law_node, passed on to the crates above.
pub use Rattle.mq_law_node.specs.Deeds as Deeds
pub use Rattle.mq_law_node.specs.Quiet as Quiet
