-- Laws of mq_law_node, passed on to the crates above.
pub use Rattle.mq_law_keys.proofs.from_law_node.Deeds as Deeds
pub use Rattle.mq_law_keys.proofs.from_law_node.Ordinary as Ordinary
