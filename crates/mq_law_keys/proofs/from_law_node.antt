-- Laws of mq_law_node, passed on to the crates above.
pub use Rattle.mq_law_node.proofs.Deeds as Deeds
pub use Rattle.mq_law_node.proofs.Named as Named
pub use Rattle.mq_law_node.proofs.Ordinary as Ordinary
pub use Rattle.mq_law_node.proofs.Quiet as Quiet
