-- Laws of mq_base, passed on to the crates above.
pub use Rattle.mq_base.proofs.Fields as Fields
pub use Rattle.mq_base.proofs.Numbers as Numbers
