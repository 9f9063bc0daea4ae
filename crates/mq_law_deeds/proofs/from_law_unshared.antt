-- Laws of mq_law_unshared, passed on to the crates above.
pub use Rattle.mq_law_unshared.proofs.Alone as Alone
pub use Rattle.mq_law_unshared.proofs.Events as Events
