-- Laws of mq_law_keys, passed on to the crates above.
pub use Rattle.mq_law_keys.proofs.Keeping as Keeping
pub use Rattle.mq_law_keys.proofs.Starting as Starting
pub use Rattle.mq_law_keys.proofs.Telling as Telling
