-- Laws of mq_law_keys, passed on to the crates above.
pub use Rattle.mq_law_unshared.proofs.from_law_keys.Keeping as Keeping
pub use Rattle.mq_law_unshared.proofs.from_law_keys.Starting as Starting
pub use Rattle.mq_law_unshared.proofs.from_law_keys.Telling as Telling
