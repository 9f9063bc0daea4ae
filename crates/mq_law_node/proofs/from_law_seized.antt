-- Laws of mq_law_seized, passed on to the crates above.
pub use Rattle.mq_law_seized.proofs.Each as Each
pub use Rattle.mq_law_seized.proofs.Landing as Landing
