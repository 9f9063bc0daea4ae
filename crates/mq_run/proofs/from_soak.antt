-- Laws of mq_soak, passed on to the crates above.
pub use Rattle.mq_soak.proofs.Soaks as Soaks
