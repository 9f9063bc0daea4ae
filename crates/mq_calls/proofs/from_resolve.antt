-- Laws of mq_resolve, passed on to the crates above.
pub use Rattle.mq_resolve.proofs.Laws as Laws
