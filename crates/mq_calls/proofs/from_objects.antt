-- Laws of mq_objects, passed on to the crates above.
pub use Rattle.mq_resolve.proofs.from_objects.WrittenLemmas as WrittenLemmas
