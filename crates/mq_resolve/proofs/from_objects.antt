-- Laws of mq_objects, passed on to the crates above.
pub use Rattle.mq_objects.proofs.WrittenLemmas as WrittenLemmas
