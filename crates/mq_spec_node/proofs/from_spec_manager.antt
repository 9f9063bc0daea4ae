-- Laws of mq_spec_manager, passed on to the crates above.
pub use Rattle.mq_spec_manager.proofs.Script as Script
