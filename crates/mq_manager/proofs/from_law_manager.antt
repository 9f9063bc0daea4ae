-- Laws of mq_law_manager, passed on to the crates above.
pub use Rattle.mq_law_manager.proofs.Lists as Lists
pub use Rattle.mq_law_manager.proofs.Named as Named
pub use Rattle.mq_law_manager.proofs.ShortSteps as ShortSteps
