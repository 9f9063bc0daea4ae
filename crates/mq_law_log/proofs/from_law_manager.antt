-- Laws of mq_law_manager, passed on to the crates above.
pub use Rattle.mq_law_manager.proofs.Batches as Batches
pub use Rattle.mq_law_manager.proofs.Beginning as Beginning
pub use Rattle.mq_law_manager.proofs.Forcing as Forcing
pub use Rattle.mq_law_manager.proofs.Lists as Lists
pub use Rattle.mq_law_manager.proofs.Named as Named
pub use Rattle.mq_law_manager.proofs.Objects as Objects
pub use Rattle.mq_law_manager.proofs.Routes as Routes
pub use Rattle.mq_law_manager.proofs.ShortSteps as ShortSteps
pub use Rattle.mq_law_manager.proofs.Untouched as Untouched
