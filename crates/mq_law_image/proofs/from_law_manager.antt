-- Laws of mq_law_manager, passed on to the crates above.
pub use Rattle.mq_law_log.proofs.from_law_manager.Beginning as Beginning
pub use Rattle.mq_law_log.proofs.from_law_manager.Lists as Lists
pub use Rattle.mq_law_log.proofs.from_law_manager.Named as Named
pub use Rattle.mq_law_log.proofs.from_law_manager.Untouched as Untouched
