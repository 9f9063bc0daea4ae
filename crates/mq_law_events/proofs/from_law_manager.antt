-- Laws of mq_law_manager, passed on to the crates above.
pub use Rattle.mq_law_manager.proofs.Named as Named
pub use Rattle.mq_law_manager.proofs.Numbered as Numbered
pub use Rattle.mq_law_manager.proofs.Restarting as Restarting
pub use Rattle.mq_law_manager.proofs.Units as Units
