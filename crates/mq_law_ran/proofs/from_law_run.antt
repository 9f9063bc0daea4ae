-- Laws of mq_law_run, passed on to the crates above.
pub use Rattle.mq_law_run.proofs.Acting as Acting
pub use Rattle.mq_law_run.proofs.Beginning as Beginning
pub use Rattle.mq_law_run.proofs.Cabling as Cabling
pub use Rattle.mq_law_run.proofs.Lining as Lining
pub use Rattle.mq_law_run.proofs.Standing as Standing
pub use Rattle.mq_law_run.proofs.Whole as Whole
