-- Laws of mq_law_rows, passed on to the crates above.
pub use Rattle.mq_law_rows.proofs.Batches as Batches
pub use Rattle.mq_law_rows.proofs.Closing as Closing
pub use Rattle.mq_law_rows.proofs.Holding as Holding
pub use Rattle.mq_law_rows.proofs.Lasting as Lasting
pub use Rattle.mq_law_rows.proofs.Lists as Lists
pub use Rattle.mq_law_rows.proofs.Ordering as Ordering
pub use Rattle.mq_law_rows.proofs.Owners as Owners
pub use Rattle.mq_law_rows.proofs.Placing as Placing
pub use Rattle.mq_law_rows.proofs.Receiving as Receiving
pub use Rattle.mq_law_rows.proofs.Settling as Settling
pub use Rattle.mq_law_rows.proofs.Telling as Telling
pub use Rattle.mq_law_rows.proofs.Units as Units
pub use Rattle.mq_law_rows.proofs.Young as Young
