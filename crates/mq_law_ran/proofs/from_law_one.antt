-- Laws of mq_law_one, passed on to the crates above.
pub use Rattle.mq_law_run.proofs.from_law_one.Running as Running
