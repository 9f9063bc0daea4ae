-- Laws of mq_core, passed on to the crates above.
pub use Rattle.mq_core.proofs.ForceLaws as ForceLaws
