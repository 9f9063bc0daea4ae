-- Definitions of mq_recover, passed on to the crates above.
pub use Rattle.mq_recover.specs.Found as Found
pub use Rattle.mq_recover.specs.declared.recovery.RecoverFault.TheVariants as RecoverFaultVariants
pub use Rattle.mq_recover.specs.declared.recovery.RecoverFault.{RecoverFault}
