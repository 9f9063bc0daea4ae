-- Definitions of mq_codes, passed on to the crates above.
pub use Rattle.mq_codes.specs.Numbers as Numbers
pub use Rattle.mq_codes.specs.declared.reason.Reason.TheVariants as ReasonVariants
pub use Rattle.mq_codes.specs.declared.reason.Reason.{Reason}
