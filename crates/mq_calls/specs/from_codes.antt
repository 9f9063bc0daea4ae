-- Definitions of mq_codes, passed on to the crates above.
pub use Rattle.mq_resolve.specs.from_codes.Numbers as Numbers
pub use Rattle.mq_resolve.specs.from_codes.ReasonVariants as ReasonVariants
