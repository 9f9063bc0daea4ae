-- Definitions of mq_heads, passed on to the crates above.
pub use Rattle.mq_spec_manager.specs.from_heads.Headers as Headers
