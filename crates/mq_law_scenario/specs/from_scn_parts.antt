-- Definitions of mq_scn_parts, passed on to the crates above.
pub use Rattle.mq_scn_parts.specs.Steps as Steps
