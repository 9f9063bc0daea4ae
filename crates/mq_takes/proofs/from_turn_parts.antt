-- Laws of mq_turn_parts, passed on to the crates above.
pub use Rattle.mq_turn_parts.proofs.WireLaws as WireLaws
