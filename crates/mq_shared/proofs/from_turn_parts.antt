-- Laws of mq_turn_parts, passed on to the crates above.
pub use Rattle.mq_takes.proofs.from_turn_parts.WireLaws as WireLaws
