-- Definitions of mq_turn_parts, passed on to the crates above.
pub use Rattle.mq_takes.specs.from_turn_parts.TurnVariants as TurnVariants
pub use Rattle.mq_takes.specs.from_turn_parts.Turns as Turns
pub use Rattle.mq_takes.specs.from_turn_parts.Unseen as Unseen
pub use Rattle.mq_takes.specs.from_turn_parts.Wired as Wired
pub use Rattle.mq_takes.specs.from_turn_parts.{Turn}
