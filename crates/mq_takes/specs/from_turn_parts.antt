-- Definitions of mq_turn_parts, passed on to the crates above.
pub use Rattle.mq_turn_parts.specs.Turns as Turns
pub use Rattle.mq_turn_parts.specs.Unseen as Unseen
pub use Rattle.mq_turn_parts.specs.Wired as Wired
pub use Rattle.mq_turn_parts.specs.declared.telling.Turn.TheVariants as TurnVariants
pub use Rattle.mq_turn_parts.specs.declared.telling.Turn.{Turn}
