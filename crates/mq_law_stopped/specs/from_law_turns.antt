-- Definitions of mq_law_turns, passed on to the crates above.
pub use Rattle.mq_law_turns.specs.Agreed as Agreed
pub use Rattle.mq_law_turns.specs.Turns as Turns
