-- Definitions of mq_law_channel, passed on to the crates above.
pub use Rattle.mq_law_channel.specs.Channel as Channel
pub use Rattle.mq_law_channel.specs.Turns as Turns
