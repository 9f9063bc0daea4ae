-- Definitions of mq_receiver, passed on to the crates above.
pub use Rattle.mq_receiver.specs.States as States
