-- Definitions of mq_place, passed on to the crates above.
pub use Rattle.mq_place.specs.States as States
