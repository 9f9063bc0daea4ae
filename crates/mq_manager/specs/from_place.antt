-- Definitions of mq_place, passed on to the crates above.
pub use Rattle.mq_steer.specs.from_place.States as States
