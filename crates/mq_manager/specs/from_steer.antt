-- Definitions of mq_steer, passed on to the crates above.
pub use Rattle.mq_steer.specs.Due as Due
