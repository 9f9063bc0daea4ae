-- Definitions of mq_soak, passed on to the crates above.
pub use Rattle.mq_soak.specs.Soak as Soak
