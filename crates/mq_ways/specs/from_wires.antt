-- Definitions of mq_wires, passed on to the crates above.
pub use Rattle.mq_wires.specs.Wires as Wires
