-- Definitions of mq_calls, passed on to the crates above.
pub use Rattle.mq_calls.specs.Words as Words
pub use Rattle.mq_calls.specs.declared.state.Connection.{Connection}
pub use Rattle.mq_calls.specs.declared.state.Seizure.{Seizure}
