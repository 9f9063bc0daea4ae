-- The live connections of a manager.
use Rattle.std.specs.Prelude.{ℕ, ◌+◌, List}
use Rattle.mq_calls.specs.declared.state.Connection.{Connection}
use Rattle.mq_handles.specs.declared.users.Users.{Users}
use Rattle.mq_handles.specs.Rising.{AreRising, AreBelow, connection_number}
use Rattle.mq_handles.specs.Users.{AreCounted}

-- the live connections in order, and the last number given
pub record Desk : Type 0 where
  pub live : List Connection
  pub last : ℕ

-- numbers rise up to the last one given; who uses a queue is counted
pub record IsDesk (live : List Connection) (last : ℕ) (users : Users) : Type 0 where
  pub rising : AreRising connection_number live
  pub below : AreBelow connection_number (last + 1) live
  pub counted : AreCounted users live
