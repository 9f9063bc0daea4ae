-- What the definitions of a manager hold, and for how many more objects they have memory.
use Rattle.std.specs.Prelude.{ℕ}
use Rattle.mq_objects.specs.declared.object.Definitions.{Definitions}

-- the definitions, and the room
pub record Held : Type 0 where
  pub definitions : Definitions
  pub room : ℕ
