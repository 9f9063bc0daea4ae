-- What a script remembers, with the room that was taken for what it is answered next.
use Rattle.std.specs.Prelude.{ℕ}
use Rattle.mq_spec_node.specs.Scripts.{Memory}

-- so many more labels can be bound
pub record Recall : Type 0 where
  pub memory : Memory
  pub room : ℕ
