-- What a call did, and for how much more of it there is room.
use Rattle.std.specs.Prelude.{ℕ, ◌-◌, List, [], ◌∷◌, ◌++◌, length}
use Rattle.mq_record.specs.from_calls.{Did}

pub record Telling : Type 0 where
  pub dids : List Did
  pub room : ℕ

-- one thing more is told
abbrev pub told : Did → Telling → Telling
told did t = record { dids = t.dids ++ did ∷ []; room = t.room - 1 }

-- many more
abbrev pub told_all : List Did → Telling → Telling
told_all dids t = record { dids = t.dids ++ dids; room = t.room - length dids }
