-- Room that is kept with what ends of channels have.
use Rattle.std.specs.Prelude.{ℕ, ◌+◌, Bool, true, false, length, Option, Some, None}
use Rattle.mq_unit.specs.from_calls.Words.{InDoubt}

-- how much is told of a unit in doubt that is settled, at most: each of its rows, and the settlement
abbrev pub told_need : Option InDoubt → ℕ
told_need None = 0
told_need (Some d) = length d.idents + 1

-- and of a session that is closed: that
abbrev pub closed_need : (closed : Bool) → ℕ
closed_need true = 0
closed_need false = 1
