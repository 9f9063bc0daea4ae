-- Sequence numbers of a channel.
use Rattle.std.specs.Prelude.{ℕ, ◌+◌, nat_lt, if◌then◌else◌}

-- the number after the last one: from 1 to the greatest, then 1 again
abbrev pub number_after : (wrap : ℕ) → ℕ → ℕ
number_after wrap last = if nat_lt last wrap then last + 1 else 1
