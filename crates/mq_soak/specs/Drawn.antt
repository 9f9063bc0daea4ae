-- The numbers that a number draws, one for each put.
use Rattle.std.specs.Prelude.{ℕ, zero, suc, ◌+◌, ◌*◌, ◌/◌, ◌%◌}

-- what comes behind a number
abbrev pub next : ℕ → ℕ
next x = (1103515245 * x + 12345) % 2147483648

-- the first is the number itself
abbrev pub drawn : ℕ → ℕ → ℕ
drawn n zero = n
drawn n (suc k) = next (drawn n k)

-- of each, what decides of a put: its upper bits
abbrev pub upper : ℕ → ℕ
upper x = x / 65536
