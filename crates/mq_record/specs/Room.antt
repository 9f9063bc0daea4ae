-- A buffer: what was written, and for how many bytes there is room behind it.
use Rattle.std.specs.Prelude.{ℕ, ◌-◌, List, ◌++◌, length}

pub record Buffered : Type 0 where
  pub bytes : List ℕ
  pub room : ℕ

-- with a piece more
abbrev pub with_piece : List ℕ → Buffered → Buffered
with_piece piece b = record { bytes = b.bytes ++ piece; room = b.room - length piece }
