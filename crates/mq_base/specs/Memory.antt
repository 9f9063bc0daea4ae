-- What the source and the sink in memory do: their bytes, the calls that fail, the counts.
use Rattle.std.specs.Prelude.{ℕ, ◌-◌, min, Bool, ◌||◌, nat_lt, ◌==◌, if◌then◌else◌, List, ◌++◌, length, take, drop, Result, Ok, Err}
use Rattle.std.specs.List.{list_any}
use Rattle.mq_base.specs.declared.outside.Failed.{Failed}
use Rattle.mq_base.specs.Outside.{raised}

-- the bytes that are left, the numbers of the calls that fail, the number of the call to come, the count of faults
pub record SourceState : Type 0 where
  pub left : List ℕ
  pub failing : List ℕ
  pub calls : ℕ
  pub faults : ℕ

-- whether the list names that call
abbrev pub is_failing : List ℕ → ℕ → Bool
is_failing failing call = list_any (λ n. n == call) failing

-- the first bytes that are left, as many as fit a buffer
abbrev pub given : ℕ → SourceState → List ℕ
given room s = take (min (length s.left) room) s.left

-- how many bytes a read gives, into a buffer of that length
abbrev pub read_answer : ℕ → SourceState → Result ℕ Failed
read_answer room s = if is_failing s.failing s.calls then Err (record {}) else Ok (min (length s.left) room)

-- the source after it
abbrev pub after_read : ℕ → SourceState → SourceState
after_read room s = if is_failing s.failing s.calls then record s { calls = raised s.calls; faults = raised s.faults } else record s { left = drop (min (length s.left) room) s.left; calls = raised s.calls }

-- the bytes that were taken, how many there is room for in all, the numbers of the calls that fail, the number of the call to come, the count of faults
pub record SinkState : Type 0 where
  pub held : List ℕ
  pub room : ℕ
  pub failing : List ℕ
  pub calls : ℕ
  pub faults : ℕ

-- whether a piece is refused: the call is one of those that fail, or the piece passes the room
abbrev pub is_refused : List ℕ → SinkState → Bool
is_refused piece s = is_failing s.failing s.calls || nat_lt (s.room - length s.held) (length piece)

-- how many bytes a write takes: the piece, or none
abbrev pub write_answer : List ℕ → SinkState → Result ℕ Failed
write_answer piece s = if is_refused piece s then Err (record {}) else Ok (length piece)

-- the sink after it
abbrev pub after_write : List ℕ → SinkState → SinkState
after_write piece s = if is_refused piece s then record s { calls = raised s.calls; faults = raised s.faults } else record s { held = s.held ++ piece; calls = raised s.calls }
