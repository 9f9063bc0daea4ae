-- A manager that has just begun, and what its first start read.
use Rattle.std.specs.Prelude.{◌≡◌, ◌-◌, ℕ, List}
use Rattle.mq_calls.specs.State.{Given}
use Rattle.mq_calls.specs.declared.image.Image.{Image}
use Rattle.mq_log.specs.State.{log_length}
use Rattle.mq_restart.specs.from_core.Values.{CoreValue}
use Rattle.mq_restart.specs.Begun.{HasBegun}

-- of these bytes, with this given
pub record JustBegun (tells : Type 0) (core : CoreValue) : Type 0 where
  pub seen : List ℕ
  pub before : ℕ
  pub given : Given
  pub moment : ℕ
  pub has : HasBegun tells seen before given moment core

-- without its own Started record
abbrev pub before_start : Image → Image
before_start i = record i { incarnation = i.incarnation - 1 }

-- The image and the length that each such account of it gives.
abbrev pub IsOpening : Type 0 → CoreValue → Image → Type 0
IsOpening tells core i = (b : JustBegun tells core) → i ≡ b.has.told

abbrev pub IsOpenLength : Type 0 → CoreValue → ℕ → Type 0
IsOpenLength tells core n = (b : JustBegun tells core) → n ≡ log_length b.has.bodies
