-- What a manager's log tells of it between its calls, and what restarts have read of it.
use Rattle.std.specs.Prelude.{◌≡◌, ℕ, ◌+◌, ◌<◌, ◌^◌, Bool, true, false, nat_lt, length, Option, Some, None}
use Rattle.mq_log.specs.declared.images.Found.{Found}
use Rattle.mq_log.specs.declared.images.Found.TheVariants.{Before, After, Other}
use Rattle.mq_log.specs.State.{log_length}
use Rattle.mq_calls.specs.State.{Plain, Running}
use Rattle.mq_calls.specs.State.Running.{Up, Down}
use Rattle.mq_spec_log.specs.Applies.Start.{Later}
use Rattle.mq_law_image.specs.Tells.{Tells}
use Rattle.mq_redo.specs.from_core.Values.{LogBodies}
use Rattle.mq_restart.specs.Tells.{LogStood}
use Rattle.mq_restart.specs.declared.reading.LogRead.{LogRead}
use Rattle.mq_restart.specs.declared.reading.LogRead.TheVariants.{Unread, Known, Foreign}

-- What is known behind one more restart that read the log: the first one says whether it holds the stopped write, and the later ones
-- say the same; once it was read as none that the history allows, nothing is known.
abbrev pub read_found : LogRead → Found → LogRead
read_found Unread Before = Known false
read_found Unread After = Known true
read_found Unread Other = Foreign
read_found (Known kept) Before = Known kept
read_found (Known kept) After = Known kept
read_found (Known kept) Other = Foreign
read_found Foreign found = Foreign

-- behind one that was refused, which read it or not
abbrev pub read_fallen : Option Found → LogRead → LogRead
read_fallen None read = read
read_fallen (Some found) read = read_found read found

-- Behind one that came up, in this incarnation: its log is its own, where its Started record is within the bounds of numbers.
abbrev pub unread_if : Bool → LogRead
unread_if true = Unread
unread_if false = Foreign

abbrev pub read_up : ℕ → LogRead → LogRead
read_up incarnation Unread = Unread
read_up incarnation (Known kept) = Unread
read_up incarnation Foreign = unread_if (nat_lt incarnation 2305843009213693952)

abbrev pub is_kept : LogRead → Bool
is_kept Unread = false
is_kept (Known kept) = kept
is_kept Foreign = false

-- While it is up, its log tells what lasts of it.
pub record StandsUp (log : LogBodies) (p : Plain) : Type 0 where
  pub settled : log.pending ≡ None
  pub some : 0 < length log.bodies
  pub tells : Tells Later log.bodies p
  pub long : p.log.length ≡ log_length log.bodies

-- While it is down, what lasts with the stopped write or without it (LogStood of Tells). Where a log was read that its history
-- doesn't allow, nothing is said; no disk that tells its bytes gives one.
abbrev pub LogStandsAt : Type 0 → LogRead → Running → LogBodies → Plain → Type 0
LogStandsAt tells Unread Up log p = StandsUp log p
LogStandsAt tells (Known kept) Up log p = ⊥
LogStandsAt tells Foreign Up log p = tells → ⊥
LogStandsAt tells Unread (Down noted starts) log p = LogStood None noted starts log.bodies log.pending p
LogStandsAt tells (Known kept) (Down noted starts) log p = LogStood (Some (record { kept = kept; length = p.log.length })) noted starts log.bodies log.pending p
LogStandsAt tells Foreign (Down noted starts) log p = tells → ⊥

abbrev pub LogStands : Type 0 → LogRead → LogBodies → Plain → Type 0
LogStands tells read log p = LogStandsAt tells read p.running log p

-- its next Started record is within the bounds of numbers, however many restarts were stopped
abbrev pub CanStartAt : Running → Plain → Type 0
CanStartAt Up p = Unit {0}
CanStartAt (Down noted starts) p = p.numbers.incarnation + starts + 1 < 2 ^ 61

abbrev pub CanStart : Plain → Type 0
CanStart p = CanStartAt p.running p
