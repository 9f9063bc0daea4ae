-- Counters of a manager, and how far each change, part, call and restart can raise them.
use Rattle.std.specs.Prelude.{ℕ, ◌+◌, ◌*◌, ◌≤◌, Bool, true, false, List, [], ◌∷◌, length, Option, Some, None}
use Rattle.std.specs.List.{AllByRecursion}
use Rattle.mq_calls.specs.declared.records.LogRecord.{LogRecord}
use Rattle.mq_calls.specs.declared.records.LogRecord.TheVariants as records
use Rattle.mq_calls.specs.State.{Plain, Change, Noted}
use Rattle.mq_calls.specs.declared.state.Connection.{Connection}
use Rattle.mq_calls.specs.declared.state.SenderSide.{SenderSide}
use Rattle.mq_calls.specs.State.Change.{Place as Places, Try, Connect, OpenHandle, Pend, CountIdent}
use Rattle.mq_calls.specs.Reads.{stored, puts_to, reserved, unit_need, item_bytes}
use Rattle.mq_calls.specs.Counts.{starts_of}
use Rattle.mq_calls.specs.Sizes.{need}
use Rattle.mq_calls.specs.Steps.{Part, Step}
use Rattle.mq_calls.specs.Steps.Step.{Refuse, Do}
use Rattle.mq_law_log.specs.from_spec_manager.Stops.{started_need}
use Rattle.mq_law_log.specs.from_law_manager.Facts.{Mem}

-- Each counter is at most so high, those of a queue by its name: an uncommitted put of it may arrive, and bring a trigger.
pub record IsBounded (most : ℕ) (p : Plain) : Type 0 where
  pub incarnation : p.numbers.incarnation + starts_of p.running ≤ most
  pub idents : p.numbers.idents ≤ most
  pub connections : p.numbers.connections ≤ most
  pub handles : AllByRecursion (λ (c : Connection). c.last_handle ≤ most) p.connections
  pub arrivals : (name : List ℕ) → (stored name p).arrivals + puts_to name p.connections ≤ most
  pub due : (name : List ℕ) → (stored name p).due + puts_to name p.connections ≤ most
  pub log : p.log.length + reserved p ≤ most

-- by how much a change can raise a counter, at most
abbrev pub growth : Change → ℕ
growth (Places name m) = 1
growth (Try name priority) = 1
growth (Connect c) = 1 + c.last_handle + length c.unit + unit_need c.unit
growth (OpenHandle number h) = 1
growth (Pend number item) = 15 + item_bytes item
growth CountIdent = 1
growth _ = 0

abbrev pub all_growth : List Change → ℕ
all_growth [] = 0
all_growth (c ∷ cs) = growth c + all_growth cs

-- what a record takes of the log
abbrev pub need_of : Option LogRecord → ℕ
need_of None = 0
need_of (Some r) = need r

abbrev pub part_growth : Part → ℕ
part_growth part = need_of part.forced + all_growth part.changes

abbrev pub parts_growth : List Part → ℕ
parts_growth [] = 0
parts_growth (part ∷ parts) = part_growth part + parts_growth parts

abbrev pub step_growth : {F T : Type 0} → Step F T → ℕ
step_growth (Refuse reason) = 0
step_growth (Do reply parts) = parts_growth parts

-- a restart: the stopped write, where it is kept, and as many Started records as were stopped, and its own
abbrev pub noted_growth : Bool → Option Noted → ℕ
noted_growth true (Some n) = need n.written + all_growth n.changes
noted_growth true None = 0
noted_growth false noted = 0

abbrev pub restart_growth : Bool → ℕ → Option Noted → Plain → ℕ
restart_growth kept started noted p = noted_growth kept noted + (started + 1) * started_need p.given + 1

-- no queue has more rows than have arrived
abbrev pub HaveArrived : Plain → Type 0
HaveArrived p = (name : List ℕ) → length (stored name p).rows ≤ (stored name p).arrivals

-- ---- sessions of senders

abbrev pub AreSessionsAtMost : ℕ → List SenderSide → Type 0
AreSessionsAtMost most sides = (s : SenderSide) → Mem s sides → s.hardened.session ≤ most

-- the session that a forced record begins, or none
abbrev pub new_session : LogRecord → ℕ
new_session (records.Session channel partner session) = session
new_session _ = 0

abbrev pub session_of : Option LogRecord → ℕ
session_of None = 0
session_of (Some r) = new_session r
