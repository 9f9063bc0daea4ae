-- Counters of a manager, of which none comes near the end of its 64 bits: what its calls rest on.
use Rattle.std.specs.Prelude.{ℕ, ◌+◌, ◌^◌, ◌≤◌}
use Rattle.std.specs.List.{AllByRecursion}
use Rattle.mq_calls.specs.State.{Plain, Queue, Connection, Running}
use Rattle.mq_calls.specs.State.Running.{Up, Down}
use Rattle.mq_calls.specs.Reads.{puts_to, reserved}

-- restarts of a manager that is down whose Started write was stopped
abbrev pub starts_of : Running → ℕ
starts_of Up = 0
starts_of (Down noted starts) = starts

-- an uncommitted put of a queue may arrive, and bring a trigger
pub record IsCounted (most : ℕ) (p : Plain) (q : Queue) : Type 0 where
  pub arrivals : q.arrivals + puts_to q.name p.connections ≤ most
  pub due : q.due + puts_to q.name p.connections ≤ most

-- every counter is at most so high
pub record AreAtMost (most : ℕ) (p : Plain) : Type 0 where
  pub incarnation : p.numbers.incarnation + starts_of p.running ≤ most
  pub idents : p.numbers.idents ≤ most
  pub connections : p.numbers.connections ≤ most
  pub handles : AllByRecursion (λ (c : Connection). c.last_handle ≤ most) p.connections
  pub queues : AllByRecursion (IsCounted most p) p.queues
  pub log : p.log.length + reserved p ≤ most

-- there is room for many events more
abbrev pub AreLow : Plain → Type 0
AreLow p = AreAtMost (2 ^ 63) p
