-- What a call must still be able to count.
use Rattle.std.specs.Prelude.{ℕ, ◌^◌, ◌≤◌}
use Rattle.std.specs.List.{AllByRecursion}
use Rattle.mq_calls.specs.Words.{Plain, IsCounted}
use Rattle.mq_calls.specs.declared.state.Connection.{Connection}

-- idents, connections, handles, arrivals and triggers: none is near the end of its 64 bits, so there is room for many events more
pub record CanCount (p : Plain) : Type 0 where
  pub idents : p.numbers.idents ≤ 2 ^ 63
  pub connections : p.numbers.connections ≤ 2 ^ 63
  pub handles : AllByRecursion (λ (c : Connection). c.last_handle ≤ 2 ^ 63) p.connections
  pub queues : AllByRecursion (IsCounted (2 ^ 63) p) p.queues
