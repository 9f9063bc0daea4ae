-- What holds of a manager between its calls.
use Rattle.std.specs.Prelude.{◌≡◌, ◌≤◌, true, List}
use Rattle.mq_base.specs.Members.{Chain}
use Rattle.mq_calls.specs.Words.{Plain, comes_before, is_up}
use Rattle.mq_calls.specs.declared.state.Batch.{Batch}
use Rattle.mq_receive.specs.from_core.Counting.{CanCount}
use Rattle.mq_law_manager.specs.Facts.{AreNamed, IsSound, IsFrozen}

-- MAXMSGL of the manager is at most what a record can hold
abbrev pub HasLimit : Plain → Type 0
HasLimit p = p.definitions.manager.max_message_length ≤ 4194304

-- batches stand in order of the channels' names, so no channel has two
abbrev pub AreByChannel : List Batch → Type 0
AreByChannel bs = Chain (λ (a b : Batch). comes_before a.channel b.channel ≡ true) bs

-- While it is up its facts hold whole; while it is down, what a stopped write has left of them.
pub record IsWell (p : Plain) : Type 0 where
  pub up : is_up p.running ≡ true → IsSound p
  pub rest : IsFrozen p
  pub limit : HasLimit p
  pub batches : AreByChannel p.channels.batches

-- It can count, since no two of its queues have one name.
abbrev pub MayCount : Plain → Type 0
MayCount p = AreNamed p.queues → CanCount p
