-- What a prefix tells of one channel's settlements and commits.
use Rattle.std.specs.Prelude.{ℕ, ◌≡◌, true, false, List}
use Rattle.mq_sync.specs.declared.unit.Unit.{Unit as Luw}
use Rattle.mq_sync.specs.Units.{no_unit, same_unit}
use Rattle.mq_calls.specs.declared.agents.Note.TheVariants as notes
use Rattle.mq_calls.specs.declared.deltas.Did.TheVariants as did
use Rattle.mq_receiver.specs.declared.turns.ReceiverDoes.{ReceiverDoes}
use Rattle.mq_receiver.specs.declared.turns.ReceiverDoes.TheVariants as takes
use Rattle.mq_receiver.specs.declared.turns.ReceiverOut.{ReceiverOut}
use Rattle.mq_receiver.specs.declared.turns.ReceiverOut.TheVariants as ends
use Rattle.mq_history.specs.declared.scenario.Scenario.{Scenario}
use Rattle.mq_calls.specs.State.{Plain}
use Rattle.mq_spec_network.specs.Conflict.{Deed, is_committed}
use Rattle.mq_spec_network.specs.Story.{Mem}
use Rattle.mq_law_channel.specs.Channel.{Channel, Past}

-- a unit that an operator has backed out is told, and so is the receiver's last one, unless it was at the first starts
pub record IsToldOf (s : Scenario) (ps : List Plain) (ds : List Deed) (m : ℕ) (c : List ℕ) (x : Channel) (y : Past) : Type 0 where
  pub undone : (u : Luw) → y.near.undone u ≡ true → Mem (record { manager = m; did = did.Hardened c (notes.Resolved u false true) }) ds
  pub last : same_unit x.receives.unit no_unit ≡ false → is_committed s ps ds c x.receives.unit ≡ true

-- a unit that a receiver commits is told
abbrev pub TellsCommit : ReceiverOut → ReceiverDoes → List ℕ → List Deed → Type 0
TellsCommit ends.Done (takes.Place u) c ds = (t : ℕ) × Mem (record { manager = t; did = did.Received c u }) ds
TellsCommit _ _ c ds = Unit {0}
