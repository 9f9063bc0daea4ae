-- What a prefix tells of the settlements of operators.
use Rattle.std.specs.Prelude.{ℕ, ◌≡◌, true, false, List}
use Rattle.mq_sync.specs.declared.unit.Unit.{Unit as Luw}
use Rattle.mq_calls.specs.declared.agents.Note.TheVariants as notes
use Rattle.mq_calls.specs.declared.deltas.Did.TheVariants as did
use Rattle.mq_history.specs.declared.history.History.{History}
use Rattle.mq_history.specs.declared.scenario.Scenario.{Scenario}
use Rattle.mq_spec_network.specs.Story.{Line, Mem}
use Rattle.mq_spec_network.specs.Standing.{opening_managers}
use Rattle.mq_spec_network.specs.Conflict.{deeds, is_committed}
use Rattle.mq_law_seen.specs.from_law_rows.World.{Ghost}

-- What the proof follows of a RESOLVE COMMIT is told in the prefix, and ends with its receiver's commit: so none is open
-- where there is no conflict.
pub record IsTold (s : Scenario) (hs : List History) (p : List Line) (g : Ghost) : Type 0 where
  pub resolved : (m : ℕ) (c : List ℕ) (u : Luw) → g.operated m c u ≡ true → Mem (record { manager = m; did = did.Hardened c (notes.Resolved u true true) }) (deeds p)
  pub not_yet : (m : ℕ) (c : List ℕ) (u : Luw) → g.operated m c u ≡ true → is_committed s (opening_managers s hs) (deeds p) c u ≡ false
