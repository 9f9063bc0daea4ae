-- A batch of which some messages have landed.
use Rattle.std.specs.Prelude.{◌≡◌, List, ◌++◌, Result, Ok, Err}
use Rattle.mq_calls.specs.Words.{Reason}
use Rattle.mq_spec_manager.specs.Agents.{Landed}
use Rattle.mq_core.specs.declared.parts.Arrival.{Arrival}
use Rattle.mq_core.specs.Writes.{all_landed}

-- what the whole batch comes to: these messages, and the rest behind them
pub record IsBehind (whole : Result Landed Reason) (landed : List Arrival) (rest : Landed) : Type 0 where
  pub all : Landed
  pub is : whole ≡ Ok all
  pub changes : all.changes ≡ (all_landed landed).changes ++ rest.changes
  pub adds : all.adds ≡ (all_landed landed).adds ++ rest.adds
  pub delta : all.delta ≡ (all_landed landed).delta ++ rest.delta

-- or the refusal of the rest
abbrev pub Leads : Result Landed Reason → List Arrival → Result Landed Reason → Type 0
Leads whole landed (Ok rest) = IsBehind whole landed rest
Leads whole landed (Err reason) = whole ≡ Err reason
