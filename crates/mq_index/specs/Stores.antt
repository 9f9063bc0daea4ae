-- Rows in slots with all that finds them.
use Rattle.std.specs.Prelude.{ℕ, List, Option}
use Rattle.mq_queue.specs.declared.row.Row.{Row}
use Rattle.mq_index.specs.declared.index.Index.{Index}
use Rattle.mq_index.specs.declared.keys.Kind.TheVariants.{Lane, MsgId, CorrelId}
use Rattle.mq_index.specs.Keys.{keyed}
use Rattle.mq_index.specs.Chains.{HasRoom, IsChainOf}

-- a chain for each kind of key
pub record IsIndex (slots : List (Option Row)) (i : Index) : Type 0 where
  pub lanes : IsChainOf (keyed Lane slots) i.lanes
  pub msgs : IsChainOf (keyed MsgId slots) i.msgs
  pub correls : IsChainOf (keyed CorrelId slots) i.correls

-- with memory for so many more rows
pub record HaveRoom (more : ℕ) (i : Index) : Type 0 where
  pub lanes : HasRoom more i.lanes
  pub msgs : HasRoom more i.msgs
  pub correls : HasRoom more i.correls

-- What is seen of a store: its slots, the last arrival, and for how many more rows there is memory.
pub record StoreState : Type 0 where
  pub slots : List (Option Row)
  pub arrivals : ℕ
  pub room : ℕ
