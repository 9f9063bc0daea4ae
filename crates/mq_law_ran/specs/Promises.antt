-- What is promised of each prefix of a run's story.
use Rattle.std.specs.Prelude.{◌≡◌, ◌⊎◌, ℕ, List, ◌++◌}
use Rattle.mq_spec_network.specs.Story.{Line, IsStory}
use Rattle.mq_spec_network.specs.Conflict.{NoConflict}
use Rattle.mq_spec_network.specs.Ledger.{Ledger, ledger, ledger_rows}
use Rattle.mq_spec_network.specs.Standing.{managers_at, opening_ledger, rows_told, standing}
use Rattle.mq_spec_network.specs.Order.{AllInOrder}
use Rattle.mq_spec_network.specs.Apart.{IsJoined}
use Rattle.mq_spec_network.specs.Lawful.{AreOwn}
use Rattle.mq_spec_network.specs.Promised.{AreDistinct, all_standing}
use Rattle.mq_law_ran.specs.Runs.{Left}

-- Over disks that tell their bytes no restart read a log that was changed from outside.
abbrev pub RestartsAreOwn : Type 0 → Left → Type 0
RestartsAreOwn tells l = tells → AreOwn l.histories

-- What is asked of the disks: that they tell their bytes; or at least that no restart read a log that was changed from outside.
abbrev pub HasOwnLogs : Type 0 → Left → Type 0
HasOwnLogs tells l = tells ⊎ AreOwn l.histories

-- This is promised of a network whose logs belong together, and of whose disks that is so.
abbrev pub IsPromised : Type 0 → (Left → Type 0) → Left → Type 0
IsPromised tells P l = IsJoined l.scenario l.histories → HasOwnLogs tells l → P l

-- After each prefix of its story without a conflict.
abbrev pub InEachPrefix : Left → (List Line → Type 0) → Type 0
InEachPrefix l P = (p rest : List Line) → IsStory l.histories (p ++ rest) → NoConflict l.scenario l.histories p → P p

-- the ledger of a prefix
abbrev pub ledger_after : Left → List Line → Ledger
ledger_after l p = ledger (opening_ledger l.scenario l.histories) p

-- The standing rows of each queue of each manager are the ledger's, list for list.
abbrev pub RowsAreLedgers : Left → Type 0
RowsAreLedgers l = InEachPrefix l (λ p. (m : ℕ) (name : List ℕ)
    → rows_told (standing l.scenario (managers_at l.scenario p l.histories) m name) ≡ rows_told (ledger_rows m name (ledger_after l p)))

-- Each ident stands at most once in the network,
abbrev pub StandOnce : Left → Type 0
StandOnce l = InEachPrefix l (λ p. AreDistinct (all_standing l.scenario (managers_at l.scenario p l.histories)))

-- and is in at most one committed get.
abbrev pub GotOnce : Left → Type 0
GotOnce l = InEachPrefix l (λ p. AreDistinct (ledger_after l p).got)

-- Each receiver's commit keeps the order of its queue.
abbrev pub OrderKept : Left → Type 0
OrderKept l = InEachPrefix l (λ p. AllInOrder (opening_ledger l.scenario l.histories) p)
