-- A story as it is read: spot by spot, as they are merged.
use Rattle.std.specs.Prelude.{List, [], ◌∷◌}
use Rattle.mq_history.specs.declared.history.History.{History}
use Rattle.mq_story.specs.declared.merging.Spot.{Spot}
use Rattle.mq_story.specs.Spots.{line_at}
use Rattle.mq_spec_network.specs.Ledger.{Ledger, ledger}

abbrev pub ledger_spots : List History → List Spot → Ledger → Ledger
ledger_spots hs [] l = l
ledger_spots hs (x ∷ xs) l = ledger_spots hs xs (ledger l (line_at hs x))
