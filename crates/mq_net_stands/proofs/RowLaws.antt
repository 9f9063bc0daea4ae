-- The rows that the ledger finds by a queue's name are those that the report's definition finds.
use Rattle.std.proofs.Common.{◌≡◌, ℕ, List, [], ◌∷◌, refl, ap}
use Rattle.std.specs.Prelude.{if◌then◌else◌}
use Rattle.std.specs.Str.{bytes_eq}
use Rattle.mq_queue.specs.declared.row.Row.{Row}
use Rattle.mq_calls.specs.declared.image.Shelf.{Shelf}
use Rattle.mq_net_rows.specs.from_spec_network.Ledger.{rows_in}
use Rattle.mq_net_stands.specs.Stands.{rows_of}

pub same_rows : (name : List ℕ) (ss : List Shelf) → rows_in name ss ≡ rows_of name ss
same_rows name [] = refl
same_rows name (s ∷ ss) = ap (λ (rows : List Row). if bytes_eq name s.name then s.rows else rows) (same_rows name ss)
