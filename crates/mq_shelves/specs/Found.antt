-- The row that has an ident.
use Rattle.std.specs.Prelude.{◌≡◌, ℕ, Bool, false, ◌&&◌, List, Option, Some, None}
use Rattle.std.specs.List.{list_any}
use Rattle.std.specs.Str.{bytes_eq}
use Rattle.mq_message.specs.declared.message.Ident.{Ident}
use Rattle.mq_queue.specs.declared.row.Row.{Row}
use Rattle.mq_queue.specs.Rows.{has_ident}
use Rattle.mq_calls.specs.declared.image.Shelf.{Shelf}
use Rattle.mq_spec_log.specs.Shelves.{shelf_in}
use Rattle.mq_shelves.specs.declared.rows.Found.{Found}
use Rattle.mq_shelves.specs.Racks.{any_row}

-- whether it passes a test of its queue's name and of itself
abbrev pub passes : (List ℕ → Row → Bool) → Option Found → Bool
passes test None = false
passes test (Some found) = test found.queue found.row.now

-- A row with the ident passes exactly where the one that was found does, on all queues and on that of one name.
pub record IsFound (ident : Ident) (ss : List Shelf) (o : Option Found) : Type 0 where
  pub any : (test : List ℕ → Row → Bool) → any_row test ident ss ≡ passes test o
  pub on : (test : Row → Bool) (name : List ℕ) → list_any (λ (row : Row). test row && has_ident ident row) (shelf_in name ss).rows ≡ passes (λ n row. bytes_eq n name && test row) o
