-- All units of a manager are backed out at once, as a stop does.
use Rattle.std.specs.Prelude.{ℕ, ◌==◌, ◌&&◌, Bool, [], if◌then◌else◌}
use Rattle.mq_message.specs.declared.message.Ident.{Ident}
use Rattle.mq_queue.specs.declared.row.Row.{Row}
use Rattle.mq_queue.specs.Rows.{retag, is_by_unit}
use Rattle.mq_calls.specs.Changes.{release_if}
use Rattle.mq_law_seen.specs.from_law_rows.World.{World, Book, Owner, Unborn, At, HeldBy, InBatch, Forced, InUnit, InHand, Gone}

-- some unit of the manager holds the row
abbrev pub has_units : ℕ → ℕ → Row → Bool
has_units m a y = (a == m) && is_by_unit y.by

abbrev pub back_out_all : World → ℕ → Bool → World
back_out_all w m back = record {
  rows = λ a d. retag (λ y. release_if (has_units m a y) back y) (w.rows a d);
  units = λ a k. if a == m then [] else w.units a k;
  given = w.given;
  holds = w.holds;
  doubt = w.doubt;
  last = w.last;
}

abbrev pub book_out_all : Book → ℕ → Book
book_out_all b m = record { rows = b.rows; units = λ a k. if a == m then [] else b.units a k; gone = b.gone; got = b.got }

-- what was held is free, what was put is gone
abbrev pub rested : ℕ → Ident → Owner → Owner
rested m j (HeldBy a q e) = if a == m then At a q else HeldBy a q e
rested m j (InUnit a e) = if a == m then Gone else InUnit a e
rested m j (At a q) = At a q
rested m j (InBatch a d) = InBatch a d
rested m j (Forced a d u) = Forced a d u
rested m j (InHand a) = InHand a
rested m j Unborn = Unborn
rested m j Gone = Gone
