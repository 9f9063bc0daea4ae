-- One manager of the families: what of a world and of a book is its own, and which changes of that keep the facts.
use Rattle.std.specs.Prelude.{ℕ, ◌==◌, Bool, List, if◌then◌else◌}
use Rattle.mq_message.specs.declared.message.Ident.{Ident}
use Rattle.mq_queue.specs.declared.row.Row.{Row}
use Rattle.mq_calls.specs.declared.state.Item.{Item}
use Rattle.mq_calls.specs.State.{Plain}
use Rattle.mq_calls.specs.Reads.{stored, connection_at}
use Rattle.mq_law_seen.specs.from_spec_network.Ledger.{Ledger, ledger_rows, unit_of}
use Rattle.mq_law_seen.specs.from_law_rows.World.{World, Book, Ghost, Owner, Inv, items_told}

-- what the laws see of a manager that its own events change: rows by queue, units by connection, and which idents were given
pub record Side : Type 0 where
  pub rows : List ℕ → List Row
  pub units : ℕ → List Item
  pub given : Ident → Bool

-- and of the ledger
pub record Sheet : Type 0 where
  pub rows : List ℕ → List Row
  pub gone : List Ident
  pub got : List Ident

-- a world in which manager m has this; a book in which it has this, and its units as they are told
abbrev pub local : World → ℕ → Side → World
local w m v = record {
  rows = λ a d. if a == m then v.rows d else w.rows a d;
  units = λ a k. if a == m then v.units k else w.units a k;
  given = v.given;
  holds = w.holds;
  doubt = w.doubt;
  last = w.last;
}

abbrev pub page : Book → ℕ → Side → Sheet → Book
page b m v t = record {
  rows = λ a d. if a == m then t.rows d else b.rows a d;
  units = λ a k. if a == m then items_told (v.units k) else b.units a k;
  gone = t.gone;
  got = t.got;
}

-- idents belong elsewhere; what was sent and what an operator settled stays
abbrev pub with_owner : Ghost → (Ident → Owner) → Ghost
with_owner g owner = record { sent = g.sent; source = g.source; operated = g.operated; loose = g.loose; owner = owner }

-- the facts hold, wherever idents belong by now
pub record Moved (g : Ghost) (w : World) (b : Book) : Type 0 where
  pub owner : Ident → Owner
  pub inv : Inv w (with_owner g owner) b

-- From this at manager m, and in the ledger, to that the facts are kept, whatever the other managers have.
abbrev pub Leads : ℕ → Side → Sheet → Side → Sheet → Type 0
Leads m v t x y = (w : World) (g : Ghost) (b : Book) → Inv (local w m v) g (page b m v t) → Moved g (local w m x) (page b m x y)

-- a plain manager so, and a ledger
abbrev pub side_of : Plain → (Ident → Bool) → Side
side_of p given = record { rows = λ d. (stored d p).rows; units = λ k. unit_of (connection_at k p.connections); given = given }

abbrev pub sheet_of : ℕ → Ledger → Sheet
sheet_of m l = record { rows = λ d. ledger_rows m d l; gone = l.gone; got = l.got }
