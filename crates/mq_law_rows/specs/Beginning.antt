-- With what the families begin: what the laws need of the managers' first starts, taken together.
use Rattle.std.specs.Prelude.{ℕ, ◌≡◌, ◌≢◌, true, List, [], ◌∷◌, Option, Some, None, if◌then◌else◌, find}
use Rattle.mq_message.specs.declared.message.Ident.{Ident}
use Rattle.mq_message.specs.declared.place.Holder.TheVariants as holders
use Rattle.mq_queue.specs.declared.row.Row.{Row}
use Rattle.mq_queue.specs.Rows.{has_ident}
use Rattle.mq_sync.specs.declared.unit.Unit.{Unit as Luw}
use Rattle.mq_calls.specs.Reads.{is_persistent}
use Rattle.mq_spec_network.specs.Story.{Mem}
use Rattle.mq_spec_network.specs.Promised.{AreDistinct}
use Rattle.mq_law_rows.specs.World.{World, Book, Tag, Owner, Unborn, Gone, tag_of, tag_idents, idents_in, standing, claim, StandsIn, LanesRise}

-- a queue of a manager
pub record Spot : Type 0 where
  pub manager : ℕ
  pub queue : List ℕ

-- where an ident stands, among these queues
abbrev pub owner_by : Option Row → Spot → Owner → Owner
owner_by None s rest = rest
owner_by (Some row) s rest = claim s.manager s.queue row.by

abbrev pub owner_in : World → List Spot → Ident → Owner → Owner
owner_in w [] i rest = rest
owner_in w (s ∷ ss) i rest = owner_by (find (has_ident i) (standing w s.manager s.queue)) s (owner_in w ss i rest)

abbrev pub first_owner : World → List Spot → Ident → Owner
first_owner w ss i = owner_in w ss i (if w.given i then Gone else Unborn)

-- What the openings have, one by one and together. `sent` and `source` tell what each unit in doubt has, and where.
pub record Opens (w : World) (b : Book) (spots : List Spot) (sent : ℕ → List ℕ → Luw → List Tag) (source : ℕ → List ℕ → List ℕ) : Type 0 where
  pub sorted : (m : ℕ) (q : List ℕ) → LanesRise (w.rows m q)
  pub distinct : (m : ℕ) (q : List ℕ) → AreDistinct (idents_in (w.rows m q))
  -- all rows stand on these queues
  pub cover : (m : ℕ) (q : List ℕ) (h : Row) → Mem h (w.rows m q) → Mem (record { manager = m; queue = q }) spots
  -- an ident is once among a manager's rows, and once among all standing rows; it was given before
  pub alone : (m : ℕ) (q d : List ℕ) (h k : Row) → Mem h (w.rows m q) → Mem k (w.rows m d) → h.message.ident ≡ k.message.ident → h ≡ k
  pub single : (m a : ℕ) (q d : List ℕ) (h k : Row) → Mem h (standing w m q) → Mem k (standing w a d) → h.message.ident ≡ k.message.ident → (m ≡ a) × (q ≡ d) × (h ≡ k)
  pub known : (m : ℕ) (q : List ℕ) (h : Row) → Mem h (w.rows m q) → w.given h.message.ident ≡ true
  pub lasting : (m : ℕ) (q : List ℕ) (h : Row) → Mem h (w.rows m q) → is_persistent h.message ≡ true
  -- a row is free, or of a unit in doubt, which has just its rows
  pub held : (m : ℕ) (q : List ℕ) (h : Row) (k : ℕ) → Mem h (w.rows m q) → h.by ≢ Some (holders.Unit k)
  pub batch : (m : ℕ) (q : List ℕ) (h : Row) (c : List ℕ) → Mem h (w.rows m q) → h.by ≡ Some (holders.Batch c)
      → (q ≡ source m c) × (w.holds m c ≢ None) × ((u : Luw) → w.holds m c ≡ Some u → Mem (tag_of h.message) (sent m c u))
  pub doubted : (m : ℕ) (c : List ℕ) (u : Luw) (t : Tag) → w.holds m c ≡ Some u → Mem t (sent m c u) → StandsIn t c (w.rows m (source m c))
  pub once : (m : ℕ) (c : List ℕ) (u : Luw) → w.holds m c ≡ Some u → AreDistinct (tag_idents (sent m c u))
  -- no unit of a connection; the ledger is what stands
  pub idle : (m k : ℕ) → w.units m k ≡ []
  pub rows : (m : ℕ) (q : List ℕ) → b.rows m q ≡ standing w m q
  pub quiet : (m k : ℕ) → b.units m k ≡ []
  pub gone : b.gone ≡ []
  pub got : b.got ≡ []
