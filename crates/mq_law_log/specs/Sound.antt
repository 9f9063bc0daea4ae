-- A sound manager: what its calls keep, and what the law of the log needs of it.
use Rattle.std.specs.Prelude.{◌≡◌, ℕ, Bool, true, false, List, [], ◌∷◌, ◌++◌, Some, is_some}
use Rattle.std.specs.List.{AllByRecursion}
pub use Rattle.mq_base.specs.Members.{Mem}
use Rattle.mq_message.specs.declared.message.Ident.{Ident}
use Rattle.mq_message.specs.declared.message.Message.{Message}
use Rattle.mq_queue.specs.declared.row.Row.{Row}
use Rattle.mq_queue.specs.Rows.{same_ident, is_free}
use Rattle.mq_queue.specs.Queues.{AreDistinct}
use Rattle.mq_objects.specs.Names.{local_of}
use Rattle.mq_calls.specs.declared.state.Item.{Item}
use Rattle.mq_calls.specs.declared.state.Item.TheVariants.{Put, Take}
use Rattle.mq_calls.specs.State.{Plain, Queue}
use Rattle.mq_calls.specs.declared.state.Connection.{Connection}
use Rattle.mq_calls.specs.declared.state.Handle.{Handle}
use Rattle.mq_calls.specs.declared.state.Batch.{Batch}
use Rattle.mq_calls.specs.Reads.{stored, connection_at, batch_of, is_persistent, is_by_unit}
use Rattle.mq_spec_manager.specs.Put.{next_ident, dest_at, queue_at}
use Rattle.mq_spec_log.specs.Applies.{fits}
use Rattle.mq_law_log.specs.Keeps.{AreLaned, has_queue, IsNew, HoldsJust}

abbrev pub all_rows : List Queue → List Row
all_rows [] = []
all_rows (q ∷ qs) = q.rows ++ all_rows qs

-- a row that a unit holds
pub record IsHeld (queue : List ℕ) (ident : Ident) (persistent : Bool) (p : Plain) : Type 0 where
  pub row : Row
  pub there : Mem row (stored queue p).rows
  pub own : row.message.ident ≡ ident
  pub kind : is_persistent row.message ≡ persistent
  pub held : is_by_unit row.by ≡ true

abbrev pub IsItem : Item → Plain → Type 0
IsItem (Put queue m) p = (fits queue m p.definitions ≡ true) × IsNew m.ident p
IsItem (Take queue ident persistent) p = IsHeld queue ident persistent p

abbrev pub item_ident : Item → Ident
item_ident (Put queue m) = m.ident
item_ident (Take queue ident persistent) = ident

abbrev pub AreApart : List Item → Type 0
AreApart [] = Unit {0}
AreApart (item ∷ items) = AllByRecursion (λ (other : Item). same_ident (item_ident other) (item_ident item) ≡ false) items × AreApart items

-- a unit's items: puts fit their queues and have new idents, gets are rows that it holds; no ident twice
abbrev pub IsUnit : List Item → Plain → Type 0
IsUnit items p = AllByRecursion (λ (item : Item). IsItem item p) items × AreApart items

-- what a handle for output leads to fits what is put through it
abbrev pub LeadsWell : Handle → Plain → Type 0
LeadsWell h p = h.stale ≡ false → h.how.output ≡ true → (m : Message) → m.route ≡ dest_at h.leads → fits (queue_at h.leads) m p.definitions ≡ true

-- What the law of the log needs of a sound manager: rows by lanes, each ident once; each local queue is there; the next ident is
-- new; what handles lead to fits; units and batches hold what they list.
pub record IsLogSound (p : Plain) : Type 0 where
  pub laned : AllByRecursion (λ (q : Queue). AreLaned q.rows) p.queues
  pub once : AreDistinct (all_rows p.queues)
  pub stocked : (name : List ℕ) → is_some (local_of name p.definitions) ≡ true → has_queue name p.queues ≡ true
  pub next : IsNew (next_ident p) p
  pub handles : (n : ℕ) (c : Connection) → connection_at n p.connections ≡ Some c → AllByRecursion (λ (h : Handle). LeadsWell h p) c.handles
  pub units : (n : ℕ) (c : Connection) → connection_at n p.connections ≡ Some c → IsUnit c.unit p
  pub batches : (b : Batch) → batch_of b.channel p.channels.batches ≡ Some b → AllByRecursion (HoldsJust b) p.queues

-- rows of a queue that are free, none twice
abbrev pub AreFree : List ℕ → List Row → Plain → Type 0
AreFree queue rows p = AllByRecursion (λ (row : Row). Mem row (stored queue p).rows × (is_free row ≡ true)) rows × AreDistinct rows
