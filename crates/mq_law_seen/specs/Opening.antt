-- What a manager has at its first start.
use Rattle.std.specs.Prelude.{ℕ, ◌≤◌, map, ◌≡◌, ◌≢◌, true, List, [], ◌∷◌, Option, Some, None, if◌then◌else◌, find}
use Rattle.mq_message.specs.declared.message.Ident.{Ident}
use Rattle.mq_message.specs.declared.place.Holder.TheVariants as holders
use Rattle.mq_queue.specs.declared.row.Row.{Row}
use Rattle.mq_queue.specs.Rows.{has_ident}
use Rattle.mq_sync.specs.declared.unit.Unit.{Unit as Luw}
use Rattle.mq_objects.specs.declared.object.LocalQueue.{LocalQueue}
use Rattle.mq_objects.specs.Names.{locals_of}
use Rattle.mq_sync.specs.declared.data.InDoubt.{InDoubt}
use Rattle.mq_calls.specs.State.{Plain}
use Rattle.mq_calls.specs.Reads.{stored, is_persistent, sender_data, in_doubt_of}
use Rattle.mq_law_rows.specs.from_spec_network.Story.{Mem}
use Rattle.mq_law_rows.specs.from_spec_network.Promised.{AreDistinct}
use Rattle.mq_law_rows.specs.World.{World, Book, Tag, Owner, Unborn, Gone, tag_of, tag_idents, idents_in, standing, claim, StandsIn, LanesRise}
use Rattle.std.specs.Str.{bytes_eq}
use Rattle.mq_calls.specs.State.{Queue}
use Rattle.mq_law_rows.specs.from_spec_network.Story.{Chain}
use Rattle.std.specs.Prelude.{false}

-- queues with names of their own
abbrev pub AreNamed : List Queue → Type 0
AreNamed qs = Chain (λ (x y : Queue). bytes_eq x.name y.name ≡ false) qs

-- What each manager has at its first start, where its opening is an image of a log.
pub record IsOpening (p : Plain) : Type 0 where
  -- the incarnation is above each that the log knew; queues have names of their own
  pub first : 1 ≤ p.numbers.incarnation
  pub named : AreNamed p.queues
  -- queues stand by lane; an ident is once among all rows, which last, and stand on queues that are defined
  pub sorted : (q : List ℕ) → LanesRise (stored q p).rows
  pub distinct : (q : List ℕ) → AreDistinct (idents_in (stored q p).rows)
  pub alone : (q d : List ℕ) (h k : Row) → Mem h (stored q p).rows → Mem k (stored d p).rows → h.message.ident ≡ k.message.ident → (q ≡ d) × (h ≡ k)
  pub lasting : (q : List ℕ) (h : Row) → Mem h (stored q p).rows → is_persistent h.message ≡ true
  pub defined : (q : List ℕ) (h : Row) → Mem h (stored q p).rows → Mem q (map (λ (l : LocalQueue). l.name) (locals_of p.definitions))
  -- a row is free, or of the unit in doubt that was taken from its queue
  pub held : (q : List ℕ) (h : Row) (k : ℕ) → Mem h (stored q p).rows → h.by ≢ Some (holders.Unit k)
  pub batch : (q : List ℕ) (h : Row) (c : List ℕ) → Mem h (stored q p).rows → h.by ≡ Some (holders.Batch c)
      → (d : InDoubt) × (in_doubt_of (sender_data c p) ≡ Some d) × (q ≡ d.queue)
