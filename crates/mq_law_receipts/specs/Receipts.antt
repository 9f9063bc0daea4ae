-- A receiver's commit as a change of the network: what it rests on, and what stands behind it.
use Rattle.std.specs.Prelude.{ℕ, Bool, false, not, ◌≡◌, ◌≤◌, ◌+◌, ◌==◌, List, [], ◌∷◌, map, None, Some, slice_get}
use Rattle.mq_message.specs.declared.message.Ident.{Ident}
use Rattle.mq_message.specs.declared.message.Message.{Message}
use Rattle.mq_sync.specs.declared.unit.Unit.{Unit as Luw}
use Rattle.mq_message.specs.declared.place.Holder.TheVariants as holders
use Rattle.mq_queue.specs.declared.row.Row.{Row}
use Rattle.mq_queue.specs.Rows.{keep}
use Rattle.mq_calls.specs.declared.state.Connection.{Connection}
use Rattle.mq_history.specs.declared.scenario.CableLine.{CableLine}
use Rattle.mq_history.specs.declared.scenario.Scenario.{Scenario}
use Rattle.mq_history.specs.declared.story.ManagerPlaces.{ManagerPlaces}
use Rattle.mq_calls.specs.State.{Change, Plain}
use Rattle.mq_calls.specs.State.Change.{Connect}
use Rattle.mq_calls.specs.Reads.{batch_of, is_persistent, stored}
use Rattle.mq_calls.specs.Changes.{apply}
use Rattle.mq_spec_manager.specs.Agents.{is_pending, is_unborn}
use Rattle.mq_spec_network.specs.Ledger.{Ledger, ledger_rows}
use Rattle.mq_spec_network.specs.Standing.{cable_from}
use Rattle.mq_spec_network.specs.Story.{Chain, Mem}
use Rattle.mq_law_events.specs.from_law_rows.World.{Ghost, Inv, tag_idents, tag_of}
use Rattle.mq_law_events.specs.from_law_rows.Kinds.{Commits, Landing, among, ghost_receive, place_all}
use Rattle.mq_law_events.specs.from_law_seen.Seen.{book_of, world_of}
use Rattle.mq_law_manager.specs.Facts.{IsSound}
use Rattle.mq_law_events.specs.Posting.{IsTimed}
use Rattle.mq_law_events.specs.Tied.{AreShelved, IsFresh, IsTold}

-- connections have numbers of their own
abbrev pub AreNumbered : List Connection → Type 0
AreNumbered cs = Chain (λ (a b : Connection). (a.number == b.number) ≡ false) cs

-- channel c leads from manager m to manager t, and no other of its name leads there
pub record IsCabled (s : Scenario) (ps : List Plain) (m t : ℕ) (c : List ℕ) : Type 0 where
  pub sender : Plain
  pub at : slice_get ps m ≡ Some sender
  pub cable : CableLine
  pub from : cable_from sender.given.number c s.cables ≡ Some cable
  pub to : cable.receiver ≡ t
  pub alone : (a : ℕ) (x : Plain) (y : CableLine) → slice_get ps a ≡ Some x → cable_from x.given.number c s.cables ≡ Some y → y.receiver ≡ t → a ≡ m

-- no row of its ident is there but of a unit in doubt, as persistent as it is; no uncommitted put has it; it was given
pub record Comes (p : Plain) (x : Message) : Type 0 where
  pub rows : (q : List ℕ) (h : Row) → Mem h (stored q p).rows → h.message.ident ≡ x.ident
      → (c : List ℕ) × (h.by ≡ Some (holders.Batch c)) × (batch_of c p.channels.batches ≡ None) × (is_persistent h.message ≡ is_persistent x)
  pub pending : is_pending x.ident p ≡ false
  pub unborn : is_unborn x.ident p ≡ false

-- The manager by which a batch lands, and one that has lost rows of it since: the same but for rows, of which it has none that the other
-- has not, by their idents
pub record IsShadow (b p : Plain) : Type 0 where
  pub given : p.given ≡ b.given
  pub definitions : p.definitions ≡ b.definitions
  pub connections : p.connections ≡ b.connections
  pub moment : p.moment ≡ b.moment
  pub rows : (d : List ℕ) (h : Row) → Mem h (stored d p).rows → (k : Row) × Mem k (stored d b).rows × (k.message.ident ≡ h.message.ident)

-- What the commit of unit u, which has these messages, rests on at its receiver p.
pub record IsReceipt (s : Scenario) (given : Ident → Bool) (ps : List Plain) (p : Plain) (l : Ledger) (g : Ghost) (m t : ℕ) (c : List ℕ) (u : Luw) (ms : List Message) : Type 0 where
  pub commits : Commits (world_of s given ps) g m c u t
  pub sent : map tag_of ms ≡ g.sent m c u
  pub cabled : IsCabled s ps m t c
  pub sound : IsSound p
  pub numbered : AreNumbered p.connections
  pub fresh : IsFresh given p
  pub told : IsTold t p l
  pub timed : IsTimed t p l
  pub shelved : (a : ℕ) (x : ManagerPlaces) → slice_get l.places a ≡ Some x → AreShelved x.queues

-- but for the facts of the manager itself: of one that is down they are those that held as its turn was stopped
pub record IsAwaitedAt (s : Scenario) (given : Ident → Bool) (ps : List Plain) (p : Plain) (l : Ledger) (g : Ghost) (m t : ℕ) (c : List ℕ) (u : Luw) (ms : List Message) : Type 0 where
  pub commits : Commits (world_of s given ps) g m c u t
  pub sent : map tag_of ms ≡ g.sent m c u
  pub cabled : IsCabled s ps m t c
  pub fresh : IsFresh given p
  pub told : IsTold t p l
  pub timed : IsTimed t p l
  pub shelved : (a : ℕ) (x : ManagerPlaces) → slice_get l.places a ≡ Some x → AreShelved x.queues

-- Behind it the network has the facts, the unit's messages belong where they landed, and the ledger tells each manager again. In the ledger they
-- have left wherever they were, and stand where they were placed.
pub record Receipt (s : Scenario) (given : Ident → Bool) (qs : List Plain) (q : Plain) (l k : Ledger) (g : Ghost) (m t : ℕ) (c : List ℕ) (u : Luw) : Type 0 where
  pub lands : List Landing
  pub inv : Inv (world_of s given qs) (ghost_receive g m c u t (tag_idents (g.sent m c u)) lands) (book_of k)
  pub fresh : IsFresh given q
  pub told : IsTold t q k
  pub timed : IsTimed t q k
  pub others : (a : ℕ) (r : Plain) → (a == t) ≡ false → IsTold a r l → IsTold a r k
  pub users : k.users ≡ l.users
  pub placings : List Landing
  pub named : map (λ (x : Landing). x.row.message.ident) placings ≡ tag_idents (g.sent m c u)
  pub rows : (a : ℕ) (d : List ℕ) → ledger_rows a d k ≡ place_all t placings a d (keep (λ (x : Row). not (among (tag_idents (g.sent m c u)) x.message.ident)) (ledger_rows a d l))

-- and none above the last that was given
pub record AreNumberedUpto (p : Plain) : Type 0 where
  pub apart : AreNumbered p.connections
  pub upto : (c : Connection) → Mem c p.connections → c.number ≤ p.numbers.connections

-- a connection that begins has the next number
abbrev pub IsNextNumber : Change → Plain → Type 0
IsNextNumber (Connect c) p = c.number ≡ p.numbers.connections + 1
IsNextNumber _ p = Unit {0}

abbrev pub AreNextNumbers : List Change → Plain → Type 0
AreNextNumbers [] p = Unit {0}
AreNextNumbers (c ∷ cs) p = IsNextNumber c p × AreNextNumbers cs (apply c p)
