-- What the ledger tells of a manager beside its rows, and what a change of a manager and what is posted of it leave.
use Rattle.std.specs.Prelude.{ℕ, ◌≡◌, ◌==◌, Bool, true, false, List, None, Some, map, slice_get}
use Rattle.mq_message.specs.declared.message.Ident.{Ident}
use Rattle.std.specs.Str.{bytes_eq}
use Rattle.mq_base.specs.Members.{Chain}
use Rattle.mq_calls.specs.declared.image.Shelf.{Shelf}
use Rattle.mq_calls.specs.declared.state.Connection.{Connection}
use Rattle.mq_calls.specs.declared.state.Handle.{Handle}
use Rattle.mq_law_seen.specs.from_history.{ManagerPlaces}
use Rattle.mq_calls.specs.State.{Plain}
use Rattle.mq_spec_manager.specs.Standing.{is_unborn}
use Rattle.mq_law_seen.specs.from_spec_network.Ledger.{Ledger, Users}
use Rattle.mq_law_seen.specs.from_law_rows.World.{items_told}
use Rattle.mq_law_events.specs.Local.{Leads, side_of, sheet_of}

-- a handle without its cursor, and as if nothing were stale; a connection as the ledger tells it
abbrev pub handle_told : Handle → Handle
handle_told h = record h { stale = false; cursor = None }

abbrev pub connection_told : Connection → Connection
connection_told c = record { number = c.number; appl = c.appl; handles = map handle_told c.handles; last_handle = 0; unit = items_told c.unit }

abbrev pub connections_told : List Connection → List Connection
connections_told cs = map connection_told cs

-- no name stands twice among the ledger's lists of a manager
abbrev pub AreShelved : List Shelf → Type 0
AreShelved qs = Chain (λ (x y : Shelf). bytes_eq x.name y.name ≡ false) qs

-- the ledger has the manager's name, definitions and connections, and no list twice
pub record IsTold (m : ℕ) (p : Plain) (l : Ledger) : Type 0 where
  pub places : ManagerPlaces
  pub placed : slice_get l.places m ≡ Some places
  pub name : places.name ≡ p.given.name
  pub definitions : places.definitions ≡ p.definitions
  pub shelved : AreShelved places.queues
  pub users : Users
  pub used : slice_get l.users m ≡ Some users
  pub connections : users.connections ≡ connections_told p.connections

-- no ident that the manager has not given yet is known
abbrev pub IsFresh : (Ident → Bool) → Plain → Type 0
IsFresh given p = (i : Ident) → is_unborn i p ≡ true → given i ≡ false

-- what an event of a manager without a channel never changes
pub record IsSame (p q : Plain) : Type 0 where
  pub given : q.given ≡ p.given
  pub senders : q.channels.senders ≡ p.channels.senders
  pub receivers : q.channels.receivers ≡ p.channels.receivers
  pub batches : q.channels.batches ≡ p.channels.batches

-- another manager's lists stay
pub record IsElse (m : ℕ) (l k : Ledger) : Type 0 where
  pub places : (a : ℕ) → (a == m) ≡ false → slice_get k.places a ≡ slice_get l.places a
  pub users : (a : ℕ) → (a == m) ≡ false → slice_get k.users a ≡ slice_get l.users a

-- the moment, and the call whose write was stopped, if any, stay
pub record IsKept (u x : Users) : Type 0 where
  pub cut : x.cut ≡ u.cut
  pub moment : x.moment ≡ u.moment

-- From a manager and its ledger to these, the facts are kept, and the ledger tells the manager again.
pub record Follow (m : ℕ) (given : Ident → Bool) (p : Plain) (l : Ledger) (q : Plain) (k : Ledger) : Type 0 where
  pub now : Ident → Bool
  pub leads : Leads m (side_of p given) (sheet_of m l) (side_of q now) (sheet_of m k)
  pub fresh : IsFresh now q
  pub known : (i : Ident) → (i.manager == p.given.number) ≡ false → now i ≡ given i
  pub told : IsTold m q k
  pub same : IsSame p q
  pub steady : q.moment ≡ p.moment
  pub other : IsElse m l k
  pub kept : (u x : Users) → slice_get l.users m ≡ Some u → slice_get k.users m ≡ Some x → IsKept u x

-- one manager of a list changes, and no other
pub record IsNext (m : ℕ) (p q : Plain) (ps qs : List Plain) : Type 0 where
  pub at : slice_get ps m ≡ Some p
  pub to : slice_get qs m ≡ Some q
  pub others : (a : ℕ) → (a == m) ≡ false → slice_get qs a ≡ slice_get ps a
