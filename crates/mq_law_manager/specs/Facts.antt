-- What holds of the rows of one manager, always.
use Rattle.std.specs.Prelude.{ℕ, ◌≡◌, ◌≢◌, ◌≤◌, Bool, false, List, length, Option, Some, None, true, is_some}
use Rattle.mq_message.specs.declared.message.Ident.{Ident}
use Rattle.mq_message.specs.declared.place.Holder.TheVariants as holders
use Rattle.mq_queue.specs.declared.row.Row.{Row}
use Rattle.mq_queue.specs.Queues.{AreInOrder, AreCounted}
use Rattle.mq_sync.specs.declared.data.InDoubt.{InDoubt}
use Rattle.mq_calls.specs.declared.records.Add.{Add}
use Rattle.std.specs.Str.{bytes_eq}
use Rattle.std.specs.List.{list_any}
use Rattle.mq_objects.specs.declared.object.Object.{Object}
use Rattle.mq_objects.specs.declared.object.Object.TheVariants as objects
use Rattle.mq_objects.specs.Names.{local_of, is_object, space_of, name_of}
pub use Rattle.mq_message.specs.from_base.Members.{Mem, Chain}
use Rattle.mq_message.specs.declared.message.Message.{Message}
use Rattle.mq_objects.specs.declared.object.LocalQueue.{LocalQueue}
use Rattle.mq_objects.specs.declared.object.Definitions.{Definitions}
use Rattle.mq_calls.specs.from_resolve.PathStepVariants as steps
use Rattle.mq_calls.specs.State.{Plain, Queue}
use Rattle.mq_calls.specs.declared.state.Batch.{Batch}
use Rattle.mq_calls.specs.declared.state.Connection.{Connection}
use Rattle.mq_calls.specs.declared.state.Handle.{Handle}
use Rattle.mq_calls.specs.declared.state.SenderSide.{SenderSide}
use Rattle.mq_calls.specs.Reads.{is_persistent, has_step}
use Rattle.mq_calls.specs.Changes.{lane_of, comes_before}
pub use Rattle.mq_calls.specs.Recovery.{routes, listed}
use Rattle.mq_spec_manager.specs.Put.{queue_at, dest_at}
use Rattle.mq_law_manager.specs.View.{View, Taken, view}

-- each key at most once
abbrev pub Differ : {A : Type 0} → (A → Ident) → List A → Type 0
Differ {A} key xs = Chain (λ (x y : A). key x ≢ key y) xs

abbrev pub ident_of : Row → Ident
ident_of row = row.message.ident

abbrev pub put_ident : Add → Ident
put_ident a = a.message.ident

abbrev pub taken_ident : Taken → Ident
taken_ident t = t.ident

-- Each ident is at most once at the manager: in one row, or in one uncommitted put; and each of its own was given.
pub record AreApart (rows : List ℕ → List Row) (puts : ℕ → List Add) (unborn : Ident → Bool) : Type 0 where
  pub once : (q : List ℕ) → Differ ident_of (rows q)
  pub alone : (q d : List ℕ) (h k : Row) → Mem h (rows q) → Mem k (rows d) → h.message.ident ≡ k.message.ident → q ≡ d
  pub given : (q : List ℕ) (h : Row) → Mem h (rows q) → unborn h.message.ident ≡ false
  pub put_once : (n : ℕ) → Differ put_ident (puts n)
  pub put_alone : (n l : ℕ) (a b : Add) → Mem a (puts n) → Mem b (puts l) → a.message.ident ≡ b.message.ident → n ≡ l
  pub put_given : (n : ℕ) (a : Add) → Mem a (puts n) → unborn a.message.ident ≡ false
  pub waiting : (n : ℕ) (a : Add) (q : List ℕ) (h : Row) → Mem a (puts n) → Mem h (rows q) → a.message.ident ≢ h.message.ident

-- a row of that ident and persistence, held by that unit
pub record IsHeld (rows : List Row) (n : ℕ) (i : Ident) (persistent : Bool) : Type 0 where
  pub row : Row
  pub there : Mem row rows
  pub is : row.message.ident ≡ i
  pub by : row.by ≡ Some (holders.Unit n)
  pub lasts : is_persistent row.message ≡ persistent

-- The rows that units hold are just what they have got.
pub record AreTaken (rows : List ℕ → List Row) (takes : ℕ → List Taken) : Type 0 where
  pub held : (q : List ℕ) (h : Row) (n : ℕ) → Mem h (rows q) → h.by ≡ Some (holders.Unit n) → Mem (record { queue = q; ident = h.message.ident; persistent = is_persistent h.message }) (takes n)
  pub there : (n : ℕ) (t : Taken) → Mem t (takes n) → IsHeld (rows t.queue) n t.ident t.persistent
  pub take_once : (n : ℕ) → Differ taken_ident (takes n)

-- a row of that ident, held by the channel's batch
pub record IsBatched (rows : List Row) (c : List ℕ) (i : Ident) : Type 0 where
  pub row : Row
  pub there : Mem row rows
  pub is : row.message.ident ≡ i
  pub by : row.by ≡ Some (holders.Batch c)

-- an ident on a queue is of the batch that is not prepared, or of the unit in doubt
abbrev pub IsOf : List ℕ → Ident → Option Batch → Option InDoubt → Type 0
IsOf q i (Some b) d = (q ≡ b.queue) × Mem i b.idents
IsOf q i None (Some d) = Mem i d.idents
IsOf q i None None = ⊥

-- The rows that batches hold are those of the batch that is not prepared, all of them, or are named by the unit in doubt;
-- no channel has both.
pub record AreBatched (rows : List ℕ → List Row) (batch : List ℕ → Option Batch) (doubt : List ℕ → Option InDoubt) : Type 0 where
  pub of : (q : List ℕ) (h : Row) (c : List ℕ) → Mem h (rows q) → h.by ≡ Some (holders.Batch c) → IsOf q h.message.ident (batch c) (doubt c)
  pub full : (c : List ℕ) (b : Batch) (i : Ident) → batch c ≡ Some b → Mem i b.idents → IsBatched (rows b.queue) c i
  pub one : (c : List ℕ) (b : Batch) → batch c ≡ Some b → doubt c ≡ None

-- Rows stand in order of place, and came in among the first so many.
pub record AreOrdered (rows : List ℕ → List Row) (arrivals : List ℕ → ℕ) : Type 0 where
  pub in_order : (q : List ℕ) → AreInOrder (rows q)
  pub counted : (q : List ℕ) → AreCounted (arrivals q) (rows q)
  pub fits : (q : List ℕ) → length (rows q) ≤ arrivals q

pub record Holds (v : View) : Type 0 where
  pub apart : AreApart v.rows v.puts v.unborn
  pub taken : AreTaken v.rows v.takes
  pub batched : AreBatched v.rows v.batch v.doubt
  pub ordered : AreOrdered v.rows v.arrivals

abbrev pub Sound : Plain → Type 0
Sound p = Holds (view p)

-- What is left of the facts at a manager that a stopped write has frozen: nonpersistent rows went, of units and of batches too.
pub record AreStill (v : View) : Type 0 where
  pub apart : AreApart v.rows v.puts v.unborn
  pub held : (q : List ℕ) (h : Row) (n : ℕ) → Mem h (v.rows q) → h.by ≡ Some (holders.Unit n) → Mem (record { queue = q; ident = h.message.ident; persistent = is_persistent h.message }) (v.takes n)
  pub of : (q : List ℕ) (h : Row) (c : List ℕ) → Mem h (v.rows q) → h.by ≡ Some (holders.Batch c) → IsOf q h.message.ident (v.batch c) (v.doubt c)
  pub one : (c : List ℕ) (b : Batch) → v.batch c ≡ Some b → v.doubt c ≡ None
  pub ordered : AreOrdered v.rows v.arrivals

-- no name stands twice in the list of queues
abbrev pub AreNamed : List Queue → Type 0
AreNamed qs = Chain (λ (q d : Queue). bytes_eq q.name d.name ≡ false) qs

-- rows by lane
abbrev pub AreLaned : List Row → Type 0
AreLaned rows = Chain (λ (x y : Row). x.place.lane ≤ y.place.lane) rows

-- ---- what is defined

-- no name of a space stands twice
abbrev pub AreOnce : List Object → Type 0
AreOnce os = Chain (λ (a b : Object). is_object (space_of a) (name_of a) b ≡ false) os

abbrev pub is_local : Object → Bool
is_local (objects.Local q) = true
is_local _ = false

-- a queue of that name is there
abbrev pub has_queue : List ℕ → List Queue → Bool
has_queue name qs = list_any (λ (q : Queue). bytes_eq name q.name) qs

-- rows stand on local queues that are defined, and uncommitted puts are to such
abbrev pub AreDefined : Plain → Type 0
AreDefined p = (q : List ℕ) (h : Row) → Mem h ((view p).rows q) → is_some (local_of q p.definitions) ≡ true

abbrev pub ArePutDefined : Plain → Type 0
ArePutDefined p = (n : ℕ) (a : Add) → Mem a ((view p).puts n) → is_some (local_of a.queue p.definitions) ≡ true

-- a message has a route just where its queue is a transmission queue
abbrev pub IsRoutedOn : Option LocalQueue → Message → Type 0
IsRoutedOn o m = is_some m.route ≡ routes o

-- a message fits a local queue that is defined
abbrev pub IsFit : Option LocalQueue → Message → Type 0
IsFit o m = (is_some o ≡ true) × IsRoutedOn o m

-- a row of a queue: routed as the queue is used, in the lane that MSGDLVSQ gives its priority
pub record IsFormed (o : Option LocalQueue) (row : Row) : Type 0 where
  pub routed : IsRoutedOn o row.message
  pub lane : row.place.lane ≡ lane_of o row.message.md.priority

-- A handle that isn't stale leads to a local queue on its path that is defined; one for output to a queue that what is put
-- through it fits.
pub record IsLed (d : Definitions) (h : Handle) : Type 0 where
  pub there : is_some (local_of (queue_at h.leads) d) ≡ true
  pub on : has_step (steps.Queue (queue_at h.leads)) h ≡ true
  pub routed : h.how.output ≡ true → is_some (dest_at h.leads) ≡ routes (local_of (queue_at h.leads) d)

abbrev pub IsUnlisted : Ident → List SenderSide → Type 0
IsUnlisted i sides = (s : SenderSide) → Mem s sides → Mem i (listed s.hardened.in_doubt) → ⊥

-- channel data stands in order of the channels' names
abbrev pub AreSorted : List SenderSide → Type 0
AreSorted sides = Chain (λ (s t : SenderSide). comes_before s.channel t.channel ≡ true) sides

-- Rows, uncommitted puts and handles are routed; what units in doubt list was given, and waits in no unit; a persistent row that
-- one lists is held by it.
pub record AreRouted (v : View) (d : Definitions) (cs : List Connection) (sides : List SenderSide) : Type 0 where
  pub rows : (q : List ℕ) (h : Row) → Mem h (v.rows q) → IsFormed (local_of q d) h
  pub puts : (n : ℕ) (a : Add) → Mem a (v.puts n) → IsRoutedOn (local_of a.queue d) a.message
  pub led : (c : Connection) (h : Handle) → Mem c cs → Mem h c.handles → h.stale ≡ false → IsLed d h
  pub given : (i : Ident) → v.unborn i ≡ true → IsUnlisted i sides
  pub waiting : (n : ℕ) (a : Add) → Mem a (v.puts n) → IsUnlisted a.message.ident sides
  pub sorted : AreSorted sides
  pub doubted : (q : List ℕ) (h : Row) (s : SenderSide) → Mem h (v.rows q) → is_persistent h.message ≡ true → Mem s sides → Mem h.message.ident (listed s.hardened.in_doubt) → h.by ≡ Some (holders.Batch s.channel)

abbrev pub IsRouted : Plain → Type 0
IsRouted p = AreRouted (view p) p.definitions p.connections p.channels.senders

-- and each has its place for rows
pub record IsStocked (p : Plain) : Type 0 where
  pub once : AreOnce p.definitions.objects
  pub placed : (name : List ℕ) → is_some (local_of name p.definitions) ≡ true → has_queue name p.queues ≡ true
  pub rows : AreDefined p
  pub puts : ArePutDefined p
  pub routed : IsRouted p

-- All that holds of one manager.
pub record IsSound (p : Plain) : Type 0 where
  pub facts : Sound p
  pub named : AreNamed p.queues
  pub stocked : IsStocked p

-- What is left of it where a stopped write has frozen the manager.
pub record IsFrozen (p : Plain) : Type 0 where
  pub still : AreStill (view p)
  pub named : AreNamed p.queues
  pub stocked : IsStocked p
