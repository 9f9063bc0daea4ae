-- A network after a prefix of a story, with all its channels: what is kept along a run.
use Rattle.std.specs.Prelude.{ℕ, Bool, ◌≡◌, ◌<◌, ◌≤◌, ◌⊎◌, ◌==◌, true, false, List, [], ◌∷◌, ◌++◌, Option, Some, slice_get}
use Rattle.mq_message.specs.declared.message.Ident.{Ident}
use Rattle.mq_frame.specs.declared.frame.Frame.{Frame}
use Rattle.mq_sync.specs.declared.unit.Unit.{Unit as Luw}
use Rattle.mq_sync.specs.Units.{Upto}
use Rattle.mq_sender.specs.declared.state.SenderState.{SenderState}
use Rattle.mq_sender.specs.declared.state.SenderState.TheVariants as sender_states
use Rattle.mq_calls.specs.declared.agents.Note.TheVariants as notes
use Rattle.mq_calls.specs.declared.deltas.Did.TheVariants as did
use Rattle.mq_history.specs.declared.calls.Actor.TheVariants as actors
use Rattle.mq_history.specs.declared.calls.Entry.{Entry}
use Rattle.mq_history.specs.declared.history.History.{History}
use Rattle.mq_history.specs.declared.story.ManagerPlaces.{ManagerPlaces}
use Rattle.mq_history.specs.declared.scenario.CableLine.{CableLine}
use Rattle.mq_history.specs.declared.scenario.Scenario.{Scenario}
use Rattle.mq_calls.specs.State.{Plain}
use Rattle.mq_spec_node.specs.Node.{Node}
use Rattle.mq_calls.specs.declared.choices.Choice.TheVariants.{Runs, Stopped}
use Rattle.mq_history.specs.declared.calls.Chance.{Chance}
use Rattle.mq_history.specs.declared.calls.Chance.TheVariants as chances
use Rattle.mq_history.specs.declared.acts.Acted.TheVariants as acted
use Rattle.mq_history.specs.declared.calls.Reply.TheVariants as replies
use Rattle.mq_calls.specs.State.{LogState, Noted}
use Rattle.mq_calls.specs.State.Running.{Down, Up}
use Rattle.mq_spec_manager.specs.Stops.{redone_delta, restarted, stop_at}
use Rattle.mq_spec_node.specs.Deeds.{CanCome, Deed, Done, begun_anew, done, quiet}
use Rattle.mq_spec_node.specs.Happens.{crashed}
use Rattle.mq_spec_node.specs.Replays.{done_by}
use Rattle.mq_spec_network.specs.Conflict.{deeds, is_committed}
use Rattle.mq_spec_network.specs.Given.{name_at}
use Rattle.mq_spec_network.specs.Ledger.{Ledger, ledger, ledger_rows}
use Rattle.mq_spec_network.specs.Order.{OrderAt, unit_received}
use Rattle.mq_spec_network.specs.Promised.{AreDistinct, all_standing}
use Rattle.mq_spec_network.specs.Standing.{managers_at, node_after, opening_ledger, opening_managers, rows_told, standing}
use Rattle.mq_spec_network.specs.Story.{Line, Mem}
use Rattle.mq_law_channel.specs.Channel.{Channel, Facts, Past}
use Rattle.mq_law_node.specs.Ends.{Where}
use Rattle.mq_law_node.specs.Nodes.{FarNode, NearNode, SameFar, SameNear}
use Rattle.mq_law_rows.specs.World.{Ghost, is_last}
use Rattle.mq_law_seen.specs.Seen.{book_of, holds_of, world_of}
use Rattle.mq_law_events.specs.Tied.{IsTold}
use Rattle.mq_law_deeds.specs.from_law_unshared.Unshared.{WhereUp}
use Rattle.mq_law_stopped.specs.from_law_turns.Agreed.{IsToldOf}
use Rattle.mq_law_cables.specs.Joints.{AreCabled, AreJoint}
use Rattle.mq_law_deeds.specs.Numbers.{AreCountedAt}
use Rattle.mq_law_stopped.specs.Noted.{EndNote}
use Rattle.mq_law_one.specs.Alone.{IsAt}
use Rattle.mq_law_run.specs.Ordered.{AreForced, AreListed, forced_over}

-- a ledger has places where it had some
abbrev pub Housed : Ledger → Ledger → Type 0
Housed l k = (a : ℕ) (y : ManagerPlaces) → slice_get k.places a ≡ Some y → (w : ManagerPlaces) × (slice_get l.places a ≡ Some w)

-- where the ends of a cable stand, at its sender's manager and at its receiver's
abbrev pub near_at : Scenario → ℕ → CableLine → Where
near_at s i k = record { cable = i; channel = k.channel; partner = name_at s k.receiver }

abbrev pub far_at : Scenario → ℕ → CableLine → Where
far_at s i k = record { cable = i; channel = k.channel; partner = name_at s k.sender }

-- all of these frames are among those
abbrev pub Among : List Frame → List Frame → Type 0
Among xs ys = (f : Frame) → Mem f xs → Mem f ys

-- One cable: its channel has the facts, and the nodes of its two managers are its halves.
pub record IsLine (s : Scenario) (hs : List History) (p : List Line) (i : ℕ) (k : CableLine) (x : Channel) (y : Past) : Type 0 where
  pub facts : Facts x y
  pub near : (h : History) → slice_get hs k.sender ≡ Some h → NearNode (near_at s i k) (node_after s k.sender p h) x
  pub far : (h : History) → slice_get hs k.receiver ≡ Some h → FarNode (far_at s i k) (node_after s k.receiver p h) x

-- what its ends have offered is among what the channel knows
pub record AreOffered (p : List Line) (i : ℕ) (k : CableLine) (x : Channel) : Type 0 where
  pub out : (o : Entry) (f : Frame) → Mem (record { manager = k.sender; entry = o }) p → o.actor ≡ actors.Sender i → o.effect.pushed ≡ Some f → Mem f x.out
  pub back : (o : Entry) (f : Frame) → Mem (record { manager = k.receiver; entry = o }) p → o.actor ≡ actors.Receiver i → o.effect.pushed ≡ Some f → Mem f x.back

-- A unit that its sender's log had in doubt at the opening. Of all others it is known that they were taken from the front of their queue.
abbrev pub WasInDoubt : Scenario → List History → ℕ → List ℕ → Luw → Type 0
WasInDoubt s hs m c u = is_last (holds_of c (slice_get (opening_managers s hs) m)) u ≡ true

-- a sender's end that has hardened the session in which it offers
abbrev pub is_hailed : SenderState → Bool
is_hailed sender_states.Inactive = false
is_hailed (sender_states.Stopped cause) = false
is_hailed sender_states.Starting = false
is_hailed sender_states.Hailing = true
is_hailed sender_states.Binding = true
is_hailed sender_states.Running = true
is_hailed (sender_states.Sending sent number) = true
is_hailed sender_states.Ready = true
is_hailed sender_states.Waiting = true

-- What a step of a sender's end leaves: its hardened session never falls; it has hailed since it hardened one more; and it offers in that alone.
pub record IsLater (x z : Channel) : Type 0 where
  pub session : x.sends.session ≤ z.sends.session
  pub hailed : is_hailed z.sender.state ≡ true → (is_hailed x.sender.state ≡ true) ⊎ (x.sends.session < z.sends.session)
  pub out : (f : Frame) → Mem f z.out → Mem f x.out ⊎ ((is_hailed x.sender.state ≡ true) × (f.session ≡ x.sends.session))

-- A unit of an earlier session: the sender's is not below its, and is above it where the end has hailed, as are those of all that it has offered.
pub record IsAnew (u : Luw) (x : Channel) : Type 0 where
  pub session : u.session ≤ x.sends.session
  pub hailed : is_hailed x.sender.state ≡ true → u.session < x.sends.session
  pub out : (f : Frame) → Mem f x.out → u.session < f.session

-- What is kept along a run: the network's facts and all channels'; what each manager has, and what is told of it.
pub record Stand (s : Scenario) (hs : List History) (p : List Line) : Type 0 where
  pub given : Ident → Bool
  pub ghost : Ghost
  pub xs : ℕ → List ℕ → Channel
  pub ys : ℕ → List ℕ → Past
  pub joint : AreJoint (world_of s given (managers_at s p hs)) ghost (book_of (ledger (opening_ledger s hs) p)) s.cables xs ys
  pub lines : (i : ℕ) (k : CableLine) → slice_get s.cables i ≡ Some k → IsLine s hs p i k (xs k.sender k.channel) (ys k.sender k.channel)
  pub offered : (i : ℕ) (k : CableLine) → slice_get s.cables i ≡ Some k → AreOffered p i k (xs k.sender k.channel)
  pub told : (k : CableLine) → Mem k s.cables → IsToldOf s (opening_managers s hs) (deeds p) k.sender k.channel (xs k.sender k.channel) (ys k.sender k.channel)
  pub resolved : (m : ℕ) (c : List ℕ) (u : Luw) → ghost.operated m c u ≡ true → Mem (record { manager = m; did = did.Hardened c (notes.Resolved u true true) }) (deeds p)
  pub not_yet : (m : ℕ) (c : List ℕ) (u : Luw) → ghost.operated m c u ≡ true → is_committed s (opening_managers s hs) (deeds p) c u ≡ false
  pub risen : (k : CableLine) → Mem k s.cables → (u : Luw) → is_committed s (opening_managers s hs) (deeds p) k.channel u ≡ true → Upto u (xs k.sender k.channel).receives.unit
  pub owned : (m : ℕ) (c : List ℕ) (u : Luw) → ghost.operated m c u ≡ true → (i : ℕ) × (k : CableLine) × (slice_get s.cables i ≡ Some k) × (k.sender ≡ m) × (k.channel ≡ c)
  pub loose : (m : ℕ) (c : List ℕ) (u : Luw) → ghost.loose m c u ≡ true → WasInDoubt s hs m c u
  pub at : (m : ℕ) (h : History) → slice_get hs m ≡ Some h → IsAt (EndNote s (deeds p) xs m) m given (node_after s m p h) (ledger (opening_ledger s hs) p)
  pub counted : (m : ℕ) (h : History) → slice_get hs m ≡ Some h → AreCountedAt (node_after s m p h).manager.numbers.connections m (ledger (opening_ledger s hs) p)
  pub cabled : (m : ℕ) (h : History) → slice_get hs m ≡ Some h → AreCabled s.cables m (node_after s m p h).manager
  pub housed : (a : ℕ) (y : ManagerPlaces) → slice_get (ledger (opening_ledger s hs) p).places a ≡ Some y → (h : History) × (slice_get hs a ≡ Some h)
  pub unshared : (m : ℕ) (h : History) → slice_get hs m ≡ Some h → WhereUp (node_after s m p h)
  pub anew : (k : CableLine) → Mem k s.cables → (u : Luw) → WasInDoubt s hs k.sender k.channel u → IsAnew u (xs k.sender k.channel)
  pub listed : AreListed ghost (book_of (ledger (opening_ledger s hs) p)).rows (forced_over [] p)

-- A cable's channel and its past after an event of manager m, whose node is then this one.
pub record IsMoved (s : Scenario) (m : ℕ) (next : Node) (i : ℕ) (k : CableLine) (x : Channel) (z : Channel) (q : Past) : Type 0 where
  pub facts : Facts z q
  pub near : k.sender ≡ m → NearNode (near_at s i k) next z × SameFar x z × Among x.out z.out
  pub far : k.receiver ≡ m → FarNode (far_at s i k) next z × SameNear x z × Among x.back z.back
  pub later : k.sender ≡ m → IsLater x z
  pub else : (k.sender == m) ≡ false → (k.receiver == m) ≡ false → z ≡ x

-- What an event of the story comes to, the entry x more, from what was kept before it: with this done, and this ledger.
pub record MovesTo (s : Scenario) (hs : List History) (p : List Line) (x : Line) (h : History) (z : Stand s hs p) (d : Done) (l : Ledger) : Type 0 where
  pub given : Ident → Bool
  pub ghost : Ghost
  pub xs : ℕ → List ℕ → Channel
  pub ys : ℕ → List ℕ → Past
  pub joint : AreJoint (world_of s given (managers_at s (p ++ x ∷ []) hs)) ghost (book_of l) s.cables xs ys
  pub moved : (i : ℕ) (k : CableLine) → slice_get s.cables i ≡ Some k → IsMoved s x.manager d.next i k (z.xs k.sender k.channel) (xs k.sender k.channel) (ys k.sender k.channel)
  pub out : (i : ℕ) (k : CableLine) (f : Frame) → slice_get s.cables i ≡ Some k → k.sender ≡ x.manager → x.entry.actor ≡ actors.Sender i → x.entry.effect.pushed ≡ Some f → Mem f (xs k.sender k.channel).out
  pub back : (i : ℕ) (k : CableLine) (f : Frame) → slice_get s.cables i ≡ Some k → k.receiver ≡ x.manager → x.entry.actor ≡ actors.Receiver i → x.entry.effect.pushed ≡ Some f → Mem f (xs k.sender k.channel).back
  pub told : (k : CableLine) → Mem k s.cables → IsToldOf s (opening_managers s hs) (deeds (p ++ x ∷ [])) k.sender k.channel (xs k.sender k.channel) (ys k.sender k.channel)
  pub resolved : (m : ℕ) (c : List ℕ) (u : Luw) → ghost.operated m c u ≡ true → Mem (record { manager = m; did = did.Hardened c (notes.Resolved u true true) }) (deeds (p ++ x ∷ []))
  pub not_yet : (m : ℕ) (c : List ℕ) (u : Luw) → ghost.operated m c u ≡ true → is_committed s (opening_managers s hs) (deeds (p ++ x ∷ [])) c u ≡ false
  pub risen : (k : CableLine) → Mem k s.cables → (u : Luw) → is_committed s (opening_managers s hs) (deeds (p ++ x ∷ [])) k.channel u ≡ true → Upto u (xs k.sender k.channel).receives.unit
  pub owned : (m : ℕ) (c : List ℕ) (u : Luw) → ghost.operated m c u ≡ true → (i : ℕ) × (k : CableLine) × (slice_get s.cables i ≡ Some k) × (k.sender ≡ m) × (k.channel ≡ c)
  pub loose : (m : ℕ) (c : List ℕ) (u : Luw) → ghost.loose m c u ≡ true → z.ghost.loose m c u ≡ true
  pub at : IsAt (EndNote s (deeds p) xs x.manager) x.manager given d.next l
  pub known : (i : Ident) → (i.manager == (node_after s x.manager p h).manager.given.number) ≡ false → given i ≡ z.given i
  pub others : (a : ℕ) (r : Plain) → (a == x.manager) ≡ false → IsTold a r (ledger (opening_ledger s hs) p) → IsTold a r l
  pub users : (a : ℕ) → (a == x.manager) ≡ false → slice_get l.users a ≡ slice_get (ledger (opening_ledger s hs) p).users a
  pub counted : AreCountedAt d.next.manager.numbers.connections x.manager l
  pub cabled : AreCabled s.cables x.manager d.next.manager
  pub housed : Housed (ledger (opening_ledger s hs) p) l
  pub listed : AreForced z.ghost ghost x.entry.effect.delta (book_of (ledger (opening_ledger s hs) p)).rows (book_of l).rows
  pub order : OrderAt (unit_received x.entry.effect.delta) (forced_over [] p) x (ledger (opening_ledger s hs) p) l

-- with what the entry's event does, and what is posted of it
abbrev pub Moves : (s : Scenario) (hs : List History) (p : List Line) → Line → History → Stand s hs p → Type 0
Moves s hs p x h z = MovesTo s hs p x h z (done_by x.entry (node_after s x.manager p h)) (ledger (opening_ledger s hs) (p ++ x ∷ []))

-- the deed of an entry ran, at a manager that is up
pub record IsRunning (s : Scenario) (p : List Line) (x : Line) (h : History) (d : Deed) : Type 0 where
  pub up : (node_after s x.manager p h).manager.running ≡ Up
  pub is : done_by x.entry (node_after s x.manager p h) ≡ done d Runs (node_after s x.manager p h)
  pub can : CanCome d Runs (node_after s x.manager p h)

-- what a stop is, and a restart that finds no write
abbrev pub stopped_done : Node → Done
stopped_done n = crashed (stop_at Up n.manager) n

abbrev pub risen_done : ℕ → Option Noted → Node → Done
risen_done started noted n = quiet (replies.Acted acted.Done) [] (begun_anew (restarted false started noted n.manager) n.own)

-- and one that finds the write
abbrev pub back_done : ℕ → Noted → Node → Done
back_done started noted n = quiet (replies.Acted acted.Done) (redone_delta true (Some noted) n.manager) (begun_anew (restarted true started (Some noted) n.manager) n.own)

-- a manager whose restart failed
abbrev pub failed_node : Option Noted → ℕ → LogState → Node → Node
failed_node noted more g n = record { manager = record n.manager { running = Down noted more; log = g }; own = n.own }

-- a call whose write is stopped
abbrev pub is_stopped_call : Chance → Bool
is_stopped_call (chances.Call (Stopped by part left)) = true
is_stopped_call _ = false

-- each cable's sender has a history
abbrev pub HaveSenders : Scenario → List History → Type 0
HaveSenders s hs = (k : CableLine) → Mem k s.cables → (g : History) × (slice_get hs k.sender ≡ Some g)

-- The rows of a prefix are as promised: the standing rows of each queue are the ledger's, list for list; each ident stands once, and is in at
-- most one committed get. (`Holds` has beside that each receiver's commit kept the order.)
pub record HoldsRows (s : Scenario) (hs : List History) (p : List Line) : Type 0 where
  pub rows : (m : ℕ) (name : List ℕ) → rows_told (standing s (managers_at s p hs) m name) ≡ rows_told (ledger_rows m name (ledger (opening_ledger s hs) p))
  pub once : AreDistinct (all_standing s (managers_at s p hs))
  pub got_once : AreDistinct (ledger (opening_ledger s hs) p).got
