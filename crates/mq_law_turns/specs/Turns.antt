-- A network and one channel of it: what ties the two, and what a turn of an end leaves of both.
use Rattle.std.specs.Prelude.{ℕ, Bool, true, false, not, ◌≡◌, ◌≢◌, ◌⊎◌, List, [], Option, Some, None, slice_get}
use Rattle.std.specs.Str.{bytes_eq}
use Rattle.mq_message.specs.declared.place.Holder.TheVariants as holders
use Rattle.mq_calls.specs.State.Change.{Hold}
use Rattle.mq_message.specs.declared.message.Ident.{Ident}
use Rattle.mq_sync.specs.declared.unit.Unit.{Unit as Luw}
use Rattle.mq_sync.specs.Units.{Upto}
use Rattle.mq_sender.specs.declared.turns.SenderDoes.{SenderDoes}
use Rattle.mq_sender.specs.declared.turns.SenderDoes.TheVariants as does
use Rattle.mq_history.specs.declared.scenario.Scenario.{Scenario}
use Rattle.mq_calls.specs.State.{Change, Plain}
use Rattle.mq_calls.specs.Steps.{Part, do_all, do_part, delta_of}
use Rattle.mq_calls.specs.Reads.{has_held_by_other}
use Rattle.mq_sender.specs.States.{is_running}
use Rattle.mq_spec_manager.specs.Agents.{Landed, queue_of_sender, received_part}
use Rattle.mq_spec_node.specs.Deeds.{Deed}
use Rattle.mq_spec_node.specs.Node.{Node}
use Rattle.mq_history.specs.declared.calls.Reply.{Reply}
use Rattle.mq_law_channel.specs.Channel.{Channel, Facts, Past}
use Rattle.mq_law_channel.specs.Facts.{now}
use Rattle.mq_law_story.specs.from_law_rows.Families.{is_here}
use Rattle.mq_law_story.specs.from_law_rows.World.{Book, Ghost, Inv, World}
use Rattle.mq_law_story.specs.from_law_seen.Seen.{world_of, book_of}
use Rattle.mq_law_batches.specs.from_law_events.Tied.{IsNext, AreShelved, Follow, IsFresh, IsTold}
use Rattle.mq_law_node.specs.Ends.{SendsAs, TakesAs, Where}
use Rattle.mq_law_story.specs.Needs.{IsTied}
use Rattle.mq_history.specs.declared.calls.Call.TheVariants as calls
use Rattle.mq_history.specs.declared.story.ManagerPlaces.{ManagerPlaces}
use Rattle.mq_message.specs.declared.message.Message.{Message}
use Rattle.mq_spec_network.specs.Ledger.{Ledger, post_call, take_all_gone}
use Rattle.mq_law_manager.specs.Facts.{IsSound}
use Rattle.mq_law_manager.specs.Kept.{AllKeep}
use Rattle.mq_law_batches.specs.from_law_events.Posting.{IsTimed}
use Rattle.mq_law_receipts.specs.Receipts.{AreNumbered, IsCabled, Receipt}
use Rattle.mq_law_node.specs.from_law_seized.Each.{all_of, parts_of_all}

-- a network and its ledger, with what the proof follows beside them, and one channel: its sender's and its receiver's manager, and
-- where its end stands
pub record Scene : Type 0 where
  pub scenario : Scenario
  pub given : Ident → Bool
  pub managers : List Plain
  pub ghost : Ghost
  pub book : Book
  pub sender : ℕ
  pub receiver : ℕ
  pub place : Where

abbrev pub world_in : Scene → World
world_in z = world_of z.scenario z.given z.managers

-- units that an operator has committed were begun
abbrev pub AreBegun : Ghost → ℕ → List ℕ → Past → Type 0
AreBegun g m c y = (u : Luw) → g.operated m c u ≡ true → Upto u (now y.near)

-- the network has the facts, and the channel is of one mind with it
pub record IsJoint (w : World) (g : Ghost) (b : Book) (m t : ℕ) (c : List ℕ) (x : Channel) (y : Past) : Type 0 where
  pub inv : Inv w g b
  pub tied : IsTied w g m t c x y
  pub begun : AreBegun g m c y

-- the sender's end stands there, up, with one channel's facts
pub record IsAt (z : Scene) (n : Node) (x : Channel) (y : Past) : Type 0 where
  pub at : slice_get z.managers z.sender ≡ Some n.manager
  pub sends : SendsAs z.place n x
  pub facts : Facts x y
  pub joint : IsJoint (world_in z) z.ghost z.book z.sender z.receiver z.place.channel x y

-- its manager stands there with the channel's facts, whatever its own end has: also where a write of its was stopped
pub record IsHere (z : Scene) (n : Node) (x : Channel) (y : Past) : Type 0 where
  pub at : slice_get z.managers z.sender ≡ Some n.manager
  pub facts : Facts x y
  pub joint : IsJoint (world_in z) z.ghost z.book z.sender z.receiver z.place.channel x y

-- and the receiver's end
pub record IsAtFar (z : Scene) (n : Node) (x : Channel) (y : Past) (l : Ledger) : Type 0 where
  pub at : slice_get z.managers z.receiver ≡ Some n.manager
  pub takes_ : TakesAs z.place n x
  pub facts : Facts x y
  pub joint : IsJoint (world_in z) z.ghost z.book z.sender z.receiver z.place.channel x y
  pub book : z.book ≡ book_of l

-- Where the sender runs, no unit and no other batch holds a row of the queue that it has open: so what an idle one takes there is the front.
abbrev pub IsAlone : Scene → Node → Channel → Type 0
IsAlone z n x = is_running x.sender.state ≡ true → has_held_by_other z.place.channel (queue_of_sender z.place.channel n.manager) n.manager ≡ false

-- So it is again; and what any other channel is tied to stays as it was, and what a unit has that an operator has committed. He may have committed
-- one with it.
pub record TurnedBy (o : Option Luw) (z : Scene) (v : World) (x : Channel) (y : Past) : Type 0 where
  pub ghost : Ghost
  pub joint : IsJoint v ghost z.book z.sender z.receiver z.place.channel x y
  pub sent : (a : ℕ) (d : List ℕ) (u : Luw) → is_here z.sender z.place.channel a d ≡ false → ghost.sent a d u ≡ z.ghost.sent a d u
  pub operated : (a : ℕ) (d : List ℕ) (u : Luw) → is_here z.sender z.place.channel a d ≡ false → ghost.operated a d u ≡ z.ghost.operated a d u
  pub own : (u : Luw) → ghost.operated z.sender z.place.channel u ≡ true → (z.ghost.operated z.sender z.place.channel u ≡ true) ⊎ (o ≡ Some u)
  pub kept : (u : Luw) → ghost.operated z.sender z.place.channel u ≡ true → ghost.sent z.sender z.place.channel u ≡ z.ghost.sent z.sender z.place.channel u
  pub loose : (a : ℕ) (d : List ℕ) (u : Luw) → ghost.loose a d u ≡ true → z.ghost.loose a d u ≡ true
  pub holds : (a : ℕ) (d : List ℕ) → is_here z.sender z.place.channel a d ≡ false → v.holds a d ≡ (world_in z).holds a d
  pub doubt : (a : ℕ) (d : List ℕ) → is_here z.sender z.place.channel a d ≡ false → v.doubt a d ≡ (world_in z).doubt a d
  pub last : (a : ℕ) (d : List ℕ) → v.last a d ≡ (world_in z).last a d

-- where none is
abbrev pub Turned : Scene → World → Channel → Past → Type 0
Turned z v x y = TurnedBy None z v x y

-- a deed of the sender's end that ran
abbrev pub EachTurned : Scene → Plain → Option Deed → Channel → Past → Type 0
EachTurned z p None x y = Unit {0}
EachTurned z p (Some d) x y = (rs : List Plain) → IsNext z.sender p (do_all d.parts p) z.managers rs → Turned z (world_of z.scenario z.given rs) x y

-- what the sender does is no removal of expired rows, which the ledger posts
abbrev pub is_expiry : SenderDoes → Bool
is_expiry does.Expire = true
is_expiry _ = false

-- Where the receiver may commit: what one manager, the ledger and the story give, beside one channel's facts.
pub record IsReady (z : Scene) (p : Plain) (l : Ledger) : Type 0 where
  pub cabled : IsCabled z.scenario z.managers z.sender z.receiver z.place.channel
  pub sound : IsSound p
  pub numbered : AreNumbered p.connections
  pub fresh : IsFresh z.given p
  pub told : IsTold z.receiver p l
  pub timed : IsTimed z.receiver p l
  pub shelved : (a : ℕ) (x : ManagerPlaces) → slice_get l.places a ≡ Some x → AreShelved x.queues

-- and where a restart finds a commit of it
pub record IsHome (z : Scene) (p : Plain) (l : Ledger) : Type 0 where
  pub cabled : IsCabled z.scenario z.managers z.sender z.receiver z.place.channel
  pub fresh : IsFresh z.given p
  pub told : IsTold z.receiver p l
  pub timed : IsTimed z.receiver p l
  pub shelved : (a : ℕ) (x : ManagerPlaces) → slice_get l.places a ≡ Some x → AreShelved x.queues

-- After a turn of the receiver's end, with this book.
pub record Taken (z : Scene) (v : World) (b : Book) (x : Channel) (y : Past) : Type 0 where
  pub ghost : Ghost
  pub joint : IsJoint v ghost b z.sender z.receiver z.place.channel x y
  pub sent : ghost.sent ≡ z.ghost.sent
  pub loose : ghost.loose ≡ z.ghost.loose
  pub operated : (a : ℕ) (d : List ℕ) (u : Luw) → is_here z.sender z.place.channel a d ≡ false → ghost.operated a d u ≡ z.ghost.operated a d u
  pub own : (u : Luw) → ghost.operated z.sender z.place.channel u ≡ true → (z.ghost.operated z.sender z.place.channel u ≡ true) × (v.last z.sender z.place.channel ≢ u ⊎ (v.last z.sender z.place.channel ≡ (world_in z).last z.sender z.place.channel))
  pub holds : (a : ℕ) (d : List ℕ) → v.holds a d ≡ (world_in z).holds a d
  pub doubt : (a : ℕ) (d : List ℕ) → v.doubt a d ≡ (world_in z).doubt a d
  pub last : (a : ℕ) (d : List ℕ) → is_here z.sender z.place.channel a d ≡ false → v.last a d ≡ (world_in z).last a d

-- behind a commit that is found, and posted
pub record Found (z : Scene) (p : Plain) (l : Ledger) (u : Luw) (last : ℕ) (ms : List Message) (x : Landed) (reply : Reply) (k : Channel) (y : Past) (rs : List Plain) : Type 0 where
  pub receipt : Receipt z.scenario z.given rs (do_part (received_part z.place.channel u last x p) p) l (post_call z.receiver calls.Turn reply ms (received_part z.place.channel u last x p).delta (take_all_gone z.receiver (received_part z.place.channel u last x p).delta l)) z.ghost z.sender z.receiver z.place.channel u
  pub taken : Taken z (world_of z.scenario z.given rs) (book_of (post_call z.receiver calls.Turn reply ms (received_part z.place.channel u last x p).delta (take_all_gone z.receiver (received_part z.place.channel u last x p).delta l))) k y

-- a deed of the receiver's end that ran, and was posted
abbrev pub EachTaken : Scene → Plain → Ledger → Option Deed → Channel → Past → Type 0
EachTaken z p l None x y = Unit {0}
EachTaken z p l (Some d) x y = (rs : List Plain) → IsNext z.receiver p (do_all d.parts p) z.managers rs
    → Taken z (world_of z.scenario z.given rs) (book_of (post_call z.receiver calls.Turn d.reply d.received (delta_of d.parts) (take_all_gone z.receiver (delta_of d.parts) l))) x y

-- a deed that is posted to no effect
abbrev pub EachPosted : ℕ → Ledger → Option Deed → Type 0
EachPosted m l None = Unit {0}
EachPosted m l (Some d) = (reply : Reply) (ms : List Message) → post_call m calls.Turn reply ms (delta_of d.parts) (take_all_gone m (delta_of d.parts) l) ≡ l

-- a deed that the ledger follows
abbrev pub EachFollowed : ℕ → (Ident → Bool) → Plain → Ledger → Option Deed → Type 0
EachFollowed m given p l None = Unit {0}
EachFollowed m given p l (Some d) = (reply : Reply) (ms : List Message) → Follow m given p l (do_all d.parts p) (post_call m calls.Turn reply ms (delta_of d.parts) (take_all_gone m (delta_of d.parts) l))

-- a manager at rest: what is hardened of its ends stays, and no batch is left
pub record IsAtRest (p q : Plain) : Type 0 where
  pub given : q.given ≡ p.given
  pub senders : q.channels.senders ≡ p.channels.senders
  pub receivers : q.channels.receivers ≡ p.channels.receivers
  pub batches : q.channels.batches ≡ []

-- a deed behind whose parts a manager's facts hold, behind each of them
abbrev pub EachSound : Plain → Option Deed → Type 0
EachSound p None = Unit {0}
EachSound p (Some d) = AllKeep IsSound d.parts p

-- no row is held for this channel's batch
abbrev pub is_for_others : List ℕ → Change → Bool
is_for_others channel (Hold which (holders.Batch other)) = not (bytes_eq channel other)
is_for_others channel _ = true

abbrev pub all_for_others : List ℕ → List Change → Bool
all_for_others channel cs = all_of (is_for_others channel) cs

abbrev pub parts_for_others : List ℕ → List Part → Bool
parts_for_others channel parts = parts_of_all (is_for_others channel) parts

abbrev pub EachForOthers : List ℕ → Option Deed → Type 0
EachForOthers channel None = Unit {0}
EachForOthers channel (Some d) = parts_for_others channel d.parts ≡ true
