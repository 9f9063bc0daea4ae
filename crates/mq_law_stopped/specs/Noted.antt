-- What the stopped write of a channel's end leaves: a step of its channel, and the change of the network that a restart may still do.
use Rattle.std.specs.Prelude.{ℕ, Bool, true, false, not, ◌&&◌, ◌≡◌, ◌≢◌, ◌==◌, ◌⊎◌, List, [], ◌∷◌, Ok, Option, Some, None, map, slice_get}
use Rattle.mq_message.specs.declared.message.Message.{Message}
use Rattle.mq_message.specs.declared.place.Holder.TheVariants as holders
use Rattle.mq_queue.specs.declared.row.Row.{Row}
use Rattle.mq_queue.specs.Rows.{keep}
use Rattle.mq_sync.specs.declared.unit.Unit.{Unit as Luw}
use Rattle.mq_sync.specs.declared.unit.Settle.{Settle}
use Rattle.mq_sync.specs.declared.unit.Settle.TheVariants as settles
use Rattle.mq_sync.specs.declared.data.End.TheVariants as ends
use Rattle.mq_sync.specs.declared.data.InDoubt.{InDoubt}
use Rattle.mq_sync.specs.Settlement.{is_commit, receiver_or, sender_or}
use Rattle.mq_sync.specs.Units.{Upto}
use Rattle.mq_sender.specs.declared.turns.SenderDoes.{SenderDoes}
use Rattle.mq_sender.specs.declared.turns.SenderDoes.TheVariants as does
use Rattle.mq_sender.specs.declared.turns.SenderOut.TheVariants as outs
use Rattle.mq_receiver.specs.declared.turns.ReceiverDoes.TheVariants as takes
use Rattle.mq_receiver.specs.declared.turns.ReceiverOut.TheVariants as done
use Rattle.mq_calls.specs.declared.agents.Note.{Note}
use Rattle.mq_calls.specs.declared.agents.Note.TheVariants as notes
use Rattle.mq_calls.specs.declared.deltas.Did.{Did}
use Rattle.mq_calls.specs.declared.deltas.Did.TheVariants as did
use Rattle.mq_calls.specs.declared.state.Batch.{Batch}
use Rattle.mq_history.specs.declared.scenario.CableLine.{CableLine}
use Rattle.mq_history.specs.declared.scenario.Scenario.{Scenario}
use Rattle.mq_calls.specs.State.{LogState, Noted, Plain, Running}
use Rattle.mq_calls.specs.State.Running.{Up}
use Rattle.mq_calls.specs.Reads.{batch_of, in_doubt_of, receiver_data, sender_data, stored}
use Rattle.mq_calls.specs.Changes.{apply_all}
use Rattle.mq_calls.specs.Images.{lasting}
use Rattle.mq_calls.specs.Steps.{Part, do_part, freeze, volatile_gone}
use Rattle.mq_calls.specs.declared.records.LogRecord.{LogRecord}
use Rattle.mq_sc_parse.specs.declared.command.Command.TheVariants as lines
use Rattle.mq_history.specs.declared.acts.Act.TheVariants as acts
use Rattle.mq_history.specs.declared.calls.Call.{Call}
use Rattle.mq_history.specs.declared.calls.Call.TheVariants as calls
use Rattle.mq_spec_manager.specs.Stops.{redone, redone_delta, restarted}
use Rattle.mq_spec_manager.specs.Agents.{Landed, harden_part, landed, prepared_changes, received_part, received_record}
use Rattle.mq_spec_network.specs.Conflict.{Deed as ToldDeed}
use Rattle.mq_spec_network.specs.Ledger as ledgers
use Rattle.mq_spec_network.specs.Ledger.{Ledger}
use Rattle.mq_spec_network.specs.Order.{sent_idents, unit_received}
use Rattle.mq_spec_network.specs.Story.{Mem}
use Rattle.mq_spec_node.specs.Node.{Node, end_in}
use Rattle.mq_spec_node.specs.Node.ChannelEnd.{Sends}
use Rattle.mq_law_channel.specs.Channel.{Channel, Facts, Past}
use Rattle.mq_spec_node.specs.Deeds.{Deed}
use Rattle.mq_law_channel.specs.Turns.{ReceiverTurn, SenderTurn, receiver_does, receiver_turn, sender_does}
use Rattle.mq_law_manager.specs.Facts.{IsSound}
use Rattle.mq_law_node.specs.Data.{receiver_by_all, sender_by_all, sends_at}
use Rattle.mq_law_node.specs.Ends.{sender_of, stamped, told_receives, told_sends}
use Rattle.mq_law_node.specs.Moves.{FarStep, NearMay, NearStep, far_does, near_does, near_past}
use Rattle.mq_law_node.specs.Nodes.{FarMayLater}
use Rattle.mq_law_found.specs.Finds.{posted_again, since}
use Rattle.mq_law_turns.specs.from_law_batches.Releases.{IsWord, settled_changes}
use Rattle.mq_law_turns.specs.from_law_receipts.Receipts.{Comes}
use Rattle.mq_law_turns.specs.Agreed.{IsToldOf}
use Rattle.mq_law_turns.specs.Turns.{IsJoint, Scene, Taken, TurnedBy, world_in}
use Rattle.mq_law_found.specs.from_law_events.Tied.{IsFresh, IsNext, IsTold}
use Rattle.mq_law_turns.specs.from_law_rows.Kinds.{Landing, among, place_all}
use Rattle.mq_law_turns.specs.from_law_rows.World.{World, tag_idents}
use Rattle.mq_law_turns.specs.from_law_seen.Seen.{book_of, world_of}

-- a turn of a sender that came to this
pub record IsTurn (t : SenderTurn) (d : SenderDoes) (x : Channel) : Type 0 where
  pub done : t.outcome ≡ outs.Done
  pub does : sender_does t x ≡ d

-- it settles the unit in doubt so
abbrev pub IsSettling : SenderDoes → Bool → Type 0
IsSettling (does.Bound (Some settles.Commit) partner) commit = commit ≡ true
IsSettling (does.Bound (Some settles.Backout) partner) commit = commit ≡ false
IsSettling does.Commit commit = commit ≡ true
IsSettling (does.Backout reason) commit = commit ≡ false
IsSettling _ commit = ⊥

-- What an operator's commit rests on, and tells: the sender holds the unit, its receiver has not committed it, and of each row that the batch holds
-- it is told that it was sent.
pub record IsForcing (w : World) (m : ℕ) (c : List ℕ) (u : Luw) (ds : List Did) : Type 0 where
  pub holds : w.holds m c ≡ Some u
  pub new : w.last m c ≢ u
  pub told : Mem (did.Hardened c (notes.Resolved u true true)) ds
  pub rows : (q : List ℕ) (r : Row) → Mem r (w.rows m q) → r.by ≡ Some (holders.Batch c) → Mem r.message.ident (sent_idents ds)

-- What a sender's write is: by its turn a session that is hardened, a batch that is prepared, a unit that is settled; by an operator a
-- unit that is settled, or the last number.
pub data SenderKind (c : List ℕ) (b : Plain) (note : Noted) (x : Channel) (step : NearStep) : Type 0 where
  Begins : (t : SenderTurn) → (partner : List ℕ) → (session : ℕ) → step ≡ NearStep.Turn t → IsTurn t (does.HardenSession session) x → note.changes ≡ (harden_part c (notes.Session partner session) b).changes → SenderKind c b note x step
  Prepares : (t : SenderTurn) → (batch : Batch) → (last : ℕ) → step ≡ NearStep.Turn t → IsTurn t does.Prepare x → batch_of c b.channels.batches ≡ Some batch → note.changes ≡ prepared_changes c last batch (sender_or (sender_data c b)) → SenderKind c b note x step
  Settles : (t : SenderTurn) → (d : SenderDoes) → (commit : Bool) → step ≡ NearStep.Turn t → IsTurn t d x → IsSettling d commit → batch_of c b.channels.batches ≡ None → note.changes ≡ settled_changes commit c (sender_or (sender_data c b)) → SenderKind c b note x step
  Resolves : (settle : Settle) → (d : InDoubt) → step ≡ NearStep.Resolve settle d → batch_of c b.channels.batches ≡ None → note.changes ≡ settled_changes (is_commit settle) c (sender_or (sender_data c b)) → Mem (did.Hardened c (notes.Resolved d.unit (is_commit settle) true)) note.delta
      → (is_commit settle ≡ true → (q : List ℕ) (r : Row) → Mem r (stored q b).rows → r.by ≡ Some (holders.Batch c) → Mem r.message.ident (sent_idents note.delta)) → SenderKind c b note x step
  Numbers : (last : ℕ) → step ≡ NearStep.Number last → note.changes ≡ (harden_part c (notes.SeqSet ends.Sender last) b).changes → SenderKind c b note x step

-- A sender's noted write: a step that its channel may take, which offers nothing, and what it is.
pub record SenderNote (c : List ℕ) (b : Plain) (note : Noted) (x : Channel) : Type 0 where
  pub step : NearStep
  pub may : NearMay step x
  pub data_ : told_sends (near_does step x).sends ≡ told_sends (sender_or (sender_by_all c note.changes (sender_data c b)))
  pub out : (near_does step x).out ≡ x.out
  pub kind : SenderKind c b note x step
  pub quiet : unit_received note.delta ≡ None

-- A receiver's, but for its commit: a word that it hardens.
pub record ReceiverNote (c : List ℕ) (b : Plain) (note : Noted) (x : Channel) : Type 0 where
  pub step : FarStep
  pub may : FarMayLater step x
  pub data_ : told_receives (far_does step x).receives ≡ told_receives (receiver_or (receiver_by_all c note.changes (receiver_data c b)))
  pub back : (far_does step x).back ≡ x.back
  pub unit : (far_does step x).receives.unit ≡ x.receives.unit
  pub calm : (t : ReceiverTurn) (u : Luw) → step ≡ FarStep.Turn t → t.outcome ≡ done.Done → receiver_does t x ≡ takes.Place u → ⊥
  pub word : Note
  pub is : IsWord word
  pub says : note.changes ≡ (harden_part c word b).changes
  pub quiet : unit_received note.delta ≡ None

-- no channel has both a batch and a unit in doubt
abbrev pub IsOne_ : Plain → Type 0
IsOne_ p = (d : List ℕ) (t : Batch) → batch_of d p.channels.batches ≡ Some t → in_doubt_of (sender_data d p) ≡ None

-- A restart that finds it has a sound manager, and the ledger posts nothing.
pub record IsLeft (m : ℕ) (st : ledgers.Stopped) (note : Noted) (b : Plain) : Type 0 where
  pub sound : (started : ℕ) (running : Running) (moment : ℕ) (log : LogState) → IsSound (restarted true started (Some note) (since b running moment log))
  pub posts : (p : Plain) (l : Ledger) → posted_again m st (redone_delta true (Some note) p) l ≡ l
  pub one : IsOne_ (apply_all note.changes b)

-- told of a manager
abbrev pub told_at : ℕ → Did → ToldDeed
told_at m d = record { manager = m; did = d }

-- a manager as its stopped write has left it
abbrev pub left_as : Plain → Plain
left_as p = record p { running = Up; moment = 0; log = record { length = 0; armed = 0 } }

-- the note of a part whose record is stopped
abbrev pub noted_of : Part → LogRecord → Noted
noted_of part r = record { written = r; changes = part.changes; delta = part.delta }

-- What a receiver's turn is that comes to a commit, with what its messages land by.
pub record IsCommitting (c : List ℕ) (b : Plain) (x : Channel) (turn : ReceiverTurn) (part : Part) (r : LogRecord) : Type 0 where
  pub unit : Luw
  pub last : ℕ
  pub land : Landed
  pub ran : turn.outcome ≡ done.Done
  pub does : receiver_does turn x ≡ takes.Place unit
  pub lands : landed c (map stamped x.kept) b ≡ Ok land
  pub part_ : part ≡ received_part c unit last land b
  pub record_ : r ≡ received_record c unit last land

-- The noted write of a receiver's commit: the manager as it was when its turn was stopped, and the turn. Each message of the unit stood nowhere
-- there then, or in a row of a unit in doubt; or an operator had backed the unit out at its sender, which is told.
pub record CommitNote (ds : List ToldDeed) (sender : ℕ) (c : List ℕ) (st : ledgers.Stopped) (note : Noted) (b : Plain) (x : Channel) : Type 0 where
  pub was : Plain
  pub turn : ReceiverTurn
  pub part : Part
  pub force : LogRecord
  pub commits : IsCommitting c was x turn part force
  pub is : note ≡ noted_of part force
  pub may : FarMayLater (FarStep.Turn turn) x
  pub data_ : told_receives (far_does (FarStep.Turn turn) x).receives ≡ told_receives (receiver_or (receiver_by_all c note.changes (receiver_data c b)))
  pub back : (far_does (FarStep.Turn turn) x).back ≡ x.back
  pub left : b ≡ left_as (volatile_gone was)
  pub whole : IsSound was
  pub call : st.entry.call ≡ calls.Turn
  pub received : st.entry.effect.received ≡ commits.land.taken
  pub moment : st.moment ≡ was.moment
  pub sound : (started : ℕ) (running : Running) (moment : ℕ) (log : LogState) → IsSound (restarted true started (Some note) (since b running moment log))
  pub one : IsOne_ (apply_all note.changes b)
  pub agrees : Mem (told_at sender (did.Hardened c (notes.Resolved commits.unit false true))) ds ⊎ ((m : Message) → Mem m (map stamped x.kept) → Comes was m)

-- The noted write of an end of manager m, which is left as b, among these channels, where this is told: of a sender's end, of a receiver's, or
-- a receiver's commit.
pub data EndNote (s : Scenario) (ds : List ToldDeed) (xs : ℕ → List ℕ → Channel) (m : ℕ) (st : ledgers.Stopped) (note : Noted) (b : Plain) : Type 0 where
  Near : (i : ℕ) → (k : CableLine) → slice_get s.cables i ≡ Some k → k.sender ≡ m → IsLeft m st note b → SenderNote k.channel b note (xs k.sender k.channel) → EndNote s ds xs m st note b
  Far : (i : ℕ) → (k : CableLine) → slice_get s.cables i ≡ Some k → k.receiver ≡ m → IsLeft m st note b → ReceiverNote k.channel b note (xs k.sender k.channel) → EndNote s ds xs m st note b
  Commits : (i : ℕ) → (k : CableLine) → slice_get s.cables i ≡ Some k → k.receiver ≡ m → CommitNote ds k.sender k.channel st note b (xs k.sender k.channel) → EndNote s ds xs m st note b

-- What a found write of a sender comes to, with this channel and this past: as a turn that ran.
pub record RedoneTo (z : Scene) (note : Noted) (x : Channel) (y : Past) (k : Channel) (l : Past) (rs : List Plain) : Type 0 where
  pub by : Option Luw
  pub turned : TurnedBy by z (world_of z.scenario z.given rs) k l
  pub tells : (ps : List Plain) (ds : List ToldDeed) → ((w : Note) → Mem (did.Hardened z.place.channel w) note.delta → Mem (told_at z.sender (did.Hardened z.place.channel w)) ds) → IsToldOf z.scenario ps ds z.sender z.place.channel x y → IsToldOf z.scenario ps ds z.sender z.place.channel k l
  pub commits : (u : Luw) → by ≡ Some u → Mem (did.Hardened z.place.channel (notes.Resolved u true true)) note.delta × (Upto u x.receives.unit → ⊥)
  pub forces : (u : Luw) → by ≡ Some u → IsForcing (world_in z) z.sender z.place.channel u note.delta

abbrev pub Redone : (z : Scene) (note : Noted) (x : Channel) (y : Past) (step : NearStep) (rs : List Plain) → Type 0
Redone z note x y step rs = RedoneTo z note x y (near_does step x) (near_past step x y) rs

-- where the end stands at a manager that is down, and what is left of its facts
pub record IsDown (z : Scene) (n : Node) (x : Channel) (y : Past) : Type 0 where
  pub at : slice_get z.managers z.sender ≡ Some n.manager
  pub here : end_in z.place.cable n.own.ends ≡ Some (Sends (sender_of z.place x.sender))
  pub data_ : told_sends x.sends ≡ told_sends (sends_at z.place.channel n.manager)
  pub facts : Facts x y
  pub joint : IsJoint (world_in z) z.ghost z.book z.sender z.receiver z.place.channel x y

-- what lasts of a part does not go by rows that do not last, nor by the moment and the log
abbrev pub Stays_ : Plain → Part → Type 0
Stays_ p part = (running : Running) (moment : ℕ) (log : LogState) → lasting (apply_all part.changes (since (volatile_gone p) running moment log)) ≡ lasting (do_part part p)

-- what is told takes nothing, moves nothing and receives nothing
abbrev pub is_calm : Did → Bool
is_calm (did.Removed q i why) = not (ledgers.is_taken why)
is_calm (did.Released q i) = true
is_calm (did.Hardened c w) = true
is_calm (did.Prepared c u) = true
is_calm _ = false

abbrev pub all_calm : List Did → Bool
all_calm [] = true
all_calm (d ∷ ds) = is_calm d && all_calm ds

-- a turn, or a command on an end
abbrev pub IsOfEnd : Call → Type 0
IsOfEnd calls.Turn = Unit {0}
IsOfEnd (calls.Act (acts.Obey (lines.Operate op))) = Unit {0}
IsOfEnd _ = ⊥

-- what holds of the record that a deed's first part forces
abbrev pub EachFirst : (Part → LogRecord → Type 0) → List Part → Type 0
EachFirst P [] = Unit {0}
EachFirst P (part ∷ parts) = (r : LogRecord) → part.forced ≡ Some r → P part r

abbrev pub EachWrites : (Part → LogRecord → Type 0) → Option Deed → Type 0
EachWrites P None = Unit {0}
EachWrites P (Some d) = EachFirst P d.parts

-- a sender's, with what is left where it is stopped
abbrev pub SaysSender : (c : List ℕ) (left : ℕ) (b : Plain) (x : Channel) (step : NearStep) → Part → LogRecord → Type 0
SaysSender c left b x step part r = SenderKind c (left_as (freeze (Some (noted_of part r)) left b)) (noted_of part r) x step × Stays_ b part × (all_calm part.delta ≡ true)

-- a word of a receiver
abbrev pub IsWordOf : (c : List ℕ) (b : Plain) → Part → Type 0
IsWordOf c b part = (w : Note) × IsWord w × (part ≡ harden_part c w b)

-- a receiver's turn: such a word, and nothing is committed; or a commit
abbrev pub SaysReceiver : (c : List ℕ) (b : Plain) (x : Channel) (t : ReceiverTurn) → Part → LogRecord → Type 0
SaysReceiver c b x t part r = (IsWordOf c b part × ((receiver_turn t x).receives.unit ≡ x.receives.unit) × ((u : Luw) → t.outcome ≡ done.Done → receiver_does t x ≡ takes.Place u → ⊥)) ⊎ IsCommitting c b x t part r

-- What a found commit comes to: a manager g of which the same lasts as of what the restart makes of the note, with what is posted of the
-- commit, and with what is posted of the restart, which tells less; when the manager is up again they are one.
pub record CommitFound (z : Scene) (p : Plain) (l : Ledger) (note : Noted) (st : ledgers.Stopped) (k : Channel) (y : Past) : Type 0 where
  pub behind : Plain
  pub posted : Ledger
  pub given : behind.given ≡ p.given
  pub moment : behind.moment ≡ p.moment
  pub channels : behind.channels ≡ (redone note p).channels
  pub lasts_ : lasting behind ≡ lasting (redone note p)
  pub taken : (rs : List Plain) → IsNext z.receiver p behind z.managers rs → Taken z (world_of z.scenario z.given rs) (book_of posted) k y
  pub fresh : IsFresh z.given behind
  pub told : IsTold z.receiver behind posted
  pub users : posted.users ≡ l.users
  pub now : IsTold z.receiver behind (posted_again z.receiver st (redone_delta true (Some note) p) l)
  pub now_users : (posted_again z.receiver st (redone_delta true (Some note) p) l).users ≡ l.users
  pub others : (a : ℕ) (r : Plain) → (a == z.receiver) ≡ false → IsTold a r l → IsTold a r (posted_again z.receiver st (redone_delta true (Some note) p) l)
  pub messages : ledgers.idents_of st.entry.effect.received ≡ tag_idents (z.ghost.sent z.sender z.place.channel k.receives.unit)
  pub placings : List Landing
  pub named : map (λ (o : Landing). o.row.message.ident) placings ≡ tag_idents (z.ghost.sent z.sender z.place.channel k.receives.unit)
  pub rows : (a : ℕ) (d : List ℕ) → ledgers.ledger_rows a d posted
      ≡ place_all z.receiver placings a d (keep (λ (o : Row). not (among (tag_idents (z.ghost.sent z.sender z.place.channel k.receives.unit)) o.message.ident)) (ledgers.ledger_rows a d l))
  pub books : book_of (ledgers.up_again z.receiver posted) ≡ book_of (ledgers.up_again z.receiver (posted_again z.receiver st (redone_delta true (Some note) p) l))
