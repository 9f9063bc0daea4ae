-- A call keeps what holds of a manager's rows: behind each of its parts. (So it holds where a later write is stopped, too.)
use Rattle.std.specs.Prelude.{ℕ, ◌≡◌, ◌≢◌, true, false, List, [], ◌∷◌, Some}
use Rattle.mq_objects.specs.Names.{local_of}
use Rattle.mq_calls.specs.State.{Plain, Change, Which}
use Rattle.mq_calls.specs.declared.state.Connection.{Connection}
use Rattle.mq_calls.specs.declared.state.SenderSide.{SenderSide}
use Rattle.mq_message.specs.declared.message.Ident.{Ident}
use Rattle.mq_message.specs.declared.place.Holder.TheVariants as holders
use Rattle.mq_queue.specs.declared.row.Row.{Row}
use Rattle.mq_calls.specs.State.Change.{Place as Places, Release, Pend, Connect, OpenHandle, ChangeObjects, DropQueue, SetSender}
use Rattle.mq_calls.specs.Reads.{connection_at, is_persistent}
use Rattle.mq_calls.specs.Changes.{apply, selects}
use Rattle.mq_calls.specs.declared.state.Item.TheVariants.{Put, Take}
use Rattle.mq_calls.specs.Steps.{Step, Part, do_part, logged}
use Rattle.mq_calls.specs.Steps.Step.{Refuse, Do}
use Rattle.mq_calls.specs.declared.records.Add.{Add}
use Rattle.mq_law_manager.specs.View.{view}
use Rattle.mq_law_manager.specs.Facts.{Mem, Sound, IsSound, IsFrozen, IsFit, IsLed, IsUnlisted, listed}
use Rattle.mq_calls.specs.declared.choices.Choice.{Choice}
use Rattle.mq_calls.specs.declared.choices.Choice.TheVariants.{Runs, NoMemory, Stopped}

abbrev pub AllKeep : (Plain → Type 0) → List Part → Plain → Type 0
AllKeep P [] p = Unit {0}
AllKeep P (part ∷ parts) p = P (do_part part p) × AllKeep P parts (do_part part p)

abbrev pub StepKeeps : {F T : Type 0} → (Plain → Type 0) → Step F T → Plain → Type 0
StepKeeps P (Refuse reason) p = Unit {0}
StepKeeps P (Do reply parts) p = AllKeep P parts p

-- the facts of rows
abbrev pub PartsKeep : List Part → Plain → Type 0
PartsKeep parts p = AllKeep Sound parts p

abbrev pub Keeps : {F T : Type 0} → Step F T → Plain → Type 0
Keeps step p = StepKeeps Sound step p

-- after a call, however its choice ends it
abbrev pub IsAfter : Choice → Plain → Type 0
IsAfter Runs p = IsSound p
IsAfter NoMemory p = IsSound p
IsAfter (Stopped by n left) p = IsFrozen p

-- an ident that a channel's unit in doubt may list: it was given, and waits in no unit; its row, where that lasts, is held for the
-- channel
pub record IsListable (channel : List ℕ) (i : Ident) (p : Plain) : Type 0 where
  pub given : (view p).unborn i ≡ false
  pub waits : (n : ℕ) (a : Add) → Mem a ((view p).puts n) → a.message.ident ≢ i
  pub rows : (q : List ℕ) (h : Row) → Mem h ((view p).rows q) → is_persistent h.message ≡ true → h.message.ident ≡ i → h.by ≡ Some (holders.Batch channel)

-- no unit in doubt has its row released
abbrev pub Releases : Which → Plain → Type 0
Releases which p = (q : List ℕ) (h : Row) (s : SenderSide) → Mem h ((view p).rows q) → selects which q h ≡ true → Mem s p.channels.senders → Mem h.message.ident (listed s.hardened.in_doubt) → h.by ≢ Some (holders.Batch s.channel)

-- What a change asks so that rows and uncommitted puts stay on queues that are defined and that they fit, and so on. (A
-- change of objects is looked at whole.)
abbrev pub Asks : Change → Plain → Type 0
Asks (Places name m) p = IsFit (local_of name p.definitions) m × (is_persistent m ≡ true → IsUnlisted m.ident p.channels.senders)
Asks (Release which counted) p = Releases which p
Asks (Pend n (Put queue m)) p = IsFit (local_of queue p.definitions) m × ((c : Connection) × (connection_at n p.connections ≡ Some c)) × IsUnlisted m.ident p.channels.senders
Asks (Pend n (Take queue i persistent)) p = (c : Connection) × (connection_at n p.connections ≡ Some c)
Asks (Connect c) p = (c.unit ≡ []) × (c.handles ≡ [])
Asks (OpenHandle n h) p = h.stale ≡ false → IsLed p.definitions h
Asks (SetSender channel d) p = (i : Ident) → Mem i (listed d.in_doubt) → IsListable channel i p
Asks (ChangeObjects change) p = ⊥
Asks (DropQueue name) p = ⊥
Asks _ p = Unit {0}

abbrev pub AllAsk : List Change → Plain → Type 0
AllAsk [] p = Unit {0}
AllAsk (c ∷ cs) p = Asks c p × AllAsk cs (apply c p)

abbrev pub PartsAsk : List Part → Plain → Type 0
PartsAsk [] p = Unit {0}
PartsAsk (part ∷ parts) p = AllAsk part.changes (logged part.forced p) × PartsAsk parts (do_part part p)
