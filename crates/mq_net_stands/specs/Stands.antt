-- Queues, channels and the ledger at the end, as the report has them.
use Rattle.std.specs.Prelude.{ℕ, ℤ, pos, negsuc, ◌==◌, min, Bool, true, false, List, [], ◌∷◌, ◌++◌, if◌then◌else◌, Option, Some, None, length, codes}
use Rattle.std.specs.List.{flat_map}
use Rattle.std.specs.Fmt.{decimal}
use Rattle.std.specs.Str.{bytes_eq}
use Rattle.mq_message.specs.Text.{ident_text}
use Rattle.mq_message.specs.declared.place.Holder.{Holder}
use Rattle.mq_message.specs.declared.place.Holder.TheVariants as holders
use Rattle.mq_queue.specs.declared.row.Row.{Row}
use Rattle.mq_sync.specs.declared.unit.Unit.{Unit as Luw}
use Rattle.mq_sync.specs.Units.{unit_text}
use Rattle.mq_objects.specs.declared.object.LocalQueue.{LocalQueue}
use Rattle.mq_objects.specs.declared.object.Object.{Object}
use Rattle.mq_objects.specs.declared.object.Object.TheVariants as objects
use Rattle.mq_calls.specs.declared.image.Shelf.{Shelf}
use Rattle.mq_sender.specs.declared.state.SenderState.{SenderState}
use Rattle.mq_sender.specs.declared.state.SenderState.TheVariants as sender_states
use Rattle.mq_sender.specs.declared.state.StopCause.{StopCause}
use Rattle.mq_sender.specs.declared.state.StopCause.TheVariants as causes
use Rattle.mq_receiver.specs.declared.state.ReceiverState.{ReceiverState}
use Rattle.mq_receiver.specs.declared.state.ReceiverState.TheVariants as receiver_states
use Rattle.mq_history.specs.declared.story.ManagerPlaces.{ManagerPlaces}
use Rattle.mq_net_stands.specs.declared.standing.QueueStanding.{QueueStanding}
use Rattle.mq_net_stands.specs.declared.standing.ManagerStanding.{ManagerStanding}
use Rattle.mq_net_stands.specs.declared.standing.SenderStanding.{SenderStanding}
use Rattle.mq_net_stands.specs.declared.standing.ReceiverStanding.{ReceiverStanding}
use Rattle.mq_net_stands.specs.declared.standing.CableStanding.{CableStanding}

-- Rows: the ident, the priority at which it is queued, whether it lasts, the body's length, and who holds it.
abbrev pub queued_priority : ℤ → ℕ
queued_priority (pos n) = min n 9
queued_priority (negsuc n) = 0

abbrev pub persist_text : ℤ → List ℕ
persist_text (pos n) = if n == 1 then codes "YES" else codes "NO"
persist_text (negsuc n) = codes "NO"

abbrev pub holder_text : Option Holder → List ℕ
holder_text None = codes "FREE"
holder_text (Some (holders.Unit number)) = codes "UNIT"
holder_text (Some (holders.Batch channel)) = codes "BATCH"

abbrev pub row_front : Row → List ℕ
row_front row = codes "  " ++ ident_text row.message.ident ++ codes " PRTY " ++ decimal (queued_priority row.message.md.priority)

abbrev pub row_back : Row → List ℕ
row_back row = codes " PERSIST " ++ persist_text row.message.md.persistence ++ codes " LEN " ++ decimal (length row.message.body) ++ codes " " ++ holder_text row.by ++ codes "\n"

abbrev pub row_text : Row → List ℕ
row_text row = row_front row ++ row_back row

abbrev pub queue_text : QueueStanding → List ℕ
queue_text q = q.name ++ codes " DEPTH " ++ decimal q.depth ++ codes "\n" ++ flat_map row_text q.rows

abbrev pub up_text : Bool → List ℕ
up_text true = codes " UP\n"
up_text false = codes " DOWN\n"

-- of a manager that is down, nothing more
abbrev pub queues_text : Bool → List QueueStanding → List ℕ
queues_text true qs = flat_map queue_text qs
queues_text false qs = []

abbrev pub manager_text : ManagerStanding → List ℕ
manager_text m = codes "QMGR " ++ m.name ++ up_text m.is_up ++ queues_text m.is_up m.queues

-- Channels: the state of each end, its session, its last number that is settled, the unit in doubt or the last unit.
abbrev pub cause_text : StopCause → List ℕ
cause_text causes.Operator = []
cause_text (causes.SequenceError own partner) = codes " SEQERR " ++ decimal own ++ codes " " ++ decimal partner
cause_text causes.NoAnswer = codes " NOANSWER"
cause_text (causes.Reason reason) = codes " " ++ decimal reason

abbrev pub sender_word : SenderState → List ℕ
sender_word sender_states.Inactive = codes "INACTIVE"
sender_word (sender_states.Stopped cause) = codes "STOPPED" ++ cause_text cause
sender_word sender_states.Starting = codes "STARTING"
sender_word sender_states.Hailing = codes "STARTING"
sender_word sender_states.Binding = codes "BINDING"
sender_word sender_states.Running = codes "RUNNING"
sender_word (sender_states.Sending sent number) = codes "RUNNING"
sender_word sender_states.Ready = codes "RUNNING"
sender_word sender_states.Waiting = codes "RUNNING"

abbrev pub receiver_word : ReceiverState → List ℕ
receiver_word receiver_states.Inactive = codes "INACTIVE"
receiver_word receiver_states.Stopped = codes "STOPPED"
receiver_word (receiver_states.Bound latest came) = codes "RUNNING"

abbrev pub doubt_text : Option Luw → List ℕ
doubt_text None = codes "-"
doubt_text (Some u) = unit_text u

abbrev pub session_text : ℕ → ℕ → List ℕ
session_text session last = codes " SESSION " ++ decimal session ++ codes " SEQ " ++ decimal last

abbrev pub sender_text : Option SenderStanding → List ℕ
sender_text None = codes "DOWN"
sender_text (Some s) = sender_word s.state ++ session_text s.session s.last ++ codes " INDOUBT " ++ doubt_text s.in_doubt

abbrev pub receiver_text : Option ReceiverStanding → List ℕ
receiver_text None = codes "DOWN"
receiver_text (Some r) = receiver_word r.state ++ session_text r.session r.last ++ codes " LAST " ++ unit_text r.unit

abbrev pub sender_line : List ℕ → Option SenderStanding → List ℕ
sender_line channel s = codes "CH " ++ channel ++ codes " SENDER " ++ sender_text s ++ codes "\n"

abbrev pub receiver_line : List ℕ → Option ReceiverStanding → List ℕ
receiver_line channel r = codes "CH " ++ channel ++ codes " RECEIVER " ++ receiver_text r ++ codes "\n"

abbrev pub cable_text : CableStanding → List ℕ
cable_text c = sender_line c.channel c.sender ++ receiver_line c.channel c.receiver

-- The ledger: of each manager that is up the queues of its definitions that have rows, in order of definition.
abbrev pub rows_of : List ℕ → List Shelf → List Row
rows_of name [] = []
rows_of name (q ∷ qs) = if bytes_eq name q.name then q.rows else rows_of name qs

abbrev pub ident_part : Row → List ℕ
ident_part row = codes " " ++ ident_text row.message.ident

abbrev pub ledger_line : List ℕ → List ℕ → List Row → List ℕ
ledger_line manager name [] = []
ledger_line manager name (row ∷ rows) = manager ++ codes " " ++ name ++ flat_map ident_part (row ∷ rows) ++ codes "\n"

abbrev pub ledger_queue : ManagerPlaces → LocalQueue → List ℕ
ledger_queue p q = ledger_line p.name q.name (rows_of q.name p.queues)

abbrev pub ledger_object : ManagerPlaces → Object → List ℕ
ledger_object p (objects.Local q) = ledger_queue p q
ledger_object p _ = []

abbrev pub ledger_manager : Bool → ManagerPlaces → List ℕ
ledger_manager true p = flat_map (ledger_object p) p.definitions.objects
ledger_manager false p = []

abbrev pub ledger_text : List ManagerStanding → List ManagerPlaces → List ℕ
ledger_text [] ps = []
ledger_text (m ∷ ms) [] = []
ledger_text (m ∷ ms) (p ∷ ps) = ledger_manager m.is_up p ++ ledger_text ms ps
