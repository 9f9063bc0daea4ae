-- Worked rows of channels, triggers, stops in a write, stale handles and moves, computed from the definitions.
use Rattle.std.specs.Prelude.{◌≡◌, ℕ, pos, Bool, true, false, List, [], ◌∷◌, ◌++◌, Option, Some, None, length, codes, refl, take, drop, map, flat_map}
use Rattle.std.specs.Option.{option_map}
use Rattle.mq_sc_apply.specs.from_calls.Words.{Ident, Message, Object, ManagerAttributes, Command, Luw, InDoubt, Plain, stored, sender_data, depth, in_doubt_of, reserved, Step, next, after, Refuse, Row}
use Rattle.mq_sc_apply.specs.from_calls.{Open, ScRefusal, Shown}
use Rattle.mq_sc_apply.specs.from_objects.Changed.{set}
use Rattle.mq_sc_apply.specs.from_objects.Attributes.{Attribute, attributes, shown_attribute, define_text}
use Rattle.mq_sc_apply.specs.from_objects.Names.{named}
use Rattle.std.specs.Fmt.{digits}
use Rattle.mq_sc_apply.specs.from_objects.Defaults.{new_manager}
use Rattle.mq_sc_apply.specs.from_objects.UsageVariants as usages
use Rattle.mq_sc_apply.specs.from_objects.TriggerTypeVariants as triggers
use Rattle.mq_sc_apply.specs.from_objects.ChannelTypeVariants as channel_types
use Rattle.mq_sc_apply.specs.from_objects.{Setting}
use Rattle.mq_sc_apply.specs.from_objects.SettingVariants as settings
use Rattle.mq_sc_apply.specs.from_objects.SubjectVariants as subjects
use Rattle.mq_sc_apply.specs.from_objects.CommandVariants as commands
use Rattle.mq_sc_apply.specs.from_calls.InputVariants as inputs
use Rattle.mq_sc_apply.specs.from_disk.StopVariants as stops
use Rattle.mq_sc_apply.specs.from_calls.ScRefusalVariants as refusals
use Rattle.mq_sc_apply.specs.from_calls.SeizeFaultVariants as seize_faults
use Rattle.mq_sc_apply.specs.from_calls.NoteVariants as notes
use Rattle.mq_sc_apply.specs.from_codes.ReasonVariants as reasons
use Rattle.mq_heads.specs.from_message.Layout.{long_bytes, long_of}
use Rattle.mq_heads.specs.Headers.{dlh_bytes, dlh_in, tm_bytes}
use Rattle.mq_heads.specs.Stamps.{put_date, put_time, reached}
use Rattle.mq_sc_apply.specs.from_calls.ChoiceVariants.{Stopped}
use Rattle.mq_spec_manager.specs.Words.{mqclose, mqput, mqcmit, command, trigger_turn, restart, cut}
use Rattle.mq_spec_manager.specs.Commands.{defined_object}
use Rattle.mq_sc_apply.specs.from_calls.ReturnVariants.{Comes}
use Rattle.mq_spec_manager.specs.Agents.{seize, hold_batch, prepare, harden, receive, move_row, batch_row}
use Rattle.mq_spec_manager.proofs.Script.{starting, london_with, local, connect, connection, handle, shared_output, open_at, script_md, plain_md, persistent_md, put_line, line, rows_line, ident_numbers}

abbrev q1 : List ℕ
q1 = codes "Q1"

abbrev manager : ℕ → List ℕ → ManagerAttributes → List Object → ℕ → Plain
manager number name attributes given moment =
    starting number name 268435456 (record { objects = given; manager = attributes }) moment

-- Dates: of the moment 0, of 2026-01-01, and the last one.
date_first : put_date 0 ≡ codes "19700101"
unfolding put_date reached
date_first = refl

date_later : put_date 1767225600000 ≡ codes "20260101"
unfolding put_date reached
date_later = refl

date_last : put_date 253402300799999 ++ put_time 253402300799999 ≡ codes "9999123123595999"
unfolding put_date put_time reached
date_last = refl

-- A commit is cut in its write: kept it is done at the restart, else nothing of it is.
abbrev ordinary : Plain
ordinary = open_at 1 q1 shared_output (connect (london_with 268435456 (local q1 [] ∷ [])))

abbrev pending : Plain
pending = cut 4 (next (mqput (connection 1) (handle 1) persistent_md (codes "A") true ordinary) ordinary)

abbrev cut_off : Plain
cut_off = (after (mqcmit (connection 1) pending) (Stopped stops.Cut 0 0) pending).next

pending_reserved : reserved pending ≡ 417
pending_reserved = refl

cut_kept : rows_line q1 (restart (Comes true 0) cut_off).next ≡ (1 ∷ 1 ∷ 1 ∷ []) ∷ []
cut_kept = refl

cut_lost : rows_line q1 (restart (Comes false 0) cut_off).next ≡ []
cut_lost = refl

cut_answer : line (mqcmit (connection 1) cut_off) ≡ 2 ∷ 2009 ∷ []
cut_answer = refl

-- TRIGTYPE(DEPTH): the commit that brings the third message makes one trigger due; the queue then counts as NOTRIGGER.
abbrev process_of : List ℕ → Object
process_of name = defined_object (subjects.Process name) []

abbrev triggered : List Setting → Object
triggered more = local q1 (settings.Trigger true ∷ settings.InitiationQueue (codes "INITQ") ∷ settings.Process (codes "P") ∷ more)

abbrev watched : List Setting → Open → Plain
watched more how = open_at 1 (codes "INITQ") shared_output (open_at 1 q1 how (connect (london_with 268435456 (local (codes "INITQ") [] ∷ process_of (codes "P") ∷ triggered more ∷ []))))

abbrev output_alone : Open
output_alone = record { input = inputs.No; browse = false; output = true }

abbrev put_one : Bool → Plain → Plain
put_one sync p = next (mqput (connection 1) (handle 1) plain_md (codes "A") sync p) p

abbrev turn : Plain → Plain
turn p = next (trigger_turn p) p

abbrev third : Plain
third = put_one true (put_one false (put_one false (watched (settings.TriggerType triggers.Depth ∷ settings.TriggerDepth 3 ∷ []) output_alone)))

abbrev third_committed : Plain
third_committed = turn (next (mqcmit (connection 1) third) third)

trigger_before : depth (codes "INITQ") (turn third) ≡ 0
trigger_before = refl

trigger_after : depth (codes "INITQ") third_committed ≡ 1
trigger_after = refl

abbrev lengths : List ℕ → Plain → List ℕ
lengths name p = map (λ (row : Row). length row.message.body) (stored name p).rows

trigger_length : lengths (codes "INITQ") third_committed ≡ 684 ∷ []
unfolding tm_bytes long_bytes
trigger_length = refl

trigger_off : (stored q1 third_committed).switched_off ≡ true
trigger_off = refl

trigger_once : depth (codes "INITQ") (turn third_committed) ≡ 1
trigger_once = refl

abbrev first_open : Plain
first_open = put_one false (watched [] shared_output)

trigger_first_open : depth (codes "INITQ") (turn first_open) ≡ 0
trigger_first_open = refl

abbrev first_shut : Plain
first_shut = put_one false (watched [] output_alone)

trigger_first_shut : depth (codes "INITQ") (turn first_shut) ≡ 1
trigger_first_shut = refl

-- A receiver's commit: a message for a queue that is not there becomes a dead letter.
abbrev channel : List ℕ
channel = codes "LON.PAR"

abbrev receiver : Object
receiver = defined_object (subjects.Channel channel) (settings.ChannelType channel_types.Receiver ∷ [])

abbrev paris : List Setting → Plain
paris of_dlq = manager 2 (codes "PARIS") (record new_manager { dead_letter_queue = codes "DLQ" }) (receiver ∷ local q1 [] ∷ local (codes "DLQ") of_dlq ∷ []) 1767225600000

abbrev ident1 : Ident
ident1 = record { manager = 1; incarnation = 1; number = 1 }

abbrev message1 : Message
message1 = record { ident = ident1; md = script_md (pos 0) (pos 1); route = None; deadline = None; body = codes "HELLO" }

abbrev unit1 : Luw
unit1 = record { session = 1; n = 1 }

abbrev arrival : List ℕ → Message
arrival queue = record message1 { route = Some (record { queue = queue; qmgr = codes "PARIS" }) }

abbrev receives : List ℕ → Plain → Plain
receives queue p = next (receive channel unit1 1 (arrival queue ∷ []) p) p

received : rows_line q1 (receives q1 (paris [])) ≡ (1 ∷ 1 ∷ 1 ∷ []) ∷ []
received = refl

abbrev dead_at : Plain
dead_at = receives (codes "NOQ") (paris [])

dead_row : rows_line (codes "DLQ") dead_at ≡ (1 ∷ 1 ∷ 1 ∷ []) ∷ []
unfolding dlh_bytes long_bytes put_date put_time reached
dead_row = refl

abbrev bodies : List ℕ → Plain → List (List ℕ)
bodies name p = map (λ (row : Row). row.message.body) (stored name p).rows

abbrev formats : List ℕ → Plain → List (List ℕ)
formats name p = map (λ (row : Row). row.message.md.format) (stored name p).rows

dead_length : map length (bodies (codes "DLQ") dead_at) ≡ 177 ∷ []
unfolding dlh_bytes long_bytes put_date put_time reached
dead_length = refl

dead_head : map (take 12) (bodies (codes "DLQ") dead_at) ≡ (68 ∷ 76 ∷ 72 ∷ 32 ∷ 0 ∷ 0 ∷ 0 ∷ 1 ∷ 0 ∷ 0 ∷ 8 ∷ 37 ∷ []) ∷ []
unfolding dlh_bytes long_bytes put_date put_time reached
dead_head = refl

dead_end : map (drop 128) (bodies (codes "DLQ") dead_at) ≡ (codes "LON.PAR                     2026010100000000HELLO") ∷ []
unfolding dlh_bytes long_bytes put_date put_time reached
dead_end = refl

dead_format : formats (codes "DLQ") dead_at ≡ codes "MQDEAD  " ∷ []
unfolding dlh_bytes long_bytes put_date put_time reached
dead_format = refl

-- With the dead-letter queue full the batch is refused by the message's own reason.
dead_full : receive channel unit1 1 (arrival (codes "NOQ") ∷ []) (paris (settings.MaxDepth 0 ∷ [])) ≡ Refuse reasons.UnknownObjectName
dead_full = refl

-- The handler moves the dead letter, without its header, once the queue is there.
abbrev with_noq : Plain
with_noq = record dead_at { definitions = set (local (codes "NOQ") []) dead_at.definitions }

abbrev retried : Plain
retried = next (move_row (codes "DLQ") ident1 (record { queue = codes "NOQ"; qmgr = codes "PARIS" }) true with_noq) with_noq

retried_body : bodies (codes "NOQ") retried ≡ codes "HELLO" ∷ []
unfolding dlh_bytes long_bytes put_date put_time reached dlh_in long_of
retried_body = refl

retried_format : formats (codes "NOQ") retried ≡ codes "MQSTR   " ∷ []
unfolding dlh_bytes long_bytes put_date put_time reached dlh_in long_of
retried_format = refl

retried_gone : rows_line (codes "DLQ") retried ≡ []
unfolding dlh_bytes long_bytes put_date put_time reached dlh_in long_of
retried_gone = refl

-- A sender: it takes its queue, holds a batch, prepares it and settles it; a message that comes back meanwhile drops the held row.
abbrev sender : Object
sender = defined_object (subjects.Channel channel) (settings.TransmissionQueue (codes "PARIS") ∷ settings.ChannelType channel_types.Sender ∷ [])

abbrev remote : Object
remote = defined_object (subjects.Remote (codes "R1")) (settings.RemoteName q1 ∷ settings.RemoteManager (codes "PARIS") ∷ [])

abbrev receiver2 : Object
receiver2 = defined_object (subjects.Channel (codes "PAR.LON")) (settings.ChannelType channel_types.Receiver ∷ [])

abbrev opened : Plain
opened = open_at 1 (codes "R1") output_alone (connect (london_with 268435456 (local (codes "PARIS") (settings.Usage usages.Transmission ∷ []) ∷ remote ∷ local q1 [] ∷ sender ∷ receiver2 ∷ [])))

abbrev sending : Plain
sending = next (mqput (connection 1) (handle 1) persistent_md (codes "A") false opened) opened

abbrev seized : Plain
seized = next (seize channel sending) sending

abbrev held : Plain
held = next (hold_batch channel unit1 50 seized) seized

sender_busy : seize channel held ≡ Refuse seize_faults.QueueInUse
sender_busy = refl

sender_row : option_map (λ (m : Message). ident_numbers m.ident) (batch_row channel 1 held) ≡ Some (1 ∷ 1 ∷ 1 ∷ [])
sender_row = refl

abbrev prepared : Plain
prepared = next (prepare channel 1 held) held

abbrev settled_by : Bool → Plain
settled_by commit = next (harden channel (notes.Resolved unit1 commit false) prepared) prepared

sender_committed : rows_line (codes "PARIS") (settled_by true) ≡ []
sender_committed = refl

sender_backed_out : depth (codes "PARIS") (settled_by false) ≡ 1
sender_backed_out = refl

sender_held : depth (codes "PARIS") prepared ≡ 0
sender_held = refl

abbrev came_back : Plain
came_back = next (receive (codes "PAR.LON") unit1 1 (record message1 { route = Some (record { queue = q1; qmgr = codes "LONDON" }) } ∷ []) prepared) prepared

back_placed : rows_line q1 came_back ≡ (1 ∷ 1 ∷ 1 ∷ []) ∷ []
back_placed = refl

back_dropped : rows_line (codes "PARIS") came_back ≡ []
back_dropped = refl

abbrev doubtful : Option InDoubt → List Ident
doubtful None = []
doubtful (Some d) = d.idents

back_left : doubtful (in_doubt_of (sender_data channel came_back)) ≡ []
back_left = refl

-- Stale handles.
abbrev aliased : Plain
aliased = open_at 1 (codes "A1") output_alone (connect (london_with 268435456 (local q1 [] ∷ local (codes "Q2") [] ∷ defined_object (subjects.Alias (codes "A1")) (settings.Target q1 ∷ []) ∷ [])))

abbrev retarget : Bool → Plain → Step ScRefusal Shown
retarget force p = command (commands.Alter (record { subject = subjects.Alias (codes "A1"); force = force; settings = settings.Target (codes "Q2") ∷ [] })) p

stale_refused : retarget false aliased ≡ Refuse refusals.InUse
stale_refused = refl

abbrev forced : Plain
forced = next (retarget true aliased) aliased

stale_put : put_line (mqput (connection 1) (handle 1) plain_md (codes "A") false forced) ≡ 2 ∷ 2041 ∷ []
stale_put = refl

stale_close : line (mqclose (connection 1) (handle 1) forced) ≡ 0 ∷ 0 ∷ []
stale_close = refl

-- The text of a definition in the log.
define_text_is : define_text (local q1 []) q1
    ≡ codes "DEFINE QLOCAL('Q1') DEFPRTY(0) DEFPSIST(NO) GET(ENABLED) INITQ('') MAXDEPTH(5000) MAXMSGL(4194304) MSGDLVSQ(PRIORITY) PROCESS('') PUT(ENABLED) TRIGDATA('') TRIGDPTH(1) NOTRIGGER TRIGMPRI(0) TRIGTYPE(FIRST) USAGE(NORMAL)"
unfolding digits
define_text_is = refl

-- A REPLACE may give a channel another CHLTYPE, unless it runs.
abbrev as_receiver : Command
as_receiver = commands.Define (record { subject = subjects.Channel (codes "LON.PAR"); replace = true; settings = settings.ChannelType channel_types.Receiver ∷ [] })

abbrev with_sender : Plain
with_sender = london_with 268435456 (defined_object (subjects.Channel (codes "LON.PAR")) (settings.ChannelType channel_types.Sender ∷ settings.TransmissionQueue (codes "PARIS") ∷ []) ∷ local (codes "PARIS") (settings.Usage usages.Transmission ∷ []) ∷ [])

abbrev kind_after : Option Object → List ℕ
kind_after None = []
kind_after (Some object) = flat_map (λ (a : Attribute). shown_attribute a.word a.value) (take 1 (attributes object))

replaced_kind : kind_after (named (subjects.Channel (codes "LON.PAR")) (next (command as_receiver with_sender) with_sender).definitions) ≡ codes " CHLTYPE(RCVR)"
unfolding digits
replaced_kind = refl

running_kind : command as_receiver (next (seize (codes "LON.PAR") with_sender) with_sender) ≡ Refuse refusals.InUse
running_kind = refl
