-- Messages that come to a manager where their ident stands already: held by a unit in doubt, with the same persistence or the
-- other; on that unit's list alone; pending, or of a number not given yet; twice in one batch.
use Rattle.std.specs.Prelude.{◌≡◌, ℕ, pos, Bool, true, false, List, [], ◌∷◌, Option, Some, None, Result, Ok, Err, length, map, codes, refl}
use Rattle.mq_sc_apply.specs.from_calls.Words.{Reason, Ident, Message, Object, Luw, InDoubt, Plain, sender_data, in_doubt_of, apply, next}
use Rattle.mq_sc_apply.specs.from_calls.{SenderSide}
use Rattle.mq_sc_apply.specs.from_objects.UsageVariants as usages
use Rattle.mq_sc_apply.specs.from_objects.ChannelTypeVariants as channel_types
use Rattle.mq_sc_apply.specs.from_objects.SettingVariants as settings
use Rattle.mq_sc_apply.specs.from_objects.SubjectVariants as subjects
use Rattle.mq_sc_apply.specs.from_calls.NoteVariants as notes
use Rattle.mq_sc_apply.specs.from_calls.ReturnVariants.{Comes}
use Rattle.mq_sc_apply.specs.from_calls.State.Change.{Place}
use Rattle.mq_spec_manager.specs.Commands.{defined_object}
use Rattle.mq_spec_manager.specs.Words.{mqput, stop, restart}
use Rattle.mq_spec_manager.specs.Agents.{Landed, landed, messages_taken, receive, seize, hold_batch, prepare, harden}
use Rattle.mq_spec_manager.proofs.Script.{london_with, local, connect, connection, handle, shared_output, open_at, script_md, persistent_md, ident_numbers, rows_line}

abbrev q1 : List ℕ
q1 = codes "Q1"

abbrev xq : List ℕ
xq = codes "PARIS"

abbrev channel : List ℕ
channel = codes "LON.PAR"

abbrev other : List ℕ
other = codes "PAR.LON"

abbrev unit1 : Luw
unit1 = record { session = 1; n = 1 }

abbrev sender : List ℕ → Object
sender name = defined_object (subjects.Channel name) (settings.TransmissionQueue xq ∷ settings.ChannelType channel_types.Sender ∷ [])

abbrev receiver : List ℕ → Object
receiver name = defined_object (subjects.Channel name) (settings.ChannelType channel_types.Receiver ∷ [])

abbrev london : Plain
london = london_with 268435456 (local xq (settings.Usage usages.Transmission ∷ []) ∷ local q1 [] ∷ sender channel ∷ receiver other ∷ [])

-- an ident of this manager's incarnation 1, of another manager
abbrev own : ℕ → Ident
own n = record { manager = 1; incarnation = 1; number = n }

abbrev far : Ident
far = record { manager = 2; incarnation = 1; number = 1 }

abbrev message : (lasts : Bool) → Ident → Message
message true ident = record { ident = ident; md = script_md (pos 0) (pos 1); route = Some (record { queue = q1; qmgr = codes "LONDON" }); deadline = None; body = [] }
message false ident = record { ident = ident; md = script_md (pos 0) (pos 0); route = Some (record { queue = q1; qmgr = codes "LONDON" }); deadline = None; body = [] }

-- the message is on the transmission queue, in a unit in doubt
abbrev step : Plain → Plain
step p = next (prepare channel 1 (next (hold_batch channel unit1 50 (next (seize channel p) p)) (next (seize channel p) p))) (next (hold_batch channel unit1 50 (next (seize channel p) p)) (next (seize channel p) p))

abbrev doubted : (lasts : Bool) → Plain
doubted lasts = step (next (harden channel (notes.Session xq 1) (apply (Place xq (message lasts far)) london)) (apply (Place xq (message lasts far)) london))

abbrev comes : (lasts : Bool) → Plain → Plain
comes lasts p = next (receive other unit1 1 (message lasts far ∷ []) p) p

abbrev listed : Option InDoubt → List (List ℕ)
listed None = []
listed (Some d) = map ident_numbers d.idents

abbrev in_doubt : Plain → List (List ℕ)
in_doubt p = listed (in_doubt_of (sender_data channel p))

abbrev queue_of_doubt : Option InDoubt → List ℕ
queue_of_doubt None = []
queue_of_doubt (Some d) = d.queue

the_queue : queue_of_doubt (in_doubt_of (sender_data channel (doubted true))) ≡ xq
the_queue = refl

-- with the same persistence it takes the row's place; only for good it leaves the list
same_lasting : rows_line q1 (comes true (doubted true)) ≡ (2 ∷ 1 ∷ 1 ∷ []) ∷ []
same_lasting = refl

same_lasting_list : in_doubt (comes true (doubted true)) ≡ []
same_lasting_list = refl

same_brief : rows_line xq (comes false (doubted false)) ≡ []
same_brief = refl

same_brief_list : in_doubt (comes false (doubted false)) ≡ (2 ∷ 1 ∷ 1 ∷ []) ∷ []
same_brief_list = refl

-- with the other one it is kept out: the row stays with its unit, and no record needs to say otherwise
brief_over_lasting : rows_line xq (comes false (doubted true)) ≡ (2 ∷ 1 ∷ 1 ∷ []) ∷ []
brief_over_lasting = refl

brief_kept_out : rows_line q1 (comes false (doubted true)) ≡ []
brief_kept_out = refl

lasting_kept_out : rows_line q1 (comes true (doubted false)) ≡ []
lasting_kept_out = refl

-- a row of the unit that did not last is gone after a restart; the message that comes for good takes its ident off the list
abbrev lost : Plain
lost = (restart (Comes false 0) (stop (doubted false)).next).next

lost_list : in_doubt lost ≡ (2 ∷ 1 ∷ 1 ∷ []) ∷ []
lost_list = refl

lost_comes : rows_line q1 (comes true lost) ≡ (2 ∷ 1 ∷ 1 ∷ []) ∷ []
lost_comes = refl

lost_comes_list : in_doubt (comes true lost) ≡ []
lost_comes_list = refl

lost_brief_list : in_doubt (comes false lost) ≡ (2 ∷ 1 ∷ 1 ∷ []) ∷ []
lost_brief_list = refl

-- one ident twice in a batch: the first message is placed, and it alone is told
abbrev twice : List Message
twice = message true far ∷ message true far ∷ []

twice_rows : rows_line q1 (next (receive other unit1 1 twice london) london) ≡ (2 ∷ 1 ∷ 1 ∷ []) ∷ []
twice_rows = refl

twice_taken : length (messages_taken other twice london) ≡ 1
twice_taken = refl

abbrev adds_of : Result Landed Reason → ℕ
adds_of (Ok l) = length l.adds
adds_of (Err reason) = 0

twice_adds : adds_of (landed other twice london) ≡ 1
twice_adds = refl

-- an ident of this manager that it has not given yet, or that a put under syncpoint has, is kept out
unborn_out : length (messages_taken other (message true (own 1) ∷ []) london) ≡ 0
unborn_out = refl

abbrev ready : Plain
ready = open_at 1 q1 shared_output (connect london)

abbrev pending : Plain
pending = next (mqput (connection 1) (handle 1) persistent_md [] true ready) ready

pending_out : length (messages_taken other (message true (own 1) ∷ []) pending) ≡ 0
pending_out = refl

-- hardened data stand in order of the channels' names
abbrev hardened : List ℕ → Plain → Plain
hardened name p = next (harden name (notes.Session xq 1) p) p

in_order : map (λ (s : SenderSide). s.channel) (hardened (codes "B") (hardened (codes "A") (hardened (codes "C") london))).channels.senders ≡ codes "A" ∷ codes "B" ∷ codes "C" ∷ []
in_order = refl
