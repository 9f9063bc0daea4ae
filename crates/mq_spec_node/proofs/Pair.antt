-- Two managers and one channel, whose ends take turns over two lists of frames, for worked rows.
use Rattle.std.specs.Prelude.{ℕ, zero, suc, ◌+◌, Bool, true, false, List, [], ◌∷◌, ◌++◌, if◌then◌else◌, Option, Some, None, codes, is_some, max}
use Rattle.mq_history.specs.from_frame.{Frame, Seen}
use Rattle.mq_history.specs.from_frame.SeenVariants as items
use Rattle.mq_history.specs.from_objects.{Object}
use Rattle.mq_history.specs.from_objects.UsageVariants as usages
use Rattle.mq_history.specs.from_objects.ChannelTypeVariants as channel_types
use Rattle.mq_history.specs.from_objects.SettingVariants as settings
use Rattle.mq_history.specs.from_objects.SubjectVariants as subjects
use Rattle.mq_history.specs.from_objects.Defaults.{new_manager}
use Rattle.mq_history.specs.from_calls.ChoiceVariants.{Runs}
use Rattle.mq_history.specs.declared.acts.Act.{Act}
use Rattle.mq_history.specs.declared.acts.Act.TheVariants as acts
use Rattle.mq_history.specs.from_sc_parse.CommandVariants as commands
use Rattle.mq_history.specs.from_sc_parse.OpVariants as ops
use Rattle.mq_history.specs.declared.calls.Actor.{Actor}
use Rattle.mq_history.specs.declared.calls.Actor.TheVariants as actors
use Rattle.mq_history.specs.declared.calls.Call.{Call}
use Rattle.mq_history.specs.declared.calls.Call.TheVariants as calls
use Rattle.mq_history.specs.declared.calls.Chance.{Chance}
use Rattle.mq_history.specs.declared.calls.Chance.TheVariants as chances
use Rattle.mq_history.specs.declared.calls.Entry.{Entry}
use Rattle.mq_history.specs.from_calls.{Image}
use Rattle.mq_receiver.specs.States.{receiver_of}
use Rattle.mq_sender.specs.States.{new_sender}
use Rattle.mq_spec_manager.specs.Commands.{defined_object}
use Rattle.mq_spec_manager.proofs.Script.{image_of}
use Rattle.mq_spec_node.specs.Node.{Node, Own}
use Rattle.mq_spec_node.specs.Node.ChannelEnd.{Sends, Receives}
use Rattle.mq_spec_node.specs.Deeds.{Deed, Done}
use Rattle.mq_spec_node.specs.Happens.{event, deed_of}
use Rattle.mq_spec_node.specs.Openings.{first_node}

abbrev pub channel : List ℕ
channel = codes "LON.PAR"

abbrev pub image : List Object → List ℕ → Image
image given dead = image_of (record { objects = given; manager = record new_manager { dead_letter_queue = dead } })

-- LONDON, with a transmission queue and a sender for PARIS
abbrev pub sender_kind : ℕ → Object
sender_kind batch = defined_object (subjects.Channel channel) (settings.ChannelType channel_types.Sender ∷ settings.TransmissionQueue (codes "PARIS") ∷ settings.BatchSize batch ∷ [])

abbrev pub at_london : ℕ → List Object
at_london batch =
    defined_object (subjects.Local (codes "PARIS")) (settings.Usage usages.Transmission ∷ [])
    ∷ defined_object (subjects.Remote (codes "R1")) (settings.RemoteName (codes "Q1") ∷ settings.RemoteManager (codes "PARIS") ∷ [])
    ∷ sender_kind batch ∷ []

abbrev pub at_paris : List Object
at_paris =
    defined_object (subjects.Local (codes "Q1")) []
    ∷ defined_object (subjects.Channel channel) (settings.ChannelType channel_types.Receiver ∷ []) ∷ []

abbrev pub london_own : Own
london_own = record { ends = Sends (record { cable = 0; channel = channel; partner = codes "PARIS"; machine = new_sender }) ∷ []; handlers = []; monitors = []; scripts = [] }

abbrev pub paris_own : Own
paris_own = record { ends = Receives (record { cable = 0; channel = channel; partner = codes "LONDON"; machine = receiver_of None; kept = [] }) ∷ []; handlers = []; monitors = []; scripts = [] }

abbrev pub london : ℕ → Node
london batch = first_node (record { number = 1; name = codes "LONDON"; log_max = 268435456 }) london_own (image (at_london batch) []) 1 0

abbrev pub paris : List Object → List ℕ → Node
paris given dead = first_node (record { number = 2; name = codes "PARIS"; log_max = 268435456 }) paris_own (image given dead) 1 1767225600000

-- Both, with what lies between them, and their entries, the latest first.
pub record Pair : Type 0 where
  pub sender : Node
  pub receiver : Node
  pub forth : List Frame
  pub back : List Frame
  pub sent : List Entry
  pub received : List Entry
  pub stamp_sent : ℕ
  pub stamp_received : ℕ

abbrev pub pair : Node → Node → Pair
pair s r = record { sender = s; receiver = r; forth = []; back = []; sent = []; received = []; stamp_sent = 0; stamp_received = 0 }

abbrev pub entry_of : ℕ → Actor → Call → Chance → Seen → Done → Entry
entry_of stamp actor call chance seen d = record {
  stamp = stamp;
  actor = actor;
  call = call;
  chance = chance;
  reply = d.reply;
  effect = record { delta = d.delta; pushed = d.pushed; extras = 0; popped = seen; received = d.received };
}

abbrev pub runs : Chance
runs = chances.Call Runs

-- an event at the sender's manager, and at the receiver's
abbrev pub at_sender_done : ℕ → Actor → Call → Chance → Seen → Done → Pair → Pair
at_sender_done stamp actor call chance seen d p =
    record p { sender = d.next; sent = entry_of stamp actor call chance seen d ∷ p.sent; stamp_sent = stamp }

abbrev pub at_sender : Actor → Call → Chance → Pair → Pair
at_sender actor call chance p =
    at_sender_done (p.stamp_sent + 1) actor call chance items.Nothing (event (p.stamp_sent + 1) actor call chance items.Nothing p.sender) p

abbrev pub at_receiver_done : ℕ → Actor → Call → Chance → Seen → Done → Pair → Pair
at_receiver_done stamp actor call chance seen d p =
    record p { receiver = d.next; received = entry_of stamp actor call chance seen d ∷ p.received; stamp_received = stamp }

abbrev pub at_receiver : Actor → Call → Chance → Pair → Pair
at_receiver actor call chance p =
    at_receiver_done (p.stamp_received + 1) actor call chance items.Nothing (event (p.stamp_received + 1) actor call chance items.Nothing p.receiver) p

-- a turn: what waits is popped, unless the turn pushes
abbrev pub front : List Frame → Seen
front [] = items.Nothing
front (f ∷ fs) = items.Frame f

abbrev pub rest : List Frame → List Frame
rest [] = []
rest (f ∷ fs) = fs

abbrev pub with_frame : List Frame → Option Frame → List Frame
with_frame fs None = fs
with_frame fs (Some f) = fs ++ f ∷ []

abbrev pub stamp_after : ℕ → List Frame → ℕ
stamp_after last [] = last + 1
stamp_after last (f ∷ fs) = max last f.stamp + 1

abbrev pub pushes : Option Deed → Bool
pushes None = false
pushes (Some d) = is_some d.pushed

abbrev pub left_if : Bool → List Frame → List Frame
left_if true fs = fs
left_if false fs = rest fs

abbrev pub seen_if : Bool → List Frame → Seen
seen_if true fs = items.Nothing
seen_if false fs = front fs

abbrev pub stamp_if : Bool → ℕ → List Frame → ℕ
stamp_if true last fs = last + 1
stamp_if false last fs = stamp_after last fs

abbrev pub sender_deed : Pair → Option Deed
sender_deed p = deed_of 0 (actors.Sender 0) calls.Turn (front p.back) p.sender

abbrev pub receiver_deed : Pair → Option Deed
receiver_deed p = deed_of 0 (actors.Receiver 0) calls.Turn (front p.forth) p.receiver

abbrev pub sender_took : Bool → ℕ → Done → Pair → Pair
sender_took kept stamp d p = record (at_sender_done stamp (actors.Sender 0) calls.Turn runs (seen_if kept p.back) d p) { forth = with_frame p.forth d.pushed; back = left_if kept p.back }

abbrev pub receiver_took : Bool → ℕ → Done → Pair → Pair
receiver_took kept stamp d p = record (at_receiver_done stamp (actors.Receiver 0) calls.Turn runs (seen_if kept p.forth) d p) { back = with_frame p.back d.pushed; forth = left_if kept p.forth }

abbrev pub sender_goes : Bool → Pair → Pair
sender_goes kept p =
    sender_took kept (stamp_if kept p.stamp_sent p.back) (event (stamp_if kept p.stamp_sent p.back) (actors.Sender 0) calls.Turn runs (front p.back) p.sender) p

abbrev pub receiver_goes : Bool → Pair → Pair
receiver_goes kept p =
    receiver_took kept (stamp_if kept p.stamp_received p.forth) (event (stamp_if kept p.stamp_received p.forth) (actors.Receiver 0) calls.Turn runs (front p.forth) p.receiver) p

abbrev pub sender_turn : Pair → Pair
sender_turn p = elim (sender_deed p) as (λ d. Pair) [ None ↦ p | Some d ↦ sender_goes (is_some d.pushed) p ]

abbrev pub receiver_turn : Pair → Pair
receiver_turn p = elim (receiver_deed p) as (λ d. Pair) [ None ↦ p | Some d ↦ receiver_goes (is_some d.pushed) p ]

-- so many rounds of both
abbrev pub rounds : ℕ → Pair → Pair
rounds zero p = p
rounds (suc n) p = rounds n (receiver_turn (sender_turn p))

-- the number of turns taken
abbrev pub is_turn : Entry → Bool
is_turn e = elim e.call as (λ c. Bool) [
  | calls.Mqconn a b ↦ false
  | calls.Mqdisc a ↦ false
  | calls.Mqopen a b c d ↦ false
  | calls.Mqclose a b ↦ false
  | calls.Mqput a b c d e ↦ false
  | calls.Mqput1 a b c d e f ↦ false
  | calls.Mqget a b c d ↦ false
  | calls.Mqcmit a ↦ false
  | calls.Mqback a ↦ false
  | calls.Act a ↦ false
  | calls.Turn ↦ true
  | calls.Timeout ↦ true
  | calls.Trigger ↦ false
]

abbrev pub turns_in : List Entry → ℕ
turns_in [] = 0
turns_in (e ∷ es) = if is_turn e then suc (turns_in es) else turns_in es

abbrev pub turns : Pair → ℕ
turns p = turns_in p.sent + turns_in p.received

abbrev pub operate : Act → Pair → Pair
operate act p = at_sender actors.Operator (calls.Act act) runs p

abbrev pub start : Act
start = acts.Obey (commands.Operate (ops.Start channel))

abbrev pub stop_channel : Act
stop_channel = acts.Obey (commands.Operate (ops.Stop channel))
