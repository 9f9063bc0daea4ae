-- The plain node: a plain manager, and what the scenario gives it beside: ends of channels, handlers, monitors.
use Rattle.std.specs.Prelude.{ℕ, ◌==◌, Bool, List, [], ◌∷◌, if◌then◌else◌, Option, Some, None, map}
use Rattle.std.specs.Str.{bytes_eq}
use Rattle.mq_spec_node.specs.Terms.{Ident, Message, Hconn, Hobj, Sender, Receiver, Table, MonitorLine, ScriptPart, Plain}

-- the sender end of a cable: the cable's place in the scenario, the channel, the manager at the other end, the machine
pub record SenderEnd : Type 0 where
  pub cable : ℕ
  pub channel : List ℕ
  pub partner : List ℕ
  pub machine : Sender

-- the receiver end, with the messages of its latest unit that have come, each with the names that came with it
pub record ReceiverEnd : Type 0 where
  pub cable : ℕ
  pub channel : List ℕ
  pub partner : List ℕ
  pub machine : Receiver
  pub kept : List Message

pub data ChannelEnd : Type 0 where
  Sends : (e : SenderEnd) → ChannelEnd
  Receives : (e : ReceiverEnd) → ChannelEnd

-- a dead letter that a handler has tried: whether it is ignored from now on; the number of the rule from which on the
-- first that matches is in force; the failed tries of that rule; the moment at which the next try is due
pub record Tried : Type 0 where
  pub queue : List ℕ
  pub ident : Ident
  pub ignored : Bool
  pub from : ℕ
  pub failed : ℕ
  pub due : ℕ

-- a handler with its rules table, a monitor with its connection and its open queue, and a script; by their places in the
-- scenario
pub record Handler : Type 0 where
  pub number : ℕ
  pub table : Table
  pub tried : List Tried

pub record Monitor : Type 0 where
  pub number : ℕ
  pub line : MonitorLine
  pub connection : Option Hconn
  pub handle : Option Hobj

pub record Script : Type 0 where
  pub number : ℕ
  pub part : ScriptPart

-- all that is a node's own beside its manager; ends stand in the order of their cables
pub record Own : Type 0 where
  pub ends : List ChannelEnd
  pub handlers : List Handler
  pub monitors : List Monitor
  pub scripts : List Script

pub record Node : Type 0 where
  pub manager : Plain
  pub own : Own

-- An end by its cable, or by its channel.
abbrev pub cable_of : ChannelEnd → ℕ
cable_of (Sends e) = e.cable
cable_of (Receives e) = e.cable

abbrev pub end_in : ℕ → List ChannelEnd → Option ChannelEnd
end_in cable [] = None
end_in cable (e ∷ es) = if cable_of e == cable then Some e else end_in cable es

abbrev pub as_sender : Option ChannelEnd → Option SenderEnd
as_sender None = None
as_sender (Some (Sends e)) = Some e
as_sender (Some (Receives e)) = None

abbrev pub as_receiver : Option ChannelEnd → Option ReceiverEnd
as_receiver None = None
as_receiver (Some (Sends e)) = None
as_receiver (Some (Receives e)) = Some e

-- the end of that cable, where it is of that kind
abbrev pub sender_end : ℕ → Own → Option SenderEnd
sender_end cable own = as_sender (end_in cable own.ends)

abbrev pub receiver_end : ℕ → Own → Option ReceiverEnd
receiver_end cable own = as_receiver (end_in cable own.ends)

-- the end of a channel, by its name
abbrev pub sender_named : List ℕ → List ChannelEnd → Option SenderEnd
sender_named channel [] = None
sender_named channel (Sends e ∷ es) = if bytes_eq channel e.channel then Some e else sender_named channel es
sender_named channel (Receives e ∷ es) = sender_named channel es

abbrev pub receiver_named : List ℕ → List ChannelEnd → Option ReceiverEnd
receiver_named channel [] = None
receiver_named channel (Sends e ∷ es) = receiver_named channel es
receiver_named channel (Receives e ∷ es) = if bytes_eq channel e.channel then Some e else receiver_named channel es

-- an end takes the place of the one of its cable
abbrev pub set_end : ChannelEnd → List ChannelEnd → List ChannelEnd
set_end new [] = []
set_end new (e ∷ es) = if cable_of e == cable_of new then new ∷ es else e ∷ set_end new es

abbrev pub with_end : ChannelEnd → Own → Own
with_end new own = record own { ends = set_end new own.ends }

-- A handler, a monitor, a script by number.
abbrev pub handler_in : ℕ → List Handler → Option Handler
handler_in number [] = None
handler_in number (h ∷ hs) = if h.number == number then Some h else handler_in number hs

abbrev pub with_handler : Handler → Own → Own
with_handler new own = record own { handlers = map (λ (h : Handler). if h.number == new.number then new else h) own.handlers }

abbrev pub change_monitor : ℕ → (Monitor → Monitor) → Own → Own
change_monitor number f own = record own { monitors = map (λ (m : Monitor). if m.number == number then f m else m) own.monitors }

abbrev pub monitor_in : ℕ → List Monitor → Option Monitor
monitor_in number [] = None
monitor_in number (m ∷ ms) = if m.number == number then Some m else monitor_in number ms

abbrev pub script_in : ℕ → List Script → Option ScriptPart
script_in number [] = None
script_in number (s ∷ ss) = if s.number == number then Some s.part else script_in number ss
