-- The end that a command speaks of, as the code finds it.
use Rattle.std.specs.Prelude.{◌≡◌, ◌==◌, ℕ, Bool, false, List, Option, Some, None, position, slice_get}
use Rattle.std.specs.Str.{bytes_eq}
use Rattle.mq_objects.specs.declared.object.Channel.{Channel}
use Rattle.mq_spec_manager.specs.Agents.{IsSenderHere, is_sending_kind}
use Rattle.mq_spec_node.specs.Words.{ChannelEnd, Node, Own, ReceiverEnd, SenderEnd, cable_of, end_here, receiver_end}
use Rattle.mq_spec_node.specs.Node.ChannelEnd.{Sends, Receives}
use Rattle.mq_operate.specs.declared.places.Place.{Place}
use Rattle.mq_operate.specs.declared.places.Place.TheVariants as places
use Rattle.mq_operate.specs.declared.places.Seat.{Seat}

-- a channel's name at an end of one kind
abbrev pub sends_for : List ℕ → ChannelEnd → Bool
sends_for channel (Sends e) = bytes_eq channel e.channel
sends_for channel (Receives e) = false

abbrev pub receives_for : List ℕ → ChannelEnd → Bool
receives_for channel (Sends e) = false
receives_for channel (Receives e) = bytes_eq channel e.channel

-- which kind of end a definition speaks of
abbrev pub defined_sends : Option Channel → Option Bool
defined_sends None = None
defined_sends (Some c) = Some (is_sending_kind c.kind)

-- a sender's end, defined here
pub record SendsHere (channel : List ℕ) (e : SenderEnd) (n : Node) : Type 0 where
  pub here : end_here channel n ≡ Some (Sends e)
  pub defined : IsSenderHere e.channel n.manager
  pub named : channel ≡ e.channel

-- a receiver's end without what it keeps
abbrev pub seat_of : ReceiverEnd → Seat
seat_of e = record { cable = e.cable; channel = e.channel; machine = e.machine }

abbrev pub seat_in : ChannelEnd → Option Seat
seat_in (Sends e) = None
seat_in (Receives e) = Some (seat_of e)

-- it stands at a place, which is that of its cable
pub record IsSeatAt (at : ℕ) (seat : Seat) (e : ReceiverEnd) (es : List ChannelEnd) : Type 0 where
  pub there : slice_get es at ≡ Some (Receives e)
  pub placed : position (λ (x : ChannelEnd). cable_of x == e.cable) es ≡ Some at
  pub is : seat ≡ seat_of e

-- it is the end of its cable
pub record IsSeat (seat : Seat) (e : ReceiverEnd) (own : Own) : Type 0 where
  pub there : receiver_end e.cable own ≡ Some e
  pub is : seat ≡ seat_of e

-- a receiver's end, defined here
pub record ReceivesHere (channel : List ℕ) (seat : Seat) (e : ReceiverEnd) (n : Node) : Type 0 where
  pub here : end_here channel n ≡ Some (Receives e)
  pub stands : IsSeat seat e n.own
  pub named : channel ≡ e.channel

-- The end that a channel's definition here speaks of.
abbrev pub IsPlace : List ℕ → Place → Node → Type 0
IsPlace channel places.Absent n = end_here channel n ≡ None
IsPlace channel (places.Sends e) n = SendsHere channel e n
IsPlace channel (places.Receives seat) n = (e : ReceiverEnd) × ReceivesHere channel seat e n
