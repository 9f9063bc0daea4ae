-- What ends of channels are told apart by: the cable, and the channel's name.
use Rattle.std.specs.Prelude.{ℕ, ◌≡◌, ◌==◌, Bool, true, false, List, map, Option, Some, None}
use Rattle.std.specs.Str.{bytes_eq}
use Rattle.mq_base.specs.Members.{Chain}
use Rattle.mq_spec_node.specs.Node.{ChannelEnd, Node, ReceiverEnd, SenderEnd, cable_of, end_in, receiver_end, receiver_named, sender_end, sender_named}
use Rattle.mq_spec_node.specs.Node.ChannelEnd.{Receives, Sends}
use Rattle.mq_spec_node.specs.Status.{channel_at}
use Rattle.mq_spec_node.specs.Deeds.{Deed}
use Rattle.mq_law_node.specs.from_law_channel.Channel.{Channel, Past}
use Rattle.mq_law_node.specs.Ends.{Where}
use Rattle.mq_law_node.specs.Beside.{DoesFar}

pub record Key : Type 0 where
  pub cable : ℕ
  pub channel : List ℕ

abbrev pub key_of : ChannelEnd → Key
key_of e = record { cable = cable_of e; channel = channel_at e }

abbrev pub keys : List ChannelEnd → List Key
keys es = map key_of es

-- no two ends of a node are of one cable, nor of one channel
abbrev pub AreKeyed : List Key → Type 0
AreKeyed ks = Chain (λ (a b : Key). ((a.cable == b.cable) ≡ false) × (bytes_eq a.channel b.channel ≡ false)) ks

abbrev pub IsKeyed : Node → Type 0
IsKeyed n = AreKeyed (keys n.own.ends)

-- An end's key, and whether it sends.
pub record Tag : Type 0 where
  pub key : Key
  pub sends : Bool

abbrev pub sends_of : ChannelEnd → Bool
sends_of (Sends e) = true
sends_of (Receives e) = false

abbrev pub tag_of : ChannelEnd → Tag
tag_of e = record { key = key_of e; sends = sends_of e }

abbrev pub tags : List ChannelEnd → List Tag
tags es = map tag_of es

-- a deed leaves the tags
abbrev pub EachKeeps : Node → Option Deed → Type 0
EachKeeps n None = Unit {0}
EachKeeps n (Some d) = tags d.own.ends ≡ tags n.own.ends

-- What is asked of the ends of a node for one of its receivers' ends: they are found by cable and by name, and no other is.
pub record KeyedFar (w : Where) (n : Node) : Type 0 where
  pub turns : (k : ℕ) (e : SenderEnd) → sender_end k n.own ≡ Some e → (e.cable == w.cable) ≡ false
  pub takings : (k : ℕ) (e : ReceiverEnd) → receiver_end k n.own ≡ Some e → (k == w.cable) ≡ false → ((e.cable == w.cable) ≡ false) × (bytes_eq w.channel e.channel ≡ false)
  pub named : (name : List ℕ) (e : ReceiverEnd) → receiver_named name n.own.ends ≡ Some e → (e.cable == w.cable) ≡ true → end_in w.cable n.own.ends ≡ Some (Receives e)
  pub others : (name : List ℕ) (e : ReceiverEnd) → receiver_named name n.own.ends ≡ Some e → (e.cable == w.cable) ≡ false → bytes_eq w.channel e.channel ≡ false
  pub senders : (name : List ℕ) (e : SenderEnd) → sender_named name n.own.ends ≡ Some e → (e.cable == w.cable) ≡ false

-- a deed is a step of the channel, or leaves the end alone
abbrev pub EachDoesFar : Where → Node → Channel → Past → Option Deed → Type 0
EachDoesFar w n c p None = Unit {0}
EachDoesFar w n c p (Some d) = DoesFar w n d c p
