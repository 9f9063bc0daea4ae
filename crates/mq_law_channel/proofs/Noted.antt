-- A stopped write with its note keeps the facts.
use Rattle.std.proofs.Common.{◌≡◌, Bool, true, false}
use Rattle.mq_sender.specs.declared.state.SenderState.TheVariants.{Inactive}
use Rattle.mq_sender.specs.declared.state.Sender.{Sender}
use Rattle.mq_law_channel.specs.Channel.{Channel, Past, Facts}
use Rattle.mq_law_channel.specs.Turns.{SenderTurn, SenderMay, sender_turn, sender_past, sender_restarted, sender_past_restarted, ReceiverTurn, ReceiverMay, receiver_turn, receiver_restarted}
use Rattle.mq_law_channel.proofs.Operating.{sender_inactive, receiver_inactive}
use Rattle.mq_law_channel.proofs.Sent.{sender_turn_keeps}
use Rattle.mq_law_channel.proofs.Taken.{receiver_turn_keeps}

pub sender_noted : (kept : Bool) (t : SenderTurn) (m : Sender) (c : Channel) (p : Past) → Facts c p → SenderMay t c → m.state ≡ Inactive → Facts (sender_restarted kept t m c) (sender_past_restarted kept t c p)
sender_noted true t m c p h may e = sender_inactive m (sender_turn t c) (sender_past t c p) (sender_turn_keeps t c p h may) e
sender_noted false t m c p h may e = sender_inactive m c p h e

pub receiver_noted : (kept : Bool) (t : ReceiverTurn) (c : Channel) (p : Past) → Facts c p → ReceiverMay t c p → Facts (receiver_restarted kept t c) p
receiver_noted true t c p h may = receiver_inactive (receiver_turn t c) p (receiver_turn_keeps t c p h may)
receiver_noted false t c p h may = receiver_inactive c p h
