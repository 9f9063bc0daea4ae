-- One message over a channel, and the same with a lost ACK: every turn by the tables.
use Rattle.std.specs.Prelude.{ℕ, true, false, List, [], ◌∷◌, None}
use Rattle.mq_frame.specs.declared.frame.Frame.{Frame}
use Rattle.mq_frame.specs.declared.frame.Seen.{Seen}
use Rattle.mq_frame.specs.declared.frame.Seen.TheVariants as items
use Rattle.mq_sync.specs.declared.data.SenderData.{SenderData}
use Rattle.mq_sync.specs.declared.data.ReceiverData.{ReceiverData}
use Rattle.mq_sync.specs.Units.{no_unit}
use Rattle.mq_sender.specs.declared.turns.SenderOut.TheVariants as outs
use Rattle.mq_receiver.specs.declared.turns.ReceiverOut.TheVariants as ends
use Rattle.mq_law_channel.specs.Facts.{Letter}
use Rattle.mq_law_channel.specs.Channel.{Channel}
use Rattle.mq_law_channel.specs.Turns.{sender_turn, receiver_turn, sender_started, sender_timed_out}
use Rattle.mq_law_channel.specs.Opening.{opened}

-- nothing is hardened yet
abbrev pub new_sends : SenderData
new_sends = record { partner = []; session = 0; last = 0; force = false; in_doubt = None }

abbrev pub new_receives : ReceiverData
new_receives = record { partner = []; session = 0; closed = false; unit = no_unit; last = 0 }

-- the frame that was offered last
abbrev pub newest : List Frame → Seen
newest [] = items.Nothing
newest (f ∷ fs) = items.Frame f

abbrev pub sends_with : Seen → List Letter → ℕ → Channel → Channel
sends_with seen letters free c = sender_turn (record {
  stamp = 0;
  seen = seen;
  stock = record { enabled = true; expired = false; free = free };
  queue = [];
  outcome = outs.Done;
  letters = letters;
  idents = [];
}) c

-- a turn of the sender without an item; one that sees the newest answer; one that begins a batch of one message
abbrev pub sends_on : Channel → Channel
sends_on c = sends_with items.Nothing [] 0 c

abbrev pub sends_seeing : Channel → Channel
sends_seeing c = sends_with (newest c.back) [] 0 c

abbrev pub sends_one : Letter → Channel → Channel
sends_one l c = sends_with items.Nothing (l ∷ []) 1 c

-- a turn of the receiver, on the newest frame or on none
abbrev pub takes_with : Seen → Channel → Channel
takes_with seen c = receiver_turn (record { stamp = 0; seen = seen; defined = true; outcome = ends.Done }) c

abbrev pub takes_newest : Channel → Channel
takes_newest c = takes_with (newest c.out) c

abbrev pub pays : Channel → Channel
pays c = takes_with items.Nothing c

-- session, BIND, STATUS: five turns
abbrev pub bound : Channel → Channel
bound c = sends_seeing (pays (takes_newest (sends_on (sends_on c))))

abbrev pub started : Channel
started = sender_started (record { batch_size = 50; sequence_wrap = 999; short_retry = 1 }) (opened new_sends new_receives)

-- a batch of one message, up to the receiver's commit and its ACK
abbrev pub acknowledged : Letter → Channel
acknowledged l = pays (takes_newest (sends_on (sends_on (takes_newest (sends_one l (bound started))))))

-- the sender sees ACK; or it is lost, and the next STATUS settles the unit
abbrev pub delivered : Letter → Channel
delivered l = sends_seeing (acknowledged l)

abbrev pub delivered_late : Letter → Channel
delivered_late l = bound (sender_timed_out (acknowledged l))
