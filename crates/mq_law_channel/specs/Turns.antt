-- The steps of a channel: turns of its two ends, timeouts, operators' commands, stops and restarts.
use Rattle.std.specs.Prelude.{ℕ, ◌+◌, ◌≡◌, nat_lt, Bool, true, false, not, ◌==◌, ◌&&◌, List, [], ◌∷◌, ◌++◌, length, Option, Some, None, slice_get, if◌then◌else◌}
use Rattle.mq_message.specs.declared.message.Ident.{Ident}
use Rattle.mq_message.specs.declared.message.Dest.{Dest}
use Rattle.mq_message.specs.declared.message.Message.{Message}
use Rattle.mq_frame.specs.declared.frame.Frame.{Frame}
use Rattle.mq_frame.specs.declared.frame.FrameKind.{FrameKind}
use Rattle.mq_frame.specs.declared.frame.FrameKind.TheVariants.{Msg}
use Rattle.mq_frame.specs.declared.frame.Seen.{Seen}
use Rattle.mq_frame.specs.declared.frame.Seen.TheVariants as items
use Rattle.mq_sync.specs.declared.unit.Unit.{Unit as Luw}
use Rattle.mq_sync.specs.declared.unit.Settle.{Settle}
use Rattle.mq_sync.specs.declared.unit.Settle.TheVariants as settles
use Rattle.mq_sync.specs.declared.data.InDoubt.{InDoubt}
use Rattle.mq_sync.specs.declared.data.SenderData.{SenderData}
use Rattle.mq_sync.specs.declared.data.ReceiverData.{ReceiverData}
use Rattle.mq_sync.specs.declared.data.Stock.{Stock}
use Rattle.mq_sync.specs.Units.{unit_named}
use Rattle.mq_sync.specs.Settlement.{data_prepared}
pub use Rattle.mq_sync.specs.Settlement.{data_settled}
use Rattle.mq_sender.specs.declared.state.Limits.{Limits}
use Rattle.mq_sender.specs.declared.state.Sender.{Sender}
use Rattle.mq_sender.specs.declared.turns.SenderDoes.{SenderDoes}
use Rattle.mq_sender.specs.declared.turns.SenderDoes.TheVariants as sends
use Rattle.mq_sender.specs.declared.turns.SenderOut.{SenderOut}
use Rattle.mq_sender.specs.declared.turns.SenderOut.TheVariants as outs
use Rattle.mq_sender.specs.States as senders
use Rattle.mq_sender.specs.Table.{sender_next, messages_sent}
use Rattle.mq_sender.specs.After.{sender_after, number_sent}
use Rattle.mq_sender.specs.Frames.{bind_frame, message_frame, end_frame}
use Rattle.mq_receiver.specs.declared.state.Owed.{Owed}
use Rattle.mq_receiver.specs.declared.state.Receiver.{Receiver}
use Rattle.mq_receiver.specs.declared.turns.ReceiverDoes.{ReceiverDoes}
use Rattle.mq_receiver.specs.declared.turns.ReceiverDoes.TheVariants as takes
use Rattle.mq_receiver.specs.declared.turns.ReceiverOut.{ReceiverOut}
use Rattle.mq_receiver.specs.declared.turns.ReceiverOut.TheVariants as ends
use Rattle.mq_receiver.specs.States as receivers
use Rattle.mq_receiver.specs.Table.{receiver_next}
use Rattle.mq_receiver.specs.After.{receiver_after, bound_by, last_by, kept_messages}
use Rattle.mq_law_channel.specs.Facts.{Letter, Mem, given, marked}
use Rattle.mq_law_channel.specs.Channel.{Channel, Past}

-- an item that waits was offered before, at whatever time; a spoiled one may always come
abbrev pub SeenIn : Seen → List Frame → Type 0
SeenIn items.Nothing offered = Unit {0}
SeenIn items.Spoiled offered = Unit {0}
SeenIn (items.Frame f) offered = Mem f offered

-- SENDER. A turn: the stamp, what waits, the transmission queue's rows and its name, what came of the turn, and of the
-- batch that it begins, if it begins one, the messages and their idents.
pub record SenderTurn : Type 0 where
  pub stamp : ℕ
  pub seen : Seen
  pub stock : Stock
  pub queue : List ℕ
  pub outcome : SenderOut
  pub letters : List Letter
  pub idents : List Ident

abbrev pub sender_does : SenderTurn → Channel → SenderDoes
sender_does t c = sender_next c.sender t.seen t.stock

-- the unit that is prepared, of these messages on that queue
abbrev pub prepared_unit : Sender → (queue : List ℕ) → List Ident → InDoubt
prepared_unit m queue idents = record { unit = senders.unit_begun m; queue = queue; idents = idents; last = number_sent m.state m.kept.last }

-- what is hardened
abbrev pub data_sent : SenderDoes → Sender → InDoubt → SenderData → SenderData
data_sent (sends.HardenSession session) m doubt d = record d { session = session }
data_sent sends.Prepare m doubt d = data_prepared doubt d
data_sent (sends.Bound settle partner) m doubt d = data_settled settle d
data_sent sends.Commit m doubt d = data_settled (Some settles.Commit) d
data_sent (sends.Backout reason) m doubt d = data_settled (Some settles.Backout) d
data_sent _ m doubt d = d

abbrev pub letter_offered : ℕ → Sender → (n index : ℕ) → Option Letter → List Frame → List Frame
letter_offered stamp m n index None out = out
letter_offered stamp m n index (Some l) out = message_frame stamp m n index l.dest l.message ∷ out

-- what is offered
abbrev pub sender_offers : SenderDoes → SenderTurn → Channel → List Frame
sender_offers sends.PushBind t c = bind_frame t.stamp c.sender ∷ c.out
sender_offers (sends.Begin n count) t c = letter_offered t.stamp c.sender n 1 (slice_get t.letters 0) c.out
sender_offers (sends.PushMsg index) t c = letter_offered t.stamp c.sender c.sender.begun index (slice_get c.batch (messages_sent c.sender.state)) c.out
sender_offers sends.PushEnd t c = end_frame t.stamp c.sender ∷ c.out
sender_offers _ t c = c.out

abbrev pub batch_after : SenderDoes → SenderTurn → Channel → List Letter
batch_after (sends.Begin n count) t c = t.letters
batch_after _ t c = c.batch

abbrev pub sender_done : SenderDoes → SenderTurn → Channel → Channel
sender_done d t c = record c {
  sends = data_sent d c.sender (prepared_unit c.sender t.queue t.idents) c.sends;
  sender = sender_after c.sender d outs.Done;
  batch = batch_after d t c;
  out = sender_offers d t c;
}

abbrev pub sender_turned : SenderOut → SenderDoes → SenderTurn → Channel → Channel
sender_turned outs.Done d t c = sender_done d t c
sender_turned outs.Full d t c = c
sender_turned outs.NoRoom d t c = record c { sender = sender_after c.sender d outs.NoRoom }

abbrev pub sender_turn : SenderTurn → Channel → Channel
sender_turn t c = sender_turned t.outcome (sender_does t c) t c

-- what the proof follows: the sender's hands are empty
abbrev pub emptied : Past → Past
emptied p = record p { near = record p.near { holds = None; doubt = false }; forced = false }

abbrev pub begun_unit : Past → List Letter → Past
begun_unit p letters = record p {
  near = record p.near { begun = p.near.begun + 1; holds = Some (unit_named p.near.session (p.near.begun + 1)); doubt = false };
  content = given p.content (unit_named p.near.session (p.near.begun + 1)) letters;
}

abbrev pub past_done : SenderDoes → SenderTurn → Past → Past
past_done (sends.HardenSession session) t p = record p { near = record p.near { session = p.near.session + 1; begun = 0 } }
past_done (sends.Begin n count) t p = begun_unit p t.letters
past_done sends.Prepare t p = record p { near = record p.near { doubt = true } }
past_done (sends.Bound settle partner) t p = emptied p
past_done sends.Commit t p = emptied p
past_done (sends.Backout reason) t p = emptied p
past_done _ t p = p

abbrev pub past_turned : SenderOut → SenderDoes → SenderTurn → Past → Past
past_turned outs.Done d t p = past_done d t p
past_turned outs.Full d t p = p
past_turned outs.NoRoom d t p = emptied p

abbrev pub sender_past : SenderTurn → Channel → Past → Past
sender_past t c p = past_turned t.outcome (sender_does t c) t p

-- What a turn of a sender rests on: what waits was offered; NoRoom goes with Prepare alone; and a batch has as many
-- messages as the turn says.
pub record SenderMay (t : SenderTurn) (c : Channel) : Type 0 where
  pub offered : SeenIn t.seen c.back
  pub no_room : t.outcome ≡ outs.NoRoom → sender_does t c ≡ sends.Prepare
  pub counted : (n count : ℕ) → sender_does t c ≡ sends.Begin n count → count ≡ length t.letters

-- RECEIVER.
pub record ReceiverTurn : Type 0 where
  pub stamp : ℕ
  pub seen : Seen
  pub defined : Bool
  pub outcome : ReceiverOut

abbrev pub receiver_does : ReceiverTurn → Channel → ReceiverDoes
receiver_does t c = receiver_next c.receiver t.seen t.defined

abbrev pub data_received : ReceiverDoes → Seen → Receiver → ReceiverData → ReceiverData
data_received takes.Bind seen m d = record d { session = (bound_by seen m).session; closed = false; last = (bound_by seen m).last }
data_received (takes.Place unit) seen m d = record d { unit = unit; last = last_by seen m.last }
data_received takes.Close seen m d = record d { closed = true }
data_received _ seen m d = d

abbrev pub letter_of : Dest → Message → Letter
letter_of dest message = record { dest = dest; message = message }

abbrev pub letters_kind : FrameKind → List Letter → List Letter
letters_kind k kept = kept_messages letter_of k kept

abbrev pub letters_seen : Seen → List Letter → List Letter
letters_seen (items.Frame f) kept = letters_kind f.kind kept
letters_seen _ kept = kept

abbrev pub kept_after : ReceiverDoes → Seen → List Letter → List Letter
kept_after takes.Bind seen kept = []
kept_after takes.Keep seen kept = letters_seen seen kept
kept_after (takes.Place unit) seen kept = []
kept_after takes.Close seen kept = []
kept_after _ seen kept = kept

abbrev pub answered : ℕ → Option Owed → List Frame → List Frame
answered stamp None back = back
answered stamp (Some o) back = receivers.owed_frame stamp o ∷ back

abbrev pub receiver_offers : ReceiverDoes → ReceiverTurn → Channel → List Frame
receiver_offers takes.PushOwed t c = answered t.stamp c.receiver.owes c.back
receiver_offers _ t c = c.back

abbrev pub receiver_done : ReceiverDoes → ReceiverTurn → Channel → Channel
receiver_done d t c = record c {
  receives = data_received d t.seen c.receiver c.receives;
  receiver = receiver_after c.receiver d t.seen ends.Done;
  kept = kept_after d t.seen c.kept;
  back = receiver_offers d t c;
}

abbrev pub receiver_turned : ReceiverOut → ReceiverDoes → ReceiverTurn → Channel → Channel
receiver_turned ends.Done d t c = receiver_done d t c
receiver_turned ends.Full d t c = c
receiver_turned (ends.Refused reason) d t c = record c {
  receives = record c.receives { closed = true };
  receiver = receiver_after c.receiver d t.seen (ends.Refused reason);
  kept = [];
}

abbrev pub receiver_turn : ReceiverTurn → Channel → Channel
receiver_turn t c = receiver_turned t.outcome (receiver_does t c) t c

-- What a turn of a receiver rests on: what waits was offered; Refused goes with Place alone; and no unit is committed
-- that an operator has backed out.
pub record ReceiverMay (t : ReceiverTurn) (c : Channel) (p : Past) : Type 0 where
  pub offered : SeenIn t.seen c.out
  pub refused : (reason : ℕ) → t.outcome ≡ ends.Refused reason → (u : Luw) × (receiver_does t c ≡ takes.Place u)
  pub agreed : (u : Luw) → t.outcome ≡ ends.Done → receiver_does t c ≡ takes.Place u → p.near.undone u ≡ false

-- OPERATORS, STOPS, RESTARTS.
-- a batch that isn't prepared is released
abbrev pub released : Past → Past
released p = if p.near.doubt then p else emptied p

abbrev pub sender_started : Limits → Channel → Channel
sender_started limits c = record c { sender = senders.started (senders.kept_of (Some c.sends)) limits }

abbrev pub sender_stopped : Channel → Channel
sender_stopped c = record c { sender = senders.stopped c.sender }

-- the sender's manager has stopped, and the machine is made anew or not
abbrev pub sender_rests : Sender → Channel → Channel
sender_rests m c = record c { sender = m }

abbrev pub sender_timed_out : Channel → Channel
sender_timed_out c = record c { sender = senders.timed_out c.sender }

-- RESET
abbrev pub sender_numbered : ℕ → Channel → Channel
sender_numbered last c = record c { sends = record c.sends { last = last; force = true } }

abbrev pub receiver_numbered : ℕ → Channel → Channel
receiver_numbered last c = record c { receives = record c.receives { last = last }; receiver = receivers.numbered last c.receiver }

-- RESOLVE
abbrev pub resolved : Settle → Channel → Channel
resolved settle c = record c { sends = data_settled (Some settle) c.sends }

abbrev pub undone : Luw → Past → Past
undone u p = record p { near = record p.near { holds = None; doubt = false; undone = marked p.near.undone u } }

abbrev pub past_resolved : Settle → InDoubt → Past → Past
past_resolved settles.Commit d p = record p { forced = true }
past_resolved settles.Backout d p = undone d.unit p

abbrev pub receiver_started : Channel → Channel
receiver_started c = record c { receiver = receivers.started c.receiver }

abbrev pub is_open : ReceiverData → Bool
is_open d = nat_lt 0 d.session && not d.closed

-- STOP hardens Closed where a session is open
abbrev pub receiver_stopped : Channel → Channel
receiver_stopped c = record c {
  receives = if is_open c.receives then record c.receives { closed = true } else c.receives;
  receiver = receivers.stopped c.receiver;
  kept = [];
}

-- the receiver's manager has stopped
abbrev pub receiver_halted : Channel → Channel
receiver_halted c = record c { receiver = receivers.halted c.receiver; kept = [] }

-- and starts again from what is hardened
abbrev pub receiver_rests : Channel → Channel
receiver_rests c = record c { receiver = receivers.receiver_of (Some c.receives); kept = [] }

-- The restart after a turn whose write was stopped: the turn is done where its write was kept, and then what a stop does.
abbrev pub sender_restarted : (kept : Bool) → SenderTurn → Sender → Channel → Channel
sender_restarted kept t m c = sender_rests m (if kept then sender_turn t c else c)

abbrev pub sender_past_restarted : (kept : Bool) → SenderTurn → Channel → Past → Past
sender_past_restarted kept t c p = released (if kept then sender_past t c p else p)

abbrev pub receiver_restarted : (kept : Bool) → ReceiverTurn → Channel → Channel
receiver_restarted kept t c = receiver_rests (if kept then receiver_turn t c else c)
