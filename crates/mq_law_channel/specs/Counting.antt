-- Sequence numbers of a channel: where no operator has set one, the two ends agree.
use Rattle.std.specs.Prelude.{ℕ, zero, suc, ◌+◌, ◌≡◌, ◌≢◌, ◌≤◌, Bool, true, false, List, length, Option, Some, None, if◌then◌else◌}
use Rattle.mq_sync.specs.declared.unit.Unit.{Unit as Luw}
use Rattle.mq_sync.specs.declared.unit.Settle.{Settle}
use Rattle.mq_sync.specs.declared.data.InDoubt.{InDoubt}
use Rattle.mq_sync.specs.declared.data.SenderData.{SenderData}
use Rattle.mq_sync.specs.declared.data.ReceiverData.{ReceiverData}
use Rattle.mq_sync.specs.Numbers.{number_after}
use Rattle.mq_sync.specs.Units.{unit_named, same_unit}
use Rattle.mq_sender.specs.declared.state.SenderState.{SenderState}
use Rattle.mq_sender.specs.declared.state.SenderState.TheVariants.{Sending, Ready}
use Rattle.mq_sender.specs.declared.state.Sender.{Sender}
use Rattle.mq_sender.specs.declared.turns.SenderDoes.{SenderDoes}
use Rattle.mq_sender.specs.declared.turns.SenderDoes.TheVariants as sends
use Rattle.mq_sender.specs.declared.turns.SenderOut.{SenderOut}
use Rattle.mq_sender.specs.declared.turns.SenderOut.TheVariants as outs
use Rattle.mq_sender.specs.States.{doubt_of}
use Rattle.mq_sender.specs.Table.{status_unit}
use Rattle.mq_sender.specs.After.{doubt_last}
use Rattle.mq_law_channel.specs.Facts.{Tale, Binds, Ends, Tells, Near, Mem, now}
use Rattle.mq_law_channel.specs.Channel.{Channel, Past, tales, far}
use Rattle.mq_law_channel.specs.Turns.{SenderTurn, sender_does}

-- the number after so many messages
abbrev pub number_past : (wrap last : ℕ) → ℕ → ℕ
number_past wrap last zero = last
number_past wrap last (suc k) = number_after wrap (number_past wrap last k)

-- What the proof follows: the last number of each unit, the sender's last number when it took the unit that it holds,
-- and whether an operator has set a number.
pub record Count : Type 0 where
  pub number : Luw → ℕ
  pub before : ℕ
  pub set : Bool

abbrev pub renumbered : (Luw → ℕ) → Luw → ℕ → Luw → ℕ
renumbered number u last v = if same_unit v u then last else number v

-- The facts: `own` and `other` are the two ends' last numbers, without the unit in doubt.
pub record Counted (s : Near) (forced : Bool) (own : ℕ) (force : Bool) (unit : Luw) (owes : Option Tale) (other : ℕ) (n : Count) (f b : List Tale) : Type 0 where
  pub ends : (u : Luw) (k last : ℕ) → Mem (Ends u k last) f → last ≡ n.number u
  pub binds : (x last : ℕ) → Mem (Binds x last true) f → n.set ≡ true
  pub forces : force ≡ true → n.set ≡ true
  pub free : n.set ≡ false → s.holds ≡ None → other ≡ own
  pub elsewhere : n.set ≡ false → (u : Luw) → s.holds ≡ Some u → u ≢ unit → other ≡ n.before
  pub same : n.set ≡ false → (u : Luw) → s.holds ≡ Some u → u ≡ unit → other ≡ n.number u
  pub plain : n.set ≡ false → (u : Luw) → s.holds ≡ Some u → forced ≡ false → own ≡ n.before
  pub operated : n.set ≡ false → (u : Luw) → s.holds ≡ Some u → forced ≡ true → own ≡ n.number u
  pub status : n.set ≡ false → (x : ℕ) (u : Luw) (last : ℕ) → Mem (Tells x u last) b → x ≡ s.session → s.begun ≡ 0 → last ≡ other
  pub status_owed : n.set ≡ false → (x : ℕ) (u : Luw) (last : ℕ) → owes ≡ Some (Tells x u last) → x ≡ s.session → s.begun ≡ 0 → last ≡ other

-- A unit that is being sent: its messages so far have so many numbers. One that is ready has its last number.
abbrev pub FitsNumbers : SenderState → Sender → (own ending last : ℕ) → Type 0
FitsNumbers (Sending sent number) m own ending last = (number ≡ number_past m.limits.sequence_wrap own sent) × (sent ≤ m.count) × (last ≡ number_past m.limits.sequence_wrap own m.count)
FitsNumbers Ready m own ending last = ending ≡ last
FitsNumbers _ m own ending last = Unit {0}

pub record Numbers (c : Channel) (p : Past) (n : Count) : Type 0 where
  pub counted : Counted p.near p.forced c.sends.last c.sends.force c.receives.unit (far c).owes c.receives.last n (tales c.out) (tales c.back)
  pub in_doubt : (d : InDoubt) → c.sends.in_doubt ≡ Some d → d.last ≡ n.number d.unit
  pub fits : FitsNumbers c.sender.state c.sender c.sends.last (doubt_last (doubt_of c.sends.in_doubt) c.sends.last) (n.number (now p.near))

-- what the proof follows after a turn of the sender: a batch that is begun gets its last number
abbrev pub count_begun : SenderTurn → Channel → Past → Count → Count
count_begun t c p n = record {
  number = renumbered n.number (unit_named p.near.session (p.near.begun + 1)) (number_past c.sender.limits.sequence_wrap c.sends.last (length t.letters));
  before = c.sends.last;
  set = n.set;
}

abbrev pub count_done : SenderDoes → SenderTurn → Channel → Past → Count → Count
count_done (sends.Begin k count) t c p n = count_begun t c p n
count_done _ t c p n = n

abbrev pub count_turned : SenderOut → SenderDoes → SenderTurn → Channel → Past → Count → Count
count_turned outs.Done d t c p n = count_done d t c p n
count_turned outs.Full d t c p n = n
count_turned outs.NoRoom d t c p n = n

abbrev pub sender_count : SenderTurn → Channel → Past → Count → Count
sender_count t c p n = count_turned t.outcome (sender_does t c) t c p n

-- an operator has set a number
abbrev pub count_set : Count → Count
count_set n = record n { set = true }

-- What a turn rests on beside: a batch has messages, and STATUS bears an operator's RESOLVE COMMIT out.
pub record SenderAgrees (t : SenderTurn) (c : Channel) (p : Past) : Type 0 where
  pub filled : (k count : ℕ) → sender_does t c ≡ sends.Begin k count → 1 ≤ count
  pub agreed : (u : Luw) (settle : Option Settle) (partner : ℕ) → p.forced ≡ true → p.near.holds ≡ Some u → sender_does t c ≡ sends.Bound settle partner → u ≡ status_unit t.seen

-- where a channel begins, no number was set if the two ends agree
pub record Agree (s : SenderData) (r : ReceiverData) : Type 0 where
  pub unforced : s.force ≡ false
  pub free : s.in_doubt ≡ None → r.last ≡ s.last
  pub elsewhere : (d : InDoubt) → s.in_doubt ≡ Some d → d.unit ≢ r.unit → r.last ≡ s.last
  pub same : (d : InDoubt) → s.in_doubt ≡ Some d → d.unit ≡ r.unit → r.last ≡ d.last

abbrev pub count_opened : SenderData → (set : Bool) → Count
count_opened s set = record { number = λ u. doubt_last (doubt_of s.in_doubt) s.last; before = s.last; set = set }
