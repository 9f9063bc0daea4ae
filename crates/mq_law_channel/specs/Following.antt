-- What the queues of a network need of a channel.
use Rattle.std.specs.Prelude.{ℕ, ◌≡◌, ◌≢◌, ◌<◌, ◌≤◌, ◌⊎◌, Bool, true, false, Option, Some, None}
use Rattle.mq_sync.specs.declared.unit.Unit.{Unit as Luw}
use Rattle.mq_sync.specs.declared.unit.Settle.{Settle}
use Rattle.mq_sync.specs.declared.unit.Settle.TheVariants as settles
use Rattle.mq_sync.specs.declared.data.InDoubt.{InDoubt}
use Rattle.mq_sync.specs.declared.data.ReceiverData.{ReceiverData}
use Rattle.mq_sync.specs.Units.{Below}
use Rattle.mq_sender.specs.declared.state.SenderState.{SenderState}
use Rattle.mq_sender.specs.declared.state.SenderState.TheVariants.{Inactive, Stopped, Starting, Hailing, Binding, Running, Sending, Ready, Waiting}
use Rattle.mq_sender.specs.declared.turns.SenderDoes.{SenderDoes}
use Rattle.mq_sender.specs.declared.turns.SenderDoes.TheVariants as sends
use Rattle.mq_sender.specs.Table.{status_unit}
use Rattle.mq_receiver.specs.declared.turns.ReceiverDoes.TheVariants as takes
use Rattle.mq_receiver.specs.declared.turns.ReceiverOut.TheVariants as ends
use Rattle.mq_receiver.specs.States.{is_bound}
use Rattle.mq_law_channel.specs.Facts.{Dead, Ends, Mem}
use Rattle.mq_law_channel.specs.Channel.{Channel, Past, far, tales}
use Rattle.mq_law_channel.specs.Turns.{SenderTurn, ReceiverTurn, receiver_does}

-- At a receiver's commit of a unit: its session is the receiver's, which isn't closed; what is kept is what was sent;
-- it is above the last unit.
pub record Placed (c : Channel) (p : Past) (u : Luw) : Type 0 where
  pub open_ : (u.session ≡ c.receives.session) × (c.receives.closed ≡ false)
  pub whole : c.kept ≡ p.content u
  pub rises : Below c.receives.unit u

-- and, unless an operator has backed it out, it is the unit that the sender holds and has prepared; in doubt there,
-- unless an operator has committed it
pub record Awaited (c : Channel) (p : Past) (u : Luw) : Type 0 where
  pub held : p.near.holds ≡ Some u
  pub prepared : p.near.doubt ≡ true
  pub in_doubt : p.forced ≡ false → (d : InDoubt) × ((c.sends.in_doubt ≡ Some d) × (d.unit ≡ u))

-- the unit that is held was committed by the receiver: it is the last one
abbrev pub WasCommitted : Channel → Past → Type 0
WasCommitted c p = (u : Luw) → p.near.holds ≡ Some u → u ≡ c.receives.unit

-- it was not, and never will be: its session is closed, or a later one is bound
abbrev pub WasNot : Channel → Past → Type 0
WasNot c p = (u : Luw) → p.near.holds ≡ Some u → (u ≢ c.receives.unit) × Dead (far c) u.session

abbrev pub Settled : Option Settle → Channel → Past → Type 0
Settled None c p = Unit {0}
Settled (Some settles.Commit) c p = WasCommitted c p
Settled (Some settles.Backout) c p = WasNot c p

-- What a sender's turn says of its unit. STATUS names the receiver's last unit, and the receiver takes nothing more of
-- the unit that is held.
abbrev pub Said : SenderDoes → SenderTurn → Channel → Past → Type 0
Said sends.Commit t c p = WasCommitted c p
Said (sends.Backout reason) t c p = WasNot c p
Said (sends.Bound settle partner) t c p = (status_unit t.seen ≡ c.receives.unit) × ((u : Luw) → p.near.holds ≡ Some u → Dead (far c) u.session) × Settled settle c p
Said _ t c p = Unit {0}

-- The receiver alone, of which the next facts speak also after a conflict: it takes in the hardened session, if that
-- isn't closed.
pub record Alone (c : Channel) : Type 0 where
  pub session : c.receiver.session ≡ c.receives.session
  pub open_ : is_bound c.receiver.state ≡ true → c.receives.closed ≡ false

-- what was closed or passed stays so
abbrev pub Later : ReceiverData → ReceiverData → Type 0
Later r q = (r.session < q.session) ⊎ ((q.session ≡ r.session) × (r.closed ≡ true → q.closed ≡ true))

-- Refused goes with Place alone
abbrev pub RefusesUnits : ReceiverTurn → Channel → Type 0
RefusesUnits t c = (reason : ℕ) → t.outcome ≡ ends.Refused reason → (u : Luw) × (receiver_does t c ≡ takes.Place u)

-- a sender that has had its STATUS in the present session
abbrev pub is_in_session : SenderState → Bool
is_in_session Inactive = false
is_in_session (Stopped cause) = false
is_in_session Starting = false
is_in_session Hailing = false
is_in_session Binding = false
is_in_session Running = true
is_in_session (Sending sent number) = true
is_in_session Ready = true
is_in_session Waiting = true

-- no unit is sent, and no END offered, before the receiver has bound its session
pub record Reached (c : Channel) (p : Past) : Type 0 where
  pub bound : is_in_session c.sender.state ≡ true → p.near.session ≤ c.receives.session
  pub ends : (u : Luw) (k last : ℕ) → Mem (Ends u k last) (tales c.out) → u.session ≤ c.receives.session

-- the unit that the sender holds is of a session at most the receiver's, also where its END was never offered
abbrev pub HeldWithin : Channel → Past → Type 0
HeldWithin c p = (u : Luw) → p.near.holds ≡ Some u → u.session ≤ c.receives.session
