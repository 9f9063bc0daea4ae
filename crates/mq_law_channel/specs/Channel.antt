-- A channel on the types of its ends, what the proof follows beside it, and the facts that tie the two.
use Rattle.std.specs.Prelude.{ℕ, ◌-◌, ◌≡◌, ◌≢◌, Bool, true, false, List, length, map, Some, None}
use Rattle.std.specs.Option.{option_map}
use Rattle.mq_frame.specs.declared.frame.Frame.{Frame}
use Rattle.mq_frame.specs.declared.frame.FrameKind.{FrameKind}
use Rattle.mq_frame.specs.declared.frame.FrameKind.TheVariants.{Bind, Status, Msg, End, Ack, Err}
use Rattle.mq_sync.specs.declared.unit.Unit.{Unit as Luw}
use Rattle.mq_sync.specs.declared.data.InDoubt.{InDoubt}
use Rattle.mq_sync.specs.declared.data.SenderData.{SenderData}
use Rattle.mq_sync.specs.declared.data.ReceiverData.{ReceiverData}
use Rattle.mq_sync.specs.Units.{unit_named}
use Rattle.mq_sender.specs.declared.state.SenderState.{SenderState}
use Rattle.mq_sender.specs.declared.state.SenderState.TheVariants.{Inactive, Stopped, Starting, Hailing, Binding, Running, Sending, Ready, Waiting}
use Rattle.mq_sender.specs.declared.state.Sender.{Sender}
use Rattle.mq_sender.specs.States.{kept_of, is_running}
use Rattle.mq_receiver.specs.declared.state.Owed.{Owed}
use Rattle.mq_receiver.specs.declared.state.Owed.TheVariants as owed
use Rattle.mq_receiver.specs.declared.state.Receiver.{Receiver}
use Rattle.mq_receiver.specs.States.{is_bound, latest_begun, messages_came}
use Rattle.mq_law_channel.specs.Facts.{Letter, Tale, Binds, Sends, Ends, Tells, Acks, Errs, Near, Far, Sound, now}

-- What both ends have hardened, their machines, the messages of the batch that is being sent, the messages that the
-- receiver keeps, and every frame that was ever offered, to the receiver and to the sender.
pub record Channel : Type 0 where
  pub sends : SenderData
  pub sender : Sender
  pub batch : List Letter
  pub receives : ReceiverData
  pub receiver : Receiver
  pub kept : List Letter
  pub out : List Frame
  pub back : List Frame

-- What the proof follows: the sender's end with the unit that it holds (one that an operator has committed is held
-- until the receiver's word comes), what each unit has, and whether an operator has committed the unit that is held.
pub record Past : Type 0 where
  pub near : Near
  pub content : Luw → List Letter
  pub forced : Bool

-- What a frame tells.
abbrev pub tale_of : ℕ → FrameKind → Tale
tale_of session (Bind last force) = Binds session last force
tale_of session (Msg n index number dest message) = Sends (unit_named session n) (index - 1) (record { dest = dest; message = message })
tale_of session (End n count last) = Ends (unit_named session n) count last
tale_of session (Status unit_session unit_n last) = Tells session (unit_named unit_session unit_n) last
tale_of session (Ack n) = Acks (unit_named session n)
tale_of session (Err n reason) = Errs (unit_named session n)

abbrev pub tale : Frame → Tale
tale f = tale_of f.session f.kind

abbrev pub tales : List Frame → List Tale
tales frames = map tale frames

abbrev pub owed_tale : Owed → Tale
owed_tale (owed.Status session unit last) = Tells session unit last
owed_tale (owed.Ack unit) = Acks unit
owed_tale (owed.Err unit reason) = Errs unit

abbrev pub far : Channel → Far
far c = record {
  session = c.receives.session;
  closed = c.receives.closed;
  unit = c.receives.unit;
  bound = is_bound c.receiver.state;
  latest = latest_begun c.receiver.state;
  kept = c.kept;
  owes = option_map owed_tale c.receiver.owes;
}

-- a unit that is held was prepared
abbrev pub Quiet : Near → Type 0
Quiet s = (u : Luw) → s.holds ≡ Some u → s.doubt ≡ true

-- what a sender's state says of the unit that it holds
abbrev pub Fits : SenderState → Sender → Near → (Luw → List Letter) → List Letter → Type 0
Fits Inactive m s content batch = Quiet s
Fits (Stopped cause) m s content batch = Quiet s
Fits Starting m s content batch = Quiet s
Fits Hailing m s content batch = Quiet s × (s.begun ≡ 0) × (m.begun ≡ 0)
Fits Binding m s content batch = Quiet s × (s.begun ≡ 0) × (m.begun ≡ 0)
Fits Running m s content batch = (s.holds ≡ None) × (s.doubt ≡ false) × (m.begun ≡ s.begun)
Fits (Sending sent number) m s content batch = (s.holds ≡ Some (now s)) × (s.doubt ≡ false) × (m.begun ≡ s.begun) × (batch ≡ content (now s)) × (m.count ≡ length batch)
Fits Ready m s content batch = (s.holds ≡ Some (now s)) × (s.doubt ≡ true) × (m.begun ≡ s.begun) × (m.count ≡ length (content (now s)))
Fits Waiting m s content batch = Quiet s × (m.begun ≡ s.begun)

-- the machines and what is hardened are of one mind
pub record Tied (c : Channel) (p : Past) : Type 0 where
  pub session : p.near.session ≡ c.sends.session
  pub in_doubt : (d : InDoubt) → c.sends.in_doubt ≡ Some d → (p.near.holds ≡ Some d.unit) × (p.near.doubt ≡ true) × (p.forced ≡ false)
  pub settled : c.sends.in_doubt ≡ None → p.forced ≡ false → p.near.doubt ≡ false
  pub forced : p.forced ≡ true → p.near.doubt ≡ true
  pub running : is_running c.sender.state ≡ true → c.sender.kept ≡ kept_of (Some c.sends)
  pub fits : Fits c.sender.state c.sender p.near p.content c.batch
  pub bound_session : c.receiver.session ≡ c.receives.session
  pub bound_unit : c.receiver.unit ≡ c.receives.unit
  pub bound_last : c.receiver.last ≡ c.receives.last
  pub came : is_bound c.receiver.state ≡ true → c.receives.unit ≢ unit_named c.receives.session (latest_begun c.receiver.state) → messages_came c.receiver.state ≡ length c.kept

-- All facts of a channel.
pub record Facts (c : Channel) (p : Past) : Type 0 where
  pub sound : Sound p.near (far c) p.content (tales c.out) (tales c.back)
  pub tied : Tied c p
