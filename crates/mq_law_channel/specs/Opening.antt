-- Where a channel begins: what the first starts of both managers read.
use Rattle.std.specs.Prelude.{ℕ, ◌≡◌, ◌≤◌, max, ◌==◌, false, List, [], Option, Some, None, is_some, if◌then◌else◌}
use Rattle.std.specs.Option.{option_map}
use Rattle.mq_sync.specs.declared.unit.Unit.{Unit as Luw}
use Rattle.mq_sync.specs.declared.data.InDoubt.{InDoubt}
use Rattle.mq_sync.specs.declared.data.SenderData.{SenderData}
use Rattle.mq_sync.specs.declared.data.ReceiverData.{ReceiverData}
use Rattle.mq_sync.specs.Units.{Upto}
use Rattle.mq_sender.specs.States.{new_sender}
use Rattle.mq_receiver.specs.States.{receiver_of}
use Rattle.mq_law_channel.specs.Facts.{Letter}
use Rattle.mq_law_channel.specs.Channel.{Channel, Past}

-- both machines rest, and no frame was offered yet
abbrev pub opened : SenderData → ReceiverData → Channel
opened s r = record { sends = s; sender = new_sender; batch = []; receives = r; receiver = receiver_of (Some r); kept = []; out = []; back = [] }

-- The logs belong together: the receiver's session is at most the sender's, and its last unit isn't above the one in
-- doubt; and each log is one: a unit has a number from 1 and a session up to the hardened one.
pub record Belong (s : SenderData) (r : ReceiverData) : Type 0 where
  pub sessions : r.session ≤ s.session
  pub unit : (d : InDoubt) → s.in_doubt ≡ Some d → (1 ≤ d.unit.n) × (d.unit.session ≤ s.session) × Upto r.unit d.unit
  pub last : r.unit.session ≤ r.session

-- a unit's number, where it is of that session
abbrev pub number_in : ℕ → Luw → ℕ
number_in session u = if u.session == session then u.n else 0

abbrev pub doubt_unit : InDoubt → Luw
doubt_unit d = d.unit

abbrev pub doubt_number : ℕ → Option InDoubt → ℕ
doubt_number session None = 0
doubt_number session (Some d) = number_in session d.unit

-- what the proof follows from there on; `letters` are what the unit in doubt has
abbrev pub past_opened : SenderData → ReceiverData → List Letter → Past
past_opened s r letters = record {
  near = record {
    session = s.session;
    begun = max (doubt_number s.session s.in_doubt) (number_in s.session r.unit);
    holds = option_map doubt_unit s.in_doubt;
    doubt = is_some s.in_doubt;
    undone = λ u. false;
  };
  content = λ u. letters;
  forced = false;
}
