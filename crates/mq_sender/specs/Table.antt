-- A sender's turn: the first line of the table that applies.
use Rattle.std.specs.Prelude.{ℕ, ◌+◌, min, nat_lt, Bool, true, false, ◌==◌, ◌&&◌, List, [], ◌∷◌, Option, Some, None}
use Rattle.mq_frame.specs.declared.frame.FrameKind.{FrameKind}
use Rattle.mq_frame.specs.declared.frame.FrameKind.TheVariants.{Status, Ack, Err}
use Rattle.mq_frame.specs.declared.frame.Seen.{Seen}
use Rattle.mq_frame.specs.declared.frame.Seen.TheVariants as items
pub use Rattle.mq_frame.specs.Sight.{waits}
use Rattle.mq_sync.specs.declared.unit.Unit.{Unit as Luw}
use Rattle.mq_sync.specs.declared.unit.Settle.{Settle}
use Rattle.mq_sync.specs.declared.data.Stock.{Stock}
use Rattle.mq_sync.specs.Units.{unit_named, no_unit, same_unit, settlement}
use Rattle.mq_sync.specs.Turns.{Line, line, first_line}
use Rattle.mq_sync.specs.declared.data.Doubt.{Doubt}
use Rattle.mq_sender.specs.declared.state.SenderState.{SenderState}
use Rattle.mq_sender.specs.declared.state.SenderState.TheVariants.{Starting, Hailing, Binding, Running, Sending, Ready, Waiting}
use Rattle.mq_sender.specs.declared.state.Sender.{Sender}
use Rattle.mq_sender.specs.declared.turns.SenderDoes.{SenderDoes}
use Rattle.mq_sender.specs.declared.turns.SenderDoes.TheVariants as does

-- What waits.
abbrev pub kind_is_status : FrameKind → Bool
kind_is_status (Status session n last) = true
kind_is_status _ = false

-- STATUS of a session
abbrev pub is_status : ℕ → Seen → Bool
is_status session (items.Frame f) = kind_is_status f.kind && (f.session == session)
is_status session _ = false

abbrev pub kind_unit : FrameKind → Luw
kind_unit (Status session n last) = unit_named session n
kind_unit _ = no_unit

abbrev pub kind_last : FrameKind → ℕ
kind_last (Status session n last) = last
kind_last _ = 0

-- the receiver's last unit and last sequence number, as STATUS tells them
abbrev pub status_unit : Seen → Luw
status_unit (items.Frame f) = kind_unit f.kind
status_unit _ = no_unit

abbrev pub status_last : Seen → ℕ
status_last (items.Frame f) = kind_last f.kind
status_last _ = 0

-- a frame of a session, with a unit's number, is of the unit in doubt
abbrev pub names_doubt : Option Doubt → ℕ → ℕ → Bool
names_doubt None session n = false
names_doubt (Some d) session n = same_unit d.unit (unit_named session n)

abbrev pub kind_is_ack : Option Doubt → ℕ → FrameKind → Bool
kind_is_ack doubt session (Ack n) = names_doubt doubt session n
kind_is_ack doubt session _ = false

abbrev pub kind_is_err : Option Doubt → ℕ → FrameKind → Bool
kind_is_err doubt session (Err n reason) = names_doubt doubt session n
kind_is_err doubt session _ = false

-- ACK, and ERR, of the unit in doubt
abbrev pub is_ack : Option Doubt → Seen → Bool
is_ack doubt (items.Frame f) = kind_is_ack doubt f.session f.kind
is_ack doubt _ = false

abbrev pub is_err : Option Doubt → Seen → Bool
is_err doubt (items.Frame f) = kind_is_err doubt f.session f.kind
is_err doubt _ = false

abbrev pub kind_reason : FrameKind → ℕ
kind_reason (Err n reason) = reason
kind_reason _ = 0

abbrev pub err_reason : Seen → ℕ
err_reason (items.Frame f) = kind_reason f.kind
err_reason _ = 0

-- The states.
abbrev pub is_starting : SenderState → Bool
is_starting Starting = true
is_starting _ = false

abbrev pub is_hailing : SenderState → Bool
is_hailing Hailing = true
is_hailing _ = false

abbrev pub is_binding : SenderState → Bool
is_binding Binding = true
is_binding _ = false

abbrev pub is_idle : SenderState → Bool
is_idle Running = true
is_idle _ = false

abbrev pub is_sending : SenderState → Bool
is_sending (Sending sent number) = true
is_sending _ = false

-- how far a unit is sent
abbrev pub messages_sent : SenderState → ℕ
messages_sent (Sending sent number) = sent
messages_sent _ = 0

abbrev pub is_ready : SenderState → Bool
is_ready Ready = true
is_ready _ = false

abbrev pub is_waiting : SenderState → Bool
is_waiting Waiting = true
is_waiting _ = false

-- how STATUS settles a unit in doubt
abbrev pub settled_by : Option Doubt → Luw → Option Settle
settled_by None last = None
settled_by (Some d) last = Some (settlement d.unit last)

-- what a running sender makes of its transmission queue: these are two lines of the table
abbrev pub taking_lines : Sender → Stock → List (Line SenderDoes)
taking_lines s stock =
    line (stock.enabled && stock.expired) does.Expire
    ∷ line (stock.enabled && nat_lt 0 stock.free) (does.Begin (s.begun + 1) (min s.limits.batch_size stock.free))
    ∷ []

abbrev pub taken : Sender → Stock → SenderDoes
taken s stock = first_line does.Still (taking_lines s stock)

-- The table.
abbrev pub sender_lines : Sender → Seen → Stock → List (Line SenderDoes)
sender_lines s seen stock =
    line (is_binding s.state && is_status s.kept.session seen) (does.Bound (settled_by s.kept.doubt (status_unit seen)) (status_last seen))
    ∷ line (is_waiting s.state && is_ack s.kept.doubt seen) does.Commit
    ∷ line (is_waiting s.state && is_err s.kept.doubt seen) (does.Backout (err_reason seen))
    ∷ line (waits seen) does.Ignore
    ∷ line (is_starting s.state) (does.HardenSession (s.kept.session + 1))
    ∷ line (is_hailing s.state) does.PushBind
    ∷ line (is_idle s.state && stock.enabled && stock.expired) does.Expire
    ∷ line (is_idle s.state && stock.enabled && nat_lt 0 stock.free) (does.Begin (s.begun + 1) (min s.limits.batch_size stock.free))
    ∷ line (is_sending s.state && nat_lt (messages_sent s.state) s.count) (does.PushMsg (messages_sent s.state + 1))
    ∷ line (is_sending s.state) does.Prepare
    ∷ line (is_ready s.state) does.PushEnd
    ∷ []

abbrev pub sender_next : Sender → Seen → Stock → SenderDoes
sender_next s seen stock = first_line does.Still (sender_lines s seen stock)
