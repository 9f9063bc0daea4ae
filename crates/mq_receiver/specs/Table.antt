-- A receiver's turn: the first line of the table that applies.
use Rattle.std.specs.Prelude.{ℕ, ◌+◌, nat_lt, Bool, true, false, not, ◌==◌, ◌&&◌, ◌||◌, List, [], ◌∷◌, is_some}
use Rattle.mq_frame.specs.declared.frame.Frame.{Frame}
use Rattle.mq_frame.specs.declared.frame.FrameKind.{FrameKind}
use Rattle.mq_frame.specs.declared.frame.FrameKind.TheVariants.{Bind, Msg, End}
use Rattle.mq_frame.specs.declared.frame.Seen.{Seen}
use Rattle.mq_frame.specs.declared.frame.Seen.TheVariants as items
pub use Rattle.mq_frame.specs.Sight.{waits}
use Rattle.mq_sync.specs.declared.unit.Unit.{Unit as Luw}
use Rattle.mq_sync.specs.Units.{unit_named, no_unit, same_unit}
use Rattle.mq_sync.specs.Turns.{Line, line, first_line}
use Rattle.mq_receiver.specs.declared.state.Receiver.{Receiver}
use Rattle.mq_receiver.specs.declared.turns.ReceiverDoes.{ReceiverDoes}
use Rattle.mq_receiver.specs.declared.turns.ReceiverDoes.TheVariants as does
use Rattle.mq_receiver.specs.States.{is_bound, is_stopped, latest_begun, messages_came}

-- What waits.
abbrev pub is_spoiled : Seen → Bool
is_spoiled items.Spoiled = true
is_spoiled _ = false

abbrev pub kind_is_bind : FrameKind → Bool
kind_is_bind (Bind last force) = true
kind_is_bind _ = false

-- BIND of a session above the kept one
abbrev pub is_new_bind : Receiver → Seen → Bool
is_new_bind r (items.Frame f) = kind_is_bind f.kind && nat_lt r.session f.session
is_new_bind r _ = false

-- a frame of the bound session
abbrev pub of_session : Receiver → Frame → Bool
of_session r f = is_bound r.state && (f.session == r.session)

-- message 1 of a unit above the latest, or the next message of the latest
abbrev pub continued : Receiver → (n index : ℕ) → Bool
continued r n index = ((index == 1) && nat_lt (latest_begun r.state) n) || ((n == latest_begun r.state) && (index == messages_came r.state + 1))

abbrev pub kind_continues : Receiver → FrameKind → Bool
kind_continues r (Msg n index number dest message) = continued r n index
kind_continues r _ = false

abbrev pub continues : Receiver → Seen → Bool
continues r (items.Frame f) = of_session r f && kind_continues r f.kind
continues r _ = false

abbrev pub kind_is_end : FrameKind → Bool
kind_is_end (End n count last) = true
kind_is_end _ = false

abbrev pub kind_number : FrameKind → ℕ
kind_number (End n count last) = n
kind_number (Msg n index number dest message) = n
kind_number _ = 0

-- the unit of an END or a MSG
abbrev pub unit_of : Frame → Luw
unit_of f = unit_named f.session (kind_number f.kind)

abbrev pub unit_seen : Seen → Luw
unit_seen (items.Frame f) = unit_of f
unit_seen _ = no_unit

-- END of the unit that was committed last
abbrev pub repeats : Receiver → Seen → Bool
repeats r (items.Frame f) = of_session r f && kind_is_end f.kind && same_unit (unit_of f) r.unit
repeats r _ = false

-- END of the latest unit, with so many messages as came
abbrev pub kind_completes : Receiver → FrameKind → Bool
kind_completes r (End n count last) = (n == latest_begun r.state) && (count == messages_came r.state)
kind_completes r _ = false

abbrev pub completes : Receiver → Seen → Bool
completes r (items.Frame f) = of_session r f && kind_completes r f.kind
completes r _ = false

-- what is made of an END of the bound session: these are three lines of the table
abbrev pub ended : Receiver → (n count : ℕ) → ReceiverDoes
ended r n count = first_line does.Ignore (
    line (same_unit (unit_named r.session n) r.unit) does.Again
    ∷ line ((n == latest_begun r.state) && (count == messages_came r.state)) (does.Place (unit_named r.session n))
    ∷ [])

-- The table. `defined` says that the end's definition is there.
abbrev pub receiver_lines : Receiver → Seen → (defined : Bool) → List (Line ReceiverDoes)
receiver_lines r seen defined =
    line (is_some r.owes) does.PushOwed
    ∷ line (is_new_bind r seen && defined && not (is_stopped r.state)) does.Bind
    ∷ line (continues r seen) does.Keep
    ∷ line (repeats r seen) does.Again
    ∷ line (completes r seen) (does.Place (unit_seen seen))
    ∷ line (is_spoiled seen && is_bound r.state) does.Close
    ∷ line (waits seen) does.Ignore
    ∷ []

abbrev pub receiver_next : Receiver → Seen → (defined : Bool) → ReceiverDoes
receiver_next r seen defined = first_line does.Still (receiver_lines r seen defined)
