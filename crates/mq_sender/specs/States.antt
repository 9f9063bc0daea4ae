-- The states of a sender, and what an operator, a stop of the manager and a timeout make of them.
use Rattle.std.specs.Prelude.{◌+◌, nat_lt, Bool, true, false, Option, Some, None, if◌then◌else◌}
use Rattle.mq_sync.specs.declared.unit.Unit.{Unit as Luw}
use Rattle.mq_sync.specs.declared.data.SenderData.{SenderData}
use Rattle.mq_sync.specs.Units.{unit_named}
pub use Rattle.mq_sync.specs.Settlement.{doubt_of}
use Rattle.mq_sender.specs.declared.state.Kept.{Kept}
use Rattle.mq_sender.specs.declared.state.Limits.{Limits}
use Rattle.mq_sender.specs.declared.state.StopCause.TheVariants.{Operator, NoAnswer}
use Rattle.mq_sender.specs.declared.state.SenderState.{SenderState}
use Rattle.mq_sender.specs.declared.state.SenderState.TheVariants.{Inactive, Stopped, Starting, Hailing, Binding, Running, Sending, Ready, Waiting}
use Rattle.mq_sender.specs.declared.state.Sender.{Sender}

-- what a sender has of its hardened data
abbrev pub kept_of : Option SenderData → Kept
kept_of None = record { session = 0; last = 0; force = false; doubt = None }
kept_of (Some d) = record { session = d.session; last = d.last; force = d.force; doubt = doubt_of d.in_doubt }

abbrev pub new_sender : Sender
new_sender = record {
  state = Inactive;
  tries = 0;
  kept = kept_of None;
  begun = 0;
  count = 0;
  limits = record { batch_size = 1; sequence_wrap = 1; short_retry = 0 };
}

-- START, from what is hardened and from the channel's definition
abbrev pub started : Kept → Limits → Sender
started kept limits = record { state = Starting; tries = 0; kept = kept; begun = 0; count = 0; limits = limits }

-- STOP
abbrev pub stopped : Sender → Sender
stopped s = record s { state = Stopped Operator }

-- the manager stops
abbrev pub halted : Sender → Sender
halted s = record s { state = Inactive }

abbrev pub is_running : SenderState → Bool
is_running Inactive = false
is_running (Stopped cause) = false
is_running Starting = true
is_running Hailing = true
is_running Binding = true
is_running Running = true
is_running (Sending sent number) = true
is_running Ready = true
is_running Waiting = true

-- an answer is awaited
abbrev pub awaits : SenderState → Bool
awaits Binding = true
awaits Waiting = true
awaits _ = false

abbrev pub unit_begun : Sender → Luw
unit_begun s = unit_named s.kept.session s.begun

-- a timeout: the sender starts anew, or stops where all tries are used
abbrev pub tried_again : Sender → Sender
tried_again s =
    if nat_lt s.tries s.limits.short_retry
    then record s { state = Starting; tries = s.tries + 1 }
    else record s { state = Stopped NoAnswer }

abbrev pub timed_out : Sender → Sender
timed_out s = if awaits s.state then tried_again s else s
