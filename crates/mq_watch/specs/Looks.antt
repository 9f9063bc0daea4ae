-- What a monitor's get would find.
use Rattle.std.specs.Prelude.{ℕ, Bool, false, not, ◌&&◌, find, List, Option, Some, None, Result, Ok, Err}
use Rattle.mq_calls.specs.Words.{Plain, Reason, Row, handle_at, is_free, is_past, stored}
use Rattle.mq_calls.specs.declared.state.Connection.{Connection}
use Rattle.mq_calls.specs.declared.state.Handle.{Handle}
use Rattle.mq_calls.specs.declared.answers.Hconn.{Hconn}
use Rattle.mq_calls.specs.declared.answers.Hobj.{Hobj}
use Rattle.mq_spec_manager.specs.Words.{connected, is_left, scanned}
use Rattle.mq_spec_node.specs.Words.{monitor_get}

-- free, and not expired
abbrev pub is_fresh : ℕ → Row → Bool
is_fresh moment row = is_free row && not (is_past moment row.message.deadline)

-- the row that is found fits
abbrev pub row_fits : Option Row → Bool
row_fits None = false
row_fits (Some row) = not (is_left monitor_get row.message)

-- the first such row of a queue fits
abbrev pub queue_fits : List ℕ → Plain → Bool
queue_fits queue p = row_fits (find (is_fresh p.moment) (stored queue p).rows)

abbrev pub handle_fits : Plain → Handle → Bool
handle_fits p h = row_fits (scanned monitor_get h p).found

abbrev pub handle_or : Plain → Option Handle → Bool
handle_or p None = false
handle_or p (Some h) = handle_fits p h

abbrev pub seat_fits : Hobj → Plain → Connection → Bool
seat_fits ho p c = handle_or p (handle_at ho.number c.handles)

abbrev pub seat_or : Hobj → Plain → Result Connection Reason → Bool
seat_or ho p (Err reason) = false
seat_or ho p (Ok c) = seat_fits ho p c

-- a message is there that fits, behind this handle
abbrev pub fits : Hconn → Hobj → Plain → Bool
fits hc ho p = seat_or ho p (connected hc p)
