-- A monitor's turn, and how it connects, as events of its node.
use Rattle.std.specs.Prelude.{◌≡◌, ℕ, Bool, true, false, not, ◌&&◌, [], Option, Some, None, Result, Ok, Err}
use Rattle.mq_base.specs.declared.want.NoMemory.{NoMemory as Want}
use Rattle.mq_calls.specs.declared.answers.Answer.TheVariants as answers
use Rattle.mq_history.specs.declared.calls.Actor.TheVariants as actors
use Rattle.mq_history.specs.declared.calls.Call.TheVariants as calls
use Rattle.mq_history.specs.declared.calls.Reply.TheVariants as replies
use Rattle.mq_spec_node.specs.Terms.{Answer, Call, Choice, Runs, NoMemory, Stopped, Entry, Got, Hconn, Hobj, MonitorLine, Reply}
pub use Rattle.mq_spec_node.specs.Words.{connected as connection_of}
use Rattle.mq_spec_node.specs.Words.{Monitor, begins, is_opened, is_script, is_trigger, monitor_get, monitor_idle, monitor_next, script_appl, shared}
use Rattle.mq_events.specs.States.{NodeState, node_in}
use Rattle.mq_events.specs.Events.{Adds, Stays}
use Rattle.mq_watch.specs.declared.getting.Monitored.{Monitored}
use Rattle.mq_watch.specs.declared.getting.Monitored.TheVariants as monitors
use Rattle.mq_watch.specs.declared.getting.Watched.{Watched}

-- where it gets, if it is connected and has its queue open
abbrev pub watched_at : Option Hconn → Option Hobj → Option Watched
watched_at None ho = None
watched_at (Some hc) None = None
watched_at (Some hc) (Some ho) = Some (record { connection = hc; queue = ho })

abbrev pub watched_by : Option Monitor → Option Watched
watched_by None = None
watched_by (Some m) = watched_at m.connection m.handle

abbrev pub get_of : Watched → Call
get_of w = calls.Mqget w.connection w.queue monitor_get None

-- an entry is a line of a script
abbrev pub is_line : ℕ → Entry → Bool
is_line k e = is_script k e.actor && not (is_trigger e.call)

-- a get that was refused
abbrev pub is_refusal : Answer Got → Bool
is_refusal (answers.Ok g) = false
is_refusal (answers.Warning reason g) = false
is_refusal (answers.Failed reason) = true

abbrev pub refused_reply : Reply → Bool
refused_reply (replies.Got a) = is_refusal a
refused_reply _ = false

abbrev pub is_refused : Choice → Reply → Bool
is_refused Runs reply = refused_reply reply
is_refused NoMemory reply = false
is_refused (Stopped by part left) reply = false

abbrev pub monitored : Option ℕ → Monitored
monitored None = monitors.Got
monitored (Some script) = monitors.Started script

-- It got a message, in one event, which begins this script or none; it is idle, and nothing has changed; there was no memory, and
-- nothing has changed.
pub record Gets (k : ℕ) (begun : Option ℕ) (old new : NodeState) : Type 0 where
  pub entry : Entry
  pub call : Call
  pub adds : Adds (actors.Monitor k) call entry old new
  pub next : Some call ≡ monitor_next k (node_in old)
  pub finds : monitor_idle k (node_in old) ≡ false
  pub script : begins old.own.scripts old.history.entries entry.reply ≡ begun

pub record Rests (k : ℕ) (old new : NodeState) : Type 0 where
  pub stays : Stays old new
  pub idle : monitor_idle k (node_in old) ≡ true

abbrev pub Turns : ℕ → NodeState → Result Monitored Want → NodeState → Type 0
Turns k old (Ok monitors.Idle) new = Rests k old new
Turns k old (Ok (monitors.Started script)) new = Gets k (Some script) old new
Turns k old (Ok monitors.Got) new = Gets k None old new
Turns k old (Err e) new = Stays old new

-- A monitor of that number and line connected, and was given this; it opened its queue, or not. Where there was no memory, nothing has
-- changed.
pub record ConnectsTo (k : ℕ) (line : MonitorLine) (given : Option Hconn) (old new : NodeState) : Type 0 where
  pub entry : Entry
  pub adds : Adds (actors.Monitor k) (calls.Mqconn [] (script_appl line.label)) entry old new
  pub gives : given ≡ connection_of entry.reply

abbrev pub Connects : ℕ → MonitorLine → NodeState → Result (Option Hconn) Want → NodeState → Type 0
Connects k line old (Ok given) new = ConnectsTo k line given old new
Connects k line old (Err e) new = Stays old new

pub record OpensQueue (k : ℕ) (line : MonitorLine) (hc : Hconn) (opened : Bool) (old new : NodeState) : Type 0 where
  pub entry : Entry
  pub adds : Adds (actors.Monitor k) (calls.Mqopen hc line.queue [] shared) entry old new
  pub gives : opened ≡ is_opened entry.reply

abbrev pub Opens : ℕ → MonitorLine → Hconn → NodeState → Result Bool Want → NodeState → Type 0
Opens k line hc old (Ok opened) new = OpensQueue k line hc opened old new
Opens k line hc old (Err e) new = Stays old new
