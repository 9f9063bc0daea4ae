-- Monitors: what they do, and which scripts they begin.
use Rattle.std.specs.Prelude.{ℕ, ◌==◌, Bool, true, false, List, [], ◌∷◌, if◌then◌else◌, Option, Some, None, Ok, Err}
use Rattle.std.specs.Str.{bytes_eq}
use Rattle.mq_spec_node.specs.Terms.{Answer, Open, Hconn, Hobj, Get, Got, Call, Reply, Entry, tm_in, is_tm, trimmed, handles_connected}
use Rattle.mq_history.specs.from_calls.AnswerVariants as answers
use Rattle.mq_history.specs.from_calls.InputVariants as inputs
use Rattle.mq_history.specs.from_calls.TakeVariants as takes
use Rattle.mq_history.specs.from_frame.SeenVariants as items
use Rattle.mq_history.specs.declared.calls.Actor.TheVariants as actors
use Rattle.mq_history.specs.declared.calls.Call.TheVariants as calls
use Rattle.mq_history.specs.declared.calls.Reply.TheVariants as replies
use Rattle.mq_spec_node.specs.Node.{Node, Monitor, Script, monitor_in}
use Rattle.mq_spec_node.specs.Deeds.{Deed}
use Rattle.mq_spec_node.specs.Happens.{deed_of}
use Rattle.mq_spec_node.specs.Lines.{lines_done}

-- How a monitor opens its queue.
abbrev pub shared : Open
shared = record { input = inputs.Shared; browse = false; output = false }

abbrev pub is_opened : Reply → Bool
is_opened (replies.Opened (answers.Ok ho)) = true
is_opened _ = false

-- the text of ApplId in a trigger message
abbrev pub appl_id : List ℕ → List ℕ
appl_id body = trimmed (tm_in body).appl_id

abbrev pub got_body : Reply → List ℕ
got_body (replies.Got (answers.Ok g)) = g.body
got_body _ = []

abbrev pub script_named : List ℕ → List Script → Option ℕ
script_named label [] = None
script_named label (s ∷ ss) = if bytes_eq label s.part.label then Some s.number else script_named label ss

abbrev pub unless_begun : List Entry → Option ℕ → Option ℕ
unless_begun es None = None
unless_begun es (Some k) = if lines_done k es == 0 then Some k else None

-- the script of this manager that a monitor's get begins, after what its manager did so far
abbrev pub begins : List Script → List Entry → Reply → Option ℕ
begins ss es reply = if is_tm (got_body reply) then unless_begun es (script_named (appl_id (got_body reply)) ss) else None

abbrev pub is_failed : Answer Got → Bool
is_failed (answers.Ok g) = false
is_failed (answers.Warning reason g) = true
is_failed (answers.Failed reason) = true

-- the monitor's next get would find nothing
abbrev pub monitor_get : Get
monitor_get = record { sync = false; take = takes.Next; want = record { msg_id = None; correl_id = None }; room = 4194304; truncate = false }

abbrev pub gets_nothing : Option Deed → Bool
gets_nothing None = true
gets_nothing (Some d) = elim d.reply as (λ r. Bool) [
  | replies.Connected a ↦ true
  | replies.Opened a ↦ true
  | replies.Ended a ↦ true
  | replies.Put a ↦ true
  | replies.Got a ↦ is_failed a
  | replies.Acted a ↦ true
  | replies.Changed ↦ true
  | replies.Tried ↦ true
  | replies.Triggered q ↦ true
  | replies.Stopped by ↦ true
]

-- the get of a monitor that is connected
abbrev pub monitor_call : Option Hconn → Option Hobj → Option Call
monitor_call None ho = None
monitor_call (Some hc) None = None
monitor_call (Some hc) (Some ho) = Some (calls.Mqget hc ho monitor_get None)

abbrev pub call_of : Option Monitor → Option Call
call_of None = None
call_of (Some m) = monitor_call m.connection m.handle

abbrev pub monitor_next : ℕ → Node → Option Call
monitor_next k n = call_of (monitor_in k n.own.monitors)

abbrev pub monitor_deed : ℕ → Option Call → Node → Option Deed
monitor_deed k None n = None
monitor_deed k (Some call) n = deed_of 0 (actors.Monitor k) call items.Nothing n

abbrev pub monitor_idle : ℕ → Node → Bool
monitor_idle k n = gets_nothing (monitor_deed k (monitor_next k n) n)

-- whether it has a connection that lives
abbrev pub has_connection : Option Hconn → Node → Bool
has_connection None n = false
has_connection (Some hc) n = elim (handles_connected hc n.manager) as (λ r. Bool) [ Ok c ↦ true | Err reason ↦ false ]

abbrev pub is_live : Option Monitor → Node → Bool
is_live None n = false
is_live (Some m) n = has_connection m.connection n

abbrev pub monitor_live : ℕ → Node → Bool
monitor_live k n = is_live (monitor_in k n.own.monitors) n
