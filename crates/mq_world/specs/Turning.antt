-- Turns of handlers and monitors at their node, with the trigger turns behind them.
use Rattle.std.specs.Prelude.{◌≡◌, ℕ, Bool, true, false, Option, Some, None, Result, Ok, Err}
use Rattle.mq_history.specs.declared.calls.Actor.TheVariants as actors
use Rattle.mq_history.specs.declared.calls.Call.TheVariants as calls
use Rattle.mq_spec_node.specs.Terms.{Entry}
use Rattle.mq_spec_node.specs.Words.{begins, monitor_idle, monitor_next}
use Rattle.mq_watch.specs.from_events.States.{NodeState, IsServed, node_in}
use Rattle.mq_watch.specs.from_events.Events.{MayAct}
use Rattle.mq_handle.specs.Turns.{turn_of}
use Rattle.mq_nodes.specs.declared.nodes.Monitored.{Monitored}
use Rattle.mq_nodes.specs.declared.nodes.Monitored.TheVariants as monitors
use Rattle.mq_nodes.specs.declared.nodes.Stop.{Stop}
use Rattle.mq_world.specs.Settling.{IsOf, NodeBroke, NodeDid, NodeStays}

-- a handler's turn
abbrev pub HandlerOn : ℕ → ℕ → NodeState → Result Bool Stop → NodeState → Type 0
HandlerOn k m old (Ok true) new = NodeDid (IsOf (actors.Handler k) calls.Turn) old new × IsServed new × MayAct new
HandlerOn k m old (Ok false) new = (new ≡ old) × (turn_of k (node_in old) ≡ None)
HandlerOn k m old (Err stop) new = NodeBroke (IsOf (actors.Handler k) calls.Turn) m stop old new

-- a monitor's get of a message, which begins this script or none
abbrev pub IsGet : ℕ → NodeState → Entry → Type 0
IsGet k old e = (e.actor ≡ actors.Monitor k) × (Some e.call ≡ monitor_next k (node_in old)) × (monitor_idle k (node_in old) ≡ false)

abbrev pub IsGot : ℕ → Option ℕ → NodeState → Entry → Type 0
IsGot k script old e = IsGet k old e × (begins old.own.scripts old.history.entries e.reply ≡ script)

abbrev pub MonitorOn : ℕ → ℕ → NodeState → Result Monitored Stop → NodeState → Type 0
MonitorOn k m old (Ok monitors.Idle) new = NodeStays old new × (monitor_idle k (node_in old) ≡ true)
MonitorOn k m old (Ok (monitors.Started script)) new = NodeDid (IsGot k (Some script) old) old new × IsServed new × MayAct new
MonitorOn k m old (Ok monitors.Got) new = NodeDid (IsGot k None old) old new × IsServed new × MayAct new
MonitorOn k m old (Err stop) new = NodeBroke (IsGet k old) m stop old new
