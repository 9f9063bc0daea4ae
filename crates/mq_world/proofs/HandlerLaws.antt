-- Turns of handlers and monitors, with the trigger turns behind them.
use Rattle.std.proofs.Common.{◌≡◌, ℕ, Bool, true, false, [], ap, ◌∙◌}
use Rattle.std.specs.Prelude.{Option, Some, None, Result, Ok, Err, IfOk}
use Rattle.mq_history.specs.declared.calls.Actor.TheVariants as actors
use Rattle.mq_history.specs.declared.calls.Call.TheVariants as calls
use Rattle.mq_spec_node.specs.Terms.{Entry, Hconn, MonitorLine}
use Rattle.mq_spec_node.specs.Words.{is_opened, script_appl, shared}
use Rattle.mq_watch.specs.from_events.States.{NodeState}
use Rattle.mq_handle.specs.Turns.{Idles, Tries}
use Rattle.mq_watch.specs.Turns.{ConnectsTo, Gets, OpensQueue, Rests, connection_of}
use Rattle.mq_nodes.specs.declared.nodes.Monitored.{Monitored}
use Rattle.mq_nodes.specs.declared.nodes.Monitored.TheVariants as monitors
use Rattle.mq_nodes.specs.declared.nodes.Stop.{Stop}
use Rattle.mq_world.specs.Settling.{IsOf, NodeSays, Settles}
use Rattle.mq_world.proofs.NodeLaws.{broke_then, did_then, says_then, stays_so}
use Rattle.mq_world.specs.Turning.{HandlerOn, IsGet, IsGot, MonitorOn}

-- a handler's
pub idles : (k m : ℕ) (old new : NodeState) → Idles k old new → HandlerOn k m old (Ok false) new
idles k m old new h = (h.same, h.deed)

pub tries_then : (k m : ℕ) (old mid new : NodeState) (r : Result Bool Stop) → Tries k old mid → Settles m mid r new → IfOk r (λ (x : Bool). x ≡ true) → HandlerOn k m old r new
tries_then k m old mid new (Ok true) h s is = (did_then (IsOf (actors.Handler k) calls.Turn) (actors.Handler k) calls.Turn h.entry m old mid new (Ok true) (h.adds.actor, h.adds.call) h.adds s, s.ends.0, s.ends.1)
tries_then k m old mid new (Ok false) h s is = absurd cc
tries_then k m old mid new (Err stop) h s is =
    broke_then Bool (IsOf (actors.Handler k) calls.Turn) m old new stop (did_then {T = Bool} (IsOf (actors.Handler k) calls.Turn) (actors.Handler k) calls.Turn h.entry m old mid new (Err stop) (h.adds.actor, h.adds.call) h.adds s) s.ends

-- a monitor's
pub rests : (k m : ℕ) (old new : NodeState) → Rests k old new → MonitorOn k m old (Ok monitors.Idle) new
rests k m old new h = (stays_so old new h.stays, h.idle)

is_get : (k : ℕ) (script : Option ℕ) (old mid : NodeState) → (h : Gets k script old mid) → IsGet k old h.entry
is_get k script old mid h = (h.adds.actor, ap Some h.adds.call ∙ h.next, h.finds)

gets_break : (k m : ℕ) (script : Option ℕ) (old mid new : NodeState) (stop : Stop) → Gets k script old mid → Settles {T = Monitored} m mid (Err stop) new → MonitorOn k m old (Err stop) new
gets_break k m script old mid new stop h s =
    broke_then Monitored (IsGet k old) m old new stop (did_then {T = Monitored} (IsGet k old) (actors.Monitor k) h.call h.entry m old mid new (Err stop) (is_get k script old mid h) h.adds s) s.ends

pub got_then : (k m : ℕ) (old mid new : NodeState) (r : Result Monitored Stop) → Gets k None old mid → Settles m mid r new → IfOk r (λ (x : Monitored). x ≡ monitors.Got) → MonitorOn k m old r new
got_then k m old mid new (Ok monitors.Idle) h s is = absurd cc
got_then k m old mid new (Ok (monitors.Started script)) h s is = absurd cc
got_then k m old mid new (Ok monitors.Got) h s is =
    (did_then (IsGot k None old) (actors.Monitor k) h.call h.entry m old mid new (Ok monitors.Got) (is_get k None old mid h, h.script) h.adds s, s.ends.0, s.ends.1)
got_then k m old mid new (Err stop) h s is = gets_break k m None old mid new stop h s

script_of : (a b : ℕ) → monitors.Started a ≡ monitors.Started b → Some b ≡ Some a
script_of a b e = cc

pub started_then : (k m script : ℕ) (old mid new : NodeState) (r : Result Monitored Stop) → Gets k (Some script) old mid → Settles m mid r new → IfOk r (λ (x : Monitored). x ≡ monitors.Started script) → MonitorOn k m old r new
started_then k m script old mid new (Ok monitors.Idle) h s is = absurd cc
started_then k m script old mid new (Ok (monitors.Started other)) h s is =
    (did_then (IsGot k (Some other) old) (actors.Monitor k) h.call h.entry m old mid new (Ok (monitors.Started other)) (is_get k (Some script) old mid h, h.script ∙ script_of other script is) h.adds s, s.ends.0, s.ends.1)
started_then k m script old mid new (Ok monitors.Got) h s is = absurd cc
started_then k m script old mid new (Err stop) h s is = gets_break k m (Some script) old mid new stop h s

-- and how it connects
abbrev given_so : Option Hconn → Entry → Type 0
given_so given e = given ≡ connection_of e.reply

abbrev opened_so : Bool → Entry → Type 0
opened_so opened e = opened ≡ is_opened e.reply

pub connects_then : (k m : ℕ) (line : MonitorLine) (given : Option Hconn) (old mid new : NodeState) (r : Result (Option Hconn) Stop) → ConnectsTo k line given old mid → Settles m mid r new → IfOk r (λ (x : Option Hconn). x ≡ given)
    → NodeSays (IsOf (actors.Monitor k) (calls.Mqconn [] (script_appl line.label))) (λ (x : Option Hconn) (e : Entry). x ≡ connection_of e.reply) m r old new
connects_then k m line given old mid new r h s is =
    says_then (IsOf (actors.Monitor k) (calls.Mqconn [] (script_appl line.label))) given_so (actors.Monitor k) (calls.Mqconn [] (script_appl line.label)) h.entry m given old mid new r (h.adds.actor, h.adds.call) h.gives h.adds is s

pub opens_then : (k m : ℕ) (line : MonitorLine) (hc : Hconn) (opened : Bool) (old mid new : NodeState) (r : Result Bool Stop) → OpensQueue k line hc opened old mid → Settles m mid r new → IfOk r (λ (x : Bool). x ≡ opened)
    → NodeSays (IsOf (actors.Monitor k) (calls.Mqopen hc line.queue [] shared)) (λ (x : Bool) (e : Entry). x ≡ is_opened e.reply) m r old new
opens_then k m line hc opened old mid new r h s is =
    says_then (IsOf (actors.Monitor k) (calls.Mqopen hc line.queue [] shared)) opened_so (actors.Monitor k) (calls.Mqopen hc line.queue [] shared) h.entry m opened old mid new r (h.adds.actor, h.adds.call) h.gives h.adds is s
