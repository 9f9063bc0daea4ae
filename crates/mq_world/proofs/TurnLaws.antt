-- Turns of handlers and monitors at their node are the network's.
use Rattle.std.proofs.Common.{◌≡◌, ℕ, ◌<◌, Bool, true, false, List, length, refl, sym, ap, subst, ◌∙◌}
use Rattle.std.specs.Prelude.{Option, Some, None, option_map, Result, Ok, Err, slice_get}
use Rattle.mq_history.specs.declared.calls.Actor.TheVariants as actors
use Rattle.mq_history.specs.declared.calls.Call.TheVariants as calls
use Rattle.mq_history.specs.declared.scenario.MonitorLine.{MonitorLine}
use Rattle.mq_history.specs.declared.scenario.RulesPart.{RulesPart}
use Rattle.mq_spec_node.specs.Node.{Node}
use Rattle.mq_spec_node.specs.Terms.{Entry}
use Rattle.mq_spec_node.specs.Words.{begins, is_none, is_receiver, is_script, is_sender, monitor_live, monitor_next}
use Rattle.mq_spec_network.specs.Lawful.{handles_idle}
use Rattle.mq_spec_network.specs.Steps.{Is, MonitorGets, handler_idle, is_watching, scripts_at, serves_nothing}
use Rattle.mq_spec_network.specs.Turns.{node_at, where_there}
use Rattle.mq_watch.specs.from_events.States.{NodeState, node_in, value_of}
use Rattle.mq_nodes.specs.declared.nodes.Monitored.{Monitored}
use Rattle.mq_nodes.specs.declared.nodes.Monitored.TheVariants as monitors
use Rattle.mq_nodes.specs.declared.nodes.Stop.{Stop}
use Rattle.mq_nodes.specs.Course.{Ready}
use Rattle.mq_nodes.specs.Told.{HandlerOf, HandlerTold, TurnOf, TurnTold, begun_by}
use Rattle.mq_steps.proofs.PartLaws.{at_it}
use Rattle.mq_handle.specs.Turns.{turn_of}
use Rattle.mq_world.specs.Settling.{IsOf, NodeStays}
use Rattle.mq_world.specs.Turning.{HandlerOn, IsGet, IsGot, MonitorOn}
use Rattle.mq_world.specs.Worlds.{IsNetwork, NetState, course_in, with_node}
use Rattle.mq_world.proofs.ListLaws.{get_map, long_map, some_is}
use Rattle.mq_world.proofs.SeenLaws.{done_there, node_there}
use Rattle.mq_world.proofs.KeepLaws.{OfNeither, network_did, network_stays}
use Rattle.mq_world.proofs.LiftLaws.{Asked, asked_at, broke_keeps, broke_lifts, did_lifts, of_handler, ready_set, seen_at, stays_lifts}

same_stays : (n new : NodeState) → new ≡ n → NodeStays n new
same_stays n new e = record { same = ap value_of e; marks = ap (λ (x : NodeState). x.marks) e }

-- the node at a place that is named so
node_so : (w : NetState) (m q : ℕ) (n : NodeState) → IsNetwork w → slice_get w.nodes m ≡ Some n → q ≡ m → node_at (course_in w).net q ≡ Some (node_in n)
node_so w m q n h known here = ap (node_at (course_in w).net) here ∙ node_there w.scenario w.nodes m n known (h.nodes m n known)

-- A handler's turn.
handler_keeps : (w : NetState) (m k : ℕ) (r : Result Bool Stop) (n new : NodeState) → IsNetwork w → slice_get w.nodes m ≡ Some n → HandlerOn k m n r new → IsNetwork (with_node m new w)
handler_keeps w m k (Ok true) n new h known (d, served, may) = network_did w m (IsOf (actors.Handler k) calls.Turn) n new h known d (of_handler k calls.Turn d.entry d.fits)
handler_keeps w m k (Ok false) n new h known (same, idle) = network_stays w m n new h known (same_stays n new same)
handler_keeps w m k (Err stop) n new h known b = broke_keeps w m (IsOf (actors.Handler k) calls.Turn) stop n new h known (of_handler k calls.Turn) b

handler_lifts : (w : NetState) (m k : ℕ) (p : RulesPart) (r : Result Bool Stop) (n new : NodeState) → IsNetwork w → IsNetwork (with_node m new w) → Ready (course_in w).net → slice_get w.nodes m ≡ Some n → p.manager ≡ m → HandlerOn k m n r new
    → HandlerOf k p r (course_in w) (course_in (with_node m new w))
handler_lifts w m k p (Ok true) n new h after ready known here (d, served, may) = (
  did_lifts w m (IsOf (actors.Handler k) calls.Turn) (Is p.manager (actors.Handler k) calls.Turn) n new known (λ e q. (sym here, q.0, q.1)) d,
  ready_set w.scenario w.nodes m n new h.nodes after.nodes known ready served may,
)
handler_lifts w m k p (Ok false) n new h after ready known here (same, idle) =
    (stays_lifts w m n new known (same_stays n new same), ap (handler_idle k) (node_so w m p.manager n h known here) ∙ ap is_none idle)
handler_lifts w m k p (Err stop) n new h after ready known here b =
    broke_lifts w m (IsOf (actors.Handler k) calls.Turn) (Is p.manager (actors.Handler k) calls.Turn) stop n new known (λ e q. (sym here, q.0, q.1)) b

pub handler_kept : (w v : NetState) (i m k : ℕ) (r : Result Bool Stop) (n new : NodeState) → Asked w i m n → v ≡ with_node i new w → HandlerOn k m n r new → IsNetwork v
handler_kept w v i m k r n new a is x =
    subst IsNetwork (sym (is ∙ ap (λ (j : ℕ). with_node j new w) a.place)) (handler_keeps w m k r n new a.kept (asked_at w i m n a) x)

-- the manager of a rules table
abbrev rules_manager : RulesPart → ℕ
rules_manager p = p.manager

rules_at : (w : NetState) (k m : ℕ) (p : RulesPart) → IsNetwork w → slice_get w.handlers k ≡ Some m → slice_get w.scenario.rules k ≡ Some p → p.manager ≡ m
rules_at w k m p h found part =
    some_is p.manager m (sym (ap (option_map rules_manager) part) ∙ sym (get_map rules_manager w.scenario.rules k) ∙ sym (ap (λ (xs : List ℕ). slice_get xs k) h.handlers) ∙ found)

pub rules_low : (w : NetState) (k m : ℕ) → IsNetwork w → slice_get w.handlers k ≡ Some m → m < length w.scenario.managers
rules_low w k m h found = by_part (slice_get w.scenario.rules k) refl
  where
    by_part : (o : Option RulesPart) → slice_get w.scenario.rules k ≡ o → m < length w.scenario.managers
    by_part None e = absurd (no (sym (ap (option_map rules_manager) e) ∙ sym (get_map rules_manager w.scenario.rules k) ∙ sym (ap (λ (xs : List ℕ). slice_get xs k) h.handlers) ∙ found))
      where
        no : None ≡ Some m → ⊥
        no x = cc
    by_part (Some p) e =
        subst (λ (x : ℕ). x < length w.scenario.managers) (rules_at w k m p h found e)
        (at_it (λ (q : RulesPart). q.manager < length w.scenario.managers) w.scenario.rules k p h.scenario.rules e)

pub rules_there : (w : NetState) (k : ℕ) → IsNetwork w → k < length w.scenario.rules → k < length w.handlers
rules_there w k h lt = subst (λ (n : ℕ). k < n) (sym (ap (λ (xs : List ℕ). length xs) h.handlers ∙ long_map rules_manager w.scenario.rules)) lt

pub handler_told : (w v : NetState) (i m k : ℕ) (r : Result Bool Stop) (n new : NodeState) → Asked w i m n → v ≡ with_node i new w → slice_get w.handlers k ≡ Some m → HandlerOn k m n r new → HandlerTold k r (course_in w) (course_in v)
handler_told w v i m k r n new a is found x p part =
    subst (λ (y : NetState). HandlerOf k p r (course_in w) (course_in y)) (sym (is ∙ ap (λ (j : ℕ). with_node j new w) a.place))
    (handler_lifts w m k p r n new a.kept (handler_keeps w m k r n new a.kept (asked_at w i m n a) x) a.ready (asked_at w i m n a) (rules_at w k m p a.kept found part) x)

-- A monitor's turn.
of_get : (k : ℕ) (n : NodeState) (e : Entry) → IsGet k n e → OfNeither e
of_get k n e h = (λ j. ap (is_script j) h.0, λ j. (ap (is_sender j) h.0, ap (is_receiver j) h.0))

monitor_keeps : (w : NetState) (m k : ℕ) (r : Result Monitored Stop) (n new : NodeState) → IsNetwork w → slice_get w.nodes m ≡ Some n → MonitorOn k m n r new → IsNetwork (with_node m new w)
monitor_keeps w m k (Ok monitors.Idle) n new h known (s, idle) = network_stays w m n new h known s
monitor_keeps w m k (Ok (monitors.Started script)) n new h known (d, served, may) = network_did w m (IsGot k (Some script) n) n new h known d (of_get k n d.entry d.fits.0)
monitor_keeps w m k (Ok monitors.Got) n new h known (d, served, may) = network_did w m (IsGot k None n) n new h known d (of_get k n d.entry d.fits.0)
monitor_keeps w m k (Err stop) n new h known b = broke_keeps w m (IsGet k n) stop n new h known (of_get k n) b

get_fits : (w : NetState) (m k : ℕ) (l : MonitorLine) (n : NodeState) → IsNetwork w → slice_get w.nodes m ≡ Some n → l.manager ≡ m → (e : Entry) → IsGet k n e → MonitorGets k l (course_in w).net m e
get_fits w m k l n h known here e (actor, next, finds) =
    let there : node_at (course_in w).net l.manager ≡ Some (node_in n) = node_so w m l.manager n h known here in
    (ap (serves_nothing k) there ∙ finds, sym here, actor, next ∙ sym (ap (where_there None (monitor_next k)) there))

begun_so : (w : NetState) (m : ℕ) (l : MonitorLine) (n : NodeState) (e : Entry) (script : Option ℕ) → IsNetwork w → slice_get w.nodes m ≡ Some n → l.manager ≡ m → begins n.own.scripts n.history.entries e.reply ≡ script → begun_by (course_in w).net l e ≡ script
begun_so w m l n e script h known here is =
    ap (λ (o : Option Node). begins (scripts_at o) ((course_in w).net.done l.manager) e.reply) (node_so w m l.manager n h known here)
    ∙ ap (λ (es : List Entry). begins n.own.scripts es e.reply) (ap (course_in w).net.done here ∙ done_there w.nodes m n known)
    ∙ is

got_fits : (w : NetState) (m k : ℕ) (l : MonitorLine) (n : NodeState) (script : Option ℕ) → IsNetwork w → slice_get w.nodes m ≡ Some n → l.manager ≡ m → (e : Entry) → IsGot k script n e → MonitorGets k l (course_in w).net m e × (begun_by (course_in w).net l e ≡ script)
got_fits w m k l n script h known here e (get, begun) = (get_fits w m k l n h known here e get, begun_so w m l n e script h known here begun)

monitor_lifts : (w : NetState) (m k : ℕ) (l : MonitorLine) (r : Result Monitored Stop) (n new : NodeState) → IsNetwork w → IsNetwork (with_node m new w) → Ready (course_in w).net → slice_get w.nodes m ≡ Some n → l.manager ≡ m → MonitorOn k m n r new
    → TurnOf k l r (course_in w) (course_in (with_node m new w))
monitor_lifts w m k l (Ok monitors.Idle) n new h after ready known here (s, idle) = (stays_lifts w m n new known s, ap (serves_nothing k) (node_so w m l.manager n h known here) ∙ idle)
monitor_lifts w m k l (Ok (monitors.Started script)) n new h after ready known here (d, served, may) = (
  did_lifts w m (IsGot k (Some script) n) (λ j e. MonitorGets k l (course_in w).net j e × (begun_by (course_in w).net l e ≡ Some script)) n new known (got_fits w m k l n (Some script) h known here) d,
  ready_set w.scenario w.nodes m n new h.nodes after.nodes known ready served may,
)
monitor_lifts w m k l (Ok monitors.Got) n new h after ready known here (d, served, may) = (
  did_lifts w m (IsGot k None n) (λ j e. MonitorGets k l (course_in w).net j e × (begun_by (course_in w).net l e ≡ None)) n new known (got_fits w m k l n None h known here) d,
  ready_set w.scenario w.nodes m n new h.nodes after.nodes known ready served may,
)
monitor_lifts w m k l (Err stop) n new h after ready known here b =
    broke_lifts w m (IsGet k n) (MonitorGets k l (course_in w).net) stop n new known (get_fits w m k l n h known here) b

pub monitor_kept : (w v : NetState) (i m k : ℕ) (r : Result Monitored Stop) (n new : NodeState) → Asked w i m n → v ≡ with_node i new w → MonitorOn k m n r new → IsNetwork v
monitor_kept w v i m k r n new a is x =
    subst IsNetwork (sym (is ∙ ap (λ (j : ℕ). with_node j new w) a.place)) (monitor_keeps w m k r n new a.kept (asked_at w i m n a) x)

-- the line of a monitor
pub line_at : (w : NetState) (k : ℕ) (l : MonitorLine) → IsNetwork w → slice_get w.monitors k ≡ Some l → slice_get w.scenario.monitors k ≡ Some l
line_at w k l h found = sym (ap (λ (xs : List MonitorLine). slice_get xs k) h.monitors) ∙ found

pub line_low : (w : NetState) (k : ℕ) (l : MonitorLine) → IsNetwork w → slice_get w.monitors k ≡ Some l → l.manager < length w.scenario.managers
line_low w k l h found = at_it (λ (x : MonitorLine). x.manager < length w.scenario.managers) w.scenario.monitors k l h.scenario.monitors (line_at w k l h found)

pub lines_there : (w : NetState) (k : ℕ) → IsNetwork w → k < length w.scenario.monitors → k < length w.monitors
lines_there w k h lt = subst (λ (n : ℕ). k < n) (sym (ap (λ (xs : List MonitorLine). length xs) h.monitors)) lt

pub monitor_told : (w v : NetState) (i k : ℕ) (l : MonitorLine) (r : Result Monitored Stop) (n new : NodeState) → Asked w i l.manager n → v ≡ with_node i new w → slice_get w.monitors k ≡ Some l → MonitorOn k l.manager n r new → TurnTold k r (course_in w) (course_in v)
monitor_told w v i k l r n new a is found x line part =
    let same : line ≡ l = some_is line l (sym part ∙ line_at w k l a.kept found) in
    subst (λ (y : NetState). TurnOf k line r (course_in w) (course_in y)) (sym (is ∙ ap (λ (j : ℕ). with_node j new w) a.place))
    (monitor_lifts w l.manager k line r n new a.kept (monitor_keeps w l.manager k r n new a.kept (asked_at w i l.manager n a) x) a.ready (asked_at w i l.manager n a) (ap (λ (y : MonitorLine). y.manager) same) x)

-- What a call reads of a handler, and of a monitor.
handles_so : (w : NetState) (m k : ℕ) (b : Bool) → IsNetwork w → slice_get w.handlers k ≡ Some m → b ≡ handler_idle k (node_at (course_in w).net m) → b ≡ handles_idle k (slice_get w.scenario.rules k) (course_in w).net
handles_so w m k b h found is = by_part (slice_get w.scenario.rules k) refl
  where
    by_part : (o : Option RulesPart) → slice_get w.scenario.rules k ≡ o → b ≡ handles_idle k (slice_get w.scenario.rules k) (course_in w).net
    by_part None e = absurd (no (sym (ap (option_map rules_manager) e) ∙ sym (get_map rules_manager w.scenario.rules k) ∙ sym (ap (λ (xs : List ℕ). slice_get xs k) h.handlers) ∙ found))
      where
        no : None ≡ Some m → ⊥
        no x = cc
    by_part (Some p) e =
        is
        ∙ sym (ap (λ (q : ℕ). handler_idle k (node_at (course_in w).net q)) (rules_at w k m p h found e))
        ∙ sym (ap (λ (o : Option RulesPart). handles_idle k o (course_in w).net) e)

pub handles_none : (w : NetState) (i m k : ℕ) → IsNetwork w → slice_get w.handlers k ≡ Some m → i ≡ m → slice_get w.nodes i ≡ None → true ≡ handles_idle k (slice_get w.scenario.rules k) (course_in w).net
handles_none w i m k h found place e = handles_so w m k true h found (sym (ap (handler_idle k) (seen_at w i m None h place e)))

pub handles_some : (w : NetState) (i m k : ℕ) (n : NodeState) → IsNetwork w → slice_get w.handlers k ≡ Some m → i ≡ m → slice_get w.nodes i ≡ Some n → is_none (turn_of k (node_in n)) ≡ handles_idle k (slice_get w.scenario.rules k) (course_in w).net
handles_some w i m k n h found place e = handles_so w m k (is_none (turn_of k (node_in n))) h found (sym (ap (handler_idle k) (seen_at w i m (Some n) h place e)))

pub watches_none : (w : NetState) (i m k : ℕ) → IsNetwork w → i ≡ m → slice_get w.nodes i ≡ None → false ≡ is_watching k (node_at (course_in w).net m)
watches_none w i m k h place e = sym (ap (is_watching k) (seen_at w i m None h place e))

pub watches_some : (w : NetState) (i m k : ℕ) (n : NodeState) → IsNetwork w → i ≡ m → slice_get w.nodes i ≡ Some n → monitor_live k (node_in n) ≡ is_watching k (node_at (course_in w).net m)
watches_some w i m k n h place e = sym (ap (is_watching k) (seen_at w i m (Some n) h place e))
