-- No event of a network but a restart is one from a log that was changed from outside.
use Rattle.std.proofs.Common.{◌≡◌, ℕ, ◌<◌, Bool, true, false, List, [], ◌∷◌, ◌++◌, length, refl, sym, ap, subst, ◌∙◌, inl, inr}
use Rattle.std.specs.Prelude.{◌⊎◌, ◌==◌, if◌then◌else◌, map, Option, Some, None, option_map, Result, Ok, Err, slice_get, slice_set}
use Rattle.mq_history.specs.declared.calls.Actor.{Actor}
use Rattle.mq_history.specs.declared.calls.Actor.TheVariants as actors
use Rattle.mq_history.specs.declared.calls.Call.TheVariants as calls
use Rattle.mq_history.specs.declared.history.History.{History}
use Rattle.mq_history.specs.declared.scenario.CableLine.{CableLine}
use Rattle.mq_history.specs.declared.scenario.MonitorLine.{MonitorLine}
use Rattle.mq_spec_node.specs.Terms.{Call, Entry, Hconn, Hobj}
use Rattle.mq_spec_node.specs.Words.{Follows, Node, NoneForeign, monitor_next, opening_node}
use Rattle.mq_spec_node.specs.Monitors.{call_of, monitor_call, monitor_get}
use Rattle.mq_spec_node.specs.Node.{Monitor, monitor_in}
use Rattle.mq_spec_network.specs.Lawful.{AreOwn}
use Rattle.mq_spec_network.specs.Steps.{AreTriggers, Is, MonitorGets, TakesTurn, Turn, handler_idle, turn_in}
use Rattle.mq_spec_network.specs.Story.{entries_or}
use Rattle.mq_spec_network.specs.Tasks.{Slot}
use Rattle.mq_spec_network.specs.Tasks.Slot.{Sends, Receives, TimesOut}
use Rattle.mq_spec_network.specs.Turns.{Network, more_at, node_at, where_there}
use Rattle.mq_watch.specs.from_events.States.{NodeState}
use Rattle.mq_shared.specs.from_acts.Restarts.{StaysOwn}
use Rattle.mq_shared.proofs.from_acts.OwnLaws.{IsNoRestart, NoRestarts, grows_own, more_own}
use Rattle.mq_nodes.specs.declared.nodes.Advanced.{Advanced}
use Rattle.mq_nodes.specs.declared.nodes.Monitored.{Monitored}
use Rattle.mq_nodes.specs.declared.nodes.Monitored.TheVariants as monitors
use Rattle.mq_nodes.specs.declared.nodes.Stop.{Stop}
use Rattle.mq_nodes.specs.declared.nodes.Stop.TheVariants as stops
use Rattle.mq_nodes.specs.Course.{Course, Did, noted}
use Rattle.mq_nodes.specs.Pumps.{IsStill, TurnIn}
use Rattle.mq_nodes.specs.Told.{Broke, Does, DoesOrNot, HandlerTold, Says, TurnOf, TurnTold, begun_by}
use Rattle.mq_progress.specs.Course as progress
use Rattle.mq_world_begin.specs.Rested.{RestState}
use Rattle.mq_world.specs.Resting.{rest_of}
use Rattle.mq_world.specs.Settling.{Settles}
use Rattle.mq_world.specs.Worlds.{IsNetwork, NetState, StaysOwnIn, course_in, histories_in, history_in, with_node, with_script}
use Rattle.mq_world.proofs.LiftLaws.{Asked}
use Rattle.mq_world.proofs.ListLaws.{get_map, same_or_not, set_here, set_map, set_other, some_is, there}
use Rattle.mq_world.proofs.SeenLaws.{done_there}

-- Trigger turns behind an event.
triggers_none : (es : List Entry) → AreTriggers es → NoRestarts es
triggers_none [] are = tt
triggers_none (e ∷ es) are = (subst IsNoRestart (sym are.0) tt, triggers_none es are.1)

settled : (T : Type 0) (tells : Type 0) (m : ℕ) (old mid new : NodeState) (r : Result T Stop) → (tells → StaysOwn old.history.entries mid.history.entries) → Settles m mid r new → tells → StaysOwn old.history.entries new.history.entries
settled T tells m old mid new r first s is none = grows_own mid new s.turns s.keeps s.grows (triggers_none s.turns s.are) (first is none)

pub restart_settled : (tells : Type 0) (m : ℕ) (old mid new : NodeState) (r : Result Bool Stop) → (tells → StaysOwn old.history.entries mid.history.entries) → Settles m mid r new → tells → StaysOwn old.history.entries new.history.entries
restart_settled tells m old mid new r first s = settled Bool tells m old mid new r first s

pub line_settled : (tells : Type 0) (m : ℕ) (old mid new : NodeState) (r : Result Advanced Stop) → (tells → StaysOwn old.history.entries mid.history.entries) → Settles m mid r new → tells → StaysOwn old.history.entries new.history.entries
line_settled tells m old mid new r first s = settled Advanced tells m old mid new r first s

-- Of each manager, by what it did.
abbrev AllOwn : Course → Type 0
AllOwn c = (m : ℕ) → NoneForeign (c.net.done m)

own_done : (w : NetState) → AreOwn (histories_in w) → AllOwn (course_in w)
own_done w own m = by_there (slice_get (histories_in w) m) refl
  where
    by_there : (o : Option History) → slice_get (histories_in w) m ≡ o → NoneForeign (entries_or o)
    by_there None e = tt
    by_there (Some h) e = own m h e

stays_in : (w v : NetState) → (AllOwn (course_in w) → AllOwn (course_in v)) → StaysOwnIn w v
stays_in w v f own m h e = subst NoneForeign (ap entries_or e) (f (own_done w own) m)

-- what is no restart, behind what it had done
more_here : (v : NetState) (m : ℕ) (xs es : List Entry) → IsNetwork v → (course_in v).net.done m ≡ xs ++ es → NoRestarts es → NoneForeign xs → NoneForeign ((course_in v).net.done m)
more_here v m xs es k is are own = by_there (slice_get v.nodes m) refl
  where
    by_there : (o : Option NodeState) → slice_get v.nodes m ≡ o → NoneForeign ((course_in v).net.done m)
    by_there None e = subst NoneForeign (sym (ap entries_or (get_map history_in v.nodes m ∙ ap (option_map history_in) e))) tt
    by_there (Some n) e =
        let here : n.history.entries ≡ xs ++ es = sym (done_there v.nodes m n e) ∙ is in
        let f : Follows (opening_node n.given n.history) 0 (xs ++ es) = subst (Follows (opening_node n.given n.history) 0) here (k.nodes m n e).keeps.replays.follows in
        subst NoneForeign (sym is) (more_own (opening_node n.given n.history) 0 xs es f are own)

-- one event more, or none
did_own : (v : NetState) (P : ℕ → Entry → Type 0) (c : Course) → IsNetwork v → ((m : ℕ) (e : Entry) → P m e → IsNoRestart e.call) → Did P c (course_in v) → AllOwn c → AllOwn (course_in v)
did_own v P c k other d own m = by_place (m == d.at) refl
  where
    is : (course_in v).net.done m ≡ more_at d.at (d.entry ∷ d.behind) c.net.done m
    is = ap (λ (x : Course). x.net.done m) d.is

    done_if : Bool → List Entry
    done_if b = if b then c.net.done m ++ d.entry ∷ d.behind else c.net.done m

    by_place : (b : Bool) → (m == d.at) ≡ b → NoneForeign ((course_in v).net.done m)
    by_place true e = more_here v m (c.net.done m) (d.entry ∷ d.behind) k (is ∙ ap done_if e) (other d.at d.entry d.fits, triggers_none d.behind d.triggers) (own m)
    by_place false e = subst NoneForeign (sym (is ∙ ap done_if e)) (own m)

same_own : (c d : Course) → d ≡ c → AllOwn c → AllOwn d
same_own c d e own = subst AllOwn (sym e) own

broke_own : (v : NetState) (P : ℕ → Entry → Type 0) (stop : Stop) (c : Course) → IsNetwork v → ((m : ℕ) (e : Entry) → P m e → IsNoRestart e.call) → Broke P stop c (course_in v) → AllOwn c → AllOwn (course_in v)
broke_own v P stops.NoMemory c k other (inl same) = same_own c (course_in v) same
broke_own v P stops.NoMemory c k other (inr d) = did_own v P c k other d
broke_own v P (stops.Spent m) c k other b = did_own v P c k other b.0

of_is : (at : ℕ) (actor : Actor) (call : Call) → IsNoRestart call → (m : ℕ) (e : Entry) → Is at actor call m e → IsNoRestart e.call
of_is at actor call other m e h = subst IsNoRestart (sym h.2) other

-- A call that does one event, of which no more is said, or something; or none where there is none to do.
pub does_own : {T : Type 0} (w v : NetState) (at : ℕ) (actor : Actor) (call : Call) (r : Result T Stop) → IsNetwork v → IsNoRestart call → Does (Is at actor call) r (course_in w) (course_in v) → StaysOwnIn w v
does_own w v at actor call (Ok x) k other h = stays_in w v (did_own v (Is at actor call) (course_in w) k (of_is at actor call other) h.0)
does_own w v at actor call (Err stop) k other h = stays_in w v (broke_own v (Is at actor call) stop (course_in w) k (of_is at actor call other) h)

pub says_own : {T : Type 0} (w v : NetState) (at : ℕ) (actor : Actor) (call : Call) (Q : T → Entry → Type 0) (r : Result T Stop) → IsNetwork v → IsNoRestart call → Says (Is at actor call) Q r (course_in w) (course_in v) → StaysOwnIn w v
says_own w v at actor call Q (Ok x) k other h = stays_in w v (did_own v (λ m e. Is at actor call m e × Q x e) (course_in w) k (λ m e q. of_is at actor call other m e q.0) h.0)
says_own w v at actor call Q (Err stop) k other h = stays_in w v (broke_own v (Is at actor call) stop (course_in w) k (of_is at actor call other) h)

or_not : (w v : NetState) (P : ℕ → Entry → Type 0) (nothing : Type 0) (r : Result Bool Stop) → IsNetwork v → ((m : ℕ) (e : Entry) → P m e → IsNoRestart e.call) → DoesOrNot P nothing r (course_in w) (course_in v) → StaysOwnIn w v
or_not w v P nothing (Ok true) k other h = stays_in w v (did_own v P (course_in w) k other h.0)
or_not w v P nothing (Ok false) k other h = stays_in w v (same_own (course_in w) (course_in v) h.0)
or_not w v P nothing (Err stop) k other h = stays_in w v (broke_own v P stop (course_in w) k other h)

-- Turns of handlers, monitors and the ends of cables.
pub handler_own : (w v : NetState) (k : ℕ) (r : Result Bool Stop) → IsNetwork v → k < length w.scenario.rules → HandlerTold k r (course_in w) (course_in v) → StaysOwnIn w v
handler_own w v k r h lt told =
    let p = there w.scenario.rules k lt in
    or_not w v (Is p.0.manager (actors.Handler k) calls.Turn) (handler_idle k (node_at (course_in w).net p.0.manager) ≡ true) r h (of_is p.0.manager (actors.Handler k) calls.Turn tt) (told p.0 p.1)

turn_none : (w : Network) (slot : Slot) (k : ℕ) (l : CableLine) → IsNoRestart (turn_in w slot k l).call
turn_none w Sends k l = tt
turn_none w Receives k l = tt
turn_none w TimesOut k l = tt

takes_none : (t : Turn) → IsNoRestart t.call → (m : ℕ) (e : Entry) → TakesTurn t m e → IsNoRestart e.call
takes_none t other m e h = subst IsNoRestart (sym h.is.2) other

pub turn_own : (w v : NetState) (slot : Slot) (k : ℕ) (r : Result Bool Stop) → IsNetwork v → k < length w.scenario.cables → TurnIn slot k r (course_in w) (course_in v) → StaysOwnIn w v
turn_own w v slot k r h lt told =
    let l = there w.scenario.cables k lt in
    or_not w v (TakesTurn (turn_in (course_in w).net slot k l.0)) (IsStill (course_in w).net slot k l.0) r h (takes_none (turn_in (course_in w).net slot k l.0) (turn_none (course_in w).net slot k l.0)) (told l.0 l.1)

get_none : (hc : Option Hconn) (ho : Option Hobj) (c : Call) → Some c ≡ monitor_call hc ho → IsNoRestart c
get_none None ho c e = absurd cc
get_none (Some hc) None c e = absurd cc
get_none (Some hc) (Some ho) c e = subst IsNoRestart (sym (some_is c (calls.Mqget hc ho monitor_get None) e)) tt

next_none : (o : Option Monitor) (c : Call) → Some c ≡ call_of o → IsNoRestart c
next_none None c e = absurd cc
next_none (Some m) c e = get_none m.connection m.handle c e

gets_none : (k : ℕ) (o : Option Node) (c : Call) → Some c ≡ where_there None (monitor_next k) o → IsNoRestart c
gets_none k None c e = absurd cc
gets_none k (Some n) c e = next_none (monitor_in k n.own.monitors) c e

of_monitor : (k : ℕ) (l : MonitorLine) (w : Network) (m : ℕ) (e : Entry) → MonitorGets k l w m e → IsNoRestart e.call
of_monitor k l w m e h = gets_none k (node_at w l.manager) e.call h.3

turned : (w v : NetState) (k : ℕ) (l : MonitorLine) (r : Result Monitored Stop) → IsNetwork v → TurnOf k l r (course_in w) (course_in v) → StaysOwnIn w v
turned w v k l (Ok monitors.Idle) h t = stays_in w v (same_own (course_in w) (course_in v) t.0)
turned w v k l (Ok (monitors.Started script)) h t =
    stays_in w v (did_own v (λ m e. MonitorGets k l (course_in w).net m e × (begun_by (course_in w).net l e ≡ Some script)) (course_in w) h (λ m e q. of_monitor k l (course_in w).net m e q.0) t.0)
turned w v k l (Ok monitors.Got) h t =
    stays_in w v (did_own v (λ m e. MonitorGets k l (course_in w).net m e × (begun_by (course_in w).net l e ≡ None)) (course_in w) h (λ m e q. of_monitor k l (course_in w).net m e q.0) t.0)
turned w v k l (Err stop) h t = stays_in w v (broke_own v (MonitorGets k l (course_in w).net) stop (course_in w) h (of_monitor k l (course_in w).net) t)

pub monitor_own : (w v : NetState) (k : ℕ) (r : Result Monitored Stop) → IsNetwork v → k < length w.scenario.monitors → TurnTold k r (course_in w) (course_in v) → StaysOwnIn w v
monitor_own w v k r h lt told = let l = there w.scenario.monitors k lt in turned w v k l.0 r h (told l.0 l.1)

-- A step's end.
pub marked_own : (w v : NetState) (idle : Bool) → IsNetwork v → course_in v ≡ noted idle (course_in w) → StaysOwnIn w v
marked_own w v idle k e = stays_in w v (λ own m. subst NoneForeign (sym (ap (λ (c : Course). c.net.done m) e)) (own m))

-- A restart, or a script's line, says it of its own node.
set_own : (hs : List History) (i : ℕ) (g new : History) → slice_get hs i ≡ Some g → StaysOwn g.entries new.entries → AreOwn hs → AreOwn (slice_set hs i new)
set_own hs i g new known stays own m h e = by_place (same_or_not m i)
  where
    by_place : (m ≡ i) ⊎ ((m == i) ≡ false) → NoneForeign h.entries
    by_place (inl at) = subst (λ (x : History). NoneForeign x.entries) (some_is new h (sym (ap (slice_get (slice_set hs i new)) at ∙ set_here hs i g new known) ∙ e)) (stays (own i g known))
    by_place (inr other) = own m h (sym (set_other hs i m new other) ∙ e)

nodes_own : (w : NetState) (i : ℕ) (n new : NodeState) → slice_get w.nodes i ≡ Some n → StaysOwn n.history.entries new.history.entries → AreOwn (histories_in w) → AreOwn (map history_in (slice_set w.nodes i new))
nodes_own w i n new known stays own =
    subst AreOwn (sym (set_map history_in w.nodes i new)) (set_own (histories_in w) i n.history new.history (get_map history_in w.nodes i ∙ ap (option_map history_in) known) stays own)

pub node_own : (w v : NetState) (i m : ℕ) (n new : NodeState) → Asked w i m n → v ≡ with_node i new w → StaysOwn n.history.entries new.history.entries → StaysOwnIn w v
node_own w v i m n new a is stays own = subst (λ (x : NetState). AreOwn (histories_in x)) (sym is) (nodes_own w i n new a.known stays own)

pub line_own : (w v : NetState) (i j m : ℕ) (d : progress.Course) (n new : NodeState) → Asked w i m n → v ≡ with_script j d (with_node i new w) → StaysOwn n.history.entries new.history.entries → StaysOwnIn w v
line_own w v i j m d n new a is stays own = subst (λ (x : NetState). AreOwn (histories_in x)) (sym is) (nodes_own w i n new a.known stays own)

-- Where nothing was done; and at rest.
pub begun_own : (ns : List NodeState) → ((m : ℕ) (n : NodeState) → slice_get ns m ≡ Some n → n.history.entries ≡ []) → AreOwn (map history_in ns)
begun_own ns undone m h e = by_there (slice_get ns m) refl
  where
    no : None ≡ Some h → ⊥
    no x = cc

    by_there : (o : Option NodeState) → slice_get ns m ≡ o → NoneForeign h.entries
    by_there None k = absurd (no (sym (get_map history_in ns m ∙ ap (option_map history_in) k) ∙ e))
    by_there (Some n) k =
        subst (λ (x : History). NoneForeign x.entries) (some_is n.history h (sym (get_map history_in ns m ∙ ap (option_map history_in) k) ∙ e)) (subst NoneForeign (sym (undone m n k)) tt)

pub rests_own : (tells : Type 0) (w : NetState) (r : RestState) → r ≡ rest_of w.scenario w.nodes → (tells → AreOwn (histories_in w)) → tells → AreOwn r.histories
rests_own tells w r e own is = subst (λ (x : RestState). AreOwn x.histories) (sym e) (own is)
