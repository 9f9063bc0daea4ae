-- An event of one node is the network's.
use Rattle.std.proofs.Common.{◌≡◌, ℕ, true, false, List, ◌∷◌, refl, sym, ap, subst, ◌∙◌, inl, inr}
use Rattle.std.specs.Prelude.{◌⊎◌, ◌==◌, map, Option, Some, None, option_map, Result, Ok, Err, OnOk, slice_get, slice_set}
use Rattle.mq_history.specs.declared.calls.Actor.TheVariants as actors
use Rattle.mq_history.specs.declared.calls.Call.{Call}
use Rattle.mq_history.specs.declared.history.History.{History}
use Rattle.mq_history.specs.declared.scenario.Scenario.{Scenario}
use Rattle.mq_spec_node.specs.Terms.{Entry}
use Rattle.mq_spec_node.specs.Words.{NodeValue, is_receiver, is_script, is_sender}
use Rattle.mq_spec_node.specs.Words.{is_spent as is_spent_node}
use Rattle.mq_spec_network.specs.Given.{surroundings}
use Rattle.mq_spec_network.specs.Lawful.{node_begun}
use Rattle.mq_spec_network.specs.Story.{entries_at, entries_or}
use Rattle.mq_spec_network.specs.Tasks.{moment_of}
use Rattle.mq_spec_network.specs.Turns.{is_up_at, node_at, node_of}
use Rattle.mq_calls.specs.Words.{is_up}
use Rattle.mq_spec_network.specs.Steps.{Is}
use Rattle.mq_watch.specs.from_events.States.{NodeState, IsKept, IsServed, node_in, value_of}
use Rattle.mq_watch.specs.from_events.Events.{MayAct}
use Rattle.mq_nodes.specs.declared.nodes.Stop.{Stop}
use Rattle.mq_nodes.specs.declared.nodes.Stop.TheVariants as stops
use Rattle.mq_nodes.specs.Course.{Did, IsSpent, Ready, is_spent}
use Rattle.mq_nodes.specs.Told.{Broke, Does, Says, later}
use Rattle.mq_course.specs.Courses.{net_of}
use Rattle.mq_world.specs.Settling.{IsOf, NodeBroke, NodeDid, NodeDoes, NodeSays, NodeStays}
use Rattle.mq_world.specs.Worlds.{IsNetwork, NetState, course_in, history_in, waits_in, with_node}
use Rattle.mq_world.proofs.ListLaws.{get_map, same_or_not, set_here, set_other, some_is}
use Rattle.mq_world.proofs.SeenLaws.{AreAt, IsReadyNode, course_more, course_same, done_there, node_there, ready_all, ready_at, spent_there}
use Rattle.mq_world.proofs.KeepLaws.{OfNeither, network_did, network_stays}

-- A node may act, where the network is ready for it.
pub ready_node : (w : NetState) (m : ℕ) (n : NodeState) → IsNetwork w → slice_get w.nodes m ≡ Some n → Ready (course_in w).net → IsReadyNode n
ready_node w m n h known r = ready_at w.scenario w.nodes m n h.nodes known r

-- the network is ready again, where that node is
pub ready_set : (s : Scenario) (ns : List NodeState) (m : ℕ) (n new : NodeState) → AreAt s ns → AreAt s (slice_set ns m new) → slice_get ns m ≡ Some n → Ready (net_of s (map history_in ns)) → IsServed new → MayAct new → Ready (net_of s (map history_in (slice_set ns m new)))
ready_set s ns m n new at now known r served may = ready_all s (slice_set ns m new) now each
  where
    each : (k : ℕ) (x : NodeState) → slice_get (slice_set ns m new) k ≡ Some x → IsReadyNode x
    each k x found = by_place (same_or_not k m)
      where
        by_place : (k ≡ m) ⊎ ((k == m) ≡ false) → IsReadyNode x
        by_place (inl e) = subst IsReadyNode (sym (some_is x new (sym found ∙ ap (slice_get (slice_set ns m new)) e ∙ set_here ns m n new known))) (record { served = served; may = may })
        by_place (inr e) = ready_at s ns k x at (sym (set_other ns m k new e) ∙ found) r

-- One event.
pub did_lifts : (w : NetState) (m : ℕ) (P : Entry → Type 0) (Q : ℕ → Entry → Type 0) (n new : NodeState) → slice_get w.nodes m ≡ Some n → ((e : Entry) → P e → Q m e) → NodeDid P n new → Did Q (course_in w) (course_in (with_node m new w))
did_lifts w m P Q n new known fits d = record {
  at = m;
  entry = d.entry;
  behind = d.behind;
  fits = fits d.entry d.fits;
  triggers = d.triggers;
  is = course_more w.scenario w.nodes (waits_in w) m n new (d.entry ∷ d.behind) known d.grows.history;
}

pub spent_lifts : (s : Scenario) (ns : List NodeState) (m k : ℕ) (P : Entry → Type 0) (n new : NodeState) → slice_get ns m ≡ Some n → NodeDid P n new → k ≡ m → is_spent_node (value_of new) ≡ true → IsSpent k (net_of s (map history_in (slice_set ns m new)))
spent_lifts s ns m k P n new known d is spent =
    subst (λ (j : ℕ). is_spent (entries_at (map history_in (slice_set ns m new)) j) ≡ true) (sym is)
    (ap is_spent (done_there (slice_set ns m new) m new (set_here ns m n new known)) ∙ spent_there new d.keeps ∙ spent)

pub stays_lifts : (w : NetState) (m : ℕ) (n new : NodeState) → slice_get w.nodes m ≡ Some n → NodeStays n new → course_in (with_node m new w) ≡ course_in w
stays_lifts w m n new known s = course_same w.scenario w.nodes (waits_in w) m n new known (ap (λ (v : NodeValue). v.history) s.same)

pub broke_lifts : (w : NetState) (m : ℕ) (P : Entry → Type 0) (Q : ℕ → Entry → Type 0) (stop : Stop) (n new : NodeState) → slice_get w.nodes m ≡ Some n → ((e : Entry) → P e → Q m e) → NodeBroke P m stop n new → Broke Q stop (course_in w) (course_in (with_node m new w))
broke_lifts w m P Q stops.NoMemory n new known fits (inl s) = inl (stays_lifts w m n new known s)
broke_lifts w m P Q stops.NoMemory n new known fits (inr d) = inr (did_lifts w m P Q n new known fits d)
broke_lifts w m P Q (stops.Spent k) n new known fits (is, d, spent) = (did_lifts w m P Q n new known fits d, spent_lifts w.scenario w.nodes m k P n new known d is spent)

pub broke_keeps : (w : NetState) (m : ℕ) (P : Entry → Type 0) (stop : Stop) (n new : NodeState) → IsNetwork w → slice_get w.nodes m ≡ Some n → ((e : Entry) → P e → OfNeither e) → NodeBroke P m stop n new → IsNetwork (with_node m new w)
broke_keeps w m P stops.NoMemory n new h known free (inl s) = network_stays w m n new h known s
broke_keeps w m P stops.NoMemory n new h known free (inr d) = network_did w m P n new h known d (free d.entry d.fits)
broke_keeps w m P (stops.Spent k) n new h known free (is, d, spent) = network_did w m P n new h known d (free d.entry d.fits)

-- A call that does one event.
pub does_keeps : {T : Type 0} (w : NetState) (m : ℕ) (P : Entry → Type 0) (r : Result T Stop) (n new : NodeState) → IsNetwork w → slice_get w.nodes m ≡ Some n → ((e : Entry) → P e → OfNeither e) → NodeDoes P m r n new → IsNetwork (with_node m new w)
does_keeps w m P (Ok x) n new h known free (d, served, may) = network_did w m P n new h known d (free d.entry d.fits)
does_keeps w m P (Err stop) n new h known free b = broke_keeps w m P stop n new h known free b

pub does_lifts : {T : Type 0} (w : NetState) (m : ℕ) (P : Entry → Type 0) (Q : ℕ → Entry → Type 0) (r : Result T Stop) (n new : NodeState) → IsNetwork w → IsNetwork (with_node m new w) → Ready (course_in w).net → slice_get w.nodes m ≡ Some n → ((e : Entry) → P e → Q m e)
    → NodeDoes P m r n new → Does Q r (course_in w) (course_in (with_node m new w))
does_lifts w m P Q (Ok x) n new h k r known fits (d, served, may) = (did_lifts w m P Q n new known fits d, ready_set w.scenario w.nodes m n new h.nodes k.nodes known r served may)
does_lifts w m P Q (Err stop) n new h k r known fits b = broke_lifts w m P Q stop n new known fits b

-- one that says more of it
pub says_keeps : {T : Type 0} (w : NetState) (m : ℕ) (P : Entry → Type 0) (S : T → Entry → Type 0) (r : Result T Stop) (n new : NodeState) → IsNetwork w → slice_get w.nodes m ≡ Some n → ((e : Entry) → P e → OfNeither e) → NodeSays P S m r n new → IsNetwork (with_node m new w)
says_keeps w m P S (Ok x) n new h known free (d, served, may) = network_did w m (λ e. P e × S x e) n new h known d (free d.entry d.fits.0)
says_keeps w m P S (Err stop) n new h known free b = broke_keeps w m P stop n new h known free b

pub says_lifts : {T : Type 0} (w : NetState) (m : ℕ) (P : Entry → Type 0) (S : T → Entry → Type 0) (Q : ℕ → Entry → Type 0) (r : Result T Stop) (n new : NodeState) → IsNetwork w → IsNetwork (with_node m new w) → Ready (course_in w).net → slice_get w.nodes m ≡ Some n
    → ((e : Entry) → P e → Q m e) → NodeSays P S m r n new → Says Q S r (course_in w) (course_in (with_node m new w))
says_lifts w m P S Q (Ok x) n new h k r known fits (d, served, may) =
    (did_lifts w m (λ e. P e × S x e) (λ j e. Q j e × S x e) n new known (λ e p. (fits e p.0, p.1)) d, ready_set w.scenario w.nodes m n new h.nodes k.nodes known r served may)
says_lifts w m P S Q (Err stop) n new h k r known fits b = broke_lifts w m P Q stop n new known fits b

-- The operator and the clock are no scripts and no ends, nor are handlers and monitors.
pub operator_fits : (m : ℕ) (call : Call) (e : Entry) → IsOf actors.Operator call e → Is m actors.Operator call m e
operator_fits m call e h = (refl, h.0, h.1)

pub of_operator : (call : Call) (e : Entry) → IsOf actors.Operator call e → OfNeither e
of_operator call e h = (λ k. ap (is_script k) h.0, λ k. (ap (is_sender k) h.0, ap (is_receiver k) h.0))

pub of_clock : (call : Call) (e : Entry) → IsOf actors.Clock call e → OfNeither e
of_clock call e h = (λ k. ap (is_script k) h.0, λ k. (ap (is_sender k) h.0, ap (is_receiver k) h.0))

pub of_handler : (r : ℕ) (call : Call) (e : Entry) → IsOf (actors.Handler r) call e → OfNeither e
of_handler r call e h = (λ k. ap (is_script k) h.0, λ k. (ap (is_sender k) h.0, ap (is_receiver k) h.0))

pub of_monitor : (r : ℕ) (call : Call) (e : Entry) → IsOf (actors.Monitor r) call e → OfNeither e
of_monitor r call e h = (λ k. ap (is_script k) h.0, λ k. (ap (is_sender k) h.0, ap (is_receiver k) h.0))

-- As a call of the network's parts has them: the node at a place, which is a manager's.
pub record Asked (w : NetState) (i m : ℕ) (n : NodeState) : Type 0 where
  pub kept : IsNetwork w
  pub ready : Ready (course_in w).net
  pub place : i ≡ m
  pub known : slice_get w.nodes i ≡ Some n

-- by the parts that such a call sees
pub asked : {inside : NetState} {w : NetState} {i m : ℕ} {n : NodeState} → inside ≡ w → IsNetwork w → Ready (course_in w).net → i ≡ m → slice_get inside.nodes i ≡ Some n → Asked w i m n
asked {inside} {w} {i} {m} {n} view kept ready place known =
    record { kept = kept; ready = ready; place = place; known = ap (λ (x : NetState). slice_get x.nodes i) (sym view) ∙ known }

pub asked_at : (w : NetState) (i m : ℕ) (n : NodeState) → Asked w i m n → slice_get w.nodes m ≡ Some n
asked_at w i m n a = subst (λ (j : ℕ). slice_get w.nodes j ≡ Some n) a.place a.known

pub asked_ready : (w : NetState) (i m : ℕ) (n : NodeState) → Asked w i m n → IsReadyNode n
asked_ready w i m n a = ready_node w m n a.kept (asked_at w i m n a) a.ready

pub asked_kept : (w : NetState) (i m : ℕ) (n : NodeState) → Asked w i m n → IsKept n
asked_kept w i m n a = (a.kept.nodes m n (asked_at w i m n a)).keeps

pub does_kept : {T : Type 0} (w v : NetState) (i m : ℕ) (P : Entry → Type 0) (r : Result T Stop) (n new : NodeState) → Asked w i m n → v ≡ with_node i new w → ((e : Entry) → P e → OfNeither e) → NodeDoes P m r n new → IsNetwork v
does_kept w v i m P r n new a is free d =
    subst IsNetwork (sym (is ∙ ap (λ (j : ℕ). with_node j new w) a.place)) (does_keeps w m P r n new a.kept (asked_at w i m n a) free d)

pub does_told : {T : Type 0} (w v : NetState) (i m : ℕ) (P : Entry → Type 0) (Q : ℕ → Entry → Type 0) (r : Result T Stop) (n new : NodeState) → Asked w i m n → v ≡ with_node i new w → ((e : Entry) → P e → OfNeither e) → ((e : Entry) → P e → Q m e) → NodeDoes P m r n new
    → Does Q r (course_in w) (course_in v)
does_told w v i m P Q r n new a is free fits d =
    subst (λ (x : NetState). Does Q r (course_in w) (course_in x)) (sym (is ∙ ap (λ (j : ℕ). with_node j new w) a.place))
    (does_lifts w m P Q r n new a.kept (does_keeps w m P r n new a.kept (asked_at w i m n a) free d) a.ready (asked_at w i m n a) fits d)

pub says_kept : {T : Type 0} (w v : NetState) (i m : ℕ) (P : Entry → Type 0) (S : T → Entry → Type 0) (r : Result T Stop) (n new : NodeState) → Asked w i m n → v ≡ with_node i new w → ((e : Entry) → P e → OfNeither e) → NodeSays P S m r n new → IsNetwork v
says_kept w v i m P S r n new a is free d =
    subst IsNetwork (sym (is ∙ ap (λ (j : ℕ). with_node j new w) a.place)) (says_keeps w m P S r n new a.kept (asked_at w i m n a) free d)

pub says_told : {T : Type 0} (w v : NetState) (i m : ℕ) (P : Entry → Type 0) (S : T → Entry → Type 0) (Q : ℕ → Entry → Type 0) (r : Result T Stop) (n new : NodeState) → Asked w i m n → v ≡ with_node i new w → ((e : Entry) → P e → OfNeither e) → ((e : Entry) → P e → Q m e) → NodeSays P S m r n new
    → Says Q S r (course_in w) (course_in v)
says_told w v i m P S Q r n new a is free fits d =
    subst (λ (x : NetState). Says Q S r (course_in w) (course_in x)) (sym (is ∙ ap (λ (j : ℕ). with_node j new w) a.place))
    (says_lifts w m P S Q r n new a.kept (says_keeps w m P S r n new a.kept (asked_at w i m n a) free d) a.ready (asked_at w i m n a) fits d)

-- the moment of a manager whose clock advanced
pub moment_told : (w v : NetState) (i m : ℕ) (n new : NodeState) (r : Result (Unit {0}) Stop) (ms : ℕ) → Asked w i m n → v ≡ with_node i new w → IsNetwork v → OnOk r (new.manager.plain.moment ≡ later n.manager.plain.moment ms)
    → OnOk r (moment_of (node_at (course_in v).net m) ≡ later (moment_of (node_at (course_in w).net m)) ms)
moment_told w v i m n new r ms a is k h = on_it r h
  where
    known : slice_get v.nodes m ≡ Some new
    known = ap (λ (x : NetState). slice_get x.nodes m) is ∙ ap (λ (j : ℕ). slice_get (slice_set w.nodes j new) m) a.place ∙ set_here w.nodes m n new (asked_at w i m n a)

    here : moment_of (node_at (course_in v).net m) ≡ new.manager.plain.moment
    here = ap moment_of (node_there v.scenario v.nodes m new known (k.nodes m new known))

    before : moment_of (node_at (course_in w).net m) ≡ n.manager.plain.moment
    before = ap moment_of (node_there w.scenario w.nodes m n (asked_at w i m n a) (a.kept.nodes m n (asked_at w i m n a)))

    on_it : (x : Result (Unit {0}) Stop) → OnOk x (new.manager.plain.moment ≡ later n.manager.plain.moment ms) → OnOk x (moment_of (node_at (course_in v).net m) ≡ later (moment_of (node_at (course_in w).net m)) ms)
    on_it (Ok done) e = here ∙ e ∙ ap (λ (t : ℕ). later t ms) (sym before)
    on_it (Err stop) e = tt

-- what is seen of a node that is there, or not
pub node_seen : (w : NetState) (m : ℕ) (o : Option NodeState) → IsNetwork w → slice_get w.nodes m ≡ o → node_at (course_in w).net m ≡ option_map node_in o
node_seen w m None h e = ap (λ (x : Option History). node_of (node_begun (surroundings w.scenario m) x) (entries_or x)) (get_map history_in w.nodes m ∙ ap (option_map history_in) e)
node_seen w m (Some n) h e = node_there w.scenario w.nodes m n e (h.nodes m n e)

pub clock_fits : (m : ℕ) (call : Call) (e : Entry) → IsOf actors.Clock call e → Is m actors.Clock call m e
clock_fits m call e h = (refl, h.0, h.1)

pub monitor_fits : (m k : ℕ) (call : Call) (e : Entry) → IsOf (actors.Monitor k) call e → Is m (actors.Monitor k) call m e
monitor_fits m k call e h = (refl, h.0, h.1)

-- The node at a place that a call reads.
pub seen_at : (w : NetState) (i m : ℕ) (o : Option NodeState) → IsNetwork w → i ≡ m → slice_get w.nodes i ≡ o → node_at (course_in w).net m ≡ option_map node_in o
seen_at w i m o h place e = node_seen w m o h (subst (λ (j : ℕ). slice_get w.nodes j ≡ o) place e)

pub moment_none : (w : NetState) (i m : ℕ) → IsNetwork w → i ≡ m → slice_get w.nodes i ≡ None → 0 ≡ moment_of (node_at (course_in w).net m)
moment_none w i m h place e = sym (ap moment_of (seen_at w i m None h place e))

pub moment_some : (w : NetState) (i m : ℕ) (n : NodeState) → IsNetwork w → i ≡ m → slice_get w.nodes i ≡ Some n → n.manager.plain.moment ≡ moment_of (node_at (course_in w).net m)
moment_some w i m n h place e = sym (ap moment_of (seen_at w i m (Some n) h place e))

pub up_none : (w : NetState) (i m : ℕ) → IsNetwork w → i ≡ m → slice_get w.nodes i ≡ None → false ≡ is_up_at (node_at (course_in w).net m)
up_none w i m h place e = sym (ap is_up_at (seen_at w i m None h place e))

pub up_some : (w : NetState) (i m : ℕ) (n : NodeState) → IsNetwork w → i ≡ m → slice_get w.nodes i ≡ Some n → is_up n.manager.plain.running ≡ is_up_at (node_at (course_in w).net m)
up_some w i m n h place e = sym (ap is_up_at (seen_at w i m (Some n) h place e))
