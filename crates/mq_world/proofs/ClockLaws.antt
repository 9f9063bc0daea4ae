-- A clock that advances: the moment is later, and nothing else of the node is other than it was.
use Rattle.std.proofs.Common.{◌≡◌, ℕ, Bool, List, [], ◌∷◌, refl, sym, ap, ◌∙◌, inl}
use Rattle.std.specs.Prelude.{if◌then◌else◌, nat_lt, Option, Some, None, Result, Ok, Err, OnOk}
use Rattle.mq_history.specs.declared.acts.Act.TheVariants as acts
use Rattle.mq_history.specs.declared.calls.Actor.TheVariants as actors
use Rattle.mq_history.specs.declared.calls.Call.{Call}
use Rattle.mq_history.specs.declared.calls.Call.TheVariants as calls
use Rattle.mq_objects.specs.declared.object.LocalQueue.{LocalQueue}
use Rattle.mq_calls.specs.State.{Plain, Running}
use Rattle.mq_calls.specs.State.Running.{Up, Down}
use Rattle.mq_calls.specs.Words.{stored}
use Rattle.mq_spec_manager.specs.Words.{advance_clock, first_due}
use Rattle.mq_objects.specs.Names.{locals_of}
use Rattle.mq_spec_node.specs.Node.{Node}
use Rattle.mq_spec_node.specs.Terms.{Acted, Actor, Entry}
use Rattle.mq_spec_node.specs.Words.{Surroundings, event, is_spent, opening_node, state_of, trigger_deed, trigger_deed_of, where_up}
use Rattle.mq_watch.specs.from_events.States.{NodeState, IsKept, IsServed, node_in, value_of}
use Rattle.mq_watch.specs.from_events.Events.{ActsAs, Adds}
use Rattle.mq_watch.proofs.from_events.ReplayLaws.{after_more}
use Rattle.mq_shared.proofs.from_acts.ServeLaws.{serves_none}
use Rattle.mq_nodes.specs.declared.nodes.Stop.{Stop}
use Rattle.mq_nodes.specs.Told.{later}
use Rattle.mq_world.specs.Settling.{IsOf, NodeDoes, ended}
use Rattle.mq_world.proofs.NodeLaws.{does_then, settles}

-- the node whose manager's clock advanced
abbrev pub later_node : ℕ → Node → Node
later_node ms n = record n { manager = advance_clock ms n.manager }

-- No trigger becomes due by it.
due_later : (qs : List LocalQueue) (ms : ℕ) (p : Plain) → first_due qs (advance_clock ms p) ≡ first_due qs p
due_later [] ms p = refl
due_later (q ∷ qs) ms p = ap (λ (o : Option LocalQueue). if nat_lt 0 (stored q.name p).due then Some q else o) (due_later qs ms p)

none_of : (o : Option LocalQueue) (n k : Node) → trigger_deed_of o n ≡ None → trigger_deed_of o k ≡ None
none_of None n k e = refl
none_of (Some q) n k e = absurd cc

none_up : (r : Running) (o : Option LocalQueue) (n k : Node) → where_up r (trigger_deed_of o n) ≡ None → where_up r (trigger_deed_of o k) ≡ None
none_up Up o n k e = none_of o n k e
none_up (Down noted starts) o n k e = refl

served_later : (ms : ℕ) (n : Node) → trigger_deed n ≡ None → trigger_deed (later_node ms n) ≡ None
served_later ms n e =
    ap (λ (o : Option LocalQueue). where_up n.manager.running (trigger_deed_of o (later_node ms n))) (due_later (locals_of n.manager.definitions) ms n.manager)
    ∙ none_up n.manager.running (first_due (locals_of n.manager.definitions) n.manager) n (later_node ms n) e

-- The node behind it.
node_later : (who : Actor) (ms : ℕ) (e : Entry) (old new : NodeState) → IsKept old → IsKept new → Adds who (calls.Act (acts.Clock ms)) e old new → node_in new ≡ later_node ms (node_in old)
node_later who ms e old new k h a =
    h.node
    ∙ ap (λ (g : Surroundings). state_of g new.history) a.grows.given
    ∙ ap (state_of old.given) a.grows.history
    ∙ after_more (opening_node old.given old.history) old.history.entries e
    ∙ ap (λ (n : Node). (event e.stamp e.actor e.call e.chance e.effect.popped n).next) (sym k.node)
    ∙ ap (λ (c : Call). (event e.stamp e.actor c e.chance e.effect.popped (node_in old)).next) a.call

-- So the call that does it settles at once.
pub clock_told : {T : Type 0} (m ms : ℕ) (value : T) (a : Acted) (old new : NodeState) (spent : Bool) (r : Result T Stop) → IsServed old → IsKept old → ActsAs actors.Clock (calls.Act (acts.Clock ms)) old (Ok a) new → IsKept new
    → spent ≡ is_spent (value_of new) → r ≡ ended m value (Ok tt) spent → NodeDoes (IsOf actors.Clock (calls.Act (acts.Clock ms))) m r old new
clock_told m ms value a old new spent r served k h keeps is e =
    let still : IsServed new = ap trigger_deed (node_later actors.Clock ms h.0 old new k keeps h.1) ∙ served_later ms (node_in old) served in
    does_then actors.Clock (calls.Act (acts.Clock ms)) h.0 m old new new r h.1 (settles m value new new (Ok tt) spent r (serves_none new) (inl still) is keeps e)

on_ok : {T : Type 0} (r : Result T Stop) (P : Type 0) → P → OnOk r P
on_ok (Ok x) P p = p
on_ok (Err stop) P p = tt

pub clock_moment : {T : Type 0} (ms : ℕ) (a : Acted) (old new : NodeState) (r : Result T Stop) → IsKept old → IsKept new → ActsAs actors.Clock (calls.Act (acts.Clock ms)) old (Ok a) new → OnOk r (new.manager.plain.moment ≡ later old.manager.plain.moment ms)
clock_moment ms a old new r k keeps h = on_ok r (new.manager.plain.moment ≡ later old.manager.plain.moment ms) (ap (λ (n : Node). n.manager.moment) (node_later actors.Clock ms h.0 old new k keeps h.1))
