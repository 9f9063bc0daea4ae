-- One entry more: the history replays still, and leads to the node behind the event.
use Rattle.std.proofs.Common.{◌≡◌, ℕ, refl, sym, ap, subst, ◌∙◌, List, [], ◌∷◌, ◌++◌}
use Rattle.std.specs.Prelude.{Option, Some, None}
use Rattle.mq_spec_node.specs.Terms.{Actor, Entry}
use Rattle.mq_spec_node.specs.Words.{Node, after, done_by, Tells, Follows, TriggerIs, TriggersStand, trigger_deed, opening_node, stamp_after, more_entries, NodeValue, IsReplayed}
use Rattle.mq_events.specs.States.{last_actor}

pub after_more : (n : Node) (es : List Entry) (e : Entry) → after n (es ++ e ∷ []) ≡ (done_by e (after n es)).next
after_more n [] e = refl
after_more n (x ∷ es) e = after_more (done_by x n).next es e

pub stamp_more : (last : ℕ) (es : List Entry) (e : Entry) → stamp_after last (es ++ e ∷ []) ≡ e.stamp
stamp_more last [] e = refl
stamp_more last (x ∷ es) e = stamp_more x.stamp es e

pub follows_more : (n : Node) (last : ℕ) (es : List Entry) (e : Entry) → Follows n last es → Tells (after n es) (stamp_after last es) e → Follows n last (es ++ e ∷ [])
follows_more n last [] e f t = (t, tt)
follows_more n last (x ∷ es) e f t = (f.0, follows_more (done_by x n).next x.stamp es e f.1 t)

pub stand_more : (last : Option Actor) (n : Node) (es : List Entry) (e : Entry) → TriggersStand last n es → TriggerIs (trigger_deed (after n es)) (last_actor last es) e → TriggersStand last n (es ++ e ∷ [])
stand_more last n [] e s t = (t, tt)
stand_more last n (x ∷ es) e s t = (s.0, stand_more (Some x.actor) (done_by x n).next es e s.1 t)

-- a value with one entry more
abbrev pub with_more : Entry → NodeValue → NodeValue
with_more e v = record v { history = more_entries (e ∷ []) v.history; node = (done_by e v.node).next; stamp = e.stamp }

pub replayed_more : (v : NodeValue) (e : Entry) → IsReplayed v → Tells v.node v.stamp e → TriggerIs (trigger_deed v.node) (last_actor None v.history.entries) e → IsReplayed (with_more e v)
replayed_more v e r t s =
    let first : Node = opening_node v.given v.history in
    let es : List Entry = v.history.entries in
    let T : Node → Type 0 = λ n. Tells n v.stamp e in
    let L : ℕ → Type 0 = λ last. Tells (after first es) last e in
    let D : Node → Type 0 = λ n. TriggerIs (trigger_deed n) (last_actor None es) e in
    record {
      replays = record { number = r.replays.number; name = r.replays.name; follows = follows_more first 0 es e r.replays.follows (subst L r.stamp (subst T r.node t)) };
      triggers = stand_more None first es e r.triggers (subst D r.node s);
      node = ap (λ (n : Node). (done_by e n).next) r.node ∙ sym (after_more first es e);
      stamp = sym (stamp_more 0 es e);
    }
