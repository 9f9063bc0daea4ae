-- What the course of steps sees of a network's nodes.
use Rattle.std.proofs.Common.{◌≡◌, ℕ, ◌<◌, ◌^◌, Bool, true, false, ◌||◌, nat_le, List, [], ◌∷◌, length, refl, sym, ap, subst, ◌∙◌, arith}
use Rattle.std.specs.Prelude.{not, map, Option, Some, None, is_some, option_map, slice_get, slice_set}
use Rattle.std.proofs.lemmas.Bool.Decides.{nat_tests}
use Rattle.mq_frame.specs.declared.frame.Seen.{Seen}
use Rattle.mq_frame.specs.declared.frame.Seen.TheVariants as items
use Rattle.mq_history.specs.declared.history.History.{History}
use Rattle.mq_history.specs.declared.scenario.Scenario.{Scenario}
use Rattle.mq_spec_node.specs.Terms.{Entry}
use Rattle.mq_spec_node.specs.Words.{Deed, Follows, IsStamp, Node, Surroundings, done_by, more_entries, opening_node, stamp_after, state_of, trigger_deed}
use Rattle.mq_spec_node.specs.Words.{is_spent as is_spent_node}
use Rattle.mq_spec_network.specs.Given.{surroundings}
use Rattle.mq_spec_network.specs.Lawful.{node_begun}
use Rattle.mq_spec_network.specs.Steps.{none_due}
use Rattle.mq_spec_network.specs.Story.{entries_at, entries_or}
use Rattle.mq_spec_network.specs.Turns.{does, node_at, node_of}
use Rattle.mq_watch.specs.from_events.States.{NodeState, IsKept, IsServed, node_in, value_of}
use Rattle.mq_watch.specs.from_events.Events.{MayAct}
use Rattle.mq_nodes.specs.Course.{Course, Ready, has_high, is_spent}
use Rattle.mq_course.specs.Courses.{course_of, net_of}
use Rattle.mq_course.proofs.CourseLaws.{one_does}
use Rattle.mq_world.specs.Worlds.{IsNodeAt, history_in}
use Rattle.mq_world.proofs.ListLaws.{get_map, set_again, set_map}

-- The history at a place.
pub history_there : (ns : List NodeState) (m : ℕ) (n : NodeState) → slice_get ns m ≡ Some n → slice_get (map history_in ns) m ≡ Some n.history
history_there ns m n known = get_map history_in ns m ∙ ap (option_map history_in) known

pub done_there : (ns : List NodeState) (m : ℕ) (n : NodeState) → slice_get ns m ≡ Some n → entries_at (map history_in ns) m ≡ n.history.entries
done_there ns m n known = ap entries_or (history_there ns m n known)

-- the node that is there
pub node_there : (s : Scenario) (ns : List NodeState) (m : ℕ) (n : NodeState) → slice_get ns m ≡ Some n → IsNodeAt s m n → node_at (net_of s (map history_in ns)) m ≡ Some (node_in n)
node_there s ns m n known at =
    ap (λ (o : Option History). node_of (node_begun (surroundings s m) o) (entries_or o)) (history_there ns m n known)
    ∙ ap Some (sym (at.keeps.node ∙ ap (λ (g : Surroundings). state_of g n.history) at.given))

-- One entry has a high stamp exactly where the last one has.
rises : (last : ℕ) (seen : Seen) (stamp : ℕ) → IsStamp last seen stamp → last < stamp
rises last items.Nothing stamp h = omega arith
rises last items.Spoiled stamp h = h
rises last (items.Frame f) stamp h = omega arith

or_same : (p q b : Bool) → (p ≡ true → q ≡ true) → (p || (q || b)) ≡ (q || b)
or_same true true b h = refl
or_same true false b h = absurd (let no : false ≡ true = h refl in cc)
or_same false q b h = refl

high_too : (k a b : ℕ) → a < b → nat_le k a ≡ true → nat_le k b ≡ true
high_too k a b lt h = grind (arith, nat_tests)

low_first : (last stamp : ℕ) (b : Bool) → last < stamp → (nat_le (2 ^ 60) last || (nat_le (2 ^ 60) stamp || b)) ≡ (nat_le (2 ^ 60) stamp || b)
low_first last stamp b lt = or_same (nat_le (2 ^ 60) last) (nat_le (2 ^ 60) stamp) b (high_too (2 ^ 60) last stamp lt)

none_or : (b : Bool) → (b || false) ≡ b
none_or true = refl
none_or false = refl

pub high_last : (n : Node) (last : ℕ) (es : List Entry) → Follows n last es → (nat_le (2 ^ 60) last || has_high es) ≡ nat_le (2 ^ 60) (stamp_after last es)
high_last n last [] f = none_or (nat_le (2 ^ 60) last)
high_last n last (e ∷ es) f = low_first last e.stamp (has_high es) (rises last e.effect.popped e.stamp f.0.stamp) ∙ high_last (done_by e n).next e.stamp es f.1

pub spent_there : (n : NodeState) → IsKept n → is_spent n.history.entries ≡ is_spent_node (value_of n)
spent_there n k = ap (λ (b : Bool). nat_le (2 ^ 48) (length n.history.entries) || b) (high_last (opening_node n.given n.history) 0 n.history.entries k.replays.follows ∙ ap (nat_le (2 ^ 60)) (sym k.stamp))

-- whether a trigger is due there
due_none : (d : Option Deed) → not (is_some d) ≡ true → d ≡ None
due_none None e = refl
due_none (Some d) e = absurd (let no : false ≡ true = e in cc)

none_is : (d : Option Deed) → d ≡ None → not (is_some d) ≡ true
none_is None e = refl
none_is (Some d) e = absurd cc

-- Between two events, node by node.
abbrev pub AreAt : Scenario → List NodeState → Type 0
AreAt s ns = (m : ℕ) (n : NodeState) → slice_get ns m ≡ Some n → IsNodeAt s m n

pub record IsReadyNode (n : NodeState) : Type 0 where
  pub served : IsServed n
  pub may : MayAct n

pub ready_at : (s : Scenario) (ns : List NodeState) (m : ℕ) (n : NodeState) → AreAt s ns → slice_get ns m ≡ Some n → Ready (net_of s (map history_in ns)) → IsReadyNode n
ready_at s ns m n at known r = record {
  served = due_none (trigger_deed (node_in n)) (subst (λ (o : Option Node). none_due o ≡ true) (node_there s ns m n known (at m n known)) (r.served m));
  may = sym (spent_there n (at m n known).keeps) ∙ ap is_spent (sym (done_there ns m n known)) ∙ r.unspent m;
}

pub ready_all : (s : Scenario) (ns : List NodeState) → AreAt s ns → ((m : ℕ) (n : NodeState) → slice_get ns m ≡ Some n → IsReadyNode n) → Ready (net_of s (map history_in ns))
ready_all s ns at each = record {
  served = λ m. served_so m (slice_get ns m) refl;
  unspent = λ m. unspent_so m (slice_get ns m) refl;
} where
  absent : (m : ℕ) → slice_get ns m ≡ None → slice_get (map history_in ns) m ≡ None
  absent m e = get_map history_in ns m ∙ ap (option_map history_in) e

  served_so : (m : ℕ) (o : Option NodeState) → slice_get ns m ≡ o → none_due (node_at (net_of s (map history_in ns)) m) ≡ true
  served_so m None e = ap (λ (h : Option History). none_due (node_of (node_begun (surroundings s m) h) (entries_or h))) (absent m e)
  served_so m (Some n) e = ap none_due (node_there s ns m n e (at m n e)) ∙ none_is (trigger_deed (node_in n)) (each m n e).served

  unspent_so : (m : ℕ) (o : Option NodeState) → slice_get ns m ≡ o → is_spent (entries_at (map history_in ns) m) ≡ false
  unspent_so m None e = ap (λ (h : Option History). is_spent (entries_or h)) (absent m e)
  unspent_so m (Some n) e = ap is_spent (done_there ns m n e) ∙ spent_there n (at m n e).keeps ∙ (each m n e).may

-- Entries more of one node; deadlines may change beside.
pub course_more : (s : Scenario) (ns : List NodeState) (waits : ℕ → Option ℕ) (m : ℕ) (n new : NodeState) (es : List Entry) → slice_get ns m ≡ Some n → new.history ≡ more_entries es n.history
    → course_of s (map history_in (slice_set ns m new)) waits ≡ record (course_of s (map history_in ns) waits) { net = does m es (net_of s (map history_in ns)) }
course_more s ns waits m n new es known is =
    ap (λ (hs : List History). course_of s hs waits) (set_map history_in ns m new ∙ ap (slice_set (map history_in ns) m) is)
    ∙ one_does s (map history_in ns) waits m n.history es (history_there ns m n known)

-- nothing more
pub course_same : (s : Scenario) (ns : List NodeState) (waits : ℕ → Option ℕ) (m : ℕ) (n new : NodeState) → slice_get ns m ≡ Some n → new.history ≡ n.history → course_of s (map history_in (slice_set ns m new)) waits ≡ course_of s (map history_in ns) waits
course_same s ns waits m n new known is =
    ap (λ (hs : List History). course_of s hs waits) (set_map history_in ns m new ∙ ap (slice_set (map history_in ns) m) is ∙ set_again (map history_in ns) m n.history (history_there ns m n known))

-- other deadlines
pub course_waits : (c : Course) (waits : ℕ → Option ℕ) → ((k : ℕ) → c.waits k ≡ waits k) → c ≡ record c { waits = waits }
course_waits c waits e = λ i. record { net = c.net; waits = λ k. e k i; marks = c.marks }
