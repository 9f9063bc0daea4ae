-- The end of a step at each node is the network's.
use Rattle.std.proofs.Common.{◌≡◌, ℕ, zero, suc, ◌+◌, ◌<◌, Bool, List, [], ◌∷◌, ◌++◌, length, take, drop, refl, sym, ap, subst, ◌∙◌, arith}
use Rattle.std.specs.Prelude.{map, Option, Some, None, option_map, slice_get}
use Rattle.mq_history.specs.declared.history.History.{History}
use Rattle.mq_history.specs.declared.history.Mark.{Mark}
use Rattle.mq_history.specs.declared.scenario.Scenario.{Scenario}
use Rattle.mq_history.specs.declared.calls.Entry.{Entry}
use Rattle.mq_spec_network.specs.Lawful.{marks_at}
use Rattle.mq_spec_network.specs.Story.{entries_at}
use Rattle.mq_watch.specs.from_events.States.{NodeState, marked}
use Rattle.mq_watch.proofs.from_events.MarkLaws.{mark_kept}
use Rattle.mq_nodes.specs.Course.{noted}
use Rattle.mq_course.specs.Courses.{course_of, marks_or_absent, with_mark}
use Rattle.mq_course.proofs.CourseLaws.{all_note}
use Rattle.mq_world.specs.Worlds.{IsNetwork, IsNodeAt, IsScriptAt, NetState, course_in, history_in, waits_in}
use Rattle.mq_world.proofs.ListLaws.{get_map, long_map, some_is}
use Rattle.mq_world.proofs.QuietLaws.{all_same}
use Rattle.mq_world.proofs.SeenLaws.{history_there}

-- where so many of a list were changed, the next is as it was
pub mapped_here : {X : Type 0} (f : X → X) (xs ys : List X) (i : ℕ) → ys ≡ map f (take i xs) ++ drop i xs → slice_get ys i ≡ slice_get xs i
mapped_here f xs ys i e = ap (λ (l : List _). slice_get l i) e ∙ here f xs i
  where
    here : {X : Type 0} (g : X → X) (zs : List X) (n : ℕ) → slice_get (map g (take n zs) ++ drop n zs) n ≡ slice_get zs n
    here g [] zero = refl
    here g [] (suc n) = refl
    here g (z ∷ zs) zero = refl
    here g (z ∷ zs) (suc n) = here g zs n

map_on : (idle : Bool) (ns : List NodeState) → map history_in (map (marked idle) ns) ≡ map (with_mark idle) (map history_in ns)
map_on idle [] = refl
map_on idle (n ∷ ns) = ap (λ (hs : List History). with_mark idle n.history ∷ hs) (map_on idle ns)

abbrev pub all_marked : Bool → NetState → NetState
all_marked idle w = record w { nodes = map (marked idle) w.nodes }

-- as a call sees it that changes its nodes
pub marked_so : {inside w v : NetState} (idle : Bool) (ns : List NodeState) → inside ≡ w → ns ≡ map (marked idle) inside.nodes → v ≡ record inside { nodes = ns } → v ≡ all_marked idle w
marked_so {inside} idle ns view is same = same ∙ ap (λ (xs : List NodeState). record inside { nodes = xs }) is ∙ ap (all_marked idle) view

-- the course,
pub marks_lift : (w : NetState) (idle : Bool) → IsNetwork w → course_in (all_marked idle w) ≡ noted idle (course_in w)
marks_lift w idle h =
    ap (λ (hs : List History). course_of w.scenario hs (waits_in w)) (map_on idle w.nodes)
    ∙ all_note w.scenario (map history_in w.nodes) (waits_in w) idle (omega (arith, long_map history_in w.nodes, h.all, h.scenario.few.managers.0))

-- the room that each has,
pub has_room : (w : NetState) (m : ℕ) (n : NodeState) → IsNetwork w → ((k : ℕ) → length ((course_in w).marks k) < length w.scenario.steps) → slice_get w.nodes m ≡ Some n → 0 < n.marks
has_room w m n h room known =
    let here : (course_in w).marks m ≡ n.history.marks = ap (λ (o : Option History). marks_or_absent (marks_at (map history_in w.nodes) 0) o) (history_there w.nodes m n known) in
    let long : length ((course_in w).marks m) ≡ length n.history.marks = ap (λ (xs : List Mark). length xs) here in
    let few = room m in
    let enough = (h.nodes m n known).room in
    omega (arith, long, few, enough)

-- and what the type keeps
long_push : (xs : List Mark) (x : Mark) → length (xs ++ x ∷ []) ≡ length xs + 1
long_push [] x = refl
long_push (y ∷ ys) x = let h = long_push ys x in omega (arith, h)

marked_at : (s : Scenario) (m : ℕ) (idle : Bool) (n : NodeState) → 0 < n.marks → IsNodeAt s m n → IsNodeAt s m (marked idle n)
marked_at s m idle n room h = record {
  image = h.image;
  known = h.known;
  given = h.given;
  keeps = mark_kept idle n h.keeps;
  room = omega (arith, h.room, room, long_push n.history.marks (record { entries = length n.history.entries; idle = idle }));
}

entries_marked : (idle : Bool) (ns : List NodeState) (q : ℕ) → entries_at (map history_in (map (marked idle) ns)) q ≡ entries_at (map history_in ns) q
entries_marked idle [] zero = refl
entries_marked idle [] (suc q) = refl
entries_marked idle (n ∷ ns) zero = refl
entries_marked idle (n ∷ ns) (suc q) = entries_marked idle ns q

pub marks_keep : (w : NetState) (idle : Bool) → IsNetwork w → ((k : ℕ) → length ((course_in w).marks k) < length w.scenario.steps) → IsNetwork (all_marked idle w)
marks_keep w idle h room = record {
  scenario = h.scenario;
  texts = h.texts;
  all = long_map (marked idle) w.nodes ∙ h.all;
  nodes = λ m n known. at_it m n (slice_get w.nodes m) refl (sym (get_map (marked idle) w.nodes m) ∙ known);
  each = h.each;
  scripts = λ k p c part is. subst (λ (es : List Entry). IsScriptAt k p es c) (sym (entries_marked idle w.nodes p.manager)) (h.scripts k p c part is);
  lines = h.lines;
  joined = h.joined;
  ways = all_same w.scenario.cables (entries_at (map history_in w.nodes)) (entries_at (map history_in (map (marked idle) w.nodes))) w.cables (entries_marked idle w.nodes) h.ways;
  handlers = h.handlers;
  monitors = h.monitors;
} where
  at_it : (m : ℕ) (n : NodeState) (o : Option NodeState) → slice_get w.nodes m ≡ o → option_map (marked idle) (slice_get w.nodes m) ≡ Some n → IsNodeAt w.scenario m n
  at_it m n None e known = absurd (no (sym (ap (option_map (marked idle)) e) ∙ known))
    where
      no : None ≡ Some n → ⊥
      no x = cc
  at_it m n (Some x) e known =
      subst (λ (y : NodeState). IsNodeAt w.scenario m y) (some_is (marked idle x) n (sym (ap (option_map (marked idle)) e) ∙ known))
      (marked_at w.scenario m idle x (has_room w m x h room e) (h.nodes m x e))
