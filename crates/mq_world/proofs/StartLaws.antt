-- A node of which nothing has happened is its manager's, and may act.
use Rattle.std.proofs.Common.{◌≡◌, ℕ, zero, suc, ◌+◌, ◌≤◌, ◌^◌, ◌||◌, nat_le, Bool, true, false, List, [], ◌∷◌, ◌++◌, length, drop, refl, sym, ap, subst, ◌∙◌, arith}
use Rattle.std.specs.Prelude.{if◌then◌else◌, All, map, nat_lt, reverse, Option, Some, None, option_map, slice_get}
use Rattle.std.proofs.lemmas.List.{reverse-append, reverse-reverse}
use Rattle.std.proofs.lemmas.List.Elements.{All-take}
use Rattle.std.proofs.Math.Seq.{take-append_seam}
use Rattle.std.specs.Str.{bytes_eq}
use Rattle.mq_calls.specs.declared.image.Shelf.{Shelf}
use Rattle.mq_history.specs.declared.history.History.{History}
use Rattle.mq_history.specs.declared.history.Mark.{Mark}
use Rattle.mq_history.specs.declared.scenario.CableLine.{CableLine}
use Rattle.mq_history.specs.declared.scenario.ManagerLine.{ManagerLine}
use Rattle.mq_history.specs.declared.scenario.Scenario.{Scenario}
use Rattle.mq_objects.specs.declared.object.LocalQueue.{LocalQueue}
use Rattle.mq_objects.specs.Names.{locals_of}
use Rattle.mq_calls.specs.Reads.{queue_in}
use Rattle.mq_calls.specs.State.{Plain, Queue}
use Rattle.mq_calls.specs.Images.{queue_on}
use Rattle.mq_calls.specs.Words.{stored}
use Rattle.mq_spec_manager.specs.Words.{first_due}
use Rattle.mq_spec_node.specs.Terms.{Entry}
use Rattle.mq_spec_node.specs.Words.{Node, Own, Surroundings, after, begun_anew, is_receiver, is_sender, node_of, opening_node, trigger_deed, trigger_deed_of}
use Rattle.mq_spec_network.specs.Given.{log_max_or, own_at, surroundings}
use Rattle.mq_core.specs.Values.{CoreValue}
use Rattle.mq_watch.specs.from_events.States.{NodeState, Spare}
use Rattle.mq_watch.proofs.from_events.MarkLaws.{begun_kept}
use Rattle.mq_world_begin.specs.Rested.{IsRestedAt, as_given}
use Rattle.mq_world_begin.proofs.GivenLaws.{given_again}
use Rattle.mq_history.specs.Scenarios.{IsScenario}
use Rattle.mq_history.specs.declared.scenario.MonitorLine.{MonitorLine}
use Rattle.mq_history.specs.declared.scenario.RulesPart.{RulesPart}
use Rattle.mq_spec_network.specs.Lawful.{marks_at}
use Rattle.mq_spec_network.specs.Story.{entries_at, entries_or}
use Rattle.mq_watch.specs.from_events.Texts.{IsTextCommand}
use Rattle.mq_nodes.specs.Texts.{AllFit}
use Rattle.mq_course.specs.Courses.{absent, marks_or_absent}
use Rattle.mq_progress.specs.Course as progress
use Rattle.mq_progress.proofs.CourseLaws.{stands_first}
use Rattle.mq_steps.proofs.PartLaws.{at_it}
use Rattle.mq_ways.specs.Ways.{AreNew, CableState, IsNew}
use Rattle.mq_ways.proofs.QuietLaws.{new_at, new_long}
use Rattle.mq_shared.specs.from_split.Facing.{IsJoined}
use Rattle.mq_world.specs.Starting.{Starts, StartsAt, around, begun_script, begun_state, own_begun}
use Rattle.mq_world.specs.Worlds.{IsNetwork, IsScriptAt, history_in, until_of}
use Rattle.mq_world.proofs.ListLaws.{get_map, some_is}
use Rattle.mq_world.proofs.QuietLaws.{facing_first}
use Rattle.mq_world.proofs.SeenLaws.{AreAt, done_there, history_there, ready_all}

-- Its own is as the scenario gives it, and begun.
own_first : (s : Scenario) (m : ℕ) (v : CoreValue) (own : Own) (h : History) → IsRestedAt s m v own h → h.entries ≡ [] → node_of v.plain own ≡ opening_node (surroundings s m) h
own_first s m v own h r none = r.node ∙ ap (λ (es : List Entry). after (opening_node (surroundings s m) h) es) none

as_first : (s : Scenario) (m : ℕ) (v : CoreValue) (own : Own) (h : History) → IsRestedAt s m v own h → h.entries ≡ [] → as_given own ≡ own_at s m
as_first s m v own h r none =
    ap (λ (n : Node). as_given n.own) (own_first s m v own h r none)
    ∙ given_again s m (opening_node (surroundings s m) h).manager

-- what the scenario gives it is what its history and its own say
around_is : (s : Scenario) (m : ℕ) (l : ManagerLine) (v : CoreValue) (own first : Own) (h : History) → slice_get s.managers m ≡ Some l → IsRestedAt s m v own h → first ≡ own_at s m → around l.log_max first h ≡ surroundings s m
around_is s m l v own first h is r owned = λ i. record {
  given = record { number = r.replays.number i; name = r.replays.name i; log_max = ap log_max_or (sym is) i };
  own = owned i;
}

-- so it is as its history opens
pub opens_so : (s : Scenario) (m : ℕ) (l : ManagerLine) (v : CoreValue) (own : Own) (h : History) → slice_get s.managers m ≡ Some l → IsRestedAt s m v own h → h.entries ≡ [] → node_of v.plain (own_begun v own) ≡ opening_node (around l.log_max (as_given own) h) h
opens_so s m l v own h is r none =
    let first : as_given own ≡ own_at s m = as_first s m v own h r none in
    ap (λ (p : Plain). node_of p (begun_anew p (as_given own)).own) (ap (λ (n : Node). n.manager) (own_first s m v own h r none))
    ∙ ap (λ (o : Own). begun_anew (opening_node (surroundings s m) h).manager o) first
    ∙ ap (λ (g : Surroundings). opening_node g h) (sym (around_is s m l v own (as_given own) h is r first))

-- No trigger is due of a manager that has just begun.
none_in : (name : List ℕ) (ss : List Shelf) → (queue_in name (map queue_on ss)).due ≡ 0
none_in name [] = refl
none_in name (s ∷ ss) = by_name (bytes_eq name s.name) (none_in name ss)
  where
    by_name : (b : Bool) → (queue_in name (map queue_on ss)).due ≡ 0 → (if b then queue_on s else queue_in name (map queue_on ss)).due ≡ 0
    by_name true h = refl
    by_name false h = h

none_stored : (name : List ℕ) (ss : List Shelf) (p : Plain) → p.queues ≡ map queue_on ss → (stored name p).due ≡ 0
none_stored name ss p e = ap (λ (qs : List Queue). (queue_in name qs).due) e ∙ none_in name ss

none_due_in : (qs : List LocalQueue) (ss : List Shelf) (p : Plain) → p.queues ≡ map queue_on ss → first_due qs p ≡ None
none_due_in [] ss p e = refl
none_due_in (q ∷ qs) ss p e =
    ap (λ (n : ℕ). if nat_lt 0 n then Some q else first_due qs p) (none_stored q.name ss p e)
    ∙ none_due_in qs ss p e

opening_served : (g : Surroundings) (h : History) → trigger_deed (opening_node g h) ≡ None
opening_served g h = ap (λ (o : Option LocalQueue). trigger_deed_of o (opening_node g h)) (none_due_in (locals_of h.opening.definitions) h.opening.shelves (opening_node g h).manager refl)

-- A node starts so.
pub starts_at : (s : Scenario) (m : ℕ) (l : ManagerLine) (v : CoreValue) (own : Own) (h : History) (room marks : ℕ) (spare : Spare) → (hs : List History) → slice_get hs m ≡ Some h → slice_get s.managers m ≡ Some l → IsRestedAt s m v own h → h.entries ≡ [] → h.marks ≡ [] → length s.steps ≤ marks
    → StartsAt s hs m (begun_state l.log_max v (as_given own) (own_begun v own) h room marks spare)
starts_at s m l v own h room marks spare hs found is r none unmarked enough =
    let first : Own = as_given own in
    let n : NodeState = begun_state l.log_max v first (own_begun v own) h room marks spare in
    let given : around l.log_max first h ≡ surroundings s m = around_is s m l v own first h is r (as_first s m v own h r none) in
    let opens : node_of v.plain (own_begun v own) ≡ opening_node (around l.log_max first h) h = opens_so s m l v own h is r none in
    record {
      at = record { image = r.image; known = r.known; given = given; keeps = begun_kept n none refl refl refl opens; room = omega (arith, enough) };
      served = ap trigger_deed opens ∙ opening_served (around l.log_max first h) h;
      may = ap (λ (es : List Entry). nat_le (2 ^ 48) (length es) || nat_le (2 ^ 60) 0) none;
      history = found;
      undone = none;
      unmarked = unmarked;
    }

-- The next of lists that are taken from their ends, reversed.
drop_first : {A : Type 0} (all : List A) (i : ℕ) (x : A) (ys : List A) → x ∷ ys ≡ drop i all → (slice_get all i ≡ Some x) × (ys ≡ drop (i + 1) all)
drop_first [] zero x ys e = absurd cc
drop_first [] (suc i) x ys e = absurd cc
drop_first (a ∷ as_) zero x ys e = (first a x ys as_ e, rest a x ys as_ e)
  where
    first : {A : Type 0} (b y : A) (zs bs : List A) → y ∷ zs ≡ b ∷ bs → Some b ≡ Some y
    first b y zs bs k = cc

    rest : {A : Type 0} (b y : A) (zs bs : List A) → y ∷ zs ≡ b ∷ bs → zs ≡ bs
    rest b y zs bs k = cc
drop_first (a ∷ as_) (suc i) x ys e =
    let h = drop_first as_ i x ys e in
    (h.0, h.1 ∙ ap (λ (n : ℕ). drop n (a ∷ as_)) (one_up i))
  where
    one_up : (n : ℕ) → suc (n + 1) ≡ suc n + 1
    one_up n = omega arith

pub next_of : {A : Type 0} (all left rest : List A) (i : ℕ) (x : A) → reverse left ≡ drop i all → left ≡ rest ++ x ∷ [] → (slice_get all i ≡ Some x) × (reverse rest ≡ drop (i + 1) all)
next_of all left rest i x so_far popped = drop_first all i x (reverse rest) (sym (ap reverse popped ∙ reverse-append rest (x ∷ [])) ∙ so_far)

pub first_of : {A : Type 0} (all left : List A) → left ≡ reverse all → reverse left ≡ drop 0 all
first_of all left is = ap reverse is ∙ reverse-reverse all

-- the last of a list, of each of which something holds
pub all_front : {A : Type 0} (P : A → Type 0) (xs ys : List A) (x : A) → ys ≡ xs ++ x ∷ [] → All P ys → All P xs × P x
all_front P xs ys x is all =
    let there : All P (xs ++ x ∷ []) = subst (λ (zs : List _). All P zs) is all in (
      subst (λ (zs : List _). All P zs) (take-append_seam xs (x ∷ [])) (All-take P (length xs) (xs ++ x ∷ []) there),
      at_it P (xs ++ x ∷ []) (length xs) x there (last_there xs x),
    )
  where
    last_there : {A : Type 0} (zs : List A) (z : A) → slice_get (zs ++ z ∷ []) (length zs) ≡ Some z
    last_there [] z = refl
    last_there (y ∷ ys) z = last_there ys z

-- What a node begins as.
abbrev pub made : ℕ → CoreValue → Own → Own → History → List Entry → List Mark → ℕ → ℕ → Spare → NodeState
made log_max v own first h entries marks room more spare = record {
  given = record { given = record { number = h.number; name = h.name; log_max = log_max }; own = first };
  history = record h { entries = entries; marks = marks };
  manager = v;
  own = own;
  stamp = 0;
  spare = spare;
  room = room;
  marks = more;
}

pub made_so : (log_max : ℕ) (v : CoreValue) (own first begun given : Own) (h : History) (entries : List Entry) (marks : List Mark) (room more : ℕ) (n : NodeState) → h.entries ≡ [] → h.marks ≡ [] → entries ≡ [] → marks ≡ [] → own ≡ begun → first ≡ given
    → n ≡ made log_max v own first h entries marks room more n.spare → n ≡ begun_state log_max v given begun h n.room n.marks n.spare
made_so log_max v own first begun given h entries marks room more n undone unmarked none no_marks begins gives is =
    is
    ∙ ap (λ (x : Own). made log_max v x first h entries marks room more n.spare) begins
    ∙ ap (λ (x : Own). made log_max v begun x h entries marks room more n.spare) gives
    ∙ ap (λ (xs : List Entry). made log_max v begun given h xs marks room more n.spare) (none ∙ sym undone)
    ∙ ap (λ (xs : List Mark). made log_max v begun given h h.entries xs room more n.spare) (no_marks ∙ sym unmarked)
    ∙ ap (λ (k : ℕ). begun_state log_max v given begun h k more n.spare) (sym (ap (λ (x : NodeState). x.room) is))
    ∙ ap (λ (k : ℕ). begun_state log_max v given begun h n.room k n.spare) (sym (ap (λ (x : NodeState). x.marks) is))

-- What the type of a network keeps, at its start; and what is seen of it.
map_is : {A B : Type 0} (f : A → B) (xs : List A) (ys : List B) → length xs ≡ length ys → ((m : ℕ) (x : A) → slice_get xs m ≡ Some x → slice_get ys m ≡ Some (f x)) → map f xs ≡ ys
map_is f [] [] e each = refl
map_is f [] (y ∷ ys) e each = absurd cc
map_is f (x ∷ xs) [] e each = absurd cc
map_is f (x ∷ xs) (y ∷ ys) e each = both (f x) y (map f xs) ys (some_is y (f x) (each 0 x refl)) (map_is f xs ys (down (length xs) (length ys) e) (λ m z at. each (suc m) z at))
  where
    down : (a b : ℕ) → suc a ≡ suc b → a ≡ b
    down a b k = omega (arith, k)

    both : {B : Type 0} (a b : B) (as_ bs : List B) → b ≡ a → as_ ≡ bs → a ∷ as_ ≡ b ∷ bs
    both a b as_ bs k l = ap (λ (z : _). z ∷ as_) (sym k) ∙ ap (λ (zs : List _). b ∷ zs) l

-- one of those that all have done nothing
all_begun : (cs : List progress.Course) (k : ℕ) (c : progress.Course) → All (λ (x : progress.Course). x ≡ begun_script) cs → slice_get cs k ≡ Some c → c ≡ begun_script
all_begun cs k c all is = at_it (λ (x : progress.Course). x ≡ begun_script) cs k c all is

none_done : (ns : List NodeState) (q : ℕ) → ((m : ℕ) (n : NodeState) → slice_get ns m ≡ Some n → n.history.entries ≡ []) → entries_at (map history_in ns) q ≡ []
none_done ns q each = by_node (slice_get ns q) refl
  where
    by_node : (o : Option NodeState) → slice_get ns q ≡ o → entries_at (map history_in ns) q ≡ []
    by_node None e = ap entries_or (get_map history_in ns q ∙ ap (option_map history_in) e)
    by_node (Some n) e = done_there ns q n e ∙ each q n e

first_marks : (ns : List NodeState) → ((m : ℕ) (n : NodeState) → slice_get ns m ≡ Some n → n.history.marks ≡ []) → marks_at (map history_in ns) 0 ≡ []
first_marks [] each = refl
first_marks (n ∷ ns) each = each 0 n refl

-- each cable, where nothing was offered yet
joined_first : (k : ℕ) (l : CableLine) (done : ℕ → List Entry) (c : CableState) → ((m : ℕ) → done m ≡ []) → IsNew l.out c.out → IsNew l.back c.back → IsJoined k l done c
joined_first k l done c none out back = record {
  out = facing_first l.out (is_sender k) (is_receiver k) (done l.sender) (done l.receiver) c.out (none l.sender) (none l.receiver) out;
  back = facing_first l.back (is_receiver k) (is_sender k) (done l.receiver) (done l.sender) c.back (none l.receiver) (none l.sender) back;
}

pub started : (s : Scenario) (hs : List History) (ns : List NodeState) (cs : List progress.Course) (cables : List CableState) (handlers : List ℕ) (lines : List MonitorLine) (kept : List CableLine) → IsScenario s → AllFit IsTextCommand s → length ns ≡ length s.managers
    → ((m : ℕ) (n : NodeState) → slice_get ns m ≡ Some n → StartsAt s hs m n) → length cs ≡ length s.scripts → All (λ (x : progress.Course). x ≡ begun_script) cs → kept ≡ s.cables → AreNew s.cables cables → handlers ≡ map (λ (r : RulesPart). r.manager) s.rules → lines ≡ s.monitors
    → IsNetwork (record { scenario = s; nodes = ns; scripts = cs; lines = kept; cables = cables; handlers = handlers; monitors = lines })
started s hs ns cs cables handlers lines kept scenario texts all each many begun of_cables new of_rules of_monitors = record {
  scenario = scenario;
  texts = texts;
  all = all;
  nodes = λ m n known. (each m n known).at;
  each = many;
  scripts = λ k p c part is. subst (IsScriptAt k p (entries_at (map history_in ns) p.manager)) (sym (all_begun cs k c begun is))
      (subst (λ (es : List Entry). IsScriptAt k p es begun_script) (sym (none_done ns p.manager (λ m n known. (each m n known).undone)))
      (record { stands = stands_first k p begun_script refl refl; few = low (length p.lines); waits = λ l there. tt }));
  lines = of_cables;
  joined = new_long s.cables cables new;
  ways = λ k l c at found. let n = new_at s.cables cables k l c new at found in
      joined_first k l (entries_at (map history_in ns)) c (λ q. none_done ns q (λ m n known. (each m n known).undone)) n.0 n.1;
  handlers = of_rules;
  monitors = of_monitors;
} where
  low : (n : ℕ) → 0 ≤ n
  low n = omega arith

pub starts : (s : Scenario) (hs : List History) (ns : List NodeState) (cs : List progress.Course) (cables : List CableState) (handlers : List ℕ) (lines : List MonitorLine) (kept : List CableLine) (vs : List CoreValue) (owns : List Own) → length ns ≡ length hs → AreAt s ns → ((m : ℕ) (n : NodeState) → slice_get ns m ≡ Some n → StartsAt s hs m n)
    → All (λ (x : progress.Course). x ≡ begun_script) cs → Starts (record { scenario = s; managers = vs; owns = owns; histories = hs }) (record { scenario = s; nodes = ns; scripts = cs; lines = kept; cables = cables; handlers = handlers; monitors = lines })
starts s hs ns cs cables handlers lines kept vs owns long at each begun = record {
  scenario = refl;
  histories = map_is history_in ns hs long (λ m n known. (each m n known).history);
  ready = ready_all s ns at (λ m n known. record { served = (each m n known).served; may = (each m n known).may });
  rests = λ k. none_waits k;
  unmarked = λ m. no_marks m;
} where
  none_waits : (k : ℕ) → until_of (slice_get cs k) ≡ None
  none_waits k = by_script (slice_get cs k) refl
    where
      by_script : (x : Option progress.Course) → slice_get cs k ≡ x → until_of (slice_get cs k) ≡ None
      by_script None is = ap until_of is
      by_script (Some c) is = ap until_of is ∙ ap (λ (y : progress.Course). y.until) (all_begun cs k c begun is)

  no_marks : (m : ℕ) → marks_or_absent (marks_at (map history_in ns) 0) (slice_get (map history_in ns) m) ≡ []
  no_marks m = by_node (slice_get ns m) refl
    where
      by_node : (o : Option NodeState) → slice_get ns m ≡ o → marks_or_absent (marks_at (map history_in ns) 0) (slice_get (map history_in ns) m) ≡ []
      by_node None e = ap (marks_or_absent (marks_at (map history_in ns) 0)) (get_map history_in ns m ∙ ap (option_map history_in) e) ∙ ap (map absent) (first_marks ns (λ k n known. (each k n known).unmarked))
      by_node (Some n) e = ap (marks_or_absent (marks_at (map history_in ns) 0)) (history_there ns m n e) ∙ (each m n e).unmarked
