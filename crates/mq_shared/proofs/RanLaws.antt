-- A phase that ran, and one that did nothing.
use Rattle.std.proofs.Common.{◌≡◌, ◌≢◌, ℕ, ◌+◌, ◌≤◌, ◌<◌, Bool, true, false, List, [], ◌++◌, length, refl, sym, ap, subst, ◌∙◌, append-nil, ⊎_elim, arith}
use Rattle.std.specs.Prelude.{◌==◌, Some, None, Result, Ok, Err, slice_get}
use Rattle.std.proofs.lemmas.Bool.Decides.{nat_tests}
use Rattle.atomic_table.specs.Seated.{TableId}
use Rattle.mq_base.specs.Members.{Mem}
use Rattle.mq_history.specs.Scenarios.{IsCable}
use Rattle.mq_history.specs.declared.scenario.Scenario.{Scenario}
use Rattle.mq_spec_node.specs.Terms.{Entry, ScriptPart}
use Rattle.mq_spec_node.specs.Words.{NoneForeign}
use Rattle.mq_progress.specs.Course.{Course}
use Rattle.mq_acts.specs.from_events.States.{NodeState}
use Rattle.mq_nodes.specs.declared.nodes.Stop.{Stop}
use Rattle.mq_nodes.specs.declared.nodes.Stop.TheVariants as stops
use Rattle.mq_ways.specs.Ways.{CableState}
use Rattle.mq_split.specs.Facing.{AreJoined}
use Rattle.mq_split.specs.Opening.{EachCable, IsShort}
use Rattle.mq_split.specs.Took.{EndState}
use Rattle.mq_split.specs.Ends.{EachIs}
use Rattle.mq_shared.specs.Held.{Begun, cables_begun, entries_begun, entries_or}
use Rattle.mq_split.specs.Parting.{AreEnds, IsAmong, ends_named}
use Rattle.mq_shared.specs.Phasing.{AreCourses, AreLeft, IsCourse, MayPhase, NodeRan, PhaseEnds, PhaseOwn, PhaseRan, ShortBehind, among, entries_in, if_among, moment_or, tries_in}
use Rattle.mq_shared.specs.Sharing.{begun_with, kept_course, kept_if}
use Rattle.mq_shared.specs.Taking.{AreBack, AreOut, Asked, Begins, IsOut, OthersStay, OwnOut, since_of}
use Rattle.mq_shared.proofs.OutLaws.{course_kept, course_stays, joined_on, others_none, out_ends, out_entries, out_ran}
use Rattle.mq_shared.proofs.ShareLists.{are_same, at_it, less, mem_any, set_here, set_long, set_other, some_is, there, true_or_false}
use Rattle.mq_shared.proofs.ShareLaws.{by_at, mem_try}

-- NOTHING WAS DONE: but the next line of each script of the phase counts as tried, place by place
left_one : (b : Bool) (moment k : ℕ) (p : ScriptPart) (es : List Entry) (c d : Course) (cs ds : List Course) → slice_get cs k ≡ Some c → ds ≡ kept_if b k (kept_course moment p c) cs → slice_get ds k ≡ Some d → IsCourse None k p es c → IsCourse (if_among b moment) k p es d
left_one true moment k p es c d cs ds found new now is =
    let lt : k < length cs = less cs k c found in
    let same : kept_course moment p c ≡ d = some_is (kept_course moment p c) d (sym (set_here cs k (kept_course moment p c) lt) ∙ ap (λ (l : List Course). slice_get l k) (sym new) ∙ now) in
    subst (λ (x : Course). IsCourse (Some moment) k p es x) same (course_kept moment k p es c is)
left_one false moment k p es c d cs ds found new now is =
    let same : c ≡ d = some_is c d (sym found ∙ ap (λ (l : List Course). slice_get l k) (sym new) ∙ now) in
    subst (λ (x : Course). IsCourse None k p es x) same is

pub kept_other : (b : Bool) (k j : ℕ) (c : Course) (cs ds : List Course) → ds ≡ kept_if b k c cs → j ≢ k → slice_get ds j ≡ slice_get cs j
kept_other true k j c cs ds new apart = ap (λ (l : List Course). slice_get l j) new ∙ set_other cs k j c apart
kept_other false k j c cs ds new apart = ap (λ (l : List Course). slice_get l j) new

pub kept_long : (b : Bool) (k : ℕ) (c : Course) (cs ds : List Course) → ds ≡ kept_if b k c cs → length ds ≡ length cs
kept_long true k c cs ds new = ap length new ∙ set_long cs k c
kept_long false k c cs ds new = ap length new

-- those before a place
abbrev pub LeftBelow : Scenario → List ℕ → List NodeState → ℕ → List Course → Type 0
LeftBelow s ks ns n cs = (k : ℕ) (p : ScriptPart) (c : Course) → k < n → slice_get s.scripts k ≡ Some p → slice_get cs k ≡ Some c → IsCourse (if_among (among ks k) (moment_or (slice_get ns p.manager))) k p (entries_in ns p.manager) c

pub left_on : (s : Scenario) (ks : List ℕ) (ns : List NodeState) (at : ℕ) (p : ScriptPart) (c : Course) (first cs ds : List Course) → AreCourses s ns first → slice_get s.scripts at ≡ Some p → slice_get cs at ≡ Some c → slice_get first at ≡ Some c
    → ds ≡ kept_if (among ks at) at (kept_course (moment_or (slice_get ns p.manager)) p c) cs → LeftBelow s ks ns at cs → LeftBelow s ks ns (at + 1) ds
left_on s ks ns at p c first cs ds are part found was new left k q d lt is now = ⊎_elim
    (λ (e : (k == at) ≡ true). here (are_same k at e))
    (λ (e : (k == at) ≡ false). let other : k ≢ at = differ e in left k q d (omega (arith, lt, below e)) is (sym (kept_other (among ks at) at k (kept_course (moment_or (slice_get ns p.manager)) p c) cs ds new other) ∙ now))
    (true_or_false (k == at))
  where
    below : (k == at) ≡ false → k < at
    below e = grind (arith, nat_tests)

    differ : (k == at) ≡ false → k ≢ at
    differ e same = let under = below e in omega (arith, under, same)

    here : k ≡ at → IsCourse (if_among (among ks k) (moment_or (slice_get ns q.manager))) k q (entries_in ns q.manager) d
    here same =
        let part_is : p ≡ q = some_is p q (sym part ∙ ap (slice_get s.scripts) (sym same) ∙ is) in
        subst (λ (i : ℕ). IsCourse (if_among (among ks i) (moment_or (slice_get ns q.manager))) i q (entries_in ns q.manager) d) (sym same)
        (subst (λ (x : ScriptPart). IsCourse (if_among (among ks at) (moment_or (slice_get ns x.manager))) at x (entries_in ns x.manager) d) part_is
        (left_one (among ks at) (moment_or (slice_get ns p.manager)) at p (entries_in ns p.manager) c d cs ds found new (ap (slice_get ds) (sym same) ∙ now) (are at p c part was)))

pub nothing_ran : (s : Scenario) (ks : List ℕ) (ns : List NodeState) (cs ds : List Course) (ws : List CableState) (r : Result (Unit {0}) Stop) → MayPhase s ks ns cs ws → length ds ≡ length cs → AreLeft s ks ns ns ds → PhaseEnds r ns → PhaseRan s ks ns r ns ds ws
nothing_ran s ks ns cs ds ws r may long left ends = record {
  since = λ m. [];
  others = λ m far. refl;
  managers = refl;
  nodes = λ m n new at again. let same : n ≡ new = some_is n new (sym at ∙ again) in subst (NodeRan (tries_in s ns ks) m [] n) same (stays m n at);
  scripts = long ∙ may.scripts;
  courses = left;
  cables = may.cables;
  ways = may.ways;
  ends = ends;
}
  where
    stays : (m : ℕ) (n : NodeState) → slice_get ns m ≡ Some n → NodeRan (tries_in s ns ks) m [] n n
    stays m n at = record {
      phased = tt;
      grows = record { given = refl; history = ap (λ (es : List Entry). record n.history { entries = es }) (sym (append-nil n.history.entries)) };
      marks = refl;
      keeps = may.kept m n at;
    }

-- HOW MUCH LIES THERE
short_any : (r : Result (Unit {0}) Stop) (ws : List CableState) → EachCable IsShort ws → ShortBehind r ws
short_any (Ok x) ws h = h
short_any (Err stops.NoMemory) ws h = tt
short_any (Err (stops.Spent m)) ws h = h

pub short_behind : (wants : Bool) (r : Result (Unit {0}) Stop) (ws : List CableState) → (wants ≡ true → r ≡ Err stops.NoMemory) → (wants ≡ false → EachCable IsShort ws) → ShortBehind r ws
short_behind true r ws lacks h = subst (λ (x : Result (Unit {0}) Stop). ShortBehind x ws) (sym (lacks refl)) tt
short_behind false r ws lacks h = short_any r ws (h refl)

-- IT RAN
pub begins_so : (s : Scenario) (ks : List ℕ) (ns : List NodeState) (cs : List Course) (ws : List CableState) (outs backs : List TableId) → MayPhase s ks ns cs ws → Begins (record { scenario = s; scripts = ks }) (begun_with s ks ns outs backs)
begins_so s ks ns cs ws outs backs may = record { scenario = may.scenario; texts = may.texts; all = may.managers; ready = may.ready; begun = refl }

-- each cable joins two managers that are there
pub cables_among : (s : Scenario) (ks : List ℕ) (ns : List NodeState) (cs : List Course) (ws : List CableState) (n : ℕ) → MayPhase s ks ns cs ws → length ns ≡ n → EachIs (IsAmong n) s.cables
cables_among s ks ns cs ws n may count k l at =
    let c = at_it (IsCable s) s.cables k l may.scenario.cables at in
    let near = c.sender in
    let far = c.receiver in
    (omega (arith, near, count, may.managers), omega (arith, far, count, may.managers))

module _ (s : Scenario) (ks : List ℕ) (old : List NodeState) (was : List CableState) (first : List Course) (outs backs : List TableId) (may : MayPhase s ks old first was) where
  abbrev begun : Begun
  begun = begun_with s ks old outs backs

  abbrev asked : Asked
  asked = record { scenario = s; scripts = ks }

  pub ends_out : (ns : List NodeState) (rows : List (List EndState)) → length ns ≡ length old → length rows ≡ length old → AreOut begun ns rows → AreEnds (cables_begun begun) (since_of begun ns) (ends_named s.cables) rows
  ends_out ns rows count count_rows out = out_ends begun ns rows s.cables (count ∙ sym count_rows) out (λ m lt. by_at (ends_named s.cables) (length s.managers) m (omega (arith, lt, count, may.managers)))

  pub own_out : (ns : List NodeState) → OwnOut begun ns → PhaseOwn old ns
  own_out ns own m n new at now none = own m new now (subst NoneForeign (sym (ap entries_or at)) none)

  module _ (ns : List NodeState) (rows : List (List EndState)) (count : length ns ≡ length old) (count_rows : length rows ≡ length old) (out : AreOut begun ns rows) where
    row_of : (m : ℕ) (n : NodeState) → slice_get ns m ≡ Some n → (es : List EndState) × (slice_get rows m ≡ Some es)
    row_of m n at = there rows m (let lt = less ns m n at in omega (arith, lt, count, count_rows))

    ran_at : (m : ℕ) (n new : NodeState) → slice_get old m ≡ Some n → slice_get ns m ≡ Some new → NodeRan (tries_in s old ks) m (since_of begun ns m) n new
    ran_at m n new at now = let r = row_of m new now in out_ran begun ns m n new r.0 at now (out m new r.0 now r.1)

    -- a script that was not asked
    stays_at : (k : ℕ) (p : ScriptPart) (c : Course) → slice_get s.scripts k ≡ Some p → among ks k ≡ false → IsCourse None k p (entries_in old p.manager) c → IsCourse None k p (entries_in ns p.manager) c
    stays_at k p c part none course =
        let mine : (p.manager < length s.managers) × (length p.lines ≤ 25000) = at_it (λ (q : ScriptPart). (q.manager < length s.managers) × (length q.lines ≤ 25000)) s.scripts k p may.scenario.scripts part in
        let here = mine.0 in
        let x = there old p.manager (omega (arith, here, may.managers)) in
        let y = there ns p.manager (omega (arith, here, count, may.managers)) in
        let r = row_of p.manager y.0 y.1 in
        let is : IsOut begun p.manager y.0 r.0 = out p.manager y.0 r.0 y.1 r.1 in
        let begun_at : entries_in old p.manager ≡ x.0.history.entries = ap entries_or x.1 in
        subst (λ (d : List Entry). IsCourse None k p d c) (sym (out_entries begun ns p.manager y.0 r.0 y.1 is))
        (subst (λ (d : List Entry). IsCourse None k p (d ++ since_of begun ns p.manager) c) (sym begun_at)
        (course_stays (tries_in s old ks) p.manager k p x.0.history.entries (since_of begun ns p.manager) c (ran_at p.manager x.0 y.0 x.1 y.1).phased
        (λ t member same. clash (mem_any ks k (subst (λ (i : ℕ). Mem i ks) same (mem_try s old ks t member).1)) none)
        (subst (λ (d : List Entry). IsCourse None k p d c) begun_at course)))
      where
        clash : {b : Bool} → b ≡ true → b ≡ false → ⊥
        clash e f = absurd (let h = sym e ∙ f in cc)

    courses_out : (cs ds : List Course) → OthersStay asked first cs → OthersStay asked cs ds → AreBack asked begun ns ds → AreLeft s ks old ns ds
    courses_out cs ds went came back k p c part at = ⊎_elim
        (λ (e : among ks k ≡ true). subst (λ (b : Bool). IsCourse (if_among b (moment_or (slice_get old p.manager))) k p (entries_in ns p.manager) c) (sym e) (back k p c part e (let mine = at_it (λ (q : ScriptPart). (q.manager < length s.managers) × (length q.lines ≤ 25000)) s.scripts k p may.scenario.scripts part in let here = mine.0 in omega (arith, here, count, may.managers)) at))
        (λ (e : among ks k ≡ false). subst (λ (b : Bool). IsCourse (if_among b (moment_or (slice_get old p.manager))) k p (entries_in ns p.manager) c) (sym e) (stays_at k p c part e (may.courses k p c part (sym (went k e) ∙ sym (came k e) ∙ at))))
        (true_or_false (among ks k))

    pub all_ran : (cs ds : List Course) (ws : List CableState) (r : Result (Unit {0}) Stop) → length ds ≡ length first → OthersStay asked first cs → OthersStay asked cs ds → AreBack asked begun ns ds → length ws ≡ length was
        → AreJoined s.cables (λ (m : ℕ). entries_begun begun m ++ since_of begun ns m) ws → PhaseEnds r ns → PhaseRan s ks old r ns ds ws
    all_ran cs ds ws r long went came back cables joined ends = record {
      since = since_of begun ns;
      others = λ m far. others_none begun ns m (omega (arith, far, count));
      managers = count;
      nodes = ran_at;
      scripts = long ∙ may.scripts;
      courses = courses_out cs ds went came back;
      cables = cables ∙ may.cables;
      ways = joined_on begun ns rows s.cables ws (count ∙ sym count_rows) out (cables_among s ks old first was (length ns) may (sym count)) joined;
      ends = ends;
    }
