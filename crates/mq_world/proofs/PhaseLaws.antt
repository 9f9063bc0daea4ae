-- A phase in threads: what it asks of a network holds, and behind it the network is one again, which tells of it.
use Rattle.std.proofs.Common.{◌≡◌, ℕ, ◌+◌, ◌<◌, ◌≤◌, nat_le, Bool, true, false, List, [], ◌∷◌, ◌++◌, length, refl, sym, ap, subst, ◌∙◌, arith}
use Rattle.std.specs.Prelude.{IsSome, drop, map, Option, Some, None, Result, Ok, Err, option_map, slice_get}
use Rattle.std.proofs.lemmas.Bool.Decides.{nat_tests}
use Rattle.std.proofs.lemmas.Option.{slice_get_within}
use Rattle.mq_calls.specs.Recovery.{AreKnown, IsImage}
use Rattle.mq_history.specs.Scenarios.{ArePhased}
use Rattle.mq_history.specs.declared.history.History.{History}
use Rattle.mq_history.specs.declared.history.Mark.{Mark}
use Rattle.mq_history.specs.declared.scenario.Scenario.{Scenario}
use Rattle.mq_history.specs.declared.scenario.ScriptPart.{ScriptPart}
use Rattle.mq_history.specs.declared.scripts.ScriptLine.{ScriptLine}
use Rattle.mq_spec_node.specs.Terms.{Entry}
use Rattle.mq_spec_node.specs.Words.{NoneForeign, deadline, lines_done, more_entries, wait_of}
use Rattle.mq_spec_network.specs.Given.{surroundings}
use Rattle.mq_spec_network.specs.Lawful.{marks_at, marks_or, node_begun}
use Rattle.mq_spec_network.specs.Steps.{AllInPhase}
use Rattle.mq_spec_network.specs.ScriptLines.{lines_left}
use Rattle.mq_spec_network.specs.Story.{Mem, entries_at, entries_or}
use Rattle.mq_spec_network.specs.Tasks.{Trying, moment_of, try_all, try_one}
use Rattle.mq_spec_network.specs.Turns.{node_at, node_of}
use Rattle.mq_spec_network.proofs.Going.{same_network}
use Rattle.mq_progress.specs.Course as progress
use Rattle.mq_progress.specs.Course.{Stands}
use Rattle.mq_watch.specs.from_events.States.{NodeState}
use Rattle.mq_ways.specs.Ways.{CableState}
use Rattle.mq_nodes.specs.declared.nodes.Stop.{Stop}
use Rattle.mq_nodes.specs.declared.nodes.Stop.TheVariants as stops
use Rattle.mq_nodes.specs.Course.{IsSpent, Ready, Rests, is_spent}
use Rattle.mq_nodes.specs.Told.{IsTried, KeptSo, Phased, PhaseTold}
use Rattle.mq_course.specs.Courses.{marks_or_absent, net_of}
use Rattle.mq_shared.specs.Held.{entries_or as entries_of_node}
use Rattle.mq_shared.specs.Phasing.{MayPhase, NodeRan, among, if_among, PhaseEnds, PhaseOwn, PhaseRan, entries_in, moment_or, tries_in, tries_one}
use Rattle.mq_shared.proofs.OutLaws.{first_at, line_until}
use Rattle.mq_shared.proofs.ShareLists.{any_mem, mem_any}
use Rattle.mq_world.specs.Worlds.{IsNetwork, IsNodeAt, NetState, StaysOwnIn, WaitsSo, course_in, history_in, until_of, waits_in}
use Rattle.mq_world.proofs.LiftLaws.{ready_node}
use Rattle.mq_world.proofs.ListLaws.{get_map, long_map, some_is, there}
use Rattle.mq_world.proofs.QuietLaws.{all_same}
use Rattle.mq_world.proofs.ScriptLaws.{text_line}
use Rattle.mq_world.proofs.SeenLaws.{AreAt, done_there, history_there, node_there, ready_all, spent_there}

-- What a manager did, by its node and by its history.
pub same_entries : (ns : List NodeState) (m : ℕ) → entries_in ns m ≡ entries_at (map history_in ns) m
same_entries ns m = by_node (slice_get ns m) refl
  where
    by_node : (o : Option NodeState) → slice_get ns m ≡ o → entries_in ns m ≡ entries_at (map history_in ns) m
    by_node None e = ap entries_of_node e ∙ sym (ap entries_or (get_map history_in ns m ∙ ap (option_map history_in) e))
    by_node (Some n) e = ap entries_of_node e ∙ sym (done_there ns m n e)

-- WHAT A PHASE ASKS
pub may_phase : (w : NetState) (ks : List ℕ) → IsNetwork w → Ready (course_in w).net → Rests (course_in w) → ArePhased w.scenario ks → MayPhase w.scenario ks w.nodes w.scripts w.cables
may_phase w ks h ready rests phased = record {
  scenario = h.scenario;
  phased = phased;
  texts = λ k p part n. text_line w k p n h part;
  managers = h.all;
  scripts = h.each;
  cables = h.joined;
  kept = λ m n known. (h.nodes m n known).keeps;
  ready = λ m n known. let r = ready_node w m n h known ready in (r.served, r.may);
  courses = λ k p c part found. let i = h.scripts k p c part found in record {
    stands = subst (λ (es : List Entry). Stands k p es c) (sym (same_entries w.nodes p.manager)) i.stands;
    few = i.few;
    rests = sym (ap until_of found) ∙ rests k;
  };
  ways = all_same w.scenario.cables (entries_at (map history_in w.nodes)) (entries_in w.nodes) w.cables (same_entries w.nodes) h.ways;
}

-- WHAT THE TYPE KEEPS
waits_so : (tried : Option ℕ) (ls : List ScriptLine) (n : ℕ) (l : ScriptLine) (until : Option ℕ) → slice_get ls n ≡ Some l → KeptSo tried (drop n ls) until → WaitsSo until l
waits_so None ls n l until is h = subst (λ (u : Option ℕ). WaitsSo u l) (sym h) tt
waits_so (Some moment) ls n l until is h = subst (λ (u : Option ℕ). WaitsSo u l) (sym (h ∙ first_at moment n ls ∙ ap (line_until moment) is)) (by_wait (wait_of l) refl)
  where
    by_wait : (wait : Option ℕ) → wait_of l ≡ wait → WaitsSo (deadline moment wait) l
    by_wait None e = tt
    by_wait (Some x) e = subst IsSome (sym e) refl

at_ran : (s : Scenario) (ts : List Trying) (m : ℕ) (since : List Entry) (n new : NodeState) → IsNodeAt s m n → NodeRan ts m since n new → IsNodeAt s m new
at_ran s ts m since n new at d =
    let marks : length new.history.marks ≡ length n.history.marks = ap (λ (h : History). length h.marks) d.grows.history in
    let opens : new.history.opening ≡ n.history.opening = ap (λ (h : History). h.opening) d.grows.history in
    record {
      image = subst IsImage (sym opens) at.image;
      known = subst (AreKnown (m + 1)) (sym opens) at.known;
      given = d.grows.given ∙ at.given;
      keeps = d.keeps;
      room = omega (arith, at.room, marks, d.marks);
    }

-- the node that was there before
before : (old ns : List NodeState) (m : ℕ) (new : NodeState) → length ns ≡ length old → slice_get ns m ≡ Some new → (n : NodeState) × (slice_get old m ≡ Some n)
before old ns m new long known = let lt : m < length ns = slice_get_within ns m new known in there old m (omega (arith, lt, long))

-- and the one that is there now
after : (old ns : List NodeState) (m : ℕ) (n : NodeState) → length ns ≡ length old → slice_get old m ≡ Some n → (new : NodeState) × (slice_get ns m ≡ Some new)
after old ns m n long known = let lt : m < length old = slice_get_within old m n known in there ns m (omega (arith, lt, long))

-- the network then
abbrev pub phased_as : List NodeState → List progress.Course → List CableState → NetState → NetState
phased_as ns cs ways w = record w { nodes = ns; scripts = cs; cables = ways }

pub network_ran : (w : NetState) (ks : List ℕ) (r : Result (Unit {0}) Stop) (ns : List NodeState) (cs : List progress.Course) (ways : List CableState) → IsNetwork w → PhaseRan w.scenario ks w.nodes r ns cs ways → IsNetwork (phased_as ns cs ways w)
network_ran w ks r ns cs ways h x = record {
  scenario = h.scenario;
  texts = h.texts;
  all = x.managers ∙ h.all;
  nodes = λ m new known. let b = before w.nodes ns m new x.managers known in
      at_ran w.scenario (tries_in w.scenario w.nodes ks) m (x.since m) b.0 new (h.nodes m b.0 b.1) (x.nodes m b.0 new b.1 known);
  each = x.scripts;
  scripts = λ k p c part found. let i = x.courses k p c part found in record {
    stands = subst (λ (es : List Entry). Stands k p es c) (same_entries ns p.manager) i.stands;
    few = i.few;
    waits = λ l is. waits_so (if_among (among ks k) (moment_or (slice_get w.nodes p.manager))) p.lines c.done l c.until is i.rests;
  };
  lines = h.lines;
  joined = x.cables;
  ways = all_same w.scenario.cables (entries_in ns) (entries_at (map history_in ns)) ways (λ m. sym (same_entries ns m)) x.ways;
  handlers = h.handlers;
  monitors = h.monitors;
}

-- WHAT IT TELLS: the scripts and the moments with which it began,
moment_same : (s : Scenario) (ns : List NodeState) (m : ℕ) → AreAt s ns → moment_or (slice_get ns m) ≡ moment_of (node_at (net_of s (map history_in ns)) m)
moment_same s ns m at = by_node (slice_get ns m) refl
  where
    by_node : (o : Option NodeState) → slice_get ns m ≡ o → moment_or (slice_get ns m) ≡ moment_of (node_at (net_of s (map history_in ns)) m)
    by_node None e =
        ap moment_or e
        ∙ sym (ap (λ (h : Option History). moment_of (node_of (node_begun (surroundings s m) h) (entries_or h))) (get_map history_in ns m ∙ ap (option_map history_in) e))
    by_node (Some n) e = ap moment_or e ∙ sym (ap moment_of (node_there s ns m n e (at m n e)))

abbrev tried : ℕ → ScriptPart → ℕ → List Trying
tried k p moment = record { script = k; part = p; moment = moment } ∷ []

one_same : (s : Scenario) (ns : List NodeState) (k : ℕ) (o : Option ScriptPart) → AreAt s ns → tries_one ns k o ≡ try_one (net_of s (map history_in ns)) k o
one_same s ns k None at = refl
one_same s ns k (Some p) at = ap (tried k p) (moment_same s ns p.manager at)

tries_same : (s : Scenario) (ns : List NodeState) (ks : List ℕ) → AreAt s ns → tries_in s ns ks ≡ try_all (net_of s (map history_in ns)) ks
tries_same s ns [] at = refl
tries_same s ns (k ∷ ks) at =
    ap (λ (ts : List Trying). ts ++ tries_in s ns ks) (one_same s ns k (slice_get s.scripts k) at)
    ∙ ap (λ (ts : List Trying). try_one (net_of s (map history_in ns)) k (slice_get s.scripts k) ++ ts) (tries_same s ns ks at)

none_beyond : {A : Type 0} (xs : List A) (m : ℕ) → length xs ≤ m → slice_get xs m ≡ None
none_beyond xs m le = by_value (slice_get xs m) refl
  where
    by_value : (o : Option _) → slice_get xs m ≡ o → slice_get xs m ≡ None
    by_value None e = e
    by_value (Some x) e = absurd (let lt : m < length xs = slice_get_within xs m x e in omega (arith, lt, le))

-- what is seen of a history but for its entries,
module _ (w : NetState) (ks : List ℕ) (r : Result (Unit {0}) Stop) (ns : List NodeState) (cs : List progress.Course) (ways : List CableState) (h : IsNetwork w) (x : PhaseRan w.scenario ks w.nodes r ns cs ways) where
  abbrev v : NetState
  v = phased_as ns cs ways w

  alike : {B : Type 0} (f : Option History → B) (m : ℕ) → ((k : History) (es : List Entry) → f (Some (more_entries es k)) ≡ f (Some k)) → f (slice_get (map history_in ns) m) ≡ f (slice_get (map history_in w.nodes) m)
  alike {B} f m same = by_node (slice_get w.nodes m) refl
    where
      gone : (o : Option NodeState) → slice_get w.nodes m ≡ None → slice_get ns m ≡ o → slice_get ns m ≡ None
      gone None e k = k
      gone (Some new) e k = absurd (let b = before w.nodes ns m new x.managers k in no (sym e ∙ b.1))
        where
          no : {n : NodeState} → None ≡ Some n → ⊥
          no q = cc

      by_node : (o : Option NodeState) → slice_get w.nodes m ≡ o → f (slice_get (map history_in ns) m) ≡ f (slice_get (map history_in w.nodes) m)
      by_node None e =
          ap f (get_map history_in ns m ∙ ap (option_map history_in) (gone (slice_get ns m) e refl))
          ∙ sym (ap f (get_map history_in w.nodes m ∙ ap (option_map history_in) e))
      by_node (Some n) e =
          let a = after w.nodes ns m n x.managers e in
          ap f (history_there ns m a.0 a.1)
          ∙ ap (λ (k : History). f (Some k)) (x.nodes m n a.0 e a.1).grows.history
          ∙ same n.history (x.since m)
          ∙ sym (ap f (history_there w.nodes m n e))

  -- what each manager did more,
  more_done : (m : ℕ) → entries_at (map history_in ns) m ≡ entries_at (map history_in w.nodes) m ++ x.since m
  more_done m = by_node (slice_get w.nodes m) refl
    where
      beyond : slice_get w.nodes m ≡ None → length w.nodes ≤ m
      beyond e = by_test (nat_le (length w.nodes) m) refl
        where
          by_test : (b : Bool) → nat_le (length w.nodes) m ≡ b → length w.nodes ≤ m
          by_test true t = grind (arith, nat_tests)
          by_test false t = absurd (let a = there w.nodes m (grind (arith, nat_tests)) in no (sym e ∙ a.1))
            where
              no : {n : NodeState} → None ≡ Some n → ⊥
              no q = cc

      by_node : (o : Option NodeState) → slice_get w.nodes m ≡ o → entries_at (map history_in ns) m ≡ entries_at (map history_in w.nodes) m ++ x.since m
      by_node None e =
          let far = beyond e in
          ap entries_or (none_beyond (map history_in ns) m (omega (arith, long_map history_in ns, x.managers, far)))
          ∙ sym (ap (λ (o : Option History). entries_or o ++ x.since m) (none_beyond (map history_in w.nodes) m (omega (arith, long_map history_in w.nodes, far))) ∙ x.others m far)
      by_node (Some n) e =
          let a = after w.nodes ns m n x.managers e in
          done_there ns m a.0 a.1
          ∙ ap (λ (k : History). k.entries) (x.nodes m n a.0 e a.1).grows.history
          ∙ ap (λ (es : List Entry). es ++ x.since m) (sym (done_there w.nodes m n e))

  -- and that it is a phase; nothing was noted
  marks_same : (m : ℕ) → (course_in v).marks m ≡ (course_in w).marks m
  marks_same m =
      ap (λ (xs : List Mark). marks_or_absent xs (slice_get (map history_in ns) m)) (alike marks_or 0 (λ k es. refl))
      ∙ alike (marks_or_absent (marks_at (map history_in w.nodes) 0)) m (λ k es. refl)

  in_phase : (m : ℕ) → m < length w.scenario.managers → AllInPhase (try_all (course_in w).net ks) m ((course_in w).net.done m) (x.since m)
  in_phase m lt =
      let n = there w.nodes m (omega (arith, lt, h.all)) in
      let a = after w.nodes ns m n.0 x.managers n.1 in
      subst (λ (es : List Entry). AllInPhase (try_all (course_in w).net ks) m es (x.since m)) (sym (done_there w.nodes m n.0 n.1))
      (subst (λ (ts : List Trying). AllInPhase ts m n.0.history.entries (x.since m)) (tries_same w.scenario w.nodes ks h.nodes)
      (x.nodes m n.0 a.0 n.1 a.1).phased)

  phased : Phased ks (course_in w) (course_in v)
  phased = record {
    since = x.since;
    others = λ m le. x.others m (omega (arith, le, h.all));
    net = same_network (course_in v).net (record (course_in w).net { done = λ m. (course_in w).net.done m ++ x.since m }) refl
        (λ m. alike (node_begun (surroundings w.scenario m)) m (λ k es. refl)) more_done;
    phased = in_phase;
    marks = λ i m. marks_same m i;
  }

  kept : IsNetwork v
  kept = network_ran w ks r ns cs ways h x

  -- another event may come, no other get waits; or a node is spent
  ready : PhaseEnds (Ok tt) ns → Ready (course_in v).net
  ready each = ready_all w.scenario ns kept.nodes (λ m n known. let e = each m n known in record { served = e.0; may = e.1 })

  rests : (k : ℕ) → (Mem k ks → ⊥) → waits_in v k ≡ None
  rests k none = by_course (slice_get cs k) refl
    where
      not_among : (b : Bool) → among ks k ≡ b → among ks k ≡ false
      not_among true e = absurd (none (any_mem ks k e))
      not_among false e = e

      by_course : (o : Option progress.Course) → slice_get cs k ≡ o → waits_in v k ≡ None
      by_course None e = ap until_of e
      by_course (Some c) e =
          let lt : k < length cs = slice_get_within cs k c e in
          let p = there w.scenario.scripts k (omega (arith, lt, x.scripts)) in
          ap until_of e ∙ subst (λ (b : Bool). KeptSo (if_among b (moment_or (slice_get w.nodes p.0.manager))) (drop c.done p.0.lines) c.until) (not_among (among ks k) refl) (x.courses k p.0 c p.1 e).rests

  -- what is left of a script of the phase was tried at the phase's moment
  tried_then : (k : ℕ) (p : ScriptPart) → Mem k ks → slice_get w.scenario.scripts k ≡ Some p → IsTried k p (Some (moment_of (node_at (course_in w).net p.manager))) (course_in v)
  tried_then k p member part =
      let lt : k < length w.scenario.scripts = slice_get_within w.scenario.scripts k p part in
      let found = there cs k (omega (arith, lt, x.scripts)) in
      let c : progress.Course = found.0 in
      let i = x.courses k p c part found.1 in
      subst (λ (u : Option ℕ). KeptSo (Some (moment_of (node_at (course_in w).net p.manager))) (lines_left (course_in v).net k p) u) (sym (ap until_of found.1))
      (subst (λ (n : ℕ). KeptSo (Some (moment_of (node_at (course_in w).net p.manager))) (drop n p.lines) c.until) (i.stands.done ∙ ap (lines_done k) (same_entries ns p.manager))
      (subst (λ (m : ℕ). KeptSo (Some m) (drop c.done p.lines) c.until) (moment_same w.scenario w.nodes p.manager h.nodes)
      (subst (λ (b : Bool). KeptSo (if_among b (moment_or (slice_get w.nodes p.manager))) (drop c.done p.lines) c.until) (mem_any ks k member) i.rests)))

  spent : (m : ℕ) → PhaseEnds (Err (stops.Spent m)) ns → IsSpent m (course_in v).net
  spent m e = ap is_spent (done_there ns m e.0 e.1) ∙ spent_there e.0 (kept.nodes m e.0 e.1).keeps ∙ e.2

  told : (q : Result (Unit {0}) Stop) → PhaseEnds q ns → PhaseTold ks q (course_in w) (course_in v)
  told (Ok done) e = (phased, ready e, record { others = rests; each = tried_then })
  told (Err stops.NoMemory) e = phased
  told (Err (stops.Spent m)) e = (phased, spent m e)

  pub phase_told : PhaseTold ks r (course_in w) (course_in v)
  phase_told = told r x.ends

  pub phase_own : PhaseOwn w.nodes ns → StaysOwnIn w v
  phase_own own none m k e = by_node (slice_get ns m) refl
    where
      no : None ≡ Some k → ⊥
      no q = cc

      by_node : (o : Option NodeState) → slice_get ns m ≡ o → NoneForeign k.entries
      by_node None z = absurd (no (sym (get_map history_in ns m ∙ ap (option_map history_in) z) ∙ e))
      by_node (Some new) z =
          let b = before w.nodes ns m new x.managers z in
          subst (λ (y : History). NoneForeign y.entries) (some_is new.history k (sym (history_there ns m new z) ∙ e))
          (own m b.0 new b.1 z (none m b.0.history (history_there w.nodes m b.0 b.1)))

-- As a call of the network's parts has it: by the parts that it sees, and the scenario that it is given.
pub phase_asks : {inside w : NetState} {s : Scenario} (ks : List ℕ) → inside ≡ w → w.scenario ≡ s → IsNetwork w → Ready (course_in w).net → Rests (course_in w) → ArePhased s ks → MayPhase s ks inside.nodes inside.scripts inside.cables
phase_asks {inside} {w} {s} ks view same h ready rests phased =
    subst (λ (x : NetState). MayPhase s ks x.nodes x.scripts x.cables) (sym view)
    (subst (λ (y : Scenario). MayPhase y ks w.nodes w.scripts w.cables) same
    (may_phase w ks h ready rests (subst (λ (y : Scenario). ArePhased y ks) (sym same) phased)))

ran_here : {inside w : NetState} {s : Scenario} (ks : List ℕ) (r : Result (Unit {0}) Stop) (ns : List NodeState) (cs : List progress.Course) (ways : List CableState) → inside ≡ w → w.scenario ≡ s → PhaseRan s ks inside.nodes r ns cs ways → PhaseRan w.scenario ks w.nodes r ns cs ways
ran_here {inside} {w} {s} ks r ns cs ways view same x =
    subst (λ (y : Scenario). PhaseRan y ks w.nodes r ns cs ways) (sym same) (subst (λ (z : NetState). PhaseRan s ks z.nodes r ns cs ways) view x)

pub phase_keeps : {inside w : NetState} {s : Scenario} (ks : List ℕ) (r : Result (Unit {0}) Stop) (ns : List NodeState) (cs : List progress.Course) (ways : List CableState) → inside ≡ w → w.scenario ≡ s → IsNetwork w → PhaseRan s ks inside.nodes r ns cs ways → IsNetwork (phased_as ns cs ways inside)
phase_keeps {inside} {w} {s} ks r ns cs ways view same h x =
    subst (λ (z : NetState). IsNetwork (phased_as ns cs ways z)) (sym view) (network_ran w ks r ns cs ways h (ran_here ks r ns cs ways view same x))

pub phase_tells : {inside w : NetState} {s : Scenario} (ks : List ℕ) (r : Result (Unit {0}) Stop) (ns : List NodeState) (cs : List progress.Course) (ways : List CableState) → inside ≡ w → w.scenario ≡ s → IsNetwork w → PhaseRan s ks inside.nodes r ns cs ways
    → PhaseTold ks r (course_in w) (course_in (phased_as ns cs ways inside))
phase_tells {inside} {w} {s} ks r ns cs ways view same h x =
    subst (λ (z : NetState). PhaseTold ks r (course_in w) (course_in (phased_as ns cs ways z))) (sym view) (phase_told w ks r ns cs ways h (ran_here ks r ns cs ways view same x))

pub phase_owns : {inside w : NetState} {s : Scenario} (ks : List ℕ) (r : Result (Unit {0}) Stop) (ns : List NodeState) (cs : List progress.Course) (ways : List CableState) → inside ≡ w → w.scenario ≡ s → IsNetwork w → PhaseRan s ks inside.nodes r ns cs ways → PhaseOwn inside.nodes ns
    → StaysOwnIn w (phased_as ns cs ways inside)
phase_owns {inside} {w} {s} ks r ns cs ways view same h x own =
    subst (λ (z : NetState). StaysOwnIn w (phased_as ns cs ways z)) (sym view)
    (phase_own w ks r ns cs ways h (ran_here ks r ns cs ways view same x) (subst (λ (z : NetState). PhaseOwn z.nodes ns) view own))

pub phase_long : {inside w : NetState} {s : Scenario} (ks : List ℕ) (r : Result (Unit {0}) Stop) (ns : List NodeState) (cs : List progress.Course) (ways : List CableState) → inside ≡ w → PhaseRan s ks inside.nodes r ns cs ways → length ns ≡ length w.nodes
phase_long ks r ns cs ways view x = x.managers ∙ ap (λ (z : NetState). length z.nodes) view
