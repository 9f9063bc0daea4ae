-- A run over managers at rest, from what its steps tell.
use Rattle.std.proofs.Common.{ℕ, ◌≡◌, ◌≤◌, ◌<◌, true, List, [], refl, ap, sym, subst, ◌∙◌, length, arith}
use Rattle.std.specs.Prelude.{IfSome, OnOk, Option, Some, None, Result, Ok, Err, option_map}
use Rattle.std.specs.Io.KnownBytes.{Keeps}
use Rattle.mq_history.specs.declared.history.History.{History}
use Rattle.mq_history.specs.declared.history.Mark.{Mark}
use Rattle.mq_history.specs.declared.scenario.Scenario.{Scenario}
use Rattle.mq_history.specs.declared.scenario.Step.{Step}
use Rattle.mq_spec_network.specs.Apart.{apart}
use Rattle.mq_spec_network.specs.Lawful.{AreSteps, IsDone, Stands}
use Rattle.mq_spec_network.specs.Story.{entries_at}
use Rattle.mq_spec_network.specs.Tasks.{Task}
use Rattle.mq_world.specs.from_course.Courses.{course_of, net_of}
use Rattle.mq_world.proofs.from_course.CourseLaws.{histories_have}
use Rattle.mq_nodes.specs.declared.nodes.Stop.{Stop}
use Rattle.mq_nodes.specs.declared.nodes.Stop.TheVariants as stops
use Rattle.mq_nodes.specs.Carried.{AreCarriedSoFar}
use Rattle.mq_nodes.specs.Course.{is_spent}
use Rattle.mq_nodes.specs.Told.{Has, Ran}
use Rattle.mq_history.specs.Scenarios.{IsScenario}
use Rattle.mq_history.specs.declared.story.Apart.{Apart}
use Rattle.mq_spec_manager.specs.Stops.{last_moment}
use Rattle.mq_spec_node.specs.Node.{Node}
use Rattle.mq_law_ran.specs.from_net_ledger.Opened.{AreOpened, IsOpened}
use Rattle.mq_run.specs.declared.status.Status.{Status}
use Rattle.mq_run.specs.declared.status.Status.TheVariants as status
use Rattle.mq_run.specs.Statuses.{net_status, stop_status}
use Rattle.mq_run.proofs.OwnLaws.{begun_own}
use Rattle.mq_run.proofs.JoinLaws as joins
use Rattle.mq_run.proofs.JoinLaws.{alike}
use Rattle.mq_nodes.specs.Course.{Course}
use Rattle.mq_world.specs.Resting.{rest_of}
use Rattle.mq_world.specs.Starting.{IsFresh, Starts}
use Rattle.mq_world.specs.Worlds.{NetState, course_in, histories_in, waits_in}
use Rattle.mq_world.specs.Words.{Began, IsRested, RestState}
use Rattle.mq_world.specs.from_begin.Begun.{Held, NotBegan, moment_or}
use Rattle.mq_world.specs.from_begin.{NetFault}
use Rattle.mq_world.specs.from_begin.NetFaultVariants as faults
use Rattle.mq_law_ran.specs.Promises.{RestartsAreOwn}
use Rattle.mq_law_ran.specs.Runs.{AreCarried, AreHistories, AreOpenings, Left, standing_left}
use Rattle.mq_law_ran.proofs.Keeping.{begins_as, same_apart, same_begun, same_scenario}
use Rattle.mq_law_ran.proofs.Lawfuls as lawfuls
use Rattle.mq_run.specs.declared.reporting.Form.{Form}
use Rattle.mq_run.specs.Ends.{DidAll, LeftEnds, RanOn, NoneEnds, NoneLeft, RunEnds, RunLeaves, StepsEnd, WholeEnds, left}
use Rattle.mq_run.specs.Leaves.{AreKnownImages, AreTimed, left_of, stands_at_rest}
use Rattle.mq_story.specs.Spots.{AreRising}

-- The run, with the histories that it had and has.
pub record Run (s : Scenario) (gs hs : List History) (w0 w1 : ℕ → Option ℕ) : Type 0 where
  pub carried : AreCarried s hs
  pub before : AreHistories s gs
  pub now : AreHistories s hs
  pub undone : (m : ℕ) → entries_at gs m ≡ []
  pub known : AreKnownImages hs
  pub whole : List Step
  pub rest : List Step
  pub marks : ℕ → List Mark
  pub tasks : List Task
  pub stands : Stands (net_of s gs) whole rest marks (net_of s hs) tasks
  pub steps : (xs : List History) → Has s xs (course_of s gs w0) (course_of s hs w1) → AreSteps s xs

has : (s : Scenario) (gs hs : List History) (w0 w1 : ℕ → Option ℕ) → Run s gs hs w0 w1 → Has s hs (course_of s gs w0) (course_of s hs w1)
has s gs hs w0 w1 r = histories_have s gs hs w0 w1 (same_begun s gs hs r.whole r.rest r.marks r.tasks r.stands) r.undone

pub ran_on : (s : Scenario) (gs hs : List History) (w0 w1 : ℕ → Option ℕ) → Run s gs hs w0 w1 → ((xs : List History) → Has s xs (course_of s gs w0) (course_of s hs w1) → AreCarriedSoFar s xs) → RanOn s gs (left s hs)
ran_on s gs hs w0 w1 r carried =
    let same = same_begun s gs hs r.whole r.rest r.marks r.tasks r.stands in
    record {
      scenario = refl;
      histories = r.now;
      lawful = lawfuls.lawful s hs r.now r.carried (r.steps hs (has s gs hs w0 w1 r));
      carried = carried hs (has s gs hs w0 w1 r);
      begins = begins_as s gs hs same;
      known = r.known;
      apart = sym (same_apart s gs hs (r.before.all ∙ sym r.now.all) same);
    }

-- ---- as the code has them

same_run : {T : Type 0} (r : Result T Stop) (w w1 : RestState) (n0 n1 : NetState) → Starts w n0 → w1 ≡ rest_of n1.scenario n1.nodes → Ran r (course_in n0) (course_in n1) → w1.scenario ≡ w.scenario
same_run r w w1 n0 n1 start rest ran =
    ap (λ (x : RestState). x.scenario) rest ∙ same_scenario (course_in n0).net (course_in n1).net ran.whole ran.rest (course_in n1).marks ran.tasks ran.stands ∙ start.scenario

first_course : (w : RestState) (n0 : NetState) → Starts w n0 → course_in n0 ≡ course_of w.scenario w.histories (waits_in n0)
first_course w n0 start = λ i. course_of (start.scenario i) (start.histories i) (waits_in n0)

last_course : (w w1 : RestState) (n1 : NetState) → w1 ≡ rest_of n1.scenario n1.nodes → w1.scenario ≡ w.scenario → course_in n1 ≡ course_of w.scenario w1.histories (waits_in n1)
last_course w w1 n1 rest same = λ i. course_of ((sym (ap (λ (x : RestState). x.scenario) rest) ∙ same) i) (ap (λ (x : RestState). x.histories) (sym rest) i) (waits_in n1)

the_run : (r : Result (Unit {0}) Stop) (w w1 : RestState) (n0 n1 : NetState) → IsRested w → IsFresh w → IsRested w1 → w1.scenario ≡ w.scenario
    → (c : Course) → c ≡ course_of w.scenario w.histories (waits_in n0) → (d : Course) → d ≡ course_of w.scenario w1.histories (waits_in n1)
    → Ran r c d → ((xs : List History) → Has w.scenario xs c d → AreSteps w.scenario xs)
    → Run w.scenario w.histories w1.histories (waits_in n0) (waits_in n1)
the_run r w w1 n0 n1 rested fresh rests same c begun d ended ran steps =
    let at : Ran r (course_of w.scenario w.histories (waits_in n0)) (course_of w.scenario w1.histories (waits_in n1)) = subst (λ (x : Course). Ran r x (course_of w.scenario w1.histories (waits_in n1))) begun (subst (Ran r c) ended ran) in
    record {
      carried = subst (λ (s : Scenario). AreCarried s w1.histories) same rests.carried;
      before = joins.histories w rested;
      now = subst (λ (s : Scenario). AreHistories s w1.histories) same (joins.histories w1 rests);
      undone = joins.nothing_done w fresh;
      known = joins.knows w1 rests;
      whole = at.whole;
      rest = at.rest;
      marks = (course_of w.scenario w1.histories (waits_in n1)).marks;
      tasks = at.tasks;
      stands = at.stands;
      steps = λ xs h. steps xs (subst (λ (x : Course). Has w.scenario xs x d) (sym begun) (subst (Has w.scenario xs (course_of w.scenario w.histories (waits_in n0))) (sym ended) h));
    }

left_at : (s : Scenario) (w1 : RestState) → w1.scenario ≡ s → left s w1.histories ≡ left_of w1
left_at s w1 same = λ i. record { scenario = sym same i; histories = w1.histories }

at_scenario : (P : Scenario → List History → Type 0) (w : RestState) (s : Scenario) (c d : Course) → w.scenario ≡ s → ((xs : List History) → Has s xs c d → P s xs) → (xs : List History) → Has w.scenario xs c d → P w.scenario xs
at_scenario P w s c d same steps xs h = subst (λ (x : Scenario). P x xs) (sym same) (steps xs (subst (λ (x : Scenario). Has x xs c d) same h))

-- of histories that have what was done between these courses
at_courses : (P : List History → Type 0) (s : Scenario) (c d c1 d1 : Course) → c ≡ c1 → d ≡ d1 → ((xs : List History) → Has s xs c d → P xs) → (xs : List History) → Has s xs c1 d1 → P xs
at_courses P s c d c1 d1 begun ended f xs h = f xs (subst (λ (x : Course). Has s xs x d) (sym begun) (subst (Has s xs c1) (sym ended) h))

-- what the steps did
pub steps_ran : (r : Result (Unit {0}) Stop) (s : Scenario) (w w1 : RestState) (n0 n1 : NetState) → w.scenario ≡ s → IsRested w → IsFresh w → Starts w n0 → w1 ≡ rest_of n1.scenario n1.nodes → IsRested w1 → Ran r (course_in n0) (course_in n1)
    → ((xs : List History) → Has s xs (course_in n0) (course_in n1) → AreSteps s xs) → ((xs : List History) → Has s xs (course_in n0) (course_in n1) → AreCarriedSoFar s xs) → RanOn s w.histories (left_of w1)
steps_ran r s w w1 n0 n1 is rested fresh start rest rests ran steps carried =
    let same = same_run r w w1 n0 n1 start rest ran in
    subst (λ (x : Scenario). RanOn x w.histories (left_of w1)) is
    (subst (RanOn w.scenario w.histories) (left_at w.scenario w1 same)
    (ran_on w.scenario w.histories w1.histories (waits_in n0) (waits_in n1)
    (the_run r w w1 n0 n1 rested fresh rests same (course_in n0) (first_course w n0 start) (course_in n1) (last_course w w1 n1 rest same) ran (at_scenario AreSteps w s (course_in n0) (course_in n1) is steps))
    (at_courses (AreCarriedSoFar w.scenario) w.scenario (course_in n0) (course_in n1) (course_of w.scenario w.histories (waits_in n0)) (course_of w.scenario w1.histories (waits_in n1)) (first_course w n0 start) (last_course w w1 n1 rest same)
    (at_scenario AreCarriedSoFar w s (course_in n0) (course_in n1) is carried))))

steps_spent : (w1 : RestState) (n1 : NetState) → w1 ≡ rest_of n1.scenario n1.nodes → (m : ℕ) → is_spent (entries_at (histories_in n1) m) ≡ true → is_spent (entries_at w1.histories m) ≡ true
steps_spent w1 n1 rest m e = ap (λ (x : RestState). is_spent (entries_at x.histories m)) rest ∙ e

-- and whether all were done
steps_done : (w w1 : RestState) (n0 n1 : NetState) → IsRested w → IsFresh w → Starts w n0 → w1 ≡ rest_of n1.scenario n1.nodes → IsRested w1 → Ran {T = Unit {0}} (Ok tt) (course_in n0) (course_in n1)
    → ((xs : List History) → Has w.scenario xs (course_in n0) (course_in n1) → AreSteps w.scenario xs)
    → ((xs : List History) → Has w.scenario xs (course_in n0) (course_in n1) → IsDone w.scenario xs) → IsDone w1.scenario w1.histories
steps_done w w1 n0 n1 rested fresh start rest rests ran steps all =
    let same = same_run (Ok tt) w w1 n0 n1 start rest ran in
    let x = the_run (Ok tt) w w1 n0 n1 rested fresh rests same (course_in n0) (first_course w n0 start) (course_in n1) (last_course w w1 n1 rest same) ran steps in
    subst (λ (s : Scenario). IsDone s w1.histories) (sym same)
    (all w1.histories (subst (λ (c : Course). Has w.scenario w1.histories c (course_in n1)) (sym (first_course w n0 start))
    (subst (Has w.scenario w1.histories (course_of w.scenario w.histories (waits_in n0))) (sym (last_course w w1 n1 rest same))
    (has w.scenario w.histories w1.histories (waits_in n0) (waits_in n1) x))))

pub steps_end : (r : Result (Unit {0}) Stop) (s : Scenario) (w w1 : RestState) (n0 n1 : NetState) → w.scenario ≡ s → IsRested w → IsFresh w → Starts w n0 → w1 ≡ rest_of n1.scenario n1.nodes → IsRested w1 → Ran r (course_in n0) (course_in n1)
    → ((xs : List History) → Has s xs (course_in n0) (course_in n1) → AreSteps s xs)
    → OnOk r ((xs : List History) → Has s xs (course_in n0) (course_in n1) → IsDone s xs) → StepsEnd r (left_of w1)
steps_end (Ok done) s w w1 n0 n1 is rested fresh start rest rests ran steps all =
    steps_done w w1 n0 n1 rested fresh start rest rests ran (at_scenario AreSteps w s (course_in n0) (course_in n1) is steps)
    (λ xs h. subst (λ (x : Scenario). IsDone x xs) (sym is) (all xs (subst (λ (x : Scenario). Has x xs (course_in n0) (course_in n1)) is h)))
steps_end (Err stops.NoMemory) s w w1 n0 n1 is rested fresh start rest rests ran steps all = tt
steps_end (Err (stops.Spent m)) s w w1 n0 n1 is rested fresh start rest rests ran steps all = steps_spent w1 n1 rest m ran.ends

-- where the logs belong together
pub did_all : (s : Scenario) (gs : List History) (l : Left) → RanOn s gs l → apart s gs ≡ None → StepsEnd (Ok tt) l → DidAll l
did_all s gs l r e done = record { together = r.apart ∙ e; done = done }

pub opened_on : (s : Scenario) (gs : List History) (l : Left) → RanOn s gs l → AreTimed gs → AreOpened l.histories
opened_on s gs l r f = lawfuls.each_there IsOpened l.histories (λ m h e.
    let b = r.begins m h e in
    record { image = (r.known m h e).0; moment = subst (λ (n : ℕ). n ≤ last_moment) (ap (λ (n : Node). n.manager.moment) b.begins) (f m b.before b.is) })

pub timed : (tells : Type 0) (held : List ℕ → List ℕ → Type 0) (start : ℕ) (l : Left) → IsScenario l.scenario → AreHistories l.scenario l.histories → AreOpenings tells held start l → AreTimed l.histories
timed tells held start l s a o m h e =
    let (line, is) = lawfuls.opening tells held start l a o m h e in
    subst (λ (n : ℕ). n ≤ last_moment) (sym (ap (λ (n : Node). n.manager.moment) is.begins)) (lawfuls.moment_fits l.scenario.moment start s.moment)

-- the same run at the scenario itself
pub left_same : (s : Scenario) (l : Left) → l.scenario ≡ s → l ≡ left s l.histories
left_same s l same = λ i. record { scenario = same i; histories = l.histories }

few_managers : (n m : ℕ) → n ≡ m → m ≤ 8 → n < 256
few_managers n m e le = omega (arith, e, le)

-- what the end of a run asks of managers at rest
pub few : (s : Scenario) (w : RestState) → IsScenario s → w.scenario ≡ s → IsRested w → length w.histories < 256
few s w scenario same r = few_managers (length w.histories) (length s.managers) (r.histories ∙ ap (λ (x : Scenario). length x.managers) same) scenario.few.managers.1

pub rising : (w : RestState) → IsRested w → AreRising w.histories
rising w r = lawfuls.rise w.scenario w.histories (joins.histories w r)

pub stood : (s : Scenario) (w : RestState) → w.scenario ≡ s → IsRested w → stands_at_rest s w ≡ standing_left (left s w.histories)
stood s w same r = subst (λ (x : Scenario). stands_at_rest x w ≡ standing_left (left x w.histories)) same (joins.standing w r)

pub did_at : (s : Scenario) (w : RestState) → w.scenario ≡ s → DidAll (left_of w) → DidAll (left s w.histories)
did_at s w same did = subst (λ (x : Scenario). DidAll (left x w.histories)) same did

pub ends_at : (form : Form) (old new : Option (List ℕ)) (st : Status) (s : Scenario) (w : RestState) → w.scenario ≡ s → LeftEnds form old new st (left s w.histories) → LeftEnds form old new st (left_of w)
ends_at form old new st s w same ends = subst (λ (x : Scenario). LeftEnds form old new st (left x w.histories)) (sym same) ends

-- what is left where the run was begun with these openings
pub leaves : (tells : Type 0) (held : List ℕ → List ℕ → Type 0) (start : ℕ) (s : Scenario) (gs : List History) (counts : List ℕ) (l : Left) → AreOpenings tells held start (left s gs) → RanOn s gs l → counts ≡ [] → RestartsAreOwn tells l → RunLeaves tells held start s counts l
leaves tells held start s gs counts l o r none own = record {
  scenario = r.scenario;
  openings = alike tells held start l.scenario gs l.histories r.begins r.known (subst (λ (x : Scenario). AreOpenings tells held start (left x gs)) (sym r.scenario) o);
  histories = r.histories;
  lawful = r.lawful;
  carried = r.carried;
  none = none;
  own = own;
}

begun_openings : (tells : Type 0) (held : Held) (s : Scenario) (start : ℕ) (w : RestState) → IsRested w → Began tells held s (moment_or s.moment start) w → AreOpenings tells held start (left s w.histories)
begun_openings tells held s start w r b = subst (λ (x : Scenario). AreOpenings tells held start (left x w.histories)) b.scenario (joins.openings tells held s start w r b)

-- the moments of managers that have just begun
pub begun_timed : (tells : Type 0) (held : Held) (s : Scenario) (start : ℕ) (w : RestState) → IsScenario s → IsRested w → Began tells held s (moment_or s.moment start) w → AreTimed w.histories
begun_timed tells held s start w scenario r b = timed tells held start (left_of w) (subst IsScenario (sym b.scenario) scenario) (joins.histories w r) (joins.openings tells held s start w r b)

-- by status
spent_ends : (form : Form) (old new : Option (List ℕ)) (l : Left) (m : ℕ) → apart l.scenario l.histories ≡ None → is_spent (entries_at l.histories m) ≡ true → Keeps old new → LeftEnds form old new (status.Spent m) l
spent_ends form old new l m together spent kept = (together, spent, kept)

pub whole_stopped : (form : Form) (old new : Option (List ℕ)) (s : Scenario) (gs : List History) (l : Left) (stop : Stop) → RanOn s gs l → apart s gs ≡ None → StepsEnd (Err stop) l → Keeps old new → WholeEnds form old new s gs (stop_status stop) (Some l)
whole_stopped form old new s gs l stops.NoMemory r e spent kept = (r, kept)
whole_stopped form old new s gs l (stops.Spent m) r e spent kept = (r, spent_ends form old new l m (r.apart ∙ e) spent kept)

pub whole_did : (form : Form) (old new : Option (List ℕ)) (s : Scenario) (gs : List History) (st : Status) (l : Left) → RanOn s gs l → LeftEnds form old new st l → WholeEnds form old new s gs st (Some l)
whole_did form old new s gs st l r ends = (r, ends)

-- of a run over managers that have begun
begun_leaves : (tells : Type 0) (held : Held) (start : ℕ) (s : Scenario) (w : RestState) (counts : List ℕ) (l : Left) → IsRested w → Began tells held s (moment_or s.moment start) w → counts ≡ [] → RanOn s w.histories l → RestartsAreOwn tells l → RunLeaves tells held start s counts l
begun_leaves tells held start s w counts l r b none ran own = leaves tells held start s w.histories counts l (begun_openings tells held s start w r b) ran none own

ran_none : (tells : Type 0) (held : Held) (moment : ℕ) (s : Scenario) (w : RestState) → IsRested w → Began tells held s moment w → RanOn s w.histories (left_of w)
ran_none tells held moment s w r b = subst (λ (x : Scenario). RanOn x w.histories (left_of w)) b.scenario (joins.ran_none w r (joins.fresh tells held s moment w r b))

pub run_whole : (form : Form) (tells : Type 0) (held : Held) (start : ℕ) (s : Scenario) (w : RestState) (before now : ℕ) (old new : Option (List ℕ)) (st : Status) (counts : List ℕ) (o : Option Left)
    → IsRested w → Began tells held s (moment_or s.moment start) w → counts ≡ [] → WholeEnds form old new s w.histories st o → IfSome o (RestartsAreOwn tells) → RunEnds form tells held start s before now old new st o counts
run_whole form tells held start s w before now old new st counts None r b none ends own = absurd ends
run_whole form tells held start s w before now old new st counts (Some l) r b none ends own = (begun_leaves tells held start s w counts l r b none ends.0 own, ends.1)

pub run_apart : (form : Form) (tells : Type 0) (held : Held) (start : ℕ) (s : Scenario) (w : RestState) (before now : ℕ) (old new : Option (List ℕ)) (counts : List ℕ) (found : Apart)
    → IsRested w → Began tells held s (moment_or s.moment start) w → counts ≡ [] → apart s w.histories ≡ Some found → Keeps old new → RunEnds form tells held start s before now old new (status.Apart found) (Some (left_of w)) counts
run_apart form tells held start s w before now old new counts found r b none is kept =
    let ran = ran_none tells held (moment_or s.moment start) s w r b in
    (begun_leaves tells held start s w counts (left_of w) r b none ran (begun_own tells w (joins.fresh tells held s (moment_or s.moment start) w r b)), (ran.apart ∙ is, joins.nothing_done w (joins.fresh tells held s (moment_or s.moment start) w r b), kept))

none_left : (tells : Type 0) (held : Held) (start : ℕ) (s : Scenario) (before now : ℕ) (counts : List ℕ) (fault : NetFault) → NotBegan tells held (moment_or s.moment start) s.managers before now counts fault → NoneLeft tells held start s before now counts fault
none_left tells held start s before now counts fault h = subst (λ (n : ℕ). NotBegan tells held n s.managers before now counts fault) (joins.first_is s.moment start) h

none_ends : (tells : Type 0) (held : Held) (start : ℕ) (s : Scenario) (before now : ℕ) (counts : List ℕ) (fault : NetFault) → NotBegan tells held (moment_or s.moment start) s.managers before now counts fault → NoneEnds tells held start s before now counts (net_status fault)
none_ends tells held start s before now counts faults.DiskFault h = none_left tells held start s before now counts faults.DiskFault h
none_ends tells held start s before now counts (faults.BadLog m gate) h = none_left tells held start s before now counts (faults.BadLog m gate) h
none_ends tells held start s before now counts faults.NoMemory h = none_left tells held start s before now counts faults.NoMemory h

-- where none have
pub run_none : (form : Form) (tells : Type 0) (held : Held) (start : ℕ) (s : Scenario) (before now : ℕ) (old new : Option (List ℕ)) (counts : List ℕ) (fault : NetFault)
    → NotBegan tells held (moment_or s.moment start) s.managers before now counts fault → Keeps old new → RunEnds form tells held start s before now old new (net_status fault) None counts
run_none form tells held start s before now old new counts fault h kept = (none_ends tells held start s before now counts fault h, kept)

-- as the code has them: a status, and the managers at rest
pub stays : (old : Option (List ℕ)) → Keeps old old
stays None = tt
stays (Some xs) = refl

pub whole_at : (form : Form) (old new : Option (List ℕ)) (s : Scenario) (gs : List History) (w : RestState) (st is : Status) (net : Option RestState) → st ≡ is → net ≡ Some w → WholeEnds form old new s gs is (Some (left_of w)) → WholeEnds form old new s gs st (option_map left_of net)
whole_at form old new s gs w st is net e f h =
    subst (λ (x : Status). WholeEnds form old new s gs x (option_map left_of net)) (sym e) (subst (λ (x : Option RestState). WholeEnds form old new s gs is (option_map left_of x)) (sym f) h)

pub run_at : (form : Form) (tells : Type 0) (held : Held) (start : ℕ) (s : Scenario) (before now : ℕ) (old new : Option (List ℕ)) (w : RestState) (st is : Status) (net : Option RestState) (counts : List ℕ) → st ≡ is → net ≡ Some w
    → RunEnds form tells held start s before now old new is (Some (left_of w)) counts → RunEnds form tells held start s before now old new st (option_map left_of net) counts
run_at form tells held start s before now old new w st is net counts e f h =
    subst (λ (x : Status). RunEnds form tells held start s before now old new x (option_map left_of net) counts) (sym e) (subst (λ (x : Option RestState). RunEnds form tells held start s before now old new is (option_map left_of x) counts) (sym f) h)

-- what the check of its logs asks
pub few_cables : (s : Scenario) → IsScenario s → length s.cables ≤ 65536
few_cables s scenario = let few = scenario.few.cables in omega (arith, few)

pub stop_no_write : {A : Type 0} (stop : Stop) (n : ℕ) → stop_status stop ≡ status.WriteFault n → A
stop_no_write stops.NoMemory n e = absurd cc
stop_no_write (stops.Spent m) n e = absurd cc

-- such a status is no write that failed
pub net_no_write : {A : Type 0} (fault : NetFault) (n : ℕ) → net_status fault ≡ status.WriteFault n → A
net_no_write faults.DiskFault n e = absurd cc
net_no_write (faults.BadLog m gate) n e = absurd cc
net_no_write faults.NoMemory n e = absurd cc
