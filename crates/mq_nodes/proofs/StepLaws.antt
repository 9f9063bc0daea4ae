-- Steps in a loop, and the last restarts.
use Rattle.std.specs.Prelude.{◌≡◌, ◌<◌, ◌≤◌, ◌+◌, ℕ, zero, suc, Bool, true, false, List, [], ◌∷◌, ◌++◌, Some, Result, Ok, Err, length, take, drop, slice_get, refl}
use Rattle.std.proofs.Common.{ap, subst, sym, arith, append-nil, inl, inr, ◌∙◌}
use Rattle.mq_history.specs.declared.acts.Act.TheVariants as acts
use Rattle.mq_history.specs.declared.calls.Actor.{Actor}
use Rattle.mq_history.specs.declared.calls.Actor.TheVariants as actors
use Rattle.mq_history.specs.declared.calls.Call.{Call}
use Rattle.mq_history.specs.declared.calls.Call.TheVariants as calls
use Rattle.mq_history.specs.declared.calls.Entry.{Entry}
use Rattle.mq_history.specs.declared.history.History.{History}
use Rattle.mq_history.specs.declared.history.Mark.{Mark}
use Rattle.mq_history.specs.declared.scenario.ManagerLine.{ManagerLine}
use Rattle.mq_history.specs.declared.scenario.Scenario.{Scenario}
use Rattle.mq_history.specs.declared.scenario.Step.{Step}
use Rattle.mq_spec_network.specs.Turns.{Network, node_at, is_up_at}
use Rattle.mq_spec_network.specs.Tasks.{Task, tasks_of, tasks_next, restarts_from}
use Rattle.mq_spec_network.specs.Tasks.Task.{Ask, Restart}
use Rattle.mq_spec_network.specs.Steps.{Goes, Is, is_cut, once_more}
use Rattle.mq_spec_network.specs.Lawful.{Went, Stands, IsFar, AreSteps, IsDone, ends_idle, mark_of}
use Rattle.mq_spec_network.specs.Lawful.Went.{begins as went_begins, ends as went_ends}
use Rattle.mq_spec_network.proofs.Standing.{starts, goes_on, marked}
use Rattle.mq_nodes.specs.declared.nodes.Stop.{Stop}
use Rattle.mq_nodes.specs.declared.nodes.Stop.TheVariants as stops
use Rattle.mq_nodes.specs.Course.{Course, Ready, Rests, noted}
use Rattle.mq_nodes.specs.Told.{Broke, Does, Says, Part, Ran, Has, Onward}
use Rattle.mq_nodes.specs.Runs.{Unmarked, AllWhole, never_idle}
use Rattle.mq_nodes.proofs.Onward.{begin, moved, broke, passed, unframed, behind, stopped, whole, of_part, same_scenario}
use Rattle.mq_nodes.proofs.Asking.{at_place, none_left, same_value}
use Rattle.mq_nodes.proofs.LineLaws.{fits_too}

-- One event that is asked for.
pub asked : {T : Type 0} (m : ℕ) (actor : Actor) (call : Call) (r : Result T Stop) (c d : Course) → Ready c.net → Does (Is m actor call) r c d → Part (Ask m actor call ∷ []) r c d
asked m actor call (Ok x) c d ready (did, ready_then) = whole (Ask m actor call ∷ []) c d x (moved (Ask m actor call ∷ []) (Ask m actor call) [] c c d (begin (Ask m actor call ∷ []) c ready) did ready_then)
asked m actor call (Err stop) c d ready b = broke (Ask m actor call ∷ []) (Ask m actor call) [] c c d stop (begin (Ask m actor call ∷ []) c ready) b

-- The answer of a step that is never idle.
pub never : (ts : List Task) (r : Result (Unit {0}) Stop) (c d : Course) → Part ts r c d → Part ts (never_idle r) c d
never ts (Ok x) c d p = record { left = p.left; goes = p.goes; marks = p.marks; ends = p.ends }
never ts (Err stops.NoMemory) c d p = record { left = p.left; goes = p.goes; marks = p.marks; ends = p.ends }
never ts (Err (stops.Spent m)) c d p = record { left = p.left; goes = p.goes; marks = p.marks; ends = p.ends }

abbrev AnswersCut : ℕ → Bool → ℕ → Entry → Type 0
AnswersCut m cut n e = Is m actors.Operator (calls.Act acts.Restart) n e × (is_cut e.reply ≡ cut)

is_restart : (m : ℕ) (cut : Bool) (n : ℕ) (e : Entry) → AnswersCut m cut n e → Is m actors.Operator (calls.Act acts.Restart) n e
is_restart m cut n e h = h.0

is_last_restart : (m : ℕ) (cut : Bool) (w : Network) → is_up_at (node_at w m) ≡ false → (n : ℕ) (e : Entry) → AnswersCut m cut n e → (is_up_at (node_at w m) ≡ false) × Is m actors.Operator (calls.Act acts.Restart) n e
is_last_restart m cut w down n e h = (down, h.0)

-- A restart, once more where a cut stopped it.
restarting : (m : ℕ) (cut : Bool) (c d : Course) → Ready c.net → is_up_at (node_at c.net m) ≡ false → Says (Is m actors.Operator (calls.Act acts.Restart)) (λ (x : Bool) (e : Entry). is_cut e.reply ≡ x) (Ok cut) c d
    → Onward (Restart m ∷ []) (once_more m cut) c d
restarting m cut c d ready down (x, ready_then) =
    subst (λ (b : Bool). Onward (Restart m ∷ []) (once_more m b) c d) x.fits.1
    (unframed (Restart m ∷ []) (once_more m (is_cut x.entry.reply)) c d
    (moved (Restart m ∷ []) (Restart m) [] c c d (begin (Restart m ∷ []) c ready) (fits_too c d (is_last_restart m cut c.net down) x) ready_then))

pub restarted : (m : ℕ) (cut : Bool) (c d : Course) → Ready c.net → is_up_at (node_at c.net m) ≡ false → cut ≡ false → Says (Is m actors.Operator (calls.Act acts.Restart)) (λ (x : Bool) (e : Entry). is_cut e.reply ≡ x) (Ok cut) c d
    → Part {T = Unit {0}} (Restart m ∷ []) (Ok tt) c d
restarted m cut c d ready down not_cut told = whole (Restart m ∷ []) c d tt (subst (λ (b : Bool). Onward (Restart m ∷ []) (once_more m b) c d) not_cut (restarting m cut c d ready down told))

pub restarted_twice : (m : ℕ) (cut again : Bool) (c d e : Course) → Ready c.net → is_up_at (node_at c.net m) ≡ false → cut ≡ true → Says (Is m actors.Operator (calls.Act acts.Restart)) (λ (x : Bool) (e : Entry). is_cut e.reply ≡ x) (Ok cut) c d
    → Says (Is m actors.Operator (calls.Act acts.Restart)) (λ (x : Bool) (f : Entry). is_cut f.reply ≡ x) (Ok again) d e → Part {T = Unit {0}} (Restart m ∷ []) (Ok tt) c e
restarted_twice m cut again c d e ready down is told (x, ready_then) =
    whole (Restart m ∷ []) c e tt
    (moved (Restart m ∷ []) (Ask m actors.Operator (calls.Act acts.Restart)) [] c d e (subst (λ (b : Bool). Onward (Restart m ∷ []) (once_more m b) c d) is (restarting m cut c d ready down told)) (fits_too d e (is_restart m again) x) ready_then)

pub restart_breaks : (m : ℕ) (c d : Course) (stop : Stop) → Ready c.net → is_up_at (node_at c.net m) ≡ false → Broke (Is m actors.Operator (calls.Act acts.Restart)) stop c d → Part {T = Unit {0}} (Restart m ∷ []) (Err stop) c d
restart_breaks m c d stop ready down b = broke (Restart m ∷ []) (Restart m) [] c c d stop (begin (Restart m ∷ []) c ready) (too stop b)
  where
    too : (s : Stop) → Broke (Is m actors.Operator (calls.Act acts.Restart)) s c d → Broke (λ n e. (is_up_at (node_at c.net m) ≡ false) × Is m actors.Operator (calls.Act acts.Restart) n e) s c d
    too stops.NoMemory (inl same) = inl same
    too stops.NoMemory (inr x) = inr (fits_too c d (λ n e h. (down, h)) x)
    too (stops.Spent k) (x, spent) = (fits_too c d (λ n e h. (down, h)) x, spent)

pub second_breaks : (m : ℕ) (cut : Bool) (c d e : Course) (stop : Stop) → Ready c.net → is_up_at (node_at c.net m) ≡ false → cut ≡ true → Says (Is m actors.Operator (calls.Act acts.Restart)) (λ (x : Bool) (f : Entry). is_cut f.reply ≡ x) (Ok cut) c d
    → Broke (Is m actors.Operator (calls.Act acts.Restart)) stop d e → Part {T = Unit {0}} (Restart m ∷ []) (Err stop) c e
second_breaks m cut c d e stop ready down is told b =
    broke (Restart m ∷ []) (Ask m actors.Operator (calls.Act acts.Restart)) [] c d e stop (subst (λ (x : Bool). Onward (Restart m ∷ []) (once_more m x) c d) is (restarting m cut c d ready down told)) b

pub stays_up : (m : ℕ) (c : Course) → Ready c.net → is_up_at (node_at c.net m) ≡ true → Part {T = Unit {0}} (Restart m ∷ []) (Ok tt) c c
stays_up m c ready up = whole (Restart m ∷ []) c c tt (passed (Restart m ∷ []) (Restart m) [] [] c c (begin (Restart m ∷ []) c ready) (up, refl))

pub asked_once : (m : ℕ) (r : Result Bool Stop) (c d : Course) → Ready c.net → Says (Is m actors.Operator (calls.Act acts.Restart)) (λ (x : Bool) (f : Entry). is_cut f.reply ≡ x) r c d → Part {T = Bool} (Ask m actors.Operator (calls.Act acts.Restart) ∷ []) r c d
asked_once m (Ok cut) c d ready (x, ready_then) = asked m actors.Operator (calls.Act acts.Restart) (Ok cut) c d ready (fits_too c d (is_restart m cut) x, ready_then)
asked_once m (Err stop) c d ready b = asked m actors.Operator (calls.Act acts.Restart) (Err stop) c d ready b

-- The last restarts in a loop.
pub record Restarting (i end : ℕ) (c d : Course) : Type 0 where
  pub on : Onward (restarts_from 0 c.net.scenario.managers) (restarts_from i (drop i c.net.scenario.managers)) c d
  pub upto : end ≡ length c.net.scenario.managers

pub restarts_begin : (end : ℕ) (c : Course) → Ready c.net → end ≡ length c.net.scenario.managers → Restarting 0 end c c
restarts_begin end c ready upto = record { on = begin (restarts_from 0 c.net.scenario.managers) c ready; upto = upto }

restart_next : (i end : ℕ) (c d : Course) → i < end → Restarting i end c d → Onward (restarts_from 0 c.net.scenario.managers) ((Restart i ∷ []) ++ restarts_from (suc i) (drop (suc i) c.net.scenario.managers)) c d
restart_next i end c d lt h =
    let (l, is, unrolled) = at_place c.net.scenario.managers i (subst (λ (x : ℕ). i < x) h.upto lt) in
    subst (λ (ls : List ManagerLine). Onward (restarts_from 0 c.net.scenario.managers) (restarts_from i ls) c d) unrolled h.on

pub restarts_go_on : (i end : ℕ) (c d e : Course) (done : Unit {0}) → i < end → Restarting i end c d → Part (Restart i ∷ []) (Ok done) d e → Restarting (i + 1) end c e
restarts_go_on i end c d e done lt h part = record {
  on = subst (λ (n : ℕ). Onward (restarts_from 0 c.net.scenario.managers) (restarts_from n (drop n c.net.scenario.managers)) c e) (up i)
      (behind (restarts_from 0 c.net.scenario.managers) (Restart i ∷ []) [] (restarts_from (suc i) (drop (suc i) c.net.scenario.managers)) c d e (restart_next i end c d lt h) (of_part (Restart i ∷ []) d e done part));
  upto = h.upto;
} where
  up : (n : ℕ) → suc n ≡ n + 1
  up n = omega arith

pub restarts_break : (i end : ℕ) (c d e : Course) (stop : Stop) → i < end → Restarting i end c d → Part {T = Unit {0}} (Restart i ∷ []) (Err stop) d e → Part {T = Unit {0}} (restarts_from 0 c.net.scenario.managers) (Err stop) c e
restarts_break i end c d e stop lt h part = stopped (restarts_from 0 c.net.scenario.managers) (Restart i ∷ []) (restarts_from (suc i) (drop (suc i) c.net.scenario.managers)) c d e stop (restart_next i end c d lt h) part

pub restarts_end : (i end : ℕ) (c d : Course) → end ≤ i → Restarting i end c d → Part {T = Unit {0}} (restarts_from 0 c.net.scenario.managers) (Ok tt) c d
restarts_end i end c d le h = whole (restarts_from 0 c.net.scenario.managers) c d tt
    (subst (λ (ls : List ManagerLine). Onward (restarts_from 0 c.net.scenario.managers) (restarts_from i ls) c d) (none_left c.net.scenario.managers i (subst (λ (x : ℕ). x ≤ i) h.upto le)) h.on)

-- Steps in a loop.
pub record Stepping (i : ℕ) (c d : Course) : Type 0 where
  pub stands : Stands c.net (take i c.net.scenario.steps) (drop i c.net.scenario.steps) d.marks d.net (tasks_next d.net (drop i c.net.scenario.steps))
  pub ready : Ready d.net
  pub rests : Rests d
  pub same : d.net.scenario ≡ c.net.scenario

pub steps_begin : (c : Course) → Ready c.net → Rests c → Unmarked c → Stepping 0 c c
steps_begin c ready rests none = record {
  stands = subst (λ (marks : ℕ → List Mark). Stands c.net [] c.net.scenario.steps marks c.net (tasks_next c.net c.net.scenario.steps)) (λ i m. sym (none m) i) (starts c.net);
  ready = ready;
  rests = rests;
  same = refl;
}

take_more : (xs : List Step) (i : ℕ) (x : Step) → slice_get xs i ≡ Some x → take i xs ++ x ∷ [] ≡ take (suc i) xs
take_more [] zero x h = absurd cc
take_more [] (suc i) x h = absurd cc
take_more (y ∷ xs) zero x h = ap (λ (z : Step). z ∷ []) (same_value x y (sym h))
take_more (y ∷ xs) (suc i) x h = ap (λ (zs : List Step). y ∷ zs) (take_more xs i x h)

drop_at : (xs : List Step) (i : ℕ) (x : Step) → slice_get xs i ≡ Some x → drop i xs ≡ x ∷ drop (suc i) xs
drop_at [] zero x h = absurd cc
drop_at [] (suc i) x h = absurd cc
drop_at (y ∷ xs) zero x h = ap (λ (z : Step). z ∷ xs) (same_value y x h)
drop_at (y ∷ xs) (suc i) x h = drop_at xs i x h

-- the step that comes is all that is left of it
stands_at : (i : ℕ) (c d : Course) (step : Step) → slice_get c.net.scenario.steps i ≡ Some step → Stepping i c d → Stands c.net (take i c.net.scenario.steps) (step ∷ drop (suc i) c.net.scenario.steps) d.marks d.net (tasks_of d.net step)
stands_at i c d step known h =
    subst (λ (rest : List Step). Stands c.net (take i c.net.scenario.steps) rest d.marks d.net (tasks_next d.net rest)) (drop_at c.net.scenario.steps i step known) h.stands

-- so much is noted
as_many : {w0 : Network} {whole : List Step} {marks : ℕ → List Mark} {w : Network} → Went w0 whole marks w → (m : ℕ) → length (marks m) ≡ length whole
as_many went_begins m = refl
as_many (went_ends whole marks before w step h g s) m = one_longer (marks m) (mark_of w step m) ∙ ap suc (as_many h m) ∙ sym (one_longer whole step)
  where
    one_longer : {A : Type 0} (xs : List A) (x : A) → length (xs ++ x ∷ []) ≡ suc (length xs)
    one_longer [] x = refl
    one_longer (y ∷ xs) x = ap suc (one_longer xs x)

length_take : (xs : List Step) (i : ℕ) → i < length xs → length (take i xs) ≡ i
length_take [] i lt = absurd (nothing i lt)
  where
    nothing : (i : ℕ) → i < 0 → ⊥
    nothing i h = omega arith
length_take (x ∷ xs) zero lt = refl
length_take (x ∷ xs) (suc i) lt = ap suc (length_take xs i (omega arith))

pub room : (i : ℕ) (c d e : Course) (step : Step) (ts : List Task) (idle : Bool) → i < length c.net.scenario.steps → Stepping i c d → Part ts (Ok idle) d e → e.net.scenario ≡ d.net.scenario → (m : ℕ) → length (e.marks m) < length e.net.scenario.steps
room i c d e step ts idle lt h part same m =
    subst (λ (n : ℕ). n < length e.net.scenario.steps) (sym (ap (λ (f : ℕ → List Mark). length (f m)) part.marks ∙ as_many h.stands.went m ∙ length_take c.net.scenario.steps i lt))
    (subst (λ (s : Scenario). i < length s.steps) (sym (same ∙ h.same)) lt)

-- a step is whole, and noted
pub steps_go_on : (i : ℕ) (c d e f : Course) (step : Step) (idle : Bool) → slice_get c.net.scenario.steps i ≡ Some step → Stepping i c d → Part (tasks_of d.net step) (Ok idle) d e → idle ≡ ends_idle e.net step → f ≡ noted idle e → Stepping (i + 1) c f
steps_go_on i c d e f step idle known h part is after_mark =
    subst (λ (y : Course). Stepping (i + 1) c y) (sym after_mark)
    (subst (λ (n : ℕ). Stepping n c (noted idle e)) (up i) (record {
      stands = subst (λ (xs : List Step). Stands c.net xs (drop (suc i) c.net.scenario.steps) (noted idle e).marks e.net (tasks_next e.net (drop (suc i) c.net.scenario.steps))) (take_more c.net.scenario.steps i step known)
          (subst (λ (b : Bool). Stands c.net (take i c.net.scenario.steps ++ step ∷ []) (drop (suc i) c.net.scenario.steps) (noted b e).marks e.net (tasks_next e.net (drop (suc i) c.net.scenario.steps))) (sym is)
          (marked c.net e.net (take i c.net.scenario.steps) (drop (suc i) c.net.scenario.steps) step e.marks at_end ready.served));
      ready = ready;
      rests = part.ends.2 h.rests;
      same = same_scenario part.goes ∙ h.same;
    }))
  where
    up : (n : ℕ) → suc n ≡ n + 1
    up n = omega arith

    ready : Ready e.net
    ready = part.ends.1

    at_end : Stands c.net (take i c.net.scenario.steps) (step ∷ drop (suc i) c.net.scenario.steps) e.marks e.net []
    at_end = subst (λ (marks : ℕ → List Mark). Stands c.net (take i c.net.scenario.steps) (step ∷ drop (suc i) c.net.scenario.steps) marks e.net []) (sym part.marks)
        (goes_on c.net d.net e.net (take i c.net.scenario.steps) (step ∷ drop (suc i) c.net.scenario.steps) d.marks (tasks_of d.net step) [] (stands_at i c d step known h)
        (subst (λ (ts : List Task). Goes d.net (tasks_of d.net step) e.net ts) part.ends.0 part.goes))

-- A step breaks off.
ran_part : {T U : Type 0} (s : Stop) (c d e : Course) (whole rest : List Step) (ts : List Task) → Stands c.net whole rest d.marks d.net ts → Part {T = T} ts (Err s) d e → Ran {T = U} (Err s) c e
ran_part stops.NoMemory c d e whole rest ts h p = record {
  whole = whole;
  rest = rest;
  tasks = p.left;
  stands = subst (λ (marks : ℕ → List Mark). Stands c.net whole rest marks e.net p.left) (sym p.marks) (goes_on c.net d.net e.net whole rest d.marks ts p.left h p.goes);
  ends = tt;
}
ran_part (stops.Spent m) c d e whole rest ts h p = record {
  whole = whole;
  rest = rest;
  tasks = p.left;
  stands = subst (λ (marks : ℕ → List Mark). Stands c.net whole rest marks e.net p.left) (sym p.marks) (goes_on c.net d.net e.net whole rest d.marks ts p.left h p.goes);
  ends = p.ends;
}

pub step_breaks : (i : ℕ) (c d e : Course) (step : Step) (stop : Stop) → slice_get c.net.scenario.steps i ≡ Some step → Stepping i c d → Part {T = Bool} (tasks_of d.net step) (Err stop) d e → Ran {T = Unit {0}} (Err stop) c e
step_breaks i c d e step stop known h part = ran_part stop c d e (take i c.net.scenario.steps) (step ∷ drop (suc i) c.net.scenario.steps) (tasks_of d.net step) (stands_at i c d step known h) part

take_all : (xs : List Step) (i : ℕ) → length xs ≤ i → take i xs ≡ xs
take_all [] zero le = refl
take_all [] (suc i) le = refl
take_all (x ∷ xs) zero le = absurd (nothing (length xs) le)
  where
    nothing : (n : ℕ) → suc n ≤ 0 → ⊥
    nothing n h = omega arith
take_all (x ∷ xs) (suc i) le = ap (λ (zs : List Step). x ∷ zs) (take_all xs i (omega arith))

pub steps_end : (i : ℕ) (c d : Course) → length c.net.scenario.steps ≤ i → Stepping i c d → AllWhole c d
steps_end i c d le h = record {
  stands = subst (λ (xs : List Step). Stands c.net xs [] d.marks d.net (restarts_from 0 d.net.scenario.managers)) (take_all c.net.scenario.steps i le)
      (subst (λ (rest : List Step). Stands c.net (take i c.net.scenario.steps) rest d.marks d.net (tasks_next d.net rest)) (none_left c.net.scenario.steps i le) h.stands);
  ready = h.ready;
  rests = h.rests;
}

-- The whole run.
pub restarts_broke : (c d e : Course) (stop : Stop) → AllWhole c d → Part {T = Unit {0}} (restarts_from 0 d.net.scenario.managers) (Err stop) d e → Ran {T = Unit {0}} (Err stop) c e
restarts_broke c d e stop h part = ran_part stop c d e c.net.scenario.steps [] (restarts_from 0 d.net.scenario.managers) h.stands part

pub ran_all : (c d e : Course) (r : Result (Unit {0}) Stop) → AllWhole c d → Part (restarts_from 0 d.net.scenario.managers) r d e → Ran r c e
ran_all c d e (Err stop) h part = restarts_broke c d e stop h part
ran_all c d e (Ok done) h part = record {
  whole = c.net.scenario.steps;
  rest = [];
  tasks = [];
  stands = subst (λ (marks : ℕ → List Mark). Stands c.net c.net.scenario.steps [] marks e.net []) (sym part.marks)
      (goes_on c.net d.net e.net c.net.scenario.steps [] d.marks (restarts_from 0 d.net.scenario.managers) [] h.stands
      (subst (λ (ts : List Task). Goes d.net (restarts_from 0 d.net.scenario.managers) e.net ts) part.ends.0 part.goes));
  ends = (refl, refl, part.ends.1);
}

-- The histories that have it are lawful steps.
far : (s : Scenario) (hs : List History) (c d : Course) (whole rest : List Step) (tasks : List Task) → Has s hs c d → Stands c.net whole rest d.marks d.net tasks → IsFar s hs whole rest tasks
far s hs c d whole rest tasks has h = record {
  marks = d.marks;
  now = d.net;
  stands = subst (λ (w : Network). Stands w whole rest d.marks d.net tasks) has.begun h;
  entries = has.done;
  noted = has.noted;
}

pub are_steps : {T : Type 0} (s : Scenario) (hs : List History) (r : Result T Stop) (c d : Course) → Ran r c d → Has s hs c d → AreSteps s hs
are_steps s hs r c d h has = record { whole = h.whole; rest = h.rest; tasks = h.tasks; far = far s hs c d h.whole h.rest h.tasks has h.stands }

pub are_done : {T : Type 0} (s : Scenario) (hs : List History) (x : T) (c d : Course) → c.net.scenario ≡ s → Ran (Ok x) c d → Has s hs c d → IsDone s hs
are_done s hs x c d same h has = far s hs c d s.steps [] [] has (all h.ends.0 h.ends.1 h.stands)
  where
    all : h.rest ≡ [] → h.tasks ≡ [] → Stands c.net h.whole h.rest d.marks d.net h.tasks → Stands c.net s.steps [] d.marks d.net []
    all none no_task st =
        subst (λ (xs : List Step). Stands c.net xs [] d.marks d.net []) (sym (append-nil h.whole) ∙ ap (λ (xs : List Step). h.whole ++ xs) (sym none) ∙ sym st.parts ∙ ap (λ (x : Scenario). x.steps) same)
        (subst (λ (ts : List Task). Stands c.net h.whole [] d.marks d.net ts) no_task
        (subst (λ (xs : List Step). Stands c.net h.whole xs d.marks d.net h.tasks) none st))
