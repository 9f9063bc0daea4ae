-- What comes next of a step: tasks that fit go on fitting, and each script's entries stay its lines.
use Rattle.std.specs.Prelude.{◌≡◌, ℕ, zero, suc, Bool, true, false, List, [], ◌∷◌, ◌++◌, Option, Some, None, length, take, slice_get, refl}
use Rattle.std.proofs.Common.{ap, subst, sym, inl, inr, append_assoc, ◌∙◌}
use Rattle.mq_history.specs.declared.calls.Actor.{Actor}
use Rattle.mq_history.specs.declared.calls.Actor.TheVariants as actors
use Rattle.mq_history.specs.declared.calls.Call.{Call}
use Rattle.mq_history.specs.declared.calls.Entry.{Entry}
use Rattle.mq_history.specs.declared.history.History.{History}
use Rattle.mq_history.specs.declared.history.Mark.{Mark}
use Rattle.mq_history.specs.declared.scenario.CableLine.{CableLine}
use Rattle.mq_history.specs.declared.scenario.Scenario.{Scenario}
use Rattle.mq_history.specs.declared.scenario.ScriptPart.{ScriptPart}
use Rattle.mq_history.specs.declared.scenario.Step.{Step}
use Rattle.mq_history.specs.declared.scripts.ScriptLine.{ScriptLine}
use Rattle.mq_spec_node.specs.Scripts.{AreLines, IsDeadline, deadline, fresh, until_of, wait_of}
use Rattle.mq_spec_node.specs.Lines.{lines_by, left_after, call_after, memory_by}
use Rattle.mq_spec_network.specs.Story.{Mem}
use Rattle.mq_spec_network.specs.Turns.{Network, does, node_at}
use Rattle.mq_spec_network.specs.ScriptLines.{lines_left, at_most, call_next, IsUntil, moment_of_try}
use Rattle.mq_spec_network.specs.Tasks.{Slot, Task, Trying, clocks, clocks_from, moment_of, tasks_of, tasks_next}
use Rattle.mq_spec_network.specs.Tasks.Slot.{Sends, Receives, TimesOut}
use Rattle.mq_spec_network.specs.Tasks.Task.{Ask, Script, Lines, Phase, Pump, Handle, Serve, Watch, Open, Restart}
use Rattle.mq_spec_network.specs.Steps.{Goes, Moves, Passes, IsNext, Waits, InPhase, PhaseLine, PumpTakes, PumpSkips, left_by, opens, gives_up, once_more, begun, pump_on, next_round, turn_in, scripts_at, is_cut}
use Rattle.mq_spec_network.specs.Steps.Goes.{stays, moves, serves, passes}
use Rattle.mq_spec_network.specs.Lawful.{AreSteps, ScriptIs, Went, network_begun}
use Rattle.mq_spec_network.specs.Lawful.Went.{begins as begins_there, ends as ends_there}
use Rattle.mq_spec_node.specs.Monitors.{begins, is_opened}
use Rattle.mq_nodes.proofs.LineLaws.{SaysUntil, says_until}
use Rattle.mq_law_scripts.specs.Fits.{AllLines, IsDone, NoScript, AllTried, AllPlain, AreNext, IsAwaited, Fits}
use Rattle.mq_law_scripts.proofs.Doing.{OfNone, triggers_none, others_none, none_all, line_all, line_left, Taken, taken}
use Rattle.mq_law_scripts.proofs.Fitting.{plain_fits, plain_append, same_fits, plain_step, plain_next, plain_begun, plain_opens, plain_gives_up, plain_once_more}

-- an entry more, and what is left then
abbrev Steps : Network → ℕ → Entry → List Task → Type 0
Steps w m e ts = AllLines (does m (e ∷ []) w) × Fits (does m (e ∷ []) w) ts

-- no script did anything
quiet : (w : Network) (m : ℕ) (e : Entry) (ts : List Task) → OfNone e → AllLines w → AllPlain w.scenario ts → Steps w m e ts
quiet w m e ts none all plain = (none_all w m e none all, plain_fits (does m (e ∷ []) w) ts plain)

-- A deadline from the moment of a first try.
due_by : (tried : Option ℕ) (moment : ℕ) (wait until : Option ℕ) → IsUntil tried moment wait until → IsDeadline wait until
due_by tried moment wait until h = (moment_of_try tried moment, h)

-- A script's next line of those that were asked.
next_line : (w : Network) (k : ℕ) (p : ScriptPart) (tried : Option ℕ) (l : ScriptLine) (ls : List ScriptLine) (ts : List Task) (m : ℕ) (e : Entry) → AllLines w → AreNext w k p (l ∷ ls) ts → IsNext w k p tried l m e → Steps w m e (Lines k p None ls ∷ ts)
next_line w k p tried l ls ts m e all h mv =
    (line_all w k p m e done all, record { part = h.part; some = t.some; first = t.behind ∙ ap (take t.some) (sym (line_left w k p m e done)); plain = h.plain })
  where
    t : Taken ls l (lines_left w k p)
    t = taken h.some (lines_left w k p) l ls h.first

    done : IsDone w k p m e
    done = record {
      part = h.part;
      at = mv.is.0;
      who = mv.is.1;
      line = l;
      rest = t.rest;
      left = t.is;
      made = mv.is.2;
      due = due_by tried (moment_of (node_at w p.manager)) (wait_of l) (until_of e.call) mv.until;
    }

-- The line for which clocks advanced.
waited_line : (w : Network) (at : ℕ) (actor : Actor) (call : Call) (ts : List Task) (m : ℕ) (e : Entry) → AllLines w → IsAwaited w at actor call ts → m ≡ at → e.actor ≡ actor → e.call ≡ call → Steps w m e ts
waited_line w at actor call [] m e all h where_ who what = absurd h
waited_line w at actor call (Lines k p tried ls ∷ ts) m e all h where_ who what =
    (line_all w k p m e done all, record { part = h.part; some = h.some; first = h.behind ∙ ap (take h.some) (sym (line_left w k p m e done)); plain = h.plain })
  where
    done : IsDone w k p m e
    done = record {
      part = h.part;
      at = where_ ∙ h.at;
      who = who ∙ h.who;
      line = h.line;
      rest = h.rest;
      left = h.left;
      made = subst (λ (x : Call). x ≡ call_next w k p (until_of x) h.line) (sym what) h.made;
      due = subst (λ (x : Call). IsDeadline (wait_of h.line) (until_of x)) (sym what) h.due;
    }
waited_line w at actor call (t ∷ ts) m e all h where_ who what = absurd h

-- PHASE: an entry of a script is its next line, one of an end none.
tried_part : (s : Scenario) (ts : List Trying) (t : Trying) → AllTried s ts → Mem t ts → slice_get s.scripts t.script ≡ Some t.part
tried_part s [] t h mem = absurd mem
tried_part s (x ∷ ts) t h (inl e) = subst (λ (y : Trying). slice_get s.scripts y.script ≡ Some y.part) (sym e) h.0
tried_part s (x ∷ ts) t h (inr mem) = tried_part s ts t h.1 mem

phase_done : (w : Network) (k : ℕ) (t : Trying) (m : ℕ) (e : Entry) → slice_get w.scenario.scripts t.script ≡ Some t.part → (ls : List ScriptLine) → left_after k t.part (w.done m) ≡ ls → PhaseLine k t (w.done m) ls m e → IsDone w k t.part m e
phase_done w k t m e part [] left h = absurd h
phase_done w k t m e part (l ∷ ls) left h = record {
  part = subst (λ (x : ℕ). slice_get w.scenario.scripts x ≡ Some t.part) h.0 part;
  at = h.1.0;
  who = h.1.1;
  line = l;
  rest = ls;
  left = subst (λ (x : ℕ). left_after k t.part (w.done x) ≡ l ∷ ls) h.1.0 left;
  made = subst (λ (x : ℕ). e.call ≡ call_after k t.part (w.done x) (until_of e.call) l) h.1.0
      (h.1.2 ∙ says.call_is ∙ ap (λ (x : Call). call_after k t.part (w.done m) (until_of x) l) (sym h.1.2));
  due = due_by None t.moment (wait_of l) (until_of e.call) (subst (λ (x : Call). IsUntil None t.moment (wait_of l) (until_of x)) (sym h.1.2) says.until_is);
}
  where
    says : SaysUntil t.moment t.part.label (memory_by k t.part (w.done m)) (deadline t.moment (wait_of l)) l
    says = says_until t.moment t.part.label (memory_by k t.part (w.done m)) (deadline t.moment (wait_of l)) l refl

phase_step : (w : Network) (tries : List Trying) (ts : List Task) (m : ℕ) (e : Entry) (actor : Actor) → e.actor ≡ actor → AllLines w → AllPlain w.scenario (Phase tries ∷ ts) → InPhase tries (w.done m) m e actor → Steps w m e (Phase tries ∷ ts)
phase_step w tries ts m e (actors.Script k) who all plain h =
    (line_all w k h.0.part m e (phase_done w k h.0 m e (tried_part w.scenario tries h.0 plain.0 h.1) (left_after k h.0.part (w.done m)) refl h.2) all, plain)
phase_step w tries ts m e (actors.Sender cable) who all plain h = quiet w m e (Phase tries ∷ ts) (others_none e (actors.Sender cable) who (λ k. refl)) all plain
phase_step w tries ts m e (actors.Receiver cable) who all plain h = quiet w m e (Phase tries ∷ ts) (others_none e (actors.Receiver cable) who (λ k. refl)) all plain
phase_step w tries ts m e (actors.Handler k) who all plain h = absurd h
phase_step w tries ts m e (actors.Monitor k) who all plain h = absurd h
phase_step w tries ts m e actors.Operator who all plain h = absurd h
phase_step w tries ts m e actors.Clock who all plain h = absurd h

-- PUMP: turns of ends.
turn_no_script : (w : Network) (slot : Slot) (cable : ℕ) (c : CableLine) → NoScript (turn_in w slot cable c).actor
turn_no_script w Sends cable c k = refl
turn_no_script w Receives cable c k = refl
turn_no_script w TimesOut cable c k = refl

takes_none : (w : Network) (slot : Slot) (cable : ℕ) (x : Option CableLine) (m : ℕ) (e : Entry) → PumpTakes w slot cable x m e → OfNone e
takes_none w slot cable None m e h = absurd h
takes_none w slot cable (Some c) m e h = others_none e (turn_in w slot cable c).actor h.is.1 (turn_no_script w slot cable c)

plain_pump : (s : Scenario) (left : ℕ) (slot : Slot) (cable : ℕ) (any : Bool) → AllPlain s (pump_on left slot cable any)
plain_pump s left Sends cable any = (tt, tt)
plain_pump s left Receives cable any = (tt, tt)
plain_pump s left TimesOut cable any = (tt, tt)

plain_round : (s : Scenario) (left : ℕ) (slot : Slot) (any : Bool) → AllPlain s (next_round left slot any)
plain_round s left Sends true = (tt, tt)
plain_round s left Sends false = (tt, tt)
plain_round s left Receives any = (tt, tt)
plain_round s left TimesOut any = (tt, tt)

-- The next entry.
step_moves : (w : Network) (t : Task) (ts : List Task) (m : ℕ) (e : Entry) → AllLines w → Fits w (t ∷ ts) → Moves w t m e → Steps w m e (left_by w t e ++ ts)
step_moves w (Ask at actor call) ts m e all (inl h) mv =
    let none : OfNone e = others_none e actor mv.1 h.0 in
    (none_all w m e none all, same_fits w m e none ts h.1)
step_moves w (Ask at actor call) ts m e all (inr h) mv = waited_line w at actor call ts m e all h mv.0 mv.1 mv.2
step_moves w (Script k p tried most) ts m e all h mv = absurd mv
step_moves w (Lines k p tried []) ts m e all h mv = absurd mv
step_moves w (Lines k p tried (l ∷ ls)) ts m e all h mv = next_line w k p tried l ls ts m e all h mv
step_moves w (Phase tries) ts m e all h mv = phase_step w tries ts m e e.actor refl all h mv
step_moves w (Pump zero slot cable any) ts m e all h mv = absurd mv
step_moves w (Pump (suc left) slot cable any) ts m e all h mv =
    quiet w m e (pump_on left slot cable true ++ ts) (takes_none w slot cable (slice_get w.scenario.cables cable) m e mv) all (plain_append w.scenario (pump_on left slot cable true) ts (plain_pump w.scenario left slot cable true) h.1)
step_moves w (Handle k at zero) ts m e all h mv = absurd mv
step_moves w (Handle k at (suc left)) ts m e all h mv = quiet w m e (Handle k at left ∷ ts) (others_none e (actors.Handler k) mv.1 (λ j. refl)) all (tt, h.1)
step_moves w (Serve k l zero) ts m e all h mv = absurd mv
step_moves w (Serve k l (suc left)) ts m e all h mv =
    let scripts : List Task = begun w.scenario (begins (scripts_at (node_at w l.manager)) (w.done l.manager) e.reply) in
    quiet w m e ((scripts ++ Serve k l left ∷ []) ++ ts) (others_none e (actors.Monitor k) mv.2 (λ j. refl)) all
    (plain_append w.scenario (scripts ++ Serve k l left ∷ []) ts
    (plain_append w.scenario scripts (Serve k l left ∷ []) (plain_begun w.scenario (begins (scripts_at (node_at w l.manager)) (w.done l.manager) e.reply)) (tt, tt)) h.1)
step_moves w (Watch k l) ts m e all h mv =
    quiet w m e (opens k l e.reply ++ ts) (others_none e (actors.Monitor k) mv.1.1 (λ j. refl)) all (plain_append w.scenario (opens k l e.reply) ts (plain_opens w.scenario k l e.reply) h.1)
step_moves w (Open k l hc) ts m e all h mv =
    quiet w m e (gives_up k l hc (is_opened e.reply) ++ ts) (others_none e (actors.Monitor k) mv.1 (λ j. refl)) all
    (plain_append w.scenario (gives_up k l hc (is_opened e.reply)) ts (plain_gives_up w.scenario k l hc (is_opened e.reply)) h.1)
step_moves w (Restart at) ts m e all h mv =
    quiet w m e (once_more at (is_cut e.reply) ++ ts) (others_none e actors.Operator mv.1.1 (λ j. refl)) all (plain_append w.scenario (once_more at (is_cut e.reply)) ts (plain_once_more w.scenario at (is_cut e.reply)) h.1)

-- What takes a task's place.
take_all : (ls : List ScriptLine) → ls ≡ take (length ls) ls
take_all [] = refl
take_all (l ∷ ls) = ap (λ (xs : List ScriptLine). l ∷ xs) (take_all ls)

most_lines : (w : Network) (k : ℕ) (p : ScriptPart) (most : Option ℕ) (ts : List Task) → slice_get w.scenario.scripts k ≡ Some p → AllPlain w.scenario ts → AreNext w k p (at_most most (lines_left w k p)) ts
most_lines w k p None ts part plain = record { part = part; some = length (lines_left w k p); first = take_all (lines_left w k p); plain = plain }
most_lines w k p (Some n) ts part plain = record { part = part; some = n; first = refl; plain = plain }

clocks_fit : (w : Network) (m ms : ℕ) (ls : List _) (ts : List Task) → Fits w ts → Fits w (clocks_from m ls ms ++ ts)
clocks_fit w m ms [] ts h = h
clocks_fit w m ms (l ∷ ls) ts h = inl (λ k. refl, clocks_fit w (suc m) ms ls ts h)

waits_fit : (w : Network) (k : ℕ) (p : ScriptPart) (tried : Option ℕ) (l : ScriptLine) (ls : List ScriptLine) (ts next : List Task) → AreNext w k p (l ∷ ls) ts → Waits w k p tried l ls next → Fits w (next ++ ts)
waits_fit w k p tried l ls ts next h x =
    subst (λ (y : List Task). Fits w (y ++ ts)) (sym x.behind)
    (subst (Fits w) (sym (append_assoc (clocks w.scenario x.by) (asked ∷ Lines k p None ls ∷ []) ts))
    (clocks_fit w 0 x.by w.scenario.managers (asked ∷ Lines k p None ls ∷ ts) (inr line)))
  where
    call : Call
    call = call_next w k p (Some x.until) l

    asked : Task
    asked = Ask p.manager (actors.Script k) call

    t : Taken ls l (lines_left w k p)
    t = taken h.some (lines_left w k p) l ls h.first

    -- its deadline is that of its call
    moment : (m : ℕ) × (Some x.until ≡ deadline m (wait_of l))
    moment = due_by tried (moment_of (node_at w p.manager)) (wait_of l) (Some x.until) x.tried_then

    says : SaysUntil moment.0 p.label (memory_by k p (w.done p.manager)) (Some x.until) l
    says = says_until moment.0 p.label (memory_by k p (w.done p.manager)) (Some x.until) l moment.1

    line : IsAwaited w p.manager (actors.Script k) call (Lines k p None ls ∷ ts)
    line = record {
      part = h.part;
      at = refl;
      who = refl;
      line = l;
      rest = t.rest;
      left = t.is;
      made = says.call_is;
      due = due_by None moment.0 (wait_of l) (until_of call) says.until_is;
      some = t.some;
      behind = t.behind;
      plain = h.plain;
    }

skips_fit : (w : Network) (left : ℕ) (slot : Slot) (cable : ℕ) (any : Bool) (x : Option CableLine) (ts next : List Task) → AllPlain w.scenario ts → PumpSkips w left slot cable any x next → Fits w (next ++ ts)
skips_fit w left slot cable any None ts next plain h =
    subst (λ (y : List Task). Fits w (y ++ ts)) (sym h) (plain_fits w (next_round left slot any ++ ts) (plain_append w.scenario (next_round left slot any) ts (plain_round w.scenario left slot any) plain))
skips_fit w left slot cable any (Some c) ts next plain h =
    subst (λ (y : List Task). Fits w (y ++ ts)) (sym h.1) (plain_fits w (pump_on left slot cable any ++ ts) (plain_append w.scenario (pump_on left slot cable any) ts (plain_pump w.scenario left slot cable any) plain))

none_left : (w : Network) (ts next : List Task) → AllPlain w.scenario ts → next ≡ [] → Fits w (next ++ ts)
none_left w ts next plain h = subst (λ (y : List Task). Fits w (y ++ ts)) (sym h) (plain_fits w ts plain)

step_passes : (w : Network) (t : Task) (next ts : List Task) → Fits w (t ∷ ts) → Passes w t next → Fits w (next ++ ts)
step_passes w (Ask at actor call) next ts h p = absurd p
step_passes w (Script k part tried most) next ts h p = subst (λ (y : List Task). Fits w (y ++ ts)) (sym p) (most_lines w k part most ts h.0 h.1)
step_passes w (Lines k part tried []) next ts h p = none_left w ts next h.plain p
step_passes w (Lines k part tried (l ∷ ls)) next ts h p = waits_fit w k part tried l ls ts next h p
step_passes w (Phase tries) next ts h p = none_left w ts next h.1 p
step_passes w (Pump zero slot cable any) next ts h p = none_left w ts next h.1 p
step_passes w (Pump (suc left) slot cable any) next ts h (inl p) = none_left w ts next h.1 p.1
step_passes w (Pump (suc left) slot cable any) next ts h (inr p) = skips_fit w (suc left) slot cable any (slice_get w.scenario.cables cable) ts next h.1 p
step_passes w (Handle k at zero) next ts h p = none_left w ts next h.1 p
step_passes w (Handle k at (suc left)) next ts h p = none_left w ts next h.1 p.1
step_passes w (Serve k l zero) next ts h p = none_left w ts next h.1 p
step_passes w (Serve k l (suc left)) next ts h p = none_left w ts next h.1 p.1
step_passes w (Watch k l) next ts h p = none_left w ts next h.1 p.1
step_passes w (Open k l hc) next ts h p = absurd p
step_passes w (Restart at) next ts h p = none_left w ts next h.1 p.1

-- As far as a step goes.
all_fit : {w0 : Network} {all : List Task} {w : Network} {ts : List Task} → AllLines w0 → Fits w0 all → Goes w0 all w ts → AllLines w × Fits w ts
all_fit a f stays = (a, f)
all_fit a f (moves w t ts m e g mv) = let (b, h) = all_fit a f g in step_moves w t ts m e b h mv
all_fit a f (serves w ts m e g due) = let (b, h) = all_fit a f g in (none_all w m e (triggers_none e due) b, same_fits w m e (triggers_none e due) ts h)
all_fit a f (passes w t next ts g sv p) = let (b, h) = all_fit a f g in (b, step_passes w t next ts h p)

-- The scenario stays.
goes_same : {w0 : Network} {all : List Task} {w : Network} {ts : List Task} → Goes w0 all w ts → w.scenario ≡ w0.scenario
goes_same stays = refl
goes_same (moves w t ts m e g mv) = goes_same g
goes_same (serves w ts m e g due) = goes_same g
goes_same (passes w t next ts g sv p) = goes_same g

-- All steps that were done, and a part of the next.
went_lines : {w0 : Network} {whole : List Step} {marks : ℕ → List Mark} {w : Network} → AllLines w0 → Went w0 whole marks w → AllLines w × (w.scenario ≡ w0.scenario)
went_lines a begins_there = (a, refl)
went_lines a (ends_there whole marks before w step went goes served) =
    let (b, same) = went_lines a went in
    ((all_fit b (plain_fits before (tasks_of before step) (plain_step before step)) goes).0, goes_same goes ∙ same)

pub scripts_are : (s : Scenario) (hs : List History) → AreSteps s hs → (k : ℕ) (p : ScriptPart) → slice_get s.scripts k ≡ Some p → ScriptIs s hs k p
scripts_are s hs a k p part =
    let stands = a.far.stands in
    let (before, same) = went_lines {w0 = network_begun s hs} (λ j q e. tt) stands.went in
    let (now, fits) = all_fit before (plain_fits stands.before (tasks_next stands.before a.rest) (plain_next stands.before a.rest)) stands.goes in
    subst (λ (es : List Entry). AreLines p.label fresh p.lines (lines_by k es)) (a.far.entries p.manager)
    (now k p (subst (λ (x : Scenario). slice_get x.scripts k ≡ Some p) (sym (goes_same stands.goes ∙ same)) part))
