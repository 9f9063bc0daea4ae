-- A run gives its managers the scenario's commands, and no others.
use Rattle.std.proofs.Common.{ℕ, zero, suc, ◌≡◌, Bool, true, false, List, [], ◌∷◌, ◌++◌, refl, sym, subst, inl, inr}
use Rattle.std.specs.Prelude.{◌==◌, All, drop, if◌then◌else◌, Option, Some, None, slice_get, take}
use Rattle.std.proofs.lemmas.List.Elements.{All-head, All-tail}
use Rattle.mq_calls.specs.declared.answers.Answer.TheVariants as answers
use Rattle.mq_calls.specs.declared.answers.Hconn.{Hconn}
use Rattle.mq_calls.specs.declared.answers.Hobj.{Hobj}
use Rattle.mq_sc_parse.specs.declared.command.Command.{Command}
use Rattle.mq_history.specs.declared.acts.Act.TheVariants as acts
use Rattle.mq_base.specs.Members.{Mem}
use Rattle.mq_history.specs.declared.calls.Actor.{Actor}
use Rattle.mq_history.specs.declared.calls.Actor.TheVariants as actors
use Rattle.mq_history.specs.declared.calls.Call.{Call}
use Rattle.mq_history.specs.declared.calls.Call.TheVariants as calls
use Rattle.mq_history.specs.declared.calls.Entry.{Entry}
use Rattle.mq_history.specs.declared.calls.Reply.{Reply}
use Rattle.mq_history.specs.declared.calls.Reply.TheVariants as replies
use Rattle.mq_history.specs.declared.history.Mark.{Mark}
use Rattle.mq_history.specs.declared.scenario.CableLine.{CableLine}
use Rattle.mq_history.specs.declared.scenario.ManagerLine.{ManagerLine}
use Rattle.mq_history.specs.declared.scenario.MonitorLine.{MonitorLine}
use Rattle.mq_history.specs.declared.scenario.RulesPart.{RulesPart}
use Rattle.mq_history.specs.declared.scenario.Scenario.{Scenario}
use Rattle.mq_history.specs.declared.scenario.ScriptPart.{ScriptPart}
use Rattle.mq_history.specs.declared.scenario.Section.{Section}
use Rattle.mq_history.specs.declared.scenario.Step.{Step}
use Rattle.mq_history.specs.declared.scenario.Step.TheVariants as steps
use Rattle.mq_history.specs.declared.scripts.ScriptLine.{ScriptLine}
use Rattle.mq_history.specs.declared.scripts.ScriptLine.TheVariants as lines
use Rattle.mq_nodes.specs.Texts.{AllFit, LineFits, StepFits}
use Rattle.mq_spec_node.specs.Monitors.{begins as script_begun, call_of, is_opened, monitor_call, monitor_next}
use Rattle.mq_spec_node.specs.Lines.{call_after, left_after, lines_done, memory_by}
use Rattle.mq_spec_node.specs.Node.{Monitor, Node}
use Rattle.mq_spec_node.specs.Scripts.{Memory, deadline, line_call, until_of, wait_of}
use Rattle.mq_spec_network.specs.ScriptLines.{at_most, call_next, lines_left}
use Rattle.mq_spec_network.specs.Turns.{Network, does, node_at, where_there}
use Rattle.mq_spec_network.specs.Tasks.{Slot, Task, Trying, clocks_from, finish, handle_with, obey_all, obey_section, run_script, serve_by, tasks_of, try_all, try_one, watch_by}
use Rattle.mq_spec_network.specs.Tasks.Slot.{Receives, Sends, TimesOut}
use Rattle.mq_spec_network.specs.Tasks.Task.{Ask, Script, Lines, Phase, Pump, Handle, Serve, Watch, Open, Restart}
use Rattle.mq_spec_network.specs.Steps.{Goes, InPhase, Moves, Passes, PhaseLine, PumpSkips, PumpTakes, begun, gives_up, is_cut, left_by, next_round, once_more, opens, pump_on, scripts_at}
use Rattle.mq_spec_network.specs.Steps.Goes.{stays, moves, serves, passes}
use Rattle.mq_spec_network.specs.Lawful.{Went}
use Rattle.mq_spec_network.specs.Lawful.Went.{begins, ends}
use Rattle.mq_law_node.proofs.Named.{bool_case}
use Rattle.mq_law_rest.specs.Values.{AllCallTexts, AllLineTexts, AllTextTasks, ArePartTexts, IsTextCall, IsTextOf, IsTextTask}
use Rattle.mq_law_rest.proofs.Steps.{goes_grew, some_is, none_some, went_grew}

-- WHAT A SCENARIO HAS
all_at : {A : Type 0} (P : A → Type 0) (xs : List A) (i : ℕ) (x : A) → All P xs → slice_get xs i ≡ Some x → P x
all_at P [] i x h e = absurd (none_some e)
all_at P (y ∷ xs) zero x h e = subst P (some_is y x e) (All-head P y xs h)
all_at P (y ∷ xs) (suc i) x h e = all_at P xs i x (All-tail P y xs h) e

line_texts : (ls : List ScriptLine) → All (LineFits IsTextOf) ls → AllLineTexts ls
line_texts [] h = tt
line_texts (l ∷ ls) h = (All-head (LineFits IsTextOf) l ls h, line_texts ls (All-tail (LineFits IsTextOf) l ls h))

lines_drop : (n : ℕ) (ls : List ScriptLine) → AllLineTexts ls → AllLineTexts (drop n ls)
lines_drop zero ls h = h
lines_drop (suc n) [] h = tt
lines_drop (suc n) (l ∷ ls) h = lines_drop n ls h.1

lines_take : (n : ℕ) (ls : List ScriptLine) → AllLineTexts ls → AllLineTexts (take n ls)
lines_take zero ls h = tt
lines_take (suc n) [] h = tt
lines_take (suc n) (l ∷ ls) h = (h.0, lines_take n ls h.1)

lines_most : (most : Option ℕ) (ls : List ScriptLine) → AllLineTexts ls → AllLineTexts (at_most most ls)
lines_most None ls h = h
lines_most (Some n) ls h = lines_take n ls h

called_text : (label : List ℕ) (m : Memory) (until : Option ℕ) (l : ScriptLine) → LineFits IsTextOf l → IsTextCall (line_call label m until l)
called_text label m until (lines.Mqconn name) h = tt
called_text label m until lines.Mqdisc h = tt
called_text label m until lines.Mqcmit h = tt
called_text label m until lines.Mqback h = tt
called_text label m until (lines.Mqopen handle name qmgr how) h = tt
called_text label m until (lines.Mqclose handle) h = tt
called_text label m until (lines.Mqput handle body o) h = tt
called_text label m until (lines.Mqput1 name qmgr body o) h = tt
called_text label m until (lines.Reply body o) h = tt
called_text label m until (lines.Mqget handle o) h = tt
called_text label m until (lines.Mqsc command) h = h
called_text label m until lines.Crash h = tt
called_text label m until lines.Restart h = tt
called_text label m until (lines.Cut k) h = tt

-- TASKS
texts_append : (ts us : List Task) → AllTextTasks ts → AllTextTasks us → AllTextTasks (ts ++ us)
texts_append [] us h g = g
texts_append (t ∷ ts) us h g = (h.0, texts_append ts us h.1 g)

obeys_texts : (m : ℕ) (cs : List Command) → All IsTextOf cs → AllTextTasks (obey_all m cs)
obeys_texts m [] h = tt
obeys_texts m (c ∷ cs) h = (All-head IsTextOf c cs h, obeys_texts m cs (All-tail IsTextOf c cs h))

section_texts : (s : Scenario) (k : ℕ) (x : Option Section) → AllFit IsTextOf s → slice_get s.sections k ≡ x → AllTextTasks (obey_section x)
section_texts s k None fit e = tt
section_texts s k (Some part) fit e = obeys_texts part.manager part.commands (all_at (λ (p : Section). All IsTextOf p.commands) s.sections k part fit.sections e)

clocks_texts : (m ms : ℕ) (ls : List ManagerLine) → AllTextTasks (clocks_from m ls ms)
clocks_texts m ms [] = tt
clocks_texts m ms (l ∷ ls) = (tt, clocks_texts (suc m) ms ls)

run_texts : (s : Scenario) (k : ℕ) (most : Option ℕ) (x : Option ScriptPart) → AllFit IsTextOf s → slice_get s.scripts k ≡ x → AllTextTasks (run_script k most x)
run_texts s k most None fit e = tt
run_texts s k most (Some p) fit e = (line_texts p.lines (all_at (λ (q : ScriptPart). All (LineFits IsTextOf) q.lines) s.scripts k p fit.scripts e), tt)

handle_texts : (k n : ℕ) (x : Option RulesPart) → AllTextTasks (handle_with k n x)
handle_texts k n None = tt
handle_texts k n (Some r) = (tt, tt)

watch_texts : (k : ℕ) (x : Option MonitorLine) → AllTextTasks (watch_by k x)
watch_texts k None = tt
watch_texts k (Some l) = (tt, tt)

serve_texts : (k n : ℕ) (x : Option MonitorLine) → AllTextTasks (serve_by k n x)
serve_texts k n None = tt
serve_texts k n (Some l) = (tt, tt)

parts_append : (ts us : List Trying) → ArePartTexts ts → ArePartTexts us → ArePartTexts (ts ++ us)
parts_append [] us h g = g
parts_append (t ∷ ts) us h g = (h.0, parts_append ts us h.1 g)

try_texts : (w : Network) (k : ℕ) (x : Option ScriptPart) → AllFit IsTextOf w.scenario → slice_get w.scenario.scripts k ≡ x → ArePartTexts (try_one w k x)
try_texts w k None fit e = tt
try_texts w k (Some p) fit e = (line_texts p.lines (all_at (λ (q : ScriptPart). All (LineFits IsTextOf) q.lines) w.scenario.scripts k p fit.scripts e), tt)

tries_texts : (w : Network) (ks : List ℕ) → AllFit IsTextOf w.scenario → ArePartTexts (try_all w ks)
tries_texts w [] fit = tt
tries_texts w (k ∷ ks) fit = parts_append (try_one w k (slice_get w.scenario.scripts k)) (try_all w ks) (try_texts w k (slice_get w.scenario.scripts k) fit refl) (tries_texts w ks fit)

finish_texts : (ts : List Trying) → ArePartTexts ts → AllTextTasks (finish ts)
finish_texts [] h = tt
finish_texts (t ∷ ts) h = (h.0, finish_texts ts h.1)

step_texts : (w : Network) (step : Step) → AllFit IsTextOf w.scenario → StepFits IsTextOf step → AllTextTasks (tasks_of w step)
step_texts w (steps.Obey k) fit h = section_texts w.scenario k (slice_get w.scenario.sections k) fit refl
step_texts w (steps.Do m c) fit h = (h, tt)
step_texts w (steps.Run k n) fit h = run_texts w.scenario k n (slice_get w.scenario.scripts k) fit refl
step_texts w (steps.Phase ks) fit h = (tries_texts w ks fit, finish_texts (try_all w ks) (tries_texts w ks fit))
step_texts w (steps.Pump n) fit h = (tt, tt)
step_texts w (steps.Handle k n) fit h = handle_texts k n (slice_get w.scenario.rules k)
step_texts w (steps.Watch k) fit h = watch_texts k (slice_get w.scenario.monitors k)
step_texts w (steps.Serve k n) fit h = serve_texts k n (slice_get w.scenario.monitors k)
step_texts w (steps.Crash m) fit h = (tt, tt)
step_texts w (steps.Restart m) fit h = (tt, tt)
step_texts w (steps.Cut m k) fit h = (tt, tt)
step_texts w (steps.Clock ms) fit h = clocks_texts 0 ms w.scenario.managers

begun_texts : (s : Scenario) (x : Option ℕ) → AllFit IsTextOf s → AllTextTasks (begun s x)
begun_texts s None fit = tt
begun_texts s (Some k) fit = run_texts s k None (slice_get s.scripts k) fit refl

opens_texts : (k : ℕ) (l : MonitorLine) (r : Reply) → AllTextTasks (opens k l r)
opens_texts k l (replies.Connected (answers.Ok hc)) = (tt, tt)
opens_texts k l (replies.Connected (answers.Warning reason hc)) = tt
opens_texts k l (replies.Connected (answers.Failed reason)) = tt
opens_texts k l (replies.Opened a) = tt
opens_texts k l (replies.Ended a) = tt
opens_texts k l (replies.Put a) = tt
opens_texts k l (replies.Got a) = tt
opens_texts k l (replies.Acted a) = tt
opens_texts k l replies.Changed = tt
opens_texts k l replies.Tried = tt
opens_texts k l (replies.Triggered queue) = tt
opens_texts k l (replies.Stopped by_) = tt

gives_up_texts : (k : ℕ) (l : MonitorLine) (hc : Hconn) (b : Bool) → AllTextTasks (gives_up k l hc b)
gives_up_texts k l hc true = tt
gives_up_texts k l hc false = (tt, tt)

once_more_texts : (m : ℕ) (b : Bool) → AllTextTasks (once_more m b)
once_more_texts m true = (tt, tt)
once_more_texts m false = tt

pump_texts : (left : ℕ) (slot : Slot) (cable : ℕ) (any : Bool) → AllTextTasks (pump_on left slot cable any)
pump_texts left Sends cable any = (tt, tt)
pump_texts left Receives cable any = (tt, tt)
pump_texts left TimesOut cable any = (tt, tt)

round_texts : (left : ℕ) (slot : Slot) (any : Bool) → AllTextTasks (next_round left slot any)
round_texts left Sends true = (tt, tt)
round_texts left Sends false = (tt, tt)
round_texts left Receives any = (tt, tt)
round_texts left TimesOut any = (tt, tt)

left_texts : (w : Network) (t : Task) (m : ℕ) (e : Entry) → AllFit IsTextOf w.scenario → IsTextTask t → AllTextTasks (left_by w t e)
left_texts w (Ask at actor call) m e fit a = tt
left_texts w (Script k p tried most) m e fit a = tt
left_texts w (Lines k p tried []) m e fit a = tt
left_texts w (Lines k p tried (l ∷ ls)) m e fit a = (a.1, tt)
left_texts w (Phase ts) m e fit a = (a, tt)
left_texts w (Pump zero slot cable any) m e fit a = tt
left_texts w (Pump (suc left) slot cable any) m e fit a = pump_texts left slot cable true
left_texts w (Handle k at zero) m e fit a = tt
left_texts w (Handle k at (suc left)) m e fit a = (tt, tt)
left_texts w (Serve k l zero) m e fit a = tt
left_texts w (Serve k l (suc left)) m e fit a = texts_append (begun w.scenario (script_begun (scripts_at (node_at w l.manager)) (w.done l.manager) e.reply)) (Serve k l left ∷ [])
    (begun_texts w.scenario (script_begun (scripts_at (node_at w l.manager)) (w.done l.manager) e.reply) fit) (tt, tt)
left_texts w (Watch k l) m e fit a = opens_texts k l e.reply
left_texts w (Open k l hc) m e fit a = gives_up_texts k l hc (is_opened e.reply)
left_texts w (Restart at) m e fit a = once_more_texts at (is_cut e.reply)

texts_are : (next ts : List Task) → next ≡ ts → AllTextTasks ts → AllTextTasks next
texts_are next ts e h = subst AllTextTasks (sym e) h

skips_texts : (w : Network) (left : ℕ) (slot : Slot) (cable : ℕ) (any : Bool) (o : Option CableLine) (next : List Task) → PumpSkips w left slot cable any o next → AllTextTasks next
skips_texts w left slot cable any None next p = texts_are next (next_round left slot any) p (round_texts left slot any)
skips_texts w left slot cable any (Some c) next p = texts_are next (pump_on left slot cable any) p.1 (pump_texts left slot cable any)

next_texts : (w : Network) (t : Task) (next : List Task) → IsTextTask t → Passes w t next → AllTextTasks next
next_texts w (Ask at actor call) next a p = absurd p
next_texts w (Script k part tried most) next a p = texts_are next _ p (lines_most most (lines_left w k part) (lines_drop _ part.lines a), tt)
next_texts w (Lines k part tried []) next a p = texts_are next [] p tt
next_texts w (Lines k part tried (l ∷ ls)) next a p = texts_are next _ p.behind (texts_append _ _ (clocks_texts 0 p.by w.scenario.managers) (called_text part.label (memory_by k part (w.done part.manager)) (Some p.until) l a.0, (a.1, tt)))
next_texts w (Phase ts) next a p = texts_are next [] p tt
next_texts w (Pump zero slot cable any) next a p = texts_are next [] p tt
next_texts w (Pump (suc left) slot cable any) next a (inl p) = texts_are next [] p.1 tt
next_texts w (Pump (suc left) slot cable any) next a (inr p) = skips_texts w (suc left) slot cable any (slice_get w.scenario.cables cable) next p
next_texts w (Handle k at zero) next a p = texts_are next [] p tt
next_texts w (Handle k at (suc left)) next a p = texts_are next [] p.1 tt
next_texts w (Serve k l zero) next a p = texts_are next [] p tt
next_texts w (Serve k l (suc left)) next a p = texts_are next [] p.1 tt
next_texts w (Watch k l) next a p = texts_are next [] p.1 tt
next_texts w (Open k l hc) next a p = absurd p
next_texts w (Restart at) next a p = texts_are next [] p.1 tt

-- THE NEXT ENTRY
of_call : (e : Entry) (c : Call) → e.call ≡ c → IsTextCall c → IsTextCall e.call
of_call e c is h = subst IsTextCall (sym is) h

taken_text : (w : Network) (slot : Slot) (cable : ℕ) (o : Option CableLine) (m : ℕ) (e : Entry) → PumpTakes w slot cable o m e → IsTextCall e.call
taken_text w slot cable None m e h = absurd h
taken_text w Sends cable (Some c) m e h = of_call e calls.Turn h.is.2 tt
taken_text w Receives cable (Some c) m e h = of_call e calls.Turn h.is.2 tt
taken_text w TimesOut cable (Some c) m e h = of_call e calls.Timeout h.is.2 tt

no_call : (c : Call) → Some c ≡ None → ⊥
no_call c e = cc

one_call : (a b : Call) → Some a ≡ Some b → a ≡ b
one_call a b e = cc

monitor_text : (e : Entry) (a : Option Hconn) (b : Option Hobj) → Some e.call ≡ monitor_call a b → IsTextCall e.call
monitor_text e None b is = absurd (no_call e.call is)
monitor_text e (Some hc) None is = absurd (no_call e.call is)
monitor_text e (Some hc) (Some ho) is = of_call e _ (one_call e.call _ is) tt

monitored_text : (e : Entry) (o : Option Monitor) → Some e.call ≡ call_of o → IsTextCall e.call
monitored_text e None is = absurd (no_call e.call is)
monitored_text e (Some m) is = monitor_text e m.connection m.handle is

served_text : (e : Entry) (k : ℕ) (o : Option Node) → Some e.call ≡ where_there None (monitor_next k) o → IsTextCall e.call
served_text e k None is = absurd (no_call e.call is)
served_text e k (Some n) is = monitored_text e _ is

-- in a phase
part_texts : (ts : List Trying) (t : Trying) → ArePartTexts ts → Mem t ts → AllLineTexts t.part.lines
part_texts [] t h m = absurd m
part_texts (x ∷ ts) t h (inl q) = subst (λ (y : Trying). AllLineTexts y.part.lines) (sym q) h.0
part_texts (x ∷ ts) t h (inr n) = part_texts ts t h.1 n

phase_line_text : (k : ℕ) (t : Trying) (done : List Entry) (ls : List ScriptLine) (m : ℕ) (e : Entry) → AllLineTexts ls → PhaseLine k t done ls m e → IsTextCall e.call
phase_line_text k t done [] m e h mv = absurd mv
phase_line_text k t done (l ∷ ls) m e h mv = of_call e (call_after k t.part done (deadline t.moment (wait_of l)) l) mv.1.2 (called_text t.part.label (memory_by k t.part done) (deadline t.moment (wait_of l)) l h.0)

phased_text : (ts : List Trying) (done : List Entry) (m : ℕ) (e : Entry) (actor : Actor) → ArePartTexts ts → InPhase ts done m e actor → IsTextCall e.call
phased_text ts done m e (actors.Script k) h mv = phase_line_text k mv.0 done (left_after k mv.0.part done) m e (lines_drop (lines_done k done) mv.0.part.lines (part_texts ts mv.0 h mv.1)) mv.2
phased_text ts done m e (actors.Sender cable) h (inl is) = of_call e calls.Turn is tt
phased_text ts done m e (actors.Sender cable) h (inr is) = of_call e calls.Timeout is tt
phased_text ts done m e (actors.Receiver cable) h mv = of_call e calls.Turn mv tt
phased_text ts done m e (actors.Handler k) h mv = absurd mv
phased_text ts done m e (actors.Monitor k) h mv = absurd mv
phased_text ts done m e actors.Operator h mv = absurd mv
phased_text ts done m e actors.Clock h mv = absurd mv

moved_text : (w : Network) (t : Task) (m : ℕ) (e : Entry) → IsTextTask t → Moves w t m e → IsTextCall e.call
moved_text w (Ask at actor call) m e a mv = of_call e call mv.2 a
moved_text w (Script k part tried most) m e a mv = absurd mv
moved_text w (Lines k part tried []) m e a mv = absurd mv
moved_text w (Lines k part tried (l ∷ ls)) m e a mv = of_call e (call_next w k part (until_of e.call) l) mv.is.2 (called_text part.label (memory_by k part (w.done part.manager)) (until_of e.call) l a.0)
moved_text w (Phase ts) m e a mv = phased_text ts (w.done m) m e e.actor a mv
moved_text w (Pump zero slot cable any) m e a mv = absurd mv
moved_text w (Pump (suc left) slot cable any) m e a mv = taken_text w slot cable (slice_get w.scenario.cables cable) m e mv
moved_text w (Handle k at zero) m e a mv = absurd mv
moved_text w (Handle k at (suc left)) m e a mv = of_call e calls.Turn mv.2 tt
moved_text w (Serve k l zero) m e a mv = absurd mv
moved_text w (Serve k l (suc left)) m e a mv = served_text e k (node_at w l.manager) mv.3
moved_text w (Watch k l) m e a mv = of_call e _ mv.1.2 tt
moved_text w (Open k l hc) m e a mv = of_call e _ mv.2 tt
moved_text w (Restart at) m e a mv = of_call e (calls.Act acts.Restart) mv.1.2 tt

-- A STEP, AND A RUN
abbrev pub TextCalls : Network → Type 0
TextCalls w = (m : ℕ) → AllCallTexts (w.done m)

calls_last : (xs : List Entry) (e : Entry) → AllCallTexts xs → IsTextCall e.call → AllCallTexts (xs ++ e ∷ [])
calls_last [] e h k = (k, tt)
calls_last (x ∷ xs) e h k = (h.0, calls_last xs e h.1 k)

one_more : (w : Network) (m : ℕ) (e : Entry) → IsTextCall e.call → TextCalls w → TextCalls (does m (e ∷ []) w)
one_more w m e k h j = bool_case (j == m) (λ b. AllCallTexts (if b then w.done j ++ e ∷ [] else w.done j)) (λ z. calls_last (w.done j) e (h j) k) (λ z. h j)

goes_texts : (w0 : Network) (all : List Task) {w : Network} {ts : List Task} → AllFit IsTextOf w0.scenario → Goes w0 all w ts → AllTextTasks all → TextCalls w0 → AllTextTasks ts × TextCalls w
goes_texts w0 all fit stays a h = (a, h)
goes_texts w0 all fit (moves w t ts m e go mv) a h =
    let r = goes_texts w0 all fit go a h in (
      texts_append (left_by w t e) ts (left_texts w t m e (subst (AllFit IsTextOf) (sym (goes_grew w0 all go).scenario) fit) r.0.0) r.0.1,
      one_more w m e (moved_text w t m e r.0.0 mv) r.1,
    )
goes_texts w0 all fit (serves w ts m e go call) a h =
    let r = goes_texts w0 all fit go a h in (r.0, one_more w m e (of_call e calls.Trigger call tt) r.1)
goes_texts w0 all fit (passes w t next ts go served q) a h =
    let r = goes_texts w0 all fit go a h in (texts_append next ts (next_texts w t next r.0.0 q) r.0.1, r.1)

abbrev pub AllStepTexts : List Step → Type 0
AllStepTexts [] = Unit {0}
AllStepTexts (x ∷ xs) = StepFits IsTextOf x × AllStepTexts xs

steps_front : (xs : List Step) (x : Step) → AllStepTexts (xs ++ x ∷ []) → AllStepTexts xs × StepFits IsTextOf x
steps_front [] x h = (tt, h.0)
steps_front (y ∷ xs) x h = let r = steps_front xs x h.1 in ((h.0, r.0), r.1)

pub all_steps : (xs ys : List Step) → All (StepFits IsTextOf) (xs ++ ys) → AllStepTexts xs
all_steps [] ys h = tt
all_steps (x ∷ xs) ys h = (All-head (StepFits IsTextOf) x (xs ++ ys) h, all_steps xs ys (All-tail (StepFits IsTextOf) x (xs ++ ys) h))

pub went_texts : (w0 : Network) {whole : List Step} {marks : ℕ → List Mark} {w : Network} → AllFit IsTextOf w0.scenario → Went w0 whole marks w → AllStepTexts whole → TextCalls w0 → TextCalls w
went_texts w0 fit begins all h = h
went_texts w0 fit (ends whole marks before w step went goes served) all h =
    let b = steps_front whole step all in
    (goes_texts before (tasks_of before step) (subst (AllFit IsTextOf) (sym (went_grew w0 went).scenario) fit) goes
    (step_texts before step (subst (AllFit IsTextOf) (sym (went_grew w0 went).scenario) fit) b.1) (went_texts w0 fit went b.0 h)).1
