-- Steps as the report has them: each with what it did at each manager, which its marks tell.
use Rattle.std.specs.Prelude.{ℕ, ◌+◌, ◌-◌, ◌==◌, ◌&&◌, suc, Bool, true, false, not, List, [], ◌∷◌, ◌++◌, if◌then◌else◌, Option, Some, None, Result, Ok, Err, slice_get, take, drop, count_by, codes}
use Rattle.std.specs.List.{flat_map}
use Rattle.std.specs.Fmt.{decimal}
use Rattle.std.specs.Str.{bytes_eq}
use Rattle.mq_codes.specs.Numbers.{number}
use Rattle.mq_base.specs.Name.{trimmed}
use Rattle.mq_heads.specs.Headers.{tm_read}
use Rattle.mq_heads.specs.declared.headers.Tm.{Tm}
use Rattle.mq_message.specs.declared.head.HeadFault.{HeadFault}
use Rattle.mq_calls.specs.declared.answers.Answer.{Answer}
use Rattle.mq_calls.specs.declared.answers.Answer.TheVariants as answers
use Rattle.mq_history.specs.declared.calls.Actor.{Actor}
use Rattle.mq_history.specs.declared.calls.Actor.TheVariants as actors
use Rattle.mq_history.specs.declared.calls.Call.{Call}
use Rattle.mq_history.specs.declared.calls.Call.TheVariants as calls
use Rattle.mq_history.specs.declared.calls.Reply.{Reply}
use Rattle.mq_history.specs.declared.calls.Reply.TheVariants as replies
use Rattle.mq_history.specs.declared.calls.Entry.{Entry}
use Rattle.mq_history.specs.declared.history.History.{History}
use Rattle.mq_history.specs.declared.history.Mark.{Mark}
use Rattle.mq_history.specs.declared.scenario.ManagerLine.{ManagerLine}
use Rattle.mq_history.specs.declared.scenario.MonitorLine.{MonitorLine}
use Rattle.mq_history.specs.declared.scenario.RulesPart.{RulesPart}
use Rattle.mq_history.specs.declared.scenario.ScriptPart.{ScriptPart}
use Rattle.mq_history.specs.declared.scenario.Section.{Section}
use Rattle.mq_history.specs.declared.scenario.Scenario.{Scenario}
use Rattle.mq_history.specs.declared.scenario.Step.{Step}
use Rattle.mq_history.specs.declared.scenario.Step.TheVariants as steps
use Rattle.mq_net_stands.specs.Replies.{number4, act_text, displayed, line_text}

-- Who did an entry, and whether it is a turn. A trigger turn has the actor of the entry that it follows, and is none of a
-- script's lines.
abbrev pub is_trigger : Call → Bool
is_trigger calls.Trigger = true
is_trigger _ = false

abbrev pub is_script : ℕ → Actor → Bool
is_script k (actors.Script n) = n == k
is_script k _ = false

abbrev pub is_handler : ℕ → Actor → Bool
is_handler k (actors.Handler n) = n == k
is_handler k _ = false

abbrev pub is_monitor : ℕ → Actor → Bool
is_monitor k (actors.Monitor n) = n == k
is_monitor k _ = false

abbrev pub is_end : Actor → Bool
is_end (actors.Sender n) = true
is_end (actors.Receiver n) = true
is_end _ = false

abbrev pub is_operator : Actor → Bool
is_operator actors.Operator = true
is_operator _ = false

abbrev pub is_by : (Actor → Bool) → Entry → Bool
is_by test e = test e.actor && not (is_trigger e.call)

-- a turn of a channel's end, or a timeout
unfoldable pub is_turn : Entry → Bool
is_turn e = is_by is_end e

abbrev pub count_done : (Actor → Bool) → List Entry → ℕ
count_done test es = count_by (is_by test) es

-- What a manager did before a step, and in it.
abbrev pub entries_of : Option History → List Entry
entries_of None = []
entries_of (Some h) = h.entries

abbrev pub marks_of : Option History → List Mark
marks_of None = []
marks_of (Some h) = h.marks

abbrev pub end_of : Option Mark → ℕ
end_of None = 0
end_of (Some mark) = mark.entries

abbrev pub begin_of : ℕ → Option History → ℕ
begin_of step h = if step == 0 then 0 else end_of (slice_get (marks_of h) (step - 1))

abbrev pub before_step : ℕ → Option History → List Entry
before_step step h = take (begin_of step h) (entries_of h)

abbrev pub in_step : ℕ → Option History → List Entry
in_step step h = take (end_of (slice_get (marks_of h) step) - begin_of step h) (drop (begin_of step h) (entries_of h))

abbrev pub is_idle_mark : Option Mark → Bool
is_idle_mark None = false
is_idle_mark (Some mark) = mark.idle

-- the step ended idle; each history has noted it, so the first one tells
abbrev pub is_idle : ℕ → List History → Bool
is_idle step hs = is_idle_mark (slice_get (marks_of (slice_get hs 0)) step)

abbrev pub idle_text : Bool → List ℕ
idle_text true = codes " IDLE\n"
idle_text false = codes " LIMIT\n"

-- Names by place.
abbrev pub manager_name : Option ManagerLine → List ℕ
manager_name None = []
manager_name (Some m) = m.name

abbrev pub name_at : Scenario → ℕ → List ℕ
name_at s m = manager_name (slice_get s.managers m)

abbrev pub script_label : Option ScriptPart → List ℕ
script_label None = []
script_label (Some p) = p.label

-- Commands: the answer of each that the operator gave, with what it displays.
abbrev pub command_text : Entry → List ℕ
command_text e = codes "  " ++ act_text e.reply ++ codes "\n" ++ displayed (codes "    ") e.reply

abbrev pub command_if : Entry → List ℕ
command_if e = if is_by is_operator e then command_text e else []

abbrev pub answer_line : Entry → List ℕ
answer_line e = act_text e.reply ++ codes "\n" ++ displayed (codes "    ") e.reply

-- one answer a step, of one manager
abbrev pub answer_if : Entry → List ℕ
answer_if e = if is_by is_operator e then answer_line e else []

abbrev pub asked_text : List ℕ → ℕ → ℕ → Scenario → List History → List ℕ
asked_text word step m s hs = word ++ name_at s m ++ codes " " ++ flat_map answer_if (in_step step (slice_get hs m))

abbrev pub obey_text : ℕ → List History → Option Section → List ℕ
obey_text step hs None = codes "\n"
obey_text step hs (Some part) = part.label ++ codes "\n" ++ flat_map command_if (in_step step (slice_get hs part.manager))

-- A run tells how many lines it did.
abbrev pub run_text : ℕ → ℕ → List History → Option ScriptPart → List ℕ
run_text step k hs None = codes "\n"
run_text step k hs (Some p) = p.label ++ codes " " ++ decimal (count_done (is_script k) (in_step step (slice_get hs p.manager))) ++ codes "\n"

abbrev pub label_text : Scenario → ℕ → List ℕ
label_text s k = codes " " ++ script_label (slice_get s.scripts k)

-- turns of channel ends, and timeouts
abbrev pub turns_in : ℕ → List History → ℕ
turns_in step [] = 0
turns_in step (h ∷ hs) = count_by is_turn (in_step step (Some h)) + turns_in step hs

abbrev pub pump_text : ℕ → ℕ → List History → List ℕ
pump_text step n hs = decimal n ++ codes " TURNS " ++ decimal (turns_in step hs) ++ idle_text (is_idle step hs)

abbrev pub handle_text : ℕ → ℕ → ℕ → List History → Option RulesPart → List ℕ
handle_text step k n hs None = codes "\n"
handle_text step k n hs (Some r) =
    r.label ++ codes " " ++ decimal n ++ codes " ACTIONS " ++ decimal (count_done (is_handler k) (in_step step (slice_get hs r.manager))) ++ idle_text (is_idle step hs)

-- A watch: the first refusal of its MQCONN and its MQOPEN.
abbrev pub refusal_of : {T : Type 0} → Answer T → Option ℕ
refusal_of (answers.Ok value) = None
refusal_of (answers.Warning reason value) = None
refusal_of (answers.Failed reason) = Some (number reason)

abbrev pub watch_refusal : Reply → Option ℕ
watch_refusal (replies.Connected a) = refusal_of a
watch_refusal (replies.Opened a) = refusal_of a
watch_refusal (replies.Stopped by) = Some 2009
watch_refusal _ = None

abbrev pub or_next : Option ℕ → Option ℕ → Option ℕ
or_next None next = next
or_next (Some reason) next = Some reason

abbrev pub refusal_if : ℕ → Entry → Option ℕ
refusal_if k e = if is_by (is_monitor k) e then watch_refusal e.reply else None

abbrev pub first_refusal : ℕ → List Entry → Option ℕ
first_refusal k [] = None
first_refusal k (e ∷ es) = or_next (refusal_if k e) (first_refusal k es)

abbrev pub watched_text : Option ℕ → List ℕ
watched_text None = codes " OK\n"
watched_text (Some reason) = codes " REFUSED " ++ decimal reason ++ codes "\n"

abbrev pub watch_text : ℕ → ℕ → List History → Option MonitorLine → List ℕ
watch_text step k hs None = codes "\n"
watch_text step k hs (Some l) = l.label ++ watched_text (first_refusal k (in_step step (slice_get hs l.manager)))

-- The scripts that a monitor began: of its gets those of a trigger message whose ApplId names a script of its manager that
-- has done no line yet.
abbrev pub got_body : Reply → List ℕ
got_body (replies.Got (answers.Ok g)) = g.body
got_body _ = []

abbrev pub script_at : ℕ → List ℕ → ℕ → List ScriptPart → Option ℕ
script_at m label k [] = None
script_at m label k (p ∷ ps) = if p.manager == m && bytes_eq label p.label then Some k else script_at m label (suc k) ps

abbrev pub is_fresh : List Entry → Option ℕ → Bool
is_fresh es None = false
is_fresh es (Some k) = count_done (is_script k) es == 0

abbrev pub begins : Scenario → ℕ → List Entry → Result Tm HeadFault → Bool
begins s m es (Err fault) = false
begins s m es (Ok tm) = is_fresh es (script_at m (trimmed tm.appl_id) 0 s.scripts)

abbrev pub is_start : Scenario → ℕ → ℕ → List Entry → Entry → Bool
is_start s k m es e = is_by (is_monitor k) e && begins s m es (tm_read (got_body e.reply))

abbrev pub starts_in : Scenario → ℕ → ℕ → List Entry → List Entry → ℕ
starts_in s k m before [] = 0
starts_in s k m before (e ∷ es) = (if is_start s k m before e then 1 else 0) + starts_in s k m (before ++ e ∷ []) es

abbrev pub serve_text : ℕ → Scenario → ℕ → ℕ → List History → Option MonitorLine → List ℕ
serve_text step s k n hs None = codes "\n"
serve_text step s k n hs (Some l) =
    l.label ++ codes " " ++ decimal n ++ codes " STARTED "
    ++ decimal (starts_in s k l.manager (before_step step (slice_get hs l.manager)) (in_step step (slice_get hs l.manager))) ++ codes "\n"

-- A step, by its place from 0.
abbrev pub step_text : Scenario → List History → ℕ → Step → List ℕ
step_text s hs i (steps.Obey k) = codes "OBEY " ++ obey_text i hs (slice_get s.sections k)
step_text s hs i (steps.Do m c) = asked_text (codes "DO ") i m s hs
step_text s hs i (steps.Run k n) = codes "RUN " ++ run_text i k hs (slice_get s.scripts k)
step_text s hs i (steps.Phase ks) = codes "PHASE" ++ flat_map (label_text s) ks ++ codes "\n"
step_text s hs i (steps.Pump n) = codes "PUMP " ++ pump_text i n hs
step_text s hs i (steps.Handle k n) = codes "HANDLE " ++ handle_text i k n hs (slice_get s.rules k)
step_text s hs i (steps.Watch k) = codes "WATCH " ++ watch_text i k hs (slice_get s.monitors k)
step_text s hs i (steps.Serve k n) = codes "SERVE " ++ serve_text i s k n hs (slice_get s.monitors k)
step_text s hs i (steps.Crash m) = asked_text (codes "CRASH ") i m s hs
step_text s hs i (steps.Restart m) = asked_text (codes "RESTART ") i m s hs
step_text s hs i (steps.Cut m k) = asked_text (codes "CUT ") i m s hs
step_text s hs i (steps.Clock ms) = codes "CLOCK " ++ decimal ms ++ codes "\n"

abbrev pub steps_text : Scenario → List History → ℕ → List Step → List ℕ
steps_text s hs i [] = []
steps_text s hs i (step ∷ rest) = number4 (i + 1) ++ codes " " ++ step_text s hs i step ++ steps_text s hs (i + 1) rest

-- A script: its label, its manager, and its lines that were done.
abbrev pub lines_text : ℕ → ℕ → List Entry → List ℕ
lines_text k n [] = []
lines_text k n (e ∷ es) = if is_by (is_script k) e then line_text n e ++ lines_text k (n + 1) es else lines_text k n es

abbrev pub script_text : Scenario → List History → ℕ → ScriptPart → List ℕ
script_text s hs k p = codes "SCRIPT " ++ p.label ++ codes " " ++ name_at s p.manager ++ codes "\n" ++ lines_text k 1 (entries_of (slice_get hs p.manager))

abbrev pub scripts_text : Scenario → List History → ℕ → List ScriptPart → List ℕ
scripts_text s hs k [] = []
scripts_text s hs k (p ∷ ps) = script_text s hs k p ++ scripts_text s hs (k + 1) ps
