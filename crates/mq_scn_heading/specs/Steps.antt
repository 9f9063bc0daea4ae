-- Steps, one by one.
use Rattle.std.specs.Prelude.{ℕ, false, List, [], ◌∷◌, codes, if◌then◌else◌, Option, Some, None, Result, Ok, Err, find}
use Rattle.std.specs.Str.{bytes_eq}
use Rattle.mq_history.specs.declared.scenario.Scenario.{Scenario}
use Rattle.mq_history.specs.declared.scenario.Step.{Step}
use Rattle.mq_history.specs.declared.scenario.Step.TheVariants as steps
use Rattle.mq_scn_lines.specs.declared.fault.Limit.TheVariants as limits
use Rattle.mq_scn_lines.specs.declared.fault.LineFault.{LineFault}
use Rattle.mq_scn_lines.specs.declared.fault.LineFault.TheVariants as faults
use Rattle.mq_scn_lines.specs.Faults.{both}
use Rattle.mq_scn_lines.specs.Words.{is_open, words_of, first_word}
use Rattle.mq_scn_lines.specs.Numbers.{ranged}
use Rattle.mq_scn_script.specs.Commands.{command_in}
use Rattle.mq_scn_heading.specs.declared.steps.StepVerb.{StepVerb}
use Rattle.mq_scn_heading.specs.declared.steps.StepVerb.TheVariants as verbs
use Rattle.mq_scn_heading.specs.Lookup.{manager_at, section_at, rules_at, script_at, monitor_at}
use Rattle.mq_scn_heading.specs.Phases.{phase_of}

abbrev pub step_verbs : List StepVerb
step_verbs = verbs.Obey ∷ verbs.Do ∷ verbs.Run ∷ verbs.Phase ∷ verbs.Pump ∷ verbs.Handle ∷ verbs.Watch ∷ verbs.Serve ∷ verbs.Crash ∷ verbs.Restart ∷ verbs.Cut ∷ verbs.Clock ∷ []

abbrev pub step_text : StepVerb → List ℕ
step_text verbs.Obey = codes "OBEY"
step_text verbs.Do = codes "DO"
step_text verbs.Run = codes "RUN"
step_text verbs.Phase = codes "PHASE"
step_text verbs.Pump = codes "PUMP"
step_text verbs.Handle = codes "HANDLE"
step_text verbs.Watch = codes "WATCH"
step_text verbs.Serve = codes "SERVE"
step_text verbs.Crash = codes "CRASH"
step_text verbs.Restart = codes "RESTART"
step_text verbs.Cut = codes "CUT"
step_text verbs.Clock = codes "CLOCK"

-- the verb that a word is
unfoldable pub step_verb_of : List ℕ → Option StepVerb
step_verb_of word = find (λ verb. bytes_eq (step_text verb) word) step_verbs

abbrev pub stepped : {A : Type 0} → (A → Step) → Result A LineFault → Result Step LineFault
stepped step (Ok x) = Ok (step x)
stepped step (Err fault) = Err fault

-- ---- OBEY label, RUN label [n], PHASE labels

abbrev pub obey_line : Scenario → List (List ℕ) → Result Step LineFault
obey_line s [] = Err faults.Form
obey_line s (label ∷ []) = stepped (λ place. steps.Obey place) (section_at s.sections label)
obey_line s (label ∷ other ∷ words) = Err faults.Form

abbrev pub some_lines : Result ℕ LineFault → Result (Option ℕ) LineFault
some_lines (Ok count) = Ok (Some count)
some_lines (Err fault) = Err fault

abbrev pub lines_in : List (List ℕ) → Result (Option ℕ) LineFault
lines_in [] = Ok None
lines_in (word ∷ []) = some_lines (ranged faults.Number 0 4294967295 word)
lines_in (word ∷ other ∷ words) = Err faults.Form

abbrev pub run_line : Scenario → List (List ℕ) → Result Step LineFault
run_line s [] = Err faults.Form
run_line s (label ∷ words) = stepped (λ p. steps.Run p.0 p.1) (both (script_at s.scripts label) (lines_in words))

abbrev pub phase_line : Scenario → List (List ℕ) → Result Step LineFault
phase_line s words = stepped (λ places. steps.Phase places) (phase_of s.scripts words)

-- ---- PUMP n, HANDLE label n, WATCH label, SERVE label n

abbrev pub turns_in : List ℕ → Result ℕ LineFault
turns_in word = ranged (faults.Limit limits.Turns) 1 100000 word

abbrev pub pump_line : List (List ℕ) → Result Step LineFault
pump_line [] = Err faults.Form
pump_line (word ∷ []) = stepped (λ turns. steps.Pump turns) (turns_in word)
pump_line (word ∷ other ∷ words) = Err faults.Form

abbrev pub handle_line : Scenario → List (List ℕ) → Result Step LineFault
handle_line s [] = Err faults.Form
handle_line s (label ∷ []) = Err faults.Form
handle_line s (label ∷ count ∷ []) = stepped (λ p. steps.Handle p.0 p.1) (both (rules_at s.rules label) (turns_in count))
handle_line s (label ∷ count ∷ other ∷ words) = Err faults.Form

abbrev pub watch_line : Scenario → List (List ℕ) → Result Step LineFault
watch_line s [] = Err faults.Form
watch_line s (label ∷ []) = stepped (λ place. steps.Watch place) (monitor_at s.monitors label)
watch_line s (label ∷ other ∷ words) = Err faults.Form

abbrev pub serve_line : Scenario → List (List ℕ) → Result Step LineFault
serve_line s [] = Err faults.Form
serve_line s (label ∷ []) = Err faults.Form
serve_line s (label ∷ count ∷ []) = stepped (λ p. steps.Serve p.0 p.1) (both (monitor_at s.monitors label) (turns_in count))
serve_line s (label ∷ count ∷ other ∷ words) = Err faults.Form

-- ---- CRASH manager, RESTART manager, CUT manager k, CLOCK ms

abbrev pub crash_line : Scenario → List (List ℕ) → Result Step LineFault
crash_line s [] = Err faults.Form
crash_line s (name ∷ []) = stepped (λ place. steps.Crash place) (manager_at s.managers name)
crash_line s (name ∷ other ∷ words) = Err faults.Form

abbrev pub restart_line : Scenario → List (List ℕ) → Result Step LineFault
restart_line s [] = Err faults.Form
restart_line s (name ∷ []) = stepped (λ place. steps.Restart place) (manager_at s.managers name)
restart_line s (name ∷ other ∷ words) = Err faults.Form

abbrev pub cut_count_in : List ℕ → Result ℕ LineFault
cut_count_in word = ranged faults.Number 1 1000 word

abbrev pub cut_line : Scenario → List (List ℕ) → Result Step LineFault
cut_line s [] = Err faults.Form
cut_line s (name ∷ []) = Err faults.Form
cut_line s (name ∷ count ∷ []) = stepped (λ p. steps.Cut p.0 p.1) (both (manager_at s.managers name) (cut_count_in count))
cut_line s (name ∷ count ∷ other ∷ words) = Err faults.Form

abbrev pub clock_line : List (List ℕ) → Result Step LineFault
clock_line [] = Err faults.Form
clock_line (word ∷ []) = stepped (λ moment. steps.Clock moment) (ranged (faults.Limit limits.Clock) 0 999999999 word)
clock_line (word ∷ other ∷ words) = Err faults.Form

-- ---- DO manager command

abbrev pub done_by : Scenario → Option (List ℕ × List ℕ) → Result Step LineFault
done_by s None = Err faults.Form
done_by s (Some p) = stepped (λ q. steps.Do q.0 q.1) (both (manager_at s.managers p.0) (command_in p.1))

abbrev pub do_line : Scenario → List ℕ → Result Step LineFault
do_line s text = done_by s (first_word text)

-- ---- A step

unfoldable pub step_of : Scenario → StepVerb → List (List ℕ) → Result Step LineFault
step_of s verbs.Obey words = obey_line s words
step_of s verbs.Do words = Err faults.Form
step_of s verbs.Run words = run_line s words
step_of s verbs.Phase words = phase_line s words
step_of s verbs.Pump words = pump_line words
step_of s verbs.Handle words = handle_line s words
step_of s verbs.Watch words = watch_line s words
step_of s verbs.Serve words = serve_line s words
step_of s verbs.Crash words = crash_line s words
step_of s verbs.Restart words = restart_line s words
step_of s verbs.Cut words = cut_line s words
step_of s verbs.Clock words = clock_line words

abbrev pub words_read : Scenario → StepVerb → List ℕ → Result Step LineFault
words_read s verb rest = if is_open false rest then Err faults.Form else step_of s verb (words_of rest)

abbrev pub verb_read : Scenario → Option StepVerb → List ℕ → Result Step LineFault
verb_read s None rest = Err faults.Form
verb_read s (Some verbs.Do) rest = do_line s rest
verb_read s (Some verb) rest = words_read s verb rest

abbrev pub step_from : Scenario → Option (List ℕ × List ℕ) → Result Step LineFault
step_from s None = Err faults.Form
step_from s (Some p) = verb_read s (step_verb_of p.0) p.1

-- what a step says, in a scenario whose parts are these
unfoldable pub step_line : Scenario → List ℕ → Result Step LineFault
step_line s line = step_from s (first_word line)
