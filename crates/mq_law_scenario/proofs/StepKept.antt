-- What the lines of scripts and the steps keep to.
use Rattle.std.proofs.Common.{◌≡◌, ◌≢◌, ℕ, ◌+◌, ◌-◌, ◌<◌, ◌≤◌, Bool, true, false, cond, List, [], ◌∷◌, ◌++◌, length, Result, Ok, Err, refl, sym, ap, subst, arith, inl, inr}
use Rattle.std.specs.Prelude.{◌&&◌, ◌||◌, ◌==◌, not, nat_lt, Option, Some, None}
use Rattle.std.specs.Str.{bytes_eq}
use Rattle.std.proofs.lemmas.List.{length-append}
use Rattle.std.proofs.lemmas.Bool.Decides.{nat_tests}
use Rattle.mq_sc_parse.specs.declared.command.Command.{Command}
use Rattle.mq_rules.specs.declared.rule.Table.{Table}
use Rattle.mq_rules_text.specs.declared.fault.RulesFault.{RulesFault}
use Rattle.mq_rules_text.specs.Tables.{table_of}
use Rattle.mq_history.specs.declared.scenario.Scenario.{Scenario}
use Rattle.mq_history.specs.declared.scenario.Section.{Section}
use Rattle.mq_history.specs.declared.scenario.RulesPart.{RulesPart}
use Rattle.mq_history.specs.declared.scenario.ScriptPart.{ScriptPart}
use Rattle.mq_history.specs.declared.scenario.MonitorLine.{MonitorLine}
use Rattle.mq_history.specs.declared.scenario.Step.{Step}
use Rattle.mq_history.specs.declared.scenario.Step.TheVariants as steps
use Rattle.mq_history.specs.Scenarios.{IsStep, Within}
use Rattle.mq_scn_lines.specs.declared.fault.LineFault.{LineFault}
use Rattle.mq_scn_lines.specs.declared.fault.LineFault.TheVariants as faults
use Rattle.mq_scn_lines.specs.declared.fault.Limit.TheVariants as limits
use Rattle.mq_scn_lines.specs.Faults.{both}
use Rattle.mq_scn_lines.specs.Words.{is_open, words_of, first_word}
use Rattle.mq_scn_lines.specs.Numbers.{ranged}
use Rattle.mq_scn_lines.specs.Operands.{label_in}
use Rattle.mq_scn_script.specs.Commands.{command_in}
use Rattle.mq_scn_text.specs.declared.fault.ScenarioFault.{ScenarioFault}
use Rattle.mq_scn_text.specs.declared.sections.Opened.{Opened}
use Rattle.mq_scn_text.specs.declared.sections.SectionRead.{SectionRead}
use Rattle.mq_scn_text.specs.declared.scripts.Script.{Script}
use Rattle.mq_scn_heading.specs.declared.steps.StepVerb.{StepVerb}
use Rattle.mq_scn_heading.specs.declared.steps.StepVerb.TheVariants as verbs
use Rattle.mq_scn_text.specs.Faults.{and_then}
use Rattle.mq_scn_heading.specs.Lookup.{section_place, rules_place, script_place, monitor_place, manager_at, section_at, rules_at, script_at, monitor_at}
use Rattle.mq_scn_heading.specs.Phases.{is_good, are_labels, is_script, are_scripts, with_place, places_from, is_in, are_single, single, phase_of}
use Rattle.mq_scn_text.specs.Sections.{section_read, section_of, mqsc_ended, rules_or_fault, rules_ended}
use Rattle.mq_scn_text.specs.Scripts.{put_len, script_added}
use Rattle.mq_scn_heading.specs.Steps.{step_verb_of, stepped, obey_line, lines_in, run_line, phase_line, turns_in, pump_line, handle_line, watch_line, serve_line, crash_line, restart_line, cut_count_in, cut_line, clock_line, done_by, step_of, words_read, verb_read, step_from, step_line}
use Rattle.mq_law_scenario.specs.Texts.{AreSpoken}
use Rattle.mq_law_scenario.proofs.Each.{Each, each_more, each_all, Apart, apart_all, found_within}
use Rattle.mq_scn_parts.specs.Steps.{IsStepLine}
use Rattle.mq_scn_parts.proofs.StepLines.{step_is_read}
use Rattle.mq_law_scenario.proofs.Said.{fine, same_ok, both_ok, unless, ranged_within, found_place, manager_within}

-- ---- scripts

-- a script's label and manager stay, and its lines are few
pub record IsScriptOf (label : List ℕ) (manager : ℕ) (t : Script) : Type 0 where
  pub labelled : t.part.label ≡ label
  pub managed : t.part.manager ≡ manager
  pub few : length t.part.lines ≤ 25000

pub spoken_kept : (lines : List (List ℕ)) (left : ℕ) (s : Script) (behind : ℕ) (t : Script) (label : List ℕ) (manager : ℕ) → AreSpoken left s lines behind t → IsScriptOf label manager s → IsScriptOf label manager t
spoken_kept [] left s behind t label manager (e, f) h = subst (IsScriptOf label manager) (sym f) h
spoken_kept (line ∷ lines) left s behind t label manager (inl (e, hs)) h = spoken_kept lines left s behind t label manager hs h
spoken_kept (line ∷ lines) left s behind t label manager (inr (said, e, hs)) h =
    let more : length (s.part.lines ++ said ∷ []) ≡ length s.part.lines + 1 = length-append s.part.lines (said ∷ []) in
    spoken_kept lines (left - put_len said) (script_added said s) behind t label manager hs (record { labelled = h.labelled; managed = h.managed; few = (let room = e.room in omega (arith, more, room)) })

-- ---- sections and tables

abbrev good : {A : Type 0} → A → Result A ScenarioFault
good a = Ok a

section_by : (number : ℕ) (o : Opened) (read : SectionRead) (section : Section) (t : Bool) (fault : ScenarioFault)
    → cond t (Err fault) (Ok (record { label = o.label; manager = o.manager; commands = read.commands })) ≡ good section → (section.label ≡ o.label) × (section.manager ≡ o.manager)
section_by number o read section true fault e = absurd cc
section_by number o read section false fault e =
    let same : record { label = o.label; manager = o.manager; commands = read.commands } ≡ section = cc in
    (sym (ap (λ (s : Section). s.label) same), sym (ap (λ (s : Section). s.manager) same))

section_from : (number : ℕ) (o : Opened) (section : Section) (r : Result SectionRead ScenarioFault) → and_then r (section_of number o) ≡ good section → (section.label ≡ o.label) × (section.manager ≡ o.manager)
section_from number o section (Ok read) e = section_by number o read section read.unfinished _ e
section_from number o section (Err f) e = absurd cc

pub section_kept : (number : ℕ) (o : Opened) (section : Section) → mqsc_ended number o ≡ good section → (section.label ≡ o.label) × (section.manager ≡ o.manager)
unfolding mqsc_ended
section_kept number o section e = section_from number o section (section_read o.first o.text) e

table_by : (o : Opened) (part : RulesPart) (r : Result Table RulesFault) → rules_or_fault o r ≡ good part → (part.label ≡ o.label) × (part.manager ≡ o.manager)
table_by o part (Ok table) e =
    let same : record { label = o.label; manager = o.manager; table = table } ≡ part = cc in
    (sym (ap (λ (p : RulesPart). p.label) same), sym (ap (λ (p : RulesPart). p.manager) same))
table_by o part (Err f) e = absurd cc

pub table_kept : (own : List ℕ) (o : Opened) (part : RulesPart) → rules_ended own o ≡ good part → (part.label ≡ o.label) × (part.manager ≡ o.manager)
unfolding rules_ended
table_kept own o part e = table_by o part (table_of own o.text) e

-- ---- steps

-- places of scripts: two or more, none twice
pub record ArePlaces (scripts : ℕ) (ks : List ℕ) : Type 0 where
  pub some : 2 ≤ length ks
  pub there : Each (λ (k : ℕ). k < scripts) ks
  pub differ : Apart ks

-- what a step names is there, of so many managers, sections, rules tables, scripts and monitors
abbrev pub StepIn : (managers sections rules scripts monitors : ℕ) → Step → Type 0
StepIn m s r c o (steps.Obey k) = k < s
StepIn m s r c o (steps.Do k command) = k < m
StepIn m s r c o (steps.Run k n) = k < c
StepIn m s r c o (steps.Phase ks) = ArePlaces c ks
StepIn m s r c o (steps.Pump n) = Within 1 100000 n
StepIn m s r c o (steps.Handle k n) = (k < r) × Within 1 100000 n
StepIn m s r c o (steps.Watch k) = k < o
StepIn m s r c o (steps.Serve k n) = (k < o) × Within 1 100000 n
StepIn m s r c o (steps.Crash k) = k < m
StepIn m s r c o (steps.Restart k) = k < m
StepIn m s r c o (steps.Cut k n) = (k < m) × Within 1 1000 n
StepIn m s r c o (steps.Clock ms) = ms ≤ 999999999

abbrev pub Named : Scenario → Step → Type 0
Named s step = StepIn (length s.managers) (length s.sections) (length s.rules) (length s.scripts) (length s.monitors) step

pub step_is : (s : Scenario) (step : Step) → Named s step → IsStep s step
step_is s (steps.Obey k) h = h
step_is s (steps.Do k command) h = h
step_is s (steps.Run k n) h = h
step_is s (steps.Phase ks) h = record { some = h.some; there = each_all (λ (k : ℕ). k < length s.scripts) ks h.there; differ = apart_all ks h.differ }
step_is s (steps.Pump n) h = h
step_is s (steps.Handle k n) h = h
step_is s (steps.Watch k) h = h
step_is s (steps.Serve k n) h = h
step_is s (steps.Crash k) h = h
step_is s (steps.Restart k) h = h
step_is s (steps.Cut k n) h = h
step_is s (steps.Clock ms) h = h

section_within : (sections : List Section) (word : List ℕ) (n : ℕ) → section_at sections word ≡ fine n → n < length sections
section_within sections word n e = let f = found_place (λ (l : List ℕ). section_place l sections) (label_in word) n e in found_within (λ (s : Section). bytes_eq s.label f.0) sections n f.1

rules_within : (rules : List RulesPart) (word : List ℕ) (n : ℕ) → rules_at rules word ≡ fine n → n < length rules
rules_within rules word n e = let f = found_place (λ (l : List ℕ). rules_place l rules) (label_in word) n e in found_within (λ (r : RulesPart). bytes_eq r.label f.0) rules n f.1

script_within : (scripts : List ScriptPart) (word : List ℕ) (n : ℕ) → script_at scripts word ≡ fine n → n < length scripts
script_within scripts word n e = let f = found_place (λ (l : List ℕ). script_place l scripts) (label_in word) n e in found_within (λ (s : ScriptPart). bytes_eq s.label f.0) scripts n f.1

monitor_within : (monitors : List MonitorLine) (word : List ℕ) (n : ℕ) → monitor_at monitors word ≡ fine n → n < length monitors
monitor_within monitors word n e = let f = found_place (λ (l : List ℕ). monitor_place l monitors) (label_in word) n e in found_within (λ (m : MonitorLine). bytes_eq m.label f.0) monitors n f.1

stepped_by : {A : Type 0} (f : A → Step) (r : Result A LineFault) (step : Step) → stepped f r ≡ fine step → (x : A) × (r ≡ fine x) × (f x ≡ step)
stepped_by f (Ok x) step e = (x, refl, same_ok (f x) step e)
stepped_by f (Err g) step e = absurd cc

obey_kept : (s : Scenario) (ws : List (List ℕ)) (step : Step) → obey_line s ws ≡ fine step → Named s step
obey_kept s [] step e = absurd cc
obey_kept s (w ∷ []) step e = let u = stepped_by (λ k. steps.Obey k) (section_at s.sections w) step e in subst (Named s) u.2 (section_within s.sections w u.0 u.1)
obey_kept s (w ∷ v ∷ ws) step e = absurd cc

run_kept : (s : Scenario) (ws : List (List ℕ)) (step : Step) → run_line s ws ≡ fine step → Named s step
run_kept s [] step e = absurd cc
run_kept s (w ∷ ws) step e =
    let u = stepped_by (λ (p : ℕ × Option ℕ). steps.Run p.0 p.1) (both (script_at s.scripts w) (lines_in ws)) step e in
    subst (Named s) u.2 (script_within s.scripts w u.0.0 (both_ok (script_at s.scripts w) (lines_in ws) u.0.0 u.0.1 u.1).0)

good_one : {A : Type 0} (r : Result A LineFault) → is_good r ≡ true → (x : A) × (r ≡ fine x)
good_one (Ok x) e = (x, refl)
good_one (Err f) e = absurd cc

all_of : (a b : Bool) → (a && b) ≡ true → (a ≡ true) × (b ≡ true)
all_of true b e = (refl, e)
all_of false b e = absurd cc

-- the places of scripts that are all there
record Placed (n : ℕ) (front : List ℕ) (ws : List (List ℕ)) (places : List ℕ) : Type 0 where
  pub there : Each (λ (k : ℕ). k < n) places
  pub long : length places ≡ length front + length ws

placed : (scripts : List ScriptPart) (ws : List (List ℕ)) (front : List ℕ) → Each (λ (k : ℕ). k < length scripts) front → are_scripts scripts ws ≡ true → Placed (length scripts) front ws (places_from scripts front ws)
placed scripts [] front h e = record { there = h; long = omega arith }
placed scripts (w ∷ ws) front h e =
    let a = all_of (is_script scripts w) (are_scripts scripts ws) e in
    let g = good_one (script_at scripts w) a.0 in
    let more : Each (λ (k : ℕ). k < length scripts) (front ++ g.0 ∷ []) = each_more (λ (k : ℕ). k < length scripts) front g.0 h (script_within scripts w g.0 g.1) in
    let p = placed scripts ws (front ++ g.0 ∷ []) more a.1 in
    let same : with_place front (script_at scripts w) ≡ front ++ g.0 ∷ [] = ap (with_place front) g.1 in
    let long : length (places_from scripts (front ++ g.0 ∷ []) ws) ≡ length front + length (w ∷ ws) = omega (arith, p.long, length-append front (g.0 ∷ [])) in
    subst (λ (f : List ℕ). Placed (length scripts) front (w ∷ ws) (places_from scripts f ws)) (sym same) (record { there = p.there; long = long })

neither_of : (a b : Bool) → (a || b) ≡ false → (a ≡ false) × (b ≡ false)
neither_of true b e = absurd cc
neither_of false b e = (refl, e)

apart_from : (j k : ℕ) → (j == k) ≡ false → k ≢ j
apart_from j k e same = grind (arith, nat_tests)

not_in : (k : ℕ) (ks : List ℕ) → is_in k ks ≡ false → Each (λ (j : ℕ). k ≢ j) ks
not_in k [] e = tt
not_in k (j ∷ ks) e = let n = neither_of (j == k) (is_in k ks) e in (apart_from j k n.0, not_in k ks n.1)

not_true : (t : Bool) → not t ≡ true → t ≡ false
not_true true e = absurd cc
not_true false e = refl

single_apart : (ks : List ℕ) → are_single ks ≡ true → Apart ks
single_apart [] e = tt
single_apart (k ∷ ks) e = let a = all_of (not (is_in k ks)) (are_single ks) e in (not_in k ks (not_true (is_in k ks) a.0), single_apart ks a.1)

single_by : (ks places : List ℕ) (t : Bool) → are_single ks ≡ t → cond t (fine ks) (Err faults.Twice) ≡ fine places → (ks ≡ places) × (are_single ks ≡ true)
single_by ks places true e f = (same_ok ks places f, e)
single_by ks places false e f = absurd cc

phase_from : (scripts : List ScriptPart) (ws : List (List ℕ)) (places : List ℕ) (t u v : Bool) → nat_lt (length ws) 2 ≡ t → are_scripts scripts ws ≡ v
    → cond t (Err faults.Form) (cond (not u) (Err faults.Name) (cond (not v) (Err faults.Unknown) (single (places_from scripts [] ws)))) ≡ fine places → ArePlaces (length scripts) places
phase_from scripts ws places true u v e f g = absurd cc
phase_from scripts ws places false false v e f g = absurd cc
phase_from scripts ws places false true false e f g = absurd cc
phase_from scripts ws places false true true e f g =
    let all : List ℕ = places_from scripts [] ws in
    let p = placed scripts ws [] tt f in
    let s = single_by all places (are_single all) refl g in
    let two : 2 ≤ length ws = grind (arith, nat_tests) in
    subst (ArePlaces (length scripts)) s.0 (record { some = omega (arith, p.long, two); there = p.there; differ = single_apart all s.1 })

phase_places : (scripts : List ScriptPart) (ws : List (List ℕ)) (places : List ℕ) → phase_of scripts ws ≡ fine places → ArePlaces (length scripts) places
unfolding phase_of
phase_places scripts ws places e = phase_from scripts ws places (nat_lt (length ws) 2) (are_labels ws) (are_scripts scripts ws) refl refl e

phase_kept : (s : Scenario) (ws : List (List ℕ)) (step : Step) → phase_line s ws ≡ fine step → Named s step
phase_kept s ws step e = let u = stepped_by (λ (ks : List ℕ). steps.Phase ks) (phase_of s.scripts ws) step e in subst (Named s) u.2 (phase_places s.scripts ws u.0 u.1)

turns_within : (w : List ℕ) (n : ℕ) → turns_in w ≡ fine n → Within 1 100000 n
turns_within w n e = ranged_within (faults.Limit limits.Turns) 1 100000 w n e

pump_kept : (s : Scenario) (ws : List (List ℕ)) (step : Step) → pump_line ws ≡ fine step → Named s step
pump_kept s [] step e = absurd cc
pump_kept s (w ∷ []) step e = let u = stepped_by (λ (n : ℕ). steps.Pump n) (turns_in w) step e in subst (Named s) u.2 (turns_within w u.0 u.1)
pump_kept s (w ∷ v ∷ ws) step e = absurd cc

handle_kept : (s : Scenario) (ws : List (List ℕ)) (step : Step) → handle_line s ws ≡ fine step → Named s step
handle_kept s [] step e = absurd cc
handle_kept s (w ∷ []) step e = absurd cc
handle_kept s (w ∷ v ∷ []) step e =
    let u = stepped_by (λ (p : ℕ × ℕ). steps.Handle p.0 p.1) (both (rules_at s.rules w) (turns_in v)) step e in
    let b = both_ok (rules_at s.rules w) (turns_in v) u.0.0 u.0.1 u.1 in
    subst (Named s) u.2 (rules_within s.rules w u.0.0 b.0, turns_within v u.0.1 b.1)
handle_kept s (w ∷ v ∷ x ∷ ws) step e = absurd cc

watch_kept : (s : Scenario) (ws : List (List ℕ)) (step : Step) → watch_line s ws ≡ fine step → Named s step
watch_kept s [] step e = absurd cc
watch_kept s (w ∷ []) step e = let u = stepped_by (λ (k : ℕ). steps.Watch k) (monitor_at s.monitors w) step e in subst (Named s) u.2 (monitor_within s.monitors w u.0 u.1)
watch_kept s (w ∷ v ∷ ws) step e = absurd cc

serve_kept : (s : Scenario) (ws : List (List ℕ)) (step : Step) → serve_line s ws ≡ fine step → Named s step
serve_kept s [] step e = absurd cc
serve_kept s (w ∷ []) step e = absurd cc
serve_kept s (w ∷ v ∷ []) step e =
    let u = stepped_by (λ (p : ℕ × ℕ). steps.Serve p.0 p.1) (both (monitor_at s.monitors w) (turns_in v)) step e in
    let b = both_ok (monitor_at s.monitors w) (turns_in v) u.0.0 u.0.1 u.1 in
    subst (Named s) u.2 (monitor_within s.monitors w u.0.0 b.0, turns_within v u.0.1 b.1)
serve_kept s (w ∷ v ∷ x ∷ ws) step e = absurd cc

crash_kept : (s : Scenario) (ws : List (List ℕ)) (step : Step) → crash_line s ws ≡ fine step → Named s step
crash_kept s [] step e = absurd cc
crash_kept s (w ∷ []) step e = let u = stepped_by (λ (k : ℕ). steps.Crash k) (manager_at s.managers w) step e in subst (Named s) u.2 (manager_within s.managers w u.0 u.1)
crash_kept s (w ∷ v ∷ ws) step e = absurd cc

restart_kept : (s : Scenario) (ws : List (List ℕ)) (step : Step) → restart_line s ws ≡ fine step → Named s step
restart_kept s [] step e = absurd cc
restart_kept s (w ∷ []) step e = let u = stepped_by (λ (k : ℕ). steps.Restart k) (manager_at s.managers w) step e in subst (Named s) u.2 (manager_within s.managers w u.0 u.1)
restart_kept s (w ∷ v ∷ ws) step e = absurd cc

cut_kept : (s : Scenario) (ws : List (List ℕ)) (step : Step) → cut_line s ws ≡ fine step → Named s step
cut_kept s [] step e = absurd cc
cut_kept s (w ∷ []) step e = absurd cc
cut_kept s (w ∷ v ∷ []) step e =
    let u = stepped_by (λ (p : ℕ × ℕ). steps.Cut p.0 p.1) (both (manager_at s.managers w) (cut_count_in v)) step e in
    let b = both_ok (manager_at s.managers w) (cut_count_in v) u.0.0 u.0.1 u.1 in
    subst (Named s) u.2 (manager_within s.managers w u.0.0 b.0, ranged_within faults.Number 1 1000 v u.0.1 b.1)
cut_kept s (w ∷ v ∷ x ∷ ws) step e = absurd cc

clock_kept : (s : Scenario) (ws : List (List ℕ)) (step : Step) → clock_line ws ≡ fine step → Named s step
clock_kept s [] step e = absurd cc
clock_kept s (w ∷ []) step e = let u = stepped_by (λ (n : ℕ). steps.Clock n) (ranged (faults.Limit limits.Clock) 0 999999999 w) step e in subst (Named s) u.2 (ranged_within (faults.Limit limits.Clock) 0 999999999 w u.0 u.1).1
clock_kept s (w ∷ v ∷ ws) step e = absurd cc

do_by : (s : Scenario) (o : Option (List ℕ × List ℕ)) (step : Step) → done_by s o ≡ fine step → Named s step
do_by s None step e = absurd cc
do_by s (Some (w, text)) step e =
    let u = stepped_by (λ (q : ℕ × Command). steps.Do q.0 q.1) (both (manager_at s.managers w) (command_in text)) step e in
    subst (Named s) u.2 (manager_within s.managers w u.0.0 (both_ok (manager_at s.managers w) (command_in text) u.0.0 u.0.1 u.1).0)

verb_kept : (s : Scenario) (verb : StepVerb) (ws : List (List ℕ)) (step : Step) → step_of s verb ws ≡ fine step → Named s step
unfolding step_of
verb_kept s verbs.Obey ws step e = obey_kept s ws step e
verb_kept s verbs.Do ws step e = absurd cc
verb_kept s verbs.Run ws step e = run_kept s ws step e
verb_kept s verbs.Phase ws step e = phase_kept s ws step e
verb_kept s verbs.Pump ws step e = pump_kept s ws step e
verb_kept s verbs.Handle ws step e = handle_kept s ws step e
verb_kept s verbs.Watch ws step e = watch_kept s ws step e
verb_kept s verbs.Serve ws step e = serve_kept s ws step e
verb_kept s verbs.Crash ws step e = crash_kept s ws step e
verb_kept s verbs.Restart ws step e = restart_kept s ws step e
verb_kept s verbs.Cut ws step e = cut_kept s ws step e
verb_kept s verbs.Clock ws step e = clock_kept s ws step e

words_kept : (s : Scenario) (verb : StepVerb) (rest : List ℕ) (step : Step) → words_read s verb rest ≡ fine step → Named s step
words_kept s verb rest step e = verb_kept s verb (words_of rest) step (unless (is_open false rest) faults.Form (step_of s verb (words_of rest)) step e).1

read_kept : (s : Scenario) (o : Option StepVerb) (rest : List ℕ) (step : Step) → verb_read s o rest ≡ fine step → Named s step
read_kept s None rest step e = absurd cc
read_kept s (Some verbs.Do) rest step e = do_by s (first_word rest) step e
read_kept s (Some verbs.Obey) rest step e = words_kept s verbs.Obey rest step e
read_kept s (Some verbs.Run) rest step e = words_kept s verbs.Run rest step e
read_kept s (Some verbs.Phase) rest step e = words_kept s verbs.Phase rest step e
read_kept s (Some verbs.Pump) rest step e = words_kept s verbs.Pump rest step e
read_kept s (Some verbs.Handle) rest step e = words_kept s verbs.Handle rest step e
read_kept s (Some verbs.Watch) rest step e = words_kept s verbs.Watch rest step e
read_kept s (Some verbs.Serve) rest step e = words_kept s verbs.Serve rest step e
read_kept s (Some verbs.Crash) rest step e = words_kept s verbs.Crash rest step e
read_kept s (Some verbs.Restart) rest step e = words_kept s verbs.Restart rest step e
read_kept s (Some verbs.Cut) rest step e = words_kept s verbs.Cut rest step e
read_kept s (Some verbs.Clock) rest step e = words_kept s verbs.Clock rest step e

from_kept : (s : Scenario) (o : Option (List ℕ × List ℕ)) (step : Step) → step_from s o ≡ fine step → Named s step
from_kept s None step e = absurd cc
from_kept s (Some p) step e = read_kept s (step_verb_of p.0) p.1 step e

line_kept : (s : Scenario) (line : List ℕ) (step : Step) → step_line s line ≡ fine step → Named s step
unfolding step_line
line_kept s line step e = from_kept s (first_word line) step e

pub step_kept : (s : Scenario) (line : List ℕ) (step : Step) → IsStepLine s line step → Named s step
step_kept s line step h = line_kept s line step (step_is_read s line step h)
