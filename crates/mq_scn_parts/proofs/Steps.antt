-- Steps by their words, both ways.
use Rattle.std.proofs.Common.{◌≡◌, ℕ, List, [], ◌∷◌, Result, refl}
use Rattle.std.specs.Prelude.{Option, Some}
use Rattle.mq_history.specs.declared.scenario.Scenario.{Scenario}
use Rattle.mq_history.specs.declared.scenario.Step.{Step}
use Rattle.mq_history.specs.declared.scenario.Step.TheVariants as steps
use Rattle.mq_scn_lines.specs.declared.fault.Limit.TheVariants as limits
use Rattle.mq_scn_lines.specs.declared.fault.LineFault.{LineFault}
use Rattle.mq_scn_lines.specs.declared.fault.LineFault.TheVariants as faults
use Rattle.mq_scn_lines.specs.Faults.{both}
use Rattle.mq_scn_lines.specs.Numbers.{ranged}
use Rattle.mq_scn_heading.specs.declared.steps.StepVerb.{StepVerb}
use Rattle.mq_scn_heading.specs.declared.steps.StepVerb.TheVariants as verbs
use Rattle.mq_scn_heading.specs.Lookup.{manager_at, section_at, rules_at, script_at, monitor_at}
use Rattle.mq_scn_heading.specs.Phases.{phase_of}
use Rattle.mq_scn_heading.specs.Steps.{stepped, obey_line, some_lines, lines_in, run_line, phase_line, turns_in, pump_line, handle_line, watch_line, serve_line, crash_line, restart_line, cut_count_in, cut_line, clock_line, step_of}
use Rattle.mq_scn_grammar.specs.LineOptions.{NumberIn, NumberFault}
use Rattle.mq_scn_grammar.proofs.Told.{Reports, told_both, told_map}
use Rattle.mq_scn_grammar.proofs.Numbers.{ranged_tells}
use Rattle.mq_scn_parts.specs.Declared.{manager_names, section_labels, rules_labels, script_labels, monitor_labels, NamesPlace, HasNameFault, LabelsPlace, HasLabelFault}
use Rattle.mq_scn_parts.specs.Steps.{HasOneLabelFault, HasOneNameFault, IsCount, HasCountFault, IsRun, HasRunFault, IsPhase, HasPhaseFault, IsTurns, HasTurnsFault, HasPumpFault, IsTurned, HasTurnedFault, IsCut, HasCutFault, HasClockFault, IsStepOf, HasStepOfFault}
use Rattle.mq_scn_parts.proofs.Then.{form_tells}
use Rattle.mq_scn_parts.proofs.Declared.{manager_tells, section_tells, rules_tells, script_tells, monitor_tells}
use Rattle.mq_scn_parts.proofs.Phases.{phase_tells}

-- a step made of a value
abbrev Made : {A : Type 0} → (A → Type 0) → (A → Step) → Step → Type 0
Made Is make step = (x : _) × Is x × (step ≡ make x)

made_tells : {A : Type 0} (Is : A → Type 0) (Has : LineFault → Type 0) (make : A → Step) (r : Result A LineFault) → Reports Is Has r → Reports (Made Is make) Has (stepped make r)
made_tells Is Has make r t = told_map Is Has make (stepped make) (Made Is make) (λ x. refl) (λ f. refl) (λ x h. (x, h, refl)) (λ y h. h) r t

module _ (s : Scenario) where
  abbrev names : List (List ℕ)
  names = manager_names s.managers

  abbrev sections : List (List ℕ)
  sections = section_labels s.sections

  abbrev rules : List (List ℕ)
  rules = rules_labels s.rules

  abbrev scripts : List (List ℕ)
  scripts = script_labels s.scripts

  abbrev monitors : List (List ℕ)
  monitors = monitor_labels s.monitors

  obey_tells : (ws : List (List ℕ)) → Reports (IsStepOf s verbs.Obey ws) (HasOneLabelFault sections ws) (obey_line s ws)
  obey_tells [] = form_tells (IsStepOf s verbs.Obey []) (λ y h. h.1)
  obey_tells (w ∷ []) = made_tells (LabelsPlace sections w) (HasLabelFault sections w) (λ (k : ℕ). steps.Obey k) (section_at s.sections w) (section_tells s.sections w)
  obey_tells (w ∷ v ∷ ws) = form_tells (IsStepOf s verbs.Obey (w ∷ v ∷ ws)) (λ y h. h.1)

  watch_tells : (ws : List (List ℕ)) → Reports (IsStepOf s verbs.Watch ws) (HasOneLabelFault monitors ws) (watch_line s ws)
  watch_tells [] = form_tells (IsStepOf s verbs.Watch []) (λ y h. h.1)
  watch_tells (w ∷ []) = made_tells (LabelsPlace monitors w) (HasLabelFault monitors w) (λ (k : ℕ). steps.Watch k) (monitor_at s.monitors w) (monitor_tells s.monitors w)
  watch_tells (w ∷ v ∷ ws) = form_tells (IsStepOf s verbs.Watch (w ∷ v ∷ ws)) (λ y h. h.1)

  crash_tells : (ws : List (List ℕ)) → Reports (IsStepOf s verbs.Crash ws) (HasOneNameFault names ws) (crash_line s ws)
  crash_tells [] = form_tells (IsStepOf s verbs.Crash []) (λ y h. h.1)
  crash_tells (w ∷ []) = made_tells (NamesPlace names w) (HasNameFault names w) (λ (k : ℕ). steps.Crash k) (manager_at s.managers w) (manager_tells s.managers w)
  crash_tells (w ∷ v ∷ ws) = form_tells (IsStepOf s verbs.Crash (w ∷ v ∷ ws)) (λ y h. h.1)

  restart_tells : (ws : List (List ℕ)) → Reports (IsStepOf s verbs.Restart ws) (HasOneNameFault names ws) (restart_line s ws)
  restart_tells [] = form_tells (IsStepOf s verbs.Restart []) (λ y h. h.1)
  restart_tells (w ∷ []) = made_tells (NamesPlace names w) (HasNameFault names w) (λ (k : ℕ). steps.Restart k) (manager_at s.managers w) (manager_tells s.managers w)
  restart_tells (w ∷ v ∷ ws) = form_tells (IsStepOf s verbs.Restart (w ∷ v ∷ ws)) (λ y h. h.1)

  count_tells : (ws : List (List ℕ)) → Reports (IsCount ws) (HasCountFault ws) (lines_in ws)
  count_tells [] = (refl, (λ y h. h), λ f h. h)
  count_tells (w ∷ []) =
      told_map (NumberIn 0 4294967295 w) (NumberFault faults.Number 0 4294967295 w) (λ (k : ℕ). Some k) some_lines (IsCount (w ∷ [])) (λ x. refl) (λ f. refl) (λ x h. (x, h, refl)) (λ y h. h)
      (ranged faults.Number 0 4294967295 w) (ranged_tells faults.Number refl 0 4294967295 w)
  count_tells (w ∷ v ∷ ws) = form_tells (IsCount (w ∷ v ∷ ws)) (λ y h. h)

  run_tells : (ws : List (List ℕ)) → Reports (IsStepOf s verbs.Run ws) (HasRunFault scripts ws) (run_line s ws)
  run_tells [] = form_tells (IsStepOf s verbs.Run []) (λ y h. h.1)
  run_tells (w ∷ ws) =
      made_tells (IsRun scripts (w ∷ ws)) (HasRunFault scripts (w ∷ ws)) (λ (p : ℕ × Option ℕ). steps.Run p.0 p.1) (both (script_at s.scripts w) (lines_in ws))
      (told_both (LabelsPlace scripts w) (IsCount ws) (HasLabelFault scripts w) (HasCountFault ws) (script_at s.scripts w) (lines_in ws) (script_tells s.scripts w) (count_tells ws))

  phase_line_tells : (ws : List (List ℕ)) → Reports (IsStepOf s verbs.Phase ws) (HasPhaseFault scripts ws) (phase_line s ws)
  phase_line_tells ws = made_tells (IsPhase scripts ws) (HasPhaseFault scripts ws) (λ (ks : List ℕ). steps.Phase ks) (phase_of s.scripts ws) (phase_tells s.scripts ws)

  turns_tell : (w : List ℕ) → Reports (IsTurns w) (HasTurnsFault w) (turns_in w)
  turns_tell w = ranged_tells (faults.Limit limits.Turns) refl 1 100000 w

  pump_tells : (ws : List (List ℕ)) → Reports (IsStepOf s verbs.Pump ws) (HasPumpFault ws) (pump_line ws)
  pump_tells [] = form_tells (IsStepOf s verbs.Pump []) (λ y h. h.1)
  pump_tells (w ∷ []) = made_tells (IsTurns w) (HasTurnsFault w) (λ (n : ℕ). steps.Pump n) (turns_in w) (turns_tell w)
  pump_tells (w ∷ v ∷ ws) = form_tells (IsStepOf s verbs.Pump (w ∷ v ∷ ws)) (λ y h. h.1)

  handle_tells : (ws : List (List ℕ)) → Reports (IsStepOf s verbs.Handle ws) (HasTurnedFault rules ws) (handle_line s ws)
  handle_tells [] = form_tells (IsStepOf s verbs.Handle []) (λ y h. h.1)
  handle_tells (w ∷ []) = form_tells (IsStepOf s verbs.Handle (w ∷ [])) (λ y h. h.1)
  handle_tells (w ∷ v ∷ []) =
      made_tells (IsTurned rules (w ∷ v ∷ [])) (HasTurnedFault rules (w ∷ v ∷ [])) (λ (p : ℕ × ℕ). steps.Handle p.0 p.1) (both (rules_at s.rules w) (turns_in v))
      (told_both (LabelsPlace rules w) (IsTurns v) (HasLabelFault rules w) (HasTurnsFault v) (rules_at s.rules w) (turns_in v) (rules_tells s.rules w) (turns_tell v))
  handle_tells (w ∷ v ∷ x ∷ ws) = form_tells (IsStepOf s verbs.Handle (w ∷ v ∷ x ∷ ws)) (λ y h. h.1)

  serve_tells : (ws : List (List ℕ)) → Reports (IsStepOf s verbs.Serve ws) (HasTurnedFault monitors ws) (serve_line s ws)
  serve_tells [] = form_tells (IsStepOf s verbs.Serve []) (λ y h. h.1)
  serve_tells (w ∷ []) = form_tells (IsStepOf s verbs.Serve (w ∷ [])) (λ y h. h.1)
  serve_tells (w ∷ v ∷ []) =
      made_tells (IsTurned monitors (w ∷ v ∷ [])) (HasTurnedFault monitors (w ∷ v ∷ [])) (λ (p : ℕ × ℕ). steps.Serve p.0 p.1) (both (monitor_at s.monitors w) (turns_in v))
      (told_both (LabelsPlace monitors w) (IsTurns v) (HasLabelFault monitors w) (HasTurnsFault v) (monitor_at s.monitors w) (turns_in v) (monitor_tells s.monitors w) (turns_tell v))
  serve_tells (w ∷ v ∷ x ∷ ws) = form_tells (IsStepOf s verbs.Serve (w ∷ v ∷ x ∷ ws)) (λ y h. h.1)

  cut_tells : (ws : List (List ℕ)) → Reports (IsStepOf s verbs.Cut ws) (HasCutFault names ws) (cut_line s ws)
  cut_tells [] = form_tells (IsStepOf s verbs.Cut []) (λ y h. h.1)
  cut_tells (w ∷ []) = form_tells (IsStepOf s verbs.Cut (w ∷ [])) (λ y h. h.1)
  cut_tells (w ∷ v ∷ []) =
      made_tells (IsCut names (w ∷ v ∷ [])) (HasCutFault names (w ∷ v ∷ [])) (λ (p : ℕ × ℕ). steps.Cut p.0 p.1) (both (manager_at s.managers w) (cut_count_in v))
      (told_both (NamesPlace names w) (NumberIn 1 1000 v) (HasNameFault names w) (NumberFault faults.Number 1 1000 v) (manager_at s.managers w) (cut_count_in v) (manager_tells s.managers w) (ranged_tells faults.Number refl 1 1000 v))
  cut_tells (w ∷ v ∷ x ∷ ws) = form_tells (IsStepOf s verbs.Cut (w ∷ v ∷ x ∷ ws)) (λ y h. h.1)

  clock_tells : (ws : List (List ℕ)) → Reports (IsStepOf s verbs.Clock ws) (HasClockFault ws) (clock_line ws)
  clock_tells [] = form_tells (IsStepOf s verbs.Clock []) (λ y h. h.1)
  clock_tells (w ∷ []) =
      made_tells (NumberIn 0 999999999 w) (NumberFault (faults.Limit limits.Clock) 0 999999999 w) (λ (n : ℕ). steps.Clock n) (ranged (faults.Limit limits.Clock) 0 999999999 w) (ranged_tells (faults.Limit limits.Clock) refl 0 999999999 w)
  clock_tells (w ∷ v ∷ ws) = form_tells (IsStepOf s verbs.Clock (w ∷ v ∷ ws)) (λ y h. h.1)

  pub words_tell : (verb : StepVerb) (ws : List (List ℕ)) → Reports (IsStepOf s verb ws) (HasStepOfFault s verb ws) (step_of s verb ws)
  unfolding step_of
  words_tell verbs.Obey ws = obey_tells ws
  words_tell verbs.Do ws = form_tells (IsStepOf s verbs.Do ws) (λ y h. h)
  words_tell verbs.Run ws = run_tells ws
  words_tell verbs.Phase ws = phase_line_tells ws
  words_tell verbs.Pump ws = pump_tells ws
  words_tell verbs.Handle ws = handle_tells ws
  words_tell verbs.Watch ws = watch_tells ws
  words_tell verbs.Serve ws = serve_tells ws
  words_tell verbs.Crash ws = crash_tells ws
  words_tell verbs.Restart ws = restart_tells ws
  words_tell verbs.Cut ws = cut_tells ws
  words_tell verbs.Clock ws = clock_tells ws
