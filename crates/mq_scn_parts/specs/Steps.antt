-- Steps: what the words of each are, and why a text is none.
use Rattle.std.specs.Prelude.{◌≡◌, ◌⊎◌, ℕ, ◌≤◌, ◌<◌, List, [], ◌∷◌, ◌++◌, length, codes, Option, None, Some}
use Rattle.mq_base.specs.Members.{AreDistinct}
use Rattle.mq_sc_parse.specs.declared.command.Command.{Command}
use Rattle.mq_history.specs.declared.scenario.Scenario.{Scenario}
use Rattle.mq_history.specs.declared.scenario.Step.{Step}
use Rattle.mq_history.specs.declared.scenario.Step.TheVariants as steps
use Rattle.mq_scn_lines.specs.declared.fault.Limit.TheVariants as limits
use Rattle.mq_scn_lines.specs.declared.fault.LineFault.{LineFault}
use Rattle.mq_scn_lines.specs.declared.fault.LineFault.TheVariants as faults
use Rattle.mq_scn_heading.specs.declared.steps.StepVerb.{StepVerb}
use Rattle.mq_scn_heading.specs.declared.steps.StepVerb.TheVariants as verbs
use Rattle.mq_scn_heading.specs.Steps.{step_text}
use Rattle.mq_scn_grammar.specs.Words.{Mem, AreBlanks, BeginsBlank, AreWords, IsFirstWord}
use Rattle.mq_scn_grammar.specs.Commands.{IsOneCommand, HasCommandFault}
use Rattle.mq_scn_grammar.specs.Faults.{IsTold}
use Rattle.mq_scn_grammar.specs.LineOptions.{NumberIn, NumberFault}
use Rattle.mq_scn_parts.specs.Declared.{manager_names, section_labels, rules_labels, script_labels, monitor_labels, NamesPlace, HasNameFault, LabelsPlace, HasLabelFault}

-- ---- the words behind a verb

-- one label
abbrev pub IsOneLabel : (labels : List (List ℕ)) → List (List ℕ) → ℕ → Type 0
IsOneLabel labels [] k = ⊥
IsOneLabel labels (word ∷ []) k = LabelsPlace labels word k
IsOneLabel labels (word ∷ other ∷ ws) k = ⊥

abbrev pub HasOneLabelFault : (labels : List (List ℕ)) → List (List ℕ) → LineFault → Type 0
HasOneLabelFault labels [] f = f ≡ faults.Form
HasOneLabelFault labels (word ∷ []) f = HasLabelFault labels word f
HasOneLabelFault labels (word ∷ other ∷ ws) f = f ≡ faults.Form

-- one name of a manager
abbrev pub IsOneName : (names : List (List ℕ)) → List (List ℕ) → ℕ → Type 0
IsOneName names [] k = ⊥
IsOneName names (word ∷ []) k = NamesPlace names word k
IsOneName names (word ∷ other ∷ ws) k = ⊥

abbrev pub HasOneNameFault : (names : List (List ℕ)) → List (List ℕ) → LineFault → Type 0
HasOneNameFault names [] f = f ≡ faults.Form
HasOneNameFault names (word ∷ []) f = HasNameFault names word f
HasOneNameFault names (word ∷ other ∷ ws) f = f ≡ faults.Form

-- [n], lines of a script; all that are left where it isn't given
abbrev pub IsCount : List (List ℕ) → Option ℕ → Type 0
IsCount [] n = n ≡ None
IsCount (word ∷ []) n = (k : ℕ) × NumberIn 0 4294967295 word k × (n ≡ Some k)
IsCount (word ∷ other ∷ ws) n = ⊥

abbrev pub HasCountFault : List (List ℕ) → LineFault → Type 0
HasCountFault [] f = ⊥
HasCountFault (word ∷ []) f = NumberFault faults.Number 0 4294967295 word f
HasCountFault (word ∷ other ∷ ws) f = f ≡ faults.Form

-- label [n]
abbrev pub IsRun : (labels : List (List ℕ)) → List (List ℕ) → ℕ × Option ℕ → Type 0
IsRun labels [] p = ⊥
IsRun labels (word ∷ ws) p = LabelsPlace labels word p.0 × IsCount ws p.1

abbrev pub HasRunFault : (labels : List (List ℕ)) → List (List ℕ) → LineFault → Type 0
HasRunFault labels [] f = f ≡ faults.Form
HasRunFault labels (word ∷ ws) f = HasLabelFault labels word f ⊎ HasCountFault ws f

-- labels of scripts, each with its place
abbrev pub ArePlaced : (labels : List (List ℕ)) → List (List ℕ) → List ℕ → Type 0
ArePlaced labels [] [] = Unit {0}
ArePlaced labels [] (k ∷ ks) = ⊥
ArePlaced labels (w ∷ ws) [] = ⊥
ArePlaced labels (w ∷ ws) (k ∷ ks) = LabelsPlace labels w k × ArePlaced labels ws ks

-- two or more, none twice
abbrev pub IsPhase : (labels : List (List ℕ)) → List (List ℕ) → List ℕ → Type 0
IsPhase labels ws ks = (2 ≤ length ws) × ArePlaced labels ws ks × AreDistinct ks

-- two of the words are labels of the same
abbrev pub HaveSamePlace : (labels : List (List ℕ)) → List (List ℕ) → Type 0
HaveSamePlace labels [] = ⊥
HaveSamePlace labels (w ∷ ws) = ((k : ℕ) × (v : List ℕ) × LabelsPlace labels w k × Mem v ws × LabelsPlace labels v k) ⊎ HaveSamePlace labels ws

abbrev pub HasPhaseFault : (labels : List (List ℕ)) → List (List ℕ) → LineFault → Type 0
HasPhaseFault labels ws f =
    ((f ≡ faults.Form) × (length ws < 2))
    ⊎ (((w : List ℕ) × Mem w ws × HasLabelFault labels w f) ⊎ ((f ≡ faults.Twice) × HaveSamePlace labels ws))

-- n turns
abbrev pub IsTurns : List ℕ → ℕ → Type 0
IsTurns word n = NumberIn 1 100000 word n

abbrev pub HasTurnsFault : List ℕ → LineFault → Type 0
HasTurnsFault word f = NumberFault (faults.Limit limits.Turns) 1 100000 word f

abbrev pub IsPump : List (List ℕ) → ℕ → Type 0
IsPump [] n = ⊥
IsPump (word ∷ []) n = IsTurns word n
IsPump (word ∷ other ∷ ws) n = ⊥

abbrev pub HasPumpFault : List (List ℕ) → LineFault → Type 0
HasPumpFault [] f = f ≡ faults.Form
HasPumpFault (word ∷ []) f = HasTurnsFault word f
HasPumpFault (word ∷ other ∷ ws) f = f ≡ faults.Form

-- label n
abbrev pub IsTurned : (labels : List (List ℕ)) → List (List ℕ) → ℕ × ℕ → Type 0
IsTurned labels [] p = ⊥
IsTurned labels (word ∷ []) p = ⊥
IsTurned labels (word ∷ turns ∷ []) p = LabelsPlace labels word p.0 × IsTurns turns p.1
IsTurned labels (word ∷ turns ∷ other ∷ ws) p = ⊥

abbrev pub HasTurnedFault : (labels : List (List ℕ)) → List (List ℕ) → LineFault → Type 0
HasTurnedFault labels [] f = f ≡ faults.Form
HasTurnedFault labels (word ∷ []) f = f ≡ faults.Form
HasTurnedFault labels (word ∷ turns ∷ []) f = HasLabelFault labels word f ⊎ HasTurnsFault turns f
HasTurnedFault labels (word ∷ turns ∷ other ∷ ws) f = f ≡ faults.Form

-- manager k
abbrev pub IsCut : (names : List (List ℕ)) → List (List ℕ) → ℕ × ℕ → Type 0
IsCut names [] p = ⊥
IsCut names (word ∷ []) p = ⊥
IsCut names (word ∷ count ∷ []) p = NamesPlace names word p.0 × NumberIn 1 1000 count p.1
IsCut names (word ∷ count ∷ other ∷ ws) p = ⊥

abbrev pub HasCutFault : (names : List (List ℕ)) → List (List ℕ) → LineFault → Type 0
HasCutFault names [] f = f ≡ faults.Form
HasCutFault names (word ∷ []) f = f ≡ faults.Form
HasCutFault names (word ∷ count ∷ []) f = HasNameFault names word f ⊎ NumberFault faults.Number 1 1000 count f
HasCutFault names (word ∷ count ∷ other ∷ ws) f = f ≡ faults.Form

-- milliseconds
abbrev pub IsClock : List (List ℕ) → ℕ → Type 0
IsClock [] n = ⊥
IsClock (word ∷ []) n = NumberIn 0 999999999 word n
IsClock (word ∷ other ∷ ws) n = ⊥

abbrev pub HasClockFault : List (List ℕ) → LineFault → Type 0
HasClockFault [] f = f ≡ faults.Form
HasClockFault (word ∷ []) f = NumberFault (faults.Limit limits.Clock) 0 999999999 word f
HasClockFault (word ∷ other ∷ ws) f = f ≡ faults.Form

-- what the words behind a verb say
abbrev pub IsStepOf : Scenario → StepVerb → List (List ℕ) → Step → Type 0
IsStepOf s verbs.Obey ws step = (k : ℕ) × IsOneLabel (section_labels s.sections) ws k × (step ≡ steps.Obey k)
IsStepOf s verbs.Do ws step = ⊥
IsStepOf s verbs.Run ws step = (p : ℕ × Option ℕ) × IsRun (script_labels s.scripts) ws p × (step ≡ steps.Run p.0 p.1)
IsStepOf s verbs.Phase ws step = (ks : List ℕ) × IsPhase (script_labels s.scripts) ws ks × (step ≡ steps.Phase ks)
IsStepOf s verbs.Pump ws step = (n : ℕ) × IsPump ws n × (step ≡ steps.Pump n)
IsStepOf s verbs.Handle ws step = (p : ℕ × ℕ) × IsTurned (rules_labels s.rules) ws p × (step ≡ steps.Handle p.0 p.1)
IsStepOf s verbs.Watch ws step = (k : ℕ) × IsOneLabel (monitor_labels s.monitors) ws k × (step ≡ steps.Watch k)
IsStepOf s verbs.Serve ws step = (p : ℕ × ℕ) × IsTurned (monitor_labels s.monitors) ws p × (step ≡ steps.Serve p.0 p.1)
IsStepOf s verbs.Crash ws step = (k : ℕ) × IsOneName (manager_names s.managers) ws k × (step ≡ steps.Crash k)
IsStepOf s verbs.Restart ws step = (k : ℕ) × IsOneName (manager_names s.managers) ws k × (step ≡ steps.Restart k)
IsStepOf s verbs.Cut ws step = (p : ℕ × ℕ) × IsCut (manager_names s.managers) ws p × (step ≡ steps.Cut p.0 p.1)
IsStepOf s verbs.Clock ws step = (n : ℕ) × IsClock ws n × (step ≡ steps.Clock n)

-- the faults of these words
abbrev pub HasStepOfFault : Scenario → StepVerb → List (List ℕ) → LineFault → Type 0
HasStepOfFault s verbs.Obey ws f = HasOneLabelFault (section_labels s.sections) ws f
HasStepOfFault s verbs.Do ws f = f ≡ faults.Form
HasStepOfFault s verbs.Run ws f = HasRunFault (script_labels s.scripts) ws f
HasStepOfFault s verbs.Phase ws f = HasPhaseFault (script_labels s.scripts) ws f
HasStepOfFault s verbs.Pump ws f = HasPumpFault ws f
HasStepOfFault s verbs.Handle ws f = HasTurnedFault (rules_labels s.rules) ws f
HasStepOfFault s verbs.Watch ws f = HasOneLabelFault (monitor_labels s.monitors) ws f
HasStepOfFault s verbs.Serve ws f = HasTurnedFault (monitor_labels s.monitors) ws f
HasStepOfFault s verbs.Crash ws f = HasOneNameFault (manager_names s.managers) ws f
HasStepOfFault s verbs.Restart ws f = HasOneNameFault (manager_names s.managers) ws f
HasStepOfFault s verbs.Cut ws f = HasCutFault (manager_names s.managers) ws f
HasStepOfFault s verbs.Clock ws f = HasClockFault ws f

-- ---- steps

-- DO, and what stands behind it
abbrev pub IsDo : (rest text : List ℕ) → Type 0
IsDo rest text = (blanks : List ℕ) × (text ≡ blanks ++ (codes "DO" ++ rest)) × AreBlanks blanks × BeginsBlank rest

-- manager command: the command's quotes and blanks are its own
abbrev pub IsDone : Scenario → (rest : List ℕ) → ℕ × Command → Type 0
IsDone s rest q = (p : List ℕ × List ℕ) × IsFirstWord p.0 p.1 rest × (NamesPlace (manager_names s.managers) p.0 q.0 × IsOneCommand p.1 q.1)

abbrev pub HasDoFault : Scenario → (rest : List ℕ) → LineFault → Type 0
HasDoFault s rest f =
    ((f ≡ faults.Form) × AreBlanks rest) ⊎ ((p : List ℕ × List ℕ) × IsFirstWord p.0 p.1 rest × (HasNameFault (manager_names s.managers) p.0 f ⊎ HasCommandFault p.1 f))

-- another verb and the words behind it
abbrev pub AreStepWords : StepVerb × List (List ℕ) → (text : List ℕ) → Type 0
AreStepWords p text = (p.0 ≡ verbs.Do → ⊥) × AreWords (step_text p.0 ∷ p.1) text

-- A step: DO with a manager and a command, or the words of another verb.
abbrev pub IsStepLine : Scenario → (text : List ℕ) → Step → Type 0
IsStepLine s text step =
    ((rest : List ℕ) × (q : ℕ × Command) × IsDo rest text × IsDone s rest q × (step ≡ steps.Do q.0 q.1))
    ⊎ ((p : StepVerb × List (List ℕ)) × AreStepWords p text × IsStepOf s p.0 p.1 step)

-- The faults of a text: it is neither; or those of its words; or those of the manager and the command.
abbrev pub HasStepFault : Scenario → (text : List ℕ) → LineFault → Type 0
HasStepFault s text f =
    ((f ≡ faults.Form) × ((rest : List ℕ) → IsDo rest text → ⊥) × ((p : StepVerb × List (List ℕ)) → AreStepWords p text → ⊥))
    ⊎ (((p : StepVerb × List (List ℕ)) × AreStepWords p text × HasStepOfFault s p.0 p.1 f)
    ⊎ ((rest : List ℕ) × IsDo rest text × HasDoFault s rest f))

-- the fault that is told of a text
abbrev pub IsStepFault : Scenario → (text : List ℕ) → LineFault → Type 0
IsStepFault s text f = IsTold (λ g. HasStepFault s text g) f
