-- The scripts of a PHASE step.
use Rattle.std.specs.Prelude.{ℕ, ◌==◌, nat_lt, Bool, true, false, not, ◌&&◌, List, [], ◌∷◌, ◌++◌, length, if◌then◌else◌, Result, Ok, Err}
use Rattle.std.specs.List.{list_any}
use Rattle.mq_history.specs.declared.scenario.ScriptPart.{ScriptPart}
use Rattle.mq_scn_lines.specs.declared.fault.LineFault.{LineFault}
use Rattle.mq_scn_lines.specs.declared.fault.LineFault.TheVariants as faults
use Rattle.mq_scn_lines.specs.Operands.{label_in}
use Rattle.mq_scn_heading.specs.Lookup.{script_at}

abbrev pub is_good : {A : Type 0} → Result A LineFault → Bool
is_good (Ok x) = true
is_good (Err fault) = false

abbrev pub is_label : List ℕ → Bool
is_label word = is_good (label_in word)

abbrev pub are_labels : List (List ℕ) → Bool
are_labels [] = true
are_labels (word ∷ words) = is_label word && are_labels words

abbrev pub is_script : List ScriptPart → List ℕ → Bool
is_script scripts word = is_good (script_at scripts word)

abbrev pub are_scripts : List ScriptPart → List (List ℕ) → Bool
are_scripts scripts [] = true
are_scripts scripts (word ∷ words) = is_script scripts word && are_scripts scripts words

abbrev pub with_place : List ℕ → Result ℕ LineFault → List ℕ
with_place front (Ok place) = front ++ place ∷ []
with_place front (Err fault) = front

-- the places of the scripts, behind others
abbrev pub places_from : List ScriptPart → List ℕ → List (List ℕ) → List ℕ
places_from scripts front [] = front
places_from scripts front (word ∷ words) = places_from scripts (with_place front (script_at scripts word)) words

abbrev pub is_in : ℕ → List ℕ → Bool
is_in place places = list_any (λ other. other == place) places

-- no place stands twice
abbrev pub are_single : List ℕ → Bool
are_single [] = true
are_single (place ∷ places) = not (is_in place places) && are_single places

abbrev pub single : List ℕ → Result (List ℕ) LineFault
single places = if are_single places then Ok places else Err faults.Twice

-- two or more, all declared, none twice
unfoldable pub phase_of : List ScriptPart → List (List ℕ) → Result (List ℕ) LineFault
phase_of scripts words =
    if nat_lt (length words) 2 then Err faults.Form
    else if not (are_labels words) then Err faults.Name
    else if not (are_scripts scripts words) then Err faults.Unknown
    else single (places_from scripts [] words)
