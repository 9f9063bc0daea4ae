-- The faults of a cable.
use Rattle.std.specs.Prelude.{ℕ, ◌+◌, nat_lt, nat_le, Bool, true, false, not, ◌&&◌, List, [], ◌∷◌, ◌++◌, take, drop, codes, if◌then◌else◌, Option, Some, None, Result, Ok, Err}
use Rattle.std.specs.Str.{bytes_eq}
use Rattle.mq_text.specs.Lines.{cut}
use Rattle.mq_cable.specs.declared.fault.Fault.{Fault}
use Rattle.mq_cable.specs.declared.fault.Fault.TheVariants as cables
use Rattle.mq_scn_lines.specs.declared.fault.LineFault.{LineFault}
use Rattle.mq_scn_lines.specs.declared.fault.LineFault.TheVariants as faults
use Rattle.mq_scn_lines.specs.Faults.{both}
use Rattle.mq_scn_lines.specs.Numbers.{ranged}
use Rattle.mq_scn_lines.specs.Operands.{bracketed}
use Rattle.mq_scn_heading.specs.Distinct.{are_distinct}

-- a frame, counted from 1
abbrev pub frame_in : List ℕ → Result ℕ LineFault
frame_in text = ranged faults.Number 1 4294967295 text

-- ---- DROP(k), SPOIL(k), LATE(k,j) and COPY(k,j)

abbrev pub dropping : Result ℕ LineFault → Result Fault LineFault
dropping (Ok frame) = Ok (cables.Drop frame)
dropping (Err fault) = Err fault

abbrev pub dropped : List ℕ → Result Fault LineFault
dropped value = dropping (frame_in value)

abbrev pub spoiling : Result ℕ LineFault → Result Fault LineFault
spoiling (Ok frame) = Ok (cables.Spoil frame)
spoiling (Err fault) = Err fault

abbrev pub spoiled : List ℕ → Result Fault LineFault
spoiled value = spoiling (frame_in value)

-- j above k
abbrev pub holding : Result (ℕ × ℕ) LineFault → Result Fault LineFault
holding (Ok p) = if nat_lt p.0 p.1 && nat_le p.1 4294967295 then Ok (cables.Late p.0 p.1) else Err faults.Number
holding (Err fault) = Err fault

abbrev pub late : List ℕ → List ℕ → Result Fault LineFault
late first second = holding (both (frame_in first) (frame_in second))

-- j at least k
abbrev pub copying : Result (ℕ × ℕ) LineFault → Result Fault LineFault
copying (Ok p) = if nat_le p.0 p.1 && nat_le p.1 4294967295 then Ok (cables.Copy p.0 p.1) else Err faults.Number
copying (Err fault) = Err fault

abbrev pub copied : List ℕ → List ℕ → Result Fault LineFault
copied first second = copying (both (frame_in first) (frame_in second))

abbrev pub late_of : Option (List ℕ × List ℕ) → Result Fault LineFault
late_of None = Err faults.Form
late_of (Some p) = late p.0 p.1

abbrev pub copy_of : Option (List ℕ × List ℕ) → Result Fault LineFault
copy_of None = Err faults.Form
copy_of (Some p) = copied p.0 p.1

abbrev pub fault_from : (drop spoil late copy : Option (List ℕ)) → Result Fault LineFault
fault_from (Some value) spoil late copy = dropped value
fault_from None (Some value) late copy = spoiled value
fault_from None None (Some value) copy = late_of (cut 44 value)
fault_from None None None (Some value) = copy_of (cut 44 value)
fault_from None None None None = Err faults.Form

-- the fault that a word is
abbrev pub fault_in : List ℕ → Result Fault LineFault
fault_in word = fault_from (bracketed (codes "DROP(") word) (bracketed (codes "SPOIL(") word) (bracketed (codes "LATE(") word) (bracketed (codes "COPY(") word)

-- ---- the frames on which faults are

abbrev pub value_from : (drop spoil late copy : Option (List ℕ)) → Option (List ℕ)
value_from (Some value) spoil late copy = Some value
value_from None (Some value) late copy = Some value
value_from None None (Some value) copy = Some value
value_from None None None copy = copy

abbrev pub value_in : List ℕ → Option (List ℕ)
value_in word = value_from (bracketed (codes "DROP(") word) (bracketed (codes "SPOIL(") word) (bracketed (codes "LATE(") word) (bracketed (codes "COPY(") word)

abbrev pub before_comma : List ℕ → Option (List ℕ × List ℕ) → List ℕ
before_comma value None = value
before_comma value (Some p) = p.0

abbrev pub first_number : List ℕ → List ℕ
first_number value = before_comma value (cut 44 value)

abbrev pub frame_or_none : Result ℕ LineFault → Option ℕ
frame_or_none (Ok frame) = Some frame
frame_or_none (Err fault) = None

abbrev pub first_of : Option (List ℕ) → Option ℕ
first_of None = None
first_of (Some value) = frame_or_none (frame_in (first_number value))

-- the frame on which the fault is that a word is, as far as its first number tells
abbrev pub first_in : List ℕ → Option ℕ
first_in word = first_of (value_in word)

abbrev pub with_first : List ℕ → Option ℕ → List ℕ
with_first front None = front
with_first front (Some frame) = front ++ frame ∷ []

abbrev pub firsts_from : List ℕ → List (List ℕ) → List ℕ
firsts_from front [] = front
firsts_from front (word ∷ words) = firsts_from (with_first front (first_in word)) words

-- ---- the faults of a direction

abbrev pub is_form_fault : LineFault → Bool
is_form_fault faults.Form = true
is_form_fault _ = false

abbrev pub is_form : Result Fault LineFault → Bool
is_form (Ok fault) = false
is_form (Err fault) = is_form_fault fault

-- each word is written as a fault
abbrev pub have_form : List (List ℕ) → Bool
have_form [] = true
have_form (word ∷ words) = not (is_form (fault_in word)) && have_form words

abbrev pub then_faults : Result Fault LineFault → (Fault → Result (List Fault) LineFault) → Result (List Fault) LineFault
then_faults (Ok fault) next = next fault
then_faults (Err fault) next = Err fault

-- the faults that words are, behind others
abbrev pub faults_from : List Fault → List (List ℕ) → Result (List Fault) LineFault
faults_from front [] = Ok front
faults_from front (word ∷ words) = then_faults (fault_in word) (λ fault. faults_from (front ++ fault ∷ []) words)

-- the faults of a direction: each a fault, and no two on one frame
unfoldable pub faults_of : List (List ℕ) → Result (List Fault) LineFault
faults_of words = if have_form words then (if are_distinct (firsts_from [] words) then faults_from [] words else Err faults.Twice) else Err faults.Form

-- one fault or more behind the word of the direction
unfoldable pub behind_keyword : List ℕ → List ℕ → List (List ℕ) → Result (List Fault) LineFault
behind_keyword keyword first [] = Err faults.Form
behind_keyword keyword first (word ∷ words) = if bytes_eq first keyword then faults_of (word ∷ words) else Err faults.Form

-- OUT or BACK with its faults, or nothing
abbrev pub direction : List ℕ → List (List ℕ) → Result (List Fault) LineFault
direction keyword [] = Ok []
direction keyword (first ∷ words) = behind_keyword keyword first words

-- how many words stand before BACK
abbrev pub back_place : List (List ℕ) → ℕ
back_place [] = 0
back_place (word ∷ words) = if bytes_eq word (codes "BACK") then 0 else 1 + back_place words

-- [OUT faults] [BACK faults]
unfoldable pub cable_faults : List (List ℕ) → Result (List Fault × List Fault) LineFault
cable_faults words = both (direction (codes "OUT") (take (back_place words) words)) (direction (codes "BACK") (drop (back_place words) words))
