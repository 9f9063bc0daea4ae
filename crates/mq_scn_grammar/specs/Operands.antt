-- Words with a value in brackets, labels, names, texts in quotes and numbers.
use Rattle.std.specs.Prelude.{◌≡◌, ◌⊎◌, ℕ, ℤ, pos, ◌≤◌, ◌<◌, ◌^◌, true, List, [], ◌∷◌, ◌++◌, length}
use Rattle.std.specs.Str.{str_to_ascii_uppercase}
use Rattle.mq_base.specs.Name.{IsName, IsLabel}
use Rattle.mq_text.specs.Quoting.{quoted}
use Rattle.mq_text.specs.Numbers.{is_number, is_negative, value_of, after_sign, negated}
use Rattle.mq_scn_lines.specs.declared.fault.LineFault.{LineFault}
use Rattle.mq_scn_lines.specs.declared.fault.LineFault.TheVariants as faults
use Rattle.mq_scn_lines.specs.Texts.{filled}
use Rattle.mq_scn_grammar.specs.Words.{AreBlanks}
use Rattle.mq_scn_grammar.specs.Faults.{IsMissed}

-- a keyword with its bracket, a value, and the closing bracket
abbrev pub IsBracketed : (keyword value word : List ℕ) → Type 0
IsBracketed keyword value word = word ≡ keyword ++ (value ++ 41 ∷ [])

-- a label, in either case
abbrev pub IsLabelWord : (label word : List ℕ) → Type 0
IsLabelWord label word = (label ≡ str_to_ascii_uppercase word) × IsLabel label

-- between single quotes as it stands
abbrev pub IsBetweenQuotes : (text word : List ℕ) → Type 0
IsBetweenQuotes text word = word ≡ 39 ∷ (text ++ 39 ∷ [])

-- a name of one byte or more: between quotes as it stands, else folded to upper case
abbrev pub IsNameWord : ℕ → (name word : List ℕ) → Type 0
IsNameWord width name word = IsName width name × (name ≡ [] → ⊥) × (IsBetweenQuotes name word ⊎ (name ≡ str_to_ascii_uppercase word))

-- a name, or blanks or nothing between quotes, which is the blank name
abbrev pub IsNameOrBlank : (name word : List ℕ) → Type 0
IsNameOrBlank name word = ((name ≡ []) × ((blanks : List ℕ) × AreBlanks blanks × IsBetweenQuotes blanks word)) ⊎ IsNameWord 48 name word

-- the field that a text in quotes fills, where it is no longer
abbrev pub IsField : ℕ → ℕ → (field word : List ℕ) → Type 0
IsField width pad field word = (text : List ℕ) × (word ≡ quoted text) × (length text ≤ width) × (field ≡ filled width pad text)

-- ---- numbers

-- digits, a minus before them or none
abbrev pub IsNumeral : List ℕ → Type 0
IsNumeral text = (is_number text ≡ true) ⊎ (is_negative text ≡ true)

-- digits of a number from one to another
abbrev pub IsNumber : (low high n : ℕ) → List ℕ → Type 0
IsNumber low high n text = (is_number text ≡ true) × (n ≡ value_of text) × (low ≤ n) × (n ≤ high)

-- a number of 32 bits with a sign
abbrev pub IsSigned : ℤ → List ℕ → Type 0
IsSigned n text =
    ((is_number text ≡ true) × (value_of text < 2 ^ 31) × (n ≡ pos (value_of text)))
    ⊎ ((is_negative text ≡ true) × (value_of (after_sign text) ≤ 2 ^ 31) × (n ≡ negated (value_of (after_sign text))))

-- ---- faults

-- what is no number has no form; a number outside its range has the fault of that range
abbrev pub HasNumberFault : {A : Type 0} → LineFault → (A → Type 0) → List ℕ → LineFault → Type 0
HasNumberFault beyond Is text f = ((f ≡ faults.Form) × (IsNumeral text → ⊥)) ⊎ (IsNumeral text × IsMissed beyond Is f)
