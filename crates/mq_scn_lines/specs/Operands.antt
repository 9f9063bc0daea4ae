-- Labels and names as words, and values in brackets.
use Rattle.std.specs.Prelude.{ℕ, ◌==◌, Bool, false, List, [], ◌∷◌, if◌then◌else◌, Option, Some, None, Result, Ok, Err}
use Rattle.std.specs.List.{list_all}
use Rattle.std.specs.Str.{str_to_ascii_uppercase}
use Rattle.mq_base.specs.declared.fault.NameFault.{NameFault}
use Rattle.mq_base.specs.Name.{name_of, label_of}
use Rattle.mq_text.specs.Lines.{behind}
use Rattle.mq_scn_lines.specs.declared.fault.LineFault.{LineFault}
use Rattle.mq_scn_lines.specs.declared.fault.LineFault.TheVariants as faults

abbrev pub onto_text : ℕ → Option (List ℕ) → Option (List ℕ)
onto_text b None = None
onto_text b (Some text) = Some (b ∷ text)

-- what stands before a last byte
abbrev pub before_last : ℕ → List ℕ → Option (List ℕ)
before_last c [] = None
before_last c (b ∷ []) = if b == c then Some [] else None
before_last c (b ∷ d ∷ bs) = onto_text b (before_last c (d ∷ bs))

-- what stands between the quotes of a word in quotes
abbrev pub in_quotes : List ℕ → Option (List ℕ)
in_quotes [] = None
in_quotes (b ∷ bs) = if b == 39 then before_last 39 bs else None

abbrev pub before_bracket : Option (List ℕ) → Option (List ℕ)
before_bracket None = None
before_bracket (Some rest) = before_last 41 rest

-- what stands in the brackets behind a keyword
abbrev pub bracketed : List ℕ → List ℕ → Option (List ℕ)
bracketed keyword word = before_bracket (behind keyword word)

abbrev pub labelled : Option (List ℕ) → Result (List ℕ) LineFault
labelled None = Err faults.Name
labelled (Some label) = Ok label

-- a label, its letters in upper case
abbrev pub label_in : List ℕ → Result (List ℕ) LineFault
label_in word = labelled (label_of (str_to_ascii_uppercase word))

abbrev pub named : Result (List ℕ) NameFault → Result (List ℕ) LineFault
named (Ok name) = Ok name
named (Err fault) = Err faults.Name

abbrev pub folded_name : ℕ → List ℕ → Result (List ℕ) NameFault
folded_name width word = name_of width (str_to_ascii_uppercase word)

abbrev pub written_name : ℕ → Option (List ℕ) → List ℕ → Result (List ℕ) NameFault
written_name width None word = folded_name width word
written_name width (Some text) word = name_of width text

-- a name, in quotes as it stands, else its letters in upper case
abbrev pub name_in : ℕ → List ℕ → Result (List ℕ) LineFault
name_in width word = named (written_name width (in_quotes word) word)

abbrev pub are_blanks : Option (List ℕ) → Bool
are_blanks None = false
are_blanks (Some text) = list_all (λ b. b == 32) text

-- a word in quotes with blanks alone, or with nothing
abbrev pub is_blank : List ℕ → Bool
is_blank word = are_blanks (in_quotes word)

-- a name, or the blank one
abbrev pub name_or_blank_in : List ℕ → Result (List ℕ) LineFault
name_or_blank_in word = if is_blank word then Ok [] else name_in 48 word
