-- Options of script lines, in any order, each of a group once.
use Rattle.std.specs.Prelude.{◌≡◌, ℕ, Bool, true, false, List, [], ◌∷◌, map}
use Rattle.mq_scn_lines.specs.declared.options.LineOption.{LineOption}
use Rattle.mq_scn_lines.specs.Options.{option_word, has_value, group_of}
use Rattle.mq_scn_grammar.specs.Operands.{IsBracketed}
pub use Rattle.mq_base.specs.Members.{Mem, AreDistinct}

-- a word with a value in brackets, or alone
abbrev pub IsWordOf : (valued : Bool) → LineOption → List ℕ → Type 0
IsWordOf true option word = (value : List ℕ) × IsBracketed (option_word option) value word
IsWordOf false option word = word ≡ option_word option

-- the word of an option, or its keyword with a value in brackets
abbrev pub IsOptionWord : LineOption → List ℕ → Type 0
IsOptionWord option word = IsWordOf (has_value option) option word

-- the words are those of these options, each of which is allowed
abbrev pub AreOfOptions : (allowed options : List LineOption) → List (List ℕ) → Type 0
AreOfOptions allowed [] [] = Unit {0}
AreOfOptions allowed [] (w ∷ ws) = ⊥
AreOfOptions allowed (o ∷ os) [] = ⊥
AreOfOptions allowed (o ∷ os) (w ∷ ws) = Mem o allowed × IsOptionWord o w × AreOfOptions allowed os ws

-- words of allowed options, no two of one group
abbrev pub AreOptions : (allowed : List LineOption) → List (List ℕ) → Type 0
AreOptions allowed words = (options : List LineOption) × AreOfOptions allowed options words × AreDistinct (map group_of options)

-- an option without a value is among the words
abbrev pub Says : LineOption → List (List ℕ) → Type 0
Says option words = Mem (option_word option) words

-- one of the words gives an option this value
abbrev pub HasValue : LineOption → (value : List ℕ) → List (List ℕ) → Type 0
HasValue option value words = (word : List ℕ) × Mem word words × IsBracketed (option_word option) value word
