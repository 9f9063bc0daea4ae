-- How a line of commands is written, whatever reads it.
use Rattle.std.specs.Prelude.{◌≡◌, ◌⊎◌, ℕ, ◌-◌, true, not, List, [], ◌∷◌, ◌++◌, length, slice_get}
use Rattle.std.specs.List.{list_all}
use Rattle.std.specs.Str.{str_to_ascii_uppercase}
use Rattle.mq_text.specs.Quoting.{quoted}
use Rattle.mq_text.specs.Pieces.{is_break}
use Rattle.mq_sc_lex.specs.declared.joining.Mark.{Mark}
use Rattle.mq_sc_lex.specs.declared.token.Span.{Span}
use Rattle.mq_sc_lex.specs.declared.token.Token.{Token}
use Rattle.mq_sc_lex.specs.declared.token.TokenKind.{TokenKind}
use Rattle.mq_sc_lex.specs.declared.token.TokenKind.TheVariants as tokens
use Rattle.mq_sc_lex.specs.declared.token.Line.{Line}
use Rattle.mq_sc_lex.specs.declared.tokens.Meaning.{Meaning}
use Rattle.mq_sc_lex.specs.declared.tokens.Meaning.TheVariants as meanings
use Rattle.mq_sc_lex.specs.Tokens.{bytes_of, span_between, put_meaning, numbered}

-- one byte or more, none of them a blank, a quote, a bracket, a comma or a semicolon
abbrev pub IsWordText : List ℕ → Type 0
IsWordText [] = ⊥
IsWordText (b ∷ bs) = list_all (λ (c : ℕ). not (is_break c)) (b ∷ bs) ≡ true

-- A token as it is written. A word is folded to upper case. What stands in quotes keeps its case, and a quote in it is
-- doubled.
abbrev pub IsTokenText : TokenKind → List ℕ → Type 0
IsTokenText (tokens.Word word) bytes = IsWordText bytes × (word ≡ str_to_ascii_uppercase bytes)
IsTokenText (tokens.Quoted text) bytes = bytes ≡ quoted text
IsTokenText tokens.Open bytes = bytes ≡ 40 ∷ []
IsTokenText tokens.Close bytes = bytes ≡ 41 ∷ []

-- a token; a blank or a comma, which only part; a semicolon, which ends a command
abbrev pub IsText : Meaning → List ℕ → Type 0
IsText (meanings.Token kind) bytes = IsTokenText kind bytes
IsText meanings.Gap bytes = (bytes ≡ 32 ∷ []) ⊎ (bytes ≡ 44 ∷ [])
IsText meanings.End bytes = bytes ≡ 59 ∷ []

abbrev pub BeginsApart : List ℕ → Type 0
BeginsApart [] = Unit {0}
BeginsApart (b ∷ bs) = is_break b ≡ true

abbrev pub BeginsUnquoted : List ℕ → Type 0
BeginsUnquoted [] = Unit {0}
BeginsUnquoted (b ∷ bs) = b ≡ 39 → ⊥

-- What stands behind a token: a word goes on as far as it can, and a quote right behind a text in quotes would be one
-- of that text.
abbrev pub EndsTokenAt : TokenKind → List ℕ → Type 0
EndsTokenAt (tokens.Word word) rest = BeginsApart rest
EndsTokenAt (tokens.Quoted text) rest = BeginsUnquoted rest
EndsTokenAt tokens.Open rest = Unit {0}
EndsTokenAt tokens.Close rest = Unit {0}

abbrev pub EndsAt : Meaning → List ℕ → Type 0
EndsAt (meanings.Token kind) rest = EndsTokenAt kind rest
EndsAt meanings.Gap rest = Unit {0}
EndsAt meanings.End rest = Unit {0}

-- a part of a line: what it means, and its bytes with their places
pub record Part : Type 0 where
  pub meaning : Meaning
  pub marks : List Mark

-- a line begins with these parts, one behind the other, and this rest stands behind them
abbrev pub BeginsWith : List Part → (rest marks : List Mark) → Type 0
BeginsWith [] rest marks = marks ≡ rest
BeginsWith (p ∷ ps) rest marks = (later : List Mark) × (marks ≡ p.marks ++ later) × IsText p.meaning (bytes_of p.marks) × EndsAt p.meaning (bytes_of later) × BeginsWith ps rest later

-- a line is its parts
abbrev pub IsLine : List Part → List Mark → Type 0
IsLine parts marks = BeginsWith parts [] marks

-- from the first byte up to the last
abbrev pub span_of_marks : List Mark → Span
span_of_marks marks = span_between (slice_get marks 0) (slice_get marks (length marks - 1))

-- the tokens between the semicolons
abbrev pub commands_of_parts : List Part → List (List Token)
commands_of_parts [] = [] ∷ []
commands_of_parts (p ∷ ps) = put_meaning p.meaning (span_of_marks p.marks) (commands_of_parts ps)

-- the commands of a line: those of its parts that have tokens
abbrev pub AreOfLine : List Mark → List Line → Type 0
AreOfLine marks lines = (parts : List Part) × IsLine parts marks × (lines ≡ numbered (commands_of_parts parts))

-- the commands of lines, in order
abbrev pub AreOfLines : List (List Mark) → List Line → Type 0
AreOfLines [] lines = lines ≡ []
AreOfLines (marks ∷ rest) lines = (first : List Line) × (later : List Line) × AreOfLine marks first × AreOfLines rest later × (lines ≡ first ++ later)
