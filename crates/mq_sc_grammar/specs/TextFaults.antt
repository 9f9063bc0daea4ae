-- Why a text is none of commands: the first quote that isn't closed on its command, else a last line that goes on.
use Rattle.std.specs.Prelude.{◌≡◌, ℕ, List, ◌∷◌, ◌++◌}
use Rattle.mq_text.specs.Quoting.{quoted}
use Rattle.mq_sc_lex.specs.declared.joining.Mark.{Mark}
use Rattle.mq_sc_lex.specs.declared.joining.Ending.{Ending}
use Rattle.mq_sc_lex.specs.declared.joining.Ending.TheVariants.{Whole}
use Rattle.mq_sc_lex.specs.declared.token.Line.{Line}
use Rattle.mq_sc_lex.specs.declared.fault.LexFault.{LexFault}
use Rattle.mq_sc_lex.specs.declared.fault.LexFault.TheVariants.{OpenQuote, OpenContinuation, NoMemory}
use Rattle.mq_sc_lex.specs.Tokens.{bytes_of}
use Rattle.mq_sc_grammar.specs.Written.{BeginsUnquoted, Part, BeginsWith, AreOfLines}
use Rattle.mq_sc_grammar.specs.Texts.{AreLinesOf}

-- a quote that isn't closed on its line: no text in quotes stands there
abbrev pub IsUnclosed : Mark → (behind : List Mark) → Type 0
IsUnclosed quote behind = (quote.byte ≡ 39) × ((text rest : List ℕ) → bytes_of (quote ∷ behind) ≡ quoted text ++ rest → BeginsUnquoted rest → ⊥)

-- a line that is parts up to a quote that isn't closed; the quote stands on the physical line of this number
pub record LeavesOpen (marks : List Mark) (line : ℕ) : Type 0 where
  pub parts : List Part
  pub quote : Mark
  pub behind : List Mark
  pub front : BeginsWith parts (quote ∷ behind) marks
  pub unclosed : IsUnclosed quote behind
  pub stands : line ≡ quote.line

-- A text is none of commands for this cause. A line leaves a quote open, and those before it are lines of commands;
-- or all lines are, and the last one goes on.
abbrev pub IsTextFault : List ℕ → LexFault → Type 0
IsTextFault text (OpenQuote line) = (last : Ending) × (front : List (List Mark)) × (marks : List Mark) × (later : List (List Mark)) × (lines : List Line)
    × AreLinesOf text last (front ++ marks ∷ later) × AreOfLines front lines × LeavesOpen marks line
IsTextFault text OpenContinuation = (last : Ending) × (joined : List (List Mark)) × (lines : List Line) × (last ≡ Whole → ⊥) × AreLinesOf text last joined × AreOfLines joined lines
IsTextFault text NoMemory = ⊥
