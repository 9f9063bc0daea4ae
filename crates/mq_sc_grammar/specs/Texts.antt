-- What a text of commands is: its physical lines without comments, joined where they go on, and the commands of the
-- lines that they make.
use Rattle.std.specs.Prelude.{◌≡◌, ◌⊎◌, ℕ, ◌+◌, true, false, List, [], ◌∷◌, ◌++◌, length}
use Rattle.mq_text.specs.Lines.{lines_of}
use Rattle.mq_sc_lex.specs.declared.joining.Mark.{Mark}
use Rattle.mq_sc_lex.specs.declared.joining.Ending.{Ending}
use Rattle.mq_sc_lex.specs.declared.joining.Ending.TheVariants.{Whole, Plus, Minus}
use Rattle.mq_sc_lex.specs.declared.token.Line.{Line}
use Rattle.mq_sc_lex.specs.Joining.{are_blank, is_sign, marks_from}
use Rattle.mq_sc_grammar.specs.Written.{AreOfLines}

-- a line that begins with a star
abbrev pub IsComment : List ℕ → Type 0
IsComment [] = ⊥
IsComment (b ∷ bs) = b ≡ 42

abbrev pub BeginsUnblank : List ℕ → Type 0
BeginsUnblank [] = Unit {0}
BeginsUnblank (b ∷ bs) = b ≡ 32 → ⊥

-- How a physical line ends: with a plus or a minus as its last nonblank it goes on, else it is whole.
abbrev pub EndsSo : Ending → (bytes body : List ℕ) → Type 0
EndsSo Whole bytes body = (bytes ≡ body) × ((front blanks : List ℕ) (b : ℕ) → bytes ≡ front ++ b ∷ blanks → are_blank blanks ≡ true → is_sign b ≡ false)
EndsSo Plus bytes body = (blanks : List ℕ) × (bytes ≡ body ++ 43 ∷ blanks) × (are_blank blanks ≡ true)
EndsSo Minus bytes body = (blanks : List ℕ) × (bytes ≡ body ++ 45 ∷ blanks) × (are_blank blanks ≡ true)

-- How a physical line begins: behind a plus at its first nonblank, else at its first byte.
abbrev pub BeginsSo : Ending → (body passed text : List ℕ) → Type 0
BeginsSo Whole body passed text = (body ≡ text) × (passed ≡ [])
BeginsSo Plus body passed text = (body ≡ passed ++ text) × (are_blank passed ≡ true) × BeginsUnblank text
BeginsSo Minus body passed text = (body ≡ text) × (passed ≡ [])

-- what a physical line adds that is no comment: its text, with the line's number and the places of its bytes
pub record IsPart (before : Ending) (line at : ℕ) (bytes : List ℕ) (ending : Ending) (part : List Mark) : Type 0 where
  pub body : List ℕ
  pub passed : List ℕ
  pub text : List ℕ
  pub no_comment : IsComment bytes → ⊥
  pub ends : EndsSo ending bytes body
  pub begins : BeginsSo before body passed text
  pub is : part ≡ marks_from line (at + length passed) text

-- a part before the first line behind it, or alone where no line is
abbrev pub IsBefore : List Mark → (later lines : List (List Mark)) → Type 0
IsBefore part [] lines = lines ≡ part ∷ []
IsBefore part (first ∷ others) lines = lines ≡ (part ++ first) ∷ others

-- a part that ends its line, or goes on with the first line behind it
abbrev pub IsOnto : Ending → List Mark → (later lines : List (List Mark)) → Type 0
IsOnto Whole part later lines = lines ≡ part ∷ later
IsOnto Plus part later lines = IsBefore part later lines
IsOnto Minus part later lines = IsBefore part later lines

-- the lines that physical lines make, from the number of the first and its place on, where the one before them ended
-- so; and how the last one ends that is no comment
abbrev pub AreJoined : Ending → ℕ → ℕ → List (List ℕ) → Ending → List (List Mark) → Type 0
AreJoined before line at [] last lines = (last ≡ before) × (lines ≡ [])
AreJoined before line at (bytes ∷ rest) last lines =
    (IsComment bytes × AreJoined before (line + 1) (at + length bytes + 1) rest last lines)
    ⊎ ((ending : Ending) × (part : List Mark) × (later : List (List Mark)) × IsPart before line at bytes ending part × IsOnto ending part later lines × AreJoined ending (line + 1) (at + length bytes + 1) rest last later)

-- the lines of a text, the last of which ends so
abbrev pub AreLinesOf : List ℕ → Ending → List (List Mark) → Type 0
AreLinesOf text last lines = AreJoined Whole 1 0 (lines_of text) last lines

-- the text is that of these commands: its last line doesn't go on
abbrev pub IsCommands : List ℕ → List Line → Type 0
IsCommands text lines = (joined : List (List Mark)) × AreLinesOf text Whole joined × AreOfLines joined lines
