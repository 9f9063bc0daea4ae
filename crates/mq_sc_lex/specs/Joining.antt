-- Physical lines and the lines that they make together.
use Rattle.std.specs.Prelude.{◌≡◌, ◌≢◌, ℕ, ◌+◌, ◌-◌, ◌<◌, ◌≤◌, ◌==◌, ◌&&◌, ◌||◌, Bool, true, false, List, [], ◌∷◌, ◌++◌, length, drop, slice_index, if◌then◌else◌}
use Rattle.std.specs.List.{list_all, prefix_len}
use Rattle.mq_text.specs.Lines.{lines_of}
use Rattle.mq_sc_lex.specs.declared.joining.Mark.{Mark}
use Rattle.mq_sc_lex.specs.declared.joining.Joined.{Joined}
use Rattle.mq_sc_lex.specs.declared.joining.Joining.{Joining}
use Rattle.mq_sc_lex.specs.declared.joining.Ending.{Ending}
use Rattle.mq_sc_lex.specs.declared.joining.Ending.TheVariants.{Whole, Plus, Minus}

abbrev pub is_blank : ℕ → Bool
is_blank b = b == 32

abbrev pub are_blank : List ℕ → Bool
are_blank bytes = list_all is_blank bytes

-- a line that begins with a star
abbrev pub is_comment : List ℕ → Bool
is_comment [] = false
is_comment (b ∷ bs) = b == 42

abbrev pub sign : ℕ → Ending
sign b = if b == 43 then Plus else if b == 45 then Minus else Whole

abbrev pub is_sign : ℕ → Bool
is_sign b = b == 43 || b == 45

-- a line whose last nonblank is a plus or a minus goes on
abbrev pub ending_of : List ℕ → Ending
ending_of [] = Whole
ending_of (b ∷ bs) = if are_blank bs then sign b else ending_of bs

-- a line without the sign by which it goes on, and without what stands behind it
abbrev pub body_of : List ℕ → List ℕ
body_of [] = []
body_of (b ∷ bs) = if are_blank bs && is_sign b then [] else b ∷ body_of bs

-- how many bytes at the front of a line are passed: behind a plus its blanks
abbrev pub passed : Ending → List ℕ → ℕ
passed Whole body = 0
passed Plus body = prefix_len is_blank body
passed Minus body = 0

-- bytes with the line on which they stand and their places in the text
abbrev pub marks_from : ℕ → ℕ → List ℕ → List Mark
marks_from line at [] = []
marks_from line at (b ∷ bs) = record { byte = b; line = line; start = at; end = at + 1 } ∷ marks_from line (at + 1) bs

-- what a physical line adds, where the one before it ended so
abbrev pub part_of : Ending → ℕ → ℕ → List ℕ → List Mark
part_of before line at bytes = marks_from line (at + passed before (body_of bytes)) (drop (passed before (body_of bytes)) (body_of bytes))

-- a part that goes on stands before the line behind it, or alone where there is none
abbrev pub before_first : List Mark → List (List Mark) → List (List Mark)
before_first part [] = part ∷ []
before_first part (l ∷ ls) = (part ++ l) ∷ ls

abbrev pub add_part : List Mark → Ending → Joined → Joined
add_part part Whole rest = record rest { lines = part ∷ rest.lines }
add_part part Plus rest = record rest { lines = before_first part rest.lines }
add_part part Minus rest = record rest { lines = before_first part rest.lines }

abbrev pub is_open : Ending → Bool
is_open Whole = false
is_open Plus = true
is_open Minus = true

-- the lines that physical lines make, from the number of the first and its place on, where the one before them ended so
abbrev pub joined_from : Ending → ℕ → ℕ → List (List ℕ) → Joined
joined_from before line at [] = record { lines = []; unfinished = is_open before }
joined_from before line at (bytes ∷ rest) =
    if is_comment bytes
    then joined_from before (line + 1) (at + length bytes + 1) rest
    else add_part (part_of before line at bytes) (ending_of bytes) (joined_from (ending_of bytes) (line + 1) (at + length bytes + 1) rest)

unfoldable pub joined_of : List ℕ → Joined
joined_of text = joined_from Whole 1 0 (lines_of text)

-- The lines one by one: those that are whole, the parts of the next, and how the last physical line ended.
abbrev pub ended : Ending → List Mark → List (List Mark) → Joining
ended Whole line lines = record { lines = lines ++ line ∷ []; front = []; before = Whole }
ended Plus line lines = record { lines = lines; front = line; before = Plus }
ended Minus line lines = record { lines = lines; front = line; before = Minus }

abbrev pub line_added : ℕ → ℕ → List ℕ → Joining → Joining
line_added number at bytes s = if is_comment bytes then s else ended (ending_of bytes) (s.front ++ part_of s.before number at bytes) s.lines

abbrev pub last_line : Ending → List Mark → List (List Mark)
last_line Whole front = []
last_line Plus front = front ∷ []
last_line Minus front = front ∷ []

abbrev pub finished : Joining → Joined
finished s = record { lines = s.lines ++ last_line s.before s.front; unfinished = is_open s.before }

-- a line without the blanks at its end
pub record IsTrimmed (bytes : List ℕ) (len : ℕ) : Type 0 where
  pub within : len ≤ length bytes
  pub blanks : are_blank (drop len bytes) ≡ true
  pub last : 0 < len → slice_index bytes (len - 1) ≢ 32
