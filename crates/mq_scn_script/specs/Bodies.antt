-- Bodies of puts: TEXT('text'), or FILL(n,'c'), n times the byte c.
use Rattle.std.specs.Prelude.{ℕ, nat_lt, ◌==◌, Bool, false, List, [], ◌∷◌, length, codes, if◌then◌else◌, Option, Some, None, Result, Ok, Err}
use Rattle.mq_text.specs.declared.numbers.NumberFault.{NumberFault}
use Rattle.mq_text.specs.declared.numbers.NumberFault.TheVariants.{NoNumber, OutOfRange}
use Rattle.mq_text.specs.Numbers.{number_in}
use Rattle.mq_text.specs.Lines.{cut}
use Rattle.mq_history.specs.declared.scripts.Body.{Body}
use Rattle.mq_history.specs.declared.scripts.Body.TheVariants as bodies
use Rattle.mq_scn_lines.specs.declared.fault.Limit.TheVariants as limits
use Rattle.mq_scn_lines.specs.declared.fault.LineFault.{LineFault}
use Rattle.mq_scn_lines.specs.declared.fault.LineFault.TheVariants as faults
use Rattle.mq_scn_lines.specs.Operands.{bracketed}
use Rattle.mq_scn_lines.specs.Texts.{text_in}

abbrev pub body_len : Body → ℕ
body_len (bodies.Text text) = length text
body_len (bodies.Fill count byte) = count

-- a length within what is left of the limit of all bodies, and within that of one
abbrev pub fits : ℕ → ℕ → Result ℕ LineFault
fits left len = if nat_lt left len then Err (faults.Limit limits.Bodies) else if nat_lt 4194304 len then Err (faults.Limit limits.Body) else Ok len

abbrev pub begins_with_minus : List ℕ → Bool
begins_with_minus [] = false
begins_with_minus (b ∷ bs) = b == 45

-- the limit that a number passes which is too large for all bodies, or has a minus
abbrev pub beyond : List ℕ → LineFault
beyond text = if begins_with_minus text then faults.Limit limits.Body else faults.Limit limits.Bodies

abbrev pub fill_number : ℕ → List ℕ → Result ℕ NumberFault → Result ℕ LineFault
fill_number left text (Ok len) = fits left len
fill_number left text (Err NoNumber) = Err faults.Form
fill_number left text (Err OutOfRange) = Err (beyond text)

-- how many bytes a FILL has
abbrev pub fill_len : ℕ → List ℕ → Result ℕ LineFault
fill_len left text = fill_number left text (number_in 0 67108864 text)

abbrev pub one_byte : Result (List ℕ) LineFault → Result ℕ LineFault
one_byte (Ok []) = Err faults.Form
one_byte (Ok (b ∷ [])) = Ok b
one_byte (Ok (b ∷ c ∷ bs)) = Err faults.Form
one_byte (Err fault) = Err fault

-- the byte of a FILL
abbrev pub filled_with : List ℕ → Result ℕ LineFault
filled_with word = one_byte (text_in word)

abbrev pub with_text : List ℕ → Result ℕ LineFault → Result Body LineFault
with_text text (Ok len) = Ok (bodies.Text text)
with_text text (Err fault) = Err fault

abbrev pub text_body_of : ℕ → Result (List ℕ) LineFault → Result Body LineFault
text_body_of left (Ok text) = with_text text (fits left (length text))
text_body_of left (Err fault) = Err fault

abbrev pub text_body : ℕ → List ℕ → Result Body LineFault
text_body left value = text_body_of left (text_in value)

abbrev pub with_len : ℕ → Result ℕ LineFault → Result Body LineFault
with_len byte (Ok len) = Ok (bodies.Fill len byte)
with_len byte (Err fault) = Err fault

abbrev pub with_byte : ℕ → List ℕ → Result ℕ LineFault → Result Body LineFault
with_byte left count (Ok byte) = with_len byte (fill_len left count)
with_byte left count (Err fault) = Err fault

abbrev pub fill_of : ℕ → Option (List ℕ × List ℕ) → Result Body LineFault
fill_of left None = Err faults.Form
fill_of left (Some parts) = with_byte left parts.0 (filled_with parts.1)

abbrev pub fill_body : ℕ → List ℕ → Result Body LineFault
fill_body left value = fill_of left (cut 44 value)

abbrev pub body_of : ℕ → Option (List ℕ) → Option (List ℕ) → Result Body LineFault
body_of left (Some value) fill = text_body left value
body_of left None (Some value) = fill_body left value
body_of left None None = Err faults.Form

-- the body that a word is, where so many bytes are left of the limit of all bodies
abbrev pub body_in : ℕ → List ℕ → Result Body LineFault
body_in left word = body_of left (bracketed (codes "TEXT(") word) (bracketed (codes "FILL(") word)
