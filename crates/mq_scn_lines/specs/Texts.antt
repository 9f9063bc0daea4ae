-- Texts in quotes, and fields that they fill.
use Rattle.std.specs.Prelude.{ℕ, ◌-◌, ◌==◌, ◌&&◌, nat_lt, Bool, false, List, [], ◌∷◌, ◌++◌, length, replicate, if◌then◌else◌, Option, Some, None, Result, Ok, Err}
use Rattle.mq_text.specs.Quoting.{quoted_len, unquoted}
use Rattle.mq_scn_lines.specs.declared.fault.LineFault.{LineFault}
use Rattle.mq_scn_lines.specs.declared.fault.LineFault.TheVariants as faults

abbrev pub is_len : ℕ → Option ℕ → Bool
is_len n None = false
is_len n (Some len) = len == n

-- a text in quotes, whole: its first quote is closed by its last byte
abbrev pub is_text : List ℕ → Bool
is_text [] = false
is_text (b ∷ bs) = b == 39 && is_len (length bs) (quoted_len bs)

-- a text in quotes; two quotes in it are one
abbrev pub text_in : List ℕ → Result (List ℕ) LineFault
text_in word = if is_text word then Ok (unquoted word) else Err faults.Form

-- a text with that byte behind it
abbrev pub filled : ℕ → ℕ → List ℕ → List ℕ
filled width pad text = text ++ replicate (width - length text) pad

abbrev pub fitted : ℕ → ℕ → Result (List ℕ) LineFault → Result (List ℕ) LineFault
fitted width pad (Ok text) = if nat_lt width (length text) then Err faults.Form else Ok (filled width pad text)
fitted width pad (Err fault) = Err fault

-- the field that a text in quotes fills
abbrev pub field_in : ℕ → ℕ → List ℕ → Result (List ℕ) LineFault
field_in width pad word = fitted width pad (text_in word)
