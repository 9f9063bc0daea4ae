-- Bodies of puts: TEXT('text'), or FILL(n,'c'), n times the byte c.
use Rattle.std.specs.Prelude.{◌≡◌, ◌⊎◌, ℕ, ◌≤◌, ◌<◌, true, List, [], ◌∷◌, ◌++◌, length, codes}
use Rattle.mq_text.specs.Quoting.{quoted}
use Rattle.mq_text.specs.Numbers.{is_number, is_negative, value_of}
use Rattle.mq_history.specs.declared.scripts.Body.{Body}
use Rattle.mq_history.specs.declared.scripts.Body.TheVariants as bodies
use Rattle.mq_scn_lines.specs.declared.fault.Limit.TheVariants as limits
use Rattle.mq_scn_lines.specs.declared.fault.LineFault.{LineFault}
use Rattle.mq_scn_lines.specs.declared.fault.LineFault.TheVariants as faults
use Rattle.mq_scn_grammar.specs.Words.{Mem}
use Rattle.mq_scn_grammar.specs.Operands.{IsBracketed, IsNumeral, IsNumber}

-- what stands in the brackets
pub data BodyShape : Type 0 where
  written : (text : List ℕ) → BodyShape
  repeated : (count : List ℕ) (byte : ℕ) → BodyShape

-- a word of that shape
abbrev pub IsShape : BodyShape → List ℕ → Type 0
IsShape (written text) word = IsBracketed (codes "TEXT(") (quoted text) word
IsShape (repeated count byte) word = IsBracketed (codes "FILL(") (count ++ 44 ∷ quoted (byte ∷ [])) word × (Mem 44 count → ⊥)

-- the body, no longer than what is left of the limit of all bodies, nor than the limit of one
abbrev pub IsBodyOf : ℕ → BodyShape → Body → Type 0
IsBodyOf left (written text) body = (length text ≤ left) × (length text ≤ 4194304) × (body ≡ bodies.Text text)
IsBodyOf left (repeated count byte) body = (n : ℕ) × IsNumber 0 4194304 n count × (n ≤ left) × (body ≡ bodies.Fill n byte)

-- a word is a body
abbrev pub IsBodyWord : ℕ → Body → List ℕ → Type 0
IsBodyWord left body word = (shape : BodyShape) × IsShape shape word × IsBodyOf left shape body

-- the limits that a length passes
abbrev pub HasLenFault : (left len : ℕ) → LineFault → Type 0
HasLenFault left len f = ((f ≡ faults.Limit limits.Bodies) × (left < len)) ⊎ ((f ≡ faults.Limit limits.Body) × (4194304 < len))

-- a count below 0 passes the limit of one body, and one above the limit of all passes that
abbrev pub HasShapeFault : ℕ → BodyShape → LineFault → Type 0
HasShapeFault left (written text) f = HasLenFault left (length text) f
HasShapeFault left (repeated count byte) f =
    ((f ≡ faults.Form) × (IsNumeral count → ⊥))
    ⊎ (((f ≡ faults.Limit limits.Body) × (is_negative count ≡ true))
    ⊎ ((is_number count ≡ true) × (HasLenFault left (value_of count) f ⊎ ((f ≡ faults.Limit limits.Bodies) × (67108864 < value_of count)))))

-- why a word is no body
abbrev pub HasBodyFault : ℕ → List ℕ → LineFault → Type 0
HasBodyFault left word f = ((f ≡ faults.Form) × ((shape : BodyShape) → IsShape shape word → ⊥)) ⊎ ((shape : BodyShape) × IsShape shape word × HasShapeFault left shape f)
