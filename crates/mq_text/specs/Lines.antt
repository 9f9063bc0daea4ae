-- The lines of a text, and what stands before and behind something in it.
use Rattle.std.specs.Prelude.{ℕ, ◌==◌, List, [], ◌∷◌, if◌then◌else◌, Option, Some, None}
use Rattle.std.specs.List.{onto_first}

-- what stands behind a text
abbrev pub behind : List ℕ → List ℕ → Option (List ℕ)
behind [] raw = Some raw
behind (c ∷ text) [] = None
behind (c ∷ text) (b ∷ raw) = if c == b then behind text raw else None

abbrev pub onto : ℕ → Option (List ℕ × List ℕ) → Option (List ℕ × List ℕ)
onto b None = None
onto b (Some p) = Some (b ∷ p.0, p.1)

-- what stands before the first such byte, and behind it
abbrev pub cut : ℕ → List ℕ → Option (List ℕ × List ℕ)
cut c [] = None
cut c (b ∷ bytes) = if b == c then Some ([], bytes) else onto b (cut c bytes)

-- a line feed ends a line; the last line may lack it
abbrev pub lines_of : List ℕ → List (List ℕ)
lines_of [] = []
lines_of (b ∷ bytes) = if b == 10 then [] ∷ lines_of bytes else onto_first b (lines_of bytes)
