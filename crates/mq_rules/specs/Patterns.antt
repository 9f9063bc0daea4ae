-- Patterns of texts.
use Rattle.std.specs.Prelude.{◌≡◌, ◌≤◌, ℕ, ◌==◌, Bool, true, false, ◌&&◌, ◌||◌, List, [], ◌∷◌, length, drop, slice_index_or, if◌then◌else◌}
pub use Rattle.mq_heads.specs.from_base.Name.{onto_text, trimmed}

-- the text itself, or what is left of it behind some of its bytes, passes
abbrev pub some_rest : (List ℕ → Bool) → List ℕ → Bool
some_rest test [] = test []
some_rest test (b ∷ bs) = test (b ∷ bs) || some_rest test bs

-- the text has a first byte that the pattern's byte stands for, where ? stands for any, and the rest passes
abbrev pub first_and_rest : ℕ → (List ℕ → Bool) → List ℕ → Bool
first_and_rest c test [] = false
first_and_rest c test (b ∷ bs) = (c == 63 || c == b) && test bs

-- a text is like a pattern, byte by byte: * stands for any bytes, also for none, ? for one byte, another byte for itself
abbrev pub like : List ℕ → List ℕ → Bool
like [] [] = true
like [] (b ∷ bs) = false
like (c ∷ pattern) text = if c == 42 then some_rest (like pattern) text else first_and_rest c (like pattern) text

-- for each place of a text, whether what is left from there on is like the pattern
pub record AreLike (places : List Bool) (pattern text : List ℕ) : Type 0 where
  pub each : (i : ℕ) → i ≤ length text → slice_index_or places i false ≡ like pattern (drop i text)
