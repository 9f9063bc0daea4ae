-- Numbers none of which stands twice.
use Rattle.std.specs.Prelude.{ℕ, ◌==◌, ◌&&◌, not, Bool, true, List, [], ◌∷◌}
use Rattle.std.specs.List.{list_any}

abbrev pub is_among : ℕ → List ℕ → Bool
is_among number others = list_any (λ other. other == number) others

abbrev pub are_distinct : List ℕ → Bool
are_distinct [] = true
are_distinct (number ∷ numbers) = not (is_among number numbers) && are_distinct numbers
