-- A table of turns: the first line that applies says what is done.
use Rattle.std.specs.Prelude.{Bool, List, [], ◌∷◌, if◌then◌else◌}

pub record Line (A : Type 0) : Type 0 where
  pub applies : Bool
  pub does : A

abbrev pub line : {A : Type 0} → Bool → A → Line A
line applies does = record { applies = applies; does = does }

abbrev pub first_line : {A : Type 0} → (otherwise : A) → List (Line A) → A
first_line otherwise [] = otherwise
first_line otherwise (l ∷ ls) = if l.applies then l.does else first_line otherwise ls
