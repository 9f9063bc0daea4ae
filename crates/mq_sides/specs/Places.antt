-- Places in a list that is in order of names.
use Rattle.std.specs.Prelude.{◌≡◌, ℕ, ◌+◌, ◌<◌, suc, sum_by, length, slice_get, slice_set, Bool, true, false, ◌||◌, Option, Some, None, List, [], ◌∷◌, if◌then◌else◌}
use Rattle.std.specs.List.{remove}
use Rattle.std.specs.Str.{bytes_eq}
use Rattle.mq_base.specs.Members.{Chain}
use Rattle.mq_unit.specs.from_calls.Words.{comes_before}

-- it has the name, or stands behind it
abbrev pub is_there : {A : Type 0} → (A → List ℕ) → List ℕ → A → Bool
is_there name channel x = bytes_eq channel (name x) || comes_before channel (name x)

-- the first such place; else behind the last
abbrev pub place_in : {A : Type 0} → (A → List ℕ) → List ℕ → List A → ℕ
place_in name channel [] = 0
place_in name channel (x ∷ xs) = if is_there name channel x then 0 else suc (place_in name channel xs)

-- it is there, and has the name
abbrev pub is_of : {A : Type 0} → (A → List ℕ) → List ℕ → Option A → Bool
is_of name channel None = false
is_of name channel (Some x) = bytes_eq channel (name x)

-- a value that was set is gone again
abbrev pub undone : {A : Type 0} → ℕ → Option A → List A → List A
undone place None xs = remove xs place
undone place (Some x) xs = slice_set xs place x

-- and so the list is as it was
pub record CanUndo {A : Type 0} (place : ℕ) (before : Option A) (old new : List A) : Type 0 where
  pub within : place < length new
  pub same : undone place before new ≡ old

-- a list in the order of its names, each once
abbrev pub AreByName : {A : Type 0} → (A → List ℕ) → List A → Type 0
AreByName {A} name xs = Chain (λ (x y : A). comes_before (name x) (name y) ≡ true) xs

-- what a count gives of a value, where there is one
abbrev pub counted : {A : Type 0} → (A → ℕ) → Option A → ℕ
counted f None = 0
counted f (Some x) = f x

-- one value took the place of another, or was put between others: so it is in each sum over the list
abbrev pub IsSummed : {A : Type 0} → Option A → A → List A → List A → Type 0
IsSummed {A} before value old new = (f : A → ℕ) → sum_by f new + counted f before ≡ sum_by f old + f value

-- a value, where it has the name
abbrev pub of_name : {A : Type 0} → (A → List ℕ) → List ℕ → Option A → Option A
of_name name channel None = None
of_name name channel (Some x) = if bytes_eq channel (name x) then Some x else None

-- what a value of that name takes the place of
abbrev pub standing : {A : Type 0} → (A → List ℕ) → List ℕ → List A → Option A
standing name channel xs = of_name name channel (slice_get xs (place_in name channel xs))
