-- What the calls of a disk do to its bytes, and what a crash may do between two syncs.
use Rattle.std.specs.Prelude.{◌≡◌, ℕ, ◌+◌, ◌≤◌, min, max, List, ◌++◌, length, take, drop}

-- these bytes over what stands at a place, and past the end
abbrev pub overwritten : List ℕ → ℕ → List ℕ → List ℕ
overwritten old place bytes = take place old ++ bytes ++ drop (place + length bytes) old

-- after a write of n bytes that a crash cuts short: any bytes in the range and past the old end, the same elsewhere
pub record Torn (place n : ℕ) (old new : List ℕ) : Type 0 where
  pub before : take place new ≡ take place old
  pub after : drop (place + n) new ≡ drop (place + n) old
  pub no_shorter : length old ≤ length new
  pub no_longer : length new ≤ max (length old) (place + n)

-- after a cut that a crash cuts short: some length between, and the same bytes up to there
pub record Cut (n : ℕ) (old new : List ℕ) : Type 0 where
  pub no_shorter : min n (length old) ≤ length new
  pub front : take (length new) old ≡ new

-- each new outcome of a crash is an old outcome after a step
abbrev pub Follows : (List ℕ → List ℕ → Type 0) → (List ℕ → Type 0) → (List ℕ → Type 0) → Type 0
Follows step old new = (c : List ℕ) → new c → (d : List ℕ) × old d × step d c

-- a crash leaves this and nothing else: nothing is pending
abbrev pub Only : List ℕ → (List ℕ → Type 0) → Type 0
Only file outcomes = (c : List ℕ) → outcomes c → c ≡ file

-- no outcome is new: what is pending was pending
abbrev pub NothingNew : (List ℕ → Type 0) → (List ℕ → Type 0) → Type 0
NothingNew old new = (c : List ℕ) → new c → old c
