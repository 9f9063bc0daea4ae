-- Connections by number.
use Rattle.std.proofs.Common.{◌≡◌, ℕ, zero, suc, ◌<◌, List, [], ◌∷◌, length, refl, arith, sym}
use Rattle.std.specs.Prelude.{position, Some, None, ◌==◌, slice_get, slice_set}
use Rattle.std.proofs.lemmas.Bool.Decides.{nat_tests}
use Rattle.std.specs.Prelude.{Option}
use Rattle.mq_net_books.proofs.BookLaws.{set_at}
use Rattle.mq_calls.specs.declared.state.Connection.{Connection}
use Rattle.mq_calls.specs.Reads.{connection_at}
use Rattle.mq_calls.specs.Changes.{change_connection}

pub at_none : (n : ℕ) (cs : List Connection) → position (λ (c : Connection). c.number == n) cs ≡ None → connection_at n cs ≡ None
at_none n [] e = refl
at_none n (c ∷ cs) e = grind (arith, nat_tests, at_none n cs)

pub at_get : (n : ℕ) (cs : List Connection) (at : ℕ) → position (λ (c : Connection). c.number == n) cs ≡ Some at → connection_at n cs ≡ slice_get cs at
at_get n [] at e = absurd cc
at_get n (c ∷ cs) zero e = grind (arith, nat_tests)
at_get n (c ∷ cs) (suc at) e = grind (arith, nat_tests, at_get n cs at)

pub within : (n : ℕ) (cs : List Connection) (at : ℕ) → position (λ (c : Connection). c.number == n) cs ≡ Some at → at < length cs
within n [] at e = absurd cc
within n (c ∷ cs) zero e = omega arith
within n (c ∷ cs) (suc at) e = grind (arith, nat_tests, within n cs at)

pub changed_at : (n : ℕ) (f : Connection → Connection) (cs : List Connection) (at : ℕ) (c : Connection) → position (λ (c : Connection). c.number == n) cs ≡ Some at → slice_get cs at ≡ Some c → slice_set cs at (f c) ≡ change_connection n f cs
changed_at n f [] at c e g = grind (arith)
changed_at n f (d ∷ ds) zero c e g = grind (arith)
changed_at n f (d ∷ ds) (suc at) c e g = grind (arith, changed_at n f ds at c)

pub changed_none : (n : ℕ) (f : Connection → Connection) (cs : List Connection) → position (λ (c : Connection). c.number == n) cs ≡ None → change_connection n f cs ≡ cs
changed_none n f [] e = refl
changed_none n f (d ∷ ds) e = grind (arith, changed_none n f ds)

-- A connection that is changed where it was found.
abbrev pub change_found : (Connection → Connection) → List Connection → Option ℕ → List Connection
change_found f cs None = cs
change_found f cs (Some at) = set_at f cs at (slice_get cs at)

there : {A : Type 0} (xs : List A) (at : ℕ) → at < length xs → slice_get xs at ≡ None → ⊥
there [] at l e = omega arith
there (x ∷ xs) zero l e = cc
there (x ∷ xs) (suc at) l e = there xs at (omega arith) e

pub changed_found : (n : ℕ) (f : Connection → Connection) (cs : List Connection) → change_connection n f cs ≡ change_found f cs (position (λ (c : Connection). c.number == n) cs)
changed_found n f cs = of (position (λ (c : Connection). c.number == n) cs) refl
  where
    got : (at : ℕ) (q : Option Connection) → position (λ (c : Connection). c.number == n) cs ≡ Some at → slice_get cs at ≡ q → change_connection n f cs ≡ set_at f cs at q
    got at None e g = absurd (there cs at (within n cs at e) g)
    got at (Some c) e g = sym (changed_at n f cs at c e g)

    of : (o : Option ℕ) → position (λ (c : Connection). c.number == n) cs ≡ o → change_connection n f cs ≡ change_found f cs o
    of None e = changed_none n f cs e
    of (Some at) e = got at (slice_get cs at) e refl
