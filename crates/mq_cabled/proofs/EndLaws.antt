-- Ends by their cables, and by their places in the list.
use Rattle.std.proofs.Common.{◌≡◌, ℕ, zero, suc, ◌<◌, List, [], ◌∷◌, length, refl, sym, ap, ◌∙◌, arith}
use Rattle.std.specs.Prelude.{position, Some, None, ◌==◌, slice_get, slice_set}
use Rattle.std.proofs.lemmas.Bool.Decides.{nat_tests}
use Rattle.mq_own.specs.from_spec_node.Node.{ChannelEnd, cable_of, end_in, as_receiver, set_end}
use Rattle.mq_own.specs.from_spec_node.Node.ChannelEnd.{Sends, Receives}
use Rattle.mq_cabled.specs.Lifted.{lifted, lifted_ends}

pub at_none : (n : ℕ) (es : List ChannelEnd) → position (λ (e : ChannelEnd). cable_of e == n) es ≡ None → end_in n es ≡ None
at_none n [] e = refl
at_none n (x ∷ xs) e = grind (arith, nat_tests, at_none n xs)

pub at_get : (n : ℕ) (es : List ChannelEnd) (at : ℕ) → position (λ (e : ChannelEnd). cable_of e == n) es ≡ Some at → end_in n es ≡ slice_get es at
at_get n [] at e = absurd cc
at_get n (x ∷ xs) zero e = grind (arith, nat_tests)
at_get n (x ∷ xs) (suc at) e = grind (arith, nat_tests, at_get n xs at)

pub within : (n : ℕ) (es : List ChannelEnd) (at : ℕ) → position (λ (e : ChannelEnd). cable_of e == n) es ≡ Some at → at < length es
within n [] at e = absurd cc
within n (x ∷ xs) zero e = omega arith
within n (x ∷ xs) (suc at) e = grind (arith, nat_tests, within n xs at)

pub set_none : (n : ℕ) (new : ChannelEnd) (es : List ChannelEnd) → n ≡ cable_of new → position (λ (e : ChannelEnd). cable_of e == n) es ≡ None → set_end new es ≡ es
set_none n new [] c e = refl
set_none n new (x ∷ xs) c e = grind (arith, nat_tests, set_none n new xs)

pub set_found : (n : ℕ) (new : ChannelEnd) (es : List ChannelEnd) (at : ℕ) → n ≡ cable_of new → position (λ (e : ChannelEnd). cable_of e == n) es ≡ Some at → slice_set es at new ≡ set_end new es
set_found n new [] at c e = absurd cc
set_found n new (x ∷ xs) zero c e = grind (arith, nat_tests)
set_found n new (x ∷ xs) (suc at) c e = grind (arith, nat_tests, set_found n new xs at)

pub lift_none : (n : ℕ) (es : List ChannelEnd) → position (λ (e : ChannelEnd). cable_of e == n) es ≡ None → lifted_ends n es ≡ es
lift_none n [] e = refl
lift_none n (x ∷ xs) e = grind (arith, nat_tests, lift_none n xs)

pub lift_found : (n : ℕ) (es : List ChannelEnd) (at : ℕ) (x : ChannelEnd) → position (λ (e : ChannelEnd). cable_of e == n) es ≡ Some at → slice_get es at ≡ Some x → slice_set es at (lifted x) ≡ lifted_ends n es
lift_found n [] at x e g = absurd cc
lift_found n (y ∷ ys) zero x e g = grind (arith, nat_tests)
lift_found n (y ∷ ys) (suc at) x e g = grind (arith, nat_tests, lift_found n ys at x)

pub lift_end : (n : ℕ) (es : List ChannelEnd) (at : ℕ) (x : ChannelEnd) → position (λ (e : ChannelEnd). cable_of e == n) es ≡ Some at → slice_get es at ≡ Some x → as_receiver (Some x) ≡ as_receiver (end_in n es)
lift_end n es at x p g = ap as_receiver (sym g ∙ sym (at_get n es at p))

-- An end that is found, and set again.
pub found_cable : (n : ℕ) (x : ChannelEnd) (es : List ChannelEnd) → end_in n es ≡ Some x → cable_of x ≡ n
found_cable n x [] e = absurd cc
found_cable n x (y ∷ ys) e = grind (arith, nat_tests, found_cable n x ys)

set_at_same : (n : ℕ) (x : ChannelEnd) (es : List ChannelEnd) → cable_of x ≡ n → end_in n es ≡ Some x → set_end x es ≡ es
set_at_same n x [] c e = refl
set_at_same n x (y ∷ ys) c e = grind (arith, nat_tests, set_at_same n x ys)

pub set_same : (n : ℕ) (x : ChannelEnd) (es : List ChannelEnd) → end_in n es ≡ Some x → set_end x es ≡ es
set_same n x es e = set_at_same n x es (found_cable n x es e) e

-- of two ends of one cable that are set one after the other the second stays
pub set_twice : (x z : ChannelEnd) (es : List ChannelEnd) → cable_of x ≡ cable_of z → set_end z (set_end x es) ≡ set_end z es
set_twice x z [] c = refl
set_twice x z (y ∷ ys) c = grind (arith, nat_tests, set_twice x z ys)

-- an end whose messages were taken out, and that is set then
lifted_cable : (e : ChannelEnd) → cable_of (lifted e) ≡ cable_of e
lifted_cable (Sends e) = refl
lifted_cable (Receives e) = refl

pub set_lifted : (n : ℕ) (z : ChannelEnd) (es : List ChannelEnd) → cable_of z ≡ n → set_end z (lifted_ends n es) ≡ set_end z es
set_lifted n z [] c = refl
set_lifted n z (y ∷ ys) c = let h = lifted_cable y in grind (arith, nat_tests, set_lifted n z ys)
