-- Parts, and others behind them: what both come to, and a write of the first that was stopped.
use Rattle.std.proofs.Common.{◌≡◌, ℕ, zero, suc, ◌+◌, [], ◌∷◌, ◌++◌, List, append_assoc, refl, ap, arith, sym, ◌∙◌}
use Rattle.mq_calls.specs.Words.{Part, Plain, IsWrite, do_all, do_part, delta_of, delta_before, stopped_at, write_calls, calls_at, calls_before}
use Rattle.mq_calls.specs.declared.deltas.Did.{Did}

-- all were done
pub do_both : (ps qs : List Part) (p : Plain) → do_all (ps ++ qs) p ≡ do_all qs (do_all ps p)
do_both [] qs p = refl
do_both (a ∷ ps) qs p = do_both ps qs (do_part a p)

pub delta_both : (ps qs : List Part) → delta_of (ps ++ qs) ≡ delta_of ps ++ delta_of qs
delta_both [] qs = refl
delta_both (a ∷ ps) qs = ap (λ (d : List Did). a.delta ++ d) (delta_both ps qs) ∙ sym (append_assoc a.delta (delta_of ps) (delta_of qs))

pub calls_both : (ps qs : List Part) → write_calls (ps ++ qs) ≡ write_calls ps + write_calls qs
calls_both [] qs = omega arith
calls_both (a ∷ ps) qs = omega (arith, calls_both ps qs)

-- one of the first was stopped
pub write_front : (k : ℕ) (ps qs : List Part) → IsWrite k ps → IsWrite k (ps ++ qs)
write_front k [] qs w = absurd w
write_front zero (a ∷ ps) qs w = w
write_front (suc k) (a ∷ ps) qs w = write_front k ps qs w

pub at_front : (k : ℕ) (ps qs : List Part) → IsWrite k ps → calls_at k (ps ++ qs) ≡ calls_at k ps
at_front k [] qs w = absurd w
at_front zero (a ∷ ps) qs w = refl
at_front (suc k) (a ∷ ps) qs w = at_front k ps qs w

pub before_front : (k : ℕ) (ps qs : List Part) → IsWrite k ps → calls_before k (ps ++ qs) ≡ calls_before k ps
before_front k [] qs w = absurd w
before_front zero (a ∷ ps) qs w = refl
before_front (suc k) (a ∷ ps) qs w = omega (arith, before_front k ps qs w)

pub stopped_front : (k : ℕ) (ps qs : List Part) (left : ℕ) (p : Plain) → IsWrite k ps → stopped_at k (ps ++ qs) left p ≡ stopped_at k ps left p
stopped_front k [] qs left p w = absurd w
stopped_front zero (a ∷ ps) qs left p w = refl
stopped_front (suc k) (a ∷ ps) qs left p w = stopped_front k ps qs left (do_part a p) w

pub delta_front : (k : ℕ) (ps qs : List Part) → IsWrite k ps → delta_before k (ps ++ qs) ≡ delta_before k ps
delta_front k [] qs w = absurd w
delta_front zero (a ∷ ps) qs w = refl
delta_front (suc k) (a ∷ ps) qs w = ap (λ (d : List Did). a.delta ++ d) (delta_front k ps qs w)
