-- Arrivals rise from slot to slot, so halving finds one.
use Rattle.std.proofs.Common.{◌≡◌, ℕ, zero, suc, ◌<◌, ◌≤◌, nat_lt, true, false, List, [], ◌∷◌, length, get_or, inl, inr, sym, ap, ◌∙◌, arith}
use Rattle.std.specs.Prelude.{◌⊎◌, ◌==◌, None, Some, slice_get}
use Rattle.std.specs.List.Sorted.{IsPartitionedBy, IsPartitionPoint}
use Rattle.std.proofs.lemmas.Bool.Decides.{nat_tests}
use Rattle.std.proofs.lemmas.Option.{slice_get-get_or}
use Rattle.mq_index.specs.Slots.{AreRising}
use Rattle.mq_index.proofs.ListLaws.{some_is, within}
use Rattle.mq_index.proofs.ChainLaws.{three}

pub parted : (arrival : ℕ) (marks : List ℕ) → AreRising marks → IsPartitionedBy (λ (mark : ℕ). nat_lt mark arrival) marks
parted arrival marks up i j d le lt e = by (three i j)
  where
    less : (a b c : ℕ) → a < b → nat_lt b c ≡ true → nat_lt a c ≡ true
    less a b c p q = grind (arith, nat_tests, p, q)

    by : (i < j) ⊎ ((i ≡ j) ⊎ (j < i)) → nat_lt (get_or marks i d) arrival ≡ true
    by (inl h) = less (get_or marks i d) (get_or marks j d) arrival (up i j (get_or marks i d) (get_or marks j d) h (slice_get-get_or marks i d (omega (arith, h, lt))) (slice_get-get_or marks j d lt)) e
    by (inr (inl h)) = ap (λ (k : ℕ). nat_lt (get_or marks k d) arrival) h ∙ e
    by (inr (inr h)) = absurd (no i j le h)
      where
        no : (a b : ℕ) → a ≤ b → b < a → ⊥
        no a b p q = omega (arith, p, q)

abbrev Starts : ℕ → List ℕ → ℕ → Type 0
Starts arrival marks at = IsPartitionPoint (λ (mark : ℕ). nat_lt mark arrival ≡ true) (λ (mark : ℕ). nat_lt mark arrival ≡ false) marks at

itself : (n : ℕ) → nat_lt n n ≡ true → ⊥
itself n e = grind (arith, nat_tests)

-- an arrival stands nowhere below where those that aren't less begin
module _ (arrival : ℕ) (marks : List ℕ) (at i : ℕ) (h : Starts arrival marks at) (is : slice_get marks i ≡ Some arrival) where
  reads : (d : ℕ) → get_or marks i d ≡ arrival
  reads d = some_is (get_or marks i d) arrival (sym (slice_get-get_or marks i d (within marks arrival i is)) ∙ is)

  not_below : at ≤ i
  not_below = by (three at i)
    where
      by : (at < i) ⊎ ((at ≡ i) ⊎ (i < at)) → at ≤ i
      by (inl p) = omega (arith, p)
      by (inr (inl p)) = omega (arith, p)
      by (inr (inr p)) = absurd (itself arrival (sym (ap (λ (n : ℕ). nat_lt n arrival) (reads 0)) ∙ h.0 i 0 (omega arith) p))

  pub none_past_end : slice_get marks at ≡ None → ⊥
  none_past_end none = absurd (no at i (length marks) (past marks at none) not_below (within marks arrival i is))
    where
      past : (xs : List ℕ) (n : ℕ) → slice_get xs n ≡ None → length xs ≤ n
      past [] n e = omega arith
      past (x ∷ xs) zero e = absurd cc
      past (x ∷ xs) (suc n) e = let g = past xs n e in omega (arith, g)

      no : (a b c : ℕ) → c ≤ a → a ≤ b → b < c → ⊥
      no a b c p q r = omega (arith, p, q, r)

  pub none_other : (mark : ℕ) → AreRising marks → slice_get marks at ≡ Some mark → (mark == arrival) ≡ false → ⊥
  none_other mark up there other = by (three at i)
    where
      same : (a b : ℕ) → a ≡ b → (a == b) ≡ true
      same a b g = grind (arith, nat_tests)

      apart : mark ≡ arrival → ⊥
      apart e = let no : true ≡ false = sym (same mark arrival e) ∙ other in cc

      low : arrival ≤ mark
      low = at_least mark arrival (ap (λ (n : ℕ). nat_lt n arrival) (sym read_it) ∙ h.1 at 0 (omega arith) (within marks mark at there))
        where
          at_least : (a b : ℕ) → nat_lt a b ≡ false → b ≤ a
          at_least a b g = grind (arith, nat_tests)

          read_it : get_or marks at 0 ≡ mark
          read_it = some_is (get_or marks at 0) mark (sym (slice_get-get_or marks at 0 (within marks mark at there)) ∙ there)

      by : (at < i) ⊎ ((at ≡ i) ⊎ (i < at)) → ⊥
      by (inl p) = no mark arrival (up at i mark arrival p there is) low
        where
          no : (a b : ℕ) → a < b → b ≤ a → ⊥
          no a b u v = omega (arith, u, v)
      by (inr (inl p)) = apart (some_is mark arrival (sym there ∙ ap (slice_get marks) p ∙ is))
      by (inr (inr p)) = no at i not_below p
        where
          no : (a b : ℕ) → a ≤ b → b < a → ⊥
          no a b u v = omega (arith, u, v)
