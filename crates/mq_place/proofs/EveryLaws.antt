-- Queues in slots that are changed one after another.
use Rattle.std.proofs.Common.{◌≡◌, ℕ, zero, suc, ◌+◌, ◌≤◌, List, [], ◌∷◌, length, refl, sym, ap, ◌∙◌, arith}
use Rattle.std.specs.Prelude.{Option, option_map}
use Rattle.mq_place.specs.States.{QueueState}
use Rattle.mq_place.specs.Slots.{slot_changed, slots_changed}

module _ (f : QueueState → QueueState) where
  -- the first so many are changed
  abbrev pub changed_first : ℕ → List (Option QueueState) → List (Option QueueState)
  changed_first n [] = []
  changed_first zero (slot ∷ slots) = slot ∷ slots
  changed_first (suc n) (slot ∷ slots) = option_map f slot ∷ changed_first n slots

  pub changed_none : (slots : List (Option QueueState)) → changed_first 0 slots ≡ slots
  changed_none [] = refl
  changed_none (slot ∷ slots) = refl

  step : (slots : List (Option QueueState)) (n : ℕ) → slot_changed f (changed_first n slots) n ≡ changed_first (suc n) slots
  step [] n = refl
  step (slot ∷ slots) zero = ap (λ (ss : List (Option QueueState)). option_map f slot ∷ ss) (sym (changed_none slots))
  step (slot ∷ slots) (suc n) = ap (λ (ss : List (Option QueueState)). option_map f slot ∷ ss) (step slots n)

  -- the next is changed
  pub changed_next : (slots now next : List (Option QueueState)) (n : ℕ) → now ≡ changed_first n slots → next ≡ slot_changed f now n → next ≡ changed_first (n + 1) slots
  changed_next slots now next n is then =
      let more : n + 1 ≡ suc n = omega arith in
      then ∙ ap (λ (ss : List (Option QueueState)). slot_changed f ss n) is ∙ step slots n ∙ ap (λ (k : ℕ). changed_first k slots) (sym more)

  whole : (slots : List (Option QueueState)) (n : ℕ) → length slots ≤ n → changed_first n slots ≡ slots_changed f slots
  whole [] n le = refl
  whole (slot ∷ slots) zero le = absurd (omega (arith, le))
  whole (slot ∷ slots) (suc n) le = ap (λ (ss : List (Option QueueState)). option_map f slot ∷ ss) (whole slots n (omega (arith, le)))

  -- all are
  pub changed_end : (slots now : List (Option QueueState)) (n : ℕ) → now ≡ changed_first n slots → length slots ≤ n → now ≡ slots_changed f slots
  changed_end slots now n is le = is ∙ whole slots n le
