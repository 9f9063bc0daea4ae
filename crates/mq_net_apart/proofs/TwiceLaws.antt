-- One ident more: which stand once or more, and which twice or more.
use Rattle.std.proofs.Common.{ℕ, ◌≡◌, ◌+◌, ◌<◌, ◌≤◌, Bool, true, false, List, refl, ap, sym, ◌∙◌, arith, length, take, get_or}
use Rattle.std.specs.Prelude.{◌||◌, not, count_by, nat_lt}
use Rattle.std.proofs.lemmas.Bool.Decides.{nat_tests}
use Rattle.std.proofs.lemmas.List.Sums.{count_by_more_yes, count_by_more_no}
use Rattle.mq_message.specs.declared.message.Ident.{Ident}
use Rattle.mq_queue.specs.Rows.{same_ident}
use Rattle.mq_queue.proofs.Edits.{same_is, same_turned, same_self}
use Rattle.mq_net_apart.specs.Twice.{met_in, twice_in, again_in}
use Rattle.mq_net_apart.proofs.RowLaws.{take_all}

-- the count of one more
count_yes : (xs : List Ident) (i : ℕ) (x k : Ident) → i < length xs → x ≡ get_or xs i x → same_ident k x ≡ true → count_by (same_ident k) (take (i + 1) xs) ≡ count_by (same_ident k) (take i xs) + 1
count_yes xs i x k lt is e = count_by_more_yes (same_ident k) xs i x lt (ap (same_ident k) (sym is) ∙ e)

count_no : (xs : List Ident) (i : ℕ) (x k : Ident) → i < length xs → x ≡ get_or xs i x → same_ident k x ≡ false → count_by (same_ident k) (take (i + 1) xs) ≡ count_by (same_ident k) (take i xs)
count_no xs i x k lt is e = count_by_more_no (same_ident k) xs i x lt (ap (same_ident k) (sym is) ∙ e)

met_yes : (n : ℕ) → true ≡ nat_lt 0 (n + 1)
met_yes n = grind (arith, nat_tests)

pub met_step : (xs : List Ident) (i : ℕ) (x k : Ident) (met now : Ident → Bool) → ((o : Ident) → now o ≡ (same_ident x o || met o)) → ((o : Ident) → met o ≡ met_in (take i xs) o) → i < length xs → x ≡ get_or xs i x
    → now k ≡ met_in (take (i + 1) xs) k
met_step xs i x k met now more before lt is = more k ∙ of (same_ident k x) refl
  where
    of : (t : Bool) → same_ident k x ≡ t → (same_ident x k || met k) ≡ met_in (take (i + 1) xs) k
    of true e =
        ap (λ (b : Bool). b || met k) (same_turned x k ∙ e)
        ∙ met_yes (count_by (same_ident k) (take i xs)) ∙ ap (nat_lt 0) (sym (count_yes xs i x k lt is e))
    of false e =
        ap (λ (b : Bool). b || met k) (same_turned x k ∙ e)
        ∙ before k ∙ ap (nat_lt 0) (sym (count_no xs i x k lt is e))

-- one that was met stands twice, once it comes again
some_again : (n : ℕ) → true ≡ nat_lt 0 n → true ≡ nat_lt 1 (n + 1)
some_again n e = grind (arith, nat_tests)

none_again : (n : ℕ) (t : Bool) → false ≡ nat_lt 0 n → t ≡ nat_lt 1 n → t ≡ nat_lt 1 (n + 1)
none_again n t e f = f ∙ grind (arith, nat_tests)

pub twice_step : (xs : List Ident) (i : ℕ) (x k : Ident) (met twice now : Ident → Bool) → ((o : Ident) → now o ≡ again_in (not (not (met x))) x o (twice o)) → ((o : Ident) → met o ≡ met_in (take i xs) o)
    → ((o : Ident) → twice o ≡ twice_in (take i xs) o) → i < length xs → x ≡ get_or xs i x → now k ≡ twice_in (take (i + 1) xs) k
twice_step xs i x k met twice now more met_before before lt is = more k ∙ of (met x) refl (same_ident k x) refl
  where
    same : same_ident k x ≡ true → met x ≡ nat_lt 0 (count_by (same_ident k) (take i xs))
    same e = met_before x ∙ ap (λ (o : Ident). nat_lt 0 (count_by (same_ident o) (take i xs))) (sym (same_is k x e))

    of : (m : Bool) → met x ≡ m → (t : Bool) → same_ident k x ≡ t → again_in (not (not m)) x k (twice k) ≡ twice_in (take (i + 1) xs) k
    of true em true e =
        ap (λ (b : Bool). b || twice k) (same_turned x k ∙ e)
        ∙ some_again (count_by (same_ident k) (take i xs)) (sym em ∙ same e)
        ∙ ap (nat_lt 1) (sym (count_yes xs i x k lt is e))
    of true em false e =
        ap (λ (b : Bool). b || twice k) (same_turned x k ∙ e)
        ∙ before k ∙ ap (nat_lt 1) (sym (count_no xs i x k lt is e))
    of false em true e =
        none_again (count_by (same_ident k) (take i xs)) (twice k) (sym em ∙ same e) (before k)
        ∙ ap (nat_lt 1) (sym (count_yes xs i x k lt is e))
    of false em false e = before k ∙ ap (nat_lt 1) (sym (count_no xs i x k lt is e))

pub twice_end : (xs : List Ident) (i : ℕ) (k : Ident) (t : Bool) → length xs ≤ i → t ≡ twice_in (take i xs) k → t ≡ twice_in xs k
twice_end xs i k t past e = e ∙ ap (λ (l : List Ident). twice_in l k) (take_all i xs past)
