-- The reason of each ident is found where it is told first.
use Rattle.std.proofs.Common.{ℕ, zero, suc, ◌≡◌, ◌+◌, Bool, true, false, cond, List, [], ◌∷◌, Option, Some, None, refl, ap, sym, ◌∙◌, arith, drop}
use Rattle.std.specs.Prelude.{slice_get}
use Rattle.mq_codes.specs.declared.reason.Reason.{Reason}
use Rattle.mq_message.specs.declared.message.Ident.{Ident}
use Rattle.mq_queue.specs.Rows.{same_ident}
use Rattle.mq_queue.proofs.Edits.{same_turned}
use Rattle.mq_calls.specs.declared.deltas.Did.{Did}
use Rattle.mq_calls.specs.declared.deltas.Did.TheVariants as did
use Rattle.mq_spec_network.specs.Ledger.{dead_reason}
use Rattle.mq_net_ledger.specs.Reasons.{now_told, told_by, told_if, reason_of, reason_by, AreTo}

-- the entry at a place stands in front of those behind it
split : (ds : List Did) (n : ℕ) (d : Did) → slice_get ds n ≡ Some d → drop n ds ≡ d ∷ drop (suc n) ds
split [] n d e = absurd cc
split (x ∷ xs) zero d e = ap (λ (y : Did). y ∷ xs) (is x d e)
  where
    is : (a b : Did) → Some a ≡ Some b → a ≡ b
    is a b e = grind (arith, e)
split (x ∷ xs) (suc n) d e = split xs n d e

past : (ds : List Did) (n : ℕ) → slice_get ds n ≡ None → drop n ds ≡ drop (suc n) ds
past [] zero e = refl
past [] (suc n) e = refl
past (x ∷ xs) zero e = absurd cc
past (x ∷ xs) (suc n) e = past xs n e

module _ (ds : List Did) (n : ℕ) (i : Ident) (home : Option ℕ) (before : reason_by ds home ≡ dead_reason i (drop (suc n) ds)) where
  placed : (other : Ident) (dead : Option Reason) (r : Option Reason) → reason_of (slice_get ds n) ≡ dead → (b c : Bool) → b ≡ c → reason_by ds (cond b (Some n) home) ≡ cond c dead (dead_reason i (drop (suc n) ds))
  placed other dead r here true true e = here
  placed other dead r here false false e = before
  placed other dead r here true false e = absurd cc
  placed other dead r here false true e = absurd cc

  by_entry : (d : Did) → slice_get ds n ≡ Some d → reason_by ds (now_told d n i home) ≡ dead_reason i (d ∷ drop (suc n) ds)
  by_entry (did.Placed queue other dead) g = placed other dead None (ap reason_of g) (same_ident other i) (same_ident i other) (same_turned other i)
  by_entry (did.Removed a b c) g = before
  by_entry (did.Moved a b c d e) g = before
  by_entry (did.Held a b c) g = before
  by_entry (did.Released a b) g = before
  by_entry _ g = before

  pub one : (o : Option Did) → slice_get ds n ≡ o → reason_by ds (told_by o n i home) ≡ dead_reason i (drop n ds)
  one None g = before ∙ ap (dead_reason i) (sym (past ds n g))
  one (Some d) g = by_entry d g ∙ ap (dead_reason i) (sym (split ds n d g))

pub told_next : (ds : List Did) (n m : ℕ) (home now : Ident → Option ℕ) → AreTo m home ds → m ≡ n + 1 → ((i : Ident) → now i ≡ told_if ds n i (home i)) → AreTo n now ds
told_next ds n m home now before e notes = λ i.
    ap (reason_by ds) (notes i) ∙ one ds n i (home i) (before i ∙ ap (λ k. dead_reason i (drop k ds)) (e ∙ add n)) (slice_get ds n) refl
  where
    add : (n : ℕ) → n + 1 ≡ suc n
    add n = omega arith
