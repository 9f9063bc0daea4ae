-- Attributes that are kept without effect, by their keywords.
use Rattle.std.proofs.Common.{◌≡◌, ℕ, zero, suc, ◌<◌, ◌≤◌, Bool, true, false, cond, List, [], ◌∷◌, ◌++◌, refl, Some, None, length, get_or, slice_set, arith}
use Rattle.std.specs.Prelude.{position}
use Rattle.std.specs.List.{position_or_len}
use Rattle.std.specs.Str.{bytes_eq}
use Rattle.std.proofs.lemmas.Bool.Decides.{nat_tests}
use Rattle.std.proofs.lemmas.List.Sums.{fails_before_first}
use Rattle.std.proofs.lemmas.List.Quantifiers.{position-Some}
use Rattle.mq_objects.specs.declared.object.KeptAttribute.{KeptAttribute}
use Rattle.mq_objects.specs.Settings.{keep_attribute}

module _ (keyword value : List ℕ) (d : KeptAttribute) where
  has_keyword : KeptAttribute → Bool
  has_keyword k = bytes_eq keyword k.keyword

  given : KeptAttribute
  given = record { keyword = keyword; value = value }

  -- under a keyword that stands first at a place, that place changes
  keep-at : (kept : List KeptAttribute) (i : ℕ) → i < length kept → bytes_eq keyword (get_or kept i d).keyword ≡ true → ((k : ℕ) → k < i → bytes_eq keyword (get_or kept k d).keyword ≡ false)
      → keep_attribute keyword value kept ≡ slice_set kept i (record { keyword = keyword; value = value })
  keep-at [] i lt here before = absurd (omega arith)
  keep-at (k ∷ kept) zero lt here before = λ j. cond (here j) (record { keyword = keyword; value = value } ∷ kept) (k ∷ keep_attribute keyword value kept)
  keep-at (k ∷ kept) (suc i) lt here before =
      let rest = keep-at kept i (omega arith) here (λ n less. before (suc n) (omega arith)) in
      let first : bytes_eq keyword k.keyword ≡ false = before zero (omega arith) in
      λ j. cond (first j) (record { keyword = keyword; value = value } ∷ kept) (k ∷ rest j)

  -- under a keyword that isn't there it stands last
  keep-new : (kept : List KeptAttribute) → ((k : ℕ) → k < length kept → bytes_eq keyword (get_or kept k d).keyword ≡ false)
      → keep_attribute keyword value kept ≡ kept ++ record { keyword = keyword; value = value } ∷ []
  keep-new [] none = refl
  keep-new (k ∷ kept) none =
      let rest = keep-new kept (λ n less. none (suc n) (omega arith)) in
      let first : bytes_eq keyword k.keyword ≡ false = none zero (omega arith) in
      λ j. cond (first j) (record { keyword = keyword; value = value } ∷ kept) (k ∷ rest j)

  pub keep_attribute-at : (kept : List KeptAttribute) (i : ℕ) → position (λ (k : KeptAttribute). bytes_eq keyword k.keyword) kept ≡ Some i
      → keep_attribute keyword value kept ≡ slice_set kept i (record { keyword = keyword; value = value })
  keep_attribute-at kept i e =
      let h = position-Some (λ (k : KeptAttribute). bytes_eq keyword k.keyword) kept i d e in
      keep-at kept i h.0 h.1 h.2

  pub keep_attribute-new : (kept : List KeptAttribute) → position (λ (k : KeptAttribute). bytes_eq keyword k.keyword) kept ≡ None
      → keep_attribute keyword value kept ≡ kept ++ record { keyword = keyword; value = value } ∷ []
  keep_attribute-new kept e =
      let past : length kept ≤ position_or_len (λ (k : KeptAttribute). bytes_eq keyword k.keyword) kept = grind (arith, nat_tests) in
      keep-new kept (λ k lt. fails_before_first (λ (k : KeptAttribute). bytes_eq keyword k.keyword) kept k d (omega arith))
