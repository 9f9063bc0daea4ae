-- Slots: a row more, rows that stay, and which slot holds a row.
use Rattle.std.proofs.Common.{ℕ, zero, suc, ◌≡◌, ◌+◌, ◌<◌, ◌≤◌, Bool, true, false, cond, List, [], ◌∷◌, ◌++◌, Option, Some, None, refl, ap, sym, subst, ◌∙◌, arith, length, take, drop}
use Rattle.std.specs.Prelude.{nat_lt, map, not, slice_get, slice_set}
use Rattle.std.proofs.lemmas.Bool.Decides.{nat_tests}
use Rattle.mq_message.specs.declared.message.Ident.{Ident}
use Rattle.mq_queue.specs.declared.row.Row.{Row}
use Rattle.mq_queue.specs.Rows.{keep, same_ident, has_ident, is_persistent}
use Rattle.mq_net_rows.specs.Stored.{slot_or, row_at, row_list, rows_of, kept_slot, kept_if, kept_at as kept_there, holds, AreLasting}

-- A slot more.
pub row_before : (store : List (Option Row)) (x : Option Row) (k : ℕ) → k < length store → row_at (store ++ x ∷ []) k ≡ row_at store k
row_before [] x k lt = absurd (omega (arith, lt))
row_before (s ∷ ss) x zero lt = refl
row_before (s ∷ ss) x (suc k) lt = row_before ss x k (omega (arith, lt))

pub row_last : (store : List (Option Row)) (x : Option Row) → row_at (store ++ x ∷ []) (length store) ≡ x
row_last [] x = refl
row_last (s ∷ ss) x = row_last ss x

pub row_beyond : (store : List (Option Row)) (k : ℕ) → length store ≤ k → row_at store k ≡ None
row_beyond [] k le = refl
row_beyond (s ∷ ss) zero le = absurd (omega (arith, le))
row_beyond (s ∷ ss) (suc k) le = row_beyond ss k (omega (arith, le))

pub set_last : (store : List (Option Row)) (x y : Option Row) → slice_set (store ++ x ∷ []) (length store) y ≡ store ++ y ∷ []
set_last [] x y = refl
set_last (s ∷ ss) x y = ap (λ (l : List (Option Row)). s ∷ l) (set_last ss x y)

pub longer : (store : List (Option Row)) (x : Option Row) → length (store ++ x ∷ []) ≡ length store + 1
longer [] x = refl
longer (s ∷ ss) x = let h = longer ss x in omega (arith, h)

-- a row of the longer store is one of before, or the new one
pub row_either : {A : Type 0} (store : List (Option Row)) (x : Option Row) (k : ℕ) (row : Row) → row_at (store ++ x ∷ []) k ≡ Some row → (k < length store → row_at store k ≡ Some row → A) → (k ≡ length store → x ≡ Some row → A) → A
row_either {A} store x k row e old new = by (nat_lt k (length store)) refl
  where
    last : (n : ℕ) → length store ≡ n → k ≡ n → x ≡ Some row
    last n is same = sym (row_last store x) ∙ ap (row_at (store ++ x ∷ [])) (is ∙ sym same) ∙ e

    beyond : length store < k → A
    beyond lt = absurd (let t : None ≡ Some row = sym (row_beyond (store ++ x ∷ []) k (omega (arith, longer store x, lt))) ∙ e in cc)

    at : (b : Bool) → nat_lt (length store) k ≡ b → nat_lt k (length store) ≡ false → A
    at true h g = beyond (grind (arith, nat_tests, h))
    at false h g = let same : k ≡ length store = grind (arith, nat_tests, h, g) in new same (last (length store) refl same)

    by : (b : Bool) → nat_lt k (length store) ≡ b → A
    by true h = let lt : k < length store = grind (arith, nat_tests, h) in old lt (sym (row_before store x k lt) ∙ e)
    by false h = at (nat_lt (length store) k) refl h

-- Rows that stay.
module _ (stays : Row → Bool) where
  pub kept_long : (store : List (Option Row)) → length (map (kept_slot stays) store) ≡ length store
  kept_long [] = refl
  kept_long (s ∷ ss) = ap (λ n. suc n) (kept_long ss)

  pub kept_at : (store : List (Option Row)) (k : ℕ) → row_at (map (kept_slot stays) store) k ≡ kept_slot stays (row_at store k)
  kept_at [] k = refl
  kept_at (s ∷ ss) zero = refl
  kept_at (s ∷ ss) (suc k) = kept_at ss k

  kept_was : (o : Option Row) (row : Row) → kept_slot stays o ≡ Some row → o ≡ Some row
  kept_was None row e = e
  kept_was (Some x) row e = by (stays x) e
    where
      by : (b : Bool) → cond b (Some x) None ≡ Some row → Some x ≡ Some row
      by true e = e
      by false e = absurd cc

  kept_stays : (o : Option Row) (row : Row) → kept_slot stays o ≡ Some row → stays row ≡ true
  kept_stays None row e = absurd cc
  kept_stays (Some x) row e = by (stays x) refl e
    where
      some_is : (a b : Row) → Some a ≡ Some b → a ≡ b
      some_is a b e = grind (arith, e)

      by : (b : Bool) → stays x ≡ b → cond b (Some x) None ≡ Some row → stays row ≡ true
      by true h e = ap stays (sym (some_is x row e)) ∙ h
      by false h e = absurd cc

  -- a row that stands was there, and passed
  pub row_was : (store : List (Option Row)) (k : ℕ) (row : Row) → row_at (map (kept_slot stays) store) k ≡ Some row → row_at store k ≡ Some row
  row_was store k row e = kept_was (row_at store k) row (sym (kept_at store k) ∙ e)

  pub row_stays : (store : List (Option Row)) (k : ℕ) (row : Row) → row_at (map (kept_slot stays) store) k ≡ Some row → stays row ≡ true
  row_stays store k row e = kept_stays (row_at store k) row (sym (kept_at store k) ∙ e)

  pub keep_both : (xs ys : List Row) → keep stays (xs ++ ys) ≡ keep stays xs ++ keep stays ys
  keep_both [] ys = refl
  keep_both (x ∷ xs) ys = by (stays x) (keep_both xs ys)
    where
      by : (b : Bool) → keep stays (xs ++ ys) ≡ keep stays xs ++ keep stays ys → cond b (x ∷ keep stays (xs ++ ys)) (keep stays (xs ++ ys)) ≡ cond b (x ∷ keep stays xs) (keep stays xs) ++ keep stays ys
      by true e = ap (λ (l : List Row). x ∷ l) e
      by false e = e

  kept_list : (o : Option Row) → row_list (kept_slot stays o) ≡ keep stays (row_list o)
  kept_list None = refl
  kept_list (Some x) = by (stays x)
    where
      by : (b : Bool) → row_list (cond b (Some x) None) ≡ cond b (x ∷ []) []
      by true = refl
      by false = refl

  pub kept_rows : (store : List (Option Row)) (ks : List ℕ) → rows_of (map (kept_slot stays) store) ks ≡ keep stays (rows_of store ks)
  kept_rows store [] = refl
  kept_rows store (k ∷ ks) =
      ap (λ (o : Option Row). row_list o ++ rows_of (map (kept_slot stays) store) ks) (kept_at store k)
      ∙ ap (λ (l : List Row). l ++ rows_of (map (kept_slot stays) store) ks) (kept_list (row_at store k))
      ∙ ap (λ (l : List Row). keep stays (row_list (row_at store k)) ++ l) (kept_rows store ks)
      ∙ sym (keep_both (row_list (row_at store k)) (rows_of store ks))

-- A slot is emptied, or left.
pub emptied : (ident : Ident) (slot : Option Row) → holds (has_ident ident) slot ≡ true → None ≡ kept_slot (λ (row : Row). not (has_ident ident row)) slot
emptied ident None e = refl
emptied ident (Some row) e = by (has_ident ident row) e
  where
    by : (b : Bool) → b ≡ true → None ≡ cond (not b) (Some row) None
    by true e = refl
    by false e = absurd cc

pub left : (ident : Ident) (slot : Option Row) → holds (has_ident ident) slot ≡ false → slot ≡ kept_slot (λ (row : Row). not (has_ident ident row)) slot
left ident None e = refl
left ident (Some row) e = by (has_ident ident row) e
  where
    by : (b : Bool) → b ≡ false → Some row ≡ cond (not b) (Some row) None
    by true e = absurd cc
    by false e = refl

pub lost : (slot : Option Row) → holds (λ (row : Row). not (is_persistent row.message)) slot ≡ true → None ≡ kept_slot (λ (row : Row). is_persistent row.message) slot
lost None e = refl
lost (Some row) e = by (is_persistent row.message) e
  where
    by : (b : Bool) → not b ≡ true → None ≡ cond b (Some row) None
    by true e = absurd cc
    by false e = refl

pub lasting : (slot : Option Row) → holds (λ (row : Row). not (is_persistent row.message)) slot ≡ false → slot ≡ kept_slot (λ (row : Row). is_persistent row.message) slot
lasting None e = refl
lasting (Some row) e = by (is_persistent row.message) e
  where
    by : (b : Bool) → not b ≡ false → Some row ≡ cond b (Some row) None
    by true e = refl
    by false e = absurd cc

-- One slot is looked at, where no other holds such a row.
module _ (stays : Row → Bool) where
  same_slot : (s : Option Row) → ((row : Row) → s ≡ Some row → stays row ≡ false → ⊥) → s ≡ kept_slot stays s
  same_slot None n = refl
  same_slot (Some row) n = by (stays row) refl
    where
      by : (b : Bool) → stays row ≡ b → Some row ≡ cond b (Some row) None
      by true h = refl
      by false h = absurd (n row refl h)

  none_more : (ss : List (Option Row)) → ((k : ℕ) (row : Row) → row_at ss k ≡ Some row → stays row ≡ false → ⊥) → ss ≡ map (kept_slot stays) ss
  none_more [] n = refl
  none_more (s ∷ ss) n =
      ap (λ (x : Option Row). x ∷ ss) (same_slot s (λ row e h. n zero row e h))
      ∙ ap (λ (l : List (Option Row)). kept_slot stays s ∷ l) (none_more ss (λ k row e h. n (suc k) row e h))

  here : (store : List (Option Row)) (at : ℕ) (slot : Option Row) → slice_get store at ≡ Some slot → ((k : ℕ) (row : Row) → row_at store k ≡ Some row → stays row ≡ false → k ≡ at)
      → slice_set store at (kept_slot stays slot) ≡ map (kept_slot stays) store
  here [] at slot g n = absurd cc
  here (s ∷ ss) zero slot g n =
      ap (λ (x : Option Row). kept_slot stays x ∷ ss) (sym (slot_is s slot g))
      ∙ ap (λ (l : List (Option Row)). kept_slot stays s ∷ l) (none_more ss (λ k row e h. absurd (let t = n (suc k) row e h in omega (arith, t))))
    where
      slot_is : (a b : Option Row) → Some a ≡ Some b → a ≡ b
      slot_is a b e = grind (arith, e)
  here (s ∷ ss) (suc at) slot g n =
      ap (λ (l : List (Option Row)). s ∷ l) (here ss at slot g (λ k row e h. let t = n (suc k) row e h in omega (arith, t)))
      ∙ ap (λ (x : Option Row). x ∷ map (kept_slot stays) ss) (same_slot s (λ row e h. absurd (let t = n zero row e h in omega (arith, t))))

  -- no slot holds one
  pub none_one : (store : List (Option Row)) → ((k : ℕ) (row : Row) → row_at store k ≡ Some row → stays row ≡ false → ⊥) → store ≡ map (kept_slot stays) store
  none_one store n = none_more store n

  pub only_one : (store : List (Option Row)) (at : ℕ) → ((k : ℕ) (row : Row) → row_at store k ≡ Some row → stays row ≡ false → k ≡ at) → kept_there stays at store ≡ map (kept_slot stays) store
  only_one store at n = by (slice_get store at) refl
    where
      past : slice_get store at ≡ None → (k : ℕ) (row : Row) → row_at store k ≡ Some row → stays row ≡ false → ⊥
      past g k row e h = absurd (let t : None ≡ Some row = sym (ap slot_or g) ∙ ap (row_at store) (sym (n k row e h)) ∙ e in cc)

      by : (o : Option (Option Row)) → slice_get store at ≡ o → kept_if stays o at store ≡ map (kept_slot stays) store
      by None g = none_one store (past g)
      by (Some slot) g = here store at slot g n

-- What a look-up changes, and the loop over all slots.
pub kept_far : (stays : Row → Bool) (store : List (Option Row)) (at : ℕ) → length store ≤ at → store ≡ kept_there stays at store
kept_far stays store at le = by (slice_get store at) (far store at le)
  where
    far : (xs : List (Option Row)) (n : ℕ) → length xs ≤ n → slice_get xs n ≡ None
    far [] n l = refl
    far (x ∷ xs) zero l = absurd (omega (arith, l))
    far (x ∷ xs) (suc n) l = far xs n (omega (arith, l))

    by : (o : Option (Option Row)) → o ≡ None → store ≡ kept_if stays o at store
    by None e = refl
    by (Some slot) e = absurd cc

-- Before a place each row is persistent.
abbrev persists : Row → Bool
persists row = is_persistent row.message

pub lasting_start : (xs : List (Option Row)) (n : ℕ) → AreLasting n xs → xs ≡ map (kept_slot persists) (take n xs) ++ drop n xs
lasting_start xs n l = by xs n l.1
  where
    by : (xs : List (Option Row)) (n : ℕ) → ((k : ℕ) (row : Row) → k < n → row_at xs k ≡ Some row → is_persistent row.message ≡ true) → xs ≡ map (kept_slot persists) (take n xs) ++ drop n xs
    by [] zero each = refl
    by [] (suc n) each = refl
    by (x ∷ xs) zero each = refl
    by (x ∷ xs) (suc n) each =
        ap (λ (s : Option Row). s ∷ xs) (same_slot persists x (λ row e h. absurd (let t : true ≡ false = sym (each zero row (omega arith) e) ∙ h in cc)))
        ∙ ap (λ (l : List (Option Row)). kept_slot persists x ∷ l) (by xs n (λ k row lt e. each (suc k) row (omega (arith, lt)) e))

pub lasting_none : AreLasting 0 []
lasting_none = (omega arith, λ k row lt e. absurd (omega (arith, lt)))

pub lasting_more : (n : ℕ) (store new : List (Option Row)) → AreLasting n store → new ≡ store ++ None ∷ [] → AreLasting n new
lasting_more n store new l is = subst (AreLasting n) (sym is) (
  (let long = longer store None in let le = l.0 in omega (arith, long, le)),
  λ k row lt e. row_either store None k row e (λ within there. l.1 k row lt there) (λ last none. absurd cc),
)

pub lasting_same : (n : ℕ) (store new : List (Option Row)) → AreLasting n store → new ≡ store → AreLasting n new
lasting_same n store new l is = subst (AreLasting n) (sym is) l

set_long : (store : List (Option Row)) (at : ℕ) (x : Option Row) → length (slice_set store at x) ≡ length store
set_long [] at x = refl
set_long (s ∷ ss) zero x = grind (arith)
set_long (s ∷ ss) (suc at) x = grind (arith, set_long ss at x)

set_before : (store : List (Option Row)) (at k : ℕ) (x : Option Row) → k < at → row_at (slice_set store at x) k ≡ row_at store k
set_before [] at k x lt = refl
set_before (s ∷ ss) zero k x lt = absurd (omega (arith, lt))
set_before (s ∷ ss) (suc at) zero x lt = grind (arith)
set_before (s ∷ ss) (suc at) (suc k) x lt = set_before ss at k x (omega (arith, lt))

-- a slot is filled, and no row before the lower of both places changes
pub lasting_filled : (n m at : ℕ) (store new : List (Option Row)) (x : Option Row) → AreLasting n store → m ≤ n → m ≤ at → new ≡ slice_set store at x → AreLasting m new
lasting_filled n m at store new x l first second is = subst (AreLasting m) (sym is) (
  (let long = set_long store at x in let le = l.0 in omega (arith, long, le, first)),
  λ k row lt e. l.1 k row (omega (arith, lt, first)) (sym (set_before store at k x (omega (arith, lt, second))) ∙ e),
)

-- what stays was there
pub lasting_kept : (stays : Row → Bool) (n : ℕ) (store new : List (Option Row)) → AreLasting n store → new ≡ map (kept_slot stays) store → AreLasting n new
lasting_kept stays n store new l is = subst (AreLasting n) (sym is) (
  (let long = kept_long stays store in let le = l.0 in omega (arith, long, le)),
  λ k row lt e. l.1 k row lt (row_was stays store k row e),
)

module _ (stays : Row → Bool) where
  kept_was_there : (o : Option Row) (row : Row) → kept_slot stays o ≡ Some row → o ≡ Some row
  kept_was_there None row e = e
  kept_was_there (Some x) row e = by (stays x) e
    where
      by : (b : Bool) → cond b (Some x) None ≡ Some row → Some x ≡ Some row
      by true e = e
      by false e = absurd cc

  there_was : (store : List (Option Row)) (at k : ℕ) (row : Row) → row_at (kept_there stays at store) k ≡ Some row → row_at store k ≡ Some row
  there_was [] at k row e = e
  there_was (s ∷ ss) zero zero row e = kept_was_there s row e
  there_was (s ∷ ss) zero (suc k) row e = e
  there_was (s ∷ ss) (suc at) zero row e = by (slice_get ss at) e
    where
      by : (o : Option (Option Row)) → row_at (kept_if stays o (suc at) (s ∷ ss)) zero ≡ Some row → s ≡ Some row
      by None e = e
      by (Some slot) e = e
  there_was (s ∷ ss) (suc at) (suc k) row e = there_was ss at k row (by (slice_get ss at) e)
    where
      by : (o : Option (Option Row)) → row_at (kept_if stays o (suc at) (s ∷ ss)) (suc k) ≡ Some row → row_at (kept_if stays o at ss) k ≡ Some row
      by None e = e
      by (Some slot) e = e

  there_long : (store : List (Option Row)) (at : ℕ) → length (kept_there stays at store) ≡ length store
  there_long store at = by (slice_get store at)
    where
      by : (o : Option (Option Row)) → length (kept_if stays o at store) ≡ length store
      by None = refl
      by (Some slot) = set_long store at (kept_slot stays slot)

  pub lasting_there : (n at : ℕ) (store new : List (Option Row)) → AreLasting n store → new ≡ kept_there stays at store → AreLasting n new
  lasting_there n at store new l is = subst (AreLasting n) (sym is) (
    (let long = there_long store at in let le = l.0 in omega (arith, long, le)),
    λ k row lt e. l.1 k row lt (there_was store at k row e),
  )

-- behind a stop each row is
pub lasting_all : (n : ℕ) (store new : List (Option Row)) → new ≡ map (kept_slot persists) store → n ≡ length new → AreLasting n new
lasting_all n store new is long =
    ((let e = long in omega (arith, e)), λ k row lt e. row_stays persists store k row (sym (ap (λ (l : List (Option Row)). row_at l k) is) ∙ e))
