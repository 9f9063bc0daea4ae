-- In a list in the order of its names, what is not found at the name's place is nowhere.
use Rattle.std.proofs.Common.{Ordering, Less, Equal, Greater, ◌≡◌, ℕ, Bool, true, false, List, [], ◌∷◌, refl, ap, sym, ◌∙◌, suc, cond, ◌⊎◌, inl, inr}
use Rattle.std.specs.Prelude.{Option, Some, None, find, slice_get, ◌||◌}
use Rattle.std.specs.Str.{bytes_eq}
use Rattle.std.specs.Ordering.{is_lt, is_eq, nat_cmp, ordering_reverse}
use Rattle.std.specs.Cmp.{IsTotalOrder}
use Rattle.std.specs.Cmp.Lexicographic.{slice_cmp}
use Rattle.std.proofs.lemmas.Cmp.{nat_list_cmp_total}
use Rattle.std.proofs.lemmas.Map.Text.{is_eq-slice_cmp}
use Rattle.std.proofs.lemmas.Slice.Eq.{bytes_eq-Decides}
use Rattle.mq_base.specs.Members.{Mem}
use Rattle.mq_unit.specs.from_calls.Words.{comes_before, set_named}
use Rattle.mq_sides.specs.Places.{place_in, is_of, of_name, standing, AreByName}

is_less : (o : Ordering) → is_lt o ≡ true → o ≡ Less
is_less Less e = refl
is_less Equal e = absurd cc
is_less Greater e = absurd cc

names_total : IsTotalOrder (slice_cmp nat_cmp)
names_total = nat_list_cmp_total

pub before_trans : (a b c : List ℕ) → comes_before a b ≡ true → comes_before b c ≡ true → comes_before a c ≡ true
before_trans a b c x y = ap is_lt (names_total.trans a b c (is_less (slice_cmp nat_cmp a b) x) (is_less (slice_cmp nat_cmp b c) y))

not_both : (o : Ordering) → is_eq o ≡ true → is_lt o ≡ true → ⊥
not_both Less e f = cc e
not_both Equal e f = cc f
not_both Greater e f = cc e

pub before_apart : (a b : List ℕ) → comes_before a b ≡ true → bytes_eq a b ≡ false
before_apart a b e = by (bytes_eq a b) refl
  where
    by : (t : Bool) → bytes_eq a b ≡ t → t ≡ false
    by true f = absurd (not_both (slice_cmp nat_cmp a b) (is_eq-slice_cmp a b ∙ f) e)
    by false f = refl

module _ {A : Type 0} (name : A → List ℕ) (channel : List ℕ) where
  none_later : (xs : List A) → ((y : A) → Mem y xs → bytes_eq channel (name y) ≡ false) → find (λ (x : A). bytes_eq channel (name x)) xs ≡ None
  none_later [] h = refl
  none_later (x ∷ xs) h = ap (λ (b : Bool). cond b (Some x) (find (λ (y : A). bytes_eq channel (name y)) xs)) (h x (inl refl)) ∙ none_later xs (λ y m. h y (inr m))

  pub absent : (xs : List A) → AreByName name xs → is_of name channel (slice_get xs (place_in name channel xs)) ≡ false → find (λ (x : A). bytes_eq channel (name x)) xs ≡ None
  absent [] h e = refl
  absent (x ∷ xs) h e = by (bytes_eq channel (name x)) (comes_before channel (name x)) refl refl (absent xs h.1) e
    where
      by : (b c : Bool) → bytes_eq channel (name x) ≡ b → comes_before channel (name x) ≡ c
          → (is_of name channel (slice_get xs (place_in name channel xs)) ≡ false → find (λ (y : A). bytes_eq channel (name y)) xs ≡ None)
          → is_of name channel (slice_get (x ∷ xs) (cond (b || c) 0 (suc (place_in name channel xs)))) ≡ false
          → cond b (Some x) (find (λ (y : A). bytes_eq channel (name y)) xs) ≡ None
      by true c is before rest e = absurd (let t : true ≡ false = sym is ∙ e in cc)
      by false true is before rest e = none_later xs (λ y m. before_apart channel (name y) (before_trans channel (name x) (name y) before (h.0 y m)))
      by false false is before rest e = rest e

  pub absent_there : (xs : List A) (place : ℕ) → place ≡ place_in name channel xs → is_of name channel (slice_get xs place) ≡ false → AreByName name xs → find (λ (x : A). bytes_eq channel (name x)) xs ≡ None
  absent_there xs place is e h = absent xs h (ap (λ (n : ℕ). is_of name channel (slice_get xs n)) (sym is) ∙ e)

  -- what stands at the name's place
  of_is : (o : Option A) → is_of name channel o ≡ true → of_name name channel o ≡ o
  of_is None e = absurd cc
  of_is (Some y) e = ap (λ (b : Bool). cond {A = Option A} b (Some y) None) e

  of_not : (o : Option A) → is_of name channel o ≡ false → of_name name channel o ≡ None
  of_not None e = refl
  of_not (Some y) e = ap (λ (b : Bool). cond {A = Option A} b (Some y) None) e

  pub stood : (xs : List A) (place : ℕ) (x : A) → place ≡ place_in name channel xs → is_of name channel (slice_get xs place) ≡ true → slice_get xs place ≡ Some x → Some x ≡ standing name channel xs
  stood xs place x is e at = sym at ∙ sym (of_is (slice_get xs place) e) ∙ ap (λ (n : ℕ). of_name name channel (slice_get xs n)) is

  pub stood_none : (xs : List A) (place : ℕ) → place ≡ place_in name channel xs → is_of name channel (slice_get xs place) ≡ false → None ≡ standing name channel xs
  stood_none xs place is e = sym (of_not (slice_get xs place) e) ∙ ap (λ (n : ℕ). of_name name channel (slice_get xs n)) is

  of_none : (xs : List A) (n : ℕ) → ((y : A) → Mem y xs → bytes_eq channel (name y) ≡ false) → of_name name channel (slice_get xs n) ≡ None
  of_none [] n h = refl
  of_none (x ∷ xs) ℕ.zero h = ap (λ (b : Bool). cond {A = Option A} b (Some x) None) (h x (inl refl))
  of_none (x ∷ xs) (suc n) h = of_none xs n (λ y m. h y (inr m))

  -- what is found is what a new value takes the place of
  pub present : (xs : List A) → AreByName name xs → standing name channel xs ≡ find (λ (x : A). bytes_eq channel (name x)) xs
  present [] h = refl
  present (x ∷ xs) h = by (bytes_eq channel (name x)) (comes_before channel (name x)) refl refl (present xs h.1)
    where
      by : (b c : Bool) → bytes_eq channel (name x) ≡ b → comes_before channel (name x) ≡ c
          → of_name name channel (slice_get xs (place_in name channel xs)) ≡ find (λ (y : A). bytes_eq channel (name y)) xs
          → of_name name channel (slice_get (x ∷ xs) (cond (b || c) 0 (suc (place_in name channel xs)))) ≡ cond b (Some x) (find (λ (y : A). bytes_eq channel (name y)) xs)
      by true c is before rest = ap (λ (b : Bool). cond {A = Option A} b (Some x) None) is
      by false true is before rest = ap (λ (b : Bool). cond {A = Option A} b (Some x) None) is ∙ sym (none_later xs (λ y m. before_apart channel (name y) (before_trans channel (name x) (name y) before (h.0 y m))))
      by false false is before rest = rest

-- a list stays in order where a value is set by its name
turned_less : (o : Ordering) → is_eq o ≡ false → is_lt o ≡ false → is_lt (ordering_reverse o) ≡ true
turned_less Less e f = absurd cc
turned_less Equal e f = absurd cc
turned_less Greater e f = refl

before_turned : (a b : List ℕ) → bytes_eq a b ≡ false → comes_before a b ≡ false → comes_before b a ≡ true
before_turned a b e f = ap is_lt (names_total.antisymm b a) ∙ turned_less (slice_cmp nat_cmp a b) (is_eq-slice_cmp a b ∙ e) f

pub name_is : (a b : List ℕ) → bytes_eq a b ≡ true → a ≡ b
name_is a b e = (bytes_eq-Decides a b).0 e

set_mem : {A : Type 0} (name : A → List ℕ) (new x : A) (xs : List A) → Mem x (set_named name new xs) → (x ≡ new) ⊎ Mem x xs
set_mem name new x [] (inl e) = inl e
set_mem name new x [] (inr m) = absurd m
set_mem {A} name new x (y ∷ ys) m = by (bytes_eq (name new) (name y)) (comes_before (name new) (name y)) (set_mem name new x ys) m
  where
    by : (b c : Bool) → (Mem x (set_named name new ys) → (x ≡ new) ⊎ Mem x ys) → Mem x (cond b (new ∷ ys) (cond c (new ∷ y ∷ ys) (y ∷ set_named name new ys))) → (x ≡ new) ⊎ Mem x (y ∷ ys)
    by true c rest (inl e) = inl e
    by true c rest (inr k) = inr (inr k)
    by false true rest (inl e) = inl e
    by false true rest (inr k) = inr k
    by false false rest (inl e) = inr (inl e)
    by false false rest (inr k) = elim (rest k) [ inl e ↦ inl e | inr j ↦ inr (inr j) ]

pub sorted_set : {A : Type 0} (name : A → List ℕ) (new : A) (xs : List A) → AreByName name xs → AreByName name (set_named name new xs)
sorted_set name new [] h = (λ z m. absurd m, tt)
sorted_set {A} name new (y ∷ ys) h = by (bytes_eq (name new) (name y)) (comes_before (name new) (name y)) refl refl (sorted_set name new ys h.1)
  where
    by : (b c : Bool) → bytes_eq (name new) (name y) ≡ b → comes_before (name new) (name y) ≡ c → AreByName name (set_named name new ys) → AreByName name (cond b (new ∷ ys) (cond c (new ∷ y ∷ ys) (y ∷ set_named name new ys)))
    by true c is before rest = (λ x m. ap (λ (n : List ℕ). comes_before n (name x)) (name_is (name new) (name y) is) ∙ h.0 x m, h.1)
    by false true is before rest = (λ x m. elim m [ inl e ↦ ap (λ (s : A). comes_before (name new) (name s)) e ∙ before | inr k ↦ before_trans (name new) (name y) (name x) before (h.0 x k) ], h)
    by false false is before rest = (λ x m. elim (set_mem name new x ys m) [ inl e ↦ ap (λ (s : A). comes_before (name y) (name s)) e ∙ before_turned (name new) (name y) is before | inr k ↦ h.0 x k ], rest)
