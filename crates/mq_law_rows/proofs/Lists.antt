-- Rows under the changes of a queue: members, lanes, idents, what stands.
use Rattle.std.proofs.Common.{ℕ, ◌≡◌, ◌<◌, ◌≤◌, ◌⊎◌, Bool, true, false, not, List, [], ◌∷◌, ◌++◌, refl, ap, sym, subst, ◌∙◌, arith, inl, inr}
use Rattle.std.specs.Prelude.{◌==◌, if◌then◌else◌, ◌&&◌, nat_le, map}
use Rattle.std.specs.Str.{bytes_eq}
use Rattle.std.proofs.lemmas.Bool.Decides.{nat_tests}
use Rattle.mq_message.specs.declared.message.Ident.{Ident}
use Rattle.mq_queue.specs.declared.row.Row.{Row}
use Rattle.mq_queue.specs.Rows.{same_ident, insert_row, keep, retag}
use Rattle.mq_spec_network.specs.Story.{Mem}
use Rattle.mq_spec_network.specs.Promised.{AreDistinct}
use Rattle.mq_spec_network.specs.Standing.{row_told, rows_told}
pub use Rattle.mq_law_manager.proofs.Lists.{bool_case, is_false, eqb_yes, eqb_self, ident_yes, same_self, name_yes, name_self, mem_insert, mem_inserted, mem_insert_old, mem_keep, mem_kept, mem_retag, mem_retagged, mem_append}
use Rattle.mq_law_rows.specs.Families.{is_here, is_at}
use Rattle.mq_law_rows.specs.World.{ident_of, idents_in, LanesRise}

pub true_false : true ≡ false → ⊥
true_false e = cc

pub and_false : (a : Bool) → (a && false) ≡ false
and_false true = refl
and_false false = refl

pub and_right : (a b : Bool) → (a && b) ≡ true → b ≡ true
and_right true b e = e
and_right false b e = absurd cc

pub and_left : (a b : Bool) → (a && b) ≡ true → a ≡ true
and_left true b e = refl
and_left false b e = absurd cc

pub and_swap : (a b : Bool) → (a && b) ≡ (b && a)
and_swap true true = refl
and_swap true false = refl
and_swap false true = refl
and_swap false false = refl

pub and_none : (a b : Bool) → (not (a && false) && true) ≡ (true && not (b && false))
and_none true true = refl
and_none true false = refl
and_none false true = refl
and_none false false = refl

-- Tests

pub here_yes : (m : ℕ) (q : List ℕ) (a : ℕ) (b : List ℕ) → is_here m q a b ≡ true → (a ≡ m) × (b ≡ q)
here_yes m q a b e = bool_case (a == m) (λ t. (t && bytes_eq b q) ≡ true → (a ≡ m) × (b ≡ q)) (λ x y. (eqb_yes a m x, name_yes b q y)) (λ x y. absurd cc) e

pub here_self : (m : ℕ) (q : List ℕ) → is_here m q m q ≡ true
here_self m q = rw (eqb_self m) (name_self q)

pub at_yes : (m k a c : ℕ) → is_at m k a c ≡ true → (a ≡ m) × (c ≡ k)
at_yes m k a c e = grind (arith, nat_tests)

pub at_self : (m k : ℕ) → is_at m k m k ≡ true
at_self m k = grind (arith, nat_tests)

-- Members

pub mem_map : {A B : Type 0} (f : A → B) (x : A) (xs : List A) → Mem x xs → Mem (f x) (map f xs)
mem_map f x [] n = absurd n
mem_map f x (y ∷ ys) (inl e) = inl (ap f e)
mem_map f x (y ∷ ys) (inr n) = inr (mem_map f x ys n)

pub map_mem : {A B : Type 0} (f : A → B) (y : B) (xs : List A) → Mem y (map f xs) → (x : A) × Mem x xs × (y ≡ f x)
map_mem f y [] n = absurd n
map_mem f y (x ∷ xs) (inl e) = (x, inl refl, e)
map_mem f y (x ∷ xs) (inr n) = let r = map_mem f y xs n in (r.0, inr r.1, r.2)

-- Lanes

pub sorted_insert : (h : Row) (xs : List Row) → LanesRise xs → LanesRise (insert_row h xs)
sorted_insert h [] s = (λ y m. absurd m, tt)
sorted_insert h (x ∷ xs) s =
    bool_case (nat_le x.place.lane h.place.lane) (λ t. LanesRise (if t then x ∷ insert_row h xs else h ∷ x ∷ xs))
    (λ e. (λ y m. grind (arith, nat_tests, mem_insert y h xs m, s.0 y), sorted_insert h xs s.1))
    (λ e. (λ y m. grind (arith, nat_tests, s.0 y), s))

pub sorted_keep : (p : Row → Bool) (xs : List Row) → LanesRise xs → LanesRise (keep p xs)
sorted_keep p [] s = tt
sorted_keep p (x ∷ xs) s =
    bool_case (p x) (λ t. LanesRise (if t then x ∷ keep p xs else keep p xs))
    (λ e. (λ y m. s.0 y (mem_keep p y xs m).0, sorted_keep p xs s.1))
    (λ e. sorted_keep p xs s.1)

pub sorted_retag : (g : Row → Row) → ((x : Row) → (g x).place ≡ x.place) → (xs : List Row) → LanesRise xs → LanesRise (retag g xs)
sorted_retag g same [] s = tt
sorted_retag g same (x ∷ xs) s = (λ y m. let w = mem_retag g y xs m in let le = s.0 w.0 w.1 in let a = same x in let b = same w.0 in grind (arith, w.2), sorted_retag g same xs s.1)

-- What stands after a change

pub head_first : (r : Row) (xs : List Row) → ((y : Row) → Mem y xs → r.place.lane < y.place.lane) → insert_row r xs ≡ r ∷ xs
head_first r [] all = refl
head_first r (x ∷ xs) all = grind (arith, nat_tests, all x (inl refl))

-- a row that passes is placed among those that pass
pub keep_insert : (p : Row → Bool) (r : Row) (xs : List Row) → LanesRise xs → p r ≡ true → keep p (insert_row r xs) ≡ insert_row r (keep p xs)
keep_insert p r [] s e = grind arith
keep_insert p r (x ∷ xs) s e =
    let tail : r.place.lane < x.place.lane → insert_row r (keep p xs) ≡ r ∷ keep p xs =
    λ lt. head_first r (keep p xs) (λ y m. let le : x.place.lane ≤ y.place.lane = s.0 y (mem_keep p y xs m).0 in omega arith) in
    grind (arith, nat_tests, keep_insert p r xs s.1 e, tail)

pub keep_same : (p t : Row → Bool) (xs : List Row) → ((x : Row) → Mem x xs → p x ≡ t x) → keep p xs ≡ keep t xs
keep_same p t [] all = refl
keep_same p t (x ∷ xs) all = grind (arith, all x (inl refl), keep_same p t xs (λ y m. all y (inr m)))

pub keep_all : (p : Row → Bool) (xs : List Row) → ((x : Row) → Mem x xs → p x ≡ true) → keep p xs ≡ xs
keep_all p [] all = refl
keep_all p (x ∷ xs) all = grind (arith, all x (inl refl), keep_all p xs (λ y m. all y (inr m)))

-- two ways to keep the same rows
pub keep_swap : (a b p t : Row → Bool) (xs : List Row) → ((x : Row) → Mem x xs → (p x && b x) ≡ (a x && t x)) → keep b (keep p xs) ≡ keep t (keep a xs)
keep_swap a b p t [] all = refl
keep_swap a b p t (x ∷ xs) all = grind (arith, all x (inl refl), keep_swap a b p t xs (λ y m. all y (inr m)))

pub keep_retag : (a b : Row → Bool) (g : Row → Row) (xs : List Row) → ((x : Row) → Mem x xs → b (g x) ≡ a x) → ((x : Row) → row_told (g x) ≡ row_told x) → rows_told (keep b (retag g xs)) ≡ rows_told (keep a xs)
keep_retag a b g [] all told = refl
keep_retag a b g (x ∷ xs) all told =
    let ih = keep_retag a b g xs (λ y m. all y (inr m)) told in
    bool_case (a x) (λ t. (b (g x) ≡ t) → rows_told (if b (g x) then g x ∷ keep b (retag g xs) else keep b (retag g xs)) ≡ rows_told (if t then x ∷ keep a xs else keep a xs))
    (λ e f. rw f (ap (λ (r : Row). r ∷ rows_told (keep b (retag g xs))) (told x) ∙ ap (λ (rs : List Row). row_told x ∷ rs) ih))
    (λ e f. rw f ih) (all x (inl refl))

-- What is told of rows

pub told_insert : (r : Row) (xs : List Row) → rows_told (insert_row r xs) ≡ insert_row (row_told r) (rows_told xs)
told_insert r [] = refl
told_insert r (x ∷ xs) =
    bool_case (nat_le x.place.lane r.place.lane) (λ t. rows_told (if t then x ∷ insert_row r xs else r ∷ x ∷ xs) ≡ (if t then row_told x ∷ insert_row (row_told r) (rows_told xs) else row_told r ∷ row_told x ∷ rows_told xs))
    (λ e. ap (λ (rs : List Row). row_told x ∷ rs) (told_insert r xs)) (λ e. refl)

pub told_keep : (t : Row → Bool) → ((x : Row) → t (row_told x) ≡ t x) → (xs : List Row) → rows_told (keep t xs) ≡ keep t (rows_told xs)
told_keep t same [] = refl
told_keep t same (x ∷ xs) =
    let ih = told_keep t same xs in
    bool_case (t x) (λ v. (t (row_told x) ≡ v) → rows_told (if v then x ∷ keep t xs else keep t xs) ≡ (if t (row_told x) then row_told x ∷ keep t (rows_told xs) else keep t (rows_told xs)))
    (λ e f. rw f (ap (λ (rs : List Row). row_told x ∷ rs) ih)) (λ e f. rw f ih) (same x)

pub told_idents : (xs : List Row) → idents_in (rows_told xs) ≡ idents_in xs
told_idents [] = refl
told_idents (x ∷ xs) = ap (λ (is : List Ident). x.message.ident ∷ is) (told_idents xs)

-- a row that is told on one side stands on the other
pub told_mem : (x : Row) (xs ys : List Row) → rows_told xs ≡ rows_told ys → Mem x xs → (y : Row) × Mem y ys × (row_told x ≡ row_told y)
told_mem x xs ys e n = map_mem row_told (row_told x) ys (subst (λ (rs : List Row). Mem (row_told x) rs) e (mem_map row_told x xs n))

-- Idents once

pub mem_insert_ident : (i : Ident) (r : Row) (xs : List Row) → Mem i (idents_in (insert_row r xs)) → (i ≡ r.message.ident) ⊎ Mem i (idents_in xs)
mem_insert_ident i r xs n = let k = map_mem ident_of i (insert_row r xs) n in elim (mem_insert k.0 r xs k.1) [ inl e ↦ inl (k.2 ∙ ap ident_of e) | inr v ↦ inr (subst (λ (j : Ident). Mem j (idents_in xs)) (sym k.2) (mem_map ident_of k.0 xs v)) ]

pub distinct_insert : (r : Row) (xs : List Row) → (Mem r.message.ident (idents_in xs) → ⊥) → AreDistinct (idents_in xs) → AreDistinct (idents_in (insert_row r xs))
distinct_insert r [] ne o = (λ y n. absurd n, tt)
distinct_insert r (x ∷ xs) ne o =
    bool_case (nat_le x.place.lane r.place.lane) (λ t. AreDistinct (idents_in (if t then x ∷ insert_row r xs else r ∷ x ∷ xs)))
    (λ e. (
      (λ y n. elim (mem_insert_ident y r xs n) [
        | inl q ↦ is_false (same_ident x.message.ident y) (λ s. ne (inl (sym (ident_yes x.message.ident y s ∙ q))))
        | inr v ↦ o.0 y v
      ]),
      distinct_insert r xs (λ v. ne (inr v)) o.1,
    ))
    (λ e. ((λ y n. is_false (same_ident r.message.ident y) (λ s. ne (subst (λ (j : Ident). Mem j (idents_in (x ∷ xs))) (sym (ident_yes r.message.ident y s)) n))), o))

pub distinct_keep : (p : Row → Bool) (xs : List Row) → AreDistinct (idents_in xs) → AreDistinct (idents_in (keep p xs))
distinct_keep p [] o = tt
distinct_keep p (x ∷ xs) o =
    bool_case (p x) (λ t. AreDistinct (idents_in (if t then x ∷ keep p xs else keep p xs)))
    (λ e. ((λ y n. let k = map_mem ident_of y (keep p xs) n in o.0 y (subst (λ (j : Ident). Mem j (idents_in xs)) (sym k.2) (mem_map ident_of k.0 xs (mem_keep p k.0 xs k.1).0))), distinct_keep p xs o.1))
    (λ e. distinct_keep p xs o.1)

pub distinct_told : (xs ys : List Row) → rows_told xs ≡ rows_told ys → AreDistinct (idents_in xs) → AreDistinct (idents_in ys)
distinct_told xs ys e o = subst AreDistinct (sym (told_idents xs) ∙ ap idents_in e ∙ told_idents ys) o

pub distinct_append : (xs ys : List Ident) → AreDistinct xs → AreDistinct ys → ((i : Ident) → Mem i xs → Mem i ys → ⊥) → AreDistinct (xs ++ ys)
distinct_append [] ys a b no_ = b
distinct_append (x ∷ xs) ys a b no_ =
    ((λ y n. elim (mem_append y xs ys n) [ inl z ↦ a.0 y z | inr z ↦ is_false (same_ident x y) (λ s. no_ x (inl refl) (subst (λ (j : Ident). Mem j ys) (sym (ident_yes x y s)) z)) ]), distinct_append xs ys a.1 b (λ i n. no_ i (inr n)))

-- an ident that stands once is not among the others
pub once_not : (i : Ident) (is : List Ident) → ((y : Ident) → Mem y is → same_ident i y ≡ false) → Mem i is → ⊥
once_not i is o n = cc (o i n, same_self i)
