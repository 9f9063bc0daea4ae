-- Members of lists, and keys that differ.
use Rattle.std.proofs.Common.{ℕ, ◌≡◌, ◌≢◌, ◌⊎◌, Bool, true, false, List, [], ◌∷◌, ◌++◌, refl, ap, sym, subst, ◌∙◌, arith, inl, inr}
use Rattle.std.specs.Prelude.{◌==◌, ◌||◌, if◌then◌else◌, nat_le}
use Rattle.std.specs.Str.{bytes_eq}
use Rattle.std.specs.List.{list_any}
use Rattle.std.proofs.lemmas.Bool.Decides.{nat_tests}
use Rattle.std.proofs.lemmas.Slice.Eq.{bytes_eq-Decides}
use Rattle.mq_message.specs.declared.message.Ident.{Ident}
use Rattle.mq_queue.specs.declared.row.Row.{Row}
use Rattle.mq_queue.specs.Rows.{same_ident, insert_row, keep, retag}
use Rattle.mq_queue.specs.Queues.{Lacks, AreDistinct as RowsDistinct}
pub use Rattle.mq_queue.proofs.Edits.{same_self}
use Rattle.mq_law_manager.specs.View.{inserted}
use Rattle.mq_law_manager.specs.Facts.{Mem, Differ, ident_of}

pub bool_case : (t : Bool) (P : Bool → Type 0) → (t ≡ true → P true) → (t ≡ false → P false) → P t
bool_case true P a b = a refl
bool_case false P a b = b refl

pub is_false : (t : Bool) → (t ≡ true → ⊥) → t ≡ false
is_false true no_ = absurd (no_ refl)
is_false false no_ = refl

pub eqb_yes : (a b : ℕ) → (a == b) ≡ true → a ≡ b
eqb_yes a b e = grind (arith, nat_tests)

pub eqb_self : (a : ℕ) → (a == a) ≡ true
eqb_self a = grind (arith, nat_tests)

pub ident_yes : (a b : Ident) → same_ident a b ≡ true → a ≡ b
ident_yes a b e = grind (arith, nat_tests)

pub ident_no : (a b : Ident) → a ≢ b → same_ident a b ≡ false
ident_no a b ne = is_false (same_ident a b) (λ t. ne (ident_yes a b t))

-- an ident among some, as a test tells
pub any_mem : (i : Ident) (is : List Ident) → list_any (same_ident i) is ≡ true → Mem i is
any_mem i [] e = absurd cc
any_mem i (x ∷ xs) e = bool_case (same_ident i x) (λ b. same_ident i x ≡ b → (b || list_any (same_ident i) xs) ≡ true → Mem i (x ∷ xs)) (λ z w f. inl (ident_yes i x w)) (λ z w f. inr (any_mem i xs f)) refl e

pub mem_any : (i : Ident) (is : List Ident) → Mem i is → list_any (same_ident i) is ≡ true
mem_any i [] m = absurd m
mem_any i (x ∷ xs) (inl e) = ap (λ (j : Ident). same_ident i j || list_any (same_ident i) xs) (sym e) ∙ ap (λ (b : Bool). b || list_any (same_ident i) xs) (same_self i)
mem_any i (x ∷ xs) (inr m) = or_right (same_ident i x) (list_any (same_ident i) xs) (mem_any i xs m)
  where
    or_right : (a b : Bool) → b ≡ true → (a || b) ≡ true
    or_right true b e = refl
    or_right false b e = e

pub name_yes : (a b : List ℕ) → bytes_eq a b ≡ true → a ≡ b
name_yes a b e = grind (arith, bytes_eq-Decides a b)

pub name_self : (a : List ℕ) → bytes_eq a a ≡ true
name_self a = grind (arith, bytes_eq-Decides a a)

-- Members

pub mem_insert : (h x : Row) (xs : List Row) → Mem h (insert_row x xs) → (h ≡ x) ⊎ Mem h xs
mem_insert h x [] m = grind arith
mem_insert h x (y ∷ ys) m = grind (arith, nat_tests, mem_insert h x ys)

pub mem_inserted : (x : Row) (xs : List Row) → Mem x (insert_row x xs)
mem_inserted x [] = inl refl
mem_inserted x (y ∷ ys) = grind (arith, nat_tests, mem_inserted x ys)

pub mem_insert_old : (h x : Row) (xs : List Row) → Mem h xs → Mem h (insert_row x xs)
mem_insert_old h x [] m = absurd m
mem_insert_old h x (y ∷ ys) m = grind (arith, nat_tests, mem_insert_old h x ys)

pub mem_keep : (p : Row → Bool) (x : Row) (xs : List Row) → Mem x (keep p xs) → Mem x xs × (p x ≡ true)
mem_keep p x [] m = absurd m
mem_keep p x (y ∷ ys) m = grind (arith, mem_keep p x ys)

pub mem_kept : (p : Row → Bool) (x : Row) (xs : List Row) → Mem x xs → p x ≡ true → Mem x (keep p xs)
mem_kept p x [] m e = absurd m
mem_kept p x (y ∷ ys) m e = grind (arith, mem_kept p x ys)

pub mem_retag : (g : Row → Row) (h : Row) (xs : List Row) → Mem h (retag g xs) → (old : Row) × Mem old xs × (h ≡ g old)
mem_retag g h [] m = absurd m
mem_retag g h (x ∷ xs) (inl e) = (x, inl refl, e)
mem_retag g h (x ∷ xs) (inr m) = let r = mem_retag g h xs m in (r.0, inr r.1, r.2)

pub mem_retagged : (g : Row → Row) (h : Row) (xs : List Row) → Mem h xs → Mem (g h) (retag g xs)
mem_retagged g h [] m = absurd m
mem_retagged g h (x ∷ xs) (inl e) = inl (ap g e)
mem_retagged g h (x ∷ xs) (inr m) = inr (mem_retagged g h xs m)

pub mem_append : {A : Type 0} (x : A) (xs ys : List A) → Mem x (xs ++ ys) → Mem x xs ⊎ Mem x ys
mem_append x [] ys n = inr n
mem_append x (y ∷ xs) ys (inl e) = inl (inl e)
mem_append x (y ∷ xs) ys (inr n) = elim (mem_append x xs ys n) [ inl z ↦ inl (inr z) | inr z ↦ inr z ]

pub mem_before : {A : Type 0} (x : A) (xs ys : List A) → Mem x xs → Mem x (xs ++ ys)
mem_before x [] ys m = absurd m
mem_before x (y ∷ xs) ys (inl e) = inl e
mem_before x (y ∷ xs) ys (inr m) = inr (mem_before x xs ys m)

pub mem_behind : {A : Type 0} (x : A) (xs ys : List A) → Mem x ys → Mem x (xs ++ ys)
mem_behind x [] ys m = m
mem_behind x (y ∷ xs) ys m = inr (mem_behind x xs ys m)

-- a row on some queue after one was inserted is it, there, or was there
pub mem_inserted_at : (name : List ℕ) (row : Row) (rows : List ℕ → List Row) (q : List ℕ) (h : Row) → Mem h (inserted name row rows q) → ((q ≡ name) × (h ≡ row)) ⊎ Mem h (rows q)
mem_inserted_at name row rows q h = bool_case (bytes_eq q name) (λ t. bytes_eq q name ≡ t → Mem h (if t then insert_row row (rows name) else rows q) → ((q ≡ name) × (h ≡ row)) ⊎ Mem h (rows q))
    (λ e z m. let is : q ≡ name = name_yes q name e in elim (mem_insert h row (rows name) m) [
      | inl w ↦ inl (is, w)
      | inr w ↦ inr (subst (λ (d : List ℕ). Mem h (rows d)) (sym is) w)
    ])
    (λ e z m. inr m) refl

pub mem_inserted_old : (name : List ℕ) (row : Row) (rows : List ℕ → List Row) (q : List ℕ) (h : Row) → Mem h (rows q) → Mem h (inserted name row rows q)
mem_inserted_old name row rows q h m = bool_case (bytes_eq q name) (λ t. bytes_eq q name ≡ t → Mem h (if t then insert_row row (rows name) else rows q))
    (λ e z. mem_insert_old h row (rows name) (subst (λ (d : List ℕ). Mem h (rows d)) (name_yes q name z) m))
    (λ e z. m) refl

-- Keys

pub differ_insert : (x : Row) (xs : List Row) → ((y : Row) → Mem y xs → x.message.ident ≢ y.message.ident) → Differ ident_of xs → Differ ident_of (insert_row x xs)
differ_insert x [] ne d = (λ y n. absurd n, tt)
differ_insert x (z ∷ xs) ne d =
    bool_case (nat_le z.place.lane x.place.lane) (λ t. Differ ident_of (if t then z ∷ insert_row x xs else x ∷ z ∷ xs))
    (λ e. (λ y n q. elim (mem_insert y x xs n) [ inl w ↦ ne z (inl refl) (sym (q ∙ ap ident_of w)) | inr w ↦ d.0 y w q ], differ_insert x xs (λ y n. ne y (inr n)) d.1))
    (λ e. (ne, d))

pub differ_keep : (p : Row → Bool) (xs : List Row) → Differ ident_of xs → Differ ident_of (keep p xs)
differ_keep p [] d = tt
differ_keep p (x ∷ xs) d =
    bool_case (p x) (λ t. Differ ident_of (if t then x ∷ keep p xs else keep p xs))
    (λ e. (λ y n. d.0 y (mem_keep p y xs n).0, differ_keep p xs d.1))
    (λ e. differ_keep p xs d.1)

pub differ_retag : (g : Row → Row) → ((x : Row) → (g x).message.ident ≡ x.message.ident) → (xs : List Row) → Differ ident_of xs → Differ ident_of (retag g xs)
differ_retag g same [] d = tt
differ_retag g same (x ∷ xs) d =
    (λ y n q. let w = mem_retag g y xs n in d.0 w.0 w.1 (sym (same x) ∙ q ∙ ap ident_of w.2 ∙ same w.0), differ_retag g same xs d.1)

pub differ_push : {A : Type 0} (key : A → Ident) (x : A) (xs : List A) → ((y : A) → Mem y xs → key y ≢ key x) → Differ key xs → Differ key (xs ++ x ∷ [])
differ_push key x [] ne d = (λ y n. absurd n, tt)
differ_push key x (z ∷ xs) ne d =
    (λ y n q. elim (mem_append y xs (x ∷ []) n) [ inl w ↦ d.0 y w q | inr w ↦ elim w [ inl e ↦ ne z (inl refl) (q ∙ ap key e) | inr e ↦ e ] ], differ_push key x xs (λ y n. ne y (inr n)) d.1)

-- two rows of a queue with one ident are one row
pub one_row : (xs : List Row) (h k : Row) → Differ ident_of xs → Mem h xs → Mem k xs → h.message.ident ≡ k.message.ident → h ≡ k
one_row [] h k d a b e = absurd a
one_row (x ∷ xs) h k d (inl a) (inl b) e = a ∙ sym b
one_row (x ∷ xs) h k d (inl a) (inr b) e = absurd (d.0 k b (sym (ap ident_of a) ∙ e))
one_row (x ∷ xs) h k d (inr a) (inl b) e = absurd (d.0 h a (sym (ap ident_of b) ∙ sym e))
one_row (x ∷ xs) h k d (inr a) (inr b) e = one_row xs h k d.1 a b e

-- what the queue asks
pub lacks_of : (i : Ident) (xs : List Row) → ((y : Row) → Mem y xs → i ≢ y.message.ident) → Lacks i xs
lacks_of i [] ne = tt
lacks_of i (x ∷ xs) ne = (ident_no x.message.ident i (λ e. ne x (inl refl) (sym e)), lacks_of i xs (λ y n. ne y (inr n)))

pub distinct_of : (xs : List Row) → Differ ident_of xs → RowsDistinct xs
distinct_of [] d = tt
distinct_of (x ∷ xs) d = (lacks_of x.message.ident xs d.0, distinct_of xs d.1)

-- two rows of one ident
abbrev pub is_it : Row → Row → Bool
is_it h row = same_ident h.message.ident row.message.ident

pub it_is : (h row : Row) → is_it h row ≡ true → h.message.ident ≡ row.message.ident
it_is h row e = ident_yes h.message.ident row.message.ident e

pub not_it : (h row : Row) → is_it h row ≡ false → h.message.ident ≢ row.message.ident
not_it h row e w = cc (e, ap (λ (i : Ident). same_ident i row.message.ident) w, same_self row.message.ident)
