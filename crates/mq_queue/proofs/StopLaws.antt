-- Rows that are changed or kept one after another.
use Rattle.std.proofs.Common.{◌≡◌, ℕ, zero, suc, ◌+◌, ◌<◌, List, [], ◌∷◌, length, get_or, refl, sym, ap, ◌∙◌, arith}
use Rattle.std.specs.Prelude.{Bool, filter, slice_set}
use Rattle.mq_queue.specs.declared.row.Row.{Row}
use Rattle.mq_queue.specs.Rows.{keep, retag}

-- the first so many rows are changed
abbrev pub retag_first : (Row → Row) → ℕ → List Row → List Row
retag_first change n [] = []
retag_first change zero (row ∷ rows) = row ∷ rows
retag_first change (suc n) (row ∷ rows) = change row ∷ retag_first change n rows

pub retag_none : (change : Row → Row) (rows : List Row) → retag_first change 0 rows ≡ rows
retag_none change [] = refl
retag_none change (x ∷ xs) = refl

pub retag_all : (change : Row → Row) (rows : List Row) → retag_first change (length rows) rows ≡ retag change rows
retag_all change [] = refl
retag_all change (x ∷ xs) = ap (λ (rows : List Row). change x ∷ rows) (retag_all change xs)

pub length_first : (change : Row → Row) (n : ℕ) (rows : List Row) → length (retag_first change n rows) ≡ length rows
length_first change n [] = refl
length_first change zero (x ∷ xs) = refl
length_first change (suc n) (x ∷ xs) = ap (λ k. suc k) (length_first change n xs)

next : (change : Row → Row) (rows : List Row) (n : ℕ) (row : Row) → n < length rows → row ≡ get_or (retag_first change n rows) n row → slice_set (retag_first change n rows) n (change row) ≡ retag_first change (suc n) rows
next change [] n row lt e = absurd (omega (arith, lt))
next change (x ∷ xs) zero row lt e = ap (λ (r : Row). change r ∷ xs) e ∙ ap (λ (rows : List Row). change x ∷ rows) (sym (retag_none change xs))
next change (x ∷ xs) (suc n) row lt e = ap (λ (rows : List Row). change x ∷ rows) (next change xs n row (omega (arith, lt)) e)

-- the next is changed at its place
pub retag_next : (change : Row → Row) (rows now : List Row) (n : ℕ) (row new : Row) → now ≡ retag_first change n rows → n < length now → row ≡ get_or now n row → new ≡ change row → slice_set now n new ≡ retag_first change (n + 1) rows
retag_next change rows now n row new is lt e c =
    let more : n + 1 ≡ suc n = omega arith in
    let within : n < length rows = omega (arith, lt, ap length is, length_first change n rows) in
    rw (c, is, more) (next change rows n row within (rw is at e))

pub retag_end : (change : Row → Row) (rows now : List Row) (n : ℕ) → now ≡ retag_first change n rows → n ≡ length now → now ≡ retag change rows
retag_end change rows now n is all =
    let whole : n ≡ length rows = omega (arith, all, ap length is, length_first change n rows) in
    is ∙ ap (λ k. retag_first change k rows) whole ∙ retag_all change rows

pub keep_filter : (test : Row → Bool) (rows : List Row) → filter test rows ≡ keep test rows
keep_filter test [] = refl
keep_filter test (x ∷ xs) = grind (arith, keep_filter test xs)
