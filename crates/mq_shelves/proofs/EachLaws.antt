-- What comes of rows ident after ident, and all at once.
use Rattle.std.proofs.Common.{◌≡◌, ℕ, Bool, true, false, List, [], ◌∷◌, refl, sym, ap, ◌∙◌}
use Rattle.std.specs.Prelude.{not, ◌||◌, ◌&&◌, if◌then◌else◌, Some, None}
use Rattle.std.specs.List.{list_any}
use Rattle.std.specs.Str.{bytes_eq}
use Rattle.mq_message.specs.declared.message.Ident.{Ident}
use Rattle.mq_message.specs.declared.place.Holder.{Holder}
use Rattle.mq_queue.specs.declared.row.Row.{Row}
use Rattle.mq_queue.specs.Rows.{same_ident, has_ident, is_free, held_by, keep, retag}
use Rattle.mq_queue.proofs.QueueLaws.{keep_same, retag_same}
use Rattle.mq_calls.specs.declared.image.Shelf.{Shelf}
use Rattle.mq_calls.specs.State.Which.{Among}
use Rattle.mq_calls.specs.Changes.{retag_if}
use Rattle.mq_spec_log.specs.Applies.{is_held_among, is_elsewhere}
use Rattle.mq_spec_log.specs.Shelves.{on_all, held_rows}
use Rattle.mq_shelves.specs.Racks.{any_row, less_held, freed_held}
use Rattle.mq_shelves.specs.Holds.{held_each, removed_each, freed_each}
use Rattle.mq_shelves.proofs.StandLaws.{and_none}

abbrev rows_shelf : List ℕ → List Row → Shelf
rows_shelf name rows = record { name = name; rows = rows }

-- ---- all shelves, by their rows

pub each_row : (f g : List ℕ → List Row → List Row) → ((n : List ℕ) (rows : List Row) → f n rows ≡ g n rows) → (ss : List Shelf)
    → on_all (λ (s : Shelf). record s { rows = f s.name s.rows }) ss ≡ on_all (λ (s : Shelf). record s { rows = g s.name s.rows }) ss
each_row f g same [] = refl
each_row f g same (s ∷ ss) =
    ap (λ (rows : List Row). rows_shelf s.name rows ∷ on_all (λ (s : Shelf). record s { rows = f s.name s.rows }) ss) (same s.name s.rows)
    ∙ ap (λ (x : List Shelf). rows_shelf s.name (g s.name s.rows) ∷ x) (each_row f g same ss)

each_whole : (f : List ℕ → List Row → List Row) → ((n : List ℕ) (rows : List Row) → f n rows ≡ rows) → (ss : List Shelf) → on_all (λ (s : Shelf). record s { rows = f s.name s.rows }) ss ≡ ss
each_whole f same [] = refl
each_whole f same (s ∷ ss) =
    ap (λ (rows : List Row). rows_shelf s.name rows ∷ on_all (λ (s : Shelf). record s { rows = f s.name s.rows }) ss) (same s.name s.rows)
    ∙ ap (λ (x : List Shelf). s ∷ x) (each_whole f same ss)

each_twice : (f g : List ℕ → List Row → List Row) → (ss : List Shelf)
    → on_all (λ (s : Shelf). record s { rows = f s.name s.rows }) (on_all (λ (s : Shelf). record s { rows = g s.name s.rows }) ss) ≡ on_all (λ (s : Shelf). record s { rows = f s.name (g s.name s.rows) }) ss
each_twice f g [] = refl
each_twice f g (s ∷ ss) = ap (λ (x : List Shelf). rows_shelf s.name (f s.name (g s.name s.rows)) ∷ x) (each_twice f g ss)

-- ---- rows that are retagged or kept twice

retag_twice : (f g : Row → Row) (rows : List Row) → retag f (retag g rows) ≡ retag (λ (row : Row). f (g row)) rows
retag_twice f g [] = refl
retag_twice f g (row ∷ rows) = ap (λ (x : List Row). f (g row) ∷ x) (retag_twice f g rows)

retag_none : (f : Row → Row) → ((row : Row) → f row ≡ row) → (rows : List Row) → retag f rows ≡ rows
retag_none f same [] = refl
retag_none f same (row ∷ rows) = ap (λ (x : Row). x ∷ retag f rows) (same row) ∙ ap (λ (x : List Row). row ∷ x) (retag_none f same rows)

keep_all : (p : Row → Bool) → ((row : Row) → p row ≡ true) → (rows : List Row) → keep p rows ≡ rows
keep_all p same [] = refl
keep_all p same (row ∷ rows) = ap (λ (b : Bool). if b then row ∷ keep p rows else keep p rows) (same row) ∙ ap (λ (x : List Row). row ∷ x) (keep_all p same rows)

keep_twice : (p q : Row → Bool) (rows : List Row) → keep p (keep q rows) ≡ keep (λ (row : Row). q row && p row) rows
keep_twice p q [] = refl
keep_twice p q (row ∷ rows) = by (keep_twice p q rows) (q row)
  where
    by : keep p (keep q rows) ≡ keep (λ (row : Row). q row && p row) rows → (b : Bool)
        → keep p (if b then row ∷ keep q rows else keep q rows) ≡ (if b && p row then row ∷ keep (λ (row : Row). q row && p row) rows else keep (λ (row : Row). q row && p row) rows)
    by rest true = ap (λ (x : List Row). if p row then row ∷ x else x) rest
    by rest false = rest

-- ---- rows that are held, one ident after another

abbrev hold_if : Holder → Bool → List Ident → Row → Row
hold_if by on xs row = retag_if ((on && list_any (same_ident row.message.ident) xs) && is_free row) (Some by) row

on_both : (on t m free : Bool) → ((on && (t || false)) && free) ≡ true → ((on && (t || m)) && free) ≡ true
on_both true true m true e = refl
on_both true true m false e = absurd (cc e)
on_both true false m free e = absurd (cc e)
on_both false t m free e = absurd (cc e)

on_second : (on t m free : Bool) → ((on && (t || false)) && free) ≡ false → ((on && m) && free) ≡ ((on && (t || m)) && free)
on_second true true m true e = absurd (cc e)
on_second true true m false e = and_none m
on_second true false m free e = refl
on_second false t m free e = refl

held_first : (by : Holder) (on : Bool) (x : Ident) (xs : List Ident) (row : Row) → hold_if by on xs (hold_if by on (x ∷ []) row) ≡ hold_if by on (x ∷ xs) row
held_first by on x xs row = at ((on && (same_ident row.message.ident x || false)) && is_free row) refl
  where
    at : (c : Bool) → ((on && (same_ident row.message.ident x || false)) && is_free row) ≡ c → hold_if by on xs (retag_if ((on && (same_ident row.message.ident x || false)) && is_free row) (Some by) row) ≡ hold_if by on (x ∷ xs) row
    at true e =
        ap (λ (c : Bool). hold_if by on xs (retag_if c (Some by) row)) e
        ∙ ap (λ (c : Bool). retag_if c (Some by) (record row { by = Some by })) (and_none (on && list_any (same_ident row.message.ident) xs))
        ∙ ap (λ (c : Bool). retag_if c (Some by) row) (sym (on_both on (same_ident row.message.ident x) (list_any (same_ident row.message.ident) xs) (is_free row) e))
    at false e =
        ap (λ (c : Bool). hold_if by on xs (retag_if c (Some by) row)) e
        ∙ ap (λ (c : Bool). retag_if c (Some by) row) (on_second on (same_ident row.message.ident x) (list_any (same_ident row.message.ident) xs) (is_free row) e)

held_none : (by : Holder) (on : Bool) (row : Row) → hold_if by on [] row ≡ row
held_none by on row = ap (λ (c : Bool). retag_if (c && is_free row) (Some by) row) (and_none on)

pub held_all : (q : List ℕ) (by : Holder) (xs : List Ident) (ss : List Shelf) → held_each q by xs ss ≡ on_all (held_rows (Among q xs) by) ss
held_all q by [] ss = sym (each_whole (λ n rows. retag (hold_if by (bytes_eq n q) []) rows) (λ n rows. retag_none (hold_if by (bytes_eq n q) []) (held_none by (bytes_eq n q)) rows) ss)
held_all q by (x ∷ xs) ss =
    held_all q by xs (on_all (held_rows (Among q (x ∷ [])) by) ss)
    ∙ each_twice (λ n rows. retag (hold_if by (bytes_eq n q) xs) rows) (λ n rows. retag (hold_if by (bytes_eq n q) (x ∷ [])) rows) ss
    ∙ each_row (λ n rows. retag (hold_if by (bytes_eq n q) xs) (retag (hold_if by (bytes_eq n q) (x ∷ [])) rows)) (λ n rows. retag (hold_if by (bytes_eq n q) (x ∷ xs)) rows)
    (λ n rows. retag_twice (hold_if by (bytes_eq n q) xs) (hold_if by (bytes_eq n q) (x ∷ [])) rows
    ∙ retag_same (λ (row : Row). hold_if by (bytes_eq n q) xs (hold_if by (bytes_eq n q) (x ∷ []) row)) (hold_if by (bytes_eq n q) (x ∷ xs)) (held_first by (bytes_eq n q) x xs) rows) ss

-- ---- held rows that go

gone_first : (h t m : Bool) → (not (h && t) && not (h && m)) ≡ not (h && (t || m))
gone_first true true m = refl
gone_first true false m = refl
gone_first false t m = refl

pub removed_all : (by : Holder) (xs : List Ident) (ss : List Shelf)
    → removed_each by xs ss ≡ on_all (λ (s : Shelf). record s { rows = keep (λ (row : Row). not (held_by by row.by && list_any (same_ident row.message.ident) xs)) s.rows }) ss
removed_all by [] ss = sym (each_whole (λ n rows. keep (λ (row : Row). not (held_by by row.by && false)) rows) (λ n rows. keep_all (λ (row : Row). not (held_by by row.by && false)) (λ row. ap not (and_none (held_by by row.by))) rows) ss)
removed_all by (x ∷ xs) ss =
    removed_all by xs (on_all (less_held by x) ss)
    ∙ each_twice (λ n rows. keep (λ (row : Row). not (held_by by row.by && list_any (same_ident row.message.ident) xs)) rows) (λ n rows. keep (λ (row : Row). not (held_by by row.by && has_ident x row)) rows) ss
    ∙ each_row (λ n rows. keep (λ (row : Row). not (held_by by row.by && list_any (same_ident row.message.ident) xs)) (keep (λ (row : Row). not (held_by by row.by && has_ident x row)) rows))
    (λ n rows. keep (λ (row : Row). not (held_by by row.by && list_any (same_ident row.message.ident) (x ∷ xs))) rows)
    (λ n rows. keep_twice (λ (row : Row). not (held_by by row.by && list_any (same_ident row.message.ident) xs)) (λ (row : Row). not (held_by by row.by && has_ident x row)) rows
    ∙ keep_same (λ (row : Row). not (held_by by row.by && has_ident x row) && not (held_by by row.by && list_any (same_ident row.message.ident) xs)) (λ (row : Row). not (held_by by row.by && list_any (same_ident row.message.ident) (x ∷ xs)))
    (λ row. gone_first (held_by by row.by) (same_ident row.message.ident x) (list_any (same_ident row.message.ident) xs)) rows) ss

-- ---- held rows that are free again

abbrev free_if : Holder → List Ident → Row → Row
free_if by xs row = if held_by by row.by && list_any (same_ident row.message.ident) xs then record row { by = None } else row

abbrev free_one : Holder → Ident → Row → Row
free_one by x row = if held_by by row.by && same_ident row.message.ident x then record row { by = None } else row

by_both : (h t m : Bool) → (h && t) ≡ true → (h && (t || m)) ≡ true
by_both true true m e = refl
by_both true false m e = absurd (cc e)
by_both false t m e = absurd (cc e)

by_second : (h t m : Bool) → (h && t) ≡ false → (h && m) ≡ (h && (t || m))
by_second true true m e = absurd (cc e)
by_second true false m e = refl
by_second false t m e = refl

freed_first : (by : Holder) (x : Ident) (xs : List Ident) (row : Row) → free_if by xs (free_one by x row) ≡ free_if by (x ∷ xs) row
freed_first by x xs row = at (held_by by row.by && same_ident row.message.ident x) refl
  where
    at : (c : Bool) → (held_by by row.by && same_ident row.message.ident x) ≡ c → free_if by xs (if held_by by row.by && same_ident row.message.ident x then record row { by = None } else row) ≡ free_if by (x ∷ xs) row
    at true e =
        ap (λ (c : Bool). free_if by xs (if c then record row { by = None } else row)) e
        ∙ ap (λ (c : Bool). if c then record row { by = None } else row) (sym (by_both (held_by by row.by) (same_ident row.message.ident x) (list_any (same_ident row.message.ident) xs) e))
    at false e =
        ap (λ (c : Bool). free_if by xs (if c then record row { by = None } else row)) e
        ∙ ap (λ (c : Bool). if c then record row { by = None } else row) (by_second (held_by by row.by) (same_ident row.message.ident x) (list_any (same_ident row.message.ident) xs) e)

pub freed_all : (by : Holder) (xs : List Ident) (ss : List Shelf) → freed_each by xs ss ≡ on_all (λ (s : Shelf). record s { rows = retag (λ (row : Row). if held_by by row.by && list_any (same_ident row.message.ident) xs then record row { by = None } else row) s.rows }) ss
freed_all by [] ss = sym (each_whole (λ n rows. retag (free_if by []) rows) (λ n rows. retag_none (free_if by []) (λ row. ap (λ (c : Bool). if c then record row { by = None } else row) (and_none (held_by by row.by))) rows) ss)
freed_all by (x ∷ xs) ss =
    freed_all by xs (on_all (freed_held by x) ss)
    ∙ each_twice (λ n rows. retag (free_if by xs) rows) (λ n rows. retag (free_one by x) rows) ss
    ∙ each_row (λ n rows. retag (free_if by xs) (retag (free_one by x) rows)) (λ n rows. retag (free_if by (x ∷ xs)) rows)
    (λ n rows. retag_twice (free_if by xs) (free_one by x) rows ∙ retag_same (λ (row : Row). free_if by xs (free_one by x row)) (free_if by (x ∷ xs)) (freed_first by x xs) rows) ss

-- ---- rows that are held, of all idents and of each

any_or : {A : Type 0} (f g : A → Bool) (xs : List A) → (list_any f xs || list_any g xs) ≡ list_any (λ (x : A). f x || g x) xs
any_or f g [] = refl
any_or {A} f g (x ∷ xs) = turn (f x) (g x) (list_any f xs) (list_any g xs) ∙ ap (λ (b : Bool). (f x || g x) || b) (any_or f g xs)
  where
    turn : (a b c d : Bool) → ((a || c) || (b || d)) ≡ ((a || b) || (c || d))
    turn true b c d = refl
    turn false b true d = turned b
      where
        turned : (b : Bool) → true ≡ (b || true)
        turned true = refl
        turned false = refl
    turn false b false d = refl

any_same : {A : Type 0} (f g : A → Bool) → ((x : A) → f x ≡ g x) → (xs : List A) → list_any f xs ≡ list_any g xs
any_same f g same [] = refl
any_same {A} f g same (x ∷ xs) = ap (λ (b : Bool). b || list_any f xs) (same x) ∙ ap (λ (b : Bool). g x || b) (any_same f g same xs)

any_none : {A : Type 0} (f : A → Bool) → ((x : A) → f x ≡ false) → (xs : List A) → list_any f xs ≡ false
any_none f same [] = refl
any_none f same (x ∷ xs) = ap (λ (b : Bool). b || list_any f xs) (same x) ∙ any_none f same xs

both_or : (c t m : Bool) → ((c && t) || (c && m)) ≡ (c && (t || m))
both_or true t m = refl
both_or false t m = refl

pub held_among : (xs : List Ident) (ss : List Shelf) → list_any (λ (x : Ident). any_row (λ n row. not (is_free row)) x ss) xs ≡ list_any (λ (s : Shelf). list_any (is_held_among xs) s.rows) ss
held_among [] ss = sym (any_none (λ (s : Shelf). list_any (is_held_among []) s.rows) (λ s. any_none (is_held_among []) (λ row. and_none (not (is_free row))) s.rows) ss)
held_among (x ∷ xs) ss =
    ap (λ (b : Bool). any_row (λ n row. not (is_free row)) x ss || b) (held_among xs ss)
    ∙ any_or (λ (s : Shelf). list_any (λ (row : Row). not (is_free row) && has_ident x row) s.rows) (λ (s : Shelf). list_any (is_held_among xs) s.rows) ss
    ∙ any_same (λ (s : Shelf). list_any (λ (row : Row). not (is_free row) && has_ident x row) s.rows || list_any (is_held_among xs) s.rows) (λ (s : Shelf). list_any (is_held_among (x ∷ xs)) s.rows)
    (λ s. any_or (λ (row : Row). not (is_free row) && has_ident x row) (is_held_among xs) s.rows
    ∙ any_same (λ (row : Row). (not (is_free row) && has_ident x row) || is_held_among xs row) (is_held_among (x ∷ xs)) (λ row. both_or (not (is_free row)) (same_ident row.message.ident x) (list_any (same_ident row.message.ident) xs)) s.rows) ss

-- ---- rows of other queues, of all idents and of each

on_queue : (b : Bool) (x : Ident) (xs : List Ident) (rows : List Row)
    → (list_any (λ (row : Row). b && has_ident x row) rows || (b && list_any (λ (row : Row). list_any (same_ident row.message.ident) xs) rows))
    ≡ (b && list_any (λ (row : Row). list_any (same_ident row.message.ident) (x ∷ xs)) rows)
on_queue true x xs rows = any_or (has_ident x) (λ (row : Row). list_any (same_ident row.message.ident) xs) rows
on_queue false x xs rows = ap (λ (b : Bool). b || false) (any_none (λ (row : Row). false) (λ row. refl) rows)

no_ident : (b : Bool) (rows : List Row) → (b && list_any (λ (row : Row). list_any (same_ident row.message.ident) []) rows) ≡ false
no_ident true rows = any_none (λ (row : Row). false) (λ row. refl) rows
no_ident false rows = refl

pub elsewhere_among : (queue : List ℕ) (xs : List Ident) (ss : List Shelf) → list_any (λ (x : Ident). any_row (λ n row. not (bytes_eq queue n)) x ss) xs ≡ list_any (is_elsewhere queue xs) ss
elsewhere_among queue [] ss = sym (any_none (is_elsewhere queue []) (λ s. no_ident (not (bytes_eq queue s.name)) s.rows) ss)
elsewhere_among queue (x ∷ xs) ss =
    ap (λ (b : Bool). any_row (λ n row. not (bytes_eq queue n)) x ss || b) (elsewhere_among queue xs ss)
    ∙ any_or (λ (s : Shelf). list_any (λ (row : Row). not (bytes_eq queue s.name) && has_ident x row) s.rows) (is_elsewhere queue xs) ss
    ∙ any_same (λ (s : Shelf). list_any (λ (row : Row). not (bytes_eq queue s.name) && has_ident x row) s.rows || is_elsewhere queue xs s) (is_elsewhere queue (x ∷ xs))
    (λ s. on_queue (not (bytes_eq queue s.name)) x xs s.rows) ss
