-- A row goes in at the end of its lane; the one row that passes a test goes out, or is changed at its place.
use Rattle.std.proofs.Common.{◌≡◌, ℕ, suc, ◌+◌, ◌<◌, ◌≤◌, Bool, true, false, cond, List, [], ◌∷◌, length, get_or, refl, sym, ap, subst, ◌∙◌, arith}
use Rattle.std.specs.Prelude.{◌↔◌, Option, Some, None, IsSome, IfSome, OnSome, find, position, not, nat_lt, nat_le, slice_get, slice_set, ◌&&◌}
use Rattle.std.specs.List.{position_or_len, insert, remove, list_any, AllByRecursion}
use Rattle.std.proofs.lemmas.List.Sums.{prefix_len-le-length}
use Rattle.std.proofs.lemmas.List.Folds.{find_at}
use Rattle.std.proofs.lemmas.Option.{slice_get_past, slice_get_read}
use Rattle.std.proofs.lemmas.Bool.Decides.{nat_tests}
use Rattle.mq_message.specs.declared.message.Ident.{Ident}
use Rattle.mq_queue.specs.declared.row.Row.{Row}
use Rattle.mq_queue.specs.Rows.{same_ident, has_ident, insert_row, keep, retag}
use Rattle.mq_queue.specs.Queues.{Lacks, AreDistinct}

insert_next : {X : Type 0} (x : X) (xs : List X) (i : ℕ) (y : X) → insert (x ∷ xs) (1 + i) y ≡ x ∷ insert xs i y
insert_next x xs i y = let e : 1 + i ≡ suc i = omega arith in rw e refl

remove_next : {X : Type 0} (x : X) (xs : List X) (i : ℕ) → remove (x ∷ xs) (1 + i) ≡ x ∷ remove xs i
remove_next x xs i = let e : 1 + i ≡ suc i = omega arith in rw e refl

le_not_lt : (a b : ℕ) (t : Bool) → nat_lt a b ≡ t → nat_le b a ≡ not t
le_not_lt a b true e = grind (arith, nat_tests)
le_not_lt a b false e = grind (arith, nat_tests)

insert_step : (x : Row) (xs : List Row) (new : Row) → insert xs (position_or_len (λ row. nat_lt new.place.lane row.place.lane) xs) new ≡ insert_row new xs
    → (t : Bool) → nat_lt new.place.lane x.place.lane ≡ t → insert (x ∷ xs) (position_or_len (λ row. nat_lt new.place.lane row.place.lane) (x ∷ xs)) new ≡ insert_row new (x ∷ xs)
insert_step x xs new ih true e = rw (e, le_not_lt new.place.lane x.place.lane true e) refl
insert_step x xs new ih false e = rw (e, le_not_lt new.place.lane x.place.lane false e) (insert_next x xs (position_or_len (λ row. nat_lt new.place.lane row.place.lane) xs) new ∙ ap (λ (rows : List Row). x ∷ rows) ih)

-- where the first row of a later lane stands, or at the end
pub insert_at_end : (rows : List Row) (new : Row) → insert rows (position_or_len (λ row. nat_lt new.place.lane row.place.lane) rows) new ≡ insert_row new rows
insert_at_end [] new = refl
insert_at_end (x ∷ xs) new = insert_step x xs new (insert_at_end xs new) (nat_lt new.place.lane x.place.lane) refl

-- the place that position gives
pub place_some : (test : Row → Bool) (rows : List Row) (i : ℕ) → position test rows ≡ Some i → (i ≡ position_or_len test rows) × (i < length rows)
place_some test rows i e = grind (arith, nat_tests)

pub place_none : (test : Row → Bool) (rows : List Row) → position test rows ≡ None → length rows ≤ position_or_len test rows
place_none test rows e = grind (arith, nat_tests)

pub within : (test : Row → Bool) (rows : List Row) → position_or_len test rows ≤ length rows
within test rows = prefix_len-le-length (λ row. not (test row)) rows

-- No row passes

abbrev pub NonePasses : (Row → Bool) → List Row → Type 0
NonePasses test rows = AllByRecursion (λ (row : Row). test row ≡ false) rows

none_step : (test : Row → Bool) (x : Row) (xs : List Row) → (length xs ≤ position_or_len test xs → NonePasses test xs) → (t : Bool) → test x ≡ t → length (x ∷ xs) ≤ position_or_len test (x ∷ xs) → NonePasses test (x ∷ xs)
none_step test x xs ih true e le = absurd (omega (arith, rw e at le))
none_step test x xs ih false e le = (e, ih (omega (arith, rw e at le)))

pub none_passes : (test : Row → Bool) (rows : List Row) → length rows ≤ position_or_len test rows → NonePasses test rows
none_passes test [] le = tt
none_passes test (x ∷ xs) le = none_step test x xs (none_passes test xs) (test x) refl le

pub none_any : (test : Row → Bool) (rows : List Row) → NonePasses test rows → list_any test rows ≡ false
none_any test [] h = refl
none_any test (x ∷ xs) h = rw h.0 (none_any test xs h.1)

pub none_kept : (test : Row → Bool) (rows : List Row) → NonePasses test rows → keep (λ (row : Row). not (test row)) rows ≡ rows
none_kept test [] h = refl
none_kept test (x ∷ xs) h = rw h.0 (ap (λ (rows : List Row). x ∷ rows) (none_kept test xs h.1))

pub none_changed : (test : Row → Bool) (f : Row → Row) (rows : List Row) → NonePasses test rows → retag (λ (row : Row). cond (test row) (f row) row) rows ≡ rows
none_changed test f [] h = refl
none_changed test f (x ∷ xs) h = rw h.0 (ap (λ (rows : List Row). x ∷ rows) (none_changed test f xs h.1))

-- At most one row passes

abbrev pub AtMostOne : (Row → Bool) → List Row → Type 0
AtMostOne test [] = Unit {0}
AtMostOne test (row ∷ rows) = (test row ≡ true → NonePasses test rows) × AtMostOne test rows

any_step : (test : Row → Bool) (x : Row) (xs : List Row) → (position_or_len test xs < length xs → list_any test xs ≡ true) → (t : Bool) → test x ≡ t → position_or_len test (x ∷ xs) < length (x ∷ xs) → list_any test (x ∷ xs) ≡ true
any_step test x xs ih true e lt = rw e refl
any_step test x xs ih false e lt = rw e (ih (omega (arith, rw e at lt)))

some_any : (test : Row → Bool) (rows : List Row) → position_or_len test rows < length rows → list_any test rows ≡ true
some_any test [] lt = absurd (omega arith)
some_any test (x ∷ xs) lt = any_step test x xs (some_any test xs) (test x) refl lt

remove_step : (test : Row → Bool) (x : Row) (xs : List Row) → remove xs (position_or_len test xs) ≡ keep (λ (row : Row). not (test row)) xs → (test x ≡ true → NonePasses test xs)
    → (t : Bool) → test x ≡ t → remove (x ∷ xs) (position_or_len test (x ∷ xs)) ≡ keep (λ (row : Row). not (test row)) (x ∷ xs)
remove_step test x xs ih one true e = rw e (sym (none_kept test xs (one e)))
remove_step test x xs ih one false e = rw e (remove_next x xs (position_or_len test xs) ∙ ap (λ (rows : List Row). x ∷ rows) ih)

-- the one that passes goes, and where none passes all stay
remove_one : (test : Row → Bool) (rows : List Row) → AtMostOne test rows → remove rows (position_or_len test rows) ≡ keep (λ (row : Row). not (test row)) rows
remove_one test [] h = refl
remove_one test (x ∷ xs) h = remove_step test x xs (remove_one test xs h.1) h.0 (test x) refl

change_step : (test : Row → Bool) (f : Row → Row) (row x : Row) (xs : List Row)
    → (slice_get xs (position_or_len test xs) ≡ Some row → slice_set xs (position_or_len test xs) (f row) ≡ retag (λ (r : Row). cond (test r) (f r) r) xs) → (test x ≡ true → NonePasses test xs)
    → (t : Bool) → test x ≡ t → slice_get (x ∷ xs) (position_or_len test (x ∷ xs)) ≡ Some row → slice_set (x ∷ xs) (position_or_len test (x ∷ xs)) (f row) ≡ retag (λ (r : Row). cond (test r) (f r) r) (x ∷ xs)
change_step test f row x xs ih one true e h =
    let same : Some x ≡ Some row = (rw e at h) in
    let at : row ≡ x = cc in
    rw (e, none_changed test f xs (one e)) (ap (λ (y : Row). f y ∷ xs) at)
change_step test f row x xs ih one false e h =
    let next : 1 + position_or_len test xs ≡ suc (position_or_len test xs) = omega arith in
    rw (e, next) (ap (λ (rows : List Row). x ∷ rows) (ih (rw (e, next) at h)))

-- the one that passes is changed at its place
change_one : (test : Row → Bool) (f : Row → Row) (row : Row) (rows : List Row) → AtMostOne test rows → slice_get rows (position_or_len test rows) ≡ Some row
    → slice_set rows (position_or_len test rows) (f row) ≡ retag (λ (r : Row). cond (test r) (f r) r) rows
change_one test f row [] h e = absurd cc
change_one test f row (x ∷ xs) h e = change_step test f row x xs (change_one test f row xs h.1) h.0 (test x) refl e

-- At most one row has an ident

both : (a b : Bool) → (a && b) ≡ true → (a ≡ true) × (b ≡ true)
both true b e = (refl, e)
both false b e = absurd cc

-- idents that pass the test are one
pub same_is : (a b : Ident) → same_ident a b ≡ true → a ≡ b
same_is a b e = grind (arith, nat_tests)

pub same_self : (a : Ident) → same_ident a a ≡ true
same_self a = grind (arith, nat_tests)

pub same_turned : (a b : Ident) → same_ident a b ≡ same_ident b a
same_turned a b = grind (arith, nat_tests)

not_true : (b c : Bool) → (b ≡ true → c ≡ true) → c ≡ false → b ≡ false
not_true true c h e = absurd (let t = h refl in cc)
not_true false c h e = refl

lacks_none : (ident : Ident) (test : Row → Bool) → ((row : Row) → test row ≡ true → has_ident ident row ≡ true) → (rows : List Row) → Lacks ident rows → NonePasses test rows
lacks_none ident test sub [] h = tt
lacks_none ident test sub (x ∷ xs) h = (not_true (test x) (has_ident ident x) (sub x) h.0, lacks_none ident test sub xs h.1)

pub at_most_one : (ident : Ident) (test : Row → Bool) → ((row : Row) → test row ≡ true → has_ident ident row ≡ true) → (rows : List Row) → AreDistinct rows → AtMostOne test rows
at_most_one ident test sub [] d = tt
at_most_one ident test sub (x ∷ xs) d =
    ((λ t. lacks_none ident test sub xs (subst (λ (i : Ident). Lacks i xs) (same_is x.message.ident ident (sub x t)) d.0)), at_most_one ident test sub xs d.1)

-- For the calls

pub none_found : (test : Row → Bool) (rows : List Row) → position test rows ≡ None → find test rows ≡ None
none_found test rows e = find_at test rows ∙ slice_get_past rows (position_or_len test rows) (place_none test rows e)

pub none_goes : (test : Row → Bool) (rows : List Row) → position test rows ≡ None → rows ≡ keep (λ (row : Row). not (test row)) rows
none_goes test rows e = sym (none_kept test rows (none_passes test rows (place_none test rows e)))

pub none_there : (test : Row → Bool) (rows : List Row) → position test rows ≡ None → false ≡ list_any test rows
none_there test rows e = sym (none_any test rows (none_passes test rows (place_none test rows e)))

pub none_turned : (test : Row → Bool) (f : Row → Row) (rows : List Row) → position test rows ≡ None → rows ≡ retag (λ (row : Row). cond (test row) (f row) row) rows
none_turned test f rows e = sym (none_changed test f rows (none_passes test rows (place_none test rows e)))

pub some_found : (test : Row → Bool) (rows : List Row) (i : ℕ) (row : Row) → position test rows ≡ Some i → row ≡ get_or rows i row → Some row ≡ find test rows
some_found test rows i row e r =
    let at = place_some test rows i e in
    sym (find_at test rows ∙ ap (slice_get rows) (sym at.0) ∙ slice_get_read rows (length rows) i row refl at.1 r)

pub some_there : (test : Row → Bool) (rows : List Row) (i : ℕ) → position test rows ≡ Some i → true ≡ list_any test rows
some_there test rows i e = let at = place_some test rows i e in sym (some_any test rows (omega (arith, at.0, at.1)))

pub some_goes : (test : Row → Bool) (rows : List Row) (i : ℕ) → position test rows ≡ Some i → AtMostOne test rows → remove rows i ≡ keep (λ (row : Row). not (test row)) rows
some_goes test rows i e one = ap (remove rows) (place_some test rows i e).0 ∙ remove_one test rows one

-- what is taken out of a ring at that place
pub some_taken : (test : Row → Bool) (rows : List Row) (n i : ℕ) (taken : Option Row) → n ≡ length rows → position test rows ≡ Some i → (IsSome taken ↔ (i < n)) → IfSome taken (λ (row : Row). row ≡ get_or rows i row) → taken ≡ find test rows
some_taken test rows n i None long e is v = absurd (let t : false ≡ true = is.1 (omega (arith, long, (place_some test rows i e).1)) in cc)
some_taken test rows n i (Some row) long e is v = some_found test rows i row e v

pub some_left : (test : Row → Bool) (rows left : List Row) (n i : ℕ) (taken : Option Row) → n ≡ length rows → position test rows ≡ Some i → (IsSome taken ↔ (i < n)) → OnSome taken (left ≡ remove rows i) → AtMostOne test rows
    → left ≡ keep (λ (row : Row). not (test row)) rows
some_left test rows left n i None long e is v one = absurd (let t : false ≡ true = is.1 (omega (arith, long, (place_some test rows i e).1)) in cc)
some_left test rows left n i (Some row) long e is v one = v ∙ some_goes test rows i e one

pub some_turned : (test : Row → Bool) (f : Row → Row) (rows : List Row) (i : ℕ) (row : Row) → position test rows ≡ Some i → row ≡ get_or rows i row → AtMostOne test rows
    → slice_set rows i (f row) ≡ retag (λ (r : Row). cond (test r) (f r) r) rows
some_turned test f rows i row e r one =
    let at = place_some test rows i e in
    ap (λ (k : ℕ). slice_set rows k (f row)) at.0 ∙ change_one test f row rows one (ap (slice_get rows) (sym at.0) ∙ slice_get_read rows (length rows) i row refl at.1 r)

-- tests by an ident
pub by_ident : (ident : Ident) (rows : List Row) → AreDistinct rows → AtMostOne (has_ident ident) rows
by_ident ident rows d = at_most_one ident (has_ident ident) (λ row t. t) rows d

pub by_ident_and : (ident : Ident) (more : Row → Bool) (rows : List Row) → AreDistinct rows → AtMostOne (λ (row : Row). has_ident ident row && more row) rows
by_ident_and ident more rows d = at_most_one ident (λ (row : Row). has_ident ident row && more row) (λ row t. (both (has_ident ident row) (more row) t).0) rows d
