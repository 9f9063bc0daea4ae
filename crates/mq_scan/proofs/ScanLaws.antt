-- The scan of a get goes from one free row with the ids asked for to the next, while they are expired.
use Rattle.std.proofs.Common.{◌≡◌, ℕ, ◌+◌, ◌<◌, ◌≤◌, Bool, true, false, eqb, cond, List, [], ◌∷◌, ◌++◌, length, refl, sym, ap, ◌∙◌, arith}
use Rattle.std.specs.Prelude.{Option, Some, None, Result, Ok, Err, IfOk, OnOk, find, filter, map, nat_lt, option_to_list, ◌&&◌, ◌||◌}
use Rattle.std.proofs.lemmas.Bool.Decides.{nat_tests}
use Rattle.mq_message.specs.declared.place.Place.{Place}
use Rattle.mq_message.specs.declared.place.Want.{Want}
use Rattle.mq_queue.specs.declared.row.Row.{Row}
use Rattle.mq_queue.specs.Rows.{is_free, is_wanted, is_before, is_after, same_place}
use Rattle.mq_queue.specs.Queues.{AllBehind, AreInOrder, is_fitting, is_takable, is_at}
use Rattle.mq_calls.specs.State.{Plain}
use Rattle.mq_calls.specs.Reads.{is_past, is_expired}
use Rattle.mq_queue.proofs.StopLaws.{keep_filter}
use Rattle.mq_calls.specs.declared.answers.Get.{Get}
use Rattle.mq_calls.specs.declared.answers.Take.{Take}
use Rattle.mq_calls.specs.declared.answers.Take.TheVariants as takes
use Rattle.mq_spec_manager.specs.Get.{Scan, scan, scan_row, asked, looked_at, is_under, any_id, is_at as stands_at}
use Rattle.mq_place.specs.States.{rows_after}
use Rattle.mq_place.proofs.AfterLaws.{behind, find_after, next_after, shorter, rows_from_front}
use Rattle.mq_scan.specs.declared.scanning.Met.{Met}
use Rattle.mq_scan.specs.Scans.{scan_of, scanned_at, start_of, met_of}

-- it depends on the moment alone
pub scan_is : (want : Want) (p : Plain) (rows : List Row) → scan want p rows ≡ scanned_at want p.moment rows
scan_is want p [] = refl
scan_is want p (row ∷ rows) = ap (scan_row (is_free row && is_wanted want row) (is_expired p row) row) (scan_is want p rows)

abbrev pub nothing : Scan
nothing = record { expired = []; found = None }

none_step : (want : Want) (moment : ℕ) (x : Row) (xs : List Row) (b : Bool) → cond b (Some x) (find (is_fitting want) xs) ≡ None → (find (is_fitting want) xs ≡ None → scanned_at want moment xs ≡ nothing)
    → scan_row b (is_past moment x.message.deadline) x (scanned_at want moment xs) ≡ nothing
none_step want moment x xs true e rest = absurd cc
none_step want moment x xs false e rest = rest e

scan_none : (want : Want) (moment : ℕ) (rows : List Row) → find (is_fitting want) rows ≡ None → scanned_at want moment rows ≡ nothing
scan_none want moment [] e = refl
scan_none want moment (x ∷ xs) e = none_step want moment x xs (is_fitting want x) e (scan_none want moment xs)

some_step : (want : Want) (moment : ℕ) (x row : Row) (xs : List Row) (b : Bool) → cond b (Some x) (find (is_fitting want) xs) ≡ Some row
    → (find (is_fitting want) xs ≡ Some row → scanned_at want moment xs ≡ scan_row true (is_past moment row.message.deadline) row (scanned_at want moment (behind (is_fitting want) xs)))
    → scan_row b (is_past moment x.message.deadline) x (scanned_at want moment xs) ≡ scan_row true (is_past moment row.message.deadline) row (scanned_at want moment (cond b xs (behind (is_fitting want) xs)))
some_step want moment x row xs true e rest = let is : x ≡ row = grind (arith, e) in ap (λ (r : Row). scan_row true (is_past moment r.message.deadline) r (scanned_at want moment xs)) is
some_step want moment x row xs false e rest = rest e

scan_some : (want : Want) (moment : ℕ) (rows : List Row) (row : Row) → find (is_fitting want) rows ≡ Some row
    → scanned_at want moment rows ≡ scan_row true (is_past moment row.message.deadline) row (scanned_at want moment (behind (is_fitting want) rows))
scan_some want moment [] row e = absurd cc
scan_some want moment (x ∷ xs) row e = some_step want moment x row xs (is_fitting want x) e (scan_some want moment xs row)

takable : (want : Want) (after : Option Place) (row : Row) → is_takable want after row ≡ (is_after after row && is_fitting want row)
takable want after row = by (is_free row) (is_after after row) (is_wanted want row)
  where
    by : (a b c : Bool) → (a && (b && c)) ≡ (b && (a && c))
    by true true c = refl
    by true false c = refl
    by false true c = refl
    by false false c = refl

-- the scan from a place on
abbrev pub scan_after : Want → ℕ → Option Place → List Row → Scan
scan_after want moment after rows = scanned_at want moment (rows_after after rows)

module _ (want : Want) (moment : ℕ) (after : Option Place) (rows : List Row) where
  fits : (row : Row) → Some row ≡ find (is_takable want after) rows → find (is_fitting want) (rows_after after rows) ≡ Some row
  fits row e = sym (find_after (is_takable want after) (is_fitting want) after (takable want after) rows) ∙ sym e

  pub no_more : None ≡ find (is_takable want after) rows → scan_after want moment after rows ≡ nothing
  no_more e = scan_none want moment (rows_after after rows) (sym (find_after (is_takable want after) (is_fitting want) after (takable want after) rows) ∙ sym e)

  module _ (row : Row) (order : AreInOrder rows) (e : Some row ≡ find (is_takable want after) rows) where
    pub one_more : scan_after want moment after rows ≡ scan_row true (is_past moment row.message.deadline) row (scan_after want moment (Some row.place) rows)
    one_more =
        scan_some want moment (rows_after after rows) row (fits row e)
        ∙ ap (λ (rs : List Row). scan_row true (is_past moment row.message.deadline) row (scanned_at want moment rs)) (sym (next_after (is_fitting want) after rows row order (fits row e)))

    -- an expired row is met, and the scan goes on behind it
    pub met_next : is_past moment row.message.deadline ≡ true → scan_after want moment after rows ≡ scan_row true true row (scan_after want moment (Some row.place) rows)
    met_next past = one_more ∙ ap (λ (b : Bool). scan_row true b row (scan_after want moment (Some row.place) rows)) past

    -- another is found
    pub found_here : is_past moment row.message.deadline ≡ false → scan_after want moment after rows ≡ record { expired = []; found = Some row }
    found_here past = one_more ∙ ap (λ (b : Bool). scan_row true b row (scan_after want moment (Some row.place) rows)) past

    pub left_fewer : length (rows_after (Some row.place) rows) < length (rows_after after rows)
    left_fewer =
        let less = shorter (is_fitting want) (rows_after after rows) row (fits row e) in
        let same = ap length (next_after (is_fitting want) after rows row order (fits row e)) in
        omega (arith, less, same)

empty_scan : (want : Want) (moment : ℕ) (rows : List Row) → length rows ≤ 0 → scanned_at want moment rows ≡ nothing
empty_scan want moment [] le = refl
empty_scan want moment (x ∷ xs) le = absurd (omega (arith, le))

-- no row is left
pub scan_end : (want : Want) (moment : ℕ) (after : Option Place) (rows : List Row) (n : ℕ) → length (rows_after after rows) + n ≤ length rows → length rows ≤ n → scan_after want moment after rows ≡ nothing
scan_end want moment after rows n left all = empty_scan want moment (rows_after after rows) (omega (arith, left, all))

-- The row at a place.

swap : (a b : Place) → same_place a b ≡ same_place b a
swap a b = by a.lane b.lane a.arrival b.arrival
  where
    by : (l1 l2 a1 a2 : ℕ) → (eqb l1 l2 && eqb a1 a2) ≡ (eqb l2 l1 && eqb a2 a1)
    by l1 l2 a1 a2 = grind (arith, nat_tests)

apart : (a b place : Place) → is_before a b ≡ true → same_place a place ≡ true → same_place place b ≡ false
apart a b place p q = by a.lane b.lane place.lane a.arrival b.arrival place.arrival p q
  where
    by : (l1 l2 l3 a1 a2 a3 : ℕ) → (nat_lt l1 l2 || (eqb l1 l2 && nat_lt a1 a2)) ≡ true → (eqb l1 l3 && eqb a1 a3) ≡ true → (eqb l3 l2 && eqb a3 a2) ≡ false
    by l1 l2 l3 a1 a2 a3 p q = grind (arith, nat_tests)

none_behind : (place : Place) (x : Row) (xs : List Row) → AllBehind x.place xs → same_place x.place place ≡ true → filter (stands_at (Some place)) xs ≡ []
none_behind place x [] all e = refl
none_behind place x (y ∷ ys) all e =
    let not_here = apart x.place y.place place all.0 e in
    let rest = none_behind place x ys all.1 e in
    λ i. cond (not_here i) (y ∷ rest i) (rest i)

at_step : (place : Place) (x : Row) (xs : List Row) → AllBehind x.place xs → filter (stands_at (Some place)) xs ≡ option_to_list (find (is_at place) xs) → (b : Bool) → same_place x.place place ≡ b
    → cond (same_place place x.place) (x ∷ filter (stands_at (Some place)) xs) (filter (stands_at (Some place)) xs) ≡ option_to_list (cond b (Some x) (find (is_at place) xs))
at_step place x xs all rest true e =
    let here = swap place x.place ∙ e in
    let none = none_behind place x xs all e in
    λ i. cond (here i) (x ∷ none i) (none i)
at_step place x xs all rest false e =
    let here = swap place x.place ∙ e in
    λ i. cond (here i) (x ∷ rest i) (rest i)

pub at_place : (place : Place) (rows : List Row) → AreInOrder rows → filter (stands_at (Some place)) rows ≡ option_to_list (find (is_at place) rows)
at_place place [] order = refl
at_place place (x ∷ xs) order = at_step place x xs order.0 (at_place place xs order.1) (same_place x.place place) refl

pub none_at : (rows : List Row) → filter (stands_at None) rows ≡ []
none_at [] = refl
none_at (x ∷ xs) = none_at xs

-- the scan of one row, or of none
pub scan_one : (moment : ℕ) (place : Place) (rows : List Row) (r : Option Row) → AreInOrder rows → r ≡ find (is_at place) rows → scanned_at any_id moment (filter (stands_at (Some place)) rows) ≡ scanned_at any_id moment (option_to_list r)
scan_one moment place rows r order e = ap (scanned_at any_id moment) (at_place place rows order ∙ ap (λ (o : Option Row). option_to_list o) (sym e))

pub scan_no_cursor : (moment : ℕ) (rows : List Row) → scanned_at any_id moment (filter (stands_at None) rows) ≡ nothing
scan_no_cursor moment rows = ap (scanned_at any_id moment) (none_at rows)

-- The list of the rows met.

joined : (xs ys : List Met) (m : Met) → (xs ++ m ∷ []) ++ ys ≡ xs ++ m ∷ ys
joined [] ys m = refl
joined (x ∷ xs) ys m = ap (λ (zs : List Met). x ∷ zs) (joined xs ys m)

pub met_more : (met new : List Met) (m : Met) (row : Row) (s next : Scan) → new ≡ met ++ m ∷ [] → m ≡ met_of row → s ≡ scan_row true true row next → new ++ map met_of next.expired ≡ met ++ map met_of s.expired
met_more met new m row s next more is then =
    ap (λ (ms : List Met). ms ++ map met_of next.expired) more ∙ joined met (map met_of next.expired) m
    ∙ (λ i. met ++ is i ∷ map met_of next.expired)
    ∙ sym (ap (λ (x : Scan). met ++ map met_of x.expired) then)

all_of : (xs : List Met) → xs ++ [] ≡ xs
all_of [] = refl
all_of (x ∷ xs) = ap (λ (zs : List Met). x ∷ zs) (all_of xs)

-- where none is met any more the list is whole
pub met_all : (met whole : List Met) (s : Scan) → s.expired ≡ [] → met ++ map met_of s.expired ≡ whole → met ≡ whole
met_all met whole s none is = sym (ap (λ (rs : List Row). met ++ map met_of rs) none ∙ all_of met) ∙ is

-- The rows at which a get looks.

pub under_looked : (take : Take) (cursor : Option Place) (rows : List Row) → is_under take ≡ true → looked_at take cursor rows ≡ filter (stands_at cursor) rows
under_looked takes.Next cursor rows e = absurd cc
under_looked takes.BrowseFirst cursor rows e = absurd cc
under_looked takes.BrowseNext cursor rows e = absurd cc
under_looked takes.UnderCursor cursor rows e = refl
under_looked takes.BrowseUnder cursor rows e = refl

pub start_looked : (take : Take) (cursor : Option Place) (rows : List Row) → is_under take ≡ false → looked_at take cursor rows ≡ rows_after (start_of take cursor) rows
start_looked takes.Next cursor rows e = sym (rows_from_front rows)
start_looked takes.BrowseFirst cursor rows e = sym (rows_from_front rows)
start_looked takes.BrowseNext cursor rows e = keep_filter (is_after cursor) rows
start_looked takes.UnderCursor cursor rows e = absurd cc
start_looked takes.BrowseUnder cursor rows e = absurd cc

-- a scan of these rows is that of the get
pub told : (get : Get) (cursor : Option Place) (moment : ℕ) (want : Want) (rows looked : List Row) → asked get ≡ want → looked_at get.take cursor rows ≡ looked → (p : Plain) → p.moment ≡ moment → scan_of get cursor p rows ≡ scanned_at want moment looked
told get cursor moment want rows looked asks looks p at = scan_is (asked get) p (looked_at get.take cursor rows) ∙ (λ i. scanned_at (asks i) (at i) (looks i))

pub asked_under : (get : Get) → is_under get.take ≡ true → asked get ≡ any_id
asked_under get e = ap (λ (b : Bool). cond b any_id get.want) e

pub asked_ids : (get : Get) → is_under get.take ≡ false → asked get ≡ get.want
asked_ids get e = ap (λ (b : Bool). cond b any_id get.want) e

pub if_ok : {T E : Type 0} (r : Result T E) {P Q : T → Type 0} → ((t : T) → P t → Q t) → IfOk r P → IfOk r Q
if_ok (Ok t) f p = f t p
if_ok (Err e) f p = tt

pub on_ok : {T E A B : Type 0} (r : Result T E) → (A → B) → OnOk r A → OnOk r B
on_ok (Ok t) f a = f a
on_ok (Err e) f a = tt
