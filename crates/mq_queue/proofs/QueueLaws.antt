-- What is a queue stays one: rows are placed, kept and retagged.
use Rattle.std.proofs.Common.{◌≡◌, ℕ, suc, ◌+◌, ◌<◌, ◌≤◌, Bool, true, false, cond, eqb, List, [], ◌∷◌, length, refl, sym, ap, subst, ◌∙◌, arith}
use Rattle.std.specs.Prelude.{Some, None, find, nat_lt, nat_le, ◌&&◌, ◌||◌}
use Rattle.std.specs.Option.{option_map}
use Rattle.std.specs.List.{AllByRecursion}
use Rattle.std.proofs.lemmas.Bool.Decides.{nat_tests}
use Rattle.mq_message.specs.declared.message.Ident.{Ident}
use Rattle.mq_message.specs.declared.message.Message.{Message}
use Rattle.mq_message.specs.declared.place.Place.{Place}
use Rattle.mq_message.specs.declared.place.Holder.{Holder}
use Rattle.mq_queue.specs.declared.row.Row.{Row}
use Rattle.mq_queue.specs.Rows.{same_ident, has_ident, is_before, is_by_unit, insert_row, keep, retag}
use Rattle.mq_queue.specs.Queues.{Lacks, AreDistinct, AllBehind, AreInOrder, IsQueue, row_of, hold_row, release_row, freed, is_free_one, is_held_one, message_of, unit_freed}

-- What holds of each row

all_insert_step : (P : Row → Type 0) (new row : Row) (rows : List Row) → P new → P row → AllByRecursion P rows → AllByRecursion P (insert_row new rows) → (t : Bool)
    → AllByRecursion P (cond t (row ∷ insert_row new rows) (new ∷ row ∷ rows))
all_insert_step P new row rows n r all ih true = (r, ih)
all_insert_step P new row rows n r all ih false = (n, (r, all))

pub all_insert : (P : Row → Type 0) (new : Row) (rows : List Row) → P new → AllByRecursion P rows → AllByRecursion P (insert_row new rows)
all_insert P new [] n all = (n, tt)
all_insert P new (row ∷ rows) n all = all_insert_step P new row rows n all.0 all.1 (all_insert P new rows n all.1) (nat_le row.place.lane new.place.lane)

all_keep_step : (P : Row → Type 0) (row : Row) (rows : List Row) → P row → AllByRecursion P rows → (t : Bool) → AllByRecursion P (cond t (row ∷ rows) rows)
all_keep_step P row rows r all true = (r, all)
all_keep_step P row rows r all false = all

pub all_keep : (P : Row → Type 0) (test : Row → Bool) (rows : List Row) → AllByRecursion P rows → AllByRecursion P (keep test rows)
all_keep P test [] all = tt
all_keep P test (row ∷ rows) all = all_keep_step P row (keep test rows) all.0 (all_keep P test rows all.1) (test row)

pub all_retag : (P Q : Row → Type 0) (change : Row → Row) → ((row : Row) → P row → Q (change row)) → (rows : List Row) → AllByRecursion P rows → AllByRecursion Q (retag change rows)
all_retag P Q change h [] all = tt
all_retag P Q change h (row ∷ rows) all = (h row all.0, all_retag P Q change h rows all.1)

pub all_imply : (P Q : Row → Type 0) → ((row : Row) → P row → Q row) → (rows : List Row) → AllByRecursion P rows → AllByRecursion Q rows
all_imply P Q h [] all = tt
all_imply P Q h (row ∷ rows) all = (h row all.0, all_imply P Q h rows all.1)

-- A row is placed

same_back : (a b : Ident) → same_ident a b ≡ false → same_ident b a ≡ false
same_back a b e = grind (arith, nat_tests)

distinct_step : (new row : Row) (rows : List Row) → has_ident new.message.ident row ≡ false → Lacks new.message.ident rows → Lacks row.message.ident rows → AreDistinct rows → AreDistinct (insert_row new rows)
    → (t : Bool) → AreDistinct (cond t (row ∷ insert_row new rows) (new ∷ row ∷ rows))
distinct_step new row rows h lacks other d ih true = (all_insert (λ (r : Row). has_ident row.message.ident r ≡ false) new rows (same_back row.message.ident new.message.ident h) other, ih)
distinct_step new row rows h lacks other d ih false = ((h, lacks), (other, d))

pub distinct_insert : (new : Row) (rows : List Row) → Lacks new.message.ident rows → AreDistinct rows → AreDistinct (insert_row new rows)
distinct_insert new [] lacks d = (tt, tt)
distinct_insert new (row ∷ rows) lacks d = distinct_step new row rows lacks.0 lacks.1 d.0 d.1 (distinct_insert new rows lacks.1 d.1) (nat_le row.place.lane new.place.lane)

before_later : (l1 l2 a1 a2 : ℕ) → nat_le l1 l2 ≡ true → a1 < a2 → (nat_lt l1 l2 || (eqb l1 l2 && nat_lt a1 a2)) ≡ true
before_later l1 l2 a1 a2 le lt = grind (arith, nat_tests)

before_lane : (l1 l2 a1 a2 : ℕ) → nat_le l2 l1 ≡ false → (nat_lt l1 l2 || (eqb l1 l2 && nat_lt a1 a2)) ≡ true
before_lane l1 l2 a1 a2 le = grind (arith, nat_tests)

before_past : (l1 l2 l3 a1 a2 a3 : ℕ) → nat_le l2 l1 ≡ false → (nat_lt l2 l3 || (eqb l2 l3 && nat_lt a2 a3)) ≡ true → (nat_lt l1 l3 || (eqb l1 l3 && nat_lt a1 a3)) ≡ true
before_past l1 l2 l3 a1 a2 a3 le b = grind (arith, nat_tests)

order_step : (new row : Row) (rows : List Row) → row.place.arrival < new.place.arrival → AllBehind row.place rows → AreInOrder rows → AreInOrder (insert_row new rows)
    → (t : Bool) → nat_le row.place.lane new.place.lane ≡ t → AreInOrder (cond t (row ∷ insert_row new rows) (new ∷ row ∷ rows))
order_step new row rows lt behind o ih true e =
    (all_insert (λ (r : Row). is_before row.place r.place ≡ true) new rows (before_later row.place.lane new.place.lane row.place.arrival new.place.arrival e lt) behind, ih)
order_step new row rows lt behind o ih false e = (
  (
    before_lane new.place.lane row.place.lane new.place.arrival row.place.arrival e,
    all_imply (λ (r : Row). is_before row.place r.place ≡ true) (λ (r : Row). is_before new.place r.place ≡ true)
        (λ r b. before_past new.place.lane row.place.lane r.place.lane new.place.arrival row.place.arrival r.place.arrival e b) rows behind,
  ),
  (behind, o),
)

pub order_insert : (new : Row) (rows : List Row) → AllByRecursion (λ (row : Row). row.place.arrival < new.place.arrival) rows → AreInOrder rows → AreInOrder (insert_row new rows)
order_insert new [] lt o = (tt, tt)
order_insert new (row ∷ rows) lt o = order_step new row rows lt.0 o.0 o.1 (order_insert new rows lt.1 o.1) (nat_le row.place.lane new.place.lane) refl

pub length_placed : (new : Row) (rows : List Row) → length (insert_row new rows) ≡ length rows + 1
length_placed new [] = refl
length_placed new (x ∷ xs) = grind (arith, length_placed new xs)

pub queue_placed : (by_priority : Bool) (message : Message) (rows : List Row) (n : ℕ) → Lacks message.ident rows → IsQueue rows n → IsQueue (insert_row (row_of by_priority message (n + 1)) rows) (n + 1)
queue_placed by_priority message rows n lacks q =
    let new : Row = row_of by_priority message (n + 1) in
    record {
      distinct = distinct_insert new rows lacks q.distinct;
      in_order = order_insert new rows (all_imply (λ (row : Row). row.place.arrival ≤ n) (λ (row : Row). row.place.arrival < n + 1) (λ row le. omega (arith, le)) rows q.counted) q.in_order;
      counted = all_insert (λ (row : Row). row.place.arrival ≤ n + 1) new rows (omega arith) (all_imply (λ (row : Row). row.place.arrival ≤ n) (λ (row : Row). row.place.arrival ≤ n + 1) (λ row le. omega (arith, le)) rows q.counted);
      fits = omega (arith, q.fits, length_placed new rows);
    }

-- Rows are kept

distinct_keep_step : (row : Row) (rows : List Row) → Lacks row.message.ident rows → AreDistinct rows → (t : Bool) → AreDistinct (cond t (row ∷ rows) rows)
distinct_keep_step row rows lacks d true = (lacks, d)
distinct_keep_step row rows lacks d false = d

pub distinct_keep : (test : Row → Bool) (rows : List Row) → AreDistinct rows → AreDistinct (keep test rows)
distinct_keep test [] d = tt
distinct_keep test (row ∷ rows) d = distinct_keep_step row (keep test rows) (all_keep (λ (r : Row). has_ident row.message.ident r ≡ false) test rows d.0) (distinct_keep test rows d.1) (test row)

order_keep_step : (row : Row) (rows : List Row) → AllBehind row.place rows → AreInOrder rows → (t : Bool) → AreInOrder (cond t (row ∷ rows) rows)
order_keep_step row rows behind o true = (behind, o)
order_keep_step row rows behind o false = o

pub order_keep : (test : Row → Bool) (rows : List Row) → AreInOrder rows → AreInOrder (keep test rows)
order_keep test [] o = tt
order_keep test (row ∷ rows) o = order_keep_step row (keep test rows) (all_keep (λ (r : Row). is_before row.place r.place ≡ true) test rows o.0) (order_keep test rows o.1) (test row)

pub length_kept : (test : Row → Bool) (rows : List Row) → length (keep test rows) ≤ length rows
length_kept test [] = omega arith
length_kept test (x ∷ xs) = grind (arith, length_kept test xs)

pub queue_kept : (test : Row → Bool) (rows : List Row) (n : ℕ) → IsQueue rows n → IsQueue (keep test rows) n
queue_kept test rows n q = record {
  distinct = distinct_keep test rows q.distinct;
  in_order = order_keep test rows q.in_order;
  counted = all_keep (λ (row : Row). row.place.arrival ≤ n) test rows q.counted;
  fits = omega (arith, q.fits, length_kept test rows);
}

-- Rows are retagged: each keeps its place and its ident

abbrev pub KeepsPlaces : (Row → Row) → Type 0
KeepsPlaces change = (row : Row) → ((change row).place ≡ row.place) × ((change row).message.ident ≡ row.message.ident)

pub distinct_retag : (change : Row → Row) → KeepsPlaces change → (rows : List Row) → AreDistinct rows → AreDistinct (retag change rows)
distinct_retag change k [] d = tt
distinct_retag change k (row ∷ rows) d = (
  all_retag (λ (r : Row). has_ident row.message.ident r ≡ false) (λ (r : Row). has_ident (change row).message.ident r ≡ false) change
      (λ r h. ap (λ (i : Ident). same_ident i (change row).message.ident) (k r).1 ∙ ap (same_ident r.message.ident) (k row).1 ∙ h) rows d.0,
  distinct_retag change k rows d.1,
)

pub order_retag : (change : Row → Row) → KeepsPlaces change → (rows : List Row) → AreInOrder rows → AreInOrder (retag change rows)
order_retag change k [] o = tt
order_retag change k (row ∷ rows) o = (
  all_retag (λ (r : Row). is_before row.place r.place ≡ true) (λ (r : Row). is_before (change row).place r.place ≡ true) change
      (λ r h. ap (λ (p : Place). is_before p (change r).place) (k row).0 ∙ ap (is_before row.place) (k r).0 ∙ h) rows o.0,
  order_retag change k rows o.1,
)

pub length_retagged : (change : Row → Row) (rows : List Row) → length (retag change rows) ≡ length rows
length_retagged change [] = refl
length_retagged change (x ∷ xs) = ap (λ n. suc n) (length_retagged change xs)

pub queue_retagged : (change : Row → Row) → KeepsPlaces change → (rows : List Row) (n : ℕ) → IsQueue rows n → IsQueue (retag change rows) n
queue_retagged change k rows n q = record {
  distinct = distinct_retag change k rows q.distinct;
  in_order = order_retag change k rows q.in_order;
  counted = all_retag (λ (row : Row). row.place.arrival ≤ n) (λ (row : Row). row.place.arrival ≤ n) change (λ row le. subst (λ (p : Place). p.arrival ≤ n) (sym (k row).0) le) rows q.counted;
  fits = omega (arith, q.fits, length_retagged change rows);
}

hold_step : (by : Holder) (row : Row) (t : Bool) → ((cond t (record row { by = Some by }) row).place ≡ row.place) × ((cond t (record row { by = Some by }) row).message.ident ≡ row.message.ident)
hold_step by row true = (refl, refl)
hold_step by row false = (refl, refl)

pub hold_keeps : (ident : Ident) (by : Holder) → KeepsPlaces (hold_row ident by)
hold_keeps ident by row = hold_step by row (is_free_one ident row)

freed_keeps : (backed_out : Bool) (row : Row) → ((freed backed_out row).place ≡ row.place) × ((freed backed_out row).message.ident ≡ row.message.ident)
freed_keeps true row = (refl, refl)
freed_keeps false row = (refl, refl)

release_step : (backed_out : Bool) (row : Row) (t : Bool) → ((cond t (freed backed_out row) row).place ≡ row.place) × ((cond t (freed backed_out row) row).message.ident ≡ row.message.ident)
release_step backed_out row true = freed_keeps backed_out row
release_step backed_out row false = (refl, refl)

pub release_keeps : (ident : Ident) (backed_out : Bool) → KeepsPlaces (release_row ident backed_out)
release_keeps ident backed_out row = release_step backed_out row (is_held_one ident row)

-- What a stop does.

unit_step : (row : Row) (t : Bool) → ((cond t (freed true row) row).place ≡ row.place) × ((cond t (freed true row) row).message.ident ≡ row.message.ident)
unit_step row true = (refl, refl)
unit_step row false = (refl, refl)

pub unit_keeps : KeepsPlaces unit_freed
unit_keeps row = unit_step row (is_by_unit row.by)

-- rows that are kept or changed by tests and changes that agree
pub keep_same : (a b : Row → Bool) → ((row : Row) → a row ≡ b row) → (rows : List Row) → keep a rows ≡ keep b rows
keep_same a b h [] = refl
keep_same a b h (x ∷ xs) = rw (h x, keep_same a b h xs) refl

pub retag_same : (a b : Row → Row) → ((row : Row) → a row ≡ b row) → (rows : List Row) → retag a rows ≡ retag b rows
retag_same a b h [] = refl
retag_same a b h (x ∷ xs) = rw (h x, retag_same a b h xs) refl

-- No row is lacked that is found.

absent_step : (ident : Ident) (x : Row) (xs : List Row) → (option_map (λ (row : Row). row.message) (find (has_ident ident) xs) ≡ None → Lacks ident xs)
    → (t : Bool) → has_ident ident x ≡ t → option_map (λ (row : Row). row.message) (find (has_ident ident) (x ∷ xs)) ≡ None → Lacks ident (x ∷ xs)
absent_step ident x xs ih true e h = absurd (let n : Some x.message ≡ None = (rw e at h) in cc)
absent_step ident x xs ih false e h = (e, ih (rw e at h))

-- where no message has the ident no row has it
pub absent : (ident : Ident) (rows : List Row) → message_of ident rows ≡ None → Lacks ident rows
absent ident [] h = tt
absent ident (x ∷ xs) h = absent_step ident x xs (absent ident xs) (has_ident ident x) refl h
