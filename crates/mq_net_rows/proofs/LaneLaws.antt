-- Lanes of a queue: a row more at the end of its lane, rows that stay.
use Rattle.std.proofs.Common.{ℕ, zero, suc, ◌≡◌, ◌<◌, ◌≤◌, Bool, true, false, cond, List, [], ◌∷◌, ◌++◌, Option, Some, None, refl, ap, sym, subst, ◌∙◌, arith, length}
use Rattle.std.specs.Prelude.{nat_le, map, find, position, insert, slice_get, slice_set, ◌||◌, ◌==◌}
use Rattle.std.specs.List.{list_any}
use Rattle.std.proofs.lemmas.Bool.Decides.{nat_tests}
use Rattle.mq_message.specs.declared.message.Ident.{Ident}
use Rattle.mq_queue.specs.declared.row.Row.{Row}
use Rattle.mq_queue.specs.Rows.{insert_row, keep, has_ident}
use Rattle.mq_net_rows.specs.declared.lanes.Lane.{Lane}
use Rattle.mq_net_rows.specs.Stored.{row_at, row_list, rows_of, lanes_rows, kept_slot, fresh_lane, with_slot, put_slot, is_lane, lanes_find, IsOf, AreSlots, AreAbove, AreLanes, on_lanes}
use Rattle.mq_net_rows.proofs.StoreLaws.{row_before, row_last, longer, kept_at, kept_long, kept_rows, keep_both}

-- What the code finds.
abbrev pub is_from : ℕ → Lane → Bool
is_from lane l = nat_le lane l.lane

pub lane_end : (lane k : ℕ) (ls : List Lane) → position (λ (l : Lane). nat_le lane l.lane) ls ≡ None → ls ++ fresh_lane lane k ∷ [] ≡ put_slot lane k ls
lane_end lane k [] e = refl
lane_end lane k (l ∷ ls) e = grind (arith, nat_tests, lane_end lane k ls)

pub lane_same : (lane k : ℕ) (ls : List Lane) (at : ℕ) (l : Lane) → position (λ (l : Lane). nat_le lane l.lane) ls ≡ Some at → slice_get ls at ≡ Some l → is_lane lane (slice_get ls at) ≡ true → slice_set ls at (with_slot k l) ≡ put_slot lane k ls
lane_same lane k [] at l e g same = absurd cc
lane_same lane k (x ∷ ls) zero l e g same = grind (arith, nat_tests, same)
lane_same lane k (x ∷ ls) (suc at) l e g same = grind (arith, nat_tests, same, lane_same lane k ls at l)

pub lane_new : (lane k : ℕ) (ls : List Lane) (at : ℕ) → position (λ (l : Lane). nat_le lane l.lane) ls ≡ Some at → is_lane lane (slice_get ls at) ≡ false → insert ls at (fresh_lane lane k) ≡ put_slot lane k ls
lane_new lane k [] at e other = absurd cc
lane_new lane k (x ∷ ls) zero e other = grind (arith, nat_tests, other)
lane_new lane k (x ∷ ls) (suc at) e other = grind (arith, nat_tests, other, lane_new lane k ls at)

pub lane_within : (lane : ℕ) (ls : List Lane) (at : ℕ) → position (λ (l : Lane). nat_le lane l.lane) ls ≡ Some at → at < length ls
lane_within lane [] at e = absurd cc
lane_within lane (l ∷ ls) zero e = omega arith
lane_within lane (l ∷ ls) (suc at) e = grind (arith, nat_tests, lane_within lane ls at)

-- Rows of lanes that stand.
abbrev pub AreUpTo : ℕ → List Row → Type 0
AreUpTo lane [] = Unit {0}
AreUpTo lane (row ∷ rows) = (row.place.lane ≤ lane) × AreUpTo lane rows

abbrev pub AreBeyond : ℕ → List Row → Type 0
AreBeyond lane [] = Unit {0}
AreBeyond lane (row ∷ rows) = (lane < row.place.lane) × AreBeyond lane rows

up_both : (lane : ℕ) (xs ys : List Row) → AreUpTo lane xs → AreUpTo lane ys → AreUpTo lane (xs ++ ys)
up_both lane [] ys a b = b
up_both lane (x ∷ xs) ys a b = (a.0, up_both lane xs ys a.1 b)

beyond_both : (lane : ℕ) (xs ys : List Row) → AreBeyond lane xs → AreBeyond lane ys → AreBeyond lane (xs ++ ys)
beyond_both lane [] ys a b = b
beyond_both lane (x ∷ xs) ys a b = (a.0, beyond_both lane xs ys a.1 b)

slots_up : (store : List (Option Row)) (lane top : ℕ) (ks : List ℕ) → lane ≤ top → AreSlots store lane ks → AreUpTo top (rows_of store ks)
slots_up store lane top [] le a = tt
slots_up store lane top (k ∷ ks) le a = up_both top (row_list (row_at store k)) (rows_of store ks) (one (row_at store k) a.1) (slots_up store lane top ks le a.2)
  where
    one : (o : Option Row) → IsOf lane o → AreUpTo top (row_list o)
    one None is = tt
    one (Some row) is = (omega (arith, is, le), tt)

slots_beyond : (store : List (Option Row)) (lane low : ℕ) (ks : List ℕ) → low < lane → AreSlots store lane ks → AreBeyond low (rows_of store ks)
slots_beyond store lane low [] lt a = tt
slots_beyond store lane low (k ∷ ks) lt a = beyond_both low (row_list (row_at store k)) (rows_of store ks) (one (row_at store k) a.1) (slots_beyond store lane low ks lt a.2)
  where
    one : (o : Option Row) → IsOf lane o → AreBeyond low (row_list o)
    one None is = tt
    one (Some row) is = (omega (arith, is, lt), tt)

lanes_beyond : (store : List (Option Row)) (low : ℕ) (ls : List Lane) → AreAbove low ls → AreLanes store ls → AreBeyond low (lanes_rows store ls)
lanes_beyond store low [] above a = tt
lanes_beyond store low (l ∷ ls) above a = beyond_both low (rows_of store l.slots) (lanes_rows store ls) (slots_beyond store l.lane low l.slots above.0 a.0) (lanes_beyond store low ls above.1 a.2)

above_more : (low lane : ℕ) (ls : List Lane) → low < lane → AreAbove lane ls → AreAbove low ls
above_more low lane [] lt a = tt
above_more low lane (l ∷ ls) lt a = (omega (arith, lt, a.0), above_more low lane ls lt a.1)

-- A row is put in.
insert_behind : (row : Row) (xs ys : List Row) → AreUpTo row.place.lane xs → insert_row row (xs ++ ys) ≡ xs ++ insert_row row ys
insert_behind row [] ys a = refl
insert_behind row (x ∷ xs) ys a = by (nat_le x.place.lane row.place.lane) (grind (arith, nat_tests, a.0)) (insert_behind row xs ys a.1)
  where
    by : (b : Bool) → b ≡ true → insert_row row (xs ++ ys) ≡ xs ++ insert_row row ys → cond b (x ∷ insert_row row (xs ++ ys)) (row ∷ x ∷ xs ++ ys) ≡ x ∷ xs ++ insert_row row ys
    by true h e = ap (λ (l : List Row). x ∷ l) e
    by false h e = absurd cc

insert_front : (row : Row) (ys : List Row) → AreBeyond row.place.lane ys → insert_row row ys ≡ row ∷ ys
insert_front row [] a = refl
insert_front row (y ∷ ys) a = by (nat_le y.place.lane row.place.lane) (grind (arith, nat_tests, a.0))
  where
    by : (b : Bool) → b ≡ false → cond b (y ∷ insert_row row ys) (row ∷ y ∷ ys) ≡ row ∷ y ∷ ys
    by true h = absurd cc
    by false h = refl

-- The store is longer by one.
same_rows : (store : List (Option Row)) (x : Option Row) (lane : ℕ) (ks : List ℕ) → AreSlots store lane ks → rows_of (store ++ x ∷ []) ks ≡ rows_of store ks
same_rows store x lane [] a = refl
same_rows store x lane (k ∷ ks) a =
    ap (λ (o : Option Row). row_list o ++ rows_of (store ++ x ∷ []) ks) (row_before store x k a.0)
    ∙ ap (λ (l : List Row). row_list (row_at store k) ++ l) (same_rows store x lane ks a.2)

pub same_lanes : (store : List (Option Row)) (x : Option Row) (ls : List Lane) → AreLanes store ls → lanes_rows (store ++ x ∷ []) ls ≡ lanes_rows store ls
same_lanes store x [] a = refl
same_lanes store x (l ∷ ls) a =
    ap (λ (rows : List Row). rows ++ lanes_rows (store ++ x ∷ []) ls) (same_rows store x l.lane l.slots a.0)
    ∙ ap (λ (rows : List Row). rows_of store l.slots ++ rows) (same_lanes store x ls a.2)

more_slots : (store : List (Option Row)) (x : Option Row) (lane : ℕ) (ks : List ℕ) → AreSlots store lane ks → AreSlots (store ++ x ∷ []) lane ks
more_slots store x lane [] a = tt
more_slots store x lane (k ∷ ks) a = (omega (arith, a.0, longer store x), subst (IsOf lane) (sym (row_before store x k a.0)) a.1, more_slots store x lane ks a.2)

pub more_lanes : (store : List (Option Row)) (x : Option Row) (ls : List Lane) → AreLanes store ls → AreLanes (store ++ x ∷ []) ls
more_lanes store x [] a = tt
more_lanes store x (l ∷ ls) a = (more_slots store x l.lane l.slots a.0, a.1, more_lanes store x ls a.2)

-- The new slot stands in its lane.
rows_with : (store : List (Option Row)) (k : ℕ) (ks : List ℕ) → rows_of store (ks ++ k ∷ []) ≡ rows_of store ks ++ row_list (row_at store k)
rows_with store k [] = end (row_at store k)
  where
    end : (o : Option Row) → row_list o ++ [] ≡ row_list o
    end None = refl
    end (Some row) = refl
rows_with store k (j ∷ ks) = ap (λ (l : List Row). row_list (row_at store j) ++ l) (rows_with store k ks) ∙ sym (assoc (row_list (row_at store j)) (rows_of store ks) (row_list (row_at store k)))
  where
    assoc : (xs ys zs : List Row) → (xs ++ ys) ++ zs ≡ xs ++ (ys ++ zs)
    assoc [] ys zs = refl
    assoc (x ∷ xs) ys zs = ap (λ (l : List Row). x ∷ l) (assoc xs ys zs)

assoc_rows : (xs ys zs : List Row) → (xs ++ ys) ++ zs ≡ xs ++ (ys ++ zs)
assoc_rows [] ys zs = refl
assoc_rows (x ∷ xs) ys zs = ap (λ (l : List Row). x ∷ l) (assoc_rows xs ys zs)

-- over the longer store; `lanes` stand in the one before
module _ (store : List (Option Row)) (row : Row) where
  abbrev longer_store : List (Option Row)
  longer_store = store ++ Some row ∷ []

  abbrev at_end : ℕ
  at_end = length store

  own_rows : row_list (row_at longer_store at_end) ≡ row ∷ []
  own_rows = ap row_list (row_last store (Some row))

  fresh_rows : (lane : ℕ) → rows_of longer_store (fresh_lane lane at_end).slots ≡ row ∷ []
  fresh_rows lane = ap (λ (l : List Row). l ++ []) own_rows

  pub placed : (ls : List Lane) → AreLanes store ls → lanes_rows longer_store (put_slot row.place.lane at_end ls) ≡ insert_row row (lanes_rows store ls)
  placed [] a = ap (λ (l : List Row). l ++ []) (fresh_rows row.place.lane)
  placed (l ∷ ls) a = by (nat_le row.place.lane l.lane) refl (placed ls a.2)
    where
      front : row.place.lane < l.lane → lanes_rows longer_store (fresh_lane row.place.lane at_end ∷ l ∷ ls) ≡ insert_row row (lanes_rows store (l ∷ ls))
      front lt =
          ap (λ (rows : List Row). rows ++ lanes_rows longer_store (l ∷ ls)) (fresh_rows row.place.lane)
          ∙ ap (λ (rows : List Row). row ∷ rows) (same_lanes store (Some row) (l ∷ ls) a)
          ∙ sym (insert_front row (lanes_rows store (l ∷ ls)) (lanes_beyond store row.place.lane (l ∷ ls) (lt, above_more row.place.lane l.lane ls lt a.1) a))

      here : l.lane ≡ row.place.lane → lanes_rows longer_store (with_slot at_end l ∷ ls) ≡ insert_row row (lanes_rows store (l ∷ ls))
      here same =
          ap (λ (rows : List Row). rows ++ lanes_rows longer_store ls) (rows_with longer_store at_end l.slots)
          ∙ ap (λ (rows : List Row). (rows ++ row_list (row_at longer_store at_end)) ++ lanes_rows longer_store ls) (same_rows store (Some row) l.lane l.slots a.0)
          ∙ ap (λ (rows : List Row). (rows_of store l.slots ++ rows) ++ lanes_rows longer_store ls) own_rows
          ∙ ap (λ (rows : List Row). (rows_of store l.slots ++ row ∷ []) ++ rows) (same_lanes store (Some row) ls a.2)
          ∙ assoc_rows (rows_of store l.slots) (row ∷ []) (lanes_rows store ls)
          ∙ ap (λ (rows : List Row). rows_of store l.slots ++ rows) (sym (insert_front row (lanes_rows store ls) (lanes_beyond store row.place.lane ls (subst (λ n. AreAbove n ls) same a.1) a.2)))
          ∙ sym (insert_behind row (rows_of store l.slots) (lanes_rows store ls) (slots_up store l.lane row.place.lane l.slots (omega (arith, same)) a.0))

      behind : l.lane < row.place.lane → lanes_rows longer_store (put_slot row.place.lane at_end ls) ≡ insert_row row (lanes_rows store ls) → lanes_rows longer_store (l ∷ put_slot row.place.lane at_end ls) ≡ insert_row row (lanes_rows store (l ∷ ls))
      behind lt rest =
          ap (λ (rows : List Row). rows ++ lanes_rows longer_store (put_slot row.place.lane at_end ls)) (same_rows store (Some row) l.lane l.slots a.0)
          ∙ ap (λ (rows : List Row). rows_of store l.slots ++ rows) rest
          ∙ sym (insert_behind row (rows_of store l.slots) (lanes_rows store ls) (slots_up store l.lane row.place.lane l.slots (omega (arith, lt)) a.0))

      at : (b : Bool) → (l.lane == row.place.lane) ≡ b → nat_le row.place.lane l.lane ≡ true
          → lanes_rows longer_store (cond b (with_slot at_end l ∷ ls) (fresh_lane row.place.lane at_end ∷ l ∷ ls)) ≡ insert_row row (lanes_rows store (l ∷ ls))
      at true h le = here (grind (arith, nat_tests, h))
      at false h le = front (grind (arith, nat_tests, h, le))

      by : (b : Bool) → nat_le row.place.lane l.lane ≡ b → lanes_rows longer_store (put_slot row.place.lane at_end ls) ≡ insert_row row (lanes_rows store ls)
          → lanes_rows longer_store (cond b (cond (l.lane == row.place.lane) (with_slot at_end l ∷ ls) (fresh_lane row.place.lane at_end ∷ l ∷ ls)) (l ∷ put_slot row.place.lane at_end ls)) ≡ insert_row row (lanes_rows store (l ∷ ls))
      by true h rest = at (l.lane == row.place.lane) refl h
      by false h rest = behind (grind (arith, nat_tests, h)) rest

  new_slots : (lane : ℕ) → row.place.lane ≡ lane → (ks : List ℕ) → AreSlots store lane ks → AreSlots longer_store lane (ks ++ at_end ∷ [])
  new_slots lane is [] a = (omega (arith, longer store (Some row)), subst (IsOf lane) (sym (row_last store (Some row))) is, tt)
  new_slots lane is (k ∷ ks) a = (omega (arith, a.0, longer store (Some row)), subst (IsOf lane) (sym (row_before store (Some row) k a.0)) a.1, new_slots lane is ks a.2)

  above_put : (low k : ℕ) (ls : List Lane) → low < row.place.lane → AreAbove low ls → AreAbove low (put_slot row.place.lane k ls)
  above_put low k [] lt a = (lt, tt)
  above_put low k (l ∷ ls) lt a = by (nat_le row.place.lane l.lane) (above_put low k ls lt a.1)
    where
      at : (b : Bool) → AreAbove low (cond b (with_slot k l ∷ ls) (fresh_lane row.place.lane k ∷ l ∷ ls))
      at true = a
      at false = (lt, a)

      by : (b : Bool) → AreAbove low (put_slot row.place.lane k ls) → AreAbove low (cond b (cond (l.lane == row.place.lane) (with_slot k l ∷ ls) (fresh_lane row.place.lane k ∷ l ∷ ls)) (l ∷ put_slot row.place.lane k ls))
      by true rest = at (l.lane == row.place.lane)
      by false rest = (a.0, rest)

  fresh_is : AreSlots longer_store row.place.lane (at_end ∷ [])
  fresh_is = new_slots row.place.lane refl [] tt

  pub placed_lanes : (ls : List Lane) → AreLanes store ls → AreLanes longer_store (put_slot row.place.lane at_end ls)
  placed_lanes [] a = (fresh_is, tt, tt)
  placed_lanes (l ∷ ls) a = by (nat_le row.place.lane l.lane) refl (placed_lanes ls a.2)
    where
      old : AreLanes longer_store (l ∷ ls)
      old = more_lanes store (Some row) (l ∷ ls) a

      at : (b : Bool) → (l.lane == row.place.lane) ≡ b → nat_le row.place.lane l.lane ≡ true → AreLanes longer_store (cond b (with_slot at_end l ∷ ls) (fresh_lane row.place.lane at_end ∷ l ∷ ls))
      at true h le = (new_slots l.lane (grind (arith, nat_tests, h)) l.slots a.0, a.1, old.2)
      at false h le = let lt : row.place.lane < l.lane = grind (arith, nat_tests, h, le) in (fresh_is, (lt, above_more row.place.lane l.lane ls lt a.1), old)

      by : (b : Bool) → nat_le row.place.lane l.lane ≡ b → AreLanes longer_store (put_slot row.place.lane at_end ls) → AreLanes longer_store (cond b (cond (l.lane == row.place.lane) (with_slot at_end l ∷ ls) (fresh_lane row.place.lane at_end ∷ l ∷ ls)) (l ∷ put_slot row.place.lane at_end ls))
      by true h rest = at (l.lane == row.place.lane) refl h
      by false h rest = (old.0, above_put l.lane at_end ls (grind (arith, nat_tests, h)) a.1, rest)

-- Slots that are listed.
listed_with : (k : ℕ) (ks : List ℕ) → list_any (λ j. j == k) (ks ++ k ∷ []) ≡ true
listed_with k [] = grind (arith, nat_tests)
listed_with k (j ∷ ks) = by (j == k) (listed_with k ks)
  where
    by : (b : Bool) → list_any (λ j. j == k) (ks ++ k ∷ []) ≡ true → (b || list_any (λ j. j == k) (ks ++ k ∷ [])) ≡ true
    by true e = refl
    by false e = e

listed_still : (j k : ℕ) (ks : List ℕ) → list_any (λ n. n == j) ks ≡ true → list_any (λ n. n == j) (ks ++ k ∷ []) ≡ true
listed_still j k [] e = absurd cc
listed_still j k (n ∷ ks) e = by (n == j) e (listed_still j k ks)
  where
    by : (b : Bool) → (b || list_any (λ n. n == j) ks) ≡ true → (list_any (λ n. n == j) ks ≡ true → list_any (λ n. n == j) (ks ++ k ∷ []) ≡ true) → (b || list_any (λ n. n == j) (ks ++ k ∷ [])) ≡ true
    by true e next = refl
    by false e next = next e

or_right : (a b : Bool) → b ≡ true → (a || b) ≡ true
or_right true b e = refl
or_right false b e = e

or_left : (a b : Bool) → a ≡ true → (a || b) ≡ true
or_left true b e = refl
or_left false b e = absurd cc

pub lane_lists : (lane k : ℕ) (ls : List Lane) → on_lanes k (put_slot lane k ls) ≡ true
lane_lists lane k [] = or_left (list_any (λ j. j == k) (k ∷ [])) false (listed_with k [])
lane_lists lane k (l ∷ ls) = by (nat_le lane l.lane) (lane_lists lane k ls)
  where
    at : (b : Bool) → on_lanes k (cond b (with_slot k l ∷ ls) (fresh_lane lane k ∷ l ∷ ls)) ≡ true
    at true = or_left (list_any (λ j. j == k) (l.slots ++ k ∷ [])) (on_lanes k ls) (listed_with k l.slots)
    at false = or_left (list_any (λ j. j == k) (k ∷ [])) (on_lanes k (l ∷ ls)) (listed_with k [])

    by : (b : Bool) → on_lanes k (put_slot lane k ls) ≡ true → on_lanes k (cond b (cond (l.lane == lane) (with_slot k l ∷ ls) (fresh_lane lane k ∷ l ∷ ls)) (l ∷ put_slot lane k ls)) ≡ true
    by true rest = at (l.lane == lane)
    by false rest = or_right (list_any (λ j. j == k) l.slots) (on_lanes k (put_slot lane k ls)) rest

pub lane_lists_still : (lane j k : ℕ) (ls : List Lane) → on_lanes j ls ≡ true → on_lanes j (put_slot lane k ls) ≡ true
lane_lists_still lane j k [] e = absurd cc
lane_lists_still lane j k (l ∷ ls) e = by (nat_le lane l.lane) (lane_lists_still lane j k ls)
  where
    more : (b : Bool) → (b || on_lanes j ls) ≡ true → (b ≡ true → list_any (λ n. n == j) (l.slots ++ k ∷ []) ≡ true) → (list_any (λ n. n == j) (l.slots ++ k ∷ []) || on_lanes j ls) ≡ true
    more true e next = or_left (list_any (λ n. n == j) (l.slots ++ k ∷ [])) (on_lanes j ls) (next refl)
    more false e next = or_right (list_any (λ n. n == j) (l.slots ++ k ∷ [])) (on_lanes j ls) e

    behind : (b : Bool) → (b || on_lanes j ls) ≡ true → (on_lanes j ls ≡ true → on_lanes j (put_slot lane k ls) ≡ true) → (b || on_lanes j (put_slot lane k ls)) ≡ true
    behind true e next = refl
    behind false e next = next e

    at : (b : Bool) → on_lanes j (cond b (with_slot k l ∷ ls) (fresh_lane lane k ∷ l ∷ ls)) ≡ true
    at true = more (list_any (λ n. n == j) l.slots) e (listed_still j k l.slots)
    at false = or_right (list_any (λ n. n == j) (k ∷ [])) (on_lanes j (l ∷ ls)) e

    by : (b : Bool) → (on_lanes j ls ≡ true → on_lanes j (put_slot lane k ls) ≡ true) → on_lanes j (cond b (cond (l.lane == lane) (with_slot k l ∷ ls) (fresh_lane lane k ∷ l ∷ ls)) (l ∷ put_slot lane k ls)) ≡ true
    by true rest = at (l.lane == lane)
    by false rest = behind (list_any (λ n. n == j) l.slots) e rest

-- Rows that stay.
module _ (stays : Row → Bool) where
  pub kept_lanes : (store : List (Option Row)) (ls : List Lane) → lanes_rows (map (kept_slot stays) store) ls ≡ keep stays (lanes_rows store ls)
  kept_lanes store [] = refl
  kept_lanes store (l ∷ ls) =
      ap (λ (rows : List Row). rows ++ lanes_rows (map (kept_slot stays) store) ls) (kept_rows stays store l.slots)
      ∙ ap (λ (rows : List Row). keep stays (rows_of store l.slots) ++ rows) (kept_lanes store ls)
      ∙ sym (keep_both stays (rows_of store l.slots) (lanes_rows store ls))

  kept_of : (lane : ℕ) (o : Option Row) → IsOf lane o → IsOf lane (kept_slot stays o)
  kept_of lane None is = tt
  kept_of lane (Some row) is = by (stays row)
    where
      by : (b : Bool) → IsOf lane (cond b (Some row) None)
      by true = is
      by false = tt

  kept_slots : (store : List (Option Row)) (lane : ℕ) (ks : List ℕ) → AreSlots store lane ks → AreSlots (map (kept_slot stays) store) lane ks
  kept_slots store lane [] a = tt
  kept_slots store lane (k ∷ ks) a = (omega (arith, a.0, kept_long stays store), subst (IsOf lane) (sym (kept_at stays store k)) (kept_of lane (row_at store k) a.1), kept_slots store lane ks a.2)

  pub kept_lanes_are : (store : List (Option Row)) (ls : List Lane) → AreLanes store ls → AreLanes (map (kept_slot stays) store) ls
  kept_lanes_are store [] a = tt
  kept_lanes_are store (l ∷ ls) a = (kept_slots store l.lane l.slots a.0, a.1, kept_lanes_are store ls a.2)

-- The first row of an ident on a queue.
pub lanes_found : (ident : Ident) (store : List (Option Row)) (ls : List Lane) → lanes_find ident store ls ≡ find (has_ident ident) (lanes_rows store ls)
lanes_found ident store [] = refl
lanes_found ident store (l ∷ ls) = by (find (has_ident ident) (rows_of store l.slots)) refl (lanes_found ident store ls)
  where
    first : (xs ys : List Row) (row : Row) → find (has_ident ident) xs ≡ Some row → find (has_ident ident) (xs ++ ys) ≡ Some row
    first [] ys row e = absurd cc
    first (x ∷ xs) ys row e = at (has_ident ident x) e (first xs ys row)
      where
        at : (b : Bool) → cond b (Some x) (find (has_ident ident) xs) ≡ Some row → (find (has_ident ident) xs ≡ Some row → find (has_ident ident) (xs ++ ys) ≡ Some row) → cond b (Some x) (find (has_ident ident) (xs ++ ys)) ≡ Some row
        at true e next = e
        at false e next = next e

    later : (xs ys : List Row) → find (has_ident ident) xs ≡ None → find (has_ident ident) (xs ++ ys) ≡ find (has_ident ident) ys
    later [] ys e = refl
    later (x ∷ xs) ys e = at (has_ident ident x) e (later xs ys)
      where
        at : (b : Bool) → cond b (Some x) (find (has_ident ident) xs) ≡ None → (find (has_ident ident) xs ≡ None → find (has_ident ident) (xs ++ ys) ≡ find (has_ident ident) ys) → cond b (Some x) (find (has_ident ident) (xs ++ ys)) ≡ find (has_ident ident) ys
        at true e next = absurd cc
        at false e next = next e

    by : (o : Option Row) → find (has_ident ident) (rows_of store l.slots) ≡ o → lanes_find ident store ls ≡ find (has_ident ident) (lanes_rows store ls)
        → (elim o as (λ r. Option Row) [ None ↦ lanes_find ident store ls | Some row ↦ Some row ]) ≡ find (has_ident ident) (rows_of store l.slots ++ lanes_rows store ls)
    by None h rest = rest ∙ sym (later (rows_of store l.slots) (lanes_rows store ls) h)
    by (Some row) h rest = sym (first (rows_of store l.slots) (lanes_rows store ls) row h)

-- What the code puts where the look-up tells.
pub put_at_end : (lane k : ℕ) (ls slice : List Lane) (o : Option ℕ) (fresh : Lane) (new : List Lane) → slice ≡ ls → o ≡ position (λ (l : Lane). nat_le lane l.lane) slice → o ≡ None → fresh ≡ fresh_lane lane k → new ≡ ls ++ fresh ∷ [] → new ≡ put_slot lane k ls
put_at_end lane k ls slice o fresh new same is none f e =
    e ∙ ap (λ (l : Lane). ls ++ l ∷ []) f ∙ lane_end lane k ls (ap (position (λ (l : Lane). nat_le lane l.lane)) (sym same) ∙ sym is ∙ none)

pub put_before : (lane k : ℕ) (ls slice there : List Lane) (o : Option ℕ) (at : ℕ) (b : Bool) (fresh : Lane) (new : List Lane) → slice ≡ ls → o ≡ position (λ (l : Lane). nat_le lane l.lane) slice → o ≡ Some at → there ≡ ls → b ≡ is_lane lane (slice_get there at) → b ≡ false
    → fresh ≡ fresh_lane lane k → new ≡ insert ls at fresh → new ≡ put_slot lane k ls
put_before lane k ls slice there o at b fresh new same is some also its other f e =
    e ∙ ap (insert ls at) f ∙ lane_new lane k ls at (ap (position (λ (l : Lane). nat_le lane l.lane)) (sym same) ∙ sym is ∙ some) (ap (λ (l : List Lane). is_lane lane (slice_get l at)) (sym also) ∙ sym its ∙ other)
