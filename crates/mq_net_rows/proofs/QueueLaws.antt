-- Queues over one store: a row more on one of them, rows that stay, and where the row of an ident stands.
use Rattle.std.proofs.Common.{ℕ, zero, suc, ◌≡◌, ◌+◌, ◌<◌, ◌≤◌, Bool, true, false, cond, List, [], ◌∷◌, ◌++◌, Option, Some, None, refl, ap, sym, subst, ◌∙◌, arith, length, drop}
use Rattle.std.specs.Prelude.{nat_le, map, find, not, reverse, position, slice_get, slice_set, is_some, Result, Ok, Err, OnOk, ◌||◌, ◌==◌, if◌then◌else◌}
use Rattle.std.specs.List.{list_any}
use Rattle.std.specs.Str.{bytes_eq}
use Rattle.std.proofs.lemmas.List.{reverse-append}
use Rattle.std.proofs.lemmas.Bool.Decides.{nat_tests}
use Rattle.mq_message.specs.declared.message.Ident.{Ident}
use Rattle.mq_queue.specs.declared.row.Row.{Row}
use Rattle.mq_queue.specs.Rows.{insert_row, keep, same_ident, has_ident}
use Rattle.mq_queue.proofs.Edits.{same_is, same_turned, same_self}
use Rattle.mq_calls.specs.declared.image.Shelf.{Shelf}
use Rattle.mq_message.specs.declared.message.Message.{Message}
use Rattle.mq_calls.specs.Changes.{new_row}
use Rattle.mq_spec_network.specs.Ledger.{leave_queues, row_in, change_at, put_in, is_one_of}
use Rattle.mq_net_rows.specs.declared.lanes.Lane.{Lane}
use Rattle.mq_net_rows.specs.declared.lanes.Named.{Named}
use Rattle.mq_net_rows.specs.Stored.{row_at, row_list, rows_of, lanes_rows, queues_find, leave_some, shelf_of, shelves_of, kept_slot, kept_at, put_slot, seat_on, AreQueues, AreNoted, on_lanes, on_queues, AreListed, IsStore, its_row, put_row, put_rows, AreInLanes, AreFrom, AreSorted, leave_each}
use Rattle.mq_net_rows.proofs.StoreLaws.{only_one, none_one, row_either, row_was, row_stays, set_last}
use Rattle.mq_net_rows.proofs.LaneLaws.{AreUpTo, same_lanes, more_lanes, placed, placed_lanes, lane_lists, lane_lists_still, lanes_found, kept_lanes, kept_lanes_are}

-- Rows that stay.
module _ (stays : Row → Bool) where
  pub kept_view : (store : List (Option Row)) (qs : List Named) → shelves_of (map (kept_slot stays) store) qs ≡ leave_queues stays (shelves_of store qs)
  kept_view store [] = refl
  kept_view store (q ∷ qs) =
      ap (λ (rows : List Row). record { name = q.name; rows = rows } ∷ shelves_of (map (kept_slot stays) store) qs) (kept_lanes stays store q.lanes)
      ∙ ap (λ (ss : List Shelf). record { name = q.name; rows = keep stays (lanes_rows store q.lanes) } ∷ ss) (kept_view store qs)

  kept_queues : (store : List (Option Row)) (qs : List Named) → AreQueues store qs → AreQueues (map (kept_slot stays) store) qs
  kept_queues store [] a = tt
  kept_queues store (q ∷ qs) a = (kept_lanes_are stays store q.lanes a.0, kept_queues store qs a.1)

  pub kept_store : (store : List (Option Row)) (qs : List Named) (home : Ident → Option ℕ) (doubled : Bool) → IsStore store qs home doubled → IsStore (map (kept_slot stays) store) qs home doubled
  kept_store store qs home doubled s = (kept_queues store qs s.0, λ once k row e. s.1 once k row (row_was stays store k row e), λ k row e. s.2 k row (row_was stays store k row e))

-- notes of idents whose rows have gone may go
pub forgotten_store : (store : List (Option Row)) (qs : List Named) (home now : Ident → Option ℕ) (doubled : Bool) (ident : Ident)
    → ((other : Ident) → now other ≡ (if same_ident ident other then None else home other))
    → IsStore (map (kept_slot (λ (row : Row). not (has_ident ident row))) store) qs home doubled → IsStore (map (kept_slot (λ (row : Row). not (has_ident ident row))) store) qs now doubled
forgotten_store store qs home now doubled ident same s = (s.0, λ once k row e. noted k row (s.1 once k row e) (row_stays (λ (row : Row). not (has_ident ident row)) store k row e), s.2)
  where
    other : (b : Bool) → not b ≡ true → b ≡ false
    other true e = absurd cc
    other false e = refl

    noted : (k : ℕ) (row : Row) → home row.message.ident ≡ Some k → not (has_ident ident row) ≡ true → now row.message.ident ≡ Some k
    noted k row h n = same row.message.ident ∙ ap (λ (b : Bool). cond b None (home row.message.ident)) (same_turned ident row.message.ident ∙ other (has_ident ident row) n) ∙ h

-- A row more.
module _ (store : List (Option Row)) (row : Row) where
  same_view : (qs : List Named) → AreQueues store qs → shelves_of (store ++ Some row ∷ []) qs ≡ shelves_of store qs
  same_view [] a = refl
  same_view (q ∷ qs) a =
      ap (λ (rows : List Row). record { name = q.name; rows = rows } ∷ shelves_of (store ++ Some row ∷ []) qs) (same_lanes store (Some row) q.lanes a.0)
      ∙ ap (λ (ss : List Shelf). shelf_of store q ∷ ss) (same_view qs a.1)

  pub put_view : (qs : List Named) (at : ℕ) → AreQueues store qs → shelves_of (store ++ Some row ∷ []) (change_at at (seat_on row.place.lane (length store)) qs) ≡ change_at at (put_row row) (shelves_of store qs)
  put_view [] zero a = refl
  put_view [] (suc at) a = refl
  put_view (q ∷ qs) zero a =
      ap (λ (rows : List Row). record { name = q.name; rows = rows } ∷ shelves_of (store ++ Some row ∷ []) qs) (placed store row q.lanes a.0)
      ∙ ap (λ (ss : List Shelf). put_row row (shelf_of store q) ∷ ss) (same_view qs a.1)
  put_view (q ∷ qs) (suc at) a =
      ap (λ (rows : List Row). record { name = q.name; rows = rows } ∷ shelves_of (store ++ Some row ∷ []) (change_at at (seat_on row.place.lane (length store)) qs)) (same_lanes store (Some row) q.lanes a.0)
      ∙ ap (λ (ss : List Shelf). shelf_of store q ∷ ss) (put_view qs at a.1)

  more_queues : (qs : List Named) → AreQueues store qs → AreQueues (store ++ Some row ∷ []) qs
  more_queues [] a = tt
  more_queues (q ∷ qs) a = (more_lanes store (Some row) q.lanes a.0, more_queues qs a.1)

  put_queues : (qs : List Named) (at : ℕ) → AreQueues store qs → AreQueues (store ++ Some row ∷ []) (change_at at (seat_on row.place.lane (length store)) qs)
  put_queues [] zero a = tt
  put_queues [] (suc at) a = tt
  put_queues (q ∷ qs) zero a = (placed_lanes store row q.lanes a.0, more_queues qs a.1)
  put_queues (q ∷ qs) (suc at) a = (more_lanes store (Some row) q.lanes a.0, put_queues qs at a.1)

  or_left : (a b : Bool) → a ≡ true → (a || b) ≡ true
  or_left true b e = refl
  or_left false b e = absurd cc

  listed_there : (lane k : ℕ) (qs : List Named) (at : ℕ) → at < length qs → on_queues k (change_at at (seat_on lane k) qs) ≡ true
  listed_there lane k [] at lt = absurd (omega (arith, lt))
  listed_there lane k (q ∷ qs) zero lt = or_left (on_lanes k (put_slot lane k q.lanes)) (on_queues k qs) (lane_lists lane k q.lanes)
  listed_there lane k (q ∷ qs) (suc at) lt = by (on_lanes k q.lanes) (listed_there lane k qs at (omega (arith, lt)))
    where
      by : (b : Bool) → on_queues k (change_at at (seat_on lane k) qs) ≡ true → (b || on_queues k (change_at at (seat_on lane k) qs)) ≡ true
      by true e = refl
      by false e = e

  listed_still : (lane j k : ℕ) (qs : List Named) (at : ℕ) → on_queues j qs ≡ true → on_queues j (change_at at (seat_on lane k) qs) ≡ true
  listed_still lane j k [] at e = absurd cc
  listed_still lane j k (q ∷ qs) zero e = by (on_lanes j q.lanes) e (lane_lists_still lane j k q.lanes)
    where
      by : (b : Bool) → (b || on_queues j qs) ≡ true → (b ≡ true → on_lanes j (put_slot lane k q.lanes) ≡ true) → (on_lanes j (put_slot lane k q.lanes) || on_queues j qs) ≡ true
      by true e next = or_left (on_lanes j (put_slot lane k q.lanes)) (on_queues j qs) (next refl)
      by false e next = right (on_lanes j (put_slot lane k q.lanes))
        where
          right : (c : Bool) → (c || on_queues j qs) ≡ true
          right true = refl
          right false = e
  listed_still lane j k (q ∷ qs) (suc at) e = by (on_lanes j q.lanes) e (listed_still lane j k qs at)
    where
      by : (b : Bool) → (b || on_queues j qs) ≡ true → (on_queues j qs ≡ true → on_queues j (change_at at (seat_on lane k) qs) ≡ true) → (b || on_queues j (change_at at (seat_on lane k) qs)) ≡ true
      by true e next = refl
      by false e next = next e

  some_row : (a b : Row) → Some a ≡ Some b → a ≡ b
  some_row a b e = grind (arith, e)

  -- noted where no row of its ident stood, unless idents are doubled
  pub put_store : (qs : List Named) (at : ℕ) (home now : Ident → Option ℕ) (doubled twice : Bool) → at < length qs
      → ((other : Ident) → now other ≡ (if same_ident row.message.ident other then Some (length store) else home other))
      → (twice ≡ false → doubled ≡ false)
      → (twice ≡ false → (k : ℕ) (x : Row) → row_at store k ≡ Some x → has_ident row.message.ident x ≡ false)
      → IsStore store qs home doubled → IsStore (store ++ Some row ∷ []) (change_at at (seat_on row.place.lane (length store)) qs) now twice
  put_store qs at home now doubled twice lt notes less apart s = (put_queues qs at s.0, noted, listed)
    where
      noted : twice ≡ false → AreNoted now (store ++ Some row ∷ [])
      noted once k x e = row_either store (Some row) k x e
          (λ lt e. notes x.message.ident ∙ ap (λ (b : Bool). cond b (Some (length store)) (home x.message.ident)) (same_turned row.message.ident x.message.ident ∙ apart once k x e) ∙ s.1 (less once) k x e)
          (λ last e. notes x.message.ident
          ∙ ap (λ (b : Bool). cond b (Some (length store)) (home x.message.ident)) (ap (λ (r : Row). same_ident row.message.ident r.message.ident) (sym (some_row row x e)) ∙ same_self row.message.ident)
          ∙ ap (λ (n : ℕ). Some n) (sym last))

      listed : AreListed (store ++ Some row ∷ []) (change_at at (seat_on row.place.lane (length store)) qs)
      listed k x e = row_either store (Some row) k x e
          (λ lt e. listed_still row.place.lane k (length store) qs at (s.2 k x e))
          (λ last e. subst (λ n. on_queues n (change_at at (seat_on row.place.lane (length store)) qs) ≡ true) (sym last) (listed_there row.place.lane (length store) qs at lt))

-- An empty slot more, listed or not: nothing is seen of it.
module _ (store : List (Option Row)) where
  empty_view : (qs : List Named) → AreQueues store qs → shelves_of (store ++ None ∷ []) qs ≡ shelves_of store qs
  empty_view [] a = refl
  empty_view (q ∷ qs) a =
      ap (λ (rows : List Row). record { name = q.name; rows = rows } ∷ shelves_of (store ++ None ∷ []) qs) (same_lanes store None q.lanes a.0)
      ∙ ap (λ (ss : List Shelf). shelf_of store q ∷ ss) (empty_view qs a.1)

  empty_queues : (qs : List Named) → AreQueues store qs → AreQueues (store ++ None ∷ []) qs
  empty_queues [] a = tt
  empty_queues (q ∷ qs) a = (more_lanes store None q.lanes a.0, empty_queues qs a.1)

  no_row : (k : ℕ) (row : Row) → row_at (store ++ None ∷ []) k ≡ Some row → row_at store k ≡ Some row
  no_row k row e = row_either store None k row e (λ lt e. e) (λ last e. absurd cc)

  pub empty_store : (qs : List Named) (home : Ident → Option ℕ) (doubled : Bool) → IsStore store qs home doubled → IsStore (store ++ None ∷ []) qs home doubled
  empty_store qs home doubled s = (empty_queues qs s.0, λ once k row e. s.1 once k row (no_row k row e), λ k row e. s.2 k row (no_row k row e))

  pub empty_same : (qs : List Named) → AreQueues store qs → shelves_of (store ++ None ∷ []) qs ≡ shelves_of store qs
  empty_same = empty_view

-- A queue more, with no row.
pub fresh_view : (store : List (Option Row)) (qs : List Named) (name : List ℕ) → shelves_of store (qs ++ record { name = name; lanes = [] } ∷ []) ≡ shelves_of store qs ++ record { name = name; rows = [] } ∷ []
fresh_view store [] name = refl
fresh_view store (q ∷ qs) name = ap (λ (ss : List Shelf). shelf_of store q ∷ ss) (fresh_view store qs name)

pub fresh_store : (store : List (Option Row)) (qs : List Named) (home : Ident → Option ℕ) (doubled : Bool) (name : List ℕ) → IsStore store qs home doubled → IsStore store (qs ++ record { name = name; lanes = [] } ∷ []) home doubled
fresh_store store qs home doubled name s = (queues qs s.0, s.1, λ k row e. listed k qs (s.2 k row e))
  where
    queues : (qs : List Named) → AreQueues store qs → AreQueues store (qs ++ record { name = name; lanes = [] } ∷ [])
    queues [] a = (tt, tt)
    queues (q ∷ qs) a = (a.0, queues qs a.1)

    listed : (k : ℕ) (qs : List Named) → on_queues k qs ≡ true → on_queues k (qs ++ record { name = name; lanes = [] } ∷ []) ≡ true
    listed k [] e = absurd cc
    listed k (q ∷ qs) e = by (on_lanes k q.lanes) e (listed k qs)
      where
        by : (b : Bool) → (b || on_queues k qs) ≡ true → (on_queues k qs ≡ true → on_queues k (qs ++ record { name = name; lanes = [] } ∷ []) ≡ true) → (b || on_queues k (qs ++ record { name = name; lanes = [] } ∷ [])) ≡ true
        by true e next = refl
        by false e next = next e

-- Where the row of an ident stands: what is found on a queue is in a slot.
module _ (store : List (Option Row)) (ident : Ident) where
  pub record Stands (row : Row) : Type 0 where
    pub slot : ℕ
    pub there : row_at store slot ≡ Some row
    pub its : has_ident ident row ≡ true

  found_row : (k : ℕ) (o : Option Row) (rest : List Row) (row : Row) → row_at store k ≡ o → find (has_ident ident) (row_list o ++ rest) ≡ Some row → (find (has_ident ident) rest ≡ Some row → Stands row) → Stands row
  found_row k None rest row is e next = next e
  found_row k (Some x) rest row is e next = by (has_ident ident x) refl e
    where
      some_is : (a b : Row) → Some a ≡ Some b → a ≡ b
      some_is a b e = grind (arith, e)

      by : (b : Bool) → has_ident ident x ≡ b → cond b (Some x) (find (has_ident ident) rest) ≡ Some row → Stands row
      by true h e = let same = some_is x row e in record { slot = k; there = is ∙ e; its = ap (has_ident ident) (sym same) ∙ h }
      by false h e = next e

  found_rows : (ks : List ℕ) (rest : List Row) (row : Row) → find (has_ident ident) (rows_of store ks ++ rest) ≡ Some row → (find (has_ident ident) rest ≡ Some row → Stands row) → Stands row
  found_rows [] rest row e next = next e
  found_rows (k ∷ ks) rest row e next =
      found_row k (row_at store k) (rows_of store ks ++ rest) row refl (ap (find (has_ident ident)) (sym (assoc (row_list (row_at store k)) (rows_of store ks) rest)) ∙ e) (λ e. found_rows ks rest row e next)
    where
      assoc : (xs ys zs : List Row) → (xs ++ ys) ++ zs ≡ xs ++ (ys ++ zs)
      assoc [] ys zs = refl
      assoc (x ∷ xs) ys zs = ap (λ (l : List Row). x ∷ l) (assoc xs ys zs)

  found_lanes : (ls : List Lane) (row : Row) → find (has_ident ident) (lanes_rows store ls) ≡ Some row → Stands row
  found_lanes [] row e = absurd cc
  found_lanes (l ∷ ls) row e = found_rows l.slots (lanes_rows store ls) row e (found_lanes ls row)

  pub found_slot : (qs : List Named) (row : Row) → row_in ident (shelves_of store qs) ≡ Some row → Stands row
  found_slot [] row e = absurd cc
  found_slot (q ∷ qs) row e = by (find (has_ident ident) (lanes_rows store q.lanes)) refl e (found_slot qs row)
    where
      by : (o : Option Row) → find (has_ident ident) (lanes_rows store q.lanes) ≡ o → (elim o as (λ r. Option Row) [ None ↦ row_in ident (shelves_of store qs) | Some row ↦ Some row ]) ≡ Some row
          → (row_in ident (shelves_of store qs) ≡ Some row → Stands row) → Stands row
      by None h e next = next e
      by (Some x) h e next = found_lanes q.lanes row (h ∙ e)

  -- and a row in a slot that is listed is found
  none_rows : (k : ℕ) (x : Row) → row_at store k ≡ Some x → has_ident ident x ≡ true → (ks : List ℕ) (rest : List Row) → list_any (λ j. j == k) ks ≡ true → find (has_ident ident) (rows_of store ks ++ rest) ≡ None → ⊥
  none_rows k x is its [] rest e none = absurd cc
  none_rows k x is its (j ∷ ks) rest e none = by (j == k) refl e (row_at store j) refl (none_rows k x is its ks rest) (ap (find (has_ident ident)) (sym (assoc (row_list (row_at store j)) (rows_of store ks) rest)) ∙ none)
    where
      assoc : (xs ys zs : List Row) → (xs ++ ys) ++ zs ≡ xs ++ (ys ++ zs)
      assoc [] ys zs = refl
      assoc (x ∷ xs) ys zs = ap (λ (l : List Row). x ∷ l) (assoc xs ys zs)

      first : (y : Row) → has_ident ident y ≡ true → find (has_ident ident) (y ∷ rows_of store ks ++ rest) ≡ None → ⊥
      first y h none = absurd (let t : Some y ≡ None = sym (ap (λ (b : Bool). cond b (Some y) (find (has_ident ident) (rows_of store ks ++ rest))) h) ∙ none in cc)

      past : (o : Option Row) → find (has_ident ident) (row_list o ++ (rows_of store ks ++ rest)) ≡ None → find (has_ident ident) (rows_of store ks ++ rest) ≡ None
      past None none = none
      past (Some y) none = by (has_ident ident y) none
        where
          by : (b : Bool) → cond b (Some y) (find (has_ident ident) (rows_of store ks ++ rest)) ≡ None → find (has_ident ident) (rows_of store ks ++ rest) ≡ None
          by true none = absurd cc
          by false none = none

      here : (o : Option Row) → row_at store j ≡ o → j ≡ k → find (has_ident ident) (row_list o ++ (rows_of store ks ++ rest)) ≡ None → ⊥
      here o same eq none = first x its (ap (λ (p : Option Row). find (has_ident ident) (row_list p ++ (rows_of store ks ++ rest))) (sym (sym same ∙ ap (row_at store) eq ∙ is)) ∙ none)

      by : (b : Bool) → (j == k) ≡ b → (b || list_any (λ n. n == k) ks) ≡ true → (o : Option Row) → row_at store j ≡ o
          → (list_any (λ n. n == k) ks ≡ true → find (has_ident ident) (rows_of store ks ++ rest) ≡ None → ⊥) → find (has_ident ident) (row_list o ++ (rows_of store ks ++ rest)) ≡ None → ⊥
      by true h e o same next none = here o same (grind (arith, nat_tests, h)) none
      by false h e o same next none = next e (past o none)

  past_rows : (ks : List ℕ) (rest : List Row) → find (has_ident ident) (rows_of store ks ++ rest) ≡ None → find (has_ident ident) rest ≡ None
  past_rows [] rest none = none
  past_rows (k ∷ ks) rest none = past_rows ks rest (one (row_at store k) (ap (find (has_ident ident)) (sym (assoc (row_list (row_at store k)) (rows_of store ks) rest)) ∙ none))
    where
      assoc : (xs ys zs : List Row) → (xs ++ ys) ++ zs ≡ xs ++ (ys ++ zs)
      assoc [] ys zs = refl
      assoc (x ∷ xs) ys zs = ap (λ (l : List Row). x ∷ l) (assoc xs ys zs)

      one : (o : Option Row) → find (has_ident ident) (row_list o ++ (rows_of store ks ++ rest)) ≡ None → find (has_ident ident) (rows_of store ks ++ rest) ≡ None
      one None none = none
      one (Some y) none = by (has_ident ident y) none
        where
          by : (b : Bool) → cond b (Some y) (find (has_ident ident) (rows_of store ks ++ rest)) ≡ None → find (has_ident ident) (rows_of store ks ++ rest) ≡ None
          by true none = absurd cc
          by false none = none

  none_lanes : (k : ℕ) (x : Row) → row_at store k ≡ Some x → has_ident ident x ≡ true → (ls : List Lane) → on_lanes k ls ≡ true → find (has_ident ident) (lanes_rows store ls) ≡ None → ⊥
  none_lanes k x is its [] e none = absurd cc
  none_lanes k x is its (l ∷ ls) e none = by (list_any (λ j. j == k) l.slots) refl e (none_lanes k x is its ls)
    where
      by : (b : Bool) → list_any (λ j. j == k) l.slots ≡ b → (b || on_lanes k ls) ≡ true → (on_lanes k ls ≡ true → find (has_ident ident) (lanes_rows store ls) ≡ None → ⊥) → ⊥
      by true h e next = none_rows k x is its l.slots (lanes_rows store ls) h none
      by false h e next = next e (past_rows l.slots (lanes_rows store ls) none)

  pub none_listed : (k : ℕ) (x : Row) → row_at store k ≡ Some x → has_ident ident x ≡ true → (qs : List Named) → on_queues k qs ≡ true → row_in ident (shelves_of store qs) ≡ None → ⊥
  none_listed k x is its [] e none = absurd cc
  none_listed k x is its (q ∷ qs) e none = by (on_lanes k q.lanes) refl e (find (has_ident ident) (lanes_rows store q.lanes)) refl none (none_listed k x is its qs)
    where
      by : (b : Bool) → on_lanes k q.lanes ≡ b → (b || on_queues k qs) ≡ true → (o : Option Row) → find (has_ident ident) (lanes_rows store q.lanes) ≡ o
          → (elim o as (λ r. Option Row) [ None ↦ row_in ident (shelves_of store qs) | Some row ↦ Some row ]) ≡ None → (on_queues k qs ≡ true → row_in ident (shelves_of store qs) ≡ None → ⊥) → ⊥
      by true h e None f none next = none_lanes k x is its q.lanes h f
      by false h e None f none next = next e none
      by b h e (Some y) f none next = absurd cc

-- The slot that was noted tells all.
module _ (store : List (Option Row)) (qs : List Named) (home : Ident → Option ℕ) (ident : Ident) (s : IsStore store qs home false) where
  pub no_note : home ident ≡ None → row_in ident (shelves_of store qs) ≡ None
  no_note e = by (row_in ident (shelves_of store qs)) refl
    where
      by : (o : Option Row) → row_in ident (shelves_of store qs) ≡ o → o ≡ None
      by None h = refl
      by (Some row) h = absurd (let at = found_slot store ident qs row h in let t : None ≡ Some at.slot = sym e ∙ ap home (sym (same_is row.message.ident ident at.its)) ∙ s.1 refl at.slot row at.there in cc)

  some_nat : (a b : ℕ) → Some a ≡ Some b → a ≡ b
  some_nat a b e = grind (arith, e)

  -- the slot of each row of the ident
  pub its_slot : (k j : ℕ) (row : Row) → home ident ≡ Some k → row_at store j ≡ Some row → has_ident ident row ≡ true → j ≡ k
  its_slot k j row e there its = some_nat j k (sym (s.1 refl j row there) ∙ ap home (same_is row.message.ident ident its) ∙ e)

  pub no_slot : (j : ℕ) (row : Row) → home ident ≡ None → row_at store j ≡ Some row → has_ident ident row ≡ true → ⊥
  no_slot j row e there its = absurd (let t : None ≡ Some j = sym e ∙ ap home (sym (same_is row.message.ident ident its)) ∙ s.1 refl j row there in cc)

  empty_slot : (k : ℕ) → home ident ≡ Some k → ((row : Row) → row_at store k ≡ Some row → has_ident ident row ≡ true → ⊥) → row_in ident (shelves_of store qs) ≡ None
  empty_slot k e n = by (row_in ident (shelves_of store qs)) refl
    where
      by : (o : Option Row) → row_in ident (shelves_of store qs) ≡ o → o ≡ None
      by None h = refl
      by (Some row) h = absurd (let at = found_slot store ident qs row h in n row (ap (row_at store) (sym (its_slot k at.slot row e at.there at.its)) ∙ at.there) at.its)

  -- what the noted slot holds, if it is of the ident
  pub noted_row : (k : ℕ) → home ident ≡ Some k → row_in ident (shelves_of store qs) ≡ its_row ident (row_at store k)
  noted_row k e = by (row_at store k) refl
    where
      some_is : (a b : Row) → Some a ≡ Some b → a ≡ b
      some_is a b e = grind (arith, e)

      found : (x : Row) → row_at store k ≡ Some x → has_ident ident x ≡ true → row_in ident (shelves_of store qs) ≡ Some x
      found x is its = at (row_in ident (shelves_of store qs)) refl
        where
          at : (o : Option Row) → row_in ident (shelves_of store qs) ≡ o → o ≡ Some x
          at None h = absurd (none_listed store ident k x is its qs (s.2 k x is) h)
          at (Some row) h = let st = found_slot store ident qs row h in
              ap (λ (r : Row). Some r) (some_is row x (sym st.there ∙ ap (row_at store) (its_slot k st.slot row e st.there st.its) ∙ is))

      at_row : (x : Row) → row_at store k ≡ Some x → (b : Bool) → has_ident ident x ≡ b → row_in ident (shelves_of store qs) ≡ cond b (Some x) None
      at_row x is true its = found x is its
      at_row x is false its = empty_slot k e (λ row there own. absurd (let t : true ≡ false = sym own ∙ ap (has_ident ident) (some_is row x (sym there ∙ is)) ∙ its in cc))

      by : (o : Option Row) → row_at store k ≡ o → row_in ident (shelves_of store qs) ≡ its_row ident o
      by None is = empty_slot k e (λ row there own. absurd (let t : None ≡ Some row = sym is ∙ there in cc))
      by (Some x) is = at_row x is (has_ident ident x) refl

  -- and to look at it alone takes all rows of the ident away
  pub only_noted : (k : ℕ) → home ident ≡ Some k → (j : ℕ) (row : Row) → row_at store j ≡ Some row → not (has_ident ident row) ≡ false → j ≡ k
  only_noted k e j row there n = its_slot k j row e there (yes (has_ident ident row) n)
    where
      yes : (b : Bool) → not b ≡ false → b ≡ true
      yes true e = refl
      yes false e = absurd cc

  pub none_noted : home ident ≡ None → (j : ℕ) (row : Row) → row_at store j ≡ Some row → not (has_ident ident row) ≡ false → ⊥
  none_noted e j row there n = no_slot j row e there (yes (has_ident ident row) n)
    where
      yes : (b : Bool) → not b ≡ false → b ≡ true
      yes true e = refl
      yes false e = absurd cc

-- No row of an ident: none in any slot.
pub apart : (store : List (Option Row)) (qs : List Named) (home : Ident → Option ℕ) (doubled : Bool) (ident : Ident) → IsStore store qs home doubled → is_some (row_in ident (shelves_of store qs)) ≡ false
    → (k : ℕ) (x : Row) → row_at store k ≡ Some x → has_ident ident x ≡ false
apart store qs home doubled ident s e k x there = by (has_ident ident x) refl (row_in ident (shelves_of store qs)) refl e
  where
    by : (b : Bool) → has_ident ident x ≡ b → (o : Option Row) → row_in ident (shelves_of store qs) ≡ o → is_some o ≡ false → b ≡ false
    by true its None h e = absurd (none_listed store ident k x there its qs (s.2 k x there) h)
    by true its (Some row) h e = absurd cc
    by false its o h e = refl

-- Queues by name.
pub shelf_at : (store : List (Option Row)) (name : List ℕ) (qs : List Named) → position (λ (q : Named). bytes_eq name q.name) qs ≡ position (λ (s : Shelf). bytes_eq name s.name) (shelves_of store qs)
shelf_at store name [] = refl
shelf_at store name (q ∷ qs) = grind (arith, nat_tests, shelf_at store name qs)

pub put_last : (name : List ℕ) (lane : ℕ) (m : Message) (ss : List Shelf) → position (λ (s : Shelf). bytes_eq name s.name) ss ≡ None
    → change_at (length ss) (put_row (new_row lane 0 m)) (ss ++ record { name = name; rows = [] } ∷ []) ≡ put_in name lane m ss
put_last name lane m [] e = refl
put_last name lane m (s ∷ ss) e = grind (arith, nat_tests, put_last name lane m ss)

pub put_there : (name : List ℕ) (lane : ℕ) (m : Message) (ss : List Shelf) (at : ℕ) → position (λ (s : Shelf). bytes_eq name s.name) ss ≡ Some at → change_at at (put_row (new_row lane 0 m)) ss ≡ put_in name lane m ss
put_there name lane m [] at e = absurd cc
put_there name lane m (s ∷ ss) zero e = grind (arith, nat_tests)
put_there name lane m (s ∷ ss) (suc at) e = grind (arith, nat_tests, put_there name lane m ss at)

pub shelf_within : (name : List ℕ) (qs : List Named) (at : ℕ) → position (λ (q : Named). bytes_eq name q.name) qs ≡ Some at → at < length qs
shelf_within name [] at e = absurd cc
shelf_within name (t ∷ ss) zero e = omega arith
shelf_within name (t ∷ ss) (suc at) e = grind (arith, nat_tests, shelf_within name ss at)

pub view_long : (store : List (Option Row)) (qs : List Named) → length (shelves_of store qs) ≡ length qs
view_long store [] = refl
view_long store (q ∷ qs) = ap (λ n. suc n) (view_long store qs)

pub changed_long : {A : Type 0} (f : A → A) (at : ℕ) (xs : List A) → length (change_at at f xs) ≡ length xs
changed_long f at [] = refl
changed_long f zero (x ∷ xs) = refl
changed_long f (suc at) (x ∷ xs) = ap (λ n. suc n) (changed_long f at xs)

pub changed_twice : {A : Type 0} (f g : A → A) (at : ℕ) (xs : List A) → change_at at g (change_at at f xs) ≡ change_at at (λ x. g (f x)) xs
changed_twice f g at [] = refl
changed_twice f g zero (x ∷ xs) = refl
changed_twice {A} f g (suc at) (x ∷ xs) = ap (λ (l : List A). x ∷ l) (changed_twice f g at xs)

pub changed_last : {A : Type 0} (f : A → A) (xs : List A) (x : A) → change_at (length xs) f (xs ++ x ∷ []) ≡ xs ++ f x ∷ []
changed_last f [] x = refl
changed_last {A} f (y ∷ xs) x = ap (λ (l : List A). y ∷ l) (changed_last f xs x)

-- Rows in order of their lanes, put in one after the other.
insert_end : (row : Row) (xs : List Row) → AreUpTo row.place.lane xs → insert_row row xs ≡ xs ++ row ∷ []
insert_end row [] a = refl
insert_end row (x ∷ xs) a = by (nat_le x.place.lane row.place.lane) (grind (arith, nat_tests, a.0)) (insert_end row xs a.1)
  where
    by : (b : Bool) → b ≡ true → insert_row row xs ≡ xs ++ row ∷ [] → cond b (x ∷ insert_row row xs) (row ∷ x ∷ xs) ≡ x ∷ xs ++ row ∷ []
    by true h e = ap (λ (l : List Row). x ∷ l) e
    by false h e = absurd cc

up_more : (low top : ℕ) (xs : List Row) → low ≤ top → AreUpTo low xs → AreUpTo top xs
up_more low top [] le a = tt
up_more low top (x ∷ xs) le a = (omega (arith, le, a.0), up_more low top xs le a.1)

up_end : (row : Row) (xs : List Row) → AreUpTo row.place.lane xs → AreUpTo row.place.lane (xs ++ row ∷ [])
up_end row [] a = (omega arith, tt)
up_end row (x ∷ xs) a = (a.0, up_end row xs a.1)

put_behind : (name : List ℕ) (done rows : List Row) (low : ℕ) → AreUpTo low done → AreFrom low rows → AreInLanes rows → put_rows rows (record { name = name; rows = done }) ≡ record { name = name; rows = done ++ rows }
put_behind name done [] low a f s = ap (λ (l : List Row). record { name = name; rows = l }) (end done)
  where
    end : (xs : List Row) → xs ≡ xs ++ []
    end [] = refl
    end (x ∷ xs) = ap (λ (l : List Row). x ∷ l) (end xs)
put_behind name done (row ∷ rows) low a f s =
    let up = up_more low row.place.lane done f.0 a in
    ap (λ (l : List Row). put_rows rows (record { name = name; rows = l })) (insert_end row done up)
    ∙ put_behind name (done ++ row ∷ []) rows row.place.lane (up_end row done up) s.0 s.1
    ∙ ap (λ (l : List Row). record { name = name; rows = l }) (assoc done (row ∷ []) rows)
  where
    assoc : (xs ys zs : List Row) → (xs ++ ys) ++ zs ≡ xs ++ (ys ++ zs)
    assoc [] ys zs = refl
    assoc (x ∷ xs) ys zs = ap (λ (l : List Row). x ∷ l) (assoc xs ys zs)

pub put_sorted : (name : List ℕ) (rows : List Row) → AreInLanes rows → put_rows rows (record { name = name; rows = [] }) ≡ record { name = name; rows = rows }
put_sorted name [] s = refl
put_sorted name (row ∷ rows) s = put_behind name (row ∷ []) rows row.place.lane (omega arith, tt) s.0 s.1

-- a shelf of those that are left
pub next_sorted : (done left all : List Shelf) (s : Shelf) → done ++ s ∷ left ≡ all → AreSorted all → AreInLanes s.rows
next_sorted done left all s e a = at done (subst AreSorted (sym e) a)
  where
    at : (ss : List Shelf) → AreSorted (ss ++ s ∷ left) → AreInLanes s.rows
    at [] a = a.0
    at (x ∷ ss) a = at ss a.1

-- Idents left one after the other.
keep_all : (rows : List Row) → keep (λ (row : Row). true) rows ≡ rows
keep_all [] = refl
keep_all (row ∷ rows) = ap (λ (l : List Row). row ∷ l) (keep_all rows)

keep_twice : (ident : Ident) (idents : List Ident) (rows : List Row) → keep (λ (row : Row). not (is_one_of idents row)) (keep (λ (row : Row). not (has_ident ident row)) rows) ≡ keep (λ (row : Row). not (is_one_of (ident ∷ idents) row)) rows
keep_twice ident idents [] = refl
keep_twice ident idents (row ∷ rows) = by (has_ident ident row) (is_one_of idents row) refl (keep_twice ident idents rows)
  where
    by : (b c : Bool) → is_one_of idents row ≡ c → keep (λ (row : Row). not (is_one_of idents row)) (keep (λ (row : Row). not (has_ident ident row)) rows) ≡ keep (λ (row : Row). not (is_one_of (ident ∷ idents) row)) rows
        → keep (λ (row : Row). not (is_one_of idents row)) (cond (not b) (row ∷ keep (λ (row : Row). not (has_ident ident row)) rows) (keep (λ (row : Row). not (has_ident ident row)) rows))
        ≡ cond (not (b || c)) (row ∷ keep (λ (row : Row). not (is_one_of (ident ∷ idents) row)) rows) (keep (λ (row : Row). not (is_one_of (ident ∷ idents) row)) rows)
    by true c h e = e
    by false true h e = ap (λ (t : Bool). cond (not t) (row ∷ keep (λ (row : Row). not (is_one_of idents row)) (keep (λ (row : Row). not (has_ident ident row)) rows)) (keep (λ (row : Row). not (is_one_of idents row)) (keep (λ (row : Row). not (has_ident ident row)) rows))) h ∙ e
    by false false h e = ap (λ (t : Bool). cond (not t) (row ∷ keep (λ (row : Row). not (is_one_of idents row)) (keep (λ (row : Row). not (has_ident ident row)) rows)) (keep (λ (row : Row). not (is_one_of idents row)) (keep (λ (row : Row). not (has_ident ident row)) rows))) h ∙ ap (λ (l : List Row). row ∷ l) e

left_none : (ss : List Shelf) → leave_queues (λ (row : Row). true) ss ≡ ss
left_none [] = refl
left_none (s ∷ ss) = ap (λ (rows : List Row). record s { rows = rows } ∷ leave_queues (λ (row : Row). true) ss) (keep_all s.rows) ∙ ap (λ (l : List Shelf). s ∷ l) (left_none ss)

left_twice : (ident : Ident) (idents : List Ident) (ss : List Shelf) → leave_queues (λ (row : Row). not (is_one_of idents row)) (leave_queues (λ (row : Row). not (has_ident ident row)) ss) ≡ leave_queues (λ (row : Row). not (is_one_of (ident ∷ idents) row)) ss
left_twice ident idents [] = refl
left_twice ident idents (s ∷ ss) =
    ap (λ (rows : List Row). record s { rows = rows } ∷ leave_queues (λ (row : Row). not (is_one_of idents row)) (leave_queues (λ (row : Row). not (has_ident ident row)) ss)) (keep_twice ident idents s.rows)
    ∙ ap (λ (l : List Shelf). record s { rows = keep (λ (row : Row). not (is_one_of (ident ∷ idents) row)) s.rows } ∷ l) (left_twice ident idents ss)

pub left_each : (idents : List Ident) (ss : List Shelf) → leave_each idents ss ≡ leave_queues (λ (row : Row). not (is_one_of idents row)) ss
left_each [] ss = sym (left_none ss)
left_each (ident ∷ idents) ss = left_each idents (leave_queues (λ (row : Row). not (has_ident ident row)) ss) ∙ left_twice ident idents ss

-- What the calls come to, by the store of before and what is seen of it.
module _ (store : List (Option Row)) (qs : List Named) (home : Ident → Option ℕ) (doubled : Bool) (view : List Shelf) (s : IsStore store qs home doubled) (is : shelves_of store qs ≡ view) (ident : Ident) where
  abbrev stays : Row → Bool
  stays row = not (has_ident ident row)

  once : doubled ≡ false → IsStore store qs home false
  once e = subst (IsStore store qs home) e s

  pub row_none : doubled ≡ false → home ident ≡ None → None ≡ row_in ident view
  row_none e h = sym (ap (row_in ident) (sym is) ∙ no_note store qs home ident (once e) h)

  pub row_some : (k : ℕ) → doubled ≡ false → home ident ≡ Some k → its_row ident (row_at store k) ≡ row_in ident view
  row_some k e h = sym (noted_row store qs home ident (once e) k h) ∙ ap (row_in ident) is

  -- all slots are looked at
  pub left_all : (new : List (Option Row)) → new ≡ map (kept_slot stays) store → shelves_of new qs ≡ leave_queues stays view
  left_all new e = ap (λ (st : List (Option Row)). shelves_of st qs) e ∙ kept_view stays store qs ∙ ap (leave_queues stays) is

  pub all_kept : (new : List (Option Row)) → new ≡ map (kept_slot stays) store → IsStore new qs home doubled
  all_kept new e = subst (λ (st : List (Option Row)). IsStore st qs home doubled) (sym e) (kept_store stays store qs home doubled s)

  -- one is
  one_is : (k : ℕ) (new : List (Option Row)) → doubled ≡ false → home ident ≡ Some k → new ≡ kept_at stays k store → new ≡ map (kept_slot stays) store
  one_is k new e h n = n ∙ only_one stays store k (only_noted store qs home ident (once e) k h)

  pub left_one : (k : ℕ) (new : List (Option Row)) → doubled ≡ false → home ident ≡ Some k → new ≡ kept_at stays k store → shelves_of new qs ≡ leave_queues stays view
  left_one k new e h n = left_all new (one_is k new e h n)

  pub one_kept : (k : ℕ) (new : List (Option Row)) (now : Ident → Option ℕ) → doubled ≡ false → home ident ≡ Some k → new ≡ kept_at stays k store
      → ((other : Ident) → now other ≡ (if same_ident ident other then None else home other)) → IsStore new qs now doubled
  one_kept k new now e h n notes =
      subst (λ (st : List (Option Row)). IsStore st qs now doubled) (sym (one_is k new e h n))
      (forgotten_store store qs home now doubled ident notes (kept_store stays store qs home doubled s))

  -- none is
  pub left_as_is : doubled ≡ false → home ident ≡ None → view ≡ leave_queues stays view
  left_as_is e h = sym is ∙ left_all store (none_one stays store (none_noted store qs home ident (once e) h))

-- A slot more that is noted, or not, and is empty still.
or_none : (a b t : Bool) → t ≡ (a || b) → t ≡ false → (a ≡ false) × (b ≡ false)
or_none true b t is e = absurd (let h : true ≡ false = sym is ∙ e in cc)
or_none false b t is e = (refl, sym is ∙ e)

module _ (store : List (Option Row)) (qs : List Named) (home : Ident → Option ℕ) (doubled : Bool) (view : List Shelf) (s : IsStore store qs home doubled) (is : shelves_of store qs ≡ view) (row : Row) (twice has : Bool) (either : twice ≡ (doubled || has)) (found : has ≡ is_some (row_in row.message.ident view)) where
  less : twice ≡ false → doubled ≡ false
  less e = (or_none doubled has twice either e).0

  none_there : twice ≡ false → (k : ℕ) (x : Row) → row_at store k ≡ Some x → has_ident row.message.ident x ≡ false
  none_there e = apart store qs home doubled row.message.ident s (ap (λ (v : List Shelf). is_some (row_in row.message.ident v)) is ∙ sym found ∙ (or_none doubled has twice either e).1)

  abbrev wider : List (Option Row)
  wider = store ++ None ∷ []

  empty : IsStore wider qs home doubled
  empty = empty_store store qs home doubled s

  pub pushed : (st : List (Option Row)) → st ≡ wider → IsStore st qs home twice
  pushed st e = subst (λ (x : List (Option Row)). IsStore x qs home twice) (sym e) (empty.0, λ once. empty.1 (less once), empty.2)

  pub noted_same : (st : List (Option Row)) (now : Ident → Option ℕ) → st ≡ wider → ((other : Ident) → now other ≡ home other) → IsStore st qs now twice
  noted_same st now e same = subst (λ (x : List (Option Row)). IsStore x qs now twice) (sym e) (empty.0, λ once k x there. same x.message.ident ∙ empty.1 (less once) k x there, empty.2)

  pub noted_empty : (st : List (Option Row)) (now : Ident → Option ℕ) (slot : ℕ) → st ≡ wider → ((other : Ident) → now other ≡ (if same_ident row.message.ident other then Some slot else home other)) → IsStore st qs now twice
  noted_empty st now slot e notes = subst (λ (x : List (Option Row)). IsStore x qs now twice) (sym e) (empty.0, noted, empty.2)
    where
      noted : twice ≡ false → AreNoted now wider
      noted once k x there =
          notes x.message.ident
          ∙ ap (λ (b : Bool). cond b (Some slot) (home x.message.ident)) (same_turned row.message.ident x.message.ident ∙ none_there once k x (row_either store None k x there (λ lt e. e) (λ last e. absurd cc)))
          ∙ empty.1 (less once) k x there

  pub filled : (st st1 : List (Option Row)) (qs1 : List Named) (now : Ident → Option ℕ) (slot at : ℕ) → st ≡ wider → slot ≡ length store → at < length view → ((other : Ident) → now other ≡ (if same_ident row.message.ident other then Some slot else home other))
      → qs1 ≡ change_at at (seat_on row.place.lane slot) qs → st1 ≡ slice_set st slot (Some row) → IsStore st1 qs1 now twice
  filled st st1 qs1 now slot at e n lt notes q f =
      subst (λ (x : List (Option Row)). IsStore x qs1 now twice) (sym (f ∙ ap (λ (x : List (Option Row)). slice_set x slot (Some row)) e ∙ ap (λ k. slice_set wider k (Some row)) n ∙ set_last store None (Some row)))
      (subst (λ (x : List Named). IsStore (store ++ Some row ∷ []) x now twice) (sym (q ∙ ap (λ k. change_at at (seat_on row.place.lane k) qs) n))
      (put_store store row qs at home now doubled twice (omega (arith, lt, ap (λ (v : List Shelf). length v) is, view_long store qs)) (λ other. notes other ∙ ap (λ k. cond (same_ident row.message.ident other) (Some k) (home other)) n) less none_there s))

  pub filled_view : (st st1 : List (Option Row)) (qs1 : List Named) (slot at : ℕ) → st ≡ wider → slot ≡ length store → qs1 ≡ change_at at (seat_on row.place.lane slot) qs → st1 ≡ slice_set st slot (Some row) → shelves_of st1 qs1 ≡ change_at at (put_row row) view
  filled_view st st1 qs1 slot at e n q f =
      ap (λ (x : List (Option Row)). shelves_of x qs1) (f ∙ ap (λ (x : List (Option Row)). slice_set x slot (Some row)) e ∙ ap (λ k. slice_set wider k (Some row)) n ∙ set_last store None (Some row))
      ∙ ap (λ (x : List Named). shelves_of (store ++ Some row ∷ []) x) (q ∙ ap (λ k. change_at at (seat_on row.place.lane k) qs) n)
      ∙ put_view store row qs at s.0 ∙ ap (change_at at (put_row row)) is

pub rows_next : (at : ℕ) (row : Row) (rows : List Row) (ss : List Shelf) → change_at at (put_rows (row ∷ rows)) ss ≡ change_at at (put_rows rows) (change_at at (put_row row) ss)
rows_next at row rows ss = sym (changed_twice (put_row row) (put_rows rows) at ss)

pub rows_none : (at : ℕ) (ss : List Shelf) → change_at at (put_rows []) ss ≡ ss
rows_none at [] = refl
rows_none zero (s ∷ ss) = refl
rows_none (suc at) (s ∷ ss) = ap (λ (l : List Shelf). s ∷ l) (rows_none at ss)

pub queues_found : (ident : Ident) (store : List (Option Row)) (qs : List Named) → queues_find ident store qs ≡ row_in ident (shelves_of store qs)
queues_found ident store [] = refl
queues_found ident store (q ∷ qs) =
    ap (λ (o : Option Row). elim o as (λ r. Option Row) [ None ↦ queues_find ident store qs | Some row ↦ Some row ]) (lanes_found ident store q.lanes)
    ∙ ap (λ (p : Option Row). elim (find (has_ident ident) (lanes_rows store q.lanes)) as (λ r. Option Row) [ None ↦ p | Some row ↦ Some row ]) (queues_found ident store qs)

pub rows_on : (at : ℕ) (left rest : List Row) (row : Row) (self new whole : List Shelf) → left ≡ rest ++ row ∷ [] → new ≡ change_at at (put_row row) self → change_at at (put_rows (reverse left)) self ≡ whole → change_at at (put_rows (reverse rest)) new ≡ whole
rows_on at left rest row self new whole popped is before =
    ap (change_at at (put_rows (reverse rest))) is
    ∙ sym (rows_next at row (reverse rest) self)
    ∙ sym (ap (λ (l : List Row). change_at at (put_rows (reverse l)) self) popped ∙ ap (λ (l : List Row). change_at at (put_rows l) self) (reverse-append rest (row ∷ [])))
    ∙ before

pub popped_sorted : (out left rest all : List Shelf) (s : Shelf) → left ≡ rest ++ s ∷ [] → out ++ reverse left ≡ all → AreSorted all → AreInLanes s.rows
popped_sorted out left rest all s popped e a =
    next_sorted out (reverse rest) all s (sym (ap (λ (l : List Shelf). out ++ reverse l) popped ∙ ap (λ (l : List Shelf). out ++ l) (reverse-append rest (s ∷ []))) ∙ e) a

-- The loop over idents.
drop_none : (n : ℕ) → drop {A = Ident} n [] ≡ []
drop_none zero = refl
drop_none (suc n) = refl

add_one : (n : ℕ) → n + 1 ≡ suc n
add_one n = omega arith

pub left_next : (idents : List Ident) (i : ℕ) (self new whole : List Shelf) → leave_each (drop i idents) self ≡ whole → new ≡ leave_some (slice_get idents i) self → leave_each (drop (i + 1) idents) new ≡ whole
left_next idents i self new whole so_far is = ap (leave_each (drop (i + 1) idents)) is ∙ ap (λ n. leave_each (drop n idents) (leave_some (slice_get idents i) self)) (add_one i) ∙ at idents i ∙ so_far
  where
    at : (xs : List Ident) (k : ℕ) → leave_each (drop (suc k) xs) (leave_some (slice_get xs k) self) ≡ leave_each (drop k xs) self
    at [] k = ap (λ (l : List Ident). leave_each l self) (sym (drop_none k))
    at (x ∷ xs) zero = refl
    at (x ∷ xs) (suc k) = at xs k

pub left_end : (idents : List Ident) (i : ℕ) (self whole : List Shelf) → leave_each (drop i idents) self ≡ whole → length idents ≤ i → self ≡ whole
left_end idents i self whole so_far le = ap (λ (l : List Ident). leave_each l self) (sym (past idents i le)) ∙ so_far
  where
    past : (xs : List Ident) (k : ℕ) → length xs ≤ k → drop k xs ≡ []
    past [] zero le = refl
    past [] (suc k) le = refl
    past (x ∷ xs) zero le = absurd (omega (arith, le))
    past (x ∷ xs) (suc k) le = past xs k (omega (arith, le))

-- A shelf more, and a message more.
pub ok_then : {T E : Type 0} {A B : Type 0} (r : Result T E) → OnOk r A → (A → B) → OnOk r B
ok_then (Ok t) a f = f a
ok_then (Err e) a f = tt

pub shelf_added : (store : List (Option Row)) (qs : List Named) (view one new : List Shelf) (at : ℕ) (shelf : Shelf) → shelves_of store qs ≡ view → at ≡ length qs → one ≡ view ++ record { name = shelf.name; rows = [] } ∷ [] → AreInLanes shelf.rows
    → new ≡ change_at at (put_rows shelf.rows) one → new ≡ view ++ shelf ∷ []
shelf_added store qs view one new at shelf is n o sorted e =
    e ∙ ap (change_at at (put_rows shelf.rows)) o
    ∙ ap (λ k. change_at k (put_rows shelf.rows) (view ++ record { name = shelf.name; rows = [] } ∷ [])) (n ∙ sym (view_long store qs) ∙ ap (λ (v : List Shelf). length v) is)
    ∙ changed_last (put_rows shelf.rows) view (record { name = shelf.name; rows = [] })
    ∙ ap (λ (s : Shelf). view ++ s ∷ []) (put_sorted shelf.name shelf.rows sorted)

pub message_last : (store : List (Option Row)) (qs : List Named) (view one new : List Shelf) (at lane : ℕ) (name : List ℕ) (m : Message) (row : Row) → shelves_of store qs ≡ view → at ≡ length qs → one ≡ view ++ record { name = name; rows = [] } ∷ []
    → row ≡ new_row lane 0 m → position (λ (s : Shelf). bytes_eq name s.name) view ≡ None → new ≡ change_at at (put_row row) one → new ≡ put_in name lane m view
message_last store qs view one new at lane name m row is n o r none e =
    e ∙ ap (λ (x : Row). change_at at (put_row x) one) r ∙ ap (change_at at (put_row (new_row lane 0 m))) o
    ∙ ap (λ k. change_at k (put_row (new_row lane 0 m)) (view ++ record { name = name; rows = [] } ∷ [])) (n ∙ sym (view_long store qs) ∙ ap (λ (v : List Shelf). length v) is)
    ∙ put_last name lane m view none

pub message_there : (view new : List Shelf) (at lane : ℕ) (name : List ℕ) (m : Message) (row : Row) → row ≡ new_row lane 0 m → position (λ (s : Shelf). bytes_eq name s.name) view ≡ Some at → new ≡ change_at at (put_row row) view → new ≡ put_in name lane m view
message_there view new at lane name m row r some e = e ∙ ap (λ (x : Row). change_at at (put_row x) view) r ∙ put_there name lane m view at some
