-- Rows that batches hold are noted, whatever is done to them.
use Rattle.std.proofs.Common.{◌≡◌, ℕ, Bool, true, false, cond, List, [], ◌∷◌, ◌++◌, Option, Some, None, refl, sym, ap, subst, ◌∙◌}
use Rattle.std.specs.Prelude.{not, ◌||◌, ◌&&◌, if◌then◌else◌, filter, Result, Ok, Err, OnOk, OnErr}
use Rattle.std.specs.List.{AllByRecursion, list_any}
use Rattle.std.specs.Str.{bytes_eq}
use Rattle.mq_message.specs.declared.message.Ident.{Ident}
use Rattle.mq_message.specs.declared.message.Message.{Message}
use Rattle.mq_message.specs.declared.place.Holder.TheVariants as holders
use Rattle.mq_queue.specs.declared.row.Row.{Row}
use Rattle.mq_queue.specs.Rows.{same_ident, is_free, held_by, keep, retag}
use Rattle.mq_queue.proofs.QueueLaws.{all_insert, all_keep, all_retag}
use Rattle.mq_calls.specs.declared.image.Shelf.{Shelf}
use Rattle.mq_calls.specs.State.Which.{Among, HeldBy}
use Rattle.mq_calls.specs.Changes.{retag_if, new_row}
use Rattle.mq_calls.specs.Images.{uncounted_message}
use Rattle.mq_spec_log.specs.Shelves.{shelf_in, set_shelf, on_all, shelved_in, less_rows, freed_row, freed_rows, held_rows}
use Rattle.mq_shelves.specs.Holds.{removed_each, freed_each, or_no_idents, IsNoted, AreNoted}
use Rattle.mq_shelves.proofs.StandLaws.{name_is, name_same}
use Rattle.mq_shelves.proofs.EachLaws.{removed_all, freed_all}

abbrev rows_shelf : List ℕ → List Row → Shelf
rows_shelf name rows = record { name = name; rows = rows }

-- ---- all rows of all shelves

abbrev All : (Row → Type 0) → List Shelf → Type 0
All P ss = AllByRecursion (λ (s : Shelf). AllByRecursion P s.rows) ss

all_on : (P Q : Row → Type 0) (f : List ℕ → List Row → List Row) → ((n : List ℕ) (rows : List Row) → AllByRecursion P rows → AllByRecursion Q (f n rows)) → (ss : List Shelf)
    → All P ss → All Q (on_all (λ (s : Shelf). record s { rows = f s.name s.rows }) ss)
all_on P Q f turn [] all = tt
all_on P Q f turn (s ∷ ss) all = (turn s.name s.rows all.0, all_on P Q f turn ss all.1)

all_set : (P : Row → Type 0) (new : Shelf) → AllByRecursion P new.rows → (ss : List Shelf) → All P ss → All P (set_shelf new ss)
all_set P new given [] all = (given, tt)
all_set P new given (s ∷ ss) all = by (all_set P new given ss all.1) (bytes_eq new.name s.name)
  where
    by : All P (set_shelf new ss) → (b : Bool) → All P (if b then new ∷ ss else s ∷ set_shelf new ss)
    by rest true = (given, all.1)
    by rest false = (all.0, rest)

all_in : (P : Row → Type 0) (name : List ℕ) (ss : List Shelf) → All P ss → AllByRecursion P (shelf_in name ss).rows
all_in P name [] all = tt
all_in P name (s ∷ ss) all = by (all_in P name ss all.1) (bytes_eq name s.name)
  where
    by : AllByRecursion P (shelf_in name ss).rows → (b : Bool) → AllByRecursion P (if b then s else shelf_in name ss).rows
    by rest true = all.0
    by rest false = rest

all_filtered : (P : Row → Type 0) (test : Shelf → Bool) (ss : List Shelf) → All P ss → All P (filter test ss)
all_filtered P test [] all = tt
all_filtered P test (s ∷ ss) all = by (all_filtered P test ss all.1) (test s)
  where
    by : All P (filter test ss) → (b : Bool) → All P (if b then s ∷ filter test ss else filter test ss)
    by rest true = (all.0, rest)
    by rest false = rest

-- what holds of what a call came to, where it succeeded and where it failed
pub by_result : {T E V : Type 0} (P : V → Type 0) (r : Result T E) (now a b : V) → OnOk r (now ≡ a) → OnErr r (now ≡ b) → P a → P b → P now
by_result P (Ok t) now a b ok err p q = subst P (sym ok) p
by_result P (Err e) now a b ok err p q = subst P (sym err) q

module _ (noted : List ℕ → List Ident) (ss : List Shelf) (were : AreNoted noted ss) where
  pub noted_kept : (test : List ℕ → Row → Bool) → AreNoted noted (on_all (λ (s : Shelf). record s { rows = keep (test s.name) s.rows }) ss)
  noted_kept test = all_on (IsNoted noted) (IsNoted noted) (λ n rows. keep (test n) rows) (λ n rows all. all_keep (IsNoted noted) (test n) rows all) ss were

  pub noted_filtered : (test : Shelf → Bool) → AreNoted noted (filter test ss)
  noted_filtered test = all_filtered (IsNoted noted) test ss were

  pub noted_empty : (name : List ℕ) → AreNoted noted (set_shelf (record { name = name; rows = [] }) ss)
  noted_empty name = all_set (IsNoted noted) (rows_shelf name []) tt ss were

  pub noted_put : (lane : ℕ) (m : Message) (name : List ℕ) → AreNoted noted (set_shelf (shelved_in lane m (shelf_in name ss)) ss)
  noted_put lane m name = all_set (IsNoted noted) (shelved_in lane m (shelf_in name ss))
      (all_insert (IsNoted noted) (new_row lane 0 (uncounted_message m)) (shelf_in name ss).rows (λ channel h. absurd (cc h)) (all_in (IsNoted noted) name ss were)) ss were

-- ---- a batch holds more

module _ (noted now : List ℕ → List Ident) (channel : List ℕ) (idents : List Ident)
    (more : (c : List ℕ) (f : Ident → Bool) → list_any f (noted c) ≡ true → list_any f (now c) ≡ true)
    (own : (f : Ident → Bool) → list_any f idents ≡ true → list_any f (now channel) ≡ true) where
  hold_noted : (row : Row) (on : Bool) → IsNoted noted row → IsNoted now (retag_if ((on && list_any (same_ident row.message.ident) idents) && is_free row) (Some (holders.Batch channel)) row)
  hold_noted row on was = by on (list_any (same_ident row.message.ident) idents) (is_free row) refl
    where
      stays : IsNoted now row
      stays c h = more c (same_ident row.message.ident) (was c h)

      by : (on among free : Bool) → list_any (same_ident row.message.ident) idents ≡ among → IsNoted now (retag_if ((on && among) && free) (Some (holders.Batch channel)) row)
      by true true true e = λ c h. subst (λ (x : List ℕ). list_any (same_ident row.message.ident) (now x) ≡ true) (sym (name_is c channel h)) (own (same_ident row.message.ident) e)
      by true true false e = stays
      by true false free e = stays
      by false among free e = stays

  pub noted_held : (queue : List ℕ) (ss : List Shelf) → AreNoted noted ss → AreNoted now (on_all (held_rows (Among queue idents) (holders.Batch channel)) ss)
  noted_held queue ss were =
      all_on (IsNoted noted) (IsNoted now) (λ n rows. retag (λ (row : Row). retag_if ((bytes_eq n queue && list_any (same_ident row.message.ident) idents) && is_free row) (Some (holders.Batch channel)) row) rows)
      (λ n rows all. all_retag (IsNoted noted) (IsNoted now) (λ (row : Row). retag_if ((bytes_eq n queue && list_any (same_ident row.message.ident) idents) && is_free row) (Some (holders.Batch channel)) row)
      (λ row was. hold_noted row (bytes_eq n queue) was) rows all) ss were

any_left : (f : Ident → Bool) (xs ys : List Ident) → list_any f xs ≡ true → list_any f (xs ++ ys) ≡ true
any_left f [] ys e = absurd (cc e)
any_left f (x ∷ xs) ys e = by (any_left f xs ys) (f x) e
  where
    by : (list_any f xs ≡ true → list_any f (xs ++ ys) ≡ true) → (b : Bool) → (b || list_any f xs) ≡ true → (b || list_any f (xs ++ ys)) ≡ true
    by rest true h = refl
    by rest false h = rest h

any_right : (f : Ident → Bool) (xs ys : List Ident) → list_any f ys ≡ true → list_any f (xs ++ ys) ≡ true
any_right f [] ys e = e
any_right f (x ∷ xs) ys e = by (f x) (any_right f xs ys e)
  where
    by : (b : Bool) → list_any f (xs ++ ys) ≡ true → (b || list_any f (xs ++ ys)) ≡ true
    by true h = refl
    by false h = h

pub or_put : (b : Bool) (new : List Ident) (o : Option (List Ident)) → or_no_idents (cond b (Some new) o) ≡ (if b then new else or_no_idents o)
or_put true new o = refl
or_put false new o = refl

-- more idents are noted for a batch, and it holds the rows that have them
module _ (noted now : List ℕ → List Ident) (channel : List ℕ) (new idents : List Ident) (put : (c : List ℕ) → now c ≡ (if bytes_eq channel c then new else noted c)) (joined : new ≡ noted channel ++ idents) where
  its_more : (c : List ℕ) (f : Ident → Bool) → list_any f (noted c) ≡ true → list_any f (now c) ≡ true
  its_more c f e = by (bytes_eq channel c) refl
    where
      by : (b : Bool) → bytes_eq channel c ≡ b → list_any f (now c) ≡ true
      by true h =
          ap (list_any f) (put c ∙ ap (λ (b : Bool). if b then new else noted c) h ∙ joined)
          ∙ any_left f (noted channel) idents (subst (λ (x : List ℕ). list_any f (noted x) ≡ true) (sym (name_is channel c h)) e)
      by false h = ap (list_any f) (put c ∙ ap (λ (b : Bool). if b then new else noted c) h) ∙ e

  its_idents : (f : Ident → Bool) → list_any f idents ≡ true → list_any f (now channel) ≡ true
  its_idents f e = ap (list_any f) (put channel ∙ ap (λ (b : Bool). if b then new else noted channel) (name_same channel) ∙ joined) ∙ any_right f (noted channel) idents e

  pub noted_more : (queue : List ℕ) (ss : List Shelf) → AreNoted noted ss → AreNoted now (on_all (held_rows (Among queue idents) (holders.Batch channel)) ss)
  noted_more queue ss were = noted_held noted now channel idents its_more its_idents queue ss were

-- ---- a batch is settled

module _ (noted now : List ℕ → List Ident) (channel : List ℕ) (others : (c : List ℕ) → bytes_eq channel c ≡ false → now c ≡ noted c) where
  -- a row that it doesn't hold is noted as before
  not_its : (row : Row) → held_by (holders.Batch channel) row.by ≡ false → IsNoted noted row → IsNoted now row
  not_its row free was c h = by (bytes_eq channel c) refl
    where
      by : (b : Bool) → bytes_eq channel c ≡ b → list_any (same_ident row.message.ident) (now c) ≡ true
      by true e = absurd (cc (sym (subst (λ (x : List ℕ). held_by (holders.Batch x) row.by ≡ true) (sym (name_is channel c e)) h) ∙ free))
      by false e = ap (list_any (same_ident row.message.ident)) (others c e) ∙ was c h

  left_noted : (rows : List Row) → AllByRecursion (IsNoted noted) rows → AllByRecursion (IsNoted now) (keep (λ (row : Row). not (held_by (holders.Batch channel) row.by)) rows)
  left_noted [] all = tt
  left_noted (row ∷ rows) all = by (left_noted rows all.1) (held_by (holders.Batch channel) row.by) refl
    where
      by : AllByRecursion (IsNoted now) (keep (λ (row : Row). not (held_by (holders.Batch channel) row.by)) rows) → (b : Bool) → held_by (holders.Batch channel) row.by ≡ b
          → AllByRecursion (IsNoted now) (if not b then row ∷ keep (λ (row : Row). not (held_by (holders.Batch channel) row.by)) rows else keep (λ (row : Row). not (held_by (holders.Batch channel) row.by)) rows)
      by rest true e = rest
      by rest false e = (not_its row e all.0, rest)

  pub noted_left : (ss : List Shelf) → AreNoted noted ss → AreNoted now (on_all (less_rows (HeldBy (holders.Batch channel))) ss)
  noted_left ss were = all_on (IsNoted noted) (IsNoted now) (λ n rows. keep (λ (row : Row). not (held_by (holders.Batch channel) row.by)) rows) (λ n rows all. left_noted rows all) ss were

  free_noted : (row : Row) → IsNoted noted row → IsNoted now (freed_row (holders.Batch channel) row)
  free_noted row was = by (held_by (holders.Batch channel) row.by) refl
    where
      by : (b : Bool) → held_by (holders.Batch channel) row.by ≡ b → IsNoted now (if b then record row { by = None } else row)
      by true e = λ c h. absurd (cc h)
      by false e = not_its row e was

  pub noted_freed : (ss : List Shelf) → AreNoted noted ss → AreNoted now (on_all (freed_rows (holders.Batch channel)) ss)
  noted_freed ss were = all_on (IsNoted noted) (IsNoted now) (λ n rows. retag (freed_row (holders.Batch channel)) rows) (λ n rows all. all_retag (IsNoted noted) (IsNoted now) (freed_row (holders.Batch channel)) (λ row was. free_noted row was) rows all) ss were

-- all rows that a batch holds are among those that are noted for it
module _ (noted : List ℕ → List Ident) (channel : List ℕ) where
  its_own : (row : Row) → IsNoted noted row → (b : Bool) → held_by (holders.Batch channel) row.by ≡ b → (b && list_any (same_ident row.message.ident) (noted channel)) ≡ b
  its_own row was true e = was channel e
  its_own row was false e = refl

  left_same : (rows : List Row) → AllByRecursion (IsNoted noted) rows
      → keep (λ (row : Row). not (held_by (holders.Batch channel) row.by && list_any (same_ident row.message.ident) (noted channel))) rows ≡ keep (λ (row : Row). not (held_by (holders.Batch channel) row.by)) rows
  left_same [] all = refl
  left_same (row ∷ rows) all =
      ap (λ (b : Bool). if not b then row ∷ keep (λ (row : Row). not (held_by (holders.Batch channel) row.by && list_any (same_ident row.message.ident) (noted channel))) rows else keep (λ (row : Row). not (held_by (holders.Batch channel) row.by && list_any (same_ident row.message.ident) (noted channel))) rows) (its_own row all.0 (held_by (holders.Batch channel) row.by) refl)
      ∙ ap (λ (x : List Row). if not (held_by (holders.Batch channel) row.by) then row ∷ x else x) (left_same rows all.1)

  freed_same : (rows : List Row) → AllByRecursion (IsNoted noted) rows
      → retag (λ (row : Row). if held_by (holders.Batch channel) row.by && list_any (same_ident row.message.ident) (noted channel) then record row { by = None } else row) rows ≡ retag (freed_row (holders.Batch channel)) rows
  freed_same [] all = refl
  freed_same (row ∷ rows) all =
      ap (λ (b : Bool). (if b then record row { by = None } else row) ∷ retag (λ (row : Row). if held_by (holders.Batch channel) row.by && list_any (same_ident row.message.ident) (noted channel) then record row { by = None } else row) rows) (its_own row all.0 (held_by (holders.Batch channel) row.by) refl)
      ∙ ap (λ (x : List Row). freed_row (holders.Batch channel) row ∷ x) (freed_same rows all.1)

  all_left : (ss : List Shelf) → AreNoted noted ss
      → on_all (λ (s : Shelf). record s { rows = keep (λ (row : Row). not (held_by (holders.Batch channel) row.by && list_any (same_ident row.message.ident) (noted channel))) s.rows }) ss ≡ on_all (less_rows (HeldBy (holders.Batch channel))) ss
  all_left [] were = refl
  all_left (s ∷ ss) were =
      ap (λ (rows : List Row). rows_shelf s.name rows ∷ on_all (λ (s : Shelf). record s { rows = keep (λ (row : Row). not (held_by (holders.Batch channel) row.by && list_any (same_ident row.message.ident) (noted channel))) s.rows }) ss) (left_same s.rows were.0)
      ∙ ap (λ (x : List Shelf). less_rows (HeldBy (holders.Batch channel)) s ∷ x) (all_left ss were.1)

  all_freed : (ss : List Shelf) → AreNoted noted ss
      → on_all (λ (s : Shelf). record s { rows = retag (λ (row : Row). if held_by (holders.Batch channel) row.by && list_any (same_ident row.message.ident) (noted channel) then record row { by = None } else row) s.rows }) ss ≡ on_all (freed_rows (holders.Batch channel)) ss
  all_freed [] were = refl
  all_freed (s ∷ ss) were =
      ap (λ (rows : List Row). rows_shelf s.name rows ∷ on_all (λ (s : Shelf). record s { rows = retag (λ (row : Row). if held_by (holders.Batch channel) row.by && list_any (same_ident row.message.ident) (noted channel) then record row { by = None } else row) s.rows }) ss) (freed_same s.rows were.0)
      ∙ ap (λ (x : List Shelf). freed_rows (holders.Batch channel) s ∷ x) (all_freed ss were.1)

  pub batch_gone : (ss : List Shelf) → AreNoted noted ss → removed_each (holders.Batch channel) (noted channel) ss ≡ on_all (less_rows (HeldBy (holders.Batch channel))) ss
  batch_gone ss were = removed_all (holders.Batch channel) (noted channel) ss ∙ all_left ss were

  pub batch_freed : (ss : List Shelf) → AreNoted noted ss → freed_each (holders.Batch channel) (noted channel) ss ≡ on_all (freed_rows (holders.Batch channel)) ss
  batch_freed ss were = freed_all (holders.Batch channel) (noted channel) ss ∙ all_freed ss were
