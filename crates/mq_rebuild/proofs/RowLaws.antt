-- Rows that are placed on the last queue in the order of a shelf stand there in that order.
use Rattle.std.proofs.Common.{rules, ◌≡◌, ℕ, ◌+◌, ◌<◌, ◌≤◌, ◌^◌, Bool, true, false, cond, List, [], ◌∷◌, ◌++◌, length, refl, ap, arith, sym, subst, ◌∙◌, append_assoc, append-nil, length-append}
use Rattle.std.specs.Prelude.{Option, Some, None, IfSome, nat_le, ◌&&◌}
use Rattle.std.specs.List.{AllByRecursion}
use Rattle.std.specs.Str.{bytes_eq}
use Rattle.std.specs.Cmp.Lexicographic.{bytes_decides}
use Rattle.std.proofs.lemmas.Bool.Decides.{nat_tests}
use Rattle.mq_message.specs.declared.message.Ident.{Ident}
use Rattle.mq_message.specs.declared.message.Message.{Message}
use Rattle.mq_message.specs.declared.place.Holder.{Holder}
use Rattle.mq_queue.specs.declared.row.Row.{Row}
use Rattle.mq_queue.specs.Rows.{same_ident, insert_row, retag, is_free}
use Rattle.mq_queue.specs.Queues.{Lacks, lane_of}
use Rattle.mq_queue.proofs.Edits.{same_self}
use Rattle.mq_calls.specs.State.{Queue as StateQueue}
use Rattle.mq_calls.specs.State.Which.{Among}
use Rattle.mq_calls.specs.Changes.{held_in, retag_if, selects}
use Rattle.mq_calls.specs.Images.{numbered}
use Rattle.mq_place.specs.States.{QueueState, state_in, change_state, on_queue, on_queues, expecting, arrived, CanPlace, IsNowhere}
use Rattle.mq_rebuild.specs.Rebuilt.{held_as, row_added, rows_added, CanAdd, CanAddAll}
use Rattle.mq_rebuild.proofs.FrontLaws.{Fronts}

pub same_name : (name : List ℕ) → bytes_eq name name ≡ true
same_name name = (bytes_decides name name).1 refl

pub other_way : (name other : List ℕ) → bytes_eq name other ≡ false → bytes_eq other name ≡ false
other_way name other e = by (bytes_eq other name) refl
  where
    by : (b : Bool) → bytes_eq other name ≡ b → b ≡ false
    by true t = sym (ap (bytes_eq name) ((bytes_decides other name).0 t) ∙ same_name name) ∙ e
    by false t = refl

-- a queue with these rows of a shelf, numbered from 1
abbrev pub with_rows : List ℕ → Bool → List Row → QueueState
with_rows name b done = record { queue = record { name = name; rows = numbered 0 done; arrivals = length done; due = 0; last_due = None; switched_off = false }; by_priority = b; pending = 0 }

-- no queue in front has the name
abbrev pub AreOther : List ℕ → List QueueState → Type 0
AreOther name ss = AllByRecursion (λ (s : QueueState). bytes_eq name s.queue.name ≡ false) ss

-- ---- the last queue

module _ (name : List ℕ) where
  pub none_in : (front : List QueueState) → AreOther name front → state_in name front ≡ None
  none_in [] h = refl
  none_in (s ∷ ss) h = ap (λ (b : Bool). cond b (Some s) (state_in name ss)) h.0 ∙ none_in ss h.1

  module _ (last : QueueState) (own : bytes_eq name last.queue.name ≡ true) where
    pub last_in : (front : List QueueState) → AreOther name front → state_in name (front ++ last ∷ []) ≡ Some last
    last_in [] h = ap (λ (b : Bool). cond b (Some last) None) own
    last_in (s ∷ ss) h = ap (λ (b : Bool). cond b (Some s) (state_in name (ss ++ last ∷ []))) h.0 ∙ last_in ss h.1

    pub last_changed : (f : QueueState → QueueState) (front : List QueueState) → AreOther name front → change_state name f (front ++ last ∷ []) ≡ front ++ f last ∷ []
    last_changed f [] h = ap (λ (b : Bool). cond b (f last ∷ []) (last ∷ [])) own
    last_changed f (s ∷ ss) h = ap (λ (b : Bool). cond b (f s ∷ ss ++ last ∷ []) (s ∷ change_state name f (ss ++ last ∷ []))) h.0 ∙ ap (λ (ts : List QueueState). s ∷ ts) (last_changed f ss h.1)

  -- a hold changes no row of another queue
  unheld : (which : List Ident) (by : Holder) (other : List ℕ) → bytes_eq other name ≡ false → (rows : List Row)
      → retag (λ (row : Row). retag_if (selects (Among name which) other row && is_free row) (Some by) row) rows ≡ rows
  unheld which by other ne [] = refl
  unheld which by other ne (row ∷ rows) =
      ap (λ (t : Bool). retag_if (t && is_free row) (Some by) row ∷ retag (λ (row : Row). retag_if (selects (Among name which) other row && is_free row) (Some by) row) rows) (none row)
      ∙ ap (λ (rest : List Row). row ∷ rest) (unheld which by other ne rows)
    where
      none : (row : Row) → selects (Among name which) other row ≡ false
      none row = rw ne refl

  pub front_unheld : (which : List Ident) (by : Holder) (front : List QueueState) → AreOther name front → on_queues (held_in (Among name which) by) front ≡ front
  front_unheld which by [] h = refl
  front_unheld which by (s ∷ ss) h =
      ap (λ (rows : List Row). let q : StateQueue = record s.queue { rows = rows } in let t : QueueState = record s { queue = q } in t ∷ on_queues (held_in (Among name which) by) ss) (unheld which by s.queue.name (other_way name s.queue.name h.0) s.queue.rows)
      ∙ ap (λ (ts : List QueueState). s ∷ ts) (front_unheld which by ss h.1)

on_last : (f : StateQueue → StateQueue) (front : List QueueState) (last : QueueState) → on_queues f (front ++ last ∷ []) ≡ on_queues f front ++ on_queue f last ∷ []
on_last f [] last = refl
on_last f (s ∷ ss) last = ap (λ (ts : List QueueState). on_queue f s ∷ ts) (on_last f ss last)

-- ---- its rows

-- a row behind all of a shelf is the last one
put_last : (new : Row) (k : ℕ) (done : List Row) → AllByRecursion (λ (row : Row). row.place.lane ≤ new.place.lane) done → insert_row new (numbered k done) ≡ numbered k done ++ new ∷ []
put_last new k [] h = refl
put_last new k (row ∷ rows) h =
    ap (λ (b : Bool). cond b (record row { place = record row.place { arrival = k + 1 } } ∷ insert_row new (numbered (k + 1) rows)) (new ∷ record row { place = record row.place { arrival = k + 1 } } ∷ numbered (k + 1) rows)) (low row.place.lane new.place.lane h.0)
    ∙ ap (λ (rest : List Row). record row { place = record row.place { arrival = k + 1 } } ∷ rest) (put_last new (k + 1) rows h.1)
  where
    low : (a b : ℕ) → a ≤ b → nat_le a b ≡ true
    low a b le = grind (arith, nat_tests)

abbrev pub numbered_row : ℕ → Row → Row
numbered_row n row = record row { place = record row.place { arrival = n } }

numbered_last : (k : ℕ) (done : List Row) (row : Row) → numbered k (done ++ row ∷ []) ≡ numbered k done ++ numbered_row (k + length done + 1) row ∷ []
numbered_last k [] row = let e : k + 0 + 1 ≡ k + 1 = omega arith in ap (λ (n : ℕ). numbered_row n row ∷ []) (sym e)
numbered_last k (x ∷ xs) row =
    let e : k + 1 + length xs + 1 ≡ k + length (x ∷ xs) + 1 = omega arith in
    ap (λ (rest : List Row). numbered_row (k + 1) x ∷ rest) (numbered_last (k + 1) xs row ∙ ap (λ (n : ℕ). numbered (k + 1) xs ++ numbered_row n row ∷ []) e)

numbered_from : (done : List Row) (row : Row) → numbered 0 (done ++ row ∷ []) ≡ numbered 0 done ++ numbered_row (length done + 1) row ∷ []
numbered_from done row = let e : 0 + length done + 1 ≡ length done + 1 = omega arith in numbered_last 0 done row ∙ ap (λ (n : ℕ). numbered 0 done ++ numbered_row n row ∷ []) e

lacks_numbered : (i : Ident) (k : ℕ) (done : List Row) → Lacks i done → Lacks i (numbered k done)
lacks_numbered i k [] h = tt
lacks_numbered i k (row ∷ rows) h = (h.0, lacks_numbered i (k + 1) rows h.1)

-- the last row alone is held
held_last : (name : List ℕ) (by : Holder) (new : Row) → new.by ≡ None → (rows : List Row) → Lacks new.message.ident rows
    → retag (λ (row : Row). retag_if (selects (Among name (new.message.ident ∷ [])) name row && is_free row) (Some by) row) (rows ++ new ∷ []) ≡ rows ++ record new { by = Some by } ∷ []
held_last name by new free [] h = ap (λ (t : Bool). retag_if t (Some by) new ∷ []) one
  where
    one : (selects (Among name (new.message.ident ∷ [])) name new && is_free new) ≡ true
    one = rw (same_name name, same_self new.message.ident, free) refl
held_last name by new free (row ∷ rows) h =
    ap (λ (t : Bool). retag_if t (Some by) row ∷ retag (λ (row : Row). retag_if (selects (Among name (new.message.ident ∷ [])) name row && is_free row) (Some by) row) (rows ++ new ∷ [])) none
    ∙ ap (λ (rest : List Row). row ∷ rest) (held_last name by new free rows h.1)
  where
    none : (selects (Among name (new.message.ident ∷ [])) name row && is_free row) ≡ false
    none = rw (same_name name, h.0) refl

-- ---- a row more

abbrev pub IsLaned : Bool → Row → Type 0
IsLaned b row = row.place.lane ≡ lane_of b row.message

-- behind it in its lane, and another one
abbrev pub IsBehind : Row → Row → Type 0
IsBehind x y = (x.place.lane ≤ y.place.lane) × (same_ident x.message.ident y.message.ident ≡ false)

behind_lanes : (row : Row) (done : List Row) → AllByRecursion (λ (x : Row). IsBehind x row) done → AllByRecursion (λ (x : Row). x.place.lane ≤ row.place.lane) done
behind_lanes row [] h = tt
behind_lanes row (x ∷ xs) h = (h.0.0, behind_lanes row xs h.1)

behind_lacks : (row : Row) (done : List Row) → AllByRecursion (λ (x : Row). IsBehind x row) done → Lacks row.message.ident done
behind_lacks row [] h = tt
behind_lacks row (x ∷ xs) h = (h.0.1, behind_lacks row xs h.1)

-- the row as it stands, and its queue
abbrev made_row : Bool → ℕ → Message → Option Holder → Row
made_row b n m by = record { place = record { lane = lane_of b m; arrival = n }; message = m; by = by }

abbrev laid : List ℕ → Bool → ℕ → List Row → QueueState
laid name b n rows = record { queue = record { name = name; rows = rows; arrivals = n; due = 0; last_due = None; switched_off = false }; by_priority = b; pending = 0 }

made_numbered : (b : Bool) (n : ℕ) (row : Row) → IsLaned b row → numbered_row n row ≡ made_row b n row.message row.by
made_numbered b n row e = ap (λ (lane : ℕ). let r : Row = record { place = record { lane = lane; arrival = n }; message = row.message; by = row.by } in r) e

module _ (name : List ℕ) (b : Bool) (front : List QueueState) (others : AreOther name front) where
  held_there : (n : ℕ) (rows : List Row) (m : Message) (k : ℕ) (by : Option Holder) → Lacks m.ident rows
      → held_as name m.ident by (front ++ laid name b n (rows ++ made_row b k m None ∷ []) ∷ []) ≡ front ++ laid name b n (rows ++ made_row b k m by ∷ []) ∷ []
  held_there n rows m k None lacks = refl
  held_there n rows m k (Some by) lacks =
      on_last (held_in (Among name (m.ident ∷ [])) by) front (laid name b n (rows ++ made_row b k m None ∷ []))
      ∙ ap (λ (ts : List QueueState). ts ++ on_queue (held_in (Among name (m.ident ∷ [])) by) (laid name b n (rows ++ made_row b k m None ∷ [])) ∷ []) (front_unheld name (m.ident ∷ []) by front others)
      ∙ ap (λ (rs : List Row). front ++ laid name b n rs ∷ []) (held_last name by (made_row b k m None) refl rows lacks)

  placed_there : (done : List Row) (row : Row) → IsLaned b row → AllByRecursion (λ (x : Row). x.place.lane ≤ row.place.lane) done
      → change_state name (arrived row.message) (change_state name expecting (front ++ with_rows name b done ∷ [])) ≡ front ++ laid name b (length done + 1) (numbered 0 done ++ made_row b (length done + 1) row.message None ∷ []) ∷ []
  placed_there done row lane low =
      ap (change_state name (arrived row.message)) (last_changed name (with_rows name b done) (same_name name) expecting front others)
      ∙ last_changed name (expecting (with_rows name b done)) (same_name name) (arrived row.message) front others
      ∙ ap (λ (rs : List Row). front ++ laid name b (length done + 1) rs ∷ [])
      (put_last (made_row b (length done + 1) row.message None) 0 done (subst (λ (l : ℕ). AllByRecursion (λ (x : Row). x.place.lane ≤ l) done) lane low))

  stands_there : (done : List Row) (row : Row) → IsLaned b row
      → front ++ laid name b (length done + 1) (numbered 0 done ++ made_row b (length done + 1) row.message row.by ∷ []) ∷ [] ≡ front ++ with_rows name b (done ++ row ∷ []) ∷ []
  stands_there done row lane =
      let more : length done + 1 ≡ length (done ++ row ∷ []) = sym (length-append done (row ∷ [])) in
      ap (λ (r : Row). front ++ laid name b (length done + 1) (numbered 0 done ++ r ∷ []) ∷ []) (sym (made_numbered b (length done + 1) row lane))
      ∙ ap (λ (rs : List Row). front ++ laid name b (length done + 1) rs ∷ []) (sym (numbered_from done row))
      ∙ ap (λ (n : ℕ). front ++ laid name b n (numbered 0 (done ++ row ∷ [])) ∷ []) more

  row_laid : (done : List Row) (row : Row) → IsLaned b row → AllByRecursion (λ (x : Row). IsBehind x row) done
      → row_added name row (front ++ with_rows name b done ∷ []) ≡ front ++ with_rows name b (done ++ row ∷ []) ∷ []
  row_laid done row lane behind =
      ap (held_as name row.message.ident row.by) (placed_there done row lane (behind_lanes row done behind))
      ∙ held_there (length done + 1) (numbered 0 done) row.message (length done + 1) row.by (lacks_numbered row.message.ident 0 done (behind_lacks row done behind))
      ∙ stands_there done row lane

  pub rows_laid : (done rows : List Row) → AllByRecursion (IsLaned b) rows → Fronts IsBehind done rows
      → rows_added name rows (front ++ with_rows name b done ∷ []) ≡ front ++ with_rows name b (done ++ rows) ∷ []
  rows_laid done [] lanes behind = ap (λ (rs : List Row). front ++ with_rows name b rs ∷ []) (sym (append-nil done))
  rows_laid done (row ∷ rows) lanes behind =
      ap (rows_added name rows) (row_laid done row lanes.0 behind.0)
      ∙ rows_laid (done ++ row ∷ []) rows lanes.1 behind.1
      ∙ ap (λ (rs : List Row). front ++ with_rows name b rs ∷ []) (append_assoc done (row ∷ []) rows)

  nowhere_last : (i : Ident) (last : QueueState) → IsNowhere i front → Lacks i last.queue.rows → IsNowhere i (front ++ last ∷ [])
  nowhere_last i last h lacks = by front h
    where
      by : (ss : List QueueState) → IsNowhere i ss → IsNowhere i (ss ++ last ∷ [])
      by [] h = (lacks, tt)
      by (s ∷ ss) h = (h.0, by ss h.1)

  row_can : (done : List Row) (row : Row) → IsNowhere row.message.ident front → Lacks row.message.ident done → length done + 1 < 2 ^ 64 → CanAdd name row (front ++ with_rows name b done ∷ [])
  row_can done row away lacks few =
      let there = last_changed name (with_rows name b done) (same_name name) expecting front others in
      let lacking = lacks_numbered row.message.ident 0 done lacks in
      let can : CanPlace row.message (expecting (with_rows name b done)) = record { expected = omega arith; fresh = lacking; count = few } in
      record {
        can = subst (λ (o : Option QueueState). IfSome o (CanPlace row.message)) (sym (ap (state_in name) there ∙ last_in name (expecting (with_rows name b done)) (same_name name) front others)) can;
        fresh = subst (IsNowhere row.message.ident) (sym there) (nowhere_last row.message.ident (expecting (with_rows name b done)) away lacking);
      }

  pub rows_can : (done rows : List Row) → AllByRecursion (IsLaned b) rows → Fronts IsBehind done rows → AllByRecursion (λ (row : Row). IsNowhere row.message.ident front) rows → length done + length rows < 2 ^ 64
      → CanAddAll name rows (front ++ with_rows name b done ∷ [])
  rows_can done [] lanes behind away few = tt
  rows_can done (row ∷ rows) lanes behind away few = (
    row_can done row away.0 (behind_lacks row done behind.0) (omega (arith, few)),
    subst (CanAddAll name rows) (sym (row_laid done row lanes.0 behind.0))
        (rows_can (done ++ row ∷ []) rows lanes.1 behind.1 away.1 (let e = length-append done (row ∷ []) in omega (arith, few, e))),
  )
