-- What is done to rows with one ident, where it is known what they are.
use Rattle.std.proofs.Common.{◌≡◌, ℕ, Bool, true, false, List, [], ◌∷◌, refl, sym, ap, ◌∙◌}
use Rattle.std.specs.Prelude.{not, ◌||◌, ◌&&◌, if◌then◌else◌, Option, Some, None}
use Rattle.std.specs.List.{list_any}
use Rattle.std.specs.Str.{bytes_eq}
use Rattle.mq_message.specs.declared.message.Ident.{Ident}
use Rattle.mq_message.specs.declared.place.Holder.{Holder}
use Rattle.mq_queue.specs.declared.row.Row.{Row}
use Rattle.mq_queue.specs.Rows.{same_ident, has_ident, is_free, held_by, keep, retag}
use Rattle.mq_calls.specs.declared.image.Shelf.{Shelf}
use Rattle.mq_calls.specs.State.Which.{Among}
use Rattle.mq_calls.specs.Changes.{retag_if}
use Rattle.mq_spec_log.specs.Shelves.{on_all, without_ident, less_rows, held_rows}
use Rattle.mq_shelves.specs.Racks.{any_row, tagged, less_held, freed_held}

abbrev rows_shelf : List ℕ → List Row → Shelf
rows_shelf name rows = record { name = name; rows = rows }

pub neither : (a b : Bool) → (a || b) ≡ false → (a ≡ false) × (b ≡ false)
neither false b e = (refl, e)
neither true b e = absurd (cc e)

-- ---- lists that differ nowhere

rows_kept : (T f g : Row → Bool) → ((row : Row) → T row ≡ false → f row ≡ g row) → (rows : List Row) → list_any T rows ≡ false → keep f rows ≡ keep g rows
rows_kept T f g same [] none = refl
rows_kept T f g same (row ∷ rows) none =
    let parts = neither (T row) (list_any T rows) none in
    ap (λ (b : Bool). if b then row ∷ keep f rows else keep f rows) (same row parts.0)
    ∙ ap (λ (x : List Row). if g row then row ∷ x else x) (rows_kept T f g same rows parts.1)

rows_tagged : (T : Row → Bool) (f g : Row → Row) → ((row : Row) → T row ≡ false → f row ≡ g row) → (rows : List Row) → list_any T rows ≡ false → retag f rows ≡ retag g rows
rows_tagged T f g same [] none = refl
rows_tagged T f g same (row ∷ rows) none =
    let parts = neither (T row) (list_any T rows) none in
    ap (λ (x : Row). x ∷ retag f rows) (same row parts.0) ∙ ap (λ (x : List Row). g row ∷ x) (rows_tagged T f g same rows parts.1)

shelves_kept : (T f g : List ℕ → Row → Bool) → ((n : List ℕ) (row : Row) → T n row ≡ false → f n row ≡ g n row) → (ss : List Shelf)
    → list_any (λ (s : Shelf). list_any (T s.name) s.rows) ss ≡ false
    → on_all (λ (s : Shelf). record s { rows = keep (f s.name) s.rows }) ss ≡ on_all (λ (s : Shelf). record s { rows = keep (g s.name) s.rows }) ss
shelves_kept T f g same [] none = refl
shelves_kept T f g same (s ∷ ss) none =
    let parts = neither (list_any (T s.name) s.rows) (list_any (λ (s : Shelf). list_any (T s.name) s.rows) ss) none in
    ap (λ (rows : List Row). rows_shelf s.name rows ∷ on_all (λ (s : Shelf). record s { rows = keep (f s.name) s.rows }) ss) (rows_kept (T s.name) (f s.name) (g s.name) (same s.name) s.rows parts.0)
    ∙ ap (λ (x : List Shelf). rows_shelf s.name (keep (g s.name) s.rows) ∷ x) (shelves_kept T f g same ss parts.1)

shelves_tagged : (T : List ℕ → Row → Bool) (f g : List ℕ → Row → Row) → ((n : List ℕ) (row : Row) → T n row ≡ false → f n row ≡ g n row) → (ss : List Shelf)
    → list_any (λ (s : Shelf). list_any (T s.name) s.rows) ss ≡ false
    → on_all (λ (s : Shelf). record s { rows = retag (f s.name) s.rows }) ss ≡ on_all (λ (s : Shelf). record s { rows = retag (g s.name) s.rows }) ss
shelves_tagged T f g same [] none = refl
shelves_tagged T f g same (s ∷ ss) none =
    let parts = neither (list_any (T s.name) s.rows) (list_any (λ (s : Shelf). list_any (T s.name) s.rows) ss) none in
    ap (λ (rows : List Row). rows_shelf s.name rows ∷ on_all (λ (s : Shelf). record s { rows = retag (f s.name) s.rows }) ss) (rows_tagged (T s.name) (f s.name) (g s.name) (same s.name) s.rows parts.0)
    ∙ ap (λ (x : List Shelf). rows_shelf s.name (retag (g s.name) s.rows) ∷ x) (shelves_tagged T f g same ss parts.1)

-- ---- all rows stay as they are

rows_whole : (rows : List Row) → keep (λ (row : Row). true) rows ≡ rows
rows_whole [] = refl
rows_whole (row ∷ rows) = ap (λ (x : List Row). row ∷ x) (rows_whole rows)

shelves_whole : (ss : List Shelf) → on_all (λ (s : Shelf). record s { rows = keep (λ (row : Row). true) s.rows }) ss ≡ ss
shelves_whole [] = refl
shelves_whole (s ∷ ss) =
    ap (λ (rows : List Row). rows_shelf s.name rows ∷ on_all (λ (s : Shelf). record s { rows = keep (λ (row : Row). true) s.rows }) ss) (rows_whole s.rows)
    ∙ ap (λ (x : List Shelf). s ∷ x) (shelves_whole ss)

rows_same : (rows : List Row) → retag (λ (row : Row). row) rows ≡ rows
rows_same [] = refl
rows_same (row ∷ rows) = ap (λ (x : List Row). row ∷ x) (rows_same rows)

shelves_same : (ss : List Shelf) → on_all (λ (s : Shelf). record s { rows = retag (λ (row : Row). row) s.rows }) ss ≡ ss
shelves_same [] = refl
shelves_same (s ∷ ss) =
    ap (λ (rows : List Row). rows_shelf s.name rows ∷ on_all (λ (s : Shelf). record s { rows = retag (λ (row : Row). row) s.rows }) ss) (rows_same s.rows)
    ∙ ap (λ (x : List Shelf). s ∷ x) (shelves_same ss)

module _ (ident : Ident) (ss : List Shelf) where
  -- ---- no row has the ident

  pub none_gone : any_row (λ n row. true) ident ss ≡ false → on_all (without_ident ident) ss ≡ ss
  none_gone none = shelves_kept (λ n row. has_ident ident row) (λ n row. not (has_ident ident row)) (λ n row. true) (λ n row e. ap not e) ss none ∙ shelves_whole ss

  pub none_tagged : (by : Option Holder) → any_row (λ n row. true) ident ss ≡ false → on_all (tagged ident by) ss ≡ ss
  none_tagged by none = shelves_tagged (λ n row. has_ident ident row) (λ n row. if has_ident ident row then record row { by = by } else row) (λ n row. row)
      (λ n row e. ap (λ (b : Bool). if b then record row { by = by } else row) e) ss none ∙ shelves_same ss

  -- ---- the one that has it goes from a queue
  taken_if : (n q : List ℕ) (row : Row) (on free : Bool) → (not (on && free) && has_ident ident row) ≡ false → not (has_ident ident row) ≡ not (on && list_any (same_ident row.message.ident) (ident ∷ []))
  taken_if n q row true true e = ap not (or_last (has_ident ident row))
    where
      or_last : (b : Bool) → b ≡ (b || false)
      or_last true = refl
      or_last false = refl
  taken_if n q row true false e = ap not e ∙ ap not (sym (ap (λ (b : Bool). b || false) e))
  taken_if n q row false free e = ap not e

  pub taken : (q : List ℕ) → any_row (λ n row. not (bytes_eq n q && is_free row)) ident ss ≡ false → on_all (without_ident ident) ss ≡ on_all (less_rows (Among q (ident ∷ []))) ss
  taken q none = shelves_kept (λ n row. not (bytes_eq n q && is_free row) && has_ident ident row) (λ n row. not (has_ident ident row)) (λ n row. not (bytes_eq n q && list_any (same_ident row.message.ident) (ident ∷ [])))
      (λ n row. taken_if n q row (bytes_eq n q) (is_free row)) ss none

  -- ---- the one that has it is held or isn't, where it is free on a queue
  held_if : (by : Holder) (row : Row) (on free has : Bool) → (not (on && free) && has) ≡ false → (if has then record row { by = Some by } else row) ≡ retag_if ((on && (has || false)) && free) (Some by) row
  held_if by row true true true e = refl
  held_if by row true true false e = refl
  held_if by row true false true e = absurd (cc e)
  held_if by row true false false e = refl
  held_if by row false free true e = absurd (cc e)
  held_if by row false free false e = refl

  pub held_there : (by : Holder) (q : List ℕ) → any_row (λ n row. not (bytes_eq n q && is_free row)) ident ss ≡ false → on_all (tagged ident (Some by)) ss ≡ on_all (held_rows (Among q (ident ∷ [])) by) ss
  held_there by q none = shelves_tagged (λ n row. not (bytes_eq n q && is_free row) && has_ident ident row) (λ n row. if has_ident ident row then record row { by = Some by } else row)
      (λ n row. retag_if ((bytes_eq n q && list_any (same_ident row.message.ident) (ident ∷ [])) && is_free row) (Some by) row)
      (λ n row. held_if by row (bytes_eq n q) (is_free row) (has_ident ident row)) ss none

  not_held_if : (by : Holder) (row : Row) (on free has : Bool) → ((on && free) && has) ≡ false → retag_if ((on && (has || false)) && free) (Some by) row ≡ row
  not_held_if by row true true true e = absurd (cc e)
  not_held_if by row true true false e = refl
  not_held_if by row true false true e = refl
  not_held_if by row true false false e = refl
  not_held_if by row false free has e = refl

  pub not_held_there : (by : Holder) (q : List ℕ) → any_row (λ n row. bytes_eq n q && is_free row) ident ss ≡ false → ss ≡ on_all (held_rows (Among q (ident ∷ [])) by) ss
  not_held_there by q none = sym (shelves_tagged (λ n row. (bytes_eq n q && is_free row) && has_ident ident row)
      (λ n row. retag_if ((bytes_eq n q && list_any (same_ident row.message.ident) (ident ∷ [])) && is_free row) (Some by) row) (λ n row. row)
      (λ n row. not_held_if by row (bytes_eq n q) (is_free row) (has_ident ident row)) ss none ∙ shelves_same ss)

  -- ---- the one that has it goes or is free again, where that holder has it
  gone_if : (h has : Bool) → (not h && has) ≡ false → not has ≡ not (h && has)
  gone_if true has e = refl
  gone_if false has e = ap not e

  pub held_gone : (by : Holder) → any_row (λ n row. not (held_by by row.by)) ident ss ≡ false → on_all (without_ident ident) ss ≡ on_all (less_held by ident) ss
  held_gone by none = shelves_kept (λ n row. not (held_by by row.by) && has_ident ident row) (λ n row. not (has_ident ident row)) (λ n row. not (held_by by row.by && has_ident ident row))
      (λ n row. gone_if (held_by by row.by) (has_ident ident row)) ss none

  pub not_held_gone : (by : Holder) → any_row (λ n row. held_by by row.by) ident ss ≡ false → ss ≡ on_all (less_held by ident) ss
  not_held_gone by none = sym (shelves_kept (λ n row. held_by by row.by && has_ident ident row) (λ n row. not (held_by by row.by && has_ident ident row)) (λ n row. true)
      (λ n row e. ap not e) ss none ∙ shelves_whole ss)

  freed_if : (row : Row) (h has : Bool) → (not h && has) ≡ false → (if has then record row { by = None } else row) ≡ (if h && has then record row { by = None } else row)
  freed_if row true has e = refl
  freed_if row false has e = ap (λ (b : Bool). if b then record row { by = None } else row) e

  pub held_freed : (by : Holder) → any_row (λ n row. not (held_by by row.by)) ident ss ≡ false → on_all (tagged ident None) ss ≡ on_all (freed_held by ident) ss
  held_freed by none = shelves_tagged (λ n row. not (held_by by row.by) && has_ident ident row) (λ n row. if has_ident ident row then record row { by = None } else row)
      (λ n row. if held_by by row.by && has_ident ident row then record row { by = None } else row)
      (λ n row. freed_if row (held_by by row.by) (has_ident ident row)) ss none

  pub not_held_freed : (by : Holder) → any_row (λ n row. held_by by row.by) ident ss ≡ false → ss ≡ on_all (freed_held by ident) ss
  not_held_freed by none = sym (shelves_tagged (λ n row. held_by by row.by && has_ident ident row) (λ n row. if held_by by row.by && has_ident ident row then record row { by = None } else row) (λ n row. row)
      (λ n row e. ap (λ (b : Bool). if b then record row { by = None } else row) e) ss none ∙ shelves_same ss)

-- no row has an ident that was dropped
pub dropped : (ident : Ident) (ss : List Shelf) → any_row (λ n row. true) ident (on_all (without_ident ident) ss) ≡ false
dropped ident [] = refl
dropped ident (s ∷ ss) = ap (λ (b : Bool). b || any_row (λ n row. true) ident (on_all (without_ident ident) ss)) (of_rows s.rows) ∙ dropped ident ss
  where
    of_rows : (rows : List Row) → list_any (λ (row : Row). has_ident ident row) (keep (λ (row : Row). not (has_ident ident row)) rows) ≡ false
    of_rows [] = refl
    of_rows (row ∷ rows) = by (of_rows rows) (has_ident ident row) refl
      where
        by : list_any (λ (row : Row). has_ident ident row) (keep (λ (row : Row). not (has_ident ident row)) rows) ≡ false → (b : Bool) → has_ident ident row ≡ b
            → list_any (λ (row : Row). has_ident ident row) (if not (has_ident ident row) then row ∷ keep (λ (row : Row). not (has_ident ident row)) rows else keep (λ (row : Row). not (has_ident ident row)) rows) ≡ false
        by rest true h = ap (λ (b : Bool). list_any (λ (row : Row). has_ident ident row) (if not b then row ∷ keep (λ (row : Row). not (has_ident ident row)) rows else keep (λ (row : Row). not (has_ident ident row)) rows)) h ∙ rest
        by rest false h =
            ap (λ (b : Bool). list_any (λ (row : Row). has_ident ident row) (if not b then row ∷ keep (λ (row : Row). not (has_ident ident row)) rows else keep (λ (row : Row). not (has_ident ident row)) rows)) h
            ∙ ap (λ (b : Bool). b || list_any (λ (row : Row). has_ident ident row) (keep (λ (row : Row). not (has_ident ident row)) rows)) h ∙ rest
