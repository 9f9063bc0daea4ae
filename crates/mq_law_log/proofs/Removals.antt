-- Rows that go at once: gets outside units, expiry, DISCARD.
use Rattle.std.proofs.Common.{ℕ, ◌≡◌, Bool, true, false, List, [], ◌∷◌, refl, ap, sym, ◌∙◌}
use Rattle.std.specs.Prelude.{not, ◌&&◌, ◌||◌, if◌then◌else◌}
use Rattle.std.specs.List.{list_any}
use Rattle.std.specs.Str.{bytes_eq}
use Rattle.mq_message.specs.declared.message.Ident.{Ident}
use Rattle.mq_queue.specs.declared.row.Row.{Row}
use Rattle.mq_queue.specs.Rows.{same_ident, keep}
use Rattle.mq_calls.specs.declared.deltas.Why.{Why}
use Rattle.mq_calls.specs.State.{Plain}
use Rattle.mq_calls.specs.State.Which.{Among}
use Rattle.mq_calls.specs.State.Change.{Leave}
use Rattle.mq_calls.specs.Reads.{is_persistent}
use Rattle.mq_calls.specs.Changes.{apply, selects}
use Rattle.mq_spec_manager.specs.Get.{removal_part, removal_record, removes_of, idents_of, persistent_rows}
use Rattle.mq_calls.specs.Images.{lasting}
use Rattle.mq_calls.specs.declared.image.Shelf.{Shelf}
use Rattle.mq_calls.specs.declared.image.Image.{Image}
use Rattle.mq_spec_log.specs.Shelves.{left, less_rows, on_all, removed, removed_all}
use Rattle.mq_spec_log.specs.Applies.{can_remove_all}
use Rattle.mq_law_log.specs.Keeps.{Told, Does, AreGone, IsTakeable, less_item}
use Rattle.mq_law_log.proofs.Rows.{bool_case}
use Rattle.mq_law_log.proofs.Changes.{left_lasts}
use Rattle.mq_law_log.proofs.Parts.{leaving_told}

keep_keep : (s t u : Row → Bool) → ((row : Row) → u row ≡ (t row && s row)) → (rows : List Row) → keep s (keep t rows) ≡ keep u rows
keep_keep s t u same [] = refl
keep_keep s t u same (row ∷ rows) = bool_case (t row)
    (λ b. t row ≡ b → keep s (if b then row ∷ keep t rows else keep t rows) ≡ keep u (row ∷ rows))
    (λ y e. ap (λ (x : List Row). if s row then row ∷ x else x) (keep_keep s t u same rows)
    ∙ sym (ap (λ (b : Bool). if b then row ∷ keep u rows else keep u rows) (same row ∙ ap (λ (b : Bool). b && s row) e)))
    (λ y e. keep_keep s t u same rows ∙ sym (ap (λ (b : Bool). if b then row ∷ keep u rows else keep u rows) (same row ∙ ap (λ (b : Bool). b && s row) e)))
    refl

both : (n a b : Bool) → not (n && (a || b)) ≡ (not (n && (a || false)) && not (n && b))
both true true b = refl
both true false b = refl
both false a b = refl

all_stay : (t : Row → Bool) → ((row : Row) → t row ≡ true) → (rows : List Row) → keep t rows ≡ rows
all_stay t h [] = refl
all_stay t h (row ∷ rows) = ap (λ (b : Bool). if b then row ∷ keep t rows else keep t rows) (h row) ∙ ap (λ (x : List Row). row ∷ x) (all_stay t h rows)

never : (n : Bool) → not (n && false) ≡ true
never true = refl
never false = refl

left_shelves : (queue : List ℕ) (ident : Ident) (idents : List Ident) (ss : List Shelf) → on_all (less_rows (Among queue idents)) (on_all (less_rows (Among queue (ident ∷ []))) ss) ≡ on_all (less_rows (Among queue (ident ∷ idents))) ss
left_shelves queue ident idents [] = refl
left_shelves queue ident idents (s ∷ ss) =
    ap (λ (x : List Row). record s { rows = x } ∷ on_all (less_rows (Among queue idents)) (on_all (less_rows (Among queue (ident ∷ []))) ss))
    (keep_keep (λ (row : Row). not (selects (Among queue idents) s.name row)) (λ (row : Row). not (selects (Among queue (ident ∷ [])) s.name row)) (λ (row : Row). not (selects (Among queue (ident ∷ idents)) s.name row))
    (λ row. both (bytes_eq s.name queue) (same_ident row.message.ident ident) (list_any (same_ident row.message.ident) idents)) s.rows)
    ∙ ap (λ (x : List Shelf). less_rows (Among queue (ident ∷ idents)) s ∷ x) (left_shelves queue ident idents ss)

none_left : (queue : List ℕ) (ss : List Shelf) → on_all (less_rows (Among queue [])) ss ≡ ss
none_left queue [] = refl
none_left queue (s ∷ ss) = ap (λ (x : List Row). record s { rows = x } ∷ on_all (less_rows (Among queue [])) ss) (all_stay (λ (row : Row). not (selects (Among queue []) s.name row)) (λ row. never (bytes_eq s.name queue)) s.rows)
    ∙ ap (λ (x : List Shelf). s ∷ x) (none_left queue ss)

pub rows_told : (queue : List ℕ) (rows : List Row) (i : Image) → AreGone queue rows i
    → (can_remove_all (removes_of queue (persistent_rows rows)) i ≡ true) × (left (Among queue (idents_of rows)) i ≡ removed_all (removes_of queue (persistent_rows rows)) i)
rows_told queue [] i h = (refl, ap (λ (x : List Shelf). record i { shelves = x }) (none_left queue i.shelves))
rows_told queue (row ∷ rows) i h = bool_case (is_persistent row.message)
    (λ b. (can_remove_all (removes_of queue (persistent_rows rows)) (less_item b queue row.message.ident i) ≡ true)
    × (left (Among queue (idents_of rows)) (less_item b queue row.message.ident i) ≡ removed_all (removes_of queue (persistent_rows rows)) (less_item b queue row.message.ident i))
    → left (Among queue (row.message.ident ∷ [])) i ≡ less_item b queue row.message.ident i
    → one b
    → (can_remove_all (removes_of queue (if b then row ∷ persistent_rows rows else persistent_rows rows)) i ≡ true)
    × (left (Among queue (row.message.ident ∷ idents_of rows)) i ≡ removed_all (removes_of queue (if b then row ∷ persistent_rows rows else persistent_rows rows)) i))
    (λ e rest here can. (
      ap (λ (b : Bool). b && can_remove_all (removes_of queue (persistent_rows rows)) (removed (record { queue = queue; ident = row.message.ident }) i)) can ∙ rest.0,
      parted here ∙ rest.1,
    ))
    (λ e rest here can. (rest.0, parted here ∙ rest.1))
    (rows_told queue rows (less_item (is_persistent row.message) queue row.message.ident i) h.1)
    (leaving_told (is_persistent row.message) queue row.message.ident i h.0)
    h.0
  where
    one : Bool → Type 0
    one b = IsTakeable b queue row.message.ident i

    parted : {j : Image} → left (Among queue (row.message.ident ∷ [])) i ≡ j → left (Among queue (row.message.ident ∷ idents_of rows)) i ≡ left (Among queue (idents_of rows)) j
    parted e = ap (λ (x : List Shelf). record i { shelves = x }) (sym (left_shelves queue row.message.ident (idents_of rows) i.shelves)) ∙ ap (left (Among queue (idents_of rows))) e

removal_told : (queue : List ℕ) (rows : List Row) (p : Plain) (new : Image) → can_remove_all (removes_of queue rows) (lasting p) ≡ true → new ≡ removed_all (removes_of queue rows) (lasting p) → Told (removal_record queue rows) p new
removal_told queue [] p new a e = e
removal_told queue (row ∷ rows) p new a e = (ap (λ (b : Bool). b && true) a, e)

-- a get outside units, expired rows, discarded ones
pub removal_does : (why : Why) (queue : List ℕ) (rows : List Row) (p : Plain) → AreGone queue rows (lasting p) → Does (removal_part why queue rows) p
removal_does why queue rows p h = removal_told queue (persistent_rows rows) p (lasting (apply (Leave (Among queue (idents_of rows))) p)) (rows_told queue rows (lasting p) h).0
    (left_lasts queue (idents_of rows) p ∙ (rows_told queue rows (lasting p) h).1)
