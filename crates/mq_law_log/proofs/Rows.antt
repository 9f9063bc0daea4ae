-- What lasts of rows that are placed, kept or retagged.
use Rattle.std.proofs.Common.{ℕ, ◌≡◌, Bool, true, false, List, [], ◌∷◌, refl, ap, sym, ◌∙◌, arith}
use Rattle.std.specs.Prelude.{nat_le, not, if◌then◌else◌}
use Rattle.std.specs.List.{AllByRecursion}
use Rattle.std.specs.Str.{bytes_eq}
use Rattle.std.proofs.lemmas.Bool.Decides.{nat_tests}
use Rattle.std.proofs.lemmas.Slice.Eq.{bytes_eq-Decides}
use Rattle.mq_message.specs.declared.message.Ident.{Ident}
use Rattle.mq_queue.specs.declared.row.Row.{Row}
use Rattle.mq_queue.specs.Rows.{same_ident, has_ident, insert_row, keep, retag}
use Rattle.mq_queue.specs.Queues.{Lacks}
pub use Rattle.mq_queue.proofs.Edits.{same_self}
use Rattle.mq_calls.specs.declared.state.Batch.{Batch}
use Rattle.mq_calls.specs.Reads.{is_persistent}
use Rattle.mq_calls.specs.Images.{lasting_row, lasting_rows}
use Rattle.mq_law_log.specs.Keeps.{AreLaned}

pub bool_case : (t : Bool) (P : Bool → Type 0) → (t ≡ true → P true) → (t ≡ false → P false) → P t
bool_case true P a b = a refl
bool_case false P a b = b refl

pub name_is : (a b : List ℕ) → bytes_eq a b ≡ true → a ≡ b
name_is a b e = (bytes_eq-Decides a b).0 e

pub name_self : (a : List ℕ) → bytes_eq a a ≡ true
name_self a = (bytes_eq-Decides a a).1 refl

-- a test that speaks of what lasts alone
pub rows_kept : (bs : List Batch) (t : Row → Bool) → ((row : Row) → t (lasting_row bs row) ≡ t row) → (rows : List Row) → lasting_rows bs (keep t rows) ≡ keep t (lasting_rows bs rows)
rows_kept bs t same [] = refl
rows_kept bs t same (row ∷ rows) = bool_case (t row)
    (λ b. lasting_rows bs (if b then row ∷ keep t rows else keep t rows) ≡ keep t (if is_persistent row.message then lasting_row bs row ∷ lasting_rows bs rows else lasting_rows bs rows))
    (λ e. bool_case (is_persistent row.message) (λ c. (if c then lasting_row bs row ∷ lasting_rows bs (keep t rows) else lasting_rows bs (keep t rows)) ≡ keep t (if c then lasting_row bs row ∷ lasting_rows bs rows else lasting_rows bs rows))
    (λ z. ap (λ (x : List Row). lasting_row bs row ∷ x) (rows_kept bs t same rows)
    ∙ sym (ap (λ (b : Bool). if b then lasting_row bs row ∷ keep t (lasting_rows bs rows) else keep t (lasting_rows bs rows)) (same row ∙ e)))
    (λ z. rows_kept bs t same rows))
    (λ e. bool_case (is_persistent row.message) (λ c. lasting_rows bs (keep t rows) ≡ keep t (if c then lasting_row bs row ∷ lasting_rows bs rows else lasting_rows bs rows))
    (λ z. rows_kept bs t same rows
    ∙ sym (ap (λ (b : Bool). if b then lasting_row bs row ∷ keep t (lasting_rows bs rows) else keep t (lasting_rows bs rows)) (same row ∙ e)))
    (λ z. rows_kept bs t same rows))

-- a change of rows that speaks of what lasts alone
pub rows_tagged : (bs : List Batch) (f g : Row → Row) → ((row : Row) → lasting_row bs (f row) ≡ g (lasting_row bs row)) → ((row : Row) → is_persistent (f row).message ≡ is_persistent row.message)
    → (rows : List Row) → lasting_rows bs (retag f rows) ≡ retag g (lasting_rows bs rows)
rows_tagged bs f g same stays [] = refl
rows_tagged bs f g same stays (row ∷ rows) = ap (λ (b : Bool). if b then lasting_row bs (f row) ∷ lasting_rows bs (retag f rows) else lasting_rows bs (retag f rows)) (stays row)
    ∙ bool_case (is_persistent row.message)
    (λ b. (if b then lasting_row bs (f row) ∷ lasting_rows bs (retag f rows) else lasting_rows bs (retag f rows)) ≡ retag g (if b then lasting_row bs row ∷ lasting_rows bs rows else lasting_rows bs rows))
    (λ e. ap (λ (x : Row). x ∷ lasting_rows bs (retag f rows)) (same row) ∙ ap (λ (x : List Row). g (lasting_row bs row) ∷ x) (rows_tagged bs f g same stays rows))
    (λ e. rows_tagged bs f g same stays rows)

pub rows_alike : (bs cs : List Batch) (f : Row → Row) → ((row : Row) → lasting_row bs (f row) ≡ lasting_row cs row) → ((row : Row) → is_persistent (f row).message ≡ is_persistent row.message)
    → (rows : List Row) → lasting_rows bs (retag f rows) ≡ lasting_rows cs rows
rows_alike bs cs f same stays [] = refl
rows_alike bs cs f same stays (row ∷ rows) = ap (λ (b : Bool). if b then lasting_row bs (f row) ∷ lasting_rows bs (retag f rows) else lasting_rows bs (retag f rows)) (stays row)
    ∙ bool_case (is_persistent row.message)
    (λ b. (if b then lasting_row bs (f row) ∷ lasting_rows bs (retag f rows) else lasting_rows bs (retag f rows)) ≡ (if b then lasting_row cs row ∷ lasting_rows cs rows else lasting_rows cs rows))
    (λ e. ap (λ (x : Row). x ∷ lasting_rows bs (retag f rows)) (same row) ∙ ap (λ (x : List Row). lasting_row cs row ∷ x) (rows_alike bs cs f same stays rows))
    (λ e. rows_alike bs cs f same stays rows)

-- a row that doesn't last
pub row_aside : (bs : List Batch) (new : Row) (rows : List Row) → is_persistent new.message ≡ false → lasting_rows bs (insert_row new rows) ≡ lasting_rows bs rows
row_aside bs new [] e = ap (λ (b : Bool). if b then lasting_row bs new ∷ [] else []) e
row_aside bs new (row ∷ rows) e = bool_case (nat_le row.place.lane new.place.lane)
    (λ b. lasting_rows bs (if b then row ∷ insert_row new rows else new ∷ row ∷ rows) ≡ lasting_rows bs (row ∷ rows))
    (λ z. ap (λ (x : List Row). if is_persistent row.message then lasting_row bs row ∷ x else x) (row_aside bs new rows e))
    (λ z. ap (λ (b : Bool). if b then lasting_row bs new ∷ lasting_rows bs (row ∷ rows) else lasting_rows bs (row ∷ rows)) e)

-- all rows stand in lanes behind
abbrev Above : ℕ → List Row → Type 0
Above lane rows = AllByRecursion (λ (row : Row). nat_le row.place.lane lane ≡ false) rows

front : (new : Row) (rows : List Row) → Above new.place.lane rows → insert_row new rows ≡ new ∷ rows
front new [] h = refl
front new (row ∷ rows) h = ap (λ (b : Bool). if b then row ∷ insert_row new rows else new ∷ row ∷ rows) h.0

beyond : (a b c : ℕ) → nat_le a b ≡ false → nat_le a c ≡ true → nat_le c b ≡ false
beyond a b c e f = grind (arith, nat_tests)

above : (lane first : ℕ) (rows : List Row) → nat_le first lane ≡ false → AllByRecursion (λ (other : Row). nat_le first other.place.lane ≡ true) rows → Above lane rows
above lane first [] e h = tt
above lane first (row ∷ rows) e h = (beyond first lane row.place.lane e h.0, above lane first rows e h.1)

above_last : (bs : List Batch) (lane : ℕ) (rows : List Row) → Above lane rows → Above lane (lasting_rows bs rows)
above_last bs lane [] h = tt
above_last bs lane (row ∷ rows) h = bool_case (is_persistent row.message) (λ b. Above lane (if b then lasting_row bs row ∷ lasting_rows bs rows else lasting_rows bs rows))
    (λ e. (h.0, above_last bs lane rows h.1)) (λ e. above_last bs lane rows h.1)

-- a row that lasts
pub row_placed : (bs : List Batch) (new : Row) (rows : List Row) → AreLaned rows → is_persistent new.message ≡ true → lasting_rows bs (insert_row new rows) ≡ insert_row (lasting_row bs new) (lasting_rows bs rows)
row_placed bs new [] h e = ap (λ (b : Bool). if b then lasting_row bs new ∷ [] else []) e
row_placed bs new (row ∷ rows) h e = bool_case (nat_le row.place.lane new.place.lane)
    (λ b. nat_le row.place.lane new.place.lane ≡ b → lasting_rows bs (if b then row ∷ insert_row new rows else new ∷ row ∷ rows) ≡ insert_row (lasting_row bs new) (lasting_rows bs (row ∷ rows)))
    (λ y z. bool_case (is_persistent row.message)
    (λ c. (if c then lasting_row bs row ∷ lasting_rows bs (insert_row new rows) else lasting_rows bs (insert_row new rows)) ≡ insert_row (lasting_row bs new) (if c then lasting_row bs row ∷ lasting_rows bs rows else lasting_rows bs rows))
    (λ w. ap (λ (x : List Row). lasting_row bs row ∷ x) (row_placed bs new rows h.1 e)
    ∙ sym (ap (λ (b : Bool). if b then lasting_row bs row ∷ insert_row (lasting_row bs new) (lasting_rows bs rows) else lasting_row bs new ∷ lasting_row bs row ∷ lasting_rows bs rows) z))
    (λ w. row_placed bs new rows h.1 e))
    (λ y z. ap (λ (b : Bool). if b then lasting_row bs new ∷ lasting_rows bs (row ∷ rows) else lasting_rows bs (row ∷ rows)) e
    ∙ sym (front (lasting_row bs new) (lasting_rows bs (row ∷ rows)) (above_last bs new.place.lane (row ∷ rows) (z, above new.place.lane row.place.lane rows z h.0))))
    refl

-- an ident that isn't there
pub lacks_last : (bs : List Batch) (ident : Ident) (rows : List Row) → Lacks ident rows → Lacks ident (lasting_rows bs rows)
lacks_last bs ident [] h = tt
lacks_last bs ident (row ∷ rows) h = bool_case (is_persistent row.message) (λ b. Lacks ident (if b then lasting_row bs row ∷ lasting_rows bs rows else lasting_rows bs rows))
    (λ e. (h.0, lacks_last bs ident rows h.1)) (λ e. lacks_last bs ident rows h.1)

pub none_kept_out : (ident : Ident) (rows : List Row) → Lacks ident rows → keep (λ (row : Row). not (has_ident ident row)) rows ≡ rows
none_kept_out ident [] h = refl
none_kept_out ident (row ∷ rows) h = ap (λ (b : Bool). if not b then row ∷ keep (λ (row : Row). not (has_ident ident row)) rows else keep (λ (row : Row). not (has_ident ident row)) rows) h.0
    ∙ ap (λ (x : List Row). row ∷ x) (none_kept_out ident rows h.1)
