-- One row that goes.
use Rattle.std.proofs.Common.{◌≡◌, ℕ, ◌+◌, ◌≤◌, Bool, true, false, cond, List, [], ◌∷◌, ◌++◌, length, refl, ap, arith, sym, ◌∙◌}
use Rattle.std.specs.Prelude.{Option, Some, None, find, filter, not}
use Rattle.std.specs.Option.{option_map}
use Rattle.std.specs.Str.{bytes_eq}
use Rattle.mq_calls.specs.declared.deltas.Did.TheVariants as did
use Rattle.mq_calls.specs.declared.deltas.Why.TheVariants as whys
use Rattle.mq_calls.specs.declared.records.LogRecord.TheVariants as records
use Rattle.std.proofs.lemmas.List.{append-nil}
use Rattle.mq_record.specs.Room.{Buffered, with_piece}
use Rattle.mq_record.specs.Records.{record_bytes, unit_front, remove_bytes, IsRemove, IsRecord}
use Rattle.mq_record.proofs.SizeLaws.{remove_whole}
use Rattle.mq_queue.proofs.Edits.{same_is}
use Rattle.mq_calls.specs.State.{Queue as StateQueue}
use Rattle.mq_calls.specs.Words.{Ident, Row, Part, Among, Step, Do, has_ident, is_persistent, stored, queue_in, kept_in, selects, apply}
use Rattle.mq_calls.specs.declared.records.Remove.{Remove}
use Rattle.mq_calls.specs.State.Change.{Leave}
use Rattle.mq_spec_manager.specs.Words.{Never, removal_part, removal_record}
use Rattle.mq_spec_manager.specs.Agents.{HasFreeRow, row_with, discard, discard_rows}
use Rattle.mq_place.specs.States.{queues_of}
use Rattle.mq_core.specs.Views.{PartsValue, plain_of}
use Rattle.mq_core.specs.Ties.{Tied, mode_is_up, one_if, times_in_rows, times_in_queues}
use Rattle.mq_core.proofs.ForceLaws.{times_keep}
use Rattle.mq_agents.specs.Removing.{lasts, removed_one}
use Rattle.mq_agents.proofs.EndLaws.{with_rows, tied_rows, rows_view}

some_row : (a b : Row) → Some a ≡ Some b → a ≡ b
some_row a b e = grind (arith, e)

none_left : (i : Ident) (rows : List Row) → times_in_rows i rows ≤ 0 → filter (has_ident i) rows ≡ []
none_left i [] le = refl
none_left i (row ∷ rows) le = by (has_ident i row) le (none_left i rows)
  where
    by : (b : Bool) → one_if b + times_in_rows i rows ≤ 0 → (times_in_rows i rows ≤ 0 → filter (has_ident i) rows ≡ []) → cond b (row ∷ filter (has_ident i) rows) (filter (has_ident i) rows) ≡ []
    by true le rest = absurd (omega (arith, le))
    by false le rest = rest (omega (arith, le))

-- a row whose ident stands once is the only one that has it
only_row : (i : Ident) (rows : List Row) (row : Row) → times_in_rows i rows ≤ 1 → find (has_ident i) rows ≡ Some row → filter (has_ident i) rows ≡ row ∷ []
only_row i [] row le e = absurd cc
only_row i (x ∷ rows) row le e = by (has_ident i x) le e (only_row i rows row)
  where
    by : (b : Bool) → one_if b + times_in_rows i rows ≤ 1 → cond b (Some x) (find (has_ident i) rows) ≡ Some row → (times_in_rows i rows ≤ 1 → find (has_ident i) rows ≡ Some row → filter (has_ident i) rows ≡ row ∷ [])
        → cond b (x ∷ filter (has_ident i) rows) (filter (has_ident i) rows) ≡ row ∷ []
    by true le e rest = (λ k. some_row x row e k ∷ none_left i rows (omega (arith, le)) k)
    by false le e rest = rest (omega (arith, le)) e

has_it : (i : Ident) (rows : List Row) (row : Row) → find (has_ident i) rows ≡ Some row → has_ident i row ≡ true
has_it i [] row e = absurd cc
has_it i (x ∷ rows) row e = by (has_ident i x) refl e (has_it i rows row)
  where
    by : (b : Bool) → has_ident i x ≡ b → cond b (Some x) (find (has_ident i) rows) ≡ Some row → (find (has_ident i) rows ≡ Some row → has_ident i row ≡ true) → has_ident i row ≡ true
    by true h e rest = ap (has_ident i) (sym (some_row x row e)) ∙ h
    by false h e rest = rest e

pub ident_of_row : (i : Ident) (rows : List Row) (row : Row) → find (has_ident i) rows ≡ Some row → row.message.ident ≡ i
ident_of_row i rows row e = same_is row.message.ident i (has_it i rows row e)

times_of : (i : Ident) (name : List ℕ) (qs : List StateQueue) → times_in_rows i (queue_in name qs).rows ≤ times_in_queues i qs
times_of i name [] = omega arith
times_of i name (q ∷ qs) = by (bytes_eq name q.name) (times_of i name qs)
  where
    by : (b : Bool) → times_in_rows i (queue_in name qs).rows ≤ times_in_queues i qs → times_in_rows i (cond b q (queue_in name qs)).rows ≤ times_in_rows i q.rows + times_in_queues i qs
    by true rest = omega arith
    by false rest = omega (arith, rest)

-- what the step is
abbrev pub one_part : List ℕ → Ident → Bool → Part
one_part queue ident b = record {
  forced = cond b (Some (records.Unit [] (record { queue = queue; ident = ident } ∷ []))) None;
  changes = Leave (Among queue (ident ∷ [])) ∷ [];
  delta = did.Removed queue ident whys.Discarded ∷ [];
}

part_of : (queue : List ℕ) (row : Row) → removal_part whys.Discarded queue (row ∷ []) ≡ one_part queue row.message.ident (is_persistent row.message)
part_of queue row = by (is_persistent row.message)
  where
    by : (b : Bool) → record { forced = removal_record queue (cond b (row ∷ []) []); changes = Leave (Among queue (row.message.ident ∷ [])) ∷ []; delta = did.Removed queue row.message.ident whys.Discarded ∷ [] } ≡ one_part queue row.message.ident b
    by true = refl
    by false = refl

step_of : List ℕ → List Row → Step Never (Unit {0})
step_of queue rows = discard_rows queue rows

unfoldable pub one_step : List ℕ → Ident → Bool → Step Never (Unit {0})
one_step queue ident b = Do tt (one_part queue ident b ∷ [])

pub discards_as : (queue : List ℕ) (ident : Ident) (x : PartsValue) → Tied x → HasFreeRow queue ident (plain_of x)
    → discard queue ident (plain_of x) ≡ Do tt (one_part queue ident (lasts (row_with (Some ident) (stored queue (plain_of x)).rows)) ∷ [])
unfolding step_of one_step
discards_as queue ident x t h =
    let rows = (stored queue (plain_of x)).rows in
    let few : times_in_rows ident rows ≤ 1 = let a = times_of ident queue (queues_of x.queues.states) in let b = t.idents.once ident in omega (arith, a, b) in
    let ident_is = ident_of_row ident rows h.row h.found in
    let there : lasts (row_with (Some ident) rows) ≡ is_persistent h.row.message = ap (λ (o : Option Row). lasts (option_map (λ (row : Row). row.message) o)) h.found in
    ap (step_of queue) (only_row ident rows h.row few h.found)
    ∙ ap (λ (part : Part). Do tt (part ∷ [])) (part_of queue h.row)
    ∙ ap (λ (i : Ident). one_step queue i (is_persistent h.row.message)) ident_is
    ∙ ap (one_step queue ident) (sym there)

-- the row is gone
pub tied_removed : (queue : List ℕ) (ident : Ident) (x : PartsValue) → Tied x → Tied (removed_one queue ident x)
unfolding with_rows
tied_removed queue ident x t =
    tied_rows (kept_in (Among queue (ident ∷ []))) (λ q. refl) (λ i q. times_keep i (λ (row : Row). not (selects (Among queue (ident ∷ [])) q.name row)) q.rows) x.ends x (λ w. w) t

pub removed_view : (queue : List ℕ) (ident : Ident) (x : PartsValue) → mode_is_up x.mode ≡ true → plain_of (removed_one queue ident x) ≡ apply (Leave (Among queue (ident ∷ []))) (plain_of x)
unfolding with_rows
removed_view queue ident x up = rows_view (kept_in (Among queue (ident ∷ []))) x.ends x up

-- The bytes of its record, piece by piece.
pub remove_are : (r : Remove) (front : List ℕ) (c p a : Buffered) → c.bytes ≡ [] → front ≡ unit_front 0 1 → p ≡ with_piece front c → a ≡ with_piece (remove_bytes r) p → a.bytes ≡ record_bytes (records.Unit [] (r ∷ []))
remove_are r front c p a none is first second =
    ap (λ (b : Buffered). b.bytes) second ∙ ap (λ (b : Buffered). b.bytes ++ remove_bytes r) first ∙ ap (λ (bs : List ℕ). (bs ++ front) ++ remove_bytes r) none
    ∙ ap (λ (bs : List ℕ). bs ++ remove_bytes r) is
    ∙ ap (λ (bs : List ℕ). unit_front 0 1 ++ bs) (sym (append-nil (remove_bytes r)))

pub remove_record : (r : Remove) → IsRemove r → IsRecord (records.Unit [] (r ∷ []))
remove_record r is = (record { count = omega arith; each = tt }, record { count = omega arith; each = (is, tt) })

pub remove_length : (r : Remove) → IsRemove r → length (remove_bytes r) ≡ 65
remove_length r is = remove_whole r is
