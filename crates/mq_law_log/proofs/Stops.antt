-- Stops, stopped writes and restarts: what lasts stays, or is as the record says.
use Rattle.std.proofs.Common.{ℕ, ◌≡◌, Bool, true, false, List, [], ◌∷◌, refl, ap, sym, ◌∙◌, subst, arith}
use Rattle.std.specs.Prelude.{Option, Some, None, not, ◌+◌, max, ◌&&◌, ◌||◌, if◌then◌else◌, map}
use Rattle.std.specs.Str.{bytes_eq}
use Rattle.std.proofs.lemmas.Bool.Decides.{nat_tests}
use Rattle.mq_message.specs.declared.place.Holder.{Holder}
use Rattle.mq_message.specs.declared.place.Holder.TheVariants as holders
use Rattle.mq_queue.specs.declared.row.Row.{Row}
use Rattle.mq_queue.specs.Rows.{keep, held_by, is_free}
use Rattle.mq_calls.specs.declared.records.LogRecord.{LogRecord}
use Rattle.mq_calls.specs.State.{Plain, Queue, Noted}
use Rattle.mq_calls.specs.declared.state.Batch.{Batch}
use Rattle.mq_calls.specs.State.Which.{HeldBy, HeldByUnits, Nonpersistent}
use Rattle.mq_calls.specs.State.Change.{Release, Leave, ForgetAll}
use Rattle.mq_calls.specs.Reads.{is_persistent, is_by_unit}
use Rattle.mq_calls.specs.Changes.{apply, apply_all, kept_in, released_in, release_if, forgotten}
use Rattle.mq_calls.specs.Steps.{Part, do_part, logged, freeze, stands_in, note_of}
use Rattle.mq_spec_manager.specs.Stops.{at_rest, release_batch, redone_if}
use Rattle.mq_calls.specs.Images.{lasting, lasting_row, lasting_rows, rests_by, shelf_of, shelves_of, has_batch, numbered, queue_on}
use Rattle.mq_calls.specs.declared.image.Shelf.{Shelf}
use Rattle.mq_calls.specs.declared.image.Image.{Image}
use Rattle.mq_spec_log.specs.Records.{doing}
use Rattle.mq_spec_log.specs.Applies.{suits}
use Rattle.mq_law_log.specs.Keeps.{Told, Does, Keeps}
use Rattle.mq_law_log.specs.Restarts.{raised, restarted, next_started}
use Rattle.mq_law_log.proofs.Rows.{bool_case, name_is, name_self, rows_alike}
use Rattle.mq_law_log.proofs.Shelves.{shelves_alike, all_of}
use Rattle.mq_law_log.proofs.Parts.{applied_append}

-- Nonpersistent rows last nowhere.
volatile_rows : (bs : List Batch) (rows : List Row) → lasting_rows bs (keep (λ (row : Row). not (not (is_persistent row.message))) rows) ≡ lasting_rows bs rows
volatile_rows bs [] = refl
volatile_rows bs (row ∷ rows) = bool_case (is_persistent row.message)
    (λ b. is_persistent row.message ≡ b → lasting_rows bs (if not (not b) then row ∷ keep (λ (x : Row). not (not (is_persistent x.message))) rows else keep (λ (x : Row). not (not (is_persistent x.message))) rows) ≡ (if b then lasting_row bs row ∷ lasting_rows bs rows else lasting_rows bs rows))
    (λ y e. ap (λ (b : Bool). if b then lasting_row bs row ∷ lasting_rows bs (keep (λ (x : Row). not (not (is_persistent x.message))) rows) else lasting_rows bs (keep (λ (x : Row). not (not (is_persistent x.message))) rows)) e
    ∙ ap (λ (x : List Row). lasting_row bs row ∷ x) (volatile_rows bs rows))
    (λ y e. volatile_rows bs rows)
    refl

volatile_shelves : (bs : List Batch) (qs : List Queue) → shelves_of bs (map (kept_in Nonpersistent) qs) ≡ shelves_of bs qs
volatile_shelves bs qs = shelves_alike bs bs (kept_in Nonpersistent) qs
    (all_of (λ (q : Queue). shelf_of bs (kept_in Nonpersistent q) ≡ shelf_of bs q) (λ (q : Queue). ap (λ (x : List Row). record (shelf_of bs q) { rows = x }) (volatile_rows bs q.rows)) qs)

-- a stopped write
pub frozen_lasts : (noted : Option Noted) (left : ℕ) (p : Plain) → lasting (freeze noted left p) ≡ lasting p
frozen_lasts noted left p = ap (λ (x : List Shelf). record (lasting p) { shelves = x }) (volatile_shelves p.channels.batches p.queues)

-- A stop: units and batches give their rows back.
release_persists : (b c : Bool) (row : Row) → is_persistent (release_if b c row).message ≡ is_persistent row.message
release_persists true true row = refl
release_persists true false row = refl
release_persists false c row = refl

unit_row : (bs : List Batch) (row : Row) → lasting_row bs (release_if (is_by_unit row.by && not (is_free row)) true row) ≡ lasting_row bs row
unit_row bs row = by_holder row.by
  where
    by_holder : (by : Option Holder) → lasting_row bs (release_if (is_by_unit by && not (is_free (record row { by = by }))) true (record row { by = by })) ≡ lasting_row bs (record row { by = by })
    by_holder None = refl
    by_holder (Some (holders.Unit n)) = refl
    by_holder (Some (holders.Batch c)) = refl

units_released : (bs : List Batch) (qs : List Queue) → shelves_of bs (map (released_in HeldByUnits true) qs) ≡ shelves_of bs qs
units_released bs qs = shelves_alike bs bs (released_in HeldByUnits true) qs
    (all_of (λ (q : Queue). shelf_of bs (released_in HeldByUnits true q) ≡ shelf_of bs q) (λ (q : Queue). ap (λ (x : List Row). record (shelf_of bs q) { rows = x })
    (rows_alike bs bs (λ (row : Row). release_if (is_by_unit row.by && not (is_free row)) true row) (λ row. unit_row bs row) (λ row. release_persists (is_by_unit row.by && not (is_free row)) true row) q.rows)) qs)

turned : (a b : List ℕ) (t : Bool) → bytes_eq a b ≡ t → bytes_eq b a ≡ t
turned a b true e = ap (λ (x : List ℕ). bytes_eq x a) (sym (name_is a b e)) ∙ name_self a
turned a b false e = bool_case (bytes_eq b a) (λ t. bytes_eq b a ≡ t → t ≡ false) (λ z w. absurd (cc (e, name_self a, name_is b a w))) (λ z w. refl) refl

batch_row : (b : Batch) (bs : List Batch) (row : Row) → lasting_row bs (release_if (held_by (holders.Batch b.channel) row.by && not (is_free row)) false row) ≡ lasting_row (b ∷ bs) row
batch_row b bs row = by_holder row.by
  where
    by_holder : (by : Option Holder) → lasting_row bs (release_if (held_by (holders.Batch b.channel) by && not (is_free (record row { by = by }))) false (record row { by = by })) ≡ lasting_row (b ∷ bs) (record row { by = by })
    by_holder None = refl
    by_holder (Some (holders.Unit n)) = refl
    by_holder (Some (holders.Batch c)) = bool_case (bytes_eq b.channel c)
        (λ t. bytes_eq b.channel c ≡ t → lasting_row bs (release_if (t && true) false (record row { by = Some (holders.Batch c) })) ≡ lasting_row (b ∷ bs) (record row { by = Some (holders.Batch c) }))
        (λ z e. ap (λ (x : Bool). record (lasting_row bs row) { by = if (x || has_batch c bs) then None else Some (holders.Batch c) }) (sym (turned b.channel c true e)))
        (λ z e. ap (λ (x : Bool). record (lasting_row bs row) { by = if (x || has_batch c bs) then None else Some (holders.Batch c) }) (sym (turned b.channel c false e)))
        refl

batch_released : (b : Batch) (bs : List Batch) (qs : List Queue) → shelves_of bs (map (released_in (HeldBy (holders.Batch b.channel)) false) qs) ≡ shelves_of (b ∷ bs) qs
batch_released b bs qs = shelves_alike bs (b ∷ bs) (released_in (HeldBy (holders.Batch b.channel)) false) qs
    (all_of (λ (q : Queue). shelf_of bs (released_in (HeldBy (holders.Batch b.channel)) false q) ≡ shelf_of (b ∷ bs) q) (λ (q : Queue). ap (λ (x : List Row). record (shelf_of bs q) { rows = x })
    (rows_alike bs (b ∷ bs) (λ (row : Row). release_if (held_by (holders.Batch b.channel) row.by && not (is_free row)) false row) (λ row. batch_row b bs row) (λ row. release_persists (held_by (holders.Batch b.channel) row.by && not (is_free row)) false row) q.rows)) qs)

-- all batches, and then what else a stop does
rested : (bs : List Batch) (p : Plain) → lasting (apply_all (Leave Nonpersistent ∷ ForgetAll ∷ []) (apply_all (map release_batch bs) p)) ≡ record (lasting p) { shelves = shelves_of bs p.queues }
rested [] p = ap (λ (x : List Shelf). record (lasting p) { shelves = x }) (forgotten_shelves (map (kept_in Nonpersistent) p.queues) ∙ volatile_shelves [] p.queues)
  where
    forgotten_shelves : (qs : List Queue) → shelves_of [] (map forgotten qs) ≡ shelves_of [] qs
    forgotten_shelves [] = refl
    forgotten_shelves (q ∷ qs) = ap (λ (x : List Shelf). shelf_of [] q ∷ x) (forgotten_shelves qs)
rested (b ∷ bs) p = rested bs (apply (release_batch b) p) ∙ ap (λ (x : List Shelf). record (lasting p) { shelves = x }) (batch_released b bs p.queues)

pub rest_lasts : (p : Plain) → lasting (at_rest p) ≡ lasting p
rest_lasts p = ap lasting (applied_append (map release_batch p.channels.batches) (Leave Nonpersistent ∷ ForgetAll ∷ []) (apply (Release HeldByUnits true) p))
    ∙ rested p.channels.batches (apply (Release HeldByUnits true) p)
    ∙ ap (λ (x : List Shelf). record (lasting p) { shelves = x }) (units_released p.channels.batches p.queues)

-- A manager that came up from what lasted has it.
again : (bs : List Batch) (by : Option Holder) → rests_by [] (rests_by bs by) ≡ rests_by bs by
again bs None = refl
again bs (Some (holders.Unit n)) = refl
again bs (Some (holders.Batch c)) = bool_case (has_batch c bs) (λ b. rests_by [] (if b then None else Some (holders.Batch c)) ≡ (if b then None else Some (holders.Batch c))) (λ e. refl) (λ e. refl)

numbered_rows : (bs : List Batch) (n : ℕ) (rows : List Row) → lasting_rows [] (numbered n (lasting_rows bs rows)) ≡ lasting_rows bs rows
numbered_rows bs n [] = refl
numbered_rows bs n (row ∷ rows) = bool_case (is_persistent row.message)
    (λ b. is_persistent row.message ≡ b → lasting_rows [] (numbered n (if b then lasting_row bs row ∷ lasting_rows bs rows else lasting_rows bs rows)) ≡ (if b then lasting_row bs row ∷ lasting_rows bs rows else lasting_rows bs rows))
    (λ y e. ap (λ (b : Bool). if b then record (lasting_row bs row) { by = rests_by [] (rests_by bs row.by) } ∷ lasting_rows [] (numbered (n + 1) (lasting_rows bs rows)) else lasting_rows [] (numbered (n + 1) (lasting_rows bs rows))) e
    ∙ ap (λ (x : Option Holder). record (lasting_row bs row) { by = x } ∷ lasting_rows [] (numbered (n + 1) (lasting_rows bs rows))) (again bs row.by)
    ∙ ap (λ (x : List Row). lasting_row bs row ∷ x) (numbered_rows bs (n + 1) rows))
    (λ y e. numbered_rows bs n rows)
    refl

numbered_shelves : (bs : List Batch) (qs : List Queue) → shelves_of [] (map queue_on (shelves_of bs qs)) ≡ shelves_of bs qs
numbered_shelves bs [] = refl
numbered_shelves bs (q ∷ qs) = ap (λ (x : List Row). record (shelf_of bs q) { rows = x } ∷ shelves_of [] (map queue_on (shelves_of bs qs))) (numbered_rows bs 0 q.rows)
    ∙ ap (λ (x : List Shelf). shelf_of bs q ∷ x) (numbered_shelves bs qs)

higher : (n k : ℕ) → n + k + 1 ≡ max n (n + k + 1)
higher n k = grind (arith, nat_tests)

-- a restart has what the log keeps, with its Started record
pub restart_recovers : (kept : Bool) (started : ℕ) (noted : Option Noted) (p : Plain)
    → lasting (restarted kept started noted p) ≡ raised started (lasting (redone_if kept noted p))
restart_recovers kept started noted p = ap (λ (x : List Shelf). record (raised started (lasting (redone_if kept noted p))) { shelves = x }) (numbered_shelves (redone_if kept noted p).channels.batches (redone_if kept noted p).queues)

-- A part that does what its record says keeps the law where its write succeeds; where the write is stopped the image is the one
-- before it, and where a restart finds it the one behind it.
told_logged : (f : Option LogRecord) (p : Plain) (new : Image) → Told f (logged f p) new → Told f p new
told_logged None p new h = h
told_logged (Some r) p new h = h

pub does_keep : (part : Part) (p : Plain) → Does part (logged part.forced p) → Keeps part p
does_keep part p h = told_logged part.forced p (lasting (do_part part p)) h

-- the state in which a kept write is done at a restart
abbrev thawed : LogRecord → Option Noted → ℕ → Plain → Plain
thawed r noted left p = record (freeze noted left p) { log = stands_in r (freeze noted left p).log }

pub redone_is : (part : Part) (r : LogRecord) (left started : ℕ) (p : Plain) → part.forced ≡ Some r
    → Does part (thawed r (note_of part part.forced) left p)
    → (suits p.given r (lasting p) ≡ true)
    × (lasting (restarted true started (note_of part part.forced) (freeze (note_of part part.forced) left p)) ≡ raised started (doing r (lasting p)))
redone_is part r left started p e h = by_record part.forced e h
  where
    by_record : (f : Option LogRecord) → f ≡ Some r → Told f (thawed r (note_of part f) left p) (lasting (apply_all part.changes (thawed r (note_of part f) left p)))
        → (suits p.given r (lasting p) ≡ true) × (lasting (restarted true started (note_of part f) (freeze (note_of part f) left p)) ≡ raised started (doing r (lasting p)))
    by_record None e h = absurd (cc e)
    by_record (Some s) e h = same s (cc e) h
      where
        same : (s : LogRecord) → s ≡ r → Told (Some s) (thawed r (note_of part (Some s)) left p) (lasting (apply_all part.changes (thawed r (note_of part (Some s)) left p)))
            → (suits p.given r (lasting p) ≡ true) × (lasting (restarted true started (note_of part (Some s)) (freeze (note_of part (Some s)) left p)) ≡ raised started (doing r (lasting p)))
        same s w h = subst (λ (x : LogRecord). Told (Some x) (thawed r (note_of part (Some x)) left p) (lasting (apply_all part.changes (thawed r (note_of part (Some x)) left p)))
            → (suits p.given r (lasting p) ≡ true) × (lasting (restarted true started (note_of part (Some x)) (freeze (note_of part (Some x)) left p)) ≡ raised started (doing r (lasting p)))) (sym w)
            (λ (k : Told (Some r) (thawed r (note_of part (Some r)) left p) (lasting (apply_all part.changes (thawed r (note_of part (Some r)) left p)))). (
              subst (λ (i : Image). suits p.given r i ≡ true) (frozen_lasts (note_of part (Some r)) left p) k.0,
              restart_recovers true started (note_of part (Some r)) (freeze (note_of part (Some r)) left p)
                  ∙ ap (raised started) (k.1 ∙ ap (doing r) (frozen_lasts (note_of part (Some r)) left p)),
            )) h

pub undone_is : (noted : Option Noted) (left started : ℕ) (p : Plain) → lasting (restarted false started noted (freeze noted left p)) ≡ raised started (lasting p)
undone_is noted left started p = restart_recovers false started noted (freeze noted left p) ∙ ap (raised started) (frozen_lasts noted left p)

-- the Started record of a restart is what raises the incarnation
pub raised_is : (started : ℕ) (p : Plain) → raised started (lasting p) ≡ doing (next_started started p) (lasting p)
raised_is started p = ap (λ (n : ℕ). record (lasting p) { incarnation = n }) (higher p.numbers.incarnation started)
