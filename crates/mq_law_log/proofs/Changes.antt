-- What each change does to what lasts.
use Rattle.std.proofs.Common.{ℕ, ℤ, ◌≡◌, Bool, true, false, List, refl, ap, sym, ◌∙◌}
use Rattle.std.specs.Prelude.{Option, Some, None, not, ◌&&◌, ◌+◌}
use Rattle.mq_message.specs.declared.message.Ident.{Ident}
use Rattle.mq_message.specs.declared.message.Message.{Message}
use Rattle.mq_message.specs.declared.place.Holder.{Holder}
use Rattle.mq_message.specs.declared.place.Holder.TheVariants as holders
use Rattle.mq_queue.specs.declared.row.Row.{Row}
use Rattle.mq_queue.specs.Rows.{is_free}
use Rattle.mq_objects.specs.Names.{local_of}
use Rattle.mq_calls.specs.State.{Plain, Queue, Change, Which}
use Rattle.mq_calls.specs.declared.state.Batch.{Batch}
use Rattle.mq_calls.specs.State.Which.{Among}
use Rattle.mq_calls.specs.State.Change.{Place as Places, Try, Leave, Hold, Connect, Disconnect, OpenHandle, CloseHandle, SetCursor, Pend, EndUnit, MakeStale, CountIdent, Seize, Unseize, SetBound, SetMoment}
use Rattle.mq_calls.specs.Reads.{stored, is_persistent}
use Rattle.mq_calls.specs.Condition.{condition}
use Rattle.mq_calls.specs.Changes.{apply, lane_of, placed_in, kept_in, held_in, selects, retag_if, try_if, made_due, depth_type, new_row}
use Rattle.mq_calls.specs.Images.{lasting, shelf_of, shelves_of, lasting_row}
use Rattle.mq_calls.specs.declared.image.Shelf.{Shelf}
use Rattle.mq_spec_log.specs.Shelves.{left, shelved, set_shelf, less_rows, shelved_in, cleared}
use Rattle.mq_law_log.specs.Keeps.{AreLaned, has_queue, IsNew, is_aside}
use Rattle.mq_law_log.proofs.Rows.{bool_case, rows_kept, rows_alike, row_aside, row_placed}
use Rattle.mq_law_log.proofs.Shelves.{shelves_set, shelf_found, shelves_mapped, shelves_alike, all_of, found_name, shelf_again, none_without, none_off, set_is_there}

pub with_shelves : (p : Plain) (a b : List Shelf) → a ≡ b → (record (lasting p) { shelves = a }) ≡ (record (lasting p) { shelves = b })
with_shelves p a b e = ap (λ (x : List Shelf). record (lasting p) { shelves = x }) e

-- rows of idents go
pub left_lasts : (queue : List ℕ) (idents : List Ident) (p : Plain) → lasting (apply (Leave (Among queue idents)) p) ≡ left (Among queue idents) (lasting p)
left_lasts queue idents p = ap (λ (x : List Shelf). record (lasting p) { shelves = x })
    (shelves_mapped p.channels.batches p.channels.batches (kept_in (Among queue idents)) (less_rows (Among queue idents))
    (λ (q : Queue). ap (λ (x : List Row). record (shelf_of p.channels.batches q) { rows = x })
    (rows_kept p.channels.batches (λ (row : Row). not (selects (Among queue idents) q.name row)) (λ row. refl) q.rows)) p.queues)

-- a message is placed
pub placed_lasts : (queue : List ℕ) (m : Message) (p : Plain) → AreLaned (stored queue p).rows → is_persistent m ≡ true → lasting (apply (Places queue m) p) ≡ shelved queue m (lasting p)
placed_lasts queue m p h e = ap (λ (x : List Shelf). record (lasting p) { shelves = x })
    (shelves_set p.channels.batches (placed_in (lane_of (local_of queue p.definitions) m.md.priority) m (stored queue p)) p.queues
    ∙ ap (λ (x : List Row). set_shelf (record (shelf_of p.channels.batches (stored queue p)) { rows = x }) (shelves_of p.channels.batches p.queues))
    (row_placed p.channels.batches (new_row (lane_of (local_of queue p.definitions) m.md.priority) ((stored queue p).arrivals + 1) m) (stored queue p).rows h e)
    ∙ ap (λ (x : Shelf). set_shelf (shelved_in (lane_of (local_of queue p.definitions) m.md.priority) m x) (shelves_of p.channels.batches p.queues)) (sym (shelf_found p.channels.batches queue p.queues)))

-- one that doesn't last
pub placed_aside : (queue : List ℕ) (m : Message) (p : Plain) → has_queue queue p.queues ≡ true → is_persistent m ≡ false → lasting (apply (Places queue m) p) ≡ lasting p
placed_aside queue m p h e = ap (λ (x : List Shelf). record (lasting p) { shelves = x })
    (shelves_set p.channels.batches (placed_in (lane_of (local_of queue p.definitions) m.md.priority) m (stored queue p)) p.queues
    ∙ ap (λ (x : List Row). set_shelf (record (shelf_of p.channels.batches (stored queue p)) { rows = x }) (shelves_of p.channels.batches p.queues))
    (row_aside p.channels.batches (new_row (lane_of (local_of queue p.definitions) m.md.priority) ((stored queue p).arrivals + 1) m) (stored queue p).rows e)
    ∙ shelf_again p.channels.batches queue p.queues h)

pub placed_is_there : (queue : List ℕ) (m : Message) (p : Plain) → has_queue queue (apply (Places queue m) p).queues ≡ true
placed_is_there queue m p = set_is_there queue (placed_in (lane_of (local_of queue p.definitions) m.md.priority) m (stored queue p)) p.queues (found_name queue p.queues)

-- a trigger's condition is tried
pub tried_lasts : (queue : List ℕ) (priority : ℤ) (p : Plain) → has_queue queue p.queues ≡ true → lasting (apply (Try queue priority) p) ≡ lasting p
tried_lasts queue priority p h = bool_case (condition (local_of queue p.definitions) priority p) (λ b. lasting (try_if b queue p) ≡ lasting p)
    (λ e. ap (λ (x : List Shelf). record (lasting p) { shelves = x })
    (shelves_set p.channels.batches (made_due (depth_type (local_of queue p.definitions)) p.moment (stored queue p)) p.queues ∙ shelf_again p.channels.batches queue p.queues h))
    (λ e. refl)

-- a unit holds or frees rows: nothing that lasts
hold_row_aside : (bs : List Batch) (b : Bool) (n : ℕ) (row : Row) → lasting_row bs (retag_if (b && is_free row) (Some (holders.Unit n)) row) ≡ lasting_row bs row
hold_row_aside bs true n row = elim row.by as (λ h. lasting_row bs (retag_if (elim h as (λ x. Bool) [ None ↦ true | Some y ↦ false ]) (Some (holders.Unit n)) (record row { by = h })) ≡ lasting_row bs (record row { by = h })) [ None ↦ refl | Some y ↦ refl ]
hold_row_aside bs false n row = refl

retagged_stays : (b : Bool) (by : Option Holder) (row : Row) → is_persistent (retag_if b by row).message ≡ is_persistent row.message
retagged_stays true by row = refl
retagged_stays false by row = refl

pub unit_holds_aside : (which : Which) (n : ℕ) (p : Plain) → lasting (apply (Hold which (holders.Unit n)) p) ≡ lasting p
unit_holds_aside which n p = ap (λ (x : List Shelf). record (lasting p) { shelves = x })
    (shelves_alike p.channels.batches p.channels.batches (held_in which (holders.Unit n)) p.queues
    (all_of (λ (q : Queue). shelf_of p.channels.batches (held_in which (holders.Unit n) q) ≡ shelf_of p.channels.batches q)
    (λ (q : Queue). ap (λ (x : List Row). record (shelf_of p.channels.batches q) { rows = x })
    (rows_alike p.channels.batches p.channels.batches (λ (row : Row). retag_if (selects which q.name row && is_free row) (Some (holders.Unit n)) row)
    (λ row. hold_row_aside p.channels.batches (selects which q.name row) n row) (λ row. retagged_stays (selects which q.name row && is_free row) (Some (holders.Unit n)) row) q.rows)) p.queues))

-- an add of a new ident drops nothing
pub nothing_cleared : (ident : Ident) (p : Plain) → IsNew ident p → cleared ident (lasting p) ≡ lasting p
nothing_cleared ident p h = λ i. record (lasting p) { shelves = none_without p.channels.batches ident p.queues h.rows i; senders = none_off ident p.channels.senders h.lists i }

-- what no log keeps
pub aside_lasts : (c : Change) (p : Plain) → is_aside c ≡ true → lasting (apply c p) ≡ lasting p
aside_lasts (Connect c) p e = refl
aside_lasts (Disconnect number) p e = refl
aside_lasts (OpenHandle number h) p e = refl
aside_lasts (CloseHandle number handle) p e = refl
aside_lasts (SetCursor number handle place) p e = refl
aside_lasts (Pend number item) p e = refl
aside_lasts (EndUnit number) p e = refl
aside_lasts (MakeStale step) p e = refl
aside_lasts CountIdent p e = refl
aside_lasts (Seize s) p e = refl
aside_lasts (Unseize channel) p e = refl
aside_lasts (SetBound channel true) p e = refl
aside_lasts (SetBound channel false) p e = refl
aside_lasts (SetMoment moment) p e = refl
aside_lasts c p e = absurd (cc e)
