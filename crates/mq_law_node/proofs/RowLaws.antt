-- Each change does to the rows of each queue what its kind says.
use Rattle.std.proofs.Common.{ℕ, ◌≡◌, true, false, List, refl, ap, sym, ◌∙◌}
use Rattle.std.specs.Prelude.{Some, if◌then◌else◌, not, ◌&&◌}
use Rattle.std.specs.Str.{bytes_eq}
use Rattle.mq_queue.specs.declared.row.Row.{Row}
use Rattle.mq_queue.specs.Rows.{keep, retag, is_free}
use Rattle.mq_objects.specs.Names.{local_of}
use Rattle.mq_calls.specs.State.{Plain, Queue, Change, fresh_queue}
use Rattle.mq_calls.specs.State.Change.{Place as Places, Try, Leave, Hold, Release, Renew, DropQueue, SwitchOn, Serve, SetBound, ForgetAll}
use Rattle.mq_calls.specs.Reads.{queue_in, stored}
use Rattle.mq_calls.specs.Condition.{condition}
use Rattle.mq_calls.specs.Changes.{apply, set_queue, lane_of, placed_in, kept_in, held_in, released_in, selects, retag_if, release_if, try_if, made_due, depth_type, forgotten}
use Rattle.mq_law_node.specs.Rows.{RowKind, Same, Placed, Emptied, row_kind, rows_do, rows_at}
use Rattle.mq_law_seized.proofs.from_law_manager.Named.{found_name, queue_dropped, queue_mapped}
use Rattle.mq_law_node.proofs.Named.{bool_case, name_is, queue_set}

-- a queue that is set anew, whose rows are told
pub rows_set : (name other : List ℕ) (new : Queue) (p : Plain) (k : RowKind) → new.name ≡ other → new.rows ≡ rows_do k (stored other p).arrivals (stored other p).rows
    → (queue_in name (set_queue new p.queues)).rows ≡ rows_do (if bytes_eq name other then k else Same) (stored name p).arrivals (stored name p).rows
rows_set name other new p k is rows = ap (λ (q : Queue). q.rows) (queue_set name new p.queues)
    ∙ ap (λ (x : List ℕ). (if bytes_eq name x then new else queue_in name p.queues).rows) is
    ∙ bool_case (bytes_eq name other) (λ b. bytes_eq name other ≡ b → (if b then new else queue_in name p.queues).rows ≡ rows_do (if b then k else Same) (stored name p).arrivals (stored name p).rows)
    (λ e z. rows ∙ ap (λ (x : List ℕ). rows_do k (stored x p).arrivals (stored x p).rows) (sym (name_is name other z)))
    (λ e z. refl) refl

-- the rows stay, whatever is set beside them
pub rows_beside : (name other : List ℕ) (new : Queue) (p : Plain) → new.name ≡ other → new.rows ≡ (stored other p).rows → (queue_in name (set_queue new p.queues)).rows ≡ (stored name p).rows
rows_beside name other new p is rows = rows_set name other new p Same is rows ∙ bool_case (bytes_eq name other) (λ b. rows_do (if b then Same else Same) (stored name p).arrivals (stored name p).rows ≡ (stored name p).rows) (λ e. refl) (λ e. refl)

pub rows_applied : (name : List ℕ) (c : Change) (p : Plain) → rows_at name (apply c p) ≡ rows_do (row_kind name c p) (stored name p).arrivals (rows_at name p)
rows_applied name (Places queue m) p = rows_set name queue (placed_in (lane_of (local_of queue p.definitions) m.md.priority) m (stored queue p)) p (Placed (lane_of (local_of queue p.definitions) m.md.priority) m) (found_name queue p.queues) refl
rows_applied name (Try queue priority) p = bool_case (condition (local_of queue p.definitions) priority p) (λ b. rows_at name (try_if b queue p) ≡ rows_at name p)
    (λ e. rows_beside name queue (made_due (depth_type (local_of queue p.definitions)) p.moment (stored queue p)) p (found_name queue p.queues) refl) (λ e. refl)
rows_applied name (Leave which) p = ap (λ (q : Queue). q.rows) (queue_mapped (kept_in which) name p.queues (λ q. refl) refl)
    ∙ ap (λ (x : List ℕ). keep (λ (row : Row). not (selects which x row)) (stored name p).rows) (found_name name p.queues)
rows_applied name (Hold which by) p = ap (λ (q : Queue). q.rows) (queue_mapped (held_in which by) name p.queues (λ q. refl) refl)
    ∙ ap (λ (x : List ℕ). retag (λ (row : Row). retag_if (selects which x row && is_free row) (Some by) row) (stored name p).rows) (found_name name p.queues)
rows_applied name (Release which counted) p = ap (λ (q : Queue). q.rows) (queue_mapped (released_in which counted) name p.queues (λ q. refl) refl)
    ∙ ap (λ (x : List ℕ). retag (λ (row : Row). release_if (selects which x row && not (is_free row)) counted row) (stored name p).rows) (found_name name p.queues)
rows_applied name ForgetAll p = ap (λ (q : Queue). q.rows) (queue_mapped forgotten name p.queues (λ q. refl) refl)
rows_applied name (Renew queue) p = rows_set name queue (fresh_queue queue) p Emptied refl refl
rows_applied name (DropQueue queue) p = ap (λ (q : Queue). q.rows) (queue_dropped name queue p.queues)
    ∙ bool_case (bytes_eq name queue) (λ b. (if b then fresh_queue name else queue_in name p.queues).rows ≡ rows_do (if b then Emptied else Same) (stored name p).arrivals (stored name p).rows) (λ e. refl) (λ e. refl)
rows_applied name (SwitchOn queue) p = rows_beside name queue (record (stored queue p) { switched_off = false }) p (found_name queue p.queues) refl
rows_applied name (Serve queue) p = rows_beside name queue _ p (found_name queue p.queues) refl
rows_applied name (SetBound channel true) p = refl
rows_applied name (SetBound channel false) p = refl
rows_applied name c p = refl
