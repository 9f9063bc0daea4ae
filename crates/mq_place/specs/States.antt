-- Local queues as a manager keeps them: what the plain manager sees of each, its lanes, and how many uncommitted puts wait
-- for it.
use Rattle.std.specs.Prelude.{◌≡◌, ℕ, ◌+◌, ◌-◌, ◌<◌, ◌^◌, Bool, false, not, ◌&&◌, List, [], ◌∷◌, if◌then◌else◌, Option, Some, None, map, filter, flat_map, length, nat_lt, find, take}
use Rattle.std.specs.Str.{bytes_eq}
use Rattle.std.specs.List.{AllByRecursion}
use Rattle.mq_message.specs.declared.message.Ident.{Ident}
use Rattle.mq_message.specs.declared.message.Message.{Message}
use Rattle.mq_queue.specs.declared.row.Row.{Row}
use Rattle.mq_message.specs.declared.place.Place.{Place}
use Rattle.mq_message.specs.declared.place.Holder.{Holder}
use Rattle.mq_queue.specs.Rows.{keep, retag, held_by, is_free, is_after, has_ident}
use Rattle.mq_queue.specs.Queues.{Lacks, lane_of, count_waiting, hold_row, release_row, has_other_ident}
use Rattle.mq_calls.specs.State.{Queue, fresh_queue}
use Rattle.mq_calls.specs.Reads.{queue_in}
use Rattle.mq_calls.specs.State.Which.{Among}
use Rattle.mq_calls.specs.Changes.{placed_in, kept_in, release_if}
use Rattle.mq_calls.specs.declared.records.Remove.{Remove}

pub record QueueState : Type 0 where
  pub queue : Queue
  pub by_priority : Bool
  pub pending : ℕ

-- the local queues in order of definition, and for how many more there is memory
pub record QueueStates : Type 0 where
  pub states : List QueueState
  pub room : ℕ

abbrev pub queue_of_state : QueueState → Queue
queue_of_state s = s.queue

-- the rows behind a place
abbrev pub rows_after : Option Place → List Row → List Row
rows_after after rows = keep (is_after after) rows

-- a queue that was just defined
abbrev pub fresh_state : List ℕ → Bool → QueueState
fresh_state name by_priority = record { queue = fresh_queue name; by_priority = by_priority; pending = 0 }

-- as the plain manager sees them
abbrev pub queues_of : List QueueState → List Queue
queues_of states = map queue_of_state states

abbrev pub has_name : List ℕ → QueueState → Bool
has_name name s = bytes_eq name s.queue.name

abbrev pub state_in : List ℕ → List QueueState → Option QueueState
state_in name [] = None
state_in name (s ∷ ss) = if has_name name s then Some s else state_in name ss

-- one that was just defined where there is none
abbrev pub or_fresh : List ℕ → Option QueueState → QueueState
or_fresh name None = fresh_state name false
or_fresh name (Some s) = s

abbrev pub state_or : List ℕ → List QueueState → QueueState
state_or name states = or_fresh name (state_in name states)

-- the rows of the queue of a name
abbrev pub rows_in : List ℕ → List QueueState → List Row
rows_in name states = (queue_in name (queues_of states)).rows

-- the idents of its first free rows, at most so many
abbrev pub row_ident : Row → Ident
row_ident row = row.message.ident

abbrev pub is_free_after : Option Place → Row → Bool
is_free_after after row = is_free row && is_after after row

abbrev pub free_idents : ℕ → List Row → List Ident
free_idents most rows = map row_ident (take most (filter is_free rows))

-- the queue of a name is changed
abbrev pub change_state : List ℕ → (QueueState → QueueState) → List QueueState → List QueueState
change_state name f [] = []
change_state name f (s ∷ ss) = if has_name name s then f s ∷ ss else s ∷ change_state name f ss

-- a queue is changed as the plain manager sees it
abbrev pub on_queue : (Queue → Queue) → QueueState → QueueState
on_queue f s = record s { queue = f s.queue }

abbrev pub on_queues : (Queue → Queue) → List QueueState → List QueueState
on_queues f states = map (on_queue f) states

-- its rows are changed
abbrev pub on_rows : (List Row → List Row) → QueueState → QueueState
on_rows f s = record s { queue = record s.queue { rows = f s.queue.rows } }

-- the rows of these idents are held, free again, gone: one after another
abbrev pub hold_each : List Ident → Holder → List Row → List Row
hold_each [] by rows = rows
hold_each (ident ∷ idents) by rows = hold_each idents by (retag (hold_row ident by) rows)

abbrev pub release_each : List Ident → Bool → List Row → List Row
release_each [] backed_out rows = rows
release_each (ident ∷ idents) backed_out rows = release_each idents backed_out (retag (release_row ident backed_out) rows)

abbrev pub remove_each : List Ident → List Row → List Row
remove_each [] rows = rows
remove_each (ident ∷ idents) rows = remove_each idents (keep (has_other_ident ident) rows)

-- a row that a holder has; it is free again, with no backout counted; the others
abbrev pub holds : Holder → Row → Bool
holds by row = held_by by row.by

abbrev pub let_go : Holder → Row → Row
let_go by row = release_if (holds by row && not (is_free row)) false row

abbrev pub is_other_row : Holder → Row → Bool
is_other_row by row = not (holds by row)

-- the rows that a holder has on a queue, on all queues, named by the queue and the ident
abbrev pub named_row : List ℕ → Row → Remove
named_row name row = record { queue = name; ident = row.message.ident }

abbrev pub held_on : Holder → Queue → List Remove
held_on by q = map (λ (row : Row). record { queue = q.name; ident = row.message.ident }) (filter (λ (row : Row). held_by by row.by) q.rows)

abbrev pub held_rows : Holder → List QueueState → List Remove
held_rows by states = flat_map (held_on by) (queues_of states)

-- a row of an ident that a holder has
abbrev pub has_held_ident : Holder → Ident → Row → Bool
has_held_ident by ident row = has_ident ident row && holds by row

-- a trigger due is served; the queue counts as TRIGGER again
abbrev pub served : Queue → Queue
served q = record q { due = q.due - 1 }

abbrev pub switched_on : Queue → Queue
switched_on q = record q { switched_off = false }

-- the queue of a name is gone
abbrev pub without_state : List ℕ → List QueueState → List QueueState
without_state name states = filter (λ (s : QueueState). not (has_name name s)) states

-- one uncommitted put more waits; one less
abbrev pub expecting : QueueState → QueueState
expecting s = record s { pending = s.pending + 1 }

abbrev pub unpended : QueueState → QueueState
unpended s = record s { pending = s.pending - 1 }

-- a put that waited takes the last place of its lane
abbrev pub arrived : Message → QueueState → QueueState
arrived message s = record s { queue = placed_in (lane_of s.by_priority message) message s.queue; pending = s.pending - 1 }

-- lanes go by priority, or not
abbrev pub with_lanes : Bool → QueueState → QueueState
with_lanes by_priority s = record s { by_priority = by_priority }

-- free rows and uncommitted puts; all rows and uncommitted puts
abbrev pub depth_of : QueueState → ℕ
depth_of s = count_waiting 0 s.queue.rows + s.pending

abbrev pub size_of : QueueState → ℕ
size_of s = length s.queue.rows + s.pending

-- no row of any queue has the ident
abbrev pub IsNowhere : Ident → List QueueState → Type 0
IsNowhere ident states = AllByRecursion (λ (s : QueueState). Lacks ident s.queue.rows) states

-- a put may be placed: it waits, no row has its ident, and arrivals are counted still
pub record CanPlace (message : Message) (s : QueueState) : Type 0 where
  pub expected : 0 < s.pending
  pub fresh : Lacks message.ident s.queue.rows
  pub count : s.queue.arrivals + 1 < 2 ^ 64

-- a row with the name of its queue
pub record Located : Type 0 where
  pub name : List ℕ
  pub row : Row

abbrev pub row_found : Option Row → List ℕ → Option Located → Option Located
row_found None name rest = rest
row_found (Some row) name rest = Some (record { name = name; row = row })

-- the first row that has the ident
abbrev pub row_at : Ident → List QueueState → Option Located
row_at ident [] = None
row_at ident (s ∷ ss) = row_found (find (has_ident ident) s.queue.rows) s.queue.name (row_at ident ss)

-- the first queue with a trigger due
abbrev pub has_due : QueueState → Bool
has_due s = nat_lt 0 s.queue.due

-- rows of a queue taken out one after another
abbrev pub rows_removed : List ℕ → List Ident → QueueStates → QueueStates
rows_removed name [] v = v
rows_removed name (ident ∷ idents) v = rows_removed name idents (record v { states = on_queues (kept_in (Among name (ident ∷ []))) v.states })

-- one trigger more is counted
abbrev pub CanBeDue : QueueState → Type 0
CanBeDue s = s.queue.due + 1 < 2 ^ 64

-- rows and uncommitted puts are counted
abbrev pub IsCounted : QueueState → Type 0
IsCounted s = size_of s < 2 ^ 64

-- no queue has the name
abbrev pub IsUnnamed : List ℕ → List QueueState → Type 0
IsUnnamed name states = AllByRecursion (λ (s : QueueState). has_name name s ≡ false) states

-- no two queues have one name
abbrev pub AreApart : List QueueState → Type 0
AreApart [] = Unit {0}
AreApart (s ∷ ss) = IsUnnamed s.queue.name ss × AreApart ss
