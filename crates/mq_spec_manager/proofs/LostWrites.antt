-- A stopped write that a restart does not find leaves what a stop before the call would have left: a frozen manager keeps
-- all that lasts, and so does a stop.
use Rattle.std.specs.Prelude.{◌≡◌, ℕ, Bool, true, not, ◌&&◌, List, [], ◌∷◌, Option, Some, None, map, refl}
use Rattle.std.proofs.Common.{ap, ◌∙◌, arith}
use Rattle.mq_sc_apply.specs.from_calls.Words.{Holder, Place, Message, is_persistent, is_by_unit, Plain, Queue, Noted, HeldByUnits, Nonpersistent, release_if, kept_in, released_in, forgotten, lasting, lasting_row, lasting_rows, shelf_of, shelves_of, freeze, Row, keep, retag, is_free}
use Rattle.mq_sc_apply.specs.from_calls.{Batch, Shelf}
use Rattle.mq_heads.specs.from_message.HolderVariants as holders

abbrev stays : Row → Bool
stays row = not (not (is_persistent row.message))

abbrev let_go : Row → Row
let_go row = release_if (is_by_unit row.by && not (is_free row)) true row

abbrev row_by : Place → Message → Option Holder → Row
row_by place message by = record { place = place; message = message; by = by }

-- a row that a unit lets go lasts as it did
let_go_lasts : (bs : List Batch) (place : Place) (message : Message) (by : Option Holder) → lasting_row bs (let_go (row_by place message by)) ≡ lasting_row bs (row_by place message by)
let_go_lasts bs place message None = refl
let_go_lasts bs place message (Some (holders.Unit n)) = refl
let_go_lasts bs place message (Some (holders.Batch c)) = refl

let_go_stays : (place : Place) (message : Message) (by : Option Holder) → is_persistent (let_go (row_by place message by)).message ≡ is_persistent message
let_go_stays place message None = refl
let_go_stays place message (Some (holders.Unit n)) = refl
let_go_stays place message (Some (holders.Batch c)) = refl

kept_lasts : (bs : List Batch) (rows : List Row) → lasting_rows bs (keep stays rows) ≡ lasting_rows bs rows
kept_lasts bs [] = refl
kept_lasts bs (row ∷ rows) = grind (arith, kept_lasts bs rows)

gone_lasts : (bs : List Batch) (rows : List Row) → lasting_rows bs (retag let_go rows) ≡ lasting_rows bs rows
gone_lasts bs [] = refl
gone_lasts bs (row ∷ rows) = grind (arith, gone_lasts bs rows, let_go_lasts bs row.place row.message row.by, let_go_stays row.place row.message row.by)

-- the queues of a manager: what a stopped write does to them, and what a stop does, units and nonpersistent rows alone
abbrev stop_queue : Queue → Queue
stop_queue q = forgotten (kept_in Nonpersistent (released_in HeldByUnits true q))

abbrev shelf_with : List ℕ → List Row → Shelf
shelf_with name rows = record { name = name; rows = rows }

shelf_frozen : (bs : List Batch) (q : Queue) → shelf_of bs (kept_in Nonpersistent q) ≡ shelf_of bs q
shelf_frozen bs q = ap (shelf_with q.name) (kept_lasts bs q.rows)

shelf_stopped : (bs : List Batch) (q : Queue) → shelf_of bs (stop_queue q) ≡ shelf_of bs q
shelf_stopped bs q = ap (shelf_with q.name) (kept_lasts bs (retag let_go q.rows) ∙ gone_lasts bs q.rows)

pub shelves_frozen : (bs : List Batch) (qs : List Queue) → shelves_of bs (map (kept_in Nonpersistent) qs) ≡ shelves_of bs qs
shelves_frozen bs [] = refl
shelves_frozen bs (q ∷ qs) = λ i. shelf_frozen bs q i ∷ shelves_frozen bs qs i

pub shelves_stopped : (bs : List Batch) (qs : List Queue) → shelves_of bs (map stop_queue qs) ≡ shelves_of bs qs
shelves_stopped bs [] = refl
shelves_stopped bs (q ∷ qs) = λ i. shelf_stopped bs q i ∷ shelves_stopped bs qs i

-- a manager that a stopped write has frozen has the image that it had before the call
pub frozen_lasts : (stopped : Option Noted) (left : ℕ) (p : Plain) → lasting (freeze stopped left p) ≡ lasting p
frozen_lasts stopped left p = λ i. record (lasting p) { shelves = shelves_frozen p.channels.batches p.queues i }
