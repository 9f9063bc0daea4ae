-- What of a manager its log keeps, and how a manager comes up from it: a first start and each restart do the same.
use Rattle.std.specs.Prelude.{ℕ, pos, ◌+◌, Bool, false, List, [], ◌∷◌, if◌then◌else◌, Option, Some, None, length, map}
use Rattle.std.specs.List.{list_any}
use Rattle.std.specs.Str.{bytes_eq}
use Rattle.mq_calls.specs.Terms.{Message, Holder, Row}
use Rattle.mq_queue.specs.from_message.HolderVariants as holders
pub use Rattle.mq_calls.specs.declared.image.Shelf.{Shelf}
pub use Rattle.mq_calls.specs.declared.image.Image.{Image}
use Rattle.mq_calls.specs.State.{Plain, Given, Queue, Batch, LogState}
use Rattle.mq_calls.specs.State.Running.{Up}
use Rattle.mq_calls.specs.Reads.{is_persistent}

-- What lasts: persistent rows, with no backout counted and no count of arrivals. Units hold nothing after a stop, nor do
-- batches that are not prepared; a unit in doubt does.
abbrev pub has_batch : List ℕ → List Batch → Bool
has_batch channel bs = list_any (λ (b : Batch). bytes_eq channel b.channel) bs

abbrev pub rests_by : List Batch → Option Holder → Option Holder
rests_by bs None = None
rests_by bs (Some (holders.Unit n)) = None
rests_by bs (Some (holders.Batch c)) = if has_batch c bs then None else Some (holders.Batch c)

abbrev pub uncounted_message : Message → Message
uncounted_message m = record m { md = record m.md { backout_count = pos 0 } }

abbrev pub lasting_row : List Batch → Row → Row
lasting_row bs row = record { place = record { lane = row.place.lane; arrival = 0 }; message = uncounted_message row.message; by = rests_by bs row.by }

-- a row as it lasts, and the rows that do
abbrev pub lasting_rows : List Batch → List Row → List Row
lasting_rows bs [] = []
lasting_rows bs (row ∷ rows) = if is_persistent row.message then lasting_row bs row ∷ lasting_rows bs rows else lasting_rows bs rows

abbrev pub shelf_of : List Batch → Queue → Shelf
shelf_of bs q = record { name = q.name; rows = lasting_rows bs q.rows }

abbrev pub shelves_of : List Batch → List Queue → List Shelf
shelves_of bs [] = []
shelves_of bs (q ∷ qs) = shelf_of bs q ∷ shelves_of bs qs

-- the image of a manager
abbrev pub lasting : Plain → Image
lasting p = record {
  definitions = p.definitions;
  shelves = shelves_of p.channels.batches p.queues;
  senders = p.channels.senders;
  receivers = p.channels.receivers;
  incarnation = p.numbers.incarnation;
}

-- The other way: rows are numbered 1..n by place, so many have arrived, and no trigger is due.
abbrev pub numbered : ℕ → List Row → List Row
numbered n [] = []
numbered n (row ∷ rows) = record row { place = record row.place { arrival = n + 1 } } ∷ numbered (n + 1) rows

abbrev pub queue_on : Shelf → Queue
queue_on s = record { name = s.name; rows = numbered 0 s.rows; arrivals = length s.rows; due = 0; last_due = None; switched_off = false }

-- up, with what the image has and nothing else, in the image's incarnation
abbrev pub begun : Given → Image → LogState → ℕ → Plain
begun given image log moment = record {
  given = given;
  running = Up;
  definitions = image.definitions;
  queues = map queue_on image.shelves;
  connections = [];
  channels = record { senders = image.senders; receivers = image.receivers; seizures = []; batches = []; bound = [] };
  moment = moment;
  numbers = record { incarnation = image.incarnation; idents = 0; connections = 0 };
  log = log;
}

-- the next incarnation: one more than so many Started records of restarts that were stopped
abbrev pub raised : ℕ → Image → Image
raised started image = record image { incarnation = image.incarnation + started + 1 }
