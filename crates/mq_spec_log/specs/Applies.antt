-- Whether a record of the log applies to an image.
use Rattle.std.specs.Prelude.{ℕ, ◌==◌, ◌+◌, ◌^◌, nat_lt, nat_le, Bool, true, false, not, ◌&&◌, ◌||◌, List, [], ◌∷◌, ◌++◌, if◌then◌else◌, Option, Some, None, is_some, map}
use Rattle.std.specs.List.{list_any, list_all}
use Rattle.std.specs.Str.{bytes_eq}
use Rattle.mq_record.specs.from_message.{Ident, Message}
use Rattle.mq_record.specs.from_queue.{Row}
use Rattle.mq_record.specs.from_queue.Rows.{same_ident, has_ident, is_free}
use Rattle.mq_objects.specs.declared.object.LocalQueue.{LocalQueue}
use Rattle.mq_objects.specs.declared.object.Object.{Object}
use Rattle.mq_objects.specs.declared.object.Object.TheVariants as objects
use Rattle.mq_objects.specs.declared.object.Definitions.{Definitions}
use Rattle.mq_objects.specs.declared.command.Subject.{Subject}
use Rattle.mq_objects.specs.declared.command.Subject.TheVariants as subjects
use Rattle.mq_objects.specs.declared.change.ObjectChange.{ObjectChange}
use Rattle.mq_objects.specs.declared.change.ObjectChange.TheVariants as changes
use Rattle.mq_objects.specs.Names.{local_of, is_transmission, named, is_kind, name_of, object_in, space_of, is_by_priority}
use Rattle.mq_sync.specs.declared.unit.Unit.{Unit as Luw}
use Rattle.mq_sync.specs.declared.data.InDoubt.{InDoubt}
use Rattle.mq_sync.specs.declared.data.SenderData.{SenderData}
use Rattle.mq_sync.specs.declared.data.ReceiverData.{ReceiverData}
use Rattle.mq_sync.specs.declared.data.End.{End}
use Rattle.mq_sync.specs.declared.data.End.TheVariants as ends
use Rattle.mq_record.specs.from_calls.{Add, Image, LogRecord, Remove, Shelf}
use Rattle.mq_record.specs.from_calls.LogRecordVariants as records
use Rattle.mq_record.specs.from_calls.State.{Given}
use Rattle.mq_spec_log.specs.Shelves.{shelf_in, added, removed, removed_all, sender_at, receiver_at}

-- ---- rows

-- a message fits a queue: it is local, and the message has a route exactly where it is a transmission queue
abbrev pub agrees : Bool → Bool → Bool
agrees true b = b
agrees false b = not b

abbrev pub fits_local : Option LocalQueue → Message → Bool
fits_local None m = false
fits_local (Some q) m = agrees (is_transmission q.usage) (is_some m.route)

abbrev pub fits : List ℕ → Message → Definitions → Bool
fits queue m d = fits_local (local_of queue d) m

abbrev pub is_free_at : Ident → Row → Bool
is_free_at ident row = is_free row && has_ident ident row

abbrev pub stands_on : Ident → List Shelf → Bool
stands_on ident ss = list_any (λ (s : Shelf). list_any (is_free_at ident) s.rows) ss

abbrev pub can_add : Add → Image → Bool
can_add a i = fits a.queue a.message i.definitions && not (stands_on a.message.ident i.shelves)

abbrev pub can_remove : Remove → Image → Bool
can_remove r i = list_any (is_free_at r.ident) (shelf_in r.queue i.shelves).rows

abbrev pub can_add_all : List Add → Image → Bool
can_add_all [] i = true
can_add_all (a ∷ as_) i = can_add a i && can_add_all as_ (added a i)

abbrev pub can_remove_all : List Remove → Image → Bool
can_remove_all [] i = true
can_remove_all (r ∷ rs) i = can_remove r i && can_remove_all rs (removed r i)

-- ---- units of channels

abbrev pub is_unit_in_doubt : Luw → Option InDoubt → Bool
is_unit_in_doubt unit None = false
is_unit_in_doubt unit (Some d) = d.unit.session == unit.session && d.unit.n == unit.n

abbrev pub is_unit : Luw → Bool
is_unit unit = nat_lt 0 unit.session && nat_lt 0 unit.n

-- a row of one of the idents is held by a unit in doubt
abbrev pub is_held_among : List Ident → Row → Bool
is_held_among idents row = not (is_free row) && list_any (same_ident row.message.ident) idents

abbrev pub are_distinct : List Ident → Bool
are_distinct [] = true
are_distinct (ident ∷ idents) = not (list_any (same_ident ident) idents) && are_distinct idents

-- a row of another queue has one of the idents
abbrev pub is_elsewhere : List ℕ → List Ident → Shelf → Bool
is_elsewhere queue idents s = not (bytes_eq queue s.name) && list_any (λ (row : Row). list_any (same_ident row.message.ident) idents) s.rows

-- a batch is taken from one queue: of no ident the row is held, or stands elsewhere
abbrev pub can_prepare : Luw → List ℕ → List Ident → SenderData → List Shelf → Bool
can_prepare unit queue idents d ss =
    is_unit unit && not (is_some d.in_doubt) && nat_le unit.session d.session && are_distinct idents
    && not (list_any (λ (s : Shelf). list_any (is_held_among idents) s.rows) ss)
    && not (list_any (is_elsewhere queue idents) ss)

abbrev pub is_above : Luw → Luw → Bool
is_above a b = nat_lt b.session a.session || (a.session == b.session && nat_lt b.n a.n)

abbrev pub can_receive : Luw → ReceiverData → Bool
can_receive unit d = is_unit unit && unit.session == d.session && not d.closed && nat_lt 0 d.session && is_above unit d.unit

abbrev pub can_number : End → SenderData → Bool
can_number ends.Sender d = not (is_some d.in_doubt)
can_number ends.Receiver d = true

-- ---- objects

-- a set finds no object of another kind, nor changes USAGE or MSGDLVSQ of a queue with rows; a delete finds its object, without rows
abbrev pub has_rows_on : List ℕ → List Shelf → Bool
has_rows_on name ss = elim (shelf_in name ss).rows as (λ r. Bool) [ [] ↦ false | row ∷ rows ↦ true ]

abbrev pub same_form : LocalQueue → LocalQueue → Bool
same_form a b = agrees (is_transmission a.usage) (is_transmission b.usage) && agrees (is_by_priority a.delivery) (is_by_priority b.delivery)

abbrev pub can_replace : Object → Object → List Shelf → Bool
can_replace (objects.Local new) (objects.Local old) ss = same_form new old || not (has_rows_on new.name ss)
can_replace (objects.Alias new) (objects.Alias old) ss = true
can_replace (objects.Remote new) (objects.Remote old) ss = true
can_replace (objects.Channel new) (objects.Channel old) ss = true
can_replace (objects.Process new) (objects.Process old) ss = true
can_replace _ _ ss = false

abbrev pub can_set : Object → Option Object → List Shelf → Bool
can_set new None ss = true
can_set new (Some old) ss = can_replace new old ss

abbrev pub is_empty_local : Subject → List Shelf → Bool
is_empty_local (subjects.Local name) ss = not (has_rows_on name ss)
is_empty_local _ ss = true

abbrev pub can_delete : Subject → Option Object → List Shelf → Bool
can_delete s None ss = false
can_delete s (Some old) ss = is_kind s old && is_empty_local s ss

abbrev pub can_change : ObjectChange → Definitions → List Shelf → Bool
can_change (changes.Set new) d ss = can_set new (object_in (space_of new) (name_of new) d.objects) ss
can_change (changes.SetManager m) d ss = true
can_change (changes.Delete subject) d ss = can_delete subject (named subject d) ss

-- ---- a record, by its kind

abbrev pub suits : Given → LogRecord → Image → Bool
suits g (records.Started manager name incarnation) i = manager == g.number && bytes_eq name g.name
suits g (records.Objects change) i = can_change change i.definitions i.shelves
suits g (records.Unit adds removes) i = can_remove_all removes i && can_add_all adds (removed_all removes i)
suits g (records.Session channel partner session) i = nat_lt (sender_at channel i).session session
suits g (records.Prepared channel unit last queue idents) i = can_prepare unit queue idents (sender_at channel i) i.shelves
suits g (records.Resolved channel unit commit operator) i = is_unit_in_doubt unit (sender_at channel i).in_doubt
suits g (records.Bound channel partner session last) i = nat_lt (receiver_at channel i).session session
suits g (records.Closed channel session) i = nat_lt 0 session
suits g (records.Received channel unit last adds) i = can_receive unit (receiver_at channel i) && can_add_all adds i
suits g (records.SeqSet channel end last) i = can_number end (sender_at channel i)
suits g (records.Moved from ident to message) i =
    same_ident ident message.ident && can_remove (record { queue = from; ident = ident }) i
    && can_add (record { queue = to; message = message }) (removed (record { queue = from; ident = ident }) i)

-- ---- idents, and the bounds of numbers

-- the idents of messages that a record places or prepares
abbrev pub idents_in : LogRecord → List Ident
idents_in (records.Unit adds removes) = map (λ (a : Add). a.message.ident) adds
idents_in (records.Prepared channel unit last queue idents) = idents
idents_in (records.Received channel unit last adds) = map (λ (a : Add). a.message.ident) adds
idents_in (records.Moved from ident to message) = message.ident ∷ []
idents_in _ = []

-- an ident of this manager was given in an incarnation that has begun
abbrev pub was_given : Given → Image → Ident → Bool
was_given g i ident = not (ident.manager == g.number) || nat_le ident.incarnation i.incarnation

-- a first start of a run, or a later one
pub data Start : Type 0 where
  First : Start
  Later : Start

abbrev pub is_ident_below : ℕ → Ident → Bool
is_ident_below bound ident = nat_lt ident.incarnation bound && nat_lt ident.number bound

abbrev pub is_unit_below : ℕ → Luw → Bool
is_unit_below bound unit = nat_lt unit.session bound && nat_lt unit.n bound

-- each session, unit number, incarnation and ident number is below the bound
abbrev pub is_below : ℕ → LogRecord → Bool
is_below bound (records.Started manager name incarnation) = nat_lt incarnation bound
is_below bound (records.Objects change) = true
is_below bound (records.Unit adds removes) = list_all (λ (a : Add). is_ident_below bound a.message.ident) adds && list_all (λ (r : Remove). is_ident_below bound r.ident) removes
is_below bound (records.Session channel partner session) = nat_lt session bound
is_below bound (records.Prepared channel unit last queue idents) = is_unit_below bound unit && list_all (is_ident_below bound) idents
is_below bound (records.Resolved channel unit commit operator) = is_unit_below bound unit
is_below bound (records.Bound channel partner session last) = nat_lt session bound
is_below bound (records.Closed channel session) = nat_lt session bound
is_below bound (records.Received channel unit last adds) = is_unit_below bound unit && list_all (λ (a : Add). is_ident_below bound a.message.ident) adds
is_below bound (records.SeqSet channel end last) = true
is_below bound (records.Moved from ident to message) = is_ident_below bound ident && is_ident_below bound message.ident

-- numbers start below 2^60, so that a run never comes to the end of 64 bits; a later start of the run leaves what the
-- run itself counts up, twice the room
abbrev pub is_in_bounds : Start → LogRecord → Bool
is_in_bounds First r = is_below (2 ^ 60) r
is_in_bounds Later (records.Started manager name incarnation) = nat_lt incarnation (2 ^ 61)
is_in_bounds Later (records.Session channel partner session) = nat_lt session (2 ^ 61)
is_in_bounds Later _ = true

abbrev pub applies : Given → Start → LogRecord → Image → Bool
applies g start r i = suits g r i && list_all (was_given g i) (idents_in r) && is_in_bounds start r
