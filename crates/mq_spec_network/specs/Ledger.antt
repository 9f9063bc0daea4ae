-- The ledger of a story: where each message is, by commits and name resolution alone.
use Rattle.std.specs.Prelude.{ℕ, zero, suc, ◌+◌, ◌==◌, min, Bool, true, false, not, ◌&&◌, ◌||◌, List, [], ◌∷◌, ◌++◌, if◌then◌else◌, Option, Some, None, Result, Ok, Err, map, filter, flat_map, find, slice_get}
use Rattle.std.specs.List.{list_any}
use Rattle.std.specs.Str.{bytes_eq}
use Rattle.mq_spec_network.specs.Terms.{Reason, Ident, Dest, Md, Message, Row, same_ident, has_ident, insert_row, keep, LocalQueue, Process, local_of, process_of, new_manager, Route, resolve, Hconn, Hobj, Appl, Open, Get, Got, Comes, Did, Why, Item, Put, Take, Handle, Connection, Command, Call, Chance, Reply, Entry, Shelf, ManagerPlaces, connection_at, handle_at, is_persistent, lane_of, new_row, change_connection, Here, message_put, queue_at, dest_at, handle_route, is_destructive, definitions_after, trigger_message, last_moment, names_of, bare_if, dead_message}
use Rattle.mq_codes.specs.declared.reason.Reason.TheVariants as reasons
use Rattle.mq_spec_node.specs.from_calls.AnswerVariants as answers
use Rattle.mq_spec_node.specs.from_calls.DidVariants as did
use Rattle.mq_spec_node.specs.from_calls.WhyVariants as whys
use Rattle.mq_spec_node.specs.from_history.ActVariants as acts
use Rattle.mq_spec_node.specs.from_history.ActedVariants as acted
use Rattle.mq_spec_node.specs.from_sc_parse.CommandVariants as commands
use Rattle.mq_spec_node.specs.from_history.CallVariants as calls
use Rattle.mq_spec_node.specs.from_history.ChanceVariants as chances
use Rattle.mq_spec_node.specs.from_history.ReplyVariants as replies
use Rattle.mq_spec_network.specs.Story.{Line}

-- a call whose write was stopped, and the moment at which it was made
pub record Stopped : Type 0 where
  pub entry : Entry
  pub moment : ℕ

-- what is told of a manager beside its places: its moment, the opens and units of its connections, the call whose write
-- was stopped, if any
pub record Users : Type 0 where
  pub moment : ℕ
  pub connections : List Connection
  pub cut : Option Stopped

-- places and users by manager, in the scenario's order; the idents that a committed get, an expiry or a DISCARD took; the
-- idents of committed gets
pub record Ledger : Type 0 where
  pub places : List ManagerPlaces
  pub users : List Users
  pub gone : List Ident
  pub got : List Ident

-- One manager of the lists.
abbrev pub nobody : ManagerPlaces
nobody = record { name = []; definitions = record { objects = []; manager = new_manager }; queues = [] }

abbrev pub no_users : Users
no_users = record { moment = 0; connections = []; cut = None }

abbrev pub places_or : Option ManagerPlaces → ManagerPlaces
places_or None = nobody
places_or (Some p) = p

abbrev pub users_or : Option Users → Users
users_or None = no_users
users_or (Some u) = u

abbrev pub places_at : ℕ → Ledger → ManagerPlaces
places_at m l = places_or (slice_get l.places m)

-- users by place
abbrev pub users_at : ℕ → Ledger → Users
users_at m l = users_or (slice_get l.users m)

-- the one at a place changes, the others stay
abbrev pub change_at : {A : Type 0} → ℕ → (A → A) → List A → List A
change_at m f [] = []
change_at zero f (x ∷ xs) = f x ∷ xs
change_at (suc m) f (x ∷ xs) = x ∷ change_at m f xs

abbrev pub with_places : ℕ → (ManagerPlaces → ManagerPlaces) → Ledger → Ledger
with_places m f l = record l { places = change_at m f l.places }

abbrev pub with_users : ℕ → (Users → Users) → Ledger → Ledger
with_users m f l = record l { users = change_at m f l.users }

-- To place: the row stands last in its lane, on a queue by name.
abbrev pub put_on : ℕ → Message → Shelf → Shelf
put_on lane m q = record q { rows = insert_row (new_row lane 0 m) q.rows }

abbrev pub put_in : List ℕ → ℕ → Message → List Shelf → List Shelf
put_in name lane m [] = put_on lane m (record { name = name; rows = [] }) ∷ []
put_in name lane m (q ∷ qs) = if bytes_eq name q.name then put_on lane m q ∷ qs else q ∷ put_in name lane m qs

abbrev pub place_at : List ℕ → Message → ManagerPlaces → ManagerPlaces
place_at name m p = record p { queues = put_in name (lane_of (local_of name p.definitions) m.md.priority) m p.queues }

abbrev pub place : ℕ → List ℕ → Message → Ledger → Ledger
place m name message l = with_places m (place_at name message) l

-- To take: the ident goes from where it is at this manager.
abbrev pub is_one_of : List Ident → Row → Bool
is_one_of idents row = list_any (same_ident row.message.ident) idents

abbrev pub leave_queues : (Row → Bool) → List Shelf → List Shelf
leave_queues stays qs = map (λ (q : Shelf). record q { rows = keep stays q.rows }) qs

abbrev pub idents_at : ManagerPlaces → List Ident
idents_at p = flat_map (λ (q : Shelf). map (λ (row : Row). row.message.ident) q.rows) p.queues

abbrev pub placed_idents : Ledger → List Ident
placed_idents l = flat_map idents_at l.places

abbrev pub is_placed_at : Ident → ManagerPlaces → Bool
is_placed_at ident p = list_any (same_ident ident) (idents_at p)

-- one that has no place at this manager stays where it is
abbrev pub take_from : ℕ → Ident → Ledger → Ledger
take_from m ident l = with_places m (λ p. record p { queues = leave_queues (λ (row : Row). not (has_ident ident row)) p.queues }) l

abbrev pub take_if : Bool → ℕ → Ident → Ledger → Ledger
take_if true m ident l = record (take_from m ident l) { gone = ident ∷ l.gone }
take_if false m ident l = l

abbrev pub take : ℕ → Ident → Ledger → Ledger
take m ident l = take_if (is_placed_at ident (places_at m l)) m ident l

abbrev pub take_got : ℕ → Ident → Ledger → Ledger
take_got m ident l = take m ident (record l { got = ident ∷ l.got })

-- Where a manager stops or is cut, its nonpersistent rows go.
abbrev pub lose : ℕ → Ledger → Ledger
lose m l = with_places m (λ p. record p { queues = leave_queues (λ (row : Row). is_persistent row.message) p.queues }) l

-- Opens and units.
abbrev pub here_at : ℕ → Ledger → Here
here_at m l = record { own = (places_at m l).name; definitions = (places_at m l).definitions; moment = (users_at m l).moment }

abbrev pub connection_of : ℕ → Hconn → Ledger → Option Connection
connection_of m hc l = connection_at hc.number (users_at m l).connections

abbrev pub on_connection : ℕ → Hconn → (Connection → Connection) → Ledger → Ledger
on_connection m hc f l = with_users m (λ u. record u { connections = change_connection hc.number f u.connections }) l

abbrev pub connect : ℕ → Hconn → Appl → Ledger → Ledger
connect m hc appl l = with_users m (λ u. record u { connections = u.connections ++ record { number = hc.number; appl = appl; handles = []; last_handle = 0; unit = [] } ∷ [] }) l

abbrev pub disconnect : ℕ → Hconn → Ledger → Ledger
disconnect m hc l = with_users m (λ u. record u { connections = filter (λ (c : Connection). not (c.number == hc.number)) u.connections }) l

-- an open: where its name leads by the definitions of that moment
abbrev pub resolved_at : ℕ → List ℕ → List ℕ → Ledger → Result Route Reason
resolved_at m name qmgr l = resolve (places_at m l).definitions (places_at m l).name name qmgr

abbrev pub opened_by : Open → Hobj → Route → Connection → Connection
opened_by how ho route c = record c { handles = c.handles ++ record { number = ho.number; how = how; leads = route.end; path = route.path; stale = false; cursor = None } ∷ [] }

abbrev pub open_to : ℕ → Hconn → Open → Hobj → Result Route Reason → Ledger → Ledger
open_to m hc how ho (Err reason) l = l
open_to m hc how ho (Ok route) l = on_connection m hc (opened_by how ho route) l

-- a handle is gone; an item joins the unit
abbrev pub close : Hobj → Connection → Connection
close ho c = record c { handles = filter (λ (h : Handle). not (h.number == ho.number)) c.handles }

abbrev pub pend : ℕ → Hconn → Item → Ledger → Ledger
pend m hc item l = on_connection m hc (λ c. record c { unit = c.unit ++ item ∷ [] }) l

-- A put: inside a unit it is pending, else it is placed.
abbrev pub put_row : Bool → ℕ → Hconn → List ℕ → Message → Ledger → Ledger
put_row true m hc queue message l = pend m hc (Put queue message) l
put_row false m hc queue message l = place m queue message l

abbrev pub put_by : Bool → ℕ → Hconn → Connection → Route → Ident → Md → List ℕ → Ledger → Ledger
put_by sync m hc c route ident md body l = put_row sync m hc (queue_at route.end) (message_put ident c.appl route md body (here_at m l)) l

abbrev pub put_through : Bool → ℕ → Hconn → Connection → Option Handle → Ident → Md → List ℕ → Ledger → Ledger
put_through sync m hc c None ident md body l = l
put_through sync m hc c (Some h) ident md body l = put_by sync m hc c (handle_route h) ident md body l

abbrev pub put : Bool → ℕ → Hconn → Hobj → Option Connection → Option Ident → Md → List ℕ → Ledger → Ledger
put sync m hc ho None ident md body l = l
put sync m hc ho (Some c) None md body l = l
put sync m hc ho (Some c) (Some ident) md body l = put_through sync m hc c (handle_at ho.number c.handles) ident md body l

abbrev pub put1_by : Bool → ℕ → Hconn → Connection → Result Route Reason → Ident → Md → List ℕ → Ledger → Ledger
put1_by sync m hc c (Err reason) ident md body l = l
put1_by sync m hc c (Ok route) ident md body l = put_by sync m hc c route ident md body l

-- MQPUT1: where its name leads now
abbrev pub put1 : Bool → ℕ → Hconn → List ℕ → List ℕ → Option Connection → Option Ident → Md → List ℕ → Ledger → Ledger
put1 sync m hc name qmgr None ident md body l = l
put1 sync m hc name qmgr (Some c) None md body l = l
put1 sync m hc name qmgr (Some c) (Some ident) md body l = put1_by sync m hc c (resolved_at m name qmgr l) ident md body l

-- A get: inside a unit it is pending, else the ident is taken. A browse is no get.
abbrev pub get_row : Bool → ℕ → Hconn → Ident → Ledger → Ledger
get_row true m hc ident l = pend m hc (Take [] ident false) l
get_row false m hc ident l = take_got m ident l

abbrev pub get_by : Get → ℕ → Hconn → Option Ident → Ledger → Ledger
get_by get m hc None l = l
get_by get m hc (Some ident) l = if is_destructive get.take then get_row get.sync m hc ident l else l

-- A unit's end: its gets are taken, then its puts are placed in put order.
abbrev pub take_items : ℕ → List Item → Ledger → Ledger
take_items m [] l = l
take_items m (Put queue message ∷ items) l = take_items m items l
take_items m (Take queue ident persistent ∷ items) l = take_items m items (take_got m ident l)

abbrev pub place_items : ℕ → List Item → Ledger → Ledger
place_items m [] l = l
place_items m (Put queue message ∷ items) l = place_items m items (place m queue message l)
place_items m (Take queue ident persistent ∷ items) l = place_items m items l

abbrev pub unit_of : Option Connection → List Item
unit_of None = []
unit_of (Some c) = c.unit

abbrev pub back_out : ℕ → Hconn → Ledger → Ledger
back_out m hc l = on_connection m hc (λ c. record c { unit = [] }) l

abbrev pub commit : ℕ → Hconn → Ledger → Ledger
commit m hc l = back_out m hc (place_items m (unit_of (connection_of m hc l)) (take_items m (unit_of (connection_of m hc l)) l))

-- What the answers say; of a call whose write was stopped and is found, the restart's delta says it.
abbrev pub first_placed : List Did → Option Ident
first_placed [] = None
first_placed (did.Placed queue ident dead ∷ ds) = Some ident
first_placed (_ ∷ ds) = first_placed ds

abbrev pub first_got : List Did → Option Ident
first_got [] = None
first_got (did.Removed queue ident whys.Got ∷ ds) = Some ident
first_got (_ ∷ ds) = first_got ds

abbrev pub sent_ident : Reply → List Did → Option Ident
sent_ident (replies.Put (answers.Ok s)) ds = Some s.ident
sent_ident (replies.Put (answers.Warning reason s)) ds = Some s.ident
sent_ident (replies.Stopped by) ds = first_placed ds
sent_ident _ ds = None

-- a message that did not fit is left
abbrev pub got_unless_left : Reason → Got → Option Ident
got_unless_left reasons.TruncatedMessageFailed g = None
got_unless_left _ g = Some g.ident

abbrev pub got_ident : Reply → List Did → Option Ident
got_ident (replies.Got (answers.Ok g)) ds = Some g.ident
got_ident (replies.Got (answers.Warning reason g)) ds = got_unless_left reason g
got_ident (replies.Stopped by) ds = first_got ds
got_ident _ ds = None

abbrev pub is_ended : Reply → Bool
is_ended (replies.Ended (answers.Ok value)) = true
is_ended (replies.Stopped by) = true
is_ended _ = false

abbrev pub is_obeyed : Reply → Bool
is_obeyed (replies.Acted (acted.Shown shown)) = true
is_obeyed (replies.Stopped by) = true
is_obeyed _ = false

abbrev pub when : Bool → (Ledger → Ledger) → Ledger → Ledger
when true f l = f l
when false f l = l

-- Expired rows and those that a rule discarded are taken.
abbrev pub is_taken : Why → Bool
is_taken whys.Got = false
is_taken whys.Expired = true
is_taken whys.Discarded = true
is_taken whys.Sent = false
is_taken whys.CameBack = false

abbrev pub take_gone : ℕ → Did → Ledger → Ledger
take_gone m (did.Removed queue ident why) l = when (is_taken why) (take m ident) l
take_gone m _ l = l

abbrev pub take_all_gone : ℕ → List Did → Ledger → Ledger
take_all_gone m [] l = l
take_all_gone m (d ∷ ds) l = take_all_gone m ds (take_gone m d l)

-- A handler's move: the ident goes from its place here to the queue of the rule's target, with its header or without.
abbrev pub row_in : Ident → List Shelf → Option Row
row_in ident [] = None
row_in ident (q ∷ qs) = elim (find (has_ident ident) q.rows) as (λ r. Option Row) [ None ↦ row_in ident qs | Some row ↦ Some row ]

abbrev pub moved_to : ℕ → Message → Result Route Reason → Ledger → Ledger
moved_to m message (Err reason) l = l
moved_to m message (Ok route) l = place m (queue_at route.end) (record message { route = dest_at route.end }) (take_from m message.ident l)

abbrev pub move_row : ℕ → Dest → Bool → Option Row → Ledger → Ledger
move_row m to bare None l = l
move_row m to bare (Some row) l = moved_to m (bare_if bare row.message) (resolved_at m to.queue to.qmgr l) l

abbrev pub move : ℕ → Did → Ledger → Ledger
move m (did.Moved from ident queue to bare) l = move_row m to bare (row_in ident (places_at m l).queues) l
move m _ l = l

abbrev pub move_all : ℕ → List Did → Ledger → Ledger
move_all m [] l = l
move_all m (d ∷ ds) l = move_all m ds (move m d l)

-- A receiver's commit. First each ident of its list is taken from the place that it has, at whatever manager; then, in
-- list order, each is placed by the names that came with it, or as a dead letter of the reason that is told. One that
-- had no place is placed only where it is nonpersistent and nothing took it.
abbrev pub idents_of : List Message → List Ident
idents_of ms = map (λ (m : Message). m.ident) ms

abbrev pub take_everywhere : List Ident → Ledger → Ledger
take_everywhere idents l = record l { places = map (λ (p : ManagerPlaces). record p { queues = leave_queues (λ (row : Row). not (is_one_of idents row)) p.queues }) l.places }

abbrev pub dead_reason : Ident → List Did → Option Reason
dead_reason ident [] = None
dead_reason ident (did.Placed queue other dead ∷ ds) = if same_ident ident other then dead else dead_reason ident ds
dead_reason ident (_ ∷ ds) = dead_reason ident ds

-- the row that is placed is the ledger's own, with the names that came; the message that came counts only where its ident
-- had no place
abbrev pub row_at : Ident → List ManagerPlaces → Option Row
row_at ident [] = None
row_at ident (p ∷ ps) = elim (row_in ident p.queues) as (λ r. Option Row) [ None ↦ row_at ident ps | Some row ↦ Some row ]

abbrev pub own_or : Message → Option Row → Message
own_or came None = came
own_or came (Some row) = record row.message { route = came.route }

abbrev pub own_row : Ledger → Message → Message
own_row before came = own_or came (row_at came.ident before.places)

abbrev pub is_admitted : Ledger → Message → Bool
is_admitted before m = list_any (same_ident m.ident) (placed_idents before) || (not (is_persistent m) && not (list_any (same_ident m.ident) before.gone))

abbrev pub place_routed : ℕ → Message → Result Route Reason → Ledger → Ledger
place_routed m message (Err reason) l = l
place_routed m message (Ok route) l = place m (queue_at route.end) (record message { route = dest_at route.end }) l

-- one message: by the names that came, or behind a header of the reason on the dead-letter queue
abbrev pub place_received : ℕ → List ℕ → Message → Option Reason → Ledger → Ledger
place_received m channel message None l = place_routed m message (resolved_at m (names_of message.route).queue (names_of message.route).qmgr l) l
place_received m channel message (Some reason) l =
    place m (places_at m l).definitions.manager.dead_letter_queue (dead_message channel reason message (users_at m l).moment) l

abbrev pub place_list : ℕ → List ℕ → List Did → Ledger → List Message → Ledger → Ledger
place_list m channel ds before [] l = l
place_list m channel ds before (message ∷ ms) l =
    place_list m channel ds before ms (when (is_admitted before message) (place_received m channel (own_row before message) (dead_reason message.ident ds)) l)

-- all of them, and the channel on which they came, if the delta tells a commit
abbrev pub receive : ℕ → List ℕ → List Message → List Did → Ledger → Ledger
receive m channel ms ds l = place_list m channel ds l ms (take_everywhere (idents_of ms) l)

abbrev pub received_on : List Did → Option (List ℕ)
received_on [] = None
received_on (did.Received channel unit ∷ ds) = Some channel
received_on (_ ∷ ds) = received_on ds

abbrev pub receive_if : ℕ → Option (List ℕ) → List Message → List Did → Ledger → Ledger
receive_if m None ms ds l = l
receive_if m (Some channel) ms ds l = receive m channel ms ds l

-- A trigger message is placed on the initiation queue.
abbrev pub trigger_by : ℕ → Ident → LocalQueue → Option Process → Option LocalQueue → Ledger → Ledger
trigger_by m ident q None i l = l
trigger_by m ident q (Some process) None l = l
trigger_by m ident q (Some process) (Some i) l = place m i.name (trigger_message ident q process i (users_at m l).moment) l

abbrev pub trigger_for : ℕ → Option Ident → Option LocalQueue → Ledger → Ledger
trigger_for m None q l = l
trigger_for m (Some ident) None l = l
trigger_for m (Some ident) (Some q) l =
    trigger_by m ident q (process_of q.process (places_at m l).definitions) (local_of q.initiation_queue (places_at m l).definitions) l

abbrev pub trigger : ℕ → Reply → List Did → Ledger → Ledger
trigger m (replies.Triggered queue) ds l = trigger_for m (first_placed ds) (local_of queue (places_at m l).definitions) l
trigger m _ ds l = l

-- Commands: an accepted one changes the definitions. A queue that is deleted leaves its list.
abbrev pub obey : ℕ → Command → Ledger → Ledger
obey m (commands.Objects c) l = with_places m (λ p. record p { definitions = definitions_after c p.definitions }) l
obey m (commands.Operate op) l = l
obey m (commands.ShowStatus name any_end) l = l

-- A stop: connections and units are gone, and the nonpersistent rows.
abbrev pub stop : ℕ → Ledger → Ledger
stop m l = lose m (with_users m (λ u. record u { connections = [] }) l)

abbrev pub stop_if : Reply → ℕ → Ledger → Ledger
stop_if (replies.Acted acted.Done) m l = stop m l
stop_if _ m l = l

abbrev pub connect_if : ℕ → Appl → Reply → Ledger → Ledger
connect_if m appl (replies.Connected (answers.Ok hc)) l = connect m hc appl l
connect_if m appl _ l = l

abbrev pub open_if : ℕ → Hconn → List ℕ → List ℕ → Open → Reply → Ledger → Ledger
open_if m hc name qmgr how (replies.Opened (answers.Ok ho)) l = open_to m hc how ho (resolved_at m name qmgr l) l
open_if m hc name qmgr how _ l = l

abbrev pub close_if : ℕ → Hconn → Hobj → Reply → Ledger → Ledger
close_if m hc ho (replies.Ended (answers.Ok value)) l = on_connection m hc (close ho) l
close_if m hc ho _ l = l

-- What a call does to the ledger, by its reply and this delta.
abbrev pub post_call : ℕ → Call → Reply → List Message → List Did → Ledger → Ledger
post_call m (calls.Mqconn qmgr appl) reply ms ds l = connect_if m appl reply l
post_call m (calls.Mqdisc hc) reply ms ds l = when (is_ended reply) (λ x. disconnect m hc (commit m hc x)) l
post_call m (calls.Mqopen hc name qmgr how) reply ms ds l = open_if m hc name qmgr how reply l
post_call m (calls.Mqclose hc ho) reply ms ds l = close_if m hc ho reply l
post_call m (calls.Mqput hc ho md body sync) reply ms ds l = put sync m hc ho (connection_of m hc l) (sent_ident reply ds) md body l
post_call m (calls.Mqput1 hc name qmgr md body sync) reply ms ds l = put1 sync m hc name qmgr (connection_of m hc l) (sent_ident reply ds) md body l
post_call m (calls.Mqget hc ho get until) reply ms ds l = get_by get m hc (got_ident reply ds) l
post_call m (calls.Mqcmit hc) reply ms ds l = when (is_ended reply) (commit m hc) l
post_call m (calls.Mqback hc) reply ms ds l = when (is_ended reply) (back_out m hc) l
post_call m (calls.Act (acts.Obey c)) reply ms ds l = when (is_obeyed reply) (obey m c) l
post_call m (calls.Act acts.Crash) reply ms ds l = stop_if reply m l
post_call m (calls.Act acts.Restart) reply ms ds l = l
post_call m (calls.Act (acts.Cut k)) reply ms ds l = l
post_call m (calls.Act (acts.Clock by)) reply ms ds l = with_users m (λ u. record u { moment = min (u.moment + by) last_moment }) l
post_call m calls.Turn reply ms ds l = receive_if m (received_on ds) ms ds (move_all m ds l)
post_call m calls.Timeout reply ms ds l = l
post_call m calls.Trigger reply ms ds l = trigger m reply ds l

abbrev pub post : ℕ → Entry → List Did → Ledger → Ledger
post m e ds l = post_call m e.call e.reply e.effect.received ds (take_all_gone m ds l)

-- A call whose write was stopped counts at the restart that finds it, and not before, with the moment at which it was
-- made; what it had removed before is gone. Its manager's nonpersistent rows go at once.
abbrev pub cut : ℕ → Entry → Ledger → Ledger
cut m e l = lose m (with_users m (λ u. record u { cut = Some (record { entry = e; moment = u.moment }) }) (take_all_gone m e.effect.delta l))

abbrev pub at_moment : ℕ → ℕ → Ledger → Ledger
at_moment m moment l = with_users m (λ u. record u { moment = moment }) l

abbrev pub found : ℕ → Option Stopped → List Did → Ledger → Ledger
found m None ds l = l
found m (Some s) ds l = at_moment m (users_at m l).moment (post m s.entry ds (at_moment m s.moment l))

abbrev pub up_again : ℕ → Ledger → Ledger
up_again m l = stop m (with_users m (λ u. record u { cut = None }) l)

-- a restart of a manager that is up is refused, whatever it would have found
abbrev pub come_up : ℕ → Chance → List Did → Ledger → Ledger
come_up m (chances.Restart (Comes true started)) ds l = up_again m (found m (users_at m l).cut ds l)
come_up m (chances.Restart (Comes false started)) ds l = up_again m l
come_up m _ ds l = l

abbrev pub returned : ℕ → Reply → Chance → List Did → Ledger → Ledger
returned m (replies.Acted acted.Done) chance ds l = come_up m chance ds l
returned m _ chance ds l = l

-- Each entry of a story, one after the other.
abbrev pub posted : ℕ → Entry → Reply → Ledger → Ledger
posted m e (replies.Stopped by) l = cut m e l
posted m e reply l = returned m reply e.chance e.effect.delta (post m e e.effect.delta l)

abbrev pub ledger : Ledger → List Line → Ledger
ledger l [] = l
ledger l (x ∷ xs) = ledger (posted x.manager x.entry x.entry.reply l) xs

-- the rows of a queue
abbrev pub rows_in : List ℕ → List Shelf → List Row
rows_in name [] = []
rows_in name (q ∷ qs) = if bytes_eq name q.name then q.rows else rows_in name qs

abbrev pub ledger_rows : ℕ → List ℕ → Ledger → List Row
ledger_rows m name l = rows_in name (places_at m l).queues
