-- What a call places, read before anything changes: the queue and the message, or nothing.
use Rattle.std.specs.Prelude.{ℕ, Bool, List, [], ◌∷◌, Option, Some, None, Result, Ok, Err}
use Rattle.mq_codes.specs.declared.reason.Reason.{Reason}
use Rattle.mq_message.specs.declared.message.Ident.{Ident}
use Rattle.mq_message.specs.declared.message.Dest.{Dest}
use Rattle.mq_message.specs.declared.message.Message.{Message}
use Rattle.mq_message.specs.declared.message.Md.{Md}
use Rattle.mq_queue.specs.declared.row.Row.{Row}
use Rattle.mq_resolve.specs.declared.route.Route.{Route}
use Rattle.mq_objects.specs.declared.object.LocalQueue.{LocalQueue}
use Rattle.mq_objects.specs.declared.object.Process.{Process}
use Rattle.mq_objects.specs.Names.{local_of, process_of}
use Rattle.mq_calls.specs.declared.answers.Hconn.{Hconn}
use Rattle.mq_calls.specs.declared.answers.Hobj.{Hobj}
use Rattle.mq_calls.specs.declared.state.Handle.{Handle}
use Rattle.mq_calls.specs.declared.state.Connection.{Connection}
use Rattle.mq_calls.specs.declared.state.Item.{Item}
use Rattle.mq_calls.specs.Reads.{handle_at}
use Rattle.mq_spec_manager.specs.Put.{queue_at, dest_at, message_put, handle_route}
use Rattle.mq_spec_manager.specs.Triggers.{trigger_message}
use Rattle.mq_spec_manager.specs.Landing.{names_of, dead_message}
use Rattle.mq_spec_manager.specs.Moves.{bare_if}
use Rattle.mq_spec_network.specs.Ledger.{Ledger, place, put_row, take_from, here_at, places_at, users_at, resolved_at, take_items, place_items}
use Rattle.mq_net_ledger.specs.declared.posts.Posted.{Posted}

-- it is put by a connection, inside its unit or not; it is placed; or it leaves its place and is placed anew
abbrev pub put_posted : Bool → ℕ → Hconn → Option Posted → Ledger → Ledger
put_posted sync m hc None l = l
put_posted sync m hc (Some p) l = put_row sync m hc p.queue p.message l

abbrev pub place_posted : ℕ → Option Posted → Ledger → Ledger
place_posted m None l = l
place_posted m (Some p) l = place m p.queue p.message l

abbrev pub move_posted : ℕ → Option Posted → Ledger → Ledger
move_posted m None l = l
move_posted m (Some p) l = place m p.queue p.message (take_from m p.message.ident l)

-- Of a put: by the route of its handle, or by where its name leads now.
abbrev pub put_by_of : ℕ → Connection → Route → Ident → Md → List ℕ → Ledger → Posted
put_by_of m c route ident md body l = record { queue = queue_at route.end; message = message_put ident c.appl route md body (here_at m l) }

abbrev pub through_of : ℕ → Connection → Option Handle → Ident → Md → List ℕ → Ledger → Option Posted
through_of m c None ident md body l = None
through_of m c (Some h) ident md body l = Some (put_by_of m c (handle_route h) ident md body l)

abbrev pub put_of : ℕ → Hobj → Option Connection → Option Ident → Md → List ℕ → Ledger → Option Posted
put_of m ho None ident md body l = None
put_of m ho (Some c) None md body l = None
put_of m ho (Some c) (Some ident) md body l = through_of m c (handle_at ho.number c.handles) ident md body l

abbrev pub put1_by_of : ℕ → Connection → Result Route Reason → Ident → Md → List ℕ → Ledger → Option Posted
put1_by_of m c (Err reason) ident md body l = None
put1_by_of m c (Ok route) ident md body l = Some (put_by_of m c route ident md body l)

abbrev pub put1_of : ℕ → List ℕ → List ℕ → Option Connection → Option Ident → Md → List ℕ → Ledger → Option Posted
put1_of m name qmgr None ident md body l = None
put1_of m name qmgr (Some c) None md body l = None
put1_of m name qmgr (Some c) (Some ident) md body l = put1_by_of m c (resolved_at m name qmgr l) ident md body l

-- Of a message at the end of a route; of a move; of a message that came on a channel.
abbrev pub routed : Message → Result Route Reason → Option Posted
routed message (Err reason) = None
routed message (Ok route) = Some (record { queue = queue_at route.end; message = record message { route = dest_at route.end } })

abbrev pub moved_of : ℕ → Dest → Bool → Option Row → Ledger → Option Posted
moved_of m to bare None l = None
moved_of m to bare (Some row) l = routed (bare_if bare row.message) (resolved_at m to.queue to.qmgr l)

abbrev pub received_of : ℕ → List ℕ → Message → Option Reason → Ledger → Option Posted
received_of m channel message None l = routed message (resolved_at m (names_of message.route).queue (names_of message.route).qmgr l)
received_of m channel message (Some reason) l =
    Some (record { queue = (places_at m l).definitions.manager.dead_letter_queue; message = dead_message channel reason message (users_at m l).moment })

-- Of a trigger turn.
abbrev pub trigger_by_of : ℕ → Ident → LocalQueue → Option Process → Option LocalQueue → Ledger → Option Posted
trigger_by_of m ident q None i l = None
trigger_by_of m ident q (Some process) None l = None
trigger_by_of m ident q (Some process) (Some i) l = Some (record { queue = i.name; message = trigger_message ident q process i (users_at m l).moment })

abbrev pub trigger_of : ℕ → Option Ident → Option LocalQueue → Ledger → Option Posted
trigger_of m None q l = None
trigger_of m (Some ident) None l = None
trigger_of m (Some ident) (Some q) l =
    trigger_by_of m ident q (process_of q.process (places_at m l).definitions) (local_of q.initiation_queue (places_at m l).definitions) l

-- One item of a unit.
abbrev pub take_item : ℕ → Item → Ledger → Ledger
take_item m item l = take_items m (item ∷ []) l

abbrev pub place_item : ℕ → Item → Ledger → Ledger
place_item m item l = place_items m (item ∷ []) l
