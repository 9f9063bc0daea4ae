-- What a call does to the ledger is that what it places, read before, is put.
use Rattle.std.proofs.Common.{ℕ, ◌≡◌, Bool, List, Option, Some, None, refl}
use Rattle.std.specs.Prelude.{Result, Ok, Err}
use Rattle.mq_codes.specs.declared.reason.Reason.{Reason}
use Rattle.mq_message.specs.declared.message.Ident.{Ident}
use Rattle.mq_message.specs.declared.message.Dest.{Dest}
use Rattle.mq_message.specs.declared.message.Message.{Message}
use Rattle.mq_message.specs.declared.message.Md.{Md}
use Rattle.mq_queue.specs.declared.row.Row.{Row}
use Rattle.mq_resolve.specs.declared.route.Route.{Route}
use Rattle.mq_objects.specs.declared.object.LocalQueue.{LocalQueue}
use Rattle.mq_objects.specs.declared.object.Process.{Process}
use Rattle.mq_calls.specs.declared.answers.Hconn.{Hconn}
use Rattle.mq_calls.specs.declared.answers.Hobj.{Hobj}
use Rattle.mq_calls.specs.declared.state.Handle.{Handle}
use Rattle.mq_calls.specs.declared.state.Connection.{Connection}
use Rattle.mq_calls.specs.Reads.{handle_at}
use Rattle.mq_objects.specs.Names.{local_of, process_of}
use Rattle.mq_spec_manager.specs.Landing.{names_of}
use Rattle.mq_spec_manager.specs.Moves.{bare_if}
use Rattle.mq_spec_network.specs.Ledger.{Ledger, put, put_through, put1, put1_by, resolved_at, places_at, moved_to, move_row, place_routed, place_received, trigger_by, trigger_for}
use Rattle.mq_net_ledger.specs.Posts.{put_posted, place_posted, move_posted, through_of, put_of, put1_by_of, put1_of, routed, moved_of, received_of, trigger_by_of, trigger_of}

through_is : (sync : Bool) (m : ℕ) (hc : Hconn) (c : Connection) (h : Option Handle) (ident : Ident) (md : Md) (body : List ℕ) (l : Ledger)
    → put_posted sync m hc (through_of m c h ident md body l) l ≡ put_through sync m hc c h ident md body l
through_is sync m hc c None ident md body l = refl
through_is sync m hc c (Some h) ident md body l = refl

pub put_is : (sync : Bool) (m : ℕ) (hc : Hconn) (ho : Hobj) (c : Option Connection) (ident : Option Ident) (md : Md) (body : List ℕ) (l : Ledger)
    → put_posted sync m hc (put_of m ho c ident md body l) l ≡ put sync m hc ho c ident md body l
put_is sync m hc ho None ident md body l = refl
put_is sync m hc ho (Some c) None md body l = refl
put_is sync m hc ho (Some c) (Some ident) md body l = through_is sync m hc c (handle_at ho.number c.handles) ident md body l

put1_by_is : (sync : Bool) (m : ℕ) (hc : Hconn) (c : Connection) (r : Result Route Reason) (ident : Ident) (md : Md) (body : List ℕ) (l : Ledger)
    → put_posted sync m hc (put1_by_of m c r ident md body l) l ≡ put1_by sync m hc c r ident md body l
put1_by_is sync m hc c (Err reason) ident md body l = refl
put1_by_is sync m hc c (Ok route) ident md body l = refl

pub put1_is : (sync : Bool) (m : ℕ) (hc : Hconn) (name qmgr : List ℕ) (c : Option Connection) (ident : Option Ident) (md : Md) (body : List ℕ) (l : Ledger)
    → put_posted sync m hc (put1_of m name qmgr c ident md body l) l ≡ put1 sync m hc name qmgr c ident md body l
put1_is sync m hc name qmgr None ident md body l = refl
put1_is sync m hc name qmgr (Some c) None md body l = refl
put1_is sync m hc name qmgr (Some c) (Some ident) md body l = put1_by_is sync m hc c (resolved_at m name qmgr l) ident md body l

-- a row that is moved; one message of a receiver's commit
moved_is : (m : ℕ) (message : Message) (r : Result Route Reason) (l : Ledger) → move_posted m (routed message r) l ≡ moved_to m message r l
moved_is m message (Err reason) l = refl
moved_is m message (Ok route) l = refl

pub move_is : (m : ℕ) (to : Dest) (bare : Bool) (row : Option Row) (l : Ledger) → move_posted m (moved_of m to bare row l) l ≡ move_row m to bare row l
move_is m to bare None l = refl
move_is m to bare (Some row) l = moved_is m (bare_if bare row.message) (resolved_at m to.queue to.qmgr l) l

routed_is : (m : ℕ) (message : Message) (r : Result Route Reason) (l : Ledger) → place_posted m (routed message r) l ≡ place_routed m message r l
routed_is m message (Err reason) l = refl
routed_is m message (Ok route) l = refl

pub received_is : (m : ℕ) (channel : List ℕ) (message : Message) (dead : Option Reason) (l : Ledger) → place_posted m (received_of m channel message dead l) l ≡ place_received m channel message dead l
received_is m channel message None l = routed_is m message (resolved_at m (names_of message.route).queue (names_of message.route).qmgr l) l
received_is m channel message (Some reason) l = refl

-- a trigger turn
trigger_by_is : (m : ℕ) (ident : Ident) (q : LocalQueue) (p : Option Process) (i : Option LocalQueue) (l : Ledger) → place_posted m (trigger_by_of m ident q p i l) l ≡ trigger_by m ident q p i l
trigger_by_is m ident q None i l = refl
trigger_by_is m ident q (Some process) None l = refl
trigger_by_is m ident q (Some process) (Some i) l = refl

pub trigger_is : (m : ℕ) (ident : Option Ident) (q : Option LocalQueue) (l : Ledger) → place_posted m (trigger_of m ident q l) l ≡ trigger_for m ident q l
trigger_is m None q l = refl
trigger_is m (Some ident) None l = refl
trigger_is m (Some ident) (Some q) l = trigger_by_is m ident q (process_of q.process (places_at m l).definitions) (local_of q.initiation_queue (places_at m l).definitions) l
