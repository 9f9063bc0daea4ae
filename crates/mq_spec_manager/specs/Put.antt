-- MQPUT and MQPUT1.
use Rattle.std.specs.Prelude.{ℕ, ℤ, pos, negsuc, ◌+◌, ◌*◌, ◌==◌, nat_lt, nat_le, Bool, true, false, not, ◌&&◌, List, [], ◌∷◌, ◌++◌, if◌then◌else◌, Option, Some, None, Result, Ok, Err, length}
use Rattle.std.specs.List.{list_any, list_all}
use Rattle.mq_heads.specs.from_base.Name.{padded, name_of}
use Rattle.mq_heads.specs.from_base.{NameFault}
use Rattle.mq_sc_apply.specs.from_calls.Words.{Reason, Ident, Dest, Md, Message, LocalQueue, Object, Definitions, RouteEnd, PathStep, Route, Plain, Change, is_int, is_persistent, handle_at, depth, put_bytes, more_need, is_full, Step, Part, Test, when, tested, Refuse, Do, queue_of, local_of}
use Rattle.mq_sc_apply.specs.from_calls.{Answer, Appl, Connection, Handle, Hconn, Hobj, LogRecord, Open, Sent}
use Rattle.mq_sc_apply.specs.from_codes.ReasonVariants as reasons
use Rattle.mq_sc_apply.specs.from_objects.ObjectVariants as objects
use Rattle.mq_sc_apply.specs.from_resolve.RouteEndVariants.{Local, Via}
use Rattle.mq_sc_apply.specs.from_resolve.PathStepVariants as steps
use Rattle.mq_sc_apply.specs.from_resolve.Resolved.{resolve}
use Rattle.mq_sc_apply.specs.from_calls.AnswerVariants as answers
use Rattle.mq_sc_apply.specs.from_calls.InputVariants as inputs
use Rattle.mq_sc_apply.specs.from_calls.DidVariants as did
use Rattle.mq_sc_apply.specs.from_calls.LogRecordVariants as records
use Rattle.mq_sc_apply.specs.from_calls.ItemVariants.{Put}
use Rattle.mq_sc_apply.specs.from_calls.State.Change.{Place, Try, Pend, CountIdent}
use Rattle.mq_heads.specs.Stamps.{put_date, put_time}
use Rattle.mq_heads.specs.from_message.Descriptor.{made_id}
use Rattle.mq_spec_manager.specs.Heads.{trimmed}
use Rattle.mq_spec_manager.specs.Handles.{connected, for_connection, for_handle, is_unfit}

-- The queue on which the row is put, and where it goes from there.
abbrev pub queue_at : RouteEnd → List ℕ
queue_at (Local queue) = queue
queue_at (Via xq rq rqm) = xq

abbrev pub dest_at : RouteEnd → Option Dest
dest_at (Local queue) = None
dest_at (Via xq rq rqm) = Some (record { queue = rq; qmgr = rqm })

-- Defaults are those of the first definition on the path.
abbrev pub first_on : List PathStep → List ℕ
first_on [] = []
first_on (steps.Queue name ∷ path) = name
first_on (steps.DefXmitq ∷ path) = first_on path

abbrev pub default_priority : Option Object → ℕ
default_priority None = 0
default_priority (Some (objects.Local q)) = q.default_priority
default_priority (Some (objects.Alias q)) = q.default_priority
default_priority (Some (objects.Remote q)) = q.default_priority
default_priority (Some (objects.Channel c)) = 0
default_priority (Some (objects.Process c)) = 0

abbrev pub default_persistent : Option Object → Bool
default_persistent None = false
default_persistent (Some (objects.Local q)) = q.default_persistent
default_persistent (Some (objects.Alias q)) = q.default_persistent
default_persistent (Some (objects.Remote q)) = q.default_persistent
default_persistent (Some (objects.Channel c)) = false
default_persistent (Some (objects.Process c)) = false

-- a priority below 0 stands for the default, and so does a persistence that is neither 0 nor 1
abbrev pub priority_or : ℕ → ℤ → ℤ
priority_or default (pos n) = pos n
priority_or default (negsuc n) = pos default

abbrev pub flag_int : Bool → ℤ
flag_int true = pos 1
flag_int false = pos 0

abbrev pub persistence_or : Bool → ℤ → ℤ
persistence_or default (pos n) = if nat_le n 1 then pos n else flag_int default
persistence_or default (negsuc n) = flag_int default

-- What the manager fills in.
abbrev pub id_or : Ident → List ℕ → List ℕ
id_or ident id = if list_all (λ b. b == 0) id then made_id ident else id

abbrev pub set_or : ℤ → ℤ
set_or ccsid = if is_int 0 ccsid then pos 1208 else ccsid

abbrev pub is_blank : List ℕ → Bool
is_blank field = list_all (λ b. b == 32) field

-- where replies go: a remote definition gives its names, else the manager's own name
pub record Replies : Type 0 where
  pub queue : List ℕ
  pub qmgr : List ℕ

abbrev pub replies_by : List ℕ → List ℕ → Option Object → Replies
replies_by own queue None = record { queue = queue; qmgr = padded 48 own }
replies_by own queue (Some (objects.Local q)) = record { queue = queue; qmgr = padded 48 own }
replies_by own queue (Some (objects.Alias q)) = record { queue = queue; qmgr = padded 48 own }
replies_by own queue (Some (objects.Remote q)) = record { queue = padded 48 q.remote_name; qmgr = padded 48 q.remote_manager }
replies_by own queue (Some (objects.Channel c)) = record { queue = queue; qmgr = padded 48 own }
replies_by own queue (Some (objects.Process c)) = record { queue = queue; qmgr = padded 48 own }

-- the queue that a field names, where its text is a name
abbrev pub named_by : Result (List ℕ) NameFault → Definitions → Option Object
named_by (Err fault) d = None
named_by (Ok name) d = queue_of name d

abbrev pub replies_to : List ℕ → List ℕ → List ℕ → Definitions → Replies
replies_to queue qmgr own d =
    if not (is_blank queue) && is_blank qmgr then replies_by own queue (named_by (name_of 48 (trimmed queue)) d)
    else record { queue = queue; qmgr = qmgr }

abbrev pub next_ident : Plain → Ident
next_ident p = record { manager = p.given.number; incarnation = p.numbers.incarnation; number = p.numbers.idents + 1 }

abbrev pub filled_by : Ident → Appl → Option Object → Replies → Md → ℕ → Md
filled_by ident appl first replies md moment = record md {
  coded_char_set_id = set_or md.coded_char_set_id;
  priority = priority_or (default_priority first) md.priority;
  persistence = persistence_or (default_persistent first) md.persistence;
  msg_id = id_or ident md.msg_id;
  backout_count = pos 0;
  reply_to_q = replies.queue;
  reply_to_q_mgr = replies.qmgr;
  user_identifier = appl.user;
  put_appl_type = pos 6;
  put_appl_name = appl.name;
  put_date = put_date moment;
  put_time = put_time moment;
}

-- where a message is put: the manager's name, its definitions and its moment
pub record Here : Type 0 where
  pub own : List ℕ
  pub definitions : Definitions
  pub moment : ℕ

abbrev pub here : Plain → Here
here p = record { own = p.given.name; definitions = p.definitions; moment = p.moment }

abbrev pub filled : Ident → Appl → List PathStep → Md → Here → Md
filled ident appl path md h =
    filled_by ident appl (queue_of (first_on path) h.definitions) (replies_to md.reply_to_q md.reply_to_q_mgr h.own h.definitions) md h.moment

-- tenths of a second from now on; none where the field is -1
abbrev pub deadline_of : ℤ → ℕ → Option ℕ
deadline_of (pos n) moment = Some (moment + 100 * n)
deadline_of (negsuc n) moment = None

abbrev pub message_put : Ident → Appl → Route → Md → List ℕ → Here → Message
message_put ident appl route md body h = record {
  ident = ident;
  md = filled ident appl route.path md h;
  route = dest_at route.end;
  deadline = deadline_of md.expiry h.moment;
  body = body;
}

abbrev pub new_message : Connection → Route → Md → List ℕ → Plain → Message
new_message c route md body p = message_put (next_ident p) c.appl route md body (here p)

-- Refusals of every placing: a definition on the path is put-disabled; the body is too long; the queue is full.
abbrev pub is_put_disabled : Option Object → Bool
is_put_disabled None = false
is_put_disabled (Some (objects.Local q)) = not q.put_enabled
is_put_disabled (Some (objects.Alias q)) = not q.put_enabled
is_put_disabled (Some (objects.Remote q)) = not q.put_enabled
is_put_disabled (Some (objects.Channel c)) = false
is_put_disabled (Some (objects.Process c)) = false

abbrev pub is_disabled_at : Definitions → PathStep → Bool
is_disabled_at d (steps.Queue name) = is_put_disabled (queue_of name d)
is_disabled_at d steps.DefXmitq = false

abbrev pub max_length : Option LocalQueue → ℕ
max_length None = 0
max_length (Some q) = q.max_message_length

abbrev pub max_depth : Option LocalQueue → ℕ
max_depth None = 0
max_depth (Some q) = q.max_depth

-- in the order in which they are tried
abbrev pub inhibited_tests : List PathStep → Plain → List (Test Reason)
inhibited_tests path p = when (list_any (is_disabled_at p.definitions) path) reasons.PutInhibited ∷ []

abbrev pub length_tests : List ℕ → ℕ → Plain → List (Test Reason)
length_tests queue bytes p =
    when (nat_lt (max_length (local_of queue p.definitions)) bytes) reasons.MessageTooBigForQueue
    ∷ when (nat_lt p.definitions.manager.max_message_length bytes) reasons.MessageTooBigForQueueManager
    ∷ []

abbrev pub full_tests : List ℕ → Plain → List (Test Reason)
full_tests queue p = when (nat_le (max_depth (local_of queue p.definitions)) (depth queue p)) reasons.QueueFull ∷ []

abbrev pub placing_tests : Route → ℕ → Plain → List (Test Reason)
placing_tests route bytes p = inhibited_tests route.path p ++ length_tests (queue_at route.end) bytes p ++ full_tests (queue_at route.end) p

-- Expiry is neither above 0 nor -1
abbrev pub is_bad_expiry : ℤ → Bool
is_bad_expiry (pos n) = n == 0
is_bad_expiry (negsuc n) = not (n == 0)

abbrev pub sync_full : Bool → Connection → Plain → Bool
sync_full sync c p = sync && nat_le p.definitions.manager.max_uncommitted (length c.unit)

-- what a persistent put takes of the log
abbrev pub put_need : Bool → Connection → Message → ℕ
put_need true c m = more_need c.unit (put_bytes m)
put_need false c m = 14 + put_bytes m

abbrev pub log_full : Bool → Connection → Message → Plain → Bool
log_full sync c m p = is_persistent m && is_full (put_need sync c m) p

abbrev pub put_tests : Connection → Route → Md → List ℕ → Bool → Message → Plain → List (Test Reason)
put_tests c route md body sync m p =
    when (is_bad_expiry md.expiry) reasons.ExpiryError
    ∷ when (is_int 1 md.msg_type && is_blank md.reply_to_q) reasons.MissingReplyToQueue
    ∷ inhibited_tests route.path p ++ length_tests (queue_at route.end) (length body) p
    ++ when (sync_full sync c p) reasons.SyncpointLimitReached
    ∷ full_tests (queue_at route.end) p
    ++ when (log_full sync c m p) reasons.ResourceProblem
    ∷ []

-- The row is placed last in its lane, and the trigger's condition is tried for it.
abbrev pub placed : List ℕ → Message → List Change
placed queue m = Place queue m ∷ Try queue m.md.priority ∷ []

abbrev pub unit_record : List ℕ → Message → Option LogRecord
unit_record queue m = if is_persistent m then Some (records.Unit (record { queue = queue; message = m } ∷ []) []) else None

abbrev pub put_part : Bool → Connection → List ℕ → Message → Part
put_part true c queue m = record { forced = None; changes = CountIdent ∷ Pend c.number (Put queue m) ∷ []; delta = [] }
put_part false c queue m = record { forced = unit_record queue m; changes = CountIdent ∷ placed queue m; delta = did.Placed queue m.ident None ∷ [] }

-- a priority above 9 is warned of
abbrev pub is_high : ℤ → Bool
is_high (pos n) = nat_lt 9 n
is_high (negsuc n) = false

abbrev pub sent_answer : Bool → Message → Answer Sent
sent_answer true m = answers.Warning reasons.PriorityExceedsMaximum (record { ident = m.ident; md = m.md })
sent_answer false m = answers.Ok (record { ident = m.ident; md = m.md })

abbrev pub put_step : Connection → Route → Md → Bool → Message → Step Reason (Answer Sent)
put_step c route md sync m = Do (sent_answer (is_high md.priority) m) (put_part sync c (queue_at route.end) m ∷ [])

abbrev pub put_message : Connection → Route → Md → List ℕ → Bool → Message → Plain → Step Reason (Answer Sent)
put_message c route md body sync m p = tested (put_tests c route md body sync m p) (put_step c route md sync m)

abbrev pub put_route : Connection → Route → Md → List ℕ → Bool → Plain → Step Reason (Answer Sent)
put_route c route md body sync p = put_message c route md body sync (new_message c route md body p) p

-- MQPUT
abbrev pub handle_route : Handle → Route
handle_route h = record { end = h.leads; path = h.path }

abbrev pub output_tests : Handle → List (Test Reason)
output_tests h =
    when h.stale reasons.ObjectChanged
    ∷ when (not h.how.output) reasons.NotOpenForOutput
    ∷ []

abbrev pub put_handle : Md → List ℕ → Bool → Plain → Connection → Handle → Step Reason (Answer Sent)
put_handle md body sync p c h = tested (output_tests h)
    (put_route c (handle_route h) md body sync p)

abbrev pub put_up : Hobj → Md → List ℕ → Bool → Plain → Connection → Step Reason (Answer Sent)
put_up ho md body sync p c = for_handle (handle_at ho.number c.handles) (put_handle md body sync p c)

abbrev pub mqput : Hconn → Hobj → Md → List ℕ → Bool → Plain → Step Reason (Answer Sent)
mqput hc ho md body sync p = for_connection (connected hc p) (put_up ho md body sync p)

-- MQPUT1: as a put through a handle that is open for output.
abbrev pub output_only : Open
output_only = record { input = inputs.No; browse = false; output = true }

abbrev pub put1_resolved : Result Route Reason → Md → List ℕ → Bool → Plain → Connection → Step Reason (Answer Sent)
put1_resolved (Err reason) md body sync p c = Refuse reason
put1_resolved (Ok route) md body sync p c =
    tested (when (is_unfit output_only route.end p) reasons.OptionNotValidForType ∷ []) (put_route c route md body sync p)

abbrev pub mqput1 : Hconn → List ℕ → List ℕ → Md → List ℕ → Bool → Plain → Step Reason (Answer Sent)
mqput1 hc name qmgr md body sync p = for_connection (connected hc p) (put1_resolved (resolve p.definitions p.given.name name qmgr) md body sync p)
