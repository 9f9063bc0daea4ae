-- Scripts: the call that each line makes, and what a script remembers.
use Rattle.std.specs.Prelude.{◌≡◌, ℕ, pos, ◌+◌, min, not, List, [], ◌∷◌, if◌then◌else◌, Option, Some, None, Ok, Err, filter, replicate}
use Rattle.std.specs.Str.{bytes_eq}
use Rattle.mq_spec_node.specs.Terms.{padded, name_of, Md, Appl, Hconn, Hobj, Get, Call, Reply, Entry, Body, PutOptions, GetOptions, ScriptLine, trimmed, last_moment}
use Rattle.mq_history.specs.from_calls.AnswerVariants as answers
use Rattle.mq_history.specs.declared.acts.Act.TheVariants as acts
use Rattle.mq_history.specs.declared.calls.Call.TheVariants as calls
use Rattle.mq_history.specs.declared.calls.Reply.TheVariants as replies
use Rattle.mq_history.specs.declared.scripts.Body.TheVariants as bodies
use Rattle.mq_history.specs.declared.scripts.ScriptLine.TheVariants as lines

-- a label that is bound to an open handle
pub record Bound : Type 0 where
  pub label : List ℕ
  pub handle : Hobj

-- what a script remembers: its connection, its handles, and the descriptor of the message that it got last
pub record Memory : Type 0 where
  pub connection : Option Hconn
  pub handles : List Bound
  pub last : Option Md

abbrev pub fresh : Memory
fresh = record { connection = None; handles = []; last = None }

-- no connection, no handle
abbrev pub hconn_or : Option Hconn → Hconn
hconn_or None = record { manager = 0; incarnation = 0; number = 0 }
hconn_or (Some hc) = hc

abbrev pub hobj_in : List ℕ → List Bound → Hobj
hobj_in label [] = record { number = 0 }
hobj_in label (b ∷ bs) = if bytes_eq label b.label then b.handle else hobj_in label bs

abbrev pub hobj : List ℕ → Memory → Hobj
hobj label m = hobj_in label m.handles

-- a script connects by its label
abbrev pub script_appl : List ℕ → Appl
script_appl label = record { name = padded 28 label; user = replicate 12 32 }

-- The descriptor and the body of a put.
abbrev pub id_or : Option (List ℕ) → List ℕ
id_or None = replicate 24 0
id_or (Some id) = id

abbrev pub put_md : PutOptions → List ℕ → Md
put_md o correl = record {
  report = pos 0;
  msg_type = o.msg_type;
  expiry = o.expiry;
  feedback = o.feedback;
  encoding = pos 273;
  coded_char_set_id = pos 1208;
  format = o.format;
  priority = o.priority;
  persistence = o.persistence;
  msg_id = o.msg_id;
  correl_id = correl;
  backout_count = pos 0;
  reply_to_q = padded 48 o.reply_to_q;
  reply_to_q_mgr = padded 48 o.reply_to_q_mgr;
  user_identifier = replicate 12 32;
  accounting_token = replicate 32 0;
  appl_identity_data = o.appl_identity_data;
  put_appl_type = pos 0;
  put_appl_name = replicate 28 32;
  put_date = replicate 8 32;
  put_time = replicate 8 32;
  appl_origin_data = replicate 4 32;
}

abbrev pub body_bytes : Body → List ℕ
body_bytes (bodies.Text text) = text
body_bytes (bodies.Fill n byte) = replicate n byte

-- A reply goes to ReplyToQ at ReplyToQMgr of the message that was got last, with its MsgId as CorrelId where the line
-- gives none; without such a message, or where the fields are no names, both names are blank.
pub record Target : Type 0 where
  pub name : List ℕ
  pub qmgr : List ℕ

abbrev pub nowhere : Target
nowhere = record { name = []; qmgr = [] }

abbrev pub manager_target : List ℕ → List ℕ → Target
manager_target name [] = record { name = name; qmgr = [] }
manager_target name (b ∷ bs) = elim (name_of 48 (b ∷ bs)) as (λ r. Target) [ Ok qmgr ↦ record { name = name; qmgr = qmgr } | Err fault ↦ nowhere ]

abbrev pub queue_target : List ℕ → List ℕ → Target
queue_target queue qmgr = elim (name_of 48 queue) as (λ r. Target) [ Ok name ↦ manager_target name qmgr | Err fault ↦ nowhere ]

abbrev pub reply_target : Option Md → Target
reply_target None = nowhere
reply_target (Some md) = queue_target (trimmed md.reply_to_q) (trimmed md.reply_to_q_mgr)

-- CorrelId of a reply
abbrev pub last_id : Option Md → List ℕ
last_id None = replicate 24 0
last_id (Some md) = md.msg_id

abbrev pub reply_correl : Option (List ℕ) → Option Md → List ℕ
reply_correl None last = last_id last
reply_correl (Some id) last = id

-- the options of a get
abbrev pub get_of : GetOptions → Get
get_of o = record { sync = o.sync; take = o.take; want = o.want; room = o.room; truncate = o.truncate }

-- The call that a line makes, a get until this moment.
abbrev pub line_call : List ℕ → Memory → Option ℕ → ScriptLine → Call
line_call label m until (lines.Mqconn name) = calls.Mqconn name (script_appl label)
line_call label m until lines.Mqdisc = calls.Mqdisc (hconn_or m.connection)
line_call label m until lines.Mqcmit = calls.Mqcmit (hconn_or m.connection)
line_call label m until lines.Mqback = calls.Mqback (hconn_or m.connection)
line_call label m until (lines.Mqopen handle name qmgr how) = calls.Mqopen (hconn_or m.connection) name qmgr how
line_call label m until (lines.Mqclose handle) = calls.Mqclose (hconn_or m.connection) (hobj handle m)
line_call label m until (lines.Mqput handle body o) = calls.Mqput (hconn_or m.connection) (hobj handle m) (put_md o (id_or o.correl_id)) (body_bytes body) o.sync
line_call label m until (lines.Mqput1 name qmgr body o) = calls.Mqput1 (hconn_or m.connection) name qmgr (put_md o (id_or o.correl_id)) (body_bytes body) o.sync
line_call label m until (lines.Reply body o) =
    calls.Mqput1 (hconn_or m.connection) (reply_target m.last).name (reply_target m.last).qmgr (put_md o (reply_correl o.correl_id m.last)) (body_bytes body) o.sync
line_call label m until (lines.Mqget handle o) = calls.Mqget (hconn_or m.connection) (hobj handle m) (get_of o) until
line_call label m until (lines.Mqsc command) = calls.Act (acts.Obey command)
line_call label m until lines.Crash = calls.Act acts.Crash
line_call label m until lines.Restart = calls.Act acts.Restart
line_call label m until (lines.Cut k) = calls.Act (acts.Cut k)

-- What is remembered of the answer. MQCONN and MQDISC unbind all labels; a failed MQOPEN leaves an older binding; each
-- MQGET that returned a message counts as the one that was got last, browses too.
abbrev pub connected : Reply → Option Hconn
connected (replies.Connected (answers.Ok hc)) = Some hc
connected _ = None

abbrev pub unbound : List ℕ → List Bound → List Bound
unbound label bs = filter (λ (b : Bound). not (bytes_eq label b.label)) bs

abbrev pub bound : List ℕ → Reply → Memory → Memory
bound label (replies.Opened (answers.Ok ho)) m = record m { handles = record { label = label; handle = ho } ∷ unbound label m.handles }
bound label _ m = m

abbrev pub closed : List ℕ → Reply → Memory → Memory
closed label (replies.Ended (answers.Ok value)) m = record m { handles = unbound label m.handles }
closed label _ m = m

abbrev pub got : Reply → Memory → Memory
got (replies.Got (answers.Ok g)) m = record m { last = Some g.md }
got (replies.Got (answers.Warning reason g)) m = record m { last = Some g.md }
got _ m = m

-- by the line
abbrev pub remembers : ScriptLine → Reply → Memory → Memory
remembers (lines.Mqconn name) reply m = record m { connection = connected reply; handles = [] }
remembers lines.Mqdisc reply m = record m { connection = None; handles = [] }
remembers (lines.Mqopen handle name qmgr how) reply m = bound handle reply m
remembers (lines.Mqclose handle) reply m = closed handle reply m
remembers (lines.Mqget handle o) reply m = got reply m
remembers _ reply m = m

-- The deadline of a get that waits is set at its first try: the moment of that try and so many milliseconds. Which moment
-- that was, the step says in which the line stands.
abbrev pub deadline : ℕ → Option ℕ → Option ℕ
deadline moment None = None
deadline moment (Some wait) = Some (min (moment + wait) last_moment)

abbrev pub IsDeadline : Option ℕ → Option ℕ → Type 0
IsDeadline wait until = (moment : ℕ) × (until ≡ deadline moment wait)

abbrev pub wait_of : ScriptLine → Option ℕ
wait_of (lines.Mqget handle o) = o.wait
wait_of _ = None

abbrev pub until_of : Call → Option ℕ
until_of (calls.Mqget hc ho get until) = until
until_of _ = None

-- The entries of a script are its lines in order from the first, each once; some lines may be left.
abbrev pub AreLines : List ℕ → Memory → List ScriptLine → List Entry → Type 0
AreLines label m ls [] = Unit {0}
AreLines label m [] (e ∷ es) = ⊥
AreLines label m (l ∷ ls) (e ∷ es) =
    (e.call ≡ line_call label m (until_of e.call) l) × IsDeadline (wait_of l) (until_of e.call) × AreLines label (remembers l e.reply m) ls es
