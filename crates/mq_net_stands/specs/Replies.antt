-- Lines of scripts and answers of commands, as the report has them.
use Rattle.std.specs.Prelude.{ℕ, ◌+◌, nat_le, nat_lt, ◌&&◌, Bool, true, false, List, [], ◌++◌, if◌then◌else◌, map, take, codes}
use Rattle.std.specs.List.{flat_map}
use Rattle.std.specs.Fmt.{decimal}
use Rattle.mq_codes.specs.declared.reason.Reason.{Reason}
use Rattle.mq_codes.specs.Numbers.{number}
use Rattle.mq_message.specs.Text.{ident_text}
use Rattle.mq_disk.specs.declared.cutter.Stop.{Stop}
use Rattle.mq_disk.specs.declared.cutter.Stop.TheVariants as stops
use Rattle.mq_calls.specs.declared.answers.Answer.{Answer}
use Rattle.mq_calls.specs.declared.answers.Answer.TheVariants as answers
use Rattle.mq_calls.specs.declared.answers.Sent.{Sent}
use Rattle.mq_calls.specs.declared.answers.Got.{Got}
use Rattle.mq_calls.specs.declared.commands.Shown.{Shown}
use Rattle.mq_calls.specs.declared.commands.ScRefusal.{ScRefusal}
use Rattle.mq_calls.specs.declared.commands.ScRefusal.TheVariants as sc
use Rattle.mq_calls.specs.declared.commands.RestartFault.{RestartFault}
use Rattle.mq_calls.specs.declared.commands.RestartFault.TheVariants as faults
use Rattle.mq_history.specs.declared.acts.Act.{Act}
use Rattle.mq_history.specs.declared.acts.Act.TheVariants as acts
use Rattle.mq_history.specs.declared.acts.Acted.{Acted}
use Rattle.mq_history.specs.declared.acts.Acted.TheVariants as acted
use Rattle.mq_history.specs.declared.acts.OpRefusal.{OpRefusal}
use Rattle.mq_history.specs.declared.acts.OpRefusal.TheVariants as ops
use Rattle.mq_history.specs.declared.calls.Call.{Call}
use Rattle.mq_history.specs.declared.calls.Call.TheVariants as calls
use Rattle.mq_history.specs.declared.calls.Reply.{Reply}
use Rattle.mq_history.specs.declared.calls.Reply.TheVariants as replies
use Rattle.mq_history.specs.declared.calls.Entry.{Entry}

-- a number in four places with zeros, more digits where needed
abbrev pub zeros : ℕ → List ℕ
zeros n = if nat_lt n 10 then codes "000" else (if nat_lt n 100 then codes "00" else (if nat_lt n 1000 then codes "0" else []))

abbrev pub number4 : ℕ → List ℕ
number4 n = zeros n ++ decimal n

-- a byte outside 32 to 126 is shown as a full stop; the first 32 bytes
abbrev pub shown_byte : ℕ → ℕ
shown_byte b = if nat_le 32 b && nat_le b 126 then b else 46

abbrev pub shown_bytes : List ℕ → List ℕ
shown_bytes body = map shown_byte (take 32 body)

-- Completion code and reason, and what a put and a get tell beside.
abbrev pub warned : Reason → List ℕ
warned reason = codes "1 " ++ decimal (number reason)

abbrev pub failed : Reason → List ℕ
failed reason = codes "2 " ++ decimal (number reason)

abbrev pub answer_text : {T : Type 0} → Answer T → List ℕ
answer_text (answers.Ok value) = codes "0 0"
answer_text (answers.Warning reason value) = warned reason
answer_text (answers.Failed reason) = failed reason

abbrev pub sent_text : Sent → List ℕ
sent_text s = codes " ID " ++ ident_text s.ident

abbrev pub put_text : Answer Sent → List ℕ
put_text (answers.Ok s) = codes "0 0" ++ sent_text s
put_text (answers.Warning reason s) = warned reason ++ sent_text s
put_text (answers.Failed reason) = failed reason

abbrev pub message_text : Got → List ℕ
message_text g = codes " ID " ++ ident_text g.ident ++ codes " LEN " ++ decimal g.length ++ codes " BYTES '" ++ shown_bytes g.body ++ codes "'"

abbrev pub got_text : Answer Got → List ℕ
got_text (answers.Ok g) = codes "0 0" ++ message_text g
got_text (answers.Warning reason g) = warned reason ++ message_text g
got_text (answers.Failed reason) = failed reason

-- Refusals by their words. (Want of memory ends a run, which then has no report.)
abbrev pub stop_word : Stop → List ℕ
stop_word stops.Cut = codes "CUT"
stop_word stops.Disk = codes "DISK"

abbrev pub sc_word : ScRefusal → List ℕ
sc_word sc.Down = codes "DOWN"
sc_word sc.Exists = codes "EXISTS"
sc_word sc.Missing = codes "MISSING"
sc_word (sc.BadValue keyword) = codes "BADVALUE"
sc_word sc.InUse = codes "INUSE"
sc_word sc.NotEmpty = codes "NOTEMPTY"
sc_word sc.NoMemory = codes "NOMEMORY"
sc_word sc.Disk = codes "DISK"
sc_word sc.Cut = codes "CUT"

abbrev pub op_word : OpRefusal → List ℕ
op_word ops.Down = codes "DOWN"
op_word ops.NotFound = codes "NOTFOUND"
op_word ops.Running = codes "RUNNING"
op_word ops.BadQueue = codes "BADQUEUE"
op_word ops.QueueInUse = codes "QUEUEINUSE"
op_word ops.InDoubt = codes "INDOUBT"
op_word ops.NotInDoubt = codes "NOTINDOUBT"
op_word ops.BadNumber = codes "BADNUMBER"
op_word ops.NoMemory = codes "NOMEMORY"
op_word ops.Disk = codes "DISK"
op_word ops.Cut = codes "CUT"

abbrev pub start_word : RestartFault → List ℕ
start_word faults.Up = codes "UP"
start_word faults.Disk = codes "DISK"
start_word faults.Cut = codes "CUT"
start_word (faults.BadLog place) = codes "BADLOG"
start_word faults.NoMemory = codes "NOMEMORY"

abbrev pub refused : List ℕ → List ℕ
refused word = codes "REFUSED " ++ word

abbrev pub acted_text : Acted → List ℕ
acted_text acted.Done = codes "OK"
acted_text (acted.Shown shown) = codes "OK"
acted_text acted.Down = refused (codes "DOWN")
acted_text (acted.Sc refusal) = refused (sc_word refusal)
acted_text (acted.Op refusal) = refused (op_word refusal)
acted_text (acted.Start fault) = refused (start_word fault)

-- What an MQI call answered: one whose write was stopped, 2009. What was asked beside MQI calls answered: OK or the refusal.
abbrev pub mqi_text : Reply → List ℕ
mqi_text (replies.Connected a) = answer_text a
mqi_text (replies.Opened a) = answer_text a
mqi_text (replies.Ended a) = answer_text a
mqi_text (replies.Put a) = put_text a
mqi_text (replies.Got a) = got_text a
mqi_text (replies.Acted a) = acted_text a
mqi_text replies.Changed = []
mqi_text replies.Tried = []
mqi_text (replies.Triggered queue) = []
mqi_text (replies.Stopped by) = codes "2 2009"

abbrev pub act_text : Reply → List ℕ
act_text (replies.Acted a) = acted_text a
act_text (replies.Stopped by) = refused (stop_word by)
act_text _ = []

-- the lines displayed, each behind these blanks
abbrev pub display_line : List ℕ → List ℕ → List ℕ
display_line blanks line = blanks ++ line ++ codes "\n"

abbrev pub shown_text : List ℕ → Shown → List ℕ
shown_text blanks shown = flat_map (display_line blanks) shown.lines

abbrev pub displayed : List ℕ → Reply → List ℕ
displayed blanks (replies.Acted (acted.Shown shown)) = shown_text blanks shown
displayed blanks _ = []

-- Lines of a script: the verb, what was answered, the lines displayed.
abbrev pub act_verb : Act → List ℕ
act_verb (acts.Obey c) = codes "MQSC "
act_verb acts.Crash = codes "CRASH "
act_verb acts.Restart = codes "RESTART "
act_verb (acts.Cut k) = codes "CUT "
act_verb (acts.Clock by) = codes "CLOCK "

abbrev pub verb : Call → List ℕ
verb (calls.Mqconn qmgr appl) = codes "MQCONN "
verb (calls.Mqdisc hc) = codes "MQDISC "
verb (calls.Mqopen hc name qmgr how) = codes "MQOPEN "
verb (calls.Mqclose hc ho) = codes "MQCLOSE "
verb (calls.Mqput hc ho md body sync) = codes "MQPUT "
verb (calls.Mqput1 hc name qmgr md body sync) = codes "MQPUT1 "
verb (calls.Mqget hc ho get until) = codes "MQGET "
verb (calls.Mqcmit hc) = codes "MQCMIT "
verb (calls.Mqback hc) = codes "MQBACK "
verb (calls.Act act) = act_verb act
verb calls.Turn = []
verb calls.Timeout = []
verb calls.Trigger = []

abbrev pub is_act : Call → Bool
is_act (calls.Act act) = true
is_act _ = false

abbrev pub reply_text : Call → Reply → List ℕ
reply_text call reply = if is_act call then act_text reply else mqi_text reply

abbrev pub line_text : ℕ → Entry → List ℕ
line_text n e = number4 n ++ codes " " ++ verb e.call ++ reply_text e.call e.reply ++ codes "\n" ++ displayed (codes "  ") e.reply
