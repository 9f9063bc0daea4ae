-- What an event shows to who asked for it. A call whose forced write was stopped is answered 2009, a command DISK or CUT.
use Rattle.mq_spec_node.specs.Terms.{Stop, Command, RestartFault, ScRefusal, Act, Acted, OpRefusal, Call, Reply}
use Rattle.mq_codes.specs.declared.reason.Reason.TheVariants as reasons
use Rattle.mq_history.specs.from_disk.StopVariants as stops
use Rattle.mq_history.specs.from_sc_parse.CommandVariants as commands
use Rattle.mq_history.specs.from_calls.AnswerVariants as answers
use Rattle.mq_history.specs.from_calls.RestartFaultVariants as faults
use Rattle.mq_history.specs.from_calls.ScRefusalVariants as refusals
use Rattle.mq_history.specs.declared.acts.Act.TheVariants as acts
use Rattle.mq_history.specs.declared.acts.Acted.TheVariants as acted
use Rattle.mq_history.specs.declared.acts.OpRefusal.TheVariants as op_refusals
use Rattle.mq_history.specs.declared.calls.Call.TheVariants as calls
use Rattle.mq_history.specs.declared.calls.Reply.TheVariants as replies

-- the refusals that a stop of the write is, of a command on objects, of one on a channel's end, of a restart
abbrev pub sc_stopped : Stop → ScRefusal
sc_stopped stops.Disk = refusals.Disk
sc_stopped stops.Cut = refusals.Cut

abbrev pub op_stopped : Stop → OpRefusal
op_stopped stops.Disk = op_refusals.Disk
op_stopped stops.Cut = op_refusals.Cut

abbrev pub start_stopped : Stop → RestartFault
start_stopped stops.Disk = faults.Disk
start_stopped stops.Cut = faults.Cut

abbrev pub command_stopped : Command → Stop → Acted
command_stopped (commands.Objects c) by = acted.Sc (sc_stopped by)
command_stopped (commands.Operate op) by = acted.Op (op_stopped by)
command_stopped (commands.ShowStatus name any_end) by = acted.Sc (sc_stopped by)

-- a restart that is stopped is no such event, since it is refused; a stop, a cut and a clock advance write nothing
abbrev pub act_stopped : Act → Stop → Acted
act_stopped (acts.Obey c) by = command_stopped c by
act_stopped acts.Crash by = acted.Start (start_stopped by)
act_stopped acts.Restart by = acted.Start (start_stopped by)
act_stopped (acts.Cut k) by = acted.Start (start_stopped by)
act_stopped (acts.Clock ms) by = acted.Start (start_stopped by)

-- the answer of an event whose write was stopped: a turn has changed something all the same
abbrev pub stopped_as : Call → Stop → Reply
stopped_as (calls.Mqconn qmgr appl) by = replies.Connected (answers.Failed reasons.ConnectionBroken)
stopped_as (calls.Mqdisc hc) by = replies.Ended (answers.Failed reasons.ConnectionBroken)
stopped_as (calls.Mqopen hc name qmgr how) by = replies.Opened (answers.Failed reasons.ConnectionBroken)
stopped_as (calls.Mqclose hc ho) by = replies.Ended (answers.Failed reasons.ConnectionBroken)
stopped_as (calls.Mqput hc ho md body sync) by = replies.Put (answers.Failed reasons.ConnectionBroken)
stopped_as (calls.Mqput1 hc name qmgr md body sync) by = replies.Put (answers.Failed reasons.ConnectionBroken)
stopped_as (calls.Mqget hc ho get until) by = replies.Got (answers.Failed reasons.ConnectionBroken)
stopped_as (calls.Mqcmit hc) by = replies.Ended (answers.Failed reasons.ConnectionBroken)
stopped_as (calls.Mqback hc) by = replies.Ended (answers.Failed reasons.ConnectionBroken)
stopped_as (calls.Act act) by = replies.Acted (act_stopped act by)
stopped_as calls.Turn by = replies.Changed
stopped_as calls.Timeout by = replies.Changed
stopped_as calls.Trigger by = replies.Changed

-- what an entry's call is answered
abbrev pub answer_of : Call → Reply → Reply
answer_of call (replies.Stopped by) = stopped_as call by
answer_of call reply = reply
