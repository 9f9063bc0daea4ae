-- The deed of each call, if it is one.
use Rattle.std.specs.Prelude.{ℕ, List, [], Option, Some, None}
use Rattle.mq_spec_node.specs.Terms.{Reason, LocalQueue, locals_of, Seen, Answer, Got, GetAnswer, Shown, ScRefusal, Command, Actor, Call, Running, Up, Down, Step, Part, Refuse, Do, mqconn, mqopen, mqclose, mqput, mqput1, mqget, mqcmit, mqback, mqdisc, command, first_due, trigger_turn}
use Rattle.mq_codes.specs.declared.reason.Reason.TheVariants as reasons
use Rattle.mq_history.specs.from_calls.AnswerVariants as answers
use Rattle.mq_history.specs.from_calls.GetAnswerVariants as get_answers
use Rattle.mq_history.specs.declared.acts.Act.TheVariants as acts
use Rattle.mq_history.specs.declared.acts.Acted.TheVariants as acted
use Rattle.mq_history.specs.from_sc_parse.CommandVariants as commands
use Rattle.mq_history.specs.declared.calls.Actor.TheVariants as actors
use Rattle.mq_history.specs.declared.calls.Call.TheVariants as calls
use Rattle.mq_history.specs.declared.calls.Reply.TheVariants as replies
use Rattle.mq_spec_node.specs.Node.{Node, Own, Handler, SenderEnd, ReceiverEnd, sender_end, receiver_end, handler_in}
use Rattle.mq_spec_node.specs.Deeds.{Deed, told, parts_of, mqi_deed, ended_deed}
use Rattle.mq_spec_node.specs.Senders.{sender_deed, timeout_deed}
use Rattle.mq_spec_node.specs.Receivers.{receiver_deed}
use Rattle.mq_spec_node.specs.Operators.{operate}
use Rattle.mq_spec_node.specs.Status.{show_status}
use Rattle.mq_spec_node.specs.Handlers.{handler_deed}

-- MQGET. One that may still wait is no event, whatever comes from outside: it takes no memory, and waits.
abbrev pub get_done : GetAnswer → Option (Answer Got)
get_done get_answers.NotYet = None
get_done (get_answers.Done answer) = Some answer

abbrev pub got_deed : Option (Answer Got) → List Part → Own → Option Deed
got_deed None parts own = None
got_deed (Some answer) parts own = Some (record {
  wanting = Some (replies.Got (answers.Failed reasons.StorageNotAvailable));
  reply = replies.Got answer;
  parts = parts;
  pushed = None;
  received = [];
  own = own;
})

abbrev pub get_deed : Own → Step Reason GetAnswer → Option Deed
get_deed own (Refuse reason) = Some (told (replies.Got (answers.Failed reason)) own)
get_deed own (Do reply parts) = got_deed (get_done reply) parts own

-- A command.
abbrev pub command_deed : Own → Step ScRefusal Shown → Deed
command_deed own (Refuse reason) = told (replies.Acted (acted.Sc reason)) own
command_deed own (Do shown parts) = record (told (replies.Acted (acted.Shown shown)) own) { parts = parts }

abbrev pub obey_deed : Command → Node → Deed
obey_deed (commands.Objects c) n = command_deed n.own (command c n.manager)
obey_deed (commands.Operate op) n = operate op n
obey_deed (commands.ShowStatus name any_end) n = show_status name any_end n

-- A trigger turn, where one is due.
abbrev pub trigger_deed_of : Option LocalQueue → Node → Option Deed
trigger_deed_of None n = None
trigger_deed_of (Some q) n = Some (record (told (replies.Triggered q.name) n.own) { parts = parts_of (trigger_turn n.manager) })

abbrev pub where_up : Running → Option Deed → Option Deed
where_up Up deed = deed
where_up (Down noted starts) deed = None

abbrev pub trigger_deed : Node → Option Deed
trigger_deed n = where_up n.manager.running (trigger_deed_of (first_due (locals_of n.manager.definitions) n.manager) n)

-- A turn of what acts, at a manager that is up.
abbrev pub sender_turn : ℕ → Option SenderEnd → Seen → Node → Option Deed
sender_turn stamp None seen n = None
sender_turn stamp (Some e) seen n = sender_deed stamp e seen n

abbrev pub receiver_turn : ℕ → Option ReceiverEnd → Seen → Node → Option Deed
receiver_turn stamp None seen n = None
receiver_turn stamp (Some e) seen n = receiver_deed stamp e seen n

abbrev pub handler_turn : Option Handler → Node → Option Deed
handler_turn None n = None
handler_turn (Some h) n = handler_deed h n

abbrev pub turn_up : ℕ → Actor → Seen → Node → Option Deed
turn_up stamp (actors.Sender cable) seen n = sender_turn stamp (sender_end cable n.own) seen n
turn_up stamp (actors.Receiver cable) seen n = receiver_turn stamp (receiver_end cable n.own) seen n
turn_up stamp (actors.Handler number) seen n = handler_turn (handler_in number n.own.handlers) n
turn_up stamp _ seen n = None

-- a timeout, of a sender alone
abbrev pub timeout_of : Option SenderEnd → Node → Option Deed
timeout_of None n = None
timeout_of (Some e) n = timeout_deed e n

abbrev pub timeout_by : Actor → Node → Option Deed
timeout_by (actors.Sender cable) n = timeout_of (sender_end cable n.own) n
timeout_by _ n = None

-- The deed of an event that runs at most two forced writes; a stop, a restart, a cut and a clock advance are told below.
abbrev pub deed_of : ℕ → Actor → Call → Seen → Node → Option Deed
deed_of stamp actor (calls.Mqconn qmgr appl) seen n = Some (mqi_deed replies.Connected n.own (mqconn qmgr appl n.manager))
deed_of stamp actor (calls.Mqdisc hc) seen n = Some (ended_deed replies.Ended n.own (mqdisc hc n.manager))
deed_of stamp actor (calls.Mqopen hc name qmgr how) seen n = Some (mqi_deed replies.Opened n.own (mqopen hc name qmgr how n.manager))
deed_of stamp actor (calls.Mqclose hc ho) seen n = Some (ended_deed replies.Ended n.own (mqclose hc ho n.manager))
deed_of stamp actor (calls.Mqput hc ho md body sync) seen n = Some (mqi_deed replies.Put n.own (mqput hc ho md body sync n.manager))
deed_of stamp actor (calls.Mqput1 hc name qmgr md body sync) seen n = Some (mqi_deed replies.Put n.own (mqput1 hc name qmgr md body sync n.manager))
deed_of stamp actor (calls.Mqget hc ho get until) seen n = get_deed n.own (mqget hc ho get until n.manager)
deed_of stamp actor (calls.Mqcmit hc) seen n = Some (ended_deed replies.Ended n.own (mqcmit hc n.manager))
deed_of stamp actor (calls.Mqback hc) seen n = Some (ended_deed replies.Ended n.own (mqback hc n.manager))
deed_of stamp actor (calls.Act (acts.Obey c)) seen n = Some (obey_deed c n)
deed_of stamp actor (calls.Act acts.Crash) seen n = None
deed_of stamp actor (calls.Act acts.Restart) seen n = None
deed_of stamp actor (calls.Act (acts.Cut k)) seen n = None
deed_of stamp actor (calls.Act (acts.Clock by)) seen n = None
deed_of stamp actor calls.Turn seen n = where_up n.manager.running (turn_up stamp actor seen n)
deed_of stamp actor calls.Timeout seen n = where_up n.manager.running (timeout_by actor n)
deed_of stamp actor calls.Trigger seen n = trigger_deed n
