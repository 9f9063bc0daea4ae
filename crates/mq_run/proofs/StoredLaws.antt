-- No reply that a history stores says that a command was refused for its disk: one whose write is stopped is told as stopped.
use Rattle.std.proofs.Common.{◌-◌, ℕ, Bool, true, false, List, [], ◌∷◌, sym, subst, inl, inr}
use Rattle.std.specs.Prelude.{Option, Some, None, not, if◌then◌else◌, slice_get}
use Rattle.mq_calls.specs.declared.choices.Choice.{Choice}
use Rattle.mq_calls.specs.declared.choices.Choice.TheVariants.{Runs, NoMemory, Stopped}
use Rattle.mq_calls.specs.declared.answers.Answer.{Answer}
use Rattle.mq_calls.specs.declared.answers.GetAnswer.{GetAnswer}
use Rattle.mq_calls.specs.declared.answers.GetAnswer.TheVariants as get_answers
use Rattle.mq_calls.specs.declared.agents.SeizeFault.{SeizeFault}
use Rattle.mq_calls.specs.declared.agents.SeizeFault.TheVariants as seize_faults
use Rattle.mq_calls.specs.declared.agents.PrepareFault.{PrepareFault}
use Rattle.mq_calls.specs.declared.commands.ScRefusal.{ScRefusal}
use Rattle.mq_calls.specs.declared.commands.ScRefusal.TheVariants as refusals
use Rattle.mq_calls.specs.declared.commands.RestartFault.{RestartFault}
use Rattle.mq_calls.specs.declared.commands.Shown.{Shown}
use Rattle.mq_history.specs.declared.acts.Act.TheVariants as acts
use Rattle.mq_history.specs.declared.acts.Acted.{Acted}
use Rattle.mq_history.specs.declared.acts.Acted.TheVariants as acted
use Rattle.mq_history.specs.declared.acts.OpRefusal.{OpRefusal}
use Rattle.mq_history.specs.declared.acts.OpRefusal.TheVariants as reasons
use Rattle.mq_history.specs.declared.calls.Actor.TheVariants as actors
use Rattle.mq_history.specs.declared.calls.Call.TheVariants as calls
use Rattle.mq_history.specs.declared.calls.Chance.{Chance}
use Rattle.mq_history.specs.declared.calls.Chance.TheVariants as chances
use Rattle.mq_history.specs.declared.calls.Reply.{Reply}
use Rattle.mq_history.specs.declared.calls.Reply.TheVariants as replies
use Rattle.mq_rules.specs.declared.rule.Action.TheVariants as actions
use Rattle.mq_sc_parse.specs.declared.command.Command.{Command}
use Rattle.mq_sc_parse.specs.declared.command.Command.TheVariants as commands
use Rattle.mq_sc_parse.specs.declared.command.Op.{Op}
use Rattle.mq_sc_parse.specs.declared.command.Op.TheVariants as ops
use Rattle.mq_base.specs.Members.{Mem}
use Rattle.mq_calls.specs.declared.agents.Note.TheVariants as notes
use Rattle.mq_sync.specs.declared.data.End.TheVariants as end_kinds
use Rattle.mq_sender.specs.States as senders
use Rattle.mq_receiver.specs.States as receivers
use Rattle.mq_sender.specs.declared.turns.SenderDoes.{SenderDoes}
use Rattle.mq_sender.specs.declared.turns.SenderDoes.TheVariants as sends
use Rattle.mq_receiver.specs.declared.turns.ReceiverDoes.{ReceiverDoes}
use Rattle.mq_receiver.specs.declared.turns.ReceiverDoes.TheVariants as takes
use Rattle.mq_spec_manager.specs.Commands.{command}
use Rattle.mq_spec_node.specs.Terms.{Action, Actor, Answered, Broken, Call, Down, Outcome, Refused, Rule, Running, Up, Wanting, awaits, restart, stop, Did, Entry, InDoubt, Kept, LocalQueue, Luw, Message, Part, Plain, Reason, Row, Seen, Settle, Step, Test, Refuse, Do, harden, in_doubt_of, is_commit, is_up, local_of, seize, sender_data, when}
use Rattle.mq_spec_node.specs.Node.{ChannelEnd, ReceiverEnd, SenderEnd, handler_in, receiver_end, sender_end, sender_named, with_end}
use Rattle.mq_spec_node.specs.Node.ChannelEnd.{Receives, Sends}
use Rattle.mq_spec_node.specs.Handlers as letters
use Rattle.mq_spec_node.specs.Words.{Deed, Handler, Node, Own, Tells, Follows, choice_event, command_deed, crash_reply, done, done_by, end_here, ended_deed, event, failed_of, get_deed, handler_on, handler_row, handler_turn, in_force, input_queue, is_bad_number, is_in_doubt, is_readable, limits_here, moved, mqi_deed, next_letter, obey_deed, operate, operate_up, operated, parts_of, place_deed, prepare_deed, receiver_deed_by, receiver_turn, reset_end, resolve_doubt, resolve_end, restart_event, restarted_as, rule_in_force, ruled, sender_deed_by, sender_turn, shown, start_end, start_seized, stop_end, tested, timeout_by, timeout_of, told, trigger_deed_of, tries_of, turn_up, wanted, where_up}
use Rattle.mq_run.proofs.CommandLaws.{ScStored, StepStored, command_stored}

abbrev OpStored : OpRefusal → Type 0
OpStored reasons.Disk = ⊥
OpStored _ = Unit {0}

abbrev ActedStored : Acted → Type 0
ActedStored (acted.Sc refusal) = ScStored refusal
ActedStored (acted.Op refusal) = OpStored refusal
ActedStored _ = Unit {0}

abbrev pub IsStored : Reply → Type 0
IsStored (replies.Acted a) = ActedStored a
IsStored _ = Unit {0}

abbrev WantStored : Option Reply → Type 0
WantStored None = Unit {0}
WantStored (Some reply) = IsStored reply

abbrev DeedStored : Deed → Type 0
DeedStored d = IsStored d.reply × WantStored d.wanting

abbrev EachStored : Option Deed → Type 0
EachStored None = Unit {0}
EachStored (Some d) = DeedStored d

-- MQI calls
mqi_stored : {T : Type 0} (f : Answer T → Reply) (own : Own) (step : Step Reason (Answer T)) → ((a : Answer T) → IsStored (f a)) → DeedStored (mqi_deed f own step)
mqi_stored f own (Refuse reason) s = (s _, tt)
mqi_stored f own (Do reply parts) s = (s reply, s _)

ended_stored : {T : Type 0} (f : Answer T → Reply) (own : Own) (step : Step Reason (Answer T)) → ((a : Answer T) → IsStored (f a)) → DeedStored (ended_deed f own step)
ended_stored f own (Refuse reason) s = (s _, tt)
ended_stored f own (Do reply parts) s = (s reply, tt)

got_stored : (own : Own) (step : Step Reason GetAnswer) → EachStored (get_deed own step)
got_stored own (Refuse reason) = (tt, tt)
got_stored own (Do get_answers.NotYet parts) = tt
got_stored own (Do (get_answers.Done a) parts) = (tt, tt)

-- commands
objects_stored : (own : Own) (step : Step ScRefusal Shown) → StepStored step → DeedStored (command_deed own step)
objects_stored own (Refuse refusal) s = (s, tt)
objects_stored own (Do shown parts) s = (tt, tt)

-- the first refusal that applies
test_stored : (b : Bool) (x : OpRefusal) (ts : List (Test OpRefusal)) (own : Own) (d : Deed) → OpStored x → DeedStored (tested ts own d) → DeedStored (tested (when b x ∷ ts) own d)
test_stored true x ts own d s o = (s, tt)
test_stored false x ts own d s o = o

seized_stored : (e : SenderEnd) (step : Step SeizeFault (Unit {0})) (n : Node) → DeedStored (start_seized e step n)
seized_stored e (Refuse seize_faults.BadQueue) n = (tt, tt)
seized_stored e (Refuse seize_faults.QueueInUse) n = (tt, tt)
seized_stored e (Refuse seize_faults.NoMemory) n = (tt, tt)
seized_stored e (Do reply parts) n = (tt, tt)

start_stored : (o : Option ChannelEnd) (n : Node) → DeedStored (start_end o n)
start_stored None n = (tt, tt)
start_stored (Some (Sends e)) n = test_stored (senders.is_running e.machine.state) reasons.Running [] n.own (start_seized e (seize e.channel n.manager) n) tt (seized_stored e (seize e.channel n.manager) n)
start_stored (Some (Receives e)) n = test_stored (receivers.is_bound e.machine.state) reasons.Running [] n.own _ tt (tt, tt)

stop_stored : (o : Option ChannelEnd) (n : Node) → DeedStored (stop_end o n)
stop_stored None n = (tt, tt)
stop_stored (Some (Sends e)) n = (tt, tt)
stop_stored (Some (Receives e)) n = (tt, tt)

reset_stored : (seqnum : ℕ) (o : Option ChannelEnd) (n : Node) → DeedStored (reset_end seqnum o n)
reset_stored seqnum None n = (tt, tt)
reset_stored seqnum (Some (Sends e)) n =
    three_tests (is_in_doubt e.channel n) (senders.is_running e.machine.state) (is_bad_number seqnum (limits_here e.channel n)) n.own (parts_of (harden e.channel (notes.SeqSet end_kinds.Sender (seqnum - 1)) n.manager)) n.own
  where
    three_tests : (a b c : Bool) (own : Own) (parts : List Part) (next : Own) → DeedStored (tested (when a reasons.InDoubt ∷ when b reasons.Running ∷ when c reasons.BadNumber ∷ []) own (operated parts next))
    three_tests true b c own parts next = (tt, tt)
    three_tests false true c own parts next = (tt, tt)
    three_tests false false true own parts next = (tt, tt)
    three_tests false false false own parts next = (tt, tt)
reset_stored seqnum (Some (Receives e)) n =
    two_tests (receivers.is_bound e.machine.state) (is_bad_number seqnum (limits_here e.channel n)) n.own (parts_of (harden e.channel (notes.SeqSet end_kinds.Receiver (seqnum - 1)) n.manager)) (with_end (Receives (record e { machine = receivers.numbered (seqnum - 1) e.machine })) n.own)
  where
    two_tests : (a b : Bool) (own : Own) (parts : List Part) (next : Own) → DeedStored (tested (when a reasons.Running ∷ when b reasons.BadNumber ∷ []) own (operated parts next))
    two_tests true b own parts next = (tt, tt)
    two_tests false true own parts next = (tt, tt)
    two_tests false false own parts next = (tt, tt)

doubt_stored : (e : SenderEnd) (settle : Settle) (o : Option InDoubt) (n : Node) → DeedStored (resolve_doubt e settle o n)
doubt_stored e settle None n = (tt, tt)
doubt_stored e settle (Some d) n = test_stored (senders.is_running e.machine.state) reasons.Running [] n.own (operated (parts_of (harden e.channel (notes.Resolved d.unit (is_commit settle) true) n.manager)) n.own) tt (tt, tt)

resolve_stored : (settle : Settle) (o : Option SenderEnd) (n : Node) → DeedStored (resolve_end settle o n)
resolve_stored settle None n = (tt, tt)
resolve_stored settle (Some e) n = doubt_stored e settle (in_doubt_of (sender_data e.channel n.manager)) n

up_stored : (op : Op) (n : Node) → DeedStored (operate_up op n)
up_stored (ops.Start channel) n = start_stored (end_here channel n) n
up_stored (ops.Stop channel) n = stop_stored (end_here channel n) n
up_stored (ops.Reset channel seqnum) n = reset_stored seqnum (end_here channel n) n
up_stored (ops.Resolve channel settle) n = resolve_stored settle (sender_named channel n.own.ends) n

operate_stored : (op : Op) (n : Node) → DeedStored (operate op n)
operate_stored op n = test_stored (not (is_up n.manager.running)) reasons.Down [] n.own (operate_up op n) tt (up_stored op n)

shown_stored : (own : Own) (any_end : Bool) (lines : List (List ℕ)) → DeedStored (shown own any_end lines)
shown_stored own true [] = (tt, tt)
shown_stored own false [] = (tt, tt)
shown_stored own any_end (line ∷ lines) = (tt, tt)

status_stored : (up any_end : Bool) (own : Own) (lines : List (List ℕ)) → DeedStored (if up then shown own any_end lines else told (replies.Acted (acted.Sc refusals.Down)) own)
status_stored true any_end own lines = shown_stored own any_end lines
status_stored false any_end own lines = (tt, tt)

obey_stored : (c : Command) (n : Node) → DeedStored (obey_deed c n)
obey_stored (commands.Objects c) n = objects_stored n.own (command c n.manager) (command_stored c n.manager)
obey_stored (commands.Operate op) n = operate_stored op n
obey_stored (commands.ShowStatus name any_end) n = status_stored (is_up n.manager.running) any_end n.own _

-- turns of channels' ends
prepare_stored : (e : SenderEnd) (step : Step PrepareFault (Unit {0})) (n : Node) → DeedStored (prepare_deed e step n)
prepare_stored e (Refuse fault) n = (tt, tt)
prepare_stored e (Do reply parts) n = (tt, tt)

sender_stored : (stamp : ℕ) (e : SenderEnd) (d : SenderDoes) (n : Node) → EachStored (sender_deed_by stamp e d n)
sender_stored stamp e sends.Still n = tt
sender_stored stamp e sends.Ignore n = (tt, tt)
sender_stored stamp e (sends.HardenSession session) n = (tt, tt)
sender_stored stamp e sends.PushBind n = (tt, tt)
sender_stored stamp e sends.Expire n = (tt, tt)
sender_stored stamp e (sends.Begin k count) n = (tt, tt)
sender_stored stamp e (sends.PushMsg index) n = (tt, tt)
sender_stored stamp e sends.Prepare n = prepare_stored e _ n
sender_stored stamp e sends.PushEnd n = (tt, tt)
sender_stored stamp e (sends.Bound settle partner) n = (tt, tt)
sender_stored stamp e sends.Commit n = (tt, tt)
sender_stored stamp e (sends.Backout reason) n = (tt, tt)

place_stored : (e : ReceiverEnd) (unit : Luw) (seen : Seen) (step : Step Reason (Unit {0})) (n : Node) → DeedStored (place_deed e unit seen step n)
place_stored e unit seen (Refuse reason) n = (tt, tt)
place_stored e unit seen (Do reply parts) n = (tt, tt)

receiver_stored : (stamp : ℕ) (e : ReceiverEnd) (seen : Seen) (d : ReceiverDoes) (n : Node) → EachStored (receiver_deed_by stamp e seen d n)
receiver_stored stamp e seen takes.Still n = tt
receiver_stored stamp e seen takes.Ignore n = (tt, tt)
receiver_stored stamp e seen takes.PushOwed n = (tt, tt)
receiver_stored stamp e seen takes.Bind n = (tt, tt)
receiver_stored stamp e seen takes.Keep n = (tt, tt)
receiver_stored stamp e seen (takes.Place unit) n = place_stored e unit seen _ n
receiver_stored stamp e seen takes.Again n = (tt, tt)
receiver_stored stamp e seen takes.Close n = (tt, tt)

if_stored : (b : Bool) (d : Deed) → DeedStored d → EachStored (if b then Some d else None)
if_stored true d s = s
if_stored false d s = tt

-- of the handler
moved_stored : (queue : List ℕ) (m : Message) (k : ℕ) (rule : Rule) (n : ℕ) (h : Handler) (p : Plain) (own : Own) (step : Step Reason (Unit {0})) → DeedStored (moved queue m k rule n h p own step)
moved_stored queue m k rule n h p own (Refuse reason) = (tt, tt)
moved_stored queue m k rule n h p own (Do reply parts) = (tt, tt)

acted_stored : (queue : List ℕ) (m : Message) (k : ℕ) (rule : Rule) (a : Action) (n : ℕ) (h : Handler) (p : Plain) (own : Own) → DeedStored (letters.acted queue m k rule a n h p own)
acted_stored queue m k rule actions.Discard n h p own = (tt, tt)
acted_stored queue m k rule actions.Ignore n h p own = (tt, tt)
acted_stored queue m k rule actions.Retry n h p own = moved_stored queue m k rule n h p own _
acted_stored queue m k rule (actions.Forward f) n h p own = moved_stored queue m k rule n h p own _

ruled_stored : (queue : List ℕ) (m : Message) (k : ℕ) (o : Option Rule) (n : ℕ) (h : Handler) (p : Plain) (own : Own) → DeedStored (ruled queue m k o n h p own)
ruled_stored queue m k None n h p own = (tt, tt)
ruled_stored queue m k (Some rule) n h p own = acted_stored queue m k rule rule.action n h p own

force_stored : (queue : List ℕ) (m : Message) (o : Option ℕ) (n : ℕ) (h : Handler) (p : Plain) (own : Own) → DeedStored (in_force queue m o n h p own)
force_stored queue m None n h p own = (tt, tt)
force_stored queue m (Some k) n h p own = ruled_stored queue m k (slice_get h.table.rules k) n h p own

letter_stored : (queue : List ℕ) (h : Handler) (o : Option Row) (n : Node) → EachStored (handler_row queue h o n)
letter_stored queue h None n = tt
letter_stored queue h (Some row) n = force_stored queue row.message (rule_in_force h.table row.message (tries_of queue row.message.ident h)) (failed_of (tries_of queue row.message.ident h)) h n.manager n.own

readable_stored : (b : Bool) (queue : List ℕ) (h : Handler) (n : Node) → EachStored (handler_on b queue h n)
readable_stored false queue h n = tt
readable_stored true queue h n = letter_stored queue h (next_letter queue h n.manager) n

handler_stored : (o : Option Handler) (n : Node) → EachStored (handler_turn o n)
handler_stored None n = tt
handler_stored (Some h) n = readable_stored (is_readable (local_of (input_queue h.table n.manager) n.manager.definitions)) (input_queue h.table n.manager) h n

-- all of them
sends_stored : (stamp : ℕ) (o : Option SenderEnd) (seen : Seen) (n : Node) → EachStored (sender_turn stamp o seen n)
sends_stored stamp None seen n = tt
sends_stored stamp (Some e) seen n = sender_stored stamp e _ n

takes_stored : (stamp : ℕ) (o : Option ReceiverEnd) (seen : Seen) (n : Node) → EachStored (receiver_turn stamp o seen n)
takes_stored stamp None seen n = tt
takes_stored stamp (Some e) seen n = receiver_stored stamp e seen _ n

turn_stored : (stamp : ℕ) (actor : Actor) (seen : Seen) (n : Node) → EachStored (turn_up stamp actor seen n)
turn_stored stamp (actors.Sender cable) seen n = sends_stored stamp (sender_end cable n.own) seen n
turn_stored stamp (actors.Receiver cable) seen n = takes_stored stamp (receiver_end cable n.own) seen n
turn_stored stamp (actors.Handler number) seen n = handler_stored (handler_in number n.own.handlers) n
turn_stored stamp actors.Operator seen n = tt
turn_stored stamp actors.Clock seen n = tt
turn_stored stamp (actors.Script number) seen n = tt
turn_stored stamp (actors.Monitor number) seen n = tt

out_stored : (o : Option SenderEnd) (n : Node) → EachStored (timeout_of o n)
out_stored None n = tt
out_stored (Some e) n = if_stored (awaits e.machine.state) _ (tt, tt)

timeout_stored : (actor : Actor) (n : Node) → EachStored (timeout_by actor n)
timeout_stored (actors.Sender cable) n = out_stored (sender_end cable n.own) n
timeout_stored (actors.Receiver cable) n = tt
timeout_stored (actors.Handler number) n = tt
timeout_stored actors.Operator n = tt
timeout_stored actors.Clock n = tt
timeout_stored (actors.Script number) n = tt
timeout_stored (actors.Monitor number) n = tt

due_stored : (o : Option LocalQueue) (n : Node) → EachStored (trigger_deed_of o n)
due_stored None n = tt
due_stored (Some q) n = (tt, tt)

up_alone : (r : Running) (d : Option Deed) → EachStored d → EachStored (where_up r d)
up_alone Up d s = s
up_alone (Down noted starts) d s = tt

done_stored : (d : Deed) (choice : Choice) (n : Node) → DeedStored d → IsStored (done d choice n).reply
done_stored d Runs n s = s.0
done_stored d NoMemory n s = wanting d.wanting s.1
  where
    wanting : (o : Option Reply) → WantStored o → IsStored (wanted o d.reply)
    wanting None w = s.0
    wanting (Some other) w = w
done_stored d (Stopped by part left) n s = tt

chosen_stored : (chance : Chance) (d : Option Deed) (n : Node) → EachStored d → IsStored (choice_event chance d n).reply
chosen_stored (chances.Call choice) None n s = tt
chosen_stored (chances.Call choice) (Some d) n s = done_stored d choice n s
chosen_stored (chances.Restart choice) d n s = tt
chosen_stored (chances.Foreign image length left) d n s = tt

crash_stored : (o : Outcome RestartFault Bool) → IsStored (crash_reply o)
crash_stored (Answered true) = tt
crash_stored (Answered false) = tt
crash_stored (Refused fault) = tt
crash_stored Wanting = tt
crash_stored (Broken by) = tt

again_stored : (o : Outcome RestartFault Kept) (delta : List Did) (p : Plain) (n : Node) → IsStored (restarted_as o delta p n).reply
again_stored (Answered kept) delta p n = tt
again_stored (Refused fault) delta p n = tt
again_stored Wanting delta p n = tt
again_stored (Broken by) delta p n = tt

restart_stored : (chance : Chance) (n : Node) → IsStored (restart_event chance n).reply
restart_stored (chances.Call choice) n = tt
restart_stored (chances.Restart choice) n = again_stored (restart choice n.manager).outcome _ _ n
restart_stored (chances.Foreign image length left) n = tt

event_stored : (stamp : ℕ) (actor : Actor) (call : Call) (chance : Chance) (seen : Seen) (n : Node) → IsStored (event stamp actor call chance seen n).reply
event_stored stamp actor (calls.Mqconn qmgr appl) chance seen n = chosen_stored chance _ n (mqi_stored replies.Connected n.own _ (λ a. tt))
event_stored stamp actor (calls.Mqdisc hc) chance seen n = chosen_stored chance _ n (ended_stored replies.Ended n.own _ (λ a. tt))
event_stored stamp actor (calls.Mqopen hc name qmgr how) chance seen n = chosen_stored chance _ n (mqi_stored replies.Opened n.own _ (λ a. tt))
event_stored stamp actor (calls.Mqclose hc ho) chance seen n = chosen_stored chance _ n (ended_stored replies.Ended n.own _ (λ a. tt))
event_stored stamp actor (calls.Mqput hc ho md body sync) chance seen n = chosen_stored chance _ n (mqi_stored replies.Put n.own _ (λ a. tt))
event_stored stamp actor (calls.Mqput1 hc name qmgr md body sync) chance seen n = chosen_stored chance _ n (mqi_stored replies.Put n.own _ (λ a. tt))
event_stored stamp actor (calls.Mqget hc ho get until) chance seen n = chosen_stored chance _ n (got_stored n.own _)
event_stored stamp actor (calls.Mqcmit hc) chance seen n = chosen_stored chance _ n (ended_stored replies.Ended n.own _ (λ a. tt))
event_stored stamp actor (calls.Mqback hc) chance seen n = chosen_stored chance _ n (ended_stored replies.Ended n.own _ (λ a. tt))
event_stored stamp actor (calls.Act (acts.Obey c)) chance seen n = chosen_stored chance _ n (obey_stored c n)
event_stored stamp actor (calls.Act acts.Crash) chance seen n = crash_stored (stop n.manager).outcome
event_stored stamp actor (calls.Act acts.Restart) chance seen n = restart_stored chance n
event_stored stamp actor (calls.Act (acts.Cut k)) chance seen n = tt
event_stored stamp actor (calls.Act (acts.Clock by)) chance seen n = tt
event_stored stamp actor calls.Turn chance seen n = chosen_stored chance _ n (up_alone n.manager.running _ (turn_stored stamp actor seen n))
event_stored stamp actor calls.Timeout chance seen n = chosen_stored chance _ n (up_alone n.manager.running _ (timeout_stored actor n))
event_stored stamp actor calls.Trigger chance seen n = chosen_stored chance _ n (up_alone n.manager.running _ (due_stored _ n))

-- of a history that replays
entry_stored : (n : Node) (last : ℕ) (e : Entry) → Tells n last e → IsStored e.reply
entry_stored n last e t = subst IsStored (sym t.reply) (event_stored e.stamp e.actor e.call e.chance e.effect.popped n)

pub all_stored : (n : Node) (last : ℕ) (es : List Entry) → Follows n last es → (e : Entry) → Mem e es → IsStored e.reply
all_stored n last [] f e m = absurd m
all_stored n last (x ∷ xs) f e (inl same) = subst (λ (y : Entry). IsStored y.reply) (sym same) (entry_stored n last x f.0)
all_stored n last (x ∷ xs) f e (inr m) = all_stored (done_by x n).next x.stamp xs f.1 e m
