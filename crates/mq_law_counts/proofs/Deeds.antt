-- Each event of a node raises its manager's counters by at most three.
use Rattle.std.proofs.Common.{ℕ, ◌≤◌, Bool, true, false, List, [], ◌∷◌, arith}
use Rattle.std.specs.Prelude.{Option, Some, None, if◌then◌else◌}
use Rattle.mq_calls.specs.declared.choices.Choice.{Choice}
use Rattle.mq_calls.specs.declared.choices.Choice.TheVariants.{Runs, NoMemory, Stopped}
use Rattle.mq_calls.specs.declared.answers.Answer.{Answer}
use Rattle.mq_calls.specs.declared.answers.GetAnswer.{GetAnswer}
use Rattle.mq_calls.specs.declared.answers.GetAnswer.TheVariants as get_answers
use Rattle.mq_sc_parse.specs.declared.command.Command.{Command}
use Rattle.mq_sc_parse.specs.declared.command.Command.TheVariants as commands
use Rattle.mq_frame.specs.declared.frame.Seen.{Seen}
use Rattle.mq_spec_node.specs.from_history.ActVariants as acts
use Rattle.mq_spec_node.specs.from_history.CallVariants as calls
use Rattle.mq_spec_node.specs.from_history.{Chance, Reply}
use Rattle.mq_spec_node.specs.from_history.ChanceVariants as chances
use Rattle.mq_spec_node.specs.from_history.ReplyVariants as replies
use Rattle.mq_spec_node.specs.from_history.ActedVariants as acted
use Rattle.mq_calls.specs.declared.commands.ScRefusal.TheVariants as refusals
use Rattle.mq_objects.specs.declared.object.LocalQueue.{LocalQueue}
use Rattle.mq_objects.specs.Names.{locals_of}
use Rattle.mq_calls.specs.State.{Plain, Running}
use Rattle.mq_calls.specs.State.Running.{Up, Down}
use Rattle.mq_calls.specs.Steps.{Step}
use Rattle.mq_calls.specs.Steps.Step.{Do, Refuse}
use Rattle.mq_calls.specs.Reads.{is_up}
use Rattle.mq_spec_manager.specs.Stops.{advance_clock, cut, stop}
use Rattle.mq_spec_manager.specs.Triggers.{first_due, trigger_turn}
use Rattle.mq_spec_manager.specs.Words.{mqconn, mqopen, mqclose, mqput, mqput1, mqget, mqcmit, mqback, mqdisc}
use Rattle.mq_spec_manager.specs.Commands.{command}
use Rattle.mq_spec_node.specs.Terms.{Actor, Call, Reason, Shown, ScRefusal}
use Rattle.mq_spec_node.specs.Words.{Node, Own, Deed, done, deed_of, told, mqi_deed, ended_deed, get_deed, obey_deed, command_deed, parts_of, shown, status_line, is_asked, event, choice_event, trigger_deed_of, where_up}
use Rattle.std.specs.Prelude.{map, filter}
use Rattle.mq_law_counts.specs.Counts.{Climbs, PartsClimb, StepClimbs, IsCountedCall, IsCountedCommand}
use Rattle.mq_law_counts.proofs.Climbing.{climb_more, none_climb, stay}
use Rattle.mq_law_counts.proofs.Calling.{conn_climbs, open_climbs, close_climbs, put_climbs, put1_climbs, get_climbs, cmit_climbs, back_climbs, disc_climbs, command_climbs, trigger_climbs, stop_climbs, cut_climbs, clock_climbs}

step_parts : {F T : Type 0} (s : Step F T) (p : Plain) → StepClimbs 3 s p → PartsClimb 3 (parts_of s) p
step_parts (Refuse reason) p c = none_climb 3 p
step_parts (Do reply parts) p c = c

zero_three : 0 ≤ 3
zero_three = omega arith

-- a deed, whatever the choice
done_climbs : (d : Deed) (choice : Choice) (n : Node) → PartsClimb 3 d.parts n.manager → Climbs 3 n.manager (done d choice n).next.manager
done_climbs d Runs n c = c.all
done_climbs d NoMemory n c = stay 3 n.manager
done_climbs d (Stopped by part left) n c = c.stopped part left

-- a deed that may be none
abbrev DeedClimbs : Option Deed → Node → Type 0
DeedClimbs None n = Unit {0}
DeedClimbs (Some d) n = PartsClimb 3 d.parts n.manager

mqi_parts : {T : Type 0} (f : Answer T → Reply) (own : Own) (s : Step Reason (Answer T)) (n : Node) → StepClimbs 3 s n.manager → PartsClimb 3 (mqi_deed f own s).parts n.manager
mqi_parts f own (Refuse reason) n c = none_climb 3 n.manager
mqi_parts f own (Do reply parts) n c = c

ended_parts : {T : Type 0} (f : Answer T → Reply) (own : Own) (s : Step Reason (Answer T)) (n : Node) → StepClimbs 3 s n.manager → PartsClimb 3 (ended_deed f own s).parts n.manager
ended_parts f own (Refuse reason) n c = none_climb 3 n.manager
ended_parts f own (Do reply parts) n c = c

got_parts : (own : Own) (s : Step Reason GetAnswer) (n : Node) → StepClimbs 3 s n.manager → DeedClimbs (get_deed own s) n
got_parts own (Refuse reason) n c = none_climb 3 n.manager
got_parts own (Do get_answers.NotYet parts) n c = tt
got_parts own (Do (get_answers.Done answer) parts) n c = c

command_parts : (own : Own) (s : Step ScRefusal Shown) (n : Node) → StepClimbs 3 s n.manager → PartsClimb 3 (command_deed own s).parts n.manager
command_parts own (Refuse reason) n c = none_climb 3 n.manager
command_parts own (Do reply parts) n c = c

shown_parts : (own : Own) (any_end : Bool) (lines : List (List ℕ)) (p : Plain) → PartsClimb 3 (shown own any_end lines).parts p
shown_parts own true [] p = none_climb 3 p
shown_parts own false [] p = none_climb 3 p
shown_parts own any_end (line ∷ lines) p = none_climb 3 p

abbrev told_down : Own → Deed
told_down own = told (replies.Acted (acted.Sc refusals.Down)) own

status_parts : (up : Bool) (own : Own) (any_end : Bool) (lines : List (List ℕ)) (p : Plain) → PartsClimb 3 (if up then shown own any_end lines else told_down own).parts p
status_parts true own any_end lines p = shown_parts own any_end lines p
status_parts false own any_end lines p = none_climb 3 p

obey_parts : (c : Command) (n : Node) → IsCountedCommand c → PartsClimb 3 (obey_deed c n).parts n.manager
obey_parts (commands.Objects c) n is = command_parts n.own (command c n.manager) n (command_climbs c n.manager)
obey_parts (commands.Operate op) n is = absurd is
obey_parts (commands.ShowStatus name any_end) n is = status_parts (is_up n.manager.running) n.own any_end (map (status_line n.manager) (filter (is_asked name any_end) n.own.ends)) n.manager

trigger_parts : (r : Running) (q : Option LocalQueue) (n : Node) → DeedClimbs (where_up r (trigger_deed_of q n)) n
trigger_parts Up None n = tt
trigger_parts Up (Some q) n = step_parts (trigger_turn n.manager) n.manager (trigger_climbs n.manager)
trigger_parts (Down noted starts) q n = tt

deed_parts : (stamp : ℕ) (actor : Actor) (call : Call) (seen : Seen) (n : Node) → IsCountedCall call → DeedClimbs (deed_of stamp actor call seen n) n
deed_parts stamp actor (calls.Mqconn qmgr appl) seen n is = mqi_parts replies.Connected n.own (mqconn qmgr appl n.manager) n (conn_climbs qmgr appl n.manager)
deed_parts stamp actor (calls.Mqdisc hc) seen n is = ended_parts replies.Ended n.own (mqdisc hc n.manager) n (disc_climbs hc n.manager)
deed_parts stamp actor (calls.Mqopen hc name qmgr how) seen n is = mqi_parts replies.Opened n.own (mqopen hc name qmgr how n.manager) n (open_climbs hc name qmgr how n.manager)
deed_parts stamp actor (calls.Mqclose hc ho) seen n is = ended_parts replies.Ended n.own (mqclose hc ho n.manager) n (close_climbs hc ho n.manager)
deed_parts stamp actor (calls.Mqput hc ho md body sync) seen n is = mqi_parts replies.Put n.own (mqput hc ho md body sync n.manager) n (put_climbs hc ho md body sync n.manager)
deed_parts stamp actor (calls.Mqput1 hc name qmgr md body sync) seen n is = mqi_parts replies.Put n.own (mqput1 hc name qmgr md body sync n.manager) n (put1_climbs hc name qmgr md body sync n.manager)
deed_parts stamp actor (calls.Mqget hc ho get until) seen n is = got_parts n.own (mqget hc ho get until n.manager) n (get_climbs hc ho get until n.manager)
deed_parts stamp actor (calls.Mqcmit hc) seen n is = ended_parts replies.Ended n.own (mqcmit hc n.manager) n (cmit_climbs hc n.manager)
deed_parts stamp actor (calls.Mqback hc) seen n is = ended_parts replies.Ended n.own (mqback hc n.manager) n (back_climbs hc n.manager)
deed_parts stamp actor (calls.Act (acts.Obey c)) seen n is = obey_parts c n is
deed_parts stamp actor (calls.Act acts.Crash) seen n is = tt
deed_parts stamp actor (calls.Act acts.Restart) seen n is = tt
deed_parts stamp actor (calls.Act (acts.Cut k)) seen n is = tt
deed_parts stamp actor (calls.Act (acts.Clock by)) seen n is = tt
deed_parts stamp actor calls.Turn seen n is = absurd is
deed_parts stamp actor calls.Timeout seen n is = absurd is
deed_parts stamp actor calls.Trigger seen n is = trigger_parts n.manager.running (first_due (locals_of n.manager.definitions) n.manager) n

chosen_climbs : (chance : Chance) (d : Option Deed) (n : Node) → DeedClimbs d n → Climbs 3 n.manager (choice_event chance d n).next.manager
chosen_climbs (chances.Call choice) None n c = stay 3 n.manager
chosen_climbs (chances.Call choice) (Some d) n c = done_climbs d choice n c
chosen_climbs (chances.Restart choice) d n c = stay 3 n.manager
chosen_climbs (chances.Foreign image length left) d n c = stay 3 n.manager

pub event_climbs : (stamp : ℕ) (actor : Actor) (call : Call) (chance : Chance) (seen : Seen) (n : Node) → IsCountedCall call → Climbs 3 n.manager (event stamp actor call chance seen n).next.manager
event_climbs stamp actor (calls.Mqconn qmgr appl) chance seen n is = chosen_climbs chance (deed_of stamp actor (calls.Mqconn qmgr appl) seen n) n (deed_parts stamp actor (calls.Mqconn qmgr appl) seen n is)
event_climbs stamp actor (calls.Mqdisc hc) chance seen n is = chosen_climbs chance (deed_of stamp actor (calls.Mqdisc hc) seen n) n (deed_parts stamp actor (calls.Mqdisc hc) seen n is)
event_climbs stamp actor (calls.Mqopen hc name qmgr how) chance seen n is = chosen_climbs chance (deed_of stamp actor (calls.Mqopen hc name qmgr how) seen n) n (deed_parts stamp actor (calls.Mqopen hc name qmgr how) seen n is)
event_climbs stamp actor (calls.Mqclose hc ho) chance seen n is = chosen_climbs chance (deed_of stamp actor (calls.Mqclose hc ho) seen n) n (deed_parts stamp actor (calls.Mqclose hc ho) seen n is)
event_climbs stamp actor (calls.Mqput hc ho md body sync) chance seen n is = chosen_climbs chance (deed_of stamp actor (calls.Mqput hc ho md body sync) seen n) n (deed_parts stamp actor (calls.Mqput hc ho md body sync) seen n is)
event_climbs stamp actor (calls.Mqput1 hc name qmgr md body sync) chance seen n is = chosen_climbs chance (deed_of stamp actor (calls.Mqput1 hc name qmgr md body sync) seen n) n (deed_parts stamp actor (calls.Mqput1 hc name qmgr md body sync) seen n is)
event_climbs stamp actor (calls.Mqget hc ho get until) chance seen n is = chosen_climbs chance (deed_of stamp actor (calls.Mqget hc ho get until) seen n) n (deed_parts stamp actor (calls.Mqget hc ho get until) seen n is)
event_climbs stamp actor (calls.Mqcmit hc) chance seen n is = chosen_climbs chance (deed_of stamp actor (calls.Mqcmit hc) seen n) n (deed_parts stamp actor (calls.Mqcmit hc) seen n is)
event_climbs stamp actor (calls.Mqback hc) chance seen n is = chosen_climbs chance (deed_of stamp actor (calls.Mqback hc) seen n) n (deed_parts stamp actor (calls.Mqback hc) seen n is)
event_climbs stamp actor (calls.Act (acts.Obey c)) chance seen n is = chosen_climbs chance (deed_of stamp actor (calls.Act (acts.Obey c)) seen n) n (deed_parts stamp actor (calls.Act (acts.Obey c)) seen n is)
event_climbs stamp actor (calls.Act acts.Crash) chance seen n is = climb_more 0 3 n.manager (stop n.manager).next zero_three (stop_climbs n.manager)
event_climbs stamp actor (calls.Act acts.Restart) chance seen n is = absurd is
event_climbs stamp actor (calls.Act (acts.Cut k)) chance seen n is = climb_more 0 3 n.manager (cut k n.manager) zero_three (cut_climbs k n.manager)
event_climbs stamp actor (calls.Act (acts.Clock by)) chance seen n is = climb_more 0 3 n.manager (advance_clock by n.manager) zero_three (clock_climbs by n.manager)
event_climbs stamp actor calls.Turn chance seen n is = absurd is
event_climbs stamp actor calls.Timeout chance seen n is = absurd is
event_climbs stamp actor calls.Trigger chance seen n is = chosen_climbs chance (deed_of stamp actor calls.Trigger seen n) n (deed_parts stamp actor calls.Trigger seen n is)
