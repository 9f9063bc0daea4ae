-- Events that are no turn of a channel's end, no timeout and no operator's command leave all channels as they are.
use Rattle.std.proofs.Common.{ℕ, ◌≡◌, Bool, true, false, List, [], ◌∷◌, refl, ap, sym, ◌∙◌}
use Rattle.std.specs.Prelude.{Option, Some, None, if◌then◌else◌, map, filter, ◌+◌, not, slice_get}
use Rattle.mq_codes.specs.declared.reason.Reason.{Reason}
use Rattle.mq_message.specs.declared.message.Message.{Message}
use Rattle.mq_queue.specs.declared.row.Row.{Row}
use Rattle.mq_frame.specs.declared.frame.Seen.{Seen}
use Rattle.mq_objects.specs.declared.object.LocalQueue.{LocalQueue}
use Rattle.mq_objects.specs.Names.{locals_of}
use Rattle.mq_rules.specs.declared.rule.Rule.{Rule}
use Rattle.mq_rules.specs.declared.rule.Action.{Action}
use Rattle.mq_rules.specs.declared.rule.Action.TheVariants as actions
use Rattle.mq_calls.specs.declared.answers.Answer.{Answer}
use Rattle.mq_calls.specs.declared.answers.Got.{Got}
use Rattle.mq_calls.specs.declared.answers.GetAnswer.{GetAnswer}
use Rattle.mq_calls.specs.declared.commands.ScRefusal.{ScRefusal}
use Rattle.mq_calls.specs.declared.commands.ScRefusal.TheVariants as refusals
use Rattle.mq_calls.specs.declared.commands.Shown.{Shown}
use Rattle.mq_sc_parse.specs.declared.command.Command.{Command}
use Rattle.mq_sc_parse.specs.declared.command.Command.TheVariants as commands
use Rattle.mq_history.specs.declared.acts.Act.TheVariants as acts
use Rattle.mq_history.specs.declared.calls.Actor.{Actor}
use Rattle.mq_history.specs.declared.calls.Actor.TheVariants as actors
use Rattle.mq_history.specs.declared.calls.Call.{Call}
use Rattle.mq_history.specs.declared.calls.Call.TheVariants as calls
use Rattle.mq_history.specs.declared.calls.Reply.{Reply}
use Rattle.mq_history.specs.declared.calls.Reply.TheVariants as replies
use Rattle.mq_history.specs.declared.acts.Acted.TheVariants as acted
use Rattle.mq_calls.specs.State.{Plain, Running}
use Rattle.mq_calls.specs.State.Running.{Up, Down}
use Rattle.mq_calls.specs.Reads.{is_up, stored, sender_data, receiver_data}
use Rattle.mq_calls.specs.Steps.{Step, Part, do_all}
use Rattle.mq_calls.specs.Steps.Step.{Refuse, Do}
use Rattle.mq_spec_manager.specs.Handles.{mqconn, mqopen, mqclose}
use Rattle.mq_spec_manager.specs.Put.{mqput, mqput1}
use Rattle.mq_spec_manager.specs.Get.{mqget}
use Rattle.mq_spec_manager.specs.Units.{mqcmit, mqback, mqdisc}
use Rattle.mq_spec_manager.specs.Commands.{command}
use Rattle.mq_spec_manager.specs.Triggers.{first_due, trigger_turn}
use Rattle.mq_spec_manager.specs.Agents.{move_row, row_with, discard}
use Rattle.mq_spec_node.specs.Node.{Node, Own, Handler, handler_in, end_in}
use Rattle.mq_spec_node.specs.Deeds.{Deed, told, mqi_deed, ended_deed}
use Rattle.mq_spec_node.specs.Handlers as handlers
use Rattle.mq_spec_node.specs.Status.{shown, status_line, is_asked}
use Rattle.mq_spec_node.specs.Happens.{get_done, got_deed, get_deed, command_deed, obey_deed, trigger_deed_of, trigger_deed, handler_turn, turn_up, where_up, deed_of}
use Rattle.mq_law_node.specs.Quiet.{is_call, parts_call, step_call, IsCallDeed, EachCall, IsQuietDeed, EachQuiet, IsCommandQuiet, IsTurnQuiet, IsOrdinary}
use Rattle.mq_law_node.proofs.Named.{bool_case}
use Rattle.mq_law_seized.proofs.CommonCalls.{discard_common, move_common, mqback_common, mqclose_common, mqcmit_common, mqconn_common, mqdisc_common, mqput1_common, mqput_common, trigger_common}
use Rattle.mq_law_node.proofs.Calls as calls_of
use Rattle.mq_frame.specs.declared.frame.Frame.{Frame}
use Rattle.mq_sync.specs.declared.data.SenderData.{SenderData}
use Rattle.mq_sync.specs.declared.data.ReceiverData.{ReceiverData}
use Rattle.mq_sender.specs.Table.{is_sending}
use Rattle.mq_sync.specs.Settlement.{sender_or, receiver_or}
use Rattle.mq_law_channel.specs.Channel.{Channel, Past}
use Rattle.mq_law_node.specs.Ends.{Where, told_sends, told_receives, Reads, SendsAs, TakesAs, offering, Sent}
use Rattle.mq_law_node.specs.Moves as near
use Rattle.mq_law_node.specs.Moves.{FarStep, Moves, Goes}
use Rattle.mq_law_node.proofs.Quiet.{sender_parts_quiet, receiver_parts_quiet, batch_parts_quiet, parts_call_quiet, step_parts}
use Rattle.mq_law_node.proofs.DataLaws.{batch_done_all}
use Rattle.mq_law_node.proofs.SenderTurns.{leaves}
use Rattle.mq_law_node.proofs.ReceiverTurns.{arrives}

-- a deed of a step
pub mqi_is_call : {T : Type 0} (f : Answer T → Reply) (own : Own) (s : Step Reason (Answer T)) → step_call s ≡ true → IsCallDeed own (mqi_deed f own s)
mqi_is_call f own (Refuse reason) h = record { parts = refl; ends = refl; pushed = refl }
mqi_is_call f own (Do reply parts) h = record { parts = h; ends = refl; pushed = refl }

pub ended_is_call : {T : Type 0} (f : Answer T → Reply) (own : Own) (s : Step Reason (Answer T)) → step_call s ≡ true → IsCallDeed own (ended_deed f own s)
ended_is_call f own (Refuse reason) h = record { parts = refl; ends = refl; pushed = refl }
ended_is_call f own (Do reply parts) h = record { parts = h; ends = refl; pushed = refl }

pub got_is_call : (o : Option (Answer Got)) (parts : List Part) (own : Own) → parts_call parts ≡ true → EachCall own (got_deed o parts own)
got_is_call None parts own h = tt
got_is_call (Some answer) parts own h = record { parts = h; ends = refl; pushed = refl }

pub get_is_call : (own : Own) (s : Step Reason GetAnswer) → step_call s ≡ true → EachCall own (get_deed own s)
get_is_call own (Refuse reason) h = record { parts = refl; ends = refl; pushed = refl }
get_is_call own (Do reply parts) h = got_is_call (get_done reply) parts own h

pub command_is_call : (own : Own) (s : Step ScRefusal Shown) → step_call s ≡ true → IsCallDeed own (command_deed own s)
command_is_call own (Refuse reason) h = record { parts = refl; ends = refl; pushed = refl }
command_is_call own (Do reply parts) h = record { parts = h; ends = refl; pushed = refl }

pub told_is_call : (reply : Reply) (own : Own) → IsCallDeed own (told reply own)
told_is_call reply own = record { parts = refl; ends = refl; pushed = refl }

-- DISPLAY CHSTATUS
pub shown_is_call : (own : Own) (any_end : Bool) (lines : List (List ℕ)) → IsCallDeed own (shown own any_end lines)
shown_is_call own true [] = told_is_call _ own
shown_is_call own false [] = told_is_call _ own
shown_is_call own any_end (line ∷ lines) = told_is_call _ own

-- the handler
pub failed_is_call : (queue : List ℕ) (m : Message) (k : ℕ) (rule : Rule) (tries : ℕ) (h : Handler) (p : Plain) (own : Own) → IsCallDeed own (handlers.failed queue m k rule tries h p own)
failed_is_call queue m k rule tries h p own = record { parts = refl; ends = refl; pushed = refl }

pub moved_is_call : (queue : List ℕ) (m : Message) (k : ℕ) (rule : Rule) (tries : ℕ) (h : Handler) (p : Plain) (own : Own) (s : Step Reason (Unit {0})) → step_call s ≡ true → IsCallDeed own (handlers.moved queue m k rule tries h p own s)
moved_is_call queue m k rule tries h p own (Refuse reason) q = failed_is_call queue m k rule (tries + 1) h p own
moved_is_call queue m k rule tries h p own (Do reply parts) q = record { parts = q; ends = refl; pushed = refl }

pub acted_is_call : (queue : List ℕ) (m : Message) (k : ℕ) (rule : Rule) (action : Action) (tries : ℕ) (h : Handler) (p : Plain) (own : Own) → IsCallDeed own (handlers.acted queue m k rule action tries h p own)
acted_is_call queue m k rule actions.Discard tries h p own = record { parts = step_parts is_call (discard queue m.ident p) (calls_of.step_common (discard queue m.ident p) (discard_common queue m.ident p)); ends = refl; pushed = refl }
acted_is_call queue m k rule actions.Ignore tries h p own = record { parts = refl; ends = refl; pushed = refl }
acted_is_call queue m k rule actions.Retry tries h p own = moved_is_call queue m k rule tries h p own (move_row queue m.ident (handlers.retry_to m) true p) (calls_of.step_common (move_row queue m.ident (handlers.retry_to m) true p) (move_common queue (handlers.retry_to m) true (row_with (Some m.ident) (stored queue p).rows) p))
acted_is_call queue m k rule (actions.Forward f) tries h p own = moved_is_call queue m k rule tries h p own (move_row queue m.ident (handlers.forward_to m f) (not f.header) p) (calls_of.step_common (move_row queue m.ident (handlers.forward_to m f) (not f.header) p) (move_common queue (handlers.forward_to m f) (not f.header) (row_with (Some m.ident) (stored queue p).rows) p))

pub ruled_is_call : (queue : List ℕ) (m : Message) (k : ℕ) (rule : Option Rule) (tries : ℕ) (h : Handler) (p : Plain) (own : Own) → IsCallDeed own (handlers.ruled queue m k rule tries h p own)
ruled_is_call queue m k None tries h p own = record { parts = refl; ends = refl; pushed = refl }
ruled_is_call queue m k (Some rule) tries h p own = acted_is_call queue m k rule rule.action tries h p own

pub in_force_is_call : (queue : List ℕ) (m : Message) (rule : Option ℕ) (tries : ℕ) (h : Handler) (p : Plain) (own : Own) → IsCallDeed own (handlers.in_force queue m rule tries h p own)
in_force_is_call queue m None tries h p own = record { parts = refl; ends = refl; pushed = refl }
in_force_is_call queue m (Some k) tries h p own = ruled_is_call queue m k (slice_get h.table.rules k) tries h p own

pub handler_row_call : (queue : List ℕ) (h : Handler) (row : Option Row) (n : Node) → EachCall n.own (handlers.handler_row queue h row n)
handler_row_call queue h None n = tt
handler_row_call queue h (Some row) n = in_force_is_call queue row.message _ _ h n.manager n.own

pub handler_on_call : (on : Bool) (queue : List ℕ) (h : Handler) (n : Node) → EachCall n.own (handlers.handler_on on queue h n)
handler_on_call false queue h n = tt
handler_on_call true queue h n = handler_row_call queue h (handlers.next_letter queue h n.manager) n

pub handler_is_call : (h : Option Handler) (n : Node) → EachCall n.own (handler_turn h n)
handler_is_call None n = tt
handler_is_call (Some h) n = handler_on_call _ (handlers.input_queue h.table n.manager) h n

-- triggers
pub trigger_of_call : (q : Option LocalQueue) (n : Node) → EachCall n.own (trigger_deed_of q n)
trigger_of_call None n = tt
trigger_of_call (Some q) n = record { parts = step_parts is_call (trigger_turn n.manager) (calls_of.step_common (trigger_turn n.manager) (trigger_common (is_up n.manager.running) n.manager)); ends = refl; pushed = refl }

pub running_case : (r : Running) (P : Running → Type 0) → P Up → ((noted : _) (starts : ℕ) → P (Down noted starts)) → P r
running_case Up P a b = a
running_case (Down noted starts) P a b = b noted starts

pub obeyed_is_call : (c : Command) (n : Node) → IsCommandQuiet c → IsCallDeed n.own (obey_deed c n)
obeyed_is_call (commands.Objects c) n o = command_is_call n.own (command c n.manager) (calls_of.command_call c n.manager)
obeyed_is_call (commands.ShowStatus name any_end) n o = bool_case (is_up n.manager.running)
    (λ b. IsCallDeed n.own (if b then shown n.own any_end (map (status_line n.manager) (filter (is_asked name any_end) n.own.ends)) else told (replies.Acted (acted.Sc refusals.Down)) n.own))
    (λ e. shown_is_call n.own any_end (map (status_line n.manager) (filter (is_asked name any_end) n.own.ends)))
    (λ e. told_is_call _ n.own)
obeyed_is_call (commands.Operate op) n o = absurd o

pub turn_is_call : (stamp : ℕ) (actor : Actor) (seen : Seen) (n : Node) → IsTurnQuiet actor → EachCall n.own (turn_up stamp actor seen n)
turn_is_call stamp (actors.Sender cable) seen n o = absurd o
turn_is_call stamp (actors.Receiver cable) seen n o = absurd o
turn_is_call stamp (actors.Handler number) seen n o = handler_is_call (handler_in number n.own.handlers) n
turn_is_call stamp actor seen n o = tt

pub where_up_call : (r : Running) (own : Own) (d : Option Deed) → EachCall own d → EachCall own (where_up r d)
where_up_call Up own d h = h
where_up_call (Down noted starts) own d h = tt

pub trigger_is_call : (n : Node) → EachCall n.own (trigger_deed n)
trigger_is_call n = where_up_call n.manager.running n.own (trigger_deed_of (first_due (locals_of n.manager.definitions) n.manager) n) (trigger_of_call (first_due (locals_of n.manager.definitions) n.manager) n)

-- ALL ORDINARY EVENTS
pub ordinary_is_call : (stamp : ℕ) (actor : Actor) (call : Call) (seen : Seen) (n : Node) → IsOrdinary actor call → EachCall n.own (deed_of stamp actor call seen n)
ordinary_is_call stamp actor (calls.Mqconn qmgr appl) seen n o = mqi_is_call (λ a. replies.Connected a) n.own (mqconn qmgr appl n.manager) (calls_of.step_common (mqconn qmgr appl n.manager) (mqconn_common qmgr appl n.manager))
ordinary_is_call stamp actor (calls.Mqdisc hc) seen n o = ended_is_call (λ a. replies.Ended a) n.own (mqdisc hc n.manager) (calls_of.step_common (mqdisc hc n.manager) (mqdisc_common hc n.manager))
ordinary_is_call stamp actor (calls.Mqopen hc name qmgr how) seen n o = mqi_is_call (λ a. replies.Opened a) n.own (mqopen hc name qmgr how n.manager) (calls_of.mqopen_call hc name qmgr how n.manager)
ordinary_is_call stamp actor (calls.Mqclose hc ho) seen n o = ended_is_call (λ a. replies.Ended a) n.own (mqclose hc ho n.manager) (calls_of.step_common (mqclose hc ho n.manager) (mqclose_common hc ho n.manager))
ordinary_is_call stamp actor (calls.Mqput hc ho md body sync) seen n o = mqi_is_call (λ a. replies.Put a) n.own (mqput hc ho md body sync n.manager) (calls_of.step_common (mqput hc ho md body sync n.manager) (mqput_common hc ho md body sync n.manager))
ordinary_is_call stamp actor (calls.Mqput1 hc name qmgr md body sync) seen n o = mqi_is_call (λ a. replies.Put a) n.own (mqput1 hc name qmgr md body sync n.manager) (calls_of.step_common (mqput1 hc name qmgr md body sync n.manager) (mqput1_common hc name qmgr md body sync n.manager))
ordinary_is_call stamp actor (calls.Mqget hc ho get until) seen n o = get_is_call n.own (mqget hc ho get until n.manager) (calls_of.mqget_call hc ho get until n.manager)
ordinary_is_call stamp actor (calls.Mqcmit hc) seen n o = ended_is_call (λ a. replies.Ended a) n.own (mqcmit hc n.manager) (calls_of.step_common (mqcmit hc n.manager) (mqcmit_common hc n.manager))
ordinary_is_call stamp actor (calls.Mqback hc) seen n o = ended_is_call (λ a. replies.Ended a) n.own (mqback hc n.manager) (calls_of.step_common (mqback hc n.manager) (mqback_common hc n.manager))
ordinary_is_call stamp actor (calls.Act (acts.Obey c)) seen n o = obeyed_is_call c n o
ordinary_is_call stamp actor (calls.Act acts.Crash) seen n o = tt
ordinary_is_call stamp actor (calls.Act acts.Restart) seen n o = tt
ordinary_is_call stamp actor (calls.Act (acts.Cut k)) seen n o = tt
ordinary_is_call stamp actor (calls.Act (acts.Clock by)) seen n o = tt
ordinary_is_call stamp actor calls.Turn seen n o = where_up_call n.manager.running n.own (turn_up stamp actor seen n) (turn_is_call stamp actor seen n o)
ordinary_is_call stamp actor calls.Timeout seen n o = absurd o
ordinary_is_call stamp actor calls.Trigger seen n o = trigger_is_call n

-- so they are quiet
deed_is_quiet : (own : Own) (d : Deed) → IsCallDeed own d → IsQuietDeed own d
deed_is_quiet own d q = record { parts = parts_call_quiet d.parts q.parts; ends = q.ends; pushed = q.pushed }

each_quiet : (own : Own) (o : Option Deed) → EachCall own o → EachQuiet own o
each_quiet own None q = tt
each_quiet own (Some d) q = deed_is_quiet own d q

pub told_is_quiet : (reply : Reply) (own : Own) → IsQuietDeed own (told reply own)
told_is_quiet reply own = record { parts = refl; ends = refl; pushed = refl }

pub obeyed_is_quiet : (c : Command) (n : Node) → IsCommandQuiet c → IsQuietDeed n.own (obey_deed c n)
obeyed_is_quiet c n o = deed_is_quiet n.own (obey_deed c n) (obeyed_is_call c n o)

pub ordinary_is_quiet : (stamp : ℕ) (actor : Actor) (call : Call) (seen : Seen) (n : Node) → IsOrdinary actor call → EachQuiet n.own (deed_of stamp actor call seen n)
ordinary_is_quiet stamp actor call seen n o = each_quiet n.own (deed_of stamp actor call seen n) (ordinary_is_call stamp actor call seen n o)

-- such an event leaves the near end of a channel as it is, where the rows of its batch stay
pub rests_sent : (w : Where) (n : Node) (c : Channel) (d : Deed) → SendsAs w n c → is_up n.manager.running ≡ true → IsQuietDeed n.own d
    → (is_sending c.sender.state ≡ true → Reads w.channel c.batch (do_all d.parts n.manager))
    → Sent w n d c.out c
rests_sent w n c d h up q rows = leaves w n d c c.sends c.sender c.batch c.out up
    (ap (end_in w.cable) q.ends ∙ h.here)
    (h.data_ ∙ ap (λ (o : Option SenderData). told_sends (sender_or o)) (sym (sender_parts_quiet w.channel d.parts (sender_data w.channel n.manager) q.parts)))
    (λ e. let b = h.batched e in record { batch = b.batch; is = batch_done_all w.channel d.parts n.manager ∙ batch_parts_quiet w.channel d.parts _ q.parts ∙ b.is; unit = b.unit; reads = rows e })
    (λ e. batch_parts_quiet w.channel d.parts _ q.parts ∙ h.unbatched e)
    (ap (λ (o : Option Frame). offering o c.out) q.pushed)

pub rests_near : (w : Where) (n : Node) (c : Channel) (d : Deed) → SendsAs w n c → is_up n.manager.running ≡ true → IsQuietDeed n.own d
    → (is_sending c.sender.state ≡ true → Reads w.channel c.batch (do_all d.parts n.manager))
    → Moves w n d c
rests_near w n c d h up q rows = record { step = near.Rest; may = tt; sent = rests_sent w n c d h up q rows }

pub rests_far : (w : Where) (n : Node) (c : Channel) (p : Past) (d : Deed) → TakesAs w n c → is_up n.manager.running ≡ true → IsQuietDeed n.own d → Goes w n d c p
rests_far w n c p d h up q = record {
  step = FarStep.Rest;
  may = tt;
  taken = arrives w n d c c.receives c.receiver c.kept c.back up
      (ap (end_in w.cable) q.ends ∙ h.here)
      (h.data_ ∙ ap (λ (o : Option ReceiverData). told_receives (receiver_or o)) (sym (receiver_parts_quiet w.channel d.parts (receiver_data w.channel n.manager) q.parts)))
      (ap (λ (o : Option Frame). offering o c.back) q.pushed);
}
