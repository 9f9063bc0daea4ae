-- Calls, commands on objects, triggers and the handler's turns: what the parts of their calls have, those of their deeds have.
use Rattle.std.proofs.Common.{ℕ, ◌≡◌, Bool, true, false, List, [], ◌∷◌, refl}
use Rattle.std.specs.Prelude.{Option, Some, None, if◌then◌else◌, map, filter, not, slice_get}
use Rattle.mq_codes.specs.declared.reason.Reason.{Reason}
use Rattle.mq_message.specs.declared.message.Dest.{Dest}
use Rattle.mq_queue.specs.declared.row.Row.{Row}
use Rattle.mq_objects.specs.declared.object.LocalQueue.{LocalQueue}
use Rattle.mq_objects.specs.Names.{local_of, locals_of}
use Rattle.mq_frame.specs.declared.frame.Seen.{Seen}
use Rattle.mq_rules.specs.declared.rule.Action.{Action}
use Rattle.mq_rules.specs.declared.rule.Action.TheVariants as actions
use Rattle.mq_rules.specs.declared.rule.Rule.{Rule}
use Rattle.mq_calls.specs.declared.answers.Answer.{Answer}
use Rattle.mq_calls.specs.declared.answers.Got.{Got}
use Rattle.mq_calls.specs.declared.answers.GetAnswer.{GetAnswer}
use Rattle.mq_calls.specs.declared.commands.ScRefusal.{ScRefusal}
use Rattle.mq_calls.specs.declared.commands.ScRefusal.TheVariants as refusals
use Rattle.mq_calls.specs.declared.commands.Shown.{Shown}
use Rattle.mq_sc_parse.specs.declared.command.Command.{Command}
use Rattle.mq_sc_parse.specs.declared.command.Command.TheVariants as commands
use Rattle.mq_history.specs.declared.acts.Act.TheVariants as acts
use Rattle.mq_history.specs.declared.acts.Acted.TheVariants as acted
use Rattle.mq_history.specs.declared.calls.Actor.{Actor}
use Rattle.mq_history.specs.declared.calls.Actor.TheVariants as actors
use Rattle.mq_history.specs.declared.calls.Call.{Call}
use Rattle.mq_history.specs.declared.calls.Call.TheVariants as calls
use Rattle.mq_history.specs.declared.calls.Reply.{Reply}
use Rattle.mq_history.specs.declared.calls.Reply.TheVariants as replies
use Rattle.mq_calls.specs.State.{Plain, Running}
use Rattle.mq_calls.specs.State.Running.{Up, Down}
use Rattle.mq_calls.specs.Reads.{is_up}
use Rattle.mq_calls.specs.Steps.{Part, Step}
use Rattle.mq_calls.specs.Steps.Step.{Refuse, Do}
use Rattle.mq_spec_manager.specs.Words.{mqconn, mqopen, mqclose, mqput, mqput1, mqget, mqcmit, mqback, mqdisc, command}
use Rattle.mq_spec_manager.specs.Triggers.{first_due}
use Rattle.mq_spec_manager.specs.Agents.{move_row}
use Rattle.mq_spec_node.specs.Node.{Handler, Node, Own, handler_in}
use Rattle.mq_spec_node.specs.Deeds.{Deed, ended_deed, mqi_deed, parts_of, told}
use Rattle.mq_spec_node.specs.Handlers as handlers
use Rattle.mq_spec_node.specs.Status.{is_asked, shown, status_line}
use Rattle.mq_spec_node.specs.Happens.{command_deed, deed_of, get_deed, get_done, got_deed, handler_turn, obey_deed, trigger_deed_of, turn_up, where_up}
use Rattle.mq_law_manager.proofs.Lists.{bool_case}
use Rattle.mq_law_keys.specs.from_law_node.Quiet.{IsCommandQuiet, IsOrdinary, IsTurnQuiet}
use Rattle.mq_law_unshared.specs.Ordinary.{CallsHave, EachHas}

-- a deed of a step
mqi_has : {T : Type 0} (has : List Part → Type 0) (f : Answer T → Reply) (own : Own) (s : Step Reason (Answer T)) → has (parts_of s) → EachHas has (Some (mqi_deed f own s))
mqi_has has f own (Refuse reason) k = k
mqi_has has f own (Do reply parts) k = k

ended_has : {T : Type 0} (has : List Part → Type 0) (f : Answer T → Reply) (own : Own) (s : Step Reason (Answer T)) → has (parts_of s) → EachHas has (Some (ended_deed f own s))
ended_has has f own (Refuse reason) k = k
ended_has has f own (Do reply parts) k = k

got_has : (has : List Part → Type 0) (o : Option (Answer Got)) (parts : List Part) (own : Own) → has parts → EachHas has (got_deed o parts own)
got_has has None parts own k = tt
got_has has (Some answer) parts own k = k

get_has : (has : List Part → Type 0) (own : Own) (s : Step Reason GetAnswer) → has (parts_of s) → EachHas has (get_deed own s)
get_has has own (Refuse reason) k = k
get_has has own (Do reply parts) k = got_has has (get_done reply) parts own k

command_has : (has : List Part → Type 0) (own : Own) (s : Step ScRefusal Shown) → has (parts_of s) → EachHas has (Some (command_deed own s))
command_has has own (Refuse reason) k = k
command_has has own (Do reply parts) k = k

-- DISPLAY CHSTATUS
shown_has : (has : List Part → Type 0) (own : Own) (any_end : Bool) (lines : List (List ℕ)) → has [] → EachHas has (Some (shown own any_end lines))
shown_has has own true [] k = k
shown_has has own false [] k = k
shown_has has own any_end (line ∷ lines) k = k

obeyed : (has : List Part → Type 0) (c : Command) (n : Node) → IsCommandQuiet c → CallsHave has n.manager → EachHas has (Some (obey_deed c n))
obeyed has (commands.Objects c) n o k = command_has has n.own (command c n.manager) (k.obeys c)
obeyed has (commands.ShowStatus name any_end) n o k = bool_case (is_up n.manager.running)
    (λ b. EachHas has (Some (if b then shown n.own any_end (map (status_line n.manager) (filter (is_asked name any_end) n.own.ends)) else told (replies.Acted (acted.Sc refusals.Down)) n.own)))
    (λ e. shown_has has n.own any_end (map (status_line n.manager) (filter (is_asked name any_end) n.own.ends)) k.none) (λ e. k.none)
obeyed has (commands.Operate op) n o k = absurd o

-- triggers
trigger_has : (has : List Part → Type 0) (q : Option LocalQueue) (n : Node) → CallsHave has n.manager → EachHas has (trigger_deed_of q n)
trigger_has has None n k = tt
trigger_has has (Some q) n k = k.triggers

up_has : (has : List Part → Type 0) (r : Running) (d : Option Deed) → EachHas has d → EachHas has (where_up r d)
up_has has Up d k = k
up_has has (Down noted starts) d k = tt

-- the handler, at the next dead letter of its queue
record IsNext (q : List ℕ) (h : Handler) (x : Row) (p : Plain) : Type 0 where
  readable : handlers.is_readable (local_of q p.definitions) ≡ true
  found : handlers.next_letter q h p ≡ Some x

moved_has : (has : List Part → Type 0) (q : List ℕ) (x : Row) (j : ℕ) (rule : Rule) (tries : ℕ) (h : Handler) (p : Plain) (own : Own) (s : Step Reason (Unit {0})) → has [] → has (parts_of s) → EachHas has (Some (handlers.moved q x.message j rule tries h p own s))
moved_has has q x j rule tries h p own (Refuse reason) none k = none
moved_has has q x j rule tries h p own (Do reply parts) none k = k

moves : (has : List Part → Type 0) (q : List ℕ) (x : Row) (j : ℕ) (rule : Rule) (tries : ℕ) (h : Handler) (p : Plain) (own : Own) (to : Dest) (bare : Bool) → IsNext q h x p → CallsHave has p
    → EachHas has (Some (handlers.moved q x.message j rule tries h p own (move_row q x.message.ident to bare p)))
moves has q x j rule tries h p own to bare is k = moved_has has q x j rule tries h p own (move_row q x.message.ident to bare p) k.none (k.moves q h x to bare is.readable is.found)

acts_has : (has : List Part → Type 0) (q : List ℕ) (x : Row) (j : ℕ) (rule : Rule) (action : Action) (tries : ℕ) (h : Handler) (p : Plain) (own : Own) → IsNext q h x p → CallsHave has p → EachHas has (Some (handlers.acted q x.message j rule action tries h p own))
acts_has has q x j rule actions.Discard tries h p own is k = k.discards q h x is.readable is.found
acts_has has q x j rule actions.Ignore tries h p own is k = k.none
acts_has has q x j rule actions.Retry tries h p own is k = moves has q x j rule tries h p own (handlers.retry_to x.message) true is k
acts_has has q x j rule (actions.Forward f) tries h p own is k = moves has q x j rule tries h p own (handlers.forward_to x.message f) (not f.header) is k

ruled_has : (has : List Part → Type 0) (q : List ℕ) (x : Row) (j : ℕ) (rule : Option Rule) (tries : ℕ) (h : Handler) (p : Plain) (own : Own) → IsNext q h x p → CallsHave has p → EachHas has (Some (handlers.ruled q x.message j rule tries h p own))
ruled_has has q x j None tries h p own is k = k.none
ruled_has has q x j (Some rule) tries h p own is k = acts_has has q x j rule rule.action tries h p own is k

force_has : (has : List Part → Type 0) (q : List ℕ) (x : Row) (rule : Option ℕ) (tries : ℕ) (h : Handler) (p : Plain) (own : Own) → IsNext q h x p → CallsHave has p → EachHas has (Some (handlers.in_force q x.message rule tries h p own))
force_has has q x None tries h p own is k = k.none
force_has has q x (Some j) tries h p own is k = ruled_has has q x j (slice_get h.table.rules j) tries h p own is k

handler_has : (has : List Part → Type 0) (o : Option Handler) (n : Node) → CallsHave has n.manager → EachHas has (handler_turn o n)
handler_has has None n k = tt
handler_has has (Some h) n k = on (handlers.is_readable (local_of (handlers.input_queue h.table n.manager) n.manager.definitions)) refl
  where
    row : handlers.is_readable (local_of (handlers.input_queue h.table n.manager) n.manager.definitions) ≡ true → (r : Option Row) → handlers.next_letter (handlers.input_queue h.table n.manager) h n.manager ≡ r
        → EachHas has (handlers.handler_row (handlers.input_queue h.table n.manager) h r n)
    row readable None e = tt
    row readable (Some x) e =
        let q : List ℕ = handlers.input_queue h.table n.manager in
        let t_of = handlers.tries_of q x.message.ident h in
        force_has has q x (handlers.rule_in_force h.table x.message t_of) (handlers.failed_of t_of) h n.manager n.own (record { readable = readable; found = e }) k

    on : (b : Bool) → handlers.is_readable (local_of (handlers.input_queue h.table n.manager) n.manager.definitions) ≡ b → EachHas has (handlers.handler_on b (handlers.input_queue h.table n.manager) h n)
    on false e = tt
    on true e = row e (handlers.next_letter (handlers.input_queue h.table n.manager) h n.manager) refl

turn_has : (has : List Part → Type 0) (stamp : ℕ) (actor : Actor) (seen : Seen) (n : Node) → IsTurnQuiet actor → CallsHave has n.manager → EachHas has (turn_up stamp actor seen n)
turn_has has stamp (actors.Sender cable) seen n o k = absurd o
turn_has has stamp (actors.Receiver cable) seen n o k = absurd o
turn_has has stamp (actors.Handler number) seen n o k = handler_has has (handler_in number n.own.handlers) n k
turn_has has stamp actor seen n o k = tt

-- ALL ORDINARY DEEDS
pub ordinary_has : (has : List Part → Type 0) (stamp : ℕ) (actor : Actor) (call : Call) (seen : Seen) (n : Node) → IsOrdinary actor call → CallsHave has n.manager → EachHas has (deed_of stamp actor call seen n)
ordinary_has has stamp actor (calls.Mqconn qmgr appl) seen n o k = mqi_has has (λ a. replies.Connected a) n.own (mqconn qmgr appl n.manager) (k.connects qmgr appl)
ordinary_has has stamp actor (calls.Mqdisc hc) seen n o k = ended_has has (λ a. replies.Ended a) n.own (mqdisc hc n.manager) (k.disconnects hc)
ordinary_has has stamp actor (calls.Mqopen hc name qmgr how) seen n o k = mqi_has has (λ a. replies.Opened a) n.own (mqopen hc name qmgr how n.manager) (k.opens hc name qmgr how)
ordinary_has has stamp actor (calls.Mqclose hc ho) seen n o k = ended_has has (λ a. replies.Ended a) n.own (mqclose hc ho n.manager) (k.closes hc ho)
ordinary_has has stamp actor (calls.Mqput hc ho md body sync) seen n o k = mqi_has has (λ a. replies.Put a) n.own (mqput hc ho md body sync n.manager) (k.puts hc ho md body sync)
ordinary_has has stamp actor (calls.Mqput1 hc name qmgr md body sync) seen n o k = mqi_has has (λ a. replies.Put a) n.own (mqput1 hc name qmgr md body sync n.manager) (k.puts_once hc name qmgr md body sync)
ordinary_has has stamp actor (calls.Mqget hc ho get until) seen n o k = get_has has n.own (mqget hc ho get until n.manager) (k.gets hc ho get until)
ordinary_has has stamp actor (calls.Mqcmit hc) seen n o k = ended_has has (λ a. replies.Ended a) n.own (mqcmit hc n.manager) (k.commits hc)
ordinary_has has stamp actor (calls.Mqback hc) seen n o k = ended_has has (λ a. replies.Ended a) n.own (mqback hc n.manager) (k.backs_out hc)
ordinary_has has stamp actor (calls.Act (acts.Obey c)) seen n o k = obeyed has c n o k
ordinary_has has stamp actor (calls.Act acts.Crash) seen n o k = tt
ordinary_has has stamp actor (calls.Act acts.Restart) seen n o k = tt
ordinary_has has stamp actor (calls.Act (acts.Cut count)) seen n o k = tt
ordinary_has has stamp actor (calls.Act (acts.Clock by_)) seen n o k = tt
ordinary_has has stamp actor calls.Turn seen n o k = up_has has n.manager.running (turn_up stamp actor seen n) (turn_has has stamp actor seen n o k)
ordinary_has has stamp actor calls.Timeout seen n o k = absurd o
ordinary_has has stamp actor calls.Trigger seen n o k = up_has has n.manager.running (trigger_deed_of (first_due (locals_of n.manager.definitions) n.manager) n) (trigger_has has (first_due (locals_of n.manager.definitions) n.manager) n k)
