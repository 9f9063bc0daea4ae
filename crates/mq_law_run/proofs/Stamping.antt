-- A frame that an entry offers has the entry's stamp.
use Rattle.std.proofs.Common.{ℕ, ◌≡◌, Bool, true, false, List, [], ◌∷◌, refl, sym, subst, inl, inr}
use Rattle.std.specs.Prelude.{Option, Some, None, if◌then◌else◌, slice_get}
use Rattle.std.specs.Option.{option_map}
use Rattle.mq_codes.specs.declared.reason.Reason.{Reason}
use Rattle.mq_sync.specs.declared.unit.Unit.{Unit as Luw}
use Rattle.mq_sync.specs.declared.unit.Settle.{Settle}
use Rattle.mq_sync.specs.declared.data.InDoubt.{InDoubt}
use Rattle.mq_frame.specs.declared.frame.Frame.{Frame}
use Rattle.mq_frame.specs.declared.frame.Seen.{Seen}
use Rattle.mq_message.specs.declared.message.Message.{Message}
use Rattle.mq_calls.specs.declared.agents.PrepareFault.{PrepareFault}
use Rattle.mq_calls.specs.declared.agents.SeizeFault.{SeizeFault}
use Rattle.mq_calls.specs.declared.choices.Choice.{Choice}
use Rattle.mq_calls.specs.declared.choices.Choice.TheVariants.{Runs, NoMemory, Stopped}
use Rattle.mq_calls.specs.declared.choices.Return.{Return}
use Rattle.mq_calls.specs.declared.choices.Return.TheVariants.{Comes, Fails}
use Rattle.mq_calls.specs.declared.commands.RestartFault.TheVariants as faults
use Rattle.mq_sc_parse.specs.declared.command.Command.TheVariants as lines
use Rattle.mq_sc_parse.specs.declared.command.Op.{Op}
use Rattle.mq_sc_parse.specs.declared.command.Op.TheVariants as ops
use Rattle.mq_history.specs.declared.acts.Act.TheVariants as acts
use Rattle.mq_history.specs.declared.acts.OpRefusal.{OpRefusal}
use Rattle.mq_history.specs.declared.calls.Actor.{Actor}
use Rattle.mq_history.specs.declared.calls.Actor.TheVariants as actors
use Rattle.mq_history.specs.declared.calls.Call.{Call}
use Rattle.mq_history.specs.declared.calls.Call.TheVariants as calls
use Rattle.mq_history.specs.declared.calls.Chance.{Chance}
use Rattle.mq_history.specs.declared.calls.Chance.TheVariants as chances
use Rattle.mq_history.specs.declared.calls.Entry.{Entry}
use Rattle.mq_history.specs.declared.history.History.{History}
use Rattle.mq_history.specs.declared.scenario.Scenario.{Scenario}
use Rattle.mq_sender.specs.declared.turns.SenderDoes.{SenderDoes}
use Rattle.mq_sender.specs.declared.turns.SenderDoes.TheVariants as sends
use Rattle.mq_receiver.specs.declared.state.Owed.{Owed}
use Rattle.mq_receiver.specs.declared.state.Owed.TheVariants as owed
use Rattle.mq_receiver.specs.declared.turns.ReceiverDoes.{ReceiverDoes}
use Rattle.mq_receiver.specs.declared.turns.ReceiverDoes.TheVariants as takes
use Rattle.mq_receiver.specs.States.{owed_frame}
use Rattle.mq_calls.specs.State.{Running}
use Rattle.mq_calls.specs.State.Running.{Up, Down}
use Rattle.mq_calls.specs.Steps.{Step}
use Rattle.mq_calls.specs.Steps.Step.{Refuse, Do}
use Rattle.mq_spec_manager.specs.Stops.{restart_at}
use Rattle.mq_spec_node.specs.Node.{ChannelEnd, Node, Own, ReceiverEnd, SenderEnd, receiver_end, sender_end, sender_named}
use Rattle.mq_spec_node.specs.Node.ChannelEnd.{Sends, Receives}
use Rattle.mq_spec_node.specs.Deeds.{Deed, Done, done}
use Rattle.mq_spec_node.specs.Senders.{carried, prepare_deed, sender_deed_by, after_timeout}
use Rattle.mq_spec_node.specs.Receivers.{place_deed, receiver_deed_by}
use Rattle.mq_spec_node.specs.Operators.{end_here, operate, operate_up, refused_or, reset_end, resolve_doubt, resolve_end, start_end, start_seized, stop_end}
use Rattle.mq_spec_node.specs.Calls.{receiver_turn, sender_turn, timeout_by, timeout_of, turn_up, where_up}
use Rattle.mq_spec_node.specs.Happens.{IsEvent, choice_event, event, restarted as node_restarted}
use Rattle.mq_spec_node.specs.Replays.{Follows, IsOwn, NoneForeign, done_by, opening_node}
use Rattle.mq_spec_network.specs.Given.{surroundings}
use Rattle.mq_spec_network.specs.Promised.{Premises}
use Rattle.mq_spec_network.specs.Story.{Mem, entries_at, entries_or}
use Rattle.mq_law_one.specs.Alone.{IsOwnCall}
use Rattle.mq_law_run.proofs.Halves.{deed_quiet, own_elim}

-- a frame has this stamp, if it is one
abbrev Stamps : ℕ → Option Frame → Type 0
Stamps stamp None = Unit {0}
Stamps stamp (Some f) = stamp ≡ f.stamp

abbrev EachStamps : ℕ → Option Deed → Type 0
EachStamps stamp None = Unit {0}
EachStamps stamp (Some d) = Stamps stamp d.pushed

none_stamps : (stamp : ℕ) (o : Option Frame) → o ≡ None → Stamps stamp o
none_stamps stamp o e = subst (Stamps stamp) (sym e) tt

done_stamps : (stamp : ℕ) (choice : Choice) (d : Deed) (n : Node) → Stamps stamp d.pushed → Stamps stamp (done d choice n).pushed
done_stamps stamp Runs d n h = h
done_stamps stamp NoMemory d n h = tt
done_stamps stamp (Stopped by_ part left) d n h = tt

chosen_stamps : (stamp : ℕ) (chance : Chance) (o : Option Deed) (n : Node) → EachStamps stamp o → Stamps stamp (choice_event chance o n).pushed
chosen_stamps stamp (chances.Call choice) None n h = tt
chosen_stamps stamp (chances.Call choice) (Some d) n h = done_stamps stamp choice d n h
chosen_stamps stamp (chances.Restart choice) o n h = tt
chosen_stamps stamp (chances.Foreign image length left) o n h = tt

-- TURNS OF ENDS
message_stamps : (stamp : ℕ) (e : SenderEnd) (k index : ℕ) (o : Option Message) → Stamps stamp (option_map (carried stamp e k index) o)
message_stamps stamp e k index None = tt
message_stamps stamp e k index (Some m) = refl

prepare_stamps : (stamp : ℕ) (e : SenderEnd) (step : Step PrepareFault (Unit {0})) (n : Node) → Stamps stamp (prepare_deed e step n).pushed
prepare_stamps stamp e (Refuse fault) n = tt
prepare_stamps stamp e (Do reply parts) n = tt

sender_stamps : (stamp : ℕ) (e : SenderEnd) (does : SenderDoes) (n : Node) → EachStamps stamp (sender_deed_by stamp e does n)
sender_stamps stamp e sends.Still n = tt
sender_stamps stamp e sends.Ignore n = tt
sender_stamps stamp e (sends.HardenSession session) n = tt
sender_stamps stamp e sends.PushBind n = refl
sender_stamps stamp e sends.Expire n = tt
sender_stamps stamp e (sends.Begin k count) n = message_stamps stamp e k 1 _
sender_stamps stamp e (sends.PushMsg index) n = message_stamps stamp e e.machine.begun index _
sender_stamps stamp e sends.Prepare n = prepare_stamps stamp e _ n
sender_stamps stamp e sends.PushEnd n = refl
sender_stamps stamp e (sends.Bound settle partner) n = tt
sender_stamps stamp e sends.Commit n = tt
sender_stamps stamp e (sends.Backout reason) n = tt

owed_stamps : (stamp : ℕ) (o : Option Owed) → Stamps stamp (option_map (owed_frame stamp) o)
owed_stamps stamp None = tt
owed_stamps stamp (Some (owed.Status session unit last)) = refl
owed_stamps stamp (Some (owed.Ack unit)) = refl
owed_stamps stamp (Some (owed.Err unit reason)) = refl

place_stamps : (stamp : ℕ) (e : ReceiverEnd) (unit : Luw) (seen : Seen) (step : Step Reason (Unit {0})) (n : Node) → Stamps stamp (place_deed e unit seen step n).pushed
place_stamps stamp e unit seen (Refuse reason) n = tt
place_stamps stamp e unit seen (Do reply parts) n = tt

receiver_stamps : (stamp : ℕ) (e : ReceiverEnd) (seen : Seen) (does : ReceiverDoes) (n : Node) → EachStamps stamp (receiver_deed_by stamp e seen does n)
receiver_stamps stamp e seen takes.Still n = tt
receiver_stamps stamp e seen takes.Ignore n = tt
receiver_stamps stamp e seen takes.PushOwed n = owed_stamps stamp e.machine.owes
receiver_stamps stamp e seen takes.Bind n = tt
receiver_stamps stamp e seen takes.Keep n = tt
receiver_stamps stamp e seen (takes.Place unit) n = place_stamps stamp e unit seen _ n
receiver_stamps stamp e seen takes.Again n = tt
receiver_stamps stamp e seen takes.Close n = tt

sending_stamps : (stamp : ℕ) (o : Option SenderEnd) (seen : Seen) (n : Node) → EachStamps stamp (sender_turn stamp o seen n)
sending_stamps stamp None seen n = tt
sending_stamps stamp (Some e) seen n = sender_stamps stamp e _ n

receiving_stamps : (stamp : ℕ) (o : Option ReceiverEnd) (seen : Seen) (n : Node) → EachStamps stamp (receiver_turn stamp o seen n)
receiving_stamps stamp None seen n = tt
receiving_stamps stamp (Some e) seen n = receiver_stamps stamp e seen _ n

if_stamps : (stamp : ℕ) (t : Bool) (d : Deed) → Stamps stamp d.pushed → EachStamps stamp (if t then Some d else None)
if_stamps stamp true d h = h
if_stamps stamp false d h = tt

waited_stamps : (stamp : ℕ) (o : Option SenderEnd) (n : Node) → EachStamps stamp (timeout_of o n)
waited_stamps stamp None n = tt
waited_stamps stamp (Some e) n = if_stamps stamp _ (after_timeout e _ n) tt

timeout_stamps : (stamp : ℕ) (actor : Actor) (n : Node) → EachStamps stamp (timeout_by actor n)
timeout_stamps stamp (actors.Script k) n = tt
timeout_stamps stamp (actors.Sender k) n = waited_stamps stamp (sender_end k n.own) n
timeout_stamps stamp (actors.Receiver k) n = tt
timeout_stamps stamp (actors.Handler k) n = tt
timeout_stamps stamp (actors.Monitor k) n = tt
timeout_stamps stamp actors.Operator n = tt
timeout_stamps stamp actors.Clock n = tt

up_stamps : (stamp : ℕ) (r : Running) (o : Option Deed) → EachStamps stamp o → EachStamps stamp (where_up r o)
up_stamps stamp Up o h = h
up_stamps stamp (Down noted starts) o h = tt

-- COMMANDS ON ENDS offer nothing
refused_silent : (o : Option OpRefusal) (own : Own) (d : Deed) → d.pushed ≡ None → (refused_or o own d).pushed ≡ None
refused_silent None own d e = e
refused_silent (Some reason) own d e = refl

seized_silent : (e : SenderEnd) (step : Step SeizeFault (Unit {0})) (n : Node) → (start_seized e step n).pushed ≡ None
seized_silent e (Refuse fault) n = refl
seized_silent e (Do reply parts) n = refl

start_silent : (o : Option ChannelEnd) (n : Node) → (start_end o n).pushed ≡ None
start_silent None n = refl
start_silent (Some (Sends e)) n = refused_silent _ n.own _ (seized_silent e _ n)
start_silent (Some (Receives e)) n = refused_silent _ n.own _ refl

stop_silent : (o : Option ChannelEnd) (n : Node) → (stop_end o n).pushed ≡ None
stop_silent None n = refl
stop_silent (Some (Sends e)) n = refl
stop_silent (Some (Receives e)) n = refl

reset_silent : (seqnum : ℕ) (o : Option ChannelEnd) (n : Node) → (reset_end seqnum o n).pushed ≡ None
reset_silent seqnum None n = refl
reset_silent seqnum (Some (Sends e)) n = refused_silent _ n.own _ refl
reset_silent seqnum (Some (Receives e)) n = refused_silent _ n.own _ refl

doubt_silent : (e : SenderEnd) (settle : Settle) (o : Option InDoubt) (n : Node) → (resolve_doubt e settle o n).pushed ≡ None
doubt_silent e settle None n = refl
doubt_silent e settle (Some d) n = refused_silent _ n.own _ refl

resolve_silent : (settle : Settle) (o : Option SenderEnd) (n : Node) → (resolve_end settle o n).pushed ≡ None
resolve_silent settle None n = refl
resolve_silent settle (Some e) n = doubt_silent e settle _ n

commands_silent : (op : Op) (n : Node) → (operate_up op n).pushed ≡ None
commands_silent (ops.Start name) n = start_silent (end_here name n) n
commands_silent (ops.Stop name) n = stop_silent (end_here name n) n
commands_silent (ops.Reset name seqnum) n = reset_silent seqnum (end_here name n) n
commands_silent (ops.Resolve name settle) n = resolve_silent settle (sender_named name n.own.ends) n

operate_stamps : (stamp : ℕ) (op : Op) (n : Node) → Stamps stamp (operate op n).pushed
operate_stamps stamp op n = none_stamps stamp (operate op n).pushed (refused_silent _ n.own (operate_up op n) (commands_silent op n))

-- RESTARTS
return_stamps : (stamp : ℕ) (r : Running) (choice : Return) (n : Node) → Stamps stamp (node_restarted (restart_at r choice n.manager) n).pushed
return_stamps stamp Up choice n = tt
return_stamps stamp (Down noted starts) (Comes kept started) n = tt
return_stamps stamp (Down noted starts) (Fails faults.NoMemory in_write left) n = tt
return_stamps stamp (Down noted starts) (Fails faults.Up true left) n = tt
return_stamps stamp (Down noted starts) (Fails faults.Up false left) n = tt
return_stamps stamp (Down noted starts) (Fails faults.Disk true left) n = tt
return_stamps stamp (Down noted starts) (Fails faults.Disk false left) n = tt
return_stamps stamp (Down noted starts) (Fails faults.Cut true left) n = tt
return_stamps stamp (Down noted starts) (Fails faults.Cut false left) n = tt
return_stamps stamp (Down noted starts) (Fails (faults.BadLog place) true left) n = tt
return_stamps stamp (Down noted starts) (Fails (faults.BadLog place) false left) n = tt

-- EACH EVENT
own_stamps : (stamp : ℕ) (actor : Actor) (call : Call) (chance : Chance) (seen : Seen) (n : Node) → IsOwnCall actor call → IsEvent stamp actor call chance seen n → IsOwn chance → Stamps stamp (event stamp actor call chance seen n).pushed
own_stamps stamp actor call chance seen n is e own = own_elim (λ (d : Done). Stamps stamp d.pushed) stamp actor call chance seen n is e own
    (λ o choice d f g can. done_stamps stamp choice d n (none_stamps stamp d.pushed (deed_quiet stamp actor call seen n d o f).pushed)) (λ k f g. tt) (λ by f g. tt)

event_stamps : (stamp : ℕ) (actor : Actor) (call : Call) (chance : Chance) (seen : Seen) (n : Node) → IsEvent stamp actor call chance seen n → IsOwn chance → Stamps stamp (event stamp actor call chance seen n).pushed
event_stamps stamp actor (calls.Act (acts.Obey (lines.Operate op))) chance seen n can own = chosen_stamps stamp chance (Some (operate op n)) n (operate_stamps stamp op n)
event_stamps stamp actor (calls.Act acts.Crash) chance seen n can own = tt
event_stamps stamp actor (calls.Act acts.Restart) (chances.Call choice) seen n can own = tt
event_stamps stamp actor (calls.Act acts.Restart) (chances.Restart choice) seen n can own = return_stamps stamp n.manager.running choice n
event_stamps stamp actor (calls.Act acts.Restart) (chances.Foreign image length left) seen n can own = tt
event_stamps stamp (actors.Sender k) calls.Turn chance seen n can own = chosen_stamps stamp chance (where_up n.manager.running (turn_up stamp (actors.Sender k) seen n)) n (up_stamps stamp n.manager.running _ (sending_stamps stamp (sender_end k n.own) seen n))
event_stamps stamp (actors.Receiver k) calls.Turn chance seen n can own = chosen_stamps stamp chance (where_up n.manager.running (turn_up stamp (actors.Receiver k) seen n)) n (up_stamps stamp n.manager.running _ (receiving_stamps stamp (receiver_end k n.own) seen n))
event_stamps stamp actor calls.Timeout chance seen n can own = chosen_stamps stamp chance (where_up n.manager.running (timeout_by actor n)) n (up_stamps stamp n.manager.running (timeout_by actor n) (timeout_stamps stamp actor n))
event_stamps stamp actor (calls.Act (acts.Cut k)) chance seen n can own = tt
event_stamps stamp actor (calls.Act (acts.Clock by_)) chance seen n can own = tt
event_stamps stamp actor call chance seen n can own = own_stamps stamp actor call chance seen n tt can own

-- EACH ENTRY of a history that replays
entries_stamp : (n : Node) (last : ℕ) (es : List Entry) (o : Entry) → Follows n last es → NoneForeign es → Mem o es → Stamps o.stamp o.effect.pushed
entries_stamp n last [] o follows none there = absurd there
entries_stamp n last (x ∷ es) o follows none (inl e) =
    subst (λ (y : Entry). Stamps y.stamp y.effect.pushed) (sym e) (subst (Stamps x.stamp) (sym follows.0.pushed) (event_stamps x.stamp x.actor x.call x.chance x.effect.popped n follows.0.event none.0))
entries_stamp n last (x ∷ es) o follows none (inr there) = entries_stamp (done_by x n).next x.stamp es o follows.1 none.1 there

pub offers_have_stamps : (s : Scenario) (hs : List History) → Premises s hs → (m : ℕ) (o : Entry) (f : Frame) → Mem o (entries_at hs m) → o.effect.pushed ≡ Some f → o.stamp ≡ f.stamp
offers_have_stamps s hs premises m o f there pushed = subst (Stamps o.stamp) pushed (go (slice_get hs m) refl)
  where
    go : (v : Option History) → slice_get hs m ≡ v → Stamps o.stamp o.effect.pushed
    go None e = absurd (subst (λ v. Mem o (entries_or v)) e there)
    go (Some h) e = entries_stamp (opening_node (surroundings s m) h) 0 h.entries o (premises.lawful.histories m h e).replays.follows (premises.own m h e) (subst (λ v. Mem o (entries_or v)) e there)
