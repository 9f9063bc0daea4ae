-- START, STOP and RESET by the end that is found.
use Rattle.std.proofs.Common.{◌≡◌, ℕ, sym, ap, subst, ◌∙◌, List, []}
use Rattle.std.specs.Prelude.{Option, Some, None, Result, Ok}
use Rattle.mq_base.specs.declared.want.NoMemory.{NoMemory as Want}
use Rattle.mq_calls.specs.declared.choices.Choice.TheVariants.{Runs}
use Rattle.mq_history.specs.declared.acts.OpRefusal.TheVariants as reasons
use Rattle.mq_objects.specs.Names.{channel_of}
use Rattle.mq_sender.specs.declared.state.Limits.{Limits}
use Rattle.mq_spec_manager.specs.Agents.{IsSenderHere}
use Rattle.mq_spec_node.specs.Words.{ChannelEnd, ReceiverEnd, SenderEnd, end_here, limits_here, limits_of, reset_end, start_end, stop_end}
use Rattle.mq_spec_node.specs.Node.ChannelEnd.{Sends, Receives}
use Rattle.mq_turn_parts.specs.from_events.States.{NodeState, node_in}
use Rattle.mq_operate.specs.declared.working.Worked.{Worked}
use Rattle.mq_operate.specs.declared.places.Seat.{Seat}
use Rattle.mq_operate.specs.Places.{IsSeat, ReceivesHere, SendsHere}
use Rattle.mq_operate.specs.Works.{Works}
use Rattle.mq_operate.proofs.SenderLaws.{refuses_so}

-- there is none
pub start_absent : (channel : List ℕ) (w : Worked) (s : NodeState) → end_here channel (node_in s) ≡ None → w.refusal ≡ Some reasons.NotFound → w.told.choice ≡ Runs → w.told.delta ≡ [] → Works (start_end (end_here channel (node_in s)) (node_in s)) s (Ok w) s
start_absent channel w s e r c d = refuses_so reasons.NotFound w s (start_end (end_here channel (node_in s)) (node_in s)) r c d (ap (λ (x : Option ChannelEnd). start_end x (node_in s)) e)

pub stop_absent : (channel : List ℕ) (w : Worked) (s : NodeState) → end_here channel (node_in s) ≡ None → w.refusal ≡ Some reasons.NotFound → w.told.choice ≡ Runs → w.told.delta ≡ [] → Works (stop_end (end_here channel (node_in s)) (node_in s)) s (Ok w) s
stop_absent channel w s e r c d = refuses_so reasons.NotFound w s (stop_end (end_here channel (node_in s)) (node_in s)) r c d (ap (λ (x : Option ChannelEnd). stop_end x (node_in s)) e)

pub reset_absent : (channel : List ℕ) (number : ℕ) (w : Worked) (s : NodeState) → end_here channel (node_in s) ≡ None → w.refusal ≡ Some reasons.NotFound → w.told.choice ≡ Runs → w.told.delta ≡ [] → Works (reset_end number (end_here channel (node_in s)) (node_in s)) s (Ok w) s
reset_absent channel number w s e r c d = refuses_so reasons.NotFound w s (reset_end number (end_here channel (node_in s)) (node_in s)) r c d (ap (λ (x : Option ChannelEnd). reset_end number x (node_in s)) e)

-- a sender's
pub start_there : (channel : List ℕ) (e : SenderEnd) (result : Result Worked Want) (s a : NodeState) → SendsHere channel e (node_in s) → Works (start_end (Some (Sends e)) (node_in s)) s result a → Works (start_end (end_here channel (node_in s)) (node_in s)) s result a
start_there channel e result s a h k = subst (λ (x : Option ChannelEnd). Works (start_end x (node_in s)) s result a) (sym h.here) k

pub stop_there : (channel : List ℕ) (e : SenderEnd) (result : Result Worked Want) (s a : NodeState) → SendsHere channel e (node_in s) → Works (stop_end (Some (Sends e)) (node_in s)) s result a → Works (stop_end (end_here channel (node_in s)) (node_in s)) s result a
stop_there channel e result s a h k = subst (λ (x : Option ChannelEnd). Works (stop_end x (node_in s)) s result a) (sym h.here) k

pub reset_there : (channel : List ℕ) (number : ℕ) (e : SenderEnd) (result : Result Worked Want) (s a : NodeState) → SendsHere channel e (node_in s) → Works (reset_end number (Some (Sends e)) (node_in s)) s result a → Works (reset_end number (end_here channel (node_in s)) (node_in s)) s result a
reset_there channel number e result s a h k = subst (λ (x : Option ChannelEnd). Works (reset_end number x (node_in s)) s result a) (sym h.here) k

pub defined_so : (channel : List ℕ) (e : SenderEnd) (s : NodeState) → SendsHere channel e (node_in s) → IsSenderHere e.channel s.manager.plain
defined_so channel e s h = h.defined

pub limits_so : (channel : List ℕ) (e : SenderEnd) (limits : Limits) (s : NodeState) → SendsHere channel e (node_in s) → limits ≡ limits_of (channel_of channel s.manager.plain.definitions) → limits ≡ limits_here e.channel (node_in s)
limits_so channel e limits s h l = l ∙ ap (λ (c : List ℕ). limits_of (channel_of c s.manager.plain.definitions)) h.named

-- a receiver's
pub start_seat : (channel : List ℕ) (seat : Seat) (result : Result Worked Want) (s a : NodeState) → (e : ReceiverEnd) × ReceivesHere channel seat e (node_in s) → ((e : ReceiverEnd) → IsSeat seat e s.own → Works (start_end (Some (Receives e)) (node_in s)) s result a)
    → Works (start_end (end_here channel (node_in s)) (node_in s)) s result a
start_seat channel seat result s a (e, h) k = subst (λ (x : Option ChannelEnd). Works (start_end x (node_in s)) s result a) (sym h.here) (k e h.stands)

pub stop_seat : (channel : List ℕ) (seat : Seat) (result : Result Worked Want) (s a : NodeState) → (e : ReceiverEnd) × ReceivesHere channel seat e (node_in s) → ((e : ReceiverEnd) → IsSeat seat e s.own → Works (stop_end (Some (Receives e)) (node_in s)) s result a)
    → Works (stop_end (end_here channel (node_in s)) (node_in s)) s result a
stop_seat channel seat result s a (e, h) k = subst (λ (x : Option ChannelEnd). Works (stop_end x (node_in s)) s result a) (sym h.here) (k e h.stands)

pub reset_seat : (channel : List ℕ) (number : ℕ) (seat : Seat) (result : Result Worked Want) (s a : NodeState) → (e : ReceiverEnd) × ReceivesHere channel seat e (node_in s) → ((e : ReceiverEnd) → IsSeat seat e s.own → Works (reset_end number (Some (Receives e)) (node_in s)) s result a)
    → Works (reset_end number (end_here channel (node_in s)) (node_in s)) s result a
reset_seat channel number seat result s a (e, h) k = subst (λ (x : Option ChannelEnd). Works (reset_end number x (node_in s)) s result a) (sym h.here) (k e h.stands)

pub seat_limits : (channel : List ℕ) (seat : Seat) (limits : Limits) (s : NodeState) → (e : ReceiverEnd) × ReceivesHere channel seat e (node_in s) → limits ≡ limits_of (channel_of channel s.manager.plain.definitions) → limits ≡ limits_here seat.channel (node_in s)
seat_limits channel seat limits s (e, h) l =
    l ∙ ap (λ (c : List ℕ). limits_of (channel_of c s.manager.plain.definitions)) h.named ∙ ap (λ (x : Seat). limits_of (channel_of x.channel s.manager.plain.definitions)) (sym h.stands.is)
