-- A sender's turn that prepares its batch.
use Rattle.std.proofs.Common.{◌≡◌, ℕ, ◌+◌, max, refl, sym, ap, subst, ◌∙◌, List, [], ◌∷◌, ◌++◌, arith}
use Rattle.std.specs.Prelude.{IsSome, Option, Some, None, Result, Ok, Err}
use Rattle.mq_base.specs.declared.want.NoMemory.{NoMemory as Want}
use Rattle.mq_calls.specs.declared.agents.PrepareFault.TheVariants as prepare_faults
use Rattle.mq_calls.specs.declared.choices.Choice.{Choice}
use Rattle.mq_calls.specs.declared.choices.Choice.TheVariants.{Runs, NoMemory, Stopped}
use Rattle.mq_calls.specs.declared.commands.Halt.{Halt}
use Rattle.mq_calls.specs.declared.commands.Halt.TheVariants as halts
use Rattle.mq_calls.specs.declared.deltas.Did.TheVariants as did
use Rattle.mq_calls.specs.declared.state.Batch.{Batch}
use Rattle.mq_cable.specs.declared.item.Item.{Item}
use Rattle.mq_cable.specs.Offers.{Offering}
use Rattle.mq_disk.specs.declared.cutter.Stop.{Stop}
use Rattle.mq_frame.specs.declared.frame.Seen.TheVariants as items
use Rattle.mq_history.specs.declared.calls.Actor.TheVariants as actors
use Rattle.mq_history.specs.declared.calls.Call.TheVariants as calls
use Rattle.mq_sender.specs.Table.{sender_next}
use Rattle.mq_sender.specs.declared.turns.SenderDoes.TheVariants as lines
use Rattle.mq_sender.specs.declared.turns.SenderOut.{SenderOut}
use Rattle.mq_sender.specs.declared.turns.SenderOut.TheVariants as outs
use Rattle.mq_calls.specs.Meeting.{ManagerValue, MeetsAs}
use Rattle.mq_calls.specs.Meeting.Wants.{Anywhere}
use Rattle.mq_calls.specs.Reads.{batch_of}
use Rattle.mq_calls.specs.Steps.{Possible, Test, when}
use Rattle.mq_calls.specs.Words.{is_full, need, sender_data, sender_or}
use Rattle.mq_spec_manager.specs.Agents.{HasBatch, IsUp, prepare, prepare_of, prepared_changes, prepared_record, stock}
use Rattle.mq_spec_node.specs.Terms.{Did, Message, Part, Plain, PrepareFault, Step, Refuse, Do}
use Rattle.mq_spec_node.specs.Words.{Deed, Node, SenderEnd, parts_of, prepare_deed, turned, with_end}
use Rattle.mq_spec_node.specs.Node.ChannelEnd.{Sends}
use Rattle.mq_core.specs.Values.{CoreValue, manager_of}
use Rattle.mq_turn_parts.specs.from_events.{Told}
use Rattle.mq_turn_parts.specs.from_events.States.{NodeState, node_in}
use Rattle.mq_law_manager.proofs.ShortSteps.{StepIsShort, tested_all}
use Rattle.mq_turn_parts.specs.declared.telling.Turn.{Turn}
use Rattle.mq_turn_parts.specs.declared.telling.Turn.TheVariants as turns
use Rattle.mq_turn_parts.specs.Turns.{IsAsWas, IsBehind, Made, delta_by, plain_by}
use Rattle.mq_turn_parts.specs.Told.{Closes}
use Rattle.mq_turn_parts.specs.Acting.{Acts, SendsTurn}
use Rattle.mq_turns.specs.Prepares.{IsDone, IsRefused, Prepared, Tries, full_parts, step_of, tried_end}
use Rattle.mq_turn_parts.proofs.AgentLaws.{agent_ran, agent_stopped}
use Rattle.mq_turn_parts.proofs.from_events.CallLaws.{where_wider}
use Rattle.mq_turn_parts.proofs.PartLaws.{le_self, behind_if, behind_none, made_behind, want_made}
use Rattle.mq_turns.proofs.SendLaws.{turn_is}
use Rattle.mq_turns.proofs.SettleLaws.{turned_so}
use Rattle.mq_turn_parts.proofs.WireLaws.{sends_widened}

-- What the manager's call comes to.
abbrev Meets : Step PrepareFault (Unit {0}) → Result (Unit {0}) (Halt PrepareFault) → CoreValue → CoreValue → Type 0
Meets step r old mid = MeetsAs Anywhere (manager_of old) step r (manager_of mid)

meets_by : (step : Step PrepareFault (Unit {0})) (a b : Halt PrepareFault) (old mid : CoreValue) → a ≡ b → Meets step (Err a) old mid → Meets step (Err b) old mid
meets_by step a b old mid is m = subst (λ (h : Halt PrepareFault). Meets step (Err h) old mid) is m

ran_done : (step : Step PrepareFault (Unit {0})) (old mid : CoreValue) → Meets step (Ok tt) old mid → IsDone step
ran_done (Refuse fault) old mid m = absurd m
ran_done (Do reply parts) old mid m = tt

pub prepare_ran : (step : Step PrepareFault (Unit {0})) (t : Told) (old mid new : CoreValue) → Meets step (Ok tt) old mid → t.choice ≡ Runs → t.delta ≡ mid.delta → new ≡ record mid { delta = [] } → Prepared step (Ok (Some t)) old new
prepare_ran step t old mid new m c d e = (ran_done step old mid m, agent_ran step tt t old mid new m c d e)

full_as : (step : Step PrepareFault (Unit {0})) (old new : CoreValue) → Meets step (Err (halts.Refused prepare_faults.NoRoom)) old new → Prepared step (Ok None) old new
full_as (Refuse fault) old new m = (tt, record { plain = ap (λ (v : ManagerValue). v.plain) m.1; later = omega (arith, ap (λ (v : ManagerValue). v.faults) m.1) })
full_as (Do reply parts) old new m = absurd m

pub prepare_full : (step : Step PrepareFault (Unit {0})) (h : Halt PrepareFault) (old new : CoreValue) → h ≡ halts.Refused prepare_faults.NoRoom → Meets step (Err h) old new → Prepared step (Ok None) old new
prepare_full step h old new is m = full_as step old new (meets_by step h (halts.Refused prepare_faults.NoRoom) old new is m)

pub prepare_wants : (step : Step PrepareFault (Unit {0})) (h : Halt PrepareFault) (x : Want) (old new : CoreValue) → h ≡ halts.NoMemory → Meets step (Err h) old new → Prepared step (Err x) old new
prepare_wants step h x old new is m = want_made step old new (meets_by step h halts.NoMemory old new is m)

stopped_done : (step : Step PrepareFault (Unit {0})) (by : Stop) (old mid : CoreValue) → Meets step (Err (halts.Stopped by)) old mid → IsDone step
stopped_done (Refuse fault) by old mid m = absurd m
stopped_done (Do reply parts) by old mid m = tt

pub prepare_stopped : (step : Step PrepareFault (Unit {0})) (h : Halt PrepareFault) (by : Stop) (t : Told) (old mid new : CoreValue) → StepIsShort step → h ≡ halts.Stopped by → Meets step (Err h) old mid → t.choice ≡ Stopped by 0 mid.plain.log.armed → t.delta ≡ mid.delta
    → new ≡ record mid { delta = [] } → Prepared step (Ok (Some t)) old new
prepare_stopped step h by t old mid new short is m c d e =
    let k = meets_by step h (halts.Stopped by) old mid is m in
    (stopped_done step by old mid k, agent_stopped step by t old mid new short k c d e)

-- it is one part at most
short_of : (channel : List ℕ) (last : ℕ) (o : Option Batch) (p : Plain) → StepIsShort (prepare_of channel last o p)
short_of channel last None p = tt
short_of channel last (Some b) p =
    let ts : List (Test PrepareFault) = when (is_full (need (prepared_record channel last b)) p) prepare_faults.NoRoom ∷ [] in
    let parts : List Part = record { forced = Some (prepared_record channel last b); changes = prepared_changes channel last b (sender_or (sender_data channel p)); delta = did.Prepared channel b.unit ∷ [] } ∷ [] in
    tested_all {F = PrepareFault} {T = Unit {0}} StepIsShort (λ r. tt) ts (Do tt parts) tt

pub prepare_short : (channel : List ℕ) (last : ℕ) (p : Plain) → StepIsShort (prepare channel last p)
prepare_short channel last p = short_of channel last (batch_of channel p.channels.batches) p

-- A manager that is as it was: what is done there is done as from before.
pub still_up : (old mid : CoreValue) → IsAsWas old mid → IsUp old.plain → IsUp mid.plain
still_up old mid w up = subst IsUp (sym w.plain) up

refused_batch : (channel : List ℕ) (last : ℕ) (o : Option Batch) (p : Plain) → IsRefused (prepare_of channel last o p) → IsSome o
refused_batch channel last None p r = absurd r
refused_batch channel last (Some b) p r = refl

pub still_held : (channel : List ℕ) (last : ℕ) (old mid : CoreValue) → IsRefused (prepare channel last old.plain) → IsAsWas old mid → HasBatch channel mid.plain
still_held channel last old mid r w = subst (λ (p : Plain). HasBatch channel p) (sym w.plain) (refused_batch channel last (batch_of channel old.plain.channels.batches) old.plain r)

pub as_made : (ps : Plain → List Part) (choice : Choice) (delta : List Did) (old mid new : CoreValue) → IsAsWas old mid → Made (ps mid.plain) choice delta mid new → Made (ps old.plain) choice delta old new
as_made ps choice delta old mid new w m = record {
  made = m.made;
  can = subst (λ (p : Plain). Possible choice (ps p) p.log.armed) w.plain m.can;
  told = m.told ∙ ap (λ (p : Plain). delta_by choice (ps p)) w.plain;
  plain = m.plain ∙ ap (λ (p : Plain). plain_by choice (ps p) p) w.plain;
  later = omega (arith, w.later, m.later);
  rose = where_wider choice old.faults mid.faults new.faults new.faults w.later m.rose (le_self new.faults);
}

pub as_twice : (old mid new : CoreValue) → IsAsWas old mid → IsAsWas mid new → IsAsWas old new
as_twice old mid new a b = record { plain = b.plain ∙ a.plain; later = omega (arith, a.later, b.later) }

pub tried_full : (channel : List ℕ) (step : Step PrepareFault (Unit {0})) (choice : Choice) (delta : List Did) (old mid new : CoreValue) → IsRefused step × IsAsWas old mid → Made (full_parts channel mid.plain) choice delta mid new → Tries outs.NoRoom channel step choice delta old new
tried_full channel step choice delta old mid new k m = (k.0, as_made (full_parts channel) choice delta old mid new k.1 m)

-- The deed.
done_is : (e : SenderEnd) (step : Step PrepareFault (Unit {0})) (n : Node) → IsDone step → prepare_deed e step n ≡ turned (parts_of step ++ []) None (with_end (Sends (tried_end e outs.Done)) n.own)
done_is e (Refuse fault) n d = absurd d
done_is e (Do reply parts) n d = refl

full_is : (e : SenderEnd) (step : Step PrepareFault (Unit {0})) (n : Node) → IsRefused step → prepare_deed e step n ≡ turned (full_parts e.channel n.manager) None (with_end (Sends (tried_end e outs.NoRoom)) n.own)
full_is e (Refuse fault) n d = refl
full_is e (Do reply parts) n d = absurd d

behind_nothing : (choice : Choice) (v : CoreValue) → IsBehind (behind_if choice []) v v
behind_nothing Runs v = behind_none v
behind_nothing NoMemory v = behind_none v
behind_nothing (Stopped by n left) v = behind_none v

made_alone : (ps : List Part) (choice : Choice) (delta : List Did) (old new : CoreValue) → Made ps choice delta old new → Made (ps ++ []) choice delta old new
made_alone ps choice delta old new m = made_behind ps [] choice delta old new new tt m (behind_nothing choice new)

next_stamp : (n : ℕ) → n + 1 ≡ max n 0 + 1
next_stamp n = omega arith

-- A turn in which nothing passes on its wire is one over every wire on which nothing passes.
abbrev pub NoItems : List Item → Type 0
NoItems xs = xs ≡ []

only : (P : List Item → Type 0) → P [] → (xs : List Item) → NoItems xs → P xs
only P p xs e = subst P (sym e) p

pub passes_none : (cable : ℕ) (reads writes : List Item → Type 0) (none full : Type 0) (o : Offering) (old : NodeState) (result : Result Turn Want) (new : NodeState) → reads [] → writes [] → none → SendsTurn cable NoItems NoItems (Unit {0}) ⊥ o o old result new → SendsTurn cable reads writes none full o o old result new
passes_none cable reads writes none full o old result new read written n t =
    sends_widened NoItems NoItems reads writes (Unit {0}) ⊥ none full (only reads read) (only writes written) (λ r x. n) (λ x. absurd x) cable o o old result new t

-- The turn, by the parts that its deed has.
module _ (s a t : NodeState) (e after : SenderEnd) (out : SenderOut) (stamp : ℕ) (received : List Message) (choice : Choice) (delta : List Did) (o : Offering) (is : after ≡ tried_end e out) (st : stamp ≡ s.stamp + 1) (rs : received ≡ []) (acts : Acts e s)
    (next : lines.Prepare ≡ sender_next e.machine items.Nothing (stock e.channel s.manager.plain)) (g : a ≡ record s { manager = a.manager })
    (z : Closes (actors.Sender e.cable) calls.Turn choice delta (with_end (Sends after) a.own) (record { stamp = stamp; pushed = None; extras = 0; popped = items.Nothing }) received a t) where
  prepared_by : (parts : List Part) → prepare_deed e (step_of e s.manager.plain) (node_in s) ≡ turned parts None (with_end (Sends (tried_end e out)) s.own) → Made parts choice delta s.manager a.manager → SendsTurn e.cable NoItems NoItems (Unit {0}) ⊥ o o s (Ok turns.Changed) t
  prepared_by parts deed made =
      sends_widened NoItems NoItems NoItems NoItems (items.Nothing ≡ items.Nothing) ⊥ (Unit {0}) ⊥ (λ xs h. h) (λ xs h. h) (λ r x. tt) (λ x. x) e.cable o o s (Ok turns.Changed) t
      (turned_so s a t e (tried_end e out) after parts items.Nothing None 0 stamp received choice delta NoItems NoItems o is (st ∙ next_stamp s.stamp) rs acts
      (turn_is (max s.stamp 0 + 1) e.cable e lines.Prepare items.Nothing (node_in s) acts.up acts.there next ∙ ap (λ (d : Deed). Some d) deed) (tt, refl) made g z (refl, refl) refl)

-- So of what came of it.
pub tried_so : (s a t : NodeState) (e after : SenderEnd) (out : SenderOut) (stamp : ℕ) (received : List Message) (choice : Choice) (delta : List Did) (o : Offering) → after ≡ tried_end e out → stamp ≡ s.stamp + 1 → received ≡ [] → Acts e s
    → lines.Prepare ≡ sender_next e.machine items.Nothing (stock e.channel s.manager.plain) → Tries out e.channel (step_of e s.manager.plain) choice delta s.manager a.manager → a ≡ record s { manager = a.manager }
    → Closes (actors.Sender e.cable) calls.Turn choice delta (with_end (Sends after) a.own) (record { stamp = stamp; pushed = None; extras = 0; popped = items.Nothing }) received a t
    → SendsTurn e.cable NoItems NoItems (Unit {0}) ⊥ o o s (Ok turns.Changed) t
tried_so s a t e after outs.Done stamp received choice delta o is st rs acts next k g z =
    prepared_by s a t e after outs.Done stamp received choice delta o is st rs acts next g z (parts_of (step_of e s.manager.plain) ++ []) (done_is e (step_of e s.manager.plain) (node_in s) k.0) (made_alone (parts_of (step_of e s.manager.plain)) choice delta s.manager a.manager k.1)
tried_so s a t e after outs.NoRoom stamp received choice delta o is st rs acts next k g z =
    prepared_by s a t e after outs.NoRoom stamp received choice delta o is st rs acts next g z (full_parts e.channel s.manager.plain) (full_is e (step_of e s.manager.plain) (node_in s) k.0) k.1
tried_so s a t e after outs.Full stamp received choice delta o is st rs acts next k g z = absurd k
