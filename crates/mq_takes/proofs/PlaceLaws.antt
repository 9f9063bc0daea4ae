-- A unit's commit, and the turn that makes it.
use Rattle.std.proofs.Common.{◌≡◌, ℕ, ◌+◌, max, refl, sym, ap, subst, ◌∙◌, List, [], ◌∷◌, true, false, arith}
use Rattle.std.specs.Prelude.{Bool, Result, Some, None, Ok, Err}
use Rattle.mq_codes.specs.declared.reason.Reason.TheVariants as reasons
use Rattle.mq_calls.specs.declared.commands.Halt.TheVariants as halts
use Rattle.mq_calls.specs.declared.choices.Choice.{Choice}
use Rattle.mq_calls.specs.declared.choices.Choice.TheVariants.{Runs, Stopped}
use Rattle.mq_disk.specs.declared.cutter.Stop.{Stop}
use Rattle.mq_history.specs.declared.calls.Actor.TheVariants as actors
use Rattle.mq_history.specs.declared.calls.Call.TheVariants as calls
use Rattle.mq_receiver.specs.After.{last_by}
use Rattle.mq_receiver.specs.Table.{receiver_next}
use Rattle.mq_receiver.specs.declared.turns.ReceiverDoes.TheVariants as does
use Rattle.mq_receiver.specs.declared.turns.ReceiverOut.TheVariants as outs
use Rattle.mq_sync.specs.declared.unit.Unit.{Unit as Luw}
use Rattle.mq_calls.specs.Meeting.{ManagerValue, MeetsAs}
use Rattle.mq_calls.specs.Meeting.Wants.{Anywhere}
use Rattle.mq_calls.specs.Words.{is_full, need, tested, when}
use Rattle.mq_spec_manager.specs.Agents.{Landed, landed, messages_taken, receive, receive_landed, received_part, received_record}
use Rattle.mq_law_manager.specs.Facts.{IsSound}
use Rattle.mq_spec_node.specs.Terms.{Did, Message, Part, Plain, Reason, Refuse, Do, Seen, Step, number}
use Rattle.mq_spec_node.specs.Words.{Node, ReceiverEnd, close_parts, deed_of, is_receiver_defined, parts_of, place_deed, turned, with_end}
use Rattle.mq_spec_node.specs.Node.ChannelEnd.{Receives}
use Rattle.mq_core.specs.Values.{CoreValue, manager_of}
use Rattle.mq_law_manager.proofs.ShortSteps.{StepIsShort}
use Rattle.mq_turn_parts.specs.from_events.States.{NodeState, node_in}
use Rattle.mq_turn_parts.specs.from_events.{Told}
use Rattle.mq_turn_parts.proofs.from_events.CallLaws.{where_wider}
use Rattle.mq_turn_parts.proofs.PartLaws.{le_self}
use Rattle.mq_turn_parts.specs.Turns.{IsAsWas, Made}
use Rattle.mq_turn_parts.proofs.AgentLaws.{agent_ran, agent_stopped}
use Rattle.mq_turn_parts.specs.from_manager.Facts.{IsWell}
use Rattle.mq_spec_manager.specs.Agents.{IsUp}
use Rattle.mq_takes.specs.Placing.{ReceivedAs}
use Rattle.mq_takes.specs.Takes.{MayTake, Works, emptied, whole}
use Rattle.mq_takes.specs.Taken.{IsDone, TakesAll, taken_behind}
use Rattle.mq_takes.specs.declared.receiving.BatchTold.TheVariants as came
use Rattle.mq_takes.proofs.TakeLaws.{turn_is}
use Rattle.mq_takes.proofs.TakenLaws.{taken_whole}
use Rattle.mq_takes.proofs.WorkLaws.{works_so}

-- what is told of the call
pub received_ran : (step : Step Reason (Unit {0})) (t : Told) (old mid new : CoreValue) → MeetsAs Anywhere (manager_of old) step (Ok tt) (manager_of mid) → t.choice ≡ Runs → t.delta ≡ mid.delta → new ≡ record mid { delta = [] } → ReceivedAs step (Ok (came.Told t)) old new
received_ran (Refuse reason) t old mid new m c d e = absurd m
received_ran (Do reply parts) t old mid new m c d e = (tt, agent_ran {F = Reason} {T = Unit {0}} (Do reply parts) tt t old mid new m c d e)

pub received_stopped : (step : Step Reason (Unit {0})) (by : Stop) (t : Told) (old mid new : CoreValue) → StepIsShort step → MeetsAs Anywhere (manager_of old) step (Err (halts.Stopped by)) (manager_of mid) → t.choice ≡ Stopped by 0 mid.plain.log.armed → t.delta ≡ mid.delta
    → new ≡ record mid { delta = [] } → ReceivedAs step (Ok (came.Told t)) old new
received_stopped (Refuse reason) by t old mid new short m c d e = absurd m
received_stopped (Do reply parts) by t old mid new short m c d e = (tt, agent_stopped {F = Reason} {T = Unit {0}} (Do reply parts) by t old mid new short m c d e)

pub received_refused : (step : Step Reason (Unit {0})) (reason : Reason) (old new : CoreValue) → MeetsAs Anywhere (manager_of old) step (Err (halts.Refused reason)) (manager_of new) → ReceivedAs step (Ok (came.Refused reason)) old new
received_refused (Refuse other) reason old new m = (ap Refuse (sym m.0), record { plain = ap (λ (v : ManagerValue). v.plain) m.1; later = omega (arith, ap (λ (v : ManagerValue). v.faults) m.1) })
received_refused (Do reply parts) reason old new m = absurd m

short_if : (b : Bool) (part : Part) → StepIsShort {F = Reason} {T = Unit {0}} (tested (when b reasons.ResourceProblem ∷ []) (Do tt (part ∷ [])))
short_if true part = tt
short_if false part = tt

landed_short : (channel : List ℕ) (unit : Luw) (last : ℕ) (r : Result Landed Reason) (p : Plain) → StepIsShort (receive_landed channel unit last r p)
landed_short channel unit last (Err reason) p = tt
landed_short channel unit last (Ok l) p = short_if (is_full (need (received_record channel unit last l)) p) (received_part channel unit last l p)

pub receive_short : (channel : List ℕ) (unit : Luw) (last : ℕ) (batch : List Message) (p : Plain) → StepIsShort (receive channel unit last batch p)
receive_short channel unit last batch p = landed_short channel unit last (landed channel batch p) p

-- a session that is closed behind a refusal
pub closed_from : (e : ReceiverEnd) (choice : Choice) (delta : List Did) (old mid new : CoreValue) → IsAsWas old mid → Made (close_parts e mid.plain) choice delta mid new → Made (close_parts e old.plain) choice delta old new
closed_from e choice delta old mid new w m =
    let M : Plain → Type 0 = λ p. Made (close_parts e p) choice delta (record old { plain = p }) new in
    subst M w.plain (record { made = m.made; can = m.can; told = m.told; plain = m.plain; later = omega (arith, w.later, m.later); rose = where_wider choice old.faults mid.faults new.faults new.faults w.later m.rose (le_self new.faults) })

pub was_twice : (old mid new : CoreValue) → IsAsWas old mid → IsAsWas mid new → IsAsWas old new
was_twice old mid new a b = record { plain = b.plain ∙ a.plain; later = omega (arith, a.later, b.later) }

pub up_was : (old new : CoreValue) → IsAsWas old new → IsUp old.plain → IsUp new.plain
up_was old new w up = subst (λ (p : Plain). IsUp p) (sym w.plain) up

-- where it is done, its messages landed
landed_done : (channel : List ℕ) (unit : Luw) (last : ℕ) (batch : List Message) (p : Plain) (r : Result Landed Reason) → landed channel batch p ≡ r → IsSound p → IsDone (receive_landed channel unit last r p) → messages_taken channel batch p ≡ taken_behind [] batch p
landed_done channel unit last batch p (Ok l) e s d = taken_whole channel batch p l s.facts s.named e
landed_done channel unit last batch p (Err reason) e s d = absurd d

pub takes_all : (batch ms : List Message) (p : Plain) → IsWell p → IsUp p → ms ≡ taken_behind [] batch p → TakesAll batch p ms
takes_all batch ms p w up e channel unit last d = e ∙ sym (landed_done channel unit last batch p (landed channel batch p) refl (w.up up) d)

-- the deed of the line
done_deed : (e : ReceiverEnd) (unit : Luw) (seen : Seen) (step : Step Reason (Unit {0})) (n : Node) → IsDone step
    → Some (place_deed e unit seen step n) ≡ Some (record (turned (parts_of step) None (with_end (Receives (emptied e (does.Place unit) seen outs.Done)) n.own)) { received = messages_taken e.channel e.kept n.manager })
done_deed e unit seen (Refuse reason) n d = absurd d
done_deed e unit seen (Do reply parts) n d = refl

pub placed_deed : (stamp : ℕ) (e : ReceiverEnd) (unit : Luw) (seen : Seen) (s : NodeState) → MayTake e s → does.Place unit ≡ receiver_next e.machine seen (is_receiver_defined e.channel s.manager.plain.definitions) → IsDone (receive e.channel unit (last_by seen e.machine.last) e.kept s.manager.plain)
    → deed_of stamp (actors.Receiver e.cable) calls.Turn seen (node_in s)
    ≡ Some (record (turned (parts_of (receive e.channel unit (last_by seen e.machine.last) e.kept s.manager.plain)) None (with_end (Receives (emptied e (does.Place unit) seen outs.Done)) s.own)) { received = messages_taken e.channel e.kept s.manager.plain })
placed_deed stamp e unit seen s may next d =
    turn_is stamp e.cable e (does.Place unit) seen (node_in s) may.up may.there next ∙ done_deed e unit seen (receive e.channel unit (last_by seen e.machine.last) e.kept s.manager.plain) (node_in s) d

pub refused_deed : (stamp : ℕ) (e : ReceiverEnd) (unit : Luw) (reason : Reason) (seen : Seen) (s : NodeState) → MayTake e s → does.Place unit ≡ receiver_next e.machine seen (is_receiver_defined e.channel s.manager.plain.definitions)
    → receive e.channel unit (last_by seen e.machine.last) e.kept s.manager.plain ≡ Refuse reason
    → deed_of stamp (actors.Receiver e.cable) calls.Turn seen (node_in s) ≡ Some (turned (close_parts e s.manager.plain) None (with_end (Receives (emptied e (does.Place unit) seen (outs.Refused (number reason)))) s.own))
refused_deed stamp e unit reason seen s may next r =
    turn_is stamp e.cable e (does.Place unit) seen (node_in s) may.up may.there next ∙ ap (λ (x : Step Reason (Unit {0})). Some (place_deed e unit seen x (node_in s))) r

-- with what the code has for the end after it
pub placing_so : (p a b : NodeState) (e last : ReceiverEnd) (unit : Luw) (number_last : ℕ) (received : List Message) (seen : Seen) (sight : ℕ) (choice : Choice) (delta : List Did) → MayTake e (whole e p) → TakesAll e.kept p.manager.plain received
    → does.Place unit ≡ receiver_next e.machine seen (is_receiver_defined e.channel p.manager.plain.definitions) → number_last ≡ last_by seen e.machine.last → last ≡ emptied e (does.Place unit) seen outs.Done
    → IsDone (receive e.channel unit number_last e.kept p.manager.plain) → Made (parts_of (receive e.channel unit number_last e.kept p.manager.plain)) choice delta p.manager a.manager → a ≡ record p { manager = a.manager } → b ≡ whole e a
    → Works e last (parts_of (receive e.channel unit (last_by seen e.machine.last) e.kept p.manager.plain)) received seen (max p.stamp sight + 1) choice delta (whole e p) b
placing_so p a b e last unit number_last received seen sight choice delta may takes next nl is done made g k =
    let z : ReceiverEnd = emptied e (does.Place unit) seen outs.Done in
    let step : ℕ → Step Reason (Unit {0}) = λ n. receive e.channel unit n e.kept p.manager.plain in
    let parts : List Part = parts_of (step (last_by seen e.machine.last)) in
    let d : IsDone (step (last_by seen e.machine.last)) = subst (λ (n : ℕ). IsDone (step n)) nl done in
    let m : Made parts choice delta p.manager a.manager = subst (λ (n : ℕ). Made (parts_of (step n)) choice delta p.manager a.manager) nl made in
    let L : ReceiverEnd → Type 0 = λ x. Works e x parts received seen (max p.stamp sight + 1) choice delta (whole e p) b in
    let R : List Message → Type 0 = λ ms. Works e z parts ms seen (max p.stamp sight + 1) choice delta (whole e p) b in
    let t : messages_taken e.channel e.kept p.manager.plain ≡ received = sym (takes e.channel unit (last_by seen e.machine.last) d) in
    subst L (sym is) (subst R t (works_so p a b e z parts (messages_taken e.channel e.kept p.manager.plain) seen (max p.stamp sight + 1) choice delta may refl (placed_deed (max p.stamp sight + 1) e unit seen (whole e p) may next d) m g k))

pub refusing_so : (p a b : NodeState) (e last : ReceiverEnd) (unit : Luw) (reason : Reason) (number_last : ℕ) (received : List Message) (seen : Seen) (sight : ℕ) (choice : Choice) (delta : List Did) → MayTake e (whole e p)
    → does.Place unit ≡ receiver_next e.machine seen (is_receiver_defined e.channel p.manager.plain.definitions) → number_last ≡ last_by seen e.machine.last → last ≡ emptied e (does.Place unit) seen (outs.Refused (number reason)) → received ≡ []
    → receive e.channel unit number_last e.kept p.manager.plain ≡ Refuse reason → Made (close_parts e p.manager.plain) choice delta p.manager a.manager → a ≡ record p { manager = a.manager } → b ≡ whole e a
    → Works e last (close_parts e p.manager.plain) received seen (max p.stamp sight + 1) choice delta (whole e p) b
refusing_so p a b e last unit reason number_last received seen sight choice delta may next nl is rs r made g k =
    let z : ReceiverEnd = emptied e (does.Place unit) seen (outs.Refused (number reason)) in
    let L : ReceiverEnd → Type 0 = λ x. Works e x (close_parts e p.manager.plain) received seen (max p.stamp sight + 1) choice delta (whole e p) b in
    let R : List Message → Type 0 = λ ms. Works e z (close_parts e p.manager.plain) ms seen (max p.stamp sight + 1) choice delta (whole e p) b in
    let w : receive e.channel unit (last_by seen e.machine.last) e.kept p.manager.plain ≡ Refuse reason = ap (λ (n : ℕ). receive e.channel unit n e.kept p.manager.plain) (sym nl) ∙ r in
    subst L (sym is) (subst R (sym rs) (works_so p a b e z (close_parts e p.manager.plain) [] seen (max p.stamp sight + 1) choice delta may refl (refused_deed (max p.stamp sight + 1) e unit reason seen (whole e p) may next w) made g k))
