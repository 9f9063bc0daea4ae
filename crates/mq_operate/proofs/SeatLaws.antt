-- START, STOP and RESET of a receiver's end: what its deed is, and what holds then.
use Rattle.std.proofs.Common.{◌≡◌, ℕ, zero, suc, ◌-◌, ◌≤◌, refl, sym, ap, subst, ◌∙◌, List, [], Bool, true, false, arith}
use Rattle.std.specs.Prelude.{Option, Some, None, Result, Ok, ◌==◌, ◌||◌, if◌then◌else◌, nat_lt}
use Rattle.mq_base.specs.declared.want.NoMemory.{NoMemory as Want}
use Rattle.mq_calls.specs.declared.agents.Note.TheVariants as notes
use Rattle.mq_calls.specs.declared.choices.Choice.TheVariants.{Runs}
use Rattle.mq_history.specs.declared.acts.OpRefusal.TheVariants as reasons
use Rattle.mq_receiver.specs.States as receivers
use Rattle.mq_receiver.specs.declared.state.Receiver.{Receiver}
use Rattle.mq_sender.specs.declared.state.Limits.{Limits}
use Rattle.mq_sync.specs.declared.data.End.TheVariants as end_kinds
use Rattle.mq_spec_manager.specs.Agents.{harden}
use Rattle.mq_spec_node.specs.Terms.{OpRefusal, Part}
use Rattle.mq_spec_node.specs.Words.{Deed, Own, ReceiverEnd, is_bad_number, limits_here, operated, parts_of, receiver_end, refused, refused_or, reset_end, start_end, stop_end, with_end}
use Rattle.mq_spec_node.specs.Node.ChannelEnd.{Receives}
use Rattle.mq_turn_parts.specs.from_events.States.{NodeState, node_in}
use Rattle.mq_turn_parts.proofs.from_events.KeepLaws.{waits_less}
use Rattle.mq_turn_parts.specs.Turns.{Made, MadeOr, own_by}
use Rattle.mq_turn_parts.proofs.PartLaws.{none_made}
use Rattle.mq_turn_parts.proofs.QuietLaws.{BringNone, harden_brings}
use Rattle.mq_operate.specs.declared.places.Seat.{Seat}
use Rattle.mq_operate.specs.declared.working.Worked.{Worked}
use Rattle.mq_operate.specs.Places.{IsSeat, seat_of}
use Rattle.mq_operate.specs.Receivers.{behind, close_named, seat_unset}
use Rattle.mq_operate.specs.Works.{IsWorked, Works}
use Rattle.mq_operate.proofs.SenderLaws.{refuses_so, running_is, still_is, worked_from}
use Rattle.mq_operate.proofs.CloseLaws.{close_brings}
use Rattle.mq_operate.proofs.ReceiverLaws.{seat_total}

-- What was done, and the end behind it.
seat_so : (parts : List Part) (e : ReceiverEnd) (seat : Seat) (machine : Receiver) (empties : Bool) (w : Worked) (s b a : NodeState) → IsSeat seat e s.own → BringNone parts → w.refusal ≡ None → Made parts w.told.choice w.told.delta s.manager b.manager
    → b ≡ record s { manager = b.manager } → ((x : ReceiverEnd) → receiver_end seat.cable b.own ≡ Some x → a ≡ record b { own = own_by w.told.choice w.told.delta (with_end (Receives (behind x machine empties)) b.own) b.own })
    → Works (operated parts (with_end (Receives (behind e machine empties)) s.own)) s (Ok w) a
seat_so parts e seat machine empties w s b a k brings r m is z =
    let F : NodeState → NodeState = λ y. record y { own = own_by w.told.choice w.told.delta (with_end (Receives (behind e machine empties)) y.own) y.own } in
    let at : receiver_end seat.cable s.own ≡ Some e = subst (λ (x : Seat). receiver_end x.cable s.own ≡ Some e) (sym k.is) k.there in
    let there : receiver_end seat.cable b.own ≡ Some e = subst (λ (x : NodeState). receiver_end seat.cable x.own ≡ Some e) (sym is) at in
    let a_is : a ≡ F (record s { manager = b.manager }) = z e there ∙ ap F is in
    let d : Deed = operated parts (with_end (Receives (behind e machine empties)) s.own) in
    let A : NodeState → Type 0 = λ x. IsWorked d None w.told.choice w.told.delta s x in
    worked_from d w.refusal w.told.choice w.told.delta s a
    (subst A (sym a_is) (record {
      reply = refl;
      pushed = refl;
      received = refl;
      brings = brings;
      total = seat_total e machine empties s.own k.there;
      waits = waits_less (Receives (behind e machine empties)) s.own refl;
      made = m;
      state = refl;
    })) r

-- ---- START

pub start_bound : (e : ReceiverEnd) (seat : Seat) (w : Worked) (s : NodeState) → IsSeat seat e s.own → receivers.is_bound seat.machine.state ≡ true → w.refusal ≡ Some reasons.Running → w.told.choice ≡ Runs → w.told.delta ≡ [] → Works (start_end (Some (Receives e)) (node_in s)) s (Ok w) s
start_bound e seat w s k b r c d =
    refuses_so reasons.Running w s (start_end (Some (Receives e)) (node_in s)) r c d
    (running_is (receivers.is_bound e.machine.state) s.own (operated [] (with_end (Receives (record e { machine = receivers.started e.machine })) s.own))
    (subst (λ (x : Seat). receivers.is_bound x.machine.state ≡ true) k.is b))

pub started_so : (e : ReceiverEnd) (seat : Seat) (machine : Receiver) (w : Worked) (s a : NodeState) → IsSeat seat e s.own → receivers.is_bound seat.machine.state ≡ false → machine ≡ receivers.started seat.machine → w.refusal ≡ None → w.told.choice ≡ Runs → w.told.delta ≡ []
    → ((x : ReceiverEnd) → receiver_end seat.cable s.own ≡ Some x → a ≡ record s { own = own_by w.told.choice w.told.delta (with_end (Receives (behind x machine false)) s.own) s.own })
    → Works (start_end (Some (Receives e)) (node_in s)) s (Ok w) a
started_so e seat machine w s a k b m r c d z =
    let deed : Receiver → Deed = λ x. operated [] (with_end (Receives (behind e x false)) s.own) in
    let machine_is : machine ≡ receivers.started e.machine = m ∙ ap (λ (x : Seat). receivers.started x.machine) k.is in
    let W : Deed → Type 0 = λ x. Works x s (Ok w) a in
    subst W (sym (still_is (receivers.is_bound e.machine.state) s.own (deed (receivers.started e.machine)) (subst (λ (x : Seat). receivers.is_bound x.machine.state ≡ false) k.is b)))
    (subst (λ (x : Receiver). W (deed x)) machine_is (seat_so [] e seat machine false w s s a k tt r (none_made w.told.choice w.told.delta s.manager c d) refl z))

-- ---- STOP

pub stopped_so : (e : ReceiverEnd) (seat : Seat) (machine : Receiver) (w : Worked) (s b a : NodeState) → IsSeat seat e s.own → machine ≡ receivers.stopped seat.machine → w.refusal ≡ None → MadeOr (close_named seat.channel s.manager.plain) (Ok w.told) s.manager b.manager
    → b ≡ record s { manager = b.manager } → ((x : ReceiverEnd) → receiver_end seat.cable b.own ≡ Some x → a ≡ record b { own = own_by w.told.choice w.told.delta (with_end (Receives (behind x machine true)) b.own) b.own })
    → Works (stop_end (Some (Receives e)) (node_in s)) s (Ok w) a
stopped_so e seat machine w s b a k m r made is z =
    let deed : Receiver → Deed = λ x. operated (close_named e.channel s.manager.plain) (with_end (Receives (behind e x true)) s.own) in
    let machine_is : machine ≡ receivers.stopped e.machine = m ∙ ap (λ (x : Seat). receivers.stopped x.machine) k.is in
    let M : Seat → Type 0 = λ x. Made (close_named x.channel s.manager.plain) w.told.choice w.told.delta s.manager b.manager in
    subst (λ (x : Receiver). Works (deed x) s (Ok w) a) machine_is
    (seat_so (close_named e.channel s.manager.plain) e seat machine true w s b a k (close_brings e.channel s.manager.plain) r (subst M k.is made) is z)

-- ---- RESET

pub numbered_so : (e : ReceiverEnd) (seat : Seat) (machine : Receiver) (last : ℕ) (w : Worked) (s b a : NodeState) → IsSeat seat e s.own → machine ≡ receivers.numbered last seat.machine → w.refusal ≡ None
    → MadeOr (parts_of (harden seat.channel (notes.SeqSet end_kinds.Receiver last) s.manager.plain)) (Ok w.told) s.manager b.manager → b ≡ record s { manager = b.manager }
    → ((x : ReceiverEnd) → receiver_end seat.cable b.own ≡ Some x → a ≡ record b { own = own_by w.told.choice w.told.delta (with_end (Receives (behind x machine false)) b.own) b.own })
    → Works (operated (parts_of (harden e.channel (notes.SeqSet end_kinds.Receiver last) s.manager.plain)) (with_end (Receives (record e { machine = receivers.numbered last e.machine })) s.own)) s (Ok w) a
numbered_so e seat machine last w s b a k m r made is z =
    let parts : List ℕ → List Part = λ c. parts_of (harden c (notes.SeqSet end_kinds.Receiver last) s.manager.plain) in
    let deed : Receiver → Deed = λ x. operated (parts e.channel) (with_end (Receives (behind e x false)) s.own) in
    let machine_is : machine ≡ receivers.numbered last e.machine = m ∙ ap (λ (x : Seat). receivers.numbered last x.machine) k.is in
    let M : Seat → Type 0 = λ x. Made (parts x.channel) w.told.choice w.told.delta s.manager b.manager in
    subst (λ (x : Receiver). Works (deed x) s (Ok w) a) machine_is
    (seat_so (parts e.channel) e seat machine false w s b a k (harden_brings e.channel (notes.SeqSet end_kinds.Receiver last) s.manager.plain) r (subst M k.is made) is z)

reason_is : (r x : OpRefusal) → Some r ≡ Some x → r ≡ x
reason_is r x e = cc

refused_is : (o : Option OpRefusal) (reason : OpRefusal) (own : Own) (d : Deed) → Some reason ≡ o → refused_or o own d ≡ refused reason own
refused_is None reason own d e = absurd cc
refused_is (Some x) reason own d e = ap (λ (y : OpRefusal). refused y own) (sym (reason_is reason x e))

done_is : (o : Option OpRefusal) (own : Own) (d : Deed) → None ≡ o → refused_or o own d ≡ d
done_is None own d e = refl
done_is (Some x) own d e = absurd cc

-- the seat's tests are those of the end
unset_is : (e : ReceiverEnd) (seat : Seat) (number : ℕ) (limits : Limits) (s : NodeState) → IsSeat seat e s.own → limits ≡ limits_here seat.channel (node_in s) → seat_unset seat number limits ≡ seat_unset (seat_of e) number (limits_here e.channel (node_in s))
unset_is e seat number limits s k l = ap (seat_unset seat number) l ∙ ap (λ (x : Seat). seat_unset x number (limits_here x.channel (node_in s))) k.is

abbrev reset_deed : ℕ → ReceiverEnd → NodeState → Deed
reset_deed number e s = operated (parts_of (harden e.channel (notes.SeqSet end_kinds.Receiver (number - 1)) s.manager.plain)) (with_end (Receives (record e { machine = receivers.numbered (number - 1) e.machine })) s.own)

pub reset_refused : (number : ℕ) (e : ReceiverEnd) (seat : Seat) (limits : Limits) (reason : OpRefusal) (w : Worked) (s : NodeState) → IsSeat seat e s.own → limits ≡ limits_here seat.channel (node_in s) → Some reason ≡ seat_unset seat number limits
    → w.refusal ≡ Some reason → w.told.choice ≡ Runs → w.told.delta ≡ [] → Works (reset_end number (Some (Receives e)) (node_in s)) s (Ok w) s
reset_refused number e seat limits reason w s k l is r c d =
    refuses_so reason w s (reset_end number (Some (Receives e)) (node_in s)) r c d
    (refused_is (seat_unset (seat_of e) number (limits_here e.channel (node_in s))) reason s.own (reset_deed number e s) (is ∙ unset_is e seat number limits s k l))

pub reset_done : (number : ℕ) (e : ReceiverEnd) (seat : Seat) (limits : Limits) (result : Result Worked Want) (s a : NodeState) → IsSeat seat e s.own → limits ≡ limits_here seat.channel (node_in s) → None ≡ seat_unset seat number limits
    → ((x : ReceiverEnd) → IsSeat seat x s.own → Works (reset_deed number x s) s result a) → Works (reset_end number (Some (Receives e)) (node_in s)) s result a
reset_done number e seat limits result s a k l is f =
    let W : Deed → Type 0 = λ x. Works x s result a in
    subst W (sym (done_is (seat_unset (seat_of e) number (limits_here e.channel (node_in s))) s.own (reset_deed number e s) (is ∙ unset_is e seat number limits s k l))) (f e k)

second_false : (b c : Bool) → None ≡ (if b then Some reasons.Running else if c then Some reasons.BadNumber else None) → c ≡ false
second_false true c e = absurd cc
second_false false true e = absurd cc
second_false false false e = refl

not_zero : (n m : ℕ) → ((n == 0) || nat_lt m n) ≡ false → 1 ≤ n
not_zero zero m e = absurd cc
not_zero (suc n) m e = omega arith

pub reset_low : (number : ℕ) (seat : Seat) (limits : Limits) → None ≡ seat_unset seat number limits → 1 ≤ number
reset_low number seat limits is = not_zero number limits.sequence_wrap (second_false (receivers.is_bound seat.machine.state) (is_bad_number number limits) is)
