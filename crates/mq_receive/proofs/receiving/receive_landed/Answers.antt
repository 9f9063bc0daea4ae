use Rattle.std.proofs.Common.{◌≡◌, true, ap, sym, subst, ◌∙◌}
use Rattle.std.specs.Prelude.{List, Ok}
use Rattle.std.specs.List.{AllByRecursion}
use Rattle.mq_codes.specs.declared.reason.Reason.TheVariants as reasons
use Rattle.mq_calls.specs.Words.{MeetsOrWants, Reason, Step, is_full, is_up, need}
use Rattle.mq_spec_manager.specs.Agents.{receive_landed}
use Rattle.mq_moves.specs.from_agents.Ends.{by_place}
use Rattle.mq_core.specs.declared.parts.Arrival.{Arrival}
use Rattle.mq_core.specs.Values.{CoreValue, WritesLog, manager_of}
use Rattle.mq_core.specs.Views.{plain_of}
use Rattle.mq_core.specs.Writes.{all_landed}
use Rattle.mq_receive.specs.Filling.{CanStand}
use Rattle.mq_receive.specs.Committed.{batch_record, HasNeed}
use Rattle.mq_receive.proofs.EndingLaws.{wants, wants_told, refuses, refuses_told, has_room, has_none}
use Rattle.mq_receive.proofs.receiving.receive_landed.Goals as goal

pub need_in-requires-clause-up : goal.need_in-requires-clause-up
need_in-requires-clause-up g c = ap (λ (w : CoreValue). is_up w.plain.running) c.core.view_is ∙ c.requires.up

pub need_in-requires-clause-can : goal.need_in-requires-clause-can
need_in-requires-clause-can g c = subst (λ (l : List Arrival). AllByRecursion CanStand l) (c.as_slice.ensures ∙ sym c.as_slice-2.ensures) (c.can_all_stand.ensures c.if-not-can_all_stand.false)

pub commit_landed-requires-clause-can : goal.commit_landed-requires-clause-can
commit_landed-requires-clause-can g c = subst (λ (l : List Arrival). AllByRecursion CanStand l) c.as_slice.ensures (c.can_all_stand.ensures c.if-not-can_all_stand.false)

pub commit_landed-requires-clause-need : goal.commit_landed-requires-clause-need
commit_landed-requires-clause-need g c =
    (subst (λ (l : List Arrival). HasNeed (batch_record c.args.channel.now c.args.unit c.args.last l) (plain_of c.core.inside.parts) c.in-Some.bytes) c.as_slice-2.ensures (c.in-Some.ensures c.args.channel.now c.args.unit c.args.last)).is

pub commit_landed-requires-clause-small : goal.commit_landed-requires-clause-small
commit_landed-requires-clause-small g c = (c.in-Some.ensures c.args.channel.now c.args.unit c.args.last).small

pub returns-then-not-can_all_stand-clause-meets : goal.returns-then-not-can_all_stand-clause-meets
returns-then-not-can_all_stand-clause-meets g c =
    wants c.args.core.now c.begin_call.new.self (receive_landed c.args.channel.now c.args.unit c.args.last (Ok (all_landed c.args.landed)) c.args.core.now.plain) (ap manager_of c.begin_call.ensures)

pub returns-then-not-can_all_stand-clause-told : goal.returns-then-not-can_all_stand-clause-told
returns-then-not-can_all_stand-clause-told g c =
    wants_told c.args.core.now c.begin_call.new.self (receive_landed c.args.channel.now c.args.unit c.args.last (Ok (all_landed c.args.landed)) c.args.core.now.plain) (ap (λ (w : CoreValue). w.log) c.begin_call.ensures)

pub returns-in-None-clause-meets : goal.returns-in-None-clause-meets
returns-in-None-clause-meets g c =
    let full = subst (λ (l : List Arrival). is_full (need (batch_record c.args.channel.now c.args.unit c.args.last l)) (plain_of c.core.inside.parts) ≡ true) c.as_slice-2.ensures (c.in-None.ensures c.args.channel.now c.args.unit c.args.last) in
    let here = ap (λ (w : CoreValue). is_full (need (batch_record c.args.channel.now c.args.unit c.args.last c.args.landed)) w.plain) (sym c.core.view_is) ∙ full in
    refuses c.args.core.now c.begin_call-in-None.new.self (receive_landed c.args.channel.now c.args.unit c.args.last (Ok (all_landed c.args.landed)) c.args.core.now.plain) reasons.ResourceProblem
    (has_none c.args.channel.now c.args.unit c.args.last c.args.landed c.args.core.now.plain here) (ap manager_of c.begin_call-in-None.ensures)

pub returns-in-None-clause-told : goal.returns-in-None-clause-told
returns-in-None-clause-told g c =
    let full = subst (λ (l : List Arrival). is_full (need (batch_record c.args.channel.now c.args.unit c.args.last l)) (plain_of c.core.inside.parts) ≡ true) c.as_slice-2.ensures (c.in-None.ensures c.args.channel.now c.args.unit c.args.last) in
    let here = ap (λ (w : CoreValue). is_full (need (batch_record c.args.channel.now c.args.unit c.args.last c.args.landed)) w.plain) (sym c.core.view_is) ∙ full in
    refuses_told c.args.core.now c.begin_call-in-None.new.self (receive_landed c.args.channel.now c.args.unit c.args.last (Ok (all_landed c.args.landed)) c.args.core.now.plain) reasons.ResourceProblem
    (has_none c.args.channel.now c.args.unit c.args.last c.args.landed c.args.core.now.plain here) (ap (λ (w : CoreValue). w.log) c.begin_call-in-None.ensures)

pub returns-in-Some-clause-meets : goal.returns-in-Some-clause-meets
returns-in-Some-clause-meets g c =
    let h = subst (λ (l : List Arrival). HasNeed (batch_record c.args.channel.now c.args.unit c.args.last l) (plain_of c.core.inside.parts) c.in-Some.bytes) c.as_slice-2.ensures (c.in-Some.ensures c.args.channel.now c.args.unit c.args.last) in
    let here = ap (λ (w : CoreValue). is_full (need (batch_record c.args.channel.now c.args.unit c.args.last c.args.landed)) w.plain) (sym c.core.view_is) ∙ h.fits in
    subst (λ (s : Step Reason (Unit {0})). MeetsOrWants (manager_of c.args.core.now) s (by_place c.commit_landed.result) (manager_of c.commit_landed.new.core))
    (sym (has_room c.args.channel.now c.args.unit c.args.last c.args.landed c.args.core.now.plain here)) c.commit_landed.ensures.meets

pub returns-in-Some-clause-told : goal.returns-in-Some-clause-told
returns-in-Some-clause-told g c =
    let h = subst (λ (l : List Arrival). HasNeed (batch_record c.args.channel.now c.args.unit c.args.last l) (plain_of c.core.inside.parts) c.in-Some.bytes) c.as_slice-2.ensures (c.in-Some.ensures c.args.channel.now c.args.unit c.args.last) in
    let here = ap (λ (w : CoreValue). is_full (need (batch_record c.args.channel.now c.args.unit c.args.last c.args.landed)) w.plain) (sym c.core.view_is) ∙ h.fits in
    subst (λ (s : Step Reason (Unit {0})). WritesLog c.args.core.now s (by_place c.commit_landed.result) c.commit_landed.new.core)
    (sym (has_room c.args.channel.now c.args.unit c.args.last c.args.landed c.args.core.now.plain here)) c.commit_landed.ensures.told
