use Rattle.std.proofs.Common.{◌∙◌, false, sym, ap, subst, refl, arith}
use Rattle.mq_message.specs.declared.place.Holder.TheVariants as holders
use Rattle.mq_calls.specs.Words.{HeldBy, Plain, apply_all, is_up, released_in}
use Rattle.mq_core.specs.Views.{PartsValue, frozen_of, plain_of}
use Rattle.mq_core.specs.Ties.{Tied}
use Rattle.mq_core.specs.Values.{CoreValue, bodies_in}
use Rattle.mq_core.proofs.MeetLaws.{mode_up}
use Rattle.mq_turn_parts.specs.from_agents.Removing.{without_one}
use Rattle.mq_turn_parts.proofs.from_agents.EndLaws.{rows_view, tied_rows, times_freed, with_rows}
use Rattle.mq_turns.proofs.GiveLaws.{gives_is, giving}
use Rattle.mq_turns.proofs.holding.give_up_in.Goals as goal

pub invariant_of-core : goal.invariant_of-core
unfolding with_rows
invariant_of-core g c =
    let x : PartsValue = c.core.inside.parts in
    let channel = c.args.channel.now in
    let f = released_in (HeldBy (holders.Batch channel)) false in
    subst Tied (sym c.free_batch.ensures) (tied_rows f (λ q. refl) (λ i q. omega (arith, times_freed i (HeldBy (holders.Batch channel)) q)) (without_one channel x.ends) x (λ w. record { log = w.log; rows = w.rows; senders = w.senders; receivers = w.receivers; seats = w.seats }) c.core.invariant)

pub returns-clause-plain : goal.returns-clause-plain
unfolding with_rows
returns-clause-plain g c =
    let v = c.core.view_is ∙ c.begin_call.ensures in
    let plain = ap (λ (w : CoreValue). w.plain) v in
    let x : PartsValue = c.core.inside.parts in
    let up = mode_up (frozen_of x) x.mode (ap (λ (p : Plain). is_up p.running) plain ∙ c.requires.up) in
    let channel = c.args.channel.now in
    ap plain_of c.free_batch.ensures ∙ rows_view (released_in (HeldBy (holders.Batch channel)) false) (without_one channel x.ends) x up ∙ ap (λ (p : Plain). apply_all (giving channel) p) plain ∙ sym (gives_is channel c.args.core.now.plain c.requires.batch)

pub returns-clause-log : goal.returns-clause-log
returns-clause-log g c = ap (λ (p : PartsValue). bodies_in p.log) c.free_batch.ensures ∙ ap (λ (w : CoreValue). w.log) (c.core.view_is ∙ c.begin_call.ensures)

pub returns-clause-faults : goal.returns-clause-faults
returns-clause-faults g c = ap (λ (p : PartsValue). p.log.faults) c.free_batch.ensures ∙ ap (λ (w : CoreValue). w.faults) (c.core.view_is ∙ c.begin_call.ensures)
