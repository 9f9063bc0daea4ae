use Rattle.std.proofs.Common.{ℕ, ◌+◌, ◌∙◌, List, ap, sym, subst}
use Rattle.mq_sides.specs.Bonds.{has_seat}
use Rattle.mq_calls.specs.Words.{set_receiver}
use Rattle.mq_core.specs.declared.parts.ChannelEnds.{ChannelEnds}
use Rattle.mq_core.specs.Views.{PartsValue}
use Rattle.mq_core.specs.Ties.{EndsReady}
use Rattle.mq_get.proofs.PathLaws.{more_same}
use Rattle.mq_agents.specs.Written.{with_receivers}
use Rattle.mq_agents.proofs.ReadyLaws.{receiver_kept, receiver_opens, receiver_shut}
use Rattle.mq_agents.proofs.hardening.aside_session.Goals as goal

pub returns-then-closed-clause-more : goal.returns-then-closed-clause-more
returns-then-closed-clause-more g c = more_same c.args.parts.now

pub returns-then-closed-clause-ready : goal.returns-then-closed-clause-ready
returns-then-closed-clause-ready g c = λ ready seat side named closed. receiver_shut side c.args.parts.now.ends c.args.parts.now.log.spare ready (ap (λ (n : List ℕ). has_seat n c.args.parts.now.ends.bound.seats) named ∙ seat) (closed ∙ c.if-closed.true)

pub returns-then-has_live-clause-more : goal.returns-then-has_live-clause-more
returns-then-has_live-clause-more g c = more_same c.args.parts.now

pub returns-then-has_live-clause-ready : goal.returns-then-has_live-clause-ready
returns-then-has_live-clause-ready g c = λ ready seat side named closed. receiver_kept side c.args.channel.now c.args.parts.now.ends c.args.parts.now.log.spare ready seat named (sym c.has_live.ensures ∙ c.if-has_live.true)

pub returns-in-Ok-clause-ready : goal.returns-in-Ok-clause-ready
returns-in-Ok-clause-ready g c = λ ready seat side named closed.
    let x : PartsValue = c.args.parts.now in
    subst (λ (n : ℕ). EndsReady (with_receivers (set_receiver side c.aside_log.new.parts.ends.receivers) c.aside_log.new.parts.ends) n) (sym c.in-Ok.ensures.spare)
    (subst (λ (e : ChannelEnds). EndsReady (with_receivers (set_receiver side e.receivers) e) (x.log.spare + 34)) (sym c.in-Ok.ensures.ends) (receiver_opens side x.ends x.log.spare ready (ap (λ (n : List ℕ). has_seat n x.ends.bound.seats) named ∙ seat)))
