use Rattle.std.proofs.Common.{refl, sym, ◌∙◌}
use Rattle.std.specs.Prelude.{None}
use Rattle.mq_operate.proofs.SeatLaws.{start_bound, started_so}
use Rattle.mq_operate.proofs.receivers.start_receiver.Goals as goal

pub returns-then-is_bound : goal.returns-then-is_bound
returns-then-is_bound g c = λ e k.
    start_bound e c.args.seat.now c.refused.result c.args.parts.now k (sym c.is_bound.ensures ∙ c.if-is_bound.true) c.refused.ensures.refusal c.refused.ensures.choice c.refused.ensures.delta

pub returns : goal.returns
returns g c = λ e k.
    started_so e c.args.seat.now c.started-machine.result (record { told = c.nothing_done-told.result; refusal = None }) c.args.parts.now c.keep_receiver.new.parts k (sym c.is_bound.ensures ∙ c.if-is_bound.false) c.started-machine.ensures refl
    c.nothing_done-told.ensures.choice c.nothing_done-told.ensures.delta c.keep_receiver.ensures
