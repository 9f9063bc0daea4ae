use Rattle.std.proofs.Common.{ap, ◌∙◌}
use Rattle.std.specs.Prelude.{filter, not, ◌==◌}
use Rattle.mq_calls.specs.declared.state.Connection.{Connection}
use Rattle.mq_core.specs.Views.{PartsValue}
use Rattle.mq_core.proofs.SeatLaws.{with_desk}
use Rattle.mq_ends.proofs.EndLaws.{left_true}
use Rattle.mq_ends.proofs.units.leave_if.Goals as goal

pub returns-then-ends : goal.returns-then-ends
unfolding with_desk
returns-then-ends g c =
    let old : PartsValue = c.args.parts.now in
    let live = c.disconnect.ensures.live ∙ ap (λ (x : PartsValue). filter (λ (d : Connection). not (d.number == c.args.number)) x.desk.live) c.parts.view_is in
    let last = c.disconnect.ensures.last ∙ ap (λ (x : PartsValue). x.desk.last) c.parts.view_is in
    ap (with_desk c.disconnect.new.self) c.parts.view_is ∙ (λ i. with_desk (record { live = live i; last = last i }) old) ∙ left_true c.args.ends c.args.number old c.if-ends.true
