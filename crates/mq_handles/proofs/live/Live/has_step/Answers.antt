use Rattle.std.proofs.Common.{◌∙◌, sym, ap}
use Rattle.std.specs.Prelude.{nat_lt}
use Rattle.mq_calls.specs.Words.{any_handle}
use Rattle.mq_calls.specs.Words.{has_step}
use Rattle.mq_handles.specs.Users.Key.{OnPath}
use Rattle.mq_handles.specs.Desks.{Desk}
use Rattle.mq_handles.proofs.WeightLaws.{is_over}
use Rattle.mq_handles.proofs.live.Live.has_step.Goals as goal

pub returns : goal.returns
returns c =
    ap (nat_lt 0) (c.steps.ensures ∙ c.self.invariant.counted (OnPath c.args.step.now)) ∙ sym (is_over c.args.step.now c.self.inside.live)
    ∙ ap (λ (d : Desk). any_handle (has_step c.args.step.now) d.live) c.self.view_is
