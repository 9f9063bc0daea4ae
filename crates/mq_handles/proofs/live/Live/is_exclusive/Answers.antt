use Rattle.std.proofs.Common.{◌∙◌, sym, ap}
use Rattle.std.specs.Prelude.{nat_lt}
use Rattle.mq_calls.specs.Words.{any_handle}
use Rattle.mq_handles.specs.Users.{reads_alone_from}
use Rattle.mq_handles.specs.Users.Key.{Alone}
use Rattle.mq_handles.specs.Desks.{Desk}
use Rattle.mq_handles.proofs.WeightLaws.{is_read_alone}
use Rattle.mq_handles.proofs.live.Live.is_exclusive.Goals as goal

pub returns : goal.returns
returns c =
    ap (nat_lt 0) (c.alone.ensures ∙ c.self.invariant.counted (Alone c.args.queue.now)) ∙ sym (is_read_alone c.args.queue.now c.self.inside.live)
    ∙ ap (λ (d : Desk). any_handle (reads_alone_from c.args.queue.now) d.live) c.self.view_is
