use Rattle.std.proofs.Common.{◌∙◌, ap, sym}
use Rattle.mq_calls.specs.Words.{Plain, receiver_or, receiver_data}
use Rattle.mq_core.proofs.PutLaws.{roomier_view}
use Rattle.mq_receive.proofs.committing.aside.Goals as goal

pub returns-in-Ok-clause-ready : goal.returns-in-Ok-clause-ready
returns-in-Ok-clause-ready g c = λ ready side named closed.
    c.in-Ok.ensures.ready ready side named
    (closed ∙ ap (λ (p : Plain). (receiver_or (receiver_data c.args.channel.now p)).closed) (roomier_view c.args.parts.now c.aside_for.new.parts c.aside_for.ensures.more) ∙ sym c.is_closed-closed.ensures)
