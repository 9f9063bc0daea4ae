use Rattle.std.proofs.Common.{sym, ◌∙◌}
use Rattle.mq_core.specs.Views.{plain_of}
use Rattle.mq_agents.proofs.DoubtLaws.{full_as, can_doubt}
use Rattle.mq_agents.proofs.preparing.doubt_of.Goals as goal

pub returns-then-is_batch_full : goal.returns-then-is_batch_full
returns-then-is_batch_full g c =
    full_as c.args.channel.now c.args.last (plain_of c.args.parts.now) c.in-Some.batch.now (sym c.in-Some.ensures) (sym (c.is_batch_full.ensures.full c.args.channel.now c.args.last) ∙ c.if-is_batch_full.true)

pub returns-in-Ok : goal.returns-in-Ok
returns-in-Ok g c =
    can_doubt c.in-Ok.doubt c.args.channel.now c.args.last (plain_of c.args.parts.now) c.in-Some.batch.now (sym c.in-Some.ensures) c.in-Ok.ensures
    (c.is_batch_full.ensures.few c.if-is_batch_full.false) (sym (c.is_batch_full.ensures.full c.args.channel.now c.args.last) ∙ c.if-is_batch_full.false)
