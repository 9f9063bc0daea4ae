use Rattle.std.proofs.Common.{ap, sym, ◌∙◌}
use Rattle.mq_core.specs.Views.{plain_of}
use Rattle.mq_receive.specs.Standings.{standing_as}
use Rattle.mq_receive.proofs.PlanLaws.{plan_over}
use Rattle.mq_receive.proofs.planning.plan_next.Goals as goal

pub returns-in-Present : goal.returns-in-Present
returns-in-Present g c = λ whole rest h. plan_over whole c.args.channel.now c.args.landed.now c.args.message.now rest (plain_of c.args.parts.now) (sym c.standing_among.ensures ∙ ap standing_as c.in-Present.is) h
