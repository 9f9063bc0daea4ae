use Rattle.std.proofs.Common.{subst}
use Rattle.mq_turn_parts.specs.from_events.States.{node_in}
use Rattle.mq_operate.specs.declared.places.Place.{Place}
use Rattle.mq_operate.specs.Places.{IsPlace}
use Rattle.mq_operate.proofs.PlacedLaws.{start_absent}
use Rattle.mq_operate.proofs.operating.start_at.Goals as goal

pub returns-in-Absent : goal.returns-in-Absent
returns-in-Absent g c =
    start_absent c.args.channel.now c.refused.result c.args.parts.now (subst (λ (p : Place). IsPlace c.args.channel.now p (node_in c.args.parts.now)) c.in-Absent.is c.requires.place) c.refused.ensures.refusal c.refused.ensures.choice c.refused.ensures.delta
