use Rattle.std.proofs.Common.{ap, ◌∙◌}
use Rattle.std.specs.Prelude.{Option, is_some}
use Rattle.mq_sides.specs.declared.bonds.Bond.{Bond}
use Rattle.mq_sides.proofs.BondLaws.{seat_found}
use Rattle.mq_sides.proofs.bonds.has_seat.Goals as goal

pub returns-in-None : goal.returns-in-None
returns-in-None c = ap (λ (o : Option Bond). is_some o) c.in-None.ensures ∙ seat_found c.args.channel.now c.args.bonds.now

pub returns-in-Some : goal.returns-in-Some
returns-in-Some c = ap (λ (o : Option Bond). is_some o) c.in-Some.ensures ∙ seat_found c.args.channel.now c.args.bonds.now
