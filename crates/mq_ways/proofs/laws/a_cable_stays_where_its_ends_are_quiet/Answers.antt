use Rattle.mq_ways.proofs.QuietLaws.{cable_stays}
use Rattle.mq_ways.proofs.laws.a_cable_stays_where_its_ends_are_quiet.Goals as goal

pub returns : goal.returns
returns c = cable_stays
