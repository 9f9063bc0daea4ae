use Rattle.mq_ways.proofs.QuietLaws.{new_begins}
use Rattle.mq_ways.proofs.laws.new_cables_are_as_their_ends_say.Goals as goal

pub returns : goal.returns
returns c = new_begins
