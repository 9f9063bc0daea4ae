use Rattle.mq_told.proofs.ToldLaws.{nothing_told}
use Rattle.mq_told.proofs.front.no_front.Goals as goal

pub returns : goal.returns
returns c = λ given framed. nothing_told given framed (record { framed = c.new-framed.result; recovering = c.new-recovering.result }) c.new-framed.ensures c.new-recovering.ensures
