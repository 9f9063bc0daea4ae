use Rattle.mq_law_deeds.proofs.Counting as counting
use Rattle.mq_law_deeds.proofs.Rising as rising
use Rattle.mq_law_deeds.proofs.connections_have_numbers_of_their_own.Goals as goal

pub returns : goal.returns
returns c = record { deeds = rising.next_all; posted = counting.calls_kept; cut = counting.cut_kept; stopped = counting.stopped; told = counting.numbered }
