use Rattle.mq_law_batches.proofs.Wording as wording
use Rattle.mq_law_batches.proofs.other_words_of_ends_leave_the_network.Goals as goal

pub returns : goal.returns
returns c = record { words = wording.words; seized = wording.seized; left = wording.left; bound = wording.bound }
