use Rattle.mq_law_rows.proofs.Settling as settling
use Rattle.mq_law_rows.proofs.the_facts_know_what_is_sent.Goals as goal

pub returns : goal.returns
returns c = record { words = settling.sent_words; lasting = settling.sent_lasting }
