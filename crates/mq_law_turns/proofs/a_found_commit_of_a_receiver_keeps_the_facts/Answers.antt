use Rattle.mq_law_turns.proofs.Taking.{all_come, found_taken}
use Rattle.mq_law_turns.proofs.a_found_commit_of_a_receiver_keeps_the_facts.Goals as goal

pub returns : goal.returns
returns c = record { found = found_taken; come = all_come }
