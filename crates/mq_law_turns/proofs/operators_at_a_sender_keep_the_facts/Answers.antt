use Rattle.mq_law_turns.proofs.Operating as operating
use Rattle.mq_law_turns.proofs.operators_at_a_sender_keep_the_facts.Goals as goal

pub returns : goal.returns
returns c = record { starts = operating.starts; stops = operating.stops; resets = operating.numbers; commits = operating.resolves_commit; backs_out = operating.resolves_backout; times_out = operating.times_out }
