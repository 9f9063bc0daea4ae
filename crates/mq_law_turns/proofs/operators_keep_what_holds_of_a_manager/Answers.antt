use Rattle.mq_law_turns.proofs.OperatorSounds.{operates}
use Rattle.mq_law_turns.proofs.operators_keep_what_holds_of_a_manager.Goals as goal

pub returns : goal.returns
returns c = operates
