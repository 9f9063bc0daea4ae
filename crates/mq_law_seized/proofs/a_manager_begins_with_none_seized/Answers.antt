use Rattle.mq_law_seized.proofs.Seizing as seizing
use Rattle.mq_law_seized.proofs.a_manager_begins_with_none_seized.Goals as goal

pub returns : goal.returns
returns c = seizing.none_seized
