use Rattle.mq_law_deeds.proofs.Sounding as sounding
use Rattle.mq_law_deeds.proofs.deeds_keep_what_holds_of_a_manager.Goals as goal

pub returns : goal.returns
returns c = record { ordinary = sounding.ordinary_kept; timeouts = sounding.timeouts_kept; behind = sounding.behind }
