-- How a body meets MQGET. One that may still wait takes no memory: want of it is no answer there, it waits.
use Rattle.std.specs.Prelude.{Result}
use Rattle.mq_sc_apply.specs.from_calls.Words.{Reason, Plain, Step, Refuse, Do, ManagerValue, Wants, MeetsAs}
use Rattle.mq_sc_apply.specs.from_calls.{GetAnswer, Halt}
use Rattle.mq_sc_apply.specs.from_calls.Meeting.Wants.{Nowhere, Behind}
use Rattle.mq_sc_apply.specs.from_calls.GetAnswerVariants.{NotYet, Done}

-- where it may find no memory: behind all refusals, and not where it would wait
abbrev pub get_wants : Step Reason GetAnswer → Wants
get_wants (Refuse reason) = Behind
get_wants (Do NotYet parts) = Nowhere
get_wants (Do (Done answer) parts) = Behind

abbrev pub MeetsGet : ManagerValue → Step Reason GetAnswer → Result GetAnswer (Halt Reason) → ManagerValue → Type 0
MeetsGet old step result new = MeetsAs (get_wants step) old step result new
