use Rattle.std.proofs.Common.{refl}
use Rattle.mq_law_channel.proofs.a_message_goes_over.Goals as goal

pub returns : goal.returns
returns c = record { doubt = λ l. refl; committed = λ l. refl; settled = λ l. (refl, refl, refl, refl); late = λ l. (refl, refl, refl, refl, refl) }
