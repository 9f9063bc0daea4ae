use Rattle.std.proofs.Common.{sym, subst}
use Rattle.std.specs.Prelude.{Result}
use Rattle.mq_calls.specs.Words.{Reason}
use Rattle.mq_spec_manager.specs.Agents.{Landing}
use Rattle.mq_core.specs.Views.{plain_of}
use Rattle.mq_receive.specs.Arriving.{Lands}
use Rattle.mq_receive.proofs.AheadLaws.{land_ahead}
use Rattle.mq_receive.proofs.arriving.land.Goals as goal

pub returns : goal.returns
returns g c = λ p h.
    subst (λ (r : Result Landing Reason). Lands r c.args.dropped c.land_by.result)
    (sym (land_ahead c.args.landed.now (plain_of c.args.parts.now) p c.args.channel.now c.args.message.now h)) c.land_by.ensures
