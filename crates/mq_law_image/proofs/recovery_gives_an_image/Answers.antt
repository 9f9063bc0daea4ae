use Rattle.mq_law_image.proofs.Recovered.{recovered}
use Rattle.mq_law_image.proofs.recovery_gives_an_image.Goals as goal

pub returns : goal.returns
returns c = recovered
