use Rattle.mq_law_log.proofs.Hardenings.{harden_harmless}
use Rattle.mq_law_log.proofs.hardened_writes_make_crashes_harmless.Goals as goal

pub returns : goal.returns
returns c = harden_harmless
