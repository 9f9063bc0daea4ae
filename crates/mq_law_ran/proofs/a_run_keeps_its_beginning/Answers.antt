use Rattle.mq_law_ran.proofs.Keeping as keeping
use Rattle.mq_law_ran.proofs.a_run_keeps_its_beginning.Goals as goal

pub returns : goal.returns
returns c = record {
  begins = λ s gs hs whole rest marks tasks stands. keeping.begins_as s gs hs (keeping.same_begun s gs hs whole rest marks tasks stands);
  apart = λ s gs hs whole rest marks tasks stands long. keeping.same_apart s gs hs long (keeping.same_begun s gs hs whole rest marks tasks stands);
}
