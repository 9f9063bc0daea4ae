use Rattle.mq_soak.proofs.Soaks as soaks
use Rattle.mq_soak.proofs.laws.soaks_have_texts.Goals as goal

pub returns : goal.returns
returns c = soaks.texts
