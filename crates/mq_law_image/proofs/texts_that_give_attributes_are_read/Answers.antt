use Rattle.mq_law_image.proofs.Giving.{alter_read, define_read}
use Rattle.mq_law_image.proofs.texts_that_give_attributes_are_read.Goals as goal

pub returns : goal.returns
returns c = record { alters = alter_read; defines = define_read }
