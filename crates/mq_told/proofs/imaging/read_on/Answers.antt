use Rattle.mq_told.proofs.ToldLaws.{misses, whole_image}
use Rattle.mq_told.proofs.imaging.read_on.Goals as goal

pub returns-in-Err : goal.returns-in-Err
returns-in-Err c = λ given n m all fits e. misses c.args.manager c.args.name.now all c.in-Err.fault (c.in-Err.ensures all fits e) given n m

pub returns : goal.returns
returns c = λ given n m all fits e. whole_image c.args.manager c.args.name.now all c.in-Ok.front c.in-Ok-image_in.image (c.in-Ok.ensures all fits e) c.in-Ok-image_in.ensures given n m
