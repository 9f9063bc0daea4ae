use Rattle.std.proofs.Common.{subst}
use Rattle.std.specs.Prelude.{Ok, Err}
use Rattle.mq_calls.specs.declared.image.Image.{Image}
use Rattle.mq_recover_read.specs.from_spec_log.Bodies.{image_from}
use Rattle.mq_recover.specs.Found.{start_in, given_as, Told}
use Rattle.mq_recover.proofs.recovery.walk.Goals as goal

pub returns-in-Ok : goal.returns-in-Ok
returns-in-Ok c = λ all fits e.
    subst (λ (i : Image). Told (image_from (given_as c.args.manager c.args.name.now) (start_in c.args.start) 0 all i) (Ok c.walk_on.new.told)) c.new-told.ensures (c.in-Ok.ensures all fits e)

pub returns-in-Err : goal.returns-in-Err
returns-in-Err c = λ all fits e.
    subst (λ (i : Image). Told (image_from (given_as c.args.manager c.args.name.now) (start_in c.args.start) 0 all i) (Err c.in-Err.fault)) c.new-told.ensures (c.in-Err.ensures all fits e)
