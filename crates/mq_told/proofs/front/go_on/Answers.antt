use Rattle.std.proofs.Common.{length, ap, ◌∙◌}
use Rattle.std.specs.Prelude.{Ok, Err}
use Rattle.mq_recover.specs.from_spec_log.Applies.Start.{Later}
use Rattle.mq_recover.specs.from_spec_log.Bodies.{image_from, empty_image}
use Rattle.mq_recover.specs.Recovering.{seen}
use Rattle.mq_recover.specs.Found.{given_as}
use Rattle.mq_told.proofs.ToldLaws.{goes_front, told_is, wants}
use Rattle.mq_told.proofs.front.go_on.Goals as goal

pub returns-in-Err : goal.returns-in-Err
returns-in-Err c = λ all fits e.
    goes_front (given_as c.args.manager c.args.name.now) c.args.front.now.framed c.args.rest.now (seen c.args.front.now.recovering) c.requires all fits e c.size-place.result (c.size-place.ensures.is ∙ ap length c.as_slice.ensures) (Err c.in-Err.fault) c.in-Err.ensures

pub returns-in-Ok-append : goal.returns-in-Ok-append
returns-in-Ok-append c = λ all fits e.
    (told_is _ c.walk_on.new.told (goes_front (given_as c.args.manager c.args.name.now) c.args.front.now.framed c.args.rest.now (seen c.args.front.now.recovering) c.requires all fits e c.size-place.result (c.size-place.ensures.is ∙ ap length c.as_slice.ensures) (Ok c.walk_on.new.told) c.in-Ok.ensures), c.in-Ok-append.ensures ∙ e)

pub returns-in-Err-append : goal.returns-in-Err-append
returns-in-Err-append c = λ all fits e. wants (image_from (given_as c.args.manager c.args.name.now) Later 0 all empty_image)
