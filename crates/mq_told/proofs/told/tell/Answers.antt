use Rattle.std.proofs.Common.{◌∙◌}
use Rattle.mq_told.proofs.ToldLaws.{front_low, front_whole}
use Rattle.mq_told.proofs.told.tell.Goals as goal

pub behind-rest-requires : goal.behind-rest-requires
behind-rest-requires c = front_low c.args.framed.now c.front_of-front.result.framed c.as_slice.result.now c.front_of-front.ensures.is c.as_slice.ensures

pub go_on-requires : goal.go_on-requires
go_on-requires c = c.front_of-front.ensures.told

pub returns-in-Ok : goal.returns-in-Ok
returns-in-Ok c = λ all fits e.
    c.in-Ok.ensures all fits (front_whole c.args.framed.now c.front_of-front.result.framed c.as_slice.result.now c.behind-rest.result.now c.front_of-front.ensures.is c.as_slice.ensures c.behind-rest.ensures ∙ e)

pub returns-in-Err : goal.returns-in-Err
returns-in-Err c = λ all fits e.
    c.in-Err.ensures all fits (front_whole c.args.framed.now c.front_of-front.result.framed c.as_slice.result.now c.behind-rest.result.now c.front_of-front.ensures.is c.as_slice.ensures c.behind-rest.ensures ∙ e)
