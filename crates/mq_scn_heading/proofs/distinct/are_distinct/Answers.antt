use Rattle.mq_scn_heading.proofs.DistinctLaws.{found_twice, found_once}
use Rattle.mq_scn_heading.proofs.distinct.are_distinct.Goals as goal

pub returns-in-Ok-false : goal.returns-in-Ok-false
returns-in-Ok-false c =
    let i = c.comparing.invariant in
    found_twice c.args.numbers.now c.comparing.rest.now c.in-Some.others.now c.in-Some.number.now i.0 c.comparing.behind c.in-Ok-false.field-0 i.1 c.in-Some.ensures.cases.0 i.3 c.in-Ok-false.ensures.added c.in-Ok-false.field-0-test

pub comparing-preserved : goal.comparing-preserved
comparing-preserved c =
    let i = c.comparing.invariant in
    found_once c.args.numbers.now c.comparing.rest.now c.in-Some.others.now c.in-Some.number.now i.0 c.comparing.behind c.insert.new.self c.in-Ok-true.field-0 i.1 c.in-Some.ensures.cases.0 i.2 i.3 c.in-Ok-true.ensures.added c.in-Ok-true.field-0-test c.in-Ok-true.ensures.updates
