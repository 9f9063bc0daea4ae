use Rattle.mq_run.proofs.OwnLaws.{fresh_own}
use Rattle.mq_run.proofs.DiskLaws.{fresh_risen}
use Rattle.mq_run.proofs.RunLaws.{steps_end, steps_ran}
use Rattle.mq_run.proofs.running.do_steps.Goals as goal

pub returns-clause-on : goal.returns-clause-on
returns-clause-on g c =
    steps_ran c.go_on-ran.result c.args.scenario.now c.args.rested c.rest-rested.result c.in-Ok.network c.go_on-ran.new.network c.requires.same c.requires.stands c.requires.fresh c.in-Ok.ensures c.rest-rested.ensures.rests c.histories.ensures.rested
    c.go_on-ran.ensures.ran c.go_on-ran.ensures.lawful c.go_on-ran.ensures.carried

pub returns-clause-ends : goal.returns-clause-ends
returns-clause-ends g c =
    steps_end c.go_on-ran.result c.args.scenario.now c.args.rested c.rest-rested.result c.in-Ok.network c.go_on-ran.new.network c.requires.same c.requires.stands c.requires.fresh c.in-Ok.ensures c.rest-rested.ensures.rests c.histories.ensures.rested
    c.go_on-ran.ensures.ran c.go_on-ran.ensures.lawful c.go_on-ran.ensures.all

pub returns-in-Err-clause-own : goal.returns-in-Err-clause-own
returns-in-Err-clause-own g c = fresh_own g.D.Disk.tells c.args.rested c.in-Err.rested c.in-Err.ensures c.requires.fresh

pub returns-in-Err-clause-risen : goal.returns-in-Err-clause-risen
returns-in-Err-clause-risen g c = fresh_risen c.args.rested c.in-Err.rested c.in-Err.ensures c.requires.stands c.requires.fresh
