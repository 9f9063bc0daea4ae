use Rattle.std.proofs.Common.{◌∙◌, subst, sym}
use Rattle.mq_run.specs.Ends.{StepsEnd}
use Rattle.mq_run.specs.Leaves.{left_of}
use Rattle.mq_run.specs.Statuses.{stop_status}
use Rattle.mq_run.proofs.DiskLaws.{ended_risen}
use Rattle.mq_run.proofs.OwnLaws.{ended_own}
use Rattle.mq_run.proofs.RunLaws.{opened_on, stays, stop_no_write, whole_at, whole_stopped}
use Rattle.mq_run.proofs.running.run_whole.Goals as goal

pub report-status-requires-clause-opened : goal.report-status-requires-clause-opened
report-status-requires-clause-opened g c = opened_on c.args.scenario.now c.args.rested.histories (left_of c.do_steps-done.result.rested) c.do_steps-done.ensures.on c.requires.timed

pub returns-in-Err-clause-ends : goal.returns-in-Err-clause-ends
returns-in-Err-clause-ends g c =
    let held = g.K.Sink.held c.args.sink.now in
    let l = left_of c.do_steps-done.result.rested in
    whole_at c.args.form held held c.args.scenario.now c.args.rested.histories c.do_steps-done.result.rested c.ended_with-in-Err.result.status (stop_status c.in-Err.stop) c.ended_with-in-Err.result.network (c.ended_with-in-Err.ensures.status ∙ c.stop_status.ensures) c.ended_with-in-Err.ensures.network
    (whole_stopped c.args.form held held c.args.scenario.now c.args.rested.histories l c.in-Err.stop c.do_steps-done.ensures.on c.requires.together (subst (λ r. StepsEnd r l) c.in-Err.is c.do_steps-done.ensures.ends) (stays held))

pub returns-in-Err-clause-write_fault : goal.returns-in-Err-clause-write_fault
returns-in-Err-clause-write_fault g c = λ n e. stop_no_write c.in-Err.stop n (sym (c.ended_with-in-Err.ensures.status ∙ c.stop_status.ensures) ∙ e)

pub returns-in-Ok-clause-own : goal.returns-in-Ok-clause-own
returns-in-Ok-clause-own g c = ended_own g.D.Disk.tells c.do_steps-done.result.rested c.ended_with.result.network c.ended_with.ensures.network c.do_steps-done.ensures.own

pub returns-in-Err-clause-own : goal.returns-in-Err-clause-own
returns-in-Err-clause-own g c = ended_own g.D.Disk.tells c.do_steps-done.result.rested c.ended_with-in-Err.result.network c.ended_with-in-Err.ensures.network c.do_steps-done.ensures.own

pub returns-in-Ok-clause-risen : goal.returns-in-Ok-clause-risen
returns-in-Ok-clause-risen g c = ended_risen c.do_steps-done.result.rested c.ended_with.result.network c.ended_with.ensures.network c.do_steps-done.ensures.risen

pub returns-in-Err-clause-risen : goal.returns-in-Err-clause-risen
returns-in-Err-clause-risen g c = ended_risen c.do_steps-done.result.rested c.ended_with-in-Err.result.network c.ended_with-in-Err.ensures.network c.do_steps-done.ensures.risen
