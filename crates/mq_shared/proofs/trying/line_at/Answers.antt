use Rattle.std.proofs.Common.{inl, inr}
use Rattle.mq_shared.proofs.TriedLaws.{line_ended, line_left, line_made, line_none, line_waits, waits_so}
use Rattle.mq_shared.proofs.trying.line_at.Goals as goal

pub returns-in_default-clause-tried : goal.returns-in_default-clause-tried
returns-in_default-clause-tried g c = line_left _ _

pub returns-in-Err-clause-tried : goal.returns-in-Err-clause-tried
returns-in-Err-clause-tried g c = inl (line_none _ c.in-Some.line.now _ _ _ _ c.in-Some.ensures (waits_so c.args.progress.now c.args.moment c.in-Some.line.now _ _ _ c.wait_of.ensures c.deadline_of-until.ensures c.wait.ensures) c.in-Err.ensures.advances)

pub returns-in-Ok-Ended-clause-tried : goal.returns-in-Ok-Ended-clause-tried
returns-in-Ok-Ended-clause-tried g c = line_ended _ c.in-Some.line.now _ _ _ _ c.in-Some.ensures (waits_so c.args.progress.now c.args.moment c.in-Some.line.now _ _ _ c.wait_of.ensures c.deadline_of-until.ensures c.wait.ensures) _ c.in-Ok-Ended.field-0-is c.in-Ok-Ended.ensures.advances

pub returns-in-Ok-Waiting-clause-tried : goal.returns-in-Ok-Waiting-clause-tried
returns-in-Ok-Waiting-clause-tried g c = line_waits _ c.in-Some.line.now _ _ _ _ _ c.in-Some.ensures (waits_so c.args.progress.now c.args.moment c.in-Some.line.now _ _ _ c.wait_of.ensures c.deadline_of-until.ensures c.wait.ensures) _ c.in-Ok-Waiting.field-0-is c.in-Ok-Waiting.ensures.advances

pub returns-in-Err-serve-clause-tried : goal.returns-in-Err-serve-clause-tried
returns-in-Err-serve-clause-tried g c = inr (line_made _ c.in-Some.line.now _ _ _ _ _ c.in-Some.ensures (waits_so c.args.progress.now c.args.moment c.in-Some.line.now _ _ _ c.wait_of.ensures c.deadline_of-until.ensures c.wait.ensures) _ c.in-Ok-Done.field-0-is c.in-Ok-Done.ensures.advances c.serve.ensures.turns)

pub returns-in-Ok-clause-tried : goal.returns-in-Ok-clause-tried
returns-in-Ok-clause-tried g c = (
  line_made _ c.in-Some.line.now _ _ _ _ _ c.in-Some.ensures (waits_so c.args.progress.now c.args.moment c.in-Some.line.now _ _ _ c.wait_of.ensures c.deadline_of-until.ensures c.wait.ensures) _ c.in-Ok-Done.field-0-is c.in-Ok-Done.ensures.advances c.serve.ensures.turns,
  c.in-Ok.ensures.done,
)
