use Rattle.std.proofs.Common.{sym, subst, ◌≤◌}
use Rattle.mq_calls.specs.from_resolve.PathStepVariants.{DefXmitq}
use Rattle.mq_calls.specs.Words.{PathStep}
use Rattle.mq_handles.specs.declared.users.Count.{Count}
use Rattle.mq_handles.specs.Users.{one_step, count_in, key_weight, tally, IsLess}
use Rattle.mq_handles.specs.Users.Key.{OnPath}
use Rattle.mq_handles.proofs.CountLaws.{is_less}
use Rattle.mq_handles.proofs.users.Users.take_step.Goals as goal

pub take_count-requires : goal.take_count-requires
take_count-requires c =
    subst (λ (k : Count). IsLess k (count_in c.in-Queue.name c.args.self.now)) (sym c.step.ensures)
    (is_less c.in-Queue.name one_step c.args.self.now (λ key. subst (λ (s : PathStep). key_weight key s ≤ tally key c.args.self.now) c.in-Queue.is (c.requires key)))

pub overflow_sub-self : goal.overflow_sub-self
overflow_sub-self c = subst (λ (s : PathStep). key_weight (OnPath DefXmitq) s ≤ tally (OnPath DefXmitq) c.args.self.now) c.in-DefXmitq.is (c.requires (OnPath DefXmitq))
