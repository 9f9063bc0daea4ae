use Rattle.std.proofs.Common.{sym, subst}
use Rattle.mq_handles.specs.declared.users.Count.{Count}
use Rattle.mq_handles.specs.Users.{input_count, count_in, IsLess}
use Rattle.mq_handles.proofs.CountLaws.{is_less}
use Rattle.mq_handles.proofs.users.Users.take_input.Goals as goal

pub take_count-requires : goal.take_count-requires
take_count-requires c = subst (λ (k : Count). IsLess k (count_in c.args.queue.now c.args.self.now)) (sym c.of_input.ensures) (is_less c.args.queue.now (input_count c.args.input) c.args.self.now c.requires)
