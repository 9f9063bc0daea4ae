use Rattle.std.specs.Prelude.{not}
use Rattle.mq_queue.specs.declared.row.Row.{Row}
use Rattle.mq_queue.specs.Rows.{has_ident}
use Rattle.mq_net_rows.proofs.StoreLaws.{lasting_kept}
use Rattle.mq_net_rows.proofs.slots.Slots.clear_each.Goals as goal

pub invariant_of-self : goal.invariant_of-self
invariant_of-self c = lasting_kept (λ (row : Row). not (has_ident c.args.ident.now row)) c.self.inside.lasting c.self.inside.slots c.clear_each.new.store c.self.invariant c.clear_each.ensures
