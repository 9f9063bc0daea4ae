use Rattle.std.proofs.Common.{List, Option, sym, subst, ap, ◌∙◌}
use Rattle.mq_queue.specs.declared.row.Row.{Row}
use Rattle.mq_queue.specs.Rows.{is_persistent}
use Rattle.mq_spec_network.specs.Ledger.{leave_queues}
use Rattle.mq_net_rows.specs.Homes.{home_of}
use Rattle.mq_net_rows.specs.Stored.{shelves_of, IsStore}
use Rattle.mq_net_rows.proofs.QueueLaws.{kept_view, kept_store}
use Rattle.mq_net_rows.proofs.shelves.Shelves.lose.Goals as goal

pub invariant_of-self : goal.invariant_of-self
invariant_of-self c = subst (λ (st : List (Option Row)). IsStore st c.self.inside.queues (home_of c.self.inside.homes) c.self.inside.doubled) (sym c.clear_lost.ensures)
    (kept_store (λ (row : Row). is_persistent row.message) c.self.inside.store c.self.inside.queues (home_of c.self.inside.homes) c.self.inside.doubled c.self.invariant)

pub returns : goal.returns
returns c = ap (λ (st : List (Option Row)). shelves_of st c.self.inside.queues) c.clear_lost.ensures ∙ kept_view (λ (row : Row). is_persistent row.message) c.self.inside.store c.self.inside.queues
    ∙ ap (leave_queues (λ (row : Row). is_persistent row.message)) c.self.view_is
