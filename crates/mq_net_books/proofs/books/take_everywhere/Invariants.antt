use Rattle.std.proofs.Common.{◌≡◌, ◌++◌, take, drop}
use Rattle.std.specs.Prelude.{map, not}
use Rattle.mq_queue.specs.declared.row.Row.{Row}
use Rattle.mq_history.specs.declared.story.ManagerPlaces.{ManagerPlaces}
use Rattle.mq_spec_network.specs.Ledger.{is_one_of, leave_queues}
use Rattle.mq_net_books.proofs.books.take_everywhere.Given as goal

abbrev pub invariant-loop-at : goal.invariant-loop-at
invariant-loop-at l = l.accounts ≡ map (λ (p : ManagerPlaces). record p { queues = leave_queues (λ (row : Row). not (is_one_of l.idents row)) p.queues }) (take l.at l.fn.accounts) ++ drop l.at l.fn.accounts
