use Rattle.std.proofs.Common.{◌≡◌, ◌++◌, drop}
use Rattle.mq_net_rows.specs.Stored.{shelves_of}
use Rattle.mq_net_rows.proofs.copies.copy_shelves.Given as goal

abbrev pub invariant-queues : goal.invariant-queues
invariant-queues l = l.out ++ shelves_of l.store (drop l.queue-index l.queues) ≡ shelves_of l.store l.fn.queues
