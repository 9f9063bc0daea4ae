use Rattle.std.proofs.Common.{◌≡◌, ◌++◌, drop}
use Rattle.mq_net_books.specs.Openings.{AreNewFrom}
use Rattle.mq_net_books.proofs.accounts.defs_of.Given as goal

abbrev pub invariant-filling : goal.invariant-filling
invariant-filling l = record {
  objects : l.defs.definitions.objects ++ drop l.object-index l.fn.definitions.objects ≡ l.fn.definitions.objects;
  new : AreNewFrom l.defs.definitions.objects (drop l.object-index l.fn.definitions.objects);
  manager : l.defs.definitions.manager ≡ l.fn.definitions.manager;
}
