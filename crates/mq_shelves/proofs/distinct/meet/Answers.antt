use Rattle.std.proofs.Common.{true, ap, ◌∙◌}
use Rattle.std.specs.Prelude.{is_some}
use Rattle.indexmap.specs.IndexMap.{get}
use Rattle.mq_message.specs.declared.message.Ident.{Ident}
use Rattle.mq_queue.specs.Rows.{same_ident}
use Rattle.mq_shelves.proofs.DistinctLaws.{some_if}
use Rattle.mq_shelves.proofs.distinct.meet.Goals as goal

pub returns-clause-now : goal.returns-clause-now
returns-clause-now c = λ (other : Ident). ap is_some (c.in_ok-before.ensures.updates.0 other) ∙ some_if true (same_ident c.args.ident.now other) (get same_ident c.args.met.now other)
