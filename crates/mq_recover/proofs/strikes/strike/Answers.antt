use Rattle.std.proofs.Common.{ap, ◌∙◌}
use Rattle.std.specs.Prelude.{is_some}
use Rattle.indexmap.specs.IndexMap.{get}
use Rattle.mq_message.specs.declared.message.Ident.{Ident}
use Rattle.mq_queue.specs.Rows.{same_ident}
use Rattle.mq_shelves.proofs.DistinctLaws.{some_if}
use Rattle.mq_recover.specs.Kept.{or_never}
use Rattle.mq_recover.proofs.StrikeLaws.{never_if}
use Rattle.mq_recover.proofs.strikes.strike.Goals as goal

pub returns-clause-known : goal.returns-clause-known
returns-clause-known c = λ (other : Ident). ap is_some (c.in_ok-insert.ensures.updates.0 other) ∙ some_if c.args.number (same_ident c.args.ident.now other) (get same_ident c.args.struck.now other)

pub returns-clause-struck : goal.returns-clause-struck
returns-clause-struck c = λ (other : Ident). ap or_never (c.in_ok-insert.ensures.updates.0 other) ∙ never_if c.args.number (same_ident c.args.ident.now other) (get same_ident c.args.struck.now other)
