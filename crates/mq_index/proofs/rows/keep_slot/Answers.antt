use Rattle.std.proofs.Common.{sym, ◌∙◌}
use Rattle.mq_index.proofs.RowLaws.{not_kept}
use Rattle.mq_index.proofs.rows.keep_slot.Goals as goal

pub returns-else-is_passing-clause-kept : goal.returns-else-is_passing-clause-kept
returns-else-is_passing-clause-kept c slot there = not_kept c.args.store.now.slots c.args.at slot there (sym (c.is_passing.ensures slot there) ∙ c.if-is_passing.false)
