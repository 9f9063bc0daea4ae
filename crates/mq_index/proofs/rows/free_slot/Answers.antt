use Rattle.std.proofs.Common.{sym, ◌∙◌}
use Rattle.mq_index.proofs.RowLaws.{not_freed, unit_slot}
use Rattle.mq_index.proofs.rows.free_slot.Goals as goal

pub returns-then-is_in_unit-clause-freed : goal.returns-then-is_in_unit-clause-freed
returns-then-is_in_unit-clause-freed c slot there = unit_slot c.args.store.now.slots c.release.new.self.slots c.args.at slot _ there (sym (c.is_in_unit.ensures slot there) ∙ c.if-is_in_unit.true) c.release.ensures.released

pub returns-else-is_in_unit-clause-freed : goal.returns-else-is_in_unit-clause-freed
returns-else-is_in_unit-clause-freed c slot there = not_freed c.args.store.now.slots c.args.at slot there (sym (c.is_in_unit.ensures slot there) ∙ c.if-is_in_unit.false)
