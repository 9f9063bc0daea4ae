use Rattle.std.proofs.Common.{sym, ◌∙◌}
use Rattle.mq_message.specs.declared.place.Holder.TheVariants as holders
use Rattle.mq_shelves.proofs.ViewLaws.{held_gone, not_held_gone}
use Rattle.mq_shelves.proofs.rows.Rows.remove_held.Goals as goal

pub returns-then-is_held_by : goal.returns-then-is_held_by
returns-then-is_held_by c = c.remove.ensures ∙ held_gone c.args.ident.now c.args.self.now (holders.Batch c.args.channel.now) (c.is_held_by.ensures.all c.if-is_held_by.true)

pub returns-else-is_held_by : goal.returns-else-is_held_by
returns-else-is_held_by c = not_held_gone c.args.ident.now c.args.self.now (holders.Batch c.args.channel.now) (sym c.is_held_by.ensures.there ∙ c.if-is_held_by.false)
