use Rattle.std.proofs.Common.{sym, ◌∙◌}
use Rattle.mq_message.specs.declared.place.Holder.TheVariants as holders
use Rattle.mq_shelves.proofs.ViewLaws.{held_there, not_held_there}
use Rattle.mq_shelves.proofs.rows.Rows.hold.Goals as goal

pub returns-then-stands_at : goal.returns-then-stands_at
returns-then-stands_at c = c.tag.ensures ∙ held_there c.args.ident.now c.args.self.now (holders.Batch c.args.channel.now) c.args.queue.now (c.stands_at.ensures.all c.if-stands_at.true)

pub returns-else-stands_at : goal.returns-else-stands_at
returns-else-stands_at c = not_held_there c.args.ident.now c.args.self.now (holders.Batch c.args.channel.now) c.args.queue.now (sym c.stands_at.ensures.there ∙ c.if-stands_at.false)
