use Rattle.std.proofs.Common.{◌≡◌, drop}
use Rattle.mq_message.specs.declared.place.Holder.TheVariants as holders
use Rattle.mq_shelves.specs.Holds.{held_each}
use Rattle.mq_shelves.proofs.shelves.hold_each.Given as goal

abbrev pub invariant-loop-ident : goal.invariant-loop-ident
invariant-loop-ident l = held_each l.queue (holders.Batch l.channel) (drop l.ident-index l.idents) l.rows ≡ held_each l.queue (holders.Batch l.channel) l.idents l.fn.rows
