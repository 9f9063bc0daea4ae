use Rattle.std.proofs.Common.{◌≡◌, drop}
use Rattle.mq_message.specs.declared.place.Holder.TheVariants as holders
use Rattle.mq_shelves.specs.Holds.{removed_each}
use Rattle.mq_shelves.proofs.shelves.remove_each.Given as goal

abbrev pub invariant-loop-ident : goal.invariant-loop-ident
invariant-loop-ident l = removed_each (holders.Batch l.channel) (drop l.ident-index l.idents) l.rows ≡ removed_each (holders.Batch l.channel) l.idents l.fn.rows
