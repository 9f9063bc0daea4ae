use Rattle.std.proofs.Common.{ap, true, ◌∙◌}
use Rattle.mq_shelves.specs.Racks.{any_row}
use Rattle.mq_shelves.proofs.ViewLaws.{dropped}
use Rattle.mq_shelves.proofs.rows.Rows.replace.Goals as goal

pub put-requires : goal.put-requires
put-requires c = ap (any_row (λ n row. true) c.args.message.ident) c.remove.ensures ∙ dropped c.args.message.ident c.args.self.now
