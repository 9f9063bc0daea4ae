use Rattle.std.proofs.Common.{◌≡◌, drop}
use Rattle.mq_place.specs.States.{rows_removed}
use Rattle.mq_place.proofs.queues.Queues.remove_rows.Given as goal

abbrev pub invariant-loop-ident : goal.invariant-loop-ident
invariant-loop-ident g l = rows_removed l.name (drop l.ident-index l.idents) l.self ≡ rows_removed l.name l.idents l.fn.self
