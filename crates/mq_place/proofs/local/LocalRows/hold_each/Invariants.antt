use Rattle.std.proofs.Common.{◌≡◌, drop}
use Rattle.mq_place.specs.States.{on_rows, hold_each}
use Rattle.mq_place.proofs.local.LocalRows.hold_each.Given as goal

abbrev pub invariant-loop-ident : goal.invariant-loop-ident
invariant-loop-ident g l = on_rows (hold_each (drop l.ident-index l.idents) l.by) l.self ≡ on_rows (hold_each l.idents l.by) l.fn.self
