use Rattle.std.proofs.Common.{◌≡◌, drop}
use Rattle.mq_place.specs.States.{on_rows, release_each}
use Rattle.mq_place.proofs.local.LocalRows.release_each.Given as goal

abbrev pub invariant-loop-ident : goal.invariant-loop-ident
invariant-loop-ident g l = on_rows (release_each (drop l.ident-index l.idents) l.backed_out) l.self ≡ on_rows (release_each l.idents l.backed_out) l.fn.self
