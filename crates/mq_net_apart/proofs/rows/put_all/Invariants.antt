use Rattle.std.proofs.Common.{◌≡◌, ◌++◌, take}
use Rattle.std.specs.Prelude.{map}
use Rattle.mq_net_apart.specs.Opened.{ident_of}
use Rattle.mq_net_apart.proofs.rows.put_all.Given as goal

abbrev pub invariant-rows : goal.invariant-rows
invariant-rows l = l.out ≡ l.fn.out ++ map ident_of (take l.row-index l.rows)
