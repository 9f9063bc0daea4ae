use Rattle.std.proofs.Common.{◌≡◌, ◌++◌, take}
use Rattle.std.specs.List.{flat_map}
use Rattle.mq_net_stands.specs.Stands.{ident_part}
use Rattle.mq_net_stands.proofs.stands.put_ident_parts.Given as goal

abbrev pub invariant-loop-row : goal.invariant-loop-row
invariant-loop-row l = l.out ≡ l.fn.out ++ flat_map ident_part (take l.row-index l.rows)
