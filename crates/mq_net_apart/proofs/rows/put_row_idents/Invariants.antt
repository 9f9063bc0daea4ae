use Rattle.std.proofs.Common.{◌≡◌, ◌++◌, take}
use Rattle.std.specs.List.{flat_map}
use Rattle.mq_net_apart.specs.Opened.{all_of}
use Rattle.mq_net_apart.proofs.rows.put_row_idents.Given as goal

abbrev pub invariant-managers : goal.invariant-managers
invariant-managers l = l.out ≡ l.fn.out ++ flat_map all_of (take l.history-index l.histories)
