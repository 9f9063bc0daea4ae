use Rattle.std.proofs.Common.{rules}
use Rattle.std.specs.Prelude.{nat_lt}
use Rattle.std.proofs.lemmas.List.Sorted.{IsPartitionPoint-from_clause}
use Rattle.mq_index.proofs.MarkLaws.{parted}
use Rattle.mq_index.proofs.walk.start_at.Goals as goal

pub returns : goal.returns
returns c =
    IsPartitionPoint-from_clause (λ mark. nat_lt mark c.args.arrival) _ _ c.partition_point.ensures.partitioned (parted c.args.arrival c.args.marks.now c.requires) (λ a r q k. search rules)
