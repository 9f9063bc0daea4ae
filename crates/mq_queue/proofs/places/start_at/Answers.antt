use Rattle.std.proofs.Common.{rules}
use Rattle.std.proofs.lemmas.List.Sorted.{IsPartitionPoint-from_clause}
use Rattle.mq_queue.specs.Rows.{is_before}
use Rattle.mq_queue.proofs.PlaceLaws.{parted_at}
use Rattle.mq_queue.proofs.places.start_at.Goals as goal

pub returns-clause-place : goal.returns-clause-place
returns-clause-place c =
    IsPartitionPoint-from_clause (λ row. is_before row.place c.args.place) _ _ c.partition_point.ensures.partitioned (parted_at c.args.place c.args.rows.now.items c.requires) (λ a r q k. search rules)
