use Rattle.std.proofs.Common.{leb, rules}
use Rattle.std.proofs.lemmas.List.Sorted.{IsPartitionPoint-from_clause, IsPartitionedBy-leb}
use Rattle.mq_queue.proofs.EndLaws.{rising}
use Rattle.mq_queue.proofs.places.end_of_lane.Goals as goal

pub returns-clause-place : goal.returns-clause-place
returns-clause-place c =
    let parted = IsPartitionedBy-leb (λ row. row.place.lane) _ c.args.lane (rising c.args.rows.now.items c.requires) in
    IsPartitionPoint-from_clause (λ row. leb row.place.lane c.args.lane) _ _ c.partition_point.ensures.partitioned parted (λ a r q k. search rules)
