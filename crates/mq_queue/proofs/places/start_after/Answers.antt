use Rattle.std.proofs.Common.{rules}
use Rattle.std.specs.Prelude.{not}
use Rattle.std.proofs.lemmas.List.Sorted.{IsPartitionPoint-from_clause}
use Rattle.mq_queue.specs.Rows.{is_after}
use Rattle.mq_queue.proofs.PlaceLaws.{parted_after, start_after}
use Rattle.mq_queue.proofs.places.start_after.Goals as goal

pub returns-clause-place : goal.returns-clause-place
returns-clause-place c =
    start_after c.args.after c.args.rows.now.items c.partition_point.result
    (IsPartitionPoint-from_clause (λ row. not (is_after c.args.after row)) _ _ c.partition_point.ensures.partitioned (parted_after c.args.after c.args.rows.now.items c.requires) (λ a r q k. search rules))
