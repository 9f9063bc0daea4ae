use Rattle.std.proofs.Common.{ltb, rules, arith, sym, ap, ◌∙◌}
use Rattle.std.proofs.lemmas.List.Sorted.{IsPartitionPoint-from_clause, IsPartitionedBy-ltb}
use Rattle.mq_handles.specs.Rising.{connection_number}
use Rattle.mq_handles.proofs.RisingLaws.{rising, found, missed_end, missed_at}
use Rattle.mq_handles.proofs.numbers.place_of_connection.Goals as goal

pub returns-then-at-seats : goal.returns-then-at-seats
returns-then-at-seats c =
    let parted = IsPartitionedBy-ltb connection_number _ c.args.number (rising connection_number c.args.seats.now c.requires) in
    let at = IsPartitionPoint-from_clause (λ x. ltb (connection_number x) c.args.number) _ _ c.partition_point-at.ensures.partitioned parted (λ a r q k. search rules) in
    sym (missed_end connection_number c.args.number c.args.seats.now c.partition_point-at.result c.requires at c.if-at-seats.true)

pub returns-then-number : goal.returns-then-number
returns-then-number c =
    let parted = IsPartitionedBy-ltb connection_number _ c.args.number (rising connection_number c.args.seats.now c.requires) in
    let at = IsPartitionPoint-from_clause (λ x. ltb (connection_number x) c.args.number) _ _ c.partition_point-at.ensures.partitioned parted (λ a r q k. search rules) in
    let within = c.partition_point-at.ensures.bound in
    let not_end = c.if-at-seats.false in
    sym (found connection_number c.args.number c.args.seats.now c.partition_point-at.result c.index-seats-at.result at (omega (arith, within, not_end)) (ap connection_number (sym c.index-seats-at.is) ∙ sym c.number.ensures ∙ c.if-number.true))

pub returns-else-number : goal.returns-else-number
returns-else-number c =
    let parted = IsPartitionedBy-ltb connection_number _ c.args.number (rising connection_number c.args.seats.now c.requires) in
    let at = IsPartitionPoint-from_clause (λ x. ltb (connection_number x) c.args.number) _ _ c.partition_point-at.ensures.partitioned parted (λ a r q k. search rules) in
    sym (missed_at connection_number c.args.number c.args.seats.now c.partition_point-at.result c.index-seats-at.result c.requires at (λ e. c.if-number.false (c.number.ensures ∙ ap connection_number c.index-seats-at.is ∙ e)))
