use Rattle.std.proofs.Common.{ℕ, List, length, ap, arith}
use Rattle.mq_unit.proofs.UnitLaws.{parts_fit, count_adds, count_removes, record_put, removes_fit}
use Rattle.mq_unit.proofs.record.put_unit.Goals as goal

pub overflow_cast-adds : goal.overflow_cast-adds
overflow_cast-adds c =
    let fits = parts_fit c.args.items.now 4294967296 c.requires.small in
    let n = count_adds c.args.items.now in
    let is = c.count_adds-adds.ensures in
    let few = fits.0 in
    omega (arith, few, n, is)

pub overflow_cast-removes : goal.overflow_cast-removes
overflow_cast-removes c =
    let fits = parts_fit c.args.items.now 4294967296 c.requires.small in
    let n = count_removes c.args.items.now in
    let is = c.count_removes-removes.ensures in
    let few = fits.1 in
    omega (arith, few, n, is)

pub put_removes-requires : goal.put_removes-requires
put_removes-requires c =
    removes_fit c.args.items.now c.args.body.now c.put.new.self c.put_adds.new.body c.unit_front.result (ap (λ (f : List ℕ). length f) c.unit_front.ensures) c.put_adds.ensures.adds c.requires.room
    c.put.ensures c.put_adds.ensures.bytes

pub returns-clause-bytes : goal.returns-clause-bytes
returns-clause-bytes c =
    record_put c.args.items.now c.args.body.now c.put.new.self c.put_adds.new.body c.put_removes.new.body c.unit_front.result c.count_adds-adds.result c.count_removes-removes.result c.unit_front.ensures
    c.count_adds-adds.ensures c.count_removes-removes.ensures c.put.ensures c.put_adds.ensures.bytes c.put_removes.ensures.bytes

pub returns-clause-record : goal.returns-clause-record
returns-clause-record c =
    let fits = parts_fit c.args.items.now 4294967296 c.requires.small in
    (record { count = fits.0; each = c.put_adds.ensures.adds }, record { count = fits.1; each = c.put_removes.ensures.removes })
