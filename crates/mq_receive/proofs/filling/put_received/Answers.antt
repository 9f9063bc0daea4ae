use Rattle.std.proofs.Common.{ℕ, List, length, ap, arith}
use Rattle.mq_record.specs.Room.{Buffered}
use Rattle.mq_receive.proofs.FillLaws.{adds_fit, received_put, received_size}
use Rattle.mq_receive.proofs.filling.put_received.Goals as goal

pub overflow_cast-adds : goal.overflow_cast-adds
overflow_cast-adds c = let few = adds_fit c.args.landed.now 4294967296 c.requires.small in omega (arith, few, c.count_adds-adds.ensures)

pub put_adds-requires-clause-room : goal.put_adds-requires-clause-room
put_adds-requires-clause-room c =
    let front = ap (λ (f : List ℕ). length f) c.received_front.ensures.bytes in
    let left = ap (λ (b : Buffered). b.room) c.put.ensures in
    omega (arith, c.requires.room, c.received_front.type_inv, left)

pub returns-clause-bytes : goal.returns-clause-bytes
returns-clause-bytes c =
    received_put c.args.channel.now c.args.unit c.args.last c.count_adds-adds.result c.args.landed.now c.args.body.now c.put.new.self c.put_adds.new.body c.received_front.result
    c.count_adds-adds.ensures c.received_front.ensures.bytes c.put.ensures c.put_adds.ensures.bytes

pub returns-clause-record : goal.returns-clause-record
returns-clause-record c = λ some. c.received_front.ensures.record some _ (record { count = adds_fit c.args.landed.now 4294967296 c.requires.small; each = c.put_adds.ensures.adds })

pub returns-clause-size : goal.returns-clause-size
returns-clause-size c =
    received_size c.args.channel.now c.args.unit c.args.last c.count_adds-adds.result c.args.landed.now c.received_front.result
    c.count_adds-adds.ensures c.received_front.ensures.bytes (omega (arith, c.received_front.type_inv)) c.put_adds.ensures.adds
