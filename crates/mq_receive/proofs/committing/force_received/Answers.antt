use Rattle.std.proofs.Common.{◌+◌, ◌≤◌, ◌++◌, ap, arith, ◌∙◌}
use Rattle.std.specs.Prelude.{length}
use Rattle.mq_record.specs.Room.{Buffered}
use Rattle.mq_record.specs.Records.{record_bytes}
use Rattle.mq_core.specs.Views.{PartsValue}
use Rattle.mq_core.proofs.ForceLaws.{forced_from}
use Rattle.mq_receive.specs.Committed.{batch_record}
use Rattle.mq_receive.proofs.committing.force_received.Goals as goal

pub force_body-requires-clause-small : goal.force_body-requires-clause-small
force_body-requires-clause-small g c =
    let r = batch_record c.args.channel.now c.args.unit c.args.last c.args.landed.now in
    let bytes = ap (λ (b : Buffered). b.bytes) c.put_received.ensures.bytes ∙ ap (λ (b : Buffered). b.bytes ++ record_bytes r) c.clear.ensures in
    let size = ap length bytes ∙ c.put_received.ensures.size in
    omega (arith, size, c.requires.small)

pub force_body-requires-clause-room : goal.force_body-requires-clause-room
force_body-requires-clause-room g c =
    let r = batch_record c.args.channel.now c.args.unit c.args.last c.args.landed.now in
    let bytes = ap (λ (b : Buffered). b.bytes) c.put_received.ensures.bytes ∙ ap (λ (b : Buffered). b.bytes ++ record_bytes r) c.clear.ensures in
    let size = ap length bytes ∙ c.put_received.ensures.size in
    let room = ap (λ (x : PartsValue). x.log.room) c.parts.view_is in
    omega (arith, size, room, c.requires.room)

pub returns : goal.returns
returns g c =
    let r = batch_record c.args.channel.now c.args.unit c.args.last c.args.landed.now in
    let bytes = ap (λ (b : Buffered). b.bytes) c.put_received.ensures.bytes ∙ ap (λ (b : Buffered). b.bytes ++ record_bytes r) c.clear.ensures in
    let whole = c.put_received.ensures.size in
    let long = ap length bytes in
    let x : PartsValue = c.args.parts.now in
    let z : PartsValue = record {
      number = c.parts.inside.number;
      name = c.parts.inside.name;
      mode = c.parts.inside.mode;
      defs = c.parts.inside.defs;
      queues = c.parts.inside.queues;
      desk = c.parts.inside.live;
      ends = c.parts.inside.ends;
      moment = c.parts.inside.moment;
      incarnation = c.parts.inside.incarnation;
      idents = c.parts.inside.idents;
      log = c.parts.inside.log;
      body = c.put_received.new.body;
    } in
    let taken = ap (λ (x : PartsValue). x.body.room + length x.body.bytes) c.parts.view_is in
    let cleared = ap (λ (b : Buffered). b.room) c.clear.ensures in
    let left = ap (λ (b : Buffered). b.room) c.put_received.ensures.bytes in
    let room : x.body.room + length x.body.bytes ≤ c.put_received.new.body.room + length c.put_received.new.body.bytes = omega (arith, taken, cleared, left, long) in
    forced_from r x z c.force_body.new.self c.force_body.result (λ i. record (c.parts.view_is i) { body = c.put_received.new.body }) room (c.force_body.ensures r bytes c.put_received.ensures.record whole)
