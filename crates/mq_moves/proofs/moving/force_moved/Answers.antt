use Rattle.std.proofs.Common.{◌+◌, ◌≤◌, ◌∙◌, ap, arith}
use Rattle.std.specs.Prelude.{length}
use Rattle.std.proofs.lemmas.List.{length-append}
use Rattle.mq_calls.specs.declared.records.LogRecord.{LogRecord}
use Rattle.mq_calls.specs.declared.records.LogRecord.TheVariants as records
use Rattle.mq_frame.specs.Frames.{message_bytes}
use Rattle.mq_agents.specs.from_record.Room.{Buffered}
use Rattle.mq_agents.proofs.from_record.SizeLaws.{record_whole}
use Rattle.mq_agents.specs.from_core.Views.{PartsValue}
use Rattle.mq_agents.proofs.from_core.ForceLaws.{forced_from}
use Rattle.mq_moves.proofs.MoveLaws.{moved_are}
use Rattle.mq_moves.proofs.moving.force_moved.Goals as goal

pub force_body-requires-clause-live : goal.force_body-requires-clause-live
force_body-requires-clause-live g c = ap (λ (x : PartsValue). x.log.live) c.parts.view_is ∙ c.requires.live

pub force_body-requires-clause-small : goal.force_body-requires-clause-small
force_body-requires-clause-small g c =
    let m = c.args.message.now in
    let r : LogRecord = records.Moved c.args.from.now m.ident c.args.to.now m in
    let bytes = moved_are c.args.from.now c.args.to.now m c.moved_front.result c.clear.new.self c.put.new.self c.put_message.new.self (ap (λ (b : Buffered). b.bytes) c.clear.ensures) c.moved_front.ensures.bytes c.put.ensures c.put_message.ensures.bytes in
    let size = ap length bytes.0 ∙ record_whole r (c.moved_front.ensures.record m (c.put_message.ensures.message c.requires.kept)) in
    omega (arith, size, c.requires.small)

pub force_body-requires-clause-room : goal.force_body-requires-clause-room
force_body-requires-clause-room g c =
    let m = c.args.message.now in
    let r : LogRecord = records.Moved c.args.from.now m.ident c.args.to.now m in
    let bytes = moved_are c.args.from.now c.args.to.now m c.moved_front.result c.clear.new.self c.put.new.self c.put_message.new.self (ap (λ (b : Buffered). b.bytes) c.clear.ensures) c.moved_front.ensures.bytes c.put.ensures c.put_message.ensures.bytes in
    let size = ap length bytes.0 ∙ record_whole r (c.moved_front.ensures.record m (c.put_message.ensures.message c.requires.kept)) in
    let room = ap (λ (x : PartsValue). x.log.room) c.parts.view_is in
    omega (arith, size, room, c.requires.room)

pub returns : goal.returns
returns g c =
    let m = c.args.message.now in
    let r : LogRecord = records.Moved c.args.from.now m.ident c.args.to.now m in
    let bytes = moved_are c.args.from.now c.args.to.now m c.moved_front.result c.clear.new.self c.put.new.self c.put_message.new.self (ap (λ (b : Buffered). b.bytes) c.clear.ensures) c.moved_front.ensures.bytes c.put.ensures c.put_message.ensures.bytes in
    let fits = c.moved_front.ensures.record m (c.put_message.ensures.message c.requires.kept) in
    let whole = record_whole r fits in
    let x : PartsValue = c.args.parts.now in
    let z : PartsValue = record {
      number = c.parts.inside.number;
      name = c.parts.inside.name;
      mode = c.parts.inside.mode;
      defs = c.parts.inside.defs;
      queues = c.parts.inside.queues;
      desk = c.parts.inside.live;
      ends = c.parts.inside.ends;
      moment = c.parts.inside.moment;
      incarnation = c.parts.inside.incarnation;
      idents = c.parts.inside.idents;
      log = c.parts.inside.log;
      body = c.put_message.new.self;
    } in
    let taken = ap (λ (x : PartsValue). x.body.room + length x.body.bytes) c.parts.view_is in
    let cleared = ap (λ (b : Buffered). b.room) c.clear.ensures in
    let first = ap (λ (b : Buffered). b.room) c.put.ensures in
    let second = ap (λ (b : Buffered). b.room) c.put_message.ensures.bytes in
    let sum = ap length bytes.1 ∙ length-append c.moved_front.result (message_bytes m) in
    let room : x.body.room + length x.body.bytes ≤ c.put_message.new.self.room + length c.put_message.new.self.bytes = omega (arith, taken, cleared, first, second, sum) in
    forced_from r x z c.force_body.new.self c.force_body.result (λ i. record (c.parts.view_is i) { body = c.put_message.new.self }) room
    (c.force_body.ensures r bytes.0 (λ named. fits) whole)
