use Rattle.std.proofs.Common.{◌≡◌, ℕ, ◌+◌, ◌≤◌, ◌∙◌, ap, arith}
use Rattle.std.specs.Prelude.{List, [], ◌∷◌, length}
use Rattle.mq_calls.specs.declared.records.Remove.{Remove}
use Rattle.mq_calls.specs.declared.records.LogRecord.TheVariants as records
use Rattle.mq_record.specs.Room.{Buffered}
use Rattle.mq_record.proofs.SizeLaws.{record_whole}
use Rattle.mq_core.specs.Views.{PartsValue}
use Rattle.mq_core.proofs.ForceLaws.{forced_from}
use Rattle.mq_agents.proofs.RemoveLaws.{remove_are, remove_record, remove_length}
use Rattle.mq_agents.proofs.discarding.force_remove.Goals as goal

pub put_remove-requires : goal.put_remove-requires
put_remove-requires g c =
    let taken = ap (λ (x : PartsValue). x.body.room + length x.body.bytes) c.parts.view_is in
    let cleared = ap (λ (b : Buffered). b.room) c.clear.ensures in
    let first = ap (λ (b : Buffered). b.room) c.put.ensures in
    let nine : length c.unit_front.result ≡ 9 = ap (λ (f : List ℕ). length f) c.unit_front.ensures in
    omega (arith, taken, cleared, first, nine, c.requires.body)

pub force_body-requires-clause-live : goal.force_body-requires-clause-live
force_body-requires-clause-live g c = ap (λ (x : PartsValue). x.log.live) c.parts.view_is ∙ c.requires.live

pub force_body-requires-clause-small : goal.force_body-requires-clause-small
force_body-requires-clause-small g c =
    let r : Remove = record { queue = c.args.queue.now; ident = c.args.ident.now } in
    let bytes = remove_are r c.unit_front.result c.clear.new.self c.put.new.self c.put_remove.new.self (ap (λ (b : Buffered). b.bytes) c.clear.ensures) c.unit_front.ensures c.put.ensures c.put_remove.ensures.bytes in
    let size = ap length bytes ∙ record_whole (records.Unit [] (r ∷ [])) (remove_record r c.put_remove.ensures.remove) in
    omega (arith, size)

pub force_body-requires-clause-room : goal.force_body-requires-clause-room
force_body-requires-clause-room g c =
    let r : Remove = record { queue = c.args.queue.now; ident = c.args.ident.now } in
    let bytes = remove_are r c.unit_front.result c.clear.new.self c.put.new.self c.put_remove.new.self (ap (λ (b : Buffered). b.bytes) c.clear.ensures) c.unit_front.ensures c.put.ensures c.put_remove.ensures.bytes in
    let size = ap length bytes ∙ record_whole (records.Unit [] (r ∷ [])) (remove_record r c.put_remove.ensures.remove) in
    let room = ap (λ (x : PartsValue). x.log.room) c.parts.view_is in
    omega (arith, size, room, c.requires.room)

pub returns : goal.returns
returns g c =
    let r : Remove = record { queue = c.args.queue.now; ident = c.args.ident.now } in
    let bytes = remove_are r c.unit_front.result c.clear.new.self c.put.new.self c.put_remove.new.self (ap (λ (b : Buffered). b.bytes) c.clear.ensures) c.unit_front.ensures c.put.ensures c.put_remove.ensures.bytes in
    let whole = record_whole (records.Unit [] (r ∷ [])) (remove_record r c.put_remove.ensures.remove) in
    let x : PartsValue = c.args.parts.now in
    let z : PartsValue = record {
      number = c.parts.inside.number;
      name = c.parts.inside.name;
      mode = c.parts.inside.mode;
      defs = c.parts.inside.defs;
      queues = c.parts.inside.queues;
      desk = c.parts.inside.live;
      ends = c.parts.inside.ends;
      moment = c.parts.inside.moment;
      incarnation = c.parts.inside.incarnation;
      idents = c.parts.inside.idents;
      log = c.parts.inside.log;
      body = c.put_remove.new.self;
    } in
    let taken = ap (λ (x : PartsValue). x.body.room + length x.body.bytes) c.parts.view_is in
    let cleared = ap (λ (b : Buffered). b.room) c.clear.ensures in
    let first = ap (λ (b : Buffered). b.room) c.put.ensures in
    let second = ap (λ (b : Buffered). b.room) c.put_remove.ensures.bytes in
    let nine : length c.unit_front.result ≡ 9 = ap (λ (f : List ℕ). length f) c.unit_front.ensures in
    let size = ap length bytes ∙ whole in
    let room : x.body.room + length x.body.bytes ≤ c.put_remove.new.self.room + length c.put_remove.new.self.bytes =
    let piece = remove_length r c.put_remove.ensures.remove in
    omega (arith, taken, cleared, first, second, nine, size, piece) in
    forced_from (records.Unit [] (r ∷ [])) x z c.force_body.new.self c.force_body.result (λ i. record (c.parts.view_is i) { body = c.put_remove.new.self }) room
    (c.force_body.ensures (records.Unit [] (r ∷ [])) bytes (λ named. remove_record r c.put_remove.ensures.remove) whole)
