use Rattle.std.proofs.Common.{◌+◌, ◌<◌, ◌≤◌, ◌^◌, ◌∙◌, sym, ap, subst, arith, length}
use Rattle.std.specs.Prelude.{List, Some, is_some}
use Rattle.mq_calls.specs.Words.{connection_at, unit_need, record_size}
use Rattle.mq_calls.specs.declared.state.Connection.{Connection}
use Rattle.mq_calls.specs.declared.state.Item.{Item}
use Rattle.mq_calls.specs.declared.records.LogRecord.{LogRecord}
use Rattle.mq_spec_manager.specs.Units.{adds_of, removes_of, record_of}
use Rattle.mq_core.specs.from_record.Room.{Buffered}
use Rattle.mq_core.proofs.from_record.SizeLaws.{record_whole}
use Rattle.mq_core.specs.from_unit.Forced.{unit_record}
use Rattle.mq_core.specs.Views.{PartsValue}
use Rattle.mq_core.proofs.MeetLaws.{if_some, some_of}
use Rattle.mq_core.proofs.ForceLaws.{forced_from}
use Rattle.mq_ends.specs.Ends.{IfForced}
use Rattle.mq_ends.proofs.CommitLaws.{unit_there, need_there, written_is, with_body}
use Rattle.mq_ends.proofs.units.force_unit.Goals as goal

pub write_record-requires-clause-room : goal.write_record-requires-clause-room
write_record-requires-clause-room g c =
    let con : Connection = c.in-Some.seat.now in
    let found = sym (c.in-Some.ensures.found ∙ ap (λ (x : PartsValue). connection_at c.args.number x.desk.live) c.parts.view_is) in
    let forced = ap (λ (u : List Item). is_some (record_of (adds_of u) (removes_of u))) (sym c.unit.ensures) ∙ sym c.is_forced.ensures ∙ c.if-not-is_forced.false in
    let size = ap (λ (u : List Item). record_size (unit_record u)) c.unit-2.ensures in
    let need = need_there con forced in
    let body = if_some (λ (d : Connection). unit_need d.unit ≤ c.args.parts.now.body.room + length c.args.parts.now.body.bytes) _ con found c.requires.body in
    let cleared = ap (λ (b : Buffered). b.room) c.clear.ensures in
    let taken = ap (λ (x : PartsValue). x.body.room + length x.body.bytes) c.parts.view_is in
    omega (arith, size, need, body, cleared, taken)

pub write_record-requires-clause-small : goal.write_record-requires-clause-small
write_record-requires-clause-small g c =
    let con : Connection = c.in-Some.seat.now in
    let found = sym (c.in-Some.ensures.found ∙ ap (λ (x : PartsValue). connection_at c.args.number x.desk.live) c.parts.view_is) in
    let forced = ap (λ (u : List Item). is_some (record_of (adds_of u) (removes_of u))) (sym c.unit.ensures) ∙ sym c.is_forced.ensures ∙ c.if-not-is_forced.false in
    let size = ap (λ (u : List Item). record_size (unit_record u)) c.unit-2.ensures in
    let need = need_there con forced in
    let small = if_some (λ (d : Connection). unit_need d.unit < 2 ^ 32) _ con found c.requires.small in
    omega (arith, size, need, small)

pub force_body-requires-clause-small : goal.force_body-requires-clause-small
force_body-requires-clause-small g c =
    let con : Connection = c.in-Some.seat.now in
    let found = sym (c.in-Some.ensures.found ∙ ap (λ (x : PartsValue). connection_at c.args.number x.desk.live) c.parts.view_is) in
    let forced = ap (λ (u : List Item). is_some (record_of (adds_of u) (removes_of u))) (sym c.unit.ensures) ∙ sym c.is_forced.ensures ∙ c.if-not-is_forced.false in
    let r = unit_record c.unit-2.result.now in
    let size = ap (λ (u : List Item). record_size (unit_record u)) c.unit-2.ensures in
    let need = need_there con forced in
    let small = if_some (λ (d : Connection). unit_need d.unit < 2 ^ 32) _ con found c.requires.small in
    let bytes = ap length (written_is r c.clear.new.self c.write_record.new.body (ap (λ (b : Buffered). b.bytes) c.clear.ensures) c.write_record.ensures.bytes) ∙ record_whole r c.write_record.ensures.record in
    omega (arith, size, need, small, bytes)

pub force_body-requires-clause-room : goal.force_body-requires-clause-room
force_body-requires-clause-room g c =
    let con : Connection = c.in-Some.seat.now in
    let found = sym (c.in-Some.ensures.found ∙ ap (λ (x : PartsValue). connection_at c.args.number x.desk.live) c.parts.view_is) in
    let forced = ap (λ (u : List Item). is_some (record_of (adds_of u) (removes_of u))) (sym c.unit.ensures) ∙ sym c.is_forced.ensures ∙ c.if-not-is_forced.false in
    let r = unit_record c.unit-2.result.now in
    let size = ap (λ (u : List Item). record_size (unit_record u)) c.unit-2.ensures in
    let need = need_there con forced in
    let room = if_some (λ (d : Connection). unit_need d.unit ≤ c.args.parts.now.log.room) _ con found c.requires.room in
    let log = ap (λ (x : PartsValue). x.log.room) c.parts.view_is in
    let bytes = ap length (written_is r c.clear.new.self c.write_record.new.body (ap (λ (b : Buffered). b.bytes) c.clear.ensures) c.write_record.ensures.bytes) ∙ record_whole r c.write_record.ensures.record in
    omega (arith, size, need, room, log, bytes)

pub returns : goal.returns
unfolding with_body
returns g c =
    let con : Connection = c.in-Some.seat.now in
    let old : PartsValue = c.args.parts.now in
    let found = sym (c.in-Some.ensures.found ∙ ap (λ (x : PartsValue). connection_at c.args.number x.desk.live) c.parts.view_is) in
    let forced = ap (λ (u : List Item). is_some (record_of (adds_of u) (removes_of u))) (sym c.unit.ensures) ∙ sym c.is_forced.ensures ∙ c.if-not-is_forced.false in
    let r = unit_record c.unit-2.result.now in
    let same = ap unit_record c.unit-2.ensures in
    let size = ap record_size same in
    let need = need_there con forced in
    let is = written_is r c.clear.new.self c.write_record.new.body (ap (λ (b : Buffered). b.bytes) c.clear.ensures) c.write_record.ensures.bytes in
    let whole = record_whole r c.write_record.ensures.record in
    let bytes = ap length is ∙ whole in
    let body = if_some (λ (d : Connection). unit_need d.unit ≤ old.body.room + length old.body.bytes) _ con found c.requires.body in
    let cleared = ap (λ (b : Buffered). b.room) c.clear.ensures in
    let left = ap (λ (b : Buffered). b.room) c.write_record.ensures.bytes in
    let taken = ap (λ (x : PartsValue). x.body.room + length x.body.bytes) c.parts.view_is in
    some_of (λ (d : Connection). IfForced (record_of (adds_of d.unit) (removes_of d.unit)) old c.force_body.result c.force_body.new.self) _ con found
    (subst (λ o. IfForced o old c.force_body.result c.force_body.new.self) (sym (unit_there con forced))
    (subst (λ (k : LogRecord). IfForced (Some k) old c.force_body.result c.force_body.new.self) same
    (forced_from r old _ c.force_body.new.self c.force_body.result (ap (with_body c.write_record.new.body) c.parts.view_is)
    (omega (arith, size, need, body, cleared, left, taken, bytes, whole)) (c.force_body.ensures r is (λ named. c.write_record.ensures.record) whole))))
