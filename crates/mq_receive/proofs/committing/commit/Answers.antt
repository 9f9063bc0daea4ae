use Rattle.std.proofs.Common.{◌++◌, ◌+◌, ◌*◌, ◌<◌, ◌^◌, ap, sym, subst, refl, arith, ◌∙◌}
use Rattle.std.specs.Prelude.{List, Ok, Err, flat_map, length, ◌∷◌, []}
use Rattle.std.specs.List.{AllByRecursion}
use Rattle.mq_calls.specs.declared.deltas.Did.TheVariants as did
use Rattle.mq_calls.specs.Words.{need}
use Rattle.mq_calls.specs.declared.deltas.Did.{Did}
use Rattle.mq_core.specs.declared.parts.Arrival.{Arrival}
use Rattle.mq_core.specs.Forced.{IsForced}
use Rattle.mq_core.specs.Views.{PartsValue, plain_of}
use Rattle.mq_core.specs.Writes.{arrival_dids}
use Rattle.mq_receive.specs.Filling.{CanStand}
use Rattle.mq_receive.specs.Placed.{AreLanding, IsAwaited}
use Rattle.mq_receive.specs.Committed.{batch_record, batch_part, with_side, WritesBatch}
use Rattle.mq_calls.specs.declared.state.ReceiverSide.{ReceiverSide}
use Rattle.mq_moves.proofs.from_get.PathLaws.{more_same}
use Rattle.mq_receive.proofs.CommitLaws.{unchanged, way_lands, done}
use Rattle.mq_receive.proofs.BrokenLaws.{not_written}
use Rattle.mq_receive.proofs.committing.commit.Goals as goal

pub returns-in-Err : goal.returns-in-Err
returns-in-Err g c = unchanged c.args.parts.now c.args.parts.now c.args.effects.now.dids c.args.effects.now.dids (more_same c.args.parts.now) refl c.requires.tied

pub returns-in-Err-make_room : goal.returns-in-Err-make_room
returns-in-Err-make_room g c = unchanged c.args.parts.now c.make_room.new.parts c.args.effects.now.dids c.make_room.new.effects.dids c.in-Err-make_room.ensures.err c.make_room.ensures.dids c.requires.tied

pub write_received-requires-clause-live : goal.write_received-requires-clause-live
write_received-requires-clause-live g c = ap (λ (x : PartsValue). x.log.live) c.in-Ok-make_room.ensures.ok.same ∙ (c.requires.tied.up c.requires.up).live

pub write_received-requires-clause-room : goal.write_received-requires-clause-room
write_received-requires-clause-room g c =
    let same = ap (λ (l : List Arrival). need (batch_record c.args.channel.now c.args.unit c.args.last l)) c.as_slice-2.ensures in
    omega (arith, same, c.in-Ok-make_room.ensures.ok.log, c.requires.need)

pub write_received-requires-clause-body : goal.write_received-requires-clause-body
write_received-requires-clause-body g c =
    let same = ap (λ (l : List Arrival). need (batch_record c.args.channel.now c.args.unit c.args.last l)) c.as_slice-2.ensures in
    omega (arith, same, c.in-Ok-make_room.ensures.ok.body, c.requires.need)

pub write_received-requires-clause-small : goal.write_received-requires-clause-small
write_received-requires-clause-small g c =
    let same = ap (λ (l : List Arrival). need (batch_record c.args.channel.now c.args.unit c.args.last l)) c.as_slice-2.ensures in
    omega (arith, same, c.requires.need, c.requires.small)

pub write_received-requires-clause-can : goal.write_received-requires-clause-can
write_received-requires-clause-can g c = subst (λ (l : List Arrival). AllByRecursion CanStand l) (sym c.as_slice-2.ensures) c.requires.can

pub returns-in-Err-write_received : goal.returns-in-Err-write_received
returns-in-Err-write_received g c =
    let e = subst (λ (l : List Arrival). IsAwaited l c.args.bytes c.args.parts.now c.make_room.new.parts) c.as_slice.ensures c.in-Ok-make_room.ensures.ok in
    let w = subst (λ (l : List Arrival). WritesBatch (batch_record c.args.channel.now c.args.unit c.args.last l) c.in-Ok.side c.make_room.new.parts (Err c.in-Err-write_received.unwritten) c.write_received.new.parts) c.as_slice-2.ensures
    c.in-Err-write_received.ensures in
    not_written c.in-Err-write_received.unwritten c.args.channel.now c.args.unit c.args.last c.args.landed c.args.bytes (batch_record c.args.channel.now c.args.unit c.args.last c.args.landed) c.in-Ok.side
    c.args.parts.now c.make_room.new.parts c.write_received.new.parts c.give_up.new.parts c.args.effects.now.dids c.make_room.new.effects.dids refl refl c.requires.up e w c.give_up.ensures c.make_room.ensures.dids c.requires.tied

pub tell_received-requires : goal.tell_received-requires
tell_received-requires g c = let long = ap (λ (l : List Arrival). length l) (c.as_slice-3.ensures ∙ sym c.as_slice.ensures) in omega (arith, long, c.in-Ok-make_room.ensures.room)

pub return_room-requires : goal.return_room-requires
return_room-requires g c = omega (arith, c.in-Ok-make_room.ensures.ok.body, c.in-Ok-write_received.ensures.body)

pub place_all-requires : goal.place_all-requires
place_all-requires g c =
    let e = subst (λ (l : List Arrival). IsAwaited l c.args.bytes c.args.parts.now c.make_room.new.parts) c.as_slice.ensures c.in-Ok-make_room.ensures.ok in
    let f = subst (λ (l : List Arrival). IsForced (batch_record c.args.channel.now c.args.unit c.args.last l) (with_side c.in-Ok.side c.make_room.new.parts) (Ok tt) c.write_received.new.parts) c.as_slice-2.ensures c.in-Ok-write_received.ensures in
    let few = subst (λ (l : List Arrival). 2 * length l + 2 < 2 ^ 64) c.as_slice.ensures c.in-Ok-make_room.ensures.few in
    record {
      ready = subst (AreLanding c.args.landed) (sym c.return_room.ensures)
          (way_lands c.args.landed c.args.bytes (batch_record c.args.channel.now c.args.unit c.args.last c.args.landed) c.in-Ok.side c.args.parts.now c.make_room.new.parts c.write_received.new.parts
          c.requires.up c.requires.need e f (c.requires.ends c.in-Ok.side (ap (λ (k : ReceiverSide). k.channel) c.in-Ok.ensures) (ap (λ (k : ReceiverSide). k.hardened.closed) c.in-Ok.ensures)) c.requires.tied c.requires.low c.requires.fits few).ready;
    }

pub returns : goal.returns
returns g c =
    let channel = c.args.channel.now in
    let unit = c.args.unit in
    let last = c.args.last in
    let landed = c.args.landed in
    let x : PartsValue = c.args.parts.now in
    let y : PartsValue = c.make_room.new.parts in
    let z : PartsValue = c.write_received.new.parts in
    let r = batch_record channel unit last landed in
    let e = subst (λ (l : List Arrival). IsAwaited l c.args.bytes x y) c.as_slice.ensures c.in-Ok-make_room.ensures.ok in
    let f = subst (λ (l : List Arrival). IsForced (batch_record channel unit last l) (with_side c.in-Ok.side y) (Ok tt) z) c.as_slice-2.ensures c.in-Ok-write_received.ensures in
    let few = subst (λ (l : List Arrival). 2 * length l + 2 < 2 ^ 64) c.as_slice.ensures c.in-Ok-make_room.ensures.few in
    let lands = way_lands landed c.args.bytes r c.in-Ok.side x y z c.requires.up c.requires.need e f (c.requires.ends c.in-Ok.side (ap (λ (k : ReceiverSide). k.channel) c.in-Ok.ensures) (ap (λ (k : ReceiverSide). k.hardened.closed) c.in-Ok.ensures)) c.requires.tied c.requires.low c.requires.fits few in
    done channel unit last landed c.args.bytes r c.in-Ok.side x y z c.return_room.new.parts c.place_all.new.parts c.args.effects.now.dids c.tell_received.new.effects.dids
    c.in-Ok.ensures c.requires.up e f c.return_room.ensures lands c.place_all.ensures
    (c.tell_received.ensures ∙ ap (λ (l : List Arrival). c.make_room.new.effects.dids ++ (flat_map arrival_dids l ++ did.Received channel unit ∷ [])) c.as_slice-3.ensures
    ∙ ap (λ (ds : List Did). ds ++ (batch_part channel unit last landed (plain_of x)).delta) c.make_room.ensures.dids)
