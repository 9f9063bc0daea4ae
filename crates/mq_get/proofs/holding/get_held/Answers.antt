use Rattle.std.proofs.Common.{◌≡◌, ◌+◌, ◌<◌, [], ◌∷◌, ◌++◌, ap, ◌∙◌, arith}
use Rattle.std.specs.Prelude.{None, true}
use Rattle.mq_calls.specs.declared.commands.Halt.TheVariants as halts
use Rattle.mq_calls.specs.declared.deltas.Why.TheVariants as whys
use Rattle.mq_calls.specs.declared.state.Item.TheVariants.{Take}
use Rattle.mq_calls.specs.Words.{connection_at, more_need, unit_need}
use Rattle.mq_calls.specs.declared.state.Connection.{Connection}
use Rattle.mq_core.specs.Views.{PartsValue}
use Rattle.mq_core.proofs.MeetLaws.{some_is, if_some, some_of}
use Rattle.mq_get.specs.Does.{seen}
use Rattle.mq_get.specs.Leaving.{gone_parts, held_part, leaving_need}
use Rattle.mq_get.proofs.HoldLaws.{tied_roomy, need_take, take_small}
use Rattle.mq_get.proofs.PathLaws.{more_same, run_comes, halt_comes, wanting_comes, roomy_live, roomy_up, back_more, leaving_short, leaving_long, back_run}
use Rattle.mq_get.proofs.HeldLaws.{held_run, held_after, held_room, unheld_cut, item_live, held_body}
use Rattle.mq_get.proofs.holding.get_held.Goals as goal

pub returns-in-Err : goal.returns-in-Err
returns-in-Err g c = wanting_comes (gone_parts whys.Expired c.args.queue.now c.args.mets.now ++ held_part c.args.number c.args.queue.now c.args.met ∷ []) c.args.answer c.args.parts.now c.args.parts.now c.args.effects.now c.requires.may.tied (more_same c.args.parts.now) c.requires.may.told

pub leaving_need-requires : goal.leaving_need-requires
leaving_need-requires g c = let short = leaving_short c.args.queue.now c.args.mets.now c.in-Ok.leaving c.in-Ok.ensures c.requires.may.short in omega (arith, short)

pub returns-in_default : goal.returns-in_default
returns-in_default g c = wanting_comes (gone_parts whys.Expired c.args.queue.now c.args.mets.now ++ held_part c.args.number c.args.queue.now c.args.met ∷ []) c.args.answer c.args.parts.now c.args.parts.now c.args.effects.now c.requires.may.tied (more_same c.args.parts.now) c.requires.may.told

pub returns-in-Err-make_room : goal.returns-in-Err-make_room
returns-in-Err-make_room g c = wanting_comes (gone_parts whys.Expired c.args.queue.now c.args.mets.now ++ held_part c.args.number c.args.queue.now c.args.met ∷ []) c.args.answer c.args.parts.now c.make_room.new.parts c.make_room.new.effects c.requires.may.tied c.in-Err-make_room.ensures.err (c.make_room.ensures.dids ∙ c.requires.may.told)

pub pend_in_room-requires-clause-live : goal.pend_in_room-requires-clause-live
pend_in_room-requires-clause-live g c = roomy_live _ c.args.parts.now c.make_room.new.parts c.in-Ok-make_room.ensures.ok c.requires.may.up c.requires.may.tied

pub pend_in_room-requires-clause-room : goal.pend_in_room-requires-clause-room
pend_in_room-requires-clause-room g c = omega (arith, c.in-Ok-make_room.ensures.ok.body)

pub pend_in_room-requires-clause-need : goal.pend_in_room-requires-clause-need
pend_in_room-requires-clause-need g c =
    let live = some_is _ c.requires.live in
    let r : PartsValue = c.make_room.new.parts in
    let roomy = c.in-Ok-make_room.ensures.ok in
    let found = ap (λ (v : PartsValue). connection_at c.args.number v.desk.live) roomy.same ∙ live.1 in
    let some = λ (e : c.args.met.persistent ≡ true). if_some (λ (d : Connection). c.hold_need-need.result ≡ more_need d.unit 65) _ live.0 live.1 (c.hold_need-need.ensures.some e) in
    let more = need_take live.0.unit c.args.queue.now c.args.met.ident c.args.met.persistent c.hold_need-need.result some c.hold_need-need.ensures.none in
    some_of (λ (d : Connection). unit_need (d.unit ++ Take c.args.queue.now c.args.met.ident c.args.met.persistent ∷ []) < 18446744073709551616) _ live.0 found
    (take_small c.args.number c.args.queue.now c.args.met.ident c.args.met.persistent c.hold_need-need.result live.0 r found more c.hold_need-need.ensures.small (roomy_up _ c.args.parts.now r roomy c.requires.may.up) (tied_roomy _ c.args.parts.now r roomy c.requires.may.tied))

pub returns-in-Err-pend_in_room : goal.returns-in-Err-pend_in_room
returns-in-Err-pend_in_room g c =
    wanting_comes (gone_parts whys.Expired c.args.queue.now c.args.mets.now ++ held_part c.args.number c.args.queue.now c.args.met ∷ []) c.args.answer c.args.parts.now c.pend_in_room.new.parts c.make_room.new.effects c.requires.may.tied
    (back_more (c.leaving_need.result + c.hold_need-need.result) c.args.parts.now c.make_room.new.parts c.pend_in_room.new.parts c.in-Ok-make_room.ensures.ok c.in-Err-pend_in_room.ensures.err) (c.make_room.ensures.dids ∙ c.requires.may.told)

pub hold_behind-requires-clause-live : goal.hold_behind-requires-clause-live
hold_behind-requires-clause-live g c = item_live c.args.number (Take c.args.queue.now c.args.met.ident c.args.met.persistent) c.hold_need-need.result c.make_room.new.parts c.pend_in_room.new.parts c.in-Ok-pend_in_room.ensures.ok (roomy_live _ c.args.parts.now c.make_room.new.parts c.in-Ok-make_room.ensures.ok c.requires.may.up c.requires.may.tied)

pub hold_behind-requires-clause-room : goal.hold_behind-requires-clause-room
hold_behind-requires-clause-room g c = (held_room c.args.number (Take c.args.queue.now c.args.met.ident c.args.met.persistent) (leaving_need c.in-Ok.leaving.removes) c.hold_need-need.result (c.leaving_need.result + c.hold_need-need.result) c.args.parts.now c.make_room.new.parts c.pend_in_room.new.parts (omega (arith, c.leaving_need.ensures)) c.in-Ok-make_room.ensures.ok c.in-Ok-pend_in_room.ensures.ok).0

pub hold_behind-requires-clause-body : goal.hold_behind-requires-clause-body
hold_behind-requires-clause-body g c = (held_room c.args.number (Take c.args.queue.now c.args.met.ident c.args.met.persistent) (leaving_need c.in-Ok.leaving.removes) c.hold_need-need.result (c.leaving_need.result + c.hold_need-need.result) c.args.parts.now c.make_room.new.parts c.pend_in_room.new.parts (omega (arith, c.leaving_need.ensures)) c.in-Ok-make_room.ensures.ok c.in-Ok-pend_in_room.ensures.ok).1

pub hold_behind-requires-clause-small : goal.hold_behind-requires-clause-small
hold_behind-requires-clause-small g c = leaving_short c.args.queue.now c.args.mets.now c.in-Ok.leaving c.in-Ok.ensures c.requires.may.short

pub hold_behind-requires-clause-reserved : goal.hold_behind-requires-clause-reserved
hold_behind-requires-clause-reserved g c = (held_room c.args.number (Take c.args.queue.now c.args.met.ident c.args.met.persistent) (leaving_need c.in-Ok.leaving.removes) c.hold_need-need.result (c.leaving_need.result + c.hold_need-need.result) c.args.parts.now c.make_room.new.parts c.pend_in_room.new.parts (omega (arith, c.leaving_need.ensures)) c.in-Ok-make_room.ensures.ok c.in-Ok-pend_in_room.ensures.ok).2

pub hold_behind-requires-clause-told : goal.hold_behind-requires-clause-told
hold_behind-requires-clause-told g c = let long = leaving_long c.args.queue.now c.args.mets.now c.in-Ok.leaving c.in-Ok.ensures in omega (arith, long, c.in-Ok-make_room.ensures.room)

pub return_room-requires : goal.return_room-requires
return_room-requires g c =
    let body = held_body c.args.number c.args.queue.now c.in-Ok.leaving c.args.met c.pend_in_room.new.parts c.make_room.new.effects c.hold_behind.new.parts c.hold_behind.new.effects c.in-Ok-hold_behind.ensures in
    omega (arith, body, c.in-Ok-make_room.ensures.ok.body, c.in-Ok-pend_in_room.ensures.ok.body)

pub returns-in-Ok-hold_behind : goal.returns-in-Ok-hold_behind
returns-in-Ok-hold_behind g c =
    let live = some_is _ c.requires.live in
    let some = λ (e : c.args.met.persistent ≡ true). if_some (λ (d : Connection). c.hold_need-need.result ≡ more_need d.unit 65) _ live.0 live.1 (c.hold_need-need.ensures.some e) in
    let more = need_take live.0.unit c.args.queue.now c.args.met.ident c.args.met.persistent c.hold_need-need.result some c.hold_need-need.ensures.none in
    let run = held_run c.args.number c.args.queue.now c.args.mets.now c.args.met c.hold_need-need.result (c.leaving_need.result + c.hold_need-need.result) c.args.parts.now c.make_room.new.parts c.pend_in_room.new.parts c.hold_behind.new.parts c.make_room.new.effects c.hold_behind.new.effects c.in-Ok.leaving
    c.in-Ok.ensures (c.make_room.ensures.dids ∙ c.requires.may.told) c.requires.may.up c.in-Ok-make_room.ensures.ok c.in-Ok-pend_in_room.ensures.ok c.in-Ok-hold_behind.ensures in
    run_comes (gone_parts whys.Expired c.args.queue.now c.args.mets.now ++ held_part c.args.number c.args.queue.now c.args.met ∷ []) c.args.answer c.args.parts.now c.return_room.new.parts c.hold_behind.new.effects
    (held_after c.args.number c.args.queue.now c.args.met c.hold_need-need.result (c.leaving_need.result + c.hold_need-need.result) live.0 c.args.parts.now c.make_room.new.parts c.pend_in_room.new.parts c.hold_behind.new.parts c.return_room.new.parts c.make_room.new.effects c.hold_behind.new.effects c.in-Ok.leaving
    live.1 more (omega (arith, c.leaving_need.ensures)) c.requires.may.up c.requires.may.tied c.in-Ok-make_room.ensures.ok c.in-Ok-pend_in_room.ensures.ok c.in-Ok-hold_behind.ensures c.return_room.ensures)
    (back_run _ (seen c.args.parts.now [] None) _ c.hold_behind.new.parts c.return_room.new.parts c.hold_behind.new.effects.dids c.return_room.ensures run)

pub returns-in-Err-hold_behind : goal.returns-in-Err-hold_behind
returns-in-Err-hold_behind g c =
    halt_comes (gone_parts whys.Expired c.args.queue.now c.args.mets.now ++ held_part c.args.number c.args.queue.now c.args.met ∷ []) c.args.answer c.args.parts.now c.hold_behind.new.parts c.hold_behind.new.effects (halts.Stopped c.in-Err-hold_behind.stop) c.requires.may.tied
    (unheld_cut c.args.number c.args.queue.now c.args.mets.now c.args.met c.hold_need-need.result (c.leaving_need.result + c.hold_need-need.result) c.in-Err-hold_behind.stop c.args.parts.now c.make_room.new.parts c.pend_in_room.new.parts c.hold_behind.new.parts c.make_room.new.effects c.hold_behind.new.effects c.in-Ok.leaving
    c.in-Ok.ensures (c.make_room.ensures.dids ∙ c.requires.may.told) c.requires.may.up c.requires.may.tied c.in-Ok-make_room.ensures.ok c.in-Ok-pend_in_room.ensures.ok c.in-Err-hold_behind.ensures)
