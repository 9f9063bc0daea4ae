use Rattle.std.proofs.Common.{◌∙◌, arith}
use Rattle.mq_get.proofs.PathLaws.{more_same, cleared, cut_off, roomy_live, leaving_short, leaving_long, drop_body}
use Rattle.mq_get.proofs.getting.drop_expired.Goals as goal

pub returns-in-Err : goal.returns-in-Err
returns-in-Err g c = record { room = more_same c.args.parts.now; untold = c.requires.told }

pub leaving_need-need-requires : goal.leaving_need-need-requires
leaving_need-need-requires g c = let short = leaving_short c.args.queue.now c.args.mets.now c.in-Ok.leaving c.in-Ok.ensures c.requires.short in omega (arith, short)

pub returns-in-Err-make_room : goal.returns-in-Err-make_room
returns-in-Err-make_room g c = record { room = c.in-Err-make_room.ensures.err; untold = c.make_room.ensures.dids ∙ c.requires.told }

pub drop_rows-requires-clause-live : goal.drop_rows-requires-clause-live
drop_rows-requires-clause-live g c = roomy_live _ c.args.parts.now c.make_room.new.parts c.in-Ok-make_room.ensures.ok c.requires.up c.requires.tied

pub drop_rows-requires-clause-room : goal.drop_rows-requires-clause-room
drop_rows-requires-clause-room g c = omega (arith, c.in-Ok-make_room.ensures.ok.log, c.leaving_need-need.ensures)

pub drop_rows-requires-clause-body : goal.drop_rows-requires-clause-body
drop_rows-requires-clause-body g c = omega (arith, c.in-Ok-make_room.ensures.ok.body, c.leaving_need-need.ensures)

pub drop_rows-requires-clause-small : goal.drop_rows-requires-clause-small
drop_rows-requires-clause-small g c = leaving_short c.args.queue.now c.args.mets.now c.in-Ok.leaving c.in-Ok.ensures c.requires.short

pub drop_rows-requires-clause-told : goal.drop_rows-requires-clause-told
drop_rows-requires-clause-told g c = let long = leaving_long c.args.queue.now c.args.mets.now c.in-Ok.leaving c.in-Ok.ensures in omega (arith, long, c.in-Ok-make_room.ensures.room)

pub return_room-requires : goal.return_room-requires
return_room-requires g c =
    let after = drop_body c.args.queue.now c.in-Ok.leaving c.make_room.new.parts c.make_room.new.effects c.drop_rows.new.parts c.drop_rows.new.effects c.in-Ok-drop_rows.ensures in
    omega (arith, after, c.in-Ok-make_room.ensures.ok.body)

pub returns-in-Ok-drop_rows : goal.returns-in-Ok-drop_rows
returns-in-Ok-drop_rows g c =
    cleared c.args.queue.now c.args.mets.now c.leaving_need-need.result c.args.parts.now c.make_room.new.parts c.drop_rows.new.parts c.return_room.new.parts c.make_room.new.effects c.drop_rows.new.effects c.in-Ok.leaving
    c.in-Ok.ensures c.leaving_need-need.ensures (c.make_room.ensures.dids ∙ c.requires.told) c.requires.up c.requires.tied c.in-Ok-make_room.ensures.ok c.in-Ok-drop_rows.ensures c.return_room.ensures

pub returns-in-Err-drop_rows : goal.returns-in-Err-drop_rows
returns-in-Err-drop_rows g c =
    cut_off c.args.queue.now c.args.mets.now c.leaving_need-need.result c.in-Err-drop_rows.stop c.args.parts.now c.make_room.new.parts c.drop_rows.new.parts c.make_room.new.effects c.drop_rows.new.effects c.in-Ok.leaving
    c.in-Ok.ensures (c.make_room.ensures.dids ∙ c.requires.told) c.requires.up c.requires.tied c.in-Ok-make_room.ensures.ok c.in-Err-drop_rows.ensures
