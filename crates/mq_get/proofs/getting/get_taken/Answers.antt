use Rattle.std.proofs.Common.{◌+◌, ◌≤◌, [], ◌∷◌, ◌++◌, length, ◌∙◌, arith}
use Rattle.std.specs.Prelude.{None}
use Rattle.mq_calls.specs.declared.commands.Halt.TheVariants as halts
use Rattle.mq_calls.specs.declared.deltas.Why.TheVariants as whys
use Rattle.mq_get.specs.Does.{seen}
use Rattle.mq_get.specs.Leaving.{gone_part, gone_parts}
use Rattle.mq_get.proofs.PathLaws.{more_same, run_comes, halt_comes, wanting_comes, roomy_live, leaving_short, leaving_long, one_need, both_run, both_after, both_stopped, back_tied, back_run}
use Rattle.mq_get.proofs.getting.get_taken.Goals as goal

pub returns-in-Err : goal.returns-in-Err
returns-in-Err g c = wanting_comes (gone_parts whys.Expired c.args.queue.now c.args.mets.now ++ gone_part whys.Got c.args.queue.now (c.args.met ∷ []) ∷ []) c.args.answer c.args.parts.now c.args.parts.now c.args.effects.now c.requires.tied (more_same c.args.parts.now) c.requires.told

pub returns-in-Err-leaving_of : goal.returns-in-Err-leaving_of
returns-in-Err-leaving_of g c = wanting_comes (gone_parts whys.Expired c.args.queue.now c.args.mets.now ++ gone_part whys.Got c.args.queue.now (c.args.met ∷ []) ∷ []) c.args.answer c.args.parts.now c.args.parts.now c.args.effects.now c.requires.tied (more_same c.args.parts.now) c.requires.told

pub leaving_need-requires : goal.leaving_need-requires
leaving_need-requires g c = let short = leaving_short c.args.queue.now c.args.mets.now c.in-Ok.leaving c.in-Ok.ensures c.requires.short in omega (arith, short)

pub leaving_need-requires-2 : goal.leaving_need-requires-2
leaving_need-requires-2 g c = let few = one_need c.args.queue.now c.args.met c.in-Ok-leaving_of.leaving c.in-Ok-leaving_of.ensures in omega (arith, few)

pub returns-in_default : goal.returns-in_default
returns-in_default g c = wanting_comes (gone_parts whys.Expired c.args.queue.now c.args.mets.now ++ gone_part whys.Got c.args.queue.now (c.args.met ∷ []) ∷ []) c.args.answer c.args.parts.now c.args.parts.now c.args.effects.now c.requires.tied (more_same c.args.parts.now) c.requires.told

pub returns-in-Err-make_room : goal.returns-in-Err-make_room
returns-in-Err-make_room g c = wanting_comes (gone_parts whys.Expired c.args.queue.now c.args.mets.now ++ gone_part whys.Got c.args.queue.now (c.args.met ∷ []) ∷ []) c.args.answer c.args.parts.now c.make_room.new.parts c.make_room.new.effects c.requires.tied c.in-Err-make_room.ensures.err (c.make_room.ensures.dids ∙ c.requires.told)

pub drop_both-requires-clause-live : goal.drop_both-requires-clause-live
drop_both-requires-clause-live g c = roomy_live _ c.args.parts.now c.make_room.new.parts c.in-Ok-make_room.ensures.ok c.requires.up c.requires.tied

pub drop_both-requires-clause-room : goal.drop_both-requires-clause-room
drop_both-requires-clause-room g c = omega (arith, c.in-Ok-make_room.ensures.ok.log, c.leaving_need.ensures, c.leaving_need-2.ensures)

pub drop_both-requires-clause-body : goal.drop_both-requires-clause-body
drop_both-requires-clause-body g c = omega (arith, c.in-Ok-make_room.ensures.ok.body, c.leaving_need.ensures, c.leaving_need-2.ensures)

pub drop_both-requires-clause-small : goal.drop_both-requires-clause-small
drop_both-requires-clause-small g c = leaving_short c.args.queue.now c.args.mets.now c.in-Ok.leaving c.in-Ok.ensures c.requires.short

pub drop_both-requires-clause-few : goal.drop_both-requires-clause-few
drop_both-requires-clause-few g c = let few = one_need c.args.queue.now c.args.met c.in-Ok-leaving_of.leaving c.in-Ok-leaving_of.ensures in omega (arith, few)

pub drop_both-requires-clause-told : goal.drop_both-requires-clause-told
drop_both-requires-clause-told g c =
    let long = leaving_long c.args.queue.now c.args.mets.now c.in-Ok.leaving c.in-Ok.ensures in
    let one = leaving_long c.args.queue.now (c.args.met ∷ []) c.in-Ok-leaving_of.leaving c.in-Ok-leaving_of.ensures in
    let fits : length c.in-Ok.leaving.idents + length c.in-Ok-leaving_of.leaving.idents ≤ c.make_room.new.effects.room = omega (arith, long, one, c.in-Ok-make_room.ensures.room) in
    fits

pub return_room-requires : goal.return_room-requires
return_room-requires g c =
    let after = both_after c.args.queue.now (c.leaving_need.result + c.leaving_need-2.result) c.args.parts.now c.make_room.new.parts c.drop_both.new.parts c.make_room.new.effects c.drop_both.new.effects c.in-Ok.leaving c.in-Ok-leaving_of.leaving (omega (arith, c.leaving_need.ensures, c.leaving_need-2.ensures)) c.requires.tied c.in-Ok-make_room.ensures.ok c.in-Ok-drop_both.ensures in
    omega (arith, after.2, c.in-Ok-make_room.ensures.ok.body)

pub returns-in-Ok-drop_both : goal.returns-in-Ok-drop_both
returns-in-Ok-drop_both g c =
    let after = both_after c.args.queue.now (c.leaving_need.result + c.leaving_need-2.result) c.args.parts.now c.make_room.new.parts c.drop_both.new.parts c.make_room.new.effects c.drop_both.new.effects c.in-Ok.leaving c.in-Ok-leaving_of.leaving (omega (arith, c.leaving_need.ensures, c.leaving_need-2.ensures)) c.requires.tied c.in-Ok-make_room.ensures.ok c.in-Ok-drop_both.ensures in
    let run = both_run c.args.queue.now c.args.mets.now c.args.met (c.leaving_need.result + c.leaving_need-2.result) c.args.parts.now c.make_room.new.parts c.drop_both.new.parts c.make_room.new.effects c.drop_both.new.effects c.in-Ok.leaving c.in-Ok-leaving_of.leaving c.in-Ok.ensures c.in-Ok-leaving_of.ensures
    (c.make_room.ensures.dids ∙ c.requires.told) c.requires.up c.in-Ok-make_room.ensures.ok c.in-Ok-drop_both.ensures in
    run_comes (gone_parts whys.Expired c.args.queue.now c.args.mets.now ++ gone_part whys.Got c.args.queue.now (c.args.met ∷ []) ∷ []) c.args.answer c.args.parts.now c.return_room.new.parts c.drop_both.new.effects
    (back_tied _ c.args.parts.now c.make_room.new.parts c.drop_both.new.parts c.return_room.new.parts c.in-Ok-make_room.ensures.ok c.requires.up c.requires.tied after.0 after.1 after.2 c.return_room.ensures)
    (back_run _ (seen c.args.parts.now [] None) _ c.drop_both.new.parts c.return_room.new.parts c.drop_both.new.effects.dids c.return_room.ensures run)

pub returns-in-Err-drop_both : goal.returns-in-Err-drop_both
returns-in-Err-drop_both g c =
    halt_comes (gone_parts whys.Expired c.args.queue.now c.args.mets.now ++ gone_part whys.Got c.args.queue.now (c.args.met ∷ []) ∷ []) c.args.answer c.args.parts.now c.drop_both.new.parts c.drop_both.new.effects (halts.Stopped c.in-Err-drop_both.stop) c.requires.tied
    (both_stopped c.args.queue.now c.args.mets.now c.args.met (c.leaving_need.result + c.leaving_need-2.result) c.in-Err-drop_both.stop c.args.parts.now c.make_room.new.parts c.drop_both.new.parts c.make_room.new.effects c.drop_both.new.effects c.in-Ok.leaving c.in-Ok-leaving_of.leaving c.in-Ok.ensures c.in-Ok-leaving_of.ensures
    (omega (arith, c.leaving_need.ensures, c.leaving_need-2.ensures)) (c.make_room.ensures.dids ∙ c.requires.told) c.requires.up c.requires.tied c.in-Ok-make_room.ensures.ok c.in-Err-drop_both.ensures)
