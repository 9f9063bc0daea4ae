use Rattle.std.proofs.Common.{[], ◌∷◌, ◌++◌, ap, ◌∙◌}
use Rattle.std.specs.Prelude.{None}
use Rattle.mq_calls.specs.declared.deltas.Why.TheVariants as whys
use Rattle.mq_calls.specs.State.Change.{SetCursor}
use Rattle.mq_calls.specs.Words.{silent, connection_at}
use Rattle.mq_core.specs.from_handles.Desks.{Desk}
use Rattle.mq_core.specs.Views.{PartsValue}
use Rattle.mq_core.specs.Ties.{mode_is_up}
use Rattle.mq_core.proofs.MeetLaws.{some_is}
use Rattle.mq_get.specs.Does.{seen}
use Rattle.mq_get.specs.Leaving.{gone_parts}
use Rattle.mq_get.proofs.DoesLaws.{run_both}
use Rattle.mq_get.proofs.PathLaws.{run_comes, halt_comes, halt_more, browsed_run, browsed_tied}
use Rattle.mq_get.proofs.getting.get_browsed.Goals as goal

pub returns-in-Ok : goal.returns-in-Ok
returns-in-Ok g c =
    let live = some_is _ c.requires.live in
    let x : PartsValue = c.drop_expired.new.parts in
    let found = ap (λ (d : Desk). connection_at c.args.number d.live) c.in-Ok.ensures.desk ∙ live.1 in
    let up = ap mode_is_up c.in-Ok.ensures.mode ∙ c.requires.may.up in
    run_comes (gone_parts whys.Expired c.args.aim.now.queue c.args.mets.now ++ silent (SetCursor c.args.number c.args.aim.now.handle c.args.place ∷ []) ∷ []) c.args.answer c.args.parts.now _ c.drop_expired.new.effects
    (browsed_tied c.args.number c.args.aim.now.handle c.args.place x _ c.move_cursor.ensures c.in-Ok.ensures.tied)
    (run_both (gone_parts whys.Expired c.args.aim.now.queue c.args.mets.now) (silent (SetCursor c.args.number c.args.aim.now.handle c.args.place ∷ []) ∷ []) _ (seen x c.drop_expired.new.effects.dids None) _ c.in-Ok.ensures.run
    (browsed_run c.args.number c.args.aim.now.handle c.args.place live.0 x _ c.drop_expired.new.effects.dids up found c.move_cursor.ensures))

pub returns-in-Err : goal.returns-in-Err
returns-in-Err g c =
    let more = silent (SetCursor c.args.number c.args.aim.now.handle c.args.place ∷ []) ∷ [] in
    halt_comes (gone_parts whys.Expired c.args.aim.now.queue c.args.mets.now ++ more) c.args.answer c.args.parts.now c.drop_expired.new.parts c.drop_expired.new.effects c.in-Err.halt c.requires.may.tied
    (halt_more (gone_parts whys.Expired c.args.aim.now.queue c.args.mets.now) more c.args.parts.now c.drop_expired.new.parts c.drop_expired.new.effects c.in-Err.halt c.in-Err.ensures)
