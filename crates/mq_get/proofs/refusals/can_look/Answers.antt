use Rattle.std.proofs.Common.{sym, ap, subst, ◌∙◌}
use Rattle.std.specs.Prelude.{Ok}
use Rattle.mq_calls.specs.Words.{is_full}
use Rattle.mq_spec_manager.specs.Words.{scan_need}
use Rattle.mq_core.specs.Views.{plain_of}
use Rattle.mq_get.specs.declared.refusals.Aim.{Aim}
use Rattle.mq_get.specs.Gets.{look, Looks}
use Rattle.mq_get.proofs.GetLaws.{looks, refused_handle, refused_room, short_scan}
use Rattle.mq_get.proofs.refusals.can_look.Goals as goal

pub returns-in-Some : goal.returns-in-Some
returns-in-Some g c until = refused_handle c.args.get.now until (plain_of c.args.parts.now) c.args.seat.now c.args.handle.now c.in-Some.reason (sym c.in-Some.ensures)

pub returns-then-is_log_full : goal.returns-then-is_log_full
returns-then-is_log_full g c until =
    let p = plain_of c.args.parts.now in
    let full = ap (λ (a : Aim). is_full (scan_need c.args.get.now c.args.seat.now (look c.args.get.now a p)) p) (sym c.aim_of-aim.ensures) ∙ sym c.is_log_full.ensures ∙ c.if-is_log_full.true in
    refused_room c.args.get.now until p c.args.seat.now c.args.handle.now (sym c.in-None.ensures) full

pub returns : goal.returns
returns g c until =
    let p = plain_of c.args.parts.now in
    let fits = ap (λ (a : Aim). is_full (scan_need c.args.get.now c.args.seat.now (look c.args.get.now a p)) p) (sym c.aim_of-aim.ensures) ∙ sym c.is_log_full.ensures ∙ c.if-is_log_full.false in
    subst (λ (a : Aim). Looks c.args.get.now until p c.args.seat.now c.args.handle.now (Ok a)) (sym c.aim_of-aim.ensures)
    (record { step = looks c.args.get.now until p c.args.seat.now c.args.handle.now (sym c.in-None.ensures) fits; short = short_scan c.args.get.now p c.args.seat.now c.args.handle.now c.requires.tied.max fits })
