use Rattle.std.proofs.Common.{sym, ap, subst, refl, ◌∙◌}
use Rattle.std.specs.Prelude.{List}
use Rattle.mq_calls.specs.Words.{change_connection}
use Rattle.mq_calls.specs.declared.state.Connection.{Connection}
use Rattle.mq_trigger.specs.from_handles.Seats.{closed}
use Rattle.mq_core.specs.Views.{PartsValue}
use Rattle.mq_core.specs.Ties.{SameUnits}
use Rattle.mq_core.proofs.SeatLaws.{unit_kept, with_desk}
use Rattle.mq_core.proofs.parts.Parts.close.Goals as goal

pub returns-clause-seated : goal.returns-clause-seated
unfolding with_desk
returns-clause-seated g c =
    let old : PartsValue = c.args.self.now in
    let is = c.close.ensures.live ∙ ap (λ (x : PartsValue). change_connection c.args.number (closed c.args.ho.now.number) x.desk.live) c.self.view_is in
    (ap (with_desk c.close.new.self) c.self.view_is, subst (λ (cs : List Connection). SameUnits old.desk.live cs) (sym is) (unit_kept c.args.number (closed c.args.ho.now.number) (λ d. refl) old.desk.live))
