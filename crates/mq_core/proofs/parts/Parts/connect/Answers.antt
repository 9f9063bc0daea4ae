use Rattle.std.proofs.Common.{sym, ap, subst, refl, ◌∙◌}
use Rattle.std.specs.Prelude.{List, ◌++◌, ◌∷◌, [], ◌+◌}
use Rattle.mq_calls.specs.declared.state.Connection.{Connection}
use Rattle.mq_trigger.specs.from_handles.Desks.{Desk}
use Rattle.mq_trigger.specs.from_handles.Seats.{connection_of}
use Rattle.mq_core.specs.Views.{PartsValue}
use Rattle.mq_core.specs.Ties.{SameUnits}
use Rattle.mq_core.proofs.SeatLaws.{one_more, same_units, with_desk}
use Rattle.mq_core.proofs.parts.Parts.connect.Goals.{in-Ok, in-Err}
use Rattle.mq_core.proofs.parts.Parts.connect.Goals as goal

pub returns-clause-seated : goal.returns-clause-seated
unfolding with_desk
returns-clause-seated g c =
    let old : PartsValue = c.args.self.now in
    let same : SameUnits old.desk.live c.connect.new.self.live = elim c.match-connect.branch [
      | in-Ok w ↦ subst (λ (cs : List Connection). SameUnits old.desk.live cs) (sym (w.in-Ok.ensures.live ∙ ap (λ (x : PartsValue). x.desk.live ++ connection_of (x.desk.last + 1) c.args.appl.now ∷ []) c.self.view_is)) (one_more (connection_of (old.desk.last + 1) c.args.appl.now) old.desk.live refl)
      | in-Err w ↦ subst (λ (cs : List Connection). SameUnits old.desk.live cs) (sym (ap (λ (d : Desk). d.live) w.in-Err.ensures.err ∙ ap (λ (x : PartsValue). x.desk.live) c.self.view_is)) (same_units old.desk.live)
    ] in
    (ap (with_desk c.connect.new.self) c.self.view_is, same)
