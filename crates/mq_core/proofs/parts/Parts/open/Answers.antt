use Rattle.std.proofs.Common.{◌≡◌, sym, ap, subst, refl, ◌∙◌}
use Rattle.std.specs.Prelude.{List}
use Rattle.mq_calls.specs.Words.{connection_at, change_connection}
use Rattle.mq_calls.specs.declared.state.Connection.{Connection}
use Rattle.mq_spec_manager.specs.Words.{new_handle}
use Rattle.mq_trigger.specs.from_handles.Desks.{Desk}
use Rattle.mq_trigger.specs.from_handles.Seats.{opened}
use Rattle.mq_core.specs.Views.{PartsValue}
use Rattle.mq_core.specs.Ties.{SameUnits}
use Rattle.mq_core.proofs.SeatLaws.{unit_kept, same_units, with_desk}
use Rattle.mq_core.proofs.MeetLaws.{some_is, if_some}
use Rattle.mq_core.proofs.parts.Parts.open.Goals.{in-Ok, in-Err}
use Rattle.mq_core.proofs.parts.Parts.open.Goals as goal

pub returns-clause-seated : goal.returns-clause-seated
unfolding with_desk
returns-clause-seated g c =
    let old : PartsValue = c.args.self.now in
    let live = some_is (connection_at c.args.number old.desk.live) c.requires.live in
    let found = ap (λ (x : PartsValue). connection_at c.args.number x.desk.live) c.self.view_is ∙ live.1 in
    let f = opened (new_handle c.args.how.now c.args.route live.0) in
    let same : SameUnits old.desk.live c.open.new.self.live = elim c.match-open.branch [
      | in-Ok w ↦ subst (λ (cs : List Connection). SameUnits old.desk.live cs)
          (sym (if_some (λ (d : Connection). c.open.new.self.live ≡ change_connection c.args.number (opened (new_handle c.args.how.now c.args.route d)) c.self.inside.live.live) _ live.0 found w.in-Ok.ensures.live ∙ ap (λ (x : PartsValue). change_connection c.args.number f x.desk.live) c.self.view_is))
          (unit_kept c.args.number f (λ d. refl) old.desk.live)
      | in-Err w ↦ subst (λ (cs : List Connection). SameUnits old.desk.live cs) (sym (ap (λ (d : Desk). d.live) w.in-Err.ensures.err ∙ ap (λ (x : PartsValue). x.desk.live) c.self.view_is)) (same_units old.desk.live)
    ] in
    (ap (with_desk c.open.new.self) c.self.view_is, same)
