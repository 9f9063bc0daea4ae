use Rattle.std.proofs.Common.{Bool, subst}
use Rattle.std.specs.Prelude.{IfSome}
use Rattle.mq_core.specs.Values.{CoreValue}
use Rattle.mq_spec_manager.specs.Agents.{CanMove, IsUp}
use Rattle.mq_handle.specs.declared.finding.DueLetter.{DueLetter}
use Rattle.mq_handle.proofs.TurnLaws.{can_of}
use Rattle.mq_handle.proofs.turning.letter_at.Goals as goal

pub returns-clause-can : goal.returns-clause-can
returns-clause-can g c =
    subst (λ (v : CoreValue). IfSome c.find_letter.result (λ (l : DueLetter). IsUp v.plain × ((bare : Bool) → CanMove l.queue l.ident bare v.plain))) c.manager.view_is
    (can_of c.args.handler.now c.manager.inside.core.plain c.find_letter.result c.manager.invariant.well c.find_letter.ensures)
