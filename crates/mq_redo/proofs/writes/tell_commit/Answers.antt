use Rattle.std.proofs.Common.{ap, sym, ◌∙◌, true, List}
use Rattle.std.specs.Prelude.{Option, is_some}
use Rattle.mq_calls.specs.declared.state.Item.{Item}
use Rattle.mq_calls.specs.Words.{connection_at}
use Rattle.mq_calls.specs.declared.state.Connection.{Connection}
use Rattle.mq_spec_manager.specs.Units.{adds_of, removes_of, record_of}
use Rattle.mq_spec_manager.specs.Stops.{redone_delta}
use Rattle.mq_core.specs.Views.{PartsValue, plain_of, noted_commit}
use Rattle.mq_redo.proofs.UnitLaws.{commit_redone}
use Rattle.mq_redo.proofs.WriteLaws.{on_ok}
use Rattle.mq_redo.proofs.writes.tell_commit.Goals as goal

pub returns-then-is_forced : goal.returns-then-is_forced
returns-then-is_forced g c =
    let at = ap (λ (v : PartsValue). connection_at c.args.number v.desk.live) (sym c.parts.view_is) ∙ sym c.in-Some.ensures.found in
    let forced = ap (λ (u : List Item). is_some (record_of (adds_of u) (removes_of u))) (sym c.unit.ensures) ∙ sym c.is_forced.ensures ∙ c.if-is_forced.true in
    record {
      ok = on_ok c.tell_unit.result _ _ c.tell_unit.ensures.ok (λ told.
          told
          ∙ sym (commit_redone c.args.number c.args.ends c.in-Some.seat.now c.args.parts.now c.requires.tied at forced)
          ∙ ap (λ (o : Option Connection). redone_delta true (noted_commit c.args.ends o) (plain_of c.args.parts.now)) (sym at));
    }
