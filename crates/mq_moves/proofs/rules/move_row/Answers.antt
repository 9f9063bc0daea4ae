use Rattle.std.proofs.Common.{ap, sym, subst, ◌∙◌}
use Rattle.mq_calls.specs.Words.{is_up}
use Rattle.mq_spec_manager.specs.Agents.{CanMove}
use Rattle.mq_agents.specs.from_core.Values.{CoreValue}
use Rattle.mq_moves.proofs.rules.move_row.Goals as goal

pub can_move-requires-clause-up : goal.can_move-requires-clause-up
can_move-requires-clause-up g c = ap (λ (w : CoreValue). is_up w.plain.running) c.core.view_is ∙ c.requires.up

pub can_move-requires-clause-can : goal.can_move-requires-clause-can
can_move-requires-clause-can g c = subst (λ (w : CoreValue). CanMove c.args.from.now c.args.ident.now c.args.bare w.plain) (sym c.core.view_is) c.requires.can
