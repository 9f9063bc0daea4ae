use Rattle.std.proofs.Common.{◌≡◌, sym, subst, ◌∙◌}
use Rattle.std.specs.Prelude.{OnOk, Result}
use Rattle.mq_history.specs.declared.acts.Act.TheVariants as acts
use Rattle.mq_history.specs.declared.calls.Actor.TheVariants as actors
use Rattle.mq_history.specs.declared.calls.Call.TheVariants as calls
use Rattle.mq_nodes.specs.declared.nodes.Stop.{Stop}
use Rattle.mq_nodes.specs.Told.{later}
use Rattle.mq_world.specs.Settling.{IsOf, NodeDoes}
use Rattle.mq_world.proofs.ClockLaws.{clock_moment, clock_told}
use Rattle.mq_world.proofs.NodeLaws.{none_done}
use Rattle.mq_world.proofs.acting.clock_on.Goals as goal
use Rattle.mq_world.proofs.acting.clock_on.Goals.{in-Err, in-Ok}

pub returns-clause-told : goal.returns-clause-told
returns-clause-told g c = elim c.match-advance_clock.branch [
  | in-Err w ↦ subst (λ (r : Result (Unit {0}) Stop). NodeDoes (IsOf actors.Clock (calls.Act (acts.Clock c.args.ms))) c.args.manager r c.args.node.now c.advance_clock.new.self) (sym w.result-is)
      (none_done (IsOf actors.Clock (calls.Act (acts.Clock c.args.ms))) c.args.manager c.args.node.now c.advance_clock.new.self w.in-Err.ensures)
  | in-Ok w ↦ clock_told c.args.manager c.args.ms tt w.in-Ok.field-0 c.args.node.now c.advance_clock.new.self w.is_spent-spent.result c.match-advance_clock.result c.requires.served c.requires.kept w.in-Ok.ensures
      w.is_spent-spent.ensures.kept w.is_spent-spent.ensures.spent (w.result-is ∙ w.ended.ensures)
]

pub returns-clause-moment : goal.returns-clause-moment
returns-clause-moment g c = elim c.match-advance_clock.branch [
  | in-Err w ↦ subst (λ (r : Result (Unit {0}) Stop). OnOk r (c.advance_clock.new.self.manager.plain.moment ≡ later c.args.node.now.manager.plain.moment c.args.ms)) (sym w.result-is) tt
  | in-Ok w ↦ clock_moment c.args.ms w.in-Ok.field-0 c.args.node.now c.advance_clock.new.self c.match-advance_clock.result c.requires.kept w.is_spent-spent.ensures.kept w.in-Ok.ensures
]
