use Rattle.std.proofs.Common.{◌≡◌, subst}
use Rattle.std.specs.Prelude.{Some}
use Rattle.std.specs.Option.{option_map}
use Rattle.mq_spec_manager.specs.Agents.{batch_row}
use Rattle.mq_spec_node.specs.Words.{carried}
use Rattle.mq_turn_parts.specs.from_events.States.{NodeState}
use Rattle.mq_turns.proofs.BeginLaws.{first_as}
use Rattle.mq_turns.proofs.beginning.first_offer.Goals as goal

pub returns-in-Ok-clause-told : goal.returns-in-Ok-clause-told
returns-in-Ok-clause-told g c =
    let F : NodeState → Type 0 = λ x. option_map (carried c.args.stamp c.args.end.now c.args.n 1) (batch_row c.args.end.now.channel 1 x.manager.plain) ≡ Some c.in-Ok.frame in
    first_as _ _ _ _ c.in-Ok.frame _ c.offer_first.result (subst F c.parts.view_is c.in-Ok.ensures) c.offer_first.ensures.told
