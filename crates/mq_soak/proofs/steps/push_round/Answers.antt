use Rattle.std.proofs.Common.{◌∙◌, ◌++◌, ◌∷◌, [], ℕ, List, ap, append_assoc}
use Rattle.std.specs.Prelude.{Some}
use Rattle.mq_history.specs.declared.scenario.Step.{Step}
use Rattle.mq_history.specs.declared.scenario.Step.TheVariants as steps
use Rattle.mq_soak.specs.Soak.{stop_after}
use Rattle.mq_soak.proofs.steps.push_round.Goals as goal

pub returns : goal.returns
returns c =
    c.in_ok-push_stop_after.ensures
    ∙ ap (λ (xs : List Step). xs ++ stop_after c.args.round) c.in_ok-push_two.ensures
    ∙ append_assoc c.args.out.now (steps.Run 0 (Some c.lines_in.result) ∷ steps.Pump 1000 ∷ []) (stop_after c.args.round)
    ∙ ap (λ (x : ℕ). c.args.out.now ++ steps.Run 0 (Some x) ∷ steps.Pump 1000 ∷ stop_after c.args.round) c.lines_in.ensures
