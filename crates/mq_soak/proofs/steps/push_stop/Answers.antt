use Rattle.std.proofs.Common.{◌∙◌, ◌++◌, ◌∷◌, [], List, ap, append_assoc}
use Rattle.mq_history.specs.declared.scenario.Step.{Step}
use Rattle.mq_history.specs.declared.scenario.Step.TheVariants as steps
use Rattle.mq_sc_parse.specs.declared.command.Command.{Command}
use Rattle.mq_soak.specs.Soak.{start}
use Rattle.mq_soak.proofs.steps.push_stop.Goals as goal

pub returns : goal.returns
returns c =
    c.in_ok-push_two-2.ensures
    ∙ ap (λ (xs : List Step). xs ++ steps.Do 1 c.start.result ∷ steps.Pump 1000 ∷ []) c.in_ok-push_two.ensures
    ∙ append_assoc c.args.out.now (steps.Crash 1 ∷ steps.Restart 1 ∷ []) (steps.Do 1 c.start.result ∷ steps.Pump 1000 ∷ [])
    ∙ ap (λ (x : Command). c.args.out.now ++ steps.Crash 1 ∷ steps.Restart 1 ∷ steps.Do 1 x ∷ steps.Pump 1000 ∷ []) (c.start.ensures ∙ ap start c.name.ensures)
