use Rattle.std.proofs.Common.{◌≡◌, Option, subst}
use Rattle.std.specs.Prelude.{IfOk}
use Rattle.mq_history.specs.declared.story.Apart.{Apart}
use Rattle.mq_net_apart.proofs.IdentLaws.{same_rows}
use Rattle.mq_net_apart.proofs.idents.rows_apart.Goals as goal

pub returns : goal.returns
returns c = subst (λ (x : Option Apart). IfOk c.opened_apart.result (λ found. found ≡ x)) (same_rows c.args.scenario.now c.args.histories.now) c.opened_apart.ensures
