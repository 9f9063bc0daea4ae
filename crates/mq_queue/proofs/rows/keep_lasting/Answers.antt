use Rattle.std.proofs.Common.{rules, ◌∙◌}
use Rattle.std.proofs.lemmas.Fn.{filter_same}
use Rattle.mq_queue.specs.Queues.{is_lasting}
use Rattle.mq_queue.proofs.StopLaws.{keep_filter}
use Rattle.mq_queue.proofs.rows.keep_lasting.Goals as goal

pub returns-clause-rows : goal.returns-clause-rows
returns-clause-rows c = filter_same _ is_lasting _ (λ x b f h. search rules) _ _ c.retain.ensures.filtered ∙ keep_filter is_lasting c.args.rows.now.items
