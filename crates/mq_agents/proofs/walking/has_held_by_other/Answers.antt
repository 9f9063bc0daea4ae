use Rattle.std.proofs.Common.{ap, ◌∙◌}
use Rattle.std.specs.Prelude.{is_some}
use Rattle.mq_queue.specs.declared.row.Row.{Row}
use Rattle.mq_calls.specs.Reads.{is_by_other}
use Rattle.mq_agents.proofs.WalkLaws.{any_found}
use Rattle.mq_agents.proofs.walking.has_held_by_other.Goals as goal

pub returns-in_default : goal.returns-in_default
returns-in_default g c = ap is_some c.in_default.ensures ∙ any_found (λ (row : Row). is_by_other c.args.channel.now row.by) c.args.local.now.queue.rows

pub returns : goal.returns
returns g c = ap is_some c.in-Some.ensures ∙ any_found (λ (row : Row). is_by_other c.args.channel.now row.by) c.args.local.now.queue.rows
