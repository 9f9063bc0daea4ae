use Rattle.std.proofs.Common.{List, ap, sym, length, ◌∙◌}
use Rattle.std.specs.Prelude.{is_some, nat_lt}
use Rattle.mq_queue.specs.declared.row.Row.{Row}
use Rattle.mq_agents.proofs.WalkLaws.{none_past, some_past}
use Rattle.mq_agents.proofs.walking.has_past.Goals as goal

pub returns-then-not-may_be_past : goal.returns-then-not-may_be_past
returns-then-not-may_be_past g c =
    sym (ap (λ (rows : List Row). nat_lt 0 (length rows)) (none_past c.args.moment c.args.local.now.queue.rows (c.may_be_past.ensures c.if-not-may_be_past.true)))

pub returns-in_default : goal.returns-in_default
returns-in_default g c = ap is_some c.in_default.ensures ∙ some_past c.args.moment c.args.local.now.queue.rows

pub returns : goal.returns
returns g c = ap is_some c.in-Some.ensures ∙ some_past c.args.moment c.args.local.now.queue.rows
