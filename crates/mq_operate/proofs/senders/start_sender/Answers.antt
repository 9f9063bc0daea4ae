use Rattle.std.proofs.Common.{sym, ◌∙◌}
use Rattle.mq_operate.proofs.StartLaws.{start_running}
use Rattle.mq_operate.proofs.senders.start_sender.Goals as goal

pub returns-then-runs : goal.returns-then-runs
returns-then-runs g c = start_running c.args.end.now c.refused.result c.args.parts.now (sym c.runs.ensures ∙ c.if-runs.true) c.refused.ensures.refusal c.refused.ensures.choice c.refused.ensures.delta
