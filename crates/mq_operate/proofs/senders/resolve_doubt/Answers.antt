use Rattle.std.proofs.Common.{sym, ◌∙◌}
use Rattle.mq_operate.proofs.SenderLaws.{resolve_running}
use Rattle.mq_operate.proofs.senders.resolve_doubt.Goals as goal

pub returns-then-runs : goal.returns-then-runs
returns-then-runs g c =
    resolve_running c.args.settle c.args.end.now c.args.unit c.refused.result c.args.parts.now (sym c.requires.doubt) (sym c.runs.ensures ∙ c.if-runs.true) c.refused.ensures.refusal c.refused.ensures.choice c.refused.ensures.delta
