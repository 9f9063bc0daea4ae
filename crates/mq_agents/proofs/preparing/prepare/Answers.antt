use Rattle.std.proofs.Common.{ap, ◌∙◌}
use Rattle.mq_calls.specs.Words.{is_up}
use Rattle.mq_core.specs.Values.{CoreValue}
use Rattle.mq_agents.proofs.preparing.prepare.Goals as goal

pub doubt_of-requires-clause-up : goal.doubt_of-requires-clause-up
doubt_of-requires-clause-up g c = ap (λ (w : CoreValue). is_up w.plain.running) c.core.view_is ∙ c.requires.up
