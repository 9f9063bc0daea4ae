use Rattle.std.proofs.Common.{ap, ◌∙◌}
use Rattle.mq_place.specs.States.{depth_of, state_or}
use Rattle.mq_core.specs.Views.{PartsValue}
use Rattle.mq_core.proofs.ReadLaws.{depth_is}
use Rattle.mq_core.proofs.parts.Parts.depth.Goals as goal

pub returns : goal.returns
returns g c = c.depth.ensures ∙ ap (λ (x : PartsValue). depth_of (state_or c.args.queue.now x.queues.states)) c.self.view_is ∙ depth_is c.args.queue.now c.args.self.now c.requires.tied
