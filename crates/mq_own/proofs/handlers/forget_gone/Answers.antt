use Rattle.std.proofs.Common.{rules}
use Rattle.std.proofs.lemmas.Fn.{filter_same}
use Rattle.mq_spec_node.specs.Node.{Tried}
use Rattle.mq_spec_node.specs.Deeds.{still_tried}
use Rattle.mq_own.proofs.handlers.forget_gone.Goals as goal

pub returns : goal.returns
returns c = filter_same _ (λ (t : Tried). still_tried c.args.delta.now t) _ (λ x b f h. search rules) _ _ c.retain.ensures.filtered
