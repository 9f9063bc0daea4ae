use Rattle.std.proofs.Common.{is_some, rules}
use Rattle.std.proofs.lemmas.List.Elements.{filter_from_retain}
use Rattle.mq_place.proofs.slots.drop_empty.Goals as goal

pub returns-clause-full : goal.returns-clause-full
returns-clause-full g c = filter_from_retain _ is_some (λ p x b q r. search rules) _ _ _ c.retain.ensures.filtered
