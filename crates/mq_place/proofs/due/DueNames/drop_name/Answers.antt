use Rattle.std.proofs.Common.{ap, ◌∙◌}
use Rattle.mq_place.specs.Due.{DueSet, is_noted}
use Rattle.mq_place.proofs.DueLaws.{still_noted}
use Rattle.mq_place.proofs.due.DueNames.drop_name.Goals as goal

pub returns : goal.returns
returns c = λ other differs h. still_noted c.self.inside.all c.args.name.now other c.self.inside.names.items _ c.keep_others.ensures.kept differs (ap (λ (d : DueSet). is_noted d other) c.self.view_is ∙ h)
