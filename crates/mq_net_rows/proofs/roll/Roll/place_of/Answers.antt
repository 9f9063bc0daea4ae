use Rattle.std.proofs.Common.{List, ap, ◌∙◌}
use Rattle.std.specs.Prelude.{position}
use Rattle.std.specs.Str.{bytes_eq}
use Rattle.mq_net_rows.specs.declared.lanes.Named.{Named}
use Rattle.mq_net_rows.proofs.roll.Roll.place_of.Goals as goal

pub returns : goal.returns
returns c = c.found.ensures ∙ c.self.invariant c.args.name.now ∙ ap (λ (qs : List Named). position (λ (q : Named). bytes_eq c.args.name.now q.name) qs) c.self.view_is
