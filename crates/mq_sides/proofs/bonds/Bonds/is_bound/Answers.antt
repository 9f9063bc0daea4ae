use Rattle.std.proofs.Common.{ap, ◌∙◌}
use Rattle.std.specs.List.{list_any}
use Rattle.std.specs.Str.{bytes_eq}
use Rattle.mq_sides.specs.Bonds.{BondsKept}
use Rattle.mq_sides.proofs.BondLaws.{any_bound}
use Rattle.mq_sides.proofs.bonds.Bonds.is_bound.Goals as goal

pub returns : goal.returns
returns c =
    c.has_bond.ensures ∙ any_bound c.args.channel.now c.self.inside.bonds
    ∙ ap (λ (k : BondsKept). list_any (bytes_eq c.args.channel.now) k.bound) c.self.view_is
