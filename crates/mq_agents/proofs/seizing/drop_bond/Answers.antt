use Rattle.std.proofs.Common.{◌≡◌, ℕ, List, ap, ◌∙◌}
use Rattle.std.specs.Prelude.{filter, not}
use Rattle.std.specs.Str.{bytes_eq}
use Rattle.mq_sides.specs.Bonds.{BondsKept}
use Rattle.mq_core.specs.Views.{PartsValue}
use Rattle.mq_agents.proofs.seizing.drop_bond.Goals as goal

put_bonds : BondsKept → PartsValue → PartsValue
put_bonds b p = record p { ends = record p.ends { bound = b } }

less : List ℕ → BondsKept → BondsKept
less channel b = record b { bound = filter (λ (other : List ℕ). not (bytes_eq channel other)) b.bound }

pub returns : goal.returns
unfolding put_bonds less
returns g c =
    let seen = c.parts.view_is in
    let b : c.unbind.new.self ≡ less c.args.channel.now c.args.parts.now.ends.bound = c.unbind.ensures ∙ ap (λ (p : PartsValue). less c.args.channel.now p.ends.bound) seen in
    λ i. put_bonds (b i) (seen i)
