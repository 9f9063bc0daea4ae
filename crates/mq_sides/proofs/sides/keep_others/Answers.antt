use Rattle.std.proofs.Common.{rules}
use Rattle.std.specs.Prelude.{not}
use Rattle.std.specs.Str.{bytes_eq}
use Rattle.std.proofs.lemmas.Fn.{filter_same}
use Rattle.mq_sides.proofs.sides.keep_others.Goals as goal

pub returns : goal.returns
returns g c = filter_same _ (λ x. not (bytes_eq c.args.channel.now (g.T.OfChannel.channel_of x))) _ (λ x b f h. search rules) _ _ c.retain.ensures.filtered
