use Rattle.std.proofs.Common.{◌∙◌, ap, sym}
use Rattle.std.specs.Prelude.{filter, not}
use Rattle.std.specs.List.{position}
use Rattle.std.specs.Str.{bytes_eq}
use Rattle.mq_sides.proofs.TakeLaws.{found_none, left_none, left_some}
use Rattle.mq_sides.proofs.sides.take_side.Goals as goal

pub returns-in_default-clause-value : goal.returns-in_default-clause-value
returns-in_default-clause-value g c =
    sym (found_none (λ x. bytes_eq c.args.channel.now (g.T.OfChannel.channel_of x)) c.args.items.now (sym (c.place_of.ensures ∙ ap (position (λ x. bytes_eq c.args.channel.now (g.T.OfChannel.channel_of x))) c.as_slice.ensures) ∙ c.in_default.is))

pub returns-in_default-clause-rest : goal.returns-in_default-clause-rest
returns-in_default-clause-rest g c =
    sym (left_none (λ x. bytes_eq c.args.channel.now (g.T.OfChannel.channel_of x)) c.args.items.now (sym (c.place_of.ensures ∙ ap (position (λ x. bytes_eq c.args.channel.now (g.T.OfChannel.channel_of x))) c.as_slice.ensures) ∙ c.in_default.is))

pub returns-clause-rest : goal.returns-clause-rest
returns-clause-rest g c =
    c.drop_side.ensures ∙ ap (filter (λ x. not (bytes_eq c.args.channel.now (g.T.OfChannel.channel_of x)))) c.remove-side.ensures.rest
    ∙ left_some (λ x. bytes_eq c.args.channel.now (g.T.OfChannel.channel_of x)) c.args.items.now c.in-Some.place (sym (c.place_of.ensures ∙ ap (position (λ x. bytes_eq c.args.channel.now (g.T.OfChannel.channel_of x))) c.as_slice.ensures) ∙ c.in-Some.is)
