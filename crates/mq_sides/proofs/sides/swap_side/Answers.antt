use Rattle.std.proofs.Common.{ap, sym, subst, ◌∙◌, length, arith}
use Rattle.std.specs.Prelude.{Some, None, ◌≤◌, slice_get}
use Rattle.mq_sides.specs.Places.{is_of, place_in, CanUndo}
use Rattle.mq_sides.proofs.OrderLaws.{absent_there, stood, stood_none}
use Rattle.mq_sides.proofs.PlaceLaws.{undo_set, undo_new}
use Rattle.mq_sides.proofs.sides.swap_side.Goals as goal

pub returns-then-is_standing-clause-undo : goal.returns-then-is_standing-clause-undo
returns-then-is_standing-clause-undo g c =
    undo_set c.args.items.now c.side_place-place.result c.replace-before.result c.replace-before.new.dest (c.at_mut.ensures.value ∙ ap (λ x. Some x) (sym c.replace-before.ensures.value))

pub returns-clause-undo : goal.returns-clause-undo
returns-clause-undo g c =
    let within : c.side_place-place.result ≤ length c.args.items.now = omega (arith, c.side_place-place.ensures.within, ap length c.as_slice.ensures) in
    subst (λ xs. CanUndo c.side_place-place.result None c.args.items.now xs) (sym c.in-Ok.ensures.ok) (undo_new c.args.items.now c.side_place-place.result c.args.new within)

pub returns-in-Err-clause-lacks : goal.returns-in-Err-clause-lacks
returns-in-Err-clause-lacks g c h =
    absent_there g.T.OfChannel.channel_of (g.T.OfChannel.channel_of c.args.new) c.args.items.now c.side_place-place.result
    (c.side_place-place.ensures.value ∙ (λ i. place_in g.T.OfChannel.channel_of (c.channel.ensures i) (c.as_slice.ensures i)))
    (sym (λ i. is_of g.T.OfChannel.channel_of (c.channel-2.ensures i) (slice_get (c.as_slice-2.ensures i) c.side_place-place.result)) ∙ sym c.is_standing.ensures ∙ c.if-is_standing.false)
    h

pub returns-then-is_standing-clause-before : goal.returns-then-is_standing-clause-before
returns-then-is_standing-clause-before g c =
    stood g.T.OfChannel.channel_of (g.T.OfChannel.channel_of c.args.new) c.args.items.now c.side_place-place.result c.replace-before.result
    (c.side_place-place.ensures.value ∙ (λ i. place_in g.T.OfChannel.channel_of (c.channel.ensures i) (c.as_slice.ensures i)))
    (sym (λ i. is_of g.T.OfChannel.channel_of (c.channel-2.ensures i) (slice_get (c.as_slice-2.ensures i) c.side_place-place.result)) ∙ sym c.is_standing.ensures ∙ c.if-is_standing.true)
    (c.at_mut.ensures.value ∙ ap (λ x. Some x) (sym c.replace-before.ensures.value))

pub returns-clause-before : goal.returns-clause-before
returns-clause-before g c =
    stood_none g.T.OfChannel.channel_of (g.T.OfChannel.channel_of c.args.new) c.args.items.now c.side_place-place.result
    (c.side_place-place.ensures.value ∙ (λ i. place_in g.T.OfChannel.channel_of (c.channel.ensures i) (c.as_slice.ensures i)))
    (sym (λ i. is_of g.T.OfChannel.channel_of (c.channel-2.ensures i) (slice_get (c.as_slice-2.ensures i) c.side_place-place.result)) ∙ sym c.is_standing.ensures ∙ c.if-is_standing.false)
