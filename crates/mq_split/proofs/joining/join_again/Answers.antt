use Rattle.std.proofs.Common.{◌≡◌, ◌++◌, length, sym, ap, ◌∙◌, arith}
use Rattle.std.specs.Prelude.{Option}
use Rattle.mq_cable.specs.declared.item.Item.{Item}
use Rattle.mq_cable.specs.Lists.{list_of}
use Rattle.mq_ruled.specs.Ends.{PipeEnds}
use Rattle.mq_split.specs.Took.{EndState}
use Rattle.mq_split.proofs.JoinLaws.{joins_again}
use Rattle.mq_split.proofs.joining.join_again.Goals as goal

pub returns-clause-joined : goal.returns-clause-joined
returns-clause-joined g c =
    let near : c.near.inside.wire ≡ c.args.near.wire = ap (λ (e : EndState). e.wire) c.near.view_is in
    let far : c.far.inside.wire ≡ c.args.far.wire = ap (λ (e : EndState). e.wire) c.far.view_is in
    let x = c.into_parts-out_pusher.ensures in
    let y = c.into_parts-back_pusher.ensures in
    let out = c.close.ensures.left c.far.inside.wire.taken (y.popper.3 ∙ ap (λ (o : Option Item). c.far.inside.wire.taken ++ list_of o) (sym y.fetched.0)) in
    let back = c.close-2.ensures.left c.near.inside.wire.taken (x.popper.3 ∙ ap (λ (o : Option Item). c.near.inside.wire.taken ++ list_of o) (sym x.fetched.0)) in
    joins_again g.p c.args.near c.args.far c.requires.1.0 _
    (ap (λ (e : EndState). e.offers) c.near.view_is) (ap (λ (e : EndState). e.offers) c.far.view_is)
    (ap (λ (w : PipeEnds). w.sent) (sym near) ∙ sym x.pusher.3 ∙ out ∙ ap (λ (w : PipeEnds). w.taken ++ c.close.new.items) far)
    (ap (λ (w : PipeEnds). w.sent) (sym far) ∙ sym y.pusher.3 ∙ back ∙ ap (λ (w : PipeEnds). w.taken ++ c.close-2.new.items) near)

pub returns-clause-short : goal.returns-clause-short
returns-clause-short g c near_free far_free =
    let near : c.near.inside.wire ≡ c.args.near.wire = ap (λ (e : EndState). e.wire) c.near.view_is in
    let far : c.far.inside.wire ≡ c.args.far.wire = ap (λ (e : EndState). e.wire) c.far.view_is in
    let out = ap (λ (o : Option Item). length (list_of o)) (c.into_parts-back_pusher.ensures.fetched.0 ∙ ap (λ (w : PipeEnds). w.fetched) far ∙ far_free) in
    let back = ap (λ (o : Option Item). length (list_of o)) (c.into_parts-out_pusher.ensures.fetched.0 ∙ ap (λ (w : PipeEnds). w.fetched) near ∙ near_free) in
    let room = c.close.ensures.room in
    let room_back = c.close-2.ensures.room in
    (omega (arith, room, out), omega (arith, room_back, back))
