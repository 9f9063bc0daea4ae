use Rattle.std.proofs.Common.{◌≡◌, ◌+◌, ◌++◌, ◌∷◌, [], ◌<◌, ◌^◌, List, ap, subst, ◌∙◌, arith}
use Rattle.std.specs.Prelude.{suc, take, Some}
use Rattle.mq_cable.specs.declared.item.Item.{Item}
use Rattle.mq_cable.specs.declared.push.Kept.{Kept}
use Rattle.mq_cable.specs.Offers.{due_of, kept_if}
use Rattle.mq_cable.proofs.Fits.{left_fit, push_fit, kept_as, copy_names}
use Rattle.mq_cable.proofs.offers.Offers.twice.Goals as goal

pub invariant_of-self-2 : goal.invariant_of-self-2
invariant_of-self-2 g c =
    let old = c.self.inside in
    let view = c.args.self.now in
    let number : old.number ≡ view.number = ap (λ o. o.number) c.self.view_is in
    let on = copy_names (suc view.number) c.args.frame c.args.after view.faults c.requires.fault in
    let few : old.number + 1 < 2 ^ 32 = omega (arith, on, number, c.ranges.frame) in
    let e : Kept = record { after = c.args.after; item = record { stamp = c.args.item.stamp; bytes = c.in-Ok.bytes } } in
    left_fit (old.number + 1) c.push_reserved.new.self.items c.push_due.new.kept.items (old.number + 1) c.push_due.ensures.left
    (push_fit old.kept.items c.push_reserved.new.self.items e old.number (c.push_reserved.ensures.items ∙ ap (λ l. l ++ e ∷ []) c.reserve.ensures.items) c.self.invariant c.requires.low few)

pub returns-clause-pushed : goal.returns-clause-pushed
returns-clause-pushed g c =
    let old = c.self.inside in
    let view = c.args.self.now in
    let number : old.number ≡ view.number = ap (λ o. o.number) c.self.view_is in
    let e : Kept = record { after = c.args.after; item = record { stamp = c.args.item.stamp; bytes = c.in-Ok.bytes } } in
    let same : c.in-Ok.bytes ≡ c.args.item.bytes = c.in-Ok.ensures ∙ c.as_slice.ensures in
    let pushed : c.push_reserved.new.self.items ≡ c.reserve.new.self.items ++ record { after = c.args.after; item = c.args.item } ∷ [] =
    c.push_reserved.ensures.items ∙ ap (λ b. c.reserve.new.self.items ++ record { after = c.args.after; item = record { stamp = c.args.item.stamp; bytes = b } } ∷ []) same in
    let kept = kept_as view.kept c.reserve.new.self.items c.push_reserved.new.self.items view.number c.args.after c.args.item (c.reserve.ensures.items ∙ ap (λ o. o.kept) c.self.view_is) pushed (omega (arith, number, c.if-after-self.false)) in
    let due : due_of (old.number + 1) c.push_reserved.new.self.items ≡ due_of (suc view.number) (view.kept ++ kept_if view.number (Some c.args.after) c.args.item) =
    ap (due_of (old.number + 1)) kept ∙ ap (λ n. due_of n (view.kept ++ kept_if view.number (Some c.args.after) c.args.item)) (omega (arith, number)) in
    g.met.W.Wire.writes_more c.args.out.now c.push.new.self c.push_due.new.out (c.args.item ∷ []) (take c.push_due.result (due_of (suc view.number) (view.kept ++ kept_if view.number (Some c.args.after) c.args.item))) c.in_default-push.ensures.ok
    (subst (λ (l : List Item). g.W.Wire.writes c.push.new.self (take c.push_due.result l) c.push_due.new.out) due c.push_due.ensures.pushed)
