use Rattle.std.proofs.Common.{◌≡◌, ◌+◌, ◌++◌, ◌∷◌, [], ◌<◌, ◌^◌, ap, ◌∙◌, arith}
use Rattle.std.specs.Prelude.{suc}
use Rattle.mq_cable.specs.declared.push.Kept.{Kept}
use Rattle.mq_cable.proofs.Fits.{left_fit, push_fit, late_names}
use Rattle.mq_cable.proofs.offers.Offers.later.Goals as goal

pub invariant_of-self-2 : goal.invariant_of-self-2
invariant_of-self-2 g c =
    let old = c.self.inside in
    let view = c.args.self.now in
    let number : old.number ≡ view.number = ap (λ o. o.number) c.self.view_is in
    let on = late_names (suc view.number) c.args.frame c.args.after view.faults c.requires.fault in
    let few : old.number + 1 < 2 ^ 32 = omega (arith, on, number, c.ranges.frame) in
    let e : Kept = record { after = c.args.after; item = c.args.item } in
    left_fit (old.number + 1) c.push_reserved.new.self.items c.push_due.new.kept.items (old.number + 1) c.push_due.ensures.left
    (push_fit old.kept.items c.push_reserved.new.self.items e old.number (c.push_reserved.ensures.items ∙ ap (λ l. l ++ e ∷ []) c.reserve.ensures.items) c.self.invariant c.requires.low few)
