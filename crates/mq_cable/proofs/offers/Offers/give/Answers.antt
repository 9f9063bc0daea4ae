use Rattle.std.proofs.Common.{◌≡◌, ◌++◌, ◌∷◌, [], ◌<◌, ◌≤◌, List, sym, subst, append-nil, rules}
use Rattle.std.specs.Prelude.{suc, take, length, Option, Some, IfOk}
use Rattle.mq_cable.specs.declared.fault.Fault.{Fault}
use Rattle.mq_cable.specs.declared.fault.Fault.TheVariants as faults
use Rattle.mq_cable.specs.declared.item.Item.{Item}
use Rattle.mq_cable.specs.declared.push.Kept.{Kept}
use Rattle.mq_cable.specs.Faults.{spoiled, pushed_now, comes_after}
use Rattle.mq_cable.specs.Offers.{due_of, kept_if, next_fault}
use Rattle.mq_cable.proofs.offers.Offers.give.Goals as goal

pub returns-in-Some-Drop-clause-fewer : goal.returns-in-Some-Drop-clause-fewer
returns-in-Some-Drop-clause-fewer g c =
    let view = c.args.self.now in
    let found : next_fault view ≡ Some (faults.Drop c.in-Some-Drop.field-0-0) = search rules in
    let Few : List Kept → Type 0 = λ kept. c.extras.result < length (due_of (suc view.number) kept) → g.W.Wire.was_full c.args.out.now c.extras.new.out in
    subst (λ (f : Option Fault). Few (view.kept ++ kept_if view.number (comes_after f) c.args.item)) (sym found) (subst Few (sym (append-nil view.kept)) c.extras.ensures.fewer)

pub returns-in-Some-Late-clause-pushed : goal.returns-in-Some-Late-clause-pushed
returns-in-Some-Late-clause-pushed g c =
    let view = c.args.self.now in
    let found : next_fault view ≡ Some (faults.Late c.in-Some-Late.frame c.in-Some-Late.after) = search rules in
    subst (λ (f : Option Fault). IfOk c.later.result (λ extras. g.W.Wire.writes c.args.out.now (pushed_now f c.args.item ++ take extras (due_of (suc view.number) (view.kept ++ kept_if view.number (comes_after f) c.args.item))) c.later.new.out)) (sym found) c.later.ensures.pushed

pub returns-in-Some-Late-clause-most : goal.returns-in-Some-Late-clause-most
returns-in-Some-Late-clause-most g c =
    let view = c.args.self.now in
    let found : next_fault view ≡ Some (faults.Late c.in-Some-Late.frame c.in-Some-Late.after) = search rules in
    subst (λ (f : Option Fault). IfOk c.later.result (λ extras. extras ≤ length (due_of (suc view.number) (view.kept ++ kept_if view.number (comes_after f) c.args.item)))) (sym found) c.later.ensures.most

pub returns-in-Some-Late-clause-fewer : goal.returns-in-Some-Late-clause-fewer
returns-in-Some-Late-clause-fewer g c =
    let view = c.args.self.now in
    let found : next_fault view ≡ Some (faults.Late c.in-Some-Late.frame c.in-Some-Late.after) = search rules in
    subst (λ (f : Option Fault). IfOk c.later.result (λ extras. extras < length (due_of (suc view.number) (view.kept ++ kept_if view.number (comes_after f) c.args.item)) → g.W.Wire.was_full c.args.out.now c.later.new.out)) (sym found) c.later.ensures.fewer

pub returns-in-Some-Copy-clause-pushed : goal.returns-in-Some-Copy-clause-pushed
returns-in-Some-Copy-clause-pushed g c =
    let view = c.args.self.now in
    let found : next_fault view ≡ Some (faults.Copy c.in-Some-Copy.frame c.in-Some-Copy.after) = search rules in
    subst (λ (f : Option Fault). IfOk c.twice.result (λ extras. g.W.Wire.writes c.args.out.now (pushed_now f c.args.item ++ take extras (due_of (suc view.number) (view.kept ++ kept_if view.number (comes_after f) c.args.item))) c.twice.new.out)) (sym found) c.twice.ensures.pushed

pub returns-in-Some-Copy-clause-most : goal.returns-in-Some-Copy-clause-most
returns-in-Some-Copy-clause-most g c =
    let view = c.args.self.now in
    let found : next_fault view ≡ Some (faults.Copy c.in-Some-Copy.frame c.in-Some-Copy.after) = search rules in
    subst (λ (f : Option Fault). IfOk c.twice.result (λ extras. extras ≤ length (due_of (suc view.number) (view.kept ++ kept_if view.number (comes_after f) c.args.item)))) (sym found) c.twice.ensures.most

pub returns-in-Some-Copy-clause-fewer : goal.returns-in-Some-Copy-clause-fewer
returns-in-Some-Copy-clause-fewer g c =
    let view = c.args.self.now in
    let found : next_fault view ≡ Some (faults.Copy c.in-Some-Copy.frame c.in-Some-Copy.after) = search rules in
    subst (λ (f : Option Fault). IfOk c.twice.result (λ extras. extras < length (due_of (suc view.number) (view.kept ++ kept_if view.number (comes_after f) c.args.item)) → g.W.Wire.was_full c.args.out.now c.twice.new.out)) (sym found) c.twice.ensures.fewer

pub returns-in-Some-Spoil-clause-pushed : goal.returns-in-Some-Spoil-clause-pushed
returns-in-Some-Spoil-clause-pushed g c =
    let view = c.args.self.now in
    let found : next_fault view ≡ Some (faults.Spoil c.in-Some-Spoil.field-0-0) = search rules in
    let Says : List Item → List Kept → Type 0 = λ first kept. IfOk c.now-in-Some-Spoil.result (λ extras. g.W.Wire.writes c.args.out.now (first ++ take extras (due_of (suc view.number) kept)) c.now-in-Some-Spoil.new.out) in
    let as_spoiled : Says (spoiled c.args.item ∷ []) view.kept = subst (λ (x : Item). Says (x ∷ []) view.kept) c.spoil.ensures c.now-in-Some-Spoil.ensures.pushed in
    subst (λ (f : Option Fault). Says (pushed_now f c.args.item) (view.kept ++ kept_if view.number (comes_after f) c.args.item)) (sym found) (subst (Says (spoiled c.args.item ∷ [])) (sym (append-nil view.kept)) as_spoiled)

pub returns-in-Some-Spoil-clause-fewer : goal.returns-in-Some-Spoil-clause-fewer
returns-in-Some-Spoil-clause-fewer g c =
    let view = c.args.self.now in
    let found : next_fault view ≡ Some (faults.Spoil c.in-Some-Spoil.field-0-0) = search rules in
    let Few : List Kept → Type 0 = λ kept. IfOk c.now-in-Some-Spoil.result (λ extras. extras < length (due_of (suc view.number) kept) → g.W.Wire.was_full c.args.out.now c.now-in-Some-Spoil.new.out) in
    subst (λ (f : Option Fault). Few (view.kept ++ kept_if view.number (comes_after f) c.args.item)) (sym found) (subst Few (sym (append-nil view.kept)) c.now-in-Some-Spoil.ensures.fewer)
