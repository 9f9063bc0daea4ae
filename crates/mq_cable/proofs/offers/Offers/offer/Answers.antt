use Rattle.std.proofs.Common.{◌++◌, ◌∷◌, [], ◌<◌, ◌≤◌, ℕ, List, sym, subst}
use Rattle.std.specs.Prelude.{suc, take, length, IfOk}
use Rattle.std.proofs.lemmas.Result.{on_ok_weaker}
use Rattle.mq_cable.specs.declared.item.Item.{Item}
use Rattle.mq_cable.specs.Faults.{fault_of, pushed_now, due_after}
use Rattle.mq_cable.specs.Offers.{Offering, HasTaken}
use Rattle.mq_cable.proofs.OfferLaws.{taken_next, due_next}
use Rattle.mq_cable.proofs.offers.Offers.offer.Goals as goal

pub returns-clause-pushed : goal.returns-clause-pushed
returns-clause-pushed g c offered h =
    let o = c.args.self.now in
    let P : ℕ → List Item → Type 0 = λ n due. IfOk c.give.result (λ extras. g.W.Wire.writes c.args.out.now (pushed_now (fault_of (suc n) o.faults) c.args.item ++ take extras due) c.give.new.out) in
    subst (λ (n : ℕ). P n (due_after o.faults (offered ++ c.args.item ∷ []))) h.number (subst (P o.number) (due_next o offered c.args.item h) c.give.ensures.pushed)

pub returns-clause-taken : goal.returns-clause-taken
returns-clause-taken g c offered h =
    on_ok_weaker c.give.result (λ e. subst (λ (s : Offering). HasTaken s (offered ++ c.args.item ∷ [])) (sym e) (taken_next c.args.self.now offered c.args.item h)) c.give.ensures.step

pub returns-clause-most : goal.returns-clause-most
returns-clause-most g c offered h =
    subst (λ (due : List Item). IfOk c.give.result (λ extras. extras ≤ length due)) (due_next c.args.self.now offered c.args.item h) c.give.ensures.most

pub returns-clause-fewer : goal.returns-clause-fewer
returns-clause-fewer g c offered h =
    subst (λ (due : List Item). IfOk c.give.result (λ extras. extras < length due → g.W.Wire.was_full c.args.out.now c.give.new.out)) (due_next c.args.self.now offered c.args.item h) c.give.ensures.fewer
