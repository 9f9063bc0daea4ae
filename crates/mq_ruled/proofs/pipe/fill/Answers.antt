use Rattle.std.proofs.Common.{◌≡◌, List, [], ◌∷◌, ◌++◌, sym, ap, ◌∙◌, append_assoc, rules, subst}
use Rattle.mq_cable.specs.declared.item.Item.{Item}
use Rattle.mq_cable.specs.Lists.{AllLow}
use Rattle.mq_ruled.specs.declared.rule.PassView.{PassView}
use Rattle.mq_ruled.proofs.Low.{all_low-tail, is_first}
use Rattle.mq_ruled.proofs.pipe.fill.Goals as goal

moved : (sent now whole items items' : List Item) (x : Item) → now ≡ sent ++ x ∷ [] → items ≡ x ∷ items' → sent ++ items ≡ whole → now ++ items' ≡ whole
moved sent now whole items items' x p q h = ap (λ l. l ++ items') p ∙ append_assoc sent (x ∷ []) items' ∙ ap (λ l. sent ++ l) (sym q) ∙ h

pub loop-item-preserved : goal.loop-item-preserved
loop-item-preserved g c =
    let inv = c.loop-item.invariant in
    let now = ap (λ (u : PassView). u.sent) c.put.ensures.pass.1 in
    let popped : c.loop-item.items ≡ c.in-Some.item ∷ c.pop.new.self = is_first _ _ _ c.in-Some.ensures.item c.pop.ensures.rest in record {
      pass = search rules;
      cap = inv.cap;
      is = search rules;
      all = moved _ _ _ _ _ _ now popped inv.all;
      low = all_low-tail _ _ (let P : List Item → Type 0 = AllLow in subst P popped inv.low);
      room = inv.room;
    }
