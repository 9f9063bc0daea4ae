-- What is left in a queue is popped.
use Rattle.std.proofs.Common.{◌≡◌, ◌+◌, ◌≤◌, true, List, [], ◌∷◌, ◌++◌, length, refl, sym, ap, ◌∙◌, append_assoc, append-nil, arith, length-append}
use Rattle.mq_cable.specs.declared.item.Item.{Item}
use Rattle.mq_ruled.specs.declared.rule.PassView.{PassView}
use Rattle.mq_cable.specs.Lists.{AllLow}
use Rattle.mq_ruled.specs.Rule.{Popped}
use Rattle.mq_ruled.proofs.Low.{none_low, all_low-push}

pub record Drained (v0 v : PassView) (items0 items : List Item) : Type 0 where
  pub rest : List Item
  pub tail : List Item
  pub pushes : v.pushes ≡ true
  pub pops : v.pops ≡ true
  pub items_are : items ≡ items0 ++ rest
  pub received : v.received ≡ v0.received ++ rest
  pub sent : v.sent ≡ v0.sent
  pub known : v.sent ≡ v.received ++ tail
  pub low : AllLow rest
  pub short : length rest + length tail ≤ 64

pub start : (v : PassView) (items : List Item) → v.pushes ≡ true → v.pops ≡ true → ((tail : List Item) × (v.sent ≡ v.received ++ tail) × (length tail ≤ 64)) → Drained v v items items
start v items a b k = record {
  rest = [];
  tail = k.0;
  pushes = a;
  pops = b;
  items_are = sym (append-nil items);
  received = sym (append-nil v.received);
  sent = refl;
  known = k.1;
  low = none_low;
  short = let h = k.2 in omega arith;
}

shorter : (sent received tail rest : List Item) (x : Item) → sent ≡ received ++ tail → sent ≡ (received ++ x ∷ []) ++ rest → length tail ≡ length rest + 1
shorter sent received tail rest x p q =
    let a = ap length p ∙ length-append received tail in
    let b = ap length q ∙ length-append (received ++ x ∷ []) rest in
    let c = length-append received (x ∷ []) in
    omega arith

pub step : (v0 v w : PassView) (items0 items : List Item) (x : Item) → Drained v0 v items0 items → Popped v x w → Drained v0 w items0 (items ++ x ∷ [])
step v0 v w items0 items x d p =
    let more = p.2 d.pushes in
    let n = shorter v.sent v.received d.tail more.0 x d.known more.1 in
    let k = length-append d.rest (x ∷ []) in
    let s = d.short in record {
      rest = d.rest ++ x ∷ [];
      tail = more.0;
      pushes = ap (λ (u : PassView). u.pushes) p.1 ∙ d.pushes;
      pops = ap (λ (u : PassView). u.pops) p.1 ∙ d.pops;
      items_are = ap (λ l. l ++ x ∷ []) d.items_are ∙ append_assoc items0 d.rest (x ∷ []);
      received = ap (λ (u : PassView). u.received) p.1 ∙ ap (λ l. l ++ x ∷ []) d.received ∙ append_assoc v0.received d.rest (x ∷ []);
      sent = ap (λ (u : PassView). u.sent) p.1 ∙ d.sent;
      known = ap (λ (u : PassView). u.sent) p.1 ∙ more.1 ∙ ap (λ (u : PassView). u.received ++ more.0) (sym p.1);
      low = all_low-push d.rest x d.low p.0;
      short = omega arith;
    }
