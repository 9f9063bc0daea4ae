-- How a direction goes on: nothing was offered, one frame more, one item less, or neither.
use Rattle.std.proofs.Common.{◌≡◌, ℕ, zero, suc, ◌+◌, ◌≤◌, ◌<◌, ◌^◌, Bool, true, List, [], ◌∷◌, ◌++◌, length, drop, refl, sym, ap, subst, ◌∙◌, arith, inl, inr}
use Rattle.std.specs.Prelude.{◌⊎◌, if◌then◌else◌, Option, Some}
use Rattle.std.specs.List.{AllByRecursion}
use Rattle.std.proofs.lemmas.Grind.{flat_map-append}
use Rattle.std.proofs.lemmas.List.{drop-append-le}
use Rattle.std.proofs.lemmas.List.Elements.{All-drop, All-from_recursion, filter-append}
use Rattle.mq_cable.specs.declared.fault.Fault.{Fault}
use Rattle.mq_cable.specs.declared.item.Item.{Item}
use Rattle.mq_cable.specs.Faults.{IsMadeOf, Offer, made, offered_of, pushed_of, spoiled}
use Rattle.mq_cable.specs.Lists.{AllLow}
use Rattle.mq_cable.specs.Offers.{HasTaken}
use Rattle.mq_cable.proofs.MadeLaws.{each_made, one_more}
use Rattle.mq_frame.specs.declared.frame.Frame.{Frame}
use Rattle.mq_spec_network.specs.from_spec_node.Terms.{Entry}
use Rattle.mq_spec_network.specs.from_spec_node.Words.{item_if, item_of, items_of}
use Rattle.mq_spec_network.specs.Cables.{is_popped, pops_of}
use Rattle.mq_ways.specs.Ways.{IsNew, IsWay, WayState}

abbrev Low : Item → Type 0
Low x = x.stamp ≤ 2 ^ 60

drop_nil : (n : ℕ) → drop {A = Item} n [] ≡ []
drop_nil zero = refl
drop_nil (suc n) = refl

-- Nothing was offered yet.
pub way_begins : (fs : List Fault) (pushes pops : List Entry) (w : WayState) → items_of pushes ≡ [] → pops_of pops ≡ [] → IsNew fs w → IsWay fs pushes pops w
way_begins fs pushes pops w none popped new = record {
  taken = subst (λ (os : List (Offer Item)). HasTaken w.offers (offered_of os)) (sym none) new.taken;
  faults = new.faults;
  lies = new.none ∙ sym (ap (λ (os : List (Offer Item)). drop (length (pops_of pops)) (made fs os)) none ∙ drop_nil (length (pops_of pops)));
  few = omega (arith, ap (λ (es : List Entry). length es) popped);
  low = subst (λ (os : List (Offer Item)). AllByRecursion Low (offered_of os)) (sym none) tt;
}

-- Neither end offered or popped.
pub way_others : (fs : List Fault) (ps qs more back : List Entry) (w : WayState) → items_of more ≡ items_of ps → length (pops_of back) ≡ length (pops_of qs) → IsWay fs ps qs w → IsWay fs more back w
way_others fs ps qs more back w same popped h = record {
  taken = subst (λ (os : List (Offer Item)). HasTaken w.offers (offered_of os)) (sym same) h.taken;
  faults = h.faults;
  lies = h.lies ∙ ap (λ (n : ℕ). drop n (made fs (items_of ps))) (sym popped) ∙ ap (λ (os : List (Offer Item)). drop (length (pops_of back)) (made fs os)) (sym same);
  few = omega (arith, h.few, popped, ap (λ (os : List (Offer Item)). length (made fs os)) same);
  low = subst (λ (os : List (Offer Item)). AllByRecursion Low (offered_of os)) (sym same) h.low;
}

-- what one entry more offers
append_nil : {A : Type 0} (xs : List A) → xs ++ [] ≡ xs
append_nil [] = refl
append_nil (x ∷ xs) = ap (λ (l : List _). x ∷ l) (append_nil xs)

pub items_more : (ps : List Entry) (e : Entry) → items_of (ps ++ e ∷ []) ≡ items_of ps ++ item_if e.effect.pushed e.effect.extras
items_more ps e = flat_map-append (λ (x : Entry). item_if x.effect.pushed x.effect.extras) ps (e ∷ []) ∙ ap (λ (os : List (Offer Item)). items_of ps ++ os) (append_nil (item_if e.effect.pushed e.effect.extras))

offered_more : (os : List (Offer Item)) (o : Offer Item) → offered_of (os ++ o ∷ []) ≡ offered_of os ++ o.item ∷ []
offered_more [] o = refl
offered_more (p ∷ os) o = ap (λ (l : List Item). p.item ∷ l) (offered_more os o)

low_more : (xs : List Item) (x : Item) → AllByRecursion Low xs → x.stamp ≤ 2 ^ 60 → AllByRecursion Low (xs ++ x ∷ [])
low_more [] x h l = (l, tt)
low_more (y ∷ ys) x h l = (h.0, low_more ys x h.1 l)

long_append : {A : Type 0} (xs ys : List A) → length (xs ++ ys) ≡ length xs + length ys
long_append [] ys = omega arith
long_append (x ∷ xs) ys = let h = long_append xs ys in omega (arith, h)

-- A frame was offered, with so many extra items behind it.
pub way_offered : (fs : List Fault) (ps qs : List Entry) (e : Entry) (f : Frame) (old new : WayState) → e.effect.pushed ≡ Some f → f.stamp ≤ 2 ^ 60 → IsWay fs ps qs old
    → new.items ≡ old.items ++ pushed_of fs (offered_of (items_of ps)) (item_of f) e.effect.extras → HasTaken new.offers (offered_of (items_of ps) ++ item_of f ∷ []) → new.offers.faults ≡ old.offers.faults → IsWay fs (ps ++ e ∷ []) qs new
way_offered fs ps qs e f old new pushed low h put taken faults =
    let os : List (Offer Item) = items_of ps in
    let o : Offer Item = record { item = item_of f; extras = e.effect.extras } in
    let more : items_of (ps ++ e ∷ []) ≡ os ++ o ∷ [] = items_more ps e ∙ ap (λ (x : Option Frame). os ++ item_if x e.effect.extras) pushed in
    let made_so : made fs (os ++ o ∷ []) ≡ made fs os ++ pushed_of fs (offered_of os) (item_of f) e.effect.extras = one_more spoiled fs os o in
    record {
      taken = subst (λ (l : List Item). HasTaken new.offers l) (sym (ap offered_of more ∙ offered_more os o)) taken;
      faults = faults ∙ h.faults;
      lies =
          put
          ∙ ap (λ (l : List Item). l ++ pushed_of fs (offered_of os) (item_of f) e.effect.extras) h.lies
          ∙ sym (drop-append-le (length (pops_of qs)) (made fs os) (pushed_of fs (offered_of os) (item_of f) e.effect.extras) h.few)
          ∙ ap (drop (length (pops_of qs))) (sym made_so)
          ∙ ap (λ (l : List (Offer Item)). drop (length (pops_of qs)) (made fs l)) (sym more);
      few = omega (arith, h.few, ap (λ (l : List (Offer Item)). length (made fs l)) more, ap (λ (l : List Item). length l) made_so, long_append (made fs os) (pushed_of fs (offered_of os) (item_of f) e.effect.extras));
      low = subst (λ (l : List Item). AllByRecursion Low l) (sym (ap offered_of more ∙ offered_more os o)) (low_more (offered_of os) (item_of f) h.low low);
    }

-- The item that waited was popped.
drop_first : {A : Type 0} (all : List A) (i : ℕ) (x : A) (ys : List A) → x ∷ ys ≡ drop i all → (i < length all) × (ys ≡ drop (i + 1) all)
drop_first [] zero x ys e = absurd cc
drop_first [] (suc i) x ys e = absurd cc
drop_first (a ∷ as_) zero x ys e = (omega arith, rest a x ys as_ e)
  where
    rest : {A : Type 0} (b y : A) (zs bs : List A) → y ∷ zs ≡ b ∷ bs → zs ≡ bs
    rest b y zs bs k = cc
drop_first (a ∷ as_) (suc i) x ys e =
    let h = drop_first as_ i x ys e in
    (up i (length as_) h.0, h.1 ∙ ap (λ (n : ℕ). drop n (a ∷ as_)) (one_up i))
  where
    one_up : (n : ℕ) → suc (n + 1) ≡ suc n + 1
    one_up n = omega arith

    up : (n m : ℕ) → n < m → suc n < suc m
    up n m k = omega (arith, k)

one_longer : {A : Type 0} (xs : List A) (x : A) → length (xs ++ x ∷ []) ≡ length xs + 1
one_longer xs x = long_append xs (x ∷ [])

popped_here : (e : Entry) → is_popped e ≡ true → pops_of (e ∷ []) ≡ e ∷ []
popped_here e h = ap (λ (b : Bool). if b then e ∷ [] else []) h

pub way_popped : (fs : List Fault) (ps qs : List Entry) (e : Entry) (x : Item) (old new : WayState) → is_popped e ≡ true → IsWay fs ps qs old → old.items ≡ x ∷ new.items → new.offers ≡ old.offers → IsWay fs ps (qs ++ e ∷ []) new
way_popped fs ps qs e x old new pop h front same =
    let more : length (pops_of (qs ++ e ∷ [])) ≡ length (pops_of qs) + 1 =
    ap (λ (es : List Entry). length es) (filter-append is_popped qs (e ∷ []) ∙ ap (λ (es : List Entry). pops_of qs ++ es) (popped_here e pop)) ∙ one_longer (pops_of qs) e in
    let next = drop_first (made fs (items_of ps)) (length (pops_of qs)) x new.items (sym front ∙ h.lies) in
    record {
      taken = subst (λ o. HasTaken o (offered_of (items_of ps))) (sym same) h.taken;
      faults = ap (λ o. o.faults) same ∙ h.faults;
      lies = next.1 ∙ ap (λ (n : ℕ). drop n (made fs (items_of ps))) (sym more);
      few = let lt = next.0 in omega (arith, lt, more);
      low = h.low;
    }

-- No item that lies there has a stamp above 2^60.
low_among : (front : List Item) (one : Item) (back : List Item) → AllByRecursion Low (front ++ one ∷ back) → one.stamp ≤ 2 ^ 60
low_among [] one back h = h.0
low_among (x ∷ xs) one back h = low_among xs one back h.1

low_made : (items : List Item) (xs : List Item) → AllByRecursion Low items → AllByRecursion (IsMadeOf items) xs → AllByRecursion Low xs
low_made items [] h m = tt
low_made items (x ∷ xs) h m = (low_one m.0, low_made items xs h m.1)
  where
    low_one : IsMadeOf items x → x.stamp ≤ 2 ^ 60
    low_one k = same k.same (low_among k.front k.one k.back (subst (λ (l : List Item). AllByRecursion Low l) k.among h))
      where
        same : (x ≡ k.one) ⊎ (x ≡ spoiled k.one) → k.one.stamp ≤ 2 ^ 60 → x.stamp ≤ 2 ^ 60
        same (inl e) l = subst (λ (y : Item). y.stamp ≤ 2 ^ 60) (sym e) l
        same (inr e) l = subst (λ (y : Item). y.stamp ≤ 2 ^ 60) (sym e) l

pub low_items : (fs : List Fault) (ps qs : List Entry) (w : WayState) → IsWay fs ps qs w → AllLow w.items
low_items fs ps qs w h =
    subst (λ (l : List Item). AllLow l) (sym h.lies)
    (All-drop Low (length (pops_of qs)) (made fs (items_of ps)) (All-from_recursion Low (made fs (items_of ps)) (low_made (offered_of (items_of ps)) (made fs (items_of ps)) h.low (each_made fs (items_of ps)))))
