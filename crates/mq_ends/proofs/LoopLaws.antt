-- A unit's items one by one.
use Rattle.std.proofs.Common.{◌≡◌, ℕ, suc, ◌+◌, ◌<◌, List, [], ◌∷◌, length, get_or, drop, refl, ap, sym, subst, ◌∙◌, add-one, drop-cons}
use Rattle.mq_calls.specs.declared.state.Item.{Item}
use Rattle.mq_calls.specs.declared.state.Item.TheVariants.{Put, Take}
use Rattle.mq_core.specs.Views.{PartsValue}
use Rattle.mq_core.specs.Placing.{put_each, take_each}
use Rattle.mq_ends.specs.Ends.{AreReady, backed_each}

left_at : (items : List Item) (i : ℕ) (item : Item) → i < length items → item ≡ get_or items i item → drop i items ≡ item ∷ drop (i + 1) items
left_at items i item lt is = drop-cons items i item lt ∙ ap (λ (x : Item). x ∷ drop (suc i) items) (sym is) ∙ ap (λ (n : ℕ). item ∷ drop n items) (sym (add-one i))

take_first : (item : Item) (items : List Item) (x : PartsValue) → take_each (item ∷ items) x ≡ take_each items (take_each (item ∷ []) x)
take_first (Put queue m) items x = refl
take_first (Take queue ident persistent) items x = refl

pub next_taken : (items : List Item) (i : ℕ) (x y z : PartsValue) (item : Item) → i < length items → item ≡ get_or items i item → y ≡ take_each (item ∷ []) x → take_each (drop i items) x ≡ z → take_each (drop (i + 1) items) y ≡ z
next_taken items i x y z item lt is one all =
    ap (λ (w : PartsValue). take_each (drop (i + 1) items) w) one ∙ sym (take_first item (drop (i + 1) items) x) ∙ ap (λ (xs : List Item). take_each xs x) (sym (left_at items i item lt is)) ∙ all

free_first : (item : Item) (items : List Item) (x : PartsValue) → backed_each (item ∷ items) x ≡ backed_each items (backed_each (item ∷ []) x)
free_first (Put queue m) items x = refl
free_first (Take queue ident persistent) items x = refl

pub next_freed : (items : List Item) (i : ℕ) (x y z : PartsValue) (item : Item) → i < length items → item ≡ get_or items i item → y ≡ backed_each (item ∷ []) x → backed_each (drop i items) x ≡ z → backed_each (drop (i + 1) items) y ≡ z
next_freed items i x y z item lt is one all =
    ap (λ (w : PartsValue). backed_each (drop (i + 1) items) w) one ∙ sym (free_first item (drop (i + 1) items) x) ∙ ap (λ (xs : List Item). backed_each xs x) (sym (left_at items i item lt is)) ∙ all

-- the first put of those that are left
put_first : (item : Item) (items : List Item) (x : PartsValue) → put_each (item ∷ items) x ≡ put_each items (put_each (item ∷ []) x)
put_first (Put queue m) items x = refl
put_first (Take queue ident persistent) items x = refl

ready_one : (item : Item) (items : List Item) (x : PartsValue) → AreReady (item ∷ items) x → AreReady (item ∷ []) x × AreReady items (put_each (item ∷ []) x)
ready_one (Put queue m) items x r = ((r.0, tt), r.1)
ready_one (Take queue ident persistent) items x r = (tt, r)

pub ready_first : (item : Item) (items all : List Item) (x : PartsValue) → all ≡ item ∷ items → AreReady all x → AreReady (item ∷ []) x
ready_first item items all x e r = (ready_one item items x (subst (λ (xs : List Item). AreReady xs x) e r)).0

pub ready_next : (item : Item) (items all : List Item) (x y : PartsValue) → all ≡ item ∷ items → y ≡ put_each (item ∷ []) x → AreReady all x → AreReady items y
ready_next item items all x y e one r = subst (AreReady items) (sym one) (ready_one item items x (subst (λ (xs : List Item). AreReady xs x) e r)).1

pub made_next : (item : Item) (items all : List Item) (x y z : PartsValue) → all ≡ item ∷ items → y ≡ put_each (item ∷ []) x → z ≡ put_each all x → z ≡ put_each items y
made_next item items all x y z e one is = is ∙ ap (λ (xs : List Item). put_each xs x) e ∙ put_first item items x ∙ ap (λ (w : PartsValue). put_each items w) (sym one)
