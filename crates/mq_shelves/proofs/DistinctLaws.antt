-- Idents that were not met before.
use Rattle.std.proofs.Common.{◌≡◌, ℕ, suc, ◌+◌, ◌<◌, Bool, true, false, cond, List, [], ◌∷◌, drop, length, get_or, add-one, drop-cons, refl, sym, ap, ◌∙◌}
use Rattle.std.specs.Prelude.{not, ◌||◌, ◌&&◌, Option, Some, is_some}
use Rattle.std.specs.List.{list_any}
use Rattle.mq_message.specs.declared.message.Ident.{Ident}
use Rattle.mq_queue.specs.Rows.{same_ident}
use Rattle.mq_spec_log.specs.Applies.{are_distinct}
use Rattle.mq_shelves.specs.Spots.{are_new}
use Rattle.mq_shelves.proofs.StandLaws.{and_none}

-- where none was met
pub all_new : (met : Ident → Bool) → ((ident : Ident) → met ident ≡ false) → (xs : List Ident) → are_distinct xs ≡ are_new met xs
all_new met none [] = refl
all_new met none (x ∷ xs) =
    ap (λ (b : Bool). (not b && not (list_any (same_ident x) xs)) && are_distinct xs) (sym (none x))
    ∙ ap (λ (b : Bool). (not (met x) && not (list_any (same_ident x) xs)) && b) (all_new met none xs)

more_if : (s t n a f : Bool) → ((not (s || t) && n) && (not a && f)) ≡ (not (s || a) && ((not t && n) && f))
more_if true t n a f = refl
more_if false t n true f = and_none (not t && n)
more_if false t n false f = refl

-- where one more was met
pub one_more : (x : Ident) (met now : Ident → Bool) → ((other : Ident) → now other ≡ (same_ident x other || met other)) → (xs : List Ident) → are_new now xs ≡ (not (list_any (same_ident x) xs) && are_new met xs)
one_more x met now more [] = refl
one_more x met now more (y ∷ ys) =
    ap (λ (b : Bool). (not b && not (list_any (same_ident y) ys)) && are_new now ys) (more y)
    ∙ ap (λ (b : Bool). (not (same_ident x y || met y) && not (list_any (same_ident y) ys)) && b) (one_more x met now more ys)
    ∙ more_if (same_ident x y) (met y) (not (list_any (same_ident y) ys)) (list_any (same_ident x) ys) (are_new met ys)

pub next_new : (x : Ident) (met now : Ident → Bool) → ((other : Ident) → now other ≡ (same_ident x other || met other)) → met x ≡ false → (xs : List Ident) → are_new met (x ∷ xs) ≡ are_new now xs
next_new x met now more first xs = ap (λ (b : Bool). (not b && not (list_any (same_ident x) xs)) && are_new met xs) first ∙ sym (one_more x met now more xs)

pub not_new : (x : Ident) (met : Ident → Bool) → met x ≡ true → (xs : List Ident) → are_new met (x ∷ xs) ≡ false
not_new x met again xs = ap (λ (b : Bool). (not b && not (list_any (same_ident x) xs)) && are_new met xs) again

-- a value that is put for some keys is there for these and for those for which one was there
pub some_if : {A : Type 0} (v : A) (b : Bool) (o : Option A) → is_some (cond b (Some v) o) ≡ (b || is_some o)
some_if v true o = refl
some_if v false o = refl

pub not_met : (first met : Bool) → first ≡ not met → first ≡ true → met ≡ false
not_met first true e f = absurd (cc (e, f))
not_met first false e f = refl

-- the next of some idents, and those behind it
pub left_at : (ids : List Ident) (i : ℕ) (x : Ident) → i < length ids → x ≡ get_or ids i x → drop i ids ≡ x ∷ drop (i + 1) ids
left_at ids i x lt is = drop-cons ids i x lt ∙ ap (λ (y : Ident). y ∷ drop (suc i) ids) (sym is) ∙ ap (λ (n : ℕ). x ∷ drop n ids) (sym (add-one i))

pub new_step : (ids : List Ident) (i : ℕ) (x : Ident) (met now : Ident → Bool) → ((other : Ident) → now other ≡ (same_ident x other || met other)) → met x ≡ false → i < length ids → x ≡ get_or ids i x
    → are_new met (drop i ids) ≡ are_new now (drop (i + 1) ids)
new_step ids i x met now more first lt is = ap (are_new met) (left_at ids i x lt is) ∙ next_new x met now more first (drop (i + 1) ids)
