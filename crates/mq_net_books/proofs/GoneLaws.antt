-- Idents that came stay found.
use Rattle.std.proofs.Common.{◌≡◌, ℕ, Bool, true, false, cond, List, [], ◌∷◌, ◌++◌, refl, ap, sym, subst, ◌∙◌}
use Rattle.std.specs.Prelude.{is_err, Result, Ok, Err, OnOk, Option, Some, is_some, ◌||◌}
use Rattle.std.specs.List.{list_any}
use Rattle.mq_message.specs.declared.message.Ident.{Ident}
use Rattle.mq_queue.specs.Rows.{same_ident}
use Rattle.mq_queue.proofs.Edits.{same_turned}
use Rattle.mq_net_books.specs.Gone.{AreKnown}

pub ok_of : {T E A : Type 0} (r : Result T E) → is_err r ≡ false → OnOk r A → A
ok_of (Ok t) e a = a
ok_of (Err x) e a = absurd cc

more : (test : Ident → Bool) (is : List Ident) (i : Ident) → list_any test (is ++ i ∷ []) ≡ (test i || list_any test is)
more test [] i = refl
more test (x ∷ xs) i = ap (λ (b : Bool). test x || b) (more test xs i) ∙ swap (test x) (test i) (list_any test xs)
  where
    swap : (a b c : Bool) → (a || (b || c)) ≡ (b || (a || c))
    swap true true c = refl
    swap true false c = refl
    swap false b c = refl

some_if : (b : Bool) (slot : ℕ) (r : Option ℕ) → is_some (cond b (Some slot) r) ≡ (b || is_some r)
some_if true slot r = refl
some_if false slot r = refl

pub came : (home now : Ident → Option ℕ) (is new : List Ident) (i : Ident) (slot : ℕ) → AreKnown home is → ((other : Ident) → now other ≡ cond (same_ident i other) (Some slot) (home other)) → new ≡ is ++ i ∷ [] → AreKnown now new
came home now is new i slot known noted e = subst (AreKnown now) (sym e) (λ other.
    ap is_some (noted other) ∙ some_if (same_ident i other) slot (home other)
    ∙ (λ j. same_turned i other j || known other j)
    ∙ sym (more (same_ident other) is i))
