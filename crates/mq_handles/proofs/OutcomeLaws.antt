-- An outcome by cases.
use Rattle.std.proofs.Common.{◌≡◌, false, sym, subst}
use Rattle.std.specs.Prelude.{Result, Ok, Err, Option, Some, OnOk, OnErr, IfOk, IfSome, is_err}

pub on_ok : {T E A B : Type 0} (r : Result T E) → (A → B) → OnOk r A → OnOk r B
on_ok (Ok t) f a = f a
on_ok (Err e) f a = tt

pub on_err : {T E A B : Type 0} (r : Result T E) → (A → B) → OnErr r A → OnErr r B
on_err (Ok t) f a = tt
on_err (Err e) f a = f a

pub if_ok : {T E : Type 0} {A B : T → Type 0} (r : Result T E) → ((t : T) → A t → B t) → IfOk r A → IfOk r B
if_ok (Ok t) f a = f t a
if_ok (Err e) f a = tt

pub either_way : {T E A B C : Type 0} (r : Result T E) → (A → C) → (B → C) → OnOk r A → OnErr r B → C
either_way (Ok t) f g a b = f a
either_way (Err e) f g a b = g b

pub ok_of : {T E A : Type 0} (r : Result T E) → is_err r ≡ false → OnOk r A → A
ok_of (Ok t) e a = a
ok_of (Err x) e a = absurd cc

pub some_of : {X : Type 0} (P : X → Type 0) (o : Option X) (x : X) → o ≡ Some x → P x → IfSome o P
some_of P o x e p = subst (λ w. IfSome w P) (sym e) p
