-- Results that are no errors, and tests beside one that holds.
use Rattle.std.proofs.Common.{◌≡◌, Bool, true, false, refl, sym}
use Rattle.std.specs.Prelude.{◌&&◌, Result, Ok, Err, OnOk, is_err}

pub ok_of : {T E A : Type 0} (r : Result T E) → is_err r ≡ false → OnOk r A → A
ok_of (Ok t) e a = a
ok_of (Err x) e a = absurd cc

pub and_true : (a b : Bool) → b ≡ true → a ≡ (a && b)
and_true true b e = sym e
and_true false b e = refl
