-- Numbers that rise do so with a handle more, and without one.
use Rattle.std.proofs.Common.{ℕ, ◌≡◌, ◌+◌, ◌<◌, Bool, true, false, List, [], ◌∷◌, ◌++◌, refl, arith}
use Rattle.std.specs.Prelude.{◌&&◌, if◌then◌else◌, nat_lt, filter, Result, Ok, Err, is_err, is_ok}
use Rattle.std.proofs.lemmas.Bool.Decides.{nat_tests}
use Rattle.mq_calls.specs.declared.state.Handle.{Handle}
use Rattle.mq_handles.specs.Rising.{AreBelow, handle_number}
use Rattle.mq_handles.specs.Seats.{HasHandles}
use Rattle.mq_handles.proofs.SeatLaws.{below_on, handles_kept, rising_on}
use Rattle.mq_net_books.specs.Handles.{RiseSo}

less_below : (m n : ℕ) (hs : List Handle) → m < n → AreBelow handle_number (m + 1) hs → AreBelow handle_number n hs
less_below m n [] lt k = tt
less_below m n (h ∷ hs) lt k = (omega (arith, lt, k.0), less_below m n hs lt k.1)

rise_more : (h : Handle) (hs : List Handle) (last : ℕ) → last < h.number → HasHandles hs last → HasHandles (hs ++ h ∷ []) h.number
rise_more h hs last lt k =
    let below = less_below last h.number hs lt k.below in
    record { rising = rising_on handle_number h hs k.rising below; below = below_on handle_number h.number h hs refl below }

pub so_more : (b : Bool) (h : Handle) (hs : List Handle) (last : ℕ) → RiseSo b last hs → RiseSo (b && nat_lt last h.number) h.number (hs ++ h ∷ [])
so_more false h hs last k = tt
so_more true h hs last k = by (nat_lt last h.number) refl
  where
    by : (t : Bool) → nat_lt last h.number ≡ t → RiseSo t h.number (hs ++ h ∷ [])
    by true e = rise_more h hs last (grind (arith, nat_tests, e)) k
    by false e = tt

pub so_less : (b : Bool) (test : Handle → Bool) (hs : List Handle) (last : ℕ) → RiseSo b last hs → RiseSo b last (filter test hs)
so_less true test hs last k = handles_kept test hs last k
so_less false test hs last k = tt

-- what a list is where memory for one more was found
pub kept_there : {T E : Type 0} (r : Result T E) (more less : List Handle) → is_err r ≡ false → (if is_ok r then more else less) ≡ more
kept_there (Ok t) more less e = refl
kept_there (Err x) more less e = absurd cc
