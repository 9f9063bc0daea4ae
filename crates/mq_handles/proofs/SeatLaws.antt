-- Lists whose numbers rise, and the handles of a connection.
use Rattle.std.proofs.Common.{◌≡◌, ℕ, zero, suc, ◌+◌, ◌<◌, Bool, true, false, cond, List, [], ◌∷◌, ◌++◌, length, take, get_or, refl, ap, arith, sym, subst, ◌∙◌}
use Rattle.std.specs.Prelude.{position, Some, None, ◌==◌, not, filter, map, slice_get, slice_set}
use Rattle.std.specs.List.{AllByRecursion, remove}
use Rattle.std.proofs.lemmas.Bool.Decides.{nat_tests}
use Rattle.mq_calls.specs.Words.{PathStep, handle_at, change_handle, stale_if, has_step}
use Rattle.mq_calls.specs.declared.state.Handle.{Handle}
use Rattle.mq_handles.specs.Rising.{AreRising, AreBelow, handle_number, has_handle_number}
use Rattle.mq_handles.specs.Seats.{HasHandles}

-- ---- numbers

more_above : {X : Type 0} (f : X → ℕ) (x y : X) (ys : List X) → AllByRecursion (λ z. f y < f z) ys → f y < f x → AllByRecursion (λ z. f y < f z) (ys ++ x ∷ [])
more_above f x y [] a lt = (lt, tt)
more_above f x y (z ∷ zs) a lt = (a.0, more_above f x y zs a.1 lt)

-- what rises up to a number goes on with the next
pub rising_on : {X : Type 0} (f : X → ℕ) (x : X) (xs : List X) → AreRising f xs → AreBelow f (f x) xs → AreRising f (xs ++ x ∷ [])
rising_on f x [] o h = (tt, tt)
rising_on f x (y ∷ ys) o h = (more_above f x y ys o.0 h.0, rising_on f x ys o.1 h.1)

pub below_on : {X : Type 0} (f : X → ℕ) (n : ℕ) (x : X) (xs : List X) → f x ≡ n → AreBelow f n xs → AreBelow f (n + 1) (xs ++ x ∷ [])
below_on f n x [] e h = (omega (arith, e), tt)
below_on f n x (y ∷ ys) e h = (omega (arith, h.0), below_on f n x ys e h.1)

-- fewer of them
all_kept : {X : Type 0} (P : X → Type 0) (test : X → Bool) (xs : List X) → AllByRecursion P xs → AllByRecursion P (filter test xs)
all_kept P test [] h = tt
all_kept P test (x ∷ xs) h = by (test x) (all_kept P test xs h.1)
  where
    by : (b : Bool) → AllByRecursion P (filter test xs) → AllByRecursion P (cond b (x ∷ filter test xs) (filter test xs))
    by true rest = (h.0, rest)
    by false rest = rest

pub rising_kept : {X : Type 0} (f : X → ℕ) (test : X → Bool) (xs : List X) → AreRising f xs → AreRising f (filter test xs)
rising_kept f test [] o = tt
rising_kept f test (x ∷ xs) o = by (test x) (all_kept (λ y. f x < f y) test xs o.0) (rising_kept f test xs o.1)
  where
    by : (b : Bool) → AllByRecursion (λ y. f x < f y) (filter test xs) → AreRising f (filter test xs) → AreRising f (cond b (x ∷ filter test xs) (filter test xs))
    by true first rest = (first, rest)
    by false first rest = rest

pub below_kept : {X : Type 0} (f : X → ℕ) (n : ℕ) (test : X → Bool) (xs : List X) → AreBelow f n xs → AreBelow f n (filter test xs)
below_kept f n test xs h = all_kept (λ x. f x < n) test xs h

-- one of them changed, and not its number
all_put : {X : Type 0} (P : X → Type 0) (xs : List X) (at : ℕ) (x : X) → P x → AllByRecursion P xs → AllByRecursion P (slice_set xs at x)
all_put P [] at x p h = h
all_put P (y ∷ ys) zero x p h = (p, h.1)
all_put P (y ∷ ys) (suc at) x p h = (h.0, all_put P ys at x p h.1)

pub all_at : {X : Type 0} (P : X → Type 0) (xs : List X) (at : ℕ) (x : X) → slice_get xs at ≡ Some x → AllByRecursion P xs → P x
all_at P [] at x e h = absurd cc
all_at P (y ∷ ys) zero x e h = subst P (grind (arith, e)) h.0
all_at P (y ∷ ys) (suc at) x e h = all_at P ys at x (grind (arith, e)) h.1

pub below_put : {X : Type 0} (f : X → ℕ) (n : ℕ) (xs : List X) (at : ℕ) (old new : X) → slice_get xs at ≡ Some old → f new ≡ f old → AreBelow f n xs → AreBelow f n (slice_set xs at new)
below_put f n xs at old new e same h = all_put (λ x. f x < n) xs at new (subst (λ k. k < n) (sym same) (all_at (λ x. f x < n) xs at old e h)) h

pub rising_put : {X : Type 0} (f : X → ℕ) (xs : List X) (at : ℕ) (old new : X) → slice_get xs at ≡ Some old → f new ≡ f old → AreRising f xs → AreRising f (slice_set xs at new)
rising_put f [] at old new e same o = o
rising_put f (x ∷ xs) zero old new e same o =
    let is : x ≡ old = grind (arith, e) in
    (subst (λ k. AllByRecursion (λ y. k < f y) xs) (ap f is ∙ sym same) o.0, o.1)
rising_put f (x ∷ xs) (suc at) old new e same o =
    let rest : slice_get xs at ≡ Some old = grind (arith, e) in
    (all_put (λ y. f x < f y) xs at new (subst (λ k. f x < k) (sym same) (all_at (λ y. f x < f y) xs at old rest o.0)) o.0, rising_put f xs at old new rest same o.1)

all_mapped : {X : Type 0} (P : X → Type 0) (g : X → X) → ((x : X) → P x → P (g x)) → (xs : List X) → AllByRecursion P xs → AllByRecursion P (map g xs)
all_mapped P g keeps [] h = tt
all_mapped P g keeps (x ∷ xs) h = (keeps x h.0, all_mapped P g keeps xs h.1)

pub below_mapped : {X : Type 0} (f : X → ℕ) (n : ℕ) (g : X → X) → ((x : X) → f (g x) ≡ f x) → (xs : List X) → AreBelow f n xs → AreBelow f n (map g xs)
below_mapped f n g same xs h = all_mapped (λ x. f x < n) g (λ x lt. subst (λ k. k < n) (sym (same x)) lt) xs h

pub rising_mapped : {X : Type 0} (f : X → ℕ) (g : X → X) → ((x : X) → f (g x) ≡ f x) → (xs : List X) → AreRising f xs → AreRising f (map g xs)
rising_mapped f g same [] o = tt
rising_mapped f g same (x ∷ xs) o =
    (subst (λ k. AllByRecursion (λ y. k < f y) (map g xs)) (sym (same x)) (all_mapped (λ y. f x < f y) g (λ y lt. subst (λ k. f x < k) (sym (same y)) lt) xs o.0), rising_mapped f g same xs o.1)

-- ---- one of a number goes

all_stay : {X : Type 0} (f : X → ℕ) (n : ℕ) (xs : List X) → AllByRecursion (λ y. n < f y) xs → filter (λ x. not (f x == n)) xs ≡ xs
all_stay f n [] h = refl
all_stay f n (x ∷ xs) h = let a = h.0 in grind (arith, nat_tests, all_stay f n xs h.1)

pub none_goes : {X : Type 0} (f : X → ℕ) (n : ℕ) (xs : List X) → position (λ x. f x == n) xs ≡ None → filter (λ x. not (f x == n)) xs ≡ xs
none_goes f n [] e = refl
none_goes f n (x ∷ xs) e = grind (arith, nat_tests, none_goes f n xs)

pub one_goes : {X : Type 0} (f : X → ℕ) (n : ℕ) (xs : List X) (at : ℕ) → AreRising f xs → position (λ x. f x == n) xs ≡ Some at → remove xs at ≡ filter (λ x. not (f x == n)) xs
one_goes f n [] at o e = absurd cc
one_goes f n (x ∷ xs) zero o e =
    let is : f x ≡ n = grind (arith, nat_tests, e) in
    let rest : filter (λ y. not (f y == n)) xs ≡ xs = all_stay f n xs (subst (λ k. AllByRecursion (λ y. k < f y) xs) is o.0) in
    grind (arith, nat_tests, is, rest)
one_goes f n (x ∷ xs) (suc at) o e =
    let rest = one_goes f n xs at o.1 in
    grind (arith, nat_tests, e, rest)

-- ---- handles by number

pub handle_none : (n : ℕ) (hs : List Handle) → position (has_handle_number n) hs ≡ None → handle_at n hs ≡ None
handle_none n [] e = refl
handle_none n (h ∷ hs) e = grind (arith, nat_tests, handle_none n hs)

pub handle_some : (n : ℕ) (hs : List Handle) (at : ℕ) (d : Handle) → position (has_handle_number n) hs ≡ Some at → handle_at n hs ≡ Some (get_or hs at d)
handle_some n [] at d e = absurd cc
handle_some n (h ∷ hs) zero d e = grind (arith, nat_tests)
handle_some n (h ∷ hs) (suc at) d e = grind (arith, nat_tests, handle_some n hs at d)

pub handle_get : (n : ℕ) (hs : List Handle) (at : ℕ) → position (has_handle_number n) hs ≡ Some at → handle_at n hs ≡ slice_get hs at
handle_get n [] at e = absurd cc
handle_get n (h ∷ hs) zero e = grind (arith, nat_tests)
handle_get n (h ∷ hs) (suc at) e = grind (arith, nat_tests, handle_get n hs at)

pub handle_within : (n : ℕ) (hs : List Handle) (at : ℕ) → position (has_handle_number n) hs ≡ Some at → at < length hs
handle_within n [] at e = absurd cc
handle_within n (h ∷ hs) zero e = omega arith
handle_within n (h ∷ hs) (suc at) e = grind (arith, nat_tests, handle_within n hs at)

pub changed_handle : (n : ℕ) (f : Handle → Handle) (hs : List Handle) (at : ℕ) (h : Handle) → position (has_handle_number n) hs ≡ Some at → slice_get hs at ≡ Some h → slice_set hs at (f h) ≡ change_handle n f hs
changed_handle n f [] at h e g = grind (arith)
changed_handle n f (x ∷ xs) zero h e g = grind (arith)
changed_handle n f (x ∷ xs) (suc at) h e g = grind (arith, changed_handle n f xs at h)

pub changed_none : (n : ℕ) (f : Handle → Handle) (hs : List Handle) → position (has_handle_number n) hs ≡ None → change_handle n f hs ≡ hs
changed_none n f [] e = refl
changed_none n f (x ∷ xs) e = grind (arith, changed_none n f xs)

-- ---- a list behind which nothing is left

pub front_of : {X : Type 0} (ys zs : List X) → take (length ys) (ys ++ zs) ≡ ys
front_of [] zs = refl
front_of (y ∷ ys) zs = ap (λ (l : List _). y ∷ l) (front_of ys zs)

pub map_long : {X Y : Type 0} (f : X → Y) (xs : List X) → length (map f xs) ≡ length xs
map_long f [] = refl
map_long f (x ∷ xs) = omega (arith, map_long f xs)

pub stale_number : (step : PathStep) (h : Handle) → (stale_if (has_step step h) h).number ≡ h.number
stale_number step h = by (has_step step h)
  where
    by : (b : Bool) → (stale_if b h).number ≡ h.number
    by true = refl
    by false = refl

-- ---- what is kept of a connection's handles

pub handles_on : (h : Handle) (hs : List Handle) (last : ℕ) → h.number ≡ last + 1 → HasHandles hs last → HasHandles (hs ++ h ∷ []) (last + 1)
handles_on h hs last e k = record {
  rising = rising_on handle_number h hs k.rising (subst (λ n. AreBelow handle_number n hs) (sym e) k.below);
  below = below_on handle_number (last + 1) h hs e k.below;
}

pub handles_opened : (h : Handle) (hs ks ms : List Handle) (last : ℕ) → ms ≡ ks ++ h ∷ [] → ks ≡ hs → h.number ≡ last + 1 → HasHandles hs last → HasHandles ms (last + 1)
handles_opened h hs ks ms last pushed same e k = subst (λ (l : List Handle). HasHandles l (last + 1)) (sym (pushed ∙ ap (λ (l : List Handle). l ++ h ∷ []) same)) (handles_on h hs last e k)

pub handles_kept : (test : Handle → Bool) (hs : List Handle) (last : ℕ) → HasHandles hs last → HasHandles (filter test hs) last
handles_kept test hs last k = record { rising = rising_kept handle_number test hs k.rising; below = below_kept handle_number (last + 1) test hs k.below }

pub handles_put : (hs : List Handle) (last at : ℕ) (old new : Handle) → slice_get hs at ≡ Some old → new.number ≡ old.number → HasHandles hs last → HasHandles (slice_set hs at new) last
handles_put hs last at old new e same k = record {
  rising = rising_put handle_number hs at old new e same k.rising;
  below = below_put handle_number (last + 1) hs at old new e same k.below;
}

pub handles_mapped : (g : Handle → Handle) → ((h : Handle) → (g h).number ≡ h.number) → (hs : List Handle) (last : ℕ) → HasHandles hs last → HasHandles (map g hs) last
handles_mapped g same hs last k = record { rising = rising_mapped handle_number g same hs k.rising; below = below_mapped handle_number (last + 1) g same hs k.below }
