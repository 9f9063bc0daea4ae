-- What the record of a batch takes of the log.
use Rattle.std.proofs.Common.{◌≡◌, ℕ, ◌+◌, ◌<◌, ◌≤◌, ◌^◌, Bool, true, false, cond, List, [], ◌∷◌, ◌++◌, length, get_or, drop, refl, ap, arith, sym, subst, ◌∙◌}
use Rattle.std.specs.Prelude.{Option, Some, None, sum_by, is_some, if◌then◌else◌}
use Rattle.std.specs.List.{flat_map, AllByRecursion}
use Rattle.std.proofs.lemmas.Bool.Decides.{nat_tests}
use Rattle.std.proofs.lemmas.List.Sums.{sum_by-cons}
use Rattle.std.proofs.lemmas.Grind.{flat_map-append}
use Rattle.mq_calls.specs.Words.{Dest, Luw, Plain, add_size, is_full, is_persistent, need, put_bytes, route_size}
use Rattle.mq_calls.specs.declared.records.Add.{Add}
use Rattle.mq_core.specs.declared.parts.Arrival.{Arrival}
use Rattle.mq_core.specs.Writes.{arrival_adds}
use Rattle.mq_receive.specs.Filling.{CanStand, adds_size}
use Rattle.mq_receive.specs.Committed.{batch_record, HasNeed}
use Rattle.mq_receive.proofs.FillLaws.{sum_two, left_at}

pub size_next : (a : Arrival) (rest : List Arrival) → adds_size (a ∷ rest) ≡ adds_size (a ∷ []) + adds_size rest
size_next a rest = ap (λ (adds : List Add). sum_by add_size adds) (flat_map-append arrival_adds (a ∷ []) rest) ∙ sum_two (flat_map arrival_adds (a ∷ [])) (flat_map arrival_adds rest)

-- one message
route_is : (o : Option Dest) → route_size o ≡ cond (is_some o) 96 0
route_is None = refl
route_is (Some d) = refl

one_add : Bool → Arrival → ℕ
one_add b a = sum_by add_size ((if b then (let add : Add = record { queue = a.queue; message = a.message } in add) ∷ [] else []) ++ [])

one_size : (a : Arrival) → adds_size (a ∷ []) ≡ one_add (is_persistent a.message) a
unfolding one_add
one_size a = refl

lasting_add : (a : Arrival) → one_add true a ≡ put_bytes a.message
unfolding one_add
lasting_add a =
    let add : Add = record { queue = a.queue; message = a.message } in
    let sum = sum_by-cons add_size add [] in
    let route = route_is a.message.route in
    omega (arith, sum, route)

none_add : (a : Arrival) → one_add false a ≡ 0
unfolding one_add
none_add a = refl

pub lasting_size : (a : Arrival) → is_persistent a.message ≡ true → put_bytes a.message ≡ adds_size (a ∷ [])
lasting_size a e = sym (one_size a ∙ ap (λ (b : Bool). one_add b a) e ∙ lasting_add a)

pub none_size : (a : Arrival) → is_persistent a.message ≡ false → 0 ≡ adds_size (a ∷ [])
none_size a e = sym (one_size a ∙ ap (λ (b : Bool). one_add b a) e ∙ none_add a)

pub short_body : (a : Arrival) → CanStand a → is_persistent a.message ≡ true → length a.message.body < 2 ^ 32
short_body a can e = let short = (can e).words.body in omega (arith, short)

-- the batch
pub can_at : (landed : List Arrival) (i : ℕ) (a : Arrival) → i < length landed → a ≡ get_or landed i a → AllByRecursion CanStand (drop i landed) → CanStand a × AllByRecursion CanStand (drop (i + 1) landed)
can_at landed i a lt is h = let all = subst (λ (xs : List Arrival). AllByRecursion CanStand xs) (left_at landed i a lt is) h in (all.0, all.1)

pub can_more : (landed : List Arrival) (i : ℕ) (a : Arrival) → i < length landed → a ≡ get_or landed i a → CanStand a → (AllByRecursion CanStand (drop i landed) → AllByRecursion CanStand landed) → AllByRecursion CanStand (drop (i + 1) landed) → AllByRecursion CanStand landed
can_more landed i a lt is can all rest = all (subst (λ (xs : List Arrival). AllByRecursion CanStand xs) (sym (left_at landed i a lt is)) (can, rest))

pub size_at : (landed : List Arrival) (i : ℕ) (a : Arrival) → i < length landed → a ≡ get_or landed i a → adds_size (drop i landed) ≡ adds_size (a ∷ []) + adds_size (drop (i + 1) landed)
size_at landed i a lt is = ap (λ (xs : List Arrival). adds_size xs) (left_at landed i a lt is) ∙ size_next a (drop (i + 1) landed)

-- the log
pub need_is : (channel : List ℕ) (unit : Luw) (last : ℕ) (landed : List Arrival) → need (batch_record channel unit last landed) ≡ 50 + adds_size landed
need_is channel unit last landed = omega arith

pub full_of : (n : ℕ) (p : Plain) → p.given.log_max < 2 ^ 32 → 2 ^ 64 ≤ n → is_full n p ≡ true
full_of n p small long = grind (arith, nat_tests, small, long)

pub fits_small : (n : ℕ) (p : Plain) → p.given.log_max < 2 ^ 32 → 0 < n → is_full n p ≡ false → n < 2 ^ 32
fits_small n p small some e = grind (arith, nat_tests, small, some, e)

pub has_need : (channel : List ℕ) (unit : Luw) (last : ℕ) (landed : List Arrival) (n : ℕ) (p : Plain) → p.given.log_max < 2 ^ 32 → n ≡ 50 + adds_size landed → is_full n p ≡ false → HasNeed (batch_record channel unit last landed) p n
has_need channel unit last landed n p small is fits =
    let same : n ≡ need (batch_record channel unit last landed) = is ∙ sym (need_is channel unit last landed) in
    record { is = same; fits = ap (λ (k : ℕ). is_full k p) (sym same) ∙ fits; small = fits_small n p small (omega (arith, is)) fits }

-- one message more
pub need_next : (landed : List Arrival) (i : ℕ) (a : Arrival) (sum more new : ℕ) → i < length landed → a ≡ get_or landed i a → more ≡ adds_size (a ∷ []) → sum + adds_size (drop i landed) ≡ 50 + adds_size landed → new ≡ sum + more → new + adds_size (drop (i + 1) landed) ≡ 50 + adds_size landed
need_next landed i a sum more new lt is one so_far e = let next = size_at landed i a lt is in omega (arith, next, one, so_far, e)

pub need_past : (landed : List Arrival) (i : ℕ) (a : Arrival) (sum more : ℕ) → i < length landed → a ≡ get_or landed i a → more ≡ adds_size (a ∷ []) → sum + adds_size (drop i landed) ≡ 50 + adds_size landed → 2 ^ 64 ≤ sum + more → 2 ^ 64 ≤ 50 + adds_size landed
need_past landed i a sum more lt is one so_far long = let next = size_at landed i a lt is in omega (arith, next, one, so_far, long)
