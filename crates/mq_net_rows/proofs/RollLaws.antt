-- What stands in order stays found by its names.
use Rattle.std.proofs.Common.{◌≡◌, ℕ, zero, suc, ◌+◌, ◌<◌, ◌≤◌, take, get_or, Bool, true, false, cond, List, [], ◌∷◌, ◌++◌, length, refl, ap, sym, subst, ◌∙◌, arith}
use Rattle.std.specs.Prelude.{is_err, Result, Ok, Err, OnOk, OnErr, Option, Some, None, is_some, not, option_map, position, nat_lt, if◌then◌else◌}
use Rattle.std.specs.List.{position_or_len}
use Rattle.std.specs.Str.{bytes_eq}
use Rattle.std.proofs.lemmas.Bool.Decides.{nat_tests}
use Rattle.std.proofs.lemmas.List.{take_more, take_all, length-take-le}
use Rattle.std.proofs.lemmas.Slice.Eq.{bytes_eq-Decides}
use Rattle.mq_queue.specs.declared.row.Row.{Row}
use Rattle.mq_calls.specs.declared.image.Shelf.{Shelf}
use Rattle.mq_spec_network.specs.Ledger.{change_at, rows_in}
use Rattle.mq_net_rows.specs.declared.lanes.Named.{Named}
use Rattle.mq_net_rows.specs.Stored.{seat_on}
use Rattle.mq_net_rows.specs.Rolls.{place_in, AreFound, queue_name, shelf_name, rows_on}

pub ok_of : {T E A : Type 0} (r : Result T E) → is_err r ≡ false → OnOk r A → A
ok_of (Ok t) e a = a
ok_of (Err x) e a = absurd cc

-- The first place, one value behind another.

below : (n m : ℕ) → nat_lt (suc n) (suc m) ≡ nat_lt n m
below n m = grind (arith, nat_tests)

above : (m : ℕ) → nat_lt 0 (suc m) ≡ true
above m = grind (arith, nat_tests)

mapped : (t : Bool) (n : ℕ) → cond t (Some (suc n)) None ≡ option_map suc (cond t (Some n) None)
mapped true n = refl
mapped false n = refl

first_step : (b : Bool) (n m : ℕ) → cond (nat_lt (cond (not b) (1 + n) 0) (suc m)) (Some (cond (not b) (1 + n) 0)) None ≡ cond b (Some 0) (option_map suc (cond (nat_lt n m) (Some n) None))
first_step true n m = ap (λ (t : Bool). cond t (Some 0) None) (above m)
first_step false n m =
    let one : 1 + n ≡ suc n = omega arith in
    ap (λ (k : ℕ). cond (nat_lt k (suc m)) (Some k) None) one ∙ ap (λ (t : Bool). cond t (Some (suc n)) None) (below n m) ∙ mapped (nat_lt n m) n

first : {A : Type 0} (p : A → Bool) (x : A) (xs : List A) → position p (x ∷ xs) ≡ cond (p x) (Some 0) (option_map suc (position p xs))
first p x xs = first_step (p x) (position_or_len p xs) (length xs)

or_last : Option ℕ → Bool → ℕ → Option ℕ
or_last (Some i) b n = Some i
or_last None b n = cond b (Some n) None

last_step : (t b : Bool) (r : Option ℕ) (n : ℕ) → cond t (Some 0) (option_map suc (or_last r b n)) ≡ or_last (cond t (Some 0) (option_map suc r)) b (suc n)
unfolding or_last
last_step true b r n = refl
last_step false b (Some i) n = refl
last_step false true None n = refl
last_step false false None n = refl

last_one : (b : Bool) → cond b (Some 0) (option_map suc None) ≡ or_last None b 0
unfolding or_last
last_one true = refl
last_one false = refl

last : {A : Type 0} (p : A → Bool) (xs : List A) (x : A) → position p (xs ++ x ∷ []) ≡ or_last (position p xs) (p x) (length xs)
unfolding or_last
last p [] x = first p x [] ∙ last_one (p x)
last p (y ∷ ys) x =
    first p y (ys ++ x ∷ []) ∙ ap (λ (r : Option ℕ). cond (p y) (Some 0) (option_map suc r)) (last p ys x)
    ∙ last_step (p y) (p x) (position p ys) (length ys) ∙ ap (λ (r : Option ℕ). or_last r (p x) (suc (length ys))) (sym (first p y ys))

-- Names.

name_is : (a b : List ℕ) → bytes_eq a b ≡ true → a ≡ b
name_is a b e = (bytes_eq-Decides a b).0 e

name_self : (a : List ℕ) → bytes_eq a a ≡ true
name_self a = (bytes_eq-Decides a a).1 refl

known_step : {A : Type 0} (name_of : A → List ℕ) (xs : List A) (name own : List ℕ) (n : ℕ) → is_some (place_in name_of xs own) ≡ true → (r : Option ℕ) → place_in name_of xs name ≡ r → (b : Bool) → bytes_eq name own ≡ b
    → r ≡ or_last r b n
unfolding or_last
known_step name_of xs name own n there (Some i) e b h = refl
known_step name_of xs name own n there None e true h = absurd (cc (there, e, ap (place_in name_of xs) (name_is name own h)))
known_step name_of xs name own n there None e false h = refl

-- one more, of a name that is there
pub known : {A : Type 0} (name_of : A → List ℕ) (find : List ℕ → Option ℕ) (xs new : List A) (x : A) → AreFound name_of find xs → is_some (place_in name_of xs (name_of x)) ≡ true → new ≡ xs ++ x ∷ [] → AreFound name_of find new
known {A} name_of find xs new x found there is = subst (AreFound name_of find) (sym is) (λ name.
    found name ∙ known_step name_of xs name (name_of x) (length xs) there (place_in name_of xs name) refl (bytes_eq name (name_of x)) refl ∙ sym (last (λ (y : A). bytes_eq name (name_of y)) xs x))

fresh_step : {A : Type 0} (name_of : A → List ℕ) (xs : List A) (name own : List ℕ) (n : ℕ) → is_some (place_in name_of xs own) ≡ false → (a b : Bool) → bytes_eq own name ≡ a → bytes_eq name own ≡ b → (r : Option ℕ)
    → place_in name_of xs name ≡ r → cond a (Some n) r ≡ or_last r b n
unfolding or_last
fresh_step name_of xs name own n none true true e h None w = refl
fresh_step name_of xs name own n none true b e h (Some i) w = absurd (cc (none, w, ap (place_in name_of xs) (name_is own name e)))
fresh_step name_of xs name own n none true false e h None w = absurd (cc (h, name_self name, ap (bytes_eq name) (name_is own name e)))
fresh_step name_of xs name own n none false true e h r w = absurd (cc (e, name_self own, ap (bytes_eq own) (sym (name_is name own h))))
fresh_step name_of xs name own n none false false e h (Some i) w = refl
fresh_step name_of xs name own n none false false e h None w = refl

-- or of a fresh one, which is noted
pub fresh : {A : Type 0} (name_of : A → List ℕ) (find now : List ℕ → Option ℕ) (xs new : List A) (x : A) → AreFound name_of find xs → is_some (place_in name_of xs (name_of x)) ≡ false
    → ((other : List ℕ) → now other ≡ cond (bytes_eq (name_of x) other) (Some (length xs)) (find other)) → new ≡ xs ++ x ∷ [] → AreFound name_of now new
fresh {A} name_of find now xs new x found none noted is = subst (AreFound name_of now) (sym is) (λ name.
    noted name ∙ ap (λ (r : Option ℕ). cond (bytes_eq (name_of x) name) (Some (length xs)) r) (found name)
    ∙ fresh_step name_of xs name (name_of x) (length xs) none (bytes_eq (name_of x) name) (bytes_eq name (name_of x)) refl refl (place_in name_of xs name) refl ∙ sym (last (λ (y : A). bytes_eq name (name_of y)) xs x))

-- or none, and all is as it was
pub as_was : {A : Type 0} (name_of : A → List ℕ) (find now : List ℕ → Option ℕ) (xs new : List A) → AreFound name_of find xs → ((other : List ℕ) → now other ≡ find other) → new ≡ xs → AreFound name_of now new
as_was name_of find now xs new found same is = subst (AreFound name_of now) (sym is) (λ name. same name ∙ found name)

-- a queue's lanes are changed
change_name : (lane slot : ℕ) (name : List ℕ) (m : ℕ) (qs : List Named) → place_in queue_name (change_at m (seat_on lane slot) qs) name ≡ place_in queue_name qs name
change_name lane slot name m [] = refl
change_name lane slot name zero (q ∷ qs) = first (λ (x : Named). bytes_eq name x.name) (seat_on lane slot q) qs ∙ sym (first (λ (x : Named). bytes_eq name x.name) q qs)
change_name lane slot name (suc m) (q ∷ qs) =
    first (λ (x : Named). bytes_eq name x.name) q (change_at m (seat_on lane slot) qs)
    ∙ ap (λ (r : Option ℕ). cond (bytes_eq name q.name) (Some 0) (option_map suc r)) (change_name lane slot name m qs) ∙ sym (first (λ (x : Named). bytes_eq name x.name) q qs)

pub seated : (find : List ℕ → Option ℕ) (lane slot m : ℕ) (qs new : List Named) → AreFound queue_name find qs → new ≡ change_at m (seat_on lane slot) qs → AreFound queue_name find new
seated find lane slot m qs new found is = subst (AreFound queue_name find) (sym is) (λ name. found name ∙ sym (change_name lane slot name m qs))

pub seated_or : {T E : Type 0} (r : Result T E) (find : List ℕ → Option ℕ) (lane slot m : ℕ) (qs new : List Named) → AreFound queue_name find qs → OnOk r (new ≡ change_at m (seat_on lane slot) qs) → OnErr r (new ≡ qs) → AreFound queue_name find new
seated_or (Ok t) find lane slot m qs new found is same = seated find lane slot m qs new found is
seated_or (Err t) find lane slot m qs new found is same = as_was queue_name find find qs new found (λ other. refl) same

-- Rows of a queue by its name.

rows_first : (s : Shelf) (ss : List Shelf) (t : Bool) (r : Option ℕ) → rows_on (cond t (Some 0) (option_map suc r)) (s ∷ ss) ≡ (if t then s.rows else rows_on r ss)
rows_first s ss true r = refl
rows_first s ss false None = refl
rows_first s ss false (Some i) = refl

pub rows_found : (name : List ℕ) (ss : List Shelf) → rows_on (place_in shelf_name ss name) ss ≡ rows_in name ss
rows_found name [] = refl
rows_found name (s ∷ ss) =
    ap (λ (r : Option ℕ). rows_on r (s ∷ ss)) (first (λ (x : Shelf). bytes_eq name x.name) s ss)
    ∙ rows_first s ss (bytes_eq name s.name) (place_in shelf_name ss name)
    ∙ ap (λ (rows : List Row). if bytes_eq name s.name then s.rows else rows) (rows_found name ss)

pub rows_placed : (name : List ℕ) (ss : List Shelf) (r : Option ℕ) → r ≡ place_in shelf_name ss name → rows_on r ss ≡ rows_in name ss
rows_placed name ss r e = ap (λ (o : Option ℕ). rows_on o ss) e ∙ rows_found name ss

-- One name more of a list whose first names are noted.

pub next : {A : Type 0} (name_of : A → List ℕ) (find now : List ℕ → Option ℕ) (xs : List A) (i : ℕ) (x : A) → ((before : List A) → length before ≡ i → AreFound name_of find before → AreFound name_of now (before ++ x ∷ []))
    → AreFound name_of find (take i xs) → i < length xs → x ≡ get_or xs i x → AreFound name_of now (take (i + 1) xs)
next {A} name_of find now xs i x step found lt is =
    subst (AreFound name_of now) (sym (take_more xs i x lt ∙ ap (λ (y : A). take i xs ++ y ∷ []) (sym is))) (step (take i xs) (length-take-le i xs (omega arith)) found)

pub whole : {A : Type 0} (name_of : A → List ℕ) (find : List ℕ → Option ℕ) (xs : List A) (i : ℕ) → length xs ≤ i → AreFound name_of find (take i xs) → AreFound name_of find xs
whole name_of find xs i past found = subst (AreFound name_of find) (take_all i xs past) found
