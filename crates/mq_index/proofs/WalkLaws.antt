-- A walk along the slots of a key comes to the first row that passes the test.
use Rattle.std.proofs.Common.{◌≡◌, ℕ, zero, suc, ◌+◌, ◌-◌, ◌<◌, ◌≤◌, nat_lt, Bool, true, false, List, [], ◌∷◌, length, inl, inr, refl, sym, ap, subst, ◌∙◌, arith}
use Rattle.std.specs.Prelude.{◌⊎◌, ◌==◌, ◌&&◌, ◌||◌, if◌then◌else◌, Option, None, Some, find, slice_get, replicate}
use Rattle.std.specs.Str.{bytes_eq}
use Rattle.std.proofs.lemmas.Bool.Decides.{nat_tests}
use Rattle.std.proofs.lemmas.Slice.Eq.{bytes_eq-Decides}
use Rattle.mq_message.specs.declared.place.Place.{Place}
use Rattle.mq_message.specs.declared.place.Want.{Want}
use Rattle.mq_queue.specs.declared.row.Row.{Row}
use Rattle.mq_queue.specs.Rows.{is_after, is_free, is_id, is_wanted}
use Rattle.mq_queue.specs.Queues.{is_takable}
use Rattle.mq_index.specs.declared.keys.Key.{Key}
use Rattle.mq_index.specs.declared.keys.Kind.{Kind}
use Rattle.mq_index.specs.Keys.{id_by, key_by, keyed, same_key}
use Rattle.mq_index.specs.Lanes.{in_lane}
use Rattle.mq_index.specs.Chains.{IsNext, StandsAt, past, upto}
use Rattle.mq_index.specs.Slots.{AreMarked}
use Rattle.mq_index.specs.Walks.{AreKeyed, NoneAtAll, NoneBefore, WalksAt, id_in, is_asked, is_taken, key_for, kind_for, kind_of, stored, taken_in}
use Rattle.mq_index.proofs.KeyLaws.{both_true, nat_is}
use Rattle.mq_index.proofs.ListLaws.{some_is, within}
use Rattle.mq_index.proofs.ChainLaws.{stands_within, three}
use Rattle.mq_index.proofs.KeyedLaws.{keyed_long, keyed_there}

-- how much of the slots is left
abbrev pub left_at : ℕ → Option ℕ → ℕ
left_at long None = 0
left_at long (Some at) = long - at

find_at : (test : Row → Bool) (slots : List (Option Row)) (at : ℕ) (row : Row) → slice_get slots at ≡ Some (Some row) → test row ≡ true → NoneBefore test at slots → find test (stored slots) ≡ Some row
find_at test [] zero row e r none = absurd cc
find_at test [] (suc at) row e r none = absurd cc
find_at test (None ∷ slots) zero row e r none = absurd cc
find_at test (None ∷ slots) (suc at) row e r none = find_at test slots at row e r (λ j x lt there. none (suc j) x (omega (arith, lt)) there)
find_at test (Some x ∷ slots) zero row e r none =
    let same : x ≡ row = some_is x row (some_is (Some x) (Some row) e) in
    ap (λ (b : Bool). if b then Some x else find test (stored slots)) (ap test same ∙ r) ∙ ap Some same
find_at test (Some x ∷ slots) (suc at) row e r none =
    ap (λ (b : Bool). if b then Some x else find test (stored slots)) (none 0 x (omega arith) refl) ∙ find_at test slots at row e r (λ j y lt there. none (suc j) y (omega (arith, lt)) there)

pub walk_none : (test : Row → Bool) (slots : List (Option Row)) → NoneAtAll test slots → find test (stored slots) ≡ None
walk_none test [] none = refl
walk_none test (None ∷ slots) none = walk_none test slots (λ j x there. none (suc j) x there)
walk_none test (Some x ∷ slots) none = ap (λ (b : Bool). if b then Some x else find test (stored slots)) (none 0 x refl) ∙ walk_none test slots (λ j y there. none (suc j) y there)

-- what a slot has
pub taken_so : (test : Row → Bool) (o : Option (Option Row)) (row : Row) → taken_in test o ≡ Some row → (o ≡ Some (Some row)) × (test row ≡ true)
taken_so test None row e = absurd cc
taken_so test (Some None) row e = absurd cc
taken_so test (Some (Some x)) row e = by (test x) refl e
  where
    by : (b : Bool) → test x ≡ b → (if b then Some x else None) ≡ Some row → (Some (Some x) ≡ Some (Some row)) × (test row ≡ true)
    by true r f = (ap Some f, ap test (sym (some_is x row f)) ∙ r)
    by false r f = absurd cc

not_taken : (test : Row → Bool) (o : Option (Option Row)) (row : Row) → taken_in test o ≡ None → o ≡ Some (Some row) → test row ≡ false
not_taken test None row e is = absurd cc
not_taken test (Some None) row e is = absurd cc
not_taken test (Some (Some x)) row e is = by (test x) refl e
  where
    same : x ≡ row
    same = some_is x row (some_is (Some x) (Some row) is)

    by : (b : Bool) → test x ≡ b → (if b then Some x else None) ≡ None → test row ≡ false
    by true r f = absurd cc
    by false r f = ap test (sym same) ∙ r

pub walk_found : (test : Row → Bool) (slots : List (Option Row)) (at : ℕ) (row : Row) → NoneBefore test at slots → taken_in test (slice_get slots at) ≡ Some row → find test (stored slots) ≡ Some row
walk_found test slots at row none is = let h = taken_so test (slice_get slots at) row is in find_at test slots at row h.0 h.1 none

pub or_not : (b : Bool) → (b ≡ true → ⊥) → b ≡ false
or_not true never = absurd (never refl)
or_not false never = refl

-- from one place of the key on to the next: none that passes is between
pub walks_from : (test : Row → Bool) (after : Option Place) (kind : Kind) (key : Key) (slots : List (Option Row)) → AreKeyed test after kind key → (a b : Option ℕ) → NoneBefore test (past a) slots → IsNext key (keyed kind slots) a b → WalksAt test kind key slots b
walks_from test after kind key slots fits a b none h = at_it b h
  where
    passed : (b : Option ℕ) → IsNext key (keyed kind slots) a b → (j : ℕ) (row : Row) → j < upto (length (keyed kind slots)) b → slice_get slots j ≡ Some (Some row) → test row ≡ false
    passed b h j row lt there = by (three j (past a))
      where
        unlike : past a ≤ j → test row ≡ true → ⊥
        unlike le e = let f : same_key key (key_by kind row) ≡ false = h.between j (key_by kind row) le lt (keyed_there kind slots j row there) in let t = (fits row e).1 in absurd (let no : true ≡ false = sym t ∙ f in cc)

        by : (j < past a) ⊎ ((j ≡ past a) ⊎ (past a < j)) → test row ≡ false
        by (inl less) = none j row less there
        by (inr (inl e)) = or_not (test row) (unlike (omega (arith, e)))
        by (inr (inr less)) = or_not (test row) (unlike (omega (arith, less)))

    at_it : (b : Option ℕ) → IsNext key (keyed kind slots) a b → WalksAt test kind key slots b
    at_it None h = λ j row there. passed None h j row (let lt = within slots (Some row) j there in let long = keyed_long kind slots in omega (arith, lt, long)) there
    at_it (Some n) h = (h.behind, λ j row lt there. passed (Some n) h j row lt there)

-- a slot that has none that passes is passed
pub passed_one : (test : Row → Bool) (slots : List (Option Row)) (at : ℕ) → NoneBefore test at slots → taken_in test (slice_get slots at) ≡ None → NoneBefore test (at + 1) slots
passed_one test slots at none untaken j row lt there = by (three j at)
  where
    by : (j < at) ⊎ ((j ≡ at) ⊎ (at < j)) → test row ≡ false
    by (inl less) = none j row less there
    by (inr (inl same)) = not_taken test (slice_get slots at) row untaken (subst (λ (n : ℕ). slice_get slots n ≡ Some (Some row)) same there)
    by (inr (inr more)) = absurd (no j at lt more)
      where
        no : (a b : ℕ) → a < b + 1 → b < a → ⊥
        no a b u v = omega (arith, u, v)

-- where the walk stands, or has ended
pub at_place : (test : Row → Bool) (kind : Kind) (key : Key) (slots : List (Option Row)) (o : Option ℕ) (place : ℕ) → o ≡ Some place → WalksAt test kind key slots o → StandsAt key place (keyed kind slots) × NoneBefore test place slots
at_place test kind key slots o place is w = subst (λ (x : Option ℕ). WalksAt test kind key slots x) is w

pub at_end : (test : Row → Bool) (kind : Kind) (key : Key) (slots : List (Option Row)) (o : Option ℕ) → o ≡ None → WalksAt test kind key slots o → NoneAtAll test slots
at_end test kind key slots o is w = subst (λ (x : Option ℕ). WalksAt test kind key slots x) is w

-- each step leaves less
pub walks_less : (kind : Kind) (key : Key) (slots : List (Option Row)) (at : ℕ) (o : Option ℕ) → IsNext key (keyed kind slots) (Some at) o → left_at (length slots) o < left_at (length slots) (Some at)
walks_less kind key slots at None h = let lt = stands_within key at (keyed kind slots) h.before in let long = keyed_long kind slots in omega (arith, lt, long)
walks_less kind key slots at (Some n) h = let lt = stands_within key n (keyed kind slots) h.behind in let long = keyed_long kind slots in omega (arith, lt, long, h.rising)

pub walks_within : (kind : Kind) (key : Key) (slots : List (Option Row)) (at : ℕ) → StandsAt key at (keyed kind slots) → at < length slots
walks_within kind key slots at here = let lt = stands_within key at (keyed kind slots) here in let long = keyed_long kind slots in omega (arith, lt, long)

-- WHAT IS ASKED
parts : (lane after any free wanted : Bool) → (lane && (after && (any || (free && wanted)))) ≡ true → (lane ≡ true) × ((after ≡ true) × ((any || (free && wanted)) ≡ true))
parts lane after any free wanted e =
    let h = both_true lane (after && (any || (free && wanted))) e in
    let g = both_true after (any || (free && wanted)) h.1 in
    (h.0, g)

id_fits : (m c : Option (List ℕ)) (row : Row) → (is_id m row.message.md.msg_id && is_id c row.message.md.correl_id) ≡ true → bytes_eq (id_in (kind_of m c) m c) (id_by (kind_of m c) row) ≡ true
id_fits (Some m) c row e = (both_true (bytes_eq m row.message.md.msg_id) (is_id c row.message.md.correl_id) e).0
id_fits None (Some c) row e = e
id_fits None None row e = (bytes_eq-Decides (replicate 24 0) (replicate 24 0)).1 refl

nat_same_turned : (a b : ℕ) → (a == b) ≡ true → (b == a) ≡ true
nat_same_turned a b e = grind (arith, nat_tests)

pub asked_keyed : (lane : ℕ) (any : Bool) (want : Want) (after : Option Place) → AreKeyed (is_taken lane any want after) after (kind_for any want) (key_for lane (kind_for any want) want)
asked_keyed lane any want after row e =
    let h = parts (in_lane lane row) (is_after after row) any (is_free row) (is_wanted want row) e in
    (h.1.0, ap (λ (b : Bool). b && bytes_eq (id_in (kind_for any want) want.msg_id want.correl_id) (id_by (kind_for any want) row)) (nat_same_turned row.place.lane lane h.0) ∙ by any h.1.1)
  where
    by : (t : Bool) → (t || (is_free row && is_wanted want row)) ≡ true → bytes_eq (id_in (kind_for t want) want.msg_id want.correl_id) (id_by (kind_for t want) row) ≡ true
    by true g = (bytes_eq-Decides (replicate 24 0) (replicate 24 0)).1 refl
    by false g = id_fits want.msg_id want.correl_id row (both_true (is_free row) (is_wanted want row) g).1

-- what is asked is what the queue says
pub asked_free : (want : Want) (after : Option Place) (row : Row) → is_asked false want after row ≡ is_takable want after row
asked_free want after row = by (is_after after row) (is_free row) (is_wanted want row)
  where
    by : (a f w : Bool) → (a && (f && w)) ≡ (f && (a && w))
    by true true w = refl
    by true false w = refl
    by false true w = refl
    by false false w = refl

pub asked_any : (want : Want) (after : Option Place) (row : Row) → is_asked true want after row ≡ is_after after row
asked_any want after row = by (is_after after row)
  where
    by : (a : Bool) → (a && true) ≡ a
    by true = refl
    by false = refl

-- WHERE A WALK BEGINS
-- the rows up to the slot of a place stand before it, in its lane
before_no : (pl pa rl ra : ℕ) → pl ≡ rl → ra ≤ pa → (nat_lt pl rl || ((pl == rl) && nat_lt pa ra)) ≡ true → ⊥
before_no pl pa rl ra e le h = grind (arith, nat_tests, e, le, h)

later_no : (pl pa rl ra : ℕ) → rl < pl → (nat_lt pl rl || ((pl == rl) && nat_lt pa ra)) ≡ true → ⊥
later_no pl pa rl ra lt h = grind (arith, nat_tests, lt, h)

key_lane : (key : Key) (kind : Kind) (row : Row) → same_key key (key_by kind row) ≡ true → key.lane ≡ row.place.lane
key_lane key kind row e = nat_is key.lane row.place.lane (both_true (key.lane == row.place.lane) (bytes_eq key.id (id_by kind row)) e).0

pub none_up_to : (test : Row → Bool) (place : Place) (kind : Kind) (key : Key) (marks : List ℕ) (slots : List (Option Row)) (arrivals at : ℕ) → AreMarked marks slots arrivals → AreKeyed test (Some place) kind key → key.lane ≡ place.lane → slice_get marks at ≡ Some place.arrival → NoneBefore test (at + 1) slots
none_up_to test place kind key marks slots arrivals at m fits lane here j row lt there =
    or_not (test row) (λ e. let h = fits row e in
    before_no place.lane place.arrival row.place.lane row.place.arrival (sym lane ∙ key_lane key kind row h.1) (low (three j at)) h.0)
  where
    low : (j < at) ⊎ ((j ≡ at) ⊎ (at < j)) → row.place.arrival ≤ place.arrival
    low (inl less) = let lt_it = m.rising j at row.place.arrival place.arrival less (m.mark j row there) here in omega (arith, lt_it)
    low (inr (inl same)) =
        let is : row.place.arrival ≡ place.arrival = some_is row.place.arrival place.arrival (sym (m.mark j row there) ∙ ap (slice_get marks) same ∙ here) in
        omega (arith, is)
    low (inr (inr more)) = absurd (no j at lt more)
      where
        no : (a b : ℕ) → a < b + 1 → b < a → ⊥
        no a b u v = omega (arith, u, v)

pub none_in_lane : (test : Row → Bool) (place : Place) (kind : Kind) (key : Key) (slots : List (Option Row)) → AreKeyed test (Some place) kind key → key.lane < place.lane → NoneAtAll test slots
none_in_lane test place kind key slots fits lt j row there =
    or_not (test row) (λ e. let h = fits row e in
    let lane = key_lane key kind row h.1 in
    later_no place.lane place.arrival row.place.lane row.place.arrival (omega (arith, lt, lane)) h.0)

find_same : (p q : Row → Bool) → ((row : Row) → p row ≡ q row) → (rows : List Row) → find p rows ≡ find q rows
find_same p q h [] = refl
find_same p q h (x ∷ xs) = ap (λ (b : Bool). if b then Some x else find p xs) (h x) ∙ ap (λ (o : Option Row). if q x then Some x else o) (find_same p q h xs)

pub find_takable : (want : Want) (after : Option Place) (rows : List Row) → find (is_asked false want after) rows ≡ find (is_takable want after) rows
find_takable want after rows = find_same (is_asked false want after) (is_takable want after) (asked_free want after) rows

pub find_after : (want : Want) (after : Option Place) (rows : List Row) → find (is_asked true want after) rows ≡ find (is_after after) rows
find_after want after rows = find_same (is_asked true want after) (is_after after) (asked_any want after) rows

-- nothing is found in a lane that has no row
pub bare : (lane : ℕ) (any : Bool) (want : Want) (after : Option Place) (slots : List (Option Row)) → NoneAtAll (is_taken lane true want None) slots → NoneAtAll (is_taken lane any want after) slots
bare lane any want after slots none at row there = by (in_lane lane row) refl
  where
    by : (b : Bool) → in_lane lane row ≡ b → is_taken lane any want after row ≡ false
    by true f = absurd (cc (sym (none at row there) ∙ ap (λ (b : Bool). b && is_asked true want None row) f))
    by false f = ap (λ (b : Bool). b && is_asked any want after row) f
