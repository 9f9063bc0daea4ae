-- Messages of a batch wait for their places, and no more.
use Rattle.std.proofs.Common.{◌≡◌, ℕ, zero, suc, ◌+◌, ◌<◌, Bool, true, false, cond, List, [], ◌∷◌, ◌++◌, length, get_or, take, refl, ap, arith, sym, ◌∙◌, add-one}
use Rattle.std.specs.Str.{bytes_eq}
use Rattle.mq_core.specs.from_place.States.{QueueState, QueueStates, change_state, expecting, unpended}
use Rattle.mq_core.specs.declared.parts.Arrival.{Arrival}
use Rattle.mq_core.proofs.PutLaws.{unpend_expect}
use Rattle.mq_receive.specs.Placed.{expected_all, unexpected_all, unexpected_in}

-- two queues that wait for one more each, in any order
swapped : (a b : List ℕ) (qs : List QueueState) → change_state a expecting (change_state b expecting qs) ≡ change_state b expecting (change_state a expecting qs)
swapped a b [] = refl
swapped a b (s ∷ ss) = by (bytes_eq a s.queue.name) (bytes_eq b s.queue.name) refl refl (swapped a b ss)
  where
    by : (x y : Bool) → bytes_eq a s.queue.name ≡ x → bytes_eq b s.queue.name ≡ y → change_state a expecting (change_state b expecting ss) ≡ change_state b expecting (change_state a expecting ss)
        → change_state a expecting (cond y (expecting s ∷ ss) (s ∷ change_state b expecting ss)) ≡ change_state b expecting (cond x (expecting s ∷ ss) (s ∷ change_state a expecting ss))
    by true true e f rest =
        ap (λ (c : Bool). cond c (expecting (expecting s) ∷ ss) (expecting s ∷ change_state a expecting ss)) e ∙ ap (λ (c : Bool). cond c (expecting (expecting s) ∷ ss) (expecting s ∷ change_state b expecting ss)) (sym f)
    by true false e f rest =
        ap (λ (c : Bool). cond c (expecting s ∷ change_state b expecting ss) (s ∷ change_state a expecting (change_state b expecting ss))) e
        ∙ ap (λ (c : Bool). cond c (expecting (expecting s) ∷ ss) (expecting s ∷ change_state b expecting ss)) (sym f)
    by false true e f rest =
        ap (λ (c : Bool). cond c (expecting (expecting s) ∷ ss) (expecting s ∷ change_state a expecting ss)) e
        ∙ ap (λ (c : Bool). cond c (expecting s ∷ change_state a expecting ss) (s ∷ change_state b expecting (change_state a expecting ss))) (sym f)
    by false false e f rest =
        ap (λ (c : Bool). cond c (expecting s ∷ change_state b expecting ss) (s ∷ change_state a expecting (change_state b expecting ss))) e
        ∙ ap (λ (qs : List QueueState). s ∷ qs) rest
        ∙ ap (λ (c : Bool). cond c (expecting s ∷ change_state a expecting ss) (s ∷ change_state b expecting (change_state a expecting ss))) (sym f)

expected_first : (a : List ℕ) (landed : List Arrival) (qs : List QueueState) → expected_all landed (change_state a expecting qs) ≡ change_state a expecting (expected_all landed qs)
expected_first a [] qs = refl
expected_first a (b ∷ landed) qs = ap (expected_all landed) (swapped b.queue a qs) ∙ expected_first a landed (change_state b.queue expecting qs)

pub unexpected : (landed : List Arrival) (qs : List QueueState) → unexpected_all landed (expected_all landed qs) ≡ qs
unexpected [] qs = refl
unexpected (a ∷ landed) qs =
    ap (λ (s : List QueueState). unexpected_all landed (change_state a.queue unpended s)) (expected_first a.queue landed qs)
    ∙ ap (unexpected_all landed) (unpend_expect a.queue (expected_all landed qs)) ∙ unexpected landed qs

-- one after another
expected_push : (landed : List Arrival) (a : Arrival) (qs : List QueueState) → expected_all (landed ++ a ∷ []) qs ≡ change_state a.queue expecting (expected_all landed qs)
expected_push [] a qs = refl
expected_push (b ∷ landed) a qs = expected_push landed a (change_state b.queue expecting qs)

take_one : (xs : List Arrival) (i : ℕ) (d : Arrival) → i < length xs → take (i + 1) xs ≡ take i xs ++ get_or xs i d ∷ []
take_one [] i d lt = absurd (omega (arith, lt))
take_one (x ∷ xs) zero d lt = refl
take_one (x ∷ xs) (suc i) d lt = ap (λ (n : ℕ). take n (x ∷ xs)) (add-one (suc i)) ∙ ap (λ (ys : List Arrival). x ∷ ys) (ap (λ (n : ℕ). take n xs) (sym (add-one i)) ∙ take_one xs i d (omega (arith, lt)))

pub expected_next : (xs : List Arrival) (i : ℕ) (a : Arrival) (x y z : QueueStates) → i < length xs → a ≡ get_or xs i a → y ≡ record x { states = change_state a.queue expecting x.states } → x ≡ record z { states = expected_all (take i xs) z.states }
    → y ≡ record z { states = expected_all (take (i + 1) xs) z.states }
expected_next xs i a x y z lt is one so_far =
    one
    ∙ ap (λ (v : QueueStates). let w : QueueStates = record v { states = change_state a.queue expecting v.states } in w) so_far
    ∙ ap (λ (s : List QueueState). let w : QueueStates = record z { states = s } in w)
    (sym (expected_push (take i xs) a z.states) ∙ ap (λ (ys : List Arrival). expected_all ys z.states) (ap (λ (b : Arrival). take i xs ++ b ∷ []) is ∙ sym (take_one xs i a lt)))

take_all : (xs : List Arrival) → take (length xs) xs ≡ xs
take_all [] = refl
take_all (x ∷ xs) = ap (λ (ys : List Arrival). x ∷ ys) (take_all xs)

pub expected_end : (xs : List Arrival) (i : ℕ) (x z : QueueStates) → i ≡ length xs → x ≡ record z { states = expected_all (take i xs) z.states } → x ≡ record z { states = expected_all xs z.states }
expected_end xs i x z e so_far = so_far ∙ ap (λ (ys : List Arrival). let w : QueueStates = record z { states = expected_all ys z.states } in w) (ap (λ (n : ℕ). take n xs) e ∙ take_all xs)

pub unexpected_is : (xs : List Arrival) (v : QueueStates) → unexpected_in xs v ≡ record v { states = unexpected_all xs v.states }
unexpected_is [] v = refl
unexpected_is (a ∷ xs) v = unexpected_is xs (record v { states = change_state a.queue unpended v.states })

pub expected_undone : (xs : List Arrival) (x y z : QueueStates) → x ≡ record z { states = expected_all xs z.states } → y ≡ unexpected_in xs x → y ≡ z
expected_undone xs x y z so_far back =
    back ∙ unexpected_is xs x ∙ ap (λ (v : QueueStates). let w : QueueStates = record v { states = unexpected_all xs v.states } in w) so_far
    ∙ ap (λ (s : List QueueState). let w : QueueStates = record z { states = s } in w) (unexpected xs z.states)
