-- Cables stay carried at the ends of a course's steps.
use Rattle.std.specs.Prelude.{◌≡◌, ◌≤◌, ◌<◌, ◌⊎◌, ◌==◌, ℕ, zero, suc, Bool, List, [], ◌∷◌, ◌++◌, if◌then◌else◌, Option, Some, None, Result, length, slice_get, take, refl}
use Rattle.std.specs.Option.{option_map}
use Rattle.std.proofs.Common.{ap, subst, sym, arith, append_assoc, append-nil, inl, inr, ◌∙◌}
use Rattle.std.proofs.lemmas.List.{take-append-le}
use Rattle.std.proofs.lemmas.Option.{slice_get-map, slice_get_past, slice_get_within}
use Rattle.mq_history.specs.declared.calls.Actor.{Actor}
use Rattle.mq_history.specs.declared.calls.Entry.{Entry}
use Rattle.mq_history.specs.declared.history.History.{History}
use Rattle.mq_history.specs.declared.history.Mark.{Mark}
use Rattle.mq_history.specs.declared.scenario.Scenario.{Scenario}
use Rattle.mq_history.specs.declared.scenario.Step.{Step}
use Rattle.mq_spec_network.specs.from_spec_node.Doers.{by, is_receiver, is_sender}
use Rattle.mq_spec_network.specs.Cables.{Carries}
use Rattle.mq_spec_network.specs.Lawful.{Went, marks_or}
use Rattle.mq_spec_network.specs.Lawful.Went.{begins, ends}
use Rattle.mq_spec_network.specs.Steps.{Goes}
use Rattle.mq_spec_network.specs.Steps.Goes.{stays, moves, serves, passes}
use Rattle.mq_spec_network.specs.Story.{entries_at, entries_or}
use Rattle.mq_spec_network.specs.Tasks.{Task}
use Rattle.mq_spec_network.specs.Turns.{Network, does}
use Rattle.mq_spec_network.proofs.Going.{bool_case}
use Rattle.mq_nodes.specs.declared.nodes.Stop.{Stop}
use Rattle.mq_nodes.specs.Carried.{AllCarried, AreCarriedSoFar, IsCarriedIn, IsCarriedSoFar, entries_noted, entries_until, history_until, net_noted, until}
use Rattle.mq_nodes.specs.Course.{Course, mark_at, noted}
use Rattle.mq_nodes.specs.Runs.{Unmarked}
use Rattle.mq_nodes.specs.Told.{Has, Ran}
use Rattle.mq_nodes.proofs.Onward.{same_scenario}

-- ONE CABLE
carries_as : (fs : List _) (t u : Actor → Bool) (es os xs ys : List Entry) → xs ≡ es → ys ≡ os → Carries fs (by t es) u os → Carries fs (by t xs) u ys
carries_as fs t u es os xs ys a b h = subst (λ (l : List Entry). Carries fs (by t l) u ys) (sym a) (subst (λ (l : List Entry). Carries fs (by t es) u l) (sym b) h)

-- networks that did the same
pub carried_as : (w v : Network) → v.scenario ≡ w.scenario → ((m : ℕ) → v.done m ≡ w.done m) → AllCarried w → AllCarried v
carried_as w v same done all k c is =
    let x : IsCarriedIn w k c = all k c (sym (ap (λ (s : Scenario). slice_get s.cables k) same) ∙ is) in record {
      out = carries_as c.out (is_sender k) (is_receiver k) (w.done c.sender) (w.done c.receiver) (v.done c.sender) (v.done c.receiver) (done c.sender) (done c.receiver) x.out;
      back = carries_as c.back (is_receiver k) (is_sender k) (w.done c.receiver) (w.done c.sender) (v.done c.receiver) (v.done c.sender) (done c.receiver) (done c.sender) x.back;
    }

-- nothing was done
nothing_carried : (fs : List _) (t u : Actor → Bool) → Carries fs (by t []) u []
nothing_carried fs t u = record { taken = []; left = []; whole = refl; takes = refl; within = tt }

pub carried_none : (w : Network) → ((m : ℕ) → w.done m ≡ []) → AllCarried w
carried_none w none k c is = record {
  out = carries_as c.out (is_sender k) (is_receiver k) [] [] (w.done c.sender) (w.done c.receiver) (none c.sender) (none c.receiver) (nothing_carried c.out (is_sender k) (is_receiver k));
  back = carries_as c.back (is_receiver k) (is_sender k) [] [] (w.done c.receiver) (w.done c.sender) (none c.receiver) (none c.sender) (nothing_carried c.back (is_receiver k) (is_sender k));
}

-- MARKS
take_none : {A : Type 0} (n : ℕ) → take {A = A} n [] ≡ []
take_none zero = refl
take_none (suc n) = refl

take_whole : {A : Type 0} (xs : List A) → take (length xs) xs ≡ xs
take_whole [] = refl
take_whole (x ∷ xs) = ap (λ (l : List _). x ∷ l) (take_whole xs)

until_none : (i : ℕ) → entries_until i [] ≡ 0
until_none zero = refl
until_none (suc zero) = refl
until_none (suc (suc i)) = refl

pub get_front : {A : Type 0} (xs ys : List A) (i : ℕ) → i < length xs → slice_get (xs ++ ys) i ≡ slice_get xs i
get_front [] ys i less = absurd (omega (arith, less))
get_front (x ∷ xs) ys zero less = refl
get_front (x ∷ xs) ys (suc i) less = get_front xs ys i (omega (arith, less))

get_next : {A : Type 0} (xs : List A) (x : A) (i : ℕ) → i ≡ length xs → slice_get (xs ++ x ∷ []) i ≡ Some x
get_next [] x zero is = refl
get_next [] x (suc i) is = absurd (omega (arith, is))
get_next (y ∷ xs) x zero is = absurd (omega (arith, is))
get_next (y ∷ xs) x (suc i) is = get_next xs x i (omega (arith, is))

one_longer : {A : Type 0} (xs : List A) (x : A) → length (xs ++ x ∷ []) ≡ suc (length xs)
one_longer [] x = refl
one_longer (y ∷ xs) x = ap suc (one_longer xs x)

order : (a b : ℕ) → (a < b) ⊎ ((a ≡ b) ⊎ (b < a))
order zero zero = inr (inl refl)
order zero (suc b) = inl (omega arith)
order (suc a) zero = inr (inr (omega arith))
order (suc a) (suc b) = next (order a b)
  where
    next : (a < b) ⊎ ((a ≡ b) ⊎ (b < a)) → (suc a < suc b) ⊎ ((suc a ≡ suc b) ⊎ (suc b < suc a))
    next (inl h) = inl (omega (arith, h))
    next (inr (inl h)) = inr (inl (ap suc h))
    next (inr (inr h)) = inr (inr (omega (arith, h)))

until_front : (xs : List Mark) (x : Mark) (i : ℕ) → i < length xs → entries_until (suc i) (xs ++ x ∷ []) ≡ entries_until (suc i) xs
until_front xs x i less = ap entries_noted (get_front xs (x ∷ []) i less)

until_next : (xs : List Mark) (x : Mark) (i : ℕ) → i ≡ length xs → entries_until (suc i) (xs ++ x ∷ []) ≡ x.entries
until_next xs x i is = ap entries_noted (get_next xs x i is)

until_past : (xs : List Mark) (x : Mark) (i : ℕ) → length xs < i → entries_until (suc i) (xs ++ x ∷ []) ≡ 0
until_past xs x i more = ap entries_noted (slice_get_past (xs ++ x ∷ []) i (omega (arith, more, one_longer xs x)))

-- A COURSE
pub carried_begins : (c : Course) → Unmarked c → IsCarriedSoFar c
carried_begins c none = record {
  same = λ m. ap (λ (xs : List Mark). length xs) (none m ∙ sym (none 0));
  few = λ i m. omega (arith, nothing i m);
  all = λ i. carried_none (net_noted i c) (λ m. ap (λ (n : ℕ). take n (c.net.done m)) (nothing i m));
} where
  nothing : (i m : ℕ) → entries_until i (c.marks m) ≡ 0
  nothing i m = ap (entries_until i) (none m) ∙ until_none i

-- what was done more
record More (w0 w : Network) (m : ℕ) : Type 0 where
  more : List Entry
  has : w.done m ≡ w0.done m ++ more

one_more : (w0 w : Network) (m : ℕ) (e : Entry) (n : ℕ) → More w0 w n → More w0 (does m (e ∷ []) w) n
one_more w0 w m e n x = record {
  more = if n == m then x.more ++ e ∷ [] else x.more;
  has = bool_case (λ b. (if b then w.done n ++ e ∷ [] else w.done n) ≡ w0.done n ++ (if b then x.more ++ e ∷ [] else x.more))
      (ap (λ (xs : List Entry). xs ++ e ∷ []) x.has ∙ append_assoc (w0.done n) x.more (e ∷ [])) x.has (n == m);
}

goes_more : {w0 : Network} {all : List Task} {w : Network} {ts : List Task} → Goes w0 all w ts → (n : ℕ) → More w0 w n
goes_more {w0} stays n = record { more = []; has = sym (append-nil (w0.done n)) }
goes_more {w0} (moves w t ts m e go mv) n = one_more w0 w m e n (goes_more go n)
goes_more {w0} (serves w ts m e go call) n = one_more w0 w m e n (goes_more go n)
goes_more (passes w t next ts go served p) n = goes_more go n

pub carried_grows : (c d : Course) (all ts : List Task) → Goes c.net all d.net ts → d.marks ≡ c.marks → IsCarriedSoFar c → IsCarriedSoFar d
carried_grows c d ts left goes marks h = record {
  same = λ m. ap (λ (f : ℕ → List Mark). length (f m)) marks ∙ h.same m ∙ ap (λ (f : ℕ → List Mark). length (f 0)) (sym marks);
  few = λ i m. let x : More c.net d.net m = goes_more goes m in omega (arith, h.few i m, as_noted i m, ap length x.has, length_more (c.net.done m) x.more);
  all = λ i. carried_as (net_noted i c) (net_noted i d) (same_scenario goes) (λ m. let x : More c.net d.net m = goes_more goes m in
      ap (λ (n : ℕ). take n (d.net.done m)) (as_noted i m) ∙ ap (take (entries_until i (c.marks m))) x.has ∙ take-append-le (entries_until i (c.marks m)) (c.net.done m) x.more (h.few i m)) (h.all i);
} where
  as_noted : (i m : ℕ) → entries_until i (d.marks m) ≡ entries_until i (c.marks m)
  as_noted i m = ap (λ (f : ℕ → List Mark). entries_until i (f m)) marks

  length_more : (xs ys : List Entry) → length xs ≤ length (xs ++ ys)
  length_more [] ys = omega arith
  length_more (x ∷ xs) ys = let r = length_more xs ys in omega (arith, r)

pub carried_noted : (c : Course) (idle : Bool) → AllCarried c.net → IsCarriedSoFar c → IsCarriedSoFar (noted idle c)
carried_noted c idle here h = record {
  same = λ m. omega (arith, one_longer (c.marks m) (mark_at c.net idle m), one_longer (c.marks 0) (mark_at c.net idle 0), h.same m);
  few = few;
  all = all;
} where
  few : (i m : ℕ) → entries_until i (c.marks m ++ mark_at c.net idle m ∷ []) ≤ length (c.net.done m)
  few zero m = omega arith
  few (suc i) m = by_order (order i (length (c.marks m)))
    where
      by_order : (i < length (c.marks m)) ⊎ ((i ≡ length (c.marks m)) ⊎ (length (c.marks m) < i)) → entries_until (suc i) (c.marks m ++ mark_at c.net idle m ∷ []) ≤ length (c.net.done m)
      by_order (inl less) = omega (arith, until_front (c.marks m) (mark_at c.net idle m) i less, h.few (suc i) m)
      by_order (inr (inl is)) = omega (arith, until_next (c.marks m) (mark_at c.net idle m) i is)
      by_order (inr (inr more)) = omega (arith, until_past (c.marks m) (mark_at c.net idle m) i more)

  all : (i : ℕ) → AllCarried (net_noted i (noted idle c))
  all zero = carried_none (net_noted 0 (noted idle c)) (λ m. refl)
  all (suc i) = by_order (order i (length (c.marks 0)))
    where
      by_order : (i < length (c.marks 0)) ⊎ ((i ≡ length (c.marks 0)) ⊎ (length (c.marks 0) < i)) → AllCarried (net_noted (suc i) (noted idle c))
      by_order (inl less) = carried_as (net_noted (suc i) c) (net_noted (suc i) (noted idle c)) refl
          (λ m. ap (λ (n : ℕ). take n (c.net.done m)) (until_front (c.marks m) (mark_at c.net idle m) i (omega (arith, less, h.same m)))) (h.all (suc i))
      by_order (inr (inl is)) = carried_as c.net (net_noted (suc i) (noted idle c)) refl
          (λ m. ap (λ (n : ℕ). take n (c.net.done m)) (until_next (c.marks m) (mark_at c.net idle m) i (is ∙ sym (h.same m))) ∙ take_whole (c.net.done m)) here
      by_order (inr (inr more)) = carried_none (net_noted (suc i) (noted idle c))
          (λ m. ap (λ (n : ℕ). take n (c.net.done m)) (until_past (c.marks m) (mark_at c.net idle m) i (omega (arith, more, h.same m))))

-- HISTORIES
-- as a course has them
until_at : (s : Scenario) (hs : List History) (c d : Course) → Has s hs c d → (i m : ℕ) → entries_at (until i hs) m ≡ (net_noted i d).done m
until_at s hs c d has i m = ap entries_or (slice_get-map (history_until i) hs m) ∙ at (slice_get hs m) refl
  where
    at : (o : Option History) → slice_get hs m ≡ o → entries_or (option_map (history_until i) o) ≡ (net_noted i d).done m
    at None is = sym (ap (take (entries_until i (d.marks m))) (has.done m ∙ ap entries_or is) ∙ take_none (entries_until i (d.marks m)))
    at (Some h) is =
        let marks : h.marks ≡ d.marks m = sym (ap marks_or is) ∙ has.noted m (slice_get_within hs m h is) in
        let done : h.entries ≡ d.net.done m = sym (has.done m ∙ ap entries_or is) in
        λ j. take (entries_until i (marks j)) (done j)

pub carried_histories : (s : Scenario) (hs : List History) (c d : Course) → Has s hs c d → d.net.scenario ≡ s → IsCarriedSoFar d → AreCarriedSoFar s hs
carried_histories s hs c d has same h i k l is =
    let x : IsCarriedIn (net_noted i d) k l = h.all i k l (ap (λ (y : Scenario). slice_get y.cables k) same ∙ is) in record {
      out = carries_as l.out (is_sender k) (is_receiver k) ((net_noted i d).done l.sender) ((net_noted i d).done l.receiver) (entries_at (until i hs) l.sender) (entries_at (until i hs) l.receiver) (until_at s hs c d has i l.sender) (until_at s hs c d has i l.receiver) x.out;
      back = carries_as l.back (is_receiver k) (is_sender k) ((net_noted i d).done l.receiver) ((net_noted i d).done l.sender) (entries_at (until i hs) l.receiver) (entries_at (until i hs) l.sender) (until_at s hs c d has i l.receiver) (until_at s hs c d has i l.sender) x.back;
    }

-- A WHOLE RUN
went_same : {w0 : Network} {whole : List Step} {marks : ℕ → List Mark} {w : Network} → Went w0 whole marks w → w.scenario ≡ w0.scenario
went_same begins = refl
went_same (ends whole marks before w step went goes served) = same_scenario goes ∙ went_same went

pub carried_ran : {T : Type 0} (s : Scenario) (r : Result T Stop) (c d : Course) → c.net.scenario ≡ s → Ran r c d → IsCarriedSoFar d → (hs : List History) → Has s hs c d → AreCarriedSoFar s hs
carried_ran s r c d same ran h hs has = carried_histories s hs c d has (same_scenario ran.stands.goes ∙ went_same ran.stands.went ∙ same) h

-- where nothing was done
pub carried_undone : (s : Scenario) (hs : List History) → ((m : ℕ) → entries_at hs m ≡ []) → AreCarriedSoFar s hs
carried_undone s hs none i k l is = record {
  out = carries_as l.out (is_sender k) (is_receiver k) [] [] (entries_at (until i hs) l.sender) (entries_at (until i hs) l.receiver) (nothing l.sender) (nothing l.receiver) (nothing_carried l.out (is_sender k) (is_receiver k));
  back = carries_as l.back (is_receiver k) (is_sender k) [] [] (entries_at (until i hs) l.receiver) (entries_at (until i hs) l.sender) (nothing l.receiver) (nothing l.sender) (nothing_carried l.back (is_receiver k) (is_sender k));
} where
  nothing : (m : ℕ) → entries_at (until i hs) m ≡ []
  nothing m = ap entries_or (slice_get-map (history_until i) hs m) ∙ at (slice_get hs m) refl
    where
      at : (o : Option History) → slice_get hs m ≡ o → entries_or (option_map (history_until i) o) ≡ []
      at None e = refl
      at (Some h) e = ap (take (entries_until i h.marks)) (sym (ap entries_or e) ∙ none m) ∙ take_none (entries_until i h.marks)
