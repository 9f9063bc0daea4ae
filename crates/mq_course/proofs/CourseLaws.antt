-- How the course of a network follows its histories.
use Rattle.std.specs.Prelude.{if◌then◌else◌, ◌≡◌, ◌==◌, ◌<◌, ◌≤◌, ◌⊎◌, ℕ, zero, suc, Bool, true, false, List, [], ◌∷◌, ◌++◌, map, Option, Some, None, option_map, length, slice_get, slice_set, refl}
use Rattle.std.proofs.Common.{ap, subst, sym, arith, inl, inr, ◌∙◌}
use Rattle.std.proofs.lemmas.Bool.Decides.{nat_tests}
use Rattle.std.proofs.lemmas.Option.{slice_get_within}
use Rattle.mq_history.specs.declared.calls.Entry.{Entry}
use Rattle.mq_history.specs.declared.history.History.{History}
use Rattle.mq_history.specs.declared.history.Mark.{Mark}
use Rattle.mq_spec_network.specs.Story.{entries_at, entries_or}
use Rattle.mq_spec_network.specs.Terms.{Surroundings}
use Rattle.mq_spec_network.specs.Given.{surroundings}
use Rattle.mq_spec_network.specs.Turns.{does, more_at}
use Rattle.mq_spec_network.specs.Lawful.{marks_at, marks_or, network_begun, node_begun}
use Rattle.mq_spec_network.proofs.Going.{same_network}
use Rattle.mq_nodes.specs.Course.{mark_at}
use Rattle.mq_course.specs.Courses.{AllNote, HistoriesHave, OneDoes, absent, marks_or_absent, net_of, with_entries, with_mark}

pub same_or_not : (n m : ℕ) → (n ≡ m) ⊎ ((n == m) ≡ false)
same_or_not n m = at_it (n == m) refl
  where
    are_same : (a b : ℕ) → (a == b) ≡ true → a ≡ b
    are_same a b e = grind (arith, nat_tests)

    at_it : (b : Bool) → (n == m) ≡ b → (n ≡ m) ⊎ ((n == m) ≡ false)
    at_it true e = inl (are_same n m e)
    at_it false e = inr e

itself : (n : ℕ) → (n == n) ≡ true
itself n = grind (arith, nat_tests)

-- What is set at a place.
set_here : (xs : List History) (m : ℕ) (x : History) → m < length xs → slice_get (slice_set xs m x) m ≡ Some x
set_here [] m x lt = absurd (nothing m lt)
  where
    nothing : (n : ℕ) → n < 0 → ⊥
    nothing n h = omega arith
set_here (y ∷ ys) zero x lt = refl
set_here (y ∷ ys) (suc m) x lt = set_here ys m x (omega arith)

less : (n m : ℕ) → (suc n == suc m) ≡ false → (n == m) ≡ false
less n m e = grind (arith, nat_tests)

not_same : (n : ℕ) → (n == n) ≡ false → ⊥
not_same n e = grind (arith, nat_tests)

set_other : (xs : List History) (m n : ℕ) (x : History) → (n == m) ≡ false → slice_get (slice_set xs m x) n ≡ slice_get xs n
set_other [] zero n x e = refl
set_other [] (suc m) n x e = refl
set_other (y ∷ ys) zero zero x e = absurd (not_same 0 e)
set_other (y ∷ ys) zero (suc n) x e = refl
set_other (y ∷ ys) (suc m) zero x e = refl
set_other (y ∷ ys) (suc m) (suc n) x e = set_other ys m n x (less n m e)

-- what is seen of a history that doesn't change by it
unmoved : {B : Type 0} (f : Option History → B) (hs : List History) (m n : ℕ) (h k : History) → slice_get hs m ≡ Some h → f (Some k) ≡ f (Some h) → f (slice_get (slice_set hs m k) n) ≡ f (slice_get hs n)
unmoved {B} f hs m n h k known same = at_it (same_or_not n m)
  where
    at_it : (n ≡ m) ⊎ ((n == m) ≡ false) → f (slice_get (slice_set hs m k) n) ≡ f (slice_get hs n)
    at_it (inl e) = subst (λ (x : ℕ). f (slice_get (slice_set hs m k) x) ≡ f (slice_get hs x)) (sym e)
        (ap f (set_here hs m k (slice_get_within hs m h known)) ∙ same ∙ sym (ap f known))
    at_it (inr e) = ap f (set_other hs m n k e)

entries_more : (hs : List History) (m n : ℕ) (h : History) (es : List Entry) → slice_get hs m ≡ Some h → entries_at (slice_set hs m (with_entries es h)) n ≡ more_at m es (λ (x : ℕ). entries_at hs x) n
entries_more hs m n h es known = at_it (same_or_not n m)
  where
    here : entries_at (slice_set hs m (with_entries es h)) m ≡ (if m == m then entries_at hs m ++ es else entries_at hs m)
    here =
        ap entries_or (set_here hs m (with_entries es h) (slice_get_within hs m h known))
        ∙ sym (ap (λ (b : Bool). if b then entries_at hs m ++ es else entries_at hs m) (itself m) ∙ ap (λ (x : Option History). entries_or x ++ es) known)

    at_it : (n ≡ m) ⊎ ((n == m) ≡ false) → entries_at (slice_set hs m (with_entries es h)) n ≡ (if n == m then entries_at hs n ++ es else entries_at hs n)
    at_it (inl e) = subst (λ (x : ℕ). entries_at (slice_set hs m (with_entries es h)) x ≡ (if x == m then entries_at hs x ++ es else entries_at hs x)) (sym e) here
    at_it (inr e) = ap entries_or (set_other hs m n (with_entries es h) e) ∙ sym (ap (λ (b : Bool). if b then entries_at hs n ++ es else entries_at hs n) e)

pub one_does : OneDoes
one_does s hs waits m h es known =
    let new = slice_set hs m (with_entries es h) in
    let net : net_of s new ≡ does m es (net_of s hs) = same_network (net_of s new) (does m es (net_of s hs)) refl
    (λ n. unmoved (node_begun (surroundings s n)) hs m n h (with_entries es h) known refl)
    (λ n. entries_more hs m n h es known) in
    let marks : (n : ℕ) → marks_or_absent (marks_at new 0) (slice_get new n) ≡ marks_or_absent (marks_at hs 0) (slice_get hs n) = λ n.
    ap (λ (xs : List Mark). marks_or_absent xs (slice_get new n)) (unmoved marks_or hs m 0 h (with_entries es h) known refl)
    ∙ unmoved (marks_or_absent (marks_at hs 0)) hs m n h (with_entries es h) known refl in
    λ i. record { net = net i; waits = waits; marks = λ n. marks n i }

-- Marks.
get_map : (f : History → History) (hs : List History) (n : ℕ) → slice_get (map f hs) n ≡ option_map f (slice_get hs n)
get_map f [] zero = refl
get_map f [] (suc n) = refl
get_map f (h ∷ hs) zero = refl
get_map f (h ∷ hs) (suc n) = get_map f hs n

same_first : (g : Surroundings) (idle : Bool) (x : Option History) → node_begun g (option_map (with_mark idle) x) ≡ node_begun g x
same_first g idle None = refl
same_first g idle (Some h) = refl

same_entries : (idle : Bool) (x : Option History) → entries_or (option_map (with_mark idle) x) ≡ entries_or x
same_entries idle None = refl
same_entries idle (Some h) = refl

absent_more : (xs : List Mark) (x : Mark) → map absent (xs ++ x ∷ []) ≡ map absent xs ++ absent x ∷ []
absent_more [] x = refl
absent_more (y ∷ ys) x = ap (λ (zs : List Mark). absent y ∷ zs) (absent_more ys x)

one_mark : (idle : Bool) (k : History) (x : Option History)
    → marks_or_absent (with_mark idle k).marks (option_map (with_mark idle) x) ≡ marks_or_absent k.marks x ++ record { entries = length (entries_or x); idle = idle } ∷ []
one_mark idle k None = absent_more k.marks (record { entries = length k.entries; idle = idle })
one_mark idle k (Some h) = refl

pub all_note : AllNote
all_note s [] waits idle some = absurd (nothing some)
  where
    nothing : 1 ≤ 0 → ⊥
    nothing h = omega arith
all_note s (k ∷ hs) waits idle some =
    let old = k ∷ hs in
    let new = map (with_mark idle) (k ∷ hs) in
    let net : net_of s new ≡ net_of s old = same_network (net_of s new) (net_of s old) refl
    (λ n. ap (node_begun (surroundings s n)) (get_map (with_mark idle) old n) ∙ same_first (surroundings s n) idle (slice_get old n))
    (λ n. ap entries_or (get_map (with_mark idle) old n) ∙ same_entries idle (slice_get old n)) in
    let marks : (n : ℕ) → marks_or_absent (marks_at new 0) (slice_get new n) ≡ marks_or_absent (marks_at old 0) (slice_get old n) ++ mark_at (net_of s old) idle n ∷ [] = λ n.
    ap (λ (x : Option History). marks_or_absent (with_mark idle k).marks x) (get_map (with_mark idle) old n)
    ∙ one_mark idle k (slice_get old n) in
    λ i. record { net = net i; waits = waits; marks = λ n. marks n i }

-- What histories have.
pub histories_have : HistoriesHave
histories_have s old new first last same none = record {
  begun = same_network (net_of s old) (network_begun s new) refl same none;
  done = λ m. refl;
  noted = λ m lt. at_it (marks_at new 0) (slice_get new m) (there m lt);
} where
  at_it : (xs : List Mark) (x : Option History) → (h : History) × (x ≡ Some h) → marks_or x ≡ marks_or_absent xs x
  at_it xs x (h, e) = subst (λ (y : Option History). marks_or y ≡ marks_or_absent xs y) (sym e) refl

  found : (hs : List History) (m : ℕ) → m < length hs → (h : History) × (slice_get hs m ≡ Some h)
  found [] m lt = absurd (nothing m lt)
    where
      nothing : (n : ℕ) → n < 0 → ⊥
      nothing n h = omega arith
  found (h ∷ hs) zero lt = (h, refl)
  found (h ∷ hs) (suc m) lt = found hs m (omega arith)

  there : (m : ℕ) → m < length new → (h : History) × (slice_get new m ≡ Some h)
  there m lt = found new m lt
