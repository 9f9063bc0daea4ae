-- Counts by name, and what steps and handles add to them one after the other.
use Rattle.std.proofs.Common.{◌≡◌, ℕ, zero, suc, ◌+◌, ◌<◌, ◌≤◌, Bool, true, false, cond, List, [], ◌∷◌, length, get_or, take, refl, ap, arith, sym, ◌∙◌, add-one}
use Rattle.std.specs.Prelude.{Some, slice_get}
use Rattle.std.specs.Str.{bytes_eq}
use Rattle.std.specs.Cmp.Lexicographic.{nat_list_eq_equiv}
use Rattle.mq_calls.specs.from_resolve.PathStepVariants as steps
use Rattle.mq_calls.specs.Words.{PathStep}
use Rattle.mq_calls.specs.declared.state.Handle.{Handle}
use Rattle.mq_handles.specs.declared.users.Count.{Count}
use Rattle.mq_handles.specs.declared.users.Users.{Users}
use Rattle.mq_handles.specs.Users.{Key, name_weight, key_weight, path_weight, handle_weight, weight_of, count_in, AreAmong, IsLess}
use Rattle.mq_handles.specs.Users.Key.{Reader, Alone, OnPath}

-- what a name adds is among what is counted for it
pub is_less : (name : List ℕ) (less : Count) (u : Users) → AreAmong (name_weight name less) u → IsLess less (count_in name u)
is_less name less u among = record {
  readers = by (bytes_eq name name) (nat_list_eq_equiv.refl name) less.readers (count_in name u).readers (among (Reader name));
  alone = by (bytes_eq name name) (nat_list_eq_equiv.refl name) less.alone (count_in name u).alone (among (Alone name));
  steps = by (bytes_eq name name) (nat_list_eq_equiv.refl name) less.steps (count_in name u).steps (among (OnPath (steps.Queue name)));
}
  where
    by : (b : Bool) → b ≡ true → (m n : ℕ) → cond b m 0 ≤ n → m ≤ n
    by true t m n le = le
    by false t m n le = absurd cc

-- sums so far
module _ {X : Type 0} (f : X → ℕ) (F : List X → ℕ) (none : F [] ≡ 0) (more : (x : X) (xs : List X) → F (x ∷ xs) ≡ f x + F xs) where
  sum_suc : (xs : List X) (i : ℕ) (d : X) → i < length xs → F (take (suc i) xs) ≡ F (take i xs) + f (get_or xs i d)
  sum_suc [] i d lt = absurd (omega (arith, lt))
  sum_suc (x ∷ xs) zero d lt = omega (arith, more x [], none)
  sum_suc (x ∷ xs) (suc i) d lt = omega (arith, more x (take (suc i) xs), more x (take i xs), sum_suc xs i d (omega (arith, lt)))

  pub sum_on : (xs : List X) (i : ℕ) (d : X) → i < length xs → F (take (i + 1) xs) ≡ F (take i xs) + f (get_or xs i d)
  sum_on xs i d lt = ap (λ (n : ℕ). F (take n xs)) (add-one i) ∙ sum_suc xs i d lt

  pub sum_part : (xs : List X) (n : ℕ) → F (take n xs) ≤ F xs
  sum_part [] zero = omega arith
  sum_part [] (suc n) = omega arith
  sum_part (x ∷ xs) zero = omega (arith, none)
  sum_part (x ∷ xs) (suc n) = omega (arith, more x (take n xs), more x xs, sum_part xs n)

  pub sum_all : (xs : List X) → F (take (length xs) xs) ≡ F xs
  sum_all [] = refl
  sum_all (x ∷ xs) = omega (arith, more x (take (length xs) xs), more x xs, sum_all xs)

pub path_on : (path : List PathStep) (i : ℕ) (step : PathStep) → i < length path → step ≡ get_or path i step → (key : Key) → path_weight (take (i + 1) path) key ≡ path_weight (take i path) key + key_weight key step
path_on path i step lt is key = sum_on (key_weight key) (λ p. path_weight p key) refl (λ x xs. refl) path i step lt ∙ ap (λ s. path_weight (take i path) key + key_weight key s) (sym is)

pub path_part : (path : List PathStep) (n : ℕ) (key : Key) → path_weight (take n path) key ≤ path_weight path key
path_part path n key = sum_part (key_weight key) (λ p. path_weight p key) refl (λ x xs. refl) path n

pub path_all : (path : List PathStep) (key : Key) → path_weight (take (length path) path) key ≡ path_weight path key
path_all path key = sum_all (key_weight key) (λ p. path_weight p key) refl (λ x xs. refl) path

pub handle_on : (hs : List Handle) (i : ℕ) (h : Handle) → i < length hs → h ≡ get_or hs i h → (key : Key) → weight_of (handle_weight key) (take (i + 1) hs) ≡ weight_of (handle_weight key) (take i hs) + handle_weight key h
handle_on hs i h lt is key = sum_on (handle_weight key) (weight_of (handle_weight key)) refl (λ x xs. refl) hs i h lt ∙ ap (λ x. weight_of (handle_weight key) (take i hs) + handle_weight key x) (sym is)

pub handle_part : (hs : List Handle) (n : ℕ) (key : Key) → weight_of (handle_weight key) (take n hs) ≤ weight_of (handle_weight key) hs
handle_part hs n key = sum_part (handle_weight key) (weight_of (handle_weight key)) refl (λ x xs. refl) hs n

pub handle_all : (hs : List Handle) (key : Key) → weight_of (handle_weight key) (take (length hs) hs) ≡ weight_of (handle_weight key) hs
handle_all hs key = sum_all (handle_weight key) (weight_of (handle_weight key)) refl (λ x xs. refl) hs

-- what stands at a place
pub got : {X : Type 0} (xs : List X) (i : ℕ) (d : X) → i < length xs → d ≡ get_or xs i d → slice_get xs i ≡ Some d
got [] i d lt e = absurd (omega (arith, lt))
got (x ∷ xs) zero d lt e = grind (arith, e)
got (x ∷ xs) (suc i) d lt e = let rest = got xs i d (omega (arith, lt)) e in grind (arith, rest)
