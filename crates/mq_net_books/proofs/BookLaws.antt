-- One manager of the lists is changed, and lists that were written last first.
use Rattle.std.proofs.Common.{ℕ, zero, suc, ◌≡◌, ◌+◌, ◌≤◌, Bool, true, false, List, [], ◌∷◌, ◌++◌, Option, Some, None, refl, ap, sym, ◌∙◌, arith, length}
use Rattle.std.specs.Prelude.{slice_get, slice_set, reverse, is_some, ◌||◌}
use Rattle.std.specs.List.{list_any, flat_map}
use Rattle.std.proofs.lemmas.List.{reverse-append}
use Rattle.std.proofs.lemmas.List.Folds.{list_any-append}
use Rattle.mq_message.specs.declared.message.Ident.{Ident}
use Rattle.mq_queue.specs.declared.row.Row.{Row}
use Rattle.mq_queue.specs.Rows.{same_ident}
use Rattle.mq_history.specs.declared.story.ManagerPlaces.{ManagerPlaces}
use Rattle.mq_spec_network.specs.Ledger.{Users, users_or, change_at, unit_of, row_in, row_at, idents_at}
use Rattle.mq_calls.specs.Reads.{connection_at}
use Rattle.mq_net_books.proofs.PlacedLaws.{placed}

pub changed_at : {A : Type 0} (m : ℕ) (f : A → A) (xs : List A) (x : A) → slice_get xs m ≡ Some x → slice_set xs m (f x) ≡ change_at m f xs
changed_at m f [] x e = absurd cc
changed_at zero f (y ∷ xs) x e = grind (arith)
changed_at (suc m) f (y ∷ xs) x e = grind (arith, changed_at m f xs x)

-- What a look-up found is changed.
abbrev pub set_at : {A : Type 0} → (A → A) → List A → ℕ → Option A → List A
set_at f xs m None = xs
set_at f xs m (Some x) = slice_set xs m (f x)

later : {A : Type 0} (f : A → A) (x : A) (xs : List A) (m : ℕ) (o : Option A) → x ∷ set_at f xs m o ≡ set_at f (x ∷ xs) (suc m) o
later f x xs m None = refl
later f x xs m (Some y) = refl

pub changed : {A : Type 0} (m : ℕ) (f : A → A) (xs : List A) → change_at m f xs ≡ set_at f xs m (slice_get xs m)
changed zero f [] = refl
changed (suc m) f [] = refl
changed zero f (x ∷ xs) = refl
changed {A} (suc m) f (x ∷ xs) = ap (λ (l : List A). x ∷ l) (changed m f xs) ∙ later f x xs m (slice_get xs m)

pub changed_far : {A : Type 0} (m : ℕ) (f : A → A) (xs : List A) → length xs ≤ m → change_at m f xs ≡ xs
changed_far zero f [] l = refl
changed_far (suc m) f [] l = refl
changed_far zero f (x ∷ xs) l = absurd (omega arith)
changed_far {A} (suc m) f (x ∷ xs) l = ap (λ (l : List A). x ∷ l) (changed_far m f xs (omega arith))

pub reverse_more : {A : Type 0} (xs : List A) (x : A) → reverse (xs ++ x ∷ []) ≡ x ∷ reverse xs
reverse_more xs x = reverse-append xs (x ∷ [])

pub get_far : {A : Type 0} (xs : List A) (m : ℕ) → length xs ≤ m → slice_get xs m ≡ None
get_far [] m l = refl
get_far (x ∷ xs) zero l = absurd (omega arith)
get_far (x ∷ xs) (suc m) l = get_far xs m (omega arith)

pub unit_there : (m n : ℕ) (us : List Users) (u : Users) → slice_get us m ≡ Some u → unit_of (connection_at n (users_or (slice_get us m)).connections) ≡ unit_of (connection_at n u.connections)
unit_there m n us u e = ap (λ (o : Option Users). unit_of (connection_at n (users_or o).connections)) e

pub unit_far : (m n : ℕ) (us : List Users) → length us ≤ m → unit_of (connection_at n (users_or (slice_get us m)).connections) ≡ []
unit_far m n us l = ap (λ (o : Option Users). unit_of (connection_at n (users_or o).connections)) (get_far us m l)

-- Whether a row of an ident stands somewhere, and whether it is in a list that was written last first.
either : (ident : Ident) (ps : List ManagerPlaces) (o : Option Row) → is_some (elim o as (λ r. Option Row) [ None ↦ row_at ident ps | Some row ↦ Some row ]) ≡ (is_some o || is_some (row_at ident ps))
either ident ps None = refl
either ident ps (Some row) = refl

pub placed_somewhere : (ident : Ident) (ps : List ManagerPlaces) → is_some (row_at ident ps) ≡ list_any (same_ident ident) (flat_map idents_at ps)
placed_somewhere ident [] = refl
placed_somewhere ident (p ∷ ps) =
    either ident ps (row_in ident p.queues)
    ∙ ap (λ (b : Bool). b || is_some (row_at ident ps)) (placed ident p.queues)
    ∙ ap (λ (b : Bool). list_any (same_ident ident) (idents_at p) || b) (placed_somewhere ident ps)
    ∙ sym (list_any-append (same_ident ident) (idents_at p) (flat_map idents_at ps))

or_swap : (a b : Bool) → (a || (b || false)) ≡ (b || a)
or_swap true true = refl
or_swap true false = refl
or_swap false true = refl
or_swap false false = refl

pub any_back : {A : Type 0} (test : A → Bool) (xs : List A) → list_any test (reverse xs) ≡ list_any test xs
any_back test [] = refl
any_back test (x ∷ xs) =
    ap (list_any test) (reverse-append (x ∷ []) xs)
    ∙ list_any-append test (reverse xs) (x ∷ [])
    ∙ or_swap (list_any test (reverse xs)) (test x)
    ∙ ap (λ (b : Bool). test x || b) (any_back test xs)
