-- The rows of the managers of the first starts are those of their logs, with arrivals counted.
use Rattle.std.proofs.Common.{ℕ, zero, suc, ◌≡◌, ◌+◌, ◌≤◌, ◌==◌, length, take, Bool, true, false, List, [], ◌∷◌, ◌++◌, Option, None, Some, refl, ap, sym, ◌∙◌, arith}
use Rattle.std.specs.Prelude.{map, not, if◌then◌else◌}
use Rattle.std.specs.List.{flat_map}
use Rattle.std.specs.Str.{bytes_eq}
use Rattle.std.proofs.lemmas.Bool.Decides.{nat_tests}
use Rattle.mq_message.specs.declared.message.Ident.{Ident}
use Rattle.mq_message.specs.declared.place.Holder.{Holder}
use Rattle.mq_message.specs.declared.place.Holder.TheVariants as holders
use Rattle.mq_queue.specs.declared.row.Row.{Row}
use Rattle.mq_queue.specs.Rows.{keep}
use Rattle.mq_objects.specs.declared.object.LocalQueue.{LocalQueue}
use Rattle.mq_objects.specs.declared.object.Object.{Object}
use Rattle.mq_objects.specs.declared.object.Object.TheVariants as objects
use Rattle.mq_objects.specs.Names.{locals_in}
use Rattle.mq_calls.specs.declared.image.Shelf.{Shelf}
use Rattle.mq_history.specs.declared.history.History.{History}
use Rattle.mq_history.specs.declared.scenario.Scenario.{Scenario}
use Rattle.mq_calls.specs.State.{Plain}
use Rattle.mq_calls.specs.Reads.{queue_in, stored}
use Rattle.mq_calls.specs.Images.{numbered, queue_on}
use Rattle.mq_spec_network.specs.Ledger.{rows_in}
use Rattle.mq_spec_network.specs.Standing.{node_after, managers_from, opening_managers, is_held_there, standing_in}
use Rattle.mq_spec_network.specs.Apart.{idents_in, row_idents, standing_idents}
use Rattle.mq_net_apart.specs.Opened.{opened_held, ident_of, standing_if, all_object, standing_object, all_of, standing_of, opened_standing}

pub same_next : (a b : ℕ) → (a + 1 == b + 1) ≡ (a == b)
same_next a b = grind (arith, nat_tests)

-- Rows of a queue by its name, numbered.
if_rows : (t : Bool) (s : Shelf) (name : List ℕ) (ss : List Shelf) → (queue_in name (map queue_on ss)).rows ≡ numbered 0 (rows_in name ss)
    → (if t then queue_on s else queue_in name (map queue_on ss)).rows ≡ numbered 0 (if t then s.rows else rows_in name ss)
if_rows true s name ss e = refl
if_rows false s name ss e = e

rows_numbered : (name : List ℕ) (ss : List Shelf) → (queue_in name (map queue_on ss)).rows ≡ numbered 0 (rows_in name ss)
rows_numbered name [] = refl
rows_numbered name (s ∷ ss) = if_rows (bytes_eq name s.name) s name ss (rows_numbered name ss)

all_numbered : (n : ℕ) (rows : List Row) → map ident_of (numbered n rows) ≡ map ident_of rows
all_numbered n [] = refl
all_numbered n (row ∷ rows) = ap (λ (is : List Ident). row.message.ident ∷ is) (all_numbered (n + 1) rows)

-- those that count: who holds a row says it
kept_if : (test : Option Holder → Bool) (held : Bool) (row row2 : Row) (rest : List Row) (is : List Ident) → row2.message.ident ≡ row.message.ident → map ident_of rest ≡ is
    → map ident_of (if not held then row2 ∷ rest else rest) ≡ (if held then [] else ident_of row ∷ []) ++ is
kept_if test true row row2 rest is same e = e
kept_if test false row row2 rest is same e = ap (λ (i : Ident). i ∷ map ident_of rest) same ∙ ap (λ (l : List Ident). row.message.ident ∷ l) e

kept_numbered : (test : Option Holder → Bool) (n : ℕ) (rows : List Row) → map ident_of (keep (λ (row : Row). not (test row.by)) (numbered n rows)) ≡ flat_map (λ (row : Row). if test row.by then [] else ident_of row ∷ []) rows
kept_numbered test n [] = refl
kept_numbered test n (row ∷ rows) =
    kept_if test (test row.by) row (record row { place = record row.place { arrival = n + 1 } }) (keep (λ (r : Row). not (test r.by)) (numbered (n + 1) rows))
    (flat_map (λ (r : Row). if test r.by then [] else ident_of r ∷ []) rows) refl (kept_numbered test (n + 1) rows)

-- Local queues of objects.
locals_all : (h : History) (f : LocalQueue → List Ident) → ((q : LocalQueue) → f q ≡ map ident_of (rows_in q.name h.opening.shelves)) → (os : List Object) → flat_map f (locals_in os) ≡ flat_map (all_object h) os
locals_all h f same [] = refl
locals_all h f same (objects.Local q ∷ os) = ap (λ (is : List Ident). is ++ flat_map f (locals_in os)) (same q) ∙ ap (λ (is : List Ident). map ident_of (rows_in q.name h.opening.shelves) ++ is) (locals_all h f same os)
locals_all h f same (objects.Alias q ∷ os) = locals_all h f same os
locals_all h f same (objects.Remote q ∷ os) = locals_all h f same os
locals_all h f same (objects.Channel c ∷ os) = locals_all h f same os
locals_all h f same (objects.Process c ∷ os) = locals_all h f same os

locals_standing : (s : Scenario) (ps : List Plain) (number : ℕ) (h : History) (f : LocalQueue → List Ident) → ((q : LocalQueue) → f q ≡ flat_map (standing_if s ps number h) (rows_in q.name h.opening.shelves)) → (os : List Object)
    → flat_map f (locals_in os) ≡ flat_map (standing_object s ps number h) os
locals_standing s ps number h f same [] = refl
locals_standing s ps number h f same (objects.Local q ∷ os) =
    ap (λ (is : List Ident). is ++ flat_map f (locals_in os)) (same q) ∙ ap (λ (is : List Ident). flat_map (standing_if s ps number h) (rows_in q.name h.opening.shelves) ++ is) (locals_standing s ps number h f same os)
locals_standing s ps number h f same (objects.Alias q ∷ os) = locals_standing s ps number h f same os
locals_standing s ps number h f same (objects.Remote q ∷ os) = locals_standing s ps number h f same os
locals_standing s ps number h f same (objects.Channel c ∷ os) = locals_standing s ps number h f same os
locals_standing s ps number h f same (objects.Process c ∷ os) = locals_standing s ps number h f same os

-- All rows of the managers of the first starts.
abbrev plain_at : Scenario → ℕ → History → Plain
plain_at s m h = (node_after s m [] h).manager

all_one : (s : Scenario) (m : ℕ) (h : History) → idents_in (λ (rows : List Row). rows) (plain_at s m h) ≡ all_of h
all_one s m h =
    locals_all h (λ (q : LocalQueue). map ident_of (stored q.name (plain_at s m h)).rows)
    (λ q. ap (λ (rows : List Row). map ident_of rows) (rows_numbered q.name h.opening.shelves) ∙ all_numbered 0 (rows_in q.name h.opening.shelves))
    h.opening.definitions.objects

all_rows : (s : Scenario) (m : ℕ) (hs : List History) → row_idents (managers_from s m [] hs) ≡ flat_map all_of hs
all_rows s m [] = refl
all_rows s m (h ∷ hs) =
    ap (λ (is : List Ident). is ++ row_idents (managers_from s (suc m) [] hs)) (all_one s m h)
    ∙ ap (λ (is : List Ident). all_of h ++ is) (all_rows s (suc m) hs)

pub all_opened : (s : Scenario) (hs : List History) → flat_map all_of hs ≡ row_idents (opening_managers s hs)
all_opened s hs = sym (all_rows s 0 hs)

-- Those that count.
pub held_is : (s : Scenario) (ps : List Plain) (m : ℕ) (h : History) (by : Option Holder) → is_held_there s ps (plain_at s m h) by ≡ opened_held s ps (m + 1) h by
held_is s ps m h None = refl
held_is s ps m h (Some (holders.Unit n)) = refl
held_is s ps m h (Some (holders.Batch channel)) = refl

flat_same : (f g : Row → List Ident) → ((row : Row) → f row ≡ g row) → (rows : List Row) → flat_map f rows ≡ flat_map g rows
flat_same f g same [] = refl
flat_same f g same (row ∷ rows) = ap (λ (is : List Ident). is ++ flat_map f rows) (same row) ∙ ap (λ (is : List Ident). g row ++ is) (flat_same f g same rows)

abbrev if_held : Option Holder → Row → Bool → List Ident
if_held by row held = if held then [] else ident_of row ∷ []

standing_queue : (s : Scenario) (ps : List Plain) (m : ℕ) (h : History) (q : LocalQueue) → map ident_of (standing_in s ps (plain_at s m h) (stored q.name (plain_at s m h)).rows) ≡ flat_map (standing_if s ps (m + 1) h) (rows_in q.name h.opening.shelves)
standing_queue s ps m h q =
    ap (λ (rows : List Row). map ident_of (standing_in s ps (plain_at s m h) rows)) (rows_numbered q.name h.opening.shelves)
    ∙ kept_numbered (is_held_there s ps (plain_at s m h)) 0 (rows_in q.name h.opening.shelves)
    ∙ flat_same (λ (row : Row). if is_held_there s ps (plain_at s m h) row.by then [] else ident_of row ∷ []) (standing_if s ps (m + 1) h)
    (λ row. ap (if_held row.by row) (held_is s ps m h row.by)) (rows_in q.name h.opening.shelves)

standing_one : (s : Scenario) (ps : List Plain) (m : ℕ) (h : History) → idents_in (standing_in s ps (plain_at s m h)) (plain_at s m h) ≡ standing_of s ps m h
standing_one s ps m h =
    locals_standing s ps (m + 1) h (λ (q : LocalQueue). map ident_of (standing_in s ps (plain_at s m h) (stored q.name (plain_at s m h)).rows)) (standing_queue s ps m h) h.opening.definitions.objects

one_more : (m : ℕ) → suc m ≡ m + 1
one_more m = omega arith

standing_rows : (s : Scenario) (ps : List Plain) (m : ℕ) (hs : List History) → flat_map (λ (p : Plain). idents_in (standing_in s ps p) p) (managers_from s m [] hs) ≡ opened_standing s ps m hs
standing_rows s ps m [] = refl
standing_rows s ps m (h ∷ hs) =
    ap (λ (is : List Ident). is ++ flat_map (λ (p : Plain). idents_in (standing_in s ps p) p) (managers_from s (suc m) [] hs)) (standing_one s ps m h)
    ∙ ap (λ (is : List Ident). standing_of s ps m h ++ is) (standing_rows s ps (suc m) hs ∙ ap (λ (n : ℕ). opened_standing s ps n hs) (one_more m))

pub standing_opened : (s : Scenario) (hs : List History) → opened_standing s (opening_managers s hs) 0 hs ≡ standing_idents s (opening_managers s hs)
standing_opened s hs = sym (standing_rows s (opening_managers s hs) 0 hs)

pub take_all : {X : Type 0} (n : ℕ) (xs : List X) → length xs ≤ n → take n xs ≡ xs
take_all zero [] le = refl
take_all (suc n) [] le = refl
take_all zero (x ∷ xs) le = absurd (omega arith)
take_all {X} (suc n) (x ∷ xs) le = ap (λ (l : List X). x ∷ l) (take_all n xs (omega arith))
