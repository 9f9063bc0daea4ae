-- The shelves of queues that are set, mapped, found.
use Rattle.std.proofs.Common.{ℕ, ◌≡◌, Bool, true, false, List, [], ◌∷◌, refl, ap, sym, ◌∙◌}
use Rattle.std.specs.Prelude.{Option, Some, None, not, ◌&&◌, ◌||◌, if◌then◌else◌, map, filter}
use Rattle.std.specs.List.{AllByRecursion, list_any}
use Rattle.std.specs.Str.{bytes_eq}
use Rattle.mq_message.specs.declared.message.Ident.{Ident}
use Rattle.mq_sync.specs.declared.data.InDoubt.{InDoubt}
use Rattle.mq_queue.specs.declared.row.Row.{Row}
use Rattle.mq_queue.specs.Rows.{same_ident, is_free}
use Rattle.mq_queue.specs.Queues.{Lacks}
use Rattle.mq_calls.specs.State.{Queue}
use Rattle.mq_calls.specs.declared.state.Batch.{Batch}
use Rattle.mq_calls.specs.declared.state.SenderSide.{SenderSide}
use Rattle.mq_calls.specs.Reads.{queue_in}
use Rattle.mq_calls.specs.Changes.{set_queue}
use Rattle.mq_spec_manager.specs.Agents.{doubts}
use Rattle.mq_calls.specs.Changes.{less_ident}
use Rattle.mq_calls.specs.Images.{shelf_of, shelves_of, lasting_rows}
use Rattle.mq_calls.specs.declared.image.Shelf.{Shelf}
use Rattle.mq_spec_log.specs.Shelves.{shelf_in, set_shelf, on_all, without_ident}
use Rattle.mq_calls.specs.Changes.{off_lists}
use Rattle.mq_spec_log.specs.Applies.{stands_on, is_free_at}
use Rattle.mq_law_log.specs.Keeps.{has_queue}
use Rattle.mq_law_log.proofs.Rows.{bool_case, name_is, name_self, none_kept_out, lacks_last}

pub shelves_set : (bs : List Batch) (new : Queue) (qs : List Queue) → shelves_of bs (set_queue new qs) ≡ set_shelf (shelf_of bs new) (shelves_of bs qs)
shelves_set bs new [] = refl
shelves_set bs new (q ∷ qs) = bool_case (bytes_eq new.name q.name)
    (λ b. shelves_of bs (if b then new ∷ qs else q ∷ set_queue new qs) ≡ (if b then shelf_of bs new ∷ shelves_of bs qs else shelf_of bs q ∷ set_shelf (shelf_of bs new) (shelves_of bs qs)))
    (λ e. refl) (λ e. ap (λ (x : List Shelf). shelf_of bs q ∷ x) (shelves_set bs new qs))

pub shelf_found : (bs : List Batch) (name : List ℕ) (qs : List Queue) → shelf_in name (shelves_of bs qs) ≡ shelf_of bs (queue_in name qs)
shelf_found bs name [] = refl
shelf_found bs name (q ∷ qs) = bool_case (bytes_eq name q.name)
    (λ b. (if b then shelf_of bs q else shelf_in name (shelves_of bs qs)) ≡ shelf_of bs (if b then q else queue_in name qs))
    (λ e. refl) (λ e. shelf_found bs name qs)

pub shelves_mapped : (bs cs : List Batch) (f : Queue → Queue) (g : Shelf → Shelf) → ((q : Queue) → shelf_of bs (f q) ≡ g (shelf_of cs q)) → (qs : List Queue) → shelves_of bs (map f qs) ≡ on_all g (shelves_of cs qs)
shelves_mapped bs cs f g same [] = refl
shelves_mapped bs cs f g same (q ∷ qs) = ap (λ (x : Shelf). x ∷ shelves_of bs (map f qs)) (same q) ∙ ap (λ (x : List Shelf). g (shelf_of cs q) ∷ x) (shelves_mapped bs cs f g same qs)

pub shelves_alike : (bs cs : List Batch) (f : Queue → Queue) (qs : List Queue) → AllByRecursion (λ (q : Queue). shelf_of bs (f q) ≡ shelf_of cs q) qs → shelves_of bs (map f qs) ≡ shelves_of cs qs
shelves_alike bs cs f [] h = refl
shelves_alike bs cs f (q ∷ qs) h = ap (λ (x : Shelf). x ∷ shelves_of bs (map f qs)) h.0 ∙ ap (λ (x : List Shelf). shelf_of cs q ∷ x) (shelves_alike bs cs f qs h.1)

pub all_of : {A : Type 0} (P : A → Type 0) → ((a : A) → P a) → (xs : List A) → AllByRecursion P xs
all_of P h [] = tt
all_of P h (x ∷ xs) = (h x, all_of P h xs)

pub found_name : (name : List ℕ) (qs : List Queue) → (queue_in name qs).name ≡ name
found_name name [] = refl
found_name name (q ∷ qs) = bool_case (bytes_eq name q.name) (λ b. (if b then q else queue_in name qs).name ≡ name) (λ e. sym (name_is name q.name e)) (λ e. found_name name qs)

-- a queue that was set is there
pub set_is_there : (name : List ℕ) (new : Queue) (qs : List Queue) → new.name ≡ name → has_queue name (set_queue new qs) ≡ true
set_is_there name new [] e = ap (λ (b : Bool). b || false) (ap (λ (x : List ℕ). bytes_eq x new.name) (sym e) ∙ name_self new.name)
set_is_there name new (q ∷ qs) e = bool_case (bytes_eq new.name q.name)
    (λ b. bytes_eq new.name q.name ≡ b → has_queue name (if b then new ∷ qs else q ∷ set_queue new qs) ≡ true)
    (λ y z. ap (λ (b : Bool). b || has_queue name qs) (ap (λ (x : List ℕ). bytes_eq x new.name) (sym e) ∙ name_self new.name))
    (λ y z. ap (λ (b : Bool). b || has_queue name (set_queue new qs)) (ap (λ (x : List ℕ). bytes_eq x q.name) (sym e) ∙ z) ∙ set_is_there name new qs e)
    refl

-- a queue that is there is set as it was found
pub shelf_again : (bs : List Batch) (name : List ℕ) (qs : List Queue) → has_queue name qs ≡ true → set_shelf (shelf_of bs (queue_in name qs)) (shelves_of bs qs) ≡ shelves_of bs qs
shelf_again bs name [] h = absurd (cc h)
shelf_again bs name (q ∷ qs) h0 = bool_case (bytes_eq name q.name)
    (λ b. bytes_eq name q.name ≡ b → (b || has_queue name qs) ≡ true → set_shelf (shelf_of bs (if b then q else queue_in name qs)) (shelf_of bs q ∷ shelves_of bs qs) ≡ shelf_of bs q ∷ shelves_of bs qs)
    (λ y z h. ap (λ (b : Bool). if b then shelf_of bs q ∷ shelves_of bs qs else shelf_of bs q ∷ set_shelf (shelf_of bs q) (shelves_of bs qs)) (name_self q.name))
    (λ y z h. ap (λ (b : Bool). if b then shelf_of bs (queue_in name qs) ∷ shelves_of bs qs else shelf_of bs q ∷ set_shelf (shelf_of bs (queue_in name qs)) (shelves_of bs qs)) (ap (λ (x : List ℕ). bytes_eq x q.name) (found_name name qs) ∙ z)
    ∙ ap (λ (x : List Shelf). shelf_of bs q ∷ x) (shelf_again bs name qs h))
    refl h0

-- An ident that is new.
pub none_without : (bs : List Batch) (ident : Ident) (qs : List Queue) → AllByRecursion (λ (q : Queue). Lacks ident q.rows) qs → on_all (without_ident ident) (shelves_of bs qs) ≡ shelves_of bs qs
none_without bs ident [] h = refl
none_without bs ident (q ∷ qs) h = ap (λ (x : List Row). record (shelf_of bs q) { rows = x } ∷ on_all (without_ident ident) (shelves_of bs qs)) (none_kept_out ident (lasting_rows bs q.rows) (lacks_last bs ident q.rows h.0))
    ∙ ap (λ (x : List Shelf). shelf_of bs q ∷ x) (none_without bs ident qs h.1)

none_left : (ident : Ident) (idents : List Ident) → list_any (same_ident ident) idents ≡ false → filter (λ (other : Ident). not (same_ident ident other)) idents ≡ idents
none_left ident [] h = refl
none_left ident (other ∷ others) h0 = bool_case (same_ident ident other)
    (λ b. (b || list_any (same_ident ident) others) ≡ false → (if not b then other ∷ filter (λ (x : Ident). not (same_ident ident x)) others else filter (λ (x : Ident). not (same_ident ident x)) others) ≡ other ∷ others)
    (λ e h. absurd (cc h))
    (λ e h. ap (λ (x : List Ident). other ∷ x) (none_left ident others h))
    h0

not_listed : (ident : Ident) (d : Option InDoubt) → doubts ident d ≡ false → less_ident ident d ≡ d
not_listed ident None h = refl
not_listed ident (Some d) h = ap (λ (x : List Ident). Some (record d { idents = x })) (none_left ident d.idents h)

pub none_off : (ident : Ident) (ss : List SenderSide) → AllByRecursion (λ (s : SenderSide). doubts ident s.hardened.in_doubt ≡ false) ss → off_lists ident ss ≡ ss
none_off ident [] h = refl
none_off ident (s ∷ ss) h = ap (λ (x : Option InDoubt). record s { hardened = record s.hardened { in_doubt = x } } ∷ off_lists ident ss) (not_listed ident s.hardened.in_doubt h.0)
    ∙ ap (λ (x : List SenderSide). s ∷ x) (none_off ident ss h.1)

-- an ident that is taken off all lists is in none
gone_from : (ident : Ident) (xs : List Ident) → list_any (same_ident ident) (filter (λ (x : Ident). not (same_ident ident x)) xs) ≡ false
gone_from ident [] = refl
gone_from ident (x ∷ xs) = bool_case (same_ident ident x)
    (λ b. same_ident ident x ≡ b → list_any (same_ident ident) (if not b then x ∷ filter (λ (y : Ident). not (same_ident ident y)) xs else filter (λ (y : Ident). not (same_ident ident y)) xs) ≡ false)
    (λ e h. gone_from ident xs)
    (λ e h. ap (λ (b : Bool). b || list_any (same_ident ident) (filter (λ (y : Ident). not (same_ident ident y)) xs)) h ∙ gone_from ident xs)
    refl

gone_doubt : (ident : Ident) (d : Option InDoubt) → doubts ident (less_ident ident d) ≡ false
gone_doubt ident None = refl
gone_doubt ident (Some d) = gone_from ident d.idents

pub off_all : (ident : Ident) (ss : List SenderSide) → AllByRecursion (λ (s : SenderSide). doubts ident s.hardened.in_doubt ≡ false) (off_lists ident ss)
off_all ident [] = tt
off_all ident (s ∷ ss) = (gone_doubt ident s.hardened.in_doubt, off_all ident ss)

none_free : (ident : Ident) (rows : List Row) → Lacks ident rows → list_any (is_free_at ident) rows ≡ false
none_free ident [] h = refl
none_free ident (row ∷ rows) h = ap (λ (b : Bool). is_free_at_by row b || list_any (is_free_at ident) rows) h.0 ∙ step row (list_any (is_free_at ident) rows) (none_free ident rows h.1)
  where
    is_free_at_by : Row → Bool → Bool
    is_free_at_by row b = is_free row && b

    step : (row : Row) (b : Bool) → b ≡ false → (is_free_at_by row false || b) ≡ false
    step row b e = bool_case (is_free row) (λ c. ((c && false) || b) ≡ false) (λ z. e) (λ z. e)

pub none_stands : (bs : List Batch) (ident : Ident) (qs : List Queue) → AllByRecursion (λ (q : Queue). Lacks ident q.rows) qs → stands_on ident (shelves_of bs qs) ≡ false
none_stands bs ident [] h = refl
none_stands bs ident (q ∷ qs) h = ap (λ (b : Bool). b || stands_on ident (shelves_of bs qs)) (none_free ident (lasting_rows bs q.rows) (lacks_last bs ident q.rows h.0)) ∙ none_stands bs ident qs h.1
