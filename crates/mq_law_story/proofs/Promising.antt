-- What is promised of a prefix, from the facts: the rows that stand are the ledger's; each ident stands once in the network,
-- and is in one committed get.
use Rattle.std.proofs.Common.{ℕ, zero, suc, ◌≡◌, ◌+◌, Bool, true, false, List, [], ◌∷◌, refl, ap, sym, subst, ◌∙◌, inl, inr, arith, map}
use Rattle.std.specs.Prelude.{Some, if◌then◌else◌, slice_get, flat_map}
use Rattle.std.specs.Str.{bytes_eq}
use Rattle.mq_message.specs.declared.message.Ident.{Ident}
use Rattle.mq_history.specs.declared.history.History.{History}
use Rattle.mq_history.specs.declared.scenario.Scenario.{Scenario}
use Rattle.mq_calls.specs.State.{Plain, Queue}
use Rattle.mq_calls.specs.Reads.{queue_in}
use Rattle.mq_spec_network.specs.Story.{Line, Mem, Chain}
use Rattle.mq_spec_network.specs.Promised.{AreDistinct, standing_on, all_standing}
use Rattle.mq_spec_network.specs.Conflict.{NoConflict}
use Rattle.mq_spec_network.specs.Ledger.{ledger, ledger_rows}
use Rattle.mq_spec_network.specs.Standing.{rows_told, standing_in, standing_of, managers_at, opening_ledger}
use Rattle.mq_spec_network.specs.Standing as standings
use Rattle.mq_law_seen.specs.from_law_rows.World.{Book, Ghost, ident_of, idents_in, standing, Inv}
use Rattle.mq_law_seen.specs.Opening.{AreNamed}
use Rattle.mq_law_story.specs.Told.{IsTold}
use Rattle.mq_law_seen.specs.Seen.{world_of, book_of}
use Rattle.mq_law_seen.proofs.from_law_rows.Lists.{true_false, is_false, name_yes, name_self, mem_append, map_mem, distinct_append}
use Rattle.mq_law_seen.proofs.from_law_rows.Closing.{rows_stand, one_queue, once_there}
use Rattle.mq_law_seen.proofs.Bridges.{standing_is}
use Rattle.mq_law_story.proofs.Agreeing.{none_open}

pub rows_promised : (s : Scenario) (hs : List History) (p : List Line) (known : Ident → Bool) (g : Ghost) → Inv (world_of s known (managers_at s p hs)) g (book_of (ledger (opening_ledger s hs) p)) → NoConflict s hs p → IsTold s hs p g
    → (m : ℕ) (name : List ℕ) → rows_told (standings.standing s (managers_at s p hs) m name) ≡ rows_told (ledger_rows m name (ledger (opening_ledger s hs) p))
rows_promised s hs p known g h no_ told m name =
    ap rows_told (standing_is s known (managers_at s p hs) m name) ∙ sym (rows_stand (world_of s known (managers_at s p hs)) g (book_of (ledger (opening_ledger s hs) p)) h (none_open s hs p g no_ told) m name)

queue_there : (qs : List Queue) (q : Queue) → AreNamed qs → Mem q qs → queue_in q.name qs ≡ q
queue_there [] q o n = absurd n
queue_there (x ∷ qs) q o (inl e) = ap (λ t. if t then x else queue_in q.name qs) (ap (λ (z : Queue). bytes_eq q.name z.name) (sym e) ∙ name_self q.name) ∙ sym e
queue_there (x ∷ qs) q o (inr n) =
    ap (λ t. if t then x else queue_in q.name qs) (is_false (bytes_eq q.name x.name) (λ t. true_false (sym (name_back q.name x.name t) ∙ o.0 q n))) ∙ queue_there qs q o.1 n
  where
    name_back : (a b : List ℕ) → bytes_eq a b ≡ true → bytes_eq b a ≡ true
    name_back a b e = ap (λ z. bytes_eq b z) (name_yes a b e) ∙ name_self b

flat_mem : {A B : Type 0} (f : A → List B) (y : B) (xs : List A) → Mem y (flat_map f xs) → (x : A) × Mem x xs × Mem y (f x)
flat_mem f y [] n = absurd n
flat_mem f y (x ∷ xs) n = elim (mem_append y (f x) (flat_map f xs) n) [ inl z ↦ (x, inl refl, z) | inr z ↦ let r = flat_mem f y xs z in (r.0, inr r.1, r.2) ]

distinct_flat : {A : Type 0} (R : A → A → Type 0) (f : A → List Ident) (xs : List A) → Chain R xs → ((x : A) → Mem x xs → AreDistinct (f x)) → ((x y : A) (i : Ident) → Mem x xs → Mem y xs → R x y → Mem i (f x) → Mem i (f y) → ⊥)
    → AreDistinct (flat_map f xs)
distinct_flat R f [] c each apart = tt
distinct_flat R f (x ∷ xs) c each apart =
    distinct_append (f x) (flat_map f xs) (each x (inl refl)) (distinct_flat R f xs c.1 (λ y n. each y (inr n)) (λ y z i n k. apart y z i (inr n) (inr k)))
    (λ i n k. let r = flat_mem f i xs k in apart x r.0 i (inl refl) (inr r.1) (c.0 r.0 r.1) n r.2)

mem_at : {A : Type 0} (x : A) (xs : List A) → Mem x xs → (i : ℕ) × (slice_get xs i ≡ Some x)
mem_at x [] n = absurd n
mem_at x (y ∷ xs) (inl e) = (zero, ap (λ z. Some z) (sym e))
mem_at x (y ∷ xs) (inr n) = let r = mem_at x xs n in (suc r.0, r.1)

-- the standing rows of one queue, as the laws see them
on_queue : (s : Scenario) (known : Ident → Bool) (ps : List Plain) (m : ℕ) (p : Plain) (q : Queue) → slice_get ps m ≡ Some p → AreNamed p.queues → Mem q p.queues → standing_on s ps p q ≡ idents_in (standing (world_of s known ps) m q.name)
on_queue s known ps m p q is named n =
    ap (λ (x : Queue). map ident_of (standing_in s ps p x.rows)) (sym (queue_there p.queues q named n))
    ∙ ap (λ o. map ident_of (standing_of s ps q.name o)) (sym is)
    ∙ ap (map ident_of) (standing_is s known ps m q.name)

one_manager : (s : Scenario) (known : Ident → Bool) (ps : List Plain) (g : Ghost) (b : Book) (m : ℕ) (p : Plain) → Inv (world_of s known ps) g b → slice_get ps m ≡ Some p → AreNamed p.queues → AreDistinct (flat_map (standing_on s ps p) p.queues)
one_manager s known ps g b m p h is named =
    distinct_flat (λ (x y : Queue). bytes_eq x.name y.name ≡ false) (standing_on s ps p) p.queues named
    (λ q n. subst AreDistinct (sym (on_queue s known ps m p q is named n)) (once_there (world_of s known ps) g b h m q.name))
    (λ x y i n k r a c.
    let xi = map_mem ident_of i (standing (world_of s known ps) m x.name) (subst (Mem i) (on_queue s known ps m p x is named n) a) in
    let yi = map_mem ident_of i (standing (world_of s known ps) m y.name) (subst (Mem i) (on_queue s known ps m p y is named k) c) in
    let z = one_queue (world_of s known ps) g b h m m x.name y.name xi.0 yi.0 xi.1 yi.1 (sym xi.2 ∙ yi.2) in
    true_false (sym (ap (λ z. bytes_eq x.name z) (sym z.1) ∙ name_self x.name) ∙ r))

from_manager : (s : Scenario) (known : Ident → Bool) (ps : List Plain) (g : Ghost) (b : Book) (k : ℕ) (rest : List Plain) → Inv (world_of s known ps) g b → ((i : ℕ) (p : Plain) → slice_get rest i ≡ Some p → slice_get ps (k + i) ≡ Some p)
    → ((m : ℕ) (p : Plain) → slice_get ps m ≡ Some p → AreNamed p.queues) → AreDistinct (flat_map (λ (p : Plain). flat_map (standing_on s ps p) p.queues) rest)
from_manager s known ps g b k [] h at named = tt
from_manager s known ps g b k (p ∷ rest) h at named =
    let here : slice_get ps k ≡ Some p = ap (slice_get ps) (plus_zero k) ∙ at zero p refl in
    distinct_append (flat_map (standing_on s ps p) p.queues) (flat_map (λ (p : Plain). flat_map (standing_on s ps p) p.queues) rest)
    (one_manager s known ps g b k p h here (named k p here))
    (from_manager s known ps g b (suc k) rest h (λ i q e. ap (slice_get ps) (plus_suc k i) ∙ at (suc i) q e) named)
    (λ i n z.
    let x = flat_mem (standing_on s ps p) i p.queues n in
    let later = flat_mem (λ (p : Plain). flat_map (standing_on s ps p) p.queues) i rest z in
    let y = flat_mem (standing_on s ps later.0) i later.0.queues later.2 in
    let j = mem_at later.0 rest later.1 in
    let there : slice_get ps (k + suc j.0) ≡ Some later.0 = at (suc j.0) later.0 j.1 in
    let xi = map_mem ident_of i (standing (world_of s known ps) k x.0.name) (subst (Mem i) (on_queue s known ps k p x.0 here (named k p here) x.1) x.2) in
    let yi = map_mem ident_of i (standing (world_of s known ps) (k + suc j.0) y.0.name) (subst (Mem i) (on_queue s known ps (k + suc j.0) later.0 y.0 there (named (k + suc j.0) later.0 there) y.1) y.2) in
    not_later k j.0 (one_queue (world_of s known ps) g b h k (k + suc j.0) x.0.name y.0.name xi.0 yi.0 xi.1 yi.1 (sym xi.2 ∙ yi.2)).0)
  where
    plus_zero : (k : ℕ) → k ≡ k + 0
    plus_zero k = omega arith

    plus_suc : (k i : ℕ) → suc k + i ≡ k + suc i
    plus_suc k i = omega arith

    not_later : (k j : ℕ) → k ≡ k + suc j → ⊥
    not_later k j e = omega arith

-- each ident stands at most once in the network
pub once_promised : (s : Scenario) (known : Ident → Bool) (ps : List Plain) (g : Ghost) (b : Book) → Inv (world_of s known ps) g b → ((m : ℕ) (p : Plain) → slice_get ps m ≡ Some p → AreNamed p.queues) → AreDistinct (all_standing s ps)
once_promised s known ps g b h named = from_manager s known ps g b 0 ps h (λ i p e. ap (slice_get ps) (zero_plus i) ∙ e) named
  where
    zero_plus : (i : ℕ) → 0 + i ≡ i
    zero_plus i = omega arith

pub got_promised : (s : Scenario) (hs : List History) (p : List Line) (known : Ident → Bool) (g : Ghost) → Inv (world_of s known (managers_at s p hs)) g (book_of (ledger (opening_ledger s hs) p)) → AreDistinct (ledger (opening_ledger s hs) p).got
got_promised s hs p known g h = h.got_once
