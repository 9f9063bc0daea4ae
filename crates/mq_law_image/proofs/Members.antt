-- Members of shelves and of data kept by name, and lists told by their members.
use Rattle.std.proofs.Common.{ℕ, ◌≡◌, ◌⊎◌, ◌≤◌, Bool, true, false, List, [], ◌∷◌, refl, ap, sym, subst, ◌∙◌, arith, map, inl, inr}
use Rattle.std.specs.Prelude.{Some, None, if◌then◌else◌, ◌||◌, ◌&&◌, All, AllPairs, nat_le}
use Rattle.std.specs.Str.{bytes_eq}
use Rattle.std.specs.List.{list_any, list_all}
use Rattle.std.proofs.lemmas.List.Elements.{All-cons, All-nil}
use Rattle.std.proofs.lemmas.List.Kept.{AllPairs-cons}
use Rattle.std.proofs.lemmas.Bool.Decides.{nat_tests}
use Rattle.mq_queue.specs.declared.row.Row.{Row}
use Rattle.mq_queue.specs.Rows.{insert_row, keep, retag}
use Rattle.mq_sync.specs.Settlement.{sender_or, receiver_or}
use Rattle.mq_calls.specs.declared.state.SenderSide.{SenderSide}
use Rattle.mq_calls.specs.declared.state.ReceiverSide.{ReceiverSide}
use Rattle.mq_calls.specs.Reads.{sender_in, receiver_in}
use Rattle.mq_calls.specs.Changes.{set_named, comes_before}
use Rattle.mq_calls.specs.declared.image.Shelf.{Shelf}
use Rattle.mq_law_log.specs.from_spec_log.Shelves.{shelf_in, set_shelf, on_all}
use Rattle.mq_law_log.specs.from_law_manager.Facts.{Mem, Chain, AreLaned}
use Rattle.mq_law_log.proofs.from_law_manager.Lists.{bool_case, mem_insert, mem_keep, mem_retag}
use Rattle.mq_law_log.proofs.from_law_manager.Named.{name_is}

-- Lists by members

pub every : {A : Type 0} (P : A → Type 0) (xs : List A) → ((x : A) → Mem x xs → P x) → All P xs
every P [] h = All-nil P
every P (x ∷ xs) h = All-cons P x xs (h x (inl refl)) (every P xs (λ y m. h y (inr m)))

pub all_pairs : {A : Type 0} (R : A → A → Type 0) (xs : List A) → Chain R xs → AllPairs R xs
all_pairs R [] h = λ i j d lt within. absurd (omega (arith, lt, within))
all_pairs R (x ∷ xs) h = AllPairs-cons R x xs (every (R x) xs h.0) (all_pairs R xs h.1)

pub chain_implied : {A : Type 0} (R S : A → A → Type 0) (xs : List A) → ((x y : A) → Mem x xs → Mem y xs → R x y → S x y) → Chain R xs → Chain S xs
chain_implied R S [] h c = tt
chain_implied R S (x ∷ xs) h c = (λ y m. h x y (inl refl) (inr m) (c.0 y m), chain_implied R S xs (λ a b m n. h a b (inr m) (inr n)) c.1)

-- Rows by lane

pub laned_insert : (new : Row) (rows : List Row) → AreLaned rows → AreLaned (insert_row new rows)
laned_insert new [] h = (λ y m. absurd m, tt)
laned_insert new (row ∷ rows) h = bool_case (nat_le row.place.lane new.place.lane) (λ b. nat_le row.place.lane new.place.lane ≡ b → AreLaned (if b then row ∷ insert_row new rows else new ∷ row ∷ rows))
    (λ e z. (λ y m. elim (mem_insert y new rows m) [ inl w ↦ subst (λ (x : Row). row.place.lane ≤ x.place.lane) (sym w) (below row.place.lane new.place.lane z) | inr w ↦ h.0 y w ], laned_insert new rows h.1))
    (λ e z. (λ y m. elim m [ inl w ↦ subst (λ (x : Row). new.place.lane ≤ x.place.lane) (sym w) (above row.place.lane new.place.lane z) | inr w ↦ on new.place.lane row.place.lane y.place.lane (above row.place.lane new.place.lane z) (h.0 y w) ], h)) refl
  where
    below : (a b : ℕ) → nat_le a b ≡ true → a ≤ b
    below a b e = grind (arith, nat_tests)

    above : (a b : ℕ) → nat_le a b ≡ false → b ≤ a
    above a b e = grind (arith, nat_tests)

    on : (a b c : ℕ) → a ≤ b → b ≤ c → a ≤ c
    on a b c x y = omega (arith, x, y)

pub laned_keep : (test : Row → Bool) (rows : List Row) → AreLaned rows → AreLaned (keep test rows)
laned_keep test [] h = tt
laned_keep test (row ∷ rows) h = bool_case (test row) (λ b. AreLaned (if b then row ∷ keep test rows else keep test rows)) (λ e. (λ y m. h.0 y (mem_keep test y rows m).0, laned_keep test rows h.1)) (λ e. laned_keep test rows h.1)

pub laned_retag : (g : Row → Row) → ((r : Row) → (g r).place ≡ r.place) → (rows : List Row) → AreLaned rows → AreLaned (retag g rows)
laned_retag g same [] h = tt
laned_retag g same (row ∷ rows) h = (
  λ y m.
      let k = mem_retag g y rows m in
      to (g row).place.lane row.place.lane y.place.lane k.0.place.lane (ap (λ p. p.lane) (same row)) (ap (λ (r : Row). r.place.lane) k.2 ∙ ap (λ p. p.lane) (same k.0)) (h.0 k.0 k.1),
  laned_retag g same rows h.1,
)
  where
    to : (a b c d : ℕ) → a ≡ b → c ≡ d → b ≤ d → a ≤ c
    to a b c d x y le = omega (arith, x, y, le)

-- Shelves

pub on_all_mem : (f : Shelf → Shelf) (t : Shelf) (ss : List Shelf) → Mem t (on_all f ss) → (s : Shelf) × Mem s ss × (t ≡ f s)
on_all_mem f t [] m = absurd m
on_all_mem f t (s ∷ ss) (inl e) = (s, inl refl, e)
on_all_mem f t (s ∷ ss) (inr m) = let k = on_all_mem f t ss m in (k.0, inr k.1, k.2)

pub on_all_names : (f : Shelf → Shelf) → ((s : Shelf) → (f s).name ≡ s.name) → (ss : List Shelf) → map (λ (s : Shelf). s.name) (on_all f ss) ≡ map (λ (s : Shelf). s.name) ss
on_all_names f same [] = refl
on_all_names f same (s ∷ ss) = ap (λ (n : List ℕ). n ∷ map (λ (x : Shelf). x.name) (on_all f ss)) (same s) ∙ ap (λ (ns : List (List ℕ)). s.name ∷ ns) (on_all_names f same ss)

pub set_shelf_mem : (new t : Shelf) (ss : List Shelf) → Mem t (set_shelf new ss) → (t ≡ new) ⊎ Mem t ss
set_shelf_mem new t [] (inl e) = inl e
set_shelf_mem new t [] (inr m) = absurd m
set_shelf_mem new t (s ∷ ss) m = bool_case (bytes_eq new.name s.name) (λ b. Mem t (if b then new ∷ ss else s ∷ set_shelf new ss) → (t ≡ new) ⊎ Mem t (s ∷ ss))
    (λ e k. elim k [ inl z ↦ inl z | inr z ↦ inr (inr z) ])
    (λ e k. elim k [ inl z ↦ inr (inl z) | inr z ↦ elim (set_shelf_mem new t ss z) [ inl w ↦ inl w | inr w ↦ inr (inr w) ] ]) m

-- the shelf of a name that stands in the list
pub shelf_there : (name : List ℕ) (ss : List Shelf) → list_any (bytes_eq name) (map (λ (s : Shelf). s.name) ss) ≡ true → Mem (shelf_in name ss) ss × ((shelf_in name ss).name ≡ name)
shelf_there name [] e = absurd cc
shelf_there name (s ∷ ss) e = bool_case (bytes_eq name s.name)
    (λ b. bytes_eq name s.name ≡ b → (b || list_any (bytes_eq name) (map (λ (x : Shelf). x.name) ss)) ≡ true → Mem (if b then s else shelf_in name ss) (s ∷ ss) × ((if b then s else shelf_in name ss).name ≡ name))
    (λ z w f. (inl refl, sym (name_is name s.name w))) (λ z w f. let k = shelf_there name ss f in (inr k.0, k.1)) refl e

-- Data by name

pub set_mem : {A : Type 0} (name : A → List ℕ) (new x : A) (xs : List A) → Mem x (set_named name new xs) → (x ≡ new) ⊎ Mem x xs
set_mem name new x [] (inl e) = inl e
set_mem name new x [] (inr m) = absurd m
set_mem {A} name new x (y ∷ ys) m = bool_case (bytes_eq (name new) (name y))
    (λ b. Mem x (if b then new ∷ ys else (if comes_before (name new) (name y) then new ∷ y ∷ ys else y ∷ set_named name new ys)) → (x ≡ new) ⊎ Mem x (y ∷ ys))
    (λ z n. elim n [ inl e ↦ inl e | inr k ↦ inr (inr k) ])
    (λ z n. bool_case (comes_before (name new) (name y)) (λ b. Mem x (if b then new ∷ y ∷ ys else y ∷ set_named name new ys) → (x ≡ new) ⊎ Mem x (y ∷ ys))
    (λ w k. elim k [ inl e ↦ inl e | inr j ↦ inr j ])
    (λ w k. elim k [ inl e ↦ inr (inl e) | inr j ↦ elim (set_mem name new x ys j) [ inl u ↦ inl u | inr u ↦ inr (inr u) ] ]) n) m

pub sender_side : (P : SenderSide → Type 0) (channel : List ℕ) (sides : List SenderSide) → P (record { channel = channel; hardened = sender_or None }) → ((s : SenderSide) → Mem s sides → P s) → P (record { channel = channel; hardened = sender_or (sender_in channel sides) })
sender_side P channel [] none h = none
sender_side P channel (s ∷ ss) none h = bool_case (bytes_eq channel s.channel) (λ b. bytes_eq channel s.channel ≡ b → P (record { channel = channel; hardened = sender_or (if b then Some s.hardened else sender_in channel ss) }))
    (λ e z. subst (λ (n : List ℕ). P (record { channel = n; hardened = s.hardened })) (sym (name_is channel s.channel z)) (h s (inl refl)))
    (λ e z. sender_side P channel ss none (λ x m. h x (inr m))) refl

pub receiver_side : (P : ReceiverSide → Type 0) (channel : List ℕ) (sides : List ReceiverSide) → P (record { channel = channel; hardened = receiver_or None }) → ((s : ReceiverSide) → Mem s sides → P s) → P (record { channel = channel; hardened = receiver_or (receiver_in channel sides) })
receiver_side P channel [] none h = none
receiver_side P channel (s ∷ ss) none h = bool_case (bytes_eq channel s.channel) (λ b. bytes_eq channel s.channel ≡ b → P (record { channel = channel; hardened = receiver_or (if b then Some s.hardened else receiver_in channel ss) }))
    (λ e z. subst (λ (n : List ℕ). P (record { channel = n; hardened = s.hardened })) (sym (name_is channel s.channel z)) (h s (inl refl)))
    (λ e z. receiver_side P channel ss none (λ x m. h x (inr m))) refl

-- Tests

pub both : (a b : Bool) → (a && b) ≡ true → (a ≡ true) × (b ≡ true)
both true true e = (refl, refl)
both true false e = absurd cc
both false b e = absurd cc

pub none_any : {A : Type 0} (test : A → Bool) (xs : List A) → list_any test xs ≡ false → (x : A) → Mem x xs → test x ≡ false
none_any test [] e x m = absurd m
none_any {A} test (y ∷ ys) e x m = bool_case (test y) (λ b. test y ≡ b → (b || list_any test ys) ≡ false → test x ≡ false)
    (λ z w f. absurd cc) (λ z w f. elim m [ inl k ↦ ap test k ∙ w | inr k ↦ none_any test ys f x k ]) refl e

pub all_all : {A : Type 0} (test : A → Bool) (xs : List A) → list_all test xs ≡ true → (x : A) → Mem x xs → test x ≡ true
all_all test [] e x m = absurd m
all_all {A} test (y ∷ ys) e x m = let b = both (test y) (list_all test ys) e in elim m [ inl k ↦ ap test k ∙ b.0 | inr k ↦ all_all test ys b.1 x k ]
