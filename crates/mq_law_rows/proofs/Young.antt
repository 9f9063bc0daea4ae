-- Order on a channel: rows of the ledger are placed and kept, owners change, fewer units are young.
use Rattle.std.proofs.Common.{ℕ, ◌≡◌, ◌≢◌, ◌<◌, ◌≤◌, ◌⊎◌, Bool, true, false, not, List, [], ◌∷◌, refl, ap, sym, subst, ◌∙◌, inl, inr, arith, map}
use Rattle.std.specs.Prelude.{Option, Some, None, if◌then◌else◌, nat_le, ◌&&◌, ◌||◌}
use Rattle.std.proofs.lemmas.Bool.Decides.{nat_tests}
use Rattle.mq_message.specs.declared.message.Ident.{Ident}
use Rattle.mq_queue.specs.declared.row.Row.{Row}
use Rattle.mq_queue.specs.Rows.{same_ident, insert_row, keep}
use Rattle.mq_sync.specs.declared.unit.Unit.{Unit as Luw}
use Rattle.mq_sync.specs.Units.{same_unit}
use Rattle.mq_spec_network.specs.Story.{Mem}
use Rattle.mq_spec_network.specs.Order.{Before}
use Rattle.mq_law_rows.specs.Families.{is_here, put_at}
use Rattle.mq_law_rows.specs.World.{World, Book, Ghost, Tag, Owner, InBatch, tag_idents, is_forced, is_last, is_young, LanesRise, InOrder, Inv}
use Rattle.mq_law_rows.specs.Kinds.{Landing, place_all, after, owned}
use Rattle.mq_law_rows.proofs.Lists.{true_false, bool_case, ident_yes, here_yes, mem_insert, mem_keep, mem_kept, map_mem, and_left, and_right, sorted_insert}

pub before_mem : {A : Type 0} (x y : A) (xs : List A) → Before x y xs → Mem x xs × Mem y xs
before_mem x y [] b = absurd b
before_mem x y (z ∷ zs) (inl e) = (inl e.0, inr e.1)
before_mem x y (z ∷ zs) (inr b) = let r = before_mem x y zs b in (inr r.0, inr r.1)

pub before_keep : (p : Row → Bool) (x y : Row) (xs : List Row) → Before x y (keep p xs) → Before x y xs
before_keep p x y [] b = absurd b
before_keep p x y (z ∷ zs) b =
    bool_case (p z) (λ t. Before x y (if t then z ∷ keep p zs else keep p zs) → Before x y (z ∷ zs))
    (λ e. elim [ inl k ↦ inl (k.0, (mem_keep p y zs k.1).0) | inr k ↦ inr (before_keep p x y zs k) ])
    (λ e k. inr (before_keep p x y zs k)) b

pub before_kept : (p : Row → Bool) (x y : Row) (xs : List Row) → Before x y xs → p x ≡ true → p y ≡ true → Before x y (keep p xs)
before_kept p x y [] b e f = absurd b
before_kept p x y (z ∷ zs) (inl k) e f = subst (λ t. Before x y (if t then z ∷ keep p zs else keep p zs)) (sym (ap p (sym k.0) ∙ e)) (inl (k.0, mem_kept p y zs k.1 f))
before_kept p x y (z ∷ zs) (inr k) e f = bool_case (p z) (λ t. Before x y (if t then z ∷ keep p zs else keep p zs)) (λ a. inr (before_kept p x y zs k e f)) (λ a. before_kept p x y zs k e f)

pub before_map : {A B : Type 0} (f : A → B) (x y : A) (xs : List A) → Before x y xs → Before (f x) (f y) (map f xs)
before_map f x y [] b = absurd b
before_map f x y (z ∷ zs) (inl k) = inl (ap f k.0, there f y zs k.1)
  where
    there : {A B : Type 0} (f : A → B) (y : A) (zs : List A) → Mem y zs → Mem (f y) (map f zs)
    there f y [] n = absurd n
    there f y (z ∷ zs) (inl e) = inl (ap f e)
    there f y (z ∷ zs) (inr n) = inr (there f y zs n)
before_map f x y (z ∷ zs) (inr k) = inr (before_map f x y zs k)

pub map_before : {A B : Type 0} (f : A → B) (a b : B) (xs : List A) → Before a b (map f xs) → (x y : A) × Before x y xs × (a ≡ f x) × (b ≡ f y)
map_before f a b [] n = absurd n
map_before f a b (z ∷ zs) (inl k) = let r = there f b zs k.1 in (z, r.0, inl (refl, r.1), k.0, r.2)
  where
    there : {A B : Type 0} (f : A → B) (b : B) (zs : List A) → Mem b (map f zs) → (y : A) × Mem y zs × (b ≡ f y)
    there f b [] n = absurd n
    there f b (z ∷ zs) (inl e) = (z, inl refl, e)
    there f b (z ∷ zs) (inr n) = let r = there f b zs n in (r.0, inr r.1, r.2)
map_before f a b (z ∷ zs) (inr k) = let r = map_before f a b zs k in (r.0, r.1, inr r.2, r.3, r.4)

le_yes : (a b : ℕ) → nat_le a b ≡ true → a ≤ b
le_yes a b e = grind (arith, nat_tests)

le_no : (a b : ℕ) → nat_le a b ≡ false → b < a
le_no a b e = grind (arith, nat_tests)

-- a row that is placed stands behind its lane
pub before_insert : (n x y : Row) (xs : List Row) → LanesRise xs → Before x y (insert_row n xs) → Before x y xs ⊎ (((x ≡ n) × (n.place.lane < y.place.lane)) ⊎ (y ≡ n))
before_insert n x y [] s (inl e) = absurd e.1
before_insert n x y [] s (inr e) = absurd e
before_insert n x y (z ∷ zs) s b =
    bool_case (nat_le z.place.lane n.place.lane) (λ t. nat_le z.place.lane n.place.lane ≡ t → Before x y (if t then z ∷ insert_row n zs else n ∷ z ∷ zs) → Before x y (z ∷ zs) ⊎ (((x ≡ n) × (n.place.lane < y.place.lane)) ⊎ (y ≡ n)))
    (λ e f. elim [
      | inl k ↦ elim (mem_insert y n zs k.1) [ inl q ↦ inr (inr q) | inr q ↦ inl (inl (k.0, q)) ]
      | inr k ↦ elim (before_insert n x y zs s.1 k) [ inl q ↦ inl (inr q) | inr q ↦ inr q ]
    ])
    (λ e f. elim [ inl k ↦ inr (inl (k.0, above n z y zs s f k.1)) | inr k ↦ inl k ]) refl b
  where
    above : (n z y : Row) (zs : List Row) → LanesRise (z ∷ zs) → nat_le z.place.lane n.place.lane ≡ false → Mem y (z ∷ zs) → n.place.lane < y.place.lane
    above n z y zs s f (inl q) = subst (λ (r : Row). n.place.lane < r.place.lane) (sym q) (le_no z.place.lane n.place.lane f)
    above n z y zs s f (inr k) = let a = le_no z.place.lane n.place.lane f in let b = s.0 y k in omega arith

-- rows go
pub order_keep : (g : Ghost) (rows : ℕ → List ℕ → List Row) (young : ℕ → List ℕ → Luw → Bool) (p : ℕ → List ℕ → Row → Bool) → InOrder g rows young → InOrder g (λ m q. keep (p m q) (rows m q)) young
order_keep g rows young p o = record { first = λ m e q c u x y z b n l no_. o.first m e q c u x y z (before_keep (p e q) x y (rows e q) b) n l no_ }

-- a row that is in hand is placed
pub order_place : (g : Ghost) (rows : ℕ → List ℕ → List Row) (young : ℕ → List ℕ → Luw → Bool) (m : ℕ) (q : List ℕ) (row : Row) → InOrder g rows young → LanesRise (rows m q)
    → ((a : ℕ) (c : List ℕ) (u : Luw) → young a c u ≡ true → Mem row.message.ident (tag_idents (g.sent a c u)) → ⊥)
    → InOrder g (put_at rows m q (insert_row row (rows m q))) young
order_place g rows young m q row o s new = record {
  first = λ e a d c u x y z b n l no_.
      let split : Before x y (rows a d) ⊎ (((x ≡ row) × (row.place.lane < y.place.lane)) ⊎ (y ≡ row)) =
      bool_case (is_here m q a d) (λ t. is_here m q a d ≡ t → Before x y (if t then insert_row row (rows m q) else rows a d) → Before x y (rows a d) ⊎ (((x ≡ row) × (row.place.lane < y.place.lane)) ⊎ (y ≡ row)))
      (λ e f b. let p = here_yes m q a d f in elim (before_insert row x y (rows m q) s b) [ inl k ↦ inl (subst (λ (r : List Row). Before x y r) (λ i. rows (sym p.0 i) (sym p.1 i)) k) | inr k ↦ inr k ])
      (λ e f b. inl b) refl b in
      elim split [
        | inl k ↦ o.first e a d c u x y z k n l no_
        | inr k ↦ elim k [
          | inl v ↦ absurd (same_less row.place.lane y.place.lane (ap (λ (r : Row). r.place.lane) (sym v.0) ∙ l) v.1)
          | inr v ↦ absurd (new e c u z (subst (λ (r : Row). Mem r.message.ident (tag_idents (g.sent e c u))) v n))
        ]
      ];
}
  where
    same_less : (a b : ℕ) → a ≡ b → a < b → ⊥
    same_less a b e lt = omega arith

-- fewer units are young
pub order_less : (g : Ghost) (rows : ℕ → List ℕ → List Row) (young older : ℕ → List ℕ → Luw → Bool) → InOrder g rows young → ((m : ℕ) (c : List ℕ) (u : Luw) → older m c u ≡ true → young m c u ≡ true) → InOrder g rows older
order_less g rows young older o less = record { first = λ m e q c u x y z. o.first m e q c u x y (less m c u z) }

-- a receiver's commit places its rows
pub order_all : (g : Ghost) (young : ℕ → List ℕ → Luw → Bool) (t : ℕ) (ls : List Landing) (rows : ℕ → List ℕ → List Row) → InOrder g rows young → ((m : ℕ) (q : List ℕ) → LanesRise (rows m q))
    → ((l : Landing) → Mem l ls → (a : ℕ) (c : List ℕ) (u : Luw) → young a c u ≡ true → Mem l.row.message.ident (tag_idents (g.sent a c u)) → ⊥)
    → InOrder g (λ a d. place_all t ls a d (rows a d)) young
order_all g young t [] rows o s new = o
order_all g young t (l ∷ ls) rows o s new =
    order_all g young t ls (λ a d. if is_here t l.queue a d then insert_row l.row (rows a d) else rows a d)
    (record { first = λ k a d c u x y z b n e no_. (order_place g rows young t l.queue l.row o (s t l.queue) (new l (inl refl))).first k a d c u x y z (place_is rows t l.queue l.row a d x y b) n e no_ })
    (λ a d. bool_case (is_here t l.queue a d) (λ z. LanesRise (if z then insert_row l.row (rows a d) else rows a d)) (λ e. sorted_insert l.row (rows a d) (s a d)) (λ e. s a d))
    (λ k n. new k (inr n))
  where
    place_is : (rows : ℕ → List ℕ → List Row) (t : ℕ) (q : List ℕ) (r : Row) (a : ℕ) (d : List ℕ) (x y : Row) → Before x y (if is_here t q a d then insert_row r (rows a d) else rows a d) → Before x y (put_at rows t q (insert_row r (rows t q)) a d)
    place_is rows t q r a d x y = bool_case (is_here t q a d) (λ z. is_here t q a d ≡ z → Before x y (if z then insert_row r (rows a d) else rows a d) → Before x y (if z then insert_row r (rows t q) else rows a d))
        (λ e f b. let p = here_yes t q a d f in subst (λ (l : List Row). Before x y (insert_row r l)) (λ i. rows (p.0 i) (p.1 i)) b) (λ e f b. b) refl

-- Owners change, and no row that an operator has settled gets another one.
pub order_ghost : (g v : Ghost) (rows : ℕ → List ℕ → List Row) (young : ℕ → List ℕ → Luw → Bool) → InOrder g rows young
    → ((m : ℕ) (c : List ℕ) (u : Luw) → young m c u ≡ true → v.sent m c u ≡ g.sent m c u)
    → ((m : ℕ) (q : List ℕ) (x : Row) → Mem x (rows m q) → is_forced (g.owner x.message.ident) ≡ true → v.owner x.message.ident ≡ g.owner x.message.ident)
    → InOrder v rows young
order_ghost g v rows young o sent same = record {
  first = λ m a q c u x y z b n l no_.
      let s : v.sent m c u ≡ g.sent m c u = sent m c u z in
      let r = o.first m a q c u x y z b (subst (λ (t : List Tag). Mem y.message.ident (tag_idents t)) s n) l
      (λ e. let k = same a q x (before_mem x y (rows a q) b).0 e.0 in no_ (ap is_forced k ∙ e.0, (λ f. e.1 (sym k ∙ f)))) in
      (subst (λ (t : List Tag). Mem x.message.ident (tag_idents t)) (sym s) r.0, subst (λ (t : List Tag). Before x.message.ident y.message.ident (tag_idents t)) (sym s) r.1);
}

-- the owner of one ident changes, and no operator gave it the old one
pub order_owned : (g : Ghost) (rows : ℕ → List ℕ → List Row) (young : ℕ → List ℕ → Luw → Bool) (i : Ident) (new old : Owner) → g.owner i ≡ old → is_forced old ≡ false → InOrder g rows young → InOrder (after g (owned i new)) rows young
order_owned g rows young i new old own free_ o =
    order_ghost g (after g (owned i new)) rows young o (λ m c u z. refl)
    (λ m q x n f. bool_case (same_ident x.message.ident i) (λ t. same_ident x.message.ident i ≡ t → (if t then new else g.owner x.message.ident) ≡ g.owner x.message.ident)
    (λ e k. absurd (true_false (sym f ∙ ap is_forced (ap g.owner (ident_yes x.message.ident i k) ∙ own) ∙ free_))) (λ e k. refl) refl)

-- Which units are young

or_yes : (a b : Bool) → (a || b) ≡ true → (a ≡ true) ⊎ (b ≡ true)
or_yes true b e = inl refl
or_yes false b e = inr e

or_right : (a b : Bool) → b ≡ true → (a || b) ≡ true
or_right true b e = refl
or_right false b e = e

not_so : (t : Bool) → not t ≡ true → t ≡ false
not_so true e = absurd cc
not_so false e = refl

unit_same : (u v : Luw) → same_unit u v ≡ true → u ≡ v
unit_same u v e = grind (arith, nat_tests)

pub unit_self : (u : Luw) → same_unit u u ≡ true
unit_self u = grind (arith, nat_tests)

unit_other : (u v : Luw) → v ≢ u → same_unit u v ≡ false
unit_other u v no_ = bool_case (same_unit u v) (λ t. same_unit u v ≡ t → t ≡ false) (λ e f. absurd (no_ (sym (unit_same u v f)))) (λ e f. refl) refl

held_so : (o : Option Luw) (u : Luw) → is_last o u ≡ true → o ≡ Some u
held_so None u e = absurd cc
held_so (Some v) u e = ap (λ z. Some z) (unit_same v u e)

pub young_means : (w : World) (g : Ghost) (m : ℕ) (c : List ℕ) (u : Luw) → is_young w g m c u ≡ true
    → (g.loose m c u ≡ false) × (((w.holds m c ≡ Some u) × (w.last m c ≢ u)) ⊎ (g.operated m c u ≡ true))
young_means w g m c u z =
    let held : Bool = is_last (w.holds m c) u && not (same_unit u (w.last m c)) in
    let open_ : Bool = held || g.operated m c u in (
      not_so (g.loose m c u) (and_left (not (g.loose m c u)) open_ z),
      elim (or_yes held (g.operated m c u) (and_right (not (g.loose m c u)) open_ z)) [
        | inl k ↦ inl (
          held_so (w.holds m c) u (and_left (is_last (w.holds m c) u) (not (same_unit u (w.last m c))) k),
          (λ e. true_false (sym (ap (λ l. same_unit u l) e ∙ unit_self u) ∙ not_so (same_unit u (w.last m c)) (and_right (is_last (w.holds m c) u) (not (same_unit u (w.last m c))) k))),
        )
        | inr k ↦ inr k
      ],
    )

pub young_so : (w : World) (g : Ghost) (m : ℕ) (c : List ℕ) (u : Luw) → g.loose m c u ≡ false → ((w.holds m c ≡ Some u) × (w.last m c ≢ u)) ⊎ (g.operated m c u ≡ true) → is_young w g m c u ≡ true
young_so w g m c u tight (inl k) = rw (tight, k.0, unit_self u, unit_other u (w.last m c) k.1) refl
young_so w g m c u tight (inr k) = rw tight (or_right (is_last (w.holds m c) u && not (same_unit u (w.last m c))) (g.operated m c u) k)

-- what belongs to no batch, and was settled by no operator, is of no young unit
pub not_young : (w : World) (g : Ghost) (b : Book) (i : Ident) (o : Owner) → Inv w g b → g.owner i ≡ o → ((m : ℕ) (c : List ℕ) → InBatch m c ≡ o → ⊥) → is_forced o ≡ false
    → (a : ℕ) (c : List ℕ) (u : Luw) → is_young w g a c u ≡ true → Mem i (tag_idents (g.sent a c u)) → ⊥
not_young w g b i o h own batch free_ a c u z n =
    let k = map_mem (λ (t : Tag). t.ident) i (g.sent a c u) n in
    elim (young_means w g a c u z).1 [
      | inl p ↦ batch a c (sym (h.live a c u k.0 p.0 p.1 k.1) ∙ ap g.owner (sym k.2) ∙ own)
      | inr p ↦ true_false (sym (ap is_forced (sym own ∙ ap g.owner k.2 ∙ h.operated a c u k.0 p k.1)) ∙ free_)
    ]
