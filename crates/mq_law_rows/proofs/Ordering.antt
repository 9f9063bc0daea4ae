-- Order on a channel: batches are taken from the front, and receivers commit them.
use Rattle.std.proofs.Common.{ℕ, ◌≡◌, ◌≤◌, Bool, true, false, not, List, [], ◌∷◌, ◌++◌, refl, ap, sym, subst, ◌∙◌, inl, inr, arith}
use Rattle.std.specs.Prelude.{Option, Some, None, if◌then◌else◌, nat_le, ◌&&◌}
use Rattle.std.proofs.lemmas.Bool.Decides.{nat_tests}
use Rattle.mq_message.specs.declared.message.Ident.{Ident}
use Rattle.mq_queue.specs.declared.row.Row.{Row}
use Rattle.mq_queue.specs.Rows.{insert_row, keep}
use Rattle.mq_sync.specs.declared.unit.Unit.{Unit as Luw}
use Rattle.mq_sync.specs.Units.{same_unit}
use Rattle.mq_spec_network.specs.Story.{Mem}
use Rattle.mq_spec_network.specs.Promised.{AreDistinct}
use Rattle.mq_spec_network.specs.Order.{Before, KeepsQueue}
use Rattle.mq_spec_network.specs.Standing.{row_told, rows_told}
use Rattle.mq_law_rows.specs.Families.{is_here}
use Rattle.mq_law_rows.specs.World.{World, Book, Ghost, Tag, At, InBatch, Forced, tag_idents, ident_of, idents_in, is_forced, is_counted, counted, standing, claim, LanesRise, IsOthers, InOrder, is_young, Inv}
use Rattle.mq_law_rows.specs.Kinds.{among, Landing, place_all, ghost_take, hold_batch, unit_at, awaits, Commits}
use Rattle.mq_law_rows.specs.Ordered.{IsFront, with_young}
use Rattle.mq_message.specs.declared.place.Holder.{Holder}
use Rattle.mq_message.specs.declared.place.Holder.TheVariants as holders
use Rattle.mq_law_rows.proofs.Owners.{ledger_row, told_ident}
use Rattle.mq_law_rows.proofs.Receiving.{any_mem, mem_any, holds_means, landing_idents, mem_all}
use Rattle.mq_law_rows.proofs.Lists.{once_not, mem_map, true_false, bool_case, is_false, here_yes, here_self, mem_inserted, mem_insert_old, and_left, and_right, sorted_insert, mem_keep, sorted_keep}
use Rattle.mq_law_rows.proofs.Young.{before_mem, before_kept, before_map, map_before, order_less, order_ghost, young_means, young_so}

-- so it is on the ledger's queue, but for rows of units that an operator has settled
pub front_told : (w : World) (g : Ghost) (b : Book) (m : ℕ) (q : List ℕ) (ids : List Ident) → Inv w g b → IsFront ids (standing w m q) → ((i : Ident) → Mem i ids → is_forced (g.owner i) ≡ false)
    → (x y : Row) → Before x y (b.rows m q) → Mem y.message.ident ids → x.place.lane ≡ y.place.lane → is_forced (g.owner x.message.ident) ≡ false
    → Mem x.message.ident ids × Before x.message.ident y.message.ident ids
front_told w g b m q ids h f mine x y before n l free_ =
    let kept : Before x y (counted g (b.rows m q)) = before_kept (is_counted g.owner) x y (b.rows m q) before (ap not free_) (ap not (mine y.message.ident n)) in
    let told : Before (row_told x) (row_told y) (rows_told (standing w m q)) = subst (λ (rs : List Row). Before (row_told x) (row_told y) rs) (h.same m q) (before_map row_told x y (counted g (b.rows m q)) kept) in
    let r = map_before row_told (row_told x) (row_told y) (standing w m q) told in
    let ix : x.message.ident ≡ r.0.message.ident = ap ident_of r.3 in
    let iy : y.message.ident ≡ r.1.message.ident = ap ident_of r.4 in
    let z = f.front r.0 r.1 r.2 (subst (λ (i : Ident). Mem i ids) iy n) (ap (λ (r : Row). r.place.lane) (sym r.3) ∙ l ∙ ap (λ (r : Row). r.place.lane) r.4) in
    (subst (λ (i : Ident). Mem i ids) (sym ix) z.0, subst (λ (i : Ident). Before i y.message.ident ids) (sym ix) (subst (λ (i : Ident). Before r.0.message.ident i ids) (sym iy) z.1))

-- at a receiver's commit: the first two of the order's clauses, on each queue of any manager
pub keeps_queue : (g : Ghost) (b : Book) (young : ℕ → List ℕ → Luw → Bool) (m : ℕ) (c : List ℕ) (u : Luw) → InOrder g b.rows young → young m c u ≡ true
    → (a : ℕ) (q : List ℕ) (xs : List Row) → ((x y : Row) → Before x y xs → Before x y (b.rows a q)) → ((x : Row) → Mem x xs → IsOthers g m c u x → ⊥)
    → KeepsQueue (tag_idents (g.sent m c u)) xs
keeps_queue g b young m c u o z a q xs part no_ x y before n l = o.first m a q c u x y z (part x y before) n l (no_ x (before_mem x y xs before).0)

-- and the third: what lands on one queue with one priority stands there in the order of the list
before_insert_old : (n x y : Row) (xs : List Row) → Before x y xs → Before x y (insert_row n xs)
before_insert_old n x y [] b = absurd b
before_insert_old n x y (z ∷ zs) (inl k) = bool_case (nat_le z.place.lane n.place.lane) (λ t. Before x y (if t then z ∷ insert_row n zs else n ∷ z ∷ zs)) (λ e. inl (k.0, mem_insert_old y n zs k.1)) (λ e. inr (inl k))
before_insert_old n x y (z ∷ zs) (inr k) = bool_case (nat_le z.place.lane n.place.lane) (λ t. Before x y (if t then z ∷ insert_row n zs else n ∷ z ∷ zs)) (λ e. inr (before_insert_old n x y zs k)) (λ e. inr (inr k))

behind : (n x : Row) (xs : List Row) → LanesRise xs → Mem x xs → x.place.lane ≤ n.place.lane → Before x n (insert_row n xs)
behind n x [] s k le = absurd k
behind n x (z ∷ zs) s (inl e) le =
    let hit : nat_le z.place.lane n.place.lane ≡ true = yes_le z.place.lane n.place.lane (subst (λ (r : Row). r.place.lane ≤ n.place.lane) e le) in
    subst (λ t. Before x n (if t then z ∷ insert_row n zs else n ∷ z ∷ zs)) (sym hit) (inl (e, mem_inserted n zs))
  where
    yes_le : (a b : ℕ) → a ≤ b → nat_le a b ≡ true
    yes_le a b le = grind (arith, nat_tests)
behind n x (z ∷ zs) s (inr k) le =
    let low : z.place.lane ≤ x.place.lane = s.0 x k in
    let hit : nat_le z.place.lane n.place.lane ≡ true = yes_le z.place.lane x.place.lane n.place.lane low le in
    subst (λ t. Before x n (if t then z ∷ insert_row n zs else n ∷ z ∷ zs)) (sym hit) (inr (behind n x zs s.1 k le))
  where
    yes_le : (a b c : ℕ) → a ≤ b → b ≤ c → nat_le a c ≡ true
    yes_le a b c p q = grind (arith, nat_tests)

all_old : (t : ℕ) (ls : List Landing) (a : ℕ) (d : List ℕ) (xs : List Row) (x y : Row) → Before x y xs → Before x y (place_all t ls a d xs)
all_old t [] a d xs x y b = b
all_old t (l ∷ ls) a d xs x y b = all_old t ls a d _ x y (bool_case (is_here t l.queue a d) (λ z. Before x y (if z then insert_row l.row xs else xs)) (λ e. before_insert_old l.row x y xs b) (λ e. b))

lands_behind : (t : ℕ) (ls : List Landing) (q : List ℕ) (xs : List Row) (x : Row) (l : Landing) → LanesRise xs → Mem x xs → Mem l ls → l.queue ≡ q → x.place.lane ≤ l.row.place.lane → Before x l.row (place_all t ls t q xs)
lands_behind t [] q xs x l s k n e le = absurd n
lands_behind t (j ∷ ls) q xs x l s k (inl n) e le =
    let hit : is_here t j.queue t q ≡ true = ap (λ z. is_here t z t q) (ap (λ (l : Landing). l.queue) (sym n) ∙ e) ∙ here_self t q in
    all_old t ls t q _ x l.row (subst (λ z. Before x l.row (if z then insert_row j.row xs else xs)) (sym hit) (subst (λ (r : Row). Before x r (insert_row j.row xs)) (ap (λ (l : Landing). l.row) (sym n)) (behind j.row x xs s k (subst (λ (l : Landing). x.place.lane ≤ l.row.place.lane) n le))))
lands_behind t (j ∷ ls) q xs x l s k (inr n) e le =
    lands_behind t ls q (if is_here t j.queue t q then insert_row j.row xs else xs) x l
    (bool_case (is_here t j.queue t q) (λ z. LanesRise (if z then insert_row j.row xs else xs)) (λ e. sorted_insert j.row xs s) (λ e. s))
    (bool_case (is_here t j.queue t q) (λ z. Mem x (if z then insert_row j.row xs else xs)) (λ e. mem_insert_old x j.row xs k) (λ e. k)) n e le

pub lands_in_order : (t : ℕ) (ls : List Landing) (q : List ℕ) (xs : List Row) (l k : Landing) → LanesRise xs → Before l k ls → l.queue ≡ q → k.queue ≡ q → l.row.place.lane ≡ k.row.place.lane → Before l.row k.row (place_all t ls t q xs)
lands_in_order t [] q xs l k s b e f same = absurd b
lands_in_order t (j ∷ ls) q xs l k s (inl n) e f same =
    let hit : is_here t j.queue t q ≡ true = ap (λ z. is_here t z t q) (ap (λ (l : Landing). l.queue) (sym n.0) ∙ e) ∙ here_self t q in
    lands_behind t ls q (if is_here t j.queue t q then insert_row j.row xs else xs) l.row k
    (bool_case (is_here t j.queue t q) (λ z. LanesRise (if z then insert_row j.row xs else xs)) (λ e. sorted_insert j.row xs s) (λ e. s))
    (subst (λ z. Mem l.row (if z then insert_row j.row xs else xs)) (sym hit) (subst (λ (r : Row). Mem r (insert_row j.row xs)) (ap (λ (l : Landing). l.row) (sym n.0)) (mem_inserted j.row xs))) n.1 f (le_same l.row.place.lane k.row.place.lane same)
  where
    le_same : (a b : ℕ) → a ≡ b → a ≤ b
    le_same a b e = omega arith
lands_in_order t (j ∷ ls) q xs l k s (inr n) e f same =
    lands_in_order t ls q (if is_here t j.queue t q then insert_row j.row xs else xs) l k
    (bool_case (is_here t j.queue t q) (λ z. LanesRise (if z then insert_row j.row xs else xs)) (λ e. sorted_insert j.row xs s) (λ e. s)) n e f same

pub order_holds : (w : World) (g : Ghost) (b : Book) (young : ℕ → List ℕ → Luw → Bool) (m : ℕ) (q c : List ℕ) (u : Luw) (ts : List Tag) (front : Bool) → Inv w g b → InOrder g b.rows young → g.operated m c u ≡ false
    → ((i : Ident) → Mem i (tag_idents ts) → g.owner i ≡ At m q) → IsFront (tag_idents ts) (standing w m q)
    → InOrder (ghost_take g m q c u ts front) b.rows (with_young young m c u)
order_holds w g b young m q c u ts front h o done mine first_ = record {
  first = λ a i d e x2 x y z before n l no_.
      bool_case (unit_at m c u a e x2) (λ t. unit_at m c u a e x2 ≡ t → (if t then true else young a e x2) ≡ true → Mem y.message.ident (tag_idents (if t then ts else g.sent a e x2))
      → Mem x.message.ident (tag_idents (if t then ts else g.sent a e x2)) × Before x.message.ident y.message.ident (tag_idents (if t then ts else g.sent a e x2)))
      (λ t f z n.
      let p = here_yes m c a e (and_left (is_here m c a e) (same_unit x2 u) f) in
      let xu : x2 ≡ u = unit_yes x2 u (and_right (is_here m c a e) (same_unit x2 u) f) in
      let am : a ≡ m = p.0 in
      let py = before_mem x y (b.rows i d) before in
      let at_q : (i ≡ m) × (d ≡ q) = elim (ledger_row w g b h i d y py.1) [
        | inl k ↦ absurd (true_false (sym k ∙ ap is_forced (mine y.message.ident n)))
        | inr k ↦ queue_of m i q d k.0.by (sym (mine y.message.ident n) ∙ ap g.owner (told_ident y k.0 k.3) ∙ h.claims i d k.0 k.1 k.2)
      ] in
      let free_ : is_forced (g.owner x.message.ident) ≡ false = is_false _ (λ k. no_ (others a e x2 x am p.1 xu k)) in
      front_told w g b m q (tag_idents ts) h first_ (λ i k. ap is_forced (mine i k)) x y (subst (λ (r : List Row). Before x y r) (λ j. b.rows (at_q.0 j) (at_q.1 j)) before) n l free_)
      (λ t f z n. o.first a i d e x2 x y z before n l (λ k. no_ (still a e x2 x k))) refl z n;
}
  where
    unit_yes : (u v : Luw) → same_unit u v ≡ true → u ≡ v
    unit_yes u v e = grind (arith, nat_tests)

    queue_of : (m a : ℕ) (q d : List ℕ) (x : Option Holder) → At m q ≡ claim a d x → (a ≡ m) × (d ≡ q)
    queue_of m a q d None e = (cc, cc)
    queue_of m a q d (Some (holders.Unit k)) e = absurd cc
    queue_of m a q d (Some (holders.Batch k)) e = absurd cc

    not_chosen : (x : Row) → is_forced (g.owner x.message.ident) ≡ true → among (tag_idents ts) x.message.ident ≡ false
    not_chosen x k = is_false _ (λ z. true_false (sym k ∙ ap is_forced (mine x.message.ident (any_mem x.message.ident (tag_idents ts) z))))

    same_owner : (x : Row) → is_forced (g.owner x.message.ident) ≡ true → (ghost_take g m q c u ts front).owner x.message.ident ≡ g.owner x.message.ident
    same_owner x k = ap (λ t. if t then InBatch m c else g.owner x.message.ident) (not_chosen x k)

    still : (a : ℕ) (e : List ℕ) (x2 : Luw) (x : Row) → IsOthers g a e x2 x → IsOthers (ghost_take g m q c u ts front) a e x2 x
    still a e x2 x k = (ap is_forced (same_owner x k.0) ∙ k.0, (λ f. k.1 (sym (same_owner x k.0) ∙ f)))

    others : (a : ℕ) (e : List ℕ) (x2 : Luw) (x : Row) → a ≡ m → e ≡ c → x2 ≡ u → is_forced (g.owner x.message.ident) ≡ true → IsOthers (ghost_take g m q c u ts front) a e x2 x
    others a e x2 x am ec xu k = still a e x2 x (k, (λ f. true_false (sym (h.forced a e x2 x.message.ident f).0 ∙ (λ i. g.operated (am i) (ec i) (xu i)) ∙ done)))

-- a unit that is young after a batch was held, and is another one, was young before
older : (w : World) (g : Ghost) (m : ℕ) (q c : List ℕ) (u : Luw) (ts : List Tag) (front : Bool) (a : ℕ) (d : List ℕ) (x : Luw) → unit_at m c u a d x ≡ false
    → is_young (hold_batch w m q c u (tag_idents ts)) (ghost_take g m q c u ts front) a d x ≡ true → is_young w g a d x ≡ true
older w g m q c u ts front a d x out z =
    let y = young_means (hold_batch w m q c u (tag_idents ts)) (ghost_take g m q c u ts front) a d x z in
    young_so w g a d x (sym (ap (λ t. if t then not front else g.loose a d x) out) ∙ y.0) (elim y.1 [
      | inl p ↦ inl (held_still (is_here m c a d) (w.holds a d) u x p.0 out, p.1)
      | inr p ↦ inr p
    ])
  where
    some_of : (u x : Luw) → Some u ≡ Some x → u ≡ x
    some_of u x e = cc

    differs : (u x : Luw) → u ≡ x → same_unit x u ≡ false → ⊥
    differs u x e f = grind (arith, nat_tests)

    held_still : (t : Bool) (o : Option Luw) (u x : Luw) → (if t then Some u else o) ≡ Some x → (t && same_unit x u) ≡ false → o ≡ Some x
    held_still true o u x e f = absurd (differs u x (some_of u x e) f)
    held_still false o u x e f = e

-- A batch is held: where it is known to be the front of its queue, its unit is young from then on.
pub hold_order : (w : World) (g : Ghost) (b : Book) (m : ℕ) (q c : List ℕ) (u : Luw) (ts : List Tag) (front : Bool) → Inv w g b → g.operated m c u ≡ false
    → ((i : Ident) → Mem i (tag_idents ts) → g.owner i ≡ At m q) → (front ≡ true → IsFront (tag_idents ts) (standing w m q))
    → InOrder (ghost_take g m q c u ts front) b.rows (is_young (hold_batch w m q c u (tag_idents ts)) (ghost_take g m q c u ts front))
hold_order w g b m q c u ts true h done mine first_ =
    let v : World = hold_batch w m q c u (tag_idents ts) in
    let e : Ghost = ghost_take g m q c u ts true in
    order_less e b.rows (with_young (is_young w g) m c u) (is_young v e) (order_holds w g b (is_young w g) m q c u ts true h h.order done mine (first_ refl))
    (λ a d x z. bool_case (unit_at m c u a d x) (λ t. unit_at m c u a d x ≡ t → (if t then true else is_young w g a d x) ≡ true) (λ k f. refl) (λ k f. older w g m q c u ts true a d x f z) refl)
hold_order w g b m q c u ts false h done mine first_ =
    let v : World = hold_batch w m q c u (tag_idents ts) in
    let e : Ghost = ghost_take g m q c u ts false in
    let out : (a : ℕ) (d : List ℕ) (x : Luw) → is_young v e a d x ≡ true → unit_at m c u a d x ≡ false = λ a d x z.
    is_false _ (λ k. true_false (sym (ap (λ t. if t then true else g.loose a d x) k) ∙ (young_means v e a d x z).0)) in
    order_ghost g e b.rows (is_young v e)
    (order_less g b.rows (is_young w g) (is_young v e) h.order (λ a d x z. older w g m q c u ts false a d x (out a d x z) z))
    (λ a d x z. ap (λ t. if t then ts else g.sent a d x) (out a d x z))
    (λ a d x n f. ap (λ t. if t then InBatch m c else g.owner x.message.ident) (is_false _ (λ k. true_false (sym f ∙ ap is_forced (mine x.message.ident (any_mem x.message.ident (tag_idents ts) k))))))

-- the first rows of a queue are its front
first_two : (xs rest : List Row) (x y : Row) → AreDistinct (idents_in (xs ++ rest)) → Before x y (xs ++ rest) → Mem y.message.ident (idents_in xs) → Mem x.message.ident (idents_in xs) × Before x.message.ident y.message.ident (idents_in xs)
first_two [] rest x y once b n = absurd n
first_two (z ∷ zs) rest x y once (inl e) (inl n) = absurd (once_not z.message.ident (idents_in (zs ++ rest)) once.0 (subst (λ (i : Ident). Mem i (idents_in (zs ++ rest))) n (mem_map ident_of y (zs ++ rest) e.1)))
first_two (z ∷ zs) rest x y once (inl e) (inr n) = (inl (ap ident_of e.0), inl (ap ident_of e.0, n))
first_two (z ∷ zs) rest x y once (inr b) (inl n) = absurd (once_not z.message.ident (idents_in (zs ++ rest)) once.0 (subst (λ (i : Ident). Mem i (idents_in (zs ++ rest))) n (mem_map ident_of y (zs ++ rest) (before_mem x y (zs ++ rest) b).1)))
first_two (z ∷ zs) rest x y once (inr b) (inr n) = let r = first_two zs rest x y once.1 b n in (inr r.0, inr r.1)

pub first_is_front : (xs rest : List Row) → AreDistinct (idents_in (xs ++ rest)) → IsFront (idents_in xs) (xs ++ rest)
first_is_front xs rest once = record { front = λ x y b n l. first_two xs rest x y once b n }

-- at a receiver's commit of a unit whose batch was taken from the front of its queue
pub commit_keeps : (w : World) (g : Ghost) (b : Book) (m : ℕ) (c : List ℕ) (u : Luw) (t : ℕ) → Inv w g b → Commits w g m c u t → g.loose m c u ≡ false
    → (a : ℕ) (q : List ℕ) (xs : List Row) → ((x y : Row) → Before x y xs → Before x y (b.rows a q)) → ((x : Row) → Mem x xs → IsOthers g m c u x → ⊥)
    → KeepsQueue (tag_idents (g.sent m c u)) xs
commit_keeps w g b m c u t h k tight a q xs part no_ x y before n l =
    let young : is_young w g m c u ≡ true =
    bool_case (awaits w m c u) (λ z. awaits w m c u ≡ z → is_young w g m c u ≡ true)
    (λ z e. let holds = holds_means (w.doubt m c) (w.holds m c) u e in young_so w g m c u tight (inl (holds, k.others u holds)))
    (λ z e. young_so w g m c u tight (inr (h.forced m c u y.message.ident (k.mine y.message.ident n ∙ ap (λ f. if f then InBatch m c else Forced m c u) e)).0)) refl in
    keeps_queue g b (is_young w g) m c u h.order young a q xs part no_ x y before n l

-- what a commit places on one queue with one priority stands there in the order of its list
one_landing : (ks : List Landing) → AreDistinct (landing_idents ks) → (l k : Landing) → Mem l ks → Mem k ks → l.row.message.ident ≡ k.row.message.ident → l ≡ k
one_landing [] once l k n o e = absurd n
one_landing (j ∷ js) once l k (inl a) (inl b) e = a ∙ sym b
one_landing (j ∷ js) once l k (inl a) (inr b) e = absurd (once_not j.row.message.ident (landing_idents js) once.0 (subst (λ (i : Ident). Mem i (landing_idents js)) (sym e ∙ ap (λ (z : Landing). z.row.message.ident) a) (mem_map (λ (z : Landing). z.row.message.ident) k js b)))
one_landing (j ∷ js) once l k (inr a) (inl b) e = absurd (once_not j.row.message.ident (landing_idents js) once.0 (subst (λ (i : Ident). Mem i (landing_idents js)) (e ∙ ap (λ (z : Landing). z.row.message.ident) b) (mem_map (λ (z : Landing). z.row.message.ident) l js a)))
one_landing (j ∷ js) once l k (inr a) (inr b) e = one_landing js once.1 l k a b e

landed_there : (t : ℕ) (ids : List Ident) (ks : List Landing) (q : List ℕ) (xs : List Row) (x : Row) → Mem x (place_all t ks t q (keep (λ r. not (among ids r.message.ident)) xs)) → Mem x.message.ident ids
    → (l : Landing) × Mem l ks × (x ≡ l.row) × (q ≡ l.queue)
landed_there t ids ks q xs x n there = elim (mem_all t ks t q _ x n) [
  | inl z ↦ absurd (no_row (among ids x.message.ident) (mem_any x.message.ident ids there) (mem_keep (λ r. not (among ids r.message.ident)) x xs z).1)
  | inr z ↦ (z.1.0, z.1.1, z.1.2, z.1.3)
]
  where
    no_row : (f : Bool) → f ≡ true → not f ≡ true → ⊥
    no_row true e f = true_false (sym f)
    no_row false e f = true_false (sym e)

pub commit_lists : (t : ℕ) (ids : List Ident) (ks : List Landing) (q : List ℕ) (xs : List Row) → landing_idents ks ≡ ids → AreDistinct ids → LanesRise xs
    → (x y : Row) → Mem x (place_all t ks t q (keep (λ r. not (among ids r.message.ident)) xs)) → Mem y (place_all t ks t q (keep (λ r. not (among ids r.message.ident)) xs)) → x.place.lane ≡ y.place.lane
    → Before x.message.ident y.message.ident ids → Before x y (place_all t ks t q (keep (λ r. not (among ids r.message.ident)) xs))
commit_lists t ids ks q xs named once rise x y nx ny lane before =
    let b = before_mem x.message.ident y.message.ident ids before in
    let rest : List Row = keep (λ r. not (among ids r.message.ident)) xs in
    let l = landed_there t ids ks q xs x nx b.0 in
    let k = landed_there t ids ks q xs y ny b.1 in
    let r = map_before (λ (z : Landing). z.row.message.ident) x.message.ident y.message.ident ks (subst (λ (is : List Ident). Before x.message.ident y.message.ident is) (sym named) before) in
    let apart : AreDistinct (landing_idents ks) = subst AreDistinct (sym named) once in
    let m = before_mem r.0 r.1 ks r.2 in
    let le : r.0 ≡ l.0 = one_landing ks apart r.0 l.0 m.0 l.1 (sym r.3 ∙ ap ident_of l.2) in
    let ke : r.1 ≡ k.0 = one_landing ks apart r.1 k.0 m.1 k.1 (sym r.4 ∙ ap ident_of k.2) in
    let order : Before l.0 k.0 ks = subst (λ (z : Landing). Before l.0 z ks) ke (subst (λ (z : Landing). Before z r.1 ks) le r.2) in
    let placed : Before l.0.row k.0.row (place_all t ks t q rest) =
    lands_in_order t ks q rest l.0 k.0 (sorted_keep _ xs rise) order (sym l.3) (sym k.3) (ap (λ (z : Row). z.place.lane) (sym l.2) ∙ lane ∙ ap (λ (z : Row). z.place.lane) k.2) in
    subst (λ (z : Row). Before x z (place_all t ks t q rest)) (sym k.2) (subst (λ (z : Row). Before z k.0.row (place_all t ks t q rest)) (sym l.2) placed)
