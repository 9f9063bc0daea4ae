-- Batches that are dropped, forced by an operator, held and prepared, and rows that a stop loses, keep the facts.
use Rattle.std.proofs.Common.{ℕ, ◌≡◌, ◌≢◌, ◌⊎◌, Bool, true, false, not, List, [], ◌∷◌, refl, ap, sym, subst, ◌∙◌, arith, inl, inr}
use Rattle.std.specs.Prelude.{Option, Some, None, ◌==◌, if◌then◌else◌, ◌&&◌}
use Rattle.std.proofs.lemmas.Bool.Decides.{nat_tests}
use Rattle.mq_message.specs.declared.message.Ident.{Ident}
use Rattle.mq_message.specs.declared.place.Holder.{Holder}
use Rattle.mq_message.specs.declared.place.Holder.TheVariants as holders
use Rattle.mq_queue.specs.declared.row.Row.{Row}
use Rattle.mq_queue.specs.Rows.{keep, held_by}
use Rattle.mq_sync.specs.declared.unit.Unit.{Unit as Luw}
use Rattle.mq_sync.specs.Units.{same_unit}
use Rattle.mq_calls.specs.Reads.{is_persistent}
use Rattle.mq_spec_network.specs.Story.{Mem}
use Rattle.mq_spec_network.specs.Promised.{AreDistinct}
use Rattle.mq_spec_network.specs.Standing.{row_told, rows_told}
use Rattle.mq_law_rows.specs.Families.{is_here}
use Rattle.mq_law_rows.specs.World.{World, Book, Ghost, Tag, Owner, Unborn, InBatch, Forced, InUnit, Gone, tag_of, tag_idents, away, stands, row_stands, standing, is_forced, is_counted, counted, is_young, claim, IsHeldBy, IsElsewhere, IsPlaced, Inv}
use Rattle.mq_law_rows.specs.Kinds.{among, unit_at, has_batch, drop_batch, ghost_force, is_lost, lose, book_lose, awaits, Commits}
use Rattle.mq_law_rows.proofs.Lists.{true_false, and_false, and_right, and_left, and_swap, eqb_self, name_self, bool_case, once_not, here_yes, here_self, mem_keep, mem_kept, map_mem, mem_map, sorted_keep, distinct_keep, keep_swap, keep_all, told_keep}
use Rattle.mq_law_rows.proofs.Owners.{standing_row, ledger_row, told_ident}
use Rattle.mq_law_rows.proofs.Young.{order_keep, order_less, order_ghost, young_means, young_so}
use Rattle.mq_law_rows.proofs.Lasting.{lasts as persists}
use Rattle.mq_law_rows.proofs.Receiving.{any_mem, mem_any, holds_means, sent_flag}
use Rattle.mq_law_rows.proofs.Batches.{batch_yes, batch_no, batch_other, not_last, held_none, stands_put_down}

pub told_tag : (x y : Row) → row_told x ≡ row_told y → tag_of x.message ≡ tag_of y.message
told_tag x y e = ap (λ (r : Row). tag_of r.message) e

-- what of a queue stays where the batch goes
stays : (w : World) (m : ℕ) (c : List ℕ) (a : ℕ) (d : List ℕ) (y : Row) → Mem y (keep (λ y. not (has_batch m c a y)) (w.rows a d)) → Mem y (w.rows a d) × (has_batch m c a y ≡ false)
stays w m c a d y n = let k = mem_keep (λ y. not (has_batch m c a y)) y (w.rows a d) n in (k.0, not_yes (has_batch m c a y) k.1)
  where
    not_yes : (t : Bool) → not t ≡ true → t ≡ false
    not_yes true e = absurd cc
    not_yes false e = refl

pub drops_batch : (w : World) (g : Ghost) (b : Book) (m : ℕ) (c : List ℕ) → Inv w g b → away w m c ≡ true
    → Inv (drop_batch w m c) g b
drops_batch w g b m c h gone_ =
    let v : World = drop_batch w m c in
    let T : ℕ → Row → Bool = λ a x. has_batch m c a x in
    let old : (a : ℕ) (d : List ℕ) (y : Row) → Mem y (v.rows a d) → Mem y (w.rows a d) × (T a y ≡ false) = λ a d y n. stays w m c a d y n in
    record {
      sorted = λ a d. sorted_keep _ _ (h.sorted a d);
      shelved = h.shelved;
      claims = λ a d y n s. let k = old a d y n in h.claims a d y k.0 (sym (stands_put_down w m c a y.by k.1) ∙ s);
      taken = λ a d y k n e. h.taken a d y k (old a d y n).0 e;
      batch = λ a d y e n by_. let k = old a d y n in
          let q = h.batch a d y e k.0 by_ in
          let out : is_here m c a e ≡ false = batch_no a m c e y.by k.1 by_ in
          (q.0, (λ z. q.1 (sym (ap (λ t. if t then None else w.holds a e) out) ∙ z)), (λ u z. q.2 u (held_none w m c a e z).1));
      live = λ a e u t z no_ n. h.live a e u t (held_none w m c a e z).1 no_ n;
      present = λ a e u t z no_ n l. let p = held_none w m c a e z in
          let s = h.present a e u t p.1 no_ n l in
          let out : T a s.row ≡ false = ap (λ z. (a == m) && held_by (holders.Batch c) z) s.by ∙ batch_other a m c e p.0 in
          record { row = s.row; there = mem_kept _ s.row (w.rows a (g.source a e)) s.there (ap not out); by = s.by; tag = s.tag };
      sent_once = λ a e u z. h.sent_once a e u (held_none w m c a e z).1;
      operated = h.operated;
      operated_there = h.operated_there;
      operated_once = h.operated_once;
      forced = h.forced;
      pending = h.pending;
      pending_once = h.pending_once;
      gets = h.gets;
      gets_once = h.gets_once;
      units = h.units;
      unborn = h.unborn;
      gone = h.gone;
      got = h.got;
      got_once = h.got_once;
      operated_words = h.operated_words;
      persistence =
          let p = h.persistence in
          record {
            flag = p.flag;
            of_row = λ a d y n. p.of_row a d y (old a d y n).0;
            of_put = p.of_put;
            of_unit = λ a e u t z no_ n. p.of_unit a e u t (held_none w m c a e z).1 no_ n;
            of_operated = p.of_operated;
          };
      order = order_less g b.rows (is_young w g) (is_young v g) h.order
          (λ a d x z. let y = young_means v g a d x z in young_so w g a d x y.0 (elim y.1 [ inl p ↦ inl ((held_none w m c a d p.0).1, p.1) | inr p ↦ inr p ]));
      distinct = λ a d. distinct_keep _ _ (h.distinct a d);
      back = λ a d y n s. let k = old a d y n in h.back a d y k.0 (sym (stands_put_down w m c a y.by k.1) ∙ s);
      same = λ a d. h.same a d ∙ sym (ap rows_told (
          keep_swap (row_stands (away w a)) (row_stands (away v a)) (λ y. not (T a y)) (λ y. true) (w.rows a d)
          (λ y n. bool_case (T a y) (λ t. T a y ≡ t → (not t && stands (away v a) y.by) ≡ (stands (away w a) y.by && true))
          (λ e f. let p = batch_yes a m c y.by e in sym (rw (p.1, p.0, gone_) refl))
          (λ e f. stands_put_down w m c a y.by f ∙ and_swap true (stands (away w a) y.by)) refl)
          ∙ keep_all (λ y. true) _ (λ y n. refl)));
    }

-- An operator says that the receiver has committed the unit, and it has not.
forced_other : (is : List Ident) (j : Ident) (o new p : Owner) → o ≡ p → (among is j ≡ true → o ≡ p → ⊥) → (if among is j then new else o) ≡ p
forced_other is j o new p e no_ = bool_case (among is j) (λ z. (if z then new else o) ≡ p) (λ z. absurd (no_ z e)) (λ z. e)

batch_claim : (m a : ℕ) (c d : List ℕ) (x : Option Holder) → InBatch m c ≡ claim a d x → ((a == m) && held_by (holders.Batch c) x) ≡ true
batch_claim m a c d None e = absurd cc
batch_claim m a c d (Some (holders.Unit k)) e = absurd cc
batch_claim m a c d (Some (holders.Batch f)) e = let p : m ≡ a = cc in let q : c ≡ f = cc in rw (← p, ← q, eqb_self m) (name_self c)

unit_yes : (u v : Luw) → same_unit u v ≡ true → u ≡ v
unit_yes u v e = grind (arith, nat_tests)

unit_self : (u : Luw) → same_unit u u ≡ true
unit_self u = grind (arith, nat_tests)

unit_at_yes : (m : ℕ) (c : List ℕ) (u : Luw) (a : ℕ) (d : List ℕ) (v : Luw) → unit_at m c u a d v ≡ true → (a ≡ m) × (d ≡ c) × (v ≡ u)
unit_at_yes m c u a d v e = let p = here_yes m c a d (and_left (is_here m c a d) (same_unit v u) e) in (p.0, p.1, unit_yes v u (and_right (is_here m c a d) (same_unit v u) e))

in_batch_here : (m a : ℕ) (c d : List ℕ) → InBatch m c ≡ InBatch a d → is_here m c a d ≡ true
in_batch_here m a c d e = let p : m ≡ a = cc in let q : c ≡ d = cc in rw (← p, ← q) (here_self m c)

forced_same : (m a : ℕ) (c d : List ℕ) (u x : Luw) → Forced m c u ≡ Forced a d x → (m ≡ a) × (c ≡ d) × (u ≡ x)
forced_same m a c d u x e = (cc, cc, cc)

or_self : (t : Bool) → (if t then true else true) ≡ true
or_self true = refl
or_self false = refl

unheld_batch : (a k m : ℕ) (c : List ℕ) (o : Owner) → o ≡ InBatch m c → IsHeldBy a k o → ⊥
unheld_batch a k m c o e n = subst (IsHeldBy a k) e n

-- what the ledger has of a message of a unit that its receiver has not committed is the message that was sent
claims_batch : (m a : ℕ) (c d : List ℕ) (x : Option Holder) → InBatch m c ≡ claim a d x → (a ≡ m) × (x ≡ Some (holders.Batch c))
claims_batch m a c d None e = absurd cc
claims_batch m a c d (Some (holders.Unit k)) e = absurd cc
claims_batch m a c d (Some (holders.Batch f)) e = let p : m ≡ a = cc in let q : c ≡ f = cc in (sym p, ap (λ z. Some (holders.Batch z)) (sym q))

pub batch_words : (w : World) (g : Ghost) (b : Book) → Inv w g b → (m : ℕ) (c : List ℕ) (u : Luw) → w.holds m c ≡ Some u → (a : ℕ) (q : List ℕ) (r : Row) → Mem r (b.rows a q) → g.owner r.message.ident ≡ InBatch m c → Mem (tag_of r.message) (g.sent m c u)
batch_words w g b h m c u holds a q r n own =
    elim (ledger_row w g b h a q r n) [
      | inl z ↦ absurd (true_false (sym z ∙ ap is_forced own))
      | inr z ↦ let x : Row = z.0 in
          let p = claims_batch m a c q x.by (sym own ∙ ap g.owner (told_ident r x z.3) ∙ h.claims a q x z.1 z.2) in
          subst (λ (l : List Tag). Mem (tag_of r.message) l) (ap (λ k. g.sent k c u) p.0) (subst (λ (s : Tag). Mem s (g.sent a c u)) (sym (told_tag r x z.3)) ((h.batch a q x c z.1 p.1).2 u (rw (p.0) holds)))
    ]

one_tag : (ts : List Tag) → AreDistinct (tag_idents ts) → (s t : Tag) → Mem s ts → Mem t ts → s.ident ≡ t.ident → s ≡ t
one_tag [] o s t n k e = absurd n
one_tag (x ∷ xs) o s t (inl a) (inl b) e = a ∙ sym b
one_tag (x ∷ xs) o s t (inl a) (inr b) e = absurd (once_not x.ident (tag_idents xs) o.0 (subst (λ (i : Ident). Mem i (tag_idents xs)) (sym e ∙ ap (λ (z : Tag). z.ident) a) (mem_map (λ (z : Tag). z.ident) t xs b)))
one_tag (x ∷ xs) o s t (inr a) (inl b) e = absurd (once_not x.ident (tag_idents xs) o.0 (subst (λ (i : Ident). Mem i (tag_idents xs)) (e ∙ ap (λ (z : Tag). z.ident) b) (mem_map (λ (z : Tag). z.ident) s xs a)))
one_tag (x ∷ xs) o s t (inr a) (inr b) e = one_tag xs o.1 s t a b e

-- What its receiver may commit is what the ledger has of these idents,
pub sent_words : (w : World) (g : Ghost) (b : Book) (m : ℕ) (c : List ℕ) (u : Luw) (t : ℕ) → Inv w g b → Commits w g m c u t → (s : Tag) (a : ℕ) (q : List ℕ) (r : Row) → Mem s (g.sent m c u) → Mem r (b.rows a q) → r.message.ident ≡ s.ident → tag_of r.message ≡ s
sent_words w g b m c u t h k s a q r n there e =
    let own = ap g.owner e ∙ k.mine s.ident (mem_map (λ (z : Tag). z.ident) s (g.sent m c u) n) in
    let tag : Mem (tag_of r.message) (g.sent m c u) =
    bool_case (awaits w m c u) (λ z. awaits w m c u ≡ z → Mem (tag_of r.message) (g.sent m c u))
    (λ z f. batch_words w g b h m c u (holds_means (w.doubt m c) (w.holds m c) u f) a q r there (own ∙ ap (λ y. if y then InBatch m c else Forced m c u) f))
    (λ z f. h.operated_words m c u a q r there (own ∙ ap (λ y. if y then InBatch m c else Forced m c u) f)) refl in
    one_tag (g.sent m c u) k.once (tag_of r.message) s tag n e

-- and a row of such an ident is as persistent, wherever it is
pub sent_lasting : (w : World) (g : Ghost) (b : Book) (m : ℕ) (c : List ℕ) (u : Luw) (t : ℕ) → Inv w g b → Commits w g m c u t → (s : Tag) (a : ℕ) (q : List ℕ) (x : Row) → Mem s (g.sent m c u) → Mem x (w.rows a q) → x.message.ident ≡ s.ident → is_persistent x.message ≡ s.lasting
sent_lasting w g b m c u t h k s a q x n there e = h.persistence.of_row a q x there ∙ ap h.persistence.flag e ∙ sym (sent_flag w g b m c u t h k s n)

pub forces_unit : (w : World) (g : Ghost) (b : Book) (m : ℕ) (c : List ℕ) (u : Luw) → Inv w g b → w.holds m c ≡ Some u → w.last m c ≢ u
    → Inv (drop_batch w m c) (ghost_force g m c u) b
forces_unit w g b m c u h holds new =
    let v : World = drop_batch w m c in
    let ids : List Ident = tag_idents (g.sent m c u) in
    let T : ℕ → Row → Bool = λ a x. has_batch m c a x in
    let near : away w m c ≡ false = not_last (w.doubt m c) (w.holds m c) (w.last m c) (λ x e z. new (z ∙ some_unit x u (sym e ∙ holds))) in
    let mine : (i : Ident) → among ids i ≡ true → g.owner i ≡ InBatch m c = λ i n. let k = map_mem (λ (t : Tag). t.ident) i (g.sent m c u) (any_mem i ids n) in ap g.owner k.2 ∙ h.live m c u k.0 holds new k.1 in
    let other : (j : Ident) (p : Owner) → g.owner j ≡ p → (InBatch m c ≡ p → ⊥) → (if among ids j then Forced m c u else g.owner j) ≡ p = λ j p e no_. forced_other ids j (g.owner j) (Forced m c u) p e (λ n z. no_ (sym (mine j n) ∙ z)) in
    let old : (a : ℕ) (d : List ℕ) (y : Row) → Mem y (v.rows a d) → Mem y (w.rows a d) × (T a y ≡ false) = λ a d y n. stays w m c a d y n in
    let in_unit : (a : ℕ) (d : List ℕ) (y : Row) → Mem y (w.rows a d) → T a y ≡ true → among ids y.message.ident ≡ true = λ a d y n e.
    let p = batch_yes a m c y.by e in
    let tag : Mem (tag_of y.message) (g.sent a c u) = (h.batch a d y c n p.1).2 u (rw (p.0) holds) in
    mem_any y.message.ident ids (subst (λ (x : List Tag). Mem y.message.ident (tag_idents x)) (ap (λ z. g.sent z c u) p.0) (mem_map (λ (t : Tag). t.ident) (tag_of y.message) (g.sent a c u) tag)) in
    record {
      sorted = λ a d. sorted_keep _ _ (h.sorted a d);
      shelved = h.shelved;
      claims = λ a d y n s. let k = old a d y n in
          other y.message.ident (claim a d y.by) (h.claims a d y k.0 (sym (stands_put_down w m c a y.by k.1) ∙ s)) (λ e. true_false (sym (batch_claim m a c d y.by e) ∙ k.1));
      taken = λ a d y k n e. h.taken a d y k (old a d y n).0 e;
      batch = λ a d y e n by_. let k = old a d y n in
          let q = h.batch a d y e k.0 by_ in
          let out : is_here m c a e ≡ false = batch_no a m c e y.by k.1 by_ in
          (q.0, (λ z. q.1 (sym (ap (λ t. if t then None else w.holds a e) out) ∙ z)), (λ u z. q.2 u (held_none w m c a e z).1));
      live = λ a e x t z no_ n. let p = held_none w m c a e z in
          other t.ident (InBatch a e) (h.live a e x t p.1 no_ n) (λ q. true_false (sym (in_batch_here m a c e q) ∙ p.0));
      present = λ a e x t z no_ n l. let p = held_none w m c a e z in
          let s = h.present a e x t p.1 no_ n l in
          let out : T a s.row ≡ false = ap (λ z. (a == m) && held_by (holders.Batch c) z) s.by ∙ batch_other a m c e p.0 in
          record { row = s.row; there = mem_kept _ s.row (w.rows a (g.source a e)) s.there (ap not out); by = s.by; tag = s.tag };
      sent_once = λ a e x z. h.sent_once a e x (held_none w m c a e z).1;
      operated = λ a d x t. bool_case (unit_at m c u a d x) (λ z. (if z then true else g.operated a d x) ≡ true → Mem t (g.sent a d x) → (if among ids t.ident then Forced m c u else g.owner t.ident) ≡ Forced a d x)
          (λ e z n. let p = unit_at_yes m c u a d x e in
          let there : among ids t.ident ≡ true = mem_any t.ident ids (subst (λ (x : List Tag). Mem t.ident (tag_idents x)) (λ i. g.sent (p.0 i) (p.1 i) (p.2 i)) (mem_map (λ (t : Tag). t.ident) t (g.sent a d x) n)) in
          rw there (λ i. Forced (sym p.0 i) (sym p.1 i) (sym p.2 i)))
          (λ e z n. other t.ident (Forced a d x) (h.operated a d x t z n) (λ q. cc));
      operated_there = λ a d x t. bool_case (unit_at m c u a d x) (λ z. (if z then true else g.operated a d x) ≡ true → Mem t (g.sent a d x) → t.lasting ≡ true → IsPlaced t (b.rows a))
          (λ e z n l. let p = unit_at_yes m c u a d x e in
          let s = h.present m c u t holds new (subst (λ (x : List Tag). Mem t x) (λ i. g.sent (p.0 i) (p.1 i) (p.2 i)) n) l in
          let r = standing_row w g b h m (g.source m c) s.row s.there (ap (stands (away w m)) s.by ∙ ap not near) in
          subst (λ z. IsPlaced t (b.rows z)) (sym p.0) (record { queue = g.source m c; row = r.0; there = r.1; tag = sym (told_tag s.row r.0 r.2) ∙ s.tag }))
          (λ e z n l. h.operated_there a d x t z n l);
      operated_once = λ a d x. bool_case (unit_at m c u a d x) (λ z. (if z then true else g.operated a d x) ≡ true → AreDistinct (tag_idents (g.sent a d x)))
          (λ e z. let p = unit_at_yes m c u a d x e in subst (λ (x : List Tag). AreDistinct (tag_idents x)) (λ i. g.sent (sym p.0 i) (sym p.1 i) (sym p.2 i)) (h.sent_once m c u holds))
          (λ e z. h.operated_once a d x z);
      forced = λ a d x j. bool_case (among ids j) (λ z. among ids j ≡ z → (if z then Forced m c u else g.owner j) ≡ Forced a d x → ((if unit_at m c u a d x then true else g.operated a d x) ≡ true) × Mem j (tag_idents (g.sent a d x)))
          (λ y z e. let p = forced_same m a c d u x e in
          (rw (← p.0, ← p.1, ← p.2, here_self m c) (rw (unit_self u) refl), subst (λ (l : List Tag). Mem j (tag_idents l)) (λ i. g.sent (p.0 i) (p.1 i) (p.2 i)) (any_mem j ids z)))
          (λ y z e. let o = h.forced a d x j e in (rw (o.0) (or_self (unit_at m c u a d x)), o.1)) refl;
      pending = λ a k j n. other j (InUnit a k) (h.pending a k j n) (λ e. cc);
      pending_once = h.pending_once;
      gets = λ a k j n. bool_case (among ids j) (λ z. IsHeldBy a k (if z then Forced m c u else g.owner j)) (λ z. absurd (unheld_batch a k m c (g.owner j) (mine j z) (h.gets a k j n))) (λ z. h.gets a k j n);
      gets_once = h.gets_once;
      units = h.units;
      unborn = λ j e. other j Unborn (h.unborn j e) (λ e. cc);
      gone = λ j n. other j Gone (h.gone j n) (λ e. cc);
      got = λ j n. other j Gone (h.got j n) (λ e. cc);
      got_once = h.got_once;
      operated_words = λ a d x e q r n. bool_case (among ids r.message.ident) (λ z. among ids r.message.ident ≡ z → (if z then Forced m c u else g.owner r.message.ident) ≡ Forced a d x → Mem (tag_of r.message) (g.sent a d x))
          (λ y z f. let p = forced_same m a c d u x f in subst (λ (l : List Tag). Mem (tag_of r.message) l) (λ i. g.sent (p.0 i) (p.1 i) (p.2 i)) (batch_words w g b h m c u holds e q r n (mine r.message.ident z)))
          (λ y z f. h.operated_words a d x e q r n f) refl;
      persistence =
          let p = h.persistence in
          record {
            flag = p.flag;
            of_row = λ a d y n. p.of_row a d y (old a d y n).0;
            of_put = p.of_put;
            of_unit = λ a e x t z no_ n. p.of_unit a e x t (held_none w m c a e z).1 no_ n;
            of_operated = λ a d x t. bool_case (unit_at m c u a d x) (λ z. (if z then true else g.operated a d x) ≡ true → Mem t (g.sent a d x) → t.lasting ≡ p.flag t.ident)
                (λ e z n. let s = unit_at_yes m c u a d x e in p.of_unit m c u t holds new (subst (λ (l : List Tag). Mem t l) (λ i. g.sent (s.0 i) (s.1 i) (s.2 i)) n))
                (λ e z n. p.of_operated a d x t z n);
          };
      order = order_less (ghost_force g m c u) b.rows (is_young w g) (is_young v (ghost_force g m c u))
          (order_ghost g (ghost_force g m c u) b.rows (is_young w g) h.order (λ a d x z. refl)
          (λ a d r n e. bool_case (among ids r.message.ident) (λ z. among ids r.message.ident ≡ z → (if z then Forced m c u else g.owner r.message.ident) ≡ g.owner r.message.ident)
          (λ z y. absurd (true_false (sym e ∙ ap is_forced (mine r.message.ident y)))) (λ z y. refl) refl))
          (λ a d x z. let y = young_means v (ghost_force g m c u) a d x z in young_so w g a d x y.0 (elim y.1 [
            | inl p ↦ inl ((held_none w m c a d p.0).1, p.1)
            | inr p ↦ bool_case (unit_at m c u a d x) (λ t. unit_at m c u a d x ≡ t → (if t then true else g.operated a d x) ≡ true → ((w.holds a d ≡ Some x) × (w.last a d ≢ x)) ⊎ (g.operated a d x ≡ true))
                (λ k f n. let s = unit_at_yes m c u a d x f in inl (rw (s.0, s.1, s.2) holds, (λ q. new ((λ i. w.last (sym s.0 i) (sym s.1 i)) ∙ q ∙ s.2)))) (λ k f n. inr n) refl p
          ]));
      distinct = λ a d. distinct_keep _ _ (h.distinct a d);
      back = λ a d y n s. let k = old a d y n in
          let far = h.back a d y k.0 (sym (stands_put_down w m c a y.by k.1) ∙ s) in
          bool_case (among ids y.message.ident) (λ z. IsElsewhere a (if z then Forced m c u else g.owner y.message.ident)) (λ z. subst (IsElsewhere a) (mine y.message.ident z) far) (λ z. far);
      same = λ a d.
          ap rows_told (
          ap (keep (is_counted (ghost_force g m c u).owner)) (sym (keep_all (λ r. true) (b.rows a d) (λ r n. refl)))
          ∙ keep_swap (is_counted g.owner) (is_counted (ghost_force g m c u).owner) (λ r. true) (λ r. not (among ids r.message.ident)) (b.rows a d)
          (λ r n. bool_case (among ids r.message.ident) (λ z. not (is_forced (if z then Forced m c u else g.owner r.message.ident)) ≡ (is_counted g.owner r && not z))
          (λ z. sym (and_false (is_counted g.owner r))) (λ z. and_swap true (is_counted g.owner r))))
          ∙ told_keep (λ r. not (among ids r.message.ident)) (λ r. refl) (counted g (b.rows a d))
          ∙ ap (keep (λ r. not (among ids r.message.ident))) (h.same a d)
          ∙ sym (told_keep (λ r. not (among ids r.message.ident)) (λ r. refl) (standing w a d))
          ∙ sym (ap rows_told (keep_swap (row_stands (away w a)) (row_stands (away v a)) (λ y. not (T a y)) (λ r. not (among ids r.message.ident)) (w.rows a d)
          (λ y n. bool_case (T a y) (λ t. T a y ≡ t → (not t && stands (away v a) y.by) ≡ (stands (away w a) y.by && not (among ids y.message.ident)))
          (λ e f. sym (ap (λ z. stands (away w a) y.by && not z) (in_unit a d y n f) ∙ and_false (stands (away w a) y.by)))
          (λ e f. stands_put_down w m c a y.by f ∙ stays_counted (stands (away w a) y.by) (among ids y.message.ident) (λ s z. true_false (sym (batch_claim m a c d y.by (sym (mine y.message.ident z) ∙ h.claims a d y n s)) ∙ f))) refl)));
    }
  where
    some_unit : (x u : Luw) → Some x ≡ Some u → x ≡ u
    some_unit x u e = cc

    stays_counted : (s z : Bool) → (s ≡ true → z ≡ true → ⊥) → s ≡ (s && not z)
    stays_counted true true no_ = absurd (no_ refl refl)
    stays_counted true false no_ = refl
    stays_counted false z no_ = refl

-- rows of a manager that are not persistent go
pub loses : (w : World) (g : Ghost) (b : Book) (m : ℕ) → Inv w g b → Inv (lose w m) g (book_lose b m)
loses w g b m h =
    let old : (a : ℕ) (d : List ℕ) (y : Row) → Mem y ((lose w m).rows a d) → Mem y (w.rows a d) = λ a d y n. (mem_keep _ y (w.rows a d) n).0 in
    let lasts : (a : ℕ) (t : Tag) (r : Row) → tag_of r.message ≡ t → t.lasting ≡ true → not (is_lost m a r) ≡ true = λ a t r e l.
    let p : is_persistent r.message ≡ true = ap (λ (t : Tag). t.lasting) e ∙ l in rw p (ap not (and_false (a == m))) in
    record {
      sorted = λ a d. sorted_keep _ _ (h.sorted a d);
      shelved = λ a d. sorted_keep _ _ (h.shelved a d);
      claims = λ a d y n s. h.claims a d y (old a d y n) s;
      taken = λ a d y k n e. h.taken a d y k (old a d y n) e;
      batch = λ a d y e n by_. h.batch a d y e (old a d y n) by_;
      live = h.live;
      present = λ a e u t z no_ n l. let s = h.present a e u t z no_ n l in record { row = s.row; there = mem_kept _ s.row _ s.there (lasts a t s.row s.tag l); by = s.by; tag = s.tag };
      sent_once = h.sent_once;
      operated = h.operated;
      operated_there = λ a d u t z n l. let p = h.operated_there a d u t z n l in record { queue = p.queue; row = p.row; there = mem_kept _ p.row _ p.there (lasts a t p.row p.tag l); tag = p.tag };
      operated_once = h.operated_once;
      forced = h.forced;
      pending = h.pending;
      pending_once = h.pending_once;
      gets = h.gets;
      gets_once = h.gets_once;
      units = h.units;
      unborn = h.unborn;
      gone = h.gone;
      got = h.got;
      got_once = h.got_once;
      operated_words = λ a d u e q r n z. h.operated_words a d u e q r (mem_keep _ r (b.rows e q) n).0 z;
      persistence = persists w.rows (lose w m).rows w.units w.units w.holds w.last g.sent g.operated h.persistence (λ a d y n. (y, old a d y n, refl)) (λ a k q message n. n);
      order = order_keep g b.rows (is_young w g) (λ a d r. not (is_lost m a r)) h.order;
      distinct = λ a d. distinct_keep _ _ (h.distinct a d);
      back = λ a d y n s. h.back a d y (old a d y n) s;
      same = λ a d.
          ap rows_told (keep_swap (is_counted g.owner) (is_counted g.owner) (λ r. not (is_lost m a r)) (λ r. not (is_lost m a r)) (b.rows a d) (λ r n. and_swap (not (is_lost m a r)) (is_counted g.owner r)))
          ∙ told_keep (λ r. not (is_lost m a r)) (λ r. refl) (counted g (b.rows a d))
          ∙ ap (keep (λ r. not (is_lost m a r))) (h.same a d)
          ∙ sym (told_keep (λ r. not (is_lost m a r)) (λ r. refl) (standing w a d))
          ∙ sym (ap rows_told (keep_swap (row_stands (away w a)) (row_stands (away w a)) (λ r. not (is_lost m a r)) (λ r. not (is_lost m a r)) (w.rows a d) (λ r n. and_swap (not (is_lost m a r)) (stands (away w a) r.by))));
    }

-- What a commit rests on: the unit is held and in doubt, or an operator has committed it.
pub commits_held : (w : World) (g : Ghost) (b : Book) (m : ℕ) (c : List ℕ) (u : Luw) (t : ℕ) → Inv w g b → t ≢ m → w.holds m c ≡ Some u → w.doubt m c ≡ true → w.last m c ≢ u → Commits w g m c u t
commits_held w g b m c u t h far holds doubt new =
    let flag : awaits w m c u ≡ true = rw (doubt, holds) (unit_self u) in
    record {
      apart = far;
      new = not_last (w.doubt m c) (w.holds m c) (w.last m c) (λ x e z. new (z ∙ some_unit x u (sym e ∙ holds)));
      mine = λ i n. let k = map_mem (λ (t : Tag). t.ident) i (g.sent m c u) n in rw flag (ap g.owner k.2 ∙ h.live m c u k.0 holds new k.1);
      others = λ x e z. new (z ∙ some_unit x u (sym e ∙ holds));
      once = h.sent_once m c u holds;
    }
  where
    some_unit : (x u : Luw) → Some x ≡ Some u → x ≡ u
    some_unit x u e = cc

pub commits_operated : (w : World) (g : Ghost) (b : Book) (m : ℕ) (c : List ℕ) (u : Luw) (t : ℕ) → Inv w g b → t ≢ m → g.operated m c u ≡ true
    → ((x : Luw) → w.holds m c ≡ Some x → (w.last m c ≢ x) × (x ≢ u)) → Commits w g m c u t
commits_operated w g b m c u t h far done others =
    let flag : awaits w m c u ≡ false = not_last (w.doubt m c) (w.holds m c) u (λ x e z. (others x e).1 (sym z)) in
    record {
      apart = far;
      new = not_last (w.doubt m c) (w.holds m c) (w.last m c) (λ x e. (others x e).0);
      mine = λ i n. let k = map_mem (λ (t : Tag). t.ident) i (g.sent m c u) n in rw flag (ap g.owner k.2 ∙ h.operated m c u k.0 done k.1);
      others = λ x e. (others x e).0;
      once = h.operated_once m c u done;
    }
