-- Batches that are held, prepared, released and settled keep the facts; so do rows that a stop loses.
use Rattle.std.proofs.Common.{ℕ, ◌≡◌, ◌≢◌, Bool, true, false, not, List, [], ◌∷◌, refl, ap, sym, subst, ◌∙◌, arith, inl, inr}
use Rattle.std.specs.Prelude.{Option, Some, None, ◌==◌, if◌then◌else◌, ◌&&◌}
use Rattle.std.proofs.lemmas.Bool.Decides.{nat_tests}
use Rattle.mq_message.specs.declared.message.Ident.{Ident}
use Rattle.mq_message.specs.declared.place.Holder.{Holder}
use Rattle.mq_message.specs.declared.place.Holder.TheVariants as holders
use Rattle.mq_queue.specs.declared.row.Row.{Row}
use Rattle.mq_queue.specs.Rows.{retag, held_by}
use Rattle.mq_sync.specs.declared.unit.Unit.{Unit as Luw}
use Rattle.mq_sync.specs.Units.{same_unit}
use Rattle.mq_calls.specs.Changes.{release_if}
use Rattle.mq_spec_network.specs.Story.{Mem}
use Rattle.mq_spec_network.specs.Promised.{AreDistinct}
use Rattle.mq_spec_network.specs.Standing.{row_told, rows_told}
use Rattle.mq_law_rows.specs.Families.{is_here, put_at}
use Rattle.mq_law_rows.specs.World.{World, Book, Ghost, Tag, Owner, Unborn, At, HeldBy, InBatch, Forced, InUnit, InHand, Gone, tag_of, ident_of, idents_in, is_last, away, stands, row_stands, is_forced, is_young, claim, IsHeldBy, IsElsewhere, got_idents, Inv}
use Rattle.mq_law_rows.specs.Kinds.{after, has_batch, release_batch, freed}
use Rattle.mq_law_rows.proofs.Young.{order_less, order_ghost, young_means, young_so}
use Rattle.mq_law_rows.proofs.Lasting.{row_flag}
use Rattle.mq_law_rows.proofs.Lists.{true_false, and_false, and_right, and_left, eqb_self, eqb_yes, name_yes, name_self, bool_case, is_false, here_yes, here_self, mem_retag, mem_retagged, sorted_retag, keep_same, keep_retag}

-- Rows with another holder

pub release_place : (t k : Bool) (x : Row) → (release_if t k x).place ≡ x.place
release_place true true x = refl
release_place true false x = refl
release_place false k x = refl

pub release_told : (t k : Bool) (x : Row) → row_told (release_if t k x) ≡ row_told x
release_told true true x = refl
release_told true false x = refl
release_told false k x = refl

pub release_tag : (t k : Bool) (x : Row) → tag_of (release_if t k x).message ≡ tag_of x.message
release_tag true true x = refl
release_tag true false x = refl
release_tag false k x = refl

pub release_ident : (t k : Bool) (x : Row) → (release_if t k x).message.ident ≡ x.message.ident
release_ident t k x = ap (λ (s : Tag). s.ident) (release_tag t k x)

pub released : (t k : Bool) (x : Row) → t ≡ true → (release_if t k x).by ≡ None
released true true x e = refl
released true false x e = refl
released false k x e = absurd cc

pub unreleased : (t k : Bool) (x : Row) → t ≡ false → (release_if t k x).by ≡ x.by
unreleased true k x e = absurd cc
unreleased false k x e = refl

pub retag_idents : (g : Row → Row) → ((x : Row) → (g x).message.ident ≡ x.message.ident) → (xs : List Row) → idents_in (retag g xs) ≡ idents_in xs
retag_idents g same [] = refl
retag_idents g same (x ∷ xs) = (λ i. same x i ∷ idents_in (retag g xs)) ∙ ap (λ (is : List Ident). x.message.ident ∷ is) (retag_idents g same xs)

-- The test for a batch

pub batch_yes : (a m : ℕ) (c : List ℕ) (x : Option Holder) → ((a == m) && held_by (holders.Batch c) x) ≡ true → (a ≡ m) × (x ≡ Some (holders.Batch c))
batch_yes a m c None e = absurd (true_false (sym e ∙ and_false (a == m)))
batch_yes a m c (Some (holders.Unit k)) e = absurd (true_false (sym e ∙ and_false (a == m)))
batch_yes a m c (Some (holders.Batch d)) e = (eqb_yes a m (and_left (a == m) _ e), ap (λ z. Some (holders.Batch z)) (sym (name_yes c d (and_right (a == m) _ e))))

pub batch_no : (a m : ℕ) (c d : List ℕ) (x : Option Holder) → ((a == m) && held_by (holders.Batch c) x) ≡ false → x ≡ Some (holders.Batch d) → is_here m c a d ≡ false
batch_no a m c d x e by_ = is_false _ (λ h. let p = here_yes m c a d h in
    true_false (sym (rw (p.0, eqb_self m, by_, p.1) (name_self c)) ∙ e))

pub batch_other : (a m : ℕ) (c d : List ℕ) → is_here m c a d ≡ false → ((a == m) && held_by (holders.Batch c) (Some (holders.Batch d))) ≡ false
batch_other a m c d e = is_false _ (λ h. let p = batch_yes a m c (Some (holders.Batch d)) h in
    let n : holders.Batch d ≡ holders.Batch c = cc (p.1) in
    let q : d ≡ c = cc in
    true_false (sym (rw (p.0, q) (here_self m c)) ∙ e))

-- a batch that is not its receiver's last unit is not away
pub not_last : (d : Bool) (o : Option Luw) (l : Luw) → ((u : Luw) → o ≡ Some u → l ≢ u) → (d && is_last o l) ≡ false
not_last d None l no_ = and_false d
not_last d (Some u) l no_ = is_false _ (λ e. no_ u refl (sym (unit_yes u l (and_right d _ e))))
  where
    unit_yes : (u v : Luw) → same_unit u v ≡ true → u ≡ v
    unit_yes u v e = grind (arith, nat_tests)

-- which batches are away, where one is put down
pub put_down : (w : World) (m : ℕ) (c : List ℕ) (a : ℕ) (d : List ℕ) → is_here m c a d ≡ false → (put_at w.doubt m c false a d && is_last (put_at w.holds m c None a d) (w.last a d)) ≡ away w a d
put_down w m c a d e = rw e refl

pub put_down_here : (w : World) (m : ℕ) (c : List ℕ) (a : ℕ) (d : List ℕ) → is_here m c a d ≡ true → (put_at w.doubt m c false a d && is_last (put_at w.holds m c None a d) (w.last a d)) ≡ false
put_down_here w m c a d e = rw e refl

pub held_none : (w : World) (m : ℕ) (c : List ℕ) (a : ℕ) (d : List ℕ) {u : Luw} → put_at w.holds m c None a d ≡ Some u → (is_here m c a d ≡ false) × (w.holds a d ≡ Some u)
held_none w m c a d {u} = bool_case (is_here m c a d) (λ t. (if t then None else w.holds a d) ≡ Some u → (t ≡ false) × (w.holds a d ≡ Some u)) (λ e z. absurd cc) (λ e z. (refl, z))

freed_keeps : (g : Ghost) (m : ℕ) (c : List ℕ) (j : Ident) (o : Owner) → is_forced o ≡ true → freed g m c j o ≡ o
freed_keeps g m c j (Forced a d u) z = refl
freed_keeps g m c j (InBatch a d) z = absurd cc
freed_keeps g m c j (At a q) z = refl
freed_keeps g m c j (HeldBy a q k) z = refl
freed_keeps g m c j (InUnit a k) z = refl
freed_keeps g m c j (InHand a) z = refl
freed_keeps g m c j Unborn z = refl
freed_keeps g m c j Gone z = refl

freed_free : (g : Ghost) (m : ℕ) (c : List ℕ) (j : Ident) (o : Owner) → is_forced (freed g m c j o) ≡ is_forced o
freed_free g m c j (InBatch a d) = bool_case (is_here m c a d) (λ t. is_forced (if t then At m (g.source m c) else InBatch a d) ≡ false) (λ e. refl) (λ e. refl)
freed_free g m c j (At a q) = refl
freed_free g m c j (HeldBy a q k) = refl
freed_free g m c j (Forced a d u) = refl
freed_free g m c j (InUnit a k) = refl
freed_free g m c j (InHand a) = refl
freed_free g m c j Unborn = refl
freed_free g m c j Gone = refl

freed_forced : (g : Ghost) (m : ℕ) (c : List ℕ) (j : Ident) (o : Owner) (b : ℕ) (f : List ℕ) (u : Luw) → freed g m c j o ≡ Forced b f u → o ≡ Forced b f u
freed_forced g m c j (InBatch a d) b f u = bool_case (is_here m c a d) (λ t. (if t then At m (g.source m c) else InBatch a d) ≡ Forced b f u → InBatch a d ≡ Forced b f u) (λ e z. absurd cc) (λ e z. z)
freed_forced g m c j (At a q) b f u = λ e. e
freed_forced g m c j (HeldBy a q k) b f u = λ e. e
freed_forced g m c j (Forced a d v) b f u = λ e. e
freed_forced g m c j (InUnit a k) b f u = λ e. e
freed_forced g m c j (InHand a) b f u = λ e. e
freed_forced g m c j Unborn b f u = λ e. e
freed_forced g m c j Gone b f u = λ e. e

freed_far : (g : Ghost) (m : ℕ) (c : List ℕ) (j : Ident) (b : ℕ) (o : Owner) → IsElsewhere b o → IsElsewhere b (freed g m c j o)
freed_far g m c j b (InBatch a d) n = bool_case (is_here m c a d) (λ t. IsElsewhere b (if t then At m (g.source m c) else InBatch a d)) (λ e z. n ((here_yes m c a d e).0 ∙ z)) (λ e. n)
freed_far g m c j b (At a q) n = n
freed_far g m c j b (HeldBy a q k) n = n
freed_far g m c j b (Forced a d u) n = n
freed_far g m c j b (InUnit a k) n = n
freed_far g m c j b (InHand a) n = n
freed_far g m c j b Unborn n = n
freed_far g m c j b Gone n = n

freed_held : (g : Ghost) (m : ℕ) (c : List ℕ) (j : Ident) (a k : ℕ) (o : Owner) → IsHeldBy a k o → IsHeldBy a k (freed g m c j o)
freed_held g m c j a k (HeldBy b q d) n = n
freed_held g m c j a k (At b q) n = absurd n
freed_held g m c j a k (InBatch b d) n = absurd n
freed_held g m c j a k (Forced b d u) n = absurd n
freed_held g m c j a k (InUnit b d) n = absurd n
freed_held g m c j a k (InHand b) n = absurd n
freed_held g m c j a k Unborn n = absurd n
freed_held g m c j a k Gone n = absurd n

-- what another holder has is left as it is
freed_claim : (g : Ghost) (m : ℕ) (c : List ℕ) (j : Ident) (a : ℕ) (d : List ℕ) (x : Option Holder) → ((a == m) && held_by (holders.Batch c) x) ≡ false → freed g m c j (claim a d x) ≡ claim a d x
freed_claim g m c j a d None e = refl
freed_claim g m c j a d (Some (holders.Unit k)) e = refl
freed_claim g m c j a d (Some (holders.Batch f)) e = rw (batch_no a m c f (Some (holders.Batch f)) e refl) refl

pub stands_put_down : (w : World) (m : ℕ) (c : List ℕ) (a : ℕ) (x : Option Holder) → ((a == m) && held_by (holders.Batch c) x) ≡ false
    → stands (λ d. put_at w.doubt m c false a d && is_last (put_at w.holds m c None a d) (w.last a d)) x ≡ stands (away w a) x
stands_put_down w m c a None e = refl
stands_put_down w m c a (Some (holders.Unit k)) e = refl
stands_put_down w m c a (Some (holders.Batch d)) e = ap not (put_down w m c a d (batch_no a m c d (Some (holders.Batch d)) e refl))

pub releases_batch : (w : World) (g : Ghost) (b : Book) (m : ℕ) (c : List ℕ) (back : Bool) → Inv w g b → ((u : Luw) → w.holds m c ≡ Some u → w.last m c ≢ u)
    → Inv (release_batch w m c back) (after g (freed g m c)) b
releases_batch w g b m c back h no_ =
    let v : World = release_batch w m c back in
    let T : ℕ → Row → Bool = λ a x. has_batch m c a x in
    let G : ℕ → Row → Row = λ a x. release_if (T a x) back x in
    let near : away w m c ≡ false = not_last (w.doubt m c) (w.holds m c) (w.last m c) no_ in
    let same_ident_ : (a : ℕ) (x : Row) → (G a x).message.ident ≡ x.message.ident = λ a x. release_ident (T a x) back x in
    let stood : (a : ℕ) (x : Row) → stands (away v a) (G a x).by ≡ stands (away w a) x.by = λ a x.
    bool_case (T a x) (λ t. T a x ≡ t → stands (away v a) (release_if t back x).by ≡ stands (away w a) x.by)
    (λ e f. let p = batch_yes a m c x.by e in ap (stands (away v a)) (released true back x refl) ∙ sym (rw (p.1, p.0) (ap not near)))
    (λ e f. stands_put_down w m c a x.by f) refl in
    let by_of : (a : ℕ) (x : Row) (o : Holder) → (G a x).by ≡ Some o → (T a x ≡ false) × (x.by ≡ Some o) = λ a x o.
    bool_case (T a x) (λ t. (release_if t back x).by ≡ Some o → (t ≡ false) × (x.by ≡ Some o))
    (λ e z. absurd (cc (released true back x refl, z))) (λ e z. (refl, z)) in
    record {
      sorted = λ a d. sorted_retag (G a) (λ x. release_place (T a x) back x) (w.rows a d) (h.sorted a d);
      shelved = h.shelved;
      claims = λ a d y n s. let r = mem_retag (G a) y (w.rows a d) n in
          let x : Row = r.0 in
          let i : y.message.ident ≡ x.message.ident = ap ident_of r.2 ∙ same_ident_ a x in
          let st : stands (away w a) x.by ≡ true = sym (stood a x) ∙ ap (λ (z : Row). stands (away v a) z.by) (sym r.2) ∙ s in
          let cl : g.owner y.message.ident ≡ claim a d x.by = ap g.owner i ∙ h.claims a d x r.1 st in
          ap (freed g m c y.message.ident) cl ∙ bool_case (T a x) (λ t. T a x ≡ t → freed g m c y.message.ident (claim a d x.by) ≡ claim a d y.by)
          (λ e f. let p = batch_yes a m c x.by e in
          let none : y.by ≡ None = ap (λ (z : Row). z.by) r.2 ∙ released (T a x) back x f in
          let src : d ≡ g.source a c = (h.batch a d x c r.1 p.1).0 in
          ap (λ z. freed g m c y.message.ident (claim a d z)) p.1
          ∙ ap (λ t. if t then At m (g.source m c) else InBatch a c) (ap (λ z. is_here m c z c) p.0 ∙ here_self m c)
          ∙ (λ i. At (sym p.0 i) ((ap (λ z. g.source z c) (sym p.0) ∙ sym src) i))
          ∙ ap (claim a d) (sym none))
          (λ e f. freed_claim g m c y.message.ident a d x.by f ∙ ap (claim a d) (sym (ap (λ (z : Row). z.by) r.2 ∙ unreleased (T a x) back x f))) refl;
      taken = λ a d y k n e. let r = mem_retag (G a) y (w.rows a d) n in
          let p = by_of a r.0 (holders.Unit k) (ap (λ (z : Row). z.by) (sym r.2) ∙ e) in
          subst (λ j. Mem j (got_idents (w.units a k))) (sym (ap ident_of r.2 ∙ same_ident_ a r.0)) (h.taken a d r.0 k r.1 p.1);
      batch = λ a d y e n by_. let r = mem_retag (G a) y (w.rows a d) n in
          let p = by_of a r.0 (holders.Batch e) (ap (λ (z : Row). z.by) (sym r.2) ∙ by_) in
          let q = h.batch a d r.0 e r.1 p.1 in
          let out : is_here m c a e ≡ false = batch_no a m c e r.0.by p.0 p.1 in
          let tag : tag_of y.message ≡ tag_of r.0.message = ap (λ (z : Row). tag_of z.message) r.2 ∙ release_tag (T a r.0) back r.0 in
          (q.0, (λ z. q.1 (sym (ap (λ t. if t then None else w.holds a e) out) ∙ z)), (λ u z. subst (λ (t : Tag). Mem t (g.sent a e u)) (sym tag) (q.2 u (held_none w m c a e z).1)));
      live = λ a e u t z no2 n. let p = held_none w m c a e z in ap (freed g m c t.ident) (h.live a e u t p.1 no2 n) ∙ ap (λ t. if t then At m (g.source m c) else InBatch a e) p.0;
      present = λ a e u t z no2 n l. let p = held_none w m c a e z in
          let s = h.present a e u t p.1 no2 n l in
          let out : T a s.row ≡ false = ap (λ z. (a == m) && held_by (holders.Batch c) z) s.by ∙ batch_other a m c e p.0 in
          record { row = G a s.row; there = mem_retagged (G a) s.row (w.rows a (g.source a e)) s.there; by = unreleased (T a s.row) back s.row out ∙ s.by; tag = release_tag (T a s.row) back s.row ∙ s.tag };
      sent_once = λ a e u z. h.sent_once a e u (held_none w m c a e z).1;
      operated = λ a e u t z n. ap (freed g m c t.ident) (h.operated a e u t z n);
      operated_there = h.operated_there;
      operated_once = h.operated_once;
      forced = λ a d u j e. h.forced a d u j (freed_forced g m c j (g.owner j) a d u e);
      pending = λ a k j n. ap (freed g m c j) (h.pending a k j n);
      pending_once = h.pending_once;
      gets = λ a k j n. freed_held g m c j a k (g.owner j) (h.gets a k j n);
      gets_once = h.gets_once;
      units = h.units;
      unborn = λ j e. ap (freed g m c j) (h.unborn j e);
      gone = λ j n. ap (freed g m c j) (h.gone j n);
      got = λ j n. ap (freed g m c j) (h.got j n);
      got_once = h.got_once;
      operated_words = λ a d u e q r n z. h.operated_words a d u e q r n (freed_forced g m c r.message.ident (g.owner r.message.ident) a d u z);
      persistence =
          let p = h.persistence in
          record {
            flag = p.flag;
            of_row = λ a d y n. let r = mem_retag (G a) y (w.rows a d) n in row_flag p.flag r.0 y (ap (λ (z : Row). tag_of z.message) r.2 ∙ release_tag (T a r.0) back r.0) (p.of_row a d r.0 r.1);
            of_put = p.of_put;
            of_unit = λ a e u t z no2 n. p.of_unit a e u t (held_none w m c a e z).1 no2 n;
            of_operated = p.of_operated;
          };
      order = order_less (after g (freed g m c)) b.rows (is_young w g) (is_young v (after g (freed g m c)))
          (order_ghost g (after g (freed g m c)) b.rows (is_young w g) h.order (λ a d u z. refl) (λ a d r n e. freed_keeps g m c r.message.ident (g.owner r.message.ident) e))
          (λ a d x z. let y = young_means v (after g (freed g m c)) a d x z in young_so w g a d x y.0 (elim y.1 [ inl p ↦ inl ((held_none w m c a d p.0).1, p.1) | inr p ↦ inr p ]));
      distinct = λ a d. subst AreDistinct (sym (retag_idents (G a) (same_ident_ a) (w.rows a d))) (h.distinct a d);
      back = λ a d y n s. let r = mem_retag (G a) y (w.rows a d) n in
          let st : stands (away w a) r.0.by ≡ false = sym (stood a r.0) ∙ ap (λ (z : Row). stands (away v a) z.by) (sym r.2) ∙ s in
          let i : r.0.message.ident ≡ y.message.ident = sym (ap ident_of r.2 ∙ same_ident_ a r.0) in
          freed_far g m c y.message.ident a (g.owner y.message.ident) (subst (λ j. IsElsewhere a (g.owner j)) i (h.back a d r.0 r.1 st));
      same = λ a d.
          ap rows_told (keep_same _ _ (b.rows a d) (λ x n. ap not (freed_free g m c x.message.ident (g.owner x.message.ident))))
          ∙ h.same a d
          ∙ sym (keep_retag (row_stands (away w a)) (row_stands (away v a)) (G a) (w.rows a d) (λ x n. stood a x) (λ x. release_told (T a x) back x));
    }
