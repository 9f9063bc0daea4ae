-- A manager's units are backed out, all at once: the facts are kept.
use Rattle.std.proofs.Common.{ℕ, ◌≡◌, Bool, true, false, not, List, [], refl, ap, sym, subst, ◌∙◌}
use Rattle.std.specs.Prelude.{Option, Some, None, ◌==◌, if◌then◌else◌, ◌&&◌}
use Rattle.mq_message.specs.declared.message.Ident.{Ident}
use Rattle.mq_message.specs.declared.place.Holder.{Holder}
use Rattle.mq_message.specs.declared.place.Holder.TheVariants as holders
use Rattle.mq_queue.specs.declared.row.Row.{Row}
use Rattle.mq_queue.specs.Rows.{is_by_unit}
use Rattle.mq_sync.specs.declared.unit.Unit.{Unit as Luw}
use Rattle.mq_calls.specs.Changes.{release_if}
use Rattle.mq_law_seen.specs.from_spec_network.Story.{Mem}
use Rattle.mq_law_seen.specs.from_spec_network.Promised.{AreDistinct}
use Rattle.mq_law_seen.specs.from_spec_network.Standing.{rows_told}
use Rattle.mq_law_seen.specs.from_law_rows.World.{World, Book, Ghost, Tag, Owner, Unborn, At, HeldBy, InBatch, Forced, InUnit, InHand, Gone, tag_of, ident_of, away, stands, row_stands, is_forced, is_young, claim, IsHeldBy, IsElsewhere, put_idents, got_idents, items_told, Inv}
use Rattle.mq_calls.specs.declared.state.Item.TheVariants.{Put}
use Rattle.mq_law_seen.specs.from_law_rows.Kinds.{after}
use Rattle.mq_law_seen.proofs.from_law_rows.Young.{order_ghost}
use Rattle.mq_law_seen.proofs.from_law_rows.Lasting.{lasts}
use Rattle.mq_law_seen.proofs.from_law_rows.Lists.{true_false, and_false, and_left, eqb_self, eqb_yes, bool_case, is_false, mem_retag, mem_retagged, sorted_retag, keep_same, keep_retag}
use Rattle.mq_law_seen.proofs.from_law_rows.Batches.{retag_idents, release_place, release_told, release_tag, release_ident, released, unreleased}
use Rattle.mq_law_events.specs.Rests.{has_units, back_out_all, book_out_all, rested}

unit_of_ : (a m : ℕ) (x : Option Holder) → ((a == m) && is_by_unit x) ≡ true → (k : ℕ) × (a ≡ m) × (x ≡ Some (holders.Unit k))
unit_of_ a m None e = absurd (true_false (sym e ∙ and_false (a == m)))
unit_of_ a m (Some (holders.Batch d)) e = absurd (true_false (sym e ∙ and_false (a == m)))
unit_of_ a m (Some (holders.Unit d)) e = (d, eqb_yes a m (and_left (a == m) _ e), refl)

unit_here : (a m k : ℕ) (x : Option Holder) → (a == m) ≡ true → x ≡ Some (holders.Unit k) → ((a == m) && is_by_unit x) ≡ true
unit_here a m k x e f = rw (e, f) refl

rested_free : (m : ℕ) (j : Ident) (o : Owner) → is_forced (rested m j o) ≡ is_forced o
rested_free m j (HeldBy a q e) = bool_case (a == m) (λ t. is_forced (if t then At a q else HeldBy a q e) ≡ false) (λ z. refl) (λ z. refl)
rested_free m j (InUnit a e) = bool_case (a == m) (λ t. is_forced (if t then Gone else InUnit a e) ≡ false) (λ z. refl) (λ z. refl)
rested_free m j (At a q) = refl
rested_free m j (InBatch a d) = refl
rested_free m j (Forced a d u) = refl
rested_free m j (InHand a) = refl
rested_free m j Unborn = refl
rested_free m j Gone = refl

rested_forced : (m : ℕ) (j : Ident) (o : Owner) (a : ℕ) (d : List ℕ) (u : Luw) → rested m j o ≡ Forced a d u → o ≡ Forced a d u
rested_forced m j (HeldBy b q e) a d u = bool_case (b == m) (λ t. (if t then At b q else HeldBy b q e) ≡ Forced a d u → HeldBy b q e ≡ Forced a d u) (λ z y. absurd cc) (λ z y. y)
rested_forced m j (InUnit b e) a d u = bool_case (b == m) (λ t. (if t then Gone else InUnit b e) ≡ Forced a d u → InUnit b e ≡ Forced a d u) (λ z y. absurd cc) (λ z y. y)
rested_forced m j (At b q) a d u = λ e. e
rested_forced m j (InBatch b c) a d u = λ e. e
rested_forced m j (Forced b c v) a d u = λ e. e
rested_forced m j (InHand b) a d u = λ e. e
rested_forced m j Unborn a d u = λ e. e
rested_forced m j Gone a d u = λ e. e

rested_far : (m : ℕ) (j : Ident) (c : ℕ) (o : Owner) → IsElsewhere c o → IsElsewhere c (rested m j o)
rested_far m j c (HeldBy a q e) n = bool_case (a == m) (λ t. IsElsewhere c (if t then At a q else HeldBy a q e)) (λ z. n) (λ z. n)
rested_far m j c (InUnit a e) n = bool_case (a == m) (λ t. IsElsewhere c (if t then Gone else InUnit a e)) (λ z. tt) (λ z. n)
rested_far m j c (At a q) n = n
rested_far m j c (InBatch a d) n = n
rested_far m j c (Forced a d u) n = n
rested_far m j c (InHand a) n = n
rested_far m j c Unborn n = n
rested_far m j c Gone n = n

rested_held : (m : ℕ) (j : Ident) (a e : ℕ) (o : Owner) → (a == m) ≡ false → IsHeldBy a e o → IsHeldBy a e (rested m j o)
rested_held m j a e (HeldBy b q d) z n = subst (IsHeldBy a e) (sym (ap (λ t. if t then At b q else HeldBy b q d) (ap (λ x. x == m) n.0 ∙ z))) n
rested_held m j a e (InUnit b d) z n = absurd n
rested_held m j a e (At b q) z n = absurd n
rested_held m j a e (InBatch b d) z n = absurd n
rested_held m j a e (Forced b d u) z n = absurd n
rested_held m j a e (InHand b) z n = absurd n
rested_held m j a e Unborn z n = absurd n
rested_held m j a e Gone z n = absurd n

rested_keeps : (m : ℕ) (j : Ident) (o : Owner) → is_forced o ≡ true → rested m j o ≡ o
rested_keeps m j (Forced a d u) z = refl
rested_keeps m j (HeldBy a q e) z = absurd cc
rested_keeps m j (InUnit a e) z = absurd cc
rested_keeps m j (At a q) z = refl
rested_keeps m j (InBatch a d) z = refl
rested_keeps m j (InHand a) z = refl
rested_keeps m j Unborn z = refl
rested_keeps m j Gone z = refl

rested_claim : (m : ℕ) (j : Ident) (a : ℕ) (d : List ℕ) (x : Option Holder) → ((a == m) && is_by_unit x) ≡ false → rested m j (claim a d x) ≡ claim a d x
rested_claim m j a d None e = refl
rested_claim m j a d (Some (holders.Batch f)) e = refl
rested_claim m j a d (Some (holders.Unit f)) e = ap (λ t. if t then At a d else HeldBy a d f) (is_false (a == m) (λ z. true_false (sym (unit_here a m f (Some (holders.Unit f)) z refl) ∙ e)))

pub backs_out_all : (w : World) (g : Ghost) (b : Book) (m : ℕ) (back : Bool) → Inv w g b → Inv (back_out_all w m back) (after g (rested m)) (book_out_all b m)
backs_out_all w g b m back h =
    let T : ℕ → Row → Bool = λ a y. has_units m a y in
    let G : ℕ → Row → Row = λ a y. release_if (T a y) back y in
    let same_ident_ : (a : ℕ) (y : Row) → (G a y).message.ident ≡ y.message.ident = λ a y. release_ident (T a y) back y in
    let stood : (a : ℕ) (y : Row) → stands (away w a) (G a y).by ≡ stands (away w a) y.by = λ a y.
    bool_case (T a y) (λ t. T a y ≡ t → stands (away w a) (release_if t back y).by ≡ stands (away w a) y.by)
    (λ e f. ap (stands (away w a)) (released true back y refl) ∙ sym (ap (stands (away w a)) (unit_of_ a m y.by f).2)) (λ e f. refl) refl in
    let by_of : (a : ℕ) (y : Row) (o : Holder) → (G a y).by ≡ Some o → (T a y ≡ false) × (y.by ≡ Some o) = λ a y o.
    bool_case (T a y) (λ t. (release_if t back y).by ≡ Some o → (t ≡ false) × (y.by ≡ Some o)) (λ e z. absurd (cc (released true back y refl, z))) (λ e z. (refl, z)) in
    record {
      sorted = λ a d. sorted_retag (G a) (λ y. release_place (T a y) back y) (w.rows a d) (h.sorted a d);
      shelved = h.shelved;
      claims = λ a d y n s. let r = mem_retag (G a) y (w.rows a d) n in
          let x : Row = r.0 in
          let i : y.message.ident ≡ x.message.ident = ap ident_of r.2 ∙ same_ident_ a x in
          let st : stands (away w a) x.by ≡ true = sym (stood a x) ∙ ap (λ (z : Row). stands (away w a) z.by) (sym r.2) ∙ s in
          let cl : g.owner y.message.ident ≡ claim a d x.by = ap g.owner i ∙ h.claims a d x r.1 st in
          ap (rested m y.message.ident) cl ∙ bool_case (T a x) (λ t. T a x ≡ t → rested m y.message.ident (claim a d x.by) ≡ claim a d y.by)
          (λ e f. let p = unit_of_ a m x.by f in
          let none : y.by ≡ None = ap (λ (z : Row). z.by) r.2 ∙ released (T a x) back x f in
          ap (λ z. rested m y.message.ident (claim a d z)) p.2
          ∙ ap (λ t. if t then At a d else HeldBy a d p.0) (ap (λ z. z == m) p.1 ∙ eqb_self m)
          ∙ ap (claim a d) (sym none))
          (λ e f. rested_claim m y.message.ident a d x.by f ∙ ap (claim a d) (sym (ap (λ (z : Row). z.by) r.2 ∙ unreleased (T a x) back x f))) refl;
      taken = λ a d y e n by_. let r = mem_retag (G a) y (w.rows a d) n in
          let p = by_of a r.0 (holders.Unit e) (ap (λ (z : Row). z.by) (sym r.2) ∙ by_) in
          let i : r.0.message.ident ≡ y.message.ident = sym (ap ident_of r.2 ∙ same_ident_ a r.0) in
          bool_case (a == m) (λ t. (a == m) ≡ t → Mem y.message.ident (got_idents (if t then [] else w.units a e)))
          (λ z q. absurd (true_false (sym (unit_here a m e r.0.by q p.1) ∙ p.0)))
          (λ z q. subst (λ j. Mem j (got_idents (w.units a e))) i (h.taken a d r.0 e r.1 p.1)) refl;
      batch = λ a d y e n by_. let r = mem_retag (G a) y (w.rows a d) n in
          let p = by_of a r.0 (holders.Batch e) (ap (λ (z : Row). z.by) (sym r.2) ∙ by_) in
          let f = h.batch a d r.0 e r.1 p.1 in
          let tag : tag_of r.0.message ≡ tag_of y.message = sym (ap (λ (z : Row). tag_of z.message) r.2 ∙ release_tag (T a r.0) back r.0) in
          (f.0, f.1, (λ u z. subst (λ (t : Tag). Mem t (g.sent a e u)) tag (f.2 u z)));
      live = λ a d u t z no_ n. ap (rested m t.ident) (h.live a d u t z no_ n);
      present = λ a d u t z no_ n l. let s = h.present a d u t z no_ n l in
          let out : T a s.row ≡ false = ap (λ z. (a == m) && is_by_unit z) s.by ∙ and_false (a == m) in
          record { row = G a s.row; there = mem_retagged (G a) s.row (w.rows a (g.source a d)) s.there; by = unreleased (T a s.row) back s.row out ∙ s.by; tag = release_tag (T a s.row) back s.row ∙ s.tag };
      sent_once = h.sent_once;
      operated = λ a d u t z n. ap (rested m t.ident) (h.operated a d u t z n);
      operated_there = h.operated_there;
      operated_once = h.operated_once;
      forced = λ a d u j e. h.forced a d u j (rested_forced m j (g.owner j) a d u e);
      pending = λ a e j. bool_case (a == m) (λ t. (a == m) ≡ t → Mem j (put_idents (if t then [] else w.units a e)) → rested m j (g.owner j) ≡ InUnit a e) (λ z f n. absurd n)
          (λ z f n. ap (rested m j) (h.pending a e j n) ∙ ap (λ t. if t then Gone else InUnit a e) f) refl;
      pending_once = λ a e. bool_case (a == m) (λ t. AreDistinct (put_idents (if t then [] else w.units a e))) (λ z. tt) (λ z. h.pending_once a e);
      gets = λ a e j. bool_case (a == m) (λ t. (a == m) ≡ t → Mem j (got_idents (if t then [] else w.units a e)) → IsHeldBy a e (rested m j (g.owner j))) (λ z f n. absurd n)
          (λ z f n. rested_held m j a e (g.owner j) f (h.gets a e j n)) refl;
      gets_once = λ a e. bool_case (a == m) (λ t. AreDistinct (got_idents (if t then [] else w.units a e))) (λ z. tt) (λ z. h.gets_once a e);
      units = λ a e. bool_case (a == m) (λ t. items_told (if t then [] else b.units a e) ≡ items_told (if t then [] else w.units a e)) (λ z. refl) (λ z. h.units a e);
      unborn = λ j e. ap (rested m j) (h.unborn j e);
      gone = λ j n. ap (rested m j) (h.gone j n);
      got = λ j n. ap (rested m j) (h.got j n);
      got_once = h.got_once;
      operated_words = λ a d u e q r n z. h.operated_words a d u e q r n (rested_forced m r.message.ident (g.owner r.message.ident) a d u z);
      persistence = lasts w.rows (back_out_all w m back).rows w.units (back_out_all w m back).units w.holds w.last g.sent g.operated h.persistence
          (λ a d y n. let r = mem_retag (G a) y (w.rows a d) n in (r.0, r.1, ap (λ (z : Row). tag_of z.message) r.2 ∙ release_tag (T a r.0) back r.0))
          (λ a e q y. bool_case (a == m) (λ t. Mem (Put q y) (if t then [] else w.units a e) → Mem (Put q y) (w.units a e)) (λ z n. absurd n) (λ z n. n));
      order = order_ghost g (after g (rested m)) b.rows (is_young w g) h.order (λ a d u z. refl) (λ a d r n e. rested_keeps m r.message.ident (g.owner r.message.ident) e);
      distinct = λ a d. subst AreDistinct (sym (retag_idents (G a) (same_ident_ a) (w.rows a d))) (h.distinct a d);
      back = λ a d y n s. let r = mem_retag (G a) y (w.rows a d) n in
          let st : stands (away w a) r.0.by ≡ false = sym (stood a r.0) ∙ ap (λ (z : Row). stands (away w a) z.by) (sym r.2) ∙ s in
          let i : r.0.message.ident ≡ y.message.ident = sym (ap ident_of r.2 ∙ same_ident_ a r.0) in
          rested_far m y.message.ident a (g.owner y.message.ident) (subst (λ j. IsElsewhere a (g.owner j)) i (h.back a d r.0 r.1 st));
      same = λ a d.
          ap rows_told (keep_same _ _ (b.rows a d) (λ y n. ap not (rested_free m y.message.ident (g.owner y.message.ident))))
          ∙ h.same a d
          ∙ sym (keep_retag (row_stands (away w a)) (row_stands (away w a)) (G a) (w.rows a d) (λ y n. stood a y) (λ y. release_told (T a y) back y));
    }
