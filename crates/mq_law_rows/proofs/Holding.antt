-- A batch that is held, and one that is prepared, keep the facts.
use Rattle.std.proofs.Common.{ℕ, ◌≡◌, ◌≢◌, ◌⊎◌, Bool, true, false, not, List, [], ◌∷◌, refl, ap, sym, subst, ◌∙◌, arith, inl, inr}
use Rattle.std.specs.Prelude.{Option, Some, None, if◌then◌else◌, ◌&&◌}
use Rattle.std.proofs.lemmas.Bool.Decides.{nat_tests}
use Rattle.mq_message.specs.declared.message.Ident.{Ident}
use Rattle.mq_message.specs.declared.place.Holder.{Holder}
use Rattle.mq_message.specs.declared.place.Holder.TheVariants as holders
use Rattle.mq_queue.specs.declared.row.Row.{Row}
use Rattle.mq_sync.specs.declared.unit.Unit.{Unit as Luw}
use Rattle.mq_sync.specs.Units.{same_unit}
use Rattle.mq_calls.specs.Changes.{retag_if}
use Rattle.mq_spec_network.specs.Story.{Mem}
use Rattle.mq_spec_network.specs.Promised.{AreDistinct}
use Rattle.mq_spec_network.specs.Standing.{row_told, rows_told}
use Rattle.mq_law_rows.proofs.Telling.{alike_self, keeps_alike}
use Rattle.mq_law_rows.specs.Families.{is_here, put_at}
use Rattle.mq_law_rows.specs.World.{World, Book, Ghost, Tag, Owner, Unborn, At, InBatch, Forced, InUnit, Gone, tag_of, tag_idents, ident_of, idents_in, is_last, away, stands, row_stands, standing, is_forced, claim, IsHeldBy, IsElsewhere, StandsIn, got_idents, Inv}
use Rattle.mq_law_rows.specs.Kinds.{among, unit_at, hold_batch, ghost_take, ghost_hold, prepare, Chosen}
use Rattle.mq_law_rows.specs.Ordered.{IsFront}
use Rattle.mq_law_rows.proofs.Lists.{once_not, true_false, and_right, and_left, bool_case, is_false, here_yes, here_self, mem_retag, mem_retagged, map_mem, mem_map, sorted_retag, keep_same, keep_retag}
use Rattle.mq_law_rows.proofs.Receiving.{any_mem, mem_any}
use Rattle.mq_law_rows.proofs.Batches.{retag_idents, not_last}
use Rattle.mq_law_rows.proofs.Ordering.{hold_order}
use Rattle.mq_law_rows.proofs.Lasting.{row_flag}

pub retag_place : (t : Bool) (o : Option Holder) (x : Row) → (retag_if t o x).place ≡ x.place
retag_place true o x = refl
retag_place false o x = refl

pub retag_told : (t : Bool) (o : Option Holder) (x : Row) → row_told (retag_if t o x) ≡ row_told x
retag_told true o x = refl
retag_told false o x = refl

pub retag_tag : (t : Bool) (o : Option Holder) (x : Row) → tag_of (retag_if t o x).message ≡ tag_of x.message
retag_tag true o x = refl
retag_tag false o x = refl

pub retag_ident : (t : Bool) (o : Option Holder) (x : Row) → (retag_if t o x).message.ident ≡ x.message.ident
retag_ident t o x = ap (λ (s : Tag). s.ident) (retag_tag t o x)

-- of an ident there is one row on a queue
pub only_one : (xs : List Row) (x y : Row) → AreDistinct (idents_in xs) → Mem x xs → Mem y xs → x.message.ident ≡ y.message.ident → x ≡ y
only_one [] x y o n p e = absurd n
only_one (z ∷ zs) x y o (inl n) (inl p) e = n ∙ sym p
only_one (z ∷ zs) x y o (inl n) (inr p) e = absurd (once_not z.message.ident (idents_in zs) o.0 (subst (λ i. Mem i (idents_in zs)) (sym e ∙ ap ident_of n) (mem_map ident_of y zs p)))
only_one (z ∷ zs) x y o (inr n) (inl p) e = absurd (once_not z.message.ident (idents_in zs) o.0 (subst (λ i. Mem i (idents_in zs)) (e ∙ ap ident_of p) (mem_map ident_of x zs n)))
only_one (z ∷ zs) x y o (inr n) (inr p) e = only_one zs x y o.1 n p e

some_unit : (x u : Luw) → Some x ≡ Some u → x ≡ u
some_unit x u e = cc

unit_yes : (u v : Luw) → same_unit u v ≡ true → u ≡ v
unit_yes u v e = grind (arith, nat_tests)

unit_self : (u : Luw) → same_unit u u ≡ true
unit_self u = grind (arith, nat_tests)

none_some : (x : Luw) → None ≡ Some x → ⊥
none_some x e = cc

unit_batch : (k : ℕ) (c : List ℕ) → Some (holders.Unit k) ≡ Some (holders.Batch c) → ⊥
unit_batch k c e = cc

batch_same : (d c : List ℕ) → Some (holders.Batch d) ≡ Some (holders.Batch c) → d ≡ c
batch_same d c e = let p : holders.Batch d ≡ holders.Batch c = cc in cc

pub at_claim : (m a : ℕ) (q d : List ℕ) (x : Option Holder) → At m q ≡ claim a d x → (is_here m q a d ≡ true) × (x ≡ None)
at_claim m a q d None e = let p : m ≡ a = cc in let r : q ≡ d = cc in (rw (← p, ← r) (here_self m q), refl)
at_claim m a q d (Some (holders.Unit k)) e = absurd cc
at_claim m a q d (Some (holders.Batch c)) e = absurd cc

set_other : (is : List Ident) (j : Ident) (o new p : Owner) → o ≡ p → (among is j ≡ true → o ≡ p → ⊥) → (if among is j then new else o) ≡ p
set_other is j o new p e no_ = bool_case (among is j) (λ z. (if z then new else o) ≡ p) (λ z. absurd (no_ z e)) (λ z. e)

pub takes_batch : (w : World) (g : Ghost) (b : Book) (m : ℕ) (q c : List ℕ) (u : Luw) (ts : List Tag) (front : Bool) → Inv w g b → w.holds m c ≡ None → w.last m c ≢ u → g.operated m c u ≡ false → Chosen w m q ts
    → (front ≡ true → IsFront (tag_idents ts) (standing w m q))
    → Inv (hold_batch w m q c u (tag_idents ts)) (ghost_take g m q c u ts front) b
takes_batch w g b m q c u ts front h free_ new done k first_ =
    let ids : List Ident = tag_idents ts in
    let v : World = hold_batch w m q c u ids in
    let o : Option Holder = Some (holders.Batch c) in
    let T : ℕ → List ℕ → Row → Bool = λ a d x. is_here m q a d && among ids x.message.ident in
    let G : ℕ → List ℕ → Row → Row = λ a d x. retag_if (T a d x) o x in
    let same_ident_ : (a : ℕ) (d : List ℕ) (x : Row) → (G a d x).message.ident ≡ x.message.ident = λ a d x. retag_ident (T a d x) o x in
    let chosen : (i : Ident) → among ids i ≡ true → (t : Tag) × Mem t ts × (i ≡ t.ident) = λ i n. map_mem (λ (t : Tag). t.ident) i ts (any_mem i ids n) in
    let mine : (i : Ident) → among ids i ≡ true → g.owner i ≡ At m q = λ i n.
    let t = chosen i n in let x = k.rows t.0 t.1 in
    ap g.owner (t.2 ∙ ap (λ (s : Tag). s.ident) (sym x.3)) ∙ h.claims m q x.0 x.1 (ap (stands (away w m)) x.2) ∙ ap (claim m q) x.2 in
    let other : (j : Ident) (p : Owner) → g.owner j ≡ p → (At m q ≡ p → ⊥) → (if among ids j then InBatch m c else g.owner j) ≡ p = λ j p e no_. set_other ids j (g.owner j) (InBatch m c) p e (λ n z. no_ (sym (mine j n) ∙ z)) in
    let is_it : (a : ℕ) (d : List ℕ) (x : Row) → Mem x (w.rows a d) → T a d x ≡ true → (x.by ≡ None) × Mem (tag_of x.message) ts = λ a d x n e.
    let p = here_yes m q a d (and_left (is_here m q a d) (among ids x.message.ident) e) in
    let t = chosen x.message.ident (and_right (is_here m q a d) (among ids x.message.ident) e) in
    let y = k.rows t.0 t.1 in
    let same : x ≡ y.0 = only_one (w.rows m q) x y.0 (h.distinct m q) (subst (λ (r : List Row). Mem x r) (λ i. w.rows (p.0 i) (p.1 i)) n) y.1 (t.2 ∙ ap (λ (s : Tag). s.ident) (sym y.3)) in
    (ap (λ (r : Row). r.by) same ∙ y.2, subst (λ (s : Tag). Mem s ts) (sym (ap (λ (r : Row). tag_of r.message) same ∙ y.3)) t.1) in
    let here_not : away w m c ≡ false = not_last (w.doubt m c) (w.holds m c) (w.last m c) (λ x e. absurd (none_some x (sym free_ ∙ e))) in
    let same_away : (a : ℕ) (e : List ℕ) → away v a e ≡ away w a e = λ a e.
    bool_case (is_here m c a e) (λ z. ((if z then false else w.doubt a e) && is_last (if z then Some u else w.holds a e) (w.last a e)) ≡ away w a e)
    (λ z. let p = here_yes m c a e z in sym (rw (p.0, p.1) here_not)) (λ z. refl) in
    let stands_same : (a : ℕ) (x : Option Holder) → stands (away v a) x ≡ stands (away w a) x = λ a x. ap (λ (f : List ℕ → Bool). stands f x) (λ i e. same_away a e i) in
    let held_now : stands (away v m) o ≡ true = ap not (same_away m c ∙ here_not) in
    let stood : (a : ℕ) (d : List ℕ) (x : Row) → Mem x (w.rows a d) → stands (away v a) (G a d x).by ≡ stands (away w a) x.by = λ a d x n.
    bool_case (T a d x) (λ t. T a d x ≡ t → stands (away v a) (retag_if t o x).by ≡ stands (away w a) x.by)
    (λ e f. let p = here_yes m q a d (and_left (is_here m q a d) (among ids x.message.ident) f) in
    rw (p.0) held_now ∙ sym (ap (stands (away w a)) (is_it a d x n f).0))
    (λ e f. stands_same a x.by) refl in
    let by_of : (a : ℕ) (d : List ℕ) (x : Row) (p : Holder) → (G a d x).by ≡ Some p → ((T a d x ≡ true) × (Some p ≡ o)) ⊎ ((T a d x ≡ false) × (x.by ≡ Some p)) = λ a d x p.
    bool_case (T a d x) (λ t. (retag_if t o x).by ≡ Some p → ((t ≡ true) × (Some p ≡ o)) ⊎ ((t ≡ false) × (x.by ≡ Some p))) (λ e z. inl (refl, sym z)) (λ e z. inr (refl, z)) in
    -- a sender that held a batch before is another one
    let elsewhere : (a : ℕ) (d : List ℕ) (x : Luw) → w.holds a d ≡ Some x → is_here m c a d ≡ false = λ a d x z. is_false _ (λ e. let p = here_yes m c a d e in none_some x (sym free_ ∙ rw (p.0, p.1) at z)) in
    let elsewhere_held : (a : ℕ) (d : List ℕ) → (w.holds a d ≢ None) → is_here m c a d ≡ false = λ a d z. is_false _ (λ e. let p = here_yes m c a d e in z (rw (p.0, p.1) free_)) in
    let same_sent : (a : ℕ) (d : List ℕ) (x : Luw) → is_here m c a d ≡ false → (ghost_take g m q c u ts front).sent a d x ≡ g.sent a d x = λ a d x e. ap (λ z. if z && same_unit x u then ts else g.sent a d x) e in
    let same_source : (a : ℕ) (d : List ℕ) → is_here m c a d ≡ false → (ghost_take g m q c u ts front).source a d ≡ g.source a d = λ a d e. ap (λ z. if z then q else g.source a d) e in
    let new_sent : (ghost_take g m q c u ts front).sent m c u ≡ ts = rw (here_self m c, unit_self u) refl in
    let new_source : (ghost_take g m q c u ts front).source m c ≡ q = rw (here_self m c) refl in
    -- a unit of the network after it: the new one, or one from before
    let which : (a : ℕ) (d : List ℕ) (x : Luw) → put_at w.holds m c (Some u) a d ≡ Some x → ((a ≡ m) × (d ≡ c) × (x ≡ u)) ⊎ ((is_here m c a d ≡ false) × (w.holds a d ≡ Some x)) = λ a d x.
    bool_case (is_here m c a d) (λ z. is_here m c a d ≡ z → (if z then Some u else w.holds a d) ≡ Some x → ((a ≡ m) × (d ≡ c) × (x ≡ u)) ⊎ ((z ≡ false) × (w.holds a d ≡ Some x)))
    (λ e f y. let p = here_yes m c a d f in inl (p.0, p.1, sym (some_unit u x y))) (λ e f y. inr (refl, y)) refl in
    let still : (a : ℕ) (d : List ℕ) (x : Luw) → g.operated a d x ≡ true → (ghost_take g m q c u ts front).sent a d x ≡ g.sent a d x = λ a d x z.
    ap (λ y. if y then ts else g.sent a d x) (is_false (unit_at m c u a d x) (λ e. let p = here_yes m c a d (and_left (is_here m c a d) (same_unit x u) e) in
    let r : x ≡ u = unit_yes x u (and_right (is_here m c a d) (same_unit x u) e) in true_false (sym z ∙ (λ i. g.operated (p.0 i) (p.1 i) (r i)) ∙ done))) in
    record {
      sorted = λ a d. sorted_retag (G a d) (λ x. retag_place (T a d x) o x) (w.rows a d) (h.sorted a d);
      shelved = h.shelved;
      claims = λ a d y n s. let r = mem_retag (G a d) y (w.rows a d) n in
          let x : Row = r.0 in
          let i : y.message.ident ≡ x.message.ident = ap ident_of r.2 ∙ same_ident_ a d x in
          let st : stands (away w a) x.by ≡ true = sym (stood a d x r.1) ∙ ap (λ (z : Row). stands (away v a) z.by) (sym r.2) ∙ s in
          let cl : g.owner x.message.ident ≡ claim a d x.by = h.claims a d x r.1 st in
          ap (λ j. if among ids j then InBatch m c else g.owner j) i
          ∙ bool_case (T a d x) (λ t. T a d x ≡ t → (if among ids x.message.ident then InBatch m c else g.owner x.message.ident) ≡ claim a d (retag_if t o x).by)
          (λ e f. let p = here_yes m q a d (and_left (is_here m q a d) (among ids x.message.ident) f) in
          rw (and_right (is_here m q a d) (among ids x.message.ident) f) (λ i. InBatch (sym p.0 i) c))
          (λ e f. set_other ids x.message.ident (g.owner x.message.ident) (InBatch m c) (claim a d x.by) cl (λ z y.
          true_false (sym (rw (z) (ap (λ t. t && true) (at_claim m a q d x.by (sym (mine x.message.ident z) ∙ y)).0)) ∙ f))) refl
          ∙ ap (λ (z : Row). claim a d z.by) (sym r.2);
      taken = λ a d y e n by_. let r = mem_retag (G a d) y (w.rows a d) n in
          elim (by_of a d r.0 (holders.Unit e) (ap (λ (z : Row). z.by) (sym r.2) ∙ by_)) [
            | inl z ↦ absurd (unit_batch e c z.1)
            | inr z ↦ subst (λ j. Mem j (got_idents (w.units a e))) (sym (ap ident_of r.2 ∙ same_ident_ a d r.0)) (h.taken a d r.0 e r.1 z.1)
          ];
      batch = λ a d y e n by_. let r = mem_retag (G a d) y (w.rows a d) n in
          let x : Row = r.0 in
          let tag : tag_of y.message ≡ tag_of x.message = ap (λ (z : Row). tag_of z.message) r.2 ∙ retag_tag (T a d x) o x in
          elim (by_of a d x (holders.Batch e) (ap (λ (z : Row). z.by) (sym r.2) ∙ by_)) [
            | inl z ↦ let p = here_yes m q a d (and_left (is_here m q a d) (among ids x.message.ident) z.0) in
                let ec : e ≡ c = batch_same e c z.1 in
                let now_holds : put_at w.holds m c (Some u) a e ≡ Some u = (λ i. put_at w.holds m c (Some u) (p.0 i) (ec i)) ∙ rw (here_self m c) refl in (
                  p.1 ∙ sym new_source ∙ (λ i. (ghost_take g m q c u ts front).source (sym p.0 i) (sym ec i)),
                  (λ y. none_some u (sym y ∙ now_holds)),
                  (λ x2 y2. let xu : x2 ≡ u = some_unit x2 u (sym y2 ∙ now_holds) in
                      subst (λ (l : List Tag). Mem (tag_of y.message) l) (sym ((λ i. (ghost_take g m q c u ts front).sent (p.0 i) (ec i) (xu i)) ∙ new_sent))
                      (subst (λ (s : Tag). Mem s ts) (sym tag) (is_it a d x r.1 z.0).1)),
                )
            | inr z ↦ let b2 = h.batch a d x e r.1 z.1 in
                let out : is_here m c a e ≡ false = elsewhere_held a e b2.1 in
                let old_holds : w.holds a e ≡ put_at w.holds m c (Some u) a e = sym (ap (λ t. if t then Some u else w.holds a e) out) in (
                  b2.0 ∙ sym (same_source a e out),
                  (λ y2. b2.1 (old_holds ∙ y2)),
                  (λ x2 y2. subst (λ (l : List Tag). Mem (tag_of y.message) l) (sym (same_sent a e x2 out)) (subst (λ (s : Tag). Mem s (g.sent a e x2)) (sym tag) (b2.2 x2 (old_holds ∙ y2)))),
                )
          ];
      live = λ a d x t z no_ n. elim (which a d x z) [
        | inl p ↦ let there : Mem t ts = subst (λ (l : List Tag). Mem t l) ((λ i. (ghost_take g m q c u ts front).sent (p.0 i) (p.1 i) (p.2 i)) ∙ new_sent) n in
            rw (mem_any t.ident ids (mem_map (λ (t : Tag). t.ident) t ts there)) (λ i. InBatch (sym p.0 i) (sym p.1 i))
        | inr p ↦ other t.ident (InBatch a d) (h.live a d x t p.1 no_ (subst (λ (l : List Tag). Mem t l) (same_sent a d x p.0) n)) (λ e. cc)
      ];
      present = λ a d x t z no_ n l. elim (which a d x z) [
        | inl p ↦ let there : Mem t ts = subst (λ (l : List Tag). Mem t l) ((λ i. (ghost_take g m q c u ts front).sent (p.0 i) (p.1 i) (p.2 i)) ∙ new_sent) n in
            let y = k.rows t there in
            let chosen_ : T m q y.0 ≡ true = rw (here_self m q) (ap (λ (s : Tag). among ids s.ident) y.3 ∙ mem_any t.ident ids (mem_map (λ (t : Tag). t.ident) t ts there)) in
            let base : StandsIn t c (v.rows m ((ghost_take g m q c u ts front).source m c)) = subst (λ z. StandsIn t c (v.rows m z)) (sym new_source) (record {
              row = G m q y.0;
              there = mem_retagged (G m q) y.0 (w.rows m q) y.1;
              by = ap (λ z. (retag_if z o y.0).by) chosen_;
              tag = retag_tag (T m q y.0) o y.0 ∙ y.3;
            }) in
            subst (λ z. StandsIn t d (v.rows z ((ghost_take g m q c u ts front).source z d))) (sym p.0) (subst (λ z. StandsIn t z (v.rows m ((ghost_take g m q c u ts front).source m z))) (sym p.1) base)
        | inr p ↦ let s = h.present a d x t p.1 no_ (subst (λ (l : List Tag). Mem t l) (same_sent a d x p.0) n) l in
            let src : List ℕ = g.source a d in
            let out : T a src s.row ≡ false = is_false (T a src s.row) (λ e. cc ((is_it a src s.row s.there e).0, s.by)) in
            subst (λ z. StandsIn t d (v.rows a z)) (sym (same_source a d p.0)) (record {
              row = G a src s.row;
              there = mem_retagged (G a src) s.row (w.rows a src) s.there;
              by = ap (λ z. (retag_if z o s.row).by) out ∙ s.by;
              tag = retag_tag (T a src s.row) o s.row ∙ s.tag;
            })
      ];
      sent_once = λ a d x z. elim (which a d x z) [
        | inl p ↦ subst (λ (l : List Tag). AreDistinct (tag_idents l)) (sym ((λ i. (ghost_take g m q c u ts front).sent (p.0 i) (p.1 i) (p.2 i)) ∙ new_sent)) k.once
        | inr p ↦ subst (λ (l : List Tag). AreDistinct (tag_idents l)) (sym (same_sent a d x p.0)) (h.sent_once a d x p.1)
      ];
      operated = λ a d x t z n. other t.ident (Forced a d x) (h.operated a d x t z (subst (λ (l : List Tag). Mem t l) (still a d x z) n)) (λ e. cc);
      operated_there = λ a d x t z n l. h.operated_there a d x t z (subst (λ (l : List Tag). Mem t l) (still a d x z) n) l;
      operated_once = λ a d x z. subst (λ (l : List Tag). AreDistinct (tag_idents l)) (sym (still a d x z)) (h.operated_once a d x z);
      forced = λ a d x j. bool_case (among ids j) (λ z. (if z then InBatch m c else g.owner j) ≡ Forced a d x → (g.operated a d x ≡ true) × Mem j (tag_idents ((ghost_take g m q c u ts front).sent a d x)))
          (λ y e. absurd cc) (λ y e. let p = h.forced a d x j e in (p.0, subst (λ (l : List Tag). Mem j (tag_idents l)) (sym (still a d x p.0)) p.1));
      pending = λ a e j n. other j (InUnit a e) (h.pending a e j n) (λ e. cc);
      pending_once = h.pending_once;
      gets = λ a e j n. bool_case (among ids j) (λ z. IsHeldBy a e (if z then InBatch m c else g.owner j)) (λ z. subst (IsHeldBy a e) (mine j z) (h.gets a e j n)) (λ z. h.gets a e j n);
      gets_once = h.gets_once;
      units = h.units;
      unborn = λ j e. other j Unborn (h.unborn j e) (λ e. cc);
      gone = λ j n. other j Gone (h.gone j n) (λ e. cc);
      got = λ j n. other j Gone (h.got j n) (λ e. cc);
      got_once = h.got_once;
      operated_words = λ a d x e p r n. bool_case (among ids r.message.ident) (λ z. (if z then InBatch m c else g.owner r.message.ident) ≡ Forced a d x → Mem (tag_of r.message) ((ghost_take g m q c u ts front).sent a d x))
          (λ y z. absurd cc) (λ y z. subst (λ (l : List Tag). Mem (tag_of r.message) l) (sym (still a d x (h.forced a d x r.message.ident z).0)) (h.operated_words a d x e p r n z));
      persistence =
          let p = h.persistence in
          record {
            flag = p.flag;
            of_row = λ a d y n. let r = mem_retag (G a d) y (w.rows a d) n in row_flag p.flag r.0 y (ap (λ (z : Row). tag_of z.message) r.2 ∙ retag_tag (T a d r.0) o r.0) (p.of_row a d r.0 r.1);
            of_put = p.of_put;
            of_unit = λ a d x t z no_ n. elim (which a d x z) [
              | inl s ↦ let y = k.rows t (subst (λ (l : List Tag). Mem t l) ((λ i. (ghost_take g m q c u ts front).sent (s.0 i) (s.1 i) (s.2 i)) ∙ new_sent) n) in
                  ap (λ (t : Tag). t.lasting) (sym y.3) ∙ p.of_row m q y.0 y.1 ∙ ap (λ (t : Tag). p.flag t.ident) y.3
              | inr s ↦ p.of_unit a d x t s.1 no_ (subst (λ (l : List Tag). Mem t l) (same_sent a d x s.0) n)
            ];
            of_operated = λ a d x t z n. p.of_operated a d x t z (subst (λ (l : List Tag). Mem t l) (still a d x z) n);
          };
      order = hold_order w g b m q c u ts front h done (λ i n. mine i (mem_any i ids n)) first_;
      distinct = λ a d. subst AreDistinct (sym (retag_idents (G a d) (same_ident_ a d) (w.rows a d))) (h.distinct a d);
      back = λ a d y n s. let r = mem_retag (G a d) y (w.rows a d) n in
          let x : Row = r.0 in
          let i : y.message.ident ≡ x.message.ident = ap ident_of r.2 ∙ same_ident_ a d x in
          let st : stands (away w a) x.by ≡ false = sym (stood a d x r.1) ∙ ap (λ (z : Row). stands (away v a) z.by) (sym r.2) ∙ s in
          let far : IsElsewhere a (g.owner x.message.ident) = h.back a d x r.1 st in
          subst (λ j. IsElsewhere a (if among ids j then InBatch m c else g.owner j)) (sym i)
          (bool_case (among ids x.message.ident) (λ z. IsElsewhere a (if z then InBatch m c else g.owner x.message.ident)) (λ z. subst (IsElsewhere a) (mine x.message.ident z) far) (λ z. far));
      same = λ a d.
          ap rows_told (keep_same _ _ (b.rows a d) (λ x n. ap not (bool_case (among ids x.message.ident) (λ z. is_forced (if z then InBatch m c else g.owner x.message.ident) ≡ is_forced (g.owner x.message.ident)) (λ z. sym (ap is_forced (mine x.message.ident z))) (λ z. refl))))
          ∙ h.same a d
          ∙ sym (keep_retag (row_stands (away w a)) (row_stands (away v a)) (G a d) (w.rows a d) (λ x n. stood a d x n) (λ x. retag_told (T a d x) o x));
    }

-- nothing is asked of the order where it isn't known that the batch is the front of its queue
pub holds_batch : (w : World) (g : Ghost) (b : Book) (m : ℕ) (q c : List ℕ) (u : Luw) (ts : List Tag) → Inv w g b → w.holds m c ≡ None → w.last m c ≢ u → g.operated m c u ≡ false → Chosen w m q ts
    → Inv (hold_batch w m q c u (tag_idents ts)) (ghost_hold g m q c u ts) b
holds_batch w g b m q c u ts h free_ new done k = takes_batch w g b m q c u ts false h free_ new done k (λ e. absurd cc)

-- the unit that is held is prepared
pub prepares : (w : World) (g : Ghost) (b : Book) (m : ℕ) (c : List ℕ) (u : Luw) → Inv w g b → w.holds m c ≡ Some u → w.last m c ≢ u → Inv (prepare w m c) g b
prepares w g b m c u h holds new =
    let v : World = prepare w m c in
    let here_not : (t : Bool) → (t && is_last (w.holds m c) (w.last m c)) ≡ false = λ t. not_last t (w.holds m c) (w.last m c) (λ x e z. new (z ∙ some_unit x u (sym e ∙ holds))) in
    let same_away : (a : ℕ) (e : List ℕ) → away v a e ≡ away w a e = λ a e.
    bool_case (is_here m c a e) (λ z. ((if z then true else w.doubt a e) && is_last (w.holds a e) (w.last a e)) ≡ away w a e)
    (λ z. let p = here_yes m c a e z in rw (p.0, p.1) (here_not true ∙ sym (here_not (w.doubt m c)))) (λ z. refl) in
    keeps_alike w w.rows v.doubt g b h same_away (λ a d. alike_self (w.rows a d))
