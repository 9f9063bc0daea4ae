-- What has left the ledger, of a unit that an operator has committed, does not come back into it.
use Rattle.std.proofs.Common.{ℕ, ◌≡◌, Bool, true, false, List, [], ◌∷◌, refl, ap, sym, subst, ◌∙◌, inl, inr}
use Rattle.std.specs.Prelude.{Option, Some, filter, if◌then◌else◌, not, ◌&&◌}
use Rattle.mq_message.specs.declared.message.Ident.{Ident}
use Rattle.mq_message.specs.declared.place.Holder.{Holder}
use Rattle.mq_message.specs.declared.place.Holder.TheVariants as holders
use Rattle.mq_queue.specs.declared.row.Row.{Row}
use Rattle.mq_queue.specs.Rows.{same_ident}
use Rattle.mq_sync.specs.declared.unit.Unit.{Unit as Luw}
use Rattle.mq_sync.specs.Units.{same_unit}
use Rattle.mq_spec_network.specs.Order.{Before}
use Rattle.mq_spec_network.specs.Promised.{AreDistinct}
use Rattle.mq_spec_network.specs.Standing.{rows_told}
use Rattle.mq_spec_network.specs.Story.{Mem}
use Rattle.mq_law_channel.proofs.Told.{unit_self}
use Rattle.mq_law_rows.specs.Families.{is_here}
use Rattle.mq_law_rows.specs.Kinds.{owned, unit_at}
use Rattle.mq_law_rows.specs.World.{At, Book, Forced, Ghost, Gone, HeldBy, InBatch, InHand, InUnit, Inv, IsElsewhere, Owner, Tag, Unborn, World, away, claim, is_counted, is_forced, stands, tag_idents, tag_of}
use Rattle.mq_law_rows.proofs.Lists.{and_left, bool_case, here_self, here_yes, same_self, ident_yes, keep_same, map_mem, true_false}
use Rattle.mq_law_rows.proofs.Owners.{away_owned, claim_counted, held_owned, ledger_row, owned_forced, owned_other, owned_self, told_ident}
use Rattle.mq_law_rows.proofs.Young.{before_mem}
use Rattle.mq_law_events.specs.Local.{with_owner}
use Rattle.mq_law_run.specs.Ordered.{HasRow}

-- A unit without an ident, which is gone.
abbrev pub other : Ident → Tag → Bool
other i t = not (same_ident t.ident i)

abbrev pub less : Ident → Bool → List Tag → List Tag
less i b ts = if b then filter (other i) ts else ts

abbrev pub dropped : Ghost → ℕ → List ℕ → Luw → Ident → Ghost
dropped g m c u i = record {
  sent = λ a d v. less i (unit_at m c u a d v) (g.sent a d v);
  source = g.source;
  operated = g.operated;
  loose = g.loose;
  owner = λ j. owned i Gone j (g.owner j);
}

-- LISTS
from_filter : (i : Ident) (t : Tag) (ts : List Tag) → Mem t (filter (other i) ts) → Mem t ts × (other i t ≡ true)
from_filter i t [] n = absurd n
from_filter i t (x ∷ ts) n = bool_case (other i x) (λ b. other i x ≡ b → Mem t (if b then x ∷ filter (other i) ts else filter (other i) ts) → Mem t (x ∷ ts) × (other i t ≡ true))
    (λ b e k. elim k [ inl s ↦ (inl s, ap (other i) s ∙ e) | inr o ↦ let r = from_filter i t ts o in (inr r.0, r.1) ])
    (λ b e k. let r = from_filter i t ts k in (inr r.0, r.1)) refl n

to_filter : (i : Ident) (t : Tag) (ts : List Tag) → Mem t ts → other i t ≡ true → Mem t (filter (other i) ts)
to_filter i t [] n e = n
to_filter i t (x ∷ ts) (inl s) e = subst (λ b. Mem t (if b then x ∷ filter (other i) ts else filter (other i) ts)) (sym (ap (other i) (sym s) ∙ e)) (inl s)
to_filter i t (x ∷ ts) (inr n) e = bool_case (other i x) (λ b. Mem t (if b then x ∷ filter (other i) ts else filter (other i) ts)) (λ b. inr (to_filter i t ts n e)) (λ b. to_filter i t ts n e)

from_less : (i : Ident) (b : Bool) (t : Tag) (ts : List Tag) → Mem t (less i b ts) → Mem t ts
from_less i true t ts n = (from_filter i t ts n).0
from_less i false t ts n = n

to_less : (i : Ident) (b : Bool) (t : Tag) (ts : List Tag) → Mem t ts → other i t ≡ true → Mem t (less i b ts)
to_less i true t ts n e = to_filter i t ts n e
to_less i false t ts n e = n

abbrev is_other : Ident → Ident → Bool
is_other i j = not (same_ident j i)

idents_to : (i j : Ident) (b : Bool) (ts : List Tag) → Mem j (tag_idents ts) → is_other i j ≡ true → Mem j (tag_idents (less i b ts))
idents_to i j false ts n e = n
idents_to i j true [] n e = n
idents_to i j true (x ∷ ts) (inl s) e = subst (λ b. Mem j (tag_idents (if b then x ∷ filter (other i) ts else filter (other i) ts))) (sym (ap (is_other i) (sym s) ∙ e)) (inl s)
idents_to i j true (x ∷ ts) (inr n) e = bool_case (other i x) (λ b. Mem j (tag_idents (if b then x ∷ filter (other i) ts else filter (other i) ts))) (λ b. inr (idents_to i j true ts n e)) (λ b. idents_to i j true ts n e)

idents_from : (i j : Ident) (b : Bool) (ts : List Tag) → Mem j (tag_idents (less i b ts)) → Mem j (tag_idents ts)
idents_from i j false ts n = n
idents_from i j true [] n = n
idents_from i j true (x ∷ ts) n = bool_case (other i x) (λ b. Mem j (tag_idents (if b then x ∷ filter (other i) ts else filter (other i) ts)) → Mem j (tag_idents (x ∷ ts)))
    (λ b k. elim k [ inl s ↦ inl s | inr o ↦ inr (idents_from i j true ts o) ]) (λ b k. inr (idents_from i j true ts k)) n

before_to : (i x y : Ident) (b : Bool) (ts : List Tag) → Before x y (tag_idents ts) → is_other i x ≡ true → is_other i y ≡ true → Before x y (tag_idents (less i b ts))
before_to i x y false ts n e f = n
before_to i x y true [] n e f = n
before_to i x y true (t ∷ ts) (inl s) e f = subst (λ b. Before x y (tag_idents (if b then t ∷ filter (other i) ts else filter (other i) ts))) (sym (ap (is_other i) (sym s.0) ∙ e)) (inl (s.0, idents_to i y true ts s.1 f))
before_to i x y true (t ∷ ts) (inr n) e f = bool_case (other i t) (λ b. Before x y (tag_idents (if b then t ∷ filter (other i) ts else filter (other i) ts))) (λ b. inr (before_to i x y true ts n e f)) (λ b. before_to i x y true ts n e f)

once_less : (i : Ident) (b : Bool) (ts : List Tag) → AreDistinct (tag_idents ts) → AreDistinct (tag_idents (less i b ts))
once_less i false ts h = h
once_less i true [] h = h
once_less i true (x ∷ ts) h = bool_case (other i x) (λ b. AreDistinct (tag_idents (if b then x ∷ filter (other i) ts else filter (other i) ts)))
    (λ b. ((λ y n. h.0 y (idents_from i y true ts n)), once_less i true ts h.1)) (λ b. once_less i true ts h.1)

-- THE FACTS without it
not_same : (b : Bool) → b ≡ true → not b ≡ true → ⊥
not_same true e f = true_false (sym f)
not_same false e f = true_false (sym e)

same_or : (i j : Ident) → (j ≡ i → ⊥) → is_other i j ≡ true
same_or i j no_ = bool_case (same_ident j i) (λ b. same_ident j i ≡ b → not b ≡ true) (λ b e. absurd (no_ (ident_yes j i e))) (λ b e. refl) refl

-- the number of a forced owner tells the unit
pub forced_is : (a m : ℕ) (d c : List ℕ) (v u : Luw) → Forced a d v ≡ Forced m c u → (a ≡ m) × (d ≡ c) × (v ≡ u)
forced_is a m d c v u e = (ap number e, ap name e, ap unit e)
  where
    number : Owner → ℕ
    number (Forced x y z) = x
    number _ = m

    name : Owner → List ℕ
    name (Forced x y z) = y
    name _ = c

    unit : Owner → Luw
    unit (Forced x y z) = z
    unit _ = u

unit_here : (m : ℕ) (c : List ℕ) (u : Luw) (a : ℕ) (d : List ℕ) (v : Luw) → (a ≡ m) × (d ≡ c) × (v ≡ u) → unit_at m c u a d v ≡ true
unit_here m c u a d v e = (λ i. unit_at m c u (e.0 i) (e.1 i) (e.2 i)) ∙ ap (λ b. b && same_unit u u) (here_self m c) ∙ unit_self u

claim_not : (a : ℕ) (q : List ℕ) (o : Option Holder) (m : ℕ) (c : List ℕ) (u : Luw) → claim a q o ≡ Forced m c u → ⊥
claim_not a q o m c u e = true_false (sym (ap is_forced e) ∙ claim_counted a q o)

pub without : (w : World) (g : Ghost) (b : Book) (m : ℕ) (c : List ℕ) (u : Luw) (i : Ident) → Inv w g b → g.owner i ≡ Forced m c u → (HasRow i b.rows → ⊥) → Inv w (dropped g m c u i) b
without w g b m c u i h own none = record {
  sorted = h.sorted;
  shelved = h.shelved;
  claims = λ a q r n s. apart r.message.ident (claim a q r.by) (h.claims a q r n s) (claim_not a q r.by m c u);
  taken = h.taken;
  batch = λ a q r d n e. let o = h.batch a q r d n e in (o.0, o.1, λ v f. kept a d v (tag_of r.message) (o.2 v f) (λ f. not_here a q r d n e f));
  live = λ a d v t e f n. apart t.ident (InBatch a d) (h.live a d v t e f (old a d v t n)) (λ z. cc);
  present = λ a d v t e f n l. h.present a d v t e f (old a d v t n) l;
  sent_once = λ a d v e. once_less i (unit_at m c u a d v) (g.sent a d v) (h.sent_once a d v e);
  operated = λ a d v t e n. let o = h.operated a d v t e (old a d v t n) in
      bool_case (same_ident t.ident i) (λ z. same_ident t.ident i ≡ z → (if z then Gone else g.owner t.ident) ≡ Forced a d v)
      (λ z f. absurd (still a d v t n (sym own ∙ ap g.owner (sym (ident_yes t.ident i f)) ∙ o) (ident_yes t.ident i f))) (λ z f. o) refl;
  operated_there = λ a d v t e n l. h.operated_there a d v t e (old a d v t n) l;
  operated_once = λ a d v e. once_less i (unit_at m c u a d v) (g.sent a d v) (h.operated_once a d v e);
  forced = λ a d v j e.
      let k : g.owner j ≡ Forced a d v = owned_forced i j Gone (g.owner j) a d v (λ z. cc) e in
      let o = h.forced a d v j k in
      (o.0, idents_to i j (unit_at m c u a d v) (g.sent a d v) o.1 (same_or i j (λ z. gone_not j z (sym e))));
  operated_words = λ a d v f q r n e.
      let k : g.owner r.message.ident ≡ Forced a d v = owned_forced i r.message.ident Gone (g.owner r.message.ident) a d v (λ z. cc) e in
      to_less i (unit_at m c u a d v) (tag_of r.message) (g.sent a d v) (h.operated_words a d v f q r n k) (booked f q r n);
  pending = λ a k j n. apart j (InUnit a k) (h.pending a k j n) (λ z. cc);
  pending_once = h.pending_once;
  gets = λ a k j n. held_owned a k i j Gone (Forced m c u) g.owner own (λ z. z) (h.gets a k j n);
  gets_once = h.gets_once;
  units = h.units;
  unborn = λ j e. apart j Unborn (h.unborn j e) (λ z. cc);
  gone = λ j n. apart j Gone (h.gone j n) (λ z. cc);
  got = λ j n. apart j Gone (h.got j n) (λ z. cc);
  got_once = h.got_once;
  persistence = record {
    flag = h.persistence.flag;
    of_row = h.persistence.of_row;
    of_put = h.persistence.of_put;
    of_unit = λ a d v t e f n. h.persistence.of_unit a d v t e f (old a d v t n);
    of_operated = λ a d v t e n. h.persistence.of_operated a d v t e (old a d v t n);
  };
  distinct = h.distinct;
  back = λ a q r n s. away_owned a i r.message.ident Gone (Forced m c u) g.owner own (λ z. tt) (h.back a q r n s);
  same = λ a q. ap rows_told (keep_same (is_counted (dropped g m c u i).owner) (is_counted g.owner) (b.rows a q) (λ r n. ap (λ o. not (is_forced o)) (same_owner a q r n))) ∙ h.same a q;
  order = record {
    first = λ e a q d v x y young before n l no_.
        let z = before_mem x y (b.rows a q) before in
        let o = h.order.first e a q d v x y young before (idents_from i y.message.ident (unit_at m c u e d v) (g.sent e d v) n) l
        (λ k. no_ (ap is_forced (same_owner a q x z.0) ∙ k.0, (λ f. k.1 (sym (same_owner a q x z.0) ∙ f)))) in
        (idents_to i x.message.ident (unit_at m c u e d v) (g.sent e d v) o.0 (booked a q x z.0), before_to i x.message.ident y.message.ident (unit_at m c u e d v) (g.sent e d v) o.1 (booked a q x z.0) (booked a q y z.1));
  };
}
  where
    apart : (j : Ident) (o : Owner) → g.owner j ≡ o → (o ≡ Forced m c u → ⊥) → owned i Gone j (g.owner j) ≡ o
    apart j o e no_ = owned_other g.owner i j Gone (Forced m c u) o own e (λ f. no_ (sym f))

    old : (a : ℕ) (d : List ℕ) (v : Luw) (t : Tag) → Mem t (less i (unit_at m c u a d v) (g.sent a d v)) → Mem t (g.sent a d v)
    old a d v t n = from_less i (unit_at m c u a d v) t (g.sent a d v) n

    kept : (a : ℕ) (d : List ℕ) (v : Luw) (t : Tag) → Mem t (g.sent a d v) → (a ≡ m → t.ident ≡ i → ⊥) → Mem t (less i (unit_at m c u a d v) (g.sent a d v))
    kept a d v t n no_ = bool_case (unit_at m c u a d v) (λ z. unit_at m c u a d v ≡ z → Mem t (less i z (g.sent a d v)))
        (λ z e. to_filter i t (g.sent a d v) n (same_or i t.ident (no_ (here_yes m c a d (and_left (is_here m c a d) (same_unit v u) e)).0))) (λ z e. n) refl

    -- no row at its sender has it
    not_here : (a : ℕ) (q : List ℕ) (r : Row) (d : List ℕ) → Mem r (w.rows a q) → r.by ≡ Some (holders.Batch d) → a ≡ m → r.message.ident ≡ i → ⊥
    not_here a q r d n e is f = bool_case (stands (away w a) r.by) (λ z. stands (away w a) r.by ≡ z → ⊥)
        (λ z s. claim_not a q r.by m c u (sym (h.claims a q r n s) ∙ ap g.owner f ∙ own))
        (λ z s. subst (IsElsewhere a) (ap g.owner f ∙ own) (h.back a q r n s) (sym is)) refl

    gone_not : (j : Ident) → j ≡ i → {a : ℕ} {d : List ℕ} {v : Luw} → Forced a d v ≡ owned i Gone j (g.owner j) → ⊥
    gone_not j z e = true_false (ap is_forced e ∙ ap is_forced (ap (λ x. owned i Gone x (g.owner x)) z ∙ owned_self i (g.owner i) Gone))

    -- one that is of the unit is another one
    still : (a : ℕ) (d : List ℕ) (v : Luw) (t : Tag) → Mem t (less i (unit_at m c u a d v) (g.sent a d v)) → Forced m c u ≡ Forced a d v → t.ident ≡ i → ⊥
    still a d v t n f z =
        let n1 : Mem t (filter (other i) (g.sent a d v)) = subst (λ x. Mem t (less i x (g.sent a d v))) (unit_here m c u a d v (forced_is a m d c v u (sym f))) n in
        not_same (same_ident t.ident i) (ap (λ x. same_ident x i) z ∙ same_self i) (from_filter i t (g.sent a d v) n1).1

    booked : (a : ℕ) (q : List ℕ) (r : Row) → Mem r (b.rows a q) → is_other i r.message.ident ≡ true
    booked a q r n = same_or i r.message.ident (λ z. none (a, q, r, n, z))

    same_owner : (a : ℕ) (q : List ℕ) (r : Row) → Mem r (b.rows a q) → owned i Gone r.message.ident (g.owner r.message.ident) ≡ g.owner r.message.ident
    same_owner a q r n = bool_case (same_ident r.message.ident i) (λ z. same_ident r.message.ident i ≡ z → (if z then Gone else g.owner r.message.ident) ≡ g.owner r.message.ident)
        (λ z e. absurd (not_same (same_ident r.message.ident i) e (booked a q r n))) (λ z e. refl) refl

-- NONE COMES
pub none_comes : (w v : World) (g : Ghost) (b k : Book) (m : ℕ) (c : List ℕ) (u : Luw) (i : Ident) (now past : Ident → Owner) → Inv w g b → g.operated m c u ≡ true → Mem i (tag_idents (g.sent m c u)) → Inv v (with_owner g now) k
    → Inv v (with_owner (dropped g m c u i) past) k → HasRow i k.rows → ⊥
none_comes w v g b k m c u i now past h on there after_ without_ r =
    let t = map_mem (λ (x : Tag). x.ident) i (g.sent m c u) there in
    let own : g.owner i ≡ Forced m c u = ap g.owner t.2 ∙ h.operated m c u t.0 on t.1 in
    let own1 : now i ≡ Forced m c u = ap now t.2 ∙ after_.operated m c u t.0 on t.1 in
    elim (ledger_row v (with_owner (dropped g m c u i) past) k without_ r.0 r.1 r.2 r.3) [
      | inl f ↦ forced own (past i) refl (ap (λ x. is_forced (past x)) (sym r.4) ∙ f)
      | inr o ↦ claim_not r.0 r.1 o.0.by m c u (sym (after_.claims r.0 r.1 o.0 o.1 o.2) ∙ ap now (sym (told_ident r.2 o.0 o.3) ∙ r.4) ∙ own1)
    ]
  where
    forced : g.owner i ≡ Forced m c u → (o : Owner) → past i ≡ o → is_forced o ≡ true → ⊥
    forced own (Forced a d x) e f =
        let z = without_.forced a d x i e in
        let n : Mem i (tag_idents (g.sent a d x)) = idents_from i i (unit_at m c u a d x) (g.sent a d x) z.1 in
        let t = map_mem (λ (y : Tag). y.ident) i (g.sent a d x) n in
        let same = forced_is a m d c x u (sym (h.operated a d x t.0 z.0 t.1) ∙ ap g.owner (sym t.2) ∙ own) in
        let n1 : Mem i (tag_idents (filter (other i) (g.sent a d x))) = subst (λ y. Mem i (tag_idents (less i y (g.sent a d x)))) (unit_here m c u a d x same) z.1 in
        let s = map_mem (λ (y : Tag). y.ident) i (filter (other i) (g.sent a d x)) n1 in
        not_same (same_ident s.0.ident i) (ap (λ y. same_ident y i) (sym s.2) ∙ same_self i) (from_filter i s.0 (g.sent a d x) s.1).1
    forced own Unborn e f = true_false (sym f)
    forced own (At a q) e f = true_false (sym f)
    forced own (HeldBy a q x) e f = true_false (sym f)
    forced own (InBatch a d) e f = true_false (sym f)
    forced own (InUnit a x) e f = true_false (sym f)
    forced own (InHand a) e f = true_false (sym f)
    forced own Gone e f = true_false (sym f)
