-- A restart has the facts again, since what lasts of a manager has them, stopped or frozen as it is.
use Rattle.std.proofs.Common.{ℕ, ◌≡◌, ◌≢◌, ◌≤◌, ◌+◌, true, false, List, [], ◌∷◌, refl, ap, sym, subst, ◌∙◌, arith, inl, inr}
use Rattle.std.specs.Prelude.{Option, Some, None, if◌then◌else◌, ◌&&◌, ◌||◌, ◌==◌, nat_lt}
use Rattle.std.specs.Str.{bytes_eq}
use Rattle.std.proofs.lemmas.Bool.Decides.{nat_tests}
use Rattle.mq_message.specs.declared.message.Ident.{Ident}
use Rattle.mq_message.specs.declared.place.Place.{Place}
use Rattle.mq_message.specs.declared.place.Holder.{Holder}
use Rattle.mq_message.specs.declared.place.Holder.TheVariants as holders
use Rattle.mq_queue.specs.declared.row.Row.{Row}
use Rattle.mq_queue.specs.Queues.{AllBehind, AreInOrder}
use Rattle.mq_calls.specs.State.{Plain, Queue}
use Rattle.mq_calls.specs.declared.state.Batch.{Batch}
use Rattle.mq_calls.specs.Reads.{queue_in, batch_of, is_persistent}
use Rattle.mq_calls.specs.Images.{has_batch, rests_by, lasting_row, lasting_rows, shelves_of, lasting, raised}
use Rattle.mq_law_manager.specs.View.{view}
use Rattle.mq_law_manager.specs.Facts.{Mem, Differ, ident_of, IsOf, AreLaned, AreStill}
use Rattle.mq_law_manager.proofs.Lists.{bool_case}
use Rattle.mq_law_manager.proofs.Numbered.{ImageRests, rows_on}
use Rattle.mq_law_manager.proofs.Beginning.{the_batch}

-- What lasts of rows

pub record IsLast (bs : List Batch) (h : Row) (rows : List Row) : Type 0 where
  pub row : Row
  pub there : Mem row rows
  pub persistent : is_persistent row.message ≡ true
  pub is : h ≡ lasting_row bs row

later : {bs : List Batch} {h : Row} {rows : List Row} (row : Row) → IsLast bs h rows → IsLast bs h (row ∷ rows)
later row l = record { row = l.row; there = inr l.there; persistent = l.persistent; is = l.is }

pub mem_lasting : (bs : List Batch) (rows : List Row) (h : Row) → Mem h (lasting_rows bs rows) → IsLast bs h rows
mem_lasting bs [] h m = absurd m
mem_lasting bs (row ∷ rows) h m = bool_case (is_persistent row.message) (λ b. is_persistent row.message ≡ b → Mem h (if b then lasting_row bs row ∷ lasting_rows bs rows else lasting_rows bs rows) → IsLast bs h (row ∷ rows))
    (λ e z k. elim k [ inl w ↦ record { row = row; there = inl refl; persistent = z; is = w } | inr w ↦ later row (mem_lasting bs rows h w) ])
    (λ e z k. later row (mem_lasting bs rows h k)) refl m

lasting_differ : (bs : List Batch) (rows : List Row) → Differ ident_of rows → Differ ident_of (lasting_rows bs rows)
lasting_differ bs [] d = tt
lasting_differ bs (row ∷ rows) d = bool_case (is_persistent row.message) (λ b. Differ ident_of (if b then lasting_row bs row ∷ lasting_rows bs rows else lasting_rows bs rows))
    (λ e. (λ y m z. let k = mem_lasting bs rows y m in d.0 k.row k.there (z ∙ ap ident_of k.is), lasting_differ bs rows d.1))
    (λ e. lasting_differ bs rows d.1)

lane_below : (l1 l2 a1 a2 : ℕ) → (nat_lt l1 l2 || ((l1 == l2) && nat_lt a1 a2)) ≡ true → l1 ≤ l2
lane_below l1 l2 a1 a2 e = grind (arith, nat_tests)

pub behind_lane : (place : Place) (rows : List Row) → AllBehind place rows → (y : Row) → Mem y rows → place.lane ≤ y.place.lane
behind_lane place [] h y m = absurd m
behind_lane place (x ∷ xs) h y (inl e) = subst (λ (r : Row). place.lane ≤ r.place.lane) (sym e) (lane_below place.lane x.place.lane place.arrival x.place.arrival h.0)
behind_lane place (x ∷ xs) h y (inr m) = behind_lane place xs h.1 y m

pub in_lanes : (rows : List Row) → AreInOrder rows → AreLaned rows
in_lanes [] h = tt
in_lanes (row ∷ rows) h = (behind_lane row.place rows h.0, in_lanes rows h.1)

lasting_laned : (bs : List Batch) (rows : List Row) → AreLaned rows → AreLaned (lasting_rows bs rows)
lasting_laned bs [] h = tt
lasting_laned bs (row ∷ rows) h = bool_case (is_persistent row.message) (λ b. AreLaned (if b then lasting_row bs row ∷ lasting_rows bs rows else lasting_rows bs rows))
    (λ e. (λ y m. let k = mem_lasting bs rows y m in subst (λ (r : Row). row.place.lane ≤ r.place.lane) (sym k.is) (h.0 k.row k.there), lasting_laned bs rows h.1))
    (λ e. lasting_laned bs rows h.1)

-- who holds a row that lasts
no_unit : (bs : List Batch) (b : Option Holder) (n : ℕ) → rests_by bs b ≢ Some (holders.Unit n)
no_unit bs None n e = cc e
no_unit bs (Some (holders.Unit k)) n e = cc e
no_unit bs (Some (holders.Batch c)) n e = bool_case (has_batch c bs) (λ t. (if t then None else Some (holders.Batch c)) ≡ Some (holders.Unit n) → ⊥) (λ z w. cc w) (λ z w. cc w) e

in_doubt : (bs : List Batch) (b : Option Holder) (c : List ℕ) → rests_by bs b ≡ Some (holders.Batch c) → (b ≡ Some (holders.Batch c)) × (has_batch c bs ≡ false)
in_doubt bs None c e = absurd cc
in_doubt bs (Some (holders.Unit k)) c e = absurd cc
in_doubt bs (Some (holders.Batch d)) c e = bool_case (has_batch d bs) (λ t. has_batch d bs ≡ t → (if t then None else Some (holders.Batch d)) ≡ Some (holders.Batch c) → (Some (holders.Batch d) ≡ Some (holders.Batch c)) × (has_batch c bs ≡ false))
    (λ z w f. absurd cc) (λ z w f. (f, ap (λ (x : List ℕ). has_batch x bs) (sym (ap (the_batch d) f)) ∙ w)) refl e

no_batch_of : (c : List ℕ) (bs : List Batch) → has_batch c bs ≡ false → batch_of c bs ≡ None
no_batch_of c [] e = refl
no_batch_of c (b ∷ bs) e = bool_case (bytes_eq c b.channel) (λ t. (t || has_batch c bs) ≡ false → (if t then Some b else batch_of c bs) ≡ None) (λ z w. absurd cc) (λ z w. no_batch_of c bs w) e

pub rows_lasting : (name : List ℕ) (bs : List Batch) (qs : List Queue) → rows_on name (shelves_of bs qs) ≡ lasting_rows bs (queue_in name qs).rows
rows_lasting name bs [] = refl
rows_lasting name bs (q ∷ qs) = bool_case (bytes_eq name q.name) (λ b. (if b then lasting_rows bs q.rows else rows_on name (shelves_of bs qs)) ≡ lasting_rows bs (if b then q else queue_in name qs).rows) (λ e. refl) (λ e. rows_lasting name bs qs)

-- the next incarnation
older : (i : Ident) (m n k s : ℕ) → ((i.manager == m) && (nat_lt n i.incarnation || ((i.incarnation == n) && nat_lt k i.number))) ≡ false
    → ((i.manager == m) && (nat_lt (n + s + 1) i.incarnation || ((i.incarnation == n + s + 1) && nat_lt 0 i.number))) ≡ false
older i m n k s e = grind (arith, nat_tests)

-- what lasts has what a manager begins with
pub lasting_rests : (started : ℕ) (p : Plain) → AreStill (view p) → ImageRests p.given (raised started (lasting p))
lasting_rests started p h = record {
  once = λ q. subst (Differ ident_of) (sym (on q)) (lasting_differ bs ((view p).rows q) (h.apart.once q));
  alone = λ q d x y m n e. let a = old q x m in let b = old d y n in h.apart.alone q d a.row b.row a.there b.there (sym (ap ident_of a.is) ∙ e ∙ ap ident_of b.is);
  given = λ q x m. let a = old q x m in older x.message.ident p.given.number p.numbers.incarnation p.numbers.idents started
      (ap (λ (i : Ident). (i.manager == p.given.number) && (nat_lt p.numbers.incarnation i.incarnation || ((i.incarnation == p.numbers.incarnation) && nat_lt p.numbers.idents i.number))) (ap ident_of a.is) ∙ h.apart.given q a.row a.there);
  laned = λ q. subst AreLaned (sym (on q)) (lasting_laned bs ((view p).rows q) (in_lanes ((view p).rows q) (h.ordered.in_order q)));
  units = λ q x n m e. let a = old q x m in no_unit bs a.row.by n (sym (ap (λ (r : Row). r.by) a.is) ∙ e);
  of = λ q x c m e.
      let a = old q x m in
      let k = in_doubt bs a.row.by c (sym (ap (λ (r : Row). r.by) a.is) ∙ e) in
      subst (λ (i : Ident). IsOf q i None ((view p).doubt c)) (sym (ap ident_of a.is))
      (subst (λ (b : Option Batch). IsOf q a.row.message.ident b ((view p).doubt c)) (no_batch_of c bs k.1) (h.of q a.row c a.there k.0));
}
  where
    bs : List Batch
    bs = p.channels.batches

    on : (q : List ℕ) → rows_on q (shelves_of p.channels.batches p.queues) ≡ lasting_rows p.channels.batches ((view p).rows q)
    on q = rows_lasting q p.channels.batches p.queues

    old : (q : List ℕ) (x : Row) → Mem x (rows_on q (shelves_of p.channels.batches p.queues)) → IsLast p.channels.batches x ((view p).rows q)
    old q x m = mem_lasting p.channels.batches ((view p).rows q) x (subst (λ (rows : List Row). Mem x rows) (on q) m)
