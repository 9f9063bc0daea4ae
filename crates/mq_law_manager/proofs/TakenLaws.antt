-- The rows that units hold are what they have got, under all that is done to rows and to units.
use Rattle.std.proofs.Common.{ℕ, ◌≡◌, ◌≢◌, ◌⊎◌, Bool, true, false, List, [], ◌∷◌, ◌++◌, refl, ap, sym, subst, ◌∙◌, inl, inr}
use Rattle.std.specs.Prelude.{Option, Some, None, ◌==◌, if◌then◌else◌}
use Rattle.mq_message.specs.declared.message.Ident.{Ident}
use Rattle.mq_message.specs.declared.place.Holder.{Holder}
use Rattle.mq_message.specs.declared.place.Holder.TheVariants as holders
use Rattle.mq_queue.specs.declared.row.Row.{Row}
use Rattle.mq_calls.specs.declared.records.Add.{Add}
use Rattle.mq_calls.specs.Reads.{is_persistent}
use Rattle.mq_law_manager.specs.View.{Taken, at_number, inserted, kept_all, retagged_all}
use Rattle.mq_law_manager.specs.Facts.{Mem, Differ, ident_of, taken_ident, AreApart, AreTaken}
use Rattle.mq_law_manager.proofs.Lists.{bool_case, eqb_yes, eqb_self, mem_keep, mem_kept, mem_retag, mem_retagged, mem_append, mem_before, mem_behind, mem_inserted_at, mem_inserted_old, differ_push, one_row, is_it, it_is, not_it}

abbrev pub the_unit : Option Holder → ℕ
the_unit None = 0
the_unit (Some (holders.Unit n)) = n
the_unit (Some (holders.Batch c)) = 0

pub same_unit : (n l : ℕ) → Some (holders.Unit n) ≡ Some (holders.Unit l) → n ≡ l
same_unit n l e = ap the_unit e

abbrev pub taken_of : List ℕ → Row → Taken
taken_of q h = record { queue = q; ident = h.message.ident; persistent = is_persistent h.message }

pub inserts : (rows : List ℕ → List Row) (takes : ℕ → List Taken) (name : List ℕ) (row : Row) → row.by ≡ None → AreTaken rows takes → AreTaken (inserted name row rows) takes
inserts rows takes name row free a = record {
  held = λ q h n m e. elim (mem_inserted_at name row rows q h m) [
    | inl x ↦ absurd (cc (ap (λ (r : Row). r.by) x.1, e, free))
    | inr x ↦ a.held q h n x e
  ];
  there = λ n t m. let r = a.there n t m in record { row = r.row; there = mem_inserted_old name row rows t.queue r.row r.there; is = r.is; by = r.by; lasts = r.lasts };
  take_once = a.take_once;
}

-- rows go that no unit holds
pub keeps : (rows : List ℕ → List Row) (takes : ℕ → List Taken) (test : List ℕ → Row → Bool) → ((q : List ℕ) (h : Row) (n : ℕ) → Mem h (rows q) → h.by ≡ Some (holders.Unit n) → test q h ≡ true)
    → AreTaken rows takes → AreTaken (kept_all test rows) takes
keeps rows takes test stay a = record {
  held = λ q h n m e. a.held q h n (mem_keep (test q) h (rows q) m).0 e;
  there = λ n t m. let r = a.there n t m in record { row = r.row; there = mem_kept (test t.queue) r.row (rows t.queue) r.there (stay t.queue r.row n r.there r.by); is = r.is; by = r.by; lasts = r.lasts };
  take_once = a.take_once;
}

-- a change of rows at their places that leaves idents and persistence
pub record IsMild (change : List ℕ → Row → Row) : Type 0 where
  pub ident : (q : List ℕ) (h : Row) → (change q h).message.ident ≡ h.message.ident
  pub lasts : (q : List ℕ) (h : Row) → is_persistent (change q h).message ≡ is_persistent h.message

pub retags : (rows : List ℕ → List Row) (takes : ℕ → List Taken) (change : List ℕ → Row → Row) → IsMild change
    → ((q : List ℕ) (h : Row) (n : ℕ) → Mem h (rows q) → (change q h).by ≡ Some (holders.Unit n) → h.by ≡ Some (holders.Unit n))
    → ((q : List ℕ) (h : Row) (n : ℕ) → Mem h (rows q) → h.by ≡ Some (holders.Unit n) → (change q h).by ≡ Some (holders.Unit n))
    → AreTaken rows takes → AreTaken (retagged_all change rows) takes
retags rows takes change mild from to a = record {
  held = λ q h n m e. let x = mem_retag (change q) h (rows q) m in
      subst (λ (t : Taken). Mem t (takes n)) (λ i. record { queue = q; ident = (sym (ap ident_of x.2 ∙ mild.ident q x.0)) i; persistent = (sym (ap (λ (r : Row). is_persistent r.message) x.2 ∙ mild.lasts q x.0)) i })
      (a.held q x.0 n x.1 (from q x.0 n x.1 (sym (ap (λ (r : Row). r.by) x.2) ∙ e)));
  there = λ n t m. let r = a.there n t m in record {
    row = change t.queue r.row;
    there = mem_retagged (change t.queue) r.row (rows t.queue) r.there;
    is = mild.ident t.queue r.row ∙ r.is;
    by = to t.queue r.row n r.there r.by;
    lasts = mild.lasts t.queue r.row ∙ r.lasts;
  };
  take_once = a.take_once;
}

-- what one unit has got, no other has, and once
pub take_alone : (rows : List ℕ → List Row) (puts : ℕ → List Add) (unborn : Ident → Bool) (takes : ℕ → List Taken) → AreApart rows puts unborn → AreTaken rows takes
    → (n l : ℕ) (t u : Taken) → Mem t (takes n) → Mem u (takes l) → t.ident ≡ u.ident → (n ≡ l) × (t.queue ≡ u.queue)
take_alone rows puts unborn takes ap_ a n l t u m k e =
    let x = a.there n t m in
    let y = a.there l u k in
    let same : x.row.message.ident ≡ y.row.message.ident = x.is ∙ e ∙ sym y.is in
    let queue : t.queue ≡ u.queue = ap_.alone t.queue u.queue x.row y.row x.there y.there same in
    let row : x.row ≡ y.row = one_row (rows u.queue) x.row y.row (ap_.once u.queue) (subst (λ (q : List ℕ). Mem x.row (rows q)) queue x.there) y.there same in
    (same_unit n l (sym x.by ∙ ap (λ (r : Row). r.by) row ∙ y.by), queue)

-- a unit gets a free row
pub gets : (rows : List ℕ → List Row) (puts : ℕ → List Add) (unborn : Ident → Bool) (takes : ℕ → List Taken) (change : List ℕ → Row → Row) (n : ℕ) (q : List ℕ) (row : Row) → AreApart rows puts unborn → IsMild change
    → Mem row (rows q) → row.by ≡ None → (change q row).by ≡ Some (holders.Unit n)
    → ((d : List ℕ) (h : Row) → Mem h (rows d) → h.message.ident ≢ row.message.ident → (change d h).by ≡ h.by)
    → AreTaken rows takes → AreTaken (retagged_all change rows) (at_number n (takes n ++ taken_of q row ∷ []) takes)
gets rows puts unborn takes change n q row ap_ mild there_ free mine other a =
    let t : Taken = taken_of q row in
    let old : (l : ℕ) (x : Taken) → Mem x (takes l) → Mem x (at_number n (takes n ++ t ∷ []) takes l) = λ l x m. bool_case (l == n) (λ b. (l == n) ≡ b → Mem x (if b then takes n ++ t ∷ [] else takes l))
    (λ e z. mem_before x (takes n) (t ∷ []) (subst (λ (k : ℕ). Mem x (takes k)) (eqb_yes l n z) m)) (λ e z. m) refl in
    let new : Mem t (at_number n (takes n ++ t ∷ []) takes n) = subst (λ (b : Bool). Mem t (if b then takes n ++ t ∷ [] else takes n)) (sym (eqb_self n)) (mem_behind t (takes n) (t ∷ []) (inl refl)) in
    let split : (l : ℕ) (x : Taken) → Mem x (at_number n (takes n ++ t ∷ []) takes l) → ((l ≡ n) × (x ≡ t)) ⊎ Mem x (takes l) = λ l x. bool_case (l == n) (λ b. (l == n) ≡ b → Mem x (if b then takes n ++ t ∷ [] else takes l) → ((l ≡ n) × (x ≡ t)) ⊎ Mem x (takes l))
    (λ e z m. elim (mem_append x (takes n) (t ∷ []) m) [
      | inl w ↦ inr (subst (λ (k : ℕ). Mem x (takes k)) (sym (eqb_yes l n e)) w)
      | inr w ↦ elim w [ inl y ↦ inl (eqb_yes l n e, y) | inr y ↦ absurd y ]
    ]) (λ e z m. inr m) refl in
    let untouched : (l : ℕ) (x : Taken) → Mem x (takes l) → x.ident ≢ row.message.ident = λ l x m e.
    let r = a.there l x m in
    let same : r.row.message.ident ≡ row.message.ident = r.is ∙ e in
    let queue : x.queue ≡ q = ap_.alone x.queue q r.row row r.there there_ same in
    let one : r.row ≡ row = one_row (rows q) r.row row (ap_.once q) (subst (λ (d : List ℕ). Mem r.row (rows d)) queue r.there) there_ same in
    cc (ap (λ (h : Row). h.by) one, free, r.by) in
    record {
      held = λ d h l m e. let x = mem_retag (change d) h (rows d) m in
          let told : taken_of d x.0 ≡ record { queue = d; ident = h.message.ident; persistent = is_persistent h.message } =
          λ i. record { queue = d; ident = (sym (ap ident_of x.2 ∙ mild.ident d x.0)) i; persistent = (sym (ap (λ (r : Row). is_persistent r.message) x.2 ∙ mild.lasts d x.0)) i } in
          bool_case (is_it x.0 row) (λ b. is_it x.0 row ≡ b → Mem (record { queue = d; ident = h.message.ident; persistent = is_persistent h.message }) (at_number n (takes n ++ t ∷ []) takes l))
          (λ z w. let same : x.0.message.ident ≡ row.message.ident = it_is x.0 row w in
          let queue : d ≡ q = ap_.alone d q x.0 row x.1 there_ same in
          let one : x.0 ≡ row = one_row (rows q) x.0 row (ap_.once q) (subst (λ (c : List ℕ). Mem x.0 (rows c)) queue x.1) there_ same in
          let unit : n ≡ l = same_unit n l (sym mine ∙ (λ i. (change (sym queue i) (sym one i)).by) ∙ sym (ap (λ (r : Row). r.by) x.2) ∙ e) in
          subst (λ (k : ℕ). Mem (record { queue = d; ident = h.message.ident; persistent = is_persistent h.message }) (at_number n (takes n ++ t ∷ []) takes k)) unit
          (subst (λ (y : Taken). Mem y (at_number n (takes n ++ t ∷ []) takes n)) ((λ i. taken_of (sym queue i) (sym one i)) ∙ told) new))
          (λ z w. old l _ (subst (λ (y : Taken). Mem y (takes l)) told (a.held d x.0 l x.1 (sym (other d x.0 x.1 (not_it x.0 row w)) ∙ sym (ap (λ (r : Row). r.by) x.2) ∙ e)))) refl;
      there = λ l x m. elim (split l x m) [
        | inl z ↦ record {
          row = change x.queue row;
          there = mem_retagged (change x.queue) row (rows x.queue) (subst (λ (d : List ℕ). Mem row (rows d)) (sym (ap (λ (y : Taken). y.queue) z.1)) there_);
          is = mild.ident x.queue row ∙ sym (ap taken_ident z.1);
          by = ap (λ (d : List ℕ). (change d row).by) (ap (λ (y : Taken). y.queue) z.1) ∙ mine ∙ ap (λ (k : ℕ). Some (holders.Unit k)) (sym z.0);
          lasts = mild.lasts x.queue row ∙ sym (ap (λ (y : Taken). y.persistent) z.1);
        }
        | inr z ↦ let r = a.there l x z in record {
          row = change x.queue r.row;
          there = mem_retagged (change x.queue) r.row (rows x.queue) r.there;
          is = mild.ident x.queue r.row ∙ r.is;
          by = other x.queue r.row r.there (λ w. untouched l x z (sym r.is ∙ w)) ∙ r.by;
          lasts = mild.lasts x.queue r.row ∙ r.lasts;
        }
      ];
      take_once = λ l. bool_case (l == n) (λ b. Differ taken_ident (if b then takes n ++ t ∷ [] else takes l)) (λ e. differ_push taken_ident t (takes n) (λ y m. untouched n y m) (a.take_once n)) (λ e. a.take_once l);
    }

-- the first of what a unit has got is done with: its row is gone, or free again
pub rest_in : (takes : ℕ → List Taken) (n : ℕ) (t : Taken) (rest : List Taken) → takes n ≡ t ∷ rest → (l : ℕ) (x : Taken) → Mem x (at_number n rest takes l) → Mem x (takes l)
rest_in takes n t rest is l x = bool_case (l == n) (λ b. (l == n) ≡ b → Mem x (if b then rest else takes l) → Mem x (takes l))
    (λ e z m. subst (λ (k : ℕ). Mem x (takes k)) (sym (eqb_yes l n z)) (subst (λ (ts : List Taken). Mem x ts) (sym is) (inr m))) (λ e z m. m) refl

pub rest_once : (takes : ℕ → List Taken) (n : ℕ) (t : Taken) (rest : List Taken) → takes n ≡ t ∷ rest → ((l : ℕ) → Differ taken_ident (takes l)) → (l : ℕ) → Differ taken_ident (at_number n rest takes l)
rest_once takes n t rest is once l = bool_case (l == n) (λ b. Differ taken_ident (if b then rest else takes l))
    (λ e. (subst (λ (ts : List Taken). Differ taken_ident ts) is (once n)).1) (λ e. once l)

-- what is left after the first isn't it
pub rest_other : (rows : List ℕ → List Row) (puts : ℕ → List Add) (unborn : Ident → Bool) (takes : ℕ → List Taken) (n : ℕ) (t : Taken) (rest : List Taken) → AreApart rows puts unborn → AreTaken rows takes → takes n ≡ t ∷ rest
    → (l : ℕ) (x : Taken) → Mem x (at_number n rest takes l) → x.ident ≢ t.ident
rest_other rows puts unborn takes n t rest ap_ a is l x = bool_case (l == n) (λ b. (l == n) ≡ b → Mem x (if b then rest else takes l) → x.ident ≢ t.ident)
    (λ e z m w. (subst (λ (ts : List Taken). Differ taken_ident ts) is (a.take_once n)).0 x m (sym w))
    (λ e z m w. cc (z, eqb_self n, (take_alone rows puts unborn takes ap_ a l n x t m (subst (λ (ts : List Taken). Mem t ts) (sym is) (inl refl)) w).0)) refl

-- and all but it is left
pub rest_left : (takes : ℕ → List Taken) (n : ℕ) (t : Taken) (rest : List Taken) → takes n ≡ t ∷ rest → (l : ℕ) (x : Taken) → Mem x (takes l) → x.ident ≢ t.ident → Mem x (at_number n rest takes l)
rest_left takes n t rest is l x m ne = bool_case (l == n) (λ b. (l == n) ≡ b → Mem x (if b then rest else takes l))
    (λ e z. elim (subst (λ (ts : List Taken). Mem x ts) is (subst (λ (k : ℕ). Mem x (takes k)) (eqb_yes l n z) m)) [ inl w ↦ absurd (ne (ap taken_ident w)) | inr w ↦ w ]) (λ e z. m) refl

pub goes : (rows : List ℕ → List Row) (puts : ℕ → List Add) (unborn : Ident → Bool) (takes : ℕ → List Taken) (test : List ℕ → Row → Bool) (n : ℕ) (t : Taken) (rest : List Taken) → AreApart rows puts unborn → takes n ≡ t ∷ rest
    → ((h : Row) → Mem h (rows t.queue) → h.message.ident ≡ t.ident → test t.queue h ≡ false)
    → ((q : List ℕ) (h : Row) → Mem h (rows q) → h.message.ident ≢ t.ident → test q h ≡ true)
    → AreTaken rows takes → AreTaken (kept_all test rows) (at_number n rest takes)
goes rows puts unborn takes test n t rest ap_ is mine other a =
    let first : Mem t (takes n) = subst (λ (ts : List Taken). Mem t ts) (sym is) (inl refl) in
    let at = a.there n t first in
    record {
      held = λ q h l m e. let k = mem_keep (test q) h (rows q) m in rest_left takes n t rest is l (taken_of q h) (a.held q h l k.0 e) (λ w.
          let queue : q ≡ t.queue = ap_.alone q t.queue h at.row k.0 at.there (w ∙ sym at.is) in
          cc (mine h (subst (λ (d : List ℕ). Mem h (rows d)) queue k.0) w, ap (λ (d : List ℕ). test d h) queue, k.1));
      there = λ l x m. let r = a.there l x (rest_in takes n t rest is l x m) in record {
        row = r.row;
        there = mem_kept (test x.queue) r.row (rows x.queue) r.there (other x.queue r.row r.there (λ w. rest_other rows puts unborn takes n t rest ap_ a is l x m (sym r.is ∙ w)));
        is = r.is;
        by = r.by;
        lasts = r.lasts;
      };
      take_once = rest_once takes n t rest is a.take_once;
    }

pub frees : (rows : List ℕ → List Row) (puts : ℕ → List Add) (unborn : Ident → Bool) (takes : ℕ → List Taken) (change : List ℕ → Row → Row) (n : ℕ) (t : Taken) (rest : List Taken) → AreApart rows puts unborn → takes n ≡ t ∷ rest → IsMild change
    → ((h : Row) → Mem h (rows t.queue) → h.message.ident ≡ t.ident → h.by ≡ Some (holders.Unit n) → (change t.queue h).by ≡ None)
    → ((q : List ℕ) (h : Row) → Mem h (rows q) → h.message.ident ≢ t.ident → (change q h).by ≡ h.by)
    → AreTaken rows takes → AreTaken (retagged_all change rows) (at_number n rest takes)
frees rows puts unborn takes change n t rest ap_ is mild mine other a =
    let first : Mem t (takes n) = subst (λ (ts : List Taken). Mem t ts) (sym is) (inl refl) in
    let at = a.there n t first in
    record {
      held = λ q h l m e. let x = mem_retag (change q) h (rows q) m in
          let told : taken_of q x.0 ≡ taken_of q h =
          λ i. record { queue = q; ident = (sym (ap ident_of x.2 ∙ mild.ident q x.0)) i; persistent = (sym (ap (λ (r : Row). is_persistent r.message) x.2 ∙ mild.lasts q x.0)) i } in
          let by : (change q x.0).by ≡ Some (holders.Unit l) = sym (ap (λ (r : Row). r.by) x.2) ∙ e in
          let ne : x.0.message.ident ≢ t.ident = λ w.
          let queue : q ≡ t.queue = ap_.alone q t.queue x.0 at.row x.1 at.there (w ∙ sym at.is) in
          let one : x.0 ≡ at.row = one_row (rows t.queue) x.0 at.row (ap_.once t.queue) (subst (λ (d : List ℕ). Mem x.0 (rows d)) queue x.1) at.there (w ∙ sym at.is) in
          cc (by, ap (λ (d : List ℕ). (change d x.0).by) queue, mine x.0 (subst (λ (d : List ℕ). Mem x.0 (rows d)) queue x.1) w (ap (λ (r : Row). r.by) one ∙ at.by)) in
          subst (λ (y : Taken). Mem y (at_number n rest takes l)) told (rest_left takes n t rest is l (taken_of q x.0) (a.held q x.0 l x.1 (sym (other q x.0 x.1 ne) ∙ by)) ne);
      there = λ l x m. let r = a.there l x (rest_in takes n t rest is l x m) in record {
        row = change x.queue r.row;
        there = mem_retagged (change x.queue) r.row (rows x.queue) r.there;
        is = mild.ident x.queue r.row ∙ r.is;
        by = other x.queue r.row r.there (λ w. rest_other rows puts unborn takes n t rest ap_ a is l x m (sym r.is ∙ w)) ∙ r.by;
        lasts = mild.lasts x.queue r.row ∙ r.lasts;
      };
      take_once = rest_once takes n t rest is a.take_once;
    }

-- all units are at their ends
pub clears : (rows : List ℕ → List Row) → ((q : List ℕ) (h : Row) (n : ℕ) → Mem h (rows q) → h.by ≢ Some (holders.Unit n)) → AreTaken rows (λ n. [])
clears rows none = record { held = λ q h n m e. absurd (none q h n m e); there = λ n t m. absurd m; take_once = λ n. tt }
