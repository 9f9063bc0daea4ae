-- The steps that keep what holds of a manager's rows, each with what it asks.
use Rattle.std.proofs.Common.{ℕ, ◌≡◌, ◌≢◌, ◌+◌, Bool, true, false, List, [], ◌∷◌, ◌++◌, refl, ap, sym, subst, ◌∙◌, inl, inr}
use Rattle.std.specs.Prelude.{Option, Some, None, not, ◌&&◌, ◌||◌, if◌then◌else◌, ◌==◌}
use Rattle.std.specs.Str.{bytes_eq}
use Rattle.mq_message.specs.declared.message.Ident.{Ident}
use Rattle.mq_message.specs.declared.message.Message.{Message}
use Rattle.mq_message.specs.declared.place.Holder.{Holder}
use Rattle.mq_message.specs.declared.place.Holder.TheVariants as holders
use Rattle.mq_queue.specs.declared.row.Row.{Row}
use Rattle.mq_queue.specs.Rows.{is_free, same_ident}
use Rattle.mq_queue.proofs.QueueLaws.{KeepsPlaces}
use Rattle.mq_calls.specs.declared.records.Add.{Add}
use Rattle.mq_calls.specs.State.{Which}
use Rattle.mq_calls.specs.declared.state.Batch.{Batch}
use Rattle.mq_calls.specs.declared.state.Item.TheVariants.{Put, Take}
use Rattle.mq_calls.specs.State.Which.{Among}
use Rattle.mq_calls.specs.Reads.{is_persistent}
use Rattle.mq_calls.specs.Changes.{selects, retag_if, release_if}
use Rattle.mq_law_manager.specs.View.{View, Taken, at_name, at_number, kept_all, retagged_all}
use Rattle.mq_law_manager.specs.Facts.{Mem, Differ, put_ident, Holds, AreTaken, AreApart, AreBatched}
use Rattle.mq_law_manager.specs.Seen.{goes_if, held_if, freed_if, with_rows, place_in, empty_in, pend_in, with_unit}
use Rattle.mq_law_manager.proofs.Lists.{bool_case, eqb_yes, eqb_self, same_self, ident_no, name_self, name_yes, one_row}
use Rattle.mq_law_manager.proofs.Apart as apart
use Rattle.mq_law_manager.proofs.Apart.{IsNew}
use Rattle.mq_law_manager.proofs.TakenLaws as taken
use Rattle.mq_law_manager.proofs.TakenLaws.{IsMild}
use Rattle.mq_law_manager.proofs.BatchLaws as batched
use Rattle.mq_law_manager.proofs.OrderLaws as ordered

-- What retags do to a row, whatever is meant

pub held_mild : (t : Bool) (by : Option Holder) (r : Row) → ((retag_if t by r).message ≡ r.message) × ((retag_if t by r).place ≡ r.place)
held_mild true by r = (refl, refl)
held_mild false by r = (refl, refl)

pub freed_mild : (t counted : Bool) (r : Row) → ((release_if t counted r).message.ident ≡ r.message.ident) × (is_persistent (release_if t counted r).message ≡ is_persistent r.message) × ((release_if t counted r).place ≡ r.place)
freed_mild true true r = (refl, refl, refl)
freed_mild true false r = (refl, refl, refl)
freed_mild false counted r = (refl, refl, refl)

pub holds_mild : (which : Which) (by : Holder) → IsMild (held_if which by)
holds_mild which by = record {
  ident = λ q h. ap (λ m. m.ident) (held_mild (selects which q h && is_free h) (Some by) h).0;
  lasts = λ q h. ap is_persistent (held_mild (selects which q h && is_free h) (Some by) h).0;
}

pub frees_mild : (which : Which) (counted : Bool) → IsMild (freed_if which counted)
frees_mild which counted = record {
  ident = λ q h. (freed_mild (selects which q h && not (is_free h)) counted h).0;
  lasts = λ q h. (freed_mild (selects which q h && not (is_free h)) counted h).1;
}

pub holds_places : (which : Which) (by : Holder) (q : List ℕ) → KeepsPlaces (held_if which by q)
holds_places which by q = λ h. let t = held_mild (selects which q h && is_free h) (Some by) h in (t.1, ap (λ m. m.ident) t.0)

pub frees_places : (which : Which) (counted : Bool) (q : List ℕ) → KeepsPlaces (freed_if which counted q)
frees_places which counted q = λ h. let t = freed_mild (selects which q h && not (is_free h)) counted h in (t.2, t.0)

-- Steps

-- a new row is placed
pub places : (v : View) (name : List ℕ) (row : Row) → Holds v → IsNew row.message.ident v.rows v.puts v.unborn → row.by ≡ None → row.place.arrival ≡ v.arrivals name + 1 → Holds (place_in name row v)
places v name row h new free last = record {
  apart = apart.inserts v.rows v.puts v.unborn name row h.apart new;
  taken = taken.inserts v.rows v.takes name row free h.taken;
  batched = batched.inserts v.rows v.batch v.doubt name row free h.batched;
  ordered = ordered.inserts v.rows v.arrivals name row last h.ordered;
}

-- rows go that no unit holds, and no batch before it is prepared
pub goes : (v : View) (test : List ℕ → Row → Bool) → Holds v
    → ((q : List ℕ) (h : Row) (n : ℕ) → Mem h (v.rows q) → h.by ≡ Some (holders.Unit n) → test q h ≡ true)
    → ((q : List ℕ) (h : Row) (c : List ℕ) (b : Batch) → Mem h (v.rows q) → h.by ≡ Some (holders.Batch c) → v.batch c ≡ Some b → test q h ≡ true)
    → Holds (with_rows (kept_all test v.rows) v)
goes v test h units batches = record {
  apart = apart.keeps v.rows v.puts v.unborn test h.apart;
  taken = taken.keeps v.rows v.takes test units h.taken;
  batched = batched.keeps v.rows v.batch v.doubt test batches h.batched;
  ordered = ordered.keeps v.rows v.arrivals test h.ordered;
}

-- a message waits for the end of its unit
pub pends : (v : View) (n : ℕ) (a : Add) → Holds v → IsNew a.message.ident v.rows v.puts v.unborn → Holds (record v { puts = at_number n (v.puts n ++ a ∷ []) v.puts })
pends v n a h new = record { apart = apart.pends v.rows v.puts v.unborn n a h.apart new; taken = h.taken; batched = h.batched; ordered = h.ordered }

-- what else of a unit changes nothing
append_none : {A : Type 0} (xs : List A) → xs ++ [] ≡ xs
append_none [] = refl
append_none (x ∷ xs) = ap (λ ys. x ∷ ys) (append_none xs)

pub number_same : {A : Type 0} (n : ℕ) (new : A) (old : ℕ → A) (k : ℕ) → new ≡ old n → at_number n new old k ≡ old k
number_same {A} n new old k is = bool_case (k == n) (λ b. (k == n) ≡ b → (if b then new else old k) ≡ old k) (λ e z. is ∙ ap old (sym (eqb_yes k n z))) (λ e z. refl) refl

pub number_twice : {A : Type 0} (n : ℕ) (new mid : A) (old : ℕ → A) (k : ℕ) → at_number n new (at_number n mid old) k ≡ at_number n new old k
number_twice {A} n new mid old k = bool_case (k == n) (λ b. (if b then new else (if b then mid else old k)) ≡ (if b then new else old k)) (λ e. refl) (λ e. refl)

pub number_here : {A : Type 0} (n : ℕ) (new : A) (old : ℕ → A) → at_number n new old n ≡ new
number_here {A} n new old = ap (λ (b : Bool). if b then new else old n) (eqb_self n)

pub pends_put : (v : View) (n : ℕ) (queue : List ℕ) (m : Message) → Holds v → IsNew m.ident v.rows v.puts v.unborn → Holds (pend_in n (Put queue m) v)
pends_put v n queue m h new = subst (λ (ts : ℕ → List Taken). Holds (record v { puts = at_number n (v.puts n ++ record { queue = queue; message = m } ∷ []) v.puts; takes = ts }))
    (λ i k. sym (number_same n (v.takes n ++ []) v.takes k (append_none (v.takes n))) i)
    (pends v n (record { queue = queue; message = m }) h new)

-- more idents are given
pub gives : (v : View) (unborn : Ident → Bool) → Holds v → ((i : Ident) → v.unborn i ≡ false → unborn i ≡ false) → Holds (record v { unborn = unborn })
gives v unborn h more = record { apart = apart.born v.rows v.puts v.unborn unborn more h.apart; taken = h.taken; batched = h.batched; ordered = h.ordered }

-- which rows are meant: those of one ident on a queue
pub among_one : (q : List ℕ) (i : Ident) (h : Row) → h.message.ident ≡ i → selects (Among q (i ∷ [])) q h ≡ true
among_one q i h e = ap (λ (b : Bool). b && (same_ident h.message.ident i || false)) (name_self q) ∙ ap (λ (j : Ident). same_ident j i || false) e ∙ ap (λ (b : Bool). b || false) (same_self i)

pub among_other : (q : List ℕ) (i : Ident) (d : List ℕ) (h : Row) → h.message.ident ≢ i → selects (Among q (i ∷ [])) d h ≡ false
among_other q i d h ne = ap (λ (b : Bool). bytes_eq d q && (b || false)) (ident_no h.message.ident i ne) ∙ both (bytes_eq d q)
  where
    both : (b : Bool) → (b && (false || false)) ≡ false
    both true = refl
    both false = refl

-- a row that a unit has got, no batch holds
pub held_apart : (v : View) (n : ℕ) (ps : List Add) (t : Taken) (ts : List Taken) → Holds (with_unit n ps (t ∷ ts) v) → (q : List ℕ) (x : Row) (c : List ℕ) → Mem x (v.rows q) → x.by ≡ Some (holders.Batch c) → x.message.ident ≢ t.ident
held_apart v n ps t ts h q x c m by w =
    let at = h.taken.there n t (subst (λ (y : List Taken). Mem t y) (sym (number_here n (t ∷ ts) v.takes)) (inl refl)) in
    let same : x.message.ident ≡ at.row.message.ident = w ∙ sym at.is in
    let queue : q ≡ t.queue = h.apart.alone q t.queue x at.row m at.there same in
    let one : x ≡ at.row = one_row (v.rows t.queue) x at.row (h.apart.once t.queue) (subst (λ (d : List ℕ). Mem x (v.rows d)) queue m) at.there same in
    cc (by, ap (λ (r : Row). r.by) one, at.by)

-- a unit commits a get: the row goes
pub take_goes : (v : View) (n : ℕ) (ps : List Add) (t : Taken) (ts : List Taken) → Holds (with_unit n ps (t ∷ ts) v)
    → Holds (with_unit n ps ts (with_rows (kept_all (goes_if (Among t.queue (t.ident ∷ []))) v.rows) v))
take_goes v n ps t ts h =
    let test : List ℕ → Row → Bool = goes_if (Among t.queue (t.ident ∷ [])) in
    let old : ℕ → List Taken = at_number n (t ∷ ts) v.takes in
    let first : Mem t (old n) = subst (λ (x : List Taken). Mem t x) (sym (number_here n (t ∷ ts) v.takes)) (inl refl) in
    let at = h.taken.there n t first in
    let other : (q : List ℕ) (x : Row) → Mem x (v.rows q) → x.message.ident ≢ t.ident → test q x ≡ true = λ q x m ne. ap not (among_other t.queue t.ident q x ne) in
    record {
      apart = apart.keeps v.rows (at_number n ps v.puts) v.unborn test h.apart;
      taken = subst (λ (f : ℕ → List Taken). AreTaken (kept_all test v.rows) f) (λ i k. number_twice n ts (t ∷ ts) v.takes k i)
          (taken.goes v.rows (at_number n ps v.puts) v.unborn old test n t ts h.apart (number_here n (t ∷ ts) v.takes)
          (λ x m e. ap not (among_one t.queue t.ident x e)) other h.taken);
      batched = batched.keeps v.rows v.batch v.doubt test (λ q x c b m by e. other q x m (λ w. held_apart v n ps t ts h q x c m by w)) h.batched;
      ordered = ordered.keeps v.rows v.arrivals test h.ordered;
    }

-- a row that is selected is free again; any other stays
pub is_held : (h : Row) (n : Holder) → h.by ≡ Some n → is_free h ≡ false
is_held h n e = ap (λ (b : Option Holder). elim b as (λ h. Bool) [ None ↦ true | Some x ↦ false ]) e

pub freed_row : (t : Bool) (counted : Bool) (h : Row) → t ≡ true → (release_if t counted h).by ≡ None
freed_row true counted h e = refl
freed_row false counted h e = absurd cc

pub unfreed_row : (t : Bool) (counted : Bool) (h : Row) → t ≡ false → (release_if t counted h).by ≡ h.by
unfreed_row true counted h e = absurd cc
unfreed_row false counted h e = refl

and_yes : (a b : Bool) → a ≡ true → b ≡ true → (a && b) ≡ true
and_yes a b x y = ap (λ (t : Bool). t && b) x ∙ y

and_no : (a b : Bool) → a ≡ false → (a && b) ≡ false
and_no a b x = ap (λ (t : Bool). t && b) x

-- a unit backs a get out: the row is free again at its place
pub take_frees : (v : View) (n : ℕ) (ps : List Add) (t : Taken) (ts : List Taken) (counted : Bool) → Holds (with_unit n ps (t ∷ ts) v)
    → Holds (with_unit n ps ts (with_rows (retagged_all (freed_if (Among t.queue (t.ident ∷ [])) counted) v.rows) v))
take_frees v n ps t ts counted h =
    let which : Which = Among t.queue (t.ident ∷ []) in
    let change : List ℕ → Row → Row = freed_if which counted in
    let old : ℕ → List Taken = at_number n (t ∷ ts) v.takes in
    let mild = frees_mild which counted in
    let other : (q : List ℕ) (x : Row) → Mem x (v.rows q) → x.message.ident ≢ t.ident → (change q x).by ≡ x.by =
    λ q x m ne. unfreed_row (selects which q x && not (is_free x)) counted x (and_no (selects which q x) (not (is_free x)) (among_other t.queue t.ident q x ne)) in
    let mine : (x : Row) → Mem x (v.rows t.queue) → x.message.ident ≡ t.ident → x.by ≡ Some (holders.Unit n) → (change t.queue x).by ≡ None =
    λ x m e by. freed_row (selects which t.queue x && not (is_free x)) counted x (and_yes (selects which t.queue x) (not (is_free x)) (among_one t.queue t.ident x e) (ap not (is_held x (holders.Unit n) by))) in
    let by_freed : (q : List ℕ) (x : Row) (b : Holder) → (change q x).by ≡ Some b → (change q x).by ≡ x.by = λ q x b e.
    bool_case (selects which q x && not (is_free x)) (λ z. (release_if z counted x).by ≡ Some b → (release_if z counted x).by ≡ x.by) (λ z w. absurd cc) (λ z w. refl) e in
    record {
      apart = apart.retags v.rows (at_number n ps v.puts) v.unborn change (λ q x. mild.ident q x) h.apart;
      taken = subst (λ (f : ℕ → List Taken). AreTaken (retagged_all change v.rows) f) (λ i k. number_twice n ts (t ∷ ts) v.takes k i)
          (taken.frees v.rows (at_number n ps v.puts) v.unborn old change n t ts h.apart (number_here n (t ∷ ts) v.takes) mild mine other h.taken);
      batched = batched.retags v.rows v.batch v.doubt change (λ q x. mild.ident q x)
          (λ q x c m e. sym (by_freed q x (holders.Batch c) e) ∙ e)
          (λ q x c m e. other q x m (λ w. held_apart v n ps t ts h q x c m e w) ∙ e) h.batched;
      ordered = ordered.retags v.rows v.arrivals change (frees_places which counted) h.ordered;
    }

-- a unit commits a put: the row is placed
pub put_lands : (v : View) (n : ℕ) (a : Add) (ps : List Add) (ts : List Taken) (row : Row) → Holds (with_unit n (a ∷ ps) ts v) → row.message ≡ a.message → row.by ≡ None → row.place.arrival ≡ v.arrivals a.queue + 1
    → Holds (with_unit n ps ts (place_in a.queue row v))
put_lands v n a ps ts row h is free last =
    let old : ℕ → List Add = at_number n (a ∷ ps) v.puts in
    let new : ℕ → List Add = at_number n ps v.puts in
    let first : Mem a (old n) = subst (λ (x : List Add). Mem a x) (sym (number_here n (a ∷ ps) v.puts)) (inl refl) in
    let ident : a.message.ident ≡ row.message.ident = sym (ap (λ (m : Message). m.ident) is) in
    let in_ : (l : ℕ) (x : Add) → Mem x (new l) → Mem x (old l) = λ l x. bool_case (l == n) (λ (b : Bool). Mem x (if b then ps else v.puts l) → Mem x (if b then a ∷ ps else v.puts l)) (λ e m. inr m) (λ e m. m) in
    let once : (l : ℕ) → Differ put_ident (new l) = λ l. bool_case (l == n) (λ (b : Bool). Differ put_ident (if b then a ∷ ps else v.puts l) → Differ put_ident (if b then ps else v.puts l)) (λ e d. d.1) (λ e d. d) (h.apart.put_once l) in
    let gone : (l : ℕ) (x : Add) → Mem x (new l) → a.message.ident ≢ x.message.ident = λ l x.
    bool_case (l == n) (λ (b : Bool). (l == n) ≡ b → Mem x (if b then ps else v.puts l) → a.message.ident ≢ x.message.ident)
    (λ e z m w. (subst (λ (ys : List Add). Differ put_ident ys) (number_here n (a ∷ ps) v.puts) (h.apart.put_once n)).0 x m w)
    (λ e z m w. cc (z, eqb_self n, h.apart.put_alone n l a x first (in_ l x (subst (λ (b : Bool). Mem x (if b then ps else v.puts l)) (sym z) m)) w)) refl in
    let fewer : AreApart v.rows new v.unborn = apart.fewer v.rows old new v.unborn in_ once h.apart in
    record {
      apart = apart.inserts v.rows new v.unborn a.queue row fewer (record {
        given = ap v.unborn (sym ident) ∙ h.apart.put_given n a first;
        no_row = λ q x m w. h.apart.waiting n a q x first m (ident ∙ w);
        no_put = λ l x m w. gone l x m (ident ∙ w);
      });
      taken = taken.inserts v.rows (at_number n ts v.takes) a.queue row free h.taken;
      batched = batched.inserts v.rows v.batch v.doubt a.queue row free h.batched;
      ordered = ordered.inserts v.rows v.arrivals a.queue row last h.ordered;
    }

-- a unit's puts go
pub puts_go : (v : View) (n : ℕ) (ps : List Add) (ts : List Taken) → Holds (with_unit n ps ts v) → Holds (with_unit n [] ts v)
puts_go v n ps ts h =
    let old : ℕ → List Add = at_number n ps v.puts in
    record {
      apart = apart.fewer v.rows old (at_number n [] v.puts) v.unborn
          (λ l x. bool_case (l == n) (λ (b : Bool). Mem x (if b then [] else v.puts l) → Mem x (if b then ps else v.puts l)) (λ e m. absurd m) (λ e m. m))
          (λ l. bool_case (l == n) (λ (b : Bool). Differ put_ident (if b then ps else v.puts l) → Differ put_ident (if b then [] else v.puts l)) (λ e d. tt) (λ e d. d) (h.apart.put_once l)) h.apart;
      taken = h.taken;
      batched = h.batched;
      ordered = h.ordered;
    }

-- a unit gets a free row
pub held_row : (t : Bool) (by : Option Holder) (h : Row) → t ≡ true → (retag_if t by h).by ≡ by
held_row true by h e = refl
held_row false by h e = absurd cc

pub unheld_row : (t : Bool) (by : Option Holder) (h : Row) → t ≡ false → (retag_if t by h).by ≡ h.by
unheld_row true by h e = absurd cc
unheld_row false by h e = refl

pub free_is : (h : Row) → is_free h ≡ true → h.by ≡ None
free_is h e = at h.by e
  where
    at : (b : Option Holder) → (elim b as (λ h. Bool) [ None ↦ true | Some x ↦ false ]) ≡ true → b ≡ None
    at None e = refl
    at (Some x) e = absurd cc

pub is_free_row : (h : Row) → h.by ≡ None → is_free h ≡ true
is_free_row h e = ap (λ (b : Option Holder). elim b as (λ h. Bool) [ None ↦ true | Some x ↦ false ]) e

pub gets_row : (v : View) (n : ℕ) (q : List ℕ) (row : Row) → Holds v → Mem row (v.rows q) → row.by ≡ None
    → Holds (pend_in n (Take q row.message.ident (is_persistent row.message)) (with_rows (retagged_all (held_if (Among q (row.message.ident ∷ [])) (holders.Unit n)) v.rows) v))
gets_row v n q row h there free =
    let which : Which = Among q (row.message.ident ∷ []) in
    let change : List ℕ → Row → Row = held_if which (holders.Unit n) in
    let mild = holds_mild which (holders.Unit n) in
    let mine : (change q row).by ≡ Some (holders.Unit n) = held_row (selects which q row && is_free row) (Some (holders.Unit n)) row (and_yes (selects which q row) (is_free row) (among_one q row.message.ident row refl) (is_free_row row free)) in
    let other : (d : List ℕ) (x : Row) → Mem x (v.rows d) → x.message.ident ≢ row.message.ident → (change d x).by ≡ x.by =
    λ d x m ne. unheld_row (selects which d x && is_free x) (Some (holders.Unit n)) x (and_no (selects which d x) (is_free x) (among_other q row.message.ident d x ne)) in
    let by_held : (d : List ℕ) (x : Row) (c : List ℕ) → (change d x).by ≡ Some (holders.Batch c) → x.by ≡ Some (holders.Batch c) = λ d x c e.
    bool_case (selects which d x && is_free x) (λ z. (retag_if z (Some (holders.Unit n)) x).by ≡ Some (holders.Batch c) → x.by ≡ Some (holders.Batch c)) (λ z w. absurd cc) (λ z w. w) e in
    let stays : (d : List ℕ) (x : Row) (c : List ℕ) → x.by ≡ Some (holders.Batch c) → (change d x).by ≡ Some (holders.Batch c) = λ d x c e.
    unheld_row (selects which d x && is_free x) (Some (holders.Unit n)) x (and_last (selects which d x) (is_free x) (is_held x (holders.Batch c) e)) ∙ e in
    record {
      apart = subst (λ (f : ℕ → List Add). AreApart (retagged_all change v.rows) f v.unborn) (λ i k. sym (number_same n (v.puts n ++ []) v.puts k (append_none (v.puts n))) i)
          (apart.retags v.rows v.puts v.unborn change (λ d x. mild.ident d x) h.apart);
      taken = taken.gets v.rows v.puts v.unborn v.takes change n q row h.apart mild there free mine other h.taken;
      batched = batched.retags v.rows v.batch v.doubt change (λ d x. mild.ident d x) (λ d x c m e. by_held d x c e) (λ d x c m e. stays d x c e) h.batched;
      ordered = ordered.retags v.rows v.arrivals change (holds_places which (holders.Unit n)) h.ordered;
    }
  where
    and_last : (a b : Bool) → b ≡ false → (a && b) ≡ false
    and_last true b e = e
    and_last false b e = refl

-- a queue begins anew, or goes, that had no rows
pub empties : (v : View) (name : List ℕ) → Holds v → v.rows name ≡ [] → Holds (empty_in name v)
empties v name h none =
    let same : (q : List ℕ) → at_name name [] v.rows q ≡ v.rows q = λ q. bool_case (bytes_eq q name) (λ b. bytes_eq q name ≡ b → (if b then [] else v.rows q) ≡ v.rows q) (λ e z. sym (ap v.rows (name_yes q name z) ∙ none)) (λ e z. refl) refl in
    record {
      apart = subst (λ (f : List ℕ → List Row). AreApart f v.puts v.unborn) (λ i q. sym (same q) i) h.apart;
      taken = subst (λ (f : List ℕ → List Row). AreTaken f v.takes) (λ i q. sym (same q) i) h.taken;
      batched = subst (λ (f : List ℕ → List Row). AreBatched f v.batch v.doubt) (λ i q. sym (same q) i) h.batched;
      ordered = ordered.empties v.rows v.arrivals name h.ordered;
    }
