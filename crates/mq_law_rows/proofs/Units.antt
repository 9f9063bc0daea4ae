-- Units of connections keep the facts: puts and gets in them, commits, backouts.
use Rattle.std.proofs.Common.{ℕ, ◌≡◌, ◌⊎◌, Bool, true, false, not, List, [], ◌∷◌, ◌++◌, refl, ap, sym, subst, ◌∙◌, inl, inr}
use Rattle.std.specs.Prelude.{Option, Some, None, ◌==◌, if◌then◌else◌, ◌&&◌}
use Rattle.mq_message.specs.declared.message.Ident.{Ident}
use Rattle.mq_message.specs.declared.place.Holder.{Holder}
use Rattle.mq_message.specs.declared.place.Holder.TheVariants as holders
use Rattle.mq_queue.specs.declared.row.Row.{Row}
use Rattle.mq_queue.specs.Rows.{same_ident, keep, held_by}
use Rattle.mq_queue.proofs.Edits.{same_turned}
use Rattle.mq_sync.specs.declared.unit.Unit.{Unit as Luw}
use Rattle.mq_calls.specs.Changes.{retag_if, release_if}
use Rattle.mq_calls.specs.Reads.{is_persistent}
use Rattle.mq_spec_network.specs.Story.{Mem}
use Rattle.mq_spec_network.specs.Promised.{AreDistinct}
use Rattle.mq_spec_network.specs.Standing.{rows_told}
use Rattle.mq_law_rows.specs.Families.{is_here, is_at, put_by}
use Rattle.mq_law_rows.specs.World.{World, Book, Ghost, Tag, Owner, Unborn, At, HeldBy, InBatch, Forced, InUnit, InHand, Gone, tag_of, tag_idents, ident_of, away, stands, row_stands, standing, is_forced, is_counted, counted, is_young, claim, IsHeldBy, IsElsewhere, put_idents, got_idents, Inv}
use Rattle.mq_law_rows.proofs.Lists.{true_false, and_false, and_right, and_left, and_swap, eqb_self, eqb_yes, bool_case, is_false, ident_yes, same_self, here_yes, mem_keep, mem_kept, mem_retag, mem_retagged, sorted_keep, sorted_retag, distinct_keep, keep_same, keep_swap, keep_retag, told_keep}
use Rattle.mq_calls.specs.declared.state.Item.{Item}
use Rattle.mq_calls.specs.declared.state.Item.TheVariants.{Put, Take}
use Rattle.mq_message.specs.declared.message.Message.{Message}
use Rattle.mq_law_rows.specs.World.{item_told, items_told}
use Rattle.mq_law_rows.specs.Kinds.{after, owned, among, is_row, with_units, book_units, hold_row, book_hold, has_unit, puts_of, bury_all, take_gets, book_take_gets, spent, back_out, backed_out}
use Rattle.mq_law_rows.proofs.Lists.{once_not, mem_append, distinct_append, at_yes, at_self}
use Rattle.mq_law_rows.proofs.Owners.{owned_other, owned_self, held_owned, away_owned, forced_owned, owned_forced}
use Rattle.mq_law_rows.proofs.Young.{order_keep, order_ghost, order_owned}
use Rattle.mq_law_rows.proofs.Lasting.{flagged, flag_is, flag_new, lasts, put_in, puts_left, not_taken, put_joined}
use Rattle.mq_law_rows.proofs.Placing.{reowns}
use Rattle.mq_law_rows.proofs.Receiving.{any_mem, mem_any}
use Rattle.mq_law_rows.proofs.Batches.{retag_idents, release_place, release_told, release_tag, release_ident, released, unreleased}
use Rattle.mq_law_rows.proofs.Holding.{retag_place, retag_told, retag_tag, retag_ident, only_one, at_claim as free_claim}

-- Items

puts_append : (xs ys : List Item) → put_idents (xs ++ ys) ≡ put_idents xs ++ put_idents ys
puts_append [] ys = refl
puts_append (Put q m ∷ xs) ys = ap (λ (is : List Ident). m.ident ∷ is) (puts_append xs ys)
puts_append (Take q i p ∷ xs) ys = puts_append xs ys

gots_append : (xs ys : List Item) → got_idents (xs ++ ys) ≡ got_idents xs ++ got_idents ys
gots_append [] ys = refl
gots_append (Put q m ∷ xs) ys = gots_append xs ys
gots_append (Take q i p ∷ xs) ys = ap (λ (is : List Ident). i ∷ is) (gots_append xs ys)

told_append : (xs ys : List Item) → items_told (xs ++ ys) ≡ items_told xs ++ items_told ys
told_append [] ys = refl
told_append (x ∷ xs) ys = ap (λ (is : List Item). item_told x ∷ is) (told_append xs ys)

none_more : (xs : List Ident) → xs ++ [] ≡ xs
none_more [] = refl
none_more (x ∷ xs) = ap (λ (is : List Ident). x ∷ is) (none_more xs)

puts_of_puts : (xs : List Item) → put_idents (puts_of xs) ≡ put_idents xs
puts_of_puts [] = refl
puts_of_puts (Put q m ∷ xs) = ap (λ (is : List Ident). m.ident ∷ is) (puts_of_puts xs)
puts_of_puts (Take q i p ∷ xs) = puts_of_puts xs

puts_of_gots : (xs : List Item) → got_idents (puts_of xs) ≡ []
puts_of_gots [] = refl
puts_of_gots (Put q m ∷ xs) = puts_of_gots xs
puts_of_gots (Take q i p ∷ xs) = puts_of_gots xs

puts_of_told : (xs : List Item) → puts_of (items_told xs) ≡ items_told (puts_of xs)
puts_of_told [] = refl
puts_of_told (Put q m ∷ xs) = ap (λ (is : List Item). Put q m ∷ is) (puts_of_told xs)
puts_of_told (Take q i p ∷ xs) = puts_of_told xs

gots_told : (xs : List Item) → got_idents (items_told xs) ≡ got_idents xs
gots_told [] = refl
gots_told (Put q m ∷ xs) = gots_told xs
gots_told (Take q i p ∷ xs) = ap (λ (is : List Ident). i ∷ is) (gots_told xs)

-- what the ledger's unit has got is what the manager's has
pub same_gets : (w : World) (g : Ghost) (b : Book) → Inv w g b → (m k : ℕ) → got_idents (b.units m k) ≡ got_idents (w.units m k)
same_gets w g b h m k = sym (gots_told (b.units m k)) ∙ ap got_idents (h.units m k) ∙ gots_told (w.units m k)

-- Units, one of them changed
unit_case : (f : ℕ → ℕ → List Item) (m k : ℕ) (xs : List Item) (P : ℕ → ℕ → List Item → Type 0) → P m k xs → ((a e : ℕ) → is_at m k a e ≡ false → P a e (f a e)) → (a e : ℕ) → P a e (put_by f m k xs a e)
unit_case f m k xs P here other a e =
    bool_case (is_at m k a e) (λ t. P a e (if t then xs else f a e)) (λ z. let p = at_yes m k a e z in rw (p.0, p.1) here) (λ z. other a e z)

pub pends : (w : World) (g : Ghost) (b : Book) (m k : ℕ) (q : List ℕ) (message : Message) → Inv w g b → g.owner message.ident ≡ InHand m → w.given message.ident ≡ true
    → ((a : ℕ) (d : List ℕ) (x : Row) → Mem x (w.rows a d) → x.message.ident ≡ message.ident → is_persistent x.message ≡ is_persistent message)
    → Inv (with_units w m k (w.units m k ++ Put q message ∷ [])) (after g (owned message.ident (InUnit m k))) (book_units b m k (b.units m k ++ Put q message ∷ []))
pends w g b m k q message h own known agrees =
    let i : Ident = message.ident in
    let new : Owner = InUnit m k in
    let other = owned_other g.owner i in
    let xs : List Item = w.units m k in
    let us : ℕ → ℕ → List Item = put_by w.units m k (xs ++ Put q message ∷ []) in
    let gots : (a e : ℕ) → got_idents (us a e) ≡ got_idents (w.units a e) = λ a e.
    unit_case w.units m k (xs ++ Put q message ∷ []) (λ a e l. got_idents l ≡ got_idents (w.units a e)) (gots_append xs (Put q message ∷ []) ∙ none_more (got_idents xs)) (λ a e z. refl) a e in
    reowns w g b i (InHand m) new us (put_by b.units m k (b.units m k ++ Put q message ∷ [])) w.given b.gone b.got h own tt refl (λ a z. z) (record {
      taken = λ a e j n. subst (Mem j) (sym (gots a e)) n;
      pending = λ a e j. unit_case w.units m k (xs ++ Put q message ∷ []) (λ a e l. Mem j (put_idents l) → owned i new j (g.owner j) ≡ InUnit a e)
          (λ n. elim (mem_append j (put_idents xs) (i ∷ []) (subst (Mem j) (puts_append xs (Put q message ∷ [])) n)) [
            | inl z ↦ other j new (InHand m) (InUnit m k) own (h.pending m k j z) (λ e. cc)
            | inr z ↦ elim z [ inl y ↦ rw y (owned_self i (g.owner i) new) | inr y ↦ absurd y ]
          ])
          (λ a e z n. other j new (InHand m) (InUnit a e) own (h.pending a e j n) (λ e. cc)) a e;
      pending_once = unit_case w.units m k (xs ++ Put q message ∷ []) (λ a e l. AreDistinct (put_idents l))
          (subst AreDistinct (sym (puts_append xs (Put q message ∷ []))) (distinct_append (put_idents xs) (i ∷ []) (h.pending_once m k) ((λ y n. absurd n), tt)
          (λ j n z. elim z [ inl y ↦ cc (h.pending m k j n, ap g.owner y, own) | inr y ↦ y ])))
          (λ a e z. h.pending_once a e);
      gets = λ a e j n. subst (Mem j) (gots a e) n;
      gets_once = λ a e. subst AreDistinct (sym (gots a e)) (h.gets_once a e);
      units = λ a e. bool_case (is_at m k a e) (λ t. items_told (if t then b.units m k ++ Put q message ∷ [] else b.units a e) ≡ items_told (if t then xs ++ Put q message ∷ [] else w.units a e))
          (λ z. told_append (b.units m k) (Put q message ∷ []) ∙ ap (λ (l : List Item). l ++ Put q message ∷ []) (h.units m k) ∙ sym (told_append xs (Put q message ∷ []))) (λ z. h.units a e);
      unborn = λ j e. other j new (InHand m) Unborn own (h.unborn j e) (λ e. cc);
      gone = λ j n. other j new (InHand m) Gone own (h.gone j n) (λ e. cc);
      got = λ j n. other j new (InHand m) Gone own (h.got j n) (λ e. cc);
      got_once = h.got_once;
    }) (let p = h.persistence in record {
      flag = flagged i (is_persistent message) p.flag;
      of_row = λ a d x n. flag_is i x.message.ident (is_persistent message) (is_persistent x.message) p.flag (agrees a d x n) (p.of_row a d x n);
      of_put = λ a e d y n.
          let old : (a e : ℕ) → Mem (Put d y) (w.units a e) → is_persistent y ≡ flagged i (is_persistent message) p.flag y.ident = λ a e n.
          flag_is i y.ident (is_persistent message) (is_persistent y) p.flag (λ z. absurd (cc (h.pending a e y.ident (put_in d y (w.units a e) n), ap g.owner z, own))) (p.of_put a e d y n) in
          unit_case w.units m k (xs ++ Put q message ∷ []) (λ a e l. Mem (Put d y) l → is_persistent y ≡ flagged i (is_persistent message) p.flag y.ident)
          (λ n. elim (put_joined d y xs q message n) [
            | inl z ↦ old m k z
            | inr z ↦ flag_new i y.ident (is_persistent message) (is_persistent y) p.flag (ap (λ (x : Message). x.ident) z) (ap is_persistent z)
          ]) (λ a e z n. old a e n) a e n;
      of_unit = λ a c u t z no_ n. flag_is i t.ident (is_persistent message) t.lasting p.flag (λ e. absurd (cc (h.live a c u t z no_ n, ap g.owner e, own))) (p.of_unit a c u t z no_ n);
      of_operated = λ a c u t z n. flag_is i t.ident (is_persistent message) t.lasting p.flag (λ e. absurd (cc (h.operated a c u t z n, ap g.owner e, own))) (p.of_operated a c u t z n);
    })

-- the next put of a unit that is committed is in hand
pub unpends : (w : World) (g : Ghost) (b : Book) (m k : ℕ) (q : List ℕ) (message : Message) (items told : List Item) → Inv w g b → w.units m k ≡ Put q message ∷ items → items_told told ≡ items_told items
    → Inv (with_units w m k items) (after g (owned message.ident (InHand m))) (book_units b m k told)
unpends w g b m k q message items told h is same =
    let i : Ident = message.ident in
    let own : g.owner i ≡ InUnit m k = h.pending m k i (subst (λ l. Mem i (put_idents l)) (sym is) (inl refl)) in
    let other = owned_other g.owner i in
    let once : AreDistinct (i ∷ put_idents items) = subst (λ l. AreDistinct (put_idents l)) is (h.pending_once m k) in
    let gots : (a e : ℕ) → got_idents (put_by w.units m k items a e) ≡ got_idents (w.units a e) = λ a e.
    unit_case w.units m k items (λ a e l. got_idents l ≡ got_idents (w.units a e)) (ap got_idents (sym is)) (λ a e z. refl) a e in
    reowns w g b i (InUnit m k) (InHand m) (put_by w.units m k items) (put_by b.units m k told) w.given b.gone b.got h own tt refl (λ a z. z) (record {
      taken = λ a e j n. subst (Mem j) (sym (gots a e)) n;
      pending = λ a e j. unit_case w.units m k items (λ a e l. Mem j (put_idents l) → owned i (InHand m) j (g.owner j) ≡ InUnit a e)
          (λ n. rw (same_turned j i ∙ once.0 j n) (h.pending m k j (subst (λ l. Mem j (put_idents l)) (sym is) (inr n))))
          (λ a e z n. other j (InHand m) (InUnit m k) (InUnit a e) own (h.pending a e j n) (λ y. true_false (sym (unit_here m k a e y) ∙ z))) a e;
      pending_once = unit_case w.units m k items (λ a e l. AreDistinct (put_idents l)) once.1 (λ a e z. h.pending_once a e);
      gets = λ a e j n. subst (Mem j) (gots a e) n;
      gets_once = λ a e. subst AreDistinct (sym (gots a e)) (h.gets_once a e);
      units = λ a e. bool_case (is_at m k a e) (λ t. items_told (if t then told else b.units a e) ≡ items_told (if t then items else w.units a e)) (λ z. same) (λ z. h.units a e);
      unborn = λ j e. other j (InHand m) (InUnit m k) Unborn own (h.unborn j e) (λ e. cc);
      gone = λ j n. other j (InHand m) (InUnit m k) Gone own (h.gone j n) (λ e. cc);
      got = λ j n. other j (InHand m) (InUnit m k) Gone own (h.got j n) (λ e. cc);
      got_once = h.got_once;
    }) (lasts w.rows w.rows w.units (put_by w.units m k items) w.holds w.last g.sent g.operated h.persistence (λ a d y n. (y, n, refl))
    (λ a e d y. unit_case w.units m k items (λ a e l. Mem (Put d y) l → Mem (Put d y) (w.units a e)) (λ n. subst (λ l. Mem (Put d y) l) (sym is) (inr n)) (λ a e z n. n) a e))
  where
    unit_here : (m k a e : ℕ) → InUnit m k ≡ InUnit a e → is_at m k a e ≡ true
    unit_here m k a e y = let p : m ≡ a = cc in let r : k ≡ e = cc in rw (← p, ← r) (at_self m k)

-- A get in a unit.
hold_case : (T : Bool) (o : Holder) (x : Row) (p : Holder) → (retag_if T (Some o) x).by ≡ Some p → ((T ≡ true) × (Some p ≡ Some o)) ⊎ ((T ≡ false) × (x.by ≡ Some p))
hold_case true o x p e = inl (refl, sym e)
hold_case false o x p e = inr (refl, e)

unit_same : (d c : ℕ) → Some (holders.Unit d) ≡ Some (holders.Unit c) → d ≡ c
unit_same d c e = let p : holders.Unit d ≡ holders.Unit c = cc in cc

batch_unit : (c : List ℕ) (k : ℕ) → Some (holders.Batch c) ≡ Some (holders.Unit k) → ⊥
batch_unit c k e = cc

pub holds_row : (w : World) (g : Ghost) (b : Book) (m : ℕ) (q : List ℕ) (k : ℕ) (x : Row) (lasting : Bool) → Inv w g b → Mem x (w.rows m q) → x.by ≡ None
    → Inv (hold_row w m q k x.message.ident lasting) (after g (owned x.message.ident (HeldBy m q k))) (book_hold b m k x.message.ident)
holds_row w g b m q k x lasting h here free_ =
    let i : Ident = x.message.ident in
    let v : World = hold_row w m q k i lasting in
    let o : Holder = holders.Unit k in
    let new : Owner = HeldBy m q k in
    let own : g.owner i ≡ At m q = h.claims m q x here (ap (stands (away w m)) free_) ∙ ap (claim m q) free_ in
    let other = owned_other g.owner i in
    let T : ℕ → List ℕ → Row → Bool = λ a d y. is_row m q i a d y in
    let G : ℕ → List ℕ → Row → Row = λ a d y. retag_if (T a d y) (Some o) y in
    let same_ident_ : (a : ℕ) (d : List ℕ) (y : Row) → (G a d y).message.ident ≡ y.message.ident = λ a d y. retag_ident (T a d y) (Some o) y in
    let xs : List Item = w.units m k in
    let more : List Item = Take q i lasting ∷ [] in
    let is_it : (a : ℕ) (d : List ℕ) (y : Row) → Mem y (w.rows a d) → T a d y ≡ true → (a ≡ m) × (d ≡ q) × (y ≡ x) = λ a d y n e.
    let p = here_yes m q a d (and_left (is_here m q a d) (same_ident y.message.ident i) e) in
    (p.0, p.1, only_one (w.rows m q) y x (h.distinct m q) (subst (λ (r : List Row). Mem y r) (λ i. w.rows (p.0 i) (p.1 i)) n) here (ident_yes y.message.ident i (and_right (is_here m q a d) (same_ident y.message.ident i) e))) in
    let stood : (a : ℕ) (d : List ℕ) (y : Row) → Mem y (w.rows a d) → stands (away w a) (G a d y).by ≡ stands (away w a) y.by = λ a d y n.
    bool_case (T a d y) (λ t. T a d y ≡ t → stands (away w a) (retag_if t (Some o) y).by ≡ stands (away w a) y.by)
    (λ e f. sym (ap (stands (away w a)) (ap (λ (r : Row). r.by) (is_it a d y n f).2 ∙ free_))) (λ e f. refl) refl in
    let gots : (a e : ℕ) (P : List Ident → Type 0) → P (got_idents (v.units a e)) → P (if is_at m k a e then got_idents xs ++ i ∷ [] else got_idents (w.units a e)) = λ a e P.
    bool_case (is_at m k a e) (λ t. P (got_idents (if t then xs ++ more else w.units a e)) → P (if t then got_idents xs ++ i ∷ [] else got_idents (w.units a e))) (λ z n. subst P (gots_append xs more) n) (λ z n. n) in
    let puts : (a e : ℕ) → put_idents (v.units a e) ≡ put_idents (w.units a e) = λ a e.
    unit_case w.units m k (xs ++ more) (λ a e l. put_idents l ≡ put_idents (w.units a e)) (puts_append xs more ∙ none_more (put_idents xs)) (λ a e z. refl) a e in
    let got_old : (a e : ℕ) (j : Ident) → Mem j (got_idents (w.units a e)) → Mem j (got_idents (v.units a e)) = λ a e j.
    unit_case w.units m k (xs ++ more) (λ a e l. Mem j (got_idents (w.units a e)) → Mem j (got_idents l)) (λ n. subst (Mem j) (sym (gots_append xs more)) (mem_left j (got_idents xs) (i ∷ []) n)) (λ a e z n. n) a e in
    record {
      sorted = λ a d. sorted_retag (G a d) (λ y. retag_place (T a d y) (Some o) y) (w.rows a d) (h.sorted a d);
      shelved = h.shelved;
      claims = λ a d y n s. let r = mem_retag (G a d) y (w.rows a d) n in
          let z : Row = r.0 in
          let j : y.message.ident ≡ z.message.ident = ap ident_of r.2 ∙ same_ident_ a d z in
          let st : stands (away w a) z.by ≡ true = sym (stood a d z r.1) ∙ ap (λ (z : Row). stands (away w a) z.by) (sym r.2) ∙ s in
          ap (λ j. owned i new j (g.owner j)) j
          ∙ bool_case (T a d z) (λ t. T a d z ≡ t → owned i new z.message.ident (g.owner z.message.ident) ≡ claim a d (retag_if t (Some o) z).by)
          (λ e f. let p = is_it a d z r.1 f in
          ap (λ (r : Row). owned i new r.message.ident (g.owner r.message.ident)) p.2 ∙ owned_self i (g.owner i) new ∙ (λ i. HeldBy (sym p.0 i) (sym p.1 i) k))
          (λ e f. bool_case (same_ident z.message.ident i) (λ t. same_ident z.message.ident i ≡ t → (if t then new else g.owner z.message.ident) ≡ claim a d z.by)
          (λ u y. absurd (true_false (sym (rw (y) (ap (λ t. t && true) (free_claim m a q d z.by (sym own ∙ ap g.owner (sym (ident_yes z.message.ident i u)) ∙ h.claims a d z r.1 st)).0)) ∙ f)))
          (λ u y. h.claims a d z r.1 st) refl) refl
          ∙ ap (λ (z : Row). claim a d z.by) (sym r.2);
      taken = λ a d y e n by_. let r = mem_retag (G a d) y (w.rows a d) n in
          let j : r.0.message.ident ≡ y.message.ident = sym (ap ident_of r.2 ∙ same_ident_ a d r.0) in
          elim (hold_case (T a d r.0) o r.0 (holders.Unit e) (ap (λ (z : Row). z.by) (sym r.2) ∙ by_)) [
            | inl z ↦ let p = is_it a d r.0 r.1 z.0 in
                let ek : e ≡ k = unit_same e k z.1 in
                let last_one : Mem i (got_idents (v.units m k)) = rw (at_self m k) (subst (Mem i) (sym (gots_append xs more)) (mem_right i (got_idents xs) (i ∷ []) (inl refl))) in
                subst (λ j. Mem j (got_idents (v.units a e))) (sym (ap ident_of p.2) ∙ j) (subst (λ (l : List Item). Mem i (got_idents l)) (λ i. v.units (sym p.0 i) (sym ek i)) last_one)
            | inr z ↦ subst (λ j. Mem j (got_idents (v.units a e))) j (got_old a e r.0.message.ident (h.taken a d r.0 e r.1 z.1))
          ];
      batch = λ a d y e n by_. let r = mem_retag (G a d) y (w.rows a d) n in
          let tag : tag_of r.0.message ≡ tag_of y.message = sym (ap (λ (z : Row). tag_of z.message) r.2 ∙ retag_tag (T a d r.0) (Some o) r.0) in
          elim (hold_case (T a d r.0) o r.0 (holders.Batch e) (ap (λ (z : Row). z.by) (sym r.2) ∙ by_)) [
            | inl z ↦ absurd (batch_unit e k z.1)
            | inr z ↦ let f = h.batch a d r.0 e r.1 z.1 in (f.0, f.1, (λ u y. subst (λ (t : Tag). Mem t (g.sent a e u)) tag (f.2 u y)))
          ];
      live = λ a d u t z no_ n. other t.ident new (At m q) (InBatch a d) own (h.live a d u t z no_ n) (λ e. cc);
      present = λ a d u t z no_ n l. let s = h.present a d u t z no_ n l in
          let src : List ℕ = g.source a d in
          let out : T a src s.row ≡ false = is_false (T a src s.row) (λ e. cc (ap (λ (r : Row). r.by) (is_it a src s.row s.there e).2, s.by, free_)) in
          record { row = G a src s.row; there = mem_retagged (G a src) s.row (w.rows a src) s.there; by = ap (λ z. (retag_if z (Some o) s.row).by) out ∙ s.by; tag = retag_tag (T a src s.row) (Some o) s.row ∙ s.tag };
      sent_once = h.sent_once;
      operated = λ a d u t z n. other t.ident new (At m q) (Forced a d u) own (h.operated a d u t z n) (λ e. cc);
      operated_there = h.operated_there;
      operated_once = h.operated_once;
      forced = λ a d u j e. h.forced a d u j (owned_forced i j new (g.owner j) a d u (λ z. cc) e);
      pending = λ a e j n. other j new (At m q) (InUnit a e) own (h.pending a e j (subst (Mem j) (puts a e) n)) (λ e. cc);
      pending_once = λ a e. subst AreDistinct (sym (puts a e)) (h.pending_once a e);
      gets = λ a e j n. bool_case (is_at m k a e) (λ t. Mem j (if t then got_idents xs ++ i ∷ [] else got_idents (w.units a e)) → IsHeldBy a e (owned i new j (g.owner j)))
          (λ z y. let p = at_yes m k a e z in elim (mem_append j (got_idents xs) (i ∷ []) y) [
            | inl f ↦ held_owned a e i j new (At m q) g.owner own (λ n. n) (h.gets a e j (rw (p.0, p.1) f))
            | inr f ↦ elim f [ inl f ↦ rw (f, same_self i) (sym p.0, sym p.1) | inr f ↦ absurd f ]
          ])
          (λ z y. held_owned a e i j new (At m q) g.owner own (λ n. n) (h.gets a e j y)) (gots a e (Mem j) n);
      gets_once = unit_case w.units m k (xs ++ more) (λ a e l. AreDistinct (got_idents l))
          (subst AreDistinct (sym (gots_append xs more)) (distinct_append (got_idents xs) (i ∷ []) (h.gets_once m k) ((λ y n. absurd n), tt) (λ j n z. elim z [ inl y ↦ subst (IsHeldBy m k) (ap g.owner y ∙ own) (h.gets m k j n) | inr y ↦ y ])))
          (λ a e z. h.gets_once a e);
      units = λ a e. bool_case (is_at m k a e) (λ t. items_told (if t then b.units m k ++ Take [] i false ∷ [] else b.units a e) ≡ items_told (if t then xs ++ more else w.units a e))
          (λ z. told_append (b.units m k) (Take [] i false ∷ []) ∙ ap (λ (l : List Item). l ++ Take [] i false ∷ []) (h.units m k) ∙ sym (told_append xs more)) (λ z. h.units a e);
      unborn = λ j e. other j new (At m q) Unborn own (h.unborn j e) (λ e. cc);
      gone = λ j n. other j new (At m q) Gone own (h.gone j n) (λ e. cc);
      got = λ j n. other j new (At m q) Gone own (h.got j n) (λ e. cc);
      got_once = h.got_once;
      operated_words = λ a d u e p r n z. h.operated_words a d u e p r n (owned_forced i r.message.ident new (g.owner r.message.ident) a d u (λ z. cc) z);
      persistence = lasts w.rows v.rows w.units v.units w.holds w.last g.sent g.operated h.persistence
          (λ a d y n. let r = mem_retag (G a d) y (w.rows a d) n in (r.0, r.1, ap (λ (z : Row). tag_of z.message) r.2 ∙ retag_tag (T a d r.0) (Some o) r.0))
          (λ a e p y. unit_case w.units m k (xs ++ more) (λ a e l. Mem (Put p y) l → Mem (Put p y) (w.units a e)) (not_taken p y xs q i lasting) (λ a e z n. n) a e);
      order = order_owned g b.rows (is_young w g) i new (At m q) own refl h.order;
      distinct = λ a d. subst AreDistinct (sym (retag_idents (G a d) (same_ident_ a d) (w.rows a d))) (h.distinct a d);
      back = λ a d y n s. let r = mem_retag (G a d) y (w.rows a d) n in
          let st : stands (away w a) r.0.by ≡ false = sym (stood a d r.0 r.1) ∙ ap (λ (z : Row). stands (away w a) z.by) (sym r.2) ∙ s in
          let j : r.0.message.ident ≡ y.message.ident = sym (ap ident_of r.2 ∙ same_ident_ a d r.0) in
          away_owned a i y.message.ident new (At m q) g.owner own (λ z. z) (subst (λ j. IsElsewhere a (g.owner j)) j (h.back a d r.0 r.1 st));
      same = λ a d.
          ap rows_told (keep_same _ _ (b.rows a d) (λ y n. ap not (forced_owned i y.message.ident new (At m q) g.owner own refl)))
          ∙ h.same a d
          ∙ sym (keep_retag (row_stands (away w a)) (row_stands (away w a)) (G a d) (w.rows a d) (λ y n. stood a d y n) (λ y. retag_told (T a d y) (Some o) y));
    }
  where
    mem_left : (j : Ident) (xs ys : List Ident) → Mem j xs → Mem j (xs ++ ys)
    mem_left j [] ys n = absurd n
    mem_left j (x ∷ xs) ys (inl e) = inl e
    mem_left j (x ∷ xs) ys (inr n) = inr (mem_left j xs ys n)

    mem_right : (j : Ident) (xs ys : List Ident) → Mem j ys → Mem j (xs ++ ys)
    mem_right j [] ys n = n
    mem_right j (x ∷ xs) ys n = inr (mem_right j xs ys n)

-- A commit: what the unit has got goes.
unit_yes_ : (a m k : ℕ) (x : Option Holder) → ((a == m) && held_by (holders.Unit k) x) ≡ true → (a ≡ m) × (x ≡ Some (holders.Unit k))
unit_yes_ a m k None e = absurd (true_false (sym e ∙ and_false (a == m)))
unit_yes_ a m k (Some (holders.Batch d)) e = absurd (true_false (sym e ∙ and_false (a == m)))
unit_yes_ a m k (Some (holders.Unit d)) e = (eqb_yes a m (and_left (a == m) _ e), ap (λ z. Some (holders.Unit z)) (sym (eqb_yes k d (and_right (a == m) _ e))))

unit_self_ : (m k : ℕ) → ((m == m) && held_by (holders.Unit k) (Some (holders.Unit k))) ≡ true
unit_self_ m k = rw (eqb_self m) (eqb_self k)

unit_hit : (a m k e : ℕ) (x : Option Holder) → a ≡ m → x ≡ Some (holders.Unit e) → e ≡ k → ((a == m) && held_by (holders.Unit k) x) ≡ true
unit_hit a m k e x p by_ r = rw (p, by_, r) (unit_self_ m k)

unit_batch_no : (a m k : ℕ) (c : List ℕ) → ((a == m) && held_by (holders.Unit k) (Some (holders.Batch c))) ≡ false
unit_batch_no a m k c = and_false (a == m)

held_is : (m k : ℕ) (o : Owner) → IsHeldBy m k o → (q : List ℕ) × (o ≡ HeldBy m q k)
held_is m k (HeldBy a q c) n = (q, (λ i. HeldBy (n.0 i) q (n.1 i)))
held_is m k Unborn n = absurd n
held_is m k (At a q) n = absurd n
held_is m k (InBatch a c) n = absurd n
held_is m k (Forced a c u) n = absurd n
held_is m k (InUnit a c) n = absurd n
held_is m k (InHand a) n = absurd n
held_is m k Gone n = absurd n

held_claim : (m a k : ℕ) (q d : List ℕ) (x : Option Holder) → HeldBy m q k ≡ claim a d x → ((a == m) && held_by (holders.Unit k) x) ≡ true
held_claim m a k q d None e = absurd cc
held_claim m a k q d (Some (holders.Unit f)) e = let p : m ≡ a = cc in let r : k ≡ f = cc in rw (← p, ← r) (unit_self_ m k)
held_claim m a k q d (Some (holders.Batch f)) e = absurd cc

bury_mem : (is js : List Ident) (j : Ident) → Mem j (bury_all is js) → Mem j is ⊎ Mem j js
bury_mem [] js j n = inr n
bury_mem (i ∷ is) js j n = elim (bury_mem is (i ∷ js) j n) [ inl z ↦ inl (inr z) | inr z ↦ elim z [ inl e ↦ inl (inl e) | inr y ↦ inr y ] ]

bury_once : (is js : List Ident) → AreDistinct is → AreDistinct js → ((j : Ident) → Mem j is → Mem j js → ⊥) → AreDistinct (bury_all is js)
bury_once [] js a b no_ = b
bury_once (i ∷ is) js a b no_ = bury_once is (i ∷ js) a.1 ((λ y n. is_false (same_ident i y) (λ s. no_ i (inl refl) (subst (λ (j : Ident). Mem j js) (sym (ident_yes i y s)) n))), b)
    (λ j n z. elim z [ inl e ↦ once_not i is a.0 (subst (λ (y : Ident). Mem y is) e n) | inr y ↦ no_ j (inr n) y ])

pub takes_gets : (w : World) (g : Ghost) (b : Book) (m k : ℕ) (went : List Ident) → Inv w g b → ((j : Ident) → Mem j went → Mem j (got_idents (w.units m k)) ⊎ Mem j b.gone)
    → Inv (take_gets w m k) (after g (spent (got_idents (w.units m k)))) (book_take_gets b m k (got_idents (w.units m k)) went)
takes_gets w g b m k went h from =
    let v : World = take_gets w m k in
    let ids : List Ident = got_idents (w.units m k) in
    let T : ℕ → Row → Bool = λ a y. has_unit m k a y in
    let f : Ident → Owner = λ j. if among ids j then Gone else g.owner j in
    let mine : (j : Ident) → among ids j ≡ true → (q : List ℕ) × (g.owner j ≡ HeldBy m q k) = λ j n. held_is m k (g.owner j) (h.gets m k j (any_mem j ids n)) in
    let other : (j : Ident) (p : Owner) → g.owner j ≡ p → ((q : List ℕ) → HeldBy m q k ≡ p → ⊥) → f j ≡ p = λ j p e no_.
    bool_case (among ids j) (λ z. among ids j ≡ z → (if z then Gone else g.owner j) ≡ p) (λ z y. absurd (let o = mine j y in no_ o.0 (sym o.1 ∙ e))) (λ z y. e) refl in
    let old : (a : ℕ) (d : List ℕ) (y : Row) → Mem y (v.rows a d) → Mem y (w.rows a d) × (T a y ≡ false) = λ a d y n. let r = mem_keep (λ y. not (T a y)) y (w.rows a d) n in (r.0, not_yes (T a y) r.1) in
    let puts : (a e : ℕ) → put_idents (v.units a e) ≡ put_idents (w.units a e) = λ a e. unit_case w.units m k (puts_of (w.units m k)) (λ a e l. put_idents l ≡ put_idents (w.units a e)) (puts_of_puts (w.units m k)) (λ a e z. refl) a e in
    let test : ℕ → Row → Bool = λ a r. not ((a == m) && among ids r.message.ident) in
    let mark : (a : ℕ) (d : List ℕ) (y : Row) → Mem y (w.rows a d) → T a y ≡ true → test a y ≡ false = λ a d y n e.
    let p = unit_yes_ a m k y.by e in
    let is_in : among ids y.message.ident ≡ true = mem_any y.message.ident ids (subst (λ z. Mem y.message.ident (got_idents (w.units z k))) p.0 (h.taken a d y k n p.1)) in
    let hit : ((a == m) && among ids y.message.ident) ≡ true = rw (p.0, eqb_self m) is_in in
    ap not hit in
    record {
      sorted = λ a d. sorted_keep _ _ (h.sorted a d);
      shelved = λ a d. sorted_keep _ _ (h.shelved a d);
      claims = λ a d y n s. let r = old a d y n in other y.message.ident (claim a d y.by) (h.claims a d y r.0 s) (λ q e. true_false (sym (held_claim m a k q d y.by e) ∙ r.1));
      taken = λ a d y e n by_. let r = old a d y n in
          bool_case (is_at m k a e) (λ t. is_at m k a e ≡ t → Mem y.message.ident (got_idents (if t then puts_of (w.units m k) else w.units a e)))
          (λ z q. let p = at_yes m k a e q in absurd (true_false (sym (rw (p.0, by_, p.1) (unit_self_ m k)) ∙ r.1))) (λ z q. h.taken a d y e r.0 by_) refl;
      batch = λ a d y e n by_. h.batch a d y e (old a d y n).0 by_;
      live = λ a d u t z no_ n. other t.ident (InBatch a d) (h.live a d u t z no_ n) (λ q e. cc);
      present = λ a d u t z no_ n l. let s = h.present a d u t z no_ n l in record { row = s.row; there = mem_kept (λ y. not (T a y)) s.row (w.rows a (g.source a d)) s.there (ap not (ap (λ z. (a == m) && held_by (holders.Unit k) z) s.by ∙ unit_batch_no a m k d)); by = s.by; tag = s.tag };
      sent_once = h.sent_once;
      operated = λ a d u t z n. other t.ident (Forced a d u) (h.operated a d u t z n) (λ q e. cc);
      operated_there = λ a d u t z n l. let p = h.operated_there a d u t z n l in record {
        queue = p.queue;
        row = p.row;
        tag = p.tag;
        there = mem_kept (test a) p.row (b.rows a p.queue) p.there (ap not (is_false _ (λ e. let o = mine p.row.message.ident (and_right (a == m) _ e) in cc (h.operated a d u t z n, ap (λ (s : Tag). g.owner s.ident) p.tag, o.1))));
      };
      operated_once = h.operated_once;
      forced = λ a d u j. bool_case (among ids j) (λ z. (if z then Gone else g.owner j) ≡ Forced a d u → (g.operated a d u ≡ true) × Mem j (tag_idents (g.sent a d u))) (λ y e. absurd cc) (λ y e. h.forced a d u j e);
      pending = λ a e j n. other j (InUnit a e) (h.pending a e j (subst (Mem j) (puts a e) n)) (λ q e. cc);
      pending_once = λ a e. subst AreDistinct (sym (puts a e)) (h.pending_once a e);
      gets = λ a e j. bool_case (is_at m k a e) (λ t. is_at m k a e ≡ t → Mem j (got_idents (if t then puts_of (w.units m k) else w.units a e)) → IsHeldBy a e (f j))
          (λ z q n. absurd (subst (Mem j) (puts_of_gots (w.units m k)) n))
          (λ z q n. bool_case (among ids j) (λ t. among ids j ≡ t → IsHeldBy a e (if t then Gone else g.owner j))
          (λ y u. let o = mine j u in let p = subst (IsHeldBy a e) o.1 (h.gets a e j n) in absurd (true_false (sym (rw (← p.0, ← p.1) (at_self m k)) ∙ q))) (λ y u. h.gets a e j n) refl) refl;
      gets_once = unit_case w.units m k (puts_of (w.units m k)) (λ a e l. AreDistinct (got_idents l)) (subst AreDistinct (sym (puts_of_gots (w.units m k))) tt) (λ a e z. h.gets_once a e);
      units = λ a e. bool_case (is_at m k a e) (λ t. items_told (if t then puts_of (b.units m k) else b.units a e) ≡ items_told (if t then puts_of (w.units m k) else w.units a e))
          (λ z. sym (puts_of_told (b.units m k)) ∙ ap puts_of (h.units m k) ∙ puts_of_told (w.units m k)) (λ z. h.units a e);
      unborn = λ j e. other j Unborn (h.unborn j e) (λ q e. cc);
      gone = λ j n. elim (from j n) [ inl z ↦ rw (mem_any j ids z) refl | inr z ↦ other j Gone (h.gone j z) (λ q e. cc) ];
      got = λ j n. elim (bury_mem ids b.got j n) [ inl z ↦ rw (mem_any j ids z) refl | inr z ↦ other j Gone (h.got j z) (λ q e. cc) ];
      got_once = bury_once ids b.got (h.gets_once m k) h.got_once (λ j n z. let o = held_is m k (g.owner j) (h.gets m k j n) in cc (o.1, h.got j z));
      operated_words = λ a d u e q r n. bool_case (among ids r.message.ident) (λ z. (if z then Gone else g.owner r.message.ident) ≡ Forced a d u → Mem (tag_of r.message) (g.sent a d u))
          (λ y z. absurd cc) (λ y z. h.operated_words a d u e q r (mem_keep _ r (b.rows e q) n).0 z);
      persistence = lasts w.rows v.rows w.units v.units w.holds w.last g.sent g.operated h.persistence (λ a d y n. (y, (old a d y n).0, refl))
          (λ a e q y. unit_case w.units m k (puts_of (w.units m k)) (λ a e l. Mem (Put q y) l → Mem (Put q y) (w.units a e)) (puts_left q y (w.units m k)) (λ a e z n. n) a e);
      order = order_ghost g (after g (spent ids)) (λ a d. keep (test a) (b.rows a d)) (is_young w g) (order_keep g b.rows (is_young w g) (λ a d r. test a r) h.order) (λ a d u z. refl)
          (λ a d r n e. bool_case (among ids r.message.ident) (λ z. among ids r.message.ident ≡ z → (if z then Gone else g.owner r.message.ident) ≡ g.owner r.message.ident)
          (λ z y. absurd (true_false (sym e ∙ ap is_forced (mine r.message.ident y).1))) (λ z y. refl) refl);
      distinct = λ a d. distinct_keep _ _ (h.distinct a d);
      back = λ a d y n s. let far = h.back a d y (old a d y n).0 s in bool_case (among ids y.message.ident) (λ z. IsElsewhere a (if z then Gone else g.owner y.message.ident)) (λ z. tt) (λ z. far);
      same = λ a d.
          let counts : (r : Row) → is_counted f r ≡ is_counted g.owner r = λ r.
          bool_case (among ids r.message.ident) (λ z. among ids r.message.ident ≡ z → not (is_forced (if z then Gone else g.owner r.message.ident)) ≡ is_counted g.owner r)
          (λ z y. sym (ap (λ o. not (is_forced o)) (mine r.message.ident y).1)) (λ z y. refl) refl in
          ap rows_told (keep_swap (is_counted g.owner) (is_counted f) (test a) (test a) (b.rows a d) (λ r n. ap (λ t. test a r && t) (counts r) ∙ and_swap (test a r) (is_counted g.owner r)))
          ∙ told_keep (test a) (λ r. refl) (counted g (b.rows a d))
          ∙ ap (keep (test a)) (h.same a d)
          ∙ sym (told_keep (test a) (λ r. refl) (standing w a d))
          ∙ sym (ap rows_told (keep_swap (row_stands (away w a)) (row_stands (away w a)) (λ y. not (T a y)) (test a) (w.rows a d)
          (λ y n. bool_case (T a y) (λ t. T a y ≡ t → (not t && stands (away w a) y.by) ≡ (stands (away w a) y.by && test a y))
          (λ e q. sym (ap (λ t. stands (away w a) y.by && t) (mark a d y n q) ∙ and_false (stands (away w a) y.by)))
          (λ e q. stays_ (stands (away w a) y.by) (test a y) (λ s. ap not (is_false _ (λ z.
          let o = mine y.message.ident (and_right (a == m) _ z) in true_false (sym (held_claim m a k o.0 d y.by (sym o.1 ∙ h.claims a d y n s)) ∙ q))))) refl)));
    }
  where
    not_yes : (t : Bool) → not t ≡ true → t ≡ false
    not_yes true e = absurd cc
    not_yes false e = refl

    stays_ : (s z : Bool) → (s ≡ true → z ≡ true) → s ≡ (s && z)
    stays_ true z yes_ = sym (yes_ refl)
    stays_ false z yes_ = refl

-- A backout: what the unit has got is free again, and its puts are gone.
backed_free : (m k : ℕ) (j : Ident) (o : Owner) → is_forced (backed_out m k j o) ≡ is_forced o
backed_free m k j (HeldBy a q e) = bool_case (is_at m k a e) (λ t. is_forced (if t then At a q else HeldBy a q e) ≡ false) (λ z. refl) (λ z. refl)
backed_free m k j (InUnit a e) = bool_case (is_at m k a e) (λ t. is_forced (if t then Gone else InUnit a e) ≡ false) (λ z. refl) (λ z. refl)
backed_free m k j (At a q) = refl
backed_free m k j (InBatch a d) = refl
backed_free m k j (Forced a d u) = refl
backed_free m k j (InHand a) = refl
backed_free m k j Unborn = refl
backed_free m k j Gone = refl

backed_keeps : (m k : ℕ) (j : Ident) (o : Owner) → is_forced o ≡ true → backed_out m k j o ≡ o
backed_keeps m k j (Forced a d u) z = refl
backed_keeps m k j (HeldBy a q e) z = absurd cc
backed_keeps m k j (InUnit a e) z = absurd cc
backed_keeps m k j (At a q) z = refl
backed_keeps m k j (InBatch a d) z = refl
backed_keeps m k j (InHand a) z = refl
backed_keeps m k j Unborn z = refl
backed_keeps m k j Gone z = refl

backed_forced : (m k : ℕ) (j : Ident) (o : Owner) (a : ℕ) (d : List ℕ) (u : Luw) → backed_out m k j o ≡ Forced a d u → o ≡ Forced a d u
backed_forced m k j (HeldBy b q e) a d u = bool_case (is_at m k b e) (λ t. (if t then At b q else HeldBy b q e) ≡ Forced a d u → HeldBy b q e ≡ Forced a d u) (λ z y. absurd cc) (λ z y. y)
backed_forced m k j (InUnit b e) a d u = bool_case (is_at m k b e) (λ t. (if t then Gone else InUnit b e) ≡ Forced a d u → InUnit b e ≡ Forced a d u) (λ z y. absurd cc) (λ z y. y)
backed_forced m k j (At b q) a d u = λ e. e
backed_forced m k j (InBatch b c) a d u = λ e. e
backed_forced m k j (Forced b c v) a d u = λ e. e
backed_forced m k j (InHand b) a d u = λ e. e
backed_forced m k j Unborn a d u = λ e. e
backed_forced m k j Gone a d u = λ e. e

backed_far : (m k : ℕ) (j : Ident) (c : ℕ) (o : Owner) → IsElsewhere c o → IsElsewhere c (backed_out m k j o)
backed_far m k j c (HeldBy a q e) n = bool_case (is_at m k a e) (λ t. IsElsewhere c (if t then At a q else HeldBy a q e)) (λ z. n) (λ z. n)
backed_far m k j c (InUnit a e) n = bool_case (is_at m k a e) (λ t. IsElsewhere c (if t then Gone else InUnit a e)) (λ z. tt) (λ z. n)
backed_far m k j c (At a q) n = n
backed_far m k j c (InBatch a d) n = n
backed_far m k j c (Forced a d u) n = n
backed_far m k j c (InHand a) n = n
backed_far m k j c Unborn n = n
backed_far m k j c Gone n = n

backed_held : (m k : ℕ) (j : Ident) (a e : ℕ) (o : Owner) → is_at m k a e ≡ false → IsHeldBy a e o → IsHeldBy a e (backed_out m k j o)
backed_held m k j a e (HeldBy b q d) z n = subst (IsHeldBy a e) (sym (ap (λ t. if t then At b q else HeldBy b q d) ((λ i. is_at m k (n.0 i) (n.1 i)) ∙ z))) n
backed_held m k j a e (InUnit b d) z n = absurd n
backed_held m k j a e (At b q) z n = absurd n
backed_held m k j a e (InBatch b d) z n = absurd n
backed_held m k j a e (Forced b d u) z n = absurd n
backed_held m k j a e (InHand b) z n = absurd n
backed_held m k j a e Unborn z n = absurd n
backed_held m k j a e Gone z n = absurd n

backed_claim : (m k : ℕ) (j : Ident) (a : ℕ) (d : List ℕ) (x : Option Holder) → ((a == m) && held_by (holders.Unit k) x) ≡ false → backed_out m k j (claim a d x) ≡ claim a d x
backed_claim m k j a d None e = refl
backed_claim m k j a d (Some (holders.Batch f)) e = refl
backed_claim m k j a d (Some (holders.Unit f)) e = ap (λ t. if t then At a d else HeldBy a d f) (is_false (is_at m k a f) (λ z. let p = at_yes m k a f z in true_false (sym (rw (p.0, p.1) (unit_self_ m k)) ∙ e)))

pub backs_out : (w : World) (g : Ghost) (b : Book) (m k : ℕ) (back : Bool) → Inv w g b
    → Inv (back_out w m k back) (after g (backed_out m k)) (book_units b m k [])
backs_out w g b m k back h =
    let v : World = back_out w m k back in
    let T : ℕ → Row → Bool = λ a y. has_unit m k a y in
    let G : ℕ → Row → Row = λ a y. release_if (T a y) back y in
    let same_ident_ : (a : ℕ) (y : Row) → (G a y).message.ident ≡ y.message.ident = λ a y. release_ident (T a y) back y in
    let stood : (a : ℕ) (y : Row) → stands (away w a) (G a y).by ≡ stands (away w a) y.by = λ a y.
    bool_case (T a y) (λ t. T a y ≡ t → stands (away w a) (release_if t back y).by ≡ stands (away w a) y.by)
    (λ e f. ap (stands (away w a)) (released true back y refl) ∙ sym (ap (stands (away w a)) (unit_yes_ a m k y.by f).1)) (λ e f. refl) refl in
    let by_of : (a : ℕ) (y : Row) (o : Holder) → (G a y).by ≡ Some o → (T a y ≡ false) × (y.by ≡ Some o) = λ a y o.
    bool_case (T a y) (λ t. (release_if t back y).by ≡ Some o → (t ≡ false) × (y.by ≡ Some o)) (λ e z. absurd (cc (released true back y refl, z))) (λ e z. (refl, z)) in
    record {
      sorted = λ a d. sorted_retag (G a) (λ y. release_place (T a y) back y) (w.rows a d) (h.sorted a d);
      shelved = h.shelved;
      claims = λ a d y n s. let r = mem_retag (G a) y (w.rows a d) n in
          let x : Row = r.0 in
          let i : y.message.ident ≡ x.message.ident = ap ident_of r.2 ∙ same_ident_ a x in
          let st : stands (away w a) x.by ≡ true = sym (stood a x) ∙ ap (λ (z : Row). stands (away w a) z.by) (sym r.2) ∙ s in
          let cl : g.owner y.message.ident ≡ claim a d x.by = ap g.owner i ∙ h.claims a d x r.1 st in
          ap (backed_out m k y.message.ident) cl ∙ bool_case (T a x) (λ t. T a x ≡ t → backed_out m k y.message.ident (claim a d x.by) ≡ claim a d y.by)
          (λ e f. let p = unit_yes_ a m k x.by f in
          let none : y.by ≡ None = ap (λ (z : Row). z.by) r.2 ∙ released (T a x) back x f in
          ap (λ z. backed_out m k y.message.ident (claim a d z)) p.1
          ∙ ap (λ t. if t then At a d else HeldBy a d k) (ap (λ z. is_at m k z k) p.0 ∙ at_self m k)
          ∙ ap (claim a d) (sym none))
          (λ e f. backed_claim m k y.message.ident a d x.by f ∙ ap (claim a d) (sym (ap (λ (z : Row). z.by) r.2 ∙ unreleased (T a x) back x f))) refl;
      taken = λ a d y e n by_. let r = mem_retag (G a) y (w.rows a d) n in
          let p = by_of a r.0 (holders.Unit e) (ap (λ (z : Row). z.by) (sym r.2) ∙ by_) in
          let i : r.0.message.ident ≡ y.message.ident = sym (ap ident_of r.2 ∙ same_ident_ a r.0) in
          bool_case (is_at m k a e) (λ t. is_at m k a e ≡ t → Mem y.message.ident (got_idents (if t then [] else w.units a e)))
          (λ z q. let f = at_yes m k a e q in absurd (true_false (sym (unit_hit a m k e r.0.by f.0 p.1 f.1) ∙ p.0)))
          (λ z q. subst (λ j. Mem j (got_idents (w.units a e))) i (h.taken a d r.0 e r.1 p.1)) refl;
      batch = λ a d y e n by_. let r = mem_retag (G a) y (w.rows a d) n in
          let p = by_of a r.0 (holders.Batch e) (ap (λ (z : Row). z.by) (sym r.2) ∙ by_) in
          let f = h.batch a d r.0 e r.1 p.1 in
          let tag : tag_of r.0.message ≡ tag_of y.message = sym (ap (λ (z : Row). tag_of z.message) r.2 ∙ release_tag (T a r.0) back r.0) in
          (f.0, f.1, (λ u z. subst (λ (t : Tag). Mem t (g.sent a e u)) tag (f.2 u z)));
      live = λ a d u t z no_ n. ap (backed_out m k t.ident) (h.live a d u t z no_ n);
      present = λ a d u t z no_ n l. let s = h.present a d u t z no_ n l in
          let out : T a s.row ≡ false = ap (λ z. (a == m) && held_by (holders.Unit k) z) s.by ∙ unit_batch_no a m k d in
          record { row = G a s.row; there = mem_retagged (G a) s.row (w.rows a (g.source a d)) s.there; by = unreleased (T a s.row) back s.row out ∙ s.by; tag = release_tag (T a s.row) back s.row ∙ s.tag };
      sent_once = h.sent_once;
      operated = λ a d u t z n. ap (backed_out m k t.ident) (h.operated a d u t z n);
      operated_there = h.operated_there;
      operated_once = h.operated_once;
      forced = λ a d u j e. h.forced a d u j (backed_forced m k j (g.owner j) a d u e);
      pending = λ a e j. unit_case w.units m k [] (λ a e l. Mem j (put_idents l) → backed_out m k j (g.owner j) ≡ InUnit a e) (λ n. absurd n)
          (λ a e z n. ap (backed_out m k j) (h.pending a e j n) ∙ ap (λ t. if t then Gone else InUnit a e) z) a e;
      pending_once = unit_case w.units m k [] (λ a e l. AreDistinct (put_idents l)) tt (λ a e z. h.pending_once a e);
      gets = λ a e j. unit_case w.units m k [] (λ a e l. Mem j (got_idents l) → IsHeldBy a e (backed_out m k j (g.owner j))) (λ n. absurd n)
          (λ a e z n. backed_held m k j a e (g.owner j) z (h.gets a e j n)) a e;
      gets_once = unit_case w.units m k [] (λ a e l. AreDistinct (got_idents l)) tt (λ a e z. h.gets_once a e);
      units = λ a e. bool_case (is_at m k a e) (λ t. items_told (if t then [] else b.units a e) ≡ items_told (if t then [] else w.units a e)) (λ z. refl) (λ z. h.units a e);
      unborn = λ j e. ap (backed_out m k j) (h.unborn j e);
      gone = λ j n. ap (backed_out m k j) (h.gone j n);
      got = λ j n. ap (backed_out m k j) (h.got j n);
      got_once = h.got_once;
      operated_words = λ a d u e q r n z. h.operated_words a d u e q r n (backed_forced m k r.message.ident (g.owner r.message.ident) a d u z);
      persistence = lasts w.rows v.rows w.units v.units w.holds w.last g.sent g.operated h.persistence
          (λ a d y n. let r = mem_retag (G a) y (w.rows a d) n in (r.0, r.1, ap (λ (z : Row). tag_of z.message) r.2 ∙ release_tag (T a r.0) back r.0))
          (λ a e q y. unit_case w.units m k [] (λ a e l. Mem (Put q y) l → Mem (Put q y) (w.units a e)) (λ n. absurd n) (λ a e z n. n) a e);
      order = order_ghost g (after g (backed_out m k)) b.rows (is_young w g) h.order (λ a d u z. refl) (λ a d r n e. backed_keeps m k r.message.ident (g.owner r.message.ident) e);
      distinct = λ a d. subst AreDistinct (sym (retag_idents (G a) (same_ident_ a) (w.rows a d))) (h.distinct a d);
      back = λ a d y n s. let r = mem_retag (G a) y (w.rows a d) n in
          let st : stands (away w a) r.0.by ≡ false = sym (stood a r.0) ∙ ap (λ (z : Row). stands (away w a) z.by) (sym r.2) ∙ s in
          let i : r.0.message.ident ≡ y.message.ident = sym (ap ident_of r.2 ∙ same_ident_ a r.0) in
          backed_far m k y.message.ident a (g.owner y.message.ident) (subst (λ j. IsElsewhere a (g.owner j)) i (h.back a d r.0 r.1 st));
      same = λ a d.
          ap rows_told (keep_same _ _ (b.rows a d) (λ y n. ap not (backed_free m k y.message.ident (g.owner y.message.ident))))
          ∙ h.same a d
          ∙ sym (keep_retag (row_stands (away w a)) (row_stands (away w a)) (G a) (w.rows a d) (λ y n. stood a y) (λ y. release_told (T a y) back y));
    }
