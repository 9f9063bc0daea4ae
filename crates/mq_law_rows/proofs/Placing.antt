-- What is given, placed, lifted off its queue, and gone for good keeps the facts.
use Rattle.std.proofs.Common.{ℕ, ◌≡◌, Bool, true, false, not, List, ◌∷◌, refl, ap, sym, subst, ◌∙◌, inl, inr}
use Rattle.std.specs.Prelude.{Option, Some, None, ◌==◌, if◌then◌else◌, ◌&&◌, ◌||◌}
use Rattle.mq_message.specs.declared.message.Ident.{Ident}
use Rattle.mq_message.specs.declared.place.Holder.{Holder}
use Rattle.mq_message.specs.declared.place.Holder.TheVariants as holders
use Rattle.mq_queue.specs.declared.row.Row.{Row}
use Rattle.mq_queue.specs.Rows.{same_ident, insert_row, keep}
use Rattle.mq_calls.specs.declared.state.Item.{Item}
use Rattle.mq_spec_network.specs.Story.{Mem}
use Rattle.mq_spec_network.specs.Promised.{AreDistinct}
use Rattle.mq_spec_network.specs.Standing.{row_told, rows_told}
use Rattle.mq_law_rows.specs.Families.{is_here, put_at}
use Rattle.mq_law_rows.specs.World.{World, Book, Ghost, Tag, Owner, Unborn, At, HeldBy, InBatch, Forced, InUnit, InHand, Gone, ident_of, idents_in, away, stands, row_stands, standing, is_forced, is_counted, counted, is_young, claim, IsHeldBy, IsElsewhere, LanesRise, items_told, put_idents, got_idents, Lasting, Inv}
use Rattle.mq_law_rows.specs.Kinds.{after, owned, give, place_row, book_place, lift_row, book_lift, book_bury, is_row, is_told_row}
use Rattle.mq_law_rows.proofs.Lists.{true_false, and_none, and_false, and_right, and_swap, eqb_self, bool_case, is_false, ident_yes, here_yes, here_self, mem_keep, mem_kept, sorted_insert, sorted_keep, distinct_insert, distinct_keep, keep_insert, keep_same, keep_swap, told_insert, told_keep}
use Rattle.mq_calls.specs.Reads.{is_persistent}
use Rattle.mq_law_rows.proofs.Young.{order_keep, order_place, order_owned, not_young}
use Rattle.mq_law_rows.proofs.Lasting.{flagged, flag_is, flag_new, lasts, put_in}
use Rattle.mq_law_rows.proofs.Owners.{mem_put, mem_put_old, hand_no_claim, absent, told_ident, owned_other, owned_self, held_owned, away_owned, forced_owned, owned_forced}

placed_claim : (a m : ℕ) (c q : List ℕ) (x row : Row) (o : Owner) → a ≡ m → c ≡ q → x ≡ row → row.by ≡ None → owned row.message.ident (At m q) x.message.ident o ≡ claim a c x.by
placed_claim a m c q x row o ea ec ex none =
    let i : x.message.ident ≡ row.message.ident = ap ident_of ex in
    let y : x.by ≡ None = ap (λ (r : Row). r.by) ex ∙ none in
    rw (i, y, ea, ec) (owned_self row.message.ident o (At m q))

pub places_row : (w : World) (g : Ghost) (b : Book) (m : ℕ) (q : List ℕ) (row told : Row) → Inv w g b
    → g.owner row.message.ident ≡ InHand m → row.by ≡ None → row_told told ≡ row_told row
    → ((a : ℕ) (d : List ℕ) (x : Row) → Mem x (w.rows a d) → x.message.ident ≡ row.message.ident → is_persistent x.message ≡ is_persistent row.message)
    → Inv (place_row w m q row) (after g (owned row.message.ident (At m q))) (book_place b m q told)
places_row w g b m q row told h hand none same agrees =
    let i : Ident = row.message.ident in
    let other = owned_other g.owner i in
    record {
      sorted = λ a c. bool_case (is_here m q a c) (λ t. LanesRise (if t then insert_row row (w.rows m q) else w.rows a c)) (λ e. sorted_insert row _ (h.sorted m q)) (λ e. h.sorted a c);
      shelved = λ a c. bool_case (is_here m q a c) (λ t. LanesRise (if t then insert_row told (b.rows m q) else b.rows a c)) (λ e. sorted_insert told _ (h.shelved m q)) (λ e. h.shelved a c);
      claims = λ a c x n s. elim (mem_put w.rows m q row a c x n) [
        | inl z ↦ other x.message.ident (At m q) (InHand m) (claim a c x.by) hand (h.claims a c x z s) (hand_no_claim m a c x.by)
        | inr z ↦ placed_claim a m c q x row (g.owner x.message.ident) z.0 z.1 z.2 none
      ];
      taken = λ a c x k n e. elim (mem_put w.rows m q row a c x n) [
        | inl z ↦ h.taken a c x k z e
        | inr z ↦ absurd (cc (ap (λ (r : Row). r.by) z.2, e, none))
      ];
      batch = λ a c x d n e. elim (mem_put w.rows m q row a c x n) [
        | inl z ↦ h.batch a c x d z e
        | inr z ↦ absurd (cc (ap (λ (r : Row). r.by) z.2, e, none))
      ];
      live = λ a c u t z no_ n. other t.ident (At m q) (InHand m) (InBatch a c) hand (h.live a c u t z no_ n) (λ e. cc);
      present = λ a c u t z no_ n l. let p = h.present a c u t z no_ n l in record { row = p.row; there = mem_put_old w.rows m q row a _ p.row p.there; by = p.by; tag = p.tag };
      sent_once = h.sent_once;
      operated = λ a c u t z n. other t.ident (At m q) (InHand m) (Forced a c u) hand (h.operated a c u t z n) (λ e. cc);
      operated_there = λ a c u t z n l. let p = h.operated_there a c u t z n l in record { queue = p.queue; row = p.row; there = mem_put_old b.rows m q told a p.queue p.row p.there; tag = p.tag };
      operated_once = h.operated_once;
      forced = λ a c u j e. h.forced a c u j (owned_forced i j (At m q) (g.owner j) a c u (λ z. cc) e);
      pending = λ a k j n. other j (At m q) (InHand m) (InUnit a k) hand (h.pending a k j n) (λ e. cc);
      pending_once = h.pending_once;
      gets = λ a k j n. held_owned a k i j (At m q) (InHand m) g.owner hand (λ z. z) (h.gets a k j n);
      gets_once = h.gets_once;
      units = h.units;
      unborn = λ j e. other j (At m q) (InHand m) Unborn hand (h.unborn j e) (λ e. cc);
      gone = λ j n. other j (At m q) (InHand m) Gone hand (h.gone j n) (λ e. cc);
      got = λ j n. other j (At m q) (InHand m) Gone hand (h.got j n) (λ e. cc);
      got_once = h.got_once;
      operated_words = λ a c u d p r n e.
          let f = owned_forced i r.message.ident (At m q) (g.owner r.message.ident) a c u (λ z. cc) e in
          elim (mem_put b.rows m q told d p r n) [
            | inl z ↦ h.operated_words a c u d p r z f
            | inr z ↦ absurd (cc (f, ap (λ (y : Row). g.owner y.message.ident) z.2, ap g.owner (told_ident told row same), hand))
          ];
      persistence =
          let p = h.persistence in
          record {
            flag = flagged i (is_persistent row.message) p.flag;
            of_row = λ a c x n. elim (mem_put w.rows m q row a c x n) [
              | inl z ↦ flag_is i x.message.ident (is_persistent row.message) (is_persistent x.message) p.flag (agrees a c x z) (p.of_row a c x z)
              | inr z ↦ flag_new i x.message.ident (is_persistent row.message) (is_persistent x.message) p.flag (ap ident_of z.2) (ap (λ (y : Row). is_persistent y.message) z.2)
            ];
            of_put = λ a k d y n. flag_is i y.ident (is_persistent row.message) (is_persistent y) p.flag (λ e. absurd (cc (h.pending a k y.ident (put_in d y (w.units a k) n), ap g.owner e, hand))) (p.of_put a k d y n);
            of_unit = λ a c u t z no_ n. flag_is i t.ident (is_persistent row.message) t.lasting p.flag (λ e. absurd (cc (h.live a c u t z no_ n, ap g.owner e, hand))) (p.of_unit a c u t z no_ n);
            of_operated = λ a c u t z n. flag_is i t.ident (is_persistent row.message) t.lasting p.flag (λ e. absurd (cc (h.operated a c u t z n, ap g.owner e, hand))) (p.of_operated a c u t z n);
          };
      order = order_owned g (put_at b.rows m q (insert_row told (b.rows m q))) (is_young w g) i (At m q) (InHand m) hand refl
          (order_place g b.rows (is_young w g) m q told h.order (h.shelved m q) (not_young w g b told.message.ident (InHand m) h (ap g.owner (told_ident told row same) ∙ hand) (λ a c e. cc) refl));
      distinct = λ a c. bool_case (is_here m q a c) (λ t. AreDistinct (idents_in (if t then insert_row row (w.rows m q) else w.rows a c)))
          (λ e. distinct_insert row (w.rows m q) (absent w g b h m q i hand) (h.distinct m q)) (λ e. h.distinct a c);
      back = λ a c x n s. elim (mem_put w.rows m q row a c x n) [
        | inl z ↦ away_owned a i x.message.ident (At m q) (InHand m) g.owner hand (λ ne. ne) (h.back a c x z s)
        | inr z ↦ absurd (let y : x.by ≡ None = ap (λ (r : Row). r.by) z.2 ∙ none in cc (rw y at s))
      ];
      same = λ a c.
          let counts : (x : Row) → is_counted (λ j. owned i (At m q) j (g.owner j)) x ≡ is_counted g.owner x = λ x. ap not (forced_owned i x.message.ident (At m q) (InHand m) g.owner hand refl) in
          let mine : is_counted g.owner told ≡ true = ap (λ o. not (is_forced o)) (ap g.owner (told_ident told row same) ∙ hand) in
          let all : (c : List ℕ) (a : ℕ) → counted (after g (owned i (At m q))) (b.rows a c) ≡ counted g (b.rows a c) = λ c a. keep_same _ _ (b.rows a c) (λ x n. counts x) in
          bool_case (is_here m q a c) (λ t. rows_told (counted (after g (owned i (At m q))) (if t then insert_row told (b.rows m q) else b.rows a c)) ≡ rows_told (keep (row_stands (away w a)) (if t then insert_row row (w.rows m q) else w.rows a c)))
          (λ e. let z = here_yes m q a c e in rw (z.0) (
          ap rows_told (keep_insert _ told (b.rows m q) (h.shelved m q) (counts told ∙ mine) ∙ ap (insert_row told) (all q m))
          ∙ told_insert told (counted g (b.rows m q))
          ∙ ap (insert_row (row_told told)) (h.same m q)
          ∙ ap (λ r. insert_row r (rows_told (standing w m q))) same
          ∙ sym (told_insert row (standing w m q))
          ∙ sym (ap rows_told (keep_insert (row_stands (away w m)) row (w.rows m q) (h.sorted m q) (ap (stands (away w m)) none)))))
          (λ e. ap rows_told (all c a) ∙ h.same a c);
    }

-- An ident that is on no queue, and in no unit of a channel, goes from one manager's keeping into another: only what tells
-- of connections' units, of idents that are given and of those that went has to be shown.
abbrev pub IsAside : Owner → Type 0
IsAside Unborn = Unit {0}
IsAside (InUnit m k) = Unit {0}
IsAside (InHand m) = Unit {0}
IsAside (At m q) = ⊥
IsAside (HeldBy m q k) = ⊥
IsAside (InBatch m c) = ⊥
IsAside (Forced m c u) = ⊥
IsAside Gone = ⊥

aside_no_claim : (o : Owner) → IsAside o → (a : ℕ) (c : List ℕ) (x : Option Holder) → o ≡ claim a c x → ⊥
aside_no_claim o s a c None e = subst IsAside e s
aside_no_claim o s a c (Some (holders.Unit k)) e = subst IsAside e s
aside_no_claim o s a c (Some (holders.Batch d)) e = subst IsAside e s

aside_free : (o : Owner) → IsAside o → is_forced o ≡ false
aside_free Unborn s = refl
aside_free (InUnit m k) s = refl
aside_free (InHand m) s = refl
aside_free (At m q) s = absurd s
aside_free (HeldBy m q k) s = absurd s
aside_free (InBatch m c) s = absurd s
aside_free (Forced m c u) s = absurd s
aside_free Gone s = absurd s

aside_unheld : (o : Owner) → IsAside o → (a k : ℕ) → IsHeldBy a k o → ⊥
aside_unheld Unborn s a k n = n
aside_unheld (InUnit m c) s a k n = n
aside_unheld (InHand m) s a k n = n
aside_unheld (At m q) s a k n = s
aside_unheld (HeldBy m q c) s a k n = s
aside_unheld (InBatch m c) s a k n = s
aside_unheld (Forced m c u) s a k n = s
aside_unheld Gone s a k n = s

-- what a change of units, of given idents and of those that went has to show
pub record Fits (w : World) (own : Ident → Owner) (us bus : ℕ → ℕ → List Item) (known : Ident → Bool) (went by_gets : List Ident) : Type 0 where
  pub taken : (a k : ℕ) (j : Ident) → Mem j (got_idents (w.units a k)) → Mem j (got_idents (us a k))
  pub pending : (a k : ℕ) (j : Ident) → Mem j (put_idents (us a k)) → own j ≡ InUnit a k
  pub pending_once : (a k : ℕ) → AreDistinct (put_idents (us a k))
  pub gets : (a k : ℕ) (j : Ident) → Mem j (got_idents (us a k)) → Mem j (got_idents (w.units a k))
  pub gets_once : (a k : ℕ) → AreDistinct (got_idents (us a k))
  pub units : (a k : ℕ) → items_told (bus a k) ≡ items_told (us a k)
  pub unborn : (j : Ident) → known j ≡ false → own j ≡ Unborn
  pub gone : (j : Ident) → Mem j went → own j ≡ Gone
  pub got : (j : Ident) → Mem j by_gets → own j ≡ Gone
  pub got_once : AreDistinct by_gets

pub reowns : (w : World) (g : Ghost) (b : Book) (i : Ident) (old new : Owner) (units bunits : ℕ → ℕ → List Item) (given : Ident → Bool) (gone got : List Ident) → Inv w g b
    → g.owner i ≡ old → IsAside old → is_forced new ≡ false → ((a : ℕ) → IsElsewhere a old → IsElsewhere a new)
    → Fits w (λ j. owned i new j (g.owner j)) units bunits given gone got → Lasting w.rows units w.holds w.last g.sent g.operated
    → Inv (record { rows = w.rows; units = units; given = given; holds = w.holds; doubt = w.doubt; last = w.last }) (after g (owned i new)) (record { rows = b.rows; units = bunits; gone = gone; got = got })
reowns w g b i old new units bunits given gone got h own aside free far fits lasting =
    let other = owned_other g.owner i in
    record {
      sorted = h.sorted;
      shelved = h.shelved;
      claims = λ m q x n s. other x.message.ident new old (claim m q x.by) own (h.claims m q x n s) (aside_no_claim old aside m q x.by);
      taken = λ m q x k n e. fits.taken m k x.message.ident (h.taken m q x k n e);
      batch = h.batch;
      live = λ m c u t z no_ n. other t.ident new old (InBatch m c) own (h.live m c u t z no_ n) (λ e. subst IsAside e aside);
      present = h.present;
      sent_once = h.sent_once;
      operated = λ m c u t z n. other t.ident new old (Forced m c u) own (h.operated m c u t z n) (λ e. subst IsAside e aside);
      operated_there = h.operated_there;
      operated_once = h.operated_once;
      forced = λ a c u j e. h.forced a c u j (owned_forced i j new (g.owner j) a c u (λ z. true_false (sym (ap is_forced z) ∙ free)) e);
      pending = fits.pending;
      pending_once = fits.pending_once;
      gets = λ a k j n. held_owned a k i j new old g.owner own (aside_unheld old aside a k) (h.gets a k j (fits.gets a k j n));
      gets_once = fits.gets_once;
      units = fits.units;
      unborn = fits.unborn;
      gone = fits.gone;
      got = fits.got;
      got_once = fits.got_once;
      operated_words = λ a c u d p r n e. h.operated_words a c u d p r n (owned_forced i r.message.ident new (g.owner r.message.ident) a c u (λ z. true_false (sym (ap is_forced z) ∙ free)) e);
      persistence = lasting;
      order = order_owned g b.rows (is_young w g) i new old own (aside_free old aside) h.order;
      distinct = h.distinct;
      back = λ m q x n s. away_owned m i x.message.ident new old g.owner own (far m) (h.back m q x n s);
      same = λ m q.
          ap rows_told (keep_same _ _ (b.rows m q) (λ x n. ap not (forced_owned i x.message.ident new old g.owner own (free ∙ sym (aside_free old aside)))))
          ∙ h.same m q;
    }

-- where the units stay
units_stay : (w : World) (g : Ghost) (b : Book) (i : Ident) (old new : Owner) (known : Ident → Bool) (went by_gets : List Ident) → Inv w g b → g.owner i ≡ old → ((a k : ℕ) → old ≡ InUnit a k → ⊥) → ((j : Ident) → known j ≡ false → owned i new j (g.owner j) ≡ Unborn)
    → ((j : Ident) → Mem j went → owned i new j (g.owner j) ≡ Gone) → ((j : Ident) → Mem j by_gets → owned i new j (g.owner j) ≡ Gone) → AreDistinct by_gets → Fits w (λ j. owned i new j (g.owner j)) w.units b.units known went by_gets
units_stay w g b i old new known went by_gets h own apart unborn gone got once = record {
  taken = λ a k j n. n;
  pending = λ a k j n. owned_other g.owner i j new old (InUnit a k) own (h.pending a k j n) (apart a k);
  pending_once = h.pending_once;
  gets = λ a k j n. n;
  gets_once = h.gets_once;
  units = h.units;
  unborn = unborn;
  gone = gone;
  got = got;
  got_once = once;
}

or_false : (a b : Bool) → (a || b) ≡ false → (a ≡ false) × (b ≡ false)
or_false true b e = absurd cc
or_false false b e = (refl, e)

-- an ident is given
pub gives : (w : World) (g : Ghost) (b : Book) (m : ℕ) (i : Ident) → Inv w g b → w.given i ≡ false
    → Inv (give w i) (after g (owned i (InHand m))) b
gives w g b m i h new =
    let own : g.owner i ≡ Unborn = h.unborn i new in
    let other = owned_other g.owner i in
    reowns w g b i Unborn (InHand m) w.units b.units (give w i).given b.gone b.got h own tt refl (λ a z. absurd z)
    (units_stay w g b i Unborn (InHand m) (give w i).given b.gone b.got h own (λ a k e. cc)
    (λ j e. let z = or_false (same_ident j i) (w.given j) e in rw (z.0) (h.unborn j z.1))
    (λ j n. other j (InHand m) Unborn Gone own (h.gone j n) (λ e. cc)) (λ j n. other j (InHand m) Unborn Gone own (h.got j n) (λ e. cc)) h.got_once) h.persistence

-- what is in hand goes for good
bury : (w : World) (g : Ghost) (b : Book) (m : ℕ) (i : Ident) (got : List Ident) → Inv w g b → g.owner i ≡ InHand m → ((j : Ident) → Mem j got → owned i Gone j (g.owner j) ≡ Gone) → AreDistinct got
    → Inv w (after g (owned i Gone)) (record { rows = b.rows; units = b.units; gone = i ∷ b.gone; got = got })
bury w g b m i got h own taken once =
    let other = owned_other g.owner i in
    reowns w g b i (InHand m) Gone w.units b.units w.given (i ∷ b.gone) got h own tt refl (λ a z. tt)
    (units_stay w g b i (InHand m) Gone w.given (i ∷ b.gone) got h own (λ a k e. cc) (λ j e. other j Gone (InHand m) Unborn own (h.unborn j e) (λ e. cc))
    (λ j. elim [ inl z ↦ rw z (owned_self i (g.owner i) Gone) | inr n ↦ other j Gone (InHand m) Gone own (h.gone j n) (λ e. cc) ]) taken once) h.persistence

pub buries : (w : World) (g : Ghost) (b : Book) (m : ℕ) (by_get : Bool) (i : Ident) → Inv w g b → g.owner i ≡ InHand m → w.given i ≡ true
    → Inv w (after g (owned i Gone)) (book_bury b by_get i)
buries w g b m true i h own known = bury w g b m i (i ∷ b.got) h own (λ j. elim [ inl z ↦ rw z (owned_self i (g.owner i) Gone) | inr n ↦ owned_other g.owner i j Gone (InHand m) Gone own (h.got j n) (λ e. cc) ])
    ((λ y n. is_false (same_ident i y) (λ s. cc (h.got y n, ap g.owner (ident_yes i y s), own))), h.got_once)
buries w g b m false i h own known = bury w g b m i b.got h own (λ j n. owned_other g.owner i j Gone (InHand m) Gone own (h.got j n) (λ e. cc)) h.got_once

-- A free row is taken off its queue.
claim_free : (m a : ℕ) (q c : List ℕ) (x : Option Holder) → At m q ≡ claim a c x → (a ≡ m) × (c ≡ q)
claim_free m a q c None e = (cc, cc)
claim_free m a q c (Some (holders.Unit k)) e = absurd cc
claim_free m a q c (Some (holders.Batch d)) e = absurd cc

not_yes : (t : Bool) → not t ≡ true → t ≡ false
not_yes true e = absurd cc
not_yes false e = refl

-- the tests of the manager and of the ledger agree on what stands
lift_agrees : (w : World) (g : Ghost) (b : Book) → Inv w g b → (m : ℕ) (q : List ℕ) (i : Ident) → g.owner i ≡ At m q → (a : ℕ) (c : List ℕ) (x : Row) → Mem x (w.rows a c)
    → (not (is_row m q i a c x) && stands (away w a) x.by) ≡ (stands (away w a) x.by && not (is_told_row m i a x))
lift_agrees w g b h m q i own a c x n =
    bool_case (stands (away w a) x.by) (λ t. stands (away w a) x.by ≡ t → (not (is_row m q i a c x) && t) ≡ (t && not (is_told_row m i a x)))
    (λ s f. bool_case (same_ident x.message.ident i) (λ t. (not (is_here m q a c && t) && true) ≡ (true && not ((a == m) && t)))
    (λ e. let z = claim_free m a q c x.by (sym own ∙ ap g.owner (sym (ident_yes x.message.ident i e)) ∙ h.claims a c x n s) in
    rw (z.0, z.1, here_self m q, eqb_self m) refl)
    (λ e. and_none (is_here m q a c) (a == m)))
    (λ s f. and_false (not (is_row m q i a c x))) refl

pub lifts_row : (w : World) (g : Ghost) (b : Book) (m : ℕ) (q : List ℕ) (x : Row) → Inv w g b
    → Mem x (w.rows m q) → x.by ≡ None
    → Inv (lift_row w m q x.message.ident) (after g (owned x.message.ident (InHand m))) (book_lift b m x.message.ident)
lifts_row w g b m q x h here none =
    let i : Ident = x.message.ident in
    let own : g.owner i ≡ At m q = h.claims m q x here (ap (stands (away w m)) none) ∙ ap (claim m q) none in
    let other = owned_other g.owner i in
    let old : (a : ℕ) (c : List ℕ) (y : Row) → Mem y ((lift_row w m q i).rows a c) → Mem y (w.rows a c) × (is_row m q i a c y ≡ false) = λ a c y n. let k = mem_keep _ y (w.rows a c) n in (k.0, not_yes _ k.1) in
    let counts : (y : Row) → is_counted (λ j. owned i (InHand m) j (g.owner j)) y ≡ is_counted g.owner y = λ y. ap not (forced_owned i y.message.ident (InHand m) (At m q) g.owner own refl) in
    record {
      sorted = λ a c. sorted_keep _ _ (h.sorted a c);
      shelved = λ a c. sorted_keep _ _ (h.shelved a c);
      claims = λ a c y n s. let k = old a c y n in
          bool_case (same_ident y.message.ident i) (λ t. same_ident y.message.ident i ≡ t → (if t then InHand m else g.owner y.message.ident) ≡ claim a c y.by)
          (λ e f. let z = claim_free m a q c y.by (sym own ∙ ap g.owner (sym (ident_yes y.message.ident i e)) ∙ h.claims a c y k.0 s) in
          absurd (true_false (sym (rw (z.0, z.1, here_self m q, e) refl) ∙ k.1)))
          (λ e f. h.claims a c y k.0 s) refl;
      taken = λ a c y k n e. h.taken a c y k (old a c y n).0 e;
      batch = λ a c y d n e. h.batch a c y d (old a c y n).0 e;
      live = λ a c u t z no_ n. other t.ident (InHand m) (At m q) (InBatch a c) own (h.live a c u t z no_ n) (λ e. cc);
      present = λ a c u t z no_ n l. let p = h.present a c u t z no_ n l in record {
        row = p.row;
        by = p.by;
        tag = p.tag;
        there = mem_kept _ p.row _ p.there (ap not (is_false _ (λ e. let k = and_right (is_here m q a (g.source a c)) _ e in
            cc (h.live a c u t z no_ n, ap (λ (s : Tag). g.owner s.ident) p.tag, ap g.owner (ident_yes p.row.message.ident i k), own))));
      };
      sent_once = h.sent_once;
      operated = λ a c u t z n. other t.ident (InHand m) (At m q) (Forced a c u) own (h.operated a c u t z n) (λ e. cc);
      operated_there = λ a c u t z n l. let p = h.operated_there a c u t z n l in record {
        queue = p.queue;
        row = p.row;
        tag = p.tag;
        there = mem_kept _ p.row _ p.there (ap not (is_false _ (λ e. let k = and_right (a == m) _ e in
            cc (h.operated a c u t z n, ap (λ (s : Tag). g.owner s.ident) p.tag, ap g.owner (ident_yes p.row.message.ident i k), own))));
      };
      operated_once = h.operated_once;
      forced = λ a c u j e. h.forced a c u j (owned_forced i j (InHand m) (g.owner j) a c u (λ z. cc) e);
      pending = λ a k j n. other j (InHand m) (At m q) (InUnit a k) own (h.pending a k j n) (λ e. cc);
      pending_once = h.pending_once;
      gets = λ a k j n. held_owned a k i j (InHand m) (At m q) g.owner own (λ z. z) (h.gets a k j n);
      gets_once = h.gets_once;
      units = h.units;
      unborn = λ j e. other j (InHand m) (At m q) Unborn own (h.unborn j e) (λ e. cc);
      gone = λ j n. other j (InHand m) (At m q) Gone own (h.gone j n) (λ e. cc);
      got = λ j n. other j (InHand m) (At m q) Gone own (h.got j n) (λ e. cc);
      got_once = h.got_once;
      operated_words = λ a c u d p r n e. h.operated_words a c u d p r (mem_keep _ r (b.rows d p) n).0 (owned_forced i r.message.ident (InHand m) (g.owner r.message.ident) a c u (λ z. cc) e);
      persistence = lasts w.rows (lift_row w m q i).rows w.units w.units w.holds w.last g.sent g.operated h.persistence (λ a c y n. (y, (old a c y n).0, refl)) (λ a k p message n. n);
      order = order_owned g (book_lift b m i).rows (is_young w g) i (InHand m) (At m q) own refl (order_keep g b.rows (is_young w g) (λ a c r. not (is_told_row m i a r)) h.order);
      distinct = λ a c. distinct_keep _ _ (h.distinct a c);
      back = λ a c y n s. away_owned a i y.message.ident (InHand m) (At m q) g.owner own (λ ne. ne) (h.back a c y (old a c y n).0 s);
      same = λ a c.
          ap rows_told (keep_swap (is_counted g.owner) (is_counted (λ j. owned i (InHand m) j (g.owner j))) (λ r. not (is_told_row m i a r)) (λ r. not (is_told_row m i a r)) (b.rows a c)
          (λ r n. ap (λ t. not (is_told_row m i a r) && t) (counts r) ∙ and_swap (not (is_told_row m i a r)) (is_counted g.owner r)))
          ∙ told_keep (λ r. not (is_told_row m i a r)) (λ r. refl) (counted g (b.rows a c))
          ∙ ap (keep (λ r. not (is_told_row m i a r))) (h.same a c)
          ∙ sym (told_keep (λ r. not (is_told_row m i a r)) (λ r. refl) (standing w a c))
          ∙ sym (ap rows_told (keep_swap (row_stands (away w a)) (row_stands (away w a)) (λ r. not (is_row m q i a c r)) (λ r. not (is_told_row m i a r)) (w.rows a c) (λ r n. lift_agrees w g b h m q i own a c r n)));
    }
