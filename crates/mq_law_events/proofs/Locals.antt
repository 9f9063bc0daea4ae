-- The kinds of change of rows and units as changes of what one manager has.
use Rattle.std.proofs.Common.{ℕ, ◌≡◌, ◌⊎◌, Bool, true, false, not, List, [], ◌∷◌, ◌++◌, refl, ap, sym, subst, ◌∙◌, inl}
use Rattle.std.specs.Prelude.{Some, None, ◌==◌, if◌then◌else◌, ◌&&◌, ◌||◌}
use Rattle.std.specs.Str.{bytes_eq}
use Rattle.mq_message.specs.declared.message.Ident.{Ident}
use Rattle.mq_message.specs.declared.message.Message.{Message}
use Rattle.mq_message.specs.declared.place.Holder.TheVariants as holders
use Rattle.mq_queue.specs.declared.row.Row.{Row}
use Rattle.mq_queue.specs.Rows.{same_ident, insert_row, keep, retag, held_by}
use Rattle.mq_calls.specs.declared.state.Item.{Item}
use Rattle.mq_calls.specs.declared.state.Item.TheVariants.{Put, Take}
use Rattle.mq_calls.specs.Reads.{is_persistent}
use Rattle.mq_calls.specs.Changes.{retag_if, release_if}
use Rattle.mq_law_seen.specs.from_spec_network.Story.{Mem}
use Rattle.mq_law_seen.specs.from_spec_network.Standing.{row_told}
use Rattle.mq_law_seen.specs.from_law_rows.Families.{is_here}
use Rattle.mq_law_seen.specs.from_law_rows.World.{World, Book, Ghost, Unborn, At, InHand, away, stands, claim, got_idents, items_told, Inv}
use Rattle.mq_law_seen.specs.from_law_rows.Kinds.{after, owned, give, is_row, lift_row, book_lift, among, with_units, book_units, puts_of, bury_all}
use Rattle.mq_law_seen.proofs.from_law_rows.Lists.{bool_case, eqb_self, same_self, keep_all, mem_keep}
use Rattle.mq_law_seen.proofs.from_law_rows.Lasting.{alike, none_unborn}
use Rattle.mq_law_seen.proofs.from_law_rows.Owners.{owned_self}
use Rattle.mq_law_seen.proofs.from_law_rows.Placing.{gives, places_row, lifts_row, buries}
use Rattle.mq_law_seen.proofs.from_law_rows.Units.{pends, unpends, holds_row, takes_gets, backs_out}
use Rattle.mq_law_seen.proofs.from_law_rows.Settling.{loses}
use Rattle.mq_law_events.specs.Local.{Side, Sheet, local, page, with_owner, Leads}

-- What is told of items that are told is the same.
pub told_again : (xs : List Item) → items_told (items_told xs) ≡ items_told xs
told_again [] = refl
told_again (Put q message ∷ xs) = ap (λ (is : List Item). Put q message ∷ is) (told_again xs)
told_again (Take q i lasting ∷ xs) = ap (λ (is : List Item). Take [] i false ∷ is) (told_again xs)

-- A world and a book that are these, pointwise: the facts hold of them.
pub lands : (m : ℕ) (w : World) (g : Ghost) (b : Book) (x : Side) (y : Sheet) (R : ℕ → List ℕ → List Row) (U : ℕ → ℕ → List Item) (B : Book)
    → Inv (record { rows = R; units = U; given = x.given; holds = w.holds; doubt = w.doubt; last = w.last }) g B
    → ((a : ℕ) (d : List ℕ) → R a d ≡ (if a == m then x.rows d else w.rows a d)) → ((a k : ℕ) → U a k ≡ (if a == m then x.units k else w.units a k))
    → ((a : ℕ) (d : List ℕ) → B.rows a d ≡ (if a == m then y.rows d else b.rows a d)) → ((j : Ident) → Mem j y.gone → Mem j B.gone) → B.got ≡ y.got
    → ((a k : ℕ) → (a == m) ≡ false → items_told (b.units a k) ≡ items_told (w.units a k))
    → Inv (local w m x) g (page b m x y)
lands m w g b x y R U B h rows units brows gone got old =
    let world : record { rows = R; units = U; given = x.given; holds = w.holds; doubt = w.doubt; last = w.last } ≡ local w m x =
    λ i. record { rows = λ a d. rows a d i; units = λ a k. units a k i; given = x.given; holds = w.holds; doubt = w.doubt; last = w.last } in
    let book : B ≡ record { rows = (page b m x y).rows; units = B.units; gone = B.gone; got = y.got } = λ i. record { rows = λ a d. brows a d i; units = B.units; gone = B.gone; got = got i } in
    let k : Inv (local w m x) g (record { rows = (page b m x y).rows; units = B.units; gone = B.gone; got = y.got }) =
    subst (λ (z : World). Inv z g (record { rows = (page b m x y).rows; units = B.units; gone = B.gone; got = y.got })) world
    (subst (λ (z : Book). Inv (record { rows = R; units = U; given = x.given; holds = w.holds; doubt = w.doubt; last = w.last }) g z) book h) in
    record {
      sorted = k.sorted;
      shelved = k.shelved;
      claims = k.claims;
      taken = k.taken;
      batch = k.batch;
      live = k.live;
      present = k.present;
      sent_once = k.sent_once;
      operated = k.operated;
      operated_there = k.operated_there;
      operated_once = k.operated_once;
      forced = k.forced;
      pending = k.pending;
      pending_once = k.pending_once;
      gets = k.gets;
      gets_once = k.gets_once;
      units = λ a c. bool_case (a == m) (λ t. (a == m) ≡ t → items_told (if t then items_told (x.units c) else b.units a c) ≡ items_told (if t then x.units c else w.units a c))
          (λ e f. told_again (x.units c)) (λ e f. old a c f) refl;
      unborn = k.unborn;
      gone = λ j n. k.gone j (gone j n);
      got = k.got;
      got_once = k.got_once;
      operated_words = k.operated_words;
      persistence = k.persistence;
      order = k.order;
      distinct = k.distinct;
      back = k.back;
      same = k.same;
    }

-- what is told of other managers' units
pub others_told : (m : ℕ) (v : Side) (t : Sheet) (w : World) (g : Ghost) (b : Book) → Inv (local w m v) g (page b m v t) → (a k : ℕ) → (a == m) ≡ false → items_told (b.units a k) ≡ items_told (w.units a k)
others_told m v t w g b h a k e =
    ap (λ z. items_told (if z then items_told (v.units k) else b.units a k)) (sym e) ∙ h.units a k ∙ ap (λ z. items_told (if z then v.units k else w.units a k)) e

-- One manager's part of a family

and_then : {A : Type 0} (t c : Bool) (x y z : A) → (if t && c then x else (if t then y else z)) ≡ (if t then (if c then x else y) else z)
and_then true c x y z = refl
and_then false c x y z = refl

keep_both : (t : Bool) (f : Bool → Row → Bool) (xs ys : List Row) → ((r : Row) → f false r ≡ true) → keep (f t) (if t then xs else ys) ≡ (if t then keep (f true) xs else ys)
keep_both true f xs ys all = refl
keep_both false f xs ys all = keep_all (f false) ys (λ r n. all r)

retag_none : (f : Row → Row) (xs : List Row) → ((r : Row) → f r ≡ r) → retag f xs ≡ xs
retag_none f [] all = refl
retag_none f (x ∷ xs) all = λ i. all x i ∷ retag_none f xs all i

pub retag_both : (t : Bool) (f : Bool → Row → Row) (xs ys : List Row) → ((r : Row) → f false r ≡ r) → retag (f t) (if t then xs else ys) ≡ (if t then retag (f true) xs else ys)
retag_both true f xs ys all = refl
retag_both false f xs ys all = retag_none (f false) ys all

-- the part of manager m itself
at_self_ : {A : Type 0} (m : ℕ) (x y : A) → (if m == m then x else y) ≡ x
at_self_ m x y = ap (λ t. if t then x else y) (eqb_self m)

-- A message that was never given is placed.
abbrev pub with_row : List ℕ → Row → (List ℕ → List Row) → List ℕ → List Row
with_row q row rows d = if bytes_eq d q then insert_row row (rows q) else rows d

abbrev pub now_given : Ident → (Ident → Bool) → Ident → Bool
now_given i given j = same_ident j i || given j

pub new_row_leads : (m : ℕ) (q : List ℕ) (row told : Row) (v : Side) (t : Sheet) → v.given row.message.ident ≡ false → row.by ≡ None → row_told told ≡ row_told row
    → Leads m v t (record { rows = with_row q row v.rows; units = v.units; given = now_given row.message.ident v.given }) (record { rows = with_row q told t.rows; gone = t.gone; got = t.got })
new_row_leads m q row told v t new free same w g b h =
    let i : Ident = row.message.ident in
    let a1 = gives (local w m v) g (page b m v t) m i h new in
    let a2 = places_row (give (local w m v) i) (after g (owned i (InHand m))) (page b m v t) m q row told a1 (owned_self i (g.owner i) (InHand m)) free same
    (λ a d x n e. absurd (none_unborn (local w m v) g (page b m v t) i h new a d x n e)) in
    record {
      owner = (after (after g (owned i (InHand m))) (owned i (At m q))).owner;
      inv = lands m w (after (after g (owned i (InHand m))) (owned i (At m q))) b _ _ _ _ _ a2
          (λ a d. ap (λ z. if is_here m q a d then insert_row row z else (if a == m then v.rows d else w.rows a d)) (at_self_ m (v.rows q) (w.rows m q)) ∙ and_then (a == m) (bytes_eq d q) (insert_row row (v.rows q)) (v.rows d) (w.rows a d))
          (λ a k. refl)
          (λ a d. ap (λ z. if is_here m q a d then insert_row told z else (if a == m then t.rows d else b.rows a d)) (at_self_ m (t.rows q) (b.rows m q)) ∙ and_then (a == m) (bytes_eq d q) (insert_row told (t.rows q)) (t.rows d) (b.rows a d))
          (λ j n. n) refl (others_told m v t w g b h);
    }

-- An uncommitted put joins a unit.
abbrev pub with_items : ℕ → List Item → (ℕ → List Item) → ℕ → List Item
with_items k items units c = if c == k then items else units c

pub new_put_leads : (m k : ℕ) (q : List ℕ) (message : Message) (v : Side) (t : Sheet) → v.given message.ident ≡ false
    → Leads m v t (record { rows = v.rows; units = with_items k (v.units k ++ Put q message ∷ []) v.units; given = now_given message.ident v.given }) t
new_put_leads m k q message v t new w g b h =
    let i : Ident = message.ident in
    let a1 = gives (local w m v) g (page b m v t) m i h new in
    let a2 = pends (give (local w m v) i) (after g (owned i (InHand m))) (page b m v t) m k q message a1 (owned_self i (g.owner i) (InHand m)) (ap (λ z. z || v.given i) (same_self i))
    (λ a d x n e. absurd (none_unborn (local w m v) g (page b m v t) i h new a d x n e)) in
    record {
      owner = _;
      inv = lands m w _ b _ _ _ _ _ a2 (λ a d. refl)
          (λ a c. ap (λ (z : List Item). if (a == m) && (c == k) then z ++ Put q message ∷ [] else (if a == m then v.units c else w.units a c)) (at_self_ m (v.units k) (w.units m k))
          ∙ and_then (a == m) (c == k) (v.units k ++ Put q message ∷ []) (v.units c) (w.units a c))
          (λ a d. refl) (λ j n. n) refl (others_told m v t w g b h);
    }

-- A free row is taken for good, got or not.
abbrev pub without : List ℕ → Ident → (List ℕ → List Row) → List ℕ → List Row
without q i rows d = keep (λ h. not (bytes_eq d q && same_ident h.message.ident i)) (rows d)

abbrev pub left_by : Ident → (List ℕ → List Row) → List ℕ → List Row
left_by i rows d = keep (λ r. not (same_ident r.message.ident i)) (rows d)

abbrev pub got_by : Bool → Ident → List Ident → List Ident
got_by true i got = i ∷ got
got_by false i got = got

-- a free row that stands at manager m there
here_row : (m : ℕ) (q : List ℕ) (x : Row) (v : Side) (w : World) → Mem x (v.rows q) → Mem x ((local w m v).rows m q)
here_row m q x v w n = subst (λ (xs : List Row). Mem x xs) (sym (at_self_ m (v.rows q) (w.rows m q))) n

was_given : (m : ℕ) (q : List ℕ) (x : Row) (w : World) (g : Ghost) (b : Book) → Inv w g b → Mem x (w.rows m q) → x.by ≡ None → w.given x.message.ident ≡ true
was_given m q x w g b h n free = go (w.given x.message.ident) refl
  where
    owner : g.owner x.message.ident ≡ At m q
    owner = h.claims m q x n (ap (stands (away w m)) free) ∙ ap (claim m q) free

    go : (t : Bool) → w.given x.message.ident ≡ t → w.given x.message.ident ≡ true
    go true e = e
    go false e = absurd (born (sym owner ∙ h.unborn x.message.ident e))
      where
        born : At m q ≡ Unborn → ⊥
        born e = cc

kept_at : (m a : ℕ) (q d : List ℕ) (i : Ident) (xs ys : List Row) → keep (λ h. not (is_row m q i a d h)) (if a == m then xs else ys) ≡ (if a == m then keep (λ h. not (bytes_eq d q && same_ident h.message.ident i)) xs else ys)
kept_at m a q d i xs ys = keep_both (a == m) (λ t h. not ((t && bytes_eq d q) && same_ident h.message.ident i)) xs ys (λ r. refl)

told_at : (m a : ℕ) (i : Ident) (xs ys : List Row) → keep (λ r. not ((a == m) && same_ident r.message.ident i)) (if a == m then xs else ys) ≡ (if a == m then keep (λ r. not (same_ident r.message.ident i)) xs else ys)
told_at m a i xs ys = keep_both (a == m) (λ t r. not (t && same_ident r.message.ident i)) xs ys (λ r. refl)

pub row_goes_leads : (m : ℕ) (q : List ℕ) (x : Row) (by_get : Bool) (v : Side) (t : Sheet) (gone : List Ident) → Mem x (v.rows q) → x.by ≡ None → ((j : Ident) → Mem j gone → (j ≡ x.message.ident) ⊎ Mem j t.gone)
    → Leads m v t (record { rows = without q x.message.ident v.rows; units = v.units; given = v.given }) (record { rows = left_by x.message.ident t.rows; gone = gone; got = got_by by_get x.message.ident t.got })
row_goes_leads m q x true v t gone n free from w g b h =
    let i : Ident = x.message.ident in
    let a1 = lifts_row (local w m v) g (page b m v t) m q x h (here_row m q x v w n) free in
    let a2 = buries _ _ _ m true i a1 (owned_self i (g.owner i) (InHand m)) (was_given m q x (local w m v) g (page b m v t) h (here_row m q x v w n) free) in
    record { owner = _; inv = lands m w _ b _ _ _ _ _ a2 (λ a d. kept_at m a q d i (v.rows d) (w.rows a d)) (λ a k. refl) (λ a d. told_at m a i (t.rows d) (b.rows a d)) from refl (others_told m v t w g b h) }
row_goes_leads m q x false v t gone n free from w g b h =
    let i : Ident = x.message.ident in
    let a1 = lifts_row (local w m v) g (page b m v t) m q x h (here_row m q x v w n) free in
    let a2 = buries _ _ _ m false i a1 (owned_self i (g.owner i) (InHand m)) (was_given m q x (local w m v) g (page b m v t) h (here_row m q x v w n) free) in
    record { owner = _; inv = lands m w _ b _ _ _ _ _ a2 (λ a d. kept_at m a q d i (v.rows d) (w.rows a d)) (λ a k. refl) (λ a d. told_at m a i (t.rows d) (b.rows a d)) from refl (others_told m v t w g b h) }

-- A free row moves, with its ident, to the end of a lane.
pub row_moves_leads : (m : ℕ) (q to : List ℕ) (x row told : Row) (v : Side) (t : Sheet) → Mem x (v.rows q) → x.by ≡ None → row.message.ident ≡ x.message.ident → row.by ≡ None → row_told told ≡ row_told row → is_persistent x.message ≡ is_persistent row.message
    → Leads m v t (record { rows = with_row to row (without q x.message.ident v.rows); units = v.units; given = v.given }) (record { rows = with_row to told (left_by x.message.ident t.rows); gone = t.gone; got = t.got })
row_moves_leads m q to x row told v t n free is none same lasting w g b h =
    let i : Ident = x.message.ident in
    let a1 = lifts_row (local w m v) g (page b m v t) m q x h (here_row m q x v w n) free in
    let a2 = places_row (lift_row (local w m v) m q i) (after g (owned i (InHand m))) (book_lift (page b m v t) m i) m to row told a1 (ap (λ j. owned i (InHand m) j (g.owner j)) is ∙ owned_self i (g.owner i) (InHand m)) none same
    (λ a d y k e. alike (local w m v) g (page b m v t) h a m d q y x (mem_keep _ y ((local w m v).rows a d) k).0 (here_row m q x v w n) (e ∙ is) ∙ lasting) in
    record {
      owner = _;
      inv = lands m w _ b _ _ _ _ _ a2
          (λ a d. (λ j. if is_here m to a d then insert_row row (kept_at m m q to i (v.rows to) (w.rows m to) j) else kept_at m a q d i (v.rows d) (w.rows a d) j)
          ∙ ap (λ z. if is_here m to a d then insert_row row z else (if a == m then without q i v.rows d else w.rows a d)) (at_self_ m (without q i v.rows to) (w.rows m to))
          ∙ and_then (a == m) (bytes_eq d to) (insert_row row (without q i v.rows to)) (without q i v.rows d) (w.rows a d))
          (λ a k. refl)
          (λ a d. (λ j. if is_here m to a d then insert_row told (told_at m m i (t.rows to) (b.rows m to) j) else told_at m a i (t.rows d) (b.rows a d) j)
          ∙ ap (λ z. if is_here m to a d then insert_row told z else (if a == m then left_by i t.rows d else b.rows a d)) (at_self_ m (left_by i t.rows to) (b.rows m to))
          ∙ and_then (a == m) (bytes_eq d to) (insert_row told (left_by i t.rows to)) (left_by i t.rows d) (b.rows a d))
          (λ j n. n) refl (others_told m v t w g b h);
    }

-- A unit gets a free row, and holds it.
abbrev pub held_row : List ℕ → Ident → ℕ → (List ℕ → List Row) → List ℕ → List Row
held_row q i k rows d = retag (λ y. retag_if (bytes_eq d q && same_ident y.message.ident i) (Some (holders.Unit k)) y) (rows d)

pub row_held_leads : (m : ℕ) (q : List ℕ) (k : ℕ) (x : Row) (lasting : Bool) (v : Side) (t : Sheet) → Mem x (v.rows q) → x.by ≡ None
    → Leads m v t (record { rows = held_row q x.message.ident k v.rows; units = with_items k (v.units k ++ Take q x.message.ident lasting ∷ []) v.units; given = v.given }) t
row_held_leads m q k x lasting v t n free w g b h =
    let i : Ident = x.message.ident in
    let a1 = holds_row (local w m v) g (page b m v t) m q k x lasting h (here_row m q x v w n) free in
    record {
      owner = _;
      inv = lands m w _ b _ _ _ _ _ a1
          (λ a d. retag_both (a == m) (λ z y. retag_if ((z && bytes_eq d q) && same_ident y.message.ident i) (Some (holders.Unit k)) y) (v.rows d) (w.rows a d) (λ r. refl))
          (λ a c. ap (λ (z : List Item). if (a == m) && (c == k) then z ++ Take q i lasting ∷ [] else (if a == m then v.units c else w.units a c)) (at_self_ m (v.units k) (w.units m k))
          ∙ and_then (a == m) (c == k) (v.units k ++ Take q i lasting ∷ []) (v.units c) (w.units a c))
          (λ a d. refl) (λ j n. n) refl (others_told m v t w g b h);
    }

-- The first half of a commit: what the unit has got is gone.
abbrev pub unheld : ℕ → (List ℕ → List Row) → List ℕ → List Row
unheld k rows d = keep (λ y. not (held_by (holders.Unit k) y.by)) (rows d)

abbrev pub left_of : List Ident → (List ℕ → List Row) → List ℕ → List Row
left_of is rows d = keep (λ r. not (among is r.message.ident)) (rows d)

pub gets_go_leads : (m k : ℕ) (v : Side) (t : Sheet) (gone : List Ident) → ((j : Ident) → Mem j gone → Mem j (got_idents (v.units k)) ⊎ Mem j t.gone)
    → Leads m v t (record { rows = unheld k v.rows; units = with_items k (puts_of (v.units k)) v.units; given = v.given })
    (record { rows = left_of (got_idents (v.units k)) t.rows; gone = gone; got = bury_all (got_idents (v.units k)) t.got })
gets_go_leads m k v t gone from w g b h =
    let e : (local w m v).units m k ≡ v.units k = at_self_ m (v.units k) (w.units m k) in
    let a1 = takes_gets (local w m v) g (page b m v t) m k gone h (λ j n. subst (λ (us : List Item). Mem j (got_idents us) ⊎ Mem j t.gone) (sym e) (from j n)) in
    record {
      owner = _;
      inv = lands m w _ b _ _ _ _ _ a1
          (λ a d. keep_both (a == m) (λ z y. not (z && held_by (holders.Unit k) y.by)) (v.rows d) (w.rows a d) (λ r. refl))
          (λ a c. ap (λ (z : List Item). if (a == m) && (c == k) then puts_of z else (if a == m then v.units c else w.units a c)) e ∙ and_then (a == m) (c == k) (puts_of (v.units k)) (v.units c) (w.units a c))
          (λ a d. ap (λ (us : List Item). keep (λ r. not ((a == m) && among (got_idents us) r.message.ident)) (if a == m then t.rows d else b.rows a d)) e
          ∙ keep_both (a == m) (λ z r. not (z && among (got_idents (v.units k)) r.message.ident)) (t.rows d) (b.rows a d) (λ r. refl))
          (λ j n. n) (ap (λ (us : List Item). bury_all (got_idents us) t.got) e) (others_told m v t w g b h);
    }

-- The second: a put that waited is placed.
pub put_lands_leads : (m k : ℕ) (q : List ℕ) (message : Message) (items : List Item) (row told : Row) (v : Side) (t : Sheet) → v.units k ≡ Put q message ∷ items → row.message.ident ≡ message.ident → row.by ≡ None → row_told told ≡ row_told row → is_persistent message ≡ is_persistent row.message
    → Leads m v t (record { rows = with_row q row v.rows; units = with_items k items v.units; given = v.given }) (record { rows = with_row q told t.rows; gone = t.gone; got = t.got })
put_lands_leads m k q message items row told v t first is none same lasting w g b h =
    let i : Ident = message.ident in
    let a1 = unpends (local w m v) g (page b m v t) m k q message items items h (at_self_ m (v.units k) (w.units m k) ∙ first) refl in
    let a2 = places_row (with_units (local w m v) m k items) (after g (owned i (InHand m))) (book_units (page b m v t) m k items) m q row told a1
    (ap (λ j. owned i (InHand m) j (g.owner j)) is ∙ owned_self i (g.owner i) (InHand m)) none same
    (λ a d y n e. h.persistence.of_row a d y n ∙ ap h.persistence.flag (e ∙ is) ∙ sym (h.persistence.of_put m k q message (subst (λ (l : List Item). Mem (Put q message) l) (sym (at_self_ m (v.units k) (w.units m k) ∙ first)) (inl refl))) ∙ lasting) in
    record {
      owner = _;
      inv = lands m w _ b _ _ _ _ _ a2
          (λ a d. ap (λ z. if is_here m q a d then insert_row row z else (if a == m then v.rows d else w.rows a d)) (at_self_ m (v.rows q) (w.rows m q)) ∙ and_then (a == m) (bytes_eq d q) (insert_row row (v.rows q)) (v.rows d) (w.rows a d))
          (λ a c. and_then (a == m) (c == k) items (v.units c) (w.units a c))
          (λ a d. ap (λ z. if is_here m q a d then insert_row told z else (if a == m then t.rows d else b.rows a d)) (at_self_ m (t.rows q) (b.rows m q)) ∙ and_then (a == m) (bytes_eq d q) (insert_row told (t.rows q)) (t.rows d) (b.rows a d))
          (λ j n. n) refl (others_told m v t w g b h);
    }

-- A unit is backed out.
abbrev pub unit_freed : ℕ → Bool → (List ℕ → List Row) → List ℕ → List Row
unit_freed k back rows d = retag (λ y. release_if (held_by (holders.Unit k) y.by) back y) (rows d)

pub backs_out_leads : (m k : ℕ) (back : Bool) (v : Side) (t : Sheet) → Leads m v t (record { rows = unit_freed k back v.rows; units = with_items k [] v.units; given = v.given }) t
backs_out_leads m k back v t w g b h =
    record {
      owner = _;
      inv = lands m w _ b _ _ _ _ _ (backs_out (local w m v) g (page b m v t) m k back h)
          (λ a d. retag_both (a == m) (λ z y. release_if (z && held_by (holders.Unit k) y.by) back y) (v.rows d) (w.rows a d) (λ r. refl))
          (λ a c. and_then (a == m) (c == k) [] (v.units c) (w.units a c)) (λ a d. refl) (λ j n. n) refl (others_told m v t w g b h);
    }

-- Rows that are not persistent go.
abbrev pub lasting_of : (List ℕ → List Row) → List ℕ → List Row
lasting_of rows d = keep (λ y. not (not (is_persistent y.message))) (rows d)

pub loses_leads : (m : ℕ) (v : Side) (t : Sheet) → Leads m v t (record { rows = lasting_of v.rows; units = v.units; given = v.given }) (record { rows = lasting_of t.rows; gone = t.gone; got = t.got })
loses_leads m v t w g b h =
    record {
      owner = _;
      inv = lands m w _ b _ _ _ _ _ (loses (local w m v) g (page b m v t) m h)
          (λ a d. keep_both (a == m) (λ z y. not (z && not (is_persistent y.message))) (v.rows d) (w.rows a d) (λ r. refl)) (λ a k. refl)
          (λ a d. keep_both (a == m) (λ z y. not (z && not (is_persistent y.message))) (t.rows d) (b.rows a d) (λ r. refl)) (λ j n. n) refl (others_told m v t w g b h);
    }

-- one change behind another, and none
pub behind : (m : ℕ) (v x z : Side) (t y u : Sheet) → Leads m v t x y → Leads m x y z u → Leads m v t z u
behind m v x z t y u f k w g b h = let a = f w g b h in let c = k w (with_owner g a.owner) b a.inv in record { owner = c.owner; inv = c.inv }

pub stays_leads : (m : ℕ) (v : Side) (t : Sheet) → Leads m v t v t
stays_leads m v t w g b h = record { owner = g.owner; inv = h }
