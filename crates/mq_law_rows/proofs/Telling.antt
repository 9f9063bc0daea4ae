-- Rows that are told alike keep the facts, as where backout counts are set to 0.
use Rattle.std.proofs.Common.{ℕ, Bool, true, false, ◌≡◌, ◌≤◌, List, [], ◌∷◌, refl, ap, sym, subst, ◌∙◌}
use Rattle.mq_queue.specs.declared.row.Row.{Row}
use Rattle.mq_queue.specs.Rows.{keep, retag}
use Rattle.mq_spec_network.specs.Story.{Mem}
use Rattle.mq_spec_network.specs.Promised.{AreDistinct}
use Rattle.mq_spec_network.specs.Standing.{row_told, rows_told}
use Rattle.mq_law_rows.specs.World.{World, Book, Ghost, Tag, tag_of, idents_in, away, stands, row_stands, claim, IsElsewhere, LanesRise, got_idents, Inv}
use Rattle.mq_law_rows.proofs.Lists.{mem_retag, mem_retagged, keep_retag}
use Rattle.mq_law_rows.specs.Kinds.{with_rows}
use Rattle.mq_law_rows.proofs.Batches.{retag_idents}
use Rattle.mq_law_rows.proofs.Lasting.{row_flag}

-- a change of each row that leaves its lane, its holder, and what is told of it
pub record IsAlike (change : Row → Row) : Type 0 where
  pub lane : (x : Row) → (change x).place.lane ≡ x.place.lane
  pub by : (x : Row) → (change x).by ≡ x.by
  pub tag : (x : Row) → tag_of (change x).message ≡ tag_of x.message
  pub told : (x : Row) → row_told (change x) ≡ row_told x

sorted_alike : (f : Row → Row) → ((x : Row) → (f x).place.lane ≡ x.place.lane) → (xs : List Row) → LanesRise xs → LanesRise (retag f xs)
sorted_alike f same [] s = tt
sorted_alike f same (x ∷ xs) s =
    (λ y n. let w = mem_retag f y xs n in subst (λ z. z ≤ y.place.lane) (sym (same x)) (subst (λ z. x.place.lane ≤ z) (sym (ap (λ (r : Row). r.place.lane) w.2 ∙ same w.0)) (s.0 w.0 w.1)), sorted_alike f same xs s.1)

sorted_back : (f : Row → Row) → ((x : Row) → (f x).place.lane ≡ x.place.lane) → (xs : List Row) → LanesRise (retag f xs) → LanesRise xs
sorted_back f same [] s = tt
sorted_back f same (x ∷ xs) s =
    (λ y n. subst (λ z. z ≤ y.place.lane) (same x) (subst (λ z. (f x).place.lane ≤ z) (same y) (s.0 (f y) (mem_retagged f y xs n))), sorted_back f same xs s.1)

-- rows that are told as those were: each of one is one of the other, with its holder and its word, and they stand in that order
pub record AreAlike (xs ys : List Row) : Type 0 where
  pub sorted : LanesRise xs → LanesRise ys
  pub old : (y : Row) → Mem y ys → (x : Row) × Mem x xs × (y.by ≡ x.by) × (tag_of y.message ≡ tag_of x.message)
  pub new : (x : Row) → Mem x xs → (y : Row) × Mem y ys × (y.by ≡ x.by) × (tag_of y.message ≡ tag_of x.message)
  pub distinct : AreDistinct (idents_in xs) → AreDistinct (idents_in ys)
  pub told : (gone : List ℕ → Bool) → rows_told (keep (row_stands gone) ys) ≡ rows_told (keep (row_stands gone) xs)

pub alike_self : (xs : List Row) → AreAlike xs xs
alike_self xs = record { sorted = λ s. s; old = λ y n. (y, n, refl, refl); new = λ x n. (x, n, refl, refl); distinct = λ o. o; told = λ gone. refl }

-- such rows keep the facts, where each batch counts where it did
abbrev pub retold : World → (ℕ → List ℕ → List Row) → (ℕ → List ℕ → Bool) → World
retold w rows doubt = record { rows = rows; units = w.units; given = w.given; holds = w.holds; doubt = doubt; last = w.last }

pub keeps_alike : (w : World) (rows : ℕ → List ℕ → List Row) (doubt : ℕ → List ℕ → Bool) (g : Ghost) (b : Book) → Inv w g b → ((m : ℕ) (c : List ℕ) → away (retold w rows doubt) m c ≡ away w m c) → ((m : ℕ) (q : List ℕ) → AreAlike (w.rows m q) (rows m q))
    → Inv (retold w rows doubt) g b
keeps_alike w rows doubt g b h same alike =
    let v : World = retold w rows doubt in
    let ident_ : (x y : Row) → tag_of y.message ≡ tag_of x.message → y.message.ident ≡ x.message.ident = λ x y e. ap (λ (t : Tag). t.ident) e in
    let stood : (m : ℕ) (x y : Row) (t : Bool) → y.by ≡ x.by → stands (away v m) y.by ≡ t → stands (away w m) x.by ≡ t = λ m x y t e s. sym ((λ i. stands (λ c. same m c i) (e i))) ∙ s in
    record {
      sorted = λ m q. (alike m q).sorted (h.sorted m q);
      shelved = h.shelved;
      claims = λ m q y n s. let x = (alike m q).old y n in ap g.owner (ident_ x.0 y x.3) ∙ h.claims m q x.0 x.1 (stood m x.0 y true x.2 s) ∙ ap (claim m q) (sym x.2);
      taken = λ m q y k n e. let x = (alike m q).old y n in subst (λ j. Mem j (got_idents (w.units m k))) (sym (ident_ x.0 y x.3)) (h.taken m q x.0 k x.1 (sym x.2 ∙ e));
      batch = λ m q y c n e. let x = (alike m q).old y n in
          let f = h.batch m q x.0 c x.1 (sym x.2 ∙ e) in
          (f.0, f.1, (λ u z. subst (λ (t : Tag). Mem t (g.sent m c u)) (sym x.3) (f.2 u z)));
      live = h.live;
      present = λ m c u t z no_ n l. let s = h.present m c u t z no_ n l in
          let y = (alike m (g.source m c)).new s.row s.there in
          record { row = y.0; there = y.1; by = y.2 ∙ s.by; tag = y.3 ∙ s.tag };
      sent_once = h.sent_once;
      operated = h.operated;
      operated_there = h.operated_there;
      operated_once = h.operated_once;
      forced = h.forced;
      pending = h.pending;
      pending_once = h.pending_once;
      gets = h.gets;
      gets_once = h.gets_once;
      units = h.units;
      unborn = h.unborn;
      gone = h.gone;
      got = h.got;
      got_once = h.got_once;
      operated_words = h.operated_words;
      persistence = record {
        flag = h.persistence.flag;
        of_row = λ m q y n. let x = (alike m q).old y n in row_flag h.persistence.flag x.0 y x.3 (h.persistence.of_row m q x.0 x.1);
        of_put = h.persistence.of_put;
        of_unit = h.persistence.of_unit;
        of_operated = h.persistence.of_operated;
      };
      order = h.order;
      distinct = λ m q. (alike m q).distinct (h.distinct m q);
      back = λ m q y n s. let x = (alike m q).old y n in subst (λ j. IsElsewhere m (g.owner j)) (sym (ident_ x.0 y x.3)) (h.back m q x.0 x.1 (stood m x.0 y false x.2 s));
      same = λ m q. h.same m q ∙ sym ((alike m q).told (away v m) ∙ (λ i. rows_told (keep (row_stands (λ c. same m c i)) (w.rows m q))));
    }

-- so where rows are changed alike, and where they were
changed : (f : Row → Row) → IsAlike f → (xs : List Row) → AreAlike xs (retag f xs)
changed f alike xs = record {
  sorted = sorted_alike f alike.lane xs;
  old = λ y n. let r = mem_retag f y xs n in (r.0, r.1, ap (λ (x : Row). x.by) r.2 ∙ alike.by r.0, ap (λ (x : Row). tag_of x.message) r.2 ∙ alike.tag r.0);
  new = λ x n. (f x, mem_retagged f x xs n, alike.by x, alike.tag x);
  distinct = subst AreDistinct (sym (retag_idents f (λ x. ap (λ (t : Tag). t.ident) (alike.tag x)) xs));
  told = λ gone. keep_retag (row_stands gone) (row_stands gone) f xs (λ x n. ap (stands gone) (alike.by x)) (λ x. alike.told x);
}

unchanged : (f : Row → Row) → IsAlike f → (xs : List Row) → AreAlike (retag f xs) xs
unchanged f alike xs =
    let c = changed f alike xs in
    record {
      sorted = sorted_back f alike.lane xs;
      old = λ y n. let x = c.new y n in (x.0, x.1, sym x.2, sym x.3);
      new = λ x n. let y = c.old x n in (y.0, y.1, sym y.2, sym y.3);
      distinct = subst AreDistinct (retag_idents f (λ x. ap (λ (t : Tag). t.ident) (alike.tag x)) xs);
      told = λ gone. sym (c.told gone);
    }

pub retells : (w : World) (g : Ghost) (b : Book) (change : ℕ → Row → Row) → Inv w g b → ((m : ℕ) → IsAlike (change m)) → Inv (with_rows w (λ m q. retag (change m) (w.rows m q))) g b
retells w g b change h alike = keeps_alike w (λ m q. retag (change m) (w.rows m q)) w.doubt g b h (λ m c. refl) (λ m q. changed (change m) (alike m) (w.rows m q))

pub untells : (w : World) (g : Ghost) (b : Book) (change : ℕ → Row → Row) → ((m : ℕ) → IsAlike (change m)) → Inv (with_rows w (λ m q. retag (change m) (w.rows m q))) g b → Inv w g b
untells w g b change alike h = keeps_alike (with_rows w (λ m q. retag (change m) (w.rows m q))) w.rows w.doubt g b h (λ m c. refl) (λ m q. unchanged (change m) (alike m) (w.rows m q))
