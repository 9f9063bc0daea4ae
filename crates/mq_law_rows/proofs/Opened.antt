-- A network begins with the facts.
use Rattle.std.proofs.Common.{ℕ, ◌≡◌, ◌⊎◌, true, false, not, List, [], ◌∷◌, refl, ap, sym, subst, ◌∙◌, inl, inr}
use Rattle.std.specs.Prelude.{Option, Some, None, if◌then◌else◌, find}
use Rattle.mq_message.specs.declared.message.Ident.{Ident}
use Rattle.mq_message.specs.declared.place.Holder.{Holder}
use Rattle.mq_message.specs.declared.place.Holder.TheVariants as holders
use Rattle.mq_queue.specs.declared.row.Row.{Row}
use Rattle.mq_queue.specs.Rows.{same_ident, has_ident}
use Rattle.mq_sync.specs.declared.unit.Unit.{Unit as Luw}
use Rattle.mq_calls.specs.declared.state.Item.{Item}
use Rattle.mq_calls.specs.declared.state.Item.TheVariants.{Put}
use Rattle.mq_spec_network.specs.Story.{Mem}
use Rattle.mq_spec_network.specs.Promised.{AreDistinct}
use Rattle.mq_spec_network.specs.Standing.{rows_told}
use Rattle.mq_law_rows.specs.World.{World, Book, Ghost, Tag, Owner, Unborn, Gone, ident_of, is_last, away, stands, row_stands, standing, is_forced, is_counted, claim, IsElsewhere, LanesRise, put_idents, got_idents, items_told, Inv}
use Rattle.mq_law_rows.specs.Beginning.{Spot, owner_by, owner_in, first_owner, Opens}
use Rattle.mq_law_rows.proofs.Lists.{true_false, bool_case, ident_yes, same_self, mem_keep, mem_kept, sorted_keep, keep_all}
use Rattle.mq_law_rows.proofs.Owners.{claim_counted}
use Rattle.mq_law_rows.proofs.Young.{young_means, unit_self}
use Rattle.mq_law_rows.proofs.Batches.{not_last}

find_mem : (i : Ident) (xs : List Row) (row : Row) → find (has_ident i) xs ≡ Some row → Mem row xs × (row.message.ident ≡ i)
find_mem i [] row e = absurd cc
find_mem i (x ∷ xs) row e = bool_case (has_ident i x) (λ t. has_ident i x ≡ t → (if t then Some x else find (has_ident i) xs) ≡ Some row → Mem row (x ∷ xs) × (row.message.ident ≡ i))
    (λ a b c. let same : row ≡ x = cc in (inl same, ap ident_of same ∙ ident_yes x.message.ident i b))
    (λ a b c. let r = find_mem i xs row c in (inr r.0, r.1)) refl e

find_none : (i : Ident) (xs : List Row) (row : Row) → find (has_ident i) xs ≡ None → Mem row xs → row.message.ident ≡ i → ⊥
find_none i [] row e n is = n
find_none i (x ∷ xs) row e n is = bool_case (has_ident i x) (λ t. has_ident i x ≡ t → (if t then Some x else find (has_ident i) xs) ≡ None → ⊥)
    (λ a b c. cc) (λ a b c. elim n [ inl q ↦ true_false (sym (same_self i) ∙ ap (λ j. same_ident j i) (sym is ∙ ap ident_of q) ∙ b) | inr k ↦ find_none i xs row c k is ]) refl e

-- where an ident is found, it stands; where it stands, it is found
owner_case : (w : World) (ss : List Spot) (i : Ident) (rest : Owner) → ((s : Spot) × (row : Row) × Mem row (standing w s.manager s.queue) × (row.message.ident ≡ i) × (owner_in w ss i rest ≡ claim s.manager s.queue row.by))
    ⊎ ((owner_in w ss i rest ≡ rest) × ((s : Spot) (row : Row) → Mem s ss → Mem row (standing w s.manager s.queue) → row.message.ident ≡ i → ⊥))
owner_case w [] i rest = inr (refl, (λ s row n k e. n))
owner_case w (s ∷ ss) i rest = go (find (has_ident i) (standing w s.manager s.queue)) refl (owner_case w ss i rest)
  where
    go : (o : Option Row) → find (has_ident i) (standing w s.manager s.queue) ≡ o
        → (((s : Spot) × (row : Row) × Mem row (standing w s.manager s.queue) × (row.message.ident ≡ i) × (owner_in w ss i rest ≡ claim s.manager s.queue row.by))
        ⊎ ((owner_in w ss i rest ≡ rest) × ((s : Spot) (row : Row) → Mem s ss → Mem row (standing w s.manager s.queue) → row.message.ident ≡ i → ⊥)))
        → ((s2 : Spot) × (row : Row) × Mem row (standing w s2.manager s2.queue) × (row.message.ident ≡ i) × (owner_by o s (owner_in w ss i rest) ≡ claim s2.manager s2.queue row.by))
        ⊎ ((owner_by o s (owner_in w ss i rest) ≡ rest) × ((s2 : Spot) (row : Row) → Mem s2 (s ∷ ss) → Mem row (standing w s2.manager s2.queue) → row.message.ident ≡ i → ⊥))
    go (Some row) e other = let f = find_mem i (standing w s.manager s.queue) row e in inl (s, row, f.0, f.1, refl)
    go None e (inl f) = inl f
    go None e (inr f) = inr (f.0, (λ s2 row n k is. elim n [ inl q ↦ find_none i (standing w s.manager s.queue) row e (subst (λ (z : Spot). Mem row (standing w z.manager z.queue)) q k) is | inr z ↦ f.1 s2 row z k is ]))

pub opens : (w : World) (b : Book) (spots : List Spot) (sent : ℕ → List ℕ → Luw → List Tag) (source : ℕ → List ℕ → List ℕ) → Opens w b spots sent source
    → Inv w (record { sent = sent; source = source; operated = λ m c u. false; loose = λ m c u. is_last (w.holds m c) u; owner = first_owner w spots }) b
opens w b spots sent source o =
    let claims : (m : ℕ) (q : List ℕ) (h : Row) → Mem h (w.rows m q) → stands (away w m) h.by ≡ true → first_owner w spots h.message.ident ≡ claim m q h.by = λ m q h n s.
    let here : Mem h (standing w m q) = mem_kept (row_stands (away w m)) h (w.rows m q) n s in
    elim (owner_case w spots h.message.ident (if w.given h.message.ident then Gone else Unborn)) [
      | inl f ↦ let e = o.single f.0.manager m f.0.queue q f.1 h f.2 here f.3 in f.4 ∙ (λ i. claim (e.0 i) (e.1 i) ((e.2 i).by))
      | inr f ↦ absurd (f.1 (record { manager = m; queue = q }) h (o.cover m q h n) here refl)
    ] in
    let free_owner : (i : Ident) → is_forced (first_owner w spots i) ≡ false = λ i.
    elim (owner_case w spots i (if w.given i then Gone else Unborn)) [
      | inl f ↦ ap is_forced f.4 ∙ claim_counted f.0.manager f.0.queue f.1.by
      | inr f ↦ ap is_forced f.0 ∙ bool_case (w.given i) (λ t. is_forced (if t then Gone else Unborn) ≡ false) (λ e. refl) (λ e. refl)
    ] in
    record {
      sorted = o.sorted;
      shelved = λ m q. subst LanesRise (sym (o.rows m q)) (sorted_keep (row_stands (away w m)) (w.rows m q) (o.sorted m q));
      claims = claims;
      taken = λ m q h k n e. absurd (o.held m q h k n e);
      batch = o.batch;
      live = λ m c u t z no_ n.
          let s = o.doubted m c u t z n in
          let near : away w m c ≡ false = not_last (w.doubt m c) (w.holds m c) (w.last m c) (λ x e y. no_ (y ∙ some_unit x u (sym e ∙ z))) in
          ap (λ (t : Tag). first_owner w spots t.ident) (sym s.tag) ∙ claims m (source m c) s.row s.there (ap (stands (away w m)) s.by ∙ ap not near) ∙ ap (claim m (source m c)) s.by;
      present = λ m c u t z no_ n l. o.doubted m c u t z n;
      sent_once = o.once;
      operated = λ m c u t z n. absurd cc;
      operated_there = λ m c u t z n l. absurd cc;
      operated_once = λ m c u z. absurd cc;
      forced = λ m c u i e. absurd (true_false (sym (ap is_forced e) ∙ free_owner i));
      pending = λ m k i n. absurd (subst (λ (l : List Item). Mem i (put_idents l)) (o.idle m k) n);
      pending_once = λ m k. subst (λ (l : List Item). AreDistinct (put_idents l)) (sym (o.idle m k)) tt;
      gets = λ m k i n. absurd (subst (λ (l : List Item). Mem i (got_idents l)) (o.idle m k) n);
      gets_once = λ m k. subst (λ (l : List Item). AreDistinct (got_idents l)) (sym (o.idle m k)) tt;
      units = λ m k. ap items_told (o.quiet m k ∙ sym (o.idle m k));
      unborn = λ i e. elim (owner_case w spots i (if w.given i then Gone else Unborn)) [
        | inl f ↦ let r = mem_keep (row_stands (away w f.0.manager)) f.1 (w.rows f.0.manager f.0.queue) f.2 in
            absurd (true_false (sym (o.known f.0.manager f.0.queue f.1 r.0) ∙ ap w.given f.3 ∙ e))
        | inr f ↦ f.0 ∙ ap (λ t. if t then Gone else Unborn) e
      ];
      gone = λ i n. absurd (subst (λ (l : List Ident). Mem i l) o.gone n);
      got = λ i n. absurd (subst (λ (l : List Ident). Mem i l) o.got n);
      got_once = subst AreDistinct (sym o.got) tt;
      operated_words = λ m c u a q r n e. absurd (true_false (sym (ap is_forced e) ∙ free_owner r.message.ident));
      persistence = record {
        flag = λ j. true;
        of_row = o.lasting;
        of_put = λ m k q message n. absurd (subst (λ (l : List Item). Mem (Put q message) l) (o.idle m k) n);
        of_unit = λ m c u t z no_ n. let s = o.doubted m c u t z n in ap (λ (t : Tag). t.lasting) (sym s.tag) ∙ o.lasting m (source m c) s.row s.there;
        of_operated = λ m c u t z n. absurd cc;
      };
      order = let g : Ghost = record { sent = sent; source = source; operated = λ m c u. false; loose = λ m c u. is_last (w.holds m c) u; owner = first_owner w spots } in
          record {
            first = λ m a q c u x y z. let k = young_means w g m c u z in elim k.1 [ inl p ↦ absurd (true_false (sym (rw (p.0) (unit_self u)) ∙ k.0)) | inr p ↦ absurd cc ];
          };
      distinct = o.distinct;
      back = λ m q h n s. elim (owner_case w spots h.message.ident (if w.given h.message.ident then Gone else Unborn)) [
        | inl f ↦ subst (IsElsewhere m) (sym f.4) (claim_far f.0.manager m f.0.queue f.1.by (λ e.
            let r = mem_keep (row_stands (away w f.0.manager)) f.1 (w.rows f.0.manager f.0.queue) f.2 in
            let same : f.1 ≡ h = o.alone m f.0.queue q f.1 h (subst (λ z. Mem f.1 (w.rows z f.0.queue)) e r.0) n f.3 in
            true_false (sym r.1 ∙ (λ i. stands (away w (e i)) ((same i).by)) ∙ s)))
        | inr f ↦ subst (IsElsewhere m) (sym (f.0 ∙ ap (λ t. if t then Gone else Unborn) (o.known m q h n))) tt
      ];
      same = λ m q. ap rows_told (keep_all (is_counted (first_owner w spots)) (b.rows m q) (λ r n. ap not (free_owner r.message.ident))) ∙ ap rows_told (o.rows m q);
    }
  where
    some_unit : (x u : Luw) → Some x ≡ Some u → x ≡ u
    some_unit x u e = cc

    claim_far : (a m : ℕ) (q : List ℕ) (x : Option Holder) → (a ≡ m → ⊥) → IsElsewhere m (claim a q x)
    claim_far a m q None no_ = no_
    claim_far a m q (Some (holders.Unit k)) no_ = no_
    claim_far a m q (Some (holders.Batch c)) no_ = no_
