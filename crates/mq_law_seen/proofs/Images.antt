-- Images of logs give openings.
use Rattle.std.proofs.Common.{ℕ, zero, suc, ◌≡◌, ◌+◌, ◌<◌, ◌≤◌, ◌⊎◌, Bool, true, false, List, [], ◌∷◌, refl, ap, sym, subst, ◌∙◌, inl, inr, arith, map}
use Rattle.std.specs.Prelude.{Option, Some, None, if◌then◌else◌, slice_get, length, All, AllPairs}
use Rattle.std.specs.Str.{bytes_eq}
use Rattle.std.specs.List.{list_any}
use Rattle.std.specs.Option.{option_map}
use Rattle.std.proofs.lemmas.List.Elements.{All-head, All-tail}
use Rattle.mq_message.specs.declared.message.Ident.{Ident}
use Rattle.mq_message.specs.declared.message.Message.{Message}
use Rattle.mq_message.specs.declared.place.Holder.{Holder}
use Rattle.mq_message.specs.declared.place.Holder.TheVariants as holders
use Rattle.mq_queue.specs.declared.row.Row.{Row}
use Rattle.mq_queue.specs.Rows.{same_ident}
use Rattle.mq_objects.specs.declared.object.LocalQueue.{LocalQueue}
use Rattle.mq_objects.specs.Names.{locals_of}
use Rattle.mq_sync.specs.declared.data.InDoubt.{InDoubt}
use Rattle.mq_law_rows.specs.from_history.{History, Scenario}
use Rattle.mq_calls.specs.State.{Plain, Given, Queue, LogState}
use Rattle.mq_calls.specs.Reads.{queue_in, sender_in, in_doubt_of, is_persistent}
use Rattle.mq_calls.specs.Images.{numbered, queue_on, begun, raised}
use Rattle.mq_calls.specs.declared.image.Image.{Image}
use Rattle.mq_calls.specs.declared.image.Shelf.{Shelf}
use Rattle.mq_calls.specs.Recovery.{IsListed, IsHeldWell, IsLasting, IsShelf, AreApart, IsImage}
use Rattle.mq_law_rows.specs.from_spec_network.Story.{Mem, Chain}
use Rattle.mq_law_rows.specs.from_spec_network.Promised.{AreDistinct, AreImages}
use Rattle.mq_law_rows.specs.from_spec_manager.Stops.{started_need}
use Rattle.mq_law_rows.specs.from_spec_network.Given.{surroundings}
use Rattle.mq_law_rows.specs.from_spec_network.Apart.{apart_of}
use Rattle.mq_law_rows.specs.from_spec_network.Standing.{node_after, opening_managers, opening_ledger}
use Rattle.mq_law_rows.specs.World.{ident_of, idents_in, LanesRise, Inv}
use Rattle.mq_law_seen.specs.Opening.{AreNamed}
use Rattle.mq_law_seen.specs.Seen.{world_of, book_of}
use Rattle.mq_law_seen.specs.Opening.{IsOpening}
use Rattle.mq_law_rows.specs.Beginning.{first_owner}
use Rattle.mq_law_seen.specs.Given.{AreOpenings, is_given, sent_at, source_at, spots_of}
use Rattle.mq_law_rows.proofs.Lists.{bool_case, true_false, same_self, name_yes, mem_map, map_mem}

-- What holds of all, and of each and all that come later.

zero_below : (n : ℕ) → zero < suc n
zero_below n = omega arith

suc_below : (m n : ℕ) → m < n → suc m < suc n
suc_below m n h = omega arith

pub all_mem : {A : Type 0} (P : A → Type 0) (xs : List A) → All P xs → (y : A) → Mem y xs → P y
all_mem P [] h y n = absurd n
all_mem P (x ∷ xs) h y (inl e) = subst P (sym e) (All-head P x xs h)
all_mem P (x ∷ xs) h y (inr n) = all_mem P xs (All-tail P x xs h) y n

pub pairs_head : {A : Type 0} (R : A → A → Type 0) (x : A) (xs : List A) → AllPairs R (x ∷ xs) → All (R x) xs
pairs_head R x xs h = λ k d below. h zero (suc k) d (zero_below k) (suc_below k (length xs) below)

pub pairs_tail : {A : Type 0} (R : A → A → Type 0) (x : A) (xs : List A) → AllPairs R (x ∷ xs) → AllPairs R xs
pairs_tail R x xs h = λ i j d less below. h (suc i) (suc j) d (suc_below i j less) (suc_below j (length xs) below)

pub pairs_chain : {A : Type 0} (R : A → A → Type 0) (xs : List A) → AllPairs R xs → Chain R xs
pairs_chain R [] h = tt
pairs_chain R (x ∷ xs) h = ((λ y n. all_mem (R x) xs (pairs_head R x xs h) y n), pairs_chain R xs (pairs_tail R x xs h))

pub chain_two : {A : Type 0} (R : A → A → Type 0) (xs : List A) → Chain R xs → (s t : A) → Mem s xs → Mem t xs → (s ≡ t) ⊎ (R s t ⊎ R t s)
chain_two R [] c s t n k = absurd n
chain_two R (x ∷ xs) c s t (inl e) (inl f) = inl (e ∙ sym f)
chain_two R (x ∷ xs) c s t (inl e) (inr k) = inr (inl (subst (λ z. R z t) (sym e) (c.0 t k)))
chain_two R (x ∷ xs) c s t (inr n) (inl f) = inr (inr (subst (λ z. R z s) (sym f) (c.0 s n)))
chain_two R (x ∷ xs) c s t (inr n) (inr k) = chain_two R xs c.1 s t n k

-- Rows that are numbered.

pub numbered_mem : (n : ℕ) (rows : List Row) (h : Row) → Mem h (numbered n rows) → (x : Row) × Mem x rows × (h.message ≡ x.message) × (h.by ≡ x.by) × (h.place.lane ≡ x.place.lane)
numbered_mem n [] h k = absurd k
numbered_mem n (row ∷ rows) h (inl e) = (row, inl refl, ap (λ (r : Row). r.message) e, ap (λ (r : Row). r.by) e, ap (λ (r : Row). r.place.lane) e)
numbered_mem n (row ∷ rows) h (inr k) = let r = numbered_mem (n + 1) rows h k in (r.0, inr r.1, r.2, r.3, r.4)

abbrev LaneUpto : Row → Row → Type 0
LaneUpto x y = x.place.lane ≤ y.place.lane

pub numbered_lanes : (n : ℕ) (rows : List Row) → AllPairs LaneUpto rows → LanesRise (numbered n rows)
numbered_lanes n [] h = tt
numbered_lanes n (x ∷ xs) h = (
  (λ y k. let r = numbered_mem (n + 1) xs y k in subst (λ z. x.place.lane ≤ z) (sym r.4) (all_mem (LaneUpto x) xs (pairs_head LaneUpto x xs h) r.0 r.1)),
  numbered_lanes (n + 1) xs (pairs_tail LaneUpto x xs h),
)

pub numbered_idents : (n : ℕ) (rows : List Row) → idents_in (numbered n rows) ≡ idents_in rows
numbered_idents n [] = refl
numbered_idents n (x ∷ xs) = ap (λ (is : List Ident). x.message.ident ∷ is) (numbered_idents (n + 1) xs)

abbrev OtherIdent : Row → Row → Type 0
OtherIdent x y = same_ident x.message.ident y.message.ident ≡ false

pub rows_distinct : (rows : List Row) → AllPairs OtherIdent rows → AreDistinct (idents_in rows)
rows_distinct [] h = tt
rows_distinct (x ∷ xs) h = (
  (λ i n. let r = map_mem ident_of i xs n in subst (λ (z : Ident). same_ident x.message.ident z ≡ false) (sym r.2) (all_mem (OtherIdent x) xs (pairs_head OtherIdent x xs h) r.0 r.1)),
  rows_distinct xs (pairs_tail OtherIdent x xs h),
)

-- the rows of one ident
clash : (i j : Ident) → i ≡ j → same_ident i j ≡ false → ⊥
clash i j e f = true_false (sym (same_self i) ∙ ap (same_ident i) e ∙ f)

pub same_row : (rows : List Row) → AreDistinct (idents_in rows) → (h k : Row) → Mem h rows → Mem k rows → h.message.ident ≡ k.message.ident → h ≡ k
same_row [] c h k n m i = absurd n
same_row (x ∷ xs) c h k (inl e) (inl f) i = e ∙ sym f
same_row (x ∷ xs) c h k (inl e) (inr m) i = absurd (clash x.message.ident k.message.ident (sym (ap ident_of e) ∙ i) (c.0 k.message.ident (mem_map ident_of k xs m)))
same_row (x ∷ xs) c h k (inr n) (inl f) i = absurd (clash x.message.ident h.message.ident (sym (ap ident_of f) ∙ sym i) (c.0 h.message.ident (mem_map ident_of h xs n)))
same_row (x ∷ xs) c h k (inr n) (inr m) i = same_row xs c.1 h k n m i

-- Queues of shelves.

pub rows_on : (q : List ℕ) (ss : List Shelf) (P : List Row → Type 0) → P [] → ((s : Shelf) → Mem s ss → P (numbered 0 s.rows)) → P (queue_in q (map queue_on ss)).rows
rows_on q [] P none each = none
rows_on q (s ∷ ss) P none each = bool_case (bytes_eq q s.name) (λ t. P (if t then queue_on s else queue_in q (map queue_on ss)).rows) (λ e. each s (inl refl)) (λ e. rows_on q ss P none (λ s n. each s (inr n)))

pub on_shelf : (q : List ℕ) (ss : List Shelf) (h : Row) → Mem h (queue_in q (map queue_on ss)).rows → (s : Shelf) × Mem s ss × (q ≡ s.name) × Mem h (numbered 0 s.rows)
on_shelf q [] h n = absurd n
on_shelf q (s ∷ ss) h n = bool_case (bytes_eq q s.name) (λ t. Mem h (if t then queue_on s else queue_in q (map queue_on ss)).rows → (x : Shelf) × Mem x (s ∷ ss) × (q ≡ x.name) × Mem h (numbered 0 x.rows))
    (λ e k. (s, inl refl, name_yes q s.name e, k))
    (λ e k. let r = on_shelf q ss h k in (r.0, inr r.1, r.2, r.3)) n

abbrev OtherName : Shelf → Shelf → Type 0
OtherName s t = bytes_eq s.name t.name ≡ false

pub shelves_named : (ss : List Shelf) → AllPairs OtherName ss → AreNamed (map queue_on ss)
shelves_named [] h = tt
shelves_named (s ∷ ss) h = (
  (λ y n. let r = map_mem queue_on y ss n in subst (λ (z : Queue). bytes_eq s.name z.name ≡ false) (sym r.2) (all_mem (OtherName s) ss (pairs_head OtherName s ss h) r.0 r.1)),
  shelves_named ss (pairs_tail OtherName s ss h),
)

apart_never : (s t : Shelf) (x y : Row) → AreApart s t → Mem x s.rows → Mem y t.rows → x.message.ident ≡ y.message.ident → ⊥
apart_never s t x y a n k e = clash x.message.ident y.message.ident e
    (all_mem (OtherIdent x) t.rows (all_mem (λ (r : Row). All (OtherIdent r) t.rows) s.rows a x n) y k)

-- who holds a row
no_unit_holds : (i : Image) (q : List ℕ) (ident : Ident) (o : Option Holder) (k : ℕ) → IsHeldWell i q ident o → o ≡ Some (holders.Unit k) → ⊥
no_unit_holds i q ident None k h e = absurd cc
no_unit_holds i q ident (Some (holders.Unit n)) k h e = h
no_unit_holds i q ident (Some (holders.Batch c)) k h e = absurd cc

listed_unit : (q : List ℕ) (ident : Ident) (o : Option InDoubt) → IsListed q ident o → (d : InDoubt) × (o ≡ Some d) × (q ≡ d.queue)
listed_unit q ident None h = absurd h
listed_unit q ident (Some d) h = (d, refl, sym h.0)

batch_holds : (i : Image) (q : List ℕ) (ident : Ident) (o : Option Holder) (c : List ℕ) → IsHeldWell i q ident o → o ≡ Some (holders.Batch c)
    → (d : InDoubt) × (in_doubt_of (sender_in c i.senders) ≡ Some d) × (q ≡ d.queue)
batch_holds i q ident o c h e = listed_unit q ident (in_doubt_of (sender_in c i.senders)) (subst (λ (x : Option Holder). IsHeldWell i q ident x) e h)

-- an image as a manager begins with it
pub image_opens : (given : Given) (image : Image) (log : LogState) (moment : ℕ) → IsImage image → IsOpening (begun given (raised 0 image) log moment)
image_opens given image log moment h =
    let shelf : (s : Shelf) → Mem s image.shelves → IsShelf image s = all_mem (IsShelf image) image.shelves h.rows in
    let row : (q : List ℕ) (x : Row) → Mem x (queue_in q (map queue_on image.shelves)).rows → (r : Row) × IsLasting image q r × (x.message ≡ r.message) × (x.by ≡ r.by) = λ q x n.
    let s = on_shelf q image.shelves x n in
    let r = numbered_mem 0 s.0.rows x s.3 in
    (r.0, subst (λ (z : List ℕ). IsLasting image z r.0) (sym s.2) (all_mem (IsLasting image s.0.name) s.0.rows (shelf s.0 s.1).rows r.0 r.1), r.2, r.3) in
    record {
      first = first_one image.incarnation;
      named = shelves_named image.shelves h.named;
      sorted = λ q. rows_on q image.shelves LanesRise tt (λ s n. numbered_lanes 0 s.rows (shelf s n).sorted);
      distinct = λ q. rows_on q image.shelves (λ rows. AreDistinct (idents_in rows)) tt (λ s n. subst AreDistinct (sym (numbered_idents 0 s.rows)) (rows_distinct s.rows (shelf s n).distinct));
      alone = λ q d x y n k e.
          let s = on_shelf q image.shelves x n in
          let t = on_shelf d image.shelves y k in
          let r = numbered_mem 0 s.0.rows x s.3 in
          let z = numbered_mem 0 t.0.rows y t.3 in
          let idents : r.0.message.ident ≡ z.0.message.ident = ap (λ (m : Message). m.ident) (sym r.2) ∙ e ∙ ap (λ (m : Message). m.ident) z.2 in
          elim (chain_two AreApart image.shelves (pairs_chain AreApart image.shelves h.apart) s.0 t.0 s.1 t.1) [
            | inl same ↦ (
              s.2 ∙ ap (λ (a : Shelf). a.name) same ∙ sym t.2,
              same_row (numbered 0 s.0.rows) (subst AreDistinct (sym (numbered_idents 0 s.0.rows)) (rows_distinct s.0.rows (shelf s.0 s.1).distinct)) x y s.3 (subst (λ (a : Shelf). Mem y (numbered 0 a.rows)) (sym same) t.3) e,
            )
            | inr two ↦ elim two [
              | inl a ↦ absurd (apart_never s.0 t.0 r.0 z.0 a r.1 z.1 idents)
              | inr a ↦ absurd (apart_never t.0 s.0 z.0 r.0 a z.1 r.1 (sym idents))
            ]
          ];
      lasting = λ q x n. let r = row q x n in ap is_persistent r.2 ∙ r.1.persistent;
      defined = λ q x n. let s = on_shelf q image.shelves x n in
          subst (λ (z : List ℕ). Mem z (map (λ (l : LocalQueue). l.name) (locals_of image.definitions))) (sym s.2)
          (subst (λ (names : List (List ℕ)). Mem s.0.name names) h.shelves (mem_map (λ (a : Shelf). a.name) s.0 image.shelves s.1));
      held = λ q x k n e. let r = row q x n in no_unit_holds image q r.0.message.ident r.0.by k r.1.held (sym r.3 ∙ e);
      batch = λ q x c n e. let r = row q x n in batch_holds image q r.0.message.ident r.0.by c r.1.held (sym r.3 ∙ e);
    }
  where
    first_one : (n : ℕ) → 1 ≤ n + 0 + 1
    first_one n = omega arith
