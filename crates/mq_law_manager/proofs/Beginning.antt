-- An image of a log has what a manager begins with.
use Rattle.std.proofs.Common.{ℕ, suc, ◌≡◌, ◌≢◌, ◌≤◌, ◌<◌, ◌+◌, true, false, List, [], ◌∷◌, length, refl, ap, sym, subst, ◌∙◌, arith, inl, inr}
use Rattle.std.specs.Prelude.{Option, None, Some, if◌then◌else◌, ◌==◌, ◌&&◌, ◌||◌, nat_lt, All, AllPairs}
use Rattle.std.specs.Str.{bytes_eq}
use Rattle.std.proofs.lemmas.Bool.Decides.{nat_tests}
use Rattle.mq_message.specs.declared.message.Ident.{Ident}
use Rattle.mq_message.specs.declared.place.Holder.{Holder}
use Rattle.mq_message.specs.declared.place.Holder.TheVariants as holders
use Rattle.mq_queue.specs.declared.row.Row.{Row}
use Rattle.mq_queue.specs.Rows.{same_ident}
use Rattle.mq_sync.specs.declared.data.InDoubt.{InDoubt}
use Rattle.mq_calls.specs.State.{Given}
use Rattle.mq_calls.specs.Reads.{sender_in, in_doubt_of}
use Rattle.mq_calls.specs.Images.{raised}
use Rattle.mq_calls.specs.declared.image.Image.{Image}
use Rattle.mq_calls.specs.declared.image.Shelf.{Shelf}
use Rattle.mq_calls.specs.Recovery.{IsImage, IsShelf, IsLasting, IsHeldWell, IsListed, AreApart, IsKnown, AreKnown}
use Rattle.mq_law_manager.specs.Facts.{Mem, Chain, Differ, ident_of, IsOf, AreLaned}
use Rattle.mq_law_manager.proofs.Lists.{bool_case, any_mem, same_self, name_yes}
use Rattle.mq_law_manager.proofs.Numbered.{ImageRests, rows_on}

-- All of a list, by what is in it

pub all_mem : {A : Type 0} (P : A → Type 0) (xs : List A) (x : A) → All P xs → Mem x xs → P x
all_mem P [] x h m = absurd m
all_mem P (y ∷ ys) x h (inl e) = subst P (sym e) (h 0 y (some (length ys)))
  where
    some : (n : ℕ) → 0 < suc n
    some n = omega arith
all_mem P (y ∷ ys) x h (inr m) = all_mem P ys x (λ k d lt. h (suc k) d (next k (length ys) lt)) m
  where
    next : (k n : ℕ) → k < n → suc k < suc n
    next k n lt = omega (arith, lt)

pub pairs_chain : {A : Type 0} (R : A → A → Type 0) (xs : List A) → AllPairs R xs → Chain R xs
pairs_chain R [] h = tt
pairs_chain R (x ∷ xs) h = (
  λ y m. all_mem (R x) xs y (λ k d lt. h 0 (suc k) d (some k) (next k (length xs) lt)) m,
  pairs_chain R xs (λ i j d lt le. h (suc i) (suc j) d (next i j lt) (next j (length xs) le)),
)
  where
    some : (n : ℕ) → 0 < suc n
    some n = omega arith

    next : (k n : ℕ) → k < n → suc k < suc n
    next k n lt = omega (arith, lt)

-- Rows of an image

pub on_shelf : (name : List ℕ) (ss : List Shelf) (h : Row) → Mem h (rows_on name ss) → (s : Shelf) × Mem s ss × (name ≡ s.name) × Mem h s.rows
on_shelf name [] h m = absurd m
on_shelf name (s ∷ ss) h m = bool_case (bytes_eq name s.name) (λ b. bytes_eq name s.name ≡ b → Mem h (if b then s.rows else rows_on name ss) → (t : Shelf) × Mem t (s ∷ ss) × (name ≡ t.name) × Mem h t.rows)
    (λ e z k. (s, inl refl, name_yes name s.name z, k)) (λ e z k. let t = on_shelf name ss h k in (t.0, inr t.1, t.2, t.3)) refl m

-- what holds of each shelf holds of the rows of a name
each : (P : List Row → Type 0) → P [] → (ss : List Shelf) → ((s : Shelf) → Mem s ss → P s.rows) → (name : List ℕ) → P (rows_on name ss)
each P none [] h name = none
each P none (s ∷ ss) h name = bool_case (bytes_eq name s.name) (λ b. P (if b then s.rows else rows_on name ss)) (λ e. h s (inl refl)) (λ e. each P none ss (λ t m. h t (inr m)) name)

not_same : (a b : Ident) → same_ident a b ≡ false → a ≢ b
not_same a b e w = cc (e, ap (λ (i : Ident). same_ident i b) w, same_self b)

differing : (rows : List Row) → Chain (λ (x y : Row). same_ident x.message.ident y.message.ident ≡ false) rows → Differ ident_of rows
differing [] h = tt
differing (x ∷ xs) h = (λ y m. not_same x.message.ident y.message.ident (h.0 y m), differing xs h.1)

-- no ident stands on two shelves
apart : (s t : Shelf) (h k : Row) → AreApart s t → Mem h s.rows → Mem k t.rows → h.message.ident ≢ k.message.ident
apart s t h k a m n = not_same h.message.ident k.message.ident (all_mem (λ (y : Row). same_ident h.message.ident y.message.ident ≡ false) t.rows k (all_mem (λ (x : Row). All (λ (y : Row). same_ident x.message.ident y.message.ident ≡ false) t.rows) s.rows h a m) n)

one_queue : (ss : List Shelf) → Chain AreApart ss → (q d : List ℕ) (h k : Row) → Mem h (rows_on q ss) → Mem k (rows_on d ss) → h.message.ident ≡ k.message.ident → q ≡ d
one_queue [] c q d h k m n e = absurd m
one_queue (s ∷ ss) c q d h k m n e =
    bool_case (bytes_eq q s.name) (λ b. bytes_eq q s.name ≡ b → Mem h (if b then s.rows else rows_on q ss) → q ≡ d)
    (λ z w x. bool_case (bytes_eq d s.name) (λ b. bytes_eq d s.name ≡ b → Mem k (if b then s.rows else rows_on d ss) → q ≡ d)
    (λ y v u. name_yes q s.name w ∙ sym (name_yes d s.name v))
    (λ y v u. let t = on_shelf d ss k u in absurd (apart s t.0 h k (c.0 t.0 t.1) x t.3 e)) refl n)
    (λ z w x. bool_case (bytes_eq d s.name) (λ b. Mem k (if b then s.rows else rows_on d ss) → q ≡ d)
    (λ y u. let t = on_shelf q ss h x in absurd (apart s t.0 k h (c.0 t.0 t.1) u t.3 (sym e)))
    (λ y u. one_queue ss c.1 q d h k x u e) n) refl m

-- who holds a row
no_unit : (image : Image) (q : List ℕ) (i : Ident) (b : Option Holder) (n : ℕ) → IsHeldWell image q i b → b ≢ Some (holders.Unit n)
no_unit image q i None n h e = cc e
no_unit image q i (Some (holders.Unit k)) n h e = h
no_unit image q i (Some (holders.Batch c)) n h e = cc e

listed : (q : List ℕ) (i : Ident) (o : Option InDoubt) → IsListed q i o → IsOf q i None o
listed q i None h = h
listed q i (Some d) h = any_mem i d.idents h.1

abbrev pub the_batch : List ℕ → Option Holder → List ℕ
the_batch d None = d
the_batch d (Some (holders.Unit n)) = d
the_batch d (Some (holders.Batch c)) = c

of_doubt : (image : Image) (q : List ℕ) (i : Ident) (b : Option Holder) (c : List ℕ) → IsHeldWell image q i b → b ≡ Some (holders.Batch c) → IsOf q i None (in_doubt_of (sender_in c image.senders))
of_doubt image q i None c h e = absurd cc
of_doubt image q i (Some (holders.Unit n)) c h e = absurd h
of_doubt image q i (Some (holders.Batch k)) c h e = subst (λ (x : List ℕ). IsOf q i None (in_doubt_of (sender_in x image.senders))) (ap (the_batch k) e) (listed q i (in_doubt_of (sender_in k image.senders)) h)

-- idents of incarnations that the log knows
pub known : (m x i k j : ℕ) → (m ≡ x → i ≤ k) → ((m == x) && (nat_lt (k + 0 + 1) i || ((i == k + 0 + 1) && nat_lt 0 j))) ≡ false
known m x i k j older = bool_case (m == x) (λ t. (m == x) ≡ t → (t && (nat_lt (k + 0 + 1) i || ((i == k + 0 + 1) && nat_lt 0 j))) ≡ false) (λ z e. less i k j (older (is m x e))) (λ z e. refl) refl
  where
    less : (i k j : ℕ) → i ≤ k → (nat_lt (k + 0 + 1) i || ((i == k + 0 + 1) && nat_lt 0 j)) ≡ false
    less i k j le = grind (arith, nat_tests)

    is : (m x : ℕ) → (m == x) ≡ true → m ≡ x
    is m x e = grind (arith, nat_tests)

pub image_rests : (given : Given) (image : Image) → IsImage image → AreKnown given.number image → ImageRests given (raised 0 image)
image_rests given image h k = record {
  once = λ q. each (Differ ident_of) tt image.shelves (λ s m. differing s.rows (pairs_chain (λ (x y : Row). same_ident x.message.ident y.message.ident ≡ false) s.rows (all_mem (IsShelf image) image.shelves s h.rows m).distinct)) q;
  alone = λ q d x y m n e. one_queue image.shelves (pairs_chain AreApart image.shelves h.apart) q d x y m n e;
  given = λ q x m.
      let s = on_shelf q image.shelves x m in
      known x.message.ident.manager given.number x.message.ident.incarnation image.incarnation x.message.ident.number (all_mem (λ (row : Row). IsKnown given.number image.incarnation row.message.ident) s.0.rows x
      (all_mem (λ (t : Shelf). All (λ (row : Row). IsKnown given.number image.incarnation row.message.ident) t.rows) image.shelves s.0 k.rows s.1) s.3);
  laned = λ q. each AreLaned tt image.shelves (λ s m. pairs_chain (λ (x y : Row). x.place.lane ≤ y.place.lane) s.rows (all_mem (IsShelf image) image.shelves s h.rows m).sorted) q;
  units = λ q x n m. let s = on_shelf q image.shelves x m in no_unit image s.0.name x.message.ident x.by n (held s.0 s.1 x s.3);
  of = λ q x c m e. let s = on_shelf q image.shelves x m in subst (λ (name : List ℕ). IsOf name x.message.ident None (in_doubt_of (sender_in c image.senders))) (sym s.2) (of_doubt image s.0.name x.message.ident x.by c (held s.0 s.1 x s.3) e);
}
  where
    held : (s : Shelf) → Mem s image.shelves → (x : Row) → Mem x s.rows → IsHeldWell image s.name x.message.ident x.by
    held s m x n = (all_mem (IsLasting image s.name) s.rows x (all_mem (IsShelf image) image.shelves s h.rows m).rows n).held
