-- A manager that begins with rows of an image has what holds of a manager's rows.
use Rattle.std.proofs.Common.{ℕ, suc, ◌≡◌, ◌≢◌, ◌≤◌, ◌+◌, Bool, true, false, List, [], ◌∷◌, length, refl, ap, sym, subst, ◌∙◌, arith, map, inl, inr}
use Rattle.std.specs.Prelude.{Option, None, Some, if◌then◌else◌, ◌==◌, ◌&&◌, ◌||◌, nat_lt}
use Rattle.std.specs.Str.{bytes_eq}
use Rattle.std.proofs.lemmas.Bool.Decides.{nat_tests}
use Rattle.mq_message.specs.declared.message.Ident.{Ident}
use Rattle.mq_message.specs.declared.message.Message.{Message}
use Rattle.mq_message.specs.declared.place.Place.{Place}
use Rattle.mq_message.specs.declared.place.Holder.TheVariants as holders
use Rattle.mq_queue.specs.declared.row.Row.{Row}
use Rattle.mq_queue.specs.Queues.{AllBehind, AreInOrder, AreCounted}
use Rattle.mq_sync.specs.declared.data.InDoubt.{InDoubt}
use Rattle.mq_calls.specs.State.{Given, LogState}
use Rattle.mq_calls.specs.Reads.{queue_in, sender_in, in_doubt_of}
use Rattle.mq_calls.specs.Images.{numbered, queue_on, begun}
use Rattle.mq_calls.specs.declared.image.Image.{Image}
use Rattle.mq_calls.specs.declared.image.Shelf.{Shelf}
use Rattle.mq_law_manager.specs.View.{View, view}
use Rattle.mq_law_manager.specs.Facts.{Mem, Differ, ident_of, IsOf, AreLaned, Sound, Holds}
use Rattle.mq_law_manager.proofs.Lists.{bool_case}

-- the rows of an image, by the name of their queue
abbrev pub rows_on : List ℕ → List Shelf → List Row
rows_on name [] = []
rows_on name (s ∷ ss) = if bytes_eq name s.name then s.rows else rows_on name ss

-- no ident of a manager that its incarnation is still to give
abbrev pub was_given : ℕ → ℕ → Ident → Bool
was_given number incarnation i = (i.manager == number) && (nat_lt incarnation i.incarnation || ((i.incarnation == incarnation) && nat_lt 0 i.number))

pub record Rests (number incarnation : ℕ) (rows : List ℕ → List Row) (doubt : List ℕ → Option InDoubt) : Type 0 where
  pub once : (q : List ℕ) → Differ ident_of (rows q)
  pub alone : (q d : List ℕ) (h k : Row) → Mem h (rows q) → Mem k (rows d) → h.message.ident ≡ k.message.ident → q ≡ d
  pub given : (q : List ℕ) (h : Row) → Mem h (rows q) → was_given number incarnation h.message.ident ≡ false
  pub laned : (q : List ℕ) → AreLaned (rows q)
  pub units : (q : List ℕ) (h : Row) (n : ℕ) → Mem h (rows q) → h.by ≢ Some (holders.Unit n)
  pub of : (q : List ℕ) (h : Row) (c : List ℕ) → Mem h (rows q) → h.by ≡ Some (holders.Batch c) → IsOf q h.message.ident None (doubt c)

abbrev pub ImageRests : Given → Image → Type 0
ImageRests given image = Rests given.number image.incarnation (λ q. rows_on q image.shelves) (λ c. in_doubt_of (sender_in c image.senders))

-- Rows that are numbered

abbrev pub IsLike : Row → Row → Type 0
IsLike h old = (h.message ≡ old.message) × (h.by ≡ old.by)

mem_numbered : (n : ℕ) (rows : List Row) (h : Row) → Mem h (numbered n rows) → (old : Row) × Mem old rows × IsLike h old
mem_numbered n [] h m = absurd m
mem_numbered n (row ∷ rows) h (inl e) = (row, inl refl, (ap (λ (r : Row). r.message) e, ap (λ (r : Row). r.by) e))
mem_numbered n (row ∷ rows) h (inr m) = let k = mem_numbered (n + 1) rows h m in (k.0, inr k.1, k.2)

numbered_differ : (n : ℕ) (rows : List Row) → Differ ident_of rows → Differ ident_of (numbered n rows)
numbered_differ n [] d = tt
numbered_differ n (row ∷ rows) d = (λ y m e. let k = mem_numbered (n + 1) rows y m in d.0 k.0 k.1 (e ∙ ap (λ (x : Message). x.ident) k.2.0), numbered_differ (n + 1) rows d.1)

is_behind : (l1 l2 a n : ℕ) → l1 ≤ l2 → a ≤ n → (nat_lt l1 l2 || ((l1 == l2) && nat_lt a (n + 1))) ≡ true
is_behind l1 l2 a n le lt = grind (arith, nat_tests)

more : (a n : ℕ) → a ≤ n → a ≤ n + 1
more a n le = omega (arith, le)

numbered_behind : (place : Place) (n : ℕ) (rows : List Row) → ((y : Row) → Mem y rows → place.lane ≤ y.place.lane) → place.arrival ≤ n → AllBehind place (numbered n rows)
numbered_behind place n [] lanes le = tt
numbered_behind place n (row ∷ rows) lanes le = (is_behind place.lane row.place.lane place.arrival n (lanes row (inl refl)) le, numbered_behind place (n + 1) rows (λ y m. lanes y (inr m)) (more place.arrival n le))

numbered_in_order : (n : ℕ) (rows : List Row) → AreLaned rows → AreInOrder (numbered n rows)
numbered_in_order n [] h = tt
numbered_in_order n (row ∷ rows) h = (numbered_behind (record row.place { arrival = n + 1 }) (n + 1) rows h.0 (same (n + 1)), numbered_in_order (n + 1) rows h.1)
  where
    same : (k : ℕ) → k ≤ k
    same k = omega arith

numbered_counted : (most n : ℕ) (rows : List Row) → n + length rows ≤ most → AreCounted most (numbered n rows)
numbered_counted most n [] le = tt
numbered_counted most n (row ∷ rows) le = (first n (length rows) le, numbered_counted most (n + 1) rows (rest n (length rows) le))
  where
    first : (n k : ℕ) → n + suc k ≤ most → n + 1 ≤ most
    first n k le = omega (arith, le)

    rest : (n k : ℕ) → n + suc k ≤ most → (n + 1) + k ≤ most
    rest n k le = omega (arith, le)

numbered_length : (n : ℕ) (rows : List Row) → length (numbered n rows) ≡ length rows
numbered_length n [] = refl
numbered_length n (row ∷ rows) = ap suc (numbered_length (n + 1) rows)

-- A manager that begins

pub rows_begun : (name : List ℕ) (ss : List Shelf) → (queue_in name (map queue_on ss)).rows ≡ numbered 0 (rows_on name ss)
rows_begun name [] = refl
rows_begun name (s ∷ ss) = bool_case (bytes_eq name s.name) (λ b. (if b then queue_on s else queue_in name (map queue_on ss)).rows ≡ numbered 0 (if b then s.rows else rows_on name ss)) (λ e. refl) (λ e. rows_begun name ss)

arrivals_begun : (name : List ℕ) (ss : List Shelf) → (queue_in name (map queue_on ss)).arrivals ≡ length (rows_on name ss)
arrivals_begun name [] = refl
arrivals_begun name (s ∷ ss) = bool_case (bytes_eq name s.name) (λ b. (if b then queue_on s else queue_in name (map queue_on ss)).arrivals ≡ length (if b then s.rows else rows_on name ss)) (λ e. refl) (λ e. arrivals_begun name ss)

abbrev begun_view : Given → Image → LogState → ℕ → View
begun_view given image log moment = record (view (begun given image log moment)) { rows = λ name. numbered 0 (rows_on name image.shelves); arrivals = λ name. length (rows_on name image.shelves) }

pub begins : (given : Given) (image : Image) (log : LogState) (moment : ℕ) → ImageRests given image → Sound (begun given image log moment)
begins given image log moment h = subst Holds (λ i. record (view (begun given image log moment)) { rows = λ name. sym (rows_begun name image.shelves) i; arrivals = λ name. sym (arrivals_begun name image.shelves) i }) (record {
  apart = record {
    once = λ q. numbered_differ 0 (rows_on q image.shelves) (h.once q);
    alone = λ q d x y m n e. let a = old q x m in let b = old d y n in h.alone q d a.0 b.0 a.1 b.1 (sym (ident x a.0 a.2) ∙ e ∙ ident y b.0 b.2);
    given = λ q x m. let a = old q x m in ap (was_given given.number image.incarnation) (ident x a.0 a.2) ∙ h.given q a.0 a.1;
    put_once = λ n. tt;
    put_alone = λ n l a b m k e. absurd m;
    put_given = λ n a m. absurd m;
    waiting = λ n a q x m k e. m;
  };
  taken = record { held = λ q x n m e. let a = old q x m in absurd (h.units q a.0 n a.1 (sym a.2.1 ∙ e)); there = λ n t m. absurd m; take_once = λ n. tt };
  batched = record {
    of = λ q x c m e. let a = old q x m in subst (λ (i : Ident). IsOf q i None (in_doubt_of (sender_in c image.senders))) (sym (ident x a.0 a.2)) (h.of q a.0 c a.1 (sym a.2.1 ∙ e));
    full = λ c b i e m. absurd cc;
    one = λ c b e. absurd cc;
  };
  ordered = record {
    in_order = λ q. numbered_in_order 0 (rows_on q image.shelves) (h.laned q);
    counted = λ q. numbered_counted (length (rows_on q image.shelves)) 0 (rows_on q image.shelves) (same (length (rows_on q image.shelves)));
    fits = λ q. at (length (numbered 0 (rows_on q image.shelves))) (length (rows_on q image.shelves)) (numbered_length 0 (rows_on q image.shelves));
  };
})
  where
    old : (q : List ℕ) (x : Row) → Mem x (numbered 0 (rows_on q image.shelves)) → (o : Row) × Mem o (rows_on q image.shelves) × IsLike x o
    old q x m = mem_numbered 0 (rows_on q image.shelves) x m

    ident : (x o : Row) → IsLike x o → x.message.ident ≡ o.message.ident
    ident x o k = ap (λ (m : Message). m.ident) k.0

    same : (k : ℕ) → 0 + k ≤ k
    same k = omega arith

    at : (x y : ℕ) → x ≡ y → x ≤ y
    at x y e = omega (arith, e)
