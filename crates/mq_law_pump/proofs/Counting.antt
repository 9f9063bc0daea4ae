-- What a sender's own changes make of the rows of its queue, in numbers.
use Rattle.std.proofs.Common.{ℕ, zero, suc, ◌≡◌, ◌≤◌, ◌<◌, ◌+◌, Bool, true, false, List, [], ◌∷◌, length, refl, ap, sym, subst, arith, inl, inr, ◌∙◌}
use Rattle.std.specs.Prelude.{if◌then◌else◌, Some, ◌&&◌, ◌||◌, filter, not, take}
use Rattle.std.specs.List.{list_any}
use Rattle.mq_message.specs.declared.message.Ident.{Ident}
use Rattle.mq_message.specs.declared.place.Holder.{Holder}
use Rattle.mq_queue.specs.declared.row.Row.{Row}
use Rattle.mq_queue.specs.Queues.{AreDistinct, Lacks}
use Rattle.mq_queue.specs.Rows.{is_free, keep, retag, same_ident}
use Rattle.mq_queue.proofs.Edits.{same_self}
use Rattle.mq_calls.specs.State.{Plain, Which}
use Rattle.mq_calls.specs.State.Change.{Hold, Leave, Release}
use Rattle.mq_calls.specs.State.Which.{Among}
use Rattle.mq_calls.specs.Changes.{apply, release_if, retag_if, selects}
use Rattle.mq_calls.specs.Reads.{free_rows}
use Rattle.mq_spec_manager.specs.Get.{idents_of}
use Rattle.mq_base.specs.Members.{Mem}
use Rattle.mq_law_idle.specs.Counts.{Distinct, NoneHas, first_free, free_in, held_in, hold_if, held_one}
use Rattle.mq_law_idle.proofs.Counted.{HoldsSo, holds_first, kept_rows, retagged_rows}
use Rattle.mq_law_node.specs.Rows.{rows_at}
use Rattle.mq_law_node.proofs.Named.{bool_case, name_self}
use Rattle.mq_law_node.proofs.RowLaws.{rows_applied}
use Rattle.mq_law_node.proofs.Batches.{filter_mem}

-- idents stand once
none_has : (i : Ident) (rows : List Row) → Lacks i rows → NoneHas i rows
none_has i [] h = tt
none_has i (r ∷ rs) h = (h.0, none_has i rs h.1)

pub distinct_so : (rows : List Row) → AreDistinct rows → Distinct rows
distinct_so [] d = tt
distinct_so (r ∷ rs) d = (none_has r.message.ident rs d.0, distinct_so rs d.1)

-- the free rows
pub free_length : (rows : List Row) → length (filter is_free rows) ≡ free_in rows
free_length [] = refl
free_length (r ∷ rs) = bool_case (is_free r) (λ b. length (if b then r ∷ filter is_free rs else filter is_free rs) ≡ (if b then suc (free_in rs) else free_in rs)) (λ e. ap suc (free_length rs)) (λ e. free_length rs)

pub first_so : (k : ℕ) (rows : List Row) → idents_of (take k (filter is_free rows)) ≡ first_free k rows
first_so zero rows = refl
first_so (suc k) [] = refl
first_so (suc k) (r ∷ rs) = bool_case (is_free r)
    (λ b. idents_of (take (suc k) (if b then r ∷ filter is_free rs else filter is_free rs)) ≡ (if b then r.message.ident ∷ first_free k rs else first_free (suc k) rs))
    (λ e. ap (λ (is : List Ident). r.message.ident ∷ is) (first_so k rs)) (λ e. first_so (suc k) rs)

pub first_length : (k : ℕ) (rows : List Row) → k ≤ free_in rows → length (first_free k rows) ≡ k
first_length zero rows h = refl
first_length (suc k) [] h = absurd (omega (arith, h))
first_length (suc k) (r ∷ rs) h = one (is_free r) refl (first_length k rs) (first_length (suc k) rs)
  where
    one : (b : Bool) → is_free r ≡ b → (k ≤ free_in rs → length (first_free k rs) ≡ k) → (suc k ≤ free_in rs → length (first_free (suc k) rs) ≡ suc k) → length (first_free (suc k) (r ∷ rs)) ≡ suc k
    one true is x y = ap (λ (b : Bool). length (if b then r.message.ident ∷ first_free k rs else first_free (suc k) rs)) is
        ∙ ap suc (x (omega (arith, h, ap (λ (b : Bool). if b then suc (free_in rs) else free_in rs) is)))
    one false is x y = ap (λ (b : Bool). length (if b then r.message.ident ∷ first_free k rs else first_free (suc k) rs)) is
        ∙ y (omega (arith, h, ap (λ (b : Bool). if b then suc (free_in rs) else free_in rs) is))

-- the change that holds them
retag_same : (f g : Row → Row) (rows : List Row) → ((r : Row) → f r ≡ g r) → retag f rows ≡ retag g rows
retag_same f g [] h = refl
retag_same f g (r ∷ rs) h = λ i. h r i ∷ retag_same f g rs h i

if_same : (b : Bool) (by_ : Holder) (r : Row) → retag_if b (Some by_) r ≡ hold_if b by_ r
if_same true by_ r = refl
if_same false by_ r = refl

pub rows_held : (q : List ℕ) (is : List Ident) (by_ : Holder) (p : Plain) → rows_at q (apply (Hold (Among q is) by_) p) ≡ retag (held_one is by_) (rows_at q p)
rows_held q is by_ p = rows_applied q (Hold (Among q is) by_) p
    ∙ retag_same _ (held_one is by_) (rows_at q p) (λ r. ap (λ (b : Bool). retag_if ((b && list_any (same_ident r.message.ident) is) && is_free r) (Some by_) r) (name_self q) ∙ if_same (list_any (same_ident r.message.ident) is && is_free r) by_ r)

pub rows_left : (q : List ℕ) (which : Which) (p : Plain) → rows_at q (apply (Leave which) p) ≡ keep (λ (row : Row). not (selects which q row)) (rows_at q p)
rows_left q which p = rows_applied q (Leave which) p

-- so many free rows are held
pub holds_so : (q : List ℕ) (k : ℕ) (by_ : Holder) (p : Plain) → AreDistinct (rows_at q p) → k ≤ free_in (rows_at q p)
    → (free_in (rows_at q (apply (Hold (Among q (idents_of (take k (free_rows q p)))) by_) p)) + k ≡ free_in (rows_at q p))
    × (held_in (rows_at q (apply (Hold (Among q (idents_of (take k (free_rows q p)))) by_) p)) ≡ held_in (rows_at q p) + k)
holds_so q k by_ p d few =
    let h : HoldsSo k by_ (rows_at q p) = holds_first k by_ (rows_at q p) (distinct_so (rows_at q p) d) in
    let n : length (first_free k (rows_at q p)) ≡ k = first_length k (rows_at q p) few in
    let rows : rows_at q (apply (Hold (Among q (idents_of (take k (free_rows q p)))) by_) p) ≡ retag (held_one (first_free k (rows_at q p)) by_) (rows_at q p) =
    rows_held q (idents_of (take k (free_rows q p))) by_ p ∙ ap (λ (is : List Ident). retag (held_one is by_) (rows_at q p)) (first_so k (rows_at q p)) in
    (omega (arith, ap free_in rows, h.0, n), omega (arith, ap held_in rows, h.1, n))

-- rows that leave
pub leaves_less : (q : List ℕ) (which : Which) (p : Plain) → (free_in (rows_at q (apply (Leave which) p)) ≤ free_in (rows_at q p)) × (held_in (rows_at q (apply (Leave which) p)) ≤ held_in (rows_at q p))
leaves_less q which p =
    let h = kept_rows (λ (row : Row). not (selects which q row)) (rows_at q p) in
    (omega (arith, ap free_in (rows_left q which p), h.0), omega (arith, ap held_in (rows_left q which p), h.1))

-- a released row adds none
pub releases_same : (q : List ℕ) (which : Which) (counted : Bool) (p : Plain) → free_in (rows_at q (apply (Release which counted) p)) + held_in (rows_at q (apply (Release which counted) p)) ≡ free_in (rows_at q p) + held_in (rows_at q p)
releases_same q which counted p =
    let r = rows_applied q (Release which counted) p in
    omega (arith, ap free_in r, ap held_in r, retagged_rows (λ (row : Row). release_if (selects which q row && not (is_free row)) counted row) (rows_at q p))

-- rows that are free, and go
pub fewer_kept : (test : Row → Bool) (rows : List Row) (x : Row) → Mem x rows → is_free x ≡ true → test x ≡ false → free_in (keep test rows) < free_in rows
fewer_kept test [] x m f t = absurd m
fewer_kept test (r ∷ rs) x (inl same) f t =
    let h = kept_rows test rs in
    omega (arith, h.0, ap (λ (b : Bool). free_in (if b then r ∷ keep test rs else keep test rs)) (ap test (sym same) ∙ t), ap (λ (b : Bool). if b then suc (free_in rs) else free_in rs) (ap is_free (sym same) ∙ f))
fewer_kept test (r ∷ rs) x (inr m) f t = one (test r) (is_free r) refl refl (fewer_kept test rs x m f t)
  where
    one : (a b : Bool) → test r ≡ a → is_free r ≡ b → free_in (keep test rs) < free_in rs → free_in (keep test (r ∷ rs)) < free_in (r ∷ rs)
    one true true p q h = omega (arith, h, ap (λ (z : Bool). free_in (if z then r ∷ keep test rs else keep test rs)) p, ap (λ (z : Bool). if z then suc (free_in (keep test rs)) else free_in (keep test rs)) q, ap (λ (z : Bool). if z then suc (free_in rs) else free_in rs) q)
    one true false p q h = omega (arith, h, ap (λ (z : Bool). free_in (if z then r ∷ keep test rs else keep test rs)) p, ap (λ (z : Bool). if z then suc (free_in (keep test rs)) else free_in (keep test rs)) q, ap (λ (z : Bool). if z then suc (free_in rs) else free_in rs) q)
    one false true p q h = omega (arith, h, ap (λ (z : Bool). free_in (if z then r ∷ keep test rs else keep test rs)) p, ap (λ (z : Bool). if z then suc (free_in rs) else free_in rs) q)
    one false false p q h = omega (arith, h, ap (λ (z : Bool). free_in (if z then r ∷ keep test rs else keep test rs)) p, ap (λ (z : Bool). if z then suc (free_in rs) else free_in rs) q)

filter_passes : (test : Row → Bool) (rows : List Row) (x : Row) → Mem x (filter test rows) → test x ≡ true
filter_passes test [] x m = absurd m
filter_passes test (r ∷ rs) x m = one (test r) refl (filter_passes test rs x)
  where
    one : (b : Bool) → test r ≡ b → (Mem x (filter test rs) → test x ≡ true) → test x ≡ true
    one true p h = first (subst (Mem x) (ap (λ (z : Bool). if z then r ∷ filter test rs else filter test rs) p) m)
      where
        first : Mem x (r ∷ filter test rs) → test x ≡ true
        first (inl same) = ap test same ∙ p
        first (inr more) = h more
    one false p h = h (subst (Mem x) (ap (λ (z : Bool). if z then r ∷ filter test rs else filter test rs) p) m)

-- the rows that pass a test, of the free ones, go; there is one at least
pub expire_less : (q : List ℕ) (past : Row → Bool) (x : Row) (xs : List Row) (p : Plain) → filter past (filter is_free (rows_at q p)) ≡ x ∷ xs
    → free_in (rows_at q (apply (Leave (Among q (idents_of (x ∷ xs)))) p)) < free_in (rows_at q p)
expire_less q past x xs p is =
    let mem : Mem x (filter past (filter is_free (rows_at q p))) = subst (Mem x) (sym is) (inl refl) in
    let inner : Mem x (filter is_free (rows_at q p)) = filter_mem x past (filter is_free (rows_at q p)) mem in
    let gone : not (selects (Among q (idents_of (x ∷ xs))) q x) ≡ false = λ i. not (name_self q i && (same_self x.message.ident i || list_any (same_ident x.message.ident) (idents_of xs))) in
    subst (λ (rs : List Row). free_in rs < free_in (rows_at q p)) (sym (rows_left q (Among q (idents_of (x ∷ xs))) p))
    (fewer_kept (λ (row : Row). not (selects (Among q (idents_of (x ∷ xs))) q row)) (rows_at q p) x (filter_mem x is_free (rows_at q p) inner) (filter_passes is_free (rows_at q p) x inner) gone)
