-- The row of an ident stays as it is under changes that spare it; and a row that a batch holds is spared by all that units and
-- their ends do.
use Rattle.std.proofs.Common.{ℕ, ◌≡◌, ◌+◌, Bool, true, false, List, [], ◌∷◌, refl, ap, ◌∙◌}
use Rattle.std.specs.Prelude.{Option, Some, None, cond, if◌then◌else◌, not, ◌&&◌, find, nat_le}
use Rattle.std.specs.List.{list_any}
use Rattle.std.specs.Str.{bytes_eq}
use Rattle.mq_message.specs.declared.message.Ident.{Ident}
use Rattle.mq_message.specs.declared.place.Holder.{Holder}
use Rattle.mq_message.specs.declared.place.Holder.TheVariants.{Unit as ByUnit, Batch as ByBatch}
use Rattle.mq_queue.specs.declared.row.Row.{Row}
use Rattle.mq_queue.specs.Rows.{same_ident, has_ident, insert_row, keep, retag, held_by, is_free}
use Rattle.mq_calls.specs.State.{Plain, Change, Which}
use Rattle.mq_calls.specs.State.Which.{Among, HeldBy, HeldByUnits, Nonpersistent}
use Rattle.mq_calls.specs.State.Change.{Place as Places, Leave, Hold, Release, Renew, DropQueue}
use Rattle.mq_calls.specs.Reads.{stored, is_by_unit}
use Rattle.mq_calls.specs.Changes.{apply, apply_all, lane_of, new_row, selects, retag_if, release_if}
use Rattle.mq_objects.specs.Names.{local_of}
use Rattle.mq_law_channel.proofs.Told.{and_both}
use Rattle.mq_law_node.specs.Rows.{RowKind, Same, Placed, Kept, Retagged, Emptied, row_kind, rows_do, rows_at, Spares, SparesAll, spared_which, is_gentle, all_gentle}
use Rattle.mq_law_node.proofs.Named.{bool_case}
use Rattle.mq_law_node.proofs.Aside.{not_true}
use Rattle.mq_law_node.proofs.RowLaws.{rows_applied}

pub finds_inserted : (i : Ident) (new : Row) (rows : List Row) → has_ident i new ≡ false → find (has_ident i) (insert_row new rows) ≡ find (has_ident i) rows
finds_inserted i new [] e = ap (λ (b : Bool). cond b (Some new) None) e
finds_inserted i new (r ∷ rs) e = bool_case (nat_le r.place.lane new.place.lane)
    (λ b. find (has_ident i) (if b then r ∷ insert_row new rs else new ∷ r ∷ rs) ≡ find (has_ident i) (r ∷ rs))
    (λ z. ap (λ (o : Option Row). cond (has_ident i r) (Some r) o) (finds_inserted i new rs e))
    (λ z. ap (λ (b : Bool). cond b (Some new) (find (has_ident i) (r ∷ rs))) e)

pub finds_kept : (i : Ident) (test : Row → Bool) (x : Row) (rows : List Row) → test x ≡ true → find (has_ident i) rows ≡ Some x → find (has_ident i) (keep test rows) ≡ Some x
finds_kept i test x [] t = λ f. f
finds_kept i test x (r ∷ rs) t = bool_case (has_ident i r)
    (λ b. has_ident i r ≡ b → cond b (Some r) (find (has_ident i) rs) ≡ Some x → find (has_ident i) (if test r then r ∷ keep test rs else keep test rs) ≡ Some x)
    (λ z w f. let same : r ≡ x = cc in
    ap (λ (b : Bool). find (has_ident i) (if b then r ∷ keep test rs else keep test rs)) (ap test same ∙ t) ∙ ap (λ (b : Bool). cond b (Some r) (find (has_ident i) (keep test rs))) w ∙ f)
    (λ z w f. bool_case (test r) (λ b. find (has_ident i) (if b then r ∷ keep test rs else keep test rs) ≡ Some x)
    (λ y. ap (λ (b : Bool). cond b (Some r) (find (has_ident i) (keep test rs))) w ∙ finds_kept i test x rs t f)
    (λ y. finds_kept i test x rs t f)) refl

pub finds_same : (i : Ident) (g : Row → Row) (x : Row) (rows : List Row) → ((r : Row) → (g r).message.ident ≡ r.message.ident) → g x ≡ x → find (has_ident i) rows ≡ Some x → find (has_ident i) (retag g rows) ≡ Some x
finds_same i g x [] h k = λ f. f
finds_same i g x (r ∷ rs) h k = λ f. ap (λ (j : Ident). cond (same_ident j i) (Some (g r)) (find (has_ident i) (retag g rs))) (h r)
    ∙ bool_case (has_ident i r) (λ b. cond b (Some r) (find (has_ident i) rs) ≡ Some x → cond b (Some (g r)) (find (has_ident i) (retag g rs)) ≡ Some x)
    (λ z y. let same : r ≡ x = cc in ap Some (ap g same ∙ k))
    (λ z y. finds_same i g x rs h k y) f

-- a row that a change spares is found as before
pub found_spared : (k : RowKind) (arrivals : ℕ) (i : Ident) (x : Row) (rows : List Row) → Spares k i x → find (has_ident i) rows ≡ Some x → find (has_ident i) (rows_do k arrivals rows) ≡ Some x
found_spared Same arrivals i x rows s f = f
found_spared (Placed lane m) arrivals i x rows s f = finds_inserted i (new_row lane (arrivals + 1) m) rows s ∙ f
found_spared (Kept test) arrivals i x rows s f = finds_kept i test x rows s f
found_spared (Retagged change) arrivals i x rows s f = finds_same i change x rows s.0 s.1 f
found_spared Emptied arrivals i x rows s f = absurd s

pub found_spared_all : (name : List ℕ) (cs : List Change) (p : Plain) (i : Ident) (x : Row) → SparesAll name cs p i x → find (has_ident i) (rows_at name p) ≡ Some x → find (has_ident i) (rows_at name (apply_all cs p)) ≡ Some x
found_spared_all name [] p i x s f = f
found_spared_all name (c ∷ cs) p i x s f = found_spared_all name cs (apply c p) i x s.1
    (ap (find (has_ident i)) (rows_applied name c p) ∙ found_spared (row_kind name c p) (stored name p).arrivals i x (rows_at name p) s.0 f)

-- ROWS OF BATCHES
pub retag_ident : (b : Bool) (by : Option Holder) (r : Row) → (retag_if b by r).message.ident ≡ r.message.ident
retag_ident true by r = refl
retag_ident false by r = refl

pub release_ident : (b counted : Bool) (r : Row) → (release_if b counted r).message.ident ≡ r.message.ident
release_ident true true r = refl
release_ident true false r = refl
release_ident false counted r = refl

-- a batch's row is no unit's
abbrev pub IsOfBatch : Row → Type 0
IsOfBatch r = (channel : List ℕ) × (r.by ≡ Some (ByBatch channel))

pub unit_apart : (n : ℕ) (by : Option Holder) (channel : List ℕ) → by ≡ Some (ByBatch channel) → held_by (ByUnit n) by ≡ false
unit_apart n None channel e = refl
unit_apart n (Some (ByUnit m)) channel e = absurd cc
unit_apart n (Some (ByBatch other)) channel e = refl

pub and_false : (a b : Bool) → b ≡ false → (a && b) ≡ false
and_false true b e = e
and_false false b e = refl

pub units_apart : (by : Option Holder) (channel : List ℕ) → by ≡ Some (ByBatch channel) → is_by_unit by ≡ false
units_apart None channel e = refl
units_apart (Some (ByUnit m)) channel e = absurd cc
units_apart (Some (ByBatch other)) channel e = refl

pub not_selected : (name : List ℕ) (which : Which) (x : Row) → IsOfBatch x → spared_which x.message.ident which ≡ true → selects which name x ≡ false
not_selected name (Among queue idents) x h e = and_false (bytes_eq name queue) (list_any (same_ident x.message.ident) idents) (not_true (list_any (same_ident x.message.ident) idents) e)
not_selected name (HeldBy (ByUnit n)) x h e = unit_apart n x.by h.0 h.1
not_selected name (HeldBy (ByBatch channel)) x h e = absurd cc
not_selected name HeldByUnits x h e = units_apart x.by h.0 h.1
not_selected name Nonpersistent x h e = absurd cc

pub spares_leave : (name : List ℕ) (which : Which) (p : Plain) (x : Row) → IsOfBatch x → spared_which x.message.ident which ≡ true → Spares (row_kind name (Leave which) p) x.message.ident x
spares_leave name which p x h e = ap not (not_selected name which x h e)

pub spares_hold : (name : List ℕ) (which : Which) (by : Holder) (p : Plain) (x : Row) → IsOfBatch x → spared_which x.message.ident which ≡ true → Spares (row_kind name (Hold which by) p) x.message.ident x
spares_hold name which by p x h e = ((λ r. retag_ident (selects which name r && is_free r) (Some by) r), ap (λ (b : Bool). retag_if (b && is_free x) (Some by) x) (not_selected name which x h e))

pub spares_release : (name : List ℕ) (which : Which) (counted : Bool) (p : Plain) (x : Row) → IsOfBatch x → spared_which x.message.ident which ≡ true → Spares (row_kind name (Release which counted) p) x.message.ident x
spares_release name which counted p x h e = ((λ r. release_ident (selects which name r && not (is_free r)) counted r), ap (λ (b : Bool). release_if (b && not (is_free x)) counted x) (not_selected name which x h e))

pub gentle_spares : (name : List ℕ) (c : Change) (p : Plain) (x : Row) → IsOfBatch x → is_gentle x.message.ident c ≡ true → Spares (row_kind name c p) x.message.ident x
gentle_spares name (Places queue m) p x h e = bool_case (bytes_eq name queue) (λ b. Spares (if b then Placed (lane_of (local_of queue p.definitions) m.md.priority) m else Same) x.message.ident x) (λ z. not_true (same_ident m.ident x.message.ident) e) (λ z. tt)
gentle_spares name (Leave which) p x h e = spares_leave name which p x h e
gentle_spares name (Hold which by) p x h e = spares_hold name which by p x h e
gentle_spares name (Release which counted) p x h e = spares_release name which counted p x h e
gentle_spares name (Renew queue) p x h e = absurd cc
gentle_spares name (DropQueue queue) p x h e = absurd cc
gentle_spares name c p x h e = tt

-- So the row of a batch stays, as it is, under all that is gentle to it.
pub gentle_all : (name : List ℕ) (cs : List Change) (p : Plain) (x : Row) → IsOfBatch x → all_gentle x.message.ident cs ≡ true
    → find (has_ident x.message.ident) (rows_at name p) ≡ Some x → find (has_ident x.message.ident) (rows_at name (apply_all cs p)) ≡ Some x
gentle_all name [] p x h e f = f
gentle_all name (c ∷ cs) p x h e f = let b = and_both (is_gentle x.message.ident c) (all_gentle x.message.ident cs) e in
    gentle_all name cs (apply c p) x h b.1 (ap (find (has_ident x.message.ident)) (rows_applied name c p)
    ∙ found_spared (row_kind name c p) (stored name p).arrivals x.message.ident x (rows_at name p) (gentle_spares name c p x h b.0) f)
