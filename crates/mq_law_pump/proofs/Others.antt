-- What adds no row to a queue leaves no more rows free, and held, than there were.
use Rattle.std.proofs.Common.{ℕ, ◌≡◌, Bool, true, false, List, [], ◌∷◌, refl, ap, sym, subst, arith, ◌∙◌}
use Rattle.std.specs.Prelude.{if◌then◌else◌, Option, Some, None, ◌&&◌, ◌||◌, not}
use Rattle.std.specs.List.{list_any}
use Rattle.std.specs.Str.{bytes_eq}
use Rattle.mq_calls.specs.declared.records.LogRecord.{LogRecord}
use Rattle.mq_message.specs.declared.place.Holder.{Holder}
use Rattle.mq_message.specs.declared.place.Holder.TheVariants as holders
use Rattle.mq_objects.specs.Names.{local_of}
use Rattle.mq_queue.specs.declared.row.Row.{Row}
use Rattle.mq_queue.specs.Rows.{held_by, is_free, keep, retag, same_ident}
use Rattle.mq_calls.specs.State.{Change, Plain}
use Rattle.mq_calls.specs.State.Change.{DropQueue, Hold, Leave, Place, Release, Renew}
use Rattle.mq_calls.specs.State.Which.{Among, HeldBy, HeldByUnits, Nonpersistent}
use Rattle.mq_calls.specs.Changes.{apply, lane_of, release_if, retag_if, selects}
use Rattle.mq_calls.specs.Reads.{has_held_by_other, is_by_other, stored}
use Rattle.mq_calls.specs.Steps.{Part, do_all, logged}
use Rattle.mq_law_idle.specs.Counts.{free_in, held_in}
use Rattle.mq_law_idle.proofs.Counted.{kept_rows}
use Rattle.mq_law_seized.proofs.Each.{kept_behind, parts_keep}
use Rattle.mq_law_node.specs.Rows.{RowKind, row_kind, rows_at, rows_do}
use Rattle.mq_law_node.proofs.Aside.{not_true}
use Rattle.mq_law_node.proofs.Named.{name_is}
use Rattle.mq_law_node.proofs.RowLaws.{rows_applied}
use Rattle.mq_law_pump.specs.Others.{NoMore, adds_none, parts_add_none}

-- HOW ROWS MAY SHRINK
data Shrinks (rows before : List Row) : Type 0 where
  stay : rows ≡ before → Shrinks rows before
  kept : (test : Row → Bool) → rows ≡ keep test before → Shrinks rows before
  gone : rows ≡ [] → Shrinks rows before

-- none is held by another than this channel's batch
abbrev NoOther : List ℕ → List Row → Type 0
NoOther channel rows = list_any (λ (row : Row). is_by_other channel row.by) rows ≡ false

any_kept : (f test : Row → Bool) (rows : List Row) → list_any f rows ≡ false → list_any f (keep test rows) ≡ false
any_kept f test [] h = refl
any_kept f test (r ∷ rs) h = one (test r) refl (any_kept f test rs (tail_none (f r) h))
  where
    tail_none : (b : Bool) → (b || list_any f rs) ≡ false → list_any f rs ≡ false
    tail_none true x = absurd cc
    tail_none false x = x

    head_none : (b : Bool) → (b || list_any f rs) ≡ false → b ≡ false
    head_none true x = absurd cc
    head_none false x = refl

    one : (b : Bool) → test r ≡ b → list_any f (keep test rs) ≡ false → list_any f (keep test (r ∷ rs)) ≡ false
    one true is x = ap (λ (b : Bool). list_any f (if b then r ∷ keep test rs else keep test rs)) is ∙ ap (λ (b : Bool). b || list_any f (keep test rs)) (head_none (f r) h) ∙ x
    one false is x = ap (λ (b : Bool). list_any f (if b then r ∷ keep test rs else keep test rs)) is ∙ x

shrunk_more : (rows before : List Row) → Shrinks rows before → NoMore rows before
shrunk_more rows before (stay is) = record { free = omega (arith, ap free_in is); held = omega (arith, ap held_in is) }
shrunk_more rows before (kept test is) = let h = kept_rows test before in record { free = omega (arith, ap free_in is, h.0); held = omega (arith, ap held_in is, h.1) }
shrunk_more rows before (gone is) = record { free = omega (arith, ap free_in is); held = omega (arith, ap held_in is) }

shrunk_other : (channel : List ℕ) (rows before : List Row) → Shrinks rows before → NoOther channel before → NoOther channel rows
shrunk_other channel rows before (stay is) h = subst (NoOther channel) (sym is) h
shrunk_other channel rows before (kept test is) h = subst (NoOther channel) (sym is) (any_kept (λ (row : Row). is_by_other channel row.by) test before h)
shrunk_other channel rows before (gone is) h = subst (NoOther channel) (sym is) refl

-- EACH CHANGE
retag_none : (f : Row → Row) (test : Row → Bool) (rows : List Row) → list_any test rows ≡ false → ((r : Row) → test r ≡ false → f r ≡ r) → retag f rows ≡ rows
retag_none f test [] none h = refl
retag_none f test (r ∷ rs) none h = λ i. h r (head_none (test r) none) i ∷ retag_none f test rs (tail_none (test r) none) h i
  where
    tail_none : (b : Bool) → (b || list_any test rs) ≡ false → list_any test rs ≡ false
    tail_none true x = absurd cc
    tail_none false x = x

    head_none : (b : Bool) → (b || list_any test rs) ≡ false → b ≡ false
    head_none true x = absurd cc
    head_none false x = refl

retag_all : (f : Row → Row) (rows : List Row) → ((r : Row) → f r ≡ r) → retag f rows ≡ rows
retag_all f [] h = refl
retag_all f (r ∷ rs) h = λ i. h r i ∷ retag_all f rs h i

if_placed : (b : Bool) (x : RowKind) (arrivals : ℕ) (rows : List Row) → b ≡ false → rows_do (if b then x else RowKind.Same) arrivals rows ≡ rows
if_placed true x arrivals rows h = absurd cc
if_placed false x arrivals rows h = refl

if_emptied : (b : Bool) (arrivals : ℕ) (rows : List Row) → Shrinks (rows_do (if b then RowKind.Emptied else RowKind.Same) arrivals rows) rows
if_emptied true arrivals rows = gone refl
if_emptied false arrivals rows = stay refl

-- who holds a row that no other holds isn't another channel's batch
held_not : (channel other : List ℕ) (by_ : Option Holder) → is_by_other channel by_ ≡ false → bytes_eq channel other ≡ false → held_by (holders.Batch other) by_ ≡ false
held_not channel other None h apart = refl
held_not channel other (Some (holders.Unit n)) h apart = absurd cc
held_not channel other (Some (holders.Batch c)) h apart = one (bytes_eq other c) refl (not_false (bytes_eq channel c) h)
  where
    not_false : (b : Bool) → not b ≡ false → b ≡ true
    not_false true x = refl
    not_false false x = absurd cc

    clash : (b : Bool) → b ≡ true → b ≡ false → ⊥
    clash b x y = absurd cc

    one : (b : Bool) → bytes_eq other c ≡ b → bytes_eq channel c ≡ true → held_by (holders.Batch other) (Some (holders.Batch c)) ≡ false
    one true is mine = absurd (clash (bytes_eq channel other) (ap (bytes_eq channel) (name_is other c is) ∙ mine) apart)
    one false is mine = is

change_shrinks : (channel q : List ℕ) (c : Change) (p : Plain) → adds_none channel q c ≡ true → NoOther channel (rows_at q p) → Shrinks (rows_do (row_kind q c p) (stored q p).arrivals (rows_at q p)) (rows_at q p)
change_shrinks channel q (Place other m) p h none = stay (if_placed (bytes_eq q other) (RowKind.Placed (lane_of (local_of other p.definitions) m.md.priority) m) (stored q p).arrivals (rows_at q p) (not_true (bytes_eq q other) h))
change_shrinks channel q (Leave which) p h none = kept (λ (row : Row). not (selects which q row)) refl
change_shrinks channel q (Hold (Among other idents) by_) p h none =
    stay (retag_all (λ (row : Row). retag_if (selects (Among other idents) q row && is_free row) (Some by_) row) (rows_at q p) (λ r. ap (λ (b : Bool). retag_if ((b && list_any (same_ident r.message.ident) idents) && is_free r) (Some by_) r) (not_true (bytes_eq q other) h)))
change_shrinks channel q (Hold (HeldBy holder) by_) p h none = absurd cc
change_shrinks channel q (Hold HeldByUnits by_) p h none = absurd cc
change_shrinks channel q (Hold Nonpersistent by_) p h none = absurd cc
change_shrinks channel q (Release (HeldBy (holders.Batch other)) counted) p h none =
    stay (retag_none (λ (row : Row). release_if (selects (HeldBy (holders.Batch other)) q row && not (is_free row)) counted row) (λ (row : Row). is_by_other channel row.by) (rows_at q p) none
    (λ r free. ap (λ (b : Bool). release_if (b && not (is_free r)) counted r) (held_not channel other r.by free (not_true (bytes_eq channel other) h))))
change_shrinks channel q (Release (HeldBy (holders.Unit n)) counted) p h none = absurd cc
change_shrinks channel q (Release (Among other idents) counted) p h none = absurd cc
change_shrinks channel q (Release HeldByUnits counted) p h none = absurd cc
change_shrinks channel q (Release Nonpersistent counted) p h none = absurd cc
change_shrinks channel q (Renew other) p h none = if_emptied (bytes_eq q other) (stored q p).arrivals (rows_at q p)
change_shrinks channel q (DropQueue other) p h none = if_emptied (bytes_eq q other) (stored q p).arrivals (rows_at q p)
change_shrinks channel q c p h none = stay refl

-- ALL CHANGES
pub record Stays (channel q : List ℕ) (p v : Plain) : Type 0 where
  pub more : NoMore (rows_at q v) (rows_at q p)
  pub other : has_held_by_other channel q v ≡ false

stays_behind : (channel q : List ℕ) (p v u : Plain) → Stays channel q p v → Stays channel q v u → Stays channel q p u
stays_behind channel q p v u a b = record { more = record { free = omega (arith, a.more.free, b.more.free); held = omega (arith, a.more.held, b.more.held) }; other = b.other }

change_stays : (channel q : List ℕ) (c : Change) (p : Plain) → adds_none channel q c ≡ true → has_held_by_other channel q p ≡ false → Stays channel q p (apply c p)
change_stays channel q c p h none =
    let s : Shrinks (rows_at q (apply c p)) (rows_at q p) = subst (λ (rs : List Row). Shrinks rs (rows_at q p)) (sym (rows_applied q c p)) (change_shrinks channel q c p h none) in
    record { more = shrunk_more (rows_at q (apply c p)) (rows_at q p) s; other = shrunk_other channel (rows_at q (apply c p)) (rows_at q p) s none }

same_stays : (channel q : List ℕ) (p : Plain) → has_held_by_other channel q p ≡ false → Stays channel q p p
same_stays channel q p none = record { more = record { free = omega arith; held = omega arith }; other = none }

logged_stays : (channel q : List ℕ) (o : Option LogRecord) (p : Plain) → has_held_by_other channel q p ≡ false → Stays channel q p (logged o p)
logged_stays channel q None p none = same_stays channel q p none
logged_stays channel q (Some r) p none = record { more = record { free = omega arith; held = omega arith }; other = none }

pub parts_stay : (channel q : List ℕ) (parts : List Part) (p : Plain) → parts_add_none channel q parts ≡ true → has_held_by_other channel q p ≡ false → Stays channel q p (do_all parts p)
parts_stay channel q parts p h none = kept_behind (Stays channel q p) parts p (same_stays channel q p none) (parts_keep (adds_none channel q) (Stays channel q p)
    (λ c v z s. stays_behind channel q p v (apply c v) s (change_stays channel q c v z s.other)) (λ o v s. stays_behind channel q p v (logged o v) s (logged_stays channel q o v s.other)) parts p h (same_stays channel q p none))

pub parts_no_more : (channel q : List ℕ) (parts : List Part) (p : Plain) → parts_add_none channel q parts ≡ true → has_held_by_other channel q p ≡ false → NoMore (rows_at q (do_all parts p)) (rows_at q p)
parts_no_more channel q parts p h none = (parts_stay channel q parts p h none).more
