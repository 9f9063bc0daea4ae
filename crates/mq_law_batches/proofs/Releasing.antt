-- A manager that releases a batch, as a change of the network: the facts are kept.
use Rattle.std.proofs.Common.{ℕ, ◌≡◌, ◌≢◌, Bool, true, false, not, List, [], ◌∷◌, refl, ap, sym, subst, ◌∙◌}
use Rattle.std.specs.Prelude.{Option, Some, None, ◌==◌, if◌then◌else◌, ◌&&◌, slice_get, is_some}
use Rattle.std.specs.Str.{bytes_eq}
use Rattle.mq_message.specs.declared.message.Ident.{Ident}
use Rattle.mq_message.specs.declared.place.Holder.{Holder}
use Rattle.mq_message.specs.declared.place.Holder.TheVariants as holders
use Rattle.mq_queue.specs.declared.row.Row.{Row}
use Rattle.mq_queue.specs.Rows.{held_by, is_free, retag}
use Rattle.mq_sync.specs.declared.unit.Unit.{Unit as Luw}
use Rattle.mq_history.specs.declared.scenario.CableLine.{CableLine}
use Rattle.mq_history.specs.declared.scenario.Scenario.{Scenario}
use Rattle.mq_calls.specs.State.{Given, Plain}
use Rattle.mq_calls.specs.declared.state.Batch.{Batch}
use Rattle.mq_calls.specs.State.Which.{HeldBy}
use Rattle.mq_calls.specs.State.Change.{Release}
use Rattle.mq_calls.specs.Reads.{batch_of, in_doubt_of, receiver_in, sender_data, stored}
use Rattle.mq_calls.specs.Changes.{apply_all, release_if}
use Rattle.mq_law_events.specs.from_spec_network.Standing.{cable_from, last_unit, last_unit_at, last_unit_of}
use Rattle.mq_law_events.specs.from_law_rows.World.{Book, Ghost, Inv, World}
use Rattle.mq_law_events.specs.from_law_rows.Kinds.{after, freed}
use Rattle.mq_law_events.specs.from_law_rows.Kinds as kinds
use Rattle.mq_law_events.proofs.from_law_rows.Batches.{releases_batch}
use Rattle.mq_law_events.proofs.from_law_rows.Lists.{bool_case, eqb_yes, name_yes}
use Rattle.mq_law_events.specs.from_law_seen.Seen.{doubt_of, held_unit, holds_of, last_of, rows_of, units_of, world_of}
use Rattle.mq_law_events.proofs.from_law_manager.Named.{batch_dropped}
use Rattle.mq_law_events.specs.Tied.{IsNext}
use Rattle.mq_law_events.proofs.Putting.{rows_after}
use Rattle.mq_law_batches.specs.Releases.{release_changes}

-- What a manager's own events leave to the others

pub record IsNear (p q : Plain) : Type 0 where
  pub given : q.given ≡ p.given
  pub receivers : (c : List ℕ) → last_unit_of (receiver_in c q.channels.receivers) ≡ last_unit_of (receiver_in c p.channels.receivers)

last_at : (c : List ℕ) (p q : Plain) (o r : Option Plain) → IsNear p q → o ≡ Some p → r ≡ Some q → last_unit_at c r ≡ last_unit_at c o
last_at c p q o r e x y = ap (last_unit_at c) y ∙ e.receivers c ∙ ap (last_unit_at c) (sym x)

last_same : (m : ℕ) (p q : Plain) (ps qs : List Plain) (c : List ℕ) (x : Option CableLine) → IsNext m p q ps qs → IsNear p q → last_unit qs c x ≡ last_unit ps c x
last_same m p q ps qs c None n e = refl
last_same m p q ps qs c (Some x) n e = bool_case (x.receiver == m) (λ t. (x.receiver == m) ≡ t → last_unit_at c (slice_get qs x.receiver) ≡ last_unit_at c (slice_get ps x.receiver))
    (λ z w. let is : x.receiver ≡ m = eqb_yes x.receiver m w in last_at c p q (slice_get ps x.receiver) (slice_get qs x.receiver) e (ap (slice_get ps) is ∙ n.at) (ap (slice_get qs) is ∙ n.to))
    (λ z w. ap (last_unit_at c) (n.others x.receiver w)) refl

pub last_here : (s : Scenario) (m : ℕ) (p q : Plain) (ps qs : List Plain) (c : List ℕ) → IsNext m p q ps qs → IsNear p q → last_of s qs c (Some q) ≡ last_of s ps c (Some p)
last_here s m p q ps qs c n e = ap (λ (g : Given). last_unit qs c (cable_from g.number c s.cables)) e.given ∙ last_same m p q ps qs c (cable_from p.given.number c s.cables) n e

pub lasts : (s : Scenario) (m : ℕ) (p q : Plain) (ps qs : List Plain) (c : List ℕ) (a : ℕ) → IsNext m p q ps qs → IsNear p q → last_of s qs c (slice_get qs a) ≡ last_of s ps c (slice_get ps a)
lasts s m p q ps qs c a n e = bool_case (a == m) (λ t. (a == m) ≡ t → last_of s qs c (slice_get qs a) ≡ last_of s ps c (slice_get ps a))
    (λ z w. let is : a ≡ m = eqb_yes a m w in
    ap (last_of s qs c) (ap (slice_get qs) is ∙ n.to) ∙ last_here s m p q ps qs c n e ∙ ap (last_of s ps c) (sym (ap (slice_get ps) is ∙ n.at)))
    (λ z w. ap (last_of s qs c) (n.others a w) ∙ elsewhere (slice_get ps a)) refl
  where
    elsewhere : (o : Option Plain) → last_of s qs c o ≡ last_of s ps c o
    elsewhere None = refl
    elsewhere (Some x) = last_same m p q ps qs c (cable_from x.given.number c s.cables) n e

-- Rows

pub retag_self : (xs : List Row) → xs ≡ retag (λ y. y) xs
retag_self [] = refl
retag_self (x ∷ xs) = ap (λ ys. x ∷ ys) (retag_self xs)

pub retag_alike : (f g : Row → Row) (xs : List Row) → ((x : Row) → f x ≡ g x) → retag f xs ≡ retag g xs
retag_alike f g [] same = refl
retag_alike f g (x ∷ xs) same = λ i. same x i ∷ retag_alike f g xs same i

-- a row that the channel's batch holds is free again
abbrev pub batch_freed : List ℕ → Row → Row
batch_freed c y = release_if (held_by (holders.Batch c) y.by) false y

held_is_held : (c : List ℕ) (y : Row) (o : Option Holder) → y.by ≡ o → (held_by (holders.Batch c) y.by && not (is_free y)) ≡ held_by (holders.Batch c) y.by
held_is_held c y None e = (λ i. held_by (holders.Batch c) (e i) && not (elim (e i) as (λ h. Bool) [ None ↦ true | Some h ↦ false ])) ∙ ap (held_by (holders.Batch c)) (sym e)
held_is_held c y (Some h) e = (λ i. held_by (holders.Batch c) (e i) && not (elim (e i) as (λ h. Bool) [ None ↦ true | Some h ↦ false ])) ∙ and_true (held_by (holders.Batch c) (Some h)) ∙ ap (held_by (holders.Batch c)) (sym e)
  where
    and_true : (t : Bool) → (t && true) ≡ t
    and_true true = refl
    and_true false = refl

pub released_rows : (c d : List ℕ) (p : Plain) → (stored d (apply_all (release_changes c) p)).rows ≡ retag (batch_freed c) (stored d p).rows
released_rows c d p = rows_after (Release (HeldBy (holders.Batch c)) false) p d tt ∙ retag_alike _ (batch_freed c) (stored d p).rows (λ y. ap (λ t. release_if t false y) (held_is_held c y y.by refl))

-- The network

released_world : (s : Scenario) (given : Ident → Bool) (m : ℕ) (p : Plain) (ps qs : List Plain) (c : List ℕ) → IsNext m p (apply_all (release_changes c) p) ps qs → in_doubt_of (sender_data c p) ≡ None
    → world_of s given qs ≡ kinds.release_batch (world_of s given ps) m c false
released_world s given m p ps qs c n none = λ i. record {
  rows = λ a d. rows a d i;
  units = λ a k. units a k i;
  given = given;
  holds = λ a d. holds a d i;
  doubt = λ a d. doubt a d i;
  last = λ a d. lasts s m p (apply_all (release_changes c) p) ps qs d a n (record { given = refl; receivers = λ c. refl }) i;
}
  where
    q : Plain
    q = apply_all (release_changes c) p

    rows : (a : ℕ) (d : List ℕ) → rows_of d (slice_get qs a) ≡ retag (λ y. release_if ((a == m) && held_by (holders.Batch c) y.by) false y) (rows_of d (slice_get ps a))
    rows a d = bool_case (a == m) (λ t. (a == m) ≡ t → rows_of d (slice_get qs a) ≡ retag (λ y. release_if (t && held_by (holders.Batch c) y.by) false y) (rows_of d (slice_get ps a)))
        (λ z w. let is : a ≡ m = eqb_yes a m w in ap (rows_of d) (ap (slice_get qs) is ∙ n.to) ∙ released_rows c d p ∙ sym (ap (λ o. retag (batch_freed c) (rows_of d o)) (ap (slice_get ps) is ∙ n.at)))
        (λ z w. ap (rows_of d) (n.others a w) ∙ retag_self (rows_of d (slice_get ps a))) refl

    units : (a k : ℕ) → units_of k (slice_get qs a) ≡ units_of k (slice_get ps a)
    units a k = bool_case (a == m) (λ t. (a == m) ≡ t → units_of k (slice_get qs a) ≡ units_of k (slice_get ps a))
        (λ z w. let is : a ≡ m = eqb_yes a m w in ap (units_of k) (ap (slice_get qs) is ∙ n.to) ∙ sym (ap (units_of k) (ap (slice_get ps) is ∙ n.at)))
        (λ z w. ap (units_of k) (n.others a w)) refl

    held : (d : List ℕ) (t : Bool) → bytes_eq d c ≡ t → held_unit (in_doubt_of (sender_data d p)) (if t then None else batch_of d p.channels.batches) ≡ (if t then None else held_unit (in_doubt_of (sender_data d p)) (batch_of d p.channels.batches))
    held d true e = ap (λ x. held_unit (in_doubt_of (sender_data x p)) None) (name_yes d c e) ∙ ap (λ o. held_unit o None) none
    held d false e = refl

    holds : (a : ℕ) (d : List ℕ) → holds_of d (slice_get qs a) ≡ (if (a == m) && bytes_eq d c then None else holds_of d (slice_get ps a))
    holds a d = bool_case (a == m) (λ t. (a == m) ≡ t → holds_of d (slice_get qs a) ≡ (if t && bytes_eq d c then None else holds_of d (slice_get ps a)))
        (λ z w. let is : a ≡ m = eqb_yes a m w in
        ap (holds_of d) (ap (slice_get qs) is ∙ n.to) ∙ ap (held_unit (in_doubt_of (sender_data d p))) (batch_dropped d c p.channels.batches) ∙ held d (bytes_eq d c) refl
        ∙ sym (ap (λ o. if bytes_eq d c then None else holds_of d o) (ap (slice_get ps) is ∙ n.at)))
        (λ z w. ap (holds_of d) (n.others a w)) refl

    sure : (d : List ℕ) (t : Bool) → bytes_eq d c ≡ t → is_some (in_doubt_of (sender_data d p)) ≡ (if t then false else is_some (in_doubt_of (sender_data d p)))
    sure d true e = ap (λ x. is_some (in_doubt_of (sender_data x p))) (name_yes d c e) ∙ ap is_some none
    sure d false e = refl

    doubt : (a : ℕ) (d : List ℕ) → doubt_of d (slice_get qs a) ≡ (if (a == m) && bytes_eq d c then false else doubt_of d (slice_get ps a))
    doubt a d = bool_case (a == m) (λ t. (a == m) ≡ t → doubt_of d (slice_get qs a) ≡ (if t && bytes_eq d c then false else doubt_of d (slice_get ps a)))
        (λ z w. let is : a ≡ m = eqb_yes a m w in
        ap (doubt_of d) (ap (slice_get qs) is ∙ n.to) ∙ sure d (bytes_eq d c) refl ∙ sym (ap (λ o. if bytes_eq d c then false else doubt_of d o) (ap (slice_get ps) is ∙ n.at)))
        (λ z w. ap (doubt_of d) (n.others a w)) refl

abbrev some_unit : Luw → Option Luw → Luw
some_unit u None = u
some_unit u (Some v) = v

-- a channel that has no unit in doubt holds its batch
pub held_is_batch : (c : List ℕ) (p : Plain) (u : Luw) → in_doubt_of (sender_data c p) ≡ None → holds_of c (Some p) ≡ Some u → (b : Batch) × (batch_of c p.channels.batches ≡ Some b) × (u ≡ b.unit)
held_is_batch c p u none e = go (batch_of c p.channels.batches) refl
  where
    go : (o : Option Batch) → batch_of c p.channels.batches ≡ o → (b : Batch) × (batch_of c p.channels.batches ≡ Some b) × (u ≡ b.unit)
    go None z = let same : None ≡ Some u = sym (λ i. held_unit (none i) (z i)) ∙ e in absurd cc
    go (Some b) z = (b, z, ap (some_unit u) (sym e ∙ (λ i. held_unit (none i) (z i))))

pub releases : (s : Scenario) (given : Ident → Bool) (m : ℕ) (p : Plain) (ps qs : List Plain) (c : List ℕ) (g : Ghost) (k : Book) → IsNext m p (apply_all (release_changes c) p) ps qs → in_doubt_of (sender_data c p) ≡ None
    → ((b : Batch) → batch_of c p.channels.batches ≡ Some b → last_of s ps c (Some p) ≢ b.unit) → Inv (world_of s given ps) g k → Inv (world_of s given qs) (after g (freed g m c)) k
releases s given m p ps qs c g k n none apart h =
    subst (λ (w : World). Inv w (after g (freed g m c)) k) (sym (released_world s given m p ps qs c n none))
    (releases_batch (world_of s given ps) g k m c false h (λ u e f.
    let r = held_is_batch c p u none (sym (ap (holds_of c) n.at) ∙ e) in apart r.0 r.1 (sym (ap (last_of s ps c) n.at) ∙ f ∙ r.2)))
