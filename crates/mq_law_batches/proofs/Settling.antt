-- A unit that is prepared, and one in doubt that is settled, as changes of the network: the facts are kept.
use Rattle.std.proofs.Common.{ℕ, ◌≡◌, ◌≢◌, Bool, true, false, not, List, [], ◌∷◌, refl, ap, sym, subst, ◌∙◌}
use Rattle.std.specs.Prelude.{Option, Some, None, ◌==◌, if◌then◌else◌, ◌&&◌, slice_get, is_some}
use Rattle.std.specs.Str.{bytes_eq}
use Rattle.mq_message.specs.declared.message.Ident.{Ident}
use Rattle.mq_message.specs.declared.place.Holder.TheVariants as holders
use Rattle.mq_queue.specs.declared.row.Row.{Row}
use Rattle.mq_queue.specs.Rows.{held_by, keep, retag}
use Rattle.mq_sync.specs.declared.unit.Unit.{Unit as Luw}
use Rattle.mq_sync.specs.Units.{same_unit}
use Rattle.mq_sync.specs.declared.data.InDoubt.{InDoubt}
use Rattle.mq_sync.specs.declared.data.SenderData.{SenderData}
use Rattle.mq_sync.specs.Settlement.{data_prepared, data_settled, settle_by}
use Rattle.mq_history.specs.declared.scenario.Scenario.{Scenario}
use Rattle.mq_calls.specs.State.{Plain}
use Rattle.mq_calls.specs.declared.state.Batch.{Batch}
use Rattle.mq_calls.specs.State.Which.{HeldBy}
use Rattle.mq_calls.specs.State.Change.{Leave}
use Rattle.mq_calls.specs.Reads.{batch_of, connection_at, in_doubt_of, sender_data, sender_in, stored}
use Rattle.mq_calls.specs.Changes.{apply_all, release_if}
use Rattle.mq_spec_manager.specs.Batches.{prepared_changes, prepared_doubt}
use Rattle.mq_law_events.specs.from_spec_network.Ledger.{unit_of}
use Rattle.mq_law_events.specs.from_law_rows.Families.{put_at}
use Rattle.mq_law_events.specs.from_law_rows.World.{Book, Ghost, Inv, World, is_last}
use Rattle.mq_law_events.specs.from_law_rows.Kinds.{after, freed, ghost_force}
use Rattle.mq_law_events.proofs.from_law_rows.Batches.{releases_batch}
use Rattle.mq_law_events.proofs.from_law_rows.Holding as holding
use Rattle.mq_law_events.proofs.from_law_rows.Settling.{drops_batch, forces_unit}
use Rattle.mq_law_events.proofs.from_law_rows.Lists.{bool_case, eqb_self, eqb_yes, name_yes}
use Rattle.mq_law_events.specs.from_law_seen.Seen.{doubt_of, held_unit, holds_of, last_of, rows_of, units_of, world_of}
use Rattle.mq_law_events.proofs.from_law_manager.Named.{batch_dropped, sender_set}
use Rattle.mq_law_events.specs.Tied.{IsNext}
use Rattle.mq_law_events.proofs.Putting.{rows_after}
use Rattle.mq_law_batches.specs.Releases.{settled_changes}
use Rattle.mq_law_batches.proofs.Releasing.{IsNear, lasts, released_rows, retag_self}

-- One manager's rows and units as others have them, in a network where it alone is another

abbrev pub shaped : World → (ℕ → List ℕ → List Row) → (ℕ → List ℕ → Option Luw) → (ℕ → List ℕ → Bool) → World
shaped w rows holds doubt = record { rows = rows; units = w.units; given = w.given; holds = holds; doubt = doubt; last = w.last }

pub record IsPart (m : ℕ) (p q : Plain) (ps : List Plain) (rows : ℕ → List ℕ → List Row) (holds : ℕ → List ℕ → Option Luw) (doubt : ℕ → List ℕ → Bool) : Type 0 where
  pub rows_here : (a : ℕ) (d : List ℕ) → (a == m) ≡ true → slice_get ps a ≡ Some p → rows a d ≡ (stored d q).rows
  pub rows_else : (a : ℕ) (d : List ℕ) → (a == m) ≡ false → rows a d ≡ rows_of d (slice_get ps a)
  pub holds_here : (a : ℕ) (d : List ℕ) → (a == m) ≡ true → slice_get ps a ≡ Some p → holds a d ≡ holds_of d (Some q)
  pub holds_else : (a : ℕ) (d : List ℕ) → (a == m) ≡ false → holds a d ≡ holds_of d (slice_get ps a)
  pub doubt_here : (a : ℕ) (d : List ℕ) → (a == m) ≡ true → slice_get ps a ≡ Some p → doubt a d ≡ doubt_of d (Some q)
  pub doubt_else : (a : ℕ) (d : List ℕ) → (a == m) ≡ false → doubt a d ≡ doubt_of d (slice_get ps a)

pub looks : (s : Scenario) (given : Ident → Bool) (m : ℕ) (p q : Plain) (ps qs : List Plain) (rows : ℕ → List ℕ → List Row) (holds : ℕ → List ℕ → Option Luw) (doubt : ℕ → List ℕ → Bool) → IsNext m p q ps qs → IsNear p q → q.connections ≡ p.connections
    → IsPart m p q ps rows holds doubt → world_of s given qs ≡ shaped (world_of s given ps) rows holds doubt
looks s given m p q ps qs rows holds doubt n near same o = λ i. record {
  rows = λ a d. rows_seen a d i;
  units = λ a k. units_seen a k i;
  given = given;
  holds = λ a d. holds_seen a d i;
  doubt = λ a d. doubt_seen a d i;
  last = λ a d. lasts s m p q ps qs d a n near i;
}
  where
    rows_seen : (a : ℕ) (d : List ℕ) → rows_of d (slice_get qs a) ≡ rows a d
    rows_seen a d = bool_case (a == m) (λ t. (a == m) ≡ t → rows_of d (slice_get qs a) ≡ rows a d)
        (λ z w. let is : a ≡ m = eqb_yes a m w in ap (rows_of d) (ap (slice_get qs) is ∙ n.to) ∙ sym (o.rows_here a d w (ap (slice_get ps) is ∙ n.at)))
        (λ z w. ap (rows_of d) (n.others a w) ∙ sym (o.rows_else a d w)) refl

    units_seen : (a k : ℕ) → units_of k (slice_get qs a) ≡ units_of k (slice_get ps a)
    units_seen a k = bool_case (a == m) (λ t. (a == m) ≡ t → units_of k (slice_get qs a) ≡ units_of k (slice_get ps a))
        (λ z w. let is : a ≡ m = eqb_yes a m w in ap (units_of k) (ap (slice_get qs) is ∙ n.to) ∙ (λ i. unit_of (connection_at k (same i))) ∙ sym (ap (units_of k) (ap (slice_get ps) is ∙ n.at)))
        (λ z w. ap (units_of k) (n.others a w)) refl

    holds_seen : (a : ℕ) (d : List ℕ) → holds_of d (slice_get qs a) ≡ holds a d
    holds_seen a d = bool_case (a == m) (λ t. (a == m) ≡ t → holds_of d (slice_get qs a) ≡ holds a d)
        (λ z w. let is : a ≡ m = eqb_yes a m w in ap (holds_of d) (ap (slice_get qs) is ∙ n.to) ∙ sym (o.holds_here a d w (ap (slice_get ps) is ∙ n.at)))
        (λ z w. ap (holds_of d) (n.others a w) ∙ sym (o.holds_else a d w)) refl

    doubt_seen : (a : ℕ) (d : List ℕ) → doubt_of d (slice_get qs a) ≡ doubt a d
    doubt_seen a d = bool_case (a == m) (λ t. (a == m) ≡ t → doubt_of d (slice_get qs a) ≡ doubt a d)
        (λ z w. let is : a ≡ m = eqb_yes a m w in ap (doubt_of d) (ap (slice_get qs) is ∙ n.to) ∙ sym (o.doubt_here a d w (ap (slice_get ps) is ∙ n.at)))
        (λ z w. ap (doubt_of d) (n.others a w) ∙ sym (o.doubt_else a d w)) refl

pub put_here : {A : Type 0} (f : ℕ → List ℕ → A) (m : ℕ) (c : List ℕ) (x : A) (a : ℕ) (d : List ℕ) → (a == m) ≡ true → put_at f m c x a d ≡ (if bytes_eq d c then x else f a d)
put_here f m c x a d e = ap (λ t. if t && bytes_eq d c then x else f a d) e

pub put_else : {A : Type 0} (f : ℕ → List ℕ → A) (m : ℕ) (c : List ℕ) (x : A) (a : ℕ) (d : List ℕ) → (a == m) ≡ false → put_at f m c x a d ≡ f a d
put_else f m c x a d e = ap (λ t. if t && bytes_eq d c then x else f a d) e

-- Prepared

abbrev prepared_data : ℕ → Batch → SenderData → SenderData
prepared_data last b x = data_prepared (prepared_doubt last b) x

pub prepared_holds : (c d : List ℕ) (last : ℕ) (b : Batch) (x : SenderData) (p : Plain) → batch_of c p.channels.batches ≡ Some b → in_doubt_of (sender_data c p) ≡ None → holds_of d (Some (apply_all (prepared_changes c last b x) p)) ≡ holds_of d (Some p)
prepared_holds c d last b x p there none =
    (λ i. held_unit (in_doubt_of (sender_set d c (prepared_data last b x) p.channels.senders i)) (batch_dropped d c p.channels.batches i)) ∙ by (bytes_eq d c) refl
  where
    by : (t : Bool) → bytes_eq d c ≡ t → held_unit (in_doubt_of (if t then Some (prepared_data last b x) else sender_in d p.channels.senders)) (if t then None else batch_of d p.channels.batches) ≡ held_unit (in_doubt_of (sender_in d p.channels.senders)) (batch_of d p.channels.batches)
    by true e = sym ((λ i. held_unit (in_doubt_of (sender_in (name_yes d c e i) p.channels.senders)) (batch_of (name_yes d c e i) p.channels.batches)) ∙ (λ i. held_unit (none i) (there i)))
    by false e = refl

pub prepared_doubts : (c d : List ℕ) (last : ℕ) (b : Batch) (x : SenderData) (p : Plain) → doubt_of d (Some (apply_all (prepared_changes c last b x) p)) ≡ (if bytes_eq d c then true else doubt_of d (Some p))
prepared_doubts c d last b x p = ap (λ o. is_some (in_doubt_of o)) (sender_set d c (prepared_data last b x) p.channels.senders) ∙ by (bytes_eq d c)
  where
    by : (t : Bool) → is_some (in_doubt_of (if t then Some (prepared_data last b x) else sender_in d p.channels.senders)) ≡ (if t then true else is_some (in_doubt_of (sender_in d p.channels.senders)))
    by true = refl
    by false = refl

pub prepares : (s : Scenario) (given : Ident → Bool) (m : ℕ) (p : Plain) (ps qs : List Plain) (c : List ℕ) (last : ℕ) (b : Batch) (x : SenderData) (g : Ghost) (k : Book) → IsNext m p (apply_all (prepared_changes c last b x) p) ps qs → batch_of c p.channels.batches ≡ Some b
    → in_doubt_of (sender_data c p) ≡ None → last_of s ps c (Some p) ≢ b.unit → Inv (world_of s given ps) g k → Inv (world_of s given qs) g k
prepares s given m p ps qs c last b x g k n there none apart h =
    let w : World = world_of s given ps in
    let e = looks s given m p (apply_all (prepared_changes c last b x) p) ps qs w.rows w.holds (put_at w.doubt m c true) n (record { given = refl; receivers = λ c. refl }) refl (record {
      rows_here = λ a d e f. ap (rows_of d) f;
      rows_else = λ a d e. refl;
      holds_here = λ a d e f. ap (holds_of d) f ∙ sym (prepared_holds c d last b x p there none);
      holds_else = λ a d e. refl;
      doubt_here = λ a d e f. put_here w.doubt m c true a d e ∙ ap (λ o. if bytes_eq d c then true else doubt_of d o) f ∙ sym (prepared_doubts c d last b x p);
      doubt_else = λ a d e. put_else w.doubt m c true a d e;
    }) in
    subst (λ (v : World). Inv v g k) (sym e) (holding.prepares w g k m c b.unit h (ap (holds_of c) n.at ∙ (λ i. held_unit (none i) (there i))) (λ f. apart (sym (ap (last_of s ps c) n.at) ∙ f)))

-- Settled

settled_none : (commit : Bool) (x : SenderData) → (data_settled (Some (settle_by commit)) x).in_doubt ≡ None
settled_none true x = refl
settled_none false x = refl

gone : (commit : Bool) (c d : List ℕ) (x : SenderData) (p : Plain) → batch_of c p.channels.batches ≡ None → (t : Bool) → bytes_eq d c ≡ t
    → held_unit (in_doubt_of (if t then Some (data_settled (Some (settle_by commit)) x) else sender_in d p.channels.senders)) (batch_of d p.channels.batches) ≡ (if t then None else held_unit (in_doubt_of (sender_in d p.channels.senders)) (batch_of d p.channels.batches))
gone commit c d x p none true e = (λ i. held_unit (settled_none commit x i) (batch_of (name_yes d c e i) p.channels.batches)) ∙ ap (held_unit None) none
gone commit c d x p none false e = refl

sure : (commit : Bool) (d : List ℕ) (x : SenderData) (p : Plain) (t : Bool)
    → is_some (in_doubt_of (if t then Some (data_settled (Some (settle_by commit)) x) else sender_in d p.channels.senders)) ≡ (if t then false else is_some (in_doubt_of (sender_in d p.channels.senders)))
sure commit d x p true = ap is_some (settled_none commit x)
sure commit d x p false = refl

pub settled_holds : (commit : Bool) (c d : List ℕ) (x : SenderData) (p : Plain) → batch_of c p.channels.batches ≡ None → holds_of d (Some (apply_all (settled_changes commit c x) p)) ≡ (if bytes_eq d c then None else holds_of d (Some p))
settled_holds true c d x p none = ap (λ o. held_unit (in_doubt_of o) (batch_of d p.channels.batches)) (sender_set d c (data_settled (Some (settle_by true)) x) p.channels.senders) ∙ gone true c d x p none (bytes_eq d c) refl
settled_holds false c d x p none = ap (λ o. held_unit (in_doubt_of o) (batch_of d p.channels.batches)) (sender_set d c (data_settled (Some (settle_by false)) x) p.channels.senders) ∙ gone false c d x p none (bytes_eq d c) refl

pub settled_doubts : (commit : Bool) (c d : List ℕ) (x : SenderData) (p : Plain) → doubt_of d (Some (apply_all (settled_changes commit c x) p)) ≡ (if bytes_eq d c then false else doubt_of d (Some p))
settled_doubts true c d x p = ap (λ o. is_some (in_doubt_of o)) (sender_set d c (data_settled (Some (settle_by true)) x) p.channels.senders) ∙ sure true d x p (bytes_eq d c)
settled_doubts false c d x p = ap (λ o. is_some (in_doubt_of o)) (sender_set d c (data_settled (Some (settle_by false)) x) p.channels.senders) ∙ sure false d x p (bytes_eq d c)

keep_self : (xs : List Row) → xs ≡ keep (λ y. true) xs
keep_self [] = refl
keep_self (x ∷ xs) = ap (λ ys. x ∷ ys) (keep_self xs)

-- what a settlement leaves of the channels, whatever it does to rows
settled_part : (s : Scenario) (given : Ident → Bool) (commit : Bool) (m : ℕ) (p : Plain) (ps : List Plain) (c : List ℕ) (x : SenderData) (rows : ℕ → List ℕ → List Row) → batch_of c p.channels.batches ≡ None
    → ((a : ℕ) (d : List ℕ) → (a == m) ≡ true → slice_get ps a ≡ Some p → rows a d ≡ (stored d (apply_all (settled_changes commit c x) p)).rows) → ((a : ℕ) (d : List ℕ) → (a == m) ≡ false → rows a d ≡ rows_of d (slice_get ps a))
    → IsPart m p (apply_all (settled_changes commit c x) p) ps rows (put_at (world_of s given ps).holds m c None) (put_at (world_of s given ps).doubt m c false)
settled_part s given commit m p ps c x rows none here elsewhere =
    let w : World = world_of s given ps in
    record {
      rows_here = here;
      rows_else = elsewhere;
      holds_here = λ a d e f. put_here w.holds m c None a d e ∙ ap (λ o. if bytes_eq d c then None else holds_of d o) f ∙ sym (settled_holds commit c d x p none);
      holds_else = λ a d e. put_else w.holds m c None a d e;
      doubt_here = λ a d e f. put_here w.doubt m c false a d e ∙ ap (λ o. if bytes_eq d c then false else doubt_of d o) f ∙ sym (settled_doubts commit c d x p);
      doubt_else = λ a d e. put_else w.doubt m c false a d e;
    }

dropped_world : (s : Scenario) (given : Ident → Bool) (m : ℕ) (p : Plain) (ps qs : List Plain) (c : List ℕ) (x : SenderData) → IsNext m p (apply_all (settled_changes true c x) p) ps qs → batch_of c p.channels.batches ≡ None
    → world_of s given qs ≡ shaped (world_of s given ps) (λ a d. keep (λ y. not ((a == m) && held_by (holders.Batch c) y.by)) (rows_of d (slice_get ps a))) (put_at (world_of s given ps).holds m c None) (put_at (world_of s given ps).doubt m c false)
dropped_world s given m p ps qs c x n none =
    looks s given m p (apply_all (settled_changes true c x) p) ps qs (λ a d. keep (λ y. not ((a == m) && held_by (holders.Batch c) y.by)) (rows_of d (slice_get ps a))) (put_at (world_of s given ps).holds m c None) (put_at (world_of s given ps).doubt m c false) n
    (record { given = refl; receivers = λ c. refl }) refl (settled_part s given true m p ps c x (λ a d. keep (λ y. not ((a == m) && held_by (holders.Batch c) y.by)) (rows_of d (slice_get ps a))) none
    (λ a d e f. (λ i. keep (λ y. not (e i && held_by (holders.Batch c) y.by)) (rows_of d (f i))) ∙ sym (rows_after (Leave (HeldBy (holders.Batch c))) p d tt))
    (λ a d e. (λ i. keep (λ y. not (e i && held_by (holders.Batch c) y.by)) (rows_of d (slice_get ps a))) ∙ sym (keep_self (rows_of d (slice_get ps a)))))

freed_world : (s : Scenario) (given : Ident → Bool) (m : ℕ) (p : Plain) (ps qs : List Plain) (c : List ℕ) (x : SenderData) → IsNext m p (apply_all (settled_changes false c x) p) ps qs → batch_of c p.channels.batches ≡ None
    → world_of s given qs ≡ shaped (world_of s given ps) (λ a d. retag (λ y. release_if ((a == m) && held_by (holders.Batch c) y.by) false y) (rows_of d (slice_get ps a))) (put_at (world_of s given ps).holds m c None) (put_at (world_of s given ps).doubt m c false)
freed_world s given m p ps qs c x n none =
    looks s given m p (apply_all (settled_changes false c x) p) ps qs (λ a d. retag (λ y. release_if ((a == m) && held_by (holders.Batch c) y.by) false y) (rows_of d (slice_get ps a))) (put_at (world_of s given ps).holds m c None) (put_at (world_of s given ps).doubt m c false) n
    (record { given = refl; receivers = λ c. refl }) refl (settled_part s given false m p ps c x (λ a d. retag (λ y. release_if ((a == m) && held_by (holders.Batch c) y.by) false y) (rows_of d (slice_get ps a))) none
    (λ a d e f. (λ i. retag (λ y. release_if (e i && held_by (holders.Batch c) y.by) false y) (rows_of d (f i))) ∙ sym (released_rows c d p))
    (λ a d e. (λ i. retag (λ y. release_if (e i && held_by (holders.Batch c) y.by) false y) (rows_of d (slice_get ps a))) ∙ sym (retag_self (rows_of d (slice_get ps a)))))

unit_self : (u : Luw) → same_unit u u ≡ true
unit_self u = λ i. eqb_self u.session i && eqb_self u.n i

-- the unit is its receiver's last: its rows go, and count there
pub drops : (s : Scenario) (given : Ident → Bool) (m : ℕ) (p : Plain) (ps qs : List Plain) (c : List ℕ) (x : SenderData) (y : InDoubt) (g : Ghost) (k : Book) → IsNext m p (apply_all (settled_changes true c x) p) ps qs → batch_of c p.channels.batches ≡ None
    → in_doubt_of (sender_data c p) ≡ Some y → last_of s ps c (Some p) ≡ y.unit → Inv (world_of s given ps) g k → Inv (world_of s given qs) g k
drops s given m p ps qs c x y g k n none held is h =
    subst (λ (v : World). Inv v g k) (sym (dropped_world s given m p ps qs c x n none)) (drops_batch (world_of s given ps) g k m c h
    ((λ i. doubt_of c (n.at i) && is_last (holds_of c (n.at i)) (last_of s ps c (n.at i))) ∙ (λ i. is_some (held i) && is_last (held_unit (held i) (batch_of c p.channels.batches)) (is i)) ∙ unit_self y.unit))

-- an operator commits it before its receiver does
pub forces : (s : Scenario) (given : Ident → Bool) (m : ℕ) (p : Plain) (ps qs : List Plain) (c : List ℕ) (x : SenderData) (y : InDoubt) (g : Ghost) (k : Book) → IsNext m p (apply_all (settled_changes true c x) p) ps qs → batch_of c p.channels.batches ≡ None
    → in_doubt_of (sender_data c p) ≡ Some y → last_of s ps c (Some p) ≢ y.unit → Inv (world_of s given ps) g k → Inv (world_of s given qs) (ghost_force g m c y.unit) k
forces s given m p ps qs c x y g k n none held apart h =
    subst (λ (v : World). Inv v (ghost_force g m c y.unit) k) (sym (dropped_world s given m p ps qs c x n none)) (forces_unit (world_of s given ps) g k m c y.unit h
    (ap (holds_of c) n.at ∙ (λ i. held_unit (held i) (batch_of c p.channels.batches))) (λ f. apart (sym (ap (last_of s ps c) n.at) ∙ f)))

abbrev some_or : Luw → Option Luw → Luw
some_or u None = u
some_or u (Some v) = v

-- it is backed out, before its receiver has it
pub backs_out : (s : Scenario) (given : Ident → Bool) (m : ℕ) (p : Plain) (ps qs : List Plain) (c : List ℕ) (x : SenderData) (y : InDoubt) (g : Ghost) (k : Book) → IsNext m p (apply_all (settled_changes false c x) p) ps qs → batch_of c p.channels.batches ≡ None
    → in_doubt_of (sender_data c p) ≡ Some y → last_of s ps c (Some p) ≢ y.unit → Inv (world_of s given ps) g k → Inv (world_of s given qs) (after g (freed g m c)) k
backs_out s given m p ps qs c x y g k n none held apart h =
    subst (λ (v : World). Inv v (after g (freed g m c)) k) (sym (freed_world s given m p ps qs c x n none)) (releases_batch (world_of s given ps) g k m c false h
    (λ u e f. apart (sym (ap (last_of s ps c) n.at) ∙ f ∙ ap (some_or u) (sym e ∙ ap (holds_of c) n.at ∙ (λ i. held_unit (held i) (batch_of c p.channels.batches))))))
