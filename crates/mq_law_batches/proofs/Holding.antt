-- Rows that are held as a channel's batch, as a change of the network: the facts are kept.
use Rattle.std.proofs.Common.{ℕ, ◌≡◌, ◌≢◌, Bool, true, false, List, [], ◌∷◌, refl, ap, sym, subst, ◌∙◌, inl, inr}
use Rattle.std.specs.Prelude.{Option, Some, None, ◌==◌, if◌then◌else◌, ◌&&◌, slice_get, is_some}
use Rattle.std.specs.Str.{bytes_eq}
use Rattle.mq_message.specs.declared.message.Ident.{Ident}
use Rattle.mq_message.specs.declared.place.Holder.{Holder}
use Rattle.mq_message.specs.declared.place.Holder.TheVariants as holders
use Rattle.mq_queue.specs.declared.row.Row.{Row}
use Rattle.mq_queue.specs.Rows.{is_free, retag}
use Rattle.mq_sync.specs.declared.unit.Unit.{Unit as Luw}
use Rattle.mq_history.specs.declared.scenario.Scenario.{Scenario}
use Rattle.mq_calls.specs.State.{Plain}
use Rattle.mq_calls.specs.declared.state.Batch.{Batch}
use Rattle.mq_calls.specs.State.Which.{Among}
use Rattle.mq_calls.specs.State.Change.{Hold}
use Rattle.mq_calls.specs.Reads.{batch_of, in_doubt_of, sender_data, stored}
use Rattle.mq_calls.specs.Changes.{apply_all, retag_if}
use Rattle.mq_law_events.specs.from_spec_network.Promised.{AreDistinct}
use Rattle.mq_law_events.specs.from_spec_network.Story.{Mem}
use Rattle.mq_law_events.specs.from_law_rows.Families.{put_at}
use Rattle.mq_law_events.specs.from_law_rows.World.{Book, Ghost, Inv, Tag, World, idents_in, standing, tag_idents}
use Rattle.mq_law_events.specs.from_law_rows.Kinds.{Chosen, among, ghost_take, ghost_hold}
use Rattle.mq_law_events.specs.from_law_rows.Ordered.{IsFront}
use Rattle.mq_law_events.proofs.from_law_rows.Holding.{takes_batch, only_one}
use Rattle.mq_law_events.proofs.from_law_rows.Receiving.{any_mem}
use Rattle.mq_law_events.proofs.from_law_rows.Lists.{and_left, and_right, bool_case, map_mem, name_yes}
use Rattle.mq_law_events.specs.from_law_seen.Seen.{doubt_of, held_unit, holds_of, last_of, rows_of, world_of}
use Rattle.mq_law_events.proofs.from_law_manager.Named.{batch_set}
use Rattle.mq_law_events.specs.Tied.{IsNext}
use Rattle.mq_law_events.proofs.Putting.{rows_after}
use Rattle.mq_law_batches.specs.Releases.{held_changes}
use Rattle.mq_law_batches.proofs.Releasing.{retag_self}
use Rattle.mq_law_batches.proofs.Settling.{looks, put_else, put_here}

retag_on : (f g : Row → Row) (xs : List Row) → ((x : Row) → Mem x xs → f x ≡ g x) → retag f xs ≡ retag g xs
retag_on f g [] same = refl
retag_on f g (x ∷ xs) same = λ i. same x (inl refl) i ∷ retag_on f g xs (λ y n. same y (inr n)) i

-- the rows that are chosen are free already
chosen_free : (s : Scenario) (given : Ident → Bool) (m : ℕ) (p : Plain) (ps : List Plain) (q : List ℕ) (ts : List Tag) (g : Ghost) (k : Book) → slice_get ps m ≡ Some p → Chosen (world_of s given ps) m q ts → Inv (world_of s given ps) g k
    → (d : List ℕ) (y : Row) → Mem y (stored d p).rows → (bytes_eq d q && among (tag_idents ts) y.message.ident) ≡ true → is_free y ≡ true
chosen_free s given m p ps q ts g k at chosen h d y n e =
    let same : d ≡ q = name_yes d q (and_left (bytes_eq d q) (among (tag_idents ts) y.message.ident) e) in
    let t = map_mem (λ (t : Tag). t.ident) y.message.ident ts (any_mem y.message.ident (tag_idents ts) (and_right (bytes_eq d q) (among (tag_idents ts) y.message.ident) e)) in
    let x = chosen.rows t.0 t.1 in
    let is : y ≡ x.0 = only_one (stored q p).rows y x.0 (subst (λ (o : Option Plain). AreDistinct (idents_in (rows_of q o))) at (h.distinct m q)) (subst (λ (z : List ℕ). Mem y (stored z p).rows) same n)
    (subst (λ (o : Option Plain). Mem x.0 (rows_of q o)) at x.1) (t.2 ∙ ap (λ (z : Tag). z.ident) (sym x.3)) in
    ap (λ (b : Option Holder). is_free (record y { by = b })) (ap (λ (r : Row). r.by) is ∙ x.2)

abbrev batch_held : List ℕ → Luw → List ℕ → List Ident → Batch
batch_held c u q ids = record { channel = c; unit = u; queue = q; idents = ids }

pub held_holds : (c d : List ℕ) (u : Luw) (q : List ℕ) (ids : List Ident) (p : Plain) → in_doubt_of (sender_data c p) ≡ None → holds_of d (Some (apply_all (held_changes c u q ids) p)) ≡ (if bytes_eq d c then Some u else holds_of d (Some p))
held_holds c d u q ids p none = ap (held_unit (in_doubt_of (sender_data d p))) (batch_set d (batch_held c u q ids) p.channels.batches) ∙ by (bytes_eq d c) refl
  where
    by : (t : Bool) → bytes_eq d c ≡ t → held_unit (in_doubt_of (sender_data d p)) (if t then Some (batch_held c u q ids) else batch_of d p.channels.batches) ≡ (if t then Some u else held_unit (in_doubt_of (sender_data d p)) (batch_of d p.channels.batches))
    by true e = ap (λ x. held_unit (in_doubt_of (sender_data x p)) (Some (batch_held c u q ids))) (name_yes d c e) ∙ ap (λ o. held_unit o (Some (batch_held c u q ids))) none
    by false e = refl

pub held_doubts : (c d : List ℕ) (p : Plain) → in_doubt_of (sender_data c p) ≡ None → (t : Bool) → bytes_eq d c ≡ t → (if t then false else is_some (in_doubt_of (sender_data d p))) ≡ is_some (in_doubt_of (sender_data d p))
held_doubts c d p none true e = sym (ap (λ x. is_some (in_doubt_of (sender_data x p))) (name_yes d c e) ∙ ap is_some none)
held_doubts c d p none false e = refl

abbrev rows_held : World → ℕ → List ℕ → List ℕ → List Ident → ℕ → List ℕ → List Row
rows_held w m q c ids a d = retag (λ y. retag_if (((a == m) && bytes_eq d q) && among ids y.message.ident) (Some (holders.Batch c)) y) (w.rows a d)

rows_seen : (s : Scenario) (given : Ident → Bool) (m : ℕ) (p : Plain) (ps : List Plain) (c : List ℕ) (u : Luw) (q : List ℕ) (ts : List Tag) (g : Ghost) (k : Book) → slice_get ps m ≡ Some p → Chosen (world_of s given ps) m q ts → Inv (world_of s given ps) g k
    → (a : ℕ) (d : List ℕ) → (a == m) ≡ true → slice_get ps a ≡ Some p → rows_held (world_of s given ps) m q c (tag_idents ts) a d ≡ (stored d (apply_all (held_changes c u q (tag_idents ts)) p)).rows
rows_seen s given m p ps c u q ts g k at chosen h a d e f =
    let o : Option Holder = Some (holders.Batch c) in
    let ids : List Ident = tag_idents ts in
    (λ i. retag (λ y. retag_if ((e i && bytes_eq d q) && among ids y.message.ident) o y) (rows_of d (f i)))
    ∙ retag_on (λ y. retag_if (bytes_eq d q && among ids y.message.ident) o y) (λ y. retag_if ((bytes_eq d q && among ids y.message.ident) && is_free y) o y) (stored d p).rows
    (λ y n. bool_case (bytes_eq d q && among ids y.message.ident) (λ t. (bytes_eq d q && among ids y.message.ident) ≡ t → retag_if t o y ≡ retag_if (t && is_free y) o y)
    (λ z w. ap (λ t. retag_if t o y) (sym (chosen_free s given m p ps q ts g k at chosen h d y n w))) (λ z w. refl) refl)
    ∙ sym (rows_after (Hold (Among q ids) (holders.Batch c)) p d tt)

pub takes : (s : Scenario) (given : Ident → Bool) (m : ℕ) (p : Plain) (ps qs : List Plain) (c : List ℕ) (u : Luw) (q : List ℕ) (ts : List Tag) (front : Bool) (g : Ghost) (k : Book) → IsNext m p (apply_all (held_changes c u q (tag_idents ts)) p) ps qs
    → batch_of c p.channels.batches ≡ None → in_doubt_of (sender_data c p) ≡ None → last_of s ps c (Some p) ≢ u → g.operated m c u ≡ false → Chosen (world_of s given ps) m q ts
    → (front ≡ true → IsFront (tag_idents ts) (standing (world_of s given ps) m q)) → Inv (world_of s given ps) g k
    → Inv (world_of s given qs) (ghost_take g m q c u ts front) k
takes s given m p ps qs c u q ts front g k n free none apart done chosen first_ h =
    let w : World = world_of s given ps in
    let ids : List Ident = tag_idents ts in
    let e = looks s given m p (apply_all (held_changes c u q ids) p) ps qs (rows_held w m q c ids) (put_at w.holds m c (Some u)) (put_at w.doubt m c false) n (record { given = refl; receivers = λ c. refl }) refl (record {
      rows_here = rows_seen s given m p ps c u q ts g k n.at chosen h;
      rows_else = λ a d e. (λ i. retag (λ y. retag_if ((e i && bytes_eq d q) && among ids y.message.ident) (Some (holders.Batch c)) y) (rows_of d (slice_get ps a))) ∙ sym (retag_self (rows_of d (slice_get ps a)));
      holds_here = λ a d e f. put_here w.holds m c (Some u) a d e ∙ ap (λ o. if bytes_eq d c then Some u else holds_of d o) f ∙ sym (held_holds c d u q ids p none);
      holds_else = λ a d e. put_else w.holds m c (Some u) a d e;
      doubt_here = λ a d e f. put_here w.doubt m c false a d e ∙ ap (λ o. if bytes_eq d c then false else doubt_of d o) f ∙ held_doubts c d p none (bytes_eq d c) refl;
      doubt_else = λ a d e. put_else w.doubt m c false a d e;
    }) in
    subst (λ (v : World). Inv v (ghost_take g m q c u ts front) k) (sym e)
    (takes_batch w g k m q c u ts front h (ap (holds_of c) n.at ∙ (λ i. held_unit (none i) (free i))) (λ f. apart (sym (ap (last_of s ps c) n.at) ∙ f)) done chosen first_)

pub holds : (s : Scenario) (given : Ident → Bool) (m : ℕ) (p : Plain) (ps qs : List Plain) (c : List ℕ) (u : Luw) (q : List ℕ) (ts : List Tag) (g : Ghost) (k : Book) → IsNext m p (apply_all (held_changes c u q (tag_idents ts)) p) ps qs
    → batch_of c p.channels.batches ≡ None → in_doubt_of (sender_data c p) ≡ None → last_of s ps c (Some p) ≢ u → g.operated m c u ≡ false → Chosen (world_of s given ps) m q ts → Inv (world_of s given ps) g k
    → Inv (world_of s given qs) (ghost_hold g m q c u ts) k
holds s given m p ps qs c u q ts g k n free none apart done chosen h = takes s given m p ps qs c u q ts false g k n free none apart done chosen (λ e. absurd cc) h
