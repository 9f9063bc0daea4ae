-- A batch that is held; and a stop.
use Rattle.std.proofs.Common.{ℕ, zero, suc, ◌≡◌, ◌≢◌, ◌⊎◌, Bool, true, false, List, [], ◌∷◌, refl, ap, sym, subst, ◌∙◌, take, map, inl, inr}
use Rattle.std.specs.Prelude.{Option, Some, None, if◌then◌else◌, not, ◌&&◌}
use Rattle.std.specs.List.{list_any}
use Rattle.std.specs.Str.{bytes_eq}
use Rattle.mq_message.specs.declared.message.Ident.{Ident}
use Rattle.mq_message.specs.declared.place.Holder.{Holder}
use Rattle.mq_message.specs.declared.place.Holder.TheVariants as holders
use Rattle.mq_queue.specs.declared.row.Row.{Row}
use Rattle.mq_queue.specs.Rows.{same_ident, is_free}
use Rattle.mq_sync.specs.declared.unit.Unit.{Unit as Luw}
use Rattle.mq_calls.specs.declared.records.Add.{Add}
use Rattle.mq_calls.specs.State.{Plain, Change, Which, Running}
use Rattle.mq_calls.specs.declared.state.Batch.{Batch}
use Rattle.mq_calls.specs.State.Which.{Among, HeldBy, HeldByUnits, Nonpersistent}
use Rattle.mq_calls.specs.State.Change.{Hold, Leave, Release, AddBatch, ForgetAll}
use Rattle.mq_calls.specs.State.Running.{Up, Down}
use Rattle.mq_calls.specs.Reads.{batch_of, free_rows, is_by_unit}
use Rattle.mq_calls.specs.Changes.{apply, apply_all, selects, retag_if, release_if}
use Rattle.mq_spec_manager.specs.Get.{idents_of}
use Rattle.mq_spec_manager.specs.Stops.{at_rest, stop, stop_at, release_batch}
use Rattle.mq_spec_manager.specs.Agents.{hold_batch, queue_of_sender, CanHold}
use Rattle.mq_law_manager.specs.View.{View, Taken, view, at_name, retagged_all}
use Rattle.mq_law_manager.specs.Facts.{Mem, Sound, Holds}
use Rattle.mq_law_manager.specs.Seen.{goes_if, held_if, freed_if, add_in}
use Rattle.mq_law_manager.specs.Kept.{Keeps}
use Rattle.mq_law_manager.proofs.Lists.{mem_any, bool_case, name_yes, name_self, mem_retag}
use Rattle.mq_law_manager.proofs.Apart as apart
use Rattle.mq_law_manager.proofs.TakenLaws as taken
use Rattle.mq_law_manager.proofs.BatchLaws as batched
use Rattle.mq_law_manager.proofs.OrderLaws as ordered
use Rattle.mq_law_manager.proofs.SeenLaws.{applied}
use Rattle.mq_law_manager.proofs.Steps.{goes, holds_mild, frees_mild, holds_places, frees_places, is_held, free_is, is_free_row, held_row, unheld_row, unfreed_row}
use Rattle.mq_law_manager.proofs.Units.{behind}
use Rattle.mq_law_manager.proofs.Removals.{mem_filter, among_rows}
use Rattle.mq_law_manager.proofs.Batches.{frees_batch}
use Rattle.mq_law_manager.proofs.Objects.{both}

pub take_mem : {A : Type 0} (x : A) (k : ℕ) (xs : List A) → Mem x (take k xs) → Mem x xs
take_mem x zero xs m = absurd m
take_mem x (suc k) [] m = absurd m
take_mem x (suc k) (y ∷ ys) (inl e) = inl e
take_mem x (suc k) (y ∷ ys) (inr m) = inr (take_mem x k ys m)

mem_idents : (r : Row) (rows : List Row) → Mem r rows → Mem r.message.ident (idents_of rows)
mem_idents r [] m = absurd m
mem_idents r (x ∷ xs) (inl e) = inl (ap (λ (y : Row). y.message.ident) e)
mem_idents r (x ∷ xs) (inr m) = inr (mem_idents r xs m)

idents_mem : (i : Ident) (rows : List Row) → Mem i (idents_of rows) → (r : Row) × Mem r rows × (i ≡ r.message.ident)
idents_mem i [] m = absurd m
idents_mem i (x ∷ xs) (inl e) = (x, inl refl, e)
idents_mem i (x ∷ xs) (inr m) = let k = idents_mem i xs m in (k.0, inr k.1, k.2)

-- A batch is held: free rows of a queue, by a channel that held nothing

pub sound_held : (c q : List ℕ) (unit : Luw) (rows : List Row) (p : Plain) → Sound p → (view p).batch c ≡ None → (view p).doubt c ≡ None → ((r : Row) → Mem r rows → Mem r ((view p).rows q) × (r.by ≡ None))
    → Sound (apply_all (Hold (Among q (idents_of rows)) (holders.Batch c) ∷ AddBatch (record { channel = c; unit = unit; queue = q; idents = idents_of rows }) ∷ []) p)
sound_held c q unit rows p h batch doubt free =
    let v : View = view p in
    let which : Which = Among q (idents_of rows) in
    let b : Batch = record { channel = c; unit = unit; queue = q; idents = idents_of rows } in
    let change : List ℕ → Row → Row = held_if which (holders.Batch c) in
    let mild = holds_mild which (holders.Batch c) in
    let each : (d : List ℕ) (x : Row) → Mem x (v.rows d) → ((change d x).by ≡ x.by) ⊎ ((d ≡ b.queue) × (Mem x.message.ident b.idents) × (x.by ≡ None) × ((change d x).by ≡ Some (holders.Batch c))) = λ d x m.
    bool_case (selects which d x && is_free x) (λ t. (selects which d x && is_free x) ≡ t → ((retag_if t (Some (holders.Batch c)) x).by ≡ x.by) ⊎ ((d ≡ b.queue) × (Mem x.message.ident b.idents) × (x.by ≡ None) × ((retag_if t (Some (holders.Batch c)) x).by ≡ Some (holders.Batch c))))
    (λ z w. let e = both (selects which d x) (is_free x) w in
    let s = both (bytes_eq d q) (list_any (same_ident x.message.ident) (idents_of rows)) e.0 in
    let k = among_rows x.message.ident rows s.1 in
    inr (name_yes d q s.0, subst (λ (i : Ident). Mem i (idents_of rows)) (sym k.2) (mem_idents k.0 rows k.1), free_is x e.1, refl))
    (λ z w. inl refl) refl in
    let all : (i : Ident) → Mem i b.idents → (x : Row) × Mem x (v.rows b.queue) × (x.message.ident ≡ i) × ((change b.queue x).by ≡ Some (holders.Batch c)) = λ i m.
    let k = idents_mem i rows m in
    let f = free k.0 k.1 in (
      k.0,
      f.0,
      sym k.2,
      held_row (selects which q k.0 && is_free k.0) (Some (holders.Batch c)) k.0
          (ap (λ (t : Bool). (t && list_any (same_ident k.0.message.ident) (idents_of rows)) && is_free k.0) (name_self q) ∙ ap (λ (t : Bool). t && is_free k.0) (mem_any k.0.message.ident (idents_of rows) (mem_idents k.0 rows k.1)) ∙ is_free_row k.0 f.1),
    ) in
    let hold : Change = Hold which (holders.Batch c) in
    subst Holds (sym (applied (AddBatch b) (apply hold p) tt)) (subst (λ (w : View). Holds (add_in b w)) (sym (applied hold p tt)) (record {
      apart = apart.retags v.rows v.puts v.unborn change (λ d x. mild.ident d x) h.apart;
      taken = taken.retags v.rows v.takes change mild (λ d x n m e. unit_from (selects which d x && is_free x) x n e)
          (λ d x n m e. unheld_row (selects which d x && is_free x) (Some (holders.Batch c)) x (and_last (selects which d x) (is_free x) (is_held x (holders.Unit n) e)) ∙ e) h.taken;
      batched = batched.holds_batch v.rows v.batch v.doubt change c b (λ d x. mild.ident d x) batch doubt each all h.batched;
      ordered = ordered.retags v.rows v.arrivals change (holds_places which (holders.Batch c)) h.ordered;
    }))
  where
    unit_from : (t : Bool) (x : Row) (n : ℕ) → (retag_if t (Some (holders.Batch c)) x).by ≡ Some (holders.Unit n) → x.by ≡ Some (holders.Unit n)
    unit_from true x n e = absurd cc
    unit_from false x n e = e

    and_last : (a b : Bool) → b ≡ false → (a && b) ≡ false
    and_last true b e = e
    and_last false b e = refl

pub hold_batch_keeps : (c : List ℕ) (unit : Luw) (most : ℕ) (p : Plain) → CanHold c p → Sound p → Keeps (hold_batch c unit most p) p
hold_batch_keeps c unit most p can h =
    let q : List ℕ = queue_of_sender c p in
    (sound_held c q unit (take most (free_rows q p)) p h can.batch can.doubt (λ r m. let k = mem_filter r is_free ((view p).rows q) (take_mem r most (free_rows q p) m) in (k.0, free_is r k.1)), tt)

-- A stop. First all units are backed out.

abbrev pub no_takes : ℕ → List Taken
no_takes n = []

abbrev pub no_puts : ℕ → List Add
no_puts n = []

abbrev pub no_batch : List ℕ → Option Batch
no_batch c = None

abbrev pub resting : View → (List ℕ → Option Batch) → View
resting v batch = record v { takes = no_takes; batch = batch }

units_freed : (p : Plain) → Sound p → Holds (resting (view (apply (Release HeldByUnits true) p)) (view p).batch)
units_freed p h =
    let v : View = view p in
    let change : List ℕ → Row → Row = freed_if HeldByUnits true in
    subst (λ (w : View). Holds (resting w (view p).batch)) (sym (applied (Release HeldByUnits true) p tt)) (record {
      apart = apart.retags v.rows v.puts v.unborn change (λ d x. (frees_mild HeldByUnits true).ident d x) h.apart;
      taken = taken.clears (retagged_all change v.rows) (λ q x n m e. let k = mem_retag (change q) x (v.rows q) m in none k.0.by k.0 n refl (sym (ap (λ (r : Row). r.by) k.2) ∙ e));
      batched = batched.retags v.rows v.batch v.doubt change (λ d x. (frees_mild HeldByUnits true).ident d x) (λ d x c m e. batch_from (is_by_unit x.by && not (is_free x)) x c e)
          (λ d x c m e. unfreed_row (is_by_unit x.by && not (is_free x)) true x (ap (λ (b : Option Holder). is_by_unit b && not (is_free x)) e) ∙ e) h.batched;
      ordered = ordered.retags v.rows v.arrivals change (frees_places HeldByUnits true) h.ordered;
    })
  where
    none : (o : Option Holder) (x : Row) (n : ℕ) → x.by ≡ o → (release_if (is_by_unit x.by && not (is_free x)) true x).by ≢ Some (holders.Unit n)
    none None x n e w = cc (unfreed_row (is_by_unit x.by && not (is_free x)) true x (ap (λ (b : Option Holder). is_by_unit b && not (is_free x)) e), e, w)
    none (Some (holders.Batch c)) x n e w = cc (unfreed_row (is_by_unit x.by && not (is_free x)) true x (ap (λ (b : Option Holder). is_by_unit b && not (is_free x)) e), e, w)
    none (Some (holders.Unit k)) x n e w = cc (ap (λ (t : Bool). (release_if t true x).by) (ap (λ (b : Option Holder). is_by_unit b && not (is_free x)) e ∙ ap not (is_held x (holders.Unit k) e)), w)

    batch_from : (t : Bool) (x : Row) (c : List ℕ) → (release_if t true x).by ≡ Some (holders.Batch c) → x.by ≡ Some (holders.Batch c)
    batch_from true x c e = absurd cc
    batch_from false x c e = e

-- then all batches are free again
abbrev pub cleared : List Batch → (List ℕ → Option Batch) → List ℕ → Option Batch
cleared [] f = f
cleared (b ∷ bs) f = cleared bs (at_name b.channel None f)

cleared_stays : (bs : List Batch) (f : List ℕ → Option Batch) (c : List ℕ) → f c ≡ None → cleared bs f c ≡ None
cleared_stays [] f c e = e
cleared_stays (b ∷ bs) f c e = cleared_stays bs (at_name b.channel None f) c (bool_case (bytes_eq c b.channel) (λ (t : Bool). (if t then None else f c) ≡ None) (λ z. refl) (λ z. e))

pub cleared_none : (bs : List Batch) (f : List ℕ → Option Batch) (c : List ℕ) → f c ≡ batch_of c bs → cleared bs f c ≡ None
cleared_none [] f c = λ e. e
cleared_none (b ∷ bs) f c = bool_case (bytes_eq c b.channel) (λ (t : Bool). bytes_eq c b.channel ≡ t → f c ≡ (if t then Some b else batch_of c bs) → cleared bs (at_name b.channel None f) c ≡ None)
    (λ z w e. cleared_stays bs (at_name b.channel None f) c (ap (λ (t : Bool). if t then None else f c) w))
    (λ z w e. cleared_none bs (at_name b.channel None f) c (ap (λ (t : Bool). if t then None else f c) w ∙ e)) refl

batches_freed : (bs : List Batch) (p : Plain) (f : List ℕ → Option Batch) → Holds (resting (view p) f) → Holds (resting (view (apply_all (map release_batch bs) p)) (cleared bs f))
batches_freed [] p f h = h
batches_freed (b ∷ bs) p f h = batches_freed bs (apply (Release (HeldBy (holders.Batch b.channel)) false) p) (at_name b.channel None f)
    (subst (λ (w : View). Holds (resting w (at_name b.channel None f))) (sym (applied (Release (HeldBy (holders.Batch b.channel)) false) p tt))
    (frees_batch (resting (view p) f) b.channel (view p).doubt (λ k e. refl) h))

-- then nonpersistent rows go, and all that a stop forgets
lost : (p : Plain) → Holds (resting (view p) no_batch) → Holds (resting (view (apply (Leave Nonpersistent) p)) no_batch)
lost p h = subst (λ (w : View). Holds (resting w no_batch)) (sym (applied (Leave Nonpersistent) p tt))
    (goes (resting (view p) no_batch) (goes_if Nonpersistent) h (λ q x n m e. absurd (h.taken.held q x n m e)) (λ q x c b m e z. absurd cc))

forgets : (p : Plain) → Holds (resting (view p) no_batch) → Sound (apply ForgetAll p)
forgets p h = subst Holds (sym (applied ForgetAll p tt)) (record {
  apart = apart.fewer (view p).rows (view p).puts no_puts (view p).unborn (λ n x m. absurd m) (λ n. tt) h.apart;
  taken = h.taken;
  batched = h.batched;
  ordered = h.ordered;
})

pub rests : (p : Plain) → Sound p → Sound (at_rest p)
rests p h =
    let q : Plain = apply (Release HeldByUnits true) p in
    let r : Plain = apply_all (map release_batch p.channels.batches) q in
    let freed : Holds (resting (view r) (cleared p.channels.batches (view p).batch)) = batches_freed p.channels.batches q (view p).batch (units_freed p h) in
    let none : Holds (resting (view r) no_batch) = subst (λ (f : List ℕ → Option Batch). Holds (resting (view r) f)) (λ i c. cleared_none p.channels.batches (view p).batch c refl i) freed in
    subst Sound (sym (behind (map release_batch p.channels.batches) (Leave Nonpersistent ∷ ForgetAll ∷ []) q)) (forgets (apply (Leave Nonpersistent) r) (lost r none))

pub stop_keeps : (p : Plain) → Sound p → Sound (stop p).next
stop_keeps p h = at p.running
  where
    at : (r : Running) → Sound (stop_at r p).next
    at Up = rests p h
    at (Down noted starts) = h
