-- Batches, units in doubt and their ends keep what holds of a manager's rows.
use Rattle.std.proofs.Common.{ℕ, ◌≡◌, ◌⊎◌, Bool, true, false, List, [], ◌∷◌, refl, ap, sym, subst, ◌∙◌, inl, inr}
use Rattle.std.specs.Prelude.{Option, Some, None, if◌then◌else◌, not, ◌&&◌}
use Rattle.std.specs.Str.{bytes_eq}
use Rattle.mq_message.specs.declared.place.Holder.{Holder}
use Rattle.mq_message.specs.declared.place.Holder.TheVariants as holders
use Rattle.mq_queue.specs.declared.row.Row.{Row}
use Rattle.mq_queue.specs.Rows.{is_free, held_by}
use Rattle.mq_sync.specs.declared.data.InDoubt.{InDoubt}
use Rattle.mq_sync.specs.declared.data.SenderData.{SenderData}
use Rattle.mq_sync.specs.declared.data.End.TheVariants as ends
use Rattle.mq_calls.specs.declared.agents.Note.{Note}
use Rattle.mq_calls.specs.declared.agents.Note.TheVariants as notes
use Rattle.mq_calls.specs.declared.agents.PrepareFault.TheVariants as prepare_faults
use Rattle.mq_calls.specs.State.{Plain, Which}
use Rattle.mq_calls.specs.declared.state.Batch.{Batch}
use Rattle.mq_calls.specs.State.Which.{HeldBy}
use Rattle.mq_calls.specs.State.Change.{Leave, Release, SetSender, DropBatch}
use Rattle.mq_calls.specs.Reads.{sender_data, batch_of, in_doubt_of, is_full}
use Rattle.mq_calls.specs.Changes.{apply, apply_all, release_if}
use Rattle.mq_calls.specs.Sizes.{need}
use Rattle.mq_calls.specs.Steps.{when, logged, do_part}
use Rattle.mq_calls.specs.Steps.Step.{Do}
use Rattle.mq_calls.specs.declared.deltas.Did.TheVariants as did
use Rattle.mq_sync.specs.Settlement.{sender_or, settle_by, data_prepared, data_settled}
use Rattle.mq_spec_manager.specs.Agents.{release_batch, release_of, prepare, prepare_of, prepared_record, prepared_doubt, prepared_changes, harden, harden_part, settle_change, CanHarden}
use Rattle.mq_law_manager.specs.View.{View, view, at_name, kept_all, retagged_all}
use Rattle.mq_law_manager.specs.Facts.{ident_of, Sound, Holds}
use Rattle.mq_law_manager.specs.Seen.{goes_if, freed_if, drop_in, doubt_in}
use Rattle.mq_law_manager.specs.Kept.{Keeps}
use Rattle.mq_law_manager.proofs.Lists.{bool_case, is_false, name_yes, name_self, mem_keep, mem_kept, mem_retag, mem_retagged}
use Rattle.mq_law_manager.proofs.Apart as apart
use Rattle.mq_law_manager.proofs.TakenLaws as taken
use Rattle.mq_law_manager.proofs.BatchLaws as batched
use Rattle.mq_law_manager.proofs.BatchLaws.{IsSettled, same_batch}
use Rattle.mq_law_manager.proofs.OrderLaws as ordered
use Rattle.mq_law_manager.proofs.SeenLaws.{applied}
use Rattle.mq_law_manager.proofs.Steps.{frees_mild, frees_places, is_held, freed_row, unfreed_row}
use Rattle.mq_law_manager.proofs.Units.{tested_keeps}

-- held by a channel's batch, or not
pub by_batch : (c : List ℕ) (b : Option Holder) → held_by (holders.Batch c) b ≡ true → b ≡ Some (holders.Batch c)
by_batch c None e = absurd cc
by_batch c (Some (holders.Unit n)) e = absurd cc
by_batch c (Some (holders.Batch d)) e = ap (λ (x : List ℕ). Some (holders.Batch x)) (sym (name_yes c d e))

pub is_by_batch : (c : List ℕ) (b : Option Holder) → b ≡ Some (holders.Batch c) → held_by (holders.Batch c) b ≡ true
is_by_batch c b e = ap (held_by (holders.Batch c)) e ∙ name_self c

-- a row that isn't held by it
pub by_other : (c : List ℕ) (b : Option Holder) (h : Holder) → b ≡ Some h → (h ≡ holders.Batch c → ⊥) → held_by (holders.Batch c) b ≡ false
by_other c b h e ne = is_false (held_by (holders.Batch c) b) (λ w. ne (inner h (holders.Batch c) (sym e ∙ by_batch c b w)))
  where
    inner : (a d : Holder) → Some a ≡ Some d → a ≡ d
    inner a d e = ap (the a) e
      where
        the : Holder → Option Holder → Holder
        the z None = z
        the z (Some x) = x

-- The batch's rows are free again

pub settled_free : (c : List ℕ) (rows : List ℕ → List Row) → IsSettled c rows (retagged_all (freed_if (HeldBy (holders.Batch c)) false) rows)
settled_free c rows =
    let change : List ℕ → Row → Row = freed_if (HeldBy (holders.Batch c)) false in
    let mild = frees_mild (HeldBy (holders.Batch c)) false in
    let case : (q : List ℕ) (x : Row) → ((change q x).by ≡ None) ⊎ (((change q x).by ≡ x.by) × (held_by (holders.Batch c) x.by ≡ false) ⊎ (x.by ≡ None)) = λ q x.
    bool_case (held_by (holders.Batch c) x.by) (λ t. held_by (holders.Batch c) x.by ≡ t → ((release_if (t && not (is_free x)) false x).by ≡ None) ⊎ (((release_if (t && not (is_free x)) false x).by ≡ x.by) × (held_by (holders.Batch c) x.by ≡ false) ⊎ (x.by ≡ None)))
    (λ z w. inl (freed_row (true && not (is_free x)) false x (ap not (is_held x (holders.Batch c) (by_batch c x.by w))))) (λ z w. inr (inl (refl, w))) refl in
    record {
      none = λ q h m e. let x = mem_retag (change q) h (rows q) m in elim (case q x.0) [
        | inl z ↦ cc (z, ap (λ (r : Row). r.by) x.2, e)
        | inr z ↦ elim z [
          | inl w ↦ cc (w.1, is_by_batch c x.0.by (sym w.0 ∙ sym (ap (λ (r : Row). r.by) x.2) ∙ e))
          | inr w ↦ cc (unfree (held_by (holders.Batch c) x.0.by && not (is_free x.0)) x.0 w, ap (λ (r : Row). r.by) x.2, e)
        ]
      ];
      from = λ q h k m e. let x = mem_retag (change q) h (rows q) m in record {
        row = x.0;
        there = x.1;
        is = sym (ap ident_of x.2 ∙ mild.ident q x.0);
        by = kept (held_by (holders.Batch c) x.0.by && not (is_free x.0)) x.0 k (sym (ap (λ (r : Row). r.by) x.2) ∙ e);
      };
      to = λ q h k m e ne. record {
        row = change q h;
        there = mem_retagged (change q) h (rows q) m;
        is = mild.ident q h;
        by = unfreed_row (held_by (holders.Batch c) h.by && not (is_free h)) false h (ap (λ (b : Bool). b && not (is_free h)) (ap (held_by (holders.Batch c)) e ∙ is_false (bytes_eq c k) (λ w. cc (ne, ap (λ (y : List ℕ). bytes_eq y c) (sym (name_yes c k w)), name_self c)))) ∙ e;
      };
    }
  where
    kept : (t : Bool) (x : Row) (k : List ℕ) → (release_if t false x).by ≡ Some (holders.Batch k) → x.by ≡ Some (holders.Batch k)
    kept true x k e = absurd cc
    kept false x k e = e

    unfree : (t : Bool) (x : Row) → x.by ≡ None → (release_if t false x).by ≡ None
    unfree true x e = refl
    unfree false x e = e

-- or they go
settled_gone : (c : List ℕ) (rows : List ℕ → List Row) → IsSettled c rows (kept_all (goes_if (HeldBy (holders.Batch c))) rows)
settled_gone c rows = record {
  none = λ q h m e. let k = mem_keep (goes_if (HeldBy (holders.Batch c)) q) h (rows q) m in cc (k.1, ap not (is_by_batch c h.by e));
  from = λ q h k m e. let x = mem_keep (goes_if (HeldBy (holders.Batch c)) q) h (rows q) m in record { row = h; there = x.0; is = refl; by = e };
  to = λ q h k m e ne. record {
    row = h;
    there = mem_kept (goes_if (HeldBy (holders.Batch c)) q) h (rows q) m (ap not (ap (held_by (holders.Batch c)) e ∙ is_false (bytes_eq c k) (λ w. cc (ne, ap (λ (y : List ℕ). bytes_eq y c) (sym (name_yes c k w)), name_self c))));
    is = refl;
    by = e;
  };
}

-- Both on the view: what the channel held, in a batch or in doubt, is at its end
pub frees_batch : (v : View) (c : List ℕ) (less : List ℕ → Option InDoubt) → ((k : List ℕ) → bytes_eq k c ≡ false → less k ≡ v.doubt k) → Holds v
    → Holds (record v { rows = retagged_all (freed_if (HeldBy (holders.Batch c)) false) v.rows; batch = at_name c None v.batch; doubt = less })
frees_batch v c less same h =
    let which : Which = HeldBy (holders.Batch c) in
    let change : List ℕ → Row → Row = freed_if which false in
    record {
      apart = apart.retags v.rows v.puts v.unborn change (λ q x. (frees_mild which false).ident q x) h.apart;
      taken = taken.retags v.rows v.takes change (frees_mild which false) (λ q x n m e. kept (held_by (holders.Batch c) x.by && not (is_free x)) x n e)
          (λ q x n m e. unfreed_row (held_by (holders.Batch c) x.by && not (is_free x)) false x (ap (λ (b : Option Holder). held_by (holders.Batch c) b && not (is_free x)) e) ∙ e) h.taken;
      batched = batched.settles v.rows (retagged_all change v.rows) v.batch v.doubt less c (settled_free c v.rows) same h.batched;
      ordered = ordered.retags v.rows v.arrivals change (frees_places which false) h.ordered;
    }
  where
    kept : (t : Bool) (x : Row) (n : ℕ) → (release_if t false x).by ≡ Some (holders.Unit n) → x.by ≡ Some (holders.Unit n)
    kept true x n e = absurd cc
    kept false x n e = e

pub drops_batch : (v : View) (c : List ℕ) (less : List ℕ → Option InDoubt) → ((k : List ℕ) → bytes_eq k c ≡ false → less k ≡ v.doubt k) → Holds v
    → Holds (record v { rows = kept_all (goes_if (HeldBy (holders.Batch c))) v.rows; batch = at_name c None v.batch; doubt = less })
drops_batch v c less same h =
    let test : List ℕ → Row → Bool = goes_if (HeldBy (holders.Batch c)) in
    record {
      apart = apart.keeps v.rows v.puts v.unborn test h.apart;
      taken = taken.keeps v.rows v.takes test (λ q x n m e. ap (λ (b : Option Holder). not (held_by (holders.Batch c) b)) e) h.taken;
      batched = batched.settles v.rows (kept_all test v.rows) v.batch v.doubt less c (settled_gone c v.rows) same h.batched;
      ordered = ordered.keeps v.rows v.arrivals test h.ordered;
    }

-- Calls

release_keeps : (c : List ℕ) (o : Option Batch) (p : Plain) → Sound p → Keeps (release_of c o) p
release_keeps c None p h = tt
release_keeps c (Some b) p h =
    let q : Plain = apply (Release (HeldBy (holders.Batch c)) false) p in
    (subst Holds (sym (applied (DropBatch c) q tt)) (subst (λ (v : View). Holds (drop_in c v)) (sym (applied (Release (HeldBy (holders.Batch c)) false) p tt)) (frees_batch (view p) c (view p).doubt (λ k e. refl) h)), tt)

pub release_batch_keeps : (c : List ℕ) (p : Plain) → Sound p → Keeps (release_batch c p) p
release_batch_keeps c p h = release_keeps c (batch_of c p.channels.batches) p h

prepare_keeps_of : (c : List ℕ) (last : ℕ) (o : Option Batch) (p : Plain) → (view p).batch c ≡ o → Sound p → Keeps (prepare_of c last o p) p
prepare_keeps_of c last None p is h = tt
prepare_keeps_of c last (Some b) p is h = tested_keeps (when (is_full (need (prepared_record c last b)) p) prepare_faults.NoRoom ∷ [])
    (Do tt (record { forced = Some (prepared_record c last b); changes = prepared_changes c last b (sender_or (sender_data c p)); delta = did.Prepared c b.unit ∷ [] } ∷ [])) p (λ e. (
      let d : SenderData = data_prepared (prepared_doubt last b) (sender_or (sender_data c p)) in
          let q : Plain = logged (Some (prepared_record c last b)) p in
          subst Holds (sym (applied (DropBatch c) (apply (SetSender c d) q) tt)) (subst (λ (v : View). Holds (drop_in c v)) (sym (applied (SetSender c d) q tt))
          (record { apart = h.apart; taken = h.taken; batched = batched.prepares (view p).rows (view p).batch (view p).doubt c b (prepared_doubt last b) is refl h.batched; ordered = h.ordered })),
      tt,
    ))

pub prepare_keeps : (c : List ℕ) (last : ℕ) (p : Plain) → Sound p → Keeps (prepare c last p) p
prepare_keeps c last p h = prepare_keeps_of c last (batch_of c p.channels.batches) p refl h

-- what is hardened beside units in doubt
pub same_doubt : (c : List ℕ) (d : SenderData) (p : Plain) → d.in_doubt ≡ (view p).doubt c → Sound p → Sound (apply (SetSender c d) p)
same_doubt c d p is h = subst Holds (sym (applied (SetSender c d) p tt ∙ (λ i. record (view p) { doubt = λ k. same k i }))) h
  where
    same : (k : List ℕ) → at_name c d.in_doubt (view p).doubt k ≡ (view p).doubt k
    same k = bool_case (bytes_eq k c) (λ b. bytes_eq k c ≡ b → (if b then d.in_doubt else (view p).doubt k) ≡ (view p).doubt k) (λ e z. is ∙ ap (view p).doubt (sym (name_yes k c z))) (λ e z. refl) refl

sender_doubt : (o : Option SenderData) → (sender_or o).in_doubt ≡ in_doubt_of o
sender_doubt None = refl
sender_doubt (Some d) = refl

-- a unit in doubt is settled: no batch is held beside it
settled_doubt : (commit : Bool) (d : SenderData) → (data_settled (Some (settle_by commit)) d).in_doubt ≡ None
settled_doubt true d = refl
settled_doubt false d = refl

settle_keeps : (commit : Bool) (c : List ℕ) (d : SenderData) (p : Plain) → d.in_doubt ≡ None → (view p).batch c ≡ None → Sound p → Sound (apply_all (settle_change commit c ∷ SetSender c d ∷ []) p)
settle_keeps commit c d p none batch h =
    let at : (k : List ℕ) → at_name c None (view p).batch k ≡ (view p).batch k = λ k. bool_case (bytes_eq k c) (λ b. bytes_eq k c ≡ b → (if b then None else (view p).batch k) ≡ (view p).batch k) (λ e z. sym (ap (view p).batch (name_yes k c z) ∙ batch)) (λ e z. refl) refl in
    let less : (k : List ℕ) → bytes_eq k c ≡ false → at_name c d.in_doubt (view p).doubt k ≡ (view p).doubt k = λ k e. ap (λ (b : Bool). if b then d.in_doubt else (view p).doubt k) e in
    which commit at less
  where
    which : (commit : Bool) → ((k : List ℕ) → at_name c None (view p).batch k ≡ (view p).batch k) → ((k : List ℕ) → bytes_eq k c ≡ false → at_name c d.in_doubt (view p).doubt k ≡ (view p).doubt k) → Sound (apply_all (settle_change commit c ∷ SetSender c d ∷ []) p)
    which true at less = subst Holds (sym (applied (SetSender c d) (apply (Leave (HeldBy (holders.Batch c))) p) tt)) (subst (λ (v : View). Holds (doubt_in c d v)) (sym (applied (Leave (HeldBy (holders.Batch c))) p tt))
        (subst (λ (f : List ℕ → Option Batch). Holds (record (view p) { rows = kept_all (goes_if (HeldBy (holders.Batch c))) (view p).rows; batch = f; doubt = at_name c d.in_doubt (view p).doubt })) (λ i k. at k i) (drops_batch (view p) c (at_name c d.in_doubt (view p).doubt) less h)))
    which false at less = subst Holds (sym (applied (SetSender c d) (apply (Release (HeldBy (holders.Batch c)) false) p) tt)) (subst (λ (v : View). Holds (doubt_in c d v)) (sym (applied (Release (HeldBy (holders.Batch c)) false) p tt))
        (subst (λ (f : List ℕ → Option Batch). Holds (record (view p) { rows = retagged_all (freed_if (HeldBy (holders.Batch c)) false) (view p).rows; batch = f; doubt = at_name c d.in_doubt (view p).doubt })) (λ i k. at k i) (frees_batch (view p) c (at_name c d.in_doubt (view p).doubt) less h)))

harden_keeps_of : (c : List ℕ) (note : Note) (p : Plain) → CanHarden c note p → Sound p → Sound (do_part (harden_part c note p) p)
harden_keeps_of c (notes.Session partner session) p s h =
    let d : SenderData = record (sender_or (sender_data c p)) { partner = partner; session = session } in
    same_doubt c d (logged (harden_part c (notes.Session partner session) p).forced p) (sender_doubt (sender_data c p)) h
harden_keeps_of c (notes.Resolved unit commit operator) p s h =
    settle_keeps commit c (data_settled (Some (settle_by commit)) (sender_or (sender_data c p))) (logged (harden_part c (notes.Resolved unit commit operator) p).forced p) (settled_doubt commit (sender_or (sender_data c p))) s.1 h
harden_keeps_of c (notes.Bound partner session last) p s h = h
harden_keeps_of c (notes.Closed session) p s h = h
harden_keeps_of c (notes.SeqSet ends.Sender last) p s h =
    let d : SenderData = record (sender_or (sender_data c p)) { last = last; force = true } in
    same_doubt c d (logged (harden_part c (notes.SeqSet ends.Sender last) p).forced p) (sender_doubt (sender_data c p)) h
harden_keeps_of c (notes.SeqSet ends.Receiver last) p s h = h

pub harden_keeps : (c : List ℕ) (note : Note) (p : Plain) → CanHarden c note p → Sound p → Keeps (harden c note p) p
harden_keeps c note p s h = (harden_keeps_of c note p s h, tt)
