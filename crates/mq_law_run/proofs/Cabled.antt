-- Each batch of a manager is found by its channel, and is of a cable that it sends.
use Rattle.std.proofs.Common.{ℕ, ◌≡◌, ◌⊎◌, Bool, true, false, not, List, [], ◌∷◌, refl, ap, sym, subst, ◌∙◌, inl, inr}
use Rattle.std.specs.Prelude.{Option, Some, None, if◌then◌else◌}
use Rattle.std.specs.Str.{bytes_eq}
use Rattle.mq_calls.specs.declared.records.LogRecord.{LogRecord}
use Rattle.mq_calls.specs.declared.state.Batch.{Batch}
use Rattle.mq_history.specs.declared.scenario.CableLine.{CableLine}
use Rattle.mq_objects.specs.Names.{local_of}
use Rattle.mq_calls.specs.State.{Change, Plain}
use Rattle.mq_calls.specs.State.Change.{AddBatch, DropBatch, ForgetAll, SetBound, Try}
use Rattle.mq_calls.specs.Reads.{batch_of}
use Rattle.mq_calls.specs.Condition.{condition}
use Rattle.mq_calls.specs.Changes.{apply, apply_all, comes_before, set_named, try_if}
use Rattle.mq_calls.specs.Steps.{Part, do_all, do_part, logged}
use Rattle.mq_spec_network.specs.Story.{Mem}
use Rattle.mq_law_channel.proofs.Told.{and_both}
use Rattle.mq_law_manager.proofs.Named.{batch_dropped, batch_set, name_is, name_self, name_turned}
use Rattle.mq_law_manager.proofs.Removals.{mem_filter}
use Rattle.mq_law_node.proofs.Named.{bool_case}
use Rattle.mq_law_cables.specs.Joints.{AreCabled}
use Rattle.mq_law_run.proofs.Beside.{adds_none, all_add_none, parts_add_none}

-- with other batches that are the same
pub same_batches : (ks : List CableLine) (m : ℕ) (p q : Plain) → q.channels.batches ≡ p.channels.batches → AreCabled ks m p → AreCabled ks m q
same_batches ks m p q e c = record {
  once = subst (λ (bs : List Batch). (b : Batch) → Mem b bs → batch_of b.channel bs ≡ Some b) (sym e) c.once;
  line = subst (λ (bs : List Batch). (b : Batch) → Mem b bs → (k : CableLine) × Mem k ks × (k.sender ≡ m) × (k.channel ≡ b.channel)) (sym e) c.line;
}

-- a batch goes
not_yes : (t : Bool) → not t ≡ true → t ≡ false
not_yes true e = absurd cc
not_yes false e = refl

names_turned : (a b : List ℕ) → bytes_eq b a ≡ false → bytes_eq a b ≡ false
names_turned a b e = name_turned a b ∙ e

pub drop_cabled : (ks : List CableLine) (m : ℕ) (c : List ℕ) (p : Plain) → AreCabled ks m p → AreCabled ks m (apply (DropBatch c) p)
drop_cabled ks m c p h = record {
  once = λ b n. let r = mem_filter b (λ (x : Batch). not (bytes_eq c x.channel)) p.channels.batches n in
      batch_dropped b.channel c p.channels.batches ∙ ap (λ t. if t then None else batch_of b.channel p.channels.batches) (names_turned b.channel c (not_yes (bytes_eq c b.channel) r.1)) ∙ h.once b r.0;
  line = λ b n. h.line b (mem_filter b (λ (x : Batch). not (bytes_eq c x.channel)) p.channels.batches n).0;
}

-- a batch of a channel that has none comes
mem_set : (b : Batch) (bs : List Batch) (x : Batch) → Mem x (set_named (λ (y : Batch). y.channel) b bs) → (x ≡ b) ⊎ Mem x bs
mem_set b [] x (inl e) = inl e
mem_set b [] x (inr n) = absurd n
mem_set b (y ∷ bs) x n = bool_case (bytes_eq b.channel y.channel)
    (λ t. Mem x (if t then b ∷ bs else (if comes_before b.channel y.channel then b ∷ y ∷ bs else y ∷ set_named (λ (z : Batch). z.channel) b bs)) → (x ≡ b) ⊎ Mem x (y ∷ bs))
    (λ e k. elim k [ inl w ↦ inl w | inr w ↦ inr (inr w) ])
    (λ e k. bool_case (comes_before b.channel y.channel) (λ t. Mem x (if t then b ∷ y ∷ bs else y ∷ set_named (λ (z : Batch). z.channel) b bs) → (x ≡ b) ⊎ Mem x (y ∷ bs))
    (λ f w. w)
    (λ f w. elim w [ inl a ↦ inr (inl a) | inr a ↦ elim (mem_set b bs x a) [ inl o ↦ inl o | inr o ↦ inr (inr o) ] ]) k) n

none_some : (b : Batch) → None ≡ Some b → ⊥
none_some b e = cc

pub add_cabled : (ks : List CableLine) (m : ℕ) (b : Batch) (p : Plain) → batch_of b.channel p.channels.batches ≡ None → ((k : CableLine) × Mem k ks × (k.sender ≡ m) × (k.channel ≡ b.channel)) → AreCabled ks m p → AreCabled ks m (apply (AddBatch b) p)
add_cabled ks m b p free there h = record {
  once = λ x n. batch_set x.channel b p.channels.batches ∙ elim (mem_set b p.channels.batches x n) [
    | inl e ↦ ap (λ (y : Batch). if bytes_eq y.channel b.channel then Some b else batch_of y.channel p.channels.batches) e ∙ ap (λ t. if t then Some b else batch_of b.channel p.channels.batches) (name_self b.channel) ∙ ap (λ (y : Batch). Some y) (sym e)
    | inr k ↦ bool_case (bytes_eq x.channel b.channel) (λ t. bytes_eq x.channel b.channel ≡ t → (if t then Some b else batch_of x.channel p.channels.batches) ≡ Some x)
        (λ z e. absurd (none_some x (sym free ∙ ap (λ c. batch_of c p.channels.batches) (sym (name_is x.channel b.channel e)) ∙ h.once x k)))
        (λ z e. h.once x k) refl
  ];
  line = λ x n. elim (mem_set b p.channels.batches x n) [
    | inl e ↦ subst (λ (y : Batch). (k : CableLine) × Mem k ks × (k.sender ≡ m) × (k.channel ≡ y.channel)) (sym e) there
    | inr k ↦ h.line x k
  ];
}

-- CHANGES that add none
pub change_cabled : (ks : List CableLine) (m : ℕ) (c : Change) (p : Plain) → adds_none c ≡ true → AreCabled ks m p → AreCabled ks m (apply c p)
change_cabled ks m (AddBatch b) p e h = absurd cc
change_cabled ks m (DropBatch c) p e h = drop_cabled ks m c p h
change_cabled ks m ForgetAll p e h = record { once = λ b n. absurd n; line = λ b n. absurd n }
change_cabled ks m (Try q n) p e h = bool_case (condition (local_of q p.definitions) n p) (λ t. AreCabled ks m (try_if t q p)) (λ z. same_batches ks m p (try_if true q p) refl h) (λ z. same_batches ks m p p refl h)
change_cabled ks m (SetBound c true) p e h = same_batches ks m p (apply (SetBound c true) p) refl h
change_cabled ks m (SetBound c false) p e h = same_batches ks m p (apply (SetBound c false) p) refl h
change_cabled ks m c p e h = same_batches ks m p (apply c p) refl h

pub all_cabled : (ks : List CableLine) (m : ℕ) (cs : List Change) (p : Plain) → all_add_none cs ≡ true → AreCabled ks m p → AreCabled ks m (apply_all cs p)
all_cabled ks m [] p e h = h
all_cabled ks m (c ∷ cs) p e h = let b = and_both (adds_none c) (all_add_none cs) e in all_cabled ks m cs (apply c p) b.1 (change_cabled ks m c p b.0 h)

logged_cabled : (ks : List CableLine) (m : ℕ) (o : Option LogRecord) (p : Plain) → AreCabled ks m p → AreCabled ks m (logged o p)
logged_cabled ks m None p h = h
logged_cabled ks m (Some r) p h = same_batches ks m p (logged (Some r) p) refl h

pub parts_cabled : (ks : List CableLine) (m : ℕ) (parts : List Part) (p : Plain) → parts_add_none parts ≡ true → AreCabled ks m p → AreCabled ks m (do_all parts p)
parts_cabled ks m [] p e h = h
parts_cabled ks m (part ∷ parts) p e h =
    let b = and_both (all_add_none part.changes) (parts_add_none parts) e in
    parts_cabled ks m parts (do_part part p) b.1 (all_cabled ks m part.changes (logged part.forced p) b.0 (logged_cabled ks m part.forced p h))
