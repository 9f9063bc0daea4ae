-- What ends of channels do leaves seized queues their senders'; and a manager begins with none.
use Rattle.std.proofs.Common.{ℕ, ◌≡◌, ◌⊎◌, Bool, true, false, List, [], ◌∷◌, refl, ap, sym, subst, ◌∙◌, inl, inr}
use Rattle.std.proofs.lemmas.Bool.{not-false, or_parts, true≢false}
use Rattle.std.specs.Prelude.{Option, Some, None, IsSome, ◌&&◌, ◌||◌, if◌then◌else◌, not, take}
use Rattle.std.specs.Str.{bytes_eq}
use Rattle.mq_message.specs.declared.message.Ident.{Ident}
use Rattle.mq_message.specs.declared.message.Message.{Message}
use Rattle.mq_message.specs.declared.place.Holder.TheVariants as holders
use Rattle.mq_objects.specs.Names.{channel_of, local_of}
use Rattle.mq_sync.specs.declared.unit.Unit.{Unit as Luw}
use Rattle.mq_sync.specs.Settlement.{sender_or}
use Rattle.mq_calls.specs.declared.agents.Note.{Note}
use Rattle.mq_calls.specs.declared.agents.PrepareFault.TheVariants as prepare_faults
use Rattle.mq_calls.specs.declared.agents.SeizeFault.{SeizeFault}
use Rattle.mq_calls.specs.declared.agents.SeizeFault.TheVariants as seize_faults
use Rattle.mq_calls.specs.declared.deltas.Did.TheVariants as did
use Rattle.mq_calls.specs.declared.deltas.Why.TheVariants as whys
use Rattle.mq_calls.specs.declared.state.Seizure.{Seizure}
use Rattle.mq_calls.specs.State.{Plain}
use Rattle.mq_calls.specs.declared.state.Batch.{Batch}
use Rattle.mq_calls.specs.State.Change.{AddBatch, Seize}
use Rattle.mq_calls.specs.Changes.{apply, comes_before, set_named}
use Rattle.mq_calls.specs.Reads.{batch_of, free_rows, has_held_by_other, is_full, is_open_for_input, read_by_handle, read_by_sender, seizure_of, sender_data}
use Rattle.mq_calls.specs.Sizes.{need}
use Rattle.mq_calls.specs.Steps.{Test, silent, when}
use Rattle.mq_calls.specs.Steps.Step.{Do}
use Rattle.mq_spec_manager.specs.Get.{idents_of}
use Rattle.mq_spec_manager.specs.Handles.{is_transmission_queue}
use Rattle.mq_spec_manager.specs.Agents.{CanHold, HasSeized, channel_queue, expire, harden, hold_batch, leave, prepare, prepare_of, prepared_changes, prepared_record, queue_of_sender, receive, release_batch, release_of, seize, seized_queue, set_bound, expired_rows}
use Rattle.mq_law_manager.specs.Facts.{Mem}
use Rattle.mq_law_manager.specs.Kept.{StepKeeps}
use Rattle.mq_law_seized.specs.Each.{is_written}
use Rattle.mq_law_seized.proofs.Each.{step_weaker}
use Rattle.mq_law_manager.proofs.ShortSteps.{tested_all}
use Rattle.mq_law_seized.proofs.Written.{harden_written, receive_written}
use Rattle.mq_law_manager.proofs.Lists.{bool_case, name_self, name_yes}
use Rattle.mq_law_seized.specs.Seized.{AreSeized, is_bare, step_bare}
use Rattle.mq_law_seized.proofs.Calling.{holds, tested_keeps, tests_none}
use Rattle.mq_law_seized.proofs.Changing.{change_leaves, none_any, step_leaves}
use Rattle.mq_law_seized.proofs.Bare.{bare_leaves, removal_bare, written_bare}

-- SEIZING
mem_set : (new : Seizure) (xs : List Seizure) (s : Seizure) → Mem s (set_named (λ (x : Seizure). x.channel) new xs) → (s ≡ new) ⊎ Mem s xs
mem_set new [] s n = elim n [ inl e ↦ inl e | inr k ↦ absurd k ]
mem_set new (x ∷ xs) s n = bool_case (bytes_eq new.channel x.channel)
    (λ b. Mem s (if b then new ∷ xs else (if comes_before new.channel x.channel then new ∷ x ∷ xs else x ∷ set_named (λ (x : Seizure). x.channel) new xs)) → (s ≡ new) ⊎ Mem s (x ∷ xs))
    (λ z m. elim m [ inl e ↦ inl e | inr k ↦ inr (inr k) ])
    (λ z. bool_case (comes_before new.channel x.channel) (λ b. Mem s (if b then new ∷ x ∷ xs else x ∷ set_named (λ (x : Seizure). x.channel) new xs) → (s ≡ new) ⊎ Mem s (x ∷ xs))
    (λ w m. elim m [ inl e ↦ inl e | inr k ↦ inr k ])
    (λ w m. elim m [
      | inl e ↦ inr (inl e)
      | inr k ↦ elim (mem_set new xs s k) [ inl e ↦ inl e | inr j ↦ inr (inr j) ]
    ])) n

unsent : (d : List ℕ) (p : Plain) → read_by_sender d p ≡ false → (s : Seizure) → Mem s p.channels.seizures → s.queue ≡ d → ⊥
unsent d p f s n e = true≢false (sym (name_self d) ∙ ap (λ (x : List ℕ). bytes_eq d x) (sym e) ∙ none_any (λ (x : Seizure). bytes_eq d x.queue) p.channels.seizures f s n)

seizes_one : (new : Seizure) (p : Plain) → AreSeized p → is_transmission_queue (local_of new.queue p.definitions) ≡ true → is_open_for_input new.queue p ≡ false → has_held_by_other new.channel new.queue p ≡ false → AreSeized (apply (Seize new) p)
seizes_one new p h xm shut held =
    let o = or_parts (read_by_handle new.queue p) (read_by_sender new.queue p) shut in
    record {
      local = h.local;
      sends = λ s n. elim (mem_set new p.channels.seizures s n) [
        | inl e ↦ subst (λ (x : Seizure). is_transmission_queue (local_of x.queue p.definitions) ≡ true) (sym e) xm
        | inr k ↦ h.sends s k
      ];
      unread = λ s n. elim (mem_set new p.channels.seizures s n) [
        | inl e ↦ subst (λ (x : Seizure). read_by_handle x.queue p ≡ false) (sym e) o.0
        | inr k ↦ h.unread s k
      ];
      alone = λ s t n m q. elim (mem_set new p.channels.seizures s n) [
        | inl e ↦ elim (mem_set new p.channels.seizures t m) [
          | inl f ↦ ap (λ (x : Seizure). x.channel) (e ∙ sym f)
          | inr k ↦ absurd (unsent new.queue p o.1 t k (sym q ∙ ap (λ (x : Seizure). x.queue) e))
        ]
        | inr j ↦ elim (mem_set new p.channels.seizures t m) [
          | inl f ↦ absurd (unsent new.queue p o.1 s j (q ∙ ap (λ (x : Seizure). x.queue) f))
          | inr k ↦ h.alone s t j k q
        ]
      ];
      held = λ s n. elim (mem_set new p.channels.seizures s n) [
        | inl e ↦ subst (λ (x : Seizure). has_held_by_other x.channel x.queue p ≡ false) (sym e) held
        | inr k ↦ h.held s k
      ];
    }

pub seizes : (channel : List ℕ) (p : Plain) → AreSeized p → StepKeeps AreSeized (seize channel p) p
seizes channel p h =
    let queue : List ℕ = channel_queue (channel_of channel p.definitions) in
    let ts : List (Test SeizeFault) = when (not (is_transmission_queue (local_of queue p.definitions))) seize_faults.BadQueue
    ∷ when (is_open_for_input queue p || has_held_by_other channel queue p) seize_faults.QueueInUse
    ∷ [] in
    tested_keeps ts (Do tt (silent (Seize (record { channel = channel; queue = queue }) ∷ []) ∷ [])) p (λ e.
    let t = tests_none ts e in
    let v = or_parts (is_open_for_input queue p) (has_held_by_other channel queue p) t.1.0 in
    (seizes_one (record { channel = channel; queue = queue }) p h (not-false (is_transmission_queue (local_of queue p.definitions)) t.0) v.0 v.1, tt))

-- A BATCH
some_of : {A : Type 0} (o : Option A) → IsSome o → (x : A) × (o ≡ Some x)
some_of None e = absurd cc
some_of (Some x) e = (x, refl)

seized_mem : (c : List ℕ) (ss : List Seizure) (s : Seizure) → seizure_of c ss ≡ Some s → Mem s ss × (c ≡ s.channel)
seized_mem c [] s e = absurd cc
seized_mem c (x ∷ xs) s e = bool_case (bytes_eq c x.channel) (λ b. bytes_eq c x.channel ≡ b → (if b then Some x else seizure_of c xs) ≡ Some s → Mem s (x ∷ xs) × (c ≡ s.channel))
    (λ z w f. let same : s ≡ x = one x s f in (inl same, name_yes c x.channel w ∙ ap (λ (o : Seizure). o.channel) (sym same)))
    (λ z w f. let r = seized_mem c xs s f in (inr r.0, r.1)) refl e
  where
    one : (x s : Seizure) → Some x ≡ Some s → s ≡ x
    one x s f = cc

pub holds_seized : (channel : List ℕ) (unit : Luw) (most : ℕ) (p : Plain) → HasSeized channel p → AreSeized p → StepKeeps AreSeized (hold_batch channel unit most p) p
holds_seized channel unit most p seized h =
    let q : List ℕ = queue_of_sender channel p in
    let is : List Ident = idents_of (take most (free_rows q p)) in
    let b : Batch = record { channel = channel; unit = unit; queue = q; idents = is } in
    let o = some_of (seizure_of channel p.channels.seizures) seized in
    let mine = seized_mem channel p.channels.seizures o.0 o.1 in (
      change_leaves (AddBatch b) _ refl (holds q is (holders.Batch channel) p h (λ s n e.
          let same : s.channel ≡ channel = h.alone s o.0 n mine.0 (e ∙ ap seized_queue o.1) ∙ sym mine.1 in
          ap not (ap (λ (x : List ℕ). bytes_eq x channel) same ∙ name_self channel))),
      tt,
    )

pub holds_batch : (channel : List ℕ) (unit : Luw) (most : ℕ) (p : Plain) → CanHold channel p → AreSeized p → StepKeeps AreSeized (hold_batch channel unit most p) p
holds_batch channel unit most p can h = holds_seized channel unit most p can.seized h

-- WHAT IS BARE
pub prepare_bare : (channel : List ℕ) (last : ℕ) (o : Option Batch) (p : Plain) → step_bare (prepare_of channel last o p) ≡ true
prepare_bare channel last None p = refl
prepare_bare channel last (Some b) p = tested_all (λ s. step_bare s ≡ true) (λ r. refl) (when (is_full (need (prepared_record channel last b)) p) prepare_faults.NoRoom ∷ []) (Do (tt {0}) (record {
  forced = Some (prepared_record channel last b);
  changes = prepared_changes channel last b (sender_or (sender_data channel p));
  delta = did.Prepared channel b.unit ∷ [];
} ∷ [])) refl

pub release_bare : (channel : List ℕ) (o : Option Batch) → step_bare (release_of channel o) ≡ true
release_bare channel None = refl
release_bare channel (Some b) = refl

pub hardens_bare : (channel : List ℕ) (note : Note) (p : Plain) → step_bare (harden channel note p) ≡ true
hardens_bare channel note p = step_weaker is_written is_bare written_bare (harden channel note p) (ap (λ (b : Bool). b && true) (harden_written channel note p))

pub receives_bare : (channel : List ℕ) (unit : Luw) (last : ℕ) (batch : List Message) (p : Plain) → step_bare (receive channel unit last batch p) ≡ true
receives_bare channel unit last batch p = step_weaker is_written is_bare written_bare (receive channel unit last batch p) (receive_written channel unit last batch p)

pub receives : (channel : List ℕ) (unit : Luw) (last : ℕ) (batch : List Message) (p : Plain) → AreSeized p → StepKeeps AreSeized (receive channel unit last batch p) p
receives channel unit last batch p h = bare_leaves (receive channel unit last batch p) p (receives_bare channel unit last batch p) h

pub prepares : (channel : List ℕ) (last : ℕ) (p : Plain) → AreSeized p → StepKeeps AreSeized (prepare channel last p) p
prepares channel last p h = bare_leaves (prepare channel last p) p (prepare_bare channel last (batch_of channel p.channels.batches) p) h

pub releases : (channel : List ℕ) (p : Plain) → AreSeized p → StepKeeps AreSeized (release_batch channel p) p
releases channel p h = bare_leaves (release_batch channel p) p (release_bare channel (batch_of channel p.channels.batches)) h

pub hardens : (channel : List ℕ) (note : Note) (p : Plain) → AreSeized p → StepKeeps AreSeized (harden channel note p) p
hardens channel note p h = bare_leaves (harden channel note p) p (hardens_bare channel note p) h

pub expires : (channel : List ℕ) (p : Plain) → AreSeized p → StepKeeps AreSeized (expire channel p) p
expires channel p h = bare_leaves (expire channel p) p (removal_bare whys.Expired (queue_of_sender channel p) (expired_rows (queue_of_sender channel p) p)) h

pub leaves : (channel : List ℕ) (p : Plain) → AreSeized p → StepKeeps AreSeized (leave channel p) p
leaves channel p h = step_leaves (leave channel p) p refl h

pub binds : (channel : List ℕ) (bound : Bool) (p : Plain) → AreSeized p → StepKeeps AreSeized (set_bound channel bound p) p
binds channel bound p h = bare_leaves (set_bound channel bound p) p refl h

-- NONE
pub none_seized : (p : Plain) → p.channels.seizures ≡ [] → p.connections ≡ [] → AreSeized p
none_seized p e f = record {
  local = λ d n h k. absurd (subst (λ xs. Mem d xs) f n);
  sends = λ s n. absurd (subst (λ xs. Mem s xs) e n);
  unread = λ s n. absurd (subst (λ xs. Mem s xs) e n);
  alone = λ s t n m q. absurd (subst (λ xs. Mem s xs) e n);
  held = λ s n. absurd (subst (λ xs. Mem s xs) e n);
}
