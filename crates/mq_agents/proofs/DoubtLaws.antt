-- A batch that becomes the unit in doubt.
use Rattle.std.proofs.Common.{◌≡◌, ℕ, ◌≤◌, Bool, true, false, cond, List, [], ◌∷◌, length, refl, ap, sym, subst, ◌∙◌}
use Rattle.std.specs.Prelude.{Option, Some, None}
use Rattle.mq_calls.specs.Words.{InDoubt, SenderData, Plain, Part, Change, Step, Do, Refuse, sender_or, sender_data, data_prepared, batch_of, is_full, need, refused_or, apply}
use Rattle.mq_calls.specs.declared.state.Batch.{Batch}
use Rattle.mq_calls.specs.declared.agents.PrepareFault.{PrepareFault}
use Rattle.mq_calls.specs.State.Change.{SetSender, DropBatch}
use Rattle.mq_calls.specs.declared.agents.PrepareFault.TheVariants as prepare_faults
use Rattle.mq_calls.specs.declared.deltas.Did.TheVariants as did
use Rattle.mq_spec_manager.specs.Agents.{prepare, prepare_of, prepared_doubt, prepared_record}
use Rattle.mq_core.specs.declared.parts.StoppedWrite.TheVariants as writes
use Rattle.mq_core.specs.Views.{PartsValue, plain_of, frozen_of, noted, noted_batch}
use Rattle.mq_core.specs.Ties.{Tied, mode_is_up}
use Rattle.mq_agents.specs.Removing.{CanDoubt, IsDoubtOf, doubt_record, without_one}
use Rattle.mq_agents.proofs.EndLaws.{with_ends, ends_view, tied_ends}

-- the step's part
abbrev pub doubt_changes : List ℕ → InDoubt → SenderData → List Change
doubt_changes channel d old = SetSender channel (data_prepared d old) ∷ DropBatch channel ∷ []

abbrev pub doubt_part : List ℕ → InDoubt → SenderData → Part
doubt_part channel d old = record { forced = Some (doubt_record channel d); changes = doubt_changes channel d old; delta = did.Prepared channel d.unit ∷ [] }

prepare_by : List ℕ → ℕ → Plain → Option Batch → Step PrepareFault (Unit {0})
prepare_by channel last p o = prepare_of channel last o p

by_batch : (d : InDoubt) (channel : List ℕ) (last : ℕ) (p : Plain) (o : Option Batch) → IsDoubtOf d last o → is_full (need (doubt_record channel d)) p ≡ false → prepare_of channel last o p ≡ Do tt (doubt_part channel d (sender_or (sender_data channel p)) ∷ [])
by_batch d channel last p None h fits = absurd h
by_batch d channel last p (Some b) h fits =
    subst (λ (k : InDoubt). is_full (need (doubt_record channel k)) p ≡ false → prepare_of channel last (Some b) p ≡ Do tt (doubt_part channel k (sender_or (sender_data channel p)) ∷ [])) (sym h)
    (λ fits. ap (λ (full : Bool). refused_or (cond full (Some prepare_faults.NoRoom) None) (Do tt (doubt_part channel (prepared_doubt last b) (sender_or (sender_data channel p)) ∷ []))) fits) fits

pub prepares_as : (d : InDoubt) (channel : List ℕ) (last : ℕ) (p : Plain) → IsDoubtOf d last (batch_of channel p.channels.batches) → is_full (need (doubt_record channel d)) p ≡ false
    → prepare channel last p ≡ Do tt (doubt_part channel d (sender_or (sender_data channel p)) ∷ [])
prepares_as d channel last p h fits = by_batch d channel last p (batch_of channel p.channels.batches) h fits

noted_by : (d : InDoubt) (channel : List ℕ) (last : ℕ) (x : PartsValue) (o : Option Batch) → IsDoubtOf d last o
    → noted_batch channel last o (frozen_of x) ≡ Some (record { written = doubt_record channel d; changes = doubt_changes channel d (sender_or (sender_data channel (plain_of x))); delta = did.Prepared channel d.unit ∷ [] })
noted_by d channel last x None h = absurd h
noted_by d channel last x (Some b) h =
    subst (λ (k : InDoubt). noted_batch channel last (Some b) (frozen_of x) ≡ Some (record { written = doubt_record channel k; changes = doubt_changes channel k (sender_or (sender_data channel (plain_of x))); delta = did.Prepared channel k.unit ∷ [] })) (sym h) refl

pub doubt_noted : (d : InDoubt) (channel : List ℕ) (last : ℕ) (x : PartsValue) → IsDoubtOf d last (batch_of channel (plain_of x).channels.batches)
    → noted (frozen_of x) (Some (writes.Prepared channel last)) ≡ Some (record { written = doubt_record channel d; changes = doubt_changes channel d (sender_or (sender_data channel (plain_of x))); delta = did.Prepared channel d.unit ∷ [] })
doubt_noted d channel last x h = noted_by d channel last x (batch_of channel x.ends.batches) h

-- the batch is no more
pub dropped_view : (channel : List ℕ) (z : PartsValue) → mode_is_up z.mode ≡ true → plain_of (record z { ends = without_one channel z.ends }) ≡ apply (DropBatch channel) (plain_of z)
unfolding with_ends
dropped_view channel z up = ends_view (without_one channel z.ends) z up

pub dropped_tied : (channel : List ℕ) (z : PartsValue) → Tied z → Tied (record z { ends = without_one channel z.ends })
unfolding with_ends
dropped_tied channel z t = tied_ends (without_one channel z.ends) z (λ w. record { log = w.log; rows = w.rows; senders = w.senders; receivers = w.receivers; seats = w.seats }) t

-- a batch that has no room, and one that has
pub full_as : (channel : List ℕ) (last : ℕ) (p : Plain) (b : Batch) → batch_of channel p.channels.batches ≡ Some b → is_full (need (prepared_record channel last b)) p ≡ true → prepare channel last p ≡ Refuse prepare_faults.NoRoom
unfolding prepare_by
full_as channel last p b e full =
    ap (prepare_by channel last p) e
    ∙ ap (λ (f : Bool). refused_or (cond f (Some prepare_faults.NoRoom) None) (Do tt (doubt_part channel (prepared_doubt last b) (sender_or (sender_data channel p)) ∷ []))) full

pub can_doubt : (d : InDoubt) (channel : List ℕ) (last : ℕ) (p : Plain) (b : Batch) → batch_of channel p.channels.batches ≡ Some b → d ≡ prepared_doubt last b → length b.idents ≤ 252645129 → is_full (need (prepared_record channel last b)) p ≡ false
    → CanDoubt d channel last p
can_doubt d channel last p b e is few fits = record {
  batch = subst (IsDoubtOf d last) (sym e) is;
  few = subst (λ (k : InDoubt). length k.idents ≤ 252645129) (sym is) few;
  fits = subst (λ (k : InDoubt). is_full (need (doubt_record channel k)) p ≡ false) (sym is) fits;
}
