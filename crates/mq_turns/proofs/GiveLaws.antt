-- A batch that is given up leaves what the manager's type keeps.
use Rattle.std.proofs.Common.{◌≡◌, ℕ, refl, ap, subst, List, [], ◌∷◌, false, arith}
use Rattle.std.specs.Prelude.{Option, Some, None, Ok, IsSome}
use Rattle.mq_message.specs.declared.place.Holder.TheVariants as holders
use Rattle.mq_calls.specs.declared.state.Batch.{Batch}
use Rattle.mq_calls.specs.State.{Plain, Change}
use Rattle.mq_calls.specs.State.Which.{HeldBy}
use Rattle.mq_calls.specs.State.Change.{DropBatch, Release}
use Rattle.mq_calls.specs.Reads.{batch_of}
use Rattle.mq_calls.specs.Changes.{apply_all}
use Rattle.mq_calls.specs.Steps.{delta_of, do_all}
use Rattle.mq_calls.specs.Meeting.{MeetsInRoom}
use Rattle.mq_spec_manager.specs.Agents.{HasBatch, IsUp, release_batch, release_of}
use Rattle.mq_spec_node.specs.Words.{parts_of}
use Rattle.mq_core.specs.Values.{CoreValue, WritesLog, manager_of}
use Rattle.mq_turn_parts.specs.Turns.{IsBehind}
use Rattle.mq_turn_parts.specs.from_restart.{LogRead}
use Rattle.mq_turn_parts.specs.from_manager.Kept.{IsKept}
use Rattle.mq_turn_parts.proofs.from_manager.CallLaws.{kept_release}

abbrev pub giving : List ℕ → List Change
giving channel = Release (HeldBy (holders.Batch channel)) false ∷ DropBatch channel ∷ []

gives_of : (channel : List ℕ) (o : Option Batch) (p : Plain) → IsSome o → do_all (parts_of (release_of channel o)) p ≡ apply_all (giving channel) p
gives_of channel None p h = absurd cc
gives_of channel (Some b) p h = refl

pub gives_is : (channel : List ℕ) (p : Plain) → HasBatch channel p → do_all (parts_of (release_batch channel p)) p ≡ apply_all (giving channel) p
gives_is channel p h = gives_of channel (batch_of channel p.channels.batches) p h

-- what the call would have told
abbrev told : List ℕ → CoreValue → CoreValue → CoreValue
told channel v new = record new { delta = delta_of (parts_of (release_batch channel v.plain)); stopped = None; faults = v.faults }

meets_of : (channel : List ℕ) (o : Option Batch) (v : CoreValue) (q : Plain) → IsSome o → q ≡ do_all (parts_of (release_of channel o)) v.plain
    → MeetsInRoom (manager_of v) (release_of channel o) (Ok tt) (record { plain = q; delta = delta_of (parts_of (release_of channel o)); stopped = None; faults = v.faults })
meets_of channel None v q h e = absurd cc
meets_of channel (Some b) v q h e =
    (refl, (λ a. a), omega arith, ap (λ (p : Plain). record { plain = p; delta = delta_of (parts_of (release_of channel (Some b))); stopped = None; faults = v.faults }) e)

writes_of : (channel : List ℕ) (o : Option Batch) (v new : CoreValue) → IsSome o → new.log ≡ v.log → WritesLog v (release_of channel o) (Ok tt) new
writes_of channel None v new h e = absurd cc
writes_of channel (Some b) v new h e = (e, (tt, tt))

pub given_kept : (tells : Type 0) (read : LogRead) (v new : CoreValue) (channel : List ℕ) → IsKept tells read v → IsUp v.plain → HasBatch channel v.plain → new.plain ≡ do_all (parts_of (release_batch channel v.plain)) v.plain → new.log ≡ v.log → IsKept tells read new
given_kept tells read v new channel k up has plain log =
    let o : Option Batch = batch_of channel v.plain.channels.batches in
    let w : IsKept tells read (told channel v new) = kept_release tells read v (told channel v new) k up channel (Ok tt) (meets_of channel o v new.plain has plain) (writes_of channel o v (told channel v new) has log) in
    record { well = w.well; log = record { texts = w.log.texts; stands = w.log.stands } }

pub give_behind : (channel : List ℕ) (v old new : CoreValue) → v ≡ old → new.plain ≡ do_all (parts_of (release_batch channel v.plain)) v.plain → new.faults ≡ v.faults → IsBehind (parts_of (release_batch channel old.plain)) old new
give_behind channel v old new is plain faults =
    let B : CoreValue → Type 0 = λ x. IsBehind (parts_of (release_batch channel x.plain)) x new in
    subst B is (record { plain = plain; later = omega (arith, faults) })
