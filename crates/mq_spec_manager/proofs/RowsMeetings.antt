-- Which bodies don't meet a step: one that finds no memory where it may not, one with another delta, one that blames a disk
-- whose count didn't rise.
use Rattle.std.specs.Prelude.{◌≡◌, ℕ, false, List, [], ◌∷◌, None, Ok, Err, codes, refl}
use Rattle.std.proofs.Common.{ap, arith, ◌∙◌, sym}
use Rattle.mq_sc_apply.specs.from_disk.StopVariants as stops
use Rattle.mq_sc_apply.specs.from_calls.Words.{Reason, Plain, Step, Part, write_calls, delta_of, Refuse, Do, ManagerValue, untouched, Meets, MeetsOrWants, MeetsInRoom, MeetsDone, StoppedIn}
use Rattle.mq_sc_apply.specs.from_calls.{Answer, Did, Sent}
use Rattle.mq_sc_apply.specs.from_codes.ReasonVariants as reasons
use Rattle.mq_sc_apply.specs.from_calls.HaltVariants as halts
use Rattle.mq_sc_apply.specs.from_calls.DidVariants as did
use Rattle.mq_sc_apply.specs.from_calls.Meeting.Wants.{Behind}
use Rattle.mq_spec_manager.specs.Put.{mqput}
use Rattle.mq_spec_manager.proofs.Script.{london_with, local, connect, connection, handle, shared_output, open_at, persistent_md}

abbrev q1 : List ℕ
q1 = codes "Q1"

-- a persistent put outside units
abbrev opened : Plain
opened = open_at 1 q1 shared_output (connect (london_with 268435456 (local q1 [] ∷ [])))

abbrev put : Step Reason (Answer Sent)
put = mqput (connection 1) (handle 1) persistent_md (codes "A") false opened

abbrev parts_of : {F T : Type 0} → Step F T → List Part
parts_of (Refuse reason) = []
parts_of (Do reply parts) = parts

put_calls : write_calls (parts_of put) ≡ 4
put_calls = refl

put_told : delta_of (parts_of put) ≡ did.Placed q1 (record { manager = 1; incarnation = 1; number = 1 }) None ∷ []
put_told = refl

-- 2071: behind all refusals, with nothing changed; in place of a refusal for a command or an agent's call alone
module _ (v w : ManagerValue) where
  wants_behind : Meets v put (Err halts.NoMemory) w ≡ (w ≡ untouched v)
  wants_behind = refl

  wants_before : (T : Type 0) → Meets {F = Reason} {T = T} v (Refuse reasons.QueueFull) (Err halts.NoMemory) w ≡ ⊥
  wants_before T = refl

  wants_anywhere : (T : Type 0) → MeetsOrWants {F = Reason} {T = T} v (Refuse reasons.QueueFull) (Err halts.NoMemory) w ≡ (w ≡ untouched v)
  wants_anywhere T = refl

  wants_nowhere : MeetsInRoom v put (Err halts.NoMemory) w ≡ ⊥
  wants_nowhere = refl

-- a body that did the parts, and tells nothing of them
abbrev is_empty : {A : Type 0} → List A → Type 0
is_empty [] = Unit {0}
is_empty (x ∷ xs) = ⊥

untold : (v w : ManagerValue) (reply value : Answer Sent) → w.delta ≡ [] → MeetsDone {F = Reason} Behind v reply (parts_of put) (Ok value) w → ⊥
untold v w reply value none h = subst_empty (sym (ap (λ (x : ManagerValue). x.delta) h.3) ∙ none)
  where
    subst_empty : {d : Did} → d ∷ [] ≡ [] → ⊥
    subst_empty e = absurd cc

-- a body that answers Disk, with the count of faults as it was
idle_disk : (v w : ManagerValue) (parts : List Part) → v.faults ≡ 0 → w.faults ≡ 0 → StoppedIn stops.Disk parts v w → ⊥
idle_disk v w parts before after h = omega (arith, before, after, h.rose refl)
