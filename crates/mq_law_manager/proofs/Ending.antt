-- All that holds of a manager, put together; and however a call ends.
use Rattle.std.proofs.Common.{ℕ, zero, suc, ◌≡◌, ◌+◌, Bool, false, List, [], ◌∷◌, sym, subst}
use Rattle.std.specs.Prelude.{Option, None, Some}
use Rattle.mq_queue.specs.declared.row.Row.{Row}
use Rattle.mq_calls.specs.declared.choices.Choice.{Choice}
use Rattle.mq_calls.specs.declared.choices.Choice.TheVariants.{Runs, NoMemory, Stopped}
use Rattle.mq_calls.specs.declared.records.LogRecord.{LogRecord}
use Rattle.mq_calls.specs.State.{Plain, Noted, Given, LogState, Queue, Running}
use Rattle.mq_calls.specs.State.Running.{Up, Down}
use Rattle.mq_calls.specs.State.Which.{Nonpersistent}
use Rattle.mq_calls.specs.State.Change.{Leave}
use Rattle.mq_calls.specs.Changes.{apply, kept_in}
use Rattle.mq_calls.specs.Images.{begun, lasting, raised}
use Rattle.mq_calls.specs.declared.image.Image.{Image}
use Rattle.mq_calls.specs.Recovery.{IsImage, AreKnown}
use Rattle.mq_calls.specs.Steps.{Step, Part, logged, do_part, do_all, freeze, note_of, stopped_at, chosen, after}
use Rattle.mq_calls.specs.Steps.Step.{Refuse, Do}
use Rattle.mq_spec_manager.specs.Stops.{stop, stop_at, stop_changes, restarted, grown, first_start, started_need}
use Rattle.mq_law_manager.specs.View.{View, view, kept_all}
use Rattle.mq_law_manager.specs.Facts.{Holds, AreStill, AreNamed, IsStocked, IsSound, IsFrozen}
use Rattle.mq_law_manager.specs.Seen.{goes_if, with_rows}
use Rattle.mq_law_manager.specs.Kept.{PartsKeep, Keeps, AllKeep, StepKeeps, IsAfter}
use Rattle.mq_law_manager.proofs.Lists.{mem_keep}
use Rattle.mq_law_manager.proofs.SeenLaws.{applied}
use Rattle.mq_law_manager.proofs.QueueNames.{mapped_named, all_named}
use Rattle.mq_law_manager.proofs.Apart as apart
use Rattle.mq_law_manager.proofs.OrderLaws as ordered
use Rattle.mq_law_manager.proofs.Shelves.{stays}
use Rattle.mq_law_manager.proofs.Stocks.{stop_stocked}
use Rattle.mq_law_manager.proofs.Stopping.{stop_keeps}
use Rattle.mq_law_manager.proofs.Numbered.{ImageRests, begins}
use Rattle.mq_law_manager.proofs.Restarting.{lasting_rests}
use Rattle.mq_law_manager.proofs.Beginning.{image_rests}
use Rattle.mq_law_manager.proofs.StockStarts.{ImageStocked, begun_stocked, begun_names, lasting_stocked, image_stocked}

-- Facts of rows, names of queues, the stock

logged_named : (r : Option LogRecord) (p : Plain) → AreNamed p.queues → AreNamed (logged r p).queues
logged_named None p h = h
logged_named (Some r) p h = h

part_named : (part : Part) (p : Plain) → AreNamed p.queues → AreNamed (do_part part p).queues
part_named part p h = all_named part.changes (logged part.forced p) (logged_named part.forced p h)

pub parts_joined : (parts : List Part) (p : Plain) → PartsKeep parts p → AllKeep IsStocked parts p → AreNamed p.queues → AllKeep IsSound parts p
parts_joined [] p k s n = tt
parts_joined (part ∷ parts) p k s n = (record { facts = k.0; named = part_named part p n; stocked = s.0 }, parts_joined parts (do_part part p) k.1 s.1 (part_named part p n))

pub joined : {F T : Type 0} (step : Step F T) (p : Plain) → IsSound p → Keeps step p → StepKeeps IsStocked step p → StepKeeps IsSound step p
joined (Refuse reason) p h k s = tt
joined (Do reply parts) p h k s = parts_joined parts p k s h.named

-- A stopped write

still : (v : View) → Holds v → AreStill v
still v h = record { apart = h.apart; held = h.taken.held; of = h.batched.of; one = h.batched.one; ordered = h.ordered }

fewer : (v : View) (test : List ℕ → Row → Bool) → Holds v → AreStill (with_rows (kept_all test v.rows) v)
fewer v test h = record {
  apart = apart.keeps v.rows v.puts v.unborn test h.apart;
  held = λ q x n m e. h.taken.held q x n (mem_keep (test q) x (v.rows q) m).0 e;
  of = λ q x c m e. h.batched.of q x c (mem_keep (test q) x (v.rows q) m).0 e;
  one = h.batched.one;
  ordered = ordered.keeps v.rows v.arrivals test h.ordered;
}

pub sound_still : (p : Plain) → IsSound p → IsFrozen p
sound_still p h = record { still = still (view p) h.facts; named = h.named; stocked = h.stocked }

pub frozen : (noted : Option Noted) (left : ℕ) (p : Plain) → IsSound p → IsFrozen (freeze noted left p)
frozen noted left p h =
    let s : IsStocked (apply (Leave Nonpersistent) p) = stays (Leave Nonpersistent) p tt h.stocked in
    record {
      still = subst AreStill (sym (applied (Leave Nonpersistent) p tt)) (fewer (view p) (goes_if Nonpersistent) h.facts);
      named = mapped_named (kept_in Nonpersistent) (λ q. same q) p.queues h.named;
      stocked = record { once = s.once; placed = s.placed; rows = s.rows; puts = s.puts; routed = s.routed };
    }
  where
    same : (q : Queue) → (kept_in Nonpersistent q).name ≡ q.name
    same q = λ i. q.name

pub stopped : (n : ℕ) (parts : List Part) (left : ℕ) (p : Plain) → IsSound p → AllKeep IsSound parts p → IsFrozen (stopped_at n parts left p)
stopped n [] left p h k = sound_still p h
stopped zero (part ∷ parts) left p h k = frozen (note_of part part.forced) left p h
stopped (suc n) (part ∷ parts) left p h k = stopped n parts left (do_part part p) k.0 k.1

pub done : (parts : List Part) (p : Plain) → IsSound p → AllKeep IsSound parts p → IsSound (do_all parts p)
done [] p h k = h
done (part ∷ parts) p h k = done parts (do_part part p) k.0 k.1

refused : (choice : Choice) (p : Plain) → IsSound p → IsAfter choice p
refused Runs p h = h
refused NoMemory p h = h
refused (Stopped by n left) p h = sound_still p h

ended : (F : Type 0) {T : Type 0} (choice : Choice) (reply : T) (parts : List Part) (p : Plain) → IsSound p → AllKeep IsSound parts p → IsAfter choice (chosen {F = F} choice reply parts p).next
ended F Runs reply parts p h k = done parts p h k
ended F NoMemory reply parts p h k = h
ended F (Stopped by n left) reply parts p h k = stopped n parts left p h k

pub ends : {F T : Type 0} (s : Step F T) (choice : Choice) (p : Plain) → IsSound p → StepKeeps IsSound s p → IsAfter choice (after s choice p).next
ends (Refuse reason) choice p h k = refused choice p h
ends {F} (Do reply parts) choice p h k = ended F choice reply parts p h k

-- Stops and starts

rest_named : (r : Running) (p : Plain) → AreNamed p.queues → AreNamed (stop_at r p).next.queues
rest_named Up p h = all_named (stop_changes p) p h
rest_named (Down noted starts) p h = h

pub stop_sound : (p : Plain) → IsSound p → IsSound (stop p).next
stop_sound p h = record { facts = stop_keeps p h.facts; named = rest_named p.running p h.named; stocked = stop_stocked p h.facts h.stocked }

pub begun_sound : (given : Given) (image : Image) (log : LogState) (moment : ℕ) → ImageRests given image → ImageStocked given.number image → IsSound (begun given image log moment)
begun_sound given image log moment h s = record { facts = begins given image log moment h; named = begun_names given image log moment s; stocked = begun_stocked given image log moment s }

pub restart_sound : (started : ℕ) (noted : Option Noted) (p : Plain) → IsFrozen p → IsSound (restarted false started noted p)
restart_sound started noted p h = begun_sound p.given (raised started (lasting p)) (grown started p) p.moment (lasting_rests started p h.still) (lasting_stocked started p h.still.one h.named h.stocked)

pub first_sound : (given : Given) (image : Image) (length moment : ℕ) → IsImage image → AreKnown given.number image → IsSound (first_start given image length moment)
first_sound given image length moment h k = begun_sound given (raised 0 image) (record { length = length + started_need given; armed = 0 }) moment (image_rests given image h k) (image_stocked given.number image h k)
