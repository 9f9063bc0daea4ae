-- Time, a cut that is armed, a delta that is taken and a stop keep what holds of a manager and of its log.
use Rattle.std.proofs.Common.{◌≡◌, ℕ, [], refl, sym, subst}
use Rattle.std.specs.Prelude.{None}
use Rattle.mq_calls.specs.State.{Running}
use Rattle.mq_calls.specs.State.Running.{Up, Down}
use Rattle.mq_calls.specs.Words.{Plain}
use Rattle.mq_spec_manager.specs.Stops.{advance_clock, cut, stop, stop_at}
use Rattle.mq_law_image.specs.Values.{AreObjectTexts}
use Rattle.mq_receive.specs.from_core.Values.{CoreValue, LogBodies}
use Rattle.mq_restarts.specs.from_restart.{LogRead}
use Rattle.mq_restarts.specs.from_restart.LogReadVariants as reads
use Rattle.mq_restarts.specs.from_restart.Stands.{LogStands, LogStandsAt}
use Rattle.mq_restarts.proofs.from_restart.StandLaws.{cuts_stand, clock_stands, stops_stand}
use Rattle.mq_steer.specs.Quiet.{quietly}
use Rattle.mq_manager.specs.Kept.{IsKept}
use Rattle.mq_manager.proofs.WellLaws.{well_aside, well_stop}
use Rattle.mq_manager.proofs.KeepLaws.{foreign_any}
use Rattle.mq_manager.proofs.LimitLaws.{rest_same}

pub kept_cut : (tells : Type 0) (read : LogRead) (n : ℕ) (v new : CoreValue) → new ≡ quietly (cut n) v → IsKept tells read v → IsKept tells read new
kept_cut tells read n v new e k = subst (IsKept tells read) (sym e) (record {
  well = well_aside v.plain.moment (cut n v.plain).log v.plain k.well;
  log = record { texts = k.log.texts; stands = cuts_stand tells read v.log n v.plain k.log.stands };
})

pub kept_clock : (tells : Type 0) (read : LogRead) (by : ℕ) (v new : CoreValue) → new ≡ quietly (advance_clock by) v → IsKept tells read v → IsKept tells read new
kept_clock tells read by v new e k = subst (IsKept tells read) (sym e) (record {
  well = well_aside (advance_clock by v.plain).moment v.plain.log v.plain k.well;
  log = record { texts = k.log.texts; stands = clock_stands tells read v.log by v.plain k.log.stands };
})

pub kept_taken : (tells : Type 0) (read : LogRead) (v new : CoreValue) → new ≡ record v { delta = [] } → IsKept tells read v → IsKept tells read new
kept_taken tells read v new e k = subst (IsKept tells read) (sym e) (record { well = k.well; log = k.log })

-- a stop, by what restarts have read
stop_stands : (tells : Type 0) (read : LogRead) (log : LogBodies) (p : Plain) → LogStands tells read log p → LogStands tells read log (stop p).next
stop_stands tells read log p s = by p.running refl
  where
    up_stands : (k : LogRead) → p.running ≡ Up → LogStandsAt tells k Up log p → LogStands tells k log (stop p).next
    up_stands reads.Unread e s = stops_stand tells log p e s
    up_stands (reads.Known kept) e s = absurd s
    up_stands reads.Foreign e s = foreign_any tells (stop p).next.running log (stop p).next s

    by : (r : Running) → p.running ≡ r → LogStands tells read log (stop p).next
    by Up e = up_stands read e (subst (λ (r : Running). LogStandsAt tells read r log p) e s)
    by (Down noted starts) e = subst (λ (r : Running). LogStands tells read log (stop_at r p).next) (sym e) s

stop_texts : (r : Running) (p : Plain) → AreObjectTexts p.definitions → AreObjectTexts (stop_at r p).next.definitions
stop_texts Up p t = subst AreObjectTexts (sym (rest_same p)) t
stop_texts (Down noted starts) p t = t

pub kept_stop : (tells : Type 0) (read : LogRead) (v new : CoreValue) → new ≡ record v { plain = (stop v.plain).next; delta = (stop v.plain).delta; stopped = None } → IsKept tells read v → IsKept tells read new
kept_stop tells read v new e k = subst (IsKept tells read) (sym e) (record {
  well = well_stop v.plain k.well;
  log = record { texts = stop_texts v.plain.running v.plain k.log.texts; stands = stop_stands tells read v.log v.plain k.log.stands };
})
