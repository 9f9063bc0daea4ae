-- A log goes on to stand behind what is not a restart.
use Rattle.std.proofs.Common.{◌≡◌, ℕ, ◌+◌, true, false, List, ◌∷◌, length, refl, ap, arith, sym, subst, ◌∙◌}
use Rattle.std.specs.Prelude.{Option, Some, None, min}
use Rattle.mq_log.proofs.Logs.{log_length-push}
use Rattle.mq_calls.specs.declared.records.LogRecord.{LogRecord}
use Rattle.mq_record.specs.Records.{record_bytes}
use Rattle.mq_calls.specs.Sizes.{need}
use Rattle.mq_calls.specs.State.{Plain, Noted, Running, LogState as PlainLog}
use Rattle.mq_calls.specs.State.Running.{Up, Down}
use Rattle.mq_calls.specs.Steps.{Part, freeze, note_of, stands_in}
use Rattle.mq_spec_manager.specs.Stops.{advance_clock, cut, stop, stop_at, stop_changes, last_moment, redone_if, CanBeKept}
use Rattle.mq_spec_log.specs.Applies.{is_in_bounds}
use Rattle.mq_spec_log.specs.Applies.Start.{Later}
use Rattle.mq_spec_log.specs.Bodies.{record_of}
use Rattle.mq_law_image.specs.from_law_log.Restarts.{IsGivenIn, IsHarmless}
use Rattle.mq_law_image.specs.Tells.{TellsDown}
use Rattle.mq_law_image.proofs.Telling.{lost_told, found_told, stop_told}
use Rattle.mq_redo.specs.from_core.Values.{LogBodies}
use Rattle.mq_restart.specs.Tells.{Stood, StoodWith}
use Rattle.mq_restart.proofs.RestartLaws.{logs_kept}
use Rattle.mq_restart.specs.declared.reading.LogRead.{LogRead}
use Rattle.mq_restart.specs.declared.reading.LogRead.TheVariants as reads
use Rattle.mq_restart.specs.Stands.{LogStandsAt, LogStands, StandsUp}
use Rattle.mq_restart.proofs.StayLaws.{stands_moved}

-- ---- a cut that is armed

up_moved : (log : LogBodies) (armed moment : ℕ) (p : Plain) → StandsUp log p → StandsUp log (record p { log = record p.log { armed = armed }; moment = moment })
up_moved log armed moment p s = record { settled = s.settled; some = s.some; tells = s.tells; long = s.long }

cuts_at : (tells : Type 0) (read : LogRead) (r : Running) (log : LogBodies) (k : ℕ) (p : Plain) → p.running ≡ r → LogStandsAt tells read r log p → LogStandsAt tells read r log (cut k p)
cuts_at tells reads.Unread Up log k p e s = up_moved log k p.moment p s
cuts_at tells (reads.Known kept) Up log k p e s = absurd s
cuts_at tells reads.Foreign Up log k p e s = s
cuts_at tells read (Down n starts) log k p e s = stands_moved tells read n starts log p.running k p.moment p s

pub cuts_stand : (tells : Type 0) (read : LogRead) (log : LogBodies) (k : ℕ) (p : Plain) → LogStands tells read log p → LogStands tells read log (cut k p)
cuts_stand tells read log k p s = cuts_at tells read p.running log k p refl s

-- ---- a clock that moves

clock_at : (tells : Type 0) (read : LogRead) (r : Running) (log : LogBodies) (by : ℕ) (p : Plain) → p.running ≡ r → LogStandsAt tells read r log p → LogStandsAt tells read r log (advance_clock by p)
clock_at tells reads.Unread Up log by p e s = up_moved log p.log.armed (min (p.moment + by) last_moment) p s
clock_at tells (reads.Known kept) Up log by p e s = absurd s
clock_at tells reads.Foreign Up log by p e s = s
clock_at tells read (Down n starts) log by p e s = stands_moved tells read n starts log p.running p.log.armed (min (p.moment + by) last_moment) p s

pub clock_stands : (tells : Type 0) (read : LogRead) (log : LogBodies) (by : ℕ) (p : Plain) → LogStands tells read log p → LogStands tells read log (advance_clock by p)
clock_stands tells read log by p s = clock_at tells read p.running log by p refl s

-- ---- a stop

none_more : (n k : ℕ) → n ≡ k → n ≡ k + 0
none_more n k e = omega (arith, e)

stood_lost : (n : Option Noted) (bodies : List (List ℕ)) (p q : Plain) → StandsUp (record { bodies = bodies; pending = None }) p → TellsDown Later false 0 n bodies q → q.log.length ≡ p.log.length → Stood false 0 n 0 bodies q
stood_lost n bodies p q s told long = record { can = tt; few = omega arith; some = s.some; tells = told; long = let a = s.long in omega (arith, a, long) }

stop_log : (p : Plain) → p.running ≡ Up → (stop p).next.log.length ≡ p.log.length
stop_log p up = ap (λ (r : Running). (stop_at r p).next.log.length) up ∙ ap (λ (l : PlainLog). l.length) (logs_kept (stop_changes p) p)

stop_running : (p : Plain) → p.running ≡ Up → (stop p).next.running ≡ Down None 0
stop_running p up = ap (λ (r : Running). (stop_at r p).next.running) up

with_bodies : List (List ℕ) → Option (List ℕ) → LogBodies
with_bodies bodies pending = record { bodies = bodies; pending = pending }

pub stops_stand : (tells : Type 0) (log : LogBodies) (p : Plain) → p.running ≡ Up → StandsUp log p → LogStands tells reads.Unread log (stop p).next
unfolding with_bodies
stops_stand tells log p up s =
    subst (λ (r : Running). LogStandsAt tells reads.Unread r log (stop p).next) (sym (stop_running p up)) (record {
      without = stood_lost None log.bodies p (stop p).next (record { settled = refl; some = s.some; tells = s.tells; long = s.long }) (stop_told Later log.bodies p up s.tells) (stop_log p up);
      with_it = subst (λ (o : Option (List ℕ)). StoodWith true 0 None 0 log.bodies o (stop p).next) (sym s.settled) tt;
    })

-- ---- a write that was stopped

kept_note : (part : Part) (f : Option LogRecord) (r : LogRecord) → f ≡ Some r → CanBeKept true (note_of part f)
kept_note part None r e = absurd cc
kept_note part (Some x) r e = tt

redone_need : (part : Part) (f : Option LogRecord) (r : LogRecord) (left : ℕ) (p : Plain) → f ≡ Some r → (redone_if true (note_of part f) (freeze (note_of part f) left p)).log.length ≡ p.log.length + need r
redone_need part None r left p e = absurd cc
redone_need part (Some x) r left p e =
    let same : x ≡ r = cc in
    ap (λ (l : PlainLog). l.length) (logs_kept part.changes (record (freeze (note_of part (Some x)) left p) { log = stands_in x (freeze (note_of part (Some x)) left p).log }))
    ∙ ap (λ (y : LogRecord). p.log.length + need y) same

pub breaks_stand : (tells : Type 0) (first : List ℕ) (bodies : List (List ℕ)) (r : LogRecord) (part : Part) (left : ℕ) (p : Plain) → StandsUp (record { bodies = first ∷ bodies; pending = None }) p → part.forced ≡ Some r → IsHarmless part p → IsGivenIn part.forced p
    → record_of (record_bytes r) ≡ Some r → is_in_bounds Later r ≡ true → length (record_bytes r) + 5 ≡ need r → LogStands tells reads.Unread (record { bodies = first ∷ bodies; pending = Some (record_bytes r) }) (freeze (note_of part part.forced) left p)
breaks_stand tells first bodies r part left p s forced h g read bounds size = record {
  without = stood_lost (note_of part part.forced) (first ∷ bodies) p (freeze (note_of part part.forced) left p) s (lost_told Later (first ∷ bodies) (note_of part part.forced) left p s.tells) refl;
  with_it = record {
    can = kept_note part part.forced r forced;
    few = omega arith;
    some = omega arith;
    tells = found_told Later first bodies (record_bytes r) r part left p s.tells forced read bounds h g;
    long =
        let a = s.long in
        let b = log_length-push (first ∷ bodies) (record_bytes r) in
        let c = redone_need part part.forced r left p forced in
        omega (arith, a, b, c, size);
  };
}
