-- A restart that was refused: what its log tells, how it ended, and when its disk is to blame.
use Rattle.std.proofs.Common.{◌≡◌, ℕ, ◌+◌, ◌*◌, ◌<◌, ◌≤◌, ◌^◌, Bool, true, false, List, [], ◌∷◌, ◌++◌, length, refl, ap, arith, sym, subst, ◌∙◌}
use Rattle.std.specs.Prelude.{Option, Some, None}
use Rattle.mq_base.specs.Outside.{Rose}
use Rattle.mq_disk.specs.declared.cutter.Stop.{Stop}
use Rattle.mq_disk.specs.declared.cutter.Stop.TheVariants as stops
use Rattle.mq_calls.specs.declared.commands.RestartFault.{RestartFault}
use Rattle.mq_calls.specs.declared.commands.RestartFault.TheVariants as faults
use Rattle.mq_calls.specs.declared.choices.Return.TheVariants.{Fails}
use Rattle.mq_log.specs.declared.images.Found.{Found}
use Rattle.mq_log.specs.declared.images.Found.TheVariants.{Before, After, Other}
use Rattle.mq_log.specs.declared.open.StartFault.{StartFault}
use Rattle.mq_log.specs.declared.open.StartFault.TheVariants as opens
use Rattle.mq_log.specs.Open.{IsNotBad as IsNoBadStart}
use Rattle.mq_log.specs.State.{LogState}
use Rattle.mq_calls.specs.State.{Plain, Noted, Running, LogState as PlainLog}
use Rattle.mq_calls.specs.State.Running.{Down}
use Rattle.mq_calls.specs.Steps.{stands_in}
use Rattle.mq_spec_manager.specs.Stops.{redone_if, restart_at, started_need, CanReturn, CanReturnTold}
use Rattle.mq_recover.specs.declared.recovery.RecoverFault.TheVariants.{BadRecord, NoMemory}
use Rattle.mq_redo.specs.from_core.{ReadLog}
use Rattle.mq_redo.specs.from_core.Values.{CoreValue, LogBodies, bodies_in}
use Rattle.mq_redo.specs.from_core.Views.{PartsValue, plain_of, frozen_of, noted}
use Rattle.mq_restart.specs.declared.reading.Unraised.{Unraised}
use Rattle.mq_restart.specs.Tells.{LogStood, Stood, StoodWith, kept_of}
use Rattle.mq_restart.specs.Raised.{given_of, with_log, HasHalted, Fell, starts_after, read_after, start_fault, stop_fault, fails_as}
use Rattle.mq_restart.specs.Raised.Fell.{Unopened, Unread, Unstarted}
use Rattle.mq_restart.specs.Raised.HasHalted.{Wanting, Halted}
use Rattle.mq_restart.proofs.RestartLaws.{logs_kept}
use Rattle.mq_restart.proofs.RaiseLaws.{found_stood}
use Rattle.mq_restart.proofs.FallLaws.{fell_known, falls_known, never_unread, can_return}
use Rattle.mq_restart.specs.declared.reading.LogRead.{LogRead}
use Rattle.mq_restart.specs.declared.reading.LogRead.TheVariants as reads
use Rattle.mq_restart.specs.Stands.{read_fallen, LogStandsAt, LogStands, CanStart, CanStartAt}
use Rattle.mq_restart.specs.Falls.{fallen, left_by}
use Rattle.mq_restart.specs.Returned.{CanEnd, Stayed, IsNotBad}
use Rattle.mq_restart.proofs.FallenLaws.{IsDown, down_running, fallen_next, fallen_seen, failed_quiet}
use Rattle.mq_restart.proofs.EndLaws.{can_end}

-- ---- what its log tells is the same, however it is down and whatever is armed

abbrev moved : Running → ℕ → ℕ → Plain → Plain
moved running armed moment p = record p { running = running; log = record p.log { armed = armed }; moment = moment }

redone_length : (kept : Bool) (n : Option Noted) (running : Running) (armed moment : ℕ) (p : Plain) → (redone_if kept n p).log.length ≡ (redone_if kept n (moved running armed moment p)).log.length
redone_length true (Some n) running armed moment p =
    ap (λ (l : PlainLog). l.length) (logs_kept n.changes (record p { log = stands_in n.written p.log }))
    ∙ sym (ap (λ (l : PlainLog). l.length) (logs_kept n.changes (record (moved running armed moment p) { log = stands_in n.written (moved running armed moment p).log })))
redone_length true None running armed moment p = refl
redone_length false n running armed moment p = refl

pub stood_moved : (kept : Bool) (started : ℕ) (n : Option Noted) (starts : ℕ) (bodies : List (List ℕ)) (running : Running) (armed moment : ℕ) (p : Plain) → Stood kept started n starts bodies p → Stood kept started n starts bodies (record p { running = running; log = record p.log { armed = armed }; moment = moment })
stood_moved kept started n starts bodies running armed moment p s = record {
  can = s.can;
  few = s.few;
  some = s.some;
  tells = s.tells;
  long = s.long ∙ ap (λ (k : ℕ). k + started * started_need p.given) (redone_length kept n running armed moment p);
}

with_moved : (kept : Bool) (started : ℕ) (n : Option Noted) (starts : ℕ) (bodies : List (List ℕ)) (pending : Option (List ℕ)) (running : Running) (armed moment : ℕ) (p : Plain) → StoodWith kept started n starts bodies pending p → StoodWith kept started n starts bodies pending (moved running armed moment p)
with_moved kept started n starts bodies None running armed moment p s = tt
with_moved kept started n starts bodies (Some body) running armed moment p s = stood_moved kept started n starts (bodies ++ body ∷ []) running armed moment p s

pub log_moved : (read : Option ReadLog) (n : Option Noted) (starts : ℕ) (bodies : List (List ℕ)) (pending : Option (List ℕ)) (running : Running) (armed moment : ℕ) (p : Plain) → LogStood read n starts bodies pending p
    → LogStood read n starts bodies pending (record p { running = running; log = record p.log { armed = armed }; moment = moment })
log_moved None n starts bodies pending running armed moment p h = record {
  without = stood_moved false 0 n starts bodies running armed moment p h.without;
  with_it = with_moved true 0 n starts bodies pending running armed moment p h.with_it;
}
log_moved (Some read) n starts bodies pending running armed moment p h = record {
  started = h.started;
  without = stood_moved read.kept h.started n starts bodies running armed moment p h.without;
  with_it = with_moved read.kept (h.started + 1) n starts bodies pending running armed moment p h.with_it;
}

-- ---- behind one more restart that was refused

abbrev pub known_as : Bool → ℕ → Option ReadLog
known_as kept length = Some (record { kept = kept; length = length })

not_other : (o p : Option Found) → o ≡ p → (p ≡ Some Other → ⊥) → o ≡ Some Other → ⊥
not_other o p e h f = h (sym e ∙ f)

none_is : None ≡ Some Other → ⊥
none_is e = absurd cc

before_is : Some Before ≡ Some Other → ⊥
before_is e = absurd cc

after_is : Some After ≡ Some Other → ⊥
after_is e = absurd cc

by_found : (tells : Type 0) (read : LogRead) (o : Option Found) (n : Option Noted) (starts : ℕ) (x y : PartsValue) (e : Unraised) → e.found ≡ o → Fell tells x e y → LogStandsAt tells read (Down n starts) (bodies_in x.log) (plain_of x) → x.incarnation + starts + 1 < 2 ^ 61
    → LogStandsAt tells (read_fallen o read) (Down n (starts_after e.in_write starts)) (bodies_in y.log) (plain_of x)
by_found tells reads.Unread None n starts x y e was fell s low =
    subst (λ (o : Option Found). LogStood (read_after None o (plain_of x).log.length) n (starts_after e.in_write starts) y.log.bodies y.log.pending (plain_of x)) was
    (falls_known tells None n starts x y e fell (not_other e.found None was none_is) s low)
by_found tells reads.Unread (Some Before) n starts x y e was fell s low =
    subst (λ (o : Option Found). LogStood (read_after None o (plain_of x).log.length) n (starts_after e.in_write starts) y.log.bodies y.log.pending (plain_of x)) was
    (falls_known tells None n starts x y e fell (not_other e.found (Some Before) was before_is) s low)
by_found tells reads.Unread (Some After) n starts x y e was fell s low =
    subst (λ (o : Option Found). LogStood (read_after None o (plain_of x).log.length) n (starts_after e.in_write starts) y.log.bodies y.log.pending (plain_of x)) was
    (falls_known tells None n starts x y e fell (not_other e.found (Some After) was after_is) s low)
by_found tells reads.Unread (Some Other) n starts x y e was fell s low = λ t. fell_known tells t x y e fell was
by_found tells (reads.Known kept) None n starts x y e was fell s low =
    subst (λ (o : Option Found). LogStood (read_after (known_as kept (plain_of x).log.length) o (plain_of x).log.length) n (starts_after e.in_write starts) y.log.bodies y.log.pending (plain_of x)) was
    (falls_known tells (known_as kept (plain_of x).log.length) n starts x y e fell (not_other e.found None was none_is) s low)
by_found tells (reads.Known kept) (Some Before) n starts x y e was fell s low =
    subst (λ (o : Option Found). LogStood (read_after (known_as kept (plain_of x).log.length) o (plain_of x).log.length) n (starts_after e.in_write starts) y.log.bodies y.log.pending (plain_of x)) was
    (falls_known tells (known_as kept (plain_of x).log.length) n starts x y e fell (not_other e.found (Some Before) was before_is) s low)
by_found tells (reads.Known kept) (Some After) n starts x y e was fell s low =
    subst (λ (o : Option Found). LogStood (read_after (known_as kept (plain_of x).log.length) o (plain_of x).log.length) n (starts_after e.in_write starts) y.log.bodies y.log.pending (plain_of x)) was
    (falls_known tells (known_as kept (plain_of x).log.length) n starts x y e fell (not_other e.found (Some After) was after_is) s low)
by_found tells (reads.Known kept) (Some Other) n starts x y e was fell s low = λ t. fell_known tells t x y e fell was
by_found tells reads.Foreign None n starts x y e was fell s low = s
by_found tells reads.Foreign (Some found) n starts x y e was fell s low = s

pub stands_moved : (tells : Type 0) (read : LogRead) (n : Option Noted) (starts : ℕ) (log : LogBodies) (running : Running) (armed moment : ℕ) (p : Plain) → LogStandsAt tells read (Down n starts) log p
    → LogStandsAt tells read (Down n starts) log (record p { running = running; log = record p.log { armed = armed }; moment = moment })
stands_moved tells reads.Unread n starts log running armed moment p s = log_moved None n starts log.bodies log.pending running armed moment p s
stands_moved tells (reads.Known kept) n starts log running armed moment p s = log_moved (known_as kept p.log.length) n starts log.bodies log.pending running armed moment p s
stands_moved tells reads.Foreign n starts log running armed moment p s = s

same_log : (read : LogRead) (length armed : ℕ) (y z : PartsValue) (e : Unraised) → z ≡ fallen read length armed e y → bodies_in z.log ≡ bodies_in y.log
same_log read length armed y z e is = ap (λ (v : PartsValue). bodies_in v.log) is

pub down_stands : (tells : Type 0) (read : LogRead) (x y z : PartsValue) (e : Unraised) (d : IsDown x.mode) → Fell tells x e y → z ≡ fallen read (plain_of x).log.length x.log.armed e y → LogStands tells read (bodies_in x.log) (plain_of x) → CanStart (plain_of x)
    → LogStands tells (read_fallen e.found read) (bodies_in z.log) (plain_of z)
down_stands tells read x y z e d fell is s low =
    let n = noted (frozen_of x) d.write in
    subst (λ (p : Plain). LogStands tells (read_fallen e.found read) (bodies_in z.log) p) (sym (fallen_seen tells read x y z e d fell is))
    (subst (λ (l : LogBodies). LogStandsAt tells (read_fallen e.found read) (Down n (starts_after e.in_write d.starts)) l (moved (Down n (starts_after e.in_write d.starts)) (left_by e.fault x.log.armed y.log.armed) x.moment (plain_of x))) (sym (same_log read (plain_of x).log.length x.log.armed y z e is))
    (stands_moved tells (read_fallen e.found read) n (starts_after e.in_write d.starts) (bodies_in y.log) (Down n (starts_after e.in_write d.starts)) (left_by e.fault x.log.armed y.log.armed) x.moment (plain_of x)
    (by_found tells read e.found n d.starts x y e refl fell (subst (λ (k : Running). LogStandsAt tells read k (bodies_in x.log) (plain_of x)) (down_running x d) s) (subst (λ (k : Running). CanStartAt k (plain_of x)) (down_running x d) low))))

-- ---- how it ended

can_told : (tells : Type 0) → tells → (read : LogRead) (n : Option Noted) (starts : ℕ) (x y : PartsValue) (e : Unraised) → Fell tells x e y → LogStandsAt tells read (Down n starts) (bodies_in x.log) (plain_of x) → CanReturnTold (fails_as e y.log.armed) n starts x.log.armed
can_told tells t reads.Unread n starts x y e fell s = can_return tells t None n starts x y e fell s
can_told tells t (reads.Known kept) n starts x y e fell s = can_return tells t (known_as kept (plain_of x).log.length) n starts x y e fell s
can_told tells t reads.Foreign n starts x y e fell s = absurd (s t)

-- where there was no memory any number of calls may be left
any_left : (fault : RestartFault) (w : Bool) (n : Option Noted) (starts armed left : ℕ) → CanReturn (Fails fault w left) n starts armed → CanReturn (Fails fault w (left_by fault armed left)) n starts armed
any_left faults.NoMemory w n starts armed left h = tt
any_left faults.Up w n starts armed left h = h
any_left faults.Disk w n starts armed left h = h
any_left faults.Cut w n starts armed left h = h
any_left (faults.BadLog place) w n starts armed left h = h

any_left_told : (fault : RestartFault) (w : Bool) (n : Option Noted) (starts armed left : ℕ) → CanReturnTold (Fails fault w left) n starts armed → CanReturnTold (Fails fault w (left_by fault armed left)) n starts armed
any_left_told faults.NoMemory w n starts armed left h = tt
any_left_told faults.Up w n starts armed left h = h
any_left_told faults.Disk w n starts armed left h = h
any_left_told faults.Cut w n starts armed left h = h
any_left_told (faults.BadLog place) w n starts armed left h = h

-- over a disk that tells its bytes no log is bad
not_bad : (f g : RestartFault) → f ≡ g → IsNotBad g → IsNotBad f
not_bad f g e h = subst IsNotBad (sym e) h

good_start : (fault : StartFault) → IsNoBadStart fault → IsNotBad (start_fault fault)
good_start opens.Disk h = tt
good_start opens.Cut h = tt
good_start (opens.BadLog place) h = h
good_start opens.NoMemory h = tt

good_stop : (by : Stop) → IsNotBad (stop_fault by)
good_stop stops.Cut = tt
good_stop stops.Disk = tt

good_by : (tells : Type 0) → tells → (at : Option ReadLog) (n : Option Noted) (starts : ℕ) (x y : PartsValue) (e : Unraised) → Fell tells x e y → LogStood at n starts x.log.bodies x.log.pending (plain_of x) → IsNotBad e.fault
good_by tells t at n starts x y e (Unopened fault is none out h same) s = not_bad e.fault (start_fault fault) is (good_start fault (h.good t))
good_by tells t at n starts x y e (Unread found (BadRecord place) is was out h unread same) s =
    let k = found_stood at n starts x.log.bodies x.log.pending found y.log.bodies (plain_of x) s h.bodies (h.known t) in
    absurd (never_unread (kept_of at found) k.started n starts y.log.bodies (plain_of x) place k.stood unread)
good_by tells t at n starts x y e (Unread found NoMemory is was out h unread same) s = not_bad e.fault faults.NoMemory is tt
good_by tells t at n starts x y e (Unstarted found log built was h r u) s = by u.halted
  where
    by : HasHalted (given_of (with_log log x)) built log e y.log → IsNotBad e.fault
    by (Wanting fault out same) = not_bad e.fault faults.NoMemory fault tt
    by (Halted stop fault out halted) = not_bad e.fault (stop_fault stop) fault (good_stop stop)

good_at : (tells : Type 0) → tells → (read : LogRead) (n : Option Noted) (starts : ℕ) (x y : PartsValue) (e : Unraised) → Fell tells x e y → LogStandsAt tells read (Down n starts) (bodies_in x.log) (plain_of x) → IsNotBad e.fault
good_at tells t reads.Unread n starts x y e fell s = good_by tells t None n starts x y e fell s
good_at tells t (reads.Known kept) n starts x y e fell s = good_by tells t (known_as kept (plain_of x).log.length) n starts x y e fell s
good_at tells t reads.Foreign n starts x y e fell s = absurd (s t)

-- its disk's count
rose_start : (fault : StartFault) → start_fault fault ≡ faults.Disk → fault ≡ opens.Disk
rose_start opens.Disk e = refl
rose_start opens.Cut e = absurd cc
rose_start (opens.BadLog place) e = absurd cc
rose_start opens.NoMemory e = absurd cc

rose_stop : (by : Stop) → stop_fault by ≡ faults.Disk → by ≡ stops.Disk
rose_stop stops.Cut e = absurd cc
rose_stop stops.Disk e = refl

no_disk : (f g : RestartFault) → f ≡ g → (g ≡ faults.Disk → ⊥) → f ≡ faults.Disk → ⊥
no_disk f g e h d = h (sym e ∙ d)

wanting_disk : faults.NoMemory ≡ faults.Disk → ⊥
wanting_disk e = absurd cc

bad_disk : (place : ℕ) → faults.BadLog place ≡ faults.Disk → ⊥
bad_disk place e = absurd cc

rose_over : (a b c : ℕ) → a ≤ b → Rose b c → Rose a c
rose_over a b c le r = grind (arith, le, r)

pub fell_later : (tells : Type 0) (x y : PartsValue) (e : Unraised) → Fell tells x e y → x.log.faults ≤ y.log.faults
fell_later tells x y e (Unopened fault is none out h same) = h.later
fell_later tells x y e (Unread found fault is was out h unread same) = h.later
fell_later tells x y e (Unstarted found log built was h r u) = let a = h.later in by u.halted
  where
    by : HasHalted (given_of (with_log log x)) built log e y.log → x.log.faults ≤ y.log.faults
    by (Wanting fault out same) = let a = h.later in let b = ap (λ (l : LogState). l.faults) same in omega (arith, a, b)
    by (Halted stop fault out halted) = let a = h.later in let b = halted.later in omega (arith, a, b)

fell_disk : (tells : Type 0) (x y : PartsValue) (e : Unraised) → Fell tells x e y → e.fault ≡ faults.Disk → Rose x.log.faults y.log.faults
fell_disk tells x y e (Unopened fault is none out h same) d = h.disk (rose_start fault (sym is ∙ d))
fell_disk tells x y e (Unread found (BadRecord place) is was out h unread same) d = absurd (no_disk e.fault (faults.BadLog place) is (bad_disk place) d)
fell_disk tells x y e (Unread found NoMemory is was out h unread same) d = absurd (no_disk e.fault faults.NoMemory is wanting_disk d)
fell_disk tells x y e (Unstarted found log built was h r u) d = by u.halted
  where
    by : HasHalted (given_of (with_log log x)) built log e y.log → Rose x.log.faults y.log.faults
    by (Wanting fault out same) = absurd (no_disk e.fault faults.NoMemory fault wanting_disk d)
    by (Halted stop fault out halted) = rose_over x.log.faults log.faults y.log.faults h.later (halted.disk (rose_stop stop (sym fault ∙ d)))

-- ---- all of it

pub stayed : (tells : Type 0) (read : LogRead) (x y z : PartsValue) (e : Unraised) (d : IsDown x.mode) (new : CoreValue) → Fell tells x e y → z ≡ fallen read (plain_of x).log.length x.log.armed e y → LogStands tells read (bodies_in x.log) (plain_of x)
    → new.plain ≡ plain_of z → new.delta ≡ [] → new.faults ≡ z.log.faults → Stayed tells (plain_of x) x.log.faults (record { fault = e.fault; in_write = e.in_write; left = z.log.armed }) new
stayed tells read x y z e d new fell is s seen told count = record {
  ends = record {
    can = subst (λ (r : Running). CanEnd tells (Fails e.fault e.in_write z.log.armed) r (plain_of x)) (sym (down_running x d))
        (subst (λ (k : ℕ). CanEnd tells (Fails e.fault e.in_write k) (Down n d.starts) (plain_of x)) (sym left)
        (any_left e.fault e.in_write n d.starts x.log.armed y.log.armed (can_end tells n d.starts x y e fell), λ t. any_left_told e.fault e.in_write n d.starts x.log.armed y.log.armed (can_told tells t read n d.starts x y e fell there)));
    plain = seen ∙ fallen_next tells read x y z e d fell is ∙ ap (λ (r : Running). (restart_at r (Fails e.fault e.in_write z.log.armed) (plain_of x)).next) (sym (down_running x d));
    delta = told ∙ sym (failed_quiet e.fault e.in_write z.log.armed n d.starts (plain_of x)) ∙ ap (λ (r : Running). (restart_at r (Fails e.fault e.in_write z.log.armed) (plain_of x)).delta) (sym (down_running x d));
  };
  good = λ t. good_at tells t read n d.starts x y e fell there;
  disk = λ f. subst (λ (k : ℕ). Rose x.log.faults k) (sym (count ∙ faulty)) (fell_disk tells x y e fell f);
}
  where
    n : Option Noted
    n = noted (frozen_of x) d.write

    left : z.log.armed ≡ left_by e.fault x.log.armed y.log.armed
    left = ap (λ (v : PartsValue). v.log.armed) is

    faulty : z.log.faults ≡ y.log.faults
    faulty = ap (λ (v : PartsValue). v.log.faults) is

    there : LogStandsAt tells read (Down n d.starts) (bodies_in x.log) (plain_of x)
    there = subst (λ (k : Running). LogStandsAt tells read k (bodies_in x.log) (plain_of x)) (down_running x d) s
