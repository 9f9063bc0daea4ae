-- A restart that was refused: how the manager is then seen, and that its parts are tied.
use Rattle.std.proofs.Common.{◌≡◌, ℕ, ◌<◌, ◌^◌, Bool, true, false, List, [], refl, ap, sym, subst, ◌∙◌}
use Rattle.std.specs.Prelude.{Option, Some, None}
use Rattle.mq_disk.specs.declared.cutter.Stop.{Stop}
use Rattle.mq_disk.specs.declared.cutter.Stop.TheVariants as stops
use Rattle.mq_calls.specs.declared.commands.RestartFault.{RestartFault}
use Rattle.mq_calls.specs.declared.commands.RestartFault.TheVariants as faults
use Rattle.mq_log.specs.declared.images.Found.{Found}
use Rattle.mq_log.specs.State.{LogState, log_length}
use Rattle.mq_calls.specs.State.{Plain, Noted, Running}
use Rattle.mq_calls.specs.State.Running.{Down}
use Rattle.mq_calls.specs.Words.{is_up}
use Rattle.mq_spec_manager.specs.Stops.{failed}
use Rattle.mq_redo.specs.from_core.{Mode, ReadLog, StoppedWrite}
use Rattle.mq_redo.specs.from_core.ModeVariants as modes
use Rattle.mq_redo.specs.from_core.Ties.{Tied, mode_is_up}
use Rattle.mq_redo.specs.from_core.Views.{PartsValue, plain_of, frozen_of, noted, running_of, length_of, read_length, channels_of}
use Rattle.mq_redo.proofs.from_core.ForceLaws.{tied_where}
use Rattle.mq_rebuild.specs.from_place.States.{queues_of}
use Rattle.mq_rebuild.specs.declared.building.Built.{Built}
use Rattle.mq_restart.specs.declared.reading.Unraised.{Unraised}
use Rattle.mq_restart.specs.Raised.{with_log, given_of, HasHalted, Fell, starts_after, stop_fault}
use Rattle.mq_restart.specs.Raised.Fell.{Unopened, Unread, Unstarted}
use Rattle.mq_restart.specs.Raised.HasHalted.{Wanting, Halted}
use Rattle.mq_restart.specs.declared.reading.LogRead.{LogRead}
use Rattle.mq_restart.specs.Falls.{or_read, fallen_mode, read_noted, left_by, fallen}

-- a manager that is down, part by part
pub record IsDown (m : Mode) : Type 0 where
  pub write : Option StoppedWrite
  pub starts : ℕ
  pub read : Option ReadLog
  pub is : m ≡ modes.Down write starts read

pub is_down : (frozen : Plain) (m : Mode) → is_up (running_of frozen m) ≡ false → IsDown m
is_down frozen modes.Up e = absurd cc
is_down frozen (modes.Down write starts read) e = record { write = write; starts = starts; read = read; is = refl }

pub mode_down : (m : Mode) → IsDown m → mode_is_up m ≡ false
mode_down m d = ap mode_is_up d.is

-- ---- its parts are tied

absurd_up : (b : Bool) → b ≡ false → b ≡ true → ⊥
absurd_up true e f = absurd cc
absurd_up false e f = absurd cc

pub tied_log : (x : PartsValue) (l : LogState) (m : Mode) → mode_is_up m ≡ false → l.max ≡ x.log.max → Tied x → Tied (record x { mode = m; log = l })
tied_log x l m down max t =
    let none = λ (u : mode_is_up m ≡ true). absurd_up (mode_is_up m) down u in
    tied_where [] [] x.ends l x.body m x (λ u. absurd (none u)) (λ u. absurd (none u)) (λ u. absurd (none u)) (subst (λ (n : ℕ). n < 2 ^ 32) (sym max) t.max) t

halted_max : (b : Built) (x y : PartsValue) (log : LogState) (e : Unraised) → log.max ≡ x.log.max → HasHalted (given_of (with_log log x)) b log e y.log → y.log.max ≡ x.log.max
halted_max b x y log e max (Wanting fault out same) = ap (λ (l : LogState). l.max) same ∙ max
halted_max b x y log e max (Halted by fault out h) = ap (λ (l : LogState). l.max) h.log ∙ max

-- all but the log is as it was, and that has its largest length
pub fell_same : (tells : Type 0) (x y : PartsValue) (e : Unraised) → Fell tells x e y → (y ≡ with_log y.log x) × (y.log.max ≡ x.log.max)
fell_same tells x y e (Unopened fault is none out h same) = (same, ap (λ (l : LogState). l.max) h.same)
fell_same tells x y e (Unread found fault is was out h unread same) = (same, ap (λ (l : LogState). l.max) h.same)
fell_same tells x y e (Unstarted found log built was h r u) = (u.same, halted_max built x y log e (ap (λ (l : LogState). l.max) h.same) u.halted)

still_down : (read : Option ReadLog) (in_write : Bool) (m : Mode) → mode_is_up m ≡ false → mode_is_up (fallen_mode read in_write m) ≡ false
still_down read in_write modes.Up e = absurd cc
still_down read in_write (modes.Down write starts old) e = refl

fallen_from : (read : LogRead) (length armed : ℕ) (e : Unraised) (x y : PartsValue) → y ≡ with_log y.log x → fallen read length armed e y ≡ fallen read length armed e (with_log y.log x)
fallen_from read length armed e x y same = ap (fallen read length armed e) same

pub fallen_tied : (tells : Type 0) (read : LogRead) (length armed : ℕ) (x y z : PartsValue) (e : Unraised) → IsDown x.mode → Fell tells x e y → Tied x → z ≡ fallen read length armed e y → Tied z
fallen_tied tells read length armed x y z e d fell t is =
    let s = fell_same tells x y e fell in
    subst Tied (sym (is ∙ fallen_from read length armed e x y s.0))
    (tied_log x (record y.log { armed = left_by e.fault armed y.log.armed }) (fallen_mode (read_noted read length e.found) e.in_write x.mode) (still_down (read_noted read length e.found) e.in_write x.mode (mode_down x.mode d)) s.1 t)

-- ---- how it is seen

abbrev with_run : PartsValue → ℕ → Running → ℕ → ℕ → Plain
with_run x max running length armed = record {
  given = record { number = x.number; name = x.name; log_max = max };
  running = running;
  definitions = x.defs.definitions;
  queues = queues_of x.queues.states;
  connections = x.desk.live;
  channels = channels_of x.ends;
  moment = x.moment;
  numbers = record { incarnation = x.incarnation; idents = x.idents; connections = x.desk.last };
  log = record { length = length; armed = armed };
}

-- it is down with its note, its stopped starts, its log's length
pub fallen_plain : (x : PartsValue) (d : IsDown x.mode) (l : LogState) (read : Option ReadLog) (in_write : Bool) (length left : ℕ) → l.max ≡ x.log.max → read_length (or_read read d.read) (log_length l.bodies) ≡ length
    → plain_of (record x { mode = fallen_mode read in_write x.mode; log = record l { armed = left } })
    ≡ record (plain_of x) { running = Down (noted (frozen_of x) d.write) (starts_after in_write d.starts); log = record { length = length; armed = left } }
fallen_plain x d l read in_write length left max long =
    ap (λ (m : Mode). with_run x l.max (running_of (frozen_of x) (fallen_mode read in_write m)) (length_of (fallen_mode read in_write m) (log_length l.bodies)) left) d.is
    ∙ ap (λ (n : ℕ). with_run x n (Down (noted (frozen_of x) d.write) (starts_after in_write d.starts)) (read_length (or_read read d.read) (log_length l.bodies)) left) max
    ∙ ap (λ (n : ℕ). with_run x x.log.max (Down (noted (frozen_of x) d.write) (starts_after in_write d.starts)) n left) long

pub down_running : (x : PartsValue) (d : IsDown x.mode) → (plain_of x).running ≡ Down (noted (frozen_of x) d.write) d.starts
down_running x d = ap (running_of (frozen_of x)) d.is

down_length : (x : PartsValue) (d : IsDown x.mode) → read_length d.read (log_length x.log.bodies) ≡ (plain_of x).log.length
down_length x d = ap (λ (m : Mode). length_of m (log_length x.log.bodies)) (sym d.is)

-- where the log was read the length at the stop is noted, else it has not changed
noted_length : (read : LogRead) (o : Option Found) (d : Option ReadLog) (length long : ℕ) → (o ≡ None → read_length d long ≡ length) → read_length (or_read (read_noted read length o) d) long ≡ length
noted_length read None d length long h = h refl
noted_length read (Some found) d length long h = refl

some_none : (o : Option Found) (f : Found) → o ≡ Some f → o ≡ None → ⊥
some_none o f e g = no (sym e ∙ g)
  where
    no : Some f ≡ None → ⊥
    no k = absurd cc

fell_bodies : (tells : Type 0) (x y : PartsValue) (e : Unraised) → Fell tells x e y → e.found ≡ None → y.log.bodies ≡ x.log.bodies
fell_bodies tells x y e (Unopened fault is none out h same) n = ap (λ (l : LogState). l.bodies) h.same
fell_bodies tells x y e (Unread found fault is was out h unread same) n = absurd (some_none e.found found was n)
fell_bodies tells x y e (Unstarted found log built was h r u) n = absurd (some_none e.found found was n)

-- want of memory is met before the write alone
not_wanting : (by : Stop) (f : RestartFault) → f ≡ stop_fault by → f ≡ faults.NoMemory → ⊥
not_wanting stops.Cut f e g = no (sym e ∙ g)
  where
    no : faults.Cut ≡ faults.NoMemory → ⊥
    no k = absurd cc
not_wanting stops.Disk f e g = no (sym e ∙ g)
  where
    no : faults.Disk ≡ faults.NoMemory → ⊥
    no k = absurd cc

fell_wanting : (tells : Type 0) (x y : PartsValue) (e : Unraised) → Fell tells x e y → e.fault ≡ faults.NoMemory → e.in_write ≡ false
fell_wanting tells x y e (Unopened fault is none out h same) f = out
fell_wanting tells x y e (Unread found fault is was out h unread same) f = out
fell_wanting tells x y e (Unstarted found log built was h r u) f = by u.halted
  where
    by : HasHalted (given_of (with_log log x)) built log e y.log → e.in_write ≡ false
    by (Wanting fault out same) = out
    by (Halted stop fault out halted) = absurd (not_wanting stop e.fault fault f)

abbrev with_running : Plain → Running → Plain
with_running p running = record p { running = running }

true_false : true ≡ false → ⊥
true_false e = absurd cc

-- as the plain manager says it
failed_is : (fault : RestartFault) (in_write : Bool) (left : ℕ) (n : Option Noted) (starts : ℕ) (p : Plain) → p.running ≡ Down n starts → (fault ≡ faults.NoMemory → in_write ≡ false)
    → (failed fault in_write (left_by fault p.log.armed left) n starts p).next ≡ record p { running = Down n (starts_after in_write starts); log = record p.log { armed = left_by fault p.log.armed left } }
failed_is faults.NoMemory true left n starts p run w = absurd (true_false (w refl))
failed_is faults.NoMemory false left n starts p run w = ap (λ (r : Running). with_running p r) run
failed_is faults.Up true left n starts p run w = refl
failed_is faults.Up false left n starts p run w = ap (λ (r : Running). with_running (record p { log = record p.log { armed = left } }) r) run
failed_is faults.Disk true left n starts p run w = refl
failed_is faults.Disk false left n starts p run w = ap (λ (r : Running). with_running (record p { log = record p.log { armed = left } }) r) run
failed_is faults.Cut true left n starts p run w = refl
failed_is faults.Cut false left n starts p run w = ap (λ (r : Running). with_running (record p { log = record p.log { armed = left } }) r) run
failed_is (faults.BadLog place) true left n starts p run w = refl
failed_is (faults.BadLog place) false left n starts p run w = ap (λ (r : Running). with_running (record p { log = record p.log { armed = left } }) r) run

pub fallen_seen : (tells : Type 0) (read : LogRead) (x y z : PartsValue) (e : Unraised) (d : IsDown x.mode) → Fell tells x e y → z ≡ fallen read (plain_of x).log.length x.log.armed e y
    → plain_of z ≡ record (plain_of x) { running = Down (noted (frozen_of x) d.write) (starts_after e.in_write d.starts); log = record (plain_of x).log { armed = left_by e.fault x.log.armed y.log.armed } }
fallen_seen tells read x y z e d fell is =
    let s = fell_same tells x y e fell in
    ap plain_of (is ∙ fallen_from read (plain_of x).log.length x.log.armed e x y s.0)
    ∙ fallen_plain x d y.log (read_noted read (plain_of x).log.length e.found) e.in_write (plain_of x).log.length (left_by e.fault x.log.armed y.log.armed) s.1
    (noted_length read e.found d.read (plain_of x).log.length (log_length y.log.bodies) (λ n. ap (λ (bs : List (List ℕ)). read_length d.read (log_length bs)) (fell_bodies tells x y e fell n) ∙ down_length x d))

pub fallen_next : (tells : Type 0) (read : LogRead) (x y z : PartsValue) (e : Unraised) (d : IsDown x.mode) → Fell tells x e y → z ≡ fallen read (plain_of x).log.length x.log.armed e y
    → plain_of z ≡ (failed e.fault e.in_write z.log.armed (noted (frozen_of x) d.write) d.starts (plain_of x)).next
fallen_next tells read x y z e d fell is =
    fallen_seen tells read x y z e d fell is
    ∙ sym (failed_is e.fault e.in_write y.log.armed (noted (frozen_of x) d.write) d.starts (plain_of x) (down_running x d) (fell_wanting tells x y e fell))
    ∙ ap (λ (n : ℕ). (failed e.fault e.in_write n (noted (frozen_of x) d.write) d.starts (plain_of x)).next) (sym (ap (λ (v : PartsValue). v.log.armed) is))

pub failed_quiet : (fault : RestartFault) (in_write : Bool) (left : ℕ) (n : Option Noted) (starts : ℕ) (p : Plain) → (failed fault in_write left n starts p).delta ≡ []
failed_quiet faults.NoMemory in_write left n starts p = refl
failed_quiet faults.Up true left n starts p = refl
failed_quiet faults.Up false left n starts p = refl
failed_quiet faults.Disk true left n starts p = refl
failed_quiet faults.Disk false left n starts p = refl
failed_quiet faults.Cut true left n starts p = refl
failed_quiet faults.Cut false left n starts p = refl
failed_quiet (faults.BadLog place) true left n starts p = refl
failed_quiet (faults.BadLog place) false left n starts p = refl
