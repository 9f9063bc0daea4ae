-- A restart that is refused: what its log then tells, that it finds no bad log, and which calls it made.
use Rattle.std.proofs.Common.{◌≡◌, ℕ, zero, suc, ◌+◌, ◌-◌, ◌*◌, ◌<◌, ◌≤◌, ◌^◌, Bool, true, false, List, [], ◌∷◌, ◌++◌, length, refl, ap, arith, sym, subst, ◌∙◌, inl, inr}
use Rattle.std.specs.Prelude.{Option, Some, None, Result, Ok, Err}
use Rattle.std.proofs.lemmas.Bool.Decides.{nat_tests}
use Rattle.std.proofs.lemmas.List.{length-append}
use Rattle.mq_disk.specs.declared.cutter.Stop.{Stop}
use Rattle.mq_disk.specs.declared.cutter.Stop.TheVariants as stops
use Rattle.mq_calls.specs.declared.commands.RestartFault.{RestartFault}
use Rattle.mq_calls.specs.declared.commands.RestartFault.TheVariants as faults
use Rattle.mq_calls.specs.declared.choices.Return.TheVariants.{Fails}
use Rattle.mq_calls.specs.declared.records.LogRecord.{LogRecord}
use Rattle.mq_log.specs.declared.open.StartFault.{StartFault}
use Rattle.mq_log.specs.declared.open.StartFault.TheVariants as starts_
use Rattle.mq_log.specs.declared.images.Found.{Found}
use Rattle.mq_log.specs.declared.images.Found.TheVariants.{Other}
use Rattle.mq_log.specs.State.{LogState}
use Rattle.mq_log.specs.Force.{Stops}
use Rattle.mq_log.specs.Open.{RestartEnds, IsNotBad}
use Rattle.mq_log.proofs.Logs.{log_length-push}
use Rattle.mq_record.specs.Records.{record_bytes, IsRecord}
use Rattle.mq_calls.specs.State.{Plain, Given, Noted}
use Rattle.mq_spec_manager.specs.Stops.{redone_if, started_need, started_record, next_started, Spent, CanReturnTold}
use Rattle.mq_spec_log.specs.Applies.Start.{Later}
use Rattle.mq_spec_log.specs.Applies.{is_in_bounds}
use Rattle.mq_spec_log.specs.Bodies.{record_of, image}
use Rattle.mq_spec_log.proofs.BodyLaws.{record_back}
use Rattle.mq_calls.specs.declared.image.Image.{Image}
use Rattle.mq_law_image.specs.Tells.{TellsDown}
use Rattle.mq_law_image.proofs.Telling.{begun_restarted, start_told}
use Rattle.mq_recover.specs.declared.recovery.RecoverFault.TheVariants.{BadRecord, NoMemory}
use Rattle.mq_rebuild.specs.declared.building.Built.{Built}
use Rattle.mq_redo.specs.from_core.{ReadLog}
use Rattle.mq_redo.specs.from_core.Views.{PartsValue, plain_of}
use Rattle.mq_restart.specs.Begun.{given_by, IsReadFrom, IsUnread}
use Rattle.mq_restart.specs.Tells.{Stood, LogStood, StoodBy, kept_of}
use Rattle.mq_restart.specs.declared.reading.Unraised.{Unraised}
use Rattle.mq_restart.specs.Raised.{given_of, with_log, HasHalted, Fell, start_fault, stop_fault, read_by, read_after, starts_after, fails_as}
use Rattle.mq_restart.specs.Raised.Fell.{Unopened, Unread, Unstarted}
use Rattle.mq_restart.specs.Raised.HasHalted.{Wanting, Halted}
use Rattle.mq_restart.proofs.RaiseLaws.{found_stood, read_number}

-- one Started record more, which was stopped
bounds_are : (g : Given) (n : ℕ) → n < 2 ^ 61 → is_in_bounds Later (started_record g n) ≡ true
bounds_are g n lt = grind (arith, nat_tests, lt)

pub stood_more : (kept : Bool) (started : ℕ) (noted : Option Noted) (starts : ℕ) (bodies : List (List ℕ)) (p : Plain) (b : Built) → Stood kept started noted starts bodies p → IsReadFrom p.given Later bodies b
    → IsRecord (started_record p.given (b.incarnation + 1)) → length (record_bytes (started_record p.given (b.incarnation + 1))) ≡ 58 → b.incarnation + 1 < 2 ^ 61
    → Stood kept (started + 1) noted (starts + 1) (bodies ++ record_bytes (started_record p.given (b.incarnation + 1)) ∷ []) p
stood_more kept started noted starts bodies p b s r is size low = record {
  can = s.can;
  few = let f = s.few in omega (arith, f);
  some = let l = length-append bodies (next ∷ []) in omega (arith, l);
  tells = told bodies s.some s.tells;
  long =
      let push = log_length-push bodies next in
      let was = s.long in
      let more : (started + 1) * started_need p.given ≡ started * started_need p.given + started_need p.given = grind arith in
      omega (arith, push, was, more, size);
}
  where
    next : List ℕ
    next = record_bytes (started_record p.given (b.incarnation + 1))

    same : started_record p.given (b.incarnation + 1) ≡ next_started started (redone_if kept noted p)
    same = ap (λ (n : ℕ). started_record p.given (n + 1)) r.built.incarnation ∙ (begun_restarted Later bodies kept started noted p r.told s.tells r.read).1

    read : record_of next ≡ Some (next_started started (redone_if kept noted p))
    read = record_back (started_record p.given (b.incarnation + 1)) tt is ∙ ap (λ (k : LogRecord). Some k) same

    bounds : is_in_bounds Later (next_started started (redone_if kept noted p)) ≡ true
    bounds = subst (λ (k : LogRecord). is_in_bounds Later k ≡ true) same (bounds_are p.given (b.incarnation + 1) low)

    told : (bs : List (List ℕ)) → 0 < length bs → TellsDown Later kept started noted bs p → TellsDown Later kept (started + 1) noted (bs ++ next ∷ []) p
    told [] lt t = absurd (none lt)
      where
        none : 0 < 0 → ⊥
        none lt = absurd (omega (arith, lt))
    told (first ∷ rest) lt t = start_told Later first rest next kept started noted p t read bounds

-- the bodies that were found, and no others for now
pub known_later : (read : Option ReadLog) (found : Found) (noted : Option Noted) (starts : ℕ) (bodies : List (List ℕ)) (long : ℕ) (p : Plain) → StoodBy read found noted starts bodies p
    → LogStood (Some (read_by read found long)) noted starts bodies None p
known_later None found noted starts bodies long p s = record { started = s.started; without = s.stood; with_it = tt }
known_later (Some read) found noted starts bodies long p s = record { started = s.started; without = s.stood; with_it = tt }

fewer : (kept : Bool) (started : ℕ) (noted : Option Noted) (starts : ℕ) (bodies : List (List ℕ)) (p : Plain) → Stood kept started noted starts bodies p → Stood kept started noted (starts + 1) bodies p
fewer kept started noted starts bodies p s = record { can = s.can; few = let f = s.few in omega (arith, f); some = s.some; tells = s.tells; long = s.long }

-- a Started record that was stopped is pending behind them
pub known_more : (read : Option ReadLog) (found : Found) (noted : Option Noted) (starts : ℕ) (bodies : List (List ℕ)) (long : ℕ) (p : Plain) (b : Built) → StoodBy read found noted starts bodies p → IsReadFrom p.given Later bodies b
    → IsRecord (started_record p.given (b.incarnation + 1)) → length (record_bytes (started_record p.given (b.incarnation + 1))) ≡ 58 → b.incarnation + 1 < 2 ^ 61
    → LogStood (Some (read_by read found long)) noted (starts + 1) bodies (Some (record_bytes (started_record p.given (b.incarnation + 1)))) p
known_more None found noted starts bodies long p b s r is size low = record { started = s.started; without = fewer _ s.started noted starts bodies p s.stood; with_it = stood_more (kept_of None found) s.started noted starts bodies p b s.stood r is size low }
known_more (Some read) found noted starts bodies long p b s r is size low = record { started = s.started; without = fewer _ s.started noted starts bodies p s.stood; with_it = stood_more read.kept s.started noted starts bodies p b s.stood r is size low }

-- a log that tells its manager is no bad one
ok_err : (e : Result Image ℕ) (i : Image) (place : ℕ) → e ≡ Ok i → e ≡ Err place → ⊥
ok_err e i place a b = no (sym a ∙ b)
  where
    no : Ok i ≡ Err place → ⊥
    no f = absurd cc

pub never_unread : (kept : Bool) (started : ℕ) (noted : Option Noted) (starts : ℕ) (bodies : List (List ℕ)) (p : Plain) (place : ℕ) → Stood kept started noted starts bodies p → IsUnread p.given Later bodies (BadRecord place) → ⊥
never_unread kept started noted starts bodies p place s u = ok_err (image p.given Later bodies) _ place (s.tells p.running p.log p.moment) u

-- ---- all of it

long_of : PartsValue → ℕ
long_of x = (plain_of x).log.length

kept_log : (read : Option ReadLog) (noted : Option Noted) (starts : ℕ) (old new : LogState) (p : Plain) → new.bodies ≡ old.bodies → new.pending ≡ old.pending → LogStood read noted starts old.bodies old.pending p → LogStood read noted starts new.bodies new.pending p
kept_log read noted starts old new p bodies pending h =
    subst (λ (bs : List (List ℕ)). LogStood read noted starts bs new.pending p) (sym bodies) (subst (λ (o : Option (List ℕ)). LogStood read noted starts old.bodies o p) (sym pending) h)

later_log : (read : Option ReadLog) (noted : Option Noted) (starts : ℕ) (bodies : List (List ℕ)) (pending : Option (List ℕ)) (new : LogState) (p : Plain) → new.bodies ≡ bodies → new.pending ≡ pending → LogStood read noted starts bodies pending p → LogStood read noted starts new.bodies new.pending p
later_log read noted starts bodies pending new p b o h =
    subst (λ (bs : List (List ℕ)). LogStood read noted starts bs new.pending p) (sym b) (subst (λ (k : Option (List ℕ)). LogStood read noted starts bodies k p) (sym o) h)

fell_as : (read : Option ReadLog) (noted : Option Noted) (starts : ℕ) (e : Unraised) (o : Option Found) (w : Bool) (long : ℕ) (log : LogState) (p : Plain) → e.found ≡ o → e.in_write ≡ w
    → LogStood (read_after read o long) noted (starts_after w starts) log.bodies log.pending p → LogStood (read_after read e.found long) noted (starts_after e.in_write starts) log.bodies log.pending p
fell_as read noted starts e o w long log p found out h =
    subst (λ (k : Option Found). LogStood (read_after read k long) noted (starts_after e.in_write starts) log.bodies log.pending p) (sym found)
    (subst (λ (b : Bool). LogStood (read_after read o long) noted (starts_after b starts) log.bodies log.pending p) (sym out) h)

halted_log : (read : Option ReadLog) (noted : Option Noted) (starts : ℕ) (x y : PartsValue) (e : Unraised) (found : Found) (log : LogState) (built : Built) → e.found ≡ Some found → StoodBy read found noted starts log.bodies (plain_of x) → log.pending ≡ None → log.max ≡ x.log.max
    → IsReadFrom (given_of x) Later log.bodies built → x.incarnation + starts + 1 < 2 ^ 61 → HasHalted (given_of (with_log log x)) built log e y.log
    → LogStood (read_after read e.found (long_of x)) noted (starts_after e.in_write starts) y.log.bodies y.log.pending (plain_of x)
halted_log read noted starts x y e found log built was s settled max r low (Wanting fault out same) =
    fell_as read noted starts e (Some found) false (long_of x) y.log (plain_of x) was out
    (later_log (Some (read_by read found (long_of x))) noted starts log.bodies None y.log (plain_of x) (ap (λ (l : LogState). l.bodies) same) (ap (λ (l : LogState). l.pending) same ∙ settled)
    (known_later read found noted starts log.bodies (long_of x) (plain_of x) s))
halted_log read noted starts x y e found log built was s settled max r low (Halted by fault out h) =
    let g = ap (given_by x.number x.name) max in
    let n = read_number (kept_of read found) s.started noted starts log.bodies x built s.stood r in
    let few = s.stood.few in
    fell_as read noted starts e (Some found) true (long_of x) y.log (plain_of x) was out
    (later_log (Some (read_by read found (long_of x))) noted (starts + 1) log.bodies (Some (record_bytes (started_record (given_of x) (built.incarnation + 1)))) y.log (plain_of x) (ap (λ (l : LogState). l.bodies) h.log)
    (ap (λ (l : LogState). l.pending) h.log ∙ ap (λ (k : Given). Some (record_bytes (started_record k (built.incarnation + 1)))) g)
    (known_more read found noted starts log.bodies (long_of x) (plain_of x) built s r
    (subst (λ (k : Given). IsRecord (started_record k (built.incarnation + 1))) g h.is)
    (subst (λ (k : Given). length (record_bytes (started_record k (built.incarnation + 1))) ≡ 58) g h.long)
    (omega (arith, n, few, low))))

-- over a disk that tells its bytes it has read no other log
found_is : (o : Option Found) (a b : Found) → o ≡ Some a → o ≡ Some b → a ≡ b
found_is o a b e f = or_found (sym e ∙ f)
  where
    or_found : Some a ≡ Some b → a ≡ b
    or_found k = cc

none_found : (o : Option Found) (b : Found) → o ≡ None → o ≡ Some b → ⊥
none_found o b e f = no (sym e ∙ f)
  where
    no : None ≡ Some b → ⊥
    no k = absurd cc

pub fell_known : (tells : Type 0) → tells → (x y : PartsValue) (e : Unraised) → Fell tells x e y → e.found ≡ Some Other → ⊥
fell_known tells t x y e (Unopened fault is none out h same) other = none_found e.found Other none other
fell_known tells t x y e (Unread found fault is was out h unread same) other = h.known t (found_is e.found found Other was other)
fell_known tells t x y e (Unstarted found log built was h r u) other = h.known t (found_is e.found found Other was other)

-- what the log tells behind a restart that was refused, where it has read no other log
pub falls_known : (tells : Type 0) (read : Option ReadLog) (noted : Option Noted) (starts : ℕ) (x y : PartsValue) (e : Unraised) → Fell tells x e y → (e.found ≡ Some Other → ⊥) → LogStood read noted starts x.log.bodies x.log.pending (plain_of x) → x.incarnation + starts + 1 < 2 ^ 61
    → LogStood (read_after read e.found (plain_of x).log.length) noted (starts_after e.in_write starts) y.log.bodies y.log.pending (plain_of x)
unfolding long_of
falls_known tells read noted starts x y e (Unopened fault is none out h same) known stood low =
    fell_as read noted starts e None false (long_of x) y.log (plain_of x) none out
    (kept_log read noted starts x.log y.log (plain_of x) (ap (λ (l : LogState). l.bodies) h.same) (ap (λ (l : LogState). l.pending) h.same) stood)
falls_known tells read noted starts x y e (Unread found fault is was out h unread same) known stood low =
    let s = found_stood read noted starts x.log.bodies x.log.pending found y.log.bodies (plain_of x) stood h.bodies (λ f. known (was ∙ ap (λ (k : Found). Some k) f)) in
    fell_as read noted starts e (Some found) false (long_of x) y.log (plain_of x) was out
    (later_log (Some (read_by read found (long_of x))) noted starts y.log.bodies None y.log (plain_of x) refl (ap (λ (l : LogState). l.pending) h.same) (known_later read found noted starts y.log.bodies (long_of x) (plain_of x) s))
falls_known tells read noted starts x y e (Unstarted found log built was h r u) known stood low =
    let s = found_stood read noted starts x.log.bodies x.log.pending found log.bodies (plain_of x) stood h.bodies (λ f. known (was ∙ ap (λ (k : Found). Some k) f)) in
    halted_log read noted starts x y e found log built was s (ap (λ (l : LogState). l.pending) h.same) (ap (λ (l : LogState). l.max) h.same) r low u.halted

pub falls : (tells : Type 0) → tells → (read : Option ReadLog) (noted : Option Noted) (starts : ℕ) (x y : PartsValue) (e : Unraised) → Fell tells x e y → LogStood read noted starts x.log.bodies x.log.pending (plain_of x) → x.incarnation + starts + 1 < 2 ^ 61
    → LogStood (read_after read e.found (plain_of x).log.length) noted (starts_after e.in_write starts) y.log.bodies y.log.pending (plain_of x)
falls tells t read noted starts x y e fell stood low = falls_known tells read noted starts x y e fell (fell_known tells t x y e fell) stood low

-- over a disk that tells its bytes it makes no other calls than those of a restart, and finds no bad log
some_bodies : (read : Option ReadLog) (noted : Option Noted) (starts : ℕ) (bodies : List (List ℕ)) (pending : Option (List ℕ)) (p : Plain) → LogStood read noted starts bodies pending p → 0 < length bodies
some_bodies None noted starts bodies pending p h = h.without.some
some_bodies (Some read) noted starts bodies pending p h = h.without.some

pub spent_of : (least most armed left : ℕ) → (armed ≡ 0 → left ≡ 0) → (0 < armed → 0 < left) → (0 < armed → left + least ≤ armed) → (0 < armed → armed ≤ left + most) → Spent least most armed left
spent_of least most zero left none some a b = inl (refl, none refl)
spent_of least most (suc n) left none some a b = let lt : 0 < suc n = omega arith in inr (some lt, a lt, b lt)

opened_by : (noted : Option Noted) (starts armed left : ℕ) (fault : StartFault) → IsNotBad fault → RestartEnds {T = Found} 1 armed (Err fault) left → CanReturnTold (Fails (start_fault fault) false left) noted starts armed
opened_by noted starts armed left starts_.Disk good ends =
    let a = ends.0 in let b = ends.1 in let c = ends.2 in
    spent_of 0 1 armed left (λ z. omega (arith, z, a)) b (λ z. omega (arith, a)) (λ z. c)
opened_by noted starts armed left starts_.Cut good ends = (ends.2, ends.0, ends.1)
opened_by noted starts armed left (starts_.BadLog place) good ends = absurd good
opened_by noted starts armed left starts_.NoMemory good ends = tt

halted_by : (noted : Option Noted) (starts armed mid left : ℕ) (by : Stop) → (mid ≡ armed - 1) × (0 < armed → 1 < armed) → Stops mid (Err by) left → CanReturnTold (Fails (stop_fault by) true left) noted starts armed
halted_by noted starts armed mid left stops.Cut one ends =
    let a = one.0 in let b = ends.0 in let c = ends.1 in
    (ends.2, omega (arith, a, b), omega (arith, a, b, c))
halted_by noted starts armed mid left stops.Disk one ends =
    let a = one.0 in let low = ends.0 in let high = ends.2 in
    spent_of 2 5 armed left (λ z. omega (arith, z, a, low))
    (λ z. let more = one.1 z in let there : 0 < mid = omega (arith, a, more) in ends.1 there)
    (λ z. let more = one.1 z in let there : 0 < mid = omega (arith, a, more) in let some = ends.1 there in omega (arith, a, more, low, some))
    (λ z. omega (arith, a, high, z))

pub returned_as : (noted : Option Noted) (starts armed left : ℕ) (e : Unraised) (fault : RestartFault) (w : Bool) → e.fault ≡ fault → e.in_write ≡ w → CanReturnTold (Fails fault w left) noted starts armed → CanReturnTold (Fails e.fault e.in_write left) noted starts armed
returned_as noted starts armed left e fault w is out h =
    subst (λ (f : RestartFault). CanReturnTold (Fails f e.in_write left) noted starts armed) (sym is) (subst (λ (b : Bool). CanReturnTold (Fails fault b left) noted starts armed) (sym out) h)

pub can_return : (tells : Type 0) → tells → (read : Option ReadLog) (noted : Option Noted) (starts : ℕ) (x y : PartsValue) (e : Unraised) → Fell tells x e y → LogStood read noted starts x.log.bodies x.log.pending (plain_of x)
    → CanReturnTold (fails_as e y.log.armed) noted starts x.log.armed
can_return tells t read noted starts x y e (Unopened fault is none out h same) stood =
    returned_as noted starts x.log.armed y.log.armed e (start_fault fault) false is out
    (opened_by noted starts x.log.armed y.log.armed fault (h.good t) (h.told t (some_bodies read noted starts x.log.bodies x.log.pending (plain_of x) stood)))
can_return tells t read noted starts x y e (Unread found (BadRecord place) is was out h unread same) stood =
    let s = found_stood read noted starts x.log.bodies x.log.pending found y.log.bodies (plain_of x) stood h.bodies (h.known t) in
    absurd (never_unread (kept_of read found) s.started noted starts y.log.bodies (plain_of x) place s.stood unread)
can_return tells t read noted starts x y e (Unread found NoMemory is was out h unread same) stood = returned_as noted starts x.log.armed y.log.armed e faults.NoMemory false is out tt
can_return tells t read noted starts x y e (Unstarted found log built was h r u) stood = by u.halted
  where
    s : StoodBy read found noted starts log.bodies (plain_of x)
    s = found_stood read noted starts x.log.bodies x.log.pending found log.bodies (plain_of x) stood h.bodies (h.known t)

    by : HasHalted (given_of (with_log log x)) built log e y.log → CanReturnTold (fails_as e y.log.armed) noted starts x.log.armed
    by (Wanting fault out same) = returned_as noted starts x.log.armed y.log.armed e faults.NoMemory false fault out tt
    by (Halted stop fault out halted) = returned_as noted starts x.log.armed y.log.armed e (stop_fault stop) true fault out (halted_by noted starts x.log.armed log.armed y.log.armed stop (h.one s.stood.some) halted.ends)
