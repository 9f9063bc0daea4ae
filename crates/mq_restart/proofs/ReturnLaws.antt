-- The call's clauses from those of what it calls.
use Rattle.std.proofs.Common.{◌≡◌, ℕ, ◌+◌, ◌<◌, ◌≤◌, ◌^◌, Bool, false, List, [], ap, arith, sym, subst, ◌∙◌}
use Rattle.std.specs.Prelude.{Option, if◌then◌else◌}
use Rattle.mq_disk.specs.declared.cutter.Stop.{Stop}
use Rattle.mq_calls.specs.declared.deltas.Did.{Did}
use Rattle.mq_log.specs.declared.images.Found.{Found}
use Rattle.mq_calls.specs.State.{Running}
use Rattle.mq_calls.specs.Words.{is_up}
use Rattle.mq_redo.specs.from_core.Ties.{Tied}
use Rattle.mq_redo.specs.from_core.Values.{CoreValue, bodies_in}
use Rattle.mq_redo.specs.from_core.Views.{PartsValue, plain_of, frozen_of}
use Rattle.mq_restart.specs.declared.reading.Unraised.{Unraised}
use Rattle.mq_restart.specs.Raised.{Raises, Fell}
use Rattle.mq_redo.specs.Redone.{redone_of}
use Rattle.mq_restart.specs.declared.reading.LogRead.{LogRead}
use Rattle.mq_restart.specs.declared.reading.Returned.{Returned}
use Rattle.mq_restart.specs.Stands.{read_found, read_up, read_fallen, is_kept, LogStands, CanStart, CanStartAt}
use Rattle.mq_restart.specs.Falls.{fallen, starts_of}
use Rattle.mq_restart.specs.Returned.{returned_as, CameUp, Stayed}
use Rattle.mq_restart.proofs.FallenLaws.{IsDown, is_down, down_running, fell_same, fallen_tied}
use Rattle.mq_restart.proofs.OwnLaws.{came_up, up_stands}
use Rattle.mq_restart.proofs.StayLaws.{stayed, down_stands, fell_later}

-- how a core with these parts is seen
abbrev pub core_seen : PartsValue → List Did → Option Stop → CoreValue
core_seen x dids stopped = record { plain = plain_of x; delta = dids; stopped = stopped; faults = x.log.faults; log = bodies_in x.log }

down_of : (x : PartsValue) (dids : List Did) (s : Option Stop) (old : CoreValue) → core_seen x dids s ≡ old → is_up old.plain.running ≡ false → IsDown x.mode
down_of x dids s old v down = is_down (frozen_of x) x.mode (subst (λ (o : CoreValue). is_up o.plain.running ≡ false) (sym v) down)

-- ---- it came up

chosen : (kept : Bool) (a b : List Did) → a ≡ b → (if kept then a else []) ≡ (if kept then b else [])
chosen kept a b e = ap (λ (ds : List Did). if kept then ds else []) e

pub rises : (tells : Type 0) (x y : PartsValue) (dids : List Did) (s : Option Stop) (old new : CoreValue) (read : LogRead) (found : Found) (known : LogRead) (kept : Bool) (r : Returned) → core_seen x dids s ≡ old → is_up old.plain.running ≡ false
    → old.delta ≡ redone_of old.plain → LogStands tells read old.log old.plain → Raises tells x found y → Tied x → known ≡ read_found read found → kept ≡ is_kept known → new.plain ≡ plain_of y → new.log ≡ bodies_in y.log
    → new.delta ≡ (if kept then dids else []) → r ≡ returned_as known x.incarnation y.incarnation → CameUp tells old.plain r new
rises tells x y dids s old new read found known kept r v down told stands rise tied known_is kept_is plain log delta r_is =
    subst (λ (o : CoreValue). CameUp tells o.plain r new) v
    (subst (λ (k : Returned). CameUp tells (plain_of x) k new) (sym (r_is ∙ ap (λ (k : LogRead). returned_as k x.incarnation y.incarnation) known_is))
    (came_up tells read found x y (down_of x dids s old v down) new rise tied (subst (λ (o : CoreValue). LogStands tells read o.log o.plain) (sym v) stands) plain log
    (delta
    ∙ ap (λ (k : Bool). if k then dids else []) (kept_is ∙ ap is_kept known_is)
    ∙ chosen (is_kept (read_found read found)) dids (redone_of (plain_of x)) (subst (λ (o : CoreValue). o.delta ≡ redone_of o.plain) (sym v) told))))

pub rises_stands : (tells : Type 0) (x y : PartsValue) (dids : List Did) (s : Option Stop) (old : CoreValue) (read : LogRead) (found : Found) (known next : LogRead) → core_seen x dids s ≡ old → is_up old.plain.running ≡ false
    → LogStands tells read old.log old.plain → CanStart old.plain → Raises tells x found y → Tied x → known ≡ read_found read found → next ≡ read_up y.incarnation known → LogStands tells next (bodies_in y.log) (plain_of y)
rises_stands tells x y dids s old read found known next v down stands low rise tied known_is next_is =
    subst (λ (k : LogRead). LogStands tells k (bodies_in y.log) (plain_of y)) (sym (next_is ∙ ap (read_up y.incarnation) known_is))
    (up_stands tells read found x y (down_of x dids s old v down) rise tied (subst (λ (o : CoreValue). LogStands tells read o.log o.plain) (sym v) stands) (subst (λ (o : CoreValue). CanStart o.plain) (sym v) low))

pub rises_later : (tells : Type 0) (x y : PartsValue) (dids : List Did) (s : Option Stop) (old : CoreValue) (found : Found) → core_seen x dids s ≡ old → (r : Raises tells x found y) → old.faults ≤ y.log.faults
rises_later tells x y dids s old found v r = let a = r.read.later in let b = r.raised.started.later in let e = ap (λ (o : CoreValue). o.faults) v in omega (arith, a, b, e)

-- ---- it stayed down

pub fall_starts : (tells : Type 0) (x y : PartsValue) (dids : List Did) (s : Option Stop) (old : CoreValue) (e : Unraised) → core_seen x dids s ≡ old → is_up old.plain.running ≡ false → CanStart old.plain → Fell tells x e y → starts_of y.mode + 1 < 2 ^ 64
fall_starts tells x y dids s old e v down low fell =
    let d = down_of x dids s old v down in
    let few : x.incarnation + d.starts + 1 < 2 ^ 61 = subst (λ (k : Running). CanStartAt k (plain_of x)) (down_running x d) (subst (λ (o : CoreValue). CanStart o.plain) (sym v) low) in
    let same = ap (λ (z : PartsValue). starts_of z.mode) ((fell_same tells x y e fell).0) ∙ ap starts_of d.is in
    omega (arith, few, same)

pub falls_tied : (tells : Type 0) (x y z : PartsValue) (dids : List Did) (s : Option Stop) (old : CoreValue) (read : LogRead) (length armed : ℕ) (e : Unraised) → core_seen x dids s ≡ old → is_up old.plain.running ≡ false → Fell tells x e y → Tied x
    → z ≡ fallen read length armed e y → Tied z
falls_tied tells x y z dids s old read length armed e v down fell tied is = fallen_tied tells read length armed x y z e (down_of x dids s old v down) fell tied is

fallen_here : (x y z : PartsValue) (read : LogRead) (length armed : ℕ) (e : Unraised) → length ≡ (plain_of x).log.length → armed ≡ x.log.armed → z ≡ fallen read length armed e y → z ≡ fallen read (plain_of x).log.length x.log.armed e y
fallen_here x y z read length armed e long left is = is ∙ ap (λ (n : ℕ). fallen read n armed e y) long ∙ ap (λ (n : ℕ). fallen read (plain_of x).log.length n e y) left

pub falls_stayed : (tells : Type 0) (x y z : PartsValue) (dids : List Did) (s : Option Stop) (old new : CoreValue) (read : LogRead) (length armed left : ℕ) (e : Unraised) → core_seen x dids s ≡ old → is_up old.plain.running ≡ false → LogStands tells read old.log old.plain
    → Fell tells x e y → length ≡ (plain_of x).log.length → armed ≡ x.log.armed → z ≡ fallen read length armed e y → left ≡ z.log.armed → new.plain ≡ plain_of z → new.delta ≡ [] → new.faults ≡ z.log.faults
    → Stayed tells old.plain old.faults (record { fault = e.fault; in_write = e.in_write; left = left }) new
falls_stayed tells x y z dids s old new read length armed left e v down stands fell long same is left_is plain told count =
    subst (λ (o : CoreValue). Stayed tells o.plain o.faults (record { fault = e.fault; in_write = e.in_write; left = left }) new) v
    (subst (λ (n : ℕ). Stayed tells (plain_of x) x.log.faults (record { fault = e.fault; in_write = e.in_write; left = n }) new) (sym left_is)
    (stayed tells read x y z e (down_of x dids s old v down) new fell (fallen_here x y z read length armed e long same is) (subst (λ (o : CoreValue). LogStands tells read o.log o.plain) (sym v) stands) plain told count))

pub falls_stands : (tells : Type 0) (x y z : PartsValue) (dids : List Did) (s : Option Stop) (old : CoreValue) (read next : LogRead) (length armed : ℕ) (e : Unraised) → core_seen x dids s ≡ old → is_up old.plain.running ≡ false → LogStands tells read old.log old.plain → CanStart old.plain
    → Fell tells x e y → length ≡ (plain_of x).log.length → armed ≡ x.log.armed → z ≡ fallen read length armed e y → next ≡ read_fallen e.found read → LogStands tells next (bodies_in z.log) (plain_of z)
falls_stands tells x y z dids s old read next length armed e v down stands low fell long same is next_is =
    subst (λ (k : LogRead). LogStands tells k (bodies_in z.log) (plain_of z)) (sym next_is)
    (down_stands tells read x y z e (down_of x dids s old v down) fell (fallen_here x y z read length armed e long same is) (subst (λ (o : CoreValue). LogStands tells read o.log o.plain) (sym v) stands) (subst (λ (o : CoreValue). CanStart o.plain) (sym v) low))

pub falls_later : (tells : Type 0) (x y z : PartsValue) (dids : List Did) (s : Option Stop) (old : CoreValue) (read : LogRead) (length armed : ℕ) (e : Unraised) → core_seen x dids s ≡ old → Fell tells x e y → z ≡ fallen read length armed e y → old.faults ≤ z.log.faults
falls_later tells x y z dids s old read length armed e v fell is =
    let a = fell_later tells x y e fell in
    let b = ap (λ (w : PartsValue). w.log.faults) is in
    let c = ap (λ (o : CoreValue). o.faults) v in
    omega (arith, a, b, c)
