-- Which calls a restart that was refused has made, and whether it found a bad log.
use Rattle.std.proofs.Common.{◌≡◌, ℕ, ◌-◌, ◌<◌, ◌≤◌, Bool, true, false, List, [], ◌∷◌, length, arith, sym, subst, inl, inr}
use Rattle.std.specs.Prelude.{Option, Ok, Err}
use Rattle.mq_disk.specs.declared.cutter.Stop.{Stop}
use Rattle.mq_disk.specs.declared.cutter.Stop.TheVariants as stops
use Rattle.mq_calls.specs.declared.commands.RestartFault.{RestartFault}
use Rattle.mq_calls.specs.declared.commands.RestartFault.TheVariants as faults
use Rattle.mq_calls.specs.declared.choices.Return.TheVariants.{Fails}
use Rattle.mq_log.specs.declared.open.StartFault.{StartFault}
use Rattle.mq_log.specs.declared.open.StartFault.TheVariants as starts_
use Rattle.mq_log.specs.declared.images.Found.{Found}
use Rattle.mq_log.specs.Force.{Stops}
use Rattle.mq_log.specs.Open.{EndsByOneOrThree, RestartEnds}
use Rattle.mq_calls.specs.State.{Given, Noted}
use Rattle.mq_calls.specs.declared.image.Image.{Image}
use Rattle.mq_spec_manager.specs.Stops.{CanReturn}
use Rattle.mq_spec_log.specs.Applies.Start.{Later}
use Rattle.mq_spec_log.specs.Bodies.{image, empty_image}
use Rattle.mq_recover.specs.declared.recovery.RecoverFault.TheVariants.{BadRecord, NoMemory}
use Rattle.mq_redo.specs.from_core.Views.{PartsValue}
use Rattle.mq_restart.specs.declared.reading.Unraised.{Unraised}
use Rattle.mq_restart.specs.Raised.{given_of, with_log, HasHalted, Fell, start_fault, stop_fault, fails_as}
use Rattle.mq_restart.specs.Raised.Fell.{Unopened, Unread, Unstarted}
use Rattle.mq_restart.specs.Raised.HasHalted.{Wanting, Halted}
use Rattle.mq_restart.proofs.FallLaws.{spent_of}

-- whatever the disk tells, at most three calls are made before the Started record
opened_within : (noted : Option Noted) (starts armed left n : ℕ) (fault : StartFault) → n ≤ 3 → RestartEnds {T = Found} n armed (Err fault) left → CanReturn (Fails (start_fault fault) false left) noted starts armed
opened_within noted starts armed left n starts_.Disk few ends =
    let a = ends.0 in let b = ends.1 in let c = ends.2 in
    spent_of 0 3 armed left (λ z. omega (arith, z, a)) b (λ z. omega (arith, a)) (λ z. omega (arith, c, few))
opened_within noted starts armed left n starts_.Cut few ends = let a = ends.1 in (ends.2, ends.0, omega (arith, a, few))
opened_within noted starts armed left n (starts_.BadLog place) few ends =
    let a = ends.0 in let b = ends.1 in
    spent_of 1 1 armed left (λ z. omega (arith, z, a)) (λ z. let k = b z in omega (arith, a, k)) (λ z. let k = b z in omega (arith, a, k)) (λ z. omega (arith, a))
opened_within noted starts armed left n starts_.NoMemory few ends = tt

opened_any : (noted : Option Noted) (starts armed left : ℕ) (fault : StartFault) → EndsByOneOrThree {T = Found} armed (Err fault) left → CanReturn (Fails (start_fault fault) false left) noted starts armed
opened_any noted starts armed left fault (inl e) = opened_within noted starts armed left 1 fault (omega arith) e
opened_any noted starts armed left fault (inr e) = opened_within noted starts armed left 3 fault (omega arith) e

-- and in its write four more
halted_within : (noted : Option Noted) (starts armed mid left n : ℕ) (by : Stop) → 1 ≤ n → n ≤ 3 → mid ≡ armed - n → (0 < armed → n < armed) → Stops mid (Err by) left → CanReturn (Fails (stop_fault by) true left) noted starts armed
halted_within noted starts armed mid left n stops.Cut low few a b ends =
    let c = ends.0 in let d = ends.1 in
    (ends.2, omega (arith, a, c, low), omega (arith, a, c, d, few))
halted_within noted starts armed mid left n stops.Disk low few a b ends =
    let c = ends.0 in let high = ends.2 in
    spent_of 2 7 armed left (λ z. omega (arith, z, a, c))
    (λ z. let more = b z in let there : 0 < mid = omega (arith, a, more) in ends.1 there)
    (λ z. let more = b z in let there : 0 < mid = omega (arith, a, more) in let some = ends.1 there in omega (arith, a, more, c, some, low))
    (λ z. omega (arith, a, high, z, few))

pub halted_any : (noted : Option Noted) (starts armed mid left : ℕ) (found : Found) (by : Stop) → EndsByOneOrThree {T = Found} armed (Ok found) mid → Stops mid (Err by) left → CanReturn (Fails (stop_fault by) true left) noted starts armed
halted_any noted starts armed mid left found by (inl e) ends = halted_within noted starts armed mid left 1 by (omega arith) (omega arith) e.0 e.1 ends
halted_any noted starts armed mid left found by (inr e) ends = halted_within noted starts armed mid left 3 by (omega arith) (omega arith) e.0 e.1 ends

-- a log without a body is no bad one
ok_err : (i : Image) (place : ℕ) → Ok i ≡ Err place → ⊥
ok_err i place e = absurd cc

unread_within : (noted : Option Noted) (starts armed left : ℕ) (g : Given) (bodies : List (List ℕ)) (place : ℕ) → image g Later bodies ≡ Err place → (0 < length bodies → (left ≡ armed - 1) × (0 < armed → 1 < armed)) → CanReturn (Fails (faults.BadLog place) false left) noted starts armed
unread_within noted starts armed left g [] place e one = absurd (ok_err empty_image place e)
unread_within noted starts armed left g (body ∷ bodies) place e one =
    let k = one (omega arith) in
    let a = k.0 in let b = k.1 in
    spent_of 1 1 armed left (λ z. omega (arith, z, a)) (λ z. let m = b z in omega (arith, a, m)) (λ z. let m = b z in omega (arith, a, m)) (λ z. omega (arith, a))

returned_as : (noted : Option Noted) (starts armed left : ℕ) (e : Unraised) (fault : RestartFault) (w : Bool) → e.fault ≡ fault → e.in_write ≡ w → CanReturn (Fails fault w left) noted starts armed → CanReturn (Fails e.fault e.in_write left) noted starts armed
returned_as noted starts armed left e fault w is out h =
    subst (λ (f : RestartFault). CanReturn (Fails f e.in_write left) noted starts armed) (sym is) (subst (λ (b : Bool). CanReturn (Fails fault b left) noted starts armed) (sym out) h)

pub can_end : (tells : Type 0) (noted : Option Noted) (starts : ℕ) (x y : PartsValue) (e : Unraised) → Fell tells x e y → CanReturn (fails_as e y.log.armed) noted starts x.log.armed
can_end tells noted starts x y e (Unopened fault is none out h same) = returned_as noted starts x.log.armed y.log.armed e (start_fault fault) false is out (opened_any noted starts x.log.armed y.log.armed fault h.ends)
can_end tells noted starts x y e (Unread found (BadRecord place) is was out h unread same) =
    returned_as noted starts x.log.armed y.log.armed e (faults.BadLog place) false is out (unread_within noted starts x.log.armed y.log.armed (given_of x) y.log.bodies place unread h.one)
can_end tells noted starts x y e (Unread found NoMemory is was out h unread same) = returned_as noted starts x.log.armed y.log.armed e faults.NoMemory false is out tt
can_end tells noted starts x y e (Unstarted found log built was h r u) = by u.halted
  where
    by : HasHalted (given_of (with_log log x)) built log e y.log → CanReturn (fails_as e y.log.armed) noted starts x.log.armed
    by (Wanting fault out same) = returned_as noted starts x.log.armed y.log.armed e faults.NoMemory false fault out tt
    by (Halted stop fault out halted) = returned_as noted starts x.log.armed y.log.armed e (stop_fault stop) true fault out (halted_any noted starts x.log.armed log.armed y.log.armed found stop h.ends halted.ends)
