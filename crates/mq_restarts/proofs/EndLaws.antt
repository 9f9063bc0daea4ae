-- The write of the Started record of a manager whose log was changed from outside was stopped.
use Rattle.std.proofs.Common.{◌≡◌, ℕ, ◌+◌, ◌≤◌, Bool, true, [], refl, ap, arith, sym, subst, ◌∙◌}
use Rattle.std.specs.Prelude.{Option}
use Rattle.mq_base.specs.Outside.{Rose}
use Rattle.mq_disk.specs.declared.cutter.Stop.{Stop}
use Rattle.mq_disk.specs.declared.cutter.Stop.TheVariants as stops
use Rattle.mq_calls.specs.declared.commands.RestartFault.{RestartFault}
use Rattle.mq_calls.specs.declared.commands.RestartFault.TheVariants as faults
use Rattle.mq_calls.specs.declared.choices.Return.TheVariants.{Fails}
use Rattle.mq_log.specs.declared.images.Found.{Found}
use Rattle.mq_log.specs.State.{LogState, log_length}
use Rattle.mq_calls.specs.State.{Plain, Noted, Running}
use Rattle.mq_calls.specs.State.Running.{Up, Down}
use Rattle.mq_restart.specs.from_spec_manager.Stops.{CanReturn, failed, restart_at}
use Rattle.mq_restart.specs.from_core.{Mode}
use Rattle.mq_restart.specs.from_core.Ties.{Tied, mode_is_up}
use Rattle.mq_restart.specs.from_core.Values.{CoreValue, LogBodies}
use Rattle.mq_restart.specs.from_core.Views.{PartsValue, plain_of, frozen_of, noted, read_length}
use Rattle.mq_restart.specs.declared.reading.Unraised.{Unraised}
use Rattle.mq_restart.specs.Raised.{with_log, starts_after, stop_fault}
use Rattle.mq_restart.proofs.EndLaws.{halted_any}
use Rattle.mq_restart.specs.declared.reading.LogRead.{LogRead}
use Rattle.mq_restart.specs.declared.reading.LogRead.TheVariants as reads
use Rattle.mq_restart.specs.Stands.{read_found, read_fallen, LogStandsAt, LogStands}
use Rattle.mq_restart.specs.Falls.{or_read, fallen_mode, read_noted, left_by, fallen}
use Rattle.mq_restart.specs.Returned.{CanEnd, Stayed}
use Rattle.mq_restart.proofs.FallenLaws.{IsDown, tied_log, fallen_plain, down_running, failed_quiet}
use Rattle.mq_restarts.proofs.ComingLaws.{most_same, FellFar}
use Rattle.mq_restarts.proofs.FarLaws.{foreign_is}

-- ---- how it is then

left_is : (by : Stop) (armed left : ℕ) → left_by (stop_fault by) armed left ≡ left
left_is stops.Cut armed left = refl
left_is stops.Disk armed left = refl

failed_is : (by : Stop) (left : ℕ) (n : Option Noted) (starts : ℕ) (p : Plain) → (failed (stop_fault by) true left n starts p).next ≡ record p { running = Down n (starts + 1); log = record p.log { armed = left } }
failed_is stops.Cut left n starts p = refl
failed_is stops.Disk left n starts p = refl

rose : (by : Stop) → stop_fault by ≡ faults.Disk → by ≡ stops.Disk
rose stops.Cut e = absurd cc
rose stops.Disk e = refl

rose_over : (a b c : ℕ) → a ≤ b → Rose b c → Rose a c
rose_over a b c le r = grind (arith, le, r)

module _ (tells : Type 0) (read : LogRead) (x y : PartsValue) (e : Unraised) (f : FellFar tells read x e y) where
  max_log : y.log.max ≡ x.log.max
  max_log = ap (λ (l : LogState). l.max) f.stopped.halted.log ∙ most_same tells f.found x.log f.log f.read_again

  pub stopped_mode : y.mode ≡ x.mode
  stopped_mode = ap (λ (v : PartsValue). v.mode) f.stopped.same

  pub stopped_later : x.log.faults ≤ y.log.faults
  stopped_later = let a = f.read_again.later in let b = f.stopped.halted.later in omega (arith, a, b)

  fallen_here : (length armed : ℕ) → fallen read length armed e y ≡ fallen read length armed e (with_log y.log x)
  fallen_here length armed = ap (fallen read length armed e) f.stopped.same

  pub stopped_tied : (length armed : ℕ) (z : PartsValue) → IsDown x.mode → Tied x → z ≡ fallen read length armed e y → Tied z
  stopped_tied length armed z d t is =
      subst Tied (sym (is ∙ fallen_here length armed))
      (tied_log x (record y.log { armed = left_by e.fault armed y.log.armed }) (fallen_mode (read_noted read length e.found) e.in_write x.mode) (ap (λ (m : Mode). mode_is_up (fallen_mode (read_noted read length e.found) e.in_write m)) d.is) max_log t)

  noted_long : (d : IsDown x.mode) (length long : ℕ) → read_length (or_read (read_noted read length e.found) d.read) long ≡ length
  noted_long d length long = ap (λ (o : Option Found). read_length (or_read (read_noted read length o) d.read) long) f.was

  seen : (d : IsDown x.mode) (length : ℕ) (z : PartsValue) → z ≡ fallen read length x.log.armed e y
      → plain_of z ≡ record (plain_of x) { running = Down (noted (frozen_of x) d.write) (starts_after e.in_write d.starts); log = record { length = length; armed = left_by e.fault x.log.armed y.log.armed } }
  seen d length z is =
      ap plain_of (is ∙ fallen_here length x.log.armed)
      ∙ fallen_plain x d y.log (read_noted read length e.found) e.in_write length (left_by e.fault x.log.armed y.log.armed) max_log (noted_long d length (log_length y.log.bodies))

  left : (z : PartsValue) (length : ℕ) → z ≡ fallen read length x.log.armed e y → left_by e.fault x.log.armed y.log.armed ≡ z.log.armed
  left z length is = sym (ap (λ (v : PartsValue). v.log.armed) is)

  next : (d : IsDown x.mode) (z : PartsValue) → z ≡ fallen read (plain_of x).log.length x.log.armed e y → plain_of z ≡ (failed e.fault e.in_write z.log.armed (noted (frozen_of x) d.write) d.starts (plain_of x)).next
  next d z is =
      let n : Option Noted = noted (frozen_of x) d.write in
      seen d (plain_of x).log.length z is
      ∙ ap (λ (b : Bool). record (plain_of x) { running = Down n (starts_after b d.starts); log = record { length = (plain_of x).log.length; armed = left_by e.fault x.log.armed y.log.armed } }) f.stopped.in_write
      ∙ ap (λ (k : ℕ). record (plain_of x) { running = Down n (d.starts + 1); log = record { length = (plain_of x).log.length; armed = k } }) (left z (plain_of x).log.length is)
      ∙ sym (failed_is f.stopped.by z.log.armed n d.starts (plain_of x))
      ∙ ap (λ (b : Bool). (failed (stop_fault f.stopped.by) b z.log.armed n d.starts (plain_of x)).next) (sym f.stopped.in_write)
      ∙ ap (λ (g : RestartFault). (failed g e.in_write z.log.armed n d.starts (plain_of x)).next) (sym f.stopped.fault)

  can : (d : IsDown x.mode) (z : PartsValue) → z ≡ fallen read (plain_of x).log.length x.log.armed e y → CanReturn (Fails e.fault e.in_write z.log.armed) (noted (frozen_of x) d.write) d.starts x.log.armed
  can d z is =
      let n : Option Noted = noted (frozen_of x) d.write in
      let armed : z.log.armed ≡ y.log.armed =
      ap (λ (v : PartsValue). v.log.armed) is ∙ ap (λ (g : RestartFault). left_by g x.log.armed y.log.armed) f.stopped.fault ∙ left_is f.stopped.by x.log.armed y.log.armed in
      subst (λ (k : ℕ). CanReturn (Fails e.fault e.in_write k) n d.starts x.log.armed) (sym armed)
      (subst (λ (b : Bool). CanReturn (Fails e.fault b y.log.armed) n d.starts x.log.armed) (sym f.stopped.in_write)
      (subst (λ (g : RestartFault). CanReturn (Fails g true y.log.armed) n d.starts x.log.armed) (sym f.stopped.fault)
      (halted_any n d.starts x.log.armed f.log.armed y.log.armed f.found f.stopped.by f.read_again.ends f.stopped.halted.ends)))

  pub stopped_stayed : (d : IsDown x.mode) (z : PartsValue) (new : CoreValue) → (tells → ⊥) → z ≡ fallen read (plain_of x).log.length x.log.armed e y → new.plain ≡ plain_of z → new.delta ≡ [] → new.faults ≡ z.log.faults
      → Stayed tells (plain_of x) x.log.faults (record { fault = e.fault; in_write = e.in_write; left = z.log.armed }) new
  stopped_stayed d z new untold is told none count = record {
    ends = record {
      can = subst (λ (k : Running). CanEnd tells (Fails e.fault e.in_write z.log.armed) k (plain_of x)) (sym (down_running x d)) (can d z is, λ t. absurd (untold t));
      plain = told ∙ next d z is ∙ ap (λ (k : Running). (restart_at k (Fails e.fault e.in_write z.log.armed) (plain_of x)).next) (sym (down_running x d));
      delta = none ∙ sym (failed_quiet e.fault e.in_write z.log.armed (noted (frozen_of x) d.write) d.starts (plain_of x)) ∙ ap (λ (k : Running). (restart_at k (Fails e.fault e.in_write z.log.armed) (plain_of x)).delta) (sym (down_running x d));
    };
    good = λ t. absurd (untold t);
    disk = λ b. subst (λ (k : ℕ). Rose x.log.faults k) (sym (count ∙ ap (λ (v : PartsValue). v.log.faults) is))
        (rose_over x.log.faults f.log.faults y.log.faults f.read_again.later (f.stopped.halted.disk (rose f.stopped.by (sym f.stopped.fault ∙ b))));
  }

  pub stopped_stands : (log : LogBodies) (p : Plain) → (tells → ⊥) → LogStands tells (read_fallen e.found read) log p
  stopped_stands log p untold =
      subst (λ (k : LogRead). LogStands tells k log p) (sym (ap (λ (o : Option Found). read_fallen o read) f.was ∙ foreign_is (read_found read f.found) f.foreign)) (by p.running)
    where
      by : (k : Running) → LogStandsAt tells reads.Foreign k log p
      by Up = untold
      by (Down n starts) = untold
