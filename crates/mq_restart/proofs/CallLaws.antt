-- A restart that is refused before its log is read.
use Rattle.std.proofs.Common.{◌≡◌, ℕ, true, false, [], refl, ap, sym, subst, ◌∙◌}
use Rattle.mq_base.specs.Outside.{Rose}
use Rattle.mq_calls.specs.declared.choices.Return.TheVariants.{Fails}
use Rattle.mq_calls.specs.declared.commands.RestartFault.{RestartFault}
use Rattle.mq_calls.specs.declared.commands.RestartFault.TheVariants as faults
use Rattle.mq_calls.specs.State.{Plain, Running}
use Rattle.mq_calls.specs.State.Running.{Up, Down}
use Rattle.mq_calls.specs.Words.{is_up}
use Rattle.mq_spec_manager.specs.Stops.{restart_at}
use Rattle.mq_redo.specs.from_core.Values.{CoreValue, LogBodies}
use Rattle.mq_restart.specs.declared.reading.LogRead.{LogRead}
use Rattle.mq_restart.specs.declared.reading.Unreturned.{Unreturned}
use Rattle.mq_restart.specs.Stands.{LogStands}
use Rattle.mq_restart.specs.Returned.{CanEnd, Ends, Stayed}

abbrev refused_by : RestartFault → ℕ → Unreturned
refused_by fault armed = record { fault = fault; in_write = false; left = armed }

no_disk : (f : RestartFault) → (f ≡ faults.Disk → ⊥) → (a b : ℕ) → f ≡ faults.Disk → Rose a b
no_disk f never a b e = absurd (never e)

up_disk : faults.Up ≡ faults.Disk → ⊥
up_disk e = absurd cc

wanting_disk : faults.NoMemory ≡ faults.Disk → ⊥
wanting_disk e = absurd cc

up_at : (tells : Type 0) (r : Running) (p : Plain) (armed : ℕ) (new : CoreValue) → p.running ≡ r → is_up r ≡ true → armed ≡ p.log.armed → new.plain ≡ p → new.delta ≡ [] → Ends tells (Fails faults.Up false armed) p new
up_at tells Up p armed new run up left same told = record {
  can = subst (λ (r : Running). CanEnd tells (Fails faults.Up false armed) r p) (sym run) (ap (λ (n : ℕ). Fails faults.Up false n) left);
  plain = same ∙ ap (λ (r : Running). (restart_at r (Fails faults.Up false armed) p).next) (sym run);
  delta = told ∙ ap (λ (r : Running). (restart_at r (Fails faults.Up false armed) p).delta) (sym run);
}
up_at tells (Down n starts) p armed new run up left same told = absurd cc

pub up_refused : (tells : Type 0) (p : Plain) (count armed : ℕ) (new : CoreValue) → is_up p.running ≡ true → armed ≡ p.log.armed → new.plain ≡ p → new.delta ≡ [] → Stayed tells p count (record { fault = faults.Up; in_write = false; left = armed }) new
up_refused tells p count armed new up left same told = record { ends = up_at tells p.running p armed new refl up left same told; good = λ t. tt; disk = no_disk faults.Up up_disk count new.faults }

wanting_at : (tells : Type 0) (r : Running) (p : Plain) (armed : ℕ) (new : CoreValue) → p.running ≡ r → is_up r ≡ false → new.plain ≡ p → new.delta ≡ [] → Ends tells (Fails faults.NoMemory false armed) p new
wanting_at tells Up p armed new run up same told = absurd cc
wanting_at tells (Down n starts) p armed new run up same told = record {
  can = subst (λ (r : Running). CanEnd tells (Fails faults.NoMemory false armed) r p) (sym run) (tt, λ t. tt);
  plain = same ∙ ap (λ (r : Running). (restart_at r (Fails faults.NoMemory false armed) p).next) (sym run);
  delta = told ∙ ap (λ (r : Running). (restart_at r (Fails faults.NoMemory false armed) p).delta) (sym run);
}

pub wanting_refused : (tells : Type 0) (p : Plain) (count armed : ℕ) (new : CoreValue) → is_up p.running ≡ false → new.plain ≡ p → new.delta ≡ [] → Stayed tells p count (record { fault = faults.NoMemory; in_write = false; left = armed }) new
wanting_refused tells p count armed new up same told = record { ends = wanting_at tells p.running p armed new refl up same told; good = λ t. tt; disk = no_disk faults.NoMemory wanting_disk count new.faults }

pub still_stands : (tells : Type 0) (read : LogRead) (old new : CoreValue) → new.plain ≡ old.plain → new.log ≡ old.log → LogStands tells read old.log old.plain → LogStands tells read new.log new.plain
still_stands tells read old new plain log s = subst (λ (p : Plain). LogStands tells read new.log p) (sym plain) (subst (λ (l : LogBodies). LogStands tells read l old.plain) (sym log) s)
