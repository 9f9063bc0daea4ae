-- The run of which a call tells that a disk failed.
use Rattle.std.proofs.Common.{◌≡◌, ℕ, List, subst, inl, inr}
use Rattle.std.specs.Prelude.{None, Option, Some}
use Rattle.mq_history.specs.declared.scenario.Scenario.{Scenario}
use Rattle.mq_run.specs.declared.reporting.Form.{Form}
use Rattle.mq_run.specs.declared.reporting.Form.TheVariants as forms
use Rattle.mq_run.specs.declared.status.Status.{Status}
use Rattle.mq_run.specs.declared.status.Status.TheVariants as status
use Rattle.mq_run.specs.Ends.{RunEnds}
use Rattle.mq_run.specs.Words.{Left}
use Rattle.mq_run.specs.from_soak.Soak.{soak}
use Rattle.mq_top.specs.declared.top.Purpose.TheVariants as purposes
use Rattle.mq_top.specs.declared.top.Task.{Task}
use Rattle.mq_top.specs.declared.top.Task.TheVariants as tasks
use Rattle.mq_top.specs.Headline.{Checked, Ends, IsEarly}

-- a scenario was run, and its run ended so
pub record Ran (tells : Type 0) (held : List ℕ → List ℕ → Type 0) (start before now : ℕ) (old new : Option (List ℕ)) (st : Status) (net : Option Left) (counts : List ℕ) : Type 0 where
  pub form : Form
  pub scenario : Scenario
  pub ended : RunEnds form tells held start scenario before now old new st net counts

no_words : (x : Status) → x ≡ status.BadWords → x ≡ status.DiskFault → ⊥
no_words x a b = absurd cc

no_memory : (x : Status) → x ≡ status.NoMemory → x ≡ status.DiskFault → ⊥
no_memory x a b = absurd cc

pub ran_of : (asked : Option Task) (left : Option (List ℕ)) (tells : Type 0) (held : List ℕ → List ℕ → Type 0) (start before now : ℕ) (old new : Option (List ℕ)) (st : Status) (net : Option Left) (counts : List ℕ)
    → Ends asked left tells held start before now old new st net counts → st ≡ status.DiskFault → Ran tells held start before now old new st net counts
ran_of None left tells held start before now old new st net counts ends e = absurd (no_words st ends.0 e)
ran_of (Some (tasks.Read purposes.Run)) left tells held start before now old new st net counts (inl early) e = absurd (subst IsEarly e early.0)
ran_of (Some (tasks.Read purposes.Run)) left tells held start before now old new st net counts (inr ran) e = record { form = forms.Report; scenario = ran.scenario; ended = ran.ended }
ran_of (Some (tasks.Read purposes.Check)) left tells held start before now old new st net counts (inl early) e = absurd (subst IsEarly e early.0)
ran_of (Some (tasks.Read purposes.Check)) left tells held start before now old new st net counts (inr checked) e = absurd (subst (Checked left old new) e checked.2)
ran_of (Some (tasks.Soak n)) left tells held start before now old new st net counts (few, inl early) e = absurd (no_memory st early.0 e)
ran_of (Some (tasks.Soak n)) left tells held start before now old new st net counts (few, inr ran) e = record { form = forms.Line n; scenario = soak n; ended = ran }
