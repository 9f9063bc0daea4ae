-- What a large run from a number comes to.
use Rattle.std.proofs.Common.{◌≡◌, ◌≤◌, ℕ, List, refl, sym, subst, ◌∙◌, inl, inr}
use Rattle.std.specs.Prelude.{Option}
use Rattle.mq_base.specs.Outside.{Rose, IsLonger}
use Rattle.mq_history.specs.Scenarios.{IsScenario}
use Rattle.mq_history.specs.declared.scenario.Scenario.{Scenario}
use Rattle.mq_nodes.specs.Texts.{AllFit}
use Rattle.mq_run.specs.declared.reporting.Form.TheVariants as forms
use Rattle.mq_run.specs.declared.status.BadCause.{BadCause}
use Rattle.mq_run.specs.declared.status.Status.{Status}
use Rattle.mq_run.specs.declared.status.Status.TheVariants as status
use Rattle.mq_run.specs.Ends.{RunEnds}
use Rattle.mq_run.specs.Words.{IsTextCommand, Left}
use Rattle.mq_run.specs.from_soak.Soak.{soak}
use Rattle.mq_run.proofs.from_soak.Soaks as soaks
use Rattle.mq_top.specs.Headline.{IsOfRun, Nothing, ReadNoScenario, SoakEnds}
use Rattle.mq_top.proofs.Ending.{soak_comes}

-- what a run asks of its scenario
pub is_scenario : (n : ℕ) (s : Scenario) → s ≡ soak n → n ≤ 1000 → IsScenario s
is_scenario n s e few = subst IsScenario (sym e) (soaks.is_scenario n few)

pub all_fit : (n : ℕ) (s : Scenario) → s ≡ soak n → AllFit IsTextCommand s
all_fit n s e = subst (AllFit IsTextCommand) (sym e) (soaks.all_fit IsTextCommand (λ c h. h) (λ op. tt) n)

-- how it ends
pub no_memory : (n : ℕ) (tells : Type 0) (held : List ℕ → List ℕ → Type 0) (start before now : ℕ) (old new : Option (List ℕ)) (net : Option Left) (counts : List ℕ)
    → n ≤ 1000 → Nothing old new net counts → SoakEnds n tells held start before now old new status.NoMemory net counts
no_memory n tells held start before now old new net counts few nothing = (few, inl (refl, nothing))

pub ran : (n : ℕ) (s : Scenario) (tells : Type 0) (held : List ℕ → List ℕ → Type 0) (start before now : ℕ) (old new : Option (List ℕ)) (st : Status) (net : Option Left) (counts : List ℕ)
    → n ≤ 1000 → s ≡ soak n → RunEnds (forms.Line n) tells held start s before now old new st net counts → SoakEnds n tells held start before now old new st net counts
ran n s tells held start before now old new st net counts few e h = (few, inr (subst (λ (x : Scenario). RunEnds (forms.Line n) tells held start x before now old new st net counts) e h))

-- by no status of what is read
other : {A : Type 0} (n : ℕ) (tells : Type 0) (held : List ℕ → List ℕ → Type 0) (start before now : ℕ) (old new : Option (List ℕ)) (st is : Status) (net : Option Left) (counts : List ℕ)
    → SoakEnds n tells held start before now old new st net counts → st ≡ is → (IsOfRun is → ⊥) → ((k : ℕ) → is ≡ status.WriteFault k → ⊥) → A
other n tells held start before now old new st is net counts h e none no_write = absurd (none (subst IsOfRun e (soak_comes n tells held start before now old new st net counts h (λ k f. no_write k (sym e ∙ f)))))

pub no_bad_scenario : (n : ℕ) (tells : Type 0) (held : List ℕ → List ℕ → Type 0) (start before now : ℕ) (old new : Option (List ℕ)) (st : Status) (net : Option Left) (counts : List ℕ) (left : Option (List ℕ)) (line : ℕ) (cause : BadCause)
    → SoakEnds n tells held start before now old new st net counts → st ≡ status.BadScenario line cause → ReadNoScenario left line cause
no_bad_scenario n tells held start before now old new st net counts left line cause h e = other n tells held start before now old new st (status.BadScenario line cause) net counts h e (λ x. x) (λ k f. absurd cc)

pub no_read_fault : (n : ℕ) (tells : Type 0) (held : List ℕ → List ℕ → Type 0) (start before now : ℕ) (old new : Option (List ℕ)) (st : Status) (net : Option Left) (counts : List ℕ) (a b : ℕ)
    → SoakEnds n tells held start before now old new st net counts → st ≡ status.ReadFault → Rose a b
no_read_fault n tells held start before now old new st net counts a b h e = other n tells held start before now old new st status.ReadFault net counts h e (λ x. x) (λ k f. absurd cc)

pub not_too_long : (n : ℕ) (tells : Type 0) (held : List ℕ → List ℕ → Type 0) (start before now : ℕ) (old new : Option (List ℕ)) (st : Status) (net : Option Left) (counts : List ℕ) (left : Option (List ℕ))
    → SoakEnds n tells held start before now old new st net counts → st ≡ status.TooLong → IsLonger left 1048576
not_too_long n tells held start before now old new st net counts left h e = other n tells held start before now old new st status.TooLong net counts h e (λ x. x) (λ k f. absurd cc)
