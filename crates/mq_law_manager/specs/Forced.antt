-- What the calls of a manager force: a property of what is forced, if anything, and the steps of which all parts have it.
use Rattle.std.specs.Prelude.{ℕ, List, Option, Some, None}
use Rattle.std.specs.List.{AllByRecursion}
use Rattle.mq_message.specs.declared.message.Ident.{Ident}
use Rattle.mq_message.specs.declared.message.Message.{Message}
use Rattle.mq_calls.specs.declared.records.Add.{Add}
use Rattle.mq_calls.specs.declared.records.Remove.{Remove}
use Rattle.mq_calls.specs.declared.records.LogRecord.{LogRecord}
use Rattle.mq_calls.specs.declared.records.LogRecord.TheVariants as records
use Rattle.mq_calls.specs.Steps.{Part, Step}
use Rattle.mq_calls.specs.Steps.Step.{Refuse, Do}

-- what is forced by each of these parts has it
abbrev pub AllForce : (Option LogRecord → Type 0) → List Part → Type 0
AllForce P parts = AllByRecursion (λ (part : Part). P part.forced) parts

-- by each part of a call
abbrev pub StepForces : {F T : Type 0} → (Option LogRecord → Type 0) → Step F T → Type 0
StepForces P (Refuse reason) = Unit {0}
StepForces P (Do reply parts) = AllForce P parts

-- what is forced but for channels and commands has it: nothing, units, moved messages
pub record FitsCalls (P : Option LogRecord → Type 0) : Type 0 where
  pub none : P None
  pub units : (adds : List Add) (removes : List Remove) → P (Some (records.Unit adds removes))
  pub moves : (from : List ℕ) (ident : Ident) (to : List ℕ) (message : Message) → P (Some (records.Moved from ident to message))
