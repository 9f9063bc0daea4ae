-- A manager that is up stays up where all parts are done.
use Rattle.std.proofs.Common.{◌≡◌, ap, ◌∙◌, List}
use Rattle.mq_calls.specs.declared.choices.Choice.{Choice}
use Rattle.mq_calls.specs.declared.deltas.Did.{Did}
use Rattle.mq_calls.specs.declared.choices.Choice.TheVariants.{Runs, NoMemory, Stopped}
use Rattle.mq_calls.specs.State.{Plain}
use Rattle.mq_calls.specs.Reads.{is_up}
use Rattle.mq_calls.specs.Steps.{Part}
use Rattle.mq_spec_manager.specs.Agents.{IsUp}
use Rattle.mq_law_manager.proofs.Untouched.{parts_running}
use Rattle.mq_core.specs.Values.{CoreValue}
use Rattle.mq_turn_parts.specs.Turns.{Made}

pub stays_up : (ps : List Part) (choice : Choice) (delta : List Did) (old new : CoreValue) → Made ps choice delta old new → IsUp old.plain → choice ≡ Runs → IsUp new.plain
stays_up ps Runs delta old new m up e = ap is_up (ap (λ (p : Plain). p.running) m.plain ∙ parts_running ps old.plain) ∙ up
stays_up ps NoMemory delta old new m up e = absurd cc
stays_up ps (Stopped by n left) delta old new m up e = absurd cc
