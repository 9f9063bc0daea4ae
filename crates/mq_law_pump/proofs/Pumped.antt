-- So the loop of a PUMP that takes at least so many turns ends idle, or a manager made its last event.
use Rattle.std.proofs.Common.{ℕ, ◌≡◌, ◌≤◌, true, false, List, [], ◌∷◌, subst, ◌∙◌}
use Rattle.std.specs.Prelude.{IfOk, Option, None, Result, Ok, Err}
use Rattle.mq_base.specs.declared.want.NoMemory.{NoMemory}
use Rattle.mq_nodes.specs.Course.{Course}
use Rattle.mq_nodes.specs.Told.{Ended, Part}
use Rattle.mq_spec_network.specs.Steps.{Goes}
use Rattle.mq_spec_network.specs.Tasks.{Slot, Task}
use Rattle.mq_spec_network.specs.Tasks.Task.{Pump}
use Rattle.mq_spec_network.specs.Turns.{is_idle}
use Rattle.mq_steps.specs.Counts.{pumped_then, spent_or}
use Rattle.mq_steps.specs.declared.pumping.Pumped.{Pumped}
use Rattle.mq_law_pump.specs.Fit.{Good}
use Rattle.mq_law_pump.specs.Restful.{Restful, most}
use Rattle.mq_law_pump.proofs.AtRest.{comes_to_rest}

pub ends_idle : (result : Result Pumped NoMemory) (turns : ℕ) (c d : Course) → Part (Pump turns Slot.Sends 0 false ∷ []) (pumped_then result) c d → IfOk result (λ (p : Pumped). p.idle ≡ is_idle d.net)
    → Good d.net → Restful c.net → most c.net ≤ turns → IfOk result (λ (p : Pumped). p.spent ≡ None → p.idle ≡ true)
ends_idle (Ok p) turns c d part idle g rests enough = λ none. idle ∙ comes_to_rest c.net d.net turns g rests (subst (λ (ts : List Task). Goes c.net (Pump turns Slot.Sends 0 false ∷ []) d.net ts) (ended none) part.goes) enough
  where
    ended : p.spent ≡ None → part.left ≡ []
    ended none = (subst (λ (o : Option ℕ). Ended (spent_or o) part.left c d) none part.ends).0
ends_idle (Err x) turns c d part idle g rests enough = tt
