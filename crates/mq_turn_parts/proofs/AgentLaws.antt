-- What is told of a call of a channel's end.
use Rattle.std.proofs.Common.{◌≡◌, ℕ, refl, sym, subst, List, [], ◌∷◌, arith}
use Rattle.std.specs.Prelude.{Ok, Err}
use Rattle.mq_calls.specs.declared.choices.Choice.{Choice}
use Rattle.mq_calls.specs.declared.choices.Choice.TheVariants.{Runs, Stopped}
use Rattle.mq_calls.specs.declared.commands.Halt.TheVariants as halts
use Rattle.mq_disk.specs.declared.cutter.Stop.{Stop}
use Rattle.mq_queue.specs.declared.row.Row.{Row}
use Rattle.mq_calls.specs.Meeting.{MeetsAs}
use Rattle.mq_calls.specs.Meeting.Wants.{Anywhere}
use Rattle.mq_spec_manager.specs.Words.{expired_parts}
use Rattle.mq_spec_manager.specs.Agents.{expire, expired_rows, queue_of_sender}
use Rattle.mq_spec_node.specs.Terms.{Plain, Step}
use Rattle.mq_spec_node.specs.Words.{parts_of}
use Rattle.mq_core.specs.Values.{CoreValue, manager_of}
use Rattle.mq_law_manager.proofs.ShortSteps.{IsShort, StepIsShort}
use Rattle.mq_events.specs.declared.outcome.Told.{Told}
use Rattle.mq_turn_parts.specs.Turns.{IsAsWas, Made, MadeOr}
use Rattle.mq_turn_parts.proofs.PartLaws.{none_made, ran_made, stopped_made}

pub agent_ran : {F T : Type 0} (step : Step F T) (value : T) (t : Told) (old mid new : CoreValue) → MeetsAs Anywhere (manager_of old) step (Ok value) (manager_of mid) → t.choice ≡ Runs → t.delta ≡ mid.delta → new ≡ record mid { delta = [] } → MadeOr (parts_of step) (Ok t) old new
agent_ran step value t old mid new m c d e =
    let M : Choice → Type 0 = λ x. Made (parts_of step) x t.delta old new in
    subst M (sym c) (ran_made Anywhere step value t.delta old mid new m d e)

pub agent_stopped : {F T : Type 0} (step : Step F T) (by : Stop) (t : Told) (old mid new : CoreValue) → StepIsShort step → MeetsAs Anywhere (manager_of old) step (Err (halts.Stopped by)) (manager_of mid) → t.choice ≡ Stopped by 0 mid.plain.log.armed → t.delta ≡ mid.delta
    → new ≡ record mid { delta = [] } → MadeOr (parts_of step) (Ok t) old new
agent_stopped step by t old mid new short m c d e =
    let M : Choice → Type 0 = λ x. Made (parts_of step) x t.delta old new in
    subst M (sym c) (stopped_made Anywhere step by t.delta old mid new short m d e)

pub nothing_made : (t : Told) (v : CoreValue) → t.choice ≡ Runs → t.delta ≡ [] → MadeOr [] (Ok t) v v
nothing_made t v c d = none_made t.choice t.delta v c d

pub as_was : (v : CoreValue) → IsAsWas v v
as_was v = record { plain = refl; later = omega arith }

-- expired rows go in one part
removal_short : (queue : List ℕ) (rows : List Row) → IsShort (expired_parts queue rows)
removal_short queue [] = tt
removal_short queue (row ∷ rows) = tt

pub expire_short : (channel : List ℕ) (p : Plain) → StepIsShort (expire channel p)
expire_short channel p = removal_short (queue_of_sender channel p) (expired_rows (queue_of_sender channel p) p)
