-- Counters of a manager that its events raise, each by a little: all but the length of its log.
use Rattle.std.specs.Prelude.{ℕ, ◌+◌, ◌≤◌, List}
use Rattle.std.specs.List.{AllByRecursion}
use Rattle.mq_sc_parse.specs.declared.command.Command.TheVariants as commands
use Rattle.mq_spec_node.specs.from_history.ActVariants as acts
use Rattle.mq_spec_node.specs.from_history.CallVariants as calls
use Rattle.mq_spec_node.specs.Terms.{Act, Call, Command}
use Rattle.mq_calls.specs.State.{Plain}
use Rattle.mq_calls.specs.declared.state.Connection.{Connection}
use Rattle.mq_calls.specs.Reads.{stored, puts_to}
use Rattle.mq_calls.specs.Counts.{starts_of}
use Rattle.mq_calls.specs.Steps.{Part, Step, do_all, stopped_at}
use Rattle.mq_calls.specs.Steps.Step.{Refuse, Do}

-- No counter of the second manager is more than so much above the first's. An uncommitted put of a queue may arrive, and bring a
-- trigger.
pub record Climbs (n : ℕ) (p q : Plain) : Type 0 where
  pub incarnation : q.numbers.incarnation + starts_of q.running ≤ p.numbers.incarnation + starts_of p.running + n
  pub idents : q.numbers.idents ≤ p.numbers.idents + n
  pub connections : q.numbers.connections ≤ p.numbers.connections + n
  pub handles : (m : ℕ) → AllByRecursion (λ (c : Connection). c.last_handle ≤ m) p.connections → AllByRecursion (λ (c : Connection). c.last_handle ≤ m + n) q.connections
  pub arrivals : (name : List ℕ) → (stored name q).arrivals + puts_to name q.connections ≤ (stored name p).arrivals + puts_to name p.connections + n
  pub due : (name : List ℕ) → (stored name q).due + puts_to name q.connections ≤ (stored name p).due + puts_to name p.connections + n

-- Each counter is at most so high.
pub record AreWithin (most : ℕ) (p : Plain) : Type 0 where
  pub incarnation : p.numbers.incarnation + starts_of p.running ≤ most
  pub idents : p.numbers.idents ≤ most
  pub connections : p.numbers.connections ≤ most
  pub handles : AllByRecursion (λ (c : Connection). c.last_handle ≤ most) p.connections
  pub arrivals : (name : List ℕ) → (stored name p).arrivals + puts_to name p.connections ≤ most
  pub due : (name : List ℕ) → (stored name p).due + puts_to name p.connections ≤ most

-- Parts raise them by at most so much, whether they are all done or one is stopped.
pub record PartsClimb (n : ℕ) (parts : List Part) (p : Plain) : Type 0 where
  pub all : Climbs n p (do_all parts p)
  pub stopped : (part left : ℕ) → Climbs n p (stopped_at part parts left p)

abbrev pub StepClimbs : {F T : Type 0} → ℕ → Step F T → Plain → Type 0
StepClimbs n (Refuse reason) p = Unit {0}
StepClimbs n (Do reply parts) p = PartsClimb n parts p

-- The events of which it is shown here that they raise counters by three at most: MQI calls, commands on objects, stops, cuts, clock
-- advances, trigger turns.
abbrev pub IsCountedCommand : Command → Type 0
IsCountedCommand (commands.Objects c) = Unit {0}
IsCountedCommand (commands.Operate op) = ⊥
IsCountedCommand (commands.ShowStatus name any_end) = Unit {0}

abbrev pub IsCountedAct : Act → Type 0
IsCountedAct (acts.Obey c) = IsCountedCommand c
IsCountedAct acts.Crash = Unit {0}
IsCountedAct acts.Restart = ⊥
IsCountedAct (acts.Cut k) = Unit {0}
IsCountedAct (acts.Clock by) = Unit {0}

abbrev pub IsCountedCall : Call → Type 0
IsCountedCall (calls.Act act) = IsCountedAct act
IsCountedCall calls.Turn = ⊥
IsCountedCall calls.Timeout = ⊥
IsCountedCall _ = Unit {0}
