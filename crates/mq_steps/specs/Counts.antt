-- How many turns a pump takes.
use Rattle.std.specs.Prelude.{◌≡◌, ◌⊎◌, ◌+◌, ◌-◌, ℕ, suc, Bool, true, false, List, [], ◌∷◌, Option, Some, None, Result, Ok, Err}
use Rattle.mq_base.specs.declared.want.NoMemory.{NoMemory}
use Rattle.mq_history.specs.declared.calls.Call.TheVariants as calls
use Rattle.mq_history.specs.declared.calls.Entry.{Entry}
use Rattle.mq_spec_network.specs.Turns.{Network, does, is_idle}
use Rattle.mq_spec_network.specs.Tasks.Task.{Pump}
use Rattle.mq_spec_network.specs.Tasks.Slot.{Sends}
use Rattle.mq_spec_network.specs.Steps.{AreTriggers}
use Rattle.mq_nodes.specs.declared.nodes.Stop.{Stop}
use Rattle.mq_nodes.specs.declared.nodes.Stop.TheVariants as stops
use Rattle.mq_nodes.specs.Course.{Course}
use Rattle.mq_nodes.specs.Told.{Onward, Part}
use Rattle.mq_nodes.specs.Pumps.{AllStill}
use Rattle.mq_steps.specs.declared.pumping.Halt.{Halt}
use Rattle.mq_steps.specs.declared.pumping.Halt.TheVariants as halts
use Rattle.mq_steps.specs.declared.pumping.Pumped.{Pumped}

-- the same answer without the number
abbrev pub without_number : Result ℕ Halt → Result ℕ Stop
without_number (Ok rest) = Ok rest
without_number (Err halts.NoMemory) = Err stops.NoMemory
without_number (Err (halts.Spent m rest)) = Err (stops.Spent m)

-- what ends the run with a pump
abbrev pub spent_or : Option ℕ → Result (Unit {0}) Stop
spent_or None = Ok tt
spent_or (Some m) = Err (stops.Spent m)

abbrev pub pumped_then : Result Pumped NoMemory → Result (Unit {0}) Stop
pumped_then (Ok p) = spent_or p.spent
pumped_then (Err x) = Err stops.NoMemory

-- whether a pump ended idle, or that the run ends
abbrev pub idle_unless : Bool → Option ℕ → Result Bool Stop
idle_unless idle None = Ok idle
idle_unless idle (Some m) = Err (stops.Spent m)

abbrev pub idle_or_spent : Result Pumped NoMemory → Result Bool Stop
idle_or_spent (Ok p) = idle_unless p.idle p.spent
idle_or_spent (Err x) = Err stops.NoMemory

-- so many are left of some turns after one that was tried
abbrev pub left_by : Result Bool Stop → ℕ → Result ℕ Halt
left_by (Ok true) left = Ok (left - 1)
left_by (Ok false) left = Ok left
left_by (Err stops.NoMemory) left = Err halts.NoMemory
left_by (Err (stops.Spent m)) left = Err (halts.Spent m (left - 1))

-- From a network to another by so many turns and timeouts, each with the trigger turns that are due after it.
abbrev pub IsTurn : Entry → Type 0
IsTurn e = (e.call ≡ calls.Turn) ⊎ (e.call ≡ calls.Timeout)

pub data Took (w0 : Network) : ℕ → Network → Type 0 where
  none : Took w0 0 w0
  one : (n : ℕ) (w : Network) (m : ℕ) (e : Entry) (es : List Entry) → Took w0 n w → IsTurn e → AreTriggers es → Took w0 (suc n) (does m (e ∷ es) w)

-- so many turns were left, and so many are now
pub record Fewer (most rest : ℕ) (w v : Network) : Type 0 where
  pub taken : ℕ
  pub is : most ≡ taken + rest
  pub took : Took w taken v

abbrev pub Counts : ℕ → Result ℕ Halt → Course → Course → Type 0
Counts most (Ok rest) c d = Fewer most rest c.net d.net
Counts most (Err halts.NoMemory) c d = Unit {0}
Counts most (Err (halts.Spent m rest)) c d = Fewer most rest c.net d.net

-- A pump's rounds are over: all turns are taken, or nothing can change.
abbrev pub RoundsTold : ℕ → Result ℕ Halt → Course → Course → Type 0
RoundsTold turns (Ok left) c d = (AllStill d.net → is_idle d.net ≡ true) → Onward (Pump turns Sends 0 false ∷ []) [] c d × (is_idle d.net ≡ false → left ≡ 0)
RoundsTold turns (Err halt) c d = Part (Pump turns Sends 0 false ∷ []) (without_number (Err halt)) c d
