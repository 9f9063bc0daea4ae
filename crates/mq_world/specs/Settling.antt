-- An event of one node, with the trigger turns behind it, as its network sees it.
use Rattle.std.specs.Prelude.{◌≡◌, ◌⊎◌, ℕ, Bool, true, false, List, ◌∷◌, Option, Some, None, Result, Ok, Err}
use Rattle.mq_base.specs.declared.want.NoMemory.{NoMemory}
use Rattle.mq_spec_node.specs.Terms.{Actor, Call, Entry}
use Rattle.mq_spec_node.specs.Words.{Grows, is_spent}
use Rattle.mq_spec_network.specs.Steps.{AreTriggers, is_cut}
use Rattle.mq_watch.specs.from_events.States.{NodeState, IsKept, IsServed, value_of}
use Rattle.mq_watch.specs.from_events.Events.{MayAct}
use Rattle.mq_nodes.specs.declared.nodes.Stop.{Stop}
use Rattle.mq_nodes.specs.declared.nodes.Stop.TheVariants as stops

-- how a call of the node at a place ends, once its trigger turns were served or found no memory
abbrev pub ended : {T : Type 0} → ℕ → T → Result (Unit {0}) NoMemory → Bool → Result T Stop
ended m value (Err e) spent = Err stops.NoMemory
ended m value (Ok done) true = Err (stops.Spent m)
ended m value (Ok done) false = Ok value

-- no trigger is due then, or the node has made its last event
abbrev pub SettlesSo : {T : Type 0} → ℕ → Result T Stop → NodeState → Type 0
SettlesSo m (Ok x) new = IsServed new × MayAct new
SettlesSo m (Err stops.NoMemory) new = Unit {0}
SettlesSo m (Err (stops.Spent k)) new = (k ≡ m) × (is_spent (value_of new) ≡ true)

-- trigger turns behind an event
pub record Settles {T : Type 0} (m : ℕ) (old : NodeState) (r : Result T Stop) (new : NodeState) : Type 0 where
  pub turns : List Entry
  pub are : AreTriggers turns
  pub grows : Grows (value_of old) turns (value_of new)
  pub marks : new.marks ≡ old.marks
  pub keeps : IsKept new
  pub ends : SettlesSo m r new

-- an event of which P holds, and such turns
pub record NodeDid (P : Entry → Type 0) (old new : NodeState) : Type 0 where
  pub entry : Entry
  pub behind : List Entry
  pub fits : P entry
  pub triggers : AreTriggers behind
  pub grows : Grows (value_of old) (entry ∷ behind) (value_of new)
  pub marks : new.marks ≡ old.marks
  pub keeps : IsKept new

-- nothing
pub record NodeStays (old new : NodeState) : Type 0 where
  pub same : value_of new ≡ value_of old
  pub marks : new.marks ≡ old.marks

-- A call that does an event. Where memory is wanting it did it or not; where it was the last that the node makes, it did it.
abbrev pub NodeBroke : (Entry → Type 0) → ℕ → Stop → NodeState → NodeState → Type 0
NodeBroke P m stops.NoMemory old new = NodeStays old new ⊎ NodeDid P old new
NodeBroke P m (stops.Spent k) old new = (k ≡ m) × NodeDid P old new × (is_spent (value_of new) ≡ true)

-- where it succeeds it says more of the entry
abbrev pub NodeSays : {T : Type 0} → (Entry → Type 0) → (T → Entry → Type 0) → ℕ → Result T Stop → NodeState → NodeState → Type 0
NodeSays P Q m (Ok x) old new = NodeDid (λ e. P e × Q x e) old new × IsServed new × MayAct new
NodeSays P Q m (Err stop) old new = NodeBroke P m stop old new

abbrev pub NodeDoes : {T : Type 0} → (Entry → Type 0) → ℕ → Result T Stop → NodeState → NodeState → Type 0
NodeDoes P m (Ok x) old new = NodeDid P old new × IsServed new × MayAct new
NodeDoes P m (Err stop) old new = NodeBroke P m stop old new

-- this actor's call
abbrev pub IsOf : Actor → Call → Entry → Type 0
IsOf actor call e = (e.actor ≡ actor) × (e.call ≡ call)

-- whether the last entry is of a restart that a cut stopped
abbrev pub cut_or : Option Entry → Bool
cut_or None = false
cut_or (Some e) = is_cut e.reply
