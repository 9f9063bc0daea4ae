-- What an event adds.
use Rattle.std.specs.Prelude.{◌≡◌, ◌≤◌, Bool, true, false, [], ◌∷◌, Option, Some, None, Result, Ok, Err}
use Rattle.mq_base.specs.declared.want.NoMemory.{NoMemory as Want}
use Rattle.mq_spec_node.specs.Terms.{Acted, Actor, Call, Entry}
use Rattle.mq_history.specs.declared.acts.Acted.TheVariants as acted
use Rattle.mq_history.specs.declared.calls.Call.TheVariants as calls
use Rattle.mq_history.specs.declared.calls.Reply.TheVariants as replies
use Rattle.mq_spec_node.specs.Words.{Deed, Own, own_at_rest, answer_of, Grows, is_spent}
use Rattle.mq_events.specs.Disks.{RoseBy}
use Rattle.mq_events.specs.States.{NodeState, value_of, IsServed}

-- A node may make an event more.
abbrev pub MayAct : NodeState → Type 0
MayAct s = is_spent (value_of s) ≡ false

-- One entry more, of this actor's call.
pub record Adds (who : Actor) (what : Call) (e : Entry) (old new : NodeState) : Type 0 where
  pub grows : Grows (value_of old) (e ∷ []) (value_of new)
  pub actor : e.actor ≡ who
  pub call : e.call ≡ what
  pub marks : new.marks ≡ old.marks
  pub faults : old.manager.faults ≤ new.manager.faults
  pub rose : RoseBy e.reply old.manager.faults new.manager.faults

-- an MQI call
abbrev pub IsMqi : Call → Type 0
IsMqi (calls.Act act) = ⊥
IsMqi calls.Turn = ⊥
IsMqi calls.Timeout = ⊥
IsMqi calls.Trigger = ⊥
IsMqi _ = Unit {0}

-- nothing was added, and the node is as it was
pub record Stays (old new : NodeState) : Type 0 where
  pub same : value_of new ≡ value_of old
  pub marks : new.marks ≡ old.marks
  pub faults : old.manager.faults ≤ new.manager.faults

-- An event that was made, was none, or found no memory.
abbrev pub EventIs : Actor → Call → Option Deed → NodeState → Result Bool Want → NodeState → Type 0
EventIs who what d old (Err e) new = Stays old new
EventIs who what None old (Ok true) new = ⊥
EventIs who what (Some d) old (Ok true) new = (e : Entry) × Adds who what e old new
EventIs who what None old (Ok false) new = Stays old new
EventIs who what (Some d) old (Ok false) new = ⊥

-- A trigger turn was made; none is due; or there was no memory.
abbrev pub ServesOne : NodeState → Result Bool Want → NodeState → Type 0
ServesOne old (Ok true) new = (who : Actor) × (e : Entry) × Adds who calls.Trigger e old new
ServesOne old (Ok false) new = Stays old new × IsServed new
ServesOne old (Err e) new = Stays old new

-- What is asked beside MQI calls, with its answer.
abbrev pub ActsAs : Actor → Call → NodeState → Result Acted Want → NodeState → Type 0
ActsAs who what old (Ok acted) new = (e : Entry) × Adds who what e old new × (answer_of what e.reply ≡ replies.Acted acted)
ActsAs who what old (Err e) new = Stays old new

-- a stop of a manager that was up, or not
abbrev pub acted_by : Bool → Acted
acted_by true = acted.Done
acted_by false = acted.Down

abbrev pub own_by : Bool → Own → Own
own_by true own = own_at_rest own
own_by false own = own
