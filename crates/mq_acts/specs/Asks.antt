-- What a script asks of its node, and what comes of it.
use Rattle.std.specs.Prelude.{◌≡◌, Bool, true, false, None, Result, Ok, Err}
use Rattle.mq_base.specs.declared.want.NoMemory.{NoMemory}
use Rattle.mq_frame.specs.declared.frame.Seen.TheVariants as items
use Rattle.mq_history.specs.declared.calls.Call.TheVariants as calls
use Rattle.mq_spec_node.specs.Terms.{Acted, Actor, Call, Entry}
use Rattle.mq_spec_node.specs.Words.{deed_of, is_none}
use Rattle.mq_events.specs.States.{NodeState, node_in}
use Rattle.mq_events.specs.Events.{Adds, Stays}
use Rattle.mq_events.specs.Texts.{IsTextAct}

-- an MQI call
abbrev pub is_mqi : Call → Bool
is_mqi (calls.Act act) = false
is_mqi calls.Turn = false
is_mqi calls.Timeout = false
is_mqi calls.Trigger = false
is_mqi _ = true

-- an act that was answered has happened
abbrev pub happened_if : Result Acted NoMemory → Result Bool NoMemory
happened_if (Ok acted) = Ok true
happened_if (Err e) = Err e

-- What a script or an operator asks for: MQI calls and acts; of commands on objects those whose values are such as a text of commands
-- gives.
abbrev pub IsDoneCall : Call → Type 0
IsDoneCall (calls.Act act) = IsTextAct act
IsDoneCall calls.Turn = ⊥
IsDoneCall calls.Timeout = ⊥
IsDoneCall calls.Trigger = ⊥
IsDoneCall _ = Unit {0}

-- a get
abbrev pub IsGet : Call → Type 0
IsGet (calls.Mqget hc ho get until) = Unit {0}
IsGet _ = ⊥

-- An event that was made; a get that may wait still; no memory.
pub record MayWait (who : Actor) (what : Call) (old new : NodeState) : Type 0 where
  pub get : IsGet what
  pub deed : deed_of 0 who what items.Nothing (node_in old) ≡ None
  pub stays : Stays old new

pub record Made (who : Actor) (what : Call) (old new : NodeState) : Type 0 where
  pub entry : Entry
  pub adds : Adds who what entry old new
  pub deed : IsGet what → is_none (deed_of 0 who what items.Nothing (node_in old)) ≡ false

abbrev pub Comes : Actor → Call → NodeState → Result Bool NoMemory → NodeState → Type 0
Comes who what old (Ok true) new = Made who what old new
Comes who what old (Ok false) new = MayWait who what old new
Comes who what old (Err e) new = Stays old new
