-- What an entry of a PUMP is, at a manager that is up behind it.
use Rattle.std.specs.Prelude.{◌≡◌, None, Some}
use Rattle.mq_history.specs.declared.calls.Entry.{Entry}
use Rattle.mq_calls.specs.Steps.{do_all}
use Rattle.mq_spec_node.specs.Node.{Node}
use Rattle.mq_spec_node.specs.Deeds.{Deed}
use Rattle.mq_spec_node.specs.Happens.{deed_of}
use Rattle.mq_spec_node.specs.Replays.{done_by}

-- its deed ran
pub record Ran (e : Entry) (n : Node) (d : Deed) : Type 0 where
  pub manager : (done_by e n).next.manager ≡ do_all d.parts n.manager
  pub ends : (done_by e n).next.own.ends ≡ d.own.ends
  pub pushed : (done_by e n).pushed ≡ d.pushed

-- there is one, which ran where it takes memory of its own accord
pub record RanDeed (e : Entry) (n : Node) : Type 0 where
  pub deed : Deed
  pub is : deed_of e.stamp e.actor e.call e.effect.popped n ≡ Some deed
  pub ran : deed.wanting ≡ None → Ran e n deed
