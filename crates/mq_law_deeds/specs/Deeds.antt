-- What a deed of a manager is for one of its senders' channels, where the manager's facts hold before and behind it.
use Rattle.std.specs.Prelude.{List, [], Option, Some, None}
use Rattle.mq_calls.specs.declared.deltas.Did.{Did}
use Rattle.mq_calls.specs.Steps.{delta_of, do_all}
use Rattle.mq_spec_node.specs.Deeds.{Deed}
use Rattle.mq_spec_node.specs.Node.{Node}
use Rattle.mq_law_channel.specs.Channel.{Channel}
use Rattle.mq_law_manager.specs.Facts.{IsSound}
use Rattle.mq_law_node.specs.Beside.{DoesNear}
use Rattle.mq_law_node.specs.Ends.{Where}

-- an operator's command on the channel's end, or a deed that leaves it alone
abbrev pub EachKnown : Where → Node → Channel → Option Deed → Type 0
EachKnown w n c None = Unit {0}
EachKnown w n c (Some d) = IsSound n.manager → IsSound (do_all d.parts n.manager) → DoesNear w n d c

-- what its parts tell
abbrev pub each_delta : Option Deed → List Did
each_delta None = []
each_delta (Some d) = delta_of d.parts
