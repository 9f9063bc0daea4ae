-- What a unit's commit comes to.
use Rattle.std.specs.Prelude.{◌≡◌, Result, Ok, Err}
use Rattle.mq_base.specs.declared.want.NoMemory.{NoMemory as Want}
use Rattle.mq_spec_node.specs.Terms.{Reason, Step, Refuse}
use Rattle.mq_spec_node.specs.Words.{ReceiverEnd, close_parts, parts_of}
use Rattle.mq_core.specs.Values.{CoreValue}
use Rattle.mq_turn_parts.specs.Turns.{IsAsWas, Made}
use Rattle.mq_takes.specs.Taken.{IsDone}
use Rattle.mq_takes.specs.declared.receiving.BatchTold.{BatchTold}
use Rattle.mq_takes.specs.declared.receiving.BatchTold.TheVariants as came
use Rattle.mq_takes.specs.declared.receiving.CommitTold.{CommitTold}
use Rattle.mq_takes.specs.declared.receiving.CommitTold.TheVariants as commits

-- it was done, or its write was stopped; it was refused by this reason; or there was no memory
abbrev pub ReceivedAs : Step Reason (Unit {0}) → Result BatchTold Want → CoreValue → CoreValue → Type 0
ReceivedAs step (Ok (came.Told t)) old new = IsDone step × Made (parts_of step) t.choice t.delta old new
ReceivedAs step (Ok (came.Refused reason)) old new = (step ≡ Refuse reason) × IsAsWas old new
ReceivedAs step (Err e) old new = IsAsWas old new

-- so with the session closed where it was refused
abbrev pub CommitAs : ReceiverEnd → Step Reason (Unit {0}) → Result CommitTold Want → CoreValue → CoreValue → Type 0
CommitAs e step (Ok (commits.Placed t)) old new = IsDone step × Made (parts_of step) t.choice t.delta old new
CommitAs e step (Ok (commits.Refused reason t)) old new = (step ≡ Refuse reason) × Made (close_parts e old.plain) t.choice t.delta old new
CommitAs e step (Err e2) old new = IsAsWas old new
