-- A sender's state after a turn.
use Rattle.std.specs.Prelude.{ℕ, false, Option, Some, None, ◌==◌, if◌then◌else◌}
use Rattle.mq_sync.specs.declared.unit.Settle.{Settle}
use Rattle.mq_sync.specs.declared.unit.Settle.TheVariants as settles
use Rattle.mq_sync.specs.Numbers.{number_after}
pub use Rattle.mq_sync.specs.Settlement.{doubt_last}
use Rattle.mq_sender.specs.declared.state.Kept.{Kept}
use Rattle.mq_sender.specs.declared.state.StopCause.TheVariants.{SequenceError, Reason}
use Rattle.mq_sender.specs.declared.state.SenderState.{SenderState}
use Rattle.mq_sender.specs.declared.state.SenderState.TheVariants.{Stopped, Hailing, Binding, Running, Sending, Ready, Waiting}
use Rattle.mq_sender.specs.declared.state.Sender.{Sender}
use Rattle.mq_sender.specs.declared.turns.SenderDoes.{SenderDoes}
use Rattle.mq_sender.specs.declared.turns.SenderDoes.TheVariants as does
use Rattle.mq_sender.specs.declared.turns.SenderOut.{SenderOut}
use Rattle.mq_sender.specs.declared.turns.SenderOut.TheVariants.{Done, Full, NoRoom}
use Rattle.mq_sender.specs.States.{unit_begun}

-- The unit in doubt is settled: a commit takes its last number over.
abbrev pub settled : Option Settle → Kept → Kept
settled None k = k
settled (Some settles.Commit) k = record k { last = doubt_last k.doubt k.last; doubt = None }
settled (Some settles.Backout) k = record k { doubt = None }

-- STATUS came, and the unit in doubt is settled: the two ends' last numbers are to be the same
abbrev pub agreed : ℕ → ℕ → SenderState
agreed own partner = if own == partner then Running else Stopped (SequenceError own partner)

abbrev pub bound_with : Kept → ℕ → Sender → Sender
bound_with kept partner s = record s { state = agreed kept.last partner; tries = 0; kept = kept }

-- the number of the last message that was sent, of a unit that is being sent
abbrev pub number_sent : SenderState → ℕ → ℕ
number_sent (Sending sent number) last = number
number_sent _ last = last

-- the number of the message that is sent next
abbrev pub number_next : Sender → ℕ
number_next s = number_after s.limits.sequence_wrap (number_sent s.state s.kept.last)

abbrev pub prepared : Sender → Kept
prepared s = record s.kept { force = false; doubt = Some (record { unit = unit_begun s; last = number_sent s.state s.kept.last }) }

-- what was to be done is done
abbrev pub done_after : Sender → SenderDoes → Sender
done_after s does.Still = s
done_after s does.Ignore = s
done_after s (does.HardenSession session) = record s { state = Hailing; kept = record s.kept { session = session }; begun = 0; count = 0 }
done_after s does.PushBind = record s { state = Binding }
done_after s does.Expire = s
done_after s (does.Begin n count) = record s { state = Sending 1 (number_next s); begun = n; count = count }
done_after s (does.PushMsg index) = record s { state = Sending index (number_next s) }
done_after s does.Prepare = record s { state = Ready; kept = prepared s }
done_after s does.PushEnd = record s { state = Waiting }
done_after s (does.Bound settle partner) = bound_with (settled settle s.kept) partner s
done_after s does.Commit = record s { state = Running; kept = settled (Some settles.Commit) s.kept }
done_after s (does.Backout reason) = record s { state = Stopped (Reason reason); kept = settled (Some settles.Backout) s.kept }

-- A refused push changes nothing; where the log has no room for the unit, the sender stops by 2102.
abbrev pub sender_after : Sender → SenderDoes → SenderOut → Sender
sender_after s d Done = done_after s d
sender_after s d Full = s
sender_after s d NoRoom = record s { state = Stopped (Reason 2102) }
