-- The frames that a sender pushes.
use Rattle.std.specs.Prelude.{ℕ, Option, Some, None}
use Rattle.mq_frame.specs.from_message.{Dest, Message}
use Rattle.mq_frame.specs.declared.frame.Frame.{Frame}
use Rattle.mq_frame.specs.declared.frame.FrameKind.TheVariants.{Bind, Msg, End}
use Rattle.mq_sender.specs.declared.state.Sender.{Sender}
use Rattle.mq_sender.specs.declared.turns.SenderDoes.{SenderDoes}
use Rattle.mq_sender.specs.declared.turns.SenderDoes.TheVariants as does
use Rattle.mq_sender.specs.After.{doubt_last, number_next}

abbrev pub bind_frame : ℕ → Sender → Frame
bind_frame stamp s = record { stamp = stamp; session = s.kept.session; kind = Bind s.kept.last s.kept.force }

-- message `index` of unit `n`
abbrev pub message_frame : ℕ → Sender → (n index : ℕ) → Dest → Message → Frame
message_frame stamp s n index dest message = record { stamp = stamp; session = s.kept.session; kind = Msg n index (number_next s) dest message }

-- END of the unit that is prepared
abbrev pub end_frame : ℕ → Sender → Frame
end_frame stamp s = record { stamp = stamp; session = s.kept.session; kind = End s.begun s.count (doubt_last s.kept.doubt s.kept.last) }

-- the frame that a turn pushes, if it is one that pushes; the message is the one that it sends
abbrev pub pushed_by : ℕ → Dest → Message → Sender → SenderDoes → Option Frame
pushed_by stamp dest message s does.PushBind = Some (bind_frame stamp s)
pushed_by stamp dest message s (does.Begin n count) = Some (message_frame stamp s n 1 dest message)
pushed_by stamp dest message s (does.PushMsg index) = Some (message_frame stamp s s.begun index dest message)
pushed_by stamp dest message s does.PushEnd = Some (end_frame stamp s)
pushed_by stamp dest message s _ = None
