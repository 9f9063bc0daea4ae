-- No turn brings a sender to run that didn't, and none stops a receiver.
use Rattle.std.proofs.Common.{ℕ, ◌≡◌, true, false, refl}
use Rattle.mq_frame.specs.declared.frame.FrameKind.{FrameKind}
use Rattle.mq_frame.specs.declared.frame.FrameKind.TheVariants as kinds
use Rattle.mq_frame.specs.declared.frame.Seen.{Seen}
use Rattle.mq_frame.specs.declared.frame.Seen.TheVariants as items
use Rattle.mq_sync.specs.declared.data.Stock.{Stock}
use Rattle.mq_receiver.specs.After.{kept_kind, receiver_after}
use Rattle.mq_receiver.specs.States.{is_stopped}
use Rattle.mq_receiver.specs.declared.state.Receiver.{Receiver}
use Rattle.mq_receiver.specs.declared.turns.ReceiverDoes.{ReceiverDoes}
use Rattle.mq_receiver.specs.declared.turns.ReceiverDoes.TheVariants as takes
use Rattle.mq_receiver.specs.declared.turns.ReceiverOut.{ReceiverOut}
use Rattle.mq_receiver.specs.declared.turns.ReceiverOut.TheVariants as ends
use Rattle.mq_sender.specs.After.{sender_after}
use Rattle.mq_sender.specs.States.{is_running}
use Rattle.mq_sender.specs.Table.{sender_next}
use Rattle.mq_sender.specs.declared.state.Sender.{Sender}
use Rattle.mq_sender.specs.declared.turns.SenderDoes.{SenderDoes}
use Rattle.mq_sender.specs.declared.turns.SenderDoes.TheVariants as sends
use Rattle.mq_sender.specs.declared.turns.SenderOut.{SenderOut}
use Rattle.mq_sender.specs.declared.turns.SenderOut.TheVariants as outs
use Rattle.mq_law_channel.proofs.Sending.{sending_runs}
use Rattle.mq_law_pump.proofs.Sending.{Says, says}
use Rattle.mq_law_idle.specs.Roads.{ReceiverTurn, Road, SenderTurn, receiver_does, receiver_turn, receiver_turned, sender_does, sender_turn, sender_turned, waiting}

-- A SENDER THAT TAKES A TURN BUT TO LOOK AWAY RUNS
abbrev pub Runs : Sender → SenderDoes → Type 0
Runs s sends.Still = Unit {0}
Runs s sends.Ignore = Unit {0}
Runs s _ = is_running s.state ≡ true

says_runs : (m : Sender) (st : Stock) (d : SenderDoes) → Says m st d → Runs m d
says_runs m st sends.Expire h = h.0
says_runs m st (sends.Begin k count) h = h.0
says_runs m st (sends.PushMsg index) h = sending_runs m.state h.0
says_runs m st d h = h

pub runs_by : (m : Sender) (seen : Seen) (st : Stock) → Runs m (sender_next m seen st)
runs_by m seen st = says_runs m st (sender_next m seen st) (says m seen st)

done_runs : (s : Sender) (d : SenderDoes) → Runs s d → is_running (sender_after s d outs.Done).state ≡ true → is_running s.state ≡ true
done_runs s sends.Still r h = h
done_runs s sends.Ignore r h = h
done_runs s (sends.HardenSession session) r h = r
done_runs s sends.PushBind r h = r
done_runs s sends.Expire r h = r
done_runs s (sends.Begin n count) r h = r
done_runs s (sends.PushMsg index) r h = r
done_runs s sends.Prepare r h = r
done_runs s sends.PushEnd r h = r
done_runs s (sends.Bound settle partner) r h = r
done_runs s sends.Commit r h = r
done_runs s (sends.Backout reason) r h = r

ran_before : (o : SenderOut) (d : SenderDoes) (t : SenderTurn) (w : Road) → Runs w.sender d → is_running (sender_turned o d t w).sender.state ≡ true → is_running w.sender.state ≡ true
ran_before outs.Done d t w r h = done_runs w.sender d r h
ran_before outs.Full d t w r h = h
ran_before outs.NoRoom d t w r h = absurd cc

pub runs_before : (t : SenderTurn) (w : Road) → is_running (sender_turn t w).sender.state ≡ true → is_running w.sender.state ≡ true
runs_before t w h = ran_before t.outcome (sender_does t w) t w (runs_by w.sender (waiting w.back) t.stock) h

-- A RECEIVER IS STOPPED BY AN OPERATOR ALONE
kept_runs : (k : FrameKind) (r : Receiver) → is_stopped r.state ≡ false → is_stopped (kept_kind k r).state ≡ false
kept_runs (kinds.Bind last force) r h = h
kept_runs (kinds.Status unit_session unit_n last) r h = h
kept_runs (kinds.Msg unit index number dest message) r h = refl
kept_runs (kinds.End unit count last) r h = h
kept_runs (kinds.Ack unit) r h = h
kept_runs (kinds.Err unit reason) r h = h

bound_runs : (seen : Seen) (r : Receiver) → is_stopped r.state ≡ false → is_stopped (receiver_after r takes.Bind seen ends.Done).state ≡ false
bound_runs (items.Frame f) r h = refl
bound_runs items.Nothing r h = h
bound_runs items.Spoiled r h = h

keeping_runs : (seen : Seen) (r : Receiver) → is_stopped r.state ≡ false → is_stopped (receiver_after r takes.Keep seen ends.Done).state ≡ false
keeping_runs (items.Frame f) r h = kept_runs f.kind r h
keeping_runs items.Nothing r h = h
keeping_runs items.Spoiled r h = h

done_unstopped : (r : Receiver) (d : ReceiverDoes) (seen : Seen) → is_stopped r.state ≡ false → is_stopped (receiver_after r d seen ends.Done).state ≡ false
done_unstopped r takes.Still seen h = h
done_unstopped r takes.Ignore seen h = h
done_unstopped r takes.PushOwed seen h = h
done_unstopped r takes.Bind seen h = bound_runs seen r h
done_unstopped r takes.Keep seen h = keeping_runs seen r h
done_unstopped r (takes.Place unit) seen h = h
done_unstopped r takes.Again seen h = h
done_unstopped r takes.Close seen h = refl

refused_unstopped : (r : Receiver) (d : ReceiverDoes) (seen : Seen) (reason : ℕ) → is_stopped r.state ≡ false → is_stopped (receiver_after r d seen (ends.Refused reason)).state ≡ false
refused_unstopped r takes.Still seen reason h = h
refused_unstopped r takes.Ignore seen reason h = h
refused_unstopped r takes.PushOwed seen reason h = h
refused_unstopped r takes.Bind seen reason h = h
refused_unstopped r takes.Keep seen reason h = h
refused_unstopped r (takes.Place unit) seen reason h = refl
refused_unstopped r takes.Again seen reason h = h
refused_unstopped r takes.Close seen reason h = h

unstopped : (o : ReceiverOut) (d : ReceiverDoes) (t : ReceiverTurn) (w : Road) → is_stopped w.receiver.state ≡ false → is_stopped (receiver_turned o d t w).receiver.state ≡ false
unstopped ends.Done d t w h = done_unstopped w.receiver d (waiting w.out) h
unstopped ends.Full d t w h = h
unstopped (ends.Refused reason) d t w h = refused_unstopped w.receiver d (waiting w.out) reason h

pub never_stopped : (t : ReceiverTurn) (w : Road) → is_stopped w.receiver.state ≡ false → is_stopped (receiver_turn t w).receiver.state ≡ false
never_stopped t w h = unstopped t.outcome (receiver_does t w) t w h
