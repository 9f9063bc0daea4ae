use Rattle.std.proofs.Common.{◌≡◌, drop}
use Rattle.std.specs.Prelude.{is_some}
use Rattle.mq_calls.specs.Words.{in_doubt_of, sender_in}
use Rattle.mq_steer.proofs.uses.is_in_doubt.Given as goal

abbrev pub invariant-loop-kept : goal.invariant-loop-kept
invariant-loop-kept l = is_some (in_doubt_of (sender_in l.channel (drop l.kept-index l.senders))) ≡ is_some (in_doubt_of (sender_in l.channel l.senders))
