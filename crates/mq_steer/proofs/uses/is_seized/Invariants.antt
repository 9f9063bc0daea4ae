use Rattle.std.proofs.Common.{◌≡◌, drop}
use Rattle.std.specs.Prelude.{is_some}
use Rattle.mq_calls.specs.Words.{seizure_of}
use Rattle.mq_steer.proofs.uses.is_seized.Given as goal

abbrev pub invariant-loop-seizure : goal.invariant-loop-seizure
invariant-loop-seizure l = is_some (seizure_of l.channel (drop l.seizure-index l.seizures)) ≡ is_some (seizure_of l.channel l.seizures)
