use Rattle.std.proofs.Common.{◌≡◌, ◌<◌, ℕ}
use Rattle.std.specs.Prelude.{Some, slice_get}
use Rattle.mq_ways.specs.Ways.{CableState}
use Rattle.mq_split.specs.Opening.{IsShort}
use Rattle.mq_split.proofs.opening.are_short.Given as goal

abbrev pub invariant-loop-cable : goal.invariant-loop-cable
invariant-loop-cable l = (k : ℕ) (c : CableState) → k < l.cable-index → slice_get l.cables k ≡ Some c → IsShort c
