-- The two ends of a cable once they are out of their locks, and what lies on the cable then.
use Rattle.std.specs.Prelude.{◌≡◌, true, false, Some, slice_get}
use Rattle.mq_history.specs.declared.scenario.CableLine.{CableLine}
use Rattle.mq_ways.specs.Ways.{CableState}
use Rattle.mq_split.specs.Facing.{IsJoined}
use Rattle.mq_split.specs.Ends.{IsEndAt}
use Rattle.mq_split.specs.Parting.{Passed, done_in}
use Rattle.mq_split.specs.Took.{EndState}

-- these are the two ends of a cable, each as its lock kept it
pub record ArePair (p : Passed) (near far : EndState) : Type 0 where
  pub line : CableLine
  pub there : slice_get p.begun.lines near.cable ≡ Some line
  pub cable : far.cable ≡ near.cable
  pub sides : (near.sends ≡ true) × (far.sends ≡ false)
  pub near_at : IsEndAt p.begun line.sender (p.begun.done line.sender) (p.since line.sender) near
  pub far_at : IsEndAt p.begun line.receiver (p.begun.done line.receiver) (p.since line.receiver) far

-- Both histories tell what lies on the cable: what was offered is what the faults make of it, and what was popped came first of that.
abbrev pub JoinsAgain : Passed → EndState → CableState → Type 0
JoinsAgain p near c = (l : CableLine) → slice_get p.begun.lines near.cable ≡ Some l → IsJoined near.cable l (done_in p) c
