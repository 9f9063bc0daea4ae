use Rattle.std.proofs.Common.{◌≡◌, ℕ, ◌+◌, List, length}
use Rattle.mq_log.specs.Bodies.{frames, AllFit}
use Rattle.mq_recover.specs.Recovering.{seen}
use Rattle.mq_recover.specs.Found.{start_in, given_as}
use Rattle.mq_recover.proofs.WalkLaws.{Went}
use Rattle.mq_recover.proofs.recovery.walk_on.Given as goal

abbrev pub invariant-loop-split : goal.invariant-loop-split
invariant-loop-split l = record {
  goes : (all : List (List ℕ)) → AllFit all → l.fn.bodies.framed.now ≡ frames all → Went (given_as l.manager l.name) (start_in l.start) l.fn.place (seen l.fn.told) all l.place l.left.framed.now (seen l.told);
  size : l.place + length l.left.framed.now ≡ l.fn.place + length l.fn.bodies.framed.now;
}

abbrev pub decreases-loop-split : goal.decreases-loop-split
decreases-loop-split l = length l.left.framed.now
