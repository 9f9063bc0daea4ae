use Rattle.std.proofs.Common.{◌≡◌, ◌+◌, ℕ, List, length}
use Rattle.mq_log.specs.Bodies.{frames, AllFit}
use Rattle.mq_log_bench.proofs.measure.count_bodies.Given as goal

-- what is left are the bodies behind those that were counted
abbrev pub invariant-loop-count : goal.invariant-loop-count
invariant-loop-count l = (all : List (List ℕ)) → AllFit all → l.fn.bodies.framed.now ≡ frames all → (rest : List (List ℕ)) × AllFit rest × (l.left.framed.now ≡ frames rest) × (length all ≡ l.count + length rest)
