use Rattle.std.proofs.Common.{◌≡◌, ◌≤◌, ℕ, length}
use Rattle.std.specs.Prelude.{slice_get}
use Rattle.mq_shared.proofs.RanLaws.{LeftBelow}
use Rattle.mq_shared.proofs.courses.keep_deadlines.Given as goal

abbrev pub invariant-loop-at : goal.invariant-loop-at
invariant-loop-at g l = record {
  long : length l.courses ≡ length l.fn.courses;
  ahead : (k : ℕ) → l.at ≤ k → slice_get l.courses k ≡ slice_get l.fn.courses k;
  left : LeftBelow l.scenario l.scripts l.nodes l.at l.courses;
}
