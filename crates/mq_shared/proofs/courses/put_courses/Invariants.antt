use Rattle.std.proofs.Common.{◌≡◌, ◌<◌, ℕ, length}
use Rattle.std.specs.Prelude.{Some, slice_get}
use Rattle.mq_shared.specs.Held.{ScriptState}
use Rattle.mq_shared.specs.Sharing.{put_all}
use Rattle.mq_shared.proofs.courses.put_courses.Given as goal

abbrev pub invariant-loop-script : goal.invariant-loop-script
invariant-loop-script l = record {
  all : put_all l.held l.courses ≡ put_all l.fn.held l.fn.courses;
  there : (i : ℕ) (s : ScriptState) → slice_get l.held i ≡ Some s → s.script < length l.courses;
}

abbrev pub decreases-loop-script : goal.decreases-loop-script
decreases-loop-script l = length l.held
