use Rattle.std.proofs.Common.{◌≡◌, ◌≤◌}
use Rattle.std.specs.Prelude.{vec_capacity, vec_len}
use Rattle.mq_split.proofs.OpenLaws.{Opened}
use Rattle.mq_split.proofs.opening.open_cables.Given as goal

abbrev pub invariant-loop-at : goal.invariant-loop-at
invariant-loop-at g l = record {
  pipes_long : vec_len l.pipes ≡ l.at;
  passes_long : vec_len l.passes ≡ l.at;
  pipes_room : l.count ≤ vec_capacity l.pipes;
  passes_room : l.count ≤ vec_capacity l.passes;
  so_far : Opened l.pipes.items l.passes.items l.at l.fn.cables l.cables;
}
