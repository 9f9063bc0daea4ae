use Rattle.std.proofs.Common.{◌≡◌, ◌<◌, ℕ, suc, drop, length}
use Rattle.std.specs.Prelude.{Some, slice_get}
use Rattle.mq_ways.specs.Ways.{CableState}
use Rattle.mq_split.specs.Opening.{IsShort}
use Rattle.mq_split.specs.Parting.{AllFree, AreEnds, names_from}
use Rattle.mq_split.proofs.PartLaws.{SoFar}
use Rattle.mq_split.proofs.joining.join_cables.Given as goal

abbrev pub ghost-join_at : goal.ghost-join_at
ghost-join_at g a = record { passed = g.p; names = names_from (suc a.at) (drop (suc a.at) g.p.begun.lines) }

abbrev pub invariant-loop-at : goal.invariant-loop-at
invariant-loop-at g l = record {
  rows : length l.ends ≡ length l.fn.ends;
  left : AreEnds g.p.begun g.p.since (names_from l.at (drop l.at g.p.begun.lines)) l.ends;
  so_far : SoFar g.p l.lines l.at (length l.fn.cables) l.cables;
  free : AllFree l.fn.ends → AllFree l.ends;
  short : AllFree l.fn.ends → (k : ℕ) (c : CableState) → k < l.at → slice_get l.cables k ≡ Some c → IsShort c;
}
