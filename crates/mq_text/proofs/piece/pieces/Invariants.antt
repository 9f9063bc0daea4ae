use Rattle.std.proofs.Common.{◌≡◌, ◌≤◌, ◌-◌, length, drop}
use Rattle.mq_text.specs.Pieces.{pieces_from, AreSlices}
use Rattle.mq_text.proofs.PieceLaws.{with_front}
use Rattle.mq_text.proofs.piece.pieces.Given as goal

abbrev pub invariant-reading : goal.invariant-reading
invariant-reading l = record {
  within : l.at ≤ length l.text;
  so_far : with_front l.pieces (pieces_from (drop l.at l.text) l.at 0) ≡ pieces_from l.text 0 0;
  slices : AreSlices 0 l.pieces l.at;
}

abbrev pub decreases-reading : goal.decreases-reading
decreases-reading l = length l.text - l.at
