use Rattle.std.proofs.Common.{◌≡◌, length}
use Rattle.mq_story.specs.Spots.{lines_of, IsMerged, left}
use Rattle.mq_story.proofs.merging.story_of.Given as goal

abbrev pub invariant-merging : goal.invariant-merging
invariant-merging l = record {
  sized : length l.heads.items ≡ length l.histories;
  there : length (lines_of l.histories l.spots) ≡ length l.spots;
  merged : IsMerged l.histories l.heads.items (lines_of l.histories l.spots);
}

abbrev pub decreases-merging : goal.decreases-merging
decreases-merging l = left l.histories l.heads.items
