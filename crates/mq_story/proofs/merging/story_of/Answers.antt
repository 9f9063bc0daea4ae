use Rattle.std.proofs.Common.{◌≡◌, ◌+◌, ◌<◌, ◌++◌, ◌∷◌, [], ℕ, List, Some, None, length, set, sym, subst, ◌∙◌, ap, length-set}
use Rattle.mq_story.specs.declared.merging.Spot.{Spot}
use Rattle.mq_story.specs.Spots.{lines_of, head_at, IsFirst, IsMerged, left}
use Rattle.mq_story.proofs.MergeLaws.{all_merged, first_head, read_head, step_merged, step_there, step_fewer}
use Rattle.mq_story.proofs.merging.story_of.Goals as goal

pub merging-smaller : goal.merging-smaller
merging-smaller c = subst (λ (n : ℕ). left c.args.histories.now (set c.merging.heads.items c.in-Some.manager n) < left c.args.histories.now c.merging.heads.items) (sym c.behind.ensures)
    (step_fewer c.args.histories.now c.merging.heads.items c.in-Some.manager c.index.result.now c.merging.invariant.sized first (read_head c.merging.heads.items c.in-Some.manager c.index.result.now first.1.within c.index.ensures))
  where
    first : IsFirst c.args.histories.now c.merging.heads.items (Some c.in-Some.manager)
    first = first_head c.args.histories.now c.merging.heads.items c.as_slice.result.now c.first_of.result (Some c.in-Some.manager) c.first_of.ensures c.as_slice.ensures.value c.in-Some.is

pub merging-preserved : goal.merging-preserved
merging-preserved c = record {
  sized = length-set c.merging.heads.items c.in-Some.manager c.behind.result ∙ c.merging.invariant.sized;
  there = subst (λ (l : List Spot). length (lines_of c.args.histories.now l) ≡ length l) (sym c.in-Ok-push.ensures.ok)
      (step_there c.args.histories.now c.merging.heads.items c.merging.spots c.in-Some.manager c.index.result.now first at c.merging.invariant.there);
  merged = subst (λ (l : List Spot). IsMerged c.args.histories.now (set c.merging.heads.items c.in-Some.manager c.behind.result) (lines_of c.args.histories.now l)) (sym c.in-Ok-push.ensures.ok)
      (subst (λ (n : ℕ). IsMerged c.args.histories.now (set c.merging.heads.items c.in-Some.manager n) (lines_of c.args.histories.now (c.merging.spots ++ record { manager = c.in-Some.manager; at = c.index.result.now } ∷ []))) (sym c.behind.ensures)
      (step_merged c.args.histories.now c.merging.heads.items c.merging.spots c.in-Some.manager c.index.result.now c.requires c.merging.invariant.sized c.merging.invariant.merged first at));
}
  where
    first : IsFirst c.args.histories.now c.merging.heads.items (Some c.in-Some.manager)
    first = first_head c.args.histories.now c.merging.heads.items c.as_slice.result.now c.first_of.result (Some c.in-Some.manager) c.first_of.ensures c.as_slice.ensures.value c.in-Some.is

    at : c.index.result.now ≡ head_at c.merging.heads.items c.in-Some.manager
    at = read_head c.merging.heads.items c.in-Some.manager c.index.result.now first.1.within c.index.ensures

pub returns-clause-story : goal.returns-clause-story
returns-clause-story c = all_merged c.args.histories.now c.merging.heads.items (lines_of c.args.histories.now c.merging.spots) c.merging.invariant.sized c.merging.invariant.merged
    (first_head c.args.histories.now c.merging.heads.items c.as_slice.result.now c.first_of.result None c.first_of.ensures c.as_slice.ensures.value c.in_default.is)
