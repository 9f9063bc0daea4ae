use Rattle.std.proofs.Common.{◌<◌, ◌≤◌, length, refl, ◌∙◌, arith, rules}
use Rattle.mq_split.proofs.PartLaws.{among_still, bare_at, ends_at_line, ends_first, ends_next, joined_all, joined_more, short_more}
use Rattle.mq_split.proofs.PlaceLaws.{within}
use Rattle.mq_split.proofs.joining.join_cables.Goals as goal

pub loop-at-init : goal.loop-at-init
loop-at-init g c =
    let r = c.requires.1 in
    record {
      rows = refl;
      left = ends_first g.p.begun c.args.pipes.now c.args.lines.now g.p.since c.args.ends.now r.0 r.1.1.1.0;
      so_far = record { all = refl; joined = λ k x d lt. absurd (omega (arith, lt)); bare_are = λ k d past found. r.1.1.1.1 k d found };
      free = λ h. h;
      short = λ h k d lt. absurd (omega (arith, lt));
    }

pub join_at-requires : goal.join_at-requires
join_at-requires g c κs longer =
    let r = c.requires.1 in
    let i = c.loop-at.invariant in
    let k = c.loop-at.at in
    let lt : k < length c.args.lines.now = search rules in
    let pipes = r.1.0.0 in
    let cables = r.1.0.1 in
    let all = i.so_far.all in (
      search rules,
      (
        (lt, omega (arith, lt, pipes), omega (arith, lt, cables, all)),
        (
          r.0,
          (
            among_still c.args.lines.now (length c.args.ends.now) (length c.loop-at.ends) i.rows r.1.1.0,
            (ends_at_line g.p.begun c.args.pipes.now c.args.lines.now g.p.since k c.loop-at.ends r.0 i.left, bare_at c.loop-at.cables k i.so_far.bare_are),
          ),
        ),
      ),
    )

pub loop-at-preserved : goal.loop-at-preserved
loop-at-preserved g c =
    let i = c.loop-at.invariant in
    let k = c.loop-at.at in
    let lt : k < length c.args.lines.now = search rules in
    record {
      rows = c.join_at.ensures.all ∙ i.rows;
      left = ends_next g.p.begun g.p.since k c.join_at.new.ends c.join_at.ensures.ends;
      so_far = joined_more g.p c.args.lines.now k (length c.args.cables.now) c.loop-at.cables c.join_at.new.cables lt i.so_far c.join_at.ensures.joined;
      free = λ h. (c.join_at.ensures.free (i.free h)).0;
      short = λ h. short_more g.p c.args.lines.now k c.loop-at.cables c.join_at.new.cables lt c.join_at.ensures.joined (c.join_at.ensures.free (i.free h)).1 (i.short h);
    }

pub returns-clause-joined : goal.returns-clause-joined
returns-clause-joined g c =
    let past : length c.args.lines.now ≤ c.loop-at.at = search rules in
    joined_all g.p c.args.lines.now c.loop-at.at (length c.args.cables.now) c.loop-at.cables past c.loop-at.invariant.so_far

pub returns-clause-short : goal.returns-clause-short
returns-clause-short g c h k d found =
    let past : length c.args.lines.now ≤ c.loop-at.at = search rules in
    let lt = within c.loop-at.cables k d found in
    let all = c.loop-at.invariant.so_far.all in
    let cables = c.requires.1.1.0.1 in
    c.loop-at.invariant.short h k d (omega (arith, past, lt, all, cables)) found
