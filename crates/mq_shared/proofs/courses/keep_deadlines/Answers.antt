use Rattle.std.proofs.Common.{◌<◌, length, sym, ◌∙◌, arith, rules}
use Rattle.std.specs.Prelude.{slice_get}
use Rattle.mq_shared.specs.Phasing.{among, moment_or}
use Rattle.mq_shared.specs.Sharing.{kept_course}
use Rattle.mq_shared.proofs.ShareLists.{less, there}
use Rattle.mq_shared.proofs.RanLaws.{kept_long, kept_other, left_on}
use Rattle.mq_shared.proofs.courses.keep_deadlines.Goals as goal

pub loop-at-preserved : goal.loop-at-preserved
loop-at-preserved g c =
    let h = c.loop-at.invariant in
    let at = c.loop-at.at in
    let s = c.args.scenario.now in
    let ks = c.args.scripts.now in
    let ns = c.args.nodes.now in
    let lt : at < length s.scripts = search rules in
    let p = there s.scripts at lt in
    let o = there c.loop-at.courses at (omega (arith, lt, h.long, c.requires.long)) in
    let kept = kept_course (moment_or (slice_get ns p.0.manager)) p.0 o.0 in
    let new = c.keep_one.ensures p.0 o.0 p.1 o.1 in
    record {
      long = kept_long (among ks at) at kept c.loop-at.courses c.keep_one.new.courses new ∙ h.long;
      ahead = λ k le. kept_other (among ks at) at k kept c.loop-at.courses c.keep_one.new.courses new (λ same. omega (arith, le, same)) ∙ h.ahead k (omega (arith, le));
      left = left_on s ks ns at p.0 o.0 c.args.courses.now c.loop-at.courses c.keep_one.new.courses c.requires.courses p.1 o.1 (sym (h.ahead at (omega arith)) ∙ o.1) new h.left;
    }

pub returns-clause-left : goal.returns-clause-left
returns-clause-left g c = λ k p course part at.
    let lt = less c.args.scenario.now.scripts k p part in
    c.loop-at.invariant.left k p course (omega (arith, lt, c.loop-at-test.false)) part at
