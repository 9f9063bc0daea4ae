use Rattle.std.proofs.Common.{◌≡◌, length, refl, rules}
use Rattle.std.proofs.lemmas.Option.{slice_get_read}
use Rattle.mq_split.proofs.OpenLaws.{closed_step, last_within, open_at_last}
use Rattle.mq_split.proofs.opening.close_cables.Goals as goal

pub close_at-requires-clause-open : goal.close_at-requires-clause-open
close_at-requires-clause-open g c =
    let at : c.len-at.result ≡ length c.pop.new.self.items = search rules in
    let lt = last_within c.args.pipes.now c.loop-ends.passes.items c.pop.new.self.items c.in-Some.ends c.len-at.result c.loop-ends.invariant.opened c.in-Some.ensures.items at in
    open_at_last c.args.pipes.now c.loop-ends.passes.items c.pop.new.self.items c.in-Some.ends c.len-at.result c.index-pipes-at.result c.loop-ends.invariant.opened c.in-Some.ensures.items at
    (slice_get_read _ _ _ _ refl lt c.index-pipes-at.is)

pub loop-ends-preserved : goal.loop-ends-preserved
loop-ends-preserved g c =
    let at : c.len-at.result ≡ length c.pop.new.self.items = search rules in
    let i = c.loop-ends.invariant in
    let x = closed_step c.args.pipes.now c.loop-ends.passes.items c.pop.new.self.items c.in-Some.ends c.loop-ends.cables c.close_at.new.cables _ c.len-at.result c.in-Some.ensures.items at i.opened i.few i.bare i.whole c.close_at.ensures in
    record { opened = x.opened; few = x.few; bare = x.bare_are; whole = x.whole_is }
