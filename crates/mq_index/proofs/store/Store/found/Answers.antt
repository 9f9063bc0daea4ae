use Rattle.std.proofs.Common.{arith, sym}
use Rattle.mq_index.proofs.FoundLaws.{looks_end, looks_first, looks_found, looks_on}
use Rattle.mq_index.proofs.store.Store.found.Goals as goal

pub loop-lane-init : goal.loop-lane-init
loop-lane-init c = looks_first c.args.any c.args.want.now c.args.after c.args.self.now.slots

pub loop-lane-preserved : goal.loop-lane-preserved
loop-lane-preserved c = looks_on c.args.any c.args.want.now c.args.after c.args.self.now.slots c.loop-lane.lane (omega (arith, c.loop-lane-test.true)) c.loop-lane.invariant (sym c.in_default.ensures)

pub returns-in-Some : goal.returns-in-Some
returns-in-Some c = sym (looks_found c.args.any c.args.want.now c.args.after c.args.self.now.slots c.loop-lane.lane c.in-Some.row.now (omega (arith, c.loop-lane-test.true)) c.loop-lane.invariant (sym c.in-Some.ensures))

pub returns : goal.returns
returns c = sym (looks_end c.args.any c.args.want.now c.args.after c.args.self.now.slots c.loop-lane.lane (omega (arith, c.loop-lane-test.false)) c.loop-lane.invariant)
