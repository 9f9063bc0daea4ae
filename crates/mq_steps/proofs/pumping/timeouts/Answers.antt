use Rattle.mq_nodes.proofs.PumpLaws.{timed_out, timeouts_begin, timeouts_over}
use Rattle.mq_steps.proofs.CountLaws.{cable_there, counts_stop, fewer_none, fewer_on, timeouts_stop}
use Rattle.mq_steps.proofs.pumping.timeouts.Goals as goal

pub loop-cable-init : goal.loop-cable-init
loop-cable-init g c = record {
  told = timeouts_begin c.args.most c.cables-cable-end.result (g.N.Nodes.course c.args.nodes.now) c.requires.ready c.cables-cable-end.ensures;
  counted = fewer_none c.args.most (g.N.Nodes.course c.args.nodes.now).net;
}

pub times_out-requires-clause-there : goal.times_out-requires-clause-there
times_out-requires-clause-there g c = cable_there _ _ _ _ _ _ c.loop-cable-test.true c.loop-cable.invariant.told.upto c.loop-cable.invariant.told.round.on

pub returns-in_err-left-clause-told : goal.returns-in_err-left-clause-told
returns-in_err-left-clause-told g c =
    let old = g.N.Nodes.course c.args.nodes.now in
    let now = g.N.Nodes.course c.loop-cable.nodes in
    let next = g.N.Nodes.course c.times_out.new.nodes in
    timeouts_stop _ c.args.most _ _ _ _ old now next c.from_residual.ensures.1 c.loop-cable-test.true c.loop-cable.invariant.told c.in_err-left.ensures.told

pub returns-in_err-left-clause-counted : goal.returns-in_err-left-clause-counted
returns-in_err-left-clause-counted g c =
    let old = g.N.Nodes.course c.args.nodes.now in
    let now = g.N.Nodes.course c.loop-cable.nodes in
    let next = g.N.Nodes.course c.times_out.new.nodes in
    counts_stop c.args.most c.loop-cable.left _ _ old now next c.from_residual.ensures.1 c.loop-cable.invariant.counted c.in_err-left.ensures.counted

pub loop-cable-preserved : goal.loop-cable-preserved
loop-cable-preserved g c =
    let old = g.N.Nodes.course c.args.nodes.now in
    let now = g.N.Nodes.course c.loop-cable.nodes in
    let next = g.N.Nodes.course c.times_out.new.nodes in
    record {
      told = timed_out c.loop-cable.cable c.args.most c.loop-cable.left c.in_ok-left.left _ old now next c.loop-cable-test.true c.loop-cable.invariant.told c.in_ok-left.ensures.told;
      counted = fewer_on c.args.most c.loop-cable.left c.in_ok-left.left old.net now.net next.net c.loop-cable.invariant.counted c.in_ok-left.ensures.counted;
    }

pub returns-clause-told : goal.returns-clause-told
returns-clause-told g c =
    timeouts_over c.loop-cable.cable c.args.most c.loop-cable.left _ (g.N.Nodes.course c.args.nodes.now) (g.N.Nodes.course c.loop-cable.nodes) c.loop-cable-test.false c.loop-cable.auto.cable-end c.loop-cable.invariant.told
