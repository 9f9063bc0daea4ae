use Rattle.mq_spec_network.specs.Tasks.Slot.{Receives, Sends}
use Rattle.mq_nodes.proofs.PumpLaws.{begins, received, round_over, sent}
use Rattle.mq_steps.proofs.CountLaws.{cable_there, counts_stop, fewer_none, fewer_on, round_stops}
use Rattle.mq_steps.proofs.pumping.round.Goals as goal

pub loop-cable-init : goal.loop-cable-init
loop-cable-init g c = record {
  told = begins c.args.most c.cables-cable-end.result (g.N.Nodes.course c.args.nodes.now) c.requires.ready c.cables-cable-end.ensures;
  counted = fewer_none c.args.most (g.N.Nodes.course c.args.nodes.now).net;
}

pub sends-requires-clause-there : goal.sends-requires-clause-there
sends-requires-clause-there g c = cable_there _ _ _ _ _ _ c.loop-cable-test.true c.loop-cable.invariant.told.upto c.loop-cable.invariant.told.round.on

pub returns-in_err-left-clause-told : goal.returns-in_err-left-clause-told
returns-in_err-left-clause-told g c =
    let old = g.N.Nodes.course c.args.nodes.now in
    let now = g.N.Nodes.course c.loop-cable.nodes in
    let next = g.N.Nodes.course c.sends.new.nodes in
    round_stops Sends _ _ _ c.args.most _ _ _ _ old now next c.from_residual.ensures.1 c.loop-cable-test.true c.loop-cable.invariant.told c.in_err-left.ensures.told

pub returns-in_err-left-clause-counted : goal.returns-in_err-left-clause-counted
returns-in_err-left-clause-counted g c =
    let old = g.N.Nodes.course c.args.nodes.now in
    let now = g.N.Nodes.course c.loop-cable.nodes in
    let next = g.N.Nodes.course c.sends.new.nodes in
    counts_stop c.args.most c.loop-cable.left _ _ old now next c.from_residual.ensures.1 c.loop-cable.invariant.counted c.in_err-left.ensures.counted

pub receives-requires-clause-ready : goal.receives-requires-clause-ready
receives-requires-clause-ready g c =
    let old = g.N.Nodes.course c.args.nodes.now in
    let now = g.N.Nodes.course c.loop-cable.nodes in
    let next = g.N.Nodes.course c.sends.new.nodes in
    (sent c.loop-cable.cable c.args.most c.loop-cable.left c.in_ok-left.left _ old now next c.loop-cable-test.true c.loop-cable.invariant.told c.in_ok-left.ensures.told).round.on.ready

pub receives-requires-clause-there : goal.receives-requires-clause-there
receives-requires-clause-there g c =
    let old = g.N.Nodes.course c.args.nodes.now in
    let now = g.N.Nodes.course c.loop-cable.nodes in
    let next = g.N.Nodes.course c.sends.new.nodes in
    let one = sent c.loop-cable.cable c.args.most c.loop-cable.left c.in_ok-left.left _ old now next c.loop-cable-test.true c.loop-cable.invariant.told c.in_ok-left.ensures.told in
    cable_there _ _ _ _ old next c.loop-cable-test.true one.upto one.round.on

pub returns-in_err-left-2-clause-told : goal.returns-in_err-left-2-clause-told
returns-in_err-left-2-clause-told g c =
    let old = g.N.Nodes.course c.args.nodes.now in
    let now = g.N.Nodes.course c.loop-cable.nodes in
    let next = g.N.Nodes.course c.sends.new.nodes in
    let last = g.N.Nodes.course c.receives.new.nodes in
    let one = sent c.loop-cable.cable c.args.most c.loop-cable.left c.in_ok-left.left _ old now next c.loop-cable-test.true c.loop-cable.invariant.told c.in_ok-left.ensures.told in
    round_stops Receives _ _ _ c.args.most _ _ _ _ old next last c.from_residual-in_err-left-2.ensures.1 c.loop-cable-test.true one c.in_err-left-2.ensures.told

pub returns-in_err-left-2-clause-counted : goal.returns-in_err-left-2-clause-counted
returns-in_err-left-2-clause-counted g c =
    let old = g.N.Nodes.course c.args.nodes.now in
    let now = g.N.Nodes.course c.loop-cable.nodes in
    let next = g.N.Nodes.course c.sends.new.nodes in
    let last = g.N.Nodes.course c.receives.new.nodes in
    counts_stop c.args.most c.in_ok-left.left _ _ old next last c.from_residual-in_err-left-2.ensures.1
    (fewer_on c.args.most c.loop-cable.left c.in_ok-left.left old.net now.net next.net c.loop-cable.invariant.counted c.in_ok-left.ensures.counted) c.in_err-left-2.ensures.counted

pub loop-cable-preserved : goal.loop-cable-preserved
loop-cable-preserved g c =
    let old = g.N.Nodes.course c.args.nodes.now in
    let now = g.N.Nodes.course c.loop-cable.nodes in
    let next = g.N.Nodes.course c.sends.new.nodes in
    let last = g.N.Nodes.course c.receives.new.nodes in
    let one = sent c.loop-cable.cable c.args.most c.loop-cable.left c.in_ok-left.left _ old now next c.loop-cable-test.true c.loop-cable.invariant.told c.in_ok-left.ensures.told in
    record {
      told = received c.loop-cable.cable c.args.most c.in_ok-left.left c.in_ok-left-2.left _ old next last c.loop-cable-test.true one c.in_ok-left-2.ensures.told;
      counted = fewer_on c.args.most c.in_ok-left.left c.in_ok-left-2.left old.net next.net last.net
          (fewer_on c.args.most c.loop-cable.left c.in_ok-left.left old.net now.net next.net c.loop-cable.invariant.counted c.in_ok-left.ensures.counted) c.in_ok-left-2.ensures.counted;
    }

pub returns-clause-told : goal.returns-clause-told
returns-clause-told g c =
    round_over c.loop-cable.cable c.args.most c.loop-cable.left _ (g.N.Nodes.course c.args.nodes.now) (g.N.Nodes.course c.loop-cable.nodes) c.loop-cable-test.false c.loop-cable.auto.cable-end c.loop-cable.invariant.told
