use Rattle.mq_nodes.proofs.PumpLaws.{pump_begins, pump_goes_on}
use Rattle.mq_steps.proofs.CountLaws.{counts_stop, fewer_none, fewer_on, rounds_over, rounds_rest, rounds_stop}
use Rattle.mq_steps.proofs.pumping.rounds.Goals as goal

pub loop-init : goal.loop-init
loop-init g c = record {
  told = pump_begins c.args.turns (g.N.Nodes.course c.args.nodes.now) c.requires.ready;
  counted = fewer_none c.args.turns (g.N.Nodes.course c.args.nodes.now).net;
}

pub returns-in_err-rest-clause-told : goal.returns-in_err-rest-clause-told
returns-in_err-rest-clause-told g c =
    let old = g.N.Nodes.course c.args.nodes.now in
    let now = g.N.Nodes.course c.loop.nodes in
    let next = g.N.Nodes.course c.turns_of_round.new.nodes in
    rounds_stop c.args.turns _ _ _ _ old now next c.from_residual.ensures.1 c.requires.ready c.loop.invariant.told c.in_err-rest.ensures.told

pub returns-in_err-rest-clause-counted : goal.returns-in_err-rest-clause-counted
returns-in_err-rest-clause-counted g c =
    let old = g.N.Nodes.course c.args.nodes.now in
    let now = g.N.Nodes.course c.loop.nodes in
    let next = g.N.Nodes.course c.turns_of_round.new.nodes in
    counts_stop c.args.turns c.loop.left _ _ old now next c.from_residual.ensures.1 c.loop.invariant.counted c.in_err-rest.ensures.counted

pub returns-then-rest-left-clause-told : goal.returns-then-rest-left-clause-told
returns-then-rest-left-clause-told g c =
    let old = g.N.Nodes.course c.args.nodes.now in
    let now = g.N.Nodes.course c.loop.nodes in
    let next = g.N.Nodes.course c.turns_of_round.new.nodes in
    rounds_rest c.args.turns _ c.loop.left c.in_ok-rest.rest old now next c.requires.ready c.loop.invariant.told c.in_ok-rest.ensures.told c.if-rest-left.true

pub loop-preserved : goal.loop-preserved
loop-preserved g c =
    let old = g.N.Nodes.course c.args.nodes.now in
    let now = g.N.Nodes.course c.loop.nodes in
    let next = g.N.Nodes.course c.turns_of_round.new.nodes in
    record {
      told = pump_goes_on c.args.turns c.loop.counter c.loop.left c.in_ok-rest.rest old now next c.loop.invariant.told c.in_ok-rest.ensures.told c.if-rest-left.false;
      counted = fewer_on c.args.turns c.loop.left c.in_ok-rest.rest old.net now.net next.net c.loop.invariant.counted c.in_ok-rest.ensures.counted;
    }

pub returns-clause-told : goal.returns-clause-told
returns-clause-told g c = rounds_over c.args.turns c.loop.counter c.loop.left (g.N.Nodes.course c.args.nodes.now) (g.N.Nodes.course c.loop.nodes) c.requires.ready c.loop.invariant.told c.loop-test.false
