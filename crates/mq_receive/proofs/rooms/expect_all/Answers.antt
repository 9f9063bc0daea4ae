use Rattle.std.proofs.Common.{ap, sym, take, ◌∙◌}
use Rattle.mq_core.specs.from_place.States.{QueueStates, change_state, expecting}
use Rattle.mq_core.specs.declared.parts.Arrival.{Arrival}
use Rattle.mq_receive.specs.Placed.{unexpected_in}
use Rattle.mq_receive.proofs.ExpectLaws.{expected_next, expected_undone}
use Rattle.mq_receive.proofs.rooms.expect_all.Goals as goal

pub returns-in-Err-clause-err : goal.returns-in-Err-clause-err
returns-in-Err-clause-err c =
    expected_undone (take c.loop-at.at c.args.landed.now) c.expect.new.self c.unexpect_all.new.queues c.args.queues.now (c.in-Err.ensures.err ∙ c.loop-at.invariant)
    (c.unexpect_all.ensures ∙ ap (λ xs. unexpected_in xs c.expect.new.self) c.split_at.ensures.front)

changed : QueueStates → Arrival → QueueStates
changed v a = record v { states = change_state a.queue expecting v.states }

pub loop-at-preserved : goal.loop-at-preserved
unfolding changed
loop-at-preserved c = expected_next c.args.landed.now c.loop-at.at c.index-landed-at.result c.loop-at.queues c.expect.new.self c.args.queues.now c.loop-at-test.true c.index-landed-at.is
    (c.in-Ok.ensures.ok ∙ ap (λ (a : Arrival). changed c.loop-at.queues a) (sym c.index-landed-at.is)) c.loop-at.invariant
