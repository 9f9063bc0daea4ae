use Rattle.mq_net_rows.proofs.LaneLaws.{put_at_end, put_before}
use Rattle.mq_net_rows.proofs.lanes.put_slot.Goals as goal

pub returns-in_ok-push-in-None-clause-placed : goal.returns-in_ok-push-in-None-clause-placed
returns-in_ok-push-in-None-clause-placed c =
    put_at_end c.args.lane c.args.slot c.args.lanes.now c.as_slice.result.now c.lane_from.result c.in_ok-fresh-in-None.fresh c.push.new.self c.as_slice.ensures c.lane_from.ensures c.in-None.is c.in_ok-fresh-in-None.ensures c.in_ok-push-in-None.ensures.ok

pub returns-in_ok-insert-in-Some-clause-placed : goal.returns-in_ok-insert-in-Some-clause-placed
returns-in_ok-insert-in-Some-clause-placed c =
    put_before c.args.lane c.args.slot c.args.lanes.now c.as_slice.result.now c.as_slice-in-Some.result.now c.lane_from.result c.in-Some.at c.is_lane.result c.in_ok-fresh-in-Some.fresh c.insert.new.self
    c.as_slice.ensures c.lane_from.ensures c.in-Some.is c.as_slice-in-Some.ensures c.is_lane.ensures c.if-is_lane.false c.in_ok-fresh-in-Some.ensures c.in_ok-insert-in-Some.ensures.ok
