use Rattle.std.proofs.Common.{◌≤◌, length, arith, ◌∙◌}
use Rattle.mq_net_rows.specs.Stored.{leave_each}
use Rattle.mq_net_rows.proofs.QueueLaws.{left_next, left_end, left_each}
use Rattle.mq_net_rows.proofs.shelves.Shelves.leave_all.Goals as goal

pub loop-at-preserved : goal.loop-at-preserved
loop-at-preserved c = left_next c.args.idents.now c.loop-at.at c.loop-at.self c.leave_at.new.self (leave_each c.args.idents.now c.args.self.now) c.loop-at.invariant c.leave_at.ensures

pub returns : goal.returns
returns c =
    let past = c.loop-at-test.false in
    let end : length c.args.idents.now ≤ c.loop-at.at = omega (arith, past) in
    left_end c.args.idents.now c.loop-at.at c.loop-at.self (leave_each c.args.idents.now c.args.self.now) c.loop-at.invariant end ∙ left_each c.args.idents.now c.args.self.now
