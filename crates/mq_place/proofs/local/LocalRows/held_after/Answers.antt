use Rattle.std.proofs.Common.{refl, sym, ◌∙◌, arith}
use Rattle.mq_queue.specs.Rows.{is_after}
use Rattle.mq_queue.proofs.QueueLaws.{length_kept}
use Rattle.mq_place.specs.States.{holds}
use Rattle.mq_place.proofs.AfterLaws.{row_here, row_next, row_fewer, row_none}
use Rattle.mq_place.proofs.local.LocalRows.held_after.Goals as goal

pub loop-seen-init : goal.loop-seen-init
loop-seen-init g c = record { same = refl; left = omega (arith, length_kept (is_after c.args.start) c.args.self.now.queue.rows) }

pub returns-in_default : goal.returns-in_default
returns-in_default g c = sym (row_none (holds c.args.by.now) c.loop-seen.after c.args.self.now.queue.rows c.in_default.ensures) ∙ c.loop-seen.invariant.same

pub returns-then-is_held_by : goal.returns-then-is_held_by
returns-then-is_held_by g c =
    sym (row_here (holds c.args.by.now) c.loop-seen.after c.args.self.now.queue.rows c.in-Some.row.now c.len-seen-end.ensures.queue.in_order c.in-Some.ensures (sym c.is_held_by.ensures ∙ c.if-is_held_by.true))
    ∙ c.loop-seen.invariant.same

pub loop-seen-preserved : goal.loop-seen-preserved
loop-seen-preserved g c =
    let rows = c.args.self.now.queue.rows in
    let order = c.len-seen-end.ensures.queue.in_order in
    let fewer = row_fewer c.loop-seen.after rows c.in-Some.row.now order c.in-Some.ensures in
    record {
      same =
          sym (row_next (holds c.args.by.now) c.loop-seen.after rows c.in-Some.row.now order c.in-Some.ensures (sym c.is_held_by.ensures ∙ c.if-is_held_by.false))
          ∙ c.loop-seen.invariant.same;
      left = omega (arith, fewer, c.loop-seen.invariant.left);
    }
