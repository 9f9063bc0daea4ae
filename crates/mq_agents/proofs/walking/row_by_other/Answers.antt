use Rattle.std.proofs.Common.{sym, ap, length, ◌∙◌, arith}
use Rattle.std.specs.Prelude.{find}
use Rattle.mq_queue.specs.declared.row.Row.{Row}
use Rattle.mq_calls.specs.Reads.{is_by_other}
use Rattle.mq_place.proofs.AfterLaws.{rows_from_front, row_here, row_next, row_fewer, row_none}
use Rattle.mq_agents.proofs.walking.row_by_other.Goals as goal

pub loop-seen-init : goal.loop-seen-init
loop-seen-init g c =
    let front = rows_from_front c.args.local.now.queue.rows in
    record { same = ap (find (λ (row : Row). is_by_other c.args.channel.now row.by)) front; left = omega (arith, ap length front) }

pub returns-in_default : goal.returns-in_default
returns-in_default g c = sym (row_none (λ (row : Row). is_by_other c.args.channel.now row.by) c.loop-seen.after c.args.local.now.queue.rows c.in_default.ensures) ∙ c.loop-seen.invariant.same

pub returns-then-is_by_other : goal.returns-then-is_by_other
returns-then-is_by_other g c =
    sym (row_here (λ (row : Row). is_by_other c.args.channel.now row.by) c.loop-seen.after c.args.local.now.queue.rows c.in-Some.row.now c.len-seen-end.ensures.queue.in_order c.in-Some.ensures (sym c.is_by_other.ensures ∙ c.if-is_by_other.true))
    ∙ c.loop-seen.invariant.same

pub loop-seen-preserved : goal.loop-seen-preserved
loop-seen-preserved g c =
    let rows = c.args.local.now.queue.rows in
    let order = c.len-seen-end.ensures.queue.in_order in
    let fewer = row_fewer c.loop-seen.after rows c.in-Some.row.now order c.in-Some.ensures in
    record {
      same =
          sym (row_next (λ (row : Row). is_by_other c.args.channel.now row.by) c.loop-seen.after rows c.in-Some.row.now order c.in-Some.ensures (sym c.is_by_other.ensures ∙ c.if-is_by_other.false))
          ∙ c.loop-seen.invariant.same;
      left = omega (arith, fewer, c.loop-seen.invariant.left);
    }
