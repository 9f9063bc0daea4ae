use Rattle.std.proofs.Common.{List, None, ◌++◌, sym, ap, ◌∙◌, arith}
use Rattle.mq_get.specs.from_scan.{Met}
use Rattle.mq_agents.proofs.ExpireLaws.{past_left, past_start, past_next, past_none, left_start, left_next}
use Rattle.mq_agents.proofs.expiring.past_rows.Goals as goal

pub loop-seen-init : goal.loop-seen-init
loop-seen-init g c = record {
  met = ap (λ (ms : List Met). ms ++ past_left c.args.moment None c.args.local.now.queue.rows) c.new-mets.ensures ∙ past_start c.args.moment c.args.local.now.queue.rows;
  left = left_start c.args.local.now.queue.rows;
}

pub loop-seen-preserved : goal.loop-seen-preserved
loop-seen-preserved g c =
    let rows = c.args.local.now.queue.rows in
    let row = c.in-Some.row.now in
    let order = c.len-len.ensures.queue.in_order in
    let fewer = left_next c.loop-seen.after rows row order c.in-Some.ensures in
    record {
      met = past_next c.loop-seen.mets c.push_if_past.new.mets c.args.moment c.loop-seen.after rows row order c.in-Some.ensures c.in-Ok.ensures ∙ c.loop-seen.invariant.met;
      left = omega (arith, fewer, c.loop-seen.invariant.left);
    }

pub returns-in_default : goal.returns-in_default
returns-in_default g c = sym (past_none c.loop-seen.mets c.args.moment c.loop-seen.after c.args.local.now.queue.rows c.in_default.ensures) ∙ c.loop-seen.invariant.met
