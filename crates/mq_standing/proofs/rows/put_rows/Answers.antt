use Rattle.std.proofs.Common.{List, Some, ◌++◌, ap, ◌∙◌, arith}
use Rattle.mq_queue.specs.declared.row.Row.{Row}
use Rattle.mq_place.specs.States.{rows_after}
use Rattle.mq_place.proofs.AfterLaws.{row_fewer}
use Rattle.mq_standing.proofs.StandLaws.{all_after, few_after, put_next, put_none}
use Rattle.mq_standing.proofs.rows.put_rows.Goals as goal

pub loop-seen-init : goal.loop-seen-init
loop-seen-init g c = record {
  same = ap (λ (rs : List Row). c.args.out.now ++ rs) (all_after c.args.local.now.queue.rows);
  left = few_after c.args.local.now.queue.rows;
}

pub returns-in_default : goal.returns-in_default
returns-in_default g c = put_none c.loop-seen.out c.loop-seen.after c.args.local.now.queue.rows c.in_default.ensures ∙ c.loop-seen.invariant.same

pub loop-seen-preserved : goal.loop-seen-preserved
loop-seen-preserved g c =
    let rows = c.args.local.now.queue.rows in
    let row = c.in-Some.row.now in
    let order = c.len-seen-end.ensures.queue.in_order in
    let fewer = row_fewer c.loop-seen.after rows row order c.in-Some.ensures in
    record {
      same =
          ap (λ (rs : List Row). rs ++ rows_after (Some row.place) rows) c.in_ok-put_row.ensures
          ∙ put_next c.loop-seen.out c.loop-seen.after rows row order c.in-Some.ensures
          ∙ c.loop-seen.invariant.same;
      left = omega (arith, fewer, c.loop-seen.invariant.left);
    }
