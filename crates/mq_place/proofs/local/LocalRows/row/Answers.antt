use Rattle.std.proofs.Common.{sym, ap, length, ◌∙◌, arith}
use Rattle.std.specs.Prelude.{find}
use Rattle.mq_queue.specs.Rows.{has_ident}
use Rattle.mq_place.proofs.AfterLaws.{rows_from_front, row_here, row_next, row_fewer, row_none}
use Rattle.mq_place.proofs.local.LocalRows.row.Goals as goal

pub loop-seen-init : goal.loop-seen-init
loop-seen-init g c =
    let front = rows_from_front c.args.self.now.queue.rows in
    record { same = ap (find (has_ident c.args.ident.now)) front; left = omega (arith, ap length front) }

pub returns-in_default : goal.returns-in_default
returns-in_default g c = sym (row_none (has_ident c.args.ident.now) c.loop-seen.after c.args.self.now.queue.rows c.in_default.ensures) ∙ c.loop-seen.invariant.same

pub returns-then-has_ident : goal.returns-then-has_ident
returns-then-has_ident g c =
    sym (row_here (has_ident c.args.ident.now) c.loop-seen.after c.args.self.now.queue.rows c.in-Some.row.now c.len-seen-end.ensures.queue.in_order c.in-Some.ensures (sym c.has_ident.ensures ∙ c.if-has_ident.true))
    ∙ c.loop-seen.invariant.same

pub loop-seen-preserved : goal.loop-seen-preserved
loop-seen-preserved g c =
    let rows = c.args.self.now.queue.rows in
    let order = c.len-seen-end.ensures.queue.in_order in
    let fewer = row_fewer c.loop-seen.after rows c.in-Some.row.now order c.in-Some.ensures in
    record {
      same =
          sym (row_next (has_ident c.args.ident.now) c.loop-seen.after rows c.in-Some.row.now order c.in-Some.ensures (sym c.has_ident.ensures ∙ c.if-has_ident.false))
          ∙ c.loop-seen.invariant.same;
      left = omega (arith, fewer, c.loop-seen.invariant.left);
    }
