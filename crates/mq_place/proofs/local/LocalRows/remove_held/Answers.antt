use Rattle.std.proofs.Common.{List, refl, sym, ap, length, ◌∙◌, arith}
use Rattle.mq_queue.specs.declared.row.Row.{Row}
use Rattle.mq_queue.specs.Rows.{keep}
use Rattle.mq_place.specs.States.{QueueState, is_other_row, on_rows}
use Rattle.mq_place.proofs.HeldLaws.{count_held, held_start, only, other_once, kept_less, none_leave, none_counted}
use Rattle.mq_place.proofs.local.LocalRows.remove_held.Goals as goal

pub loop-seen-init : goal.loop-seen-init
loop-seen-init g c = record { same = refl; left = held_start c.args.by.now c.args.self.now.queue.rows }

pub loop-seen-preserved : goal.loop-seen-preserved
loop-seen-preserved g c =
    let by = c.args.by.now in
    let ident = c.in-Some.row.now.message.ident in
    let rows = c.loop-seen.self.queue.rows in
    let any = c.in-Some.ensures.some in
    let next = c.remove-message.ensures.rows in
    let once = other_once by ident rows (only by ident rows c.any_held.ensures.distinct any) in
    let fewer = kept_less by ident rows any in
    let count = ap (λ (s : QueueState). count_held by s.queue.rows) next in
    record {
      same =
          ap (on_rows (keep (is_other_row by))) next
          ∙ ap (λ (rs : List Row). on_rows (λ (old : List Row). rs) c.loop-seen.self) once
          ∙ c.loop-seen.invariant.same;
      left = omega (arith, count, fewer, c.loop-seen.invariant.left);
    }

pub returns-in_default : goal.returns-in_default
returns-in_default g c =
    let none = none_leave c.args.by.now c.loop-seen.self.queue.rows (c.in_default.ensures.none refl) in
    sym (ap (λ (rs : List Row). on_rows (λ (old : List Row). rs) c.loop-seen.self) none) ∙ c.loop-seen.invariant.same

pub returns : goal.returns
returns g c =
    let none =
    none_leave c.args.by.now c.loop-seen.self.queue.rows
    (none_counted c.args.by.now c.loop-seen.self.queue.rows c.loop-seen.seen (length c.args.self.now.queue.rows) c.loop-seen.invariant.left (omega (arith, c.loop-seen-test.false, c.len-seen-end.ensures.len)))
    in
    sym (ap (λ (rs : List Row). on_rows (λ (old : List Row). rs) c.loop-seen.self) none) ∙ c.loop-seen.invariant.same
