use Rattle.std.proofs.Common.{length, refl, sym, ap, ◌∙◌, arith}
use Rattle.std.specs.Prelude.{Some}
use Rattle.mq_queue.specs.Rows.{is_after}
use Rattle.mq_queue.proofs.QueueLaws.{length_kept}
use Rattle.mq_spec_manager.specs.Words.{Scan, persistent_rows}
use Rattle.mq_scan.proofs.ScanLaws.{scan_after, no_more, met_next, found_here, left_fewer, scan_end}
use Rattle.mq_get.proofs.SurveyLaws.{count_next, count_one}
use Rattle.mq_get.proofs.survey.survey_from.Goals as goal

pub loop-seen-init : goal.loop-seen-init
loop-seen-init g c = record { found = refl; count = omega (arith, c.requires); left = omega (arith, length_kept (is_after c.args.start) c.args.local.now.queue.rows); small = omega (arith, c.requires) }

pub returns-in_default-clause-found : goal.returns-in_default-clause-found
returns-in_default-clause-found g c = sym (ap (λ (s : Scan). s.found) (no_more c.args.want.now c.args.moment c.loop-seen.after c.args.local.now.queue.rows c.in_default.ensures)) ∙ c.loop-seen.invariant.found

pub returns-in_default-clause-lasting : goal.returns-in_default-clause-lasting
returns-in_default-clause-lasting g c =
    let none = ap (λ (s : Scan). length (persistent_rows s.expired)) (no_more c.args.want.now c.args.moment c.loop-seen.after c.args.local.now.queue.rows c.in_default.ensures) in
    omega (arith, none, c.loop-seen.invariant.count)

pub returns-then-not-is_past-clause-found : goal.returns-then-not-is_past-clause-found
returns-then-not-is_past-clause-found g c =
    sym (ap (λ (s : Scan). s.found) (found_here c.args.want.now c.args.moment c.loop-seen.after c.args.local.now.queue.rows c.in-Some.row.now c.len-seen-end.ensures.queue.in_order c.in-Some.ensures (sym c.is_past.ensures ∙ c.if-not-is_past.true)))
    ∙ c.loop-seen.invariant.found

pub returns-then-not-is_past-clause-lasting : goal.returns-then-not-is_past-clause-lasting
returns-then-not-is_past-clause-lasting g c =
    let none = ap (λ (s : Scan). length (persistent_rows s.expired)) (found_here c.args.want.now c.args.moment c.loop-seen.after c.args.local.now.queue.rows c.in-Some.row.now c.len-seen-end.ensures.queue.in_order c.in-Some.ensures (sym c.is_past.ensures ∙ c.if-not-is_past.true)) in
    omega (arith, none, c.loop-seen.invariant.count)

pub count_lasting-requires : goal.count_lasting-requires
count_lasting-requires g c = omega (arith, c.loop-seen.invariant.small, c.loop-seen-test.true, c.loop-seen.auto.seen-end, c.len-seen-end.ensures.len, c.len-seen-end.ensures.counted)

pub loop-seen-preserved : goal.loop-seen-preserved
loop-seen-preserved g c =
    let row = c.in-Some.row.now in
    let order = c.len-seen-end.ensures.queue.in_order in
    let rows = c.args.local.now.queue.rows in
    let next = met_next c.args.want.now c.args.moment c.loop-seen.after c.args.local.now.queue.rows row order c.in-Some.ensures (sym c.is_past.ensures ∙ c.if-not-is_past.false) in
    let fewer = left_fewer c.args.want.now c.args.moment c.loop-seen.after c.args.local.now.queue.rows row order c.in-Some.ensures in
    let one = count_one row in
    record {
      found = sym (ap (λ (s : Scan). s.found) next) ∙ c.loop-seen.invariant.found;
      count = count_next _ _ 0 _ row (scan_after c.args.want.now c.args.moment (Some row.place) rows).expired _ (ap (λ (s : Scan). s.expired) next) c.count_lasting.ensures c.loop-seen.invariant.count;
      left = omega (arith, fewer, c.loop-seen.invariant.left);
      small = omega (arith, one, c.count_lasting.ensures, c.loop-seen.invariant.small);
    }

pub returns-clause-found : goal.returns-clause-found
returns-clause-found g c =
    sym (ap (λ (s : Scan). s.found) (scan_end c.args.want.now c.args.moment c.loop-seen.after c.args.local.now.queue.rows c.loop-seen.seen c.loop-seen.invariant.left (omega (arith, c.loop-seen-test.false, c.loop-seen.auto.seen-end, c.len-seen-end.ensures.len))))
    ∙ c.loop-seen.invariant.found

pub returns-clause-lasting : goal.returns-clause-lasting
returns-clause-lasting g c =
    let none = ap (λ (s : Scan). length (persistent_rows s.expired)) (scan_end c.args.want.now c.args.moment c.loop-seen.after c.args.local.now.queue.rows c.loop-seen.seen c.loop-seen.invariant.left (omega (arith, c.loop-seen-test.false, c.loop-seen.auto.seen-end, c.len-seen-end.ensures.len))) in
    omega (arith, none, c.loop-seen.invariant.count)
