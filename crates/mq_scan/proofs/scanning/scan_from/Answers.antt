use Rattle.std.proofs.Common.{refl, sym, ap, ◌∙◌, arith}
use Rattle.std.specs.Prelude.{Some}
use Rattle.mq_queue.specs.Rows.{is_after}
use Rattle.mq_queue.proofs.QueueLaws.{length_kept}
use Rattle.mq_spec_manager.specs.Get.{Scan}
use Rattle.mq_place.proofs.TestLaws.{ok_of}
use Rattle.mq_scan.proofs.ScanLaws.{scan_after, no_more, met_next, found_here, left_fewer, scan_end, met_more, met_all}
use Rattle.mq_scan.proofs.scanning.scan_from.Goals as goal

pub loop-seen-init : goal.loop-seen-init
loop-seen-init g c = record { found = refl; met = refl; left = omega (arith, length_kept (is_after c.args.start) c.args.local.now.queue.rows) }

pub returns-in_default-clause-found : goal.returns-in_default-clause-found
returns-in_default-clause-found g c = sym (ap (λ (s : Scan). s.found) (no_more c.args.want.now c.args.moment c.loop-seen.after c.args.local.now.queue.rows c.in_default.ensures)) ∙ c.loop-seen.invariant.found

pub returns-in_default-clause-met : goal.returns-in_default-clause-met
returns-in_default-clause-met g c = met_all c.loop-seen.met _ (scan_after c.args.want.now c.args.moment c.loop-seen.after c.args.local.now.queue.rows) (ap (λ (s : Scan). s.expired) (no_more c.args.want.now c.args.moment c.loop-seen.after c.args.local.now.queue.rows c.in_default.ensures)) c.loop-seen.invariant.met

pub returns-then-not-is_past-clause-found : goal.returns-then-not-is_past-clause-found
returns-then-not-is_past-clause-found g c =
    sym (ap (λ (s : Scan). s.found) (found_here c.args.want.now c.args.moment c.loop-seen.after c.args.local.now.queue.rows c.in-Some.row.now c.len-seen-end.ensures.queue.in_order c.in-Some.ensures (sym c.is_past.ensures ∙ c.if-not-is_past.true)))
    ∙ c.loop-seen.invariant.found

pub returns-then-not-is_past-clause-met : goal.returns-then-not-is_past-clause-met
returns-then-not-is_past-clause-met g c =
    met_all c.loop-seen.met _ (scan_after c.args.want.now c.args.moment c.loop-seen.after c.args.local.now.queue.rows)
    (ap (λ (s : Scan). s.expired) (found_here c.args.want.now c.args.moment c.loop-seen.after c.args.local.now.queue.rows c.in-Some.row.now c.len-seen-end.ensures.queue.in_order c.in-Some.ensures (sym c.is_past.ensures ∙ c.if-not-is_past.true))) c.loop-seen.invariant.met

pub loop-seen-preserved : goal.loop-seen-preserved
loop-seen-preserved g c =
    let row = c.in-Some.row.now in
    let order = c.len-seen-end.ensures.queue.in_order in
    let rows = c.args.local.now.queue.rows in
    let next = met_next c.args.want.now c.args.moment c.loop-seen.after c.args.local.now.queue.rows row order c.in-Some.ensures (sym c.is_past.ensures ∙ c.if-not-is_past.false) in
    let fewer = left_fewer c.args.want.now c.args.moment c.loop-seen.after c.args.local.now.queue.rows row order c.in-Some.ensures in
    let pushed = ok_of c.push.result (sym c.is_err.ensures.value ∙ c.if-is_err.false) c.push.ensures.ok in
    record {
      found = sym (ap (λ (s : Scan). s.found) next) ∙ c.loop-seen.invariant.found;
      met =
          met_more c.loop-seen.met c.push.new.self c.of.result row (scan_after c.args.want.now c.args.moment c.loop-seen.after c.args.local.now.queue.rows) (scan_after c.args.want.now c.args.moment (Some row.place) rows) pushed c.of.ensures next
          ∙ c.loop-seen.invariant.met;
      left = omega (arith, fewer, c.loop-seen.invariant.left);
    }

pub returns-clause-found : goal.returns-clause-found
returns-clause-found g c =
    sym (ap (λ (s : Scan). s.found) (scan_end c.args.want.now c.args.moment c.loop-seen.after c.args.local.now.queue.rows c.loop-seen.seen c.loop-seen.invariant.left (omega (arith, c.loop-seen-test.false, c.loop-seen.auto.seen-end, c.len-seen-end.ensures.len))))
    ∙ c.loop-seen.invariant.found

pub returns-clause-met : goal.returns-clause-met
returns-clause-met g c =
    met_all c.loop-seen.met _ (scan_after c.args.want.now c.args.moment c.loop-seen.after c.args.local.now.queue.rows)
    (ap (λ (s : Scan). s.expired) (scan_end c.args.want.now c.args.moment c.loop-seen.after c.args.local.now.queue.rows c.loop-seen.seen c.loop-seen.invariant.left (omega (arith, c.loop-seen-test.false, c.loop-seen.auto.seen-end, c.len-seen-end.ensures.len)))) c.loop-seen.invariant.met
