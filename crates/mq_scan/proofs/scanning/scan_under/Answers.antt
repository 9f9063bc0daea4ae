use Rattle.std.proofs.Common.{◌≡◌, List, ap, subst}
use Rattle.std.specs.Prelude.{IfOk, OnOk, map, option_copied, ◌++◌}
use Rattle.mq_queue.specs.declared.row.Row.{Row}
use Rattle.mq_spec_manager.specs.Get.{any_id}
use Rattle.mq_scan.specs.Scans.{scanned_at, met_of}
use Rattle.mq_scan.proofs.scanning.scan_under.Goals as goal

pub returns-in-None-clause-found : goal.returns-in-None-clause-found
returns-in-None-clause-found g c = ap (λ (rs : List Row). (scanned_at any_id c.args.moment rs).found) c.in-None.ensures

pub returns-in-Some-clause-found : goal.returns-in-Some-clause-found
returns-in-Some-clause-found g c =
    subst (λ (rs : List Row). IfOk c.scan_one.result (λ row. option_copied row ≡ (scanned_at any_id c.args.moment rs).found)) c.in-Some.ensures c.scan_one.ensures.found

pub returns-in-Some-clause-met : goal.returns-in-Some-clause-met
returns-in-Some-clause-met g c =
    subst (λ (rs : List Row). OnOk c.scan_one.result (c.scan_one.new.met ≡ c.args.met.now ++ map met_of (scanned_at any_id c.args.moment rs).expired)) c.in-Some.ensures c.scan_one.ensures.met
