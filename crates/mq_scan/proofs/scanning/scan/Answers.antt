use Rattle.std.proofs.Common.{sym, ap, ◌∙◌}
use Rattle.std.specs.Prelude.{map, ◌++◌}
use Rattle.mq_spec_manager.specs.Get.{Scan, any_id}
use Rattle.mq_place.specs.States.{rows_after}
use Rattle.mq_scan.specs.Scans.{met_of}
use Rattle.mq_scan.proofs.ScanLaws.{told, asked_under, asked_ids, under_looked, start_looked, if_ok, on_ok}
use Rattle.mq_scan.proofs.scanning.scan.Goals as goal

pub returns-then-is_under-clause-found : goal.returns-then-is_under-clause-found
returns-then-is_under-clause-found g c =
    let get = c.args.get.now in
    let rows = c.args.local.now.queue.rows in
    let under = sym c.is_under.ensures ∙ c.if-is_under.true in
    if_ok c.scan_under.result (λ row found p at. found ∙ sym (ap (λ (s : Scan). s.found) (told get c.args.cursor c.args.moment any_id rows _ (asked_under get under) (under_looked get.take c.args.cursor rows under) p at))) c.scan_under.ensures.found

pub returns-then-is_under-clause-met : goal.returns-then-is_under-clause-met
returns-then-is_under-clause-met g c =
    let get = c.args.get.now in
    let rows = c.args.local.now.queue.rows in
    let under = sym c.is_under.ensures ∙ c.if-is_under.true in
    on_ok c.scan_under.result (λ met p at. met ∙ sym (ap (λ (s : Scan). c.args.met.now ++ map met_of s.expired) (told get c.args.cursor c.args.moment any_id rows _ (asked_under get under) (under_looked get.take c.args.cursor rows under) p at)))
    c.scan_under.ensures.met

pub returns-else-is_under-clause-found : goal.returns-else-is_under-clause-found
returns-else-is_under-clause-found g c =
    let get = c.args.get.now in
    let rows = c.args.local.now.queue.rows in
    let under = sym c.is_under.ensures ∙ c.if-is_under.false in
    let looked = start_looked get.take c.args.cursor rows under ∙ ap (λ a. rows_after a rows) (sym c.start_of.ensures) in
    if_ok c.scan_from.result (λ row found p at. found ∙ sym (ap (λ (s : Scan). s.found) (told get c.args.cursor c.args.moment get.want rows _ (asked_ids get under) looked p at))) c.scan_from.ensures.found

pub returns-else-is_under-clause-met : goal.returns-else-is_under-clause-met
returns-else-is_under-clause-met g c =
    let get = c.args.get.now in
    let rows = c.args.local.now.queue.rows in
    let under = sym c.is_under.ensures ∙ c.if-is_under.false in
    let looked = start_looked get.take c.args.cursor rows under ∙ ap (λ a. rows_after a rows) (sym c.start_of.ensures) in
    on_ok c.scan_from.result (λ met p at. met ∙ sym (ap (λ (s : Scan). c.args.met.now ++ map met_of s.expired) (told get c.args.cursor c.args.moment get.want rows _ (asked_ids get under) looked p at))) c.scan_from.ensures.met
