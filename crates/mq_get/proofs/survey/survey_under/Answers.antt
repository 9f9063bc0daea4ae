use Rattle.std.proofs.Common.{◌≡◌, List, length, ap, subst}
use Rattle.std.specs.Prelude.{option_copied}
use Rattle.mq_queue.specs.declared.row.Row.{Row}
use Rattle.mq_spec_manager.specs.Get.{any_id, persistent_rows}
use Rattle.mq_scan.specs.Scans.{scanned_at}
use Rattle.mq_get.proofs.survey.survey_under.Goals as goal

pub returns-in-None-clause-found : goal.returns-in-None-clause-found
returns-in-None-clause-found g c = ap (λ (rs : List Row). (scanned_at any_id c.args.moment rs).found) c.in-None.ensures

pub returns-in-Some-clause-found : goal.returns-in-Some-clause-found
returns-in-Some-clause-found g c =
    subst (λ (rs : List Row). option_copied c.survey_one.result ≡ (scanned_at any_id c.args.moment rs).found) c.in-Some.ensures c.survey_one.ensures.found

pub returns-in-Some-clause-lasting : goal.returns-in-Some-clause-lasting
returns-in-Some-clause-lasting g c =
    subst (λ (rs : List Row). c.survey_one.new.lasting ≡ length (persistent_rows (scanned_at any_id c.args.moment rs).expired)) c.in-Some.ensures c.survey_one.ensures.lasting
