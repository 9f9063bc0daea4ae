use Rattle.std.proofs.Common.{◌∙◌, length, sym, ap}
use Rattle.mq_spec_manager.specs.Words.{Scan, any_id, persistent_rows}
use Rattle.mq_core.specs.from_place.States.{rows_after}
use Rattle.mq_scan.proofs.ScanLaws.{told, asked_under, asked_ids, under_looked, start_looked}
use Rattle.mq_get.proofs.survey.survey.Goals as goal

pub returns-then-is_under-clause-found : goal.returns-then-is_under-clause-found
returns-then-is_under-clause-found g c p at =
    let get = c.args.get.now in
    let rows = c.args.local.now.queue.rows in
    let under = sym c.is_under.ensures ∙ c.if-is_under.true in
    c.survey_under.ensures.found ∙ sym (ap (λ (s : Scan). s.found) (told get c.args.cursor c.args.moment any_id rows _ (asked_under get under) (under_looked get.take c.args.cursor rows under) p at))

pub returns-then-is_under-clause-lasting : goal.returns-then-is_under-clause-lasting
returns-then-is_under-clause-lasting g c p at =
    let get = c.args.get.now in
    let rows = c.args.local.now.queue.rows in
    let under = sym c.is_under.ensures ∙ c.if-is_under.true in
    c.survey_under.ensures.lasting ∙ sym (ap (λ (s : Scan). length (persistent_rows s.expired)) (told get c.args.cursor c.args.moment any_id rows _ (asked_under get under) (under_looked get.take c.args.cursor rows under) p at))

pub returns-else-is_under-clause-found : goal.returns-else-is_under-clause-found
returns-else-is_under-clause-found g c p at =
    let get = c.args.get.now in
    let rows = c.args.local.now.queue.rows in
    let under = sym c.is_under.ensures ∙ c.if-is_under.false in
    let looked = start_looked get.take c.args.cursor rows under ∙ ap (λ a. rows_after a rows) (sym c.start_of.ensures) in
    c.survey_from.ensures.found ∙ sym (ap (λ (s : Scan). s.found) (told get c.args.cursor c.args.moment get.want rows _ (asked_ids get under) looked p at))

pub returns-else-is_under-clause-lasting : goal.returns-else-is_under-clause-lasting
returns-else-is_under-clause-lasting g c p at =
    let get = c.args.get.now in
    let rows = c.args.local.now.queue.rows in
    let under = sym c.is_under.ensures ∙ c.if-is_under.false in
    let looked = start_looked get.take c.args.cursor rows under ∙ ap (λ a. rows_after a rows) (sym c.start_of.ensures) in
    c.survey_from.ensures.lasting ∙ sym (ap (λ (s : Scan). length (persistent_rows s.expired)) (told get c.args.cursor c.args.moment get.want rows _ (asked_ids get under) looked p at))
