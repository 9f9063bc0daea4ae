use Rattle.std.proofs.Common.{ap, sym, ◌∙◌}
use Rattle.std.specs.List.{list_all}
use Rattle.std.proofs.lemmas.List.Folds.{list_all-map}
use Rattle.mq_calls.specs.declared.records.Add.{Add}
use Rattle.mq_calls.specs.declared.records.LogRecord.{LogRecord}
use Rattle.mq_recover_read.specs.from_spec_log.Applies.{idents_in}
use Rattle.mq_recover.specs.Recovering.{was_given_by}
use Rattle.mq_recover.proofs.bounds.were_given.Goals as goal

pub returns-in-Unit : goal.returns-in-Unit
returns-in-Unit c =
    c.were_added.ensures ∙ ap (list_all (λ (a : Add). was_given_by c.args.manager c.args.incarnation a.message.ident)) c.as_slice.ensures
    ∙ sym (list_all-map (was_given_by c.args.manager c.args.incarnation) (λ (a : Add). a.message.ident) c.in-Unit.adds)
    ∙ ap (λ (r : LogRecord). list_all (was_given_by c.args.manager c.args.incarnation) (idents_in r)) (sym c.in-Unit.is)

pub returns-in-Received : goal.returns-in-Received
returns-in-Received c =
    c.were_added-in-Received.ensures ∙ ap (list_all (λ (a : Add). was_given_by c.args.manager c.args.incarnation a.message.ident)) c.as_slice-in-Received.ensures
    ∙ sym (list_all-map (was_given_by c.args.manager c.args.incarnation) (λ (a : Add). a.message.ident) c.in-Received.adds)
    ∙ ap (λ (r : LogRecord). list_all (was_given_by c.args.manager c.args.incarnation) (idents_in r)) (sym c.in-Received.is)
