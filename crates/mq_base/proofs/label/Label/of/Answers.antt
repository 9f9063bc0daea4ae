use Rattle.std.proofs.Common.{sym, ◌∙◌}
use Rattle.mq_base.proofs.Fields.{label_refused}
use Rattle.mq_base.proofs.label.Label.of.Goals as goal

pub returns-in-Err : goal.returns-in-Err
returns-in-Err c = label_refused c.args.text.now c.in-Err.field-0 (sym c.all_label_bytes.ensures ∙ c.if-not-all_label_bytes.false) c.in-Err.ensures
