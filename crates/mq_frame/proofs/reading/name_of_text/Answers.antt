use Rattle.std.proofs.Common.{sym, ◌∙◌}
use Rattle.mq_frame.proofs.Names.{blank_err}
use Rattle.mq_frame.proofs.reading.name_of_text.Goals as goal

pub returns-in-Err : goal.returns-in-Err
returns-in-Err c = c.blank.ensures ∙ sym (blank_err c.args.text.now c.in-Err.field-0 c.requires (sym c.of.ensures ∙ c.in-Err.is))
