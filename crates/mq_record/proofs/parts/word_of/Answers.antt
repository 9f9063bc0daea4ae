use Rattle.std.proofs.Common.{sym, ◌∙◌}
use Rattle.mq_record.proofs.WordLaws.{word_at, word_whole}
use Rattle.mq_record.proofs.parts.word_of.Goals as goal

pub returns-in-Some : goal.returns-in-Some
returns-in-Some c = c.split_at.ensures.front ∙ word_at c.args.field.now c.in-Some.place (sym c.first_blank.ensures ∙ c.in-Some.is)

pub returns-in-None : goal.returns-in-None
returns-in-None c = word_whole c.args.field.now (sym c.first_blank.ensures ∙ c.in-None.is)
