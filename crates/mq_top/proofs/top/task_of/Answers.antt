use Rattle.std.proofs.Common.{◌∙◌, ap, arith}
use Rattle.std.specs.String.{string_bytes}
use Rattle.mq_top.specs.Wanted.{word_task}
use Rattle.mq_top.proofs.Ending.{one_word}
use Rattle.mq_top.proofs.top.task_of.Goals as goal

pub returns-in-len1-clause-task : goal.returns-in-len1-clause-task
returns-in-len1-clause-task c =
    c.word_task.ensures.task ∙ ap word_task c.as_str.ensures.value ∙ one_word string_bytes c.args.words.now c.word-item.result (omega (arith, c.in-len1.len_at_least)) (omega (arith, c.in-len1.len_below)) c.word-item.is
