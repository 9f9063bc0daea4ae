use Rattle.mq_handle.proofs.LetterLaws.{letter_dead}
use Rattle.mq_handle.proofs.finding.find_letter.Goals as goal

pub rule_on-requires : goal.rule_on-requires
rule_on-requires g c = record { dead = letter_dead c.input_queue-queue.result c.args.handler.now c.args.core.now.plain c.in-Some.message.now c.in-Some.ensures }
